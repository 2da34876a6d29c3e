use Rattle.std.proofs.Common.{◌<◌, vec_len}
use Rattle.std.specs.Io.KnownBytes.{Consumes}
use Rattle.text_io.proofs.input.read_all.Given as goal

-- what was read is what the reader had in front
abbrev pub invariant-loop : goal.invariant-loop
invariant-loop g l = record {
  room : 0 < vec_len l.piece;
  read : Consumes (g.R.Read.remaining l.initial.reader) (g.R.Read.remaining l.reader) l.input.items;
}
