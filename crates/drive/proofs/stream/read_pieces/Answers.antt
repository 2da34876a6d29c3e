-- The piece of the line behind the others.
use Rattle.std.proofs.Common.{arith}
use Rattle.drive.proofs.Streams.{one_line, whole_more}
use Rattle.drive.proofs.stream.read_pieces.Goals as goal

pub loop-rest-preserved : goal.loop-rest-preserved
loop-rest-preserved c = record {
  spells = one_line c.args.input.now _ _ _ _ c.loop-rest.number c.loop-rest.rest.now _ c.split_line.result.1.now _ c.loop-rest.invariant.whole c.in-Ok.ensures.ok c.in_ok-push-in-Ok.ensures.items c.loop-rest.invariant.spells c.split_line.ensures.lines;
  whole = whole_more _ _ _ _ _ _ c.loop-rest.invariant.whole c.in-Ok.ensures.ok c.in_ok-push-in-Ok.ensures.items;
  few = let fewer = c.split_line.ensures.fewer in let few = c.loop-rest.invariant.few in omega (arith, fewer, few);
}
