-- Up to the first 0A.
use Rattle.std.proofs.Common.{[], refl, subst}
use Rattle.std.proofs.lemmas.List.{take_rest}
use Rattle.memchr.specs.Find.{IsFirstByte, is_byte}
use Rattle.text_io.proofs.Cutting.{cut_first, cut_none}
use Rattle.text_io.proofs.input.split_line.Goals as goal

pub returns-in-Some-clause-lines : goal.returns-in-Some-clause-lines
returns-in-Some-clause-lines c = rw take_rest (cut_first 10 [] _ _ (subst (IsFirstByte (is_byte 10) c.args.input.now) c.in-Some.is c.memchr.ensures))

pub returns-in-None-clause-lines : goal.returns-in-None-clause-lines
returns-in-None-clause-lines c = cut_none 10 [] (λ x. refl) _ c.requires (subst (IsFirstByte (is_byte 10) c.args.input.now) c.in-None.is c.memchr.ensures)
