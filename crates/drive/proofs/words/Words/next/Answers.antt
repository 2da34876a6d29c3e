-- Up to the first blank.
use Rattle.std.proofs.Common.{subst}
use Rattle.std.proofs.lemmas.List.{take_rest}
use Rattle.memchr.specs.Find.{IsFirstByte, is_byte}
use Rattle.drive.proofs.Cut.{next_word, last_word}
use Rattle.drive.proofs.words.Words.next.Goals as goal

pub returns-in-Some : goal.returns-in-Some
returns-in-Some c = rw take_rest (next_word c.self.inside.is_done c.self.inside.rest.now c.args.self.now c.in-Some.end c.if-self.false c.self.view_is (subst (IsFirstByte (is_byte 32) c.self.inside.rest.now) c.in-Some.is c.memchr.ensures))

pub returns-in-None : goal.returns-in-None
returns-in-None c = last_word c.self.inside.is_done c.self.inside.rest.now c.args.self.now c.if-self.false c.self.view_is (subst (IsFirstByte (is_byte 32) c.self.inside.rest.now) c.in-None.is c.memchr.ensures)
