-- The line was written, or a beginning of it.
use Rattle.std.proofs.Common.{subst, sym}
use Rattle.std.specs.Prelude.{ℕ, IfSome, OnErr, OnOk}
use Rattle.std.specs.Io.KnownBytes.{Appends}
use Rattle.text_io.specs.Passing.{Begins}
use Rattle.broker_log.specs.Lines.{IsLineOf}
use Rattle.broker_log.proofs.Logging.{begun_by, logged_by}
use Rattle.broker_log.proofs.writing.write_line.Goals as goal

pub returns-in-Ok-Some-clause-whole : goal.returns-in-Ok-Some-clause-whole
returns-in-Ok-Some-clause-whole g c =
    let old = g.W.Write.contents c.args.errors.now in
    let new = g.W.Write.contents c.write_all.new.writer in
    let line = c.in-Ok-Some.bytes.items in
    let its : IsLineOf c.level.result line = subst (λ shown. IfSome shown (λ bytes. IsLineOf c.level.result bytes.items)) c.in-Ok-Some.field-0-is c.in-Ok-Some.ensures in
    logged_by c.args.log.now line old new c.write_all.result c.is_ok.result c.is_ok.ensures.value
    (subst (λ level. IsLineOf level line) c.level.ensures its)
    (subst (λ text. OnOk c.write_all.result (Appends old new text)) c.deref.ensures.value c.write_all.ensures.ok)

pub returns-in-Ok-Some-clause-begun : goal.returns-in-Ok-Some-clause-begun
returns-in-Ok-Some-clause-begun g c =
    let old = g.W.Write.contents c.args.errors.now in
    let new = g.W.Write.contents c.write_all.new.writer in
    let line = c.in-Ok-Some.bytes.items in
    let its : IsLineOf c.level.result line = subst (λ shown. IfSome shown (λ bytes. IsLineOf c.level.result bytes.items)) c.in-Ok-Some.field-0-is c.in-Ok-Some.ensures in
    begun_by c.args.log.now line old new c.write_all.result
    (subst (λ level. IsLineOf level line) c.level.ensures its)
    (subst (λ text. OnOk c.write_all.result (Appends old new text)) c.deref.ensures.value c.write_all.ensures.ok)
    (subst (λ text. OnErr c.write_all.result (Begins old new text)) c.deref.ensures.value c.write_all.ensures.err)
