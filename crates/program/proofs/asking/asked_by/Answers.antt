-- What clap found in the words is answered.
use Rattle.std.proofs.Common.{◌≡◌, ◌⊎◌, map, string_bytes, subst}
use Rattle.clap.specs.Values.{kind_of}
use Rattle.clap.specs.declared.error.kind.ErrorKind.TheVariants as kinds
use Rattle.arguments.specs.CommandLine.{SpellNoRequest}
use Rattle.program.proofs.Answering.{answers}
use Rattle.program.proofs.asking.asked_by.Goals as goal

pub returns-in-Ok : goal.returns-in-Ok
returns-in-Ok c =
    let kind = kind_of c.in-Err-arguments.error in
    answers c.args.words _ c.in-Ok.words kind c.answer.result c.in-Ok.is
    (subst (λ words. (kind ≡ kinds.OutOfMemory) ⊎ SpellNoRequest (map string_bytes words) kind) c.deref.ensures.value c.in-Err-arguments.ensures.err)
    c.answer.ensures.ok c.answer.ensures.err
