-- The path is the value of the option, or there is none.
use Rattle.std.proofs.Common.{◌∙◌, Some, ap, codes, sym}
use Rattle.clap.specs.Words.{Text, found_of}
use Rattle.arguments.proofs.Read.{first_is}
use Rattle.arguments.proofs.serving.users_of.Goals as goal

pub returns-in_ok-new-in-Some : goal.returns-in_ok-new-in-Some
returns-in_ok-new-in-Some c =
    first_is (found_of c.args.options.now) (codes "users") ∙ sym c.in-Some.ensures ∙ ap (λ (text : Text). Some text) (sym c.in_ok-new-in-Some.ensures)

pub returns-in-None : goal.returns-in-None
returns-in-None c = first_is (found_of c.args.options.now) (codes "users") ∙ sym c.in-None.ensures
