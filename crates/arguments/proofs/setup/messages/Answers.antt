use Rattle.std.proofs.Common.{◌∙◌, ◌≡◌, codes, subst, sym}
use Rattle.std.specs.Str.Parse.{ExplainsUnsignedError, HasUnsignedDigitsIfOk, ParsesUnsigned}
use Rattle.clap.specs.Words.{found_of, rows_of}
use Rattle.arguments.specs.Options.{HaveCapacity}
use Rattle.arguments.proofs.Read.{number_read, one_is}
use Rattle.arguments.proofs.setup.messages.Goals as goal

pub returns : goal.returns
returns c =
    let found = found_of c.args.options.now in
    let number = c.requires.0 in
    let asked = c.requires.1 in
    let read = c.get_one.ensures.value asked.text (sym (one_is found (codes "capacity")) ∙ asked.value) in
    let capacity : c.unwrap_or.result ≡ number = c.unwrap_or.ensures
    ∙ number_read (λ bs r. ParsesUnsigned 32 10 bs r × ExplainsUnsignedError 10 bs r × HasUnsignedDigitsIfOk bs r) asked.text number 1024 c.get_one.result read (λ u x g. g.0) asked.spelled asked.to in
    subst (HaveCapacity (rows_of found)) (sym capacity) asked
