-- The value of the option is the word, or no service has it.
use Rattle.std.proofs.Common.{◌≡◌, ◌∙◌, None, Some, ap, codes, rules, sym}
use Rattle.clap.specs.Words.{Text, found_of, first_value}
use Rattle.arguments.specs.CommandLine.{word_of}
use Rattle.arguments.proofs.Read.{first_is}
use Rattle.arguments.proofs.Values.{neither_word, same_text}
use Rattle.arguments.proofs.serving.until_of.Goals as goal

pub returns-in_err-get_str : goal.returns-in_err-get_str
returns-in_err-get_str c =
    let found = found_of c.args.options.now in
    let none : None ≡ first_value found (codes "until") = c.in_err-get_str.ensures in
    rw c.from_residual.ensures (λ service by.
    let bad : None ≡ Some (word_of service.until) = none ∙ sym (first_is found (codes "until")) ∙ by.until in
    cc)

pub returns-in-stdin : goal.returns-in-stdin
returns-in-stdin c =
    let found = found_of c.args.options.now in
    let word : c.in_ok-get_str.field-0.now ≡ codes "stdin" = search rules in
    let value : Some c.in_ok-get_str.field-0.now ≡ first_value found (codes "until") = c.in_ok-get_str.ensures in
    first_is found (codes "until") ∙ sym value ∙ ap (λ (text : Text). Some text) word

pub returns-in-killed : goal.returns-in-killed
returns-in-killed c =
    let found = found_of c.args.options.now in
    let word : c.in_ok-get_str.field-0.now ≡ codes "killed" = search rules in
    let value : Some c.in_ok-get_str.field-0.now ≡ first_value found (codes "until") = c.in_ok-get_str.ensures in
    first_is found (codes "until") ∙ sym value ∙ ap (λ (text : Text). Some text) word

pub returns-in_default : goal.returns-in_default
returns-in_default c =
    let found = found_of c.args.options.now in
    let no_stdin : c.in_ok-get_str.field-0.now ≡ codes "stdin" → ⊥ = search rules in
    let no_killed : c.in_ok-get_str.field-0.now ≡ codes "killed" → ⊥ = search rules in
    let value : Some c.in_ok-get_str.field-0.now ≡ first_value found (codes "until") = c.in_ok-get_str.ensures in
    (λ service by. neither_word service.until _ no_stdin no_killed (same_text _ _ _ (first_is found (codes "until") ∙ sym value) by.until))
