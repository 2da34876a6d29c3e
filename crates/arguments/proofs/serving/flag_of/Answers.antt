-- The value of the option is the word of a flag, or of none.
use Rattle.std.proofs.Common.{◌≡◌, ◌∙◌, Bool, None, Some, ap, codes, rules, sym}
use Rattle.clap.specs.Words.{Text, found_of, first_value}
use Rattle.arguments.specs.CommandLine.{flag_word}
use Rattle.arguments.proofs.Read.{first_is}
use Rattle.arguments.proofs.Values.{no_flag_word, same_text}
use Rattle.arguments.proofs.serving.flag_of.Goals as goal

pub returns-in_err-get_str : goal.returns-in_err-get_str
returns-in_err-get_str c =
    let found = found_of c.args.options.now in
    let none : None ≡ first_value found c.args.id.now = c.in_err-get_str.ensures in
    rw c.from_residual.ensures (λ (given : Bool) is.
    let bad : None ≡ Some (flag_word given) = none ∙ sym (first_is found c.args.id.now) ∙ is in
    cc)

pub returns-in-true : goal.returns-in-true
returns-in-true c =
    let found = found_of c.args.options.now in
    let word : c.in_ok-get_str.field-0.now ≡ codes "true" = search rules in
    let value : Some c.in_ok-get_str.field-0.now ≡ first_value found c.args.id.now = c.in_ok-get_str.ensures in
    first_is found c.args.id.now ∙ sym value ∙ ap (λ (text : Text). Some text) word

pub returns-in-false : goal.returns-in-false
returns-in-false c =
    let found = found_of c.args.options.now in
    let word : c.in_ok-get_str.field-0.now ≡ codes "false" = search rules in
    let value : Some c.in_ok-get_str.field-0.now ≡ first_value found c.args.id.now = c.in_ok-get_str.ensures in
    first_is found c.args.id.now ∙ sym value ∙ ap (λ (text : Text). Some text) word

pub returns-in_default : goal.returns-in_default
returns-in_default c =
    let found = found_of c.args.options.now in
    let no_true : c.in_ok-get_str.field-0.now ≡ codes "true" → ⊥ = search rules in
    let no_false : c.in_ok-get_str.field-0.now ≡ codes "false" → ⊥ = search rules in
    let value : Some c.in_ok-get_str.field-0.now ≡ first_value found c.args.id.now = c.in_ok-get_str.ensures in
    (λ (given : Bool) is. no_flag_word given _ no_true no_false (same_text _ _ _ (first_is found c.args.id.now ∙ sym value) is))
