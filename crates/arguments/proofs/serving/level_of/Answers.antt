-- The value of the option is a level's word, or no service has it.
use Rattle.std.proofs.Common.{◌≡◌, ◌∙◌, None, Some, ap, codes, rules, sym}
use Rattle.clap.specs.Words.{Text, found_of, first_value}
use Rattle.arguments.specs.CommandLine.{level_word}
use Rattle.arguments.proofs.Read.{first_is}
use Rattle.arguments.proofs.Values.{no_level_word, same_text}
use Rattle.arguments.proofs.serving.level_of.Goals as goal

pub returns-in_err-get_str : goal.returns-in_err-get_str
returns-in_err-get_str c =
    let found = found_of c.args.options.now in
    let none : None ≡ first_value found (codes "log") = c.in_err-get_str.ensures in
    rw c.from_residual.ensures (λ service by.
    let bad : None ≡ Some (level_word service.log) = none ∙ sym (first_is found (codes "log")) ∙ by.log in
    cc)

pub returns-in-off : goal.returns-in-off
returns-in-off c =
    let found = found_of c.args.options.now in
    let word : c.in_ok-get_str.field-0.now ≡ codes "off" = search rules in
    let value : Some c.in_ok-get_str.field-0.now ≡ first_value found (codes "log") = c.in_ok-get_str.ensures in
    first_is found (codes "log") ∙ sym value ∙ ap (λ (text : Text). Some text) word

pub returns-in-error : goal.returns-in-error
returns-in-error c =
    let found = found_of c.args.options.now in
    let word : c.in_ok-get_str.field-0.now ≡ codes "error" = search rules in
    let value : Some c.in_ok-get_str.field-0.now ≡ first_value found (codes "log") = c.in_ok-get_str.ensures in
    first_is found (codes "log") ∙ sym value ∙ ap (λ (text : Text). Some text) word

pub returns-in-info : goal.returns-in-info
returns-in-info c =
    let found = found_of c.args.options.now in
    let word : c.in_ok-get_str.field-0.now ≡ codes "info" = search rules in
    let value : Some c.in_ok-get_str.field-0.now ≡ first_value found (codes "log") = c.in_ok-get_str.ensures in
    first_is found (codes "log") ∙ sym value ∙ ap (λ (text : Text). Some text) word

pub returns-in-debug : goal.returns-in-debug
returns-in-debug c =
    let found = found_of c.args.options.now in
    let word : c.in_ok-get_str.field-0.now ≡ codes "debug" = search rules in
    let value : Some c.in_ok-get_str.field-0.now ≡ first_value found (codes "log") = c.in_ok-get_str.ensures in
    first_is found (codes "log") ∙ sym value ∙ ap (λ (text : Text). Some text) word

pub returns-in_default : goal.returns-in_default
returns-in_default c =
    let found = found_of c.args.options.now in
    let no_off : c.in_ok-get_str.field-0.now ≡ codes "off" → ⊥ = search rules in
    let no_error : c.in_ok-get_str.field-0.now ≡ codes "error" → ⊥ = search rules in
    let no_info : c.in_ok-get_str.field-0.now ≡ codes "info" → ⊥ = search rules in
    let no_debug : c.in_ok-get_str.field-0.now ≡ codes "debug" → ⊥ = search rules in
    let value : Some c.in_ok-get_str.field-0.now ≡ first_value found (codes "log") = c.in_ok-get_str.ensures in
    (λ service by. no_level_word service.log _ no_off no_error no_info no_debug (same_text _ _ _ (first_is found (codes "log") ∙ sym value) by.log))
