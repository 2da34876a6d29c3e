-- What the words tell is a user's line, and where they tell none there is none.
use Rattle.std.proofs.Common.{◌≡◌, ◌∙◌, None, Some, ap, codes, inr, sym}
use Rattle.clap.specs.Words.{Text, first_of, found_of, rows_of}
use Rattle.users.specs.Lines.{is_user_name}
use Rattle.arguments.proofs.Read.{first_is}
use Rattle.arguments.proofs.Values.{name_kept, name_refused, same_text}
use Rattle.arguments.proofs.hashing.password_of.Goals as goal

pub returns-in_default-clause-err : goal.returns-in_default-clause-err
returns-in_default-clause-err c = inr (c.in_ok-wrong.ensures, λ password by. c.in_default.ensures password.iterations by.iterations)

pub returns-in_default-get_str-clause-err : goal.returns-in_default-get_str-clause-err
returns-in_default-get_str-clause-err c =
    let found = found_of c.args.options.now in
    inr (
      c.in_ok-wrong-2.ensures,
      λ password by.
          let bad : None ≡ Some password.name = c.in_default-get_str.ensures ∙ sym (first_is found (codes "name")) ∙ by.name in
          cc,
    )

pub returns-in-Some-2-clause-ok : goal.returns-in-Some-2-clause-ok
returns-in-Some-2-clause-ok c =
    let found = found_of c.args.options.now in
    let kept = name_kept c.in-Some-get_str.text.now c.in-Some-2.name (sym c.in-Some-2.is ∙ c.in_ok-name.ensures) in
    record {
      name = first_is found (codes "name") ∙ sym c.in-Some-get_str.ensures ∙ ap (λ (text : Text). Some text) (sym kept.1);
      valid = ap is_user_name kept.1 ∙ kept.0;
      iterations = c.in-Some.ensures;
    }

pub returns-in_ok-wrong_name-in-None-clause-err : goal.returns-in_ok-wrong_name-in-None-clause-err
returns-in_ok-wrong_name-in-None-clause-err c =
    let found = found_of c.args.options.now in
    let text : first_of (codes "name") (rows_of found) ≡ Some c.in-Some-get_str.text.now = first_is found (codes "name") ∙ sym c.in-Some-get_str.ensures in
    inr (
      c.in_ok-wrong_name-in-None.ensures,
      λ password by.
          name_refused c.in-Some-get_str.text.now (sym c.in-None.is ∙ c.in_ok-name.ensures) (ap is_user_name (same_text _ _ _ text by.name) ∙ by.valid),
    )
