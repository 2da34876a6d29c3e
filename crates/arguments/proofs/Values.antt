-- What the getters of clap read of the options of `serve`.
use Rattle.std.proofs.Common.{◌≡◌, ◌∙◌, ◌<◌, ◌^◌, ℕ, Bool, true, false, List, Option, Some, None, Result, Ok, Err, ap, codes, refl, sym, subst}
use Rattle.std.specs.Prelude.{if◌then◌else◌, unwrap_or}
use Rattle.std.specs.Str.Parse.{ParsesUnsigned, digits_value, without_leading_plus}
use Rattle.clap.specs.Words.{ReadsOne, Text}
use Rattle.users.specs.Lines.{is_user_name}
use Rattle.broker_log.specs.declared.level.Level.{Level}
use Rattle.broker_log.specs.declared.level.Level.TheVariants as levels
use Rattle.arguments.specs.Options.{Spells}
use Rattle.arguments.specs.CommandLine.{flag_word, level_word, word_of}
use Rattle.arguments.specs.declared.service.ServeUntil.{ServeUntil}
use Rattle.arguments.specs.declared.service.ServeUntil.TheVariants.{Stdin, Killed}

-- the one text of two
pub same_text : (o : Option Text) (a b : Text) → o ≡ Some a → o ≡ Some b → a ≡ b
same_text o a b first second = ap (λ (o : Option Text). unwrap_or o a) (sym first ∙ second)

-- a word that is neither is none of `--until`
pub neither_word : (until : ServeUntil) (word : Text) → (word ≡ codes "stdin" → ⊥) → (word ≡ codes "killed" → ⊥) → word ≡ word_of until → ⊥
neither_word Stdin word stdin killed is = stdin is
neither_word Killed word stdin killed is = killed is

-- a word that is none of the four is none of `--log`
pub no_level_word : (level : Level) (word : Text) → (word ≡ codes "off" → ⊥) → (word ≡ codes "error" → ⊥) → (word ≡ codes "info" → ⊥) → (word ≡ codes "debug" → ⊥) → word ≡ level_word level → ⊥
no_level_word levels.Off word off error info debug is = off is
no_level_word levels.Error word off error info debug is = error is
no_level_word levels.Info word off error info debug is = info is
no_level_word levels.Debug word off error info debug is = debug is

-- a word that is neither of the two is no flag's
pub no_flag_word : (flag : Bool) (word : Text) → (word ≡ codes "true" → ⊥) → (word ≡ codes "false" → ⊥) → word ≡ flag_word flag → ⊥
no_flag_word true word not_true not_false is = not_true is
no_flag_word false word not_true not_false is = not_false is

-- what was read stands in the value
pub value_read : {A E : Type 0} (G : List ℕ → Result A E → Type 0) (value : Option Text) (given : A) → (value ≡ None → Some given ≡ None)
    → ((text : Text) → value ≡ Some text → ReadsOne G text (Some given)) → (text : Text) × (value ≡ Some text) × G text (Ok given)
value_read {A} G None given none read =
    let bad : Some given ≡ None = none refl in
    cc
value_read {A} G (Some text) given none read = (text, refl, read text refl)

-- a number that was read is spelled by the value
pub number_spelled : {E : Type 0} (G : List ℕ → Result ℕ E → Type 0) (value : Option Text) (number : ℕ)
    → (value ≡ None → Some number ≡ None) → ((text : Text) → value ≡ Some text → ReadsOne G text (Some number))
    → ((u : List ℕ) (r : Result ℕ E) → G u r → ParsesUnsigned 32 10 u r) → (text : Text) × (value ≡ Some text) × Spells text number
number_spelled G value number none read only =
    let (text, is, gives) = value_read G value number none read in
    let parsed = only text (Ok number) gives in
    (text, is, (parsed.0.0, parsed.1))

-- a value that spells a number below 2 ^ 32 is read
pub spelled_read : {E : Type 0} (G : List ℕ → Result ℕ E → Type 0) (text : Text) (number : ℕ)
    → ReadsOne G text None → ((u : List ℕ) (r : Result ℕ E) → G u r → ParsesUnsigned 32 10 u r) → Spells text number → number < 2 ^ 32 → ⊥
spelled_read G text number read only spelled small = only text (Err read.0) read.1 (spelled.0, subst (λ n. n < 2 ^ 32) spelled.1 small)

-- a text spells one number
pub spelled_once : (a b : Text) (first second : ℕ) → a ≡ b → Spells a first → Spells b second → first ≡ second
spelled_once a b first second same h i = h.1 ∙ ap (λ (text : Text). digits_value 10 (without_leading_plus text)) same ∙ sym i.1

-- a name that was made of a text is that text, and a user's
pub name_kept : (text name : Text) → Some name ≡ (if is_user_name text then Some text else None) → (is_user_name text ≡ true) × (name ≡ text)
name_kept text name made = go (is_user_name text) made
  where
    go : (b : Bool) → Some name ≡ (if b then Some text else None) → (b ≡ true) × (name ≡ text)
    go true is = (refl, ap (λ (o : Option Text). unwrap_or o name) is)
    go false is = cc

-- a text of which none was made is no user's
pub name_refused : (text : Text) → None ≡ (if is_user_name text then Some text else None) → is_user_name text ≡ true → ⊥
name_refused text none valid = go (is_user_name text) none valid
  where
    go : (b : Bool) → None ≡ (if b then Some text else None) → b ≡ true → ⊥
    go true is e = cc
    go false is e = cc
