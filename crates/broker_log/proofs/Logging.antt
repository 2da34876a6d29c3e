-- Lines that are written one after another.
use Rattle.std.specs.Prelude.{Bool, false, true, is_ok, OnErr, OnOk, Result, Ok, Err}
use Rattle.std.proofs.Common.{◌≡◌, ◌∙◌, ◌≤◌, ℕ, List, [], ◌∷◌, ◌++◌, Option, All, ap, append-nil, append_assoc, refl, subst, sym}
use Rattle.std.specs.Io.KnownBytes.{Appends, Keeps}
use Rattle.std.specs.List.{flat_map}
use Rattle.std.proofs.lemmas.Grind.{flat_map-append}
use Rattle.std.proofs.lemmas.List.Elements.{All-nil, All-cons, All-append}
use Rattle.text_io.specs.Passing.{Begins}
use Rattle.text_io.proofs.PassingLaws.{Appends-nothing, Appends-then, Begins-nothing, Keeps-refl}
use Rattle.broker_log.specs.Lines.{BeginsToLog, HasLogged, IsLineOf, joined}
use Rattle.broker_log.specs.declared.level.Level.{Level}

-- nothing was written
pub logged_nothing : (level : Level) (known : Option (List ℕ)) → HasLogged level known known
logged_nothing level known = record { lines = []; each = All-nil (IsLineOf level); written = Appends-nothing known known (Keeps-refl known) }

pub begun_nothing : (level : Level) (known : Option (List ℕ)) → BeginsToLog level known known
begun_nothing level known = record { lines = []; each = All-nil (IsLineOf level); begun = Begins-nothing known [] }

joined_more : (a b : List (List ℕ)) → joined (a ++ b) ≡ joined a ++ joined b
joined_more a b = flat_map-append (λ line. line) a b

-- lines, and then others
pub logged_then : (level : Level) (old mid new : Option (List ℕ)) → HasLogged level old mid → HasLogged level mid new → HasLogged level old new
logged_then level old mid new first second = record {
  lines = first.lines ++ second.lines;
  each = All-append (IsLineOf level) first.lines second.lines first.each second.each;
  written = subst (Appends old new) (sym (joined_more first.lines second.lines)) (Appends-then old mid new (joined first.lines) (joined second.lines) first.written second.written);
}

pub begun_then : (level : Level) (old mid new : Option (List ℕ)) → HasLogged level old mid → BeginsToLog level mid new → BeginsToLog level old new
begun_then level old mid new first second = record {
  lines = first.lines ++ second.lines;
  each = All-append (IsLineOf level) first.lines second.lines first.each second.each;
  begun = record {
    part = joined first.lines ++ second.begun.part;
    rest = second.begun.rest;
    written = Appends-then old mid new (joined first.lines) second.begun.part first.written second.begun.written;
    whole = append_assoc (joined first.lines) second.begun.part second.begun.rest ∙ ap (λ s. joined first.lines ++ s) second.begun.whole ∙ sym (joined_more first.lines second.lines);
  };
}

-- whole lines are a beginning of lines
pub begun_whole : (level : Level) (old new : Option (List ℕ)) → HasLogged level old new → BeginsToLog level old new
begun_whole level old new logged = record {
  lines = logged.lines;
  each = logged.each;
  begun = record { part = joined logged.lines; rest = []; written = logged.written; whole = append-nil (joined logged.lines) };
}

one : (level : Level) (line : List ℕ) → IsLineOf level line → All (IsLineOf level) (line ∷ [])
one level line is = All-cons (IsLineOf level) line [] is (All-nil (IsLineOf level))

-- one line
pub logged_one : (level : Level) (line : List ℕ) (old new : Option (List ℕ)) → IsLineOf level line → Appends old new line → HasLogged level old new
logged_one level line old new is written = record { lines = line ∷ []; each = one level line is; written = subst (Appends old new) (sym (append-nil line)) written }

pub begun_one : (level : Level) (line : List ℕ) (old new : Option (List ℕ)) → IsLineOf level line → Begins old new line → BeginsToLog level old new
begun_one level line old new is begun = record { lines = line ∷ []; each = one level line is; begun = subst (Begins old new) (sym (append-nil line)) begun }

-- by what writing the line came to
pub logged_by : {E : Type 0} (level : Level) (line : List ℕ) (old new : Option (List ℕ)) (written : Result (Unit {0}) E) (all : Bool) → all ≡ is_ok written → IsLineOf level line → OnOk written (Appends old new line) → all ≡ true → HasLogged level old new
logged_by level line old new (Ok done) all same is ok whole = logged_one level line old new is ok
logged_by level line old new (Err error) all same is ok whole =
    let bad : false ≡ true = sym same ∙ whole in
    cc

pub begun_by : {E : Type 0} (level : Level) (line : List ℕ) (old new : Option (List ℕ)) (written : Result (Unit {0}) E) → IsLineOf level line → OnOk written (Appends old new line) → OnErr written (Begins old new line) → BeginsToLog level old new
begun_by level line old new (Ok done) is ok err = begun_whole level old new (logged_one level line old new is ok)
begun_by level line old new (Err error) is ok err = begun_one level line old new is err
