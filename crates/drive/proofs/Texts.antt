-- The text of a list, item by item, and what holds of each.
use Rattle.std.proofs.Common.{◌≡◌, ℕ, ◌+◌, ◌<◌, List, [], ◌∷◌, ◌++◌, length, get_or, take, refl, sym, ap, subst, ◌∙◌, append_assoc, append-nil, add-one}
use Rattle.std.specs.List.{AllByRecursion, flat_map}
use Rattle.local_broker.specs.Broker.{Broker}
use Rattle.local_broker.specs.Reporting.{TellsLine}
use Rattle.drive.specs.Transcripts.{ReportsFirst}
use Rattle.std.proofs.lemmas.List.{take_more}
use Rattle.std.proofs.lemmas.List.Concat.{flat_map-append}
use Rattle.std.proofs.lemmas.List.Elements.{All-from_recursion, All-get_or}

-- the text of one item more
pub one_more : {T : Type 0} (text_of : T → List ℕ) (items : List T) (index : ℕ) (item : T) (before text text' : List ℕ) → index < length items → item ≡ get_or items index item
    → text ≡ before ++ flat_map text_of (take index items) → text' ≡ text ++ text_of item → text' ≡ before ++ flat_map text_of (take (index + 1) items)
one_more text_of items index item before text text' within is told more =
    more ∙ ap (λ xs. xs ++ text_of item) told ∙ append_assoc before (flat_map text_of (take index items)) (text_of item)
    ∙ ap (λ xs. before ++ xs)
    (sym (ap (flat_map text_of) (take_more items index item within) ∙ ap (λ x. flat_map text_of (take index items ++ x ∷ [])) (sym is) ∙ flat_map-append text_of (take index items) (item ∷ [])
    ∙ ap (λ xs. flat_map text_of (take index items) ++ xs) (append-nil (text_of item))))

-- what holds of each item holds of the one at this place
pub each_at : {T : Type 0} (P : T → Type 0) (items : List T) (index : ℕ) (item : T) → index < length items → item ≡ get_or items index item → AllByRecursion P items → P item
each_at P items index item within is all = subst P (sym is) (All-get_or P items index item within (All-from_recursion P items all))

-- the line of one share more
pub one_report : (slot : ℕ) (b : Broker) (before text text' earlier line : List ℕ) → text ≡ before ++ earlier → ReportsFirst slot b earlier → TellsLine b slot line → text' ≡ text ++ line
    → (reports : List ℕ) × (text' ≡ before ++ reports) × ReportsFirst (slot + 1) b reports
one_report slot b before text text' earlier line told reports tells more =
    (earlier ++ line, more ∙ ap (λ xs. xs ++ line) told ∙ append_assoc before earlier line, rw add-one (earlier, line, reports, tells, refl))
