-- What a pass knows once it took in another, and what was popped into a list.
use Rattle.std.proofs.Common.{◌≡◌, ℕ, suc, ◌<◌, ◌≤◌, List, [], ◌∷◌, ◌++◌, length, refl, sym, ap, ◌∙◌, arith, append_assoc, length-append}
use Rattle.std.proofs.lemmas.List.{map-append}
use Rattle.group_queue.specs.declared.posted.Posted.{Posted}
use Rattle.group_queue.specs.declared.view.Entry.{Entry}
use Rattle.group_queue.specs.declared.view.View.{View}
use Rattle.group_queue.specs.declared.view.Bag.{Bag}
use Rattle.group_queue.specs.Views.{joined, with_entries}
use Rattle.group_queue.specs.Returns.{bag, popping_back}
use Rattle.group_queue.specs.Places.{jobs_in}

pub takes_in : (v w u : View) (e : Entry) (es : List Entry) (all : View) → u ≡ joined v w → w.entries ≡ e ∷ [] → with_entries v (e ∷ es) ≡ all → with_entries u es ≡ all
takes_in v w u e es all is one whole =
    ap (λ (x : View). with_entries x es) is ∙ (ap (λ l. record v { entries = (v.entries ++ l) ++ es }) one ∙ (ap (λ l. record v { entries = l }) (append_assoc v.entries (e ∷ []) es) ∙ whole))

pub one_more : {X : Type 0} (xs : List X) (x : X) (ys zs : List X) → xs ++ x ∷ ys ≡ zs → (xs ++ x ∷ []) ++ ys ≡ zs
one_more xs x ys zs whole = append_assoc xs (x ∷ []) ys ∙ whole

pub popped_more : (v old new : Bag) (left : List Posted) (x : Posted) → old ≡ popping_back v left → new ≡ bag old.parts old.pushed (old.popped ++ x ∷ []) → new ≡ popping_back v (left ++ x ∷ [])
popped_more v old new left x was is =
    is ∙ (ap (λ (b : Bag). bag b.parts b.pushed (b.popped ++ x ∷ [])) was ∙ ap (λ l. bag v.parts v.pushed l) (append_assoc v.popped left (x ∷ [])))

pub length_jobs : (list : List Posted) → length (jobs_in list) ≡ length list
length_jobs [] = refl
length_jobs (x ∷ xs) = ap suc (length_jobs xs)

pub jobs_more : (jobs : List _) (left : List Posted) (x : Posted) → jobs ≡ jobs_in left → jobs ++ x.job ∷ [] ≡ jobs_in (left ++ x ∷ [])
jobs_more jobs left x is = ap (λ l. l ++ x.job ∷ []) is ∙ sym (map-append (λ (posted : Posted). posted.job) left (x ∷ []))

-- the list has room for the last of what was popped
pub room_left : (used room : ℕ) (left : List Posted) (x : Posted) → used ≡ length left → length (left ++ x ∷ []) ≤ room → used < room
room_left used room left x is enough = omega (arith, is, length-append left (x ∷ []), enough)

pub nothing_left : {X : Type 0} (xs : List X) → length xs ≡ 0 → xs ≡ []
nothing_left [] none = refl
nothing_left (x ∷ xs) none = absurd (omega arith)
