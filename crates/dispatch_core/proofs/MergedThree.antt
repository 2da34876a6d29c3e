-- Three sorted lists of runs seen as one: which two are merged first makes no difference.
use Rattle.std.proofs.Common.{◌≡◌, List, ◌∷◌, [], true, false, refl, sym, ap, ◌∙◌, ⊎_elim, inl, inr, ◌⊎◌}
use Rattle.std.proofs.lemmas.Bool.{cases_Bool}
use Rattle.dispatch_core.specs.declared.runs.Run.{Run}
use Rattle.dispatch_core.specs.JobRuns.{BeginsBefore}
use Rattle.dispatch_core.specs.Joining.{begins_by}
use Rattle.dispatch_core.specs.Merging.{merged, first_of}
use Rattle.dispatch_core.proofs.Orders.{begins_by_true, begins_by_false}
use Rattle.dispatch_core.proofs.MergedLists.{BeginsSooner, sooner_before, not_both, merged-nil, merged-first, merged-second, begins_through, sooner_through}

-- of two runs one begins before the other
either : (run other : Run) → BeginsBefore run other ⊎ BeginsSooner other run
either run other =
    ⊎_elim (λ (is : begins_by (first_of other) run ≡ true). inl (begins_by_true (first_of other) run is)) (λ (not : begins_by (first_of other) run ≡ false). inr (begins_by_false (first_of other) run not))
    (cases_Bool (begins_by (first_of other) run))

-- what begins before the firsts of two lists comes before both
first_of_three : (x : Run) (xs : List Run) (y : Run) (ys : List Run) (z : Run) (zs : List Run) → BeginsBefore x y → BeginsBefore x z → merged (x ∷ xs) (merged (y ∷ ys) (z ∷ zs)) ≡ x ∷ merged xs (merged (y ∷ ys) (z ∷ zs))
first_of_three x xs y ys z zs before later =
    ⊎_elim
    (λ (near : BeginsBefore y z).
    let is = merged-first y ys z zs near in
    ap (merged (x ∷ xs)) is ∙ merged-first x xs y (merged ys (z ∷ zs)) before ∙ ap (λ rs. x ∷ merged xs rs) (sym is))
    (λ (sooner : BeginsSooner z y).
    let is = merged-second y ys z zs sooner in
    ap (merged (x ∷ xs)) is ∙ merged-first x xs z (merged (y ∷ ys) zs) later ∙ ap (λ rs. x ∷ merged xs rs) (sym is))
    (either y z)

-- a run before the first list
module _ (x : Run) (xs : List Run) (rest : (us vs : List Run) → merged (merged xs us) vs ≡ merged xs (merged us vs)) where
  over_third : (y : Run) (ys : List Run) → ((vs : List Run) → merged (merged (x ∷ xs) ys) vs ≡ merged (x ∷ xs) (merged ys vs)) → (zs : List Run) → merged (merged (x ∷ xs) (y ∷ ys)) zs ≡ merged (x ∷ xs) (merged (y ∷ ys) zs)
  over_third y ys fewer [] = merged-nil (merged (x ∷ xs) (y ∷ ys)) ∙ ap (merged (x ∷ xs)) (sym (merged-nil (y ∷ ys)))
  over_third y ys fewer (z ∷ zs) =
      ⊎_elim
      (λ (before : BeginsBefore x y).
      let head = merged-first x xs y ys before in
      ⊎_elim
      (λ (later : BeginsBefore x z).
      ap (λ rs. merged rs (z ∷ zs)) head ∙ merged-first x (merged xs (y ∷ ys)) z zs later ∙ ap (λ rs. x ∷ rs) (rest (y ∷ ys) (z ∷ zs)) ∙ sym (first_of_three x xs y ys z zs before later))
      (λ (sooner : BeginsSooner z x).
      ⊎_elim
      (λ (near : BeginsBefore y z). absurd (not_both x z (begins_through x y z before near) sooner))
      (λ (second : BeginsSooner z y).
      ap (λ rs. merged rs (z ∷ zs)) head ∙ merged-second x (merged xs (y ∷ ys)) z zs sooner ∙ ap (λ rs. z ∷ merged rs zs) (sym head) ∙ ap (λ rs. z ∷ rs) (over_third y ys fewer zs)
      ∙ sym (ap (merged (x ∷ xs)) (merged-second y ys z zs second) ∙ merged-second x xs z (merged (y ∷ ys) zs) sooner))
      (either y z))
      (either x z))
      (λ (after : BeginsSooner y x).
      let head = merged-second x xs y ys after in
      ⊎_elim
      (λ (near : BeginsBefore y z).
      ap (λ rs. merged rs (z ∷ zs)) head ∙ merged-first y (merged (x ∷ xs) ys) z zs near ∙ ap (λ rs. y ∷ rs) (fewer (z ∷ zs))
      ∙ sym (ap (merged (x ∷ xs)) (merged-first y ys z zs near) ∙ merged-second x xs y (merged ys (z ∷ zs)) after))
      (λ (second : BeginsSooner z y).
      let sooner = sooner_through z y x (sooner_before z y second) after in
      ap (λ rs. merged rs (z ∷ zs)) head ∙ merged-second y (merged (x ∷ xs) ys) z zs second ∙ ap (λ rs. z ∷ merged rs zs) (sym head) ∙ ap (λ rs. z ∷ rs) (over_third y ys fewer zs)
      ∙ sym (ap (merged (x ∷ xs)) (merged-second y ys z zs second) ∙ merged-second x xs z (merged (y ∷ ys) zs) sooner))
      (either y z))
      (either x y)

  over_second : (ys zs : List Run) → merged (merged (x ∷ xs) ys) zs ≡ merged (x ∷ xs) (merged ys zs)
  over_second [] zs = ap (λ rs. merged rs zs) (merged-nil (x ∷ xs))
  over_second (y ∷ ys) zs = over_third y ys (over_second ys) zs

pub merged-assoc : (xs ys zs : List Run) → merged (merged xs ys) zs ≡ merged xs (merged ys zs)
merged-assoc [] ys zs = refl
merged-assoc (x ∷ xs) ys zs = over_second x xs (merged-assoc xs) ys zs
