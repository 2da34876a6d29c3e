-- Two sorted lists of runs merged in place, from the end.
use Rattle.std.proofs.Common.{◌≡◌, ℕ, zero, suc, ◌+◌, ◌-◌, ◌<◌, ◌≤◌, true, false, List, [], ◌∷◌, ◌++◌, length, take, drop, set, get_or, All, refl, sym, ap, ◌∙◌, subst, arith, append-nil, length-append, length-set, get_or-take, take-append-drop}
use Rattle.std.proofs.lemmas.List.{get_or_read, drop_more, drop_all, take_at, length-take-le}
use Rattle.std.proofs.lemmas.List.Elements.{All-nil, All-cons, All-head, All-tail, All-weaker}
use Rattle.std.proofs.lemmas.Grind.{take_at_read, drop-set_at}
use Rattle.dispatch_core.specs.declared.runs.Run.{Run}
use Rattle.dispatch_core.specs.JobRuns.{EachBefore, BeginsBefore}
use Rattle.dispatch_core.specs.Joining.{begins_by}
use Rattle.dispatch_core.specs.Merging.{merged, first_of}
use Rattle.dispatch_core.proofs.Orders.{All-front, All-back, each_front, each_across, across_first, begins_by_true, begins_by_false}
use Rattle.dispatch_core.proofs.MergedLists.{BeginsSooner, before_all, sooner_all, begins_through, sooner_through}

-- the places from `front + back` on have what the two lists have after their first `front` and `back` runs
pub record IsMergedFrom (old more now : List Run) (front back : ℕ) : Type 0 where
  pub long : length now ≡ length old + length more
  pub within : front ≤ length old
  pub inside : back ≤ length more
  pub kept : take front now ≡ take front old
  pub done : drop (front + back) now ≡ merged (drop front old) (drop back more)
  pub before : All (λ x. All (BeginsBefore x) (drop back more)) (take front old)
  pub sooner : All (λ y. All (BeginsSooner y) (drop front old)) (take back more)

pub none_merged : (old more now : List Run) → now ≡ old ++ more → IsMergedFrom old more now (length old) (length more)
none_merged old more now is =
    let first : drop (length old) old ≡ [] = drop_all (length old) old (omega arith) in
    let second : drop (length more) more ≡ [] = drop_all (length more) more (omega arith) in
    let long : length now ≡ length old + length more = ap length is ∙ length-append old more in
    record {
      long = long;
      within = omega arith;
      inside = omega arith;
      kept = ap (take (length old)) is ∙ take_at old more (length old) refl ∙ sym (sym (ap (take (length old)) (append-nil old)) ∙ take_at old [] (length old) refl);
      done = drop_all (length old + length more) now (omega arith) ∙ sym (ap (λ rs. merged rs (drop (length more) more)) first ∙ second);
      before = λ k d less. subst (All (BeginsBefore (get_or (take (length old) old) k d))) (sym second) (All-nil (BeginsBefore (get_or (take (length old) old) k d)));
      sooner = λ k d less. subst (All (BeginsSooner (get_or (take (length more) more) k d))) (sym first) (All-nil (BeginsSooner (get_or (take (length more) more) k d)));
    }

pub all_merged : (old more now : List Run) (front : ℕ) → IsMergedFrom old more now front 0 → now ≡ merged old more
all_merged old more now front so_far =
    let zero_more : front + 0 ≡ front = omega arith in
    let whole : merged old more ≡ take front old ++ merged (drop front old) more = ap (λ rs. merged rs more) (sym (take-append-drop front old)) ∙ before_all (take front old) (drop front old) more so_far.before in
    sym (take-append-drop front now) ∙ ap (λ rs. rs ++ drop front now) so_far.kept ∙ ap (λ rs. take front old ++ rs) (sym (ap (λ n. drop n now) zero_more) ∙ so_far.done) ∙ sym whole

-- the run before a place, of those that there are
one_more : (xs : List Run) (n : ℕ) (d : Run) → 0 < n → n ≤ length xs → (take n xs ≡ take (n - 1) xs ++ get_or xs (n - 1) d ∷ []) × (drop (n - 1) xs ≡ get_or xs (n - 1) d ∷ drop n xs)
one_more xs n d some within =
    let back : n - 1 + 1 ≡ n = omega arith in (
      sym (ap (λ m. take m xs) back) ∙ (take_at_read xs (n - 1) d (omega arith)).1,
      drop_more xs (n - 1) d (omega arith) ∙ ap (λ m. get_or xs (n - 1) d ∷ drop m xs) back,
    )

take-set_ge : (xs : List Run) (n i : ℕ) (x : Run) → n ≤ i → take n (set xs i x) ≡ take n xs
take-set_ge [] n i x le = refl
take-set_ge (y ∷ ys) zero i x le = refl
take-set_ge (y ∷ ys) (suc n) zero x le = absurd (omega arith)
take-set_ge (y ∷ ys) (suc n) (suc i) x le = ap (λ rs. y ∷ rs) (take-set_ge ys n i x (omega arith))

take_fewer : (xs ys : List Run) (n : ℕ) → take n xs ≡ take n ys → (m : ℕ) → m ≤ n → take m xs ≡ take m ys
take_fewer xs ys n same zero le = refl
take_fewer [] [] n same (suc m) le = refl
take_fewer [] (y ∷ ys) zero same (suc m) le = absurd (omega arith)
take_fewer [] (y ∷ ys) (suc n) same (suc m) le = absurd (let l = ap length same in omega arith)
take_fewer (x ∷ xs) [] zero same (suc m) le = absurd (omega arith)
take_fewer (x ∷ xs) [] (suc n) same (suc m) le = absurd (let l = ap length same in omega arith)
take_fewer (x ∷ xs) (y ∷ ys) zero same (suc m) le = absurd (omega arith)
take_fewer (x ∷ xs) (y ∷ ys) (suc n) same (suc m) le =
    let first : x ≡ y = cc in
    let rest : take n xs ≡ take n ys = cc in
    ap (λ r. r ∷ take m xs) first ∙ ap (λ rs. y ∷ rs) (take_fewer xs ys n rest m (omega arith))

module _ (old more now : List Run) (front back : ℕ) (d : Run) (so_far : IsMergedFrom old more now front back) (some : 0 < back) (old_sorted : EachBefore BeginsBefore old) (more_sorted : EachBefore BeginsBefore more) where
  abbrev pub b : Run
  b = get_or more (back - 1) d

  sorted_front : (xs : List Run) (n : ℕ) → EachBefore BeginsBefore xs → EachBefore BeginsBefore (take n xs)
  sorted_front xs n each = each_front BeginsBefore (take n xs) (drop n xs) (subst (EachBefore BeginsBefore) (sym (take-append-drop n xs)) each)

  -- what stands before the last of sorted runs begins before it
  firsts_before : (xs : List Run) (n : ℕ) (e : Run) → 0 < n → n ≤ length xs → EachBefore BeginsBefore xs → All (λ x. BeginsBefore x (get_or xs (n - 1) e)) (take (n - 1) xs)
  firsts_before xs n e more_than within each =
      let split = one_more xs n e more_than within in
      let each' = subst (EachBefore BeginsBefore) split.0 (sorted_front xs n each) in
      across_first BeginsBefore (take (n - 1) xs) (get_or xs (n - 1) e) [] (each_across BeginsBefore (take (n - 1) xs) (get_or xs (n - 1) e ∷ []) each')

  written : (x : Run) → drop (front + back - 1) (set now (front + back - 1) x) ≡ x ∷ drop (front + back) now
  written x =
      let at : front + back - 1 + 1 ≡ front + back = omega (arith, some) in
      drop-set_at now (front + back - 1) (front + back - 1) x refl (omega (arith, so_far.long, so_far.within, so_far.inside, some)) ∙ ap (λ n. x ∷ drop n now) at

  -- a run of the first list that the last of the second begins before
  pub moved_first : 0 < front → BeginsSooner b (get_or old (front - 1) d) → IsMergedFrom old more (set now (front + back - 1) (get_or old (front - 1) d)) (front - 1) back
  moved_first more_than sooner =
      let a = get_or old (front - 1) d in
      let more_split = one_more more back d some so_far.inside in
      let split = one_more old front d more_than so_far.within in
      let fronts : All (λ x. All (BeginsBefore x) (drop back more)) (take (front - 1) old ++ a ∷ []) = subst (All (λ x. All (BeginsBefore x) (drop back more))) split.0 so_far.before in
      let a_before = All-head (λ x. All (BeginsBefore x) (drop back more)) a [] (All-back (λ x. All (BeginsBefore x) (drop back more)) (take (front - 1) old) (a ∷ []) fronts) in
      let place : front - 1 + back ≡ front + back - 1 = omega (arith, more_than) in
      let all_sooner : All (λ y. BeginsSooner y a) (take back more) =
      subst (All (λ y. BeginsSooner y a)) (sym more_split.0)
      (All-join (λ y. BeginsSooner y a) (take (back - 1) more) b (All-weaker (λ y. BeginsBefore y b) (λ y. BeginsSooner y a) (λ y h. sooner_through y b a h sooner) (take (back - 1) more) (firsts_before more back d some so_far.inside more_sorted)) sooner) in
      record {
        long = length-set now (front + back - 1) a ∙ so_far.long;
        within = omega (arith, so_far.within);
        inside = so_far.inside;
        kept = take-set_ge now (front - 1) (front + back - 1) a (omega (arith, some)) ∙ take_fewer now old front so_far.kept (front - 1) (omega arith);
        done = ap (λ n. drop n (set now (front + back - 1) a)) place ∙ written a ∙ ap (λ rs. a ∷ rs) so_far.done
            ∙ sym (ap (λ rs. merged rs (drop back more)) split.1 ∙ before_all (a ∷ []) (drop front old) (drop back more) (All-cons (λ x. All (BeginsBefore x) (drop back more)) a [] a_before (All-nil (λ x. All (BeginsBefore x) (drop back more)))));
        before = All-front (λ x. All (BeginsBefore x) (drop back more)) (take (front - 1) old) (a ∷ []) fronts;
        sooner = λ k e less. subst (All (BeginsSooner (get_or (take back more) k e))) (sym split.1) (All-cons (BeginsSooner (get_or (take back more) k e)) a (drop front old) (all_sooner k e less) (so_far.sooner k e less));
      }
    where
      All-join : (P : Run → Type 0) (xs : List Run) (x : Run) → All P xs → P x → All P (xs ++ x ∷ [])
      All-join P [] x all one = All-cons P x [] one (All-nil P)
      All-join P (y ∷ ys) x all one = All-cons P y (ys ++ x ∷ []) (All-head P y ys all) (All-join P ys x (All-tail P y ys all) one)

  -- the last of the second list, where those left of the first begin before it
  pub moved_second : All (λ x. BeginsBefore x b) (take front old) → IsMergedFrom old more (set now (front + back - 1) b) front (back - 1)
  moved_second before =
      let more_split = one_more more back d some so_far.inside in
      let backs : All (λ y. All (BeginsSooner y) (drop front old)) (take (back - 1) more ++ b ∷ []) = subst (All (λ y. All (BeginsSooner y) (drop front old))) more_split.0 so_far.sooner in
      let b_sooner = All-head (λ y. All (BeginsSooner y) (drop front old)) b [] (All-back (λ y. All (BeginsSooner y) (drop front old)) (take (back - 1) more) (b ∷ []) backs) in
      let place : front + (back - 1) ≡ front + back - 1 = omega (arith, some) in
      record {
        long = length-set now (front + back - 1) b ∙ so_far.long;
        within = so_far.within;
        inside = omega (arith, so_far.inside);
        kept = take-set_ge now front (front + back - 1) b (omega (arith, some)) ∙ so_far.kept;
        done = ap (λ n. drop n (set now (front + back - 1) b)) place ∙ written b ∙ ap (λ rs. b ∷ rs) so_far.done
            ∙ sym (ap (merged (drop front old)) more_split.1 ∙ sooner_all (drop front old) (b ∷ []) (drop back more) (All-cons (λ y. All (BeginsSooner y) (drop front old)) b [] b_sooner (All-nil (λ y. All (BeginsSooner y) (drop front old)))));
        before = λ k e less. subst (All (BeginsBefore (get_or (take front old) k e))) (sym more_split.1) (All-cons (BeginsBefore (get_or (take front old) k e)) b (drop back more) (before k e less) (so_far.before k e less));
        sooner = All-front (λ y. All (BeginsSooner y) (drop front old)) (take (back - 1) more) (b ∷ []) backs;
      }

  -- the last of those left of the first list begins before it, and so they all do
  pub all_begin : 0 < front → BeginsBefore (get_or old (front - 1) d) b → All (λ x. BeginsBefore x b) (take front old)
  all_begin more_than begins =
      let a = get_or old (front - 1) d in
      let split = one_more old front d more_than so_far.within in
      subst (All (λ x. BeginsBefore x b)) (sym split.0)
      (join (take (front - 1) old) (All-weaker (λ x. BeginsBefore x a) (λ x. BeginsBefore x b) (λ x h. begins_through x a b h begins) (take (front - 1) old) (firsts_before old front d more_than so_far.within old_sorted)))
    where
      join : (xs : List Run) → All (λ x. BeginsBefore x b) xs → All (λ x. BeginsBefore x b) (xs ++ get_or old (front - 1) d ∷ [])
      join [] all = All-cons (λ x. BeginsBefore x b) (get_or old (front - 1) d) [] begins (All-nil (λ x. BeginsBefore x b))
      join (y ∷ ys) all = All-cons (λ x. BeginsBefore x b) y (ys ++ get_or old (front - 1) d ∷ []) (All-head (λ x. BeginsBefore x b) y ys all) (join ys (All-tail (λ x. BeginsBefore x b) y ys all))

  -- what is read before the place where the first list goes on is a run of it
  pub read_front : (r : Run) → 0 < front → r ≡ get_or now (front - 1) r → r ≡ get_or old (front - 1) d
  read_front r more_than read =
      let less : front - 1 < front = omega (arith, more_than) in
      get_or_read now (front - 1) r (omega (arith, so_far.long, so_far.within, more_than)) read d ∙ sym (get_or-take front now (front - 1) d less) ∙ ap (λ rs. get_or rs (front - 1) d) so_far.kept
      ∙ get_or-take front old (front - 1) d less

  pub step_first : (r s : Run) → 0 < front → r ≡ get_or now (front - 1) r → begins_by (first_of b) r ≡ false → s ≡ get_or now (front - 1) s → IsMergedFrom old more (set now (front + back - 1) s) (front - 1) back
  step_first r s more_than read behind same =
      let sooner = subst (BeginsSooner b) (read_front r more_than read) (begins_by_false (first_of b) r behind) in
      subst (λ x. IsMergedFrom old more (set now (front + back - 1) x) (front - 1) back) (sym (read_front s more_than same)) (moved_first more_than sooner)

  pub step_second : (r : Run) → 0 < front → r ≡ get_or now (front - 1) r → begins_by (first_of b) r ≡ true → IsMergedFrom old more (set now (front + back - 1) b) front (back - 1)
  step_second r more_than read begins =
      moved_second (all_begin more_than (subst (λ x. BeginsBefore x b) (read_front r more_than read) (begins_by_true (first_of b) r begins)))

  pub step_alone : front ≤ 0 → IsMergedFrom old more (set now (front + back - 1) b) front (back - 1)
  step_alone none = moved_second (λ k e less. absurd (omega (arith, length-take-le front old so_far.within, less, none)))
