-- What each call owes the table.
use Rattle.std.proofs.Common.{◌≡◌, ◌≢◌, ◌⊎◌, inl, inr, ℕ, zero, suc, ◌+◌, ◌<◌, Bool, true, false, true≢false, cond, List, [], ◌∷◌, ◌++◌, set, length, ◌≤◌, nat_lt, refl, sym, ap, ◌∙◌, subst, ⊎_elim, append_assoc, arith}
use Rattle.std.specs.Prelude.{sum_by}
use Rattle.std.proofs.lemmas.List.{append-nil}
use Rattle.std.proofs.lemmas.List.Sums.{sum_by_push}
use mathlib.Core.List.{IsPrefix}
use mathlib.Core.Option.{some, some-injective, some-ne-none}
use lib.ListN.{get_elem?}
use Rattle.atomic_table.specs.Table.{Me, keeps, Allows, Splits, Joins, opening}
use Rattle.atomic_table.proofs.Lists.{at_set, at_snoc}
use Rattle.call_history.specs.declared.word.HistoryView.{HistoryView}
use Rattle.call_history.specs.Numbers.{numbers, times, once_below}
use Rattle.call_history.specs.Callers.{CallerState, all_parts, new_caller}
use Rattle.call_history.specs.Rule.{caller, caller_of, first, spent, without_right, less_one, shown, met, met_if, adding, Fits, IsOne, Adds, Compares}
use Rattle.call_history.proofs.Counting.{sum_at, only, times_on, times_numbers}

off : false ≡ true → ⊥
off e = true≢false (sym e)

-- of two beginnings of one list the shorter begins the longer
pub shorter : {A : Type 0} (xs ys zs : List A) → IsPrefix xs zs → IsPrefix ys zs → length xs ≤ length ys → IsPrefix xs ys
shorter [] ys zs p q le = (ys, refl)
shorter (x ∷ xs) [] zs p q le = absurd (omega arith)
shorter (x ∷ xs) (y ∷ ys) [] p q le = absurd (cc (p.1))
shorter (x ∷ xs) (y ∷ ys) (z ∷ zs) p q le =
    let heads : x ≡ y = cc (p.1, q.1) in
    let rest = shorter xs ys zs (p.0, cc (p.1)) (q.0, cc (q.1)) (omega arith) in
    (rest.0, cc (heads, rest.1))

module _ {E : Type 0} where
  -- each list begins with itself, and goes on to be a beginning
  pub self : (xs : List E) → IsPrefix xs xs
  self [] = ([], refl)
  self (x ∷ xs) = (let r = self xs in r.0, ap (λ ys. x ∷ ys) (self xs).1)

  pub onward : (xs ys more : List E) → IsPrefix xs ys → IsPrefix xs (ys ++ more)
  onward xs ys more is = (is.0 ++ more, sym (append_assoc xs is.0 more) ∙ ap (λ l. l ++ more) is.1)

  abbrev parts_of : HistoryView E → ℕ
  parts_of v = v.parts

  abbrev times_of : ℕ → HistoryView E → ℕ
  times_of number v = times number v.own

  abbrev AllFit : ℕ → List E → List (HistoryView E) → Type 0
  AllFit seat history views = (by : ℕ) (v : HistoryView E) → get_elem? views by ≡ some v → Fits seat history by v

  fits_set : (seat : ℕ) (history : List E) (views : List (HistoryView E)) (by : ℕ) (w : HistoryView E)
      → ((j : ℕ) (u : HistoryView E) → j ≢ by → get_elem? views j ≡ some u → Fits seat history j u) → Fits seat history by w
      → AllFit seat history (set views by w)
  fits_set seat history views by w others mine j u e =
      ⊎_elim
      (λ (x : (j ≡ by) × (w ≡ u)). subst (λ (y : ℕ × HistoryView E). Fits seat history y.0 y.1) (λ i. (sym x.0 i, x.1 i)) mine)
      (λ (x : (j ≢ by) × (get_elem? views j ≡ some u)). others j u x.0 x.1)
      (at_set views by j w u e)

  fits_spent : (seat : ℕ) (history : List E) (by : ℕ) → Fits seat history by spent
  fits_spent seat history by = record { keeps = (λ e. absurd (off e)); calls = (history, refl); other = (history, refl); no_part = λ _. refl }

  fits_caller : (seat : ℕ) (history : List E) (by : ℕ) (c : CallerState E) → IsPrefix c.calls history → (c.parts ≡ 0 → c.own ≡ []) → Fits seat history by (caller c)
  fits_caller seat history by c is none = record { keeps = (λ e. absurd (off e)); calls = is; other = (history, refl); no_part = none }

  pub starts : IsOne {E = E} (opening (0 ∷ []) [] first)
  starts = record {
    seat = 0;
    history = [];
    each = one;
    parts = omega arith;
    once = none_yet;
  }
    where
      one : (by : ℕ) (v : HistoryView E) → get_elem? (first ∷ []) by ≡ some v → Fits 0 [] by v
      one zero v e = subst (Fits 0 [] 0) (some-injective _ _ e) (record { keeps = (λ _. (refl, refl)); calls = ([], refl); other = ([], refl); no_part = λ _. refl })
      one (suc by) v e = absurd (some-ne-none v (sym e))

      none_yet : (number : ℕ) → sum_by (times_of number) (first ∷ []) ≡ once_below number 0
      none_yet number = by (nat_lt number 0) refl
        where
          by : (below : Bool) → nat_lt number 0 ≡ below → sum_by (times_of number) (first {E = E} ∷ []) ≡ cond below 1 0
          by true is = absurd (grind (arith, is))
          by false is = refl

  -- a pass becomes another one that has as many parts, and that has made more calls
  changed : (views : List (HistoryView E)) (by : ℕ) (v w : HistoryView E) → get_elem? views by ≡ some v → w.parts ≡ v.parts → sum_by parts_of views ≡ all_parts → sum_by parts_of (set views by w) ≡ all_parts
  changed views by v w at same all = omega (arith, same, all, sum_at parts_of views by v w at)

  pub adds : (slots by : ℕ) (me : Me (Unit {0}) (HistoryView E)) (added : List E) → me.0.keeps ≡ true → 0 < me.0.parts
      → Allows IsOne slots by me 0 (λ n. n) (λ _. Adds added me)
  adds slots by me added does part s one _ at _ =
      let v = me.0 in
      let mine = one.each by v at in
      let whole = mine.keeps does in
      let history = one.history ++ added in
      let w : HistoryView E = adding v added in
      let count : length v.calls ≡ length one.history = ap length whole.1 in (
        w,
        keeps,
        tt,
        record {
          seat = one.seat;
          history = history;
          each = fits_set one.seat history s.views by w
              (λ j u apart e.
              let fits = one.each j u e in
              record { keeps = (λ k. absurd (apart ((fits.keeps k).0 ∙ sym whole.0))); calls = onward u.calls one.history added fits.calls; other = onward u.other one.history added fits.other; no_part = fits.no_part })
              (record {
                keeps = (λ _. (whole.0, ap (λ l. l ++ added) whole.1));
                calls = ([], append-nil _ ∙ ap (λ l. l ++ added) whole.1);
                other = (history, refl);
                no_part = λ none. absurd (omega (arith, part, none));
              });
          parts = changed s.views by v w at refl one.parts;
          once = λ number.
              let was = one.once number in
              let here = sum_at (times_of number) s.views by v w at in
              let more = times_on number v.own (numbers (length v.calls) added) in
              let new = times_numbers number (length v.calls) added in
              let before = ap (once_below number) count in
              let after = ap (λ n. once_below number (n + length added)) count in
              let all = ap (once_below number) (length_on one.history added) in
              omega (arith, was, here, more, new, before, after, all);
        },
        (
          refl,
          subst (IsPrefix v.other) (sym whole.1) mine.other,
          λ all number.
              let total : sum_by parts_of s.views ≡ v.parts = omega (arith, all, one.parts) in
              let own = only (times_of number) parts_of s.views by v at total (λ j u e none. ap (times number) ((one.each j u e).no_part none)) in
              sym own ∙ one.once number ∙ ap (once_below number) (sym count),
        ),
      )
    where
      length_on : (xs ys : List E) → length (xs ++ ys) ≡ length xs + length ys
      length_on [] ys = omega arith
      length_on (x ∷ xs) ys = (let rest = length_on xs ys in omega arith)

  -- a pass is cut in two, whose parts are those of the one, and whose calls
  cut : (by : ℕ) (v left right : HistoryView E) → (left.keeps ≡ v.keeps) → (left.calls ≡ v.calls) → ((h : List E) → IsPrefix v.other h → IsPrefix left.other h) → (left.parts ≡ 0 → left.own ≡ [])
      → ((seat : ℕ) (history : List E) (j : ℕ) → IsPrefix v.calls history → Fits seat history by v → Fits seat history j right)
      → left.parts + right.parts ≡ v.parts → ((number : ℕ) → times number left.own + times number right.own ≡ times number v.own)
      → Splits IsOne by v left right
  cut by v left right same_keeps same_calls other own fits parts calls_are s one at =
      let mine = one.each by v at in
      let vs : List (HistoryView E) = set s.views by left in
      let left_fits : Fits one.seat one.history by left = record {
        keeps = λ k. (let was = mine.keeps (sym same_keeps ∙ k) in (was.0, same_calls ∙ was.1));
        calls = subst (λ l. IsPrefix l one.history) (sym same_calls) mine.calls;
        other = other one.history mine.other;
        no_part = own;
      } in
      record {
        seat = one.seat;
        history = one.history;
        each = λ j u e. ⊎_elim
            (λ was. fits_set one.seat one.history s.views by left (λ i x _ f. one.each i x f) left_fits j u was)
            (λ (same : right ≡ u). subst (Fits one.seat one.history j) same (fits one.seat one.history j mine.calls mine))
            (at_snoc vs right u j e);
        parts = omega (arith, parts, one.parts, sum_at parts_of s.views by v left at, sum_by_push parts_of vs right);
        once = λ number.
            omega (arith, calls_are number, one.once number, sum_at (times_of number) s.views by v left at, sum_by_push (times_of number) vs right);
      }

  pub gives : (by : ℕ) (v : HistoryView E) → Splits IsOne by v (without_right v) (caller (caller_of v))
  gives by v =
      cut by v (without_right v) (caller (caller_of v)) refl refl (λ h _. (h, refl)) (λ _. refl)
      (λ seat history j is fits. fits_caller seat history j (caller_of v) is fits.no_part)
      (omega arith) (λ number. omega arith)

  pub shares : (by : ℕ) (v : HistoryView E) → 1 < v.parts → Splits IsOne by v (less_one v) (caller (new_caller v.calls))
  shares by v several =
      cut by v (less_one v) (caller (new_caller v.calls)) refl refl (λ h is. is) (λ none. absurd (omega (arith, several, none)))
      (λ seat history j is fits. fits_caller seat history j (new_caller v.calls) is (λ none. absurd (omega (arith, none))))
      (omega (arith, several)) (λ number. omega arith)

  -- a pass takes another in, and has its parts and its calls
  taken_in : (by : ℕ) (v : HistoryView E) (other : ℕ) (u both : HistoryView E)
      → ((seat : ℕ) (history : List E) → Fits seat history by v → Fits seat history other u → Fits seat history by both)
      → both.parts ≡ v.parts + u.parts → both.own ≡ v.own ++ u.own
      → Joins IsOne by v other u both spent
  taken_in by v other u both fits parts calls s one at apart there =
      let vs : List (HistoryView E) = set s.views by both in
      let was : get_elem? s.views other ≡ some u = ⊎_elim (λ (t : (other ≡ by) × (both ≡ u)). absurd (apart t.0)) (λ (t : (other ≢ by) × (get_elem? s.views other ≡ some u)). t.1) (at_set s.views by other both u there) in
      record {
        seat = one.seat;
        history = one.history;
        each = fits_set one.seat one.history vs other spent
            (λ j y _ e. fits_set one.seat one.history s.views by both (λ i x _ f. one.each i x f) (fits one.seat one.history (one.each by v at) (one.each other u was)) j y e)
            (fits_spent one.seat one.history other);
        parts = omega (arith, parts, one.parts, sum_at parts_of s.views by v both at, sum_at parts_of vs other u spent there);
        once = λ number.
            let all = ap (times number) calls ∙ times_on number v.own u.own in
            omega (arith, all, one.once number, sum_at (times_of number) s.views by v both at, sum_at (times_of number) vs other u spent there);
      }

  nobodys : (v w : HistoryView E) → (v.parts ≡ 0 → v.own ≡ []) → (w.parts ≡ 0 → w.own ≡ []) → v.parts + w.parts ≡ 0 → v.own ++ w.own ≡ []
  nobodys v w one other none = ap (λ l. l ++ w.own) (one (omega (arith, none))) ∙ other (omega (arith, none))

  pub shows : (by : ℕ) (v : HistoryView E) (other : ℕ) (u : HistoryView E) → Joins IsOne by v other u (shown v u) spent
  shows by v other u =
      taken_in by v other u (shown v u)
      (λ seat history mine theirs. record { keeps = mine.keeps; calls = mine.calls; other = theirs.calls; no_part = nobodys v u mine.no_part theirs.no_part })
      refl refl

  fits_met : (seat : ℕ) (history : List E) (by other : ℕ) (v w : HistoryView E) → Fits seat history by v → Fits seat history other w → (less : Bool) → Fits seat history by (met_if less v w)
  fits_met seat history by other v w mine theirs true =
      record { keeps = (λ e. absurd (off e)); calls = theirs.calls; other = mine.calls; no_part = nobodys v w mine.no_part theirs.no_part }
  fits_met seat history by other v w mine theirs false =
      record { keeps = (λ e. absurd (off e)); calls = mine.calls; other = theirs.calls; no_part = nobodys v w mine.no_part theirs.no_part }

  met_parts : (v w : HistoryView E) (less : Bool) → (met_if less v w).parts ≡ v.parts + w.parts
  met_parts v w true = refl
  met_parts v w false = refl

  pub met_own : (v w : HistoryView E) (less : Bool) → (met_if less v w).own ≡ v.own ++ w.own
  met_own v w true = refl
  met_own v w false = refl

  pub meets : (by : ℕ) (v : HistoryView E) (other : ℕ) (u : HistoryView E) → Joins IsOne by v other u (met v u) spent
  meets by v other u =
      taken_in by v other u (met v u) (λ seat history mine theirs. fits_met seat history by other v u mine theirs _) (met_parts v u _) (met_own v u _)

  pub compares : (slots by : ℕ) (me : Me (Unit {0}) (HistoryView E)) → Allows IsOne slots by me 0 (λ n. n) (λ _. Compares me)
  compares slots by me s one _ at _ =
      let v = me.0 in
      let mine = one.each by v at in
      let w : HistoryView E = caller (caller_of v) in (
        w,
        keeps,
        tt,
        record {
          seat = one.seat;
          history = one.history;
          each = fits_set one.seat one.history s.views by w (λ j u _ e. one.each j u e) (fits_caller one.seat one.history by (caller_of v) mine.calls mine.no_part);
          parts = changed s.views by v w at refl one.parts;
          once = λ number. omega (arith, one.once number, sum_at (times_of number) s.views by v w at);
        },
        (refl, λ le. shorter v.other v.calls one.history mine.other mine.calls le),
      )

  -- what two that met know is what one of them knew, which the other began
  begins_if : (v w : HistoryView E) (less : Bool) → nat_lt (length v.calls) (length w.calls) ≡ less → length (met_if less v w).other ≤ length (met_if less v w).calls
  begins_if v w true is = grind (arith, is)
  begins_if v w false is = grind (arith, is)

  both_if : (v w : HistoryView E) (less : Bool) → IsPrefix (met_if less v w).other (met_if less v w).calls → IsPrefix v.calls (met_if less v w).calls × IsPrefix w.calls (met_if less v w).calls
  both_if v w true is = (is, self w.calls)
  both_if v w false is = (self v.calls, is)

  pub both : (v w : HistoryView E) → (length (met v w).other ≤ length (met v w).calls → IsPrefix (met v w).other (met v w).calls)
      → IsPrefix v.calls (met v w).calls × IsPrefix w.calls (met v w).calls
  both v w is = both_if v w _ (is (begins_if v w _ refl))

  one_if : (v w : HistoryView E) (less : Bool) → ((met_if less v w).calls ≡ v.calls) ⊎ ((met_if less v w).calls ≡ w.calls)
  one_if v w true = inr refl
  one_if v w false = inl refl

  pub one_of : (v w : HistoryView E) → ((met v w).calls ≡ v.calls) ⊎ ((met v w).calls ≡ w.calls)
  one_of v w = one_if v w _
