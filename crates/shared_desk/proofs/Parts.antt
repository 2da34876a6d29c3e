-- The calls of a history: its parts, and who has a session in hands.
use Rattle.std.proofs.Common.{◌≡◌, ℕ, ◌+◌, ◌<◌, ◌≤◌, List, [], ◌∷◌, ◌++◌, Bool, true, false, Some, None, Option, refl, ap, subst, arith, if◌then◌else◌}
use Rattle.std.specs.Ordering.{nat_cmp}
use Rattle.std.specs.FinMap as map
use Rattle.std.specs.FinMap.{get-empty}
use Rattle.session_desk.specs.declared.row.Row.{Row}
use Rattle.session_desk.specs.Books.{Books, new_books}
use Rattle.session_desk.specs.Calls.{Call, MakesAll}
use Rattle.session_desk.specs.Hands.{handed_in, handed_out, total, out_of_row, is_out}
use Rattle.session_desk.proofs.OneHand.{hands_all, law_new}

module _ {E P : Type 0} (cell : P → ℕ) where
  -- what all calls made, the first of them made, and the others of that
  pub parts : (calls more : List (Call E P)) (old new : Books E P) → MakesAll cell old (calls ++ more) new
      → (mid : Books E P) × MakesAll cell old calls mid × MakesAll cell mid more new
  parts [] more old new all = (old, refl, all)
  parts (call ∷ calls) more old new all =
      let rest = parts calls more all.1.0 new all.1.2 in
      (rest.0, (all.0, (all.1.0, all.1.1, rest.1)), rest.2)

  few_outs : (row : Option (Row E P)) → out_of_row row ≤ 1
  few_outs None = omega arith
  few_outs (Some row) = by (is_out row.held_by)
    where
      by : (b : Bool) → (if b then 1 else 0) ≤ 1
      by true = omega arith
      by false = omega arith

  -- a session was handed out as often as it was handed in, or once more
  pub hands : (calls : List (Call E P)) (books : Books E P) (number : ℕ) → MakesAll cell new_books calls books
      → (total (handed_in number) calls ≤ total (handed_out number) calls) × (total (handed_out number) calls ≤ total (handed_in number) calls + 1)
  hands calls books number made =
      let all = hands_all cell new_books books calls number law_new made in
      let none = ap out_of_row (get-empty {X = Row E P} nat_cmp number) in
      let few = few_outs (map.get books.rows number) in
      (omega arith, omega arith)

  pub total_on : (count : Call E P → ℕ) (calls more : List (Call E P)) → total count (calls ++ more) ≡ total count calls + total count more
  total_on count [] more = omega arith
  total_on count (call ∷ calls) more = (let rest = total_on count calls more in omega arith)

  -- between two calls that hand it out, one hands it in
  pub between : (before within after : List (Call E P)) (one other : Call E P) (books : Books E P) (number : ℕ)
      → MakesAll cell new_books (before ++ one ∷ (within ++ other ∷ after)) books
      → handed_in number one ≡ 0 → 0 < handed_out number one → 0 < handed_out number other
      → 0 < total (handed_in number) (within ++ other ∷ [])
  between before within after one other books number made none out again =
      let first = parts before (one ∷ (within ++ other ∷ after)) new_books books made in
      let start = hands before first.0 number first.1 in
      let rest = parts within (other ∷ after) first.2.1.0 books first.2.1.2 in
      let whole : MakesAll cell first.0 (one ∷ (within ++ other ∷ [])) rest.2.1.0 =
      (first.2.0, (first.2.1.0, first.2.1.1, joined within (other ∷ []) first.2.1.0 rest.0 rest.2.1.0 rest.1 (rest.2.0, (rest.2.1.0, rest.2.1.1, refl)))) in
      let all = joined before (one ∷ (within ++ other ∷ [])) new_books first.0 rest.2.1.0 first.1 whole in
      let end = hands (before ++ one ∷ (within ++ other ∷ [])) rest.2.1.0 number all in
      let outs_are = total_on (handed_out number) before (one ∷ (within ++ other ∷ [])) in
      let ins_are = total_on (handed_in number) before (one ∷ (within ++ other ∷ [])) in
      let outs_within = total_on (handed_out number) within (other ∷ []) in
      omega arith
    where
      joined : (calls more : List (Call E P)) (old mid new : Books E P) → MakesAll cell old calls mid → MakesAll cell mid more new → MakesAll cell old (calls ++ more) new
      joined [] more old mid new all later = subst (λ b. MakesAll cell b more new) all later
      joined (call ∷ calls) more old mid new all later = (all.0, (all.1.0, all.1.1, joined calls more all.1.0 mid new all.1.2 later))
