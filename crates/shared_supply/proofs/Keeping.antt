-- Of a list of numbers each is lowered to that of another list, one after the other, and what goes stands in a third.
use Rattle.std.proofs.Common.{◌≡◌, ◌≢◌, ◌<◌, ℕ, ◌+◌, ◌-◌, ◌≤◌, List, length, get_or, sym, subst, ap, ◌∙◌, ⊎_elim, arith}
use Rattle.std.specs.Prelude.{min, slice_set}
use Rattle.std.proofs.lemmas.Bool.{cases_eq}
use Rattle.std.proofs.lemmas.List.{get_or-set_same, get_or-set_other}

module _ (old now most : List ℕ) (at kept : ℕ) (within : at < length now) (is_kept : kept ≡ min (get_or now at 0) (get_or most at 0)) (was : get_or now at 0 ≡ get_or old at 0) where
  pub kept_more : ((slot : ℕ) → slot < at → get_or now slot 0 ≡ min (get_or old slot 0) (get_or most slot 0))
      → (slot : ℕ) → slot < at + 1 → get_or (slice_set now at kept) slot 0 ≡ min (get_or old slot 0) (get_or most slot 0)
  kept_more below slot less = ⊎_elim
      (λ (is : slot ≡ at). subst (λ n. get_or (slice_set now at kept) n 0 ≡ min (get_or old n 0) (get_or most n 0)) (sym is) (get_or-set_same now at kept 0 within ∙ (is_kept ∙ ap (λ n. min n (get_or most at 0)) was)))
      (λ (other : slot ≢ at). get_or-set_other now at slot kept 0 other ∙ below slot (omega (arith, less, other)))
      (cases_eq slot at)

  pub all_more : (others : List ℕ) → at < length others → ((slot : ℕ) → slot < at → get_or others slot 0 + get_or now slot 0 ≡ get_or old slot 0)
      → (slot : ℕ) → slot < at + 1 → get_or (slice_set others at (get_or now at 0 - kept)) slot 0 + get_or (slice_set now at kept) slot 0 ≡ get_or old slot 0
  all_more others within' below slot less =
      let gone = get_or now at 0 - kept in
      ⊎_elim
      (λ (is : slot ≡ at). subst (λ n. get_or (slice_set others at gone) n 0 + get_or (slice_set now at kept) n 0 ≡ get_or old n 0) (sym is)
      (omega (arith, get_or-set_same others at gone 0 within', get_or-set_same now at kept 0 within, is_kept, was)))
      (λ (other : slot ≢ at). omega (arith, get_or-set_other others at slot gone 0 other, get_or-set_other now at slot kept 0 other, below slot (omega (arith, less, other))))
      (cases_eq slot at)

  pub left_more : ((slot : ℕ) → at ≤ slot → get_or now slot 0 ≡ get_or old slot 0) → (slot : ℕ) → at + 1 ≤ slot → get_or (slice_set now at kept) slot 0 ≡ get_or old slot 0
  left_more left slot more = get_or-set_other now at slot kept 0 (λ is. absurd (omega (arith, more, is))) ∙ left slot (omega (arith, more))
