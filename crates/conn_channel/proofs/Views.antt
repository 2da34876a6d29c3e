-- The lists of all passes, where the view of one changes.
use Rattle.std.proofs.Common.{◌≡◌, ◌≢◌, ℕ, zero, suc, List, [], ◌∷◌, ◌++◌, set, refl, sym, ap, subst, ◌∙◌, append_assoc, append-nil}
use Rattle.std.proofs.lemmas.List.{set-set, set_comm}
use mathlib.Core.Option.{some, some-injective, some-ne-none}
use lib.ListN.{get_elem?}
use Rattle.atomic_table.proofs.Lists.{set_here, set_else}
use Rattle.conn_channel.specs.declared.view.PassView.{PassView}
use Rattle.conn_channel.specs.Rule.{no_pass_view, joined, received_lists}
use Rattle.conn_channel.proofs.Sums.{within}
use Rattle.conn_channel.proofs.Interleavings.{IsRearranged, after, unchanged, back, behind, exchanged}

module _ {T : Type 0} where
  -- all passes but one
  abbrev pub without : List (PassView T) → ℕ → List (PassView T)
  without views pass = set views pass no_pass_view

  -- the lists of one pass stand before those of the others
  pub first_of : (views : List (PassView T)) (pass : ℕ) (v : PassView T) → get_elem? views pass ≡ some v → IsRearranged (received_lists views) (v.received ++ received_lists (without views pass))
  first_of [] pass v at = absurd (some-ne-none v (sym at))
  first_of (u ∷ rest) zero v at =
      subst (λ (w : PassView T). IsRearranged (u.received ++ received_lists rest) (w.received ++ received_lists rest)) (some-injective u v at) (unchanged (u.received ++ received_lists rest))
  first_of (u ∷ rest) (suc pass) v at =
      let more = received_lists (without rest pass) in
      after (behind u.received (received_lists rest) (v.received ++ more) (first_of rest pass v at)) (exchanged u.received v.received more)

  -- and so do those of a view that it has then
  pub first_of_new : (views : List (PassView T)) (pass : ℕ) (v w : PassView T) → get_elem? views pass ≡ some v → IsRearranged (received_lists (set views pass w)) (w.received ++ received_lists (without views pass))
  first_of_new views pass v w at =
      subst (λ l. IsRearranged (received_lists (set views pass w)) (w.received ++ received_lists l)) (set-set views pass w no_pass_view)
      (first_of (set views pass w) pass w (set_here views pass w (within views pass v at)))

  -- where the lists of a view stay, those of all do
  pub same_lists : (views : List (PassView T)) (pass : ℕ) (v w : PassView T) → get_elem? views pass ≡ some v → w.received ≡ v.received → IsRearranged (received_lists views) (received_lists (set views pass w))
  same_lists views pass v w at same =
      let others = received_lists (without views pass) in
      let new : IsRearranged (received_lists (set views pass w)) (v.received ++ others) =
      subst (λ l. IsRearranged (received_lists (set views pass w)) (l ++ others)) same (first_of_new views pass v w at) in
      after (first_of views pass v at) (back (received_lists (set views pass w)) (v.received ++ others) new)

  -- a new pass with one list in which nothing is
  pub lists_push : (views : List (PassView T)) (new : PassView T) → received_lists (views ++ new ∷ []) ≡ received_lists views ++ new.received
  lists_push [] new = append-nil new.received
  lists_push (v ∷ rest) new = ap (λ l. v.received ++ l) (lists_push rest new) ∙ sym (append_assoc v.received (received_lists rest) new.received)

  -- one pass takes in the lists of another
  pub joins_lists : (views : List (PassView T)) (pass other : ℕ) (v w : PassView T) → get_elem? views pass ≡ some v → get_elem? views other ≡ some w → other ≢ pass
      → IsRearranged (received_lists views) (received_lists (set (set views pass (joined v w)) other no_pass_view))
  joins_lists views pass other v w at at' apart =
      let all : PassView T = joined v w in
      let neither = without (without views pass) other in
      let others = received_lists neither in
      let old : IsRearranged (received_lists views) (v.received ++ (w.received ++ others)) =
      after (first_of views pass v at)
      (behind v.received (received_lists (without views pass)) (w.received ++ others) (first_of (without views pass) other w (set_else views pass other no_pass_view apart ∙ at'))) in
      let joining = set (set views pass all) other no_pass_view in
      let there : get_elem? joining pass ≡ some all =
      set_else (set views pass all) other pass no_pass_view (λ e. apart (sym e)) ∙ set_here views pass all (within views pass v at) in
      let is_neither : without joining pass ≡ neither =
      set_comm (set views pass all) other pass no_pass_view no_pass_view apart ∙ ap (λ l. set l other no_pass_view) (set-set views pass all no_pass_view) in
      let new : IsRearranged (received_lists joining) ((w.received ++ v.received) ++ others) =
      subst (λ l. IsRearranged (received_lists joining) ((w.received ++ v.received) ++ received_lists l)) is_neither (first_of joining pass all there) in
      let new' : IsRearranged (received_lists joining) (w.received ++ (v.received ++ others)) =
      subst (λ l. IsRearranged (received_lists joining) l) (append_assoc w.received v.received others) new in
      after old (after (exchanged v.received w.received others) (back (received_lists joining) (w.received ++ (v.received ++ others)) new'))

  -- where nobody has a list, there is none
  pub no_lists : (views : List (PassView T)) → ((j : ℕ) (u : PassView T) → get_elem? views j ≡ some u → u.received ≡ []) → received_lists views ≡ []
  no_lists [] none = refl
  no_lists (v ∷ rest) none = ap (λ l. l ++ received_lists rest) (none 0 v refl) ∙ no_lists rest (λ j u at. none (suc j) u at)
