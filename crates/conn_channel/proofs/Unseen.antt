-- What the rule tells without a look: whatever an end that receives knows, there is a moment at which the channel is empty by the rule alone. So an end that
-- answers that there is nothing, and has not looked, lacks nothing but what the witness saw. A wrong body cites this lemma.
use Rattle.std.proofs.Common.{◌≡◌, ℕ, zero, suc, List, [], ◌∷◌, ◌++◌, refl, sym, ap, ◌∙◌, arith, append-nil}
use mathlib.Core.Option.{some, some-injective, some-ne-none}
use lib.ListN.{get_elem?}
use Rattle.conn_channel.specs.declared.sent.Sent.{Sent}
use Rattle.conn_channel.specs.declared.view.PassView.{PassView}
use Rattle.conn_channel.specs.Interleavings.{IsInterleaving}
use Rattle.conn_channel.specs.Rule.{pass_view, receiving_pass_view, IsWithinRights}
use Rattle.conn_channel.specs.Witnesses.{Saw}

module _ {T : Type 0} where
  own_end : IsInterleaving {T = T} [] ([] ∷ [])
  own_end zero l at = sym (some-injective [] l at)
  own_end (suc i) l at = absurd (some-ne-none l (sym at))

  own : (list : List T) → IsInterleaving list (list ∷ [])
  own [] = own_end
  own (x ∷ rest) = (0, rest, refl, own rest)

  -- this end received all that was sent
  abbrev pub all_received : List T → ℕ → List (PassView T)
  all_received list n = receiving_pass_view list n ∷ pass_view 127 1 list n [] 0 ∷ []

  rights : (list : List T) (n : ℕ) (pass : ℕ) (v : PassView T) → get_elem? (all_received list n) pass ≡ some v → IsWithinRights v
  rights list n zero v at =
      let is : receiving_pass_view list n ≡ v = some-injective (receiving_pass_view list n) v at in
      let parts : 1 ≡ v.parts = ap (λ (u : PassView T). u.parts) is in
      record { no_part = λ none. absurd (omega (arith, parts, none)); no_right = λ none. sym (ap (λ (u : PassView T). u.end_marks_sent) is) }
  rights list n (suc zero) v at =
      let is : pass_view 127 1 list n [] 0 ≡ v = some-injective (pass_view 127 1 list n [] 0) v at in
      let parts : 127 ≡ v.parts = ap (λ (u : PassView T). u.parts) is in
      let sends : 1 ≡ v.sends = ap (λ (u : PassView T). u.sends) is in
      record { no_part = λ none. absurd (omega (arith, parts, none)); no_right = λ none. absurd (omega (arith, sends, none)) }
  rights list n (suc (suc pass)) v at = absurd (some-ne-none v (sym at))

  sent : (list : List T) (n : ℕ) (pass : ℕ) (v : PassView T) → get_elem? (all_received list n) pass ≡ some v → v.sends ≡ 1 → v.sent ≡ list ++ []
  sent list n zero v at right = let none : 0 ≡ v.sends = ap (λ (u : PassView T). u.sends) (some-injective (receiving_pass_view list n) v at) in absurd (omega (arith, none, right))
  sent list n (suc zero) v at right = sym (ap (λ (u : PassView T). u.sent) (some-injective (pass_view 127 1 list n [] 0) v at)) ∙ sym (append-nil list)
  sent list n (suc (suc pass)) v at right = absurd (some-ne-none v (sym at))

  pub empty_again : (saw : List (Sent T) → List (PassView T) → Type 0) (list : List T) (n : ℕ) → saw [] (all_received list n) → Saw saw (receiving_pass_view list n) []
  empty_again saw list n seen = record {
    views = all_received list n;
    pass = 0;
    there = refl;
    holds = record {
      parts = refl;
      sends = refl;
      rights = rights list n;
      past = list;
      received = own list;
      sent = sent list n;
      end_marks = omega arith;
      ordered = tt;
      last = λ some. refl;
    };
    seen = seen;
  }
