-- What happens to the client in a cell comes out in one way, where each call has one answer.
use Rattle.std.proofs.Common.{◌≡◌, ℕ, List, [], ◌∷◌, Option, Some, None, Ok, slice_set, sym, ap, ◌∙◌, subst}
use Rattle.std.proofs.lemmas.Option.{same_Some}
use Rattle.conn_supply.specs.SupplyCalls.{SupplyCall}
use Rattle.conn_engine.specs.declared.input.Input.{Input}
use Rattle.conn_engine.specs.declared.phase.Opening.{Opening}
use Rattle.conn_laws.specs.Asking.{OneAnswer}
use Rattle.conn_laws.specs.Behind.{IsLast}
use Rattle.conn_laws.proofs.Ended.{ends_by}
use Rattle.client_table.specs.Clients.{ClientState, moment_of, StepOutput, ClientSteps}
use Rattle.client_table.specs.Streams.{fed}
use Rattle.client_table.specs.Cells.{kept, InCell, Opens, Receives, TicksFor, EndsFor}
use Rattle.client_table.proofs.OneReading.{gone, moved, read, ticked}

-- one cell becomes another, and something else comes out with it
pub in_cell : {P X : Type 0} (old new new' : List (Option (ClientState P))) (number : ℕ) (Does Also : Option (ClientState P) → Option (ClientState P) → Type 0)
    → ((before after then : Option (ClientState P)) → Does before after → Also before then → (after ≡ then) × X)
    → InCell old number Does new → InCell old number Also new' → (new ≡ new') × X
in_cell {P} old new new' number Does Also both h k =
    let before : h.before ≡ k.before = same_Some h.before k.before (sym h.has ∙ k.has) in
    let one = both h.before h.after k.after h.becomes (subst (λ b. Also b k.after) (sym before) k.becomes) in
    (h.is ∙ ap (slice_set old number) one.0 ∙ sym k.is, one.1)

pub opens : {P : Type 0} (number : ℕ) (opening : Opening) (before after then : Option (ClientState P)) → Opens number opening before after → Opens number opening before then → after ≡ then
opens number opening None after then h k = h ∙ sym k
opens number opening (Some client) after then h k = h ∙ sym k

module _ {S P : Type 0} (call : S → SupplyCall P → S → Type 0) (AreAlike : S → S → Type 0) (answers : OneAnswer call AreAlike) (slot_of : P → ℕ) where
  -- what is said, what becomes of the cell, and of what is shared
  abbrev pub AreOne : List StepOutput → List StepOutput → Option (ClientState P) → Option (ClientState P) → S → S → Type 0
  AreOne xs ys after then a b = (after ≡ then) × ((xs ≡ ys) × AreAlike a b)

  still : (a a' b b' : S) → AreAlike a b → a' ≡ a → b' ≡ b → AreAlike a' b'
  still a a' b b' alike is was = subst (λ s. AreAlike s b') (sym is) (subst (AreAlike a) (sym was) alike)

  pub received : (before : Option (ClientState P)) (a a' b b' : S) (now : ℕ) (piece : List ℕ) (xs ys : List StepOutput) (after then : Option (ClientState P)) → AreAlike a b
      → Receives call slot_of a before now piece xs (Ok tt) after a' → Receives call slot_of b before now piece ys (Ok tt) then b' → AreOne xs ys after then a' b'
  received None a a' b b' now piece xs ys after then alike h k = (h.1 ∙ sym k.1, (h.0 ∙ sym k.0, still a a' b b' alike h.2 k.2))
  received (Some client) a a' b b' now piece xs ys after then alike h k =
      let one = read call AreAlike answers slot_of xs ys a a' b b' (fed client piece) h.0 k.0 now alike h.1 k.1 in
      (h.2 ∙ ap kept one.1 ∙ sym k.2, (one.0, one.2))

  pub ticked_for : (before : Option (ClientState P)) (a a' b b' : S) (now : ℕ) (xs ys : List StepOutput) (after then : Option (ClientState P)) → AreAlike a b
      → TicksFor call slot_of a before now xs (Ok tt) after a' → TicksFor call slot_of b before now ys (Ok tt) then b' → AreOne xs ys after then a' b'
  ticked_for None a a' b b' now xs ys after then alike h k = (h.1 ∙ sym k.1, (h.0 ∙ sym k.0, still a a' b b' alike h.2 k.2))
  ticked_for (Some client) a a' b b' now xs ys after then alike h k =
      let one = ticked call AreAlike answers slot_of xs ys a a' b b' client h.0 k.0 now alike h.1 k.1 in
      (h.2 ∙ one.1 ∙ sym k.2, (one.0, one.2))

  over : (a a' : S) (client c : ClientState P) (now : ℕ) (input : Input) (x : StepOutput) → IsLast input → ClientSteps call slot_of a client now input x c a' → kept c ≡ None
  over a a' client c now input x last h =
      gone c (ends_by call slot_of a a' client.conn.number (moment_of client now) client.conn.phase c.conn.phase input x.packets x.next h.stepped last)

  pub ended_for : (before : Option (ClientState P)) (a a' b b' : S) (now : ℕ) (input : Input) (xs ys : List StepOutput) (after then : Option (ClientState P)) → IsLast input → AreAlike a b
      → EndsFor call slot_of a before now input xs (Ok tt) after a' → EndsFor call slot_of b before now input ys (Ok tt) then b' → AreOne xs ys after then a' b'
  ended_for None a a' b b' now input xs ys after then last alike h k = (h.1 ∙ sym k.1, (h.0 ∙ sym k.0, still a a' b b' alike h.2 k.2))
  ended_for (Some client) a a' b b' now input xs ys after then last alike h k =
      let one = moved call AreAlike answers slot_of a a' b b' client h.0 k.0 now input h.1.0 k.1.0 alike h.1.2 k.1.2 in (
        h.2 ∙ over a a' client h.0 now input h.1.0 last h.1.2 ∙ sym (over b b' client k.0 now input k.1.0 last k.1.2) ∙ sym k.2,
        (h.1.1 ∙ ap (λ x. x ∷ []) one.0 ∙ sym k.1.1, one.2),
      )
