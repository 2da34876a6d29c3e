-- How things are sorted, one by one.
use Rattle.std.proofs.Common.{◌≡◌, ◌≢◌, ℕ, ◌+◌, ◌<◌, ◌≤◌, cond, List, [], ◌∷◌, ◌++◌, length, append_assoc, slice_get, Some, All, vec_len, vec_capacity, refl, sym, ap, ◌∙◌, subst, arith}
use Rattle.std.specs.Prelude.{slice_set}
use Rattle.std.specs.Global.{Vec}
use Rattle.std.proofs.lemmas.Bool.{eq-eqb, ne_eqb}
use Rattle.std.proofs.lemmas.List.{length-set}
use Rattle.std.proofs.lemmas.Option.{none-some, slice_get_within}
use Rattle.group_queue.specs.Ports.{GroupId, PortState}
use Rattle.broker_groups.specs.Brokers.{AreBrokerPorts, IsBrokerPort}
use Rattle.broker_groups.specs.Sorting.{at_slot, AreSorted, IsEmptyRow, Puts}
use Rattle.broker_groups.proofs.Rows.{All-at, All_there, each_more, each_set}

module _ {X : Type 0} (IsOf : ℕ → X → Type 0) (slot_of : X → ℕ) (count : ℕ) where
  -- before the first
  pub begins : (room : ℕ) (all : List X) (rows : List (Vec X)) → length rows ≡ count → All (IsEmptyRow room) rows → length all ≤ room → AreSorted IsOf slot_of count all all rows
  begins room all rows many empty enough = record {
    many = many;
    each = λ slot row there. ap (λ l. l ++ at_slot slot_of slot all) (row_at slot row there).none;
    room = λ slot row there. let is = row_at slot row there in omega (arith, is.len, is.room_is, enough);
    its = λ slot row k x there is. absurd (none-some x (sym (ap (λ l. slice_get l k) (row_at slot row there).none) ∙ is));
  }
    where
      row_at : (slot : ℕ) (row : Vec X) → slice_get rows slot ≡ Some row → IsEmptyRow room row
      row_at slot row there = All_there (IsEmptyRow room) rows slot row empty there

  -- there is room for the next
  pub room_for : (all rest : List X) (rows : List (Vec X)) (x : X) (next : List X) → AreSorted IsOf slot_of count all next rows → next ≡ x ∷ rest → (slot : ℕ) (row : Vec X) → slice_get rows slot ≡ Some row → vec_len row < vec_capacity row
  room_for all rest rows x next sorted is slot row there = let room = sorted.room slot row there in omega (arith, room, ap length is)

  skipped : (slot : ℕ) (x : X) (rest : List X) → slot ≢ slot_of x → at_slot slot_of slot (x ∷ rest) ≡ at_slot slot_of slot rest
  skipped slot x rest other = ap (λ b. cond b (x ∷ at_slot slot_of slot rest) (at_slot slot_of slot rest)) (ne_eqb (slot_of x) slot (λ same. other (sym same)))

  found : (slot : ℕ) (x : X) (rest : List X) → slot_of x ≡ slot → at_slot slot_of slot (x ∷ rest) ≡ x ∷ at_slot slot_of slot rest
  found slot x rest same = ap (λ b. cond b (x ∷ at_slot slot_of slot rest) (at_slot slot_of slot rest)) (eq-eqb (slot_of x) slot same)

  -- one more
  pub put_more : (all rest next : List X) (rows new : List (Vec X)) (x : X) (at : ℕ) → at ≡ slot_of x → next ≡ x ∷ rest → IsOf at x → AreSorted IsOf slot_of count all next rows → Puts rows at x new → AreSorted IsOf slot_of count all rest new
  put_more all rest next rows new x at here is of sorted puts = record {
    many = ap length puts.becomes ∙ length-set rows at puts.after ∙ sorted.many;
    each = λ slot row there. each_set (λ k (r : Vec X). r.items ++ at_slot slot_of k rest ≡ at_slot slot_of k all) rows at puts.after less in_row
        (λ k r other old. ap (λ l. r.items ++ l) (sym (skipped k x rest (λ same. other (same ∙ sym here))) ∙ ap (at_slot slot_of k) (sym is)) ∙ sorted.each k r old) slot row (in_new slot row there);
    room = λ slot row there. each_set (λ k (r : Vec X). vec_len r + length rest ≤ vec_capacity r) rows at puts.after less
        (let room = sorted.room at puts.before puts.there in omega (arith, room, ap length is, puts.longer, puts.room_is))
        (λ k r other old. let room = sorted.room k r old in omega (arith, room, ap length is)) slot row (in_new slot row there);
    its = λ slot row k y there is_y. each_set (λ j (r : Vec X). (n : ℕ) (z : X) → slice_get r.items n ≡ Some z → IsOf j z) rows at puts.after less
        (λ n z z_is. each_more (λ m (w : X). IsOf at w) puts.before.items x (length puts.before.items) refl of (λ m w w_is. sorted.its at puts.before m w puts.there w_is) n z (ap (λ l. slice_get l n) (sym puts.items_are) ∙ z_is))
        (λ j r other old n z z_is. sorted.its j r n z old z_is) slot row (in_new slot row there) k y is_y;
  }
    where
      less : at < length rows
      less = slice_get_within rows at puts.before puts.there

      in_new : (slot : ℕ) (row : Vec X) → slice_get new slot ≡ Some row → slice_get (slice_set rows at puts.after) slot ≡ Some row
      in_new slot row there = ap (λ l. slice_get l slot) (sym puts.becomes) ∙ there

      in_row : puts.after.items ++ at_slot slot_of at rest ≡ at_slot slot_of at all
      in_row =
          ap (λ l. l ++ at_slot slot_of at rest) puts.items_are ∙ append_assoc puts.before.items (x ∷ []) (at_slot slot_of at rest)
          ∙ ap (λ l. puts.before.items ++ l) (sym (found at x rest (sym here)) ∙ ap (at_slot slot_of at) (sym is))
          ∙ sorted.each at puts.before puts.there

-- each of a worker's ports is of its own slot
abbrev pub IsOwnPort : (ℕ → GroupId) → PortState → Type 0
IsOwnPort group port = (port.group < 8) × IsBrokerPort group port.group port

pub own_ports : (group : ℕ → GroupId) (ports : List PortState) → AreBrokerPorts group ports → All (IsOwnPort group) ports
own_ports group ports are =
    All-at (IsOwnPort group) ports (λ k port is.
    let of = are.each k port is in
    let less = slice_get_within ports k port is in
    (omega (arith, less, are.all, of.0), subst (λ n. IsBrokerPort group n port) (sym of.0) of))
