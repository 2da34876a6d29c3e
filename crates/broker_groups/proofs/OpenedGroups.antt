-- Groups that were opened one after the other.
use Rattle.std.proofs.Common.{◌≡◌, ℕ, ◌+◌, ◌<◌, List, [], ◌∷◌, ◌++◌, length, length-append, slice_get, Some, All, refl, sym, ap, ◌∙◌, subst, arith}
use Rattle.std.specs.Global.{Vec}
use Rattle.std.proofs.lemmas.Option.{same_Some, slice_get_within}
use Rattle.std.proofs.lemmas.List.Elements.{All-nil, All-weaker}
use Rattle.gate_word.specs.Seats.{GateId}
use Rattle.group_queue.specs.Ports.{GroupId, PortState, IsPortOf}
use Rattle.group_queue.specs.Places.{PlaceState, IsNewPlace, IsPlaceOf}
use Rattle.broker_groups.specs.Brokers.{AreBrokerGroups, IsBrokerPlace, IsBrokerPort}
use Rattle.broker_groups.specs.Openings.{IsOpened, HasPorts, HasPlaces, AreOpened, named_by, or_none}
use Rattle.broker_groups.specs.Naming.{AreRows, HasNoneOut}
use Rattle.dispatch_core.specs.JobRuns.{count_of}
use Rattle.broker_groups.specs.Outs.{IsHandedTo}
use Rattle.broker_groups.proofs.Rows.{there, each_more, pair_more, All-at}

pub none_opened : (gate : GateId) (capacity workers : ℕ) → AreOpened gate capacity workers 0 [] [] []
none_opened gate capacity workers = record {
  groups_many = refl;
  ports_many = refl;
  places_many = refl;
  each = λ slot group is. absurd (cc);
  ports_each = λ slot group row is has. absurd (cc);
  places_each = λ slot group row is has. absurd (cc);
}

longer : {X : Type 0} (xs : List X) (x : X) (n : ℕ) → length xs ≡ n → length (xs ++ x ∷ []) ≡ n + 1
longer xs x n many = omega (arith, many, length-append xs (x ∷ []))

pub one_opened : (gate : GateId) (capacity workers count : ℕ) (groups : List GroupId) (ports : List (Vec PortState)) (places : List (Vec PlaceState)) (group : GroupId) (its : Vec PortState) (own : Vec PlaceState)
    → AreOpened gate capacity workers count groups ports places → IsOpened gate capacity workers count group → HasPorts workers group its.items → HasPlaces group own.items
    → AreOpened gate capacity workers (count + 1) (groups ++ group ∷ []) (ports ++ its ∷ []) (places ++ own ∷ [])
one_opened gate capacity workers count groups ports places group its own before is has_ports has_places = record {
  groups_many = longer groups group count before.groups_many;
  ports_many = longer ports its count before.ports_many;
  places_many = longer places own count before.places_many;
  each = each_more (IsOpened gate capacity workers) groups group count before.groups_many is before.each;
  ports_each = pair_more (λ (g : GroupId) (row : Vec PortState). HasPorts workers g row.items) groups ports group its (before.groups_many ∙ sym before.ports_many) has_ports before.ports_each;
  places_each = pair_more (λ (g : GroupId) (row : Vec PlaceState). HasPlaces g row.items) groups places group own (before.groups_many ∙ sym before.places_many) has_places before.places_each;
}

-- the groups that were opened are those of the name that they give, and so are their ports and places
pub groups_of : (gate : GateId) (capacity workers : ℕ) (groups : List GroupId) (ports : List (Vec PortState)) (places : List (Vec PlaceState)) → AreOpened gate capacity workers 8 groups ports places
    → AreBrokerGroups gate (named_by groups) groups
groups_of gate capacity workers groups ports places opened = record {
  all = opened.groups_many;
  each = λ slot it is. (sym (ap or_none is), (opened.each slot it is).slot_is, (opened.each slot it is).gate_is);
}

pub ports_of : (gate : GateId) (capacity workers : ℕ) (groups : List GroupId) (ports : List (Vec PortState)) (places : List (Vec PlaceState)) → AreOpened gate capacity workers 8 groups ports places
    → AreRows (named_by groups) workers 0 ports
ports_of gate capacity workers groups ports places opened = record {
  many = λ k row is. let it = the_group k row is in (opened.ports_each k it.0 row it.1 is).new.all;
  its = λ k row is. let it = the_group k row is in
      subst (λ n. All (IsBrokerPort (named_by groups) n) row.items) (at_zero k)
      (All-weaker (IsPortOf it.0) (IsBrokerPort (named_by groups) k) (λ port of. (of.0 ∙ (opened.each k it.0 it.1).slot_is, subst (λ (g : GroupId). IsPortOf g port) (sym (ap or_none it.1)) of)) row.items (opened.ports_each k it.0 row it.1 is).its);
}
  where
    the_group : (k : ℕ) (row : Vec PortState) → slice_get ports k ≡ Some row → (g : GroupId) × (slice_get groups k ≡ Some g)
    the_group k row is = there groups k (let less = slice_get_within ports k row is in omega (arith, less, opened.groups_many, opened.ports_many))

    at_zero : (k : ℕ) → k ≡ 0 + k
    at_zero k = omega arith

place_of : (gate : GateId) (capacity workers slot : ℕ) (groups : List GroupId) (group : GroupId) (place : PlaceState) → slot < 8 → slice_get groups slot ≡ Some group → IsOpened gate capacity workers slot group → IsPlaceOf group place
    → IsBrokerPlace (named_by groups) place
place_of gate capacity workers slot groups group place less is opened of =
    let at : slot ≡ place.group = sym (of.slot ∙ opened.slot_is) in
    record {
      slot = omega (arith, less, at);
      number = omega (arith, of.number, opened.places_are);
      of = subst (λ n. IsPlaceOf (named_by groups n) place) at (subst (λ (g : GroupId). IsPlaceOf g place) (sym (ap or_none is)) of);
    }

pub places_of : (gate : GateId) (capacity workers : ℕ) (groups : List GroupId) (ports : List (Vec PortState)) (places : List (Vec PlaceState)) → AreOpened gate capacity workers 8 groups ports places
    → All (λ (row : Vec PlaceState). All (IsBrokerPlace (named_by groups)) row.items) places
places_of gate capacity workers groups ports places opened =
    All-at (λ (row : Vec PlaceState). All (IsBrokerPlace (named_by groups)) row.items) places (λ k row is.
    let less : k < 8 = (let within = slice_get_within places k row is in omega (arith, within, opened.places_many)) in
    let it = there groups k (omega (arith, less, opened.groups_many)) in
    All-weaker (IsPlaceOf it.0) (IsBrokerPlace (named_by groups)) (λ place of. place_of gate capacity workers k groups it.0 place less it.1 (opened.each k it.0 it.1) of) row.items (opened.places_each k it.0 row it.1 is).its)

none_out : (group : GroupId) (number : ℕ) (place : PlaceState) → IsNewPlace group number place → HasNoneOut place
none_out group number place new = record { its = All-nil (IsHandedTo place); jobs = λ job. sym (ap (count_of job) new.out) }

pub fresh_of : (gate : GateId) (capacity workers : ℕ) (groups : List GroupId) (ports : List (Vec PortState)) (places : List (Vec PlaceState)) → AreOpened gate capacity workers 8 groups ports places
    → All (λ (row : Vec PlaceState). All HasNoneOut row.items) places
fresh_of gate capacity workers groups ports places opened =
    All-at (λ (row : Vec PlaceState). All HasNoneOut row.items) places (λ slot row is.
    let it = there groups slot (let within = slice_get_within places slot row is in omega (arith, within, opened.groups_many, opened.places_many)) in
    let new = (opened.places_each slot it.0 row it.1 is).new in
    All-at HasNoneOut row.items (λ number place at.
    let found = new.each number (let within = slice_get_within row.items number place at in omega (arith, within, new.all)) in
    subst HasNoneOut (same_Some found.0 place (sym found.1 ∙ at)) (none_out it.0 number found.0 found.2)))
