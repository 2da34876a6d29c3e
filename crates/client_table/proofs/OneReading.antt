-- What a client sent is read in one way, where each call has one answer.
use Rattle.std.proofs.Common.{◌≡◌, ◌≢◌, ◌⊎◌, ℕ, List, [], ◌∷◌, Some, None, refl, sym, ap, ◌∙◌, subst, ⊎_elim, inl, inr}
use Rattle.std.proofs.lemmas.Option.{same_Some}
use Rattle.mqtt_fields.specs.declared.fault.StreamFault.{StreamFault}
use Rattle.mqtt_packet.specs.declared.packet.Packet.{Packet}
use Rattle.mqtt_wire.specs.Stream.{Unread, Takes, Stops, IsOpen, FaultAt}
use Rattle.mqtt_wire.proofs.StreamLaws.{one_packet, not_open, no_fault, one_reading}
use Rattle.conn_supply.specs.declared.reply.Then.{Then}
use Rattle.conn_supply.specs.declared.reply.Then.TheVariants.{Go}
use Rattle.conn_supply.specs.SupplyCalls.{SupplyCall}
use Rattle.conn_engine.specs.declared.input.Input.{Input}
use Rattle.conn_engine.specs.declared.input.Input.TheVariants as inputs
use Rattle.conn_engine.specs.declared.phase.ConnPhase.{ConnPhase}
use Rattle.conn_engine.specs.declared.phase.ConnPhase.TheVariants.{Unconnected, Waiting, Connected, Ended}
use Rattle.conn_laws.specs.Asking.{OneAnswer}
use Rattle.conn_engine.specs.Phases.{IsWaiting}
use Rattle.conn_engine.specs.Step.{Steps}
use Rattle.conn_laws.proofs.OneStep.{stepped}
use Rattle.conn_laws.proofs.Ended.{ends}
use Rattle.client_table.specs.Clients.{ClientState, moment_of, StepOutput, ClientSteps}
use Rattle.client_table.specs.Streams.{IsRead, IsInFront, Closes, ReadsOne, ReadsLast, Reads, Ticks}
use Rattle.client_table.specs.Cells.{kept, kept_as}

some_not : {A : Type 0} (a : A) → Some a ≡ None → ⊥
some_not a e = cc

-- one packet stands in front
takes_one : (old u v : Unread) (p q : Packet) → Takes old p u → Takes old q v → (p ≡ q) × (u ≡ v)
takes_one old u v p q h k =
    let one = one_packet p q h.front u.bytes k.front v.bytes h.spelled k.spelled (sym h.parts ∙ k.parts) in
    (one.0, λ i. record { bytes = one.2 i; fault = (h.goes_on ∙ sym k.goes_on) i })

-- where it stands, there is no fault, and the stream is not open
no_fault_there : (old u : Unread) (p : Packet) (f : StreamFault) → Takes old p u → ((old.fault ≡ Some f) ⊎ ((old.fault ≡ None) × FaultAt f old.bytes)) → ⊥
no_fault_there old u p f h met =
    ⊎_elim
    (λ (before : old.fault ≡ Some f). some_not f (sym before ∙ h.sound))
    (λ (now : (old.fault ≡ None) × FaultAt f old.bytes). no_fault p h.front u.bytes f h.spelled (subst (FaultAt f) h.parts now.1))
    met

not_open_there : (old u : Unread) (p : Packet) → Takes old p u → IsOpen old.bytes → ⊥
not_open_there old u p h is = not_open p h.front u.bytes h.spelled (subst IsOpen h.parts is)

-- a fault is one, and the stream is not open then
one_fault : (bytes : List ℕ) (f g : StreamFault) → FaultAt f bytes → FaultAt g bytes → f ≡ g
one_fault bytes f g h k = same_Some f g (one_reading bytes [] bytes (Some f) [] bytes (Some g) (refl, h) (refl, k)).2

open_or_fault : (bytes : List ℕ) (f : StreamFault) → IsOpen bytes → FaultAt f bytes → ⊥
open_or_fault bytes f is k = some_not f (sym (one_reading bytes [] bytes None [] bytes (Some f) (refl, is) (refl, k)).2)

met_one : (old : Unread) (f g : StreamFault) → ((old.fault ≡ Some f) ⊎ ((old.fault ≡ None) × FaultAt f old.bytes)) → ((old.fault ≡ Some g) ⊎ ((old.fault ≡ None) × FaultAt g old.bytes)) → f ≡ g
met_one old f g (inl h) (inl k) = same_Some f g (sym h ∙ k)
met_one old f g (inl h) (inr k) = absurd (some_not f (sym h ∙ k.0))
met_one old f g (inr h) (inl k) = absurd (some_not g (sym k ∙ h.0))
met_one old f g (inr h) (inr k) = one_fault old.bytes f g h.1 k.1

stops_one : (old u v : Unread) (f g : StreamFault) → Stops old f u → Stops old g v → (f ≡ g) × (u ≡ v)
stops_one old u v f g h k =
    let same = met_one old f g h.1 k.1 in
    (same, h.0 ∙ (λ i. record { bytes = old.bytes; fault = Some (same i) }) ∙ sym k.0)

-- what stands in front is one
front_one : (old u v : Unread) (x y : Input) → IsInFront old x u → IsInFront old y v → (x ≡ y) × (u ≡ v)
front_one old u v (inputs.Packet p) (inputs.Packet q) h k = let one = takes_one old u v p q h k in (ap inputs.Packet one.0, one.1)
front_one old u v (inputs.Packet p) (inputs.Fault g) h k = absurd (no_fault_there old u p g h k.1)
front_one old u v (inputs.Fault f) (inputs.Packet q) h k = absurd (no_fault_there old v q f k h.1)
front_one old u v (inputs.Fault f) (inputs.Fault g) h k = let one = stops_one old u v f g h k in (ap inputs.Fault one.0, one.1)
front_one old u v inputs.Tick y h k = absurd h
front_one old u v inputs.EndOfInput y h k = absurd h
front_one old u v inputs.Closing y h k = absurd h
front_one old u v x inputs.Tick h k = absurd k
front_one old u v x inputs.EndOfInput h k = absurd k
front_one old u v x inputs.Closing h k = absurd k

-- where something stands in front, all is not read, unless the connection waits
front_not_read : (old u : Unread) (input : Input) → IsInFront old input u → (old.fault ≡ None) × IsOpen old.bytes → ⊥
front_not_read old u (inputs.Packet p) h is = not_open_there old u p h is.1
front_not_read old u (inputs.Fault f) h is =
    ⊎_elim
    (λ (before : old.fault ≡ Some f). some_not f (sym before ∙ is.0))
    (λ (now : (old.fault ≡ None) × FaultAt f old.bytes). open_or_fault old.bytes f is.1 now.1)
    h.1
front_not_read old u inputs.Tick h is = absurd h
front_not_read old u inputs.EndOfInput h is = absurd h
front_not_read old u inputs.Closing h is = absurd h

-- a client that is gone is none
pub gone : {P : Type 0} (client : ClientState P) → client.conn.phase ≡ Ended → kept client ≡ None
gone client over = ap (λ s. kept_as s client) over

module _ {S P : Type 0} (call : S → SupplyCall P → S → Type 0) (slot_of : P → ℕ) where
  -- a connection that waits takes nothing in
  waits_for_none : (phase : ConnPhase P) (old u : Unread) (input : Input) (a a' : S) (number now : ℕ) (xs : List Packet) (next : Then) (t : ConnPhase P) → IsWaiting phase → IsInFront old input u
      → Steps call slot_of a number phase now input xs next t a' → ⊥
  waits_for_none (Unconnected opened) old u input a a' number now xs next t waits front steps = absurd waits
  waits_for_none (Waiting request ticks) old u (inputs.Packet p) a a' number now xs next t waits front steps = steps.reacts
  waits_for_none (Waiting request ticks) old u (inputs.Fault f) a a' number now xs next t waits front steps = steps.reacts
  waits_for_none (Waiting request ticks) old u inputs.Tick a a' number now xs next t waits front steps = absurd front
  waits_for_none (Waiting request ticks) old u inputs.EndOfInput a a' number now xs next t waits front steps = absurd front
  waits_for_none (Waiting request ticks) old u inputs.Closing a a' number now xs next t waits front steps = absurd front
  waits_for_none (Connected connected) old u input a a' number now xs next t waits front steps = absurd waits
  waits_for_none Ended old u input a a' number now xs next t waits front steps = absurd waits

  not_read : (client c : ClientState P) (input : Input) (u : Unread) (a a' : S) (now : ℕ) (x : StepOutput) → IsRead client → IsInFront client.unread input u → ClientSteps call slot_of a client now input x c a' → ⊥
  not_read client c input u a a' now x (inl waits) front moves =
      waits_for_none client.conn.phase client.unread u input a a' client.conn.number (moment_of client now) x.packets x.next c.conn.phase waits front moves.stepped
  not_read client c input u a a' now x (inr is) front moves = front_not_read client.unread u input front is

  not_read_on : {A : Type 0} (client c : ClientState P) (a a' : S) (now : ℕ) (x : StepOutput) (xs : List StepOutput) → IsRead client → Reads call slot_of a client now (x ∷ xs) c a' → A
  not_read_on client c a a' now x xs is (inl last) = absurd (not_read client c last.0.input c.unread a a' now x is last.0.front last.0.moved)
  not_read_on client c a a' now x xs is (inr more) = absurd (not_read client more.0 (inputs.Packet more.2.packet) more.0.unread a more.1 now x is more.2.taken more.2.moved)

module _ {S P : Type 0} (call : S → SupplyCall P → S → Type 0) (AreAlike : S → S → Type 0) (answers : OneAnswer call AreAlike) (slot_of : P → ℕ) where
  -- a step says one thing, and the connection comes to one phase
  pub moved : (a a' b b' : S) (client c d : ClientState P) (now : ℕ) (input : Input) (x y : StepOutput) → AreAlike a b
      → ClientSteps call slot_of a client now input x c a' → ClientSteps call slot_of b client now input y d b' → (x ≡ y) × (c.conn ≡ d.conn) × AreAlike a' b'
  moved a a' b b' client c d now input x y alike h k =
      let one = stepped call AreAlike answers slot_of a a' b b' client.conn.number client.conn.phase (moment_of client now) input x.packets y.packets x.next y.next c.conn.phase d.conn.phase alike h.stepped k.stepped in (
        λ i. record { connection = (h.told ∙ sym k.told) i; packets = one.0 i; next = one.1 i },
        λ i. record { number = (h.same ∙ sym k.same) i; latest = (h.latest ∙ sym k.latest) i; phase = one.2 i },
        one.3,
      )

  -- a step at another input that is the same
  moved_at : (a a' b b' : S) (client c d : ClientState P) (now : ℕ) (input other : Input) (x y : StepOutput) → AreAlike a b → input ≡ other
      → ClientSteps call slot_of a client now input x c a' → ClientSteps call slot_of b client now other y d b' → (x ≡ y) × (c.conn ≡ d.conn) × AreAlike a' b'
  moved_at a a' b b' client c d now input other x y alike same h k = moved a a' b b' client c d now input x y alike h (subst (λ z. ClientSteps call slot_of b client now z y d b') (sym same) k)

  same_client : (c d : ClientState P) → c.conn ≡ d.conn → c.unread ≡ d.unread → c ≡ d
  same_client c d conn unread = λ i. record { conn = conn i; unread = unread i }

  last_twice : (a a' b b' : S) (client c d : ClientState P) (now : ℕ) (x y : StepOutput) → AreAlike a b
      → ReadsLast call slot_of a client now x c a' → ReadsLast call slot_of b client now y d b' → (x ≡ y) × (c ≡ d) × AreAlike a' b'
  last_twice a a' b b' client c d now x y alike h k =
      let front = front_one client.unread c.unread d.unread h.input k.input h.front k.front in
      let one = moved_at a a' b b' client c d now h.input k.input x y alike front.0 h.moved k.moved in
      (one.0, same_client c d one.1 front.1, one.2)

  one_twice : (a a' b b' : S) (client c d : ClientState P) (now : ℕ) (x y : StepOutput) → AreAlike a b
      → ReadsOne call slot_of a client now x c a' → ReadsOne call slot_of b client now y d b' → (x ≡ y) × (c ≡ d) × AreAlike a' b'
  one_twice a a' b b' client c d now x y alike h k =
      let front = takes_one client.unread c.unread d.unread h.packet k.packet h.taken k.taken in
      let one = moved_at a a' b b' client c d now (inputs.Packet h.packet) (inputs.Packet k.packet) x y alike (ap inputs.Packet front.0) h.moved k.moved in
      (one.0, same_client c d one.1 front.1, one.2)

  -- what closes the connection does not go on
  last_or_one : {A : Type 0} (a a' b b' : S) (client c d : ClientState P) (now : ℕ) (x y : StepOutput) → AreAlike a b → ReadsLast call slot_of a client now x c a' → ReadsOne call slot_of b client now y d b' → A
  last_or_one a a' b b' client c d now x y alike h k =
      let front = front_one client.unread c.unread d.unread h.input (inputs.Packet k.packet) h.front k.taken in
      let one = moved_at a a' b b' client c d now h.input (inputs.Packet k.packet) x y alike front.0 h.moved k.moved in
      let closes : x.next ≢ Go = subst (λ z. Closes z x.next) front.0 h.closes in
      absurd (closes (ap (λ (s : StepOutput). s.next) one.0 ∙ k.goes))

  one_or_last : {A : Type 0} (a a' b b' : S) (client c d : ClientState P) (now : ℕ) (x y : StepOutput) → AreAlike a b → ReadsOne call slot_of a client now x c a' → ReadsLast call slot_of b client now y d b' → A
  one_or_last a a' b b' client c d now x y alike h k =
      let front = front_one client.unread c.unread d.unread (inputs.Packet h.packet) k.input h.taken k.front in
      let one = moved_at a a' b b' client c d now (inputs.Packet h.packet) k.input x y alike front.0 h.moved k.moved in
      let closes : y.next ≢ Go = subst (λ z. Closes z y.next) (sym front.0) k.closes in
      absurd (closes (sym (ap (λ (s : StepOutput). s.next) one.0) ∙ h.goes))

  pub read : (xs ys : List StepOutput) (a a' b b' : S) (client c d : ClientState P) (now : ℕ) → AreAlike a b
      → Reads call slot_of a client now xs c a' → Reads call slot_of b client now ys d b' → (xs ≡ ys) × (c ≡ d) × AreAlike a' b'
  read [] [] a a' b b' client c d now alike h k = (refl, h.1 ∙ sym k.1, subst (λ s. AreAlike s b') (sym h.2) (subst (AreAlike a) (sym k.2) alike))
  read [] (y ∷ ys) a a' b b' client c d now alike h k = not_read_on call slot_of client d b b' now y ys h.0 k
  read (x ∷ xs) [] a a' b b' client c d now alike h k = not_read_on call slot_of client c a a' now x xs k.0 h
  read (x ∷ xs) (y ∷ ys) a a' b b' client c d now alike (inl h) (inl k) =
      let one = last_twice a a' b b' client c d now x y alike h.0 k.0 in ((λ i. one.0 i ∷ (h.1 ∙ sym k.1) i), one.1, one.2)
  read (x ∷ xs) (y ∷ ys) a a' b b' client c d now alike (inl h) (inr k) = last_or_one a a' b k.1 client c k.0 now x y alike h.0 k.2
  read (x ∷ xs) (y ∷ ys) a a' b b' client c d now alike (inr h) (inl k) = one_or_last a h.1 b b' client h.0 d now x y alike h.2 k.0
  read (x ∷ xs) (y ∷ ys) a a' b b' client c d now alike (inr h) (inr k) =
      let one = one_twice a h.1 b k.1 client h.0 k.0 now x y alike h.2 k.2 in
      let rest = read xs ys h.1 a' k.1 b' h.0 c d now one.2 h.3 (subst (λ z. Reads call slot_of k.1 z now ys d b') (sym one.1) k.3) in
      ((λ i. one.0 i ∷ rest.0 i), rest.1, rest.2)

  -- a connection that does not go on has ended
  stopped : (a a' : S) (client c : ClientState P) (now : ℕ) (input : Input) (x : StepOutput) → ClientSteps call slot_of a client now input x c a' → x.next ≢ Go → kept c ≡ None
  stopped a a' client c now input x h stops =
      gone c ((ends call slot_of a a' client.conn.number (moment_of client now) client.conn.phase c.conn.phase input x.packets x.next h.stepped).1 stops)

  pub ticked : (xs ys : List StepOutput) (a a' b b' : S) (client c d : ClientState P) (now : ℕ) → AreAlike a b
      → Ticks call slot_of a client now xs c a' → Ticks call slot_of b client now ys d b' → (xs ≡ ys) × (kept c ≡ kept d) × AreAlike a' b'
  ticked [] ys a a' b b' client c d now alike h k = absurd h
  ticked xs [] a a' b b' client c d now alike h k = absurd k
  ticked (x ∷ xs) (y ∷ ys) a a' b b' client c d now alike (inl h) (inl k) =
      let one = moved a a' b b' client c d now inputs.Tick x y alike h.0 k.0 in
      ((λ i. one.0 i ∷ (h.2 ∙ sym k.2) i), stopped a a' client c now inputs.Tick x h.0 h.1 ∙ sym (stopped b b' client d now inputs.Tick y k.0 k.1), one.2)
  ticked (x ∷ xs) (y ∷ ys) a a' b b' client c d now alike (inl h) (inr k) =
      let one = moved a a' b k.1 client c k.0 now inputs.Tick x y alike h.0 k.2 in absurd (h.1 (ap (λ (s : StepOutput). s.next) one.0 ∙ k.3))
  ticked (x ∷ xs) (y ∷ ys) a a' b b' client c d now alike (inr h) (inl k) =
      let one = moved a h.1 b b' client h.0 d now inputs.Tick x y alike h.2 k.0 in absurd (k.1 (sym (ap (λ (s : StepOutput). s.next) one.0) ∙ h.3))
  ticked (x ∷ xs) (y ∷ ys) a a' b b' client c d now alike (inr h) (inr k) =
      let one = moved a h.1 b k.1 client h.0 k.0 now inputs.Tick x y alike h.2 k.2 in
      let between : h.0 ≡ k.0 = same_client h.0 k.0 one.1 (h.5 ∙ sym k.5) in
      let rest = read xs ys h.1 a' k.1 b' h.0 c d now one.2 h.4 (subst (λ z. Reads call slot_of k.1 z now ys d b') (sym between) k.4) in
      ((λ i. one.0 i ∷ rest.0 i), ap kept rest.1, rest.2)
