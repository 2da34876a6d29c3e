-- What was stepped is what was read.
use Rattle.std.proofs.Common.{◌≡◌, ◌≢◌, ℕ, Bool, List, [], ◌∷◌, ◌++◌, length, Option, Some, None, refl, sym, ap, subst, ◌∙◌, append-nil, append_assoc, ⊎_elim}
use Rattle.std.specs.List.{AllByRecursion, flat_map}
use Rattle.std.proofs.lemmas.Grind.{flat_map-append}
use Rattle.mqtt_packet.specs.declared.packet.Packet.{Packet}
use Rattle.mqtt_fields.specs.declared.fault.StreamFault.{StreamFault}
use Rattle.mqtt_wire.specs.Spelling.{Spells}
use Rattle.mqtt_wire.specs.Stream.{Unread, Begins, Takes, Stops, FaultAt}
use Rattle.transport.specs.declared.counts.Counts.{Counts}
use Rattle.transport.specs.Counting.{got_count}
use Rattle.std.proofs.lemmas.List.{nil_from_length}
use Rattle.transport.specs.declared.answers.Got.{Got}
use Rattle.transport.specs.declared.answers.Got.TheVariants as got
use Rattle.conn_supply.specs.SupplyCalls.{SupplyCall}
use Rattle.conn_engine.specs.declared.input.Input.{Input}
use Rattle.conn_engine.specs.declared.input.Input.TheVariants as inputs
use Rattle.conn_engine.specs.declared.phase.ConnPhase.TheVariants.{Ended}
use Rattle.conn_engine.specs.Step.{Steps as Stepping}
use Rattle.conn_laws.proofs.Ended.{ends_by}
use Rattle.client_table.specs.Clients.{ClientState, moment_of}
use Rattle.client_table.specs.Streams.{longer}
use Rattle.conn_service.specs.Services.{ServiceState}
use Rattle.conn_service.specs.Acts.{Act, Enters, Leaves, Asks, Reads, Writes, Steps, Loses, Fails, Starves, IsFull, IsStopped, Stalls, GivesUp, Ends, Others, read_in, input_in, packet_in, fault_in, bytes_read, inputs_of, packets_read, faults_met}
use Rattle.conn_service.specs.Moments.{fed_by}
use Rattle.conn_service.specs.Lives.{Does, TakesFront}
use Rattle.conn_service.specs.Transcripts.{ReadsItsStream}
use Rattle.conn_service.proofs.Folding.{one_more}

begins_more : (stream : List ℕ) (packets : List Packet) (rest more : List ℕ) → Begins stream packets rest → Begins (stream ++ more) packets (rest ++ more)
begins_more stream [] rest more begun = ap (λ (l : List ℕ). l ++ more) begun
begins_more stream (packet ∷ packets) rest more begun =
    (begun.0, begun.1 ++ more, begun.2, ap (λ (l : List ℕ). l ++ more) begun.3 ∙ append_assoc begun.0 begun.1 more, begins_more begun.1 packets rest more begun.4)

begins_on : (stream : List ℕ) (packets : List Packet) (rest front after : List ℕ) (packet : Packet) → Begins stream packets rest → Spells packet front → rest ≡ front ++ after
    → Begins stream (packets ++ packet ∷ []) after
begins_on stream [] rest front after packet begun spelled parts = (front, after, spelled, begun ∙ parts, refl)
begins_on stream (first ∷ packets) rest front after packet begun spelled parts =
    (begun.0, begun.1, begun.2, begun.3, begins_on begun.1 packets rest front after packet begun.4 spelled parts)

all_and_one : {A : Type 0} (Q : A → Type 0) (these : List A) (last : A) → AllByRecursion Q these → Q last → AllByRecursion Q (these ++ last ∷ [])
all_and_one Q [] last all one = (one, tt)
all_and_one Q (first ∷ these) last all one = (all.0, all_and_one Q these last all.1 one)

packets_on : (done : List Act) (act : Act) → packets_read (done ++ act ∷ []) ≡ packets_read done ++ flat_map packet_in (input_in act)
packets_on done act = ap (flat_map packet_in) (one_more input_in done act) ∙ flat_map-append packet_in (inputs_of done) (input_in act)

faults_on : (done : List Act) (act : Act) → faults_met (done ++ act ∷ []) ≡ faults_met done ++ flat_map fault_in (input_in act)
faults_on done act = ap (flat_map fault_in) (one_more input_in done act) ∙ flat_map-append fault_in (inputs_of done) (input_in act)

-- what was read, and that no fault was met as long as the connection goes on
pub record HasRead {P T : Type 0} (acts : List Act) (service : ServiceState P T) : Type 0 where
  pub rest : List ℕ
  pub begun : Begins (bytes_read acts) (packets_read acts) rest
  pub faults : AllByRecursion (λ fault. FaultAt fault rest) (faults_met acts)
  pub unread : service.ending ≡ None → service.client.conn.phase ≢ Ended → service.client.unread ≡ record { bytes = rest; fault = None }
  pub unfaulted : service.ending ≡ None → service.client.conn.phase ≢ Ended → faults_met acts ≡ []

pub so_far : {P T : Type 0} (acts : List Act) (service : ServiceState P T) → HasRead acts service → ReadsItsStream acts service
so_far acts service has = record { rest = has.rest; begun = has.begun; faults = has.faults; unread = has.unread }

module _ {P T : Type 0} where
  -- an act by which nothing is read, and no packet and no fault stepped
  aside : (done : List Act) (act : Act) (old new : ServiceState P T) → read_in act ≡ [] → flat_map packet_in (input_in act) ≡ [] → flat_map fault_in (input_in act) ≡ []
      → (new.ending ≡ None → new.client.conn.phase ≢ Ended → (old.ending ≡ None) × (old.client.conn.phase ≢ Ended) × (new.client.unread ≡ old.client.unread))
      → HasRead done old → HasRead (done ++ act ∷ []) new
  aside done act old new no_bytes no_packet no_fault goes has =
      let same_bytes : bytes_read (done ++ act ∷ []) ≡ bytes_read done = one_more read_in done act ∙ ap (λ (l : List ℕ). bytes_read done ++ l) no_bytes ∙ append-nil (bytes_read done) in
      let same_packets : packets_read (done ++ act ∷ []) ≡ packets_read done = packets_on done act ∙ ap (λ (l : List Packet). packets_read done ++ l) no_packet ∙ append-nil (packets_read done) in
      let same_faults : faults_met (done ++ act ∷ []) ≡ faults_met done = faults_on done act ∙ ap (λ (l : List StreamFault). faults_met done ++ l) no_fault ∙ append-nil (faults_met done) in
      record {
        rest = has.rest;
        begun = subst (λ (b : List ℕ). Begins b (packets_read (done ++ act ∷ [])) has.rest) (sym same_bytes) (subst (λ (p : List Packet). Begins (bytes_read done) p has.rest) (sym same_packets) has.begun);
        faults = subst (AllByRecursion (λ (fault : StreamFault). FaultAt fault has.rest)) (sym same_faults) has.faults;
        unread = λ going not_over. let it = goes going not_over in it.2 ∙ has.unread it.0 it.1;
        unfaulted = λ going not_over. let it = goes going not_over in same_faults ∙ has.unfaulted it.0 it.1;
      }

  -- a read: what it gave stands behind what is unread
  reads : (done : List Act) (act : Act) (bytes : List ℕ) (old new : ServiceState P T) → read_in act ≡ bytes → flat_map packet_in (input_in act) ≡ [] → flat_map fault_in (input_in act) ≡ []
      → old.ending ≡ None → old.client.conn.phase ≢ Ended
      → (new.ending ≡ None → new.client.unread ≡ longer old.client.unread.fault old.client.unread.bytes bytes)
      → HasRead done old → HasRead (done ++ act ∷ []) new
  reads done act bytes old new its no_packet no_fault going not_over feeds has =
      let all_bytes : bytes_read (done ++ act ∷ []) ≡ bytes_read done ++ bytes = one_more read_in done act ∙ ap (λ (l : List ℕ). bytes_read done ++ l) its in
      let same_packets : packets_read (done ++ act ∷ []) ≡ packets_read done = packets_on done act ∙ ap (λ (l : List Packet). packets_read done ++ l) no_packet ∙ append-nil (packets_read done) in
      let none : faults_met (done ++ act ∷ []) ≡ [] = faults_on done act ∙ ap (λ (l : List StreamFault). faults_met done ++ l) no_fault ∙ append-nil (faults_met done) ∙ has.unfaulted going not_over in
      let was = has.unread going not_over in
      record {
        rest = has.rest ++ bytes;
        begun =
            subst (λ (b : List ℕ). Begins b (packets_read (done ++ act ∷ [])) (has.rest ++ bytes)) (sym all_bytes)
            (subst (λ (p : List Packet). Begins (bytes_read done ++ bytes) p (has.rest ++ bytes)) (sym same_packets) (begins_more (bytes_read done) (packets_read done) has.rest bytes has.begun));
        faults = subst (AllByRecursion (λ (fault : StreamFault). FaultAt fault (has.rest ++ bytes))) (sym none) tt;
        unread = λ still lives. feeds still ∙ ap (λ (u : Unread). longer u.fault u.bytes bytes) was;
        unfaulted = λ still lives. none;
      }

  -- a packet is taken from the front
  takes : (done : List Act) (act : Act) (packet : Packet) (old new : ServiceState P T) → read_in act ≡ [] → input_in act ≡ inputs.Packet packet ∷ []
      → old.ending ≡ None → old.client.conn.phase ≢ Ended → Takes old.client.unread packet new.client.unread
      → HasRead done old → HasRead (done ++ act ∷ []) new
  takes done act packet old new no_bytes its going not_over taken has =
      let same_bytes : bytes_read (done ++ act ∷ []) ≡ bytes_read done = one_more read_in done act ∙ ap (λ (l : List ℕ). bytes_read done ++ l) no_bytes ∙ append-nil (bytes_read done) in
      let more : packets_read (done ++ act ∷ []) ≡ packets_read done ++ packet ∷ [] = packets_on done act ∙ ap (λ (l : List Input). packets_read done ++ flat_map packet_in l) its in
      let none : faults_met (done ++ act ∷ []) ≡ [] =
      faults_on done act ∙ ap (λ (l : List Input). faults_met done ++ flat_map fault_in l) its ∙ append-nil (faults_met done) ∙ has.unfaulted going not_over in
      let was = ap (λ (u : Unread). u.bytes) (has.unread going not_over) in
      record {
        rest = new.client.unread.bytes;
        begun =
            subst (λ (b : List ℕ). Begins b (packets_read (done ++ act ∷ [])) new.client.unread.bytes) (sym same_bytes)
            (subst (λ (p : List Packet). Begins (bytes_read done) p new.client.unread.bytes) (sym more)
            (begins_on (bytes_read done) (packets_read done) has.rest taken.front new.client.unread.bytes packet has.begun taken.spelled (sym was ∙ taken.parts)));
        faults = subst (AllByRecursion (λ (fault : StreamFault). FaultAt fault new.client.unread.bytes)) (sym none) tt;
        unread = λ still lives i. record { bytes = new.client.unread.bytes; fault = taken.goes_on i };
        unfaulted = λ still lives. none;
      }

  -- a fault is met
  stops : (done : List Act) (act : Act) (fault : StreamFault) (old new : ServiceState P T) → read_in act ≡ [] → input_in act ≡ inputs.Fault fault ∷ []
      → old.ending ≡ None → old.client.conn.phase ≢ Ended → Stops old.client.unread fault new.client.unread → (new.ending ≡ None → new.client.conn.phase ≢ Ended → ⊥)
      → HasRead done old → HasRead (done ++ act ∷ []) new
  stops done act fault old new no_bytes its going not_over met over has =
      let same_bytes : bytes_read (done ++ act ∷ []) ≡ bytes_read done = one_more read_in done act ∙ ap (λ (l : List ℕ). bytes_read done ++ l) no_bytes ∙ append-nil (bytes_read done) in
      let same_packets : packets_read (done ++ act ∷ []) ≡ packets_read done = packets_on done act ∙ ap (λ (l : List Input). packets_read done ++ flat_map packet_in l) its ∙ append-nil (packets_read done) in
      let more : faults_met (done ++ act ∷ []) ≡ faults_met done ++ fault ∷ [] = faults_on done act ∙ ap (λ (l : List Input). faults_met done ++ flat_map fault_in l) its in
      let was = has.unread going not_over in
      let stands : FaultAt fault has.rest =
      ⊎_elim (λ (before : old.client.unread.fault ≡ Some fault). absurd (let w = ap (λ (u : Unread). u.fault) was in cc))
      (λ (here : (old.client.unread.fault ≡ None) × FaultAt fault old.client.unread.bytes). subst (FaultAt fault) (ap (λ (u : Unread). u.bytes) was) here.1) met.1 in
      record {
        rest = has.rest;
        begun =
            subst (λ (b : List ℕ). Begins b (packets_read (done ++ act ∷ [])) has.rest) (sym same_bytes)
            (subst (λ (p : List Packet). Begins (bytes_read done) p has.rest) (sym same_packets) has.begun);
        faults =
            subst (AllByRecursion (λ (f : StreamFault). FaultAt f has.rest)) (sym more)
            (all_and_one (λ (f : StreamFault). FaultAt f has.rest) (faults_met done) fault has.faults stands);
        unread = λ still lives. absurd (over still lives);
        unfaulted = λ still lives. absurd (over still lives);
      }

-- nothing more is unread
nothing_fed : (u : Unread) → u.fault ≡ None → u ≡ longer u.fault u.bytes []
nothing_fed u none = (λ i. record { bytes = sym (append-nil u.bytes) i; fault = none i }) ∙ ap (λ (f : Option StreamFault). longer f u.bytes []) (sym none)

module _ {S P T : Type 0} (call : S → SupplyCall P → S → Type 0) (begins ends : S → S → Type 0) (visiting : S → Bool) (slot_of : P → ℕ)
    (counts : T → Counts) (given accepted : T → Option (List ℕ)) where
  -- what a step takes from the front, where it is made of a connection that goes on
  stepped_front : (done : List Act) (act : Act) (input : Input) (old new : ServiceState P T) → read_in act ≡ [] → input_in act ≡ input ∷ [] → old.ending ≡ None → old.client.conn.phase ≢ Ended
      → TakesFront old.client.unread input new.client.unread
      → ((fault : StreamFault) → input ≡ inputs.Fault fault → new.ending ≡ None → new.client.conn.phase ≢ Ended → ⊥)
      → HasRead done old → HasRead (done ++ act ∷ []) new
  stepped_front done act (inputs.Packet packet) old new no_bytes its going not_over front over has = takes done act packet old new no_bytes its going not_over front has
  stepped_front done act (inputs.Fault fault) old new no_bytes its going not_over front over has =
      stops done act fault old new no_bytes its going not_over front (over fault refl) has
  stepped_front done act inputs.Tick old new no_bytes its going not_over front over has =
      aside done act old new no_bytes (ap (flat_map packet_in) its) (ap (flat_map fault_in) its) (λ still lives. (going, not_over, front)) has
  stepped_front done act inputs.EndOfInput old new no_bytes its going not_over front over has =
      aside done act old new no_bytes (ap (flat_map packet_in) its) (ap (flat_map fault_in) its) (λ still lives. (going, not_over, front)) has
  stepped_front done act inputs.Closing old new no_bytes its going not_over front over has =
      aside done act old new no_bytes (ap (flat_map packet_in) its) (ap (flat_map fault_in) its) (λ still lives. (going, not_over, front)) has

  -- an act that leaves the client, or ends it
  beside : (done : List Act) (act : Act) (old new : ServiceState P T) → read_in act ≡ [] → flat_map packet_in (input_in act) ≡ [] → flat_map fault_in (input_in act) ≡ []
      → (new.ending ≡ None → (old.ending ≡ None) × (new.client ≡ old.client)) → HasRead done old → HasRead (done ++ act ∷ []) new
  beside done act old new no_bytes no_packet no_fault goes has =
      aside done act old new no_bytes no_packet no_fault
      (λ still lives. let it = goes still in (it.0, λ over. lives (ap (λ (c : ClientState P). c.conn.phase) it.1 ∙ over), ap (λ (c : ClientState P). c.unread) it.1)) has

  -- what a read makes of what is unread
  feeds : (its : Got) (client : ClientState P) (bytes : List ℕ) → client.unread.fault ≡ None → length bytes ≡ got_count its
      → (fed_by its client bytes).unread ≡ longer client.unread.fault client.unread.bytes bytes
  feeds (got.Bytes count) client bytes none is = refl
  feeds got.Idle client bytes none is = nothing_fed client.unread none ∙ ap (longer client.unread.fault client.unread.bytes) (sym (nil_from_length bytes is))
  feeds got.End client bytes none is = nothing_fed client.unread none ∙ ap (longer client.unread.fault client.unread.bytes) (sym (nil_from_length bytes is))
  feeds got.Failed client bytes none is = nothing_fed client.unread none ∙ ap (longer client.unread.fault client.unread.bytes) (sym (nil_from_length bytes is))

  pub read_on : (done : List Act) (act : Act) (old new : ServiceState P T) (supply supply' : S) → HasRead done old
      → Does call begins ends visiting slot_of counts given accepted act old supply new supply' → HasRead (done ++ act ∷ []) new
  read_on done (Enters is_open reads) old new supply supply' has does =
      beside done (Enters is_open reads) old new refl refl refl
      (λ still. (sym (ap (λ (s : ServiceState P T). s.ending) does.becomes) ∙ still, ap (λ (s : ServiceState P T). s.client) does.becomes)) has
  read_on done Leaves old new supply supply' has does =
      beside done Leaves old new refl refl refl (λ still. (sym (ap (λ (s : ServiceState P T). s.ending) does.same) ∙ still, ap (λ (s : ServiceState P T). s.client) does.same)) has
  read_on done (Asks is_kicked) old new supply supply' has does =
      beside done (Asks is_kicked) old new refl refl refl (λ still. (sym (ap (λ (s : ServiceState P T). s.ending) does.same) ∙ still, ap (λ (s : ServiceState P T). s.client) does.same)) has
  read_on done Others old new supply supply' has does =
      beside done Others old new refl refl refl (λ still. (sym (ap (λ (s : ServiceState P T). s.ending) does) ∙ still, ap (λ (s : ServiceState P T). s.client) does)) has
  read_on done (Reads size got bytes) old new supply supply' has does =
      let may = does.does.may in
      let fault : old.client.unread.fault ≡ None = ap (λ (u : Unread). u.fault) (has.unread may.going may.not_over) in
      reads done (Reads size got bytes) bytes old new refl refl refl may.going may.not_over
      (λ still. ap (λ (s : ServiceState P T). s.client.unread) does.does.becomes ∙ feeds got old.client bytes fault does.does.gives.count) has
  read_on done (Starves got bytes) old new supply supply' has does =
      reads done (Starves got bytes) bytes old new refl refl refl does.does.may.going does.does.may.not_over
      (λ still. absurd (let e = ap (λ (s : ServiceState P T). s.ending) does.does.becomes in cc)) has
  read_on done (Writes now put) old new supply supply' has does =
      beside done (Writes now put) old new refl refl refl (λ still. (does.does.going, ap (λ (s : ServiceState P T). s.client) does.does.becomes)) has
  read_on done (Steps now input packets next) old new supply supply' has does =
      stepped_front done (Steps now input packets next) input old new refl refl does.due.going does.due.not_over does.front
      (λ fault is still lives.
      lives (ends_by call slot_of supply supply' old.client.conn.number (moment_of old.client now) old.client.conn.phase new.client.conn.phase (inputs.Fault fault) packets next
      (subst (λ (i : Input). Stepping call slot_of supply old.client.conn.number old.client.conn.phase (moment_of old.client now) i packets next new.client.conn.phase supply') is
      does.moved.stepped) tt)) has
  read_on done (Loses now input packets next) old new supply supply' has does =
      stepped_front done (Loses now input packets next) input old new refl refl does.due.going does.due.not_over does.front
      (λ fault is still lives. let e = ap (λ (s : ServiceState P T). s.ending) does.becomes in cc) has
  read_on done (Fails now input) old new supply supply' has does =
      stepped_front done (Fails now input) input old new refl refl does.due.going does.due.not_over does.front
      (λ fault is still lives. let e = ap (λ (s : ServiceState P T). s.ending) does.becomes in cc) has
  read_on done (IsFull now) old new supply supply' has does =
      beside done (IsFull now) old new refl refl refl (λ still. absurd (let e = ap (λ (s : ServiceState P T). s.ending) does.becomes in cc)) has
  read_on done (GivesUp now) old new supply supply' has does =
      beside done (GivesUp now) old new refl refl refl (λ still. absurd (does.ended (sym (ap (λ (s : ServiceState P T). s.ending) does.becomes) ∙ still))) has
  read_on done IsStopped old new supply supply' has does =
      beside done IsStopped old new refl refl refl (λ still. absurd (let e = ap (λ (s : ServiceState P T). s.ending) does.does.becomes in cc)) has
  read_on done (Stalls now) old new supply supply' has does =
      beside done (Stalls now) old new refl refl refl (λ still. absurd (let e = ap (λ (s : ServiceState P T). s.ending) does.does.becomes in cc)) has
  read_on done Ends old new supply supply' has does =
      beside done Ends old new refl refl refl (λ still. absurd (let e = ap (λ (s : ServiceState P T). s.ending) does.does.becomes in cc)) has

  pub unread_yet : (service : ServiceState P T) → service.client.unread ≡ record { bytes = []; fault = None } → HasRead [] service
  unread_yet service is = record { rest = []; begun = refl; faults = tt; unread = λ going lives. is; unfaulted = λ going lives. refl }
