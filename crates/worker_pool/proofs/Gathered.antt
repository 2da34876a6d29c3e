-- What workers give back, all together.
use Rattle.std.proofs.Common.{◌≡◌, ℕ, suc, ◌+◌, ◌*◌, ◌<◌, ◌≤◌, List, [], ◌∷◌, ◌++◌, length, map, Option, refl, sym, subst, ◌∙◌, ap, append-nil, append_assoc, inr, arith}
use Rattle.std.specs.List.{AllByRecursion, AllZip}
use Rattle.std.proofs.Math.Nat.{suc-mul}
use Rattle.std.proofs.lemmas.List.Sums.{sum_by-cons}
use Rattle.transport.specs.declared.counts.Counts.{Counts}
use Rattle.mqtt_topic.specs.Names.{Share}
use Rattle.group_jobs.specs.Stamps.{Held}
use Rattle.session_desk.specs.Calls.{Call}
use Rattle.call_history.specs.Callers.{CallerState}
use Rattle.group_queue.specs.Ports.{GroupId, PortState}
use Rattle.broker_groups.specs.Answers.{Sights}
use Rattle.group_queue.specs.Places.{PlaceState}
use Rattle.conn_channel.specs.Ends.{IsSettled, ReceiverState, SenderState, end_marks_received_by, lists_of, received_by}
use Rattle.conn_channel.specs.Interleavings.{IsInterleaving}
use Rattle.conn_service.specs.declared.served.Served.{Served}
use Rattle.shared_routes.specs.Known.{AreFirst, KnownState}
use Rattle.worker_connections.specs.Cells.{occupied}
use Rattle.worker_connections.specs.declared.served.ServedCounts.{ServedCounts}
use Rattle.worker_connections.specs.Arrivals.{ArrivedState}
use Rattle.worker_connections.specs.Chains.{HasRunTo, IsWholeRun, Run, RunState}
use Rattle.worker_connections.specs.PollerCalls.{PollerCall}
use Rattle.worker_connections.specs.Serving.{AreCounted, ConnectionsState, live, run_of}
use Rattle.worker_pool.specs.Pools.{AreAllCounted, AreApart, AreServed, CountsAll, HaveEnded, IsApart, numbers_of, total_in}
use Rattle.worker_pool.proofs.Counted.{of_all}

-- two lists that go along, one element longer
zip_push : {A C : Type 0} (Along : A → C → Type 0) (xs : List A) (ys : List C) (x : A) (y : C) → AllZip Along xs ys → Along x y → AllZip Along (xs ++ x ∷ []) (ys ++ y ∷ [])
zip_push Along [] [] x y all one = (one, tt)
zip_push Along [] (b ∷ ys) x y all one = absurd all
zip_push Along (a ∷ xs) [] x y all one = absurd all
zip_push Along (a ∷ xs) (b ∷ ys) x y all one = (all.0, zip_push Along xs ys x y all.1 one)

pub map_push : {A C : Type 0} (f : A → C) (xs : List A) (x : A) → map f (xs ++ x ∷ []) ≡ map f xs ++ f x ∷ []
map_push f [] x = refl
map_push f (a ∷ xs) x = ap (λ (l : List _). f a ∷ l) (map_push f xs x)

all_push : {A : Type 0} (P : A → Type 0) (xs : List A) (x : A) → AllByRecursion P xs → P x → AllByRecursion P (xs ++ x ∷ [])
all_push P [] x all one = (one, tt)
all_push P (a ∷ xs) x all one = (all.0, all_push P xs x all.1 one)

all_weaker : {A : Type 0} (P Q : A → Type 0) → ((x : A) → P x → Q x) → (xs : List A) → AllByRecursion P xs → AllByRecursion Q xs
all_weaker P Q weaker [] all = tt
all_weaker P Q weaker (x ∷ xs) all = (weaker x all.0, all_weaker P Q weaker xs all.1)

pub one_more : (n share : ℕ) → (n + 1) * share ≡ n * share + share
one_more n share = let e : n + 1 ≡ suc n = omega arith in ap (λ k. k * share) e ∙ suc-mul n share

-- one run more, whose numbers stand in no other
apart_push : {T : Type 0} (runs : List (Run T)) (run : Run T) → AreApart runs → AllByRecursion (λ (other : Run T). IsApart (numbers_of other) (numbers_of run)) runs → AreApart (runs ++ run ∷ [])
apart_push [] run apart all = (tt, tt)
apart_push {T = T} (one ∷ runs) run apart all =
    (all_push (λ (other : Run T). IsApart (numbers_of one) (numbers_of other)) runs run apart.0 all.0, apart_push runs run apart.1 all.1)

-- the first shares of some are the first of those that these are the first of
first_of_more : (ones some all : List Share) → AreFirst ones some → AreFirst some all → AreFirst ones all
first_of_more ones some all first more =
    (first.0 ++ more.0, more.1 ∙ ap (λ (l : List Share). l ++ more.0) first.1 ∙ append_assoc ones first.0 more.0)

module _ {T : Type 0} where
  -- all that these ends received is counted
  pub counts_them : (receivers : List (ReceiverState T)) (served : List ServedCounts) → AreAllCounted receivers served → CountsAll (received_by receivers) served
  counts_them [] [] all = record { endings = []; counted = refl; all = refl }
  counts_them [] (served ∷ rest) all = absurd all
  counts_them (receiver ∷ receivers) [] all = absurd all
  counts_them (receiver ∷ receivers) (served ∷ rest) all =
      let others = counts_them receivers rest all.1 in
      record {
        endings = all.0.endings ∷ others.endings;
        counted = cc (all.0.counted, others.counted);
        all = omega (arith, sum_by-cons {X = ReceiverState T} (λ r. length r.received) receiver receivers, sum_by-cons {X = List Served} length all.0.endings others.endings, all.0.all, others.all);
      }

  -- one worker more gives back what it had
  pub counts_one_more : (receivers receivers' : List (ReceiverState T)) (served served' : List ServedCounts) (receiver : ReceiverState T) (counted : ServedCounts)
      → AreAllCounted receivers served → receivers' ≡ receivers ++ receiver ∷ [] → served' ≡ served ++ counted ∷ [] → AreCounted (length receiver.received) counted → AreAllCounted receivers' served'
  counts_one_more receivers receivers' served served' receiver counted all ends counts_are one =
      let Counts : ReceiverState T → ServedCounts → Type 0 = λ r c. AreCounted (length r.received) c in
      let Ends : List (ReceiverState T) → Type 0 = λ rs. AllZip Counts rs served' in
      let These : List ServedCounts → Type 0 = λ cs. AllZip Counts (receivers ++ receiver ∷ []) cs in
      subst Ends (sym ends) (subst These (sym counts_are) (zip_push Counts receivers served receiver counted all one))

-- the counts of all workers add up to the connections
pub counts_all : (came : ℕ) (served : List ServedCounts) → CountsAll came served → came < 18446744073709551616 → came ≡ total_in served
counts_all came served counts few = counts.all ∙ (sym (of_all counts.endings (omega (arith, few, counts.all))) ∙ sym (ap total_in counts.counted))

module _ {T : Type 0} (group : ℕ → GroupId) (seen : Sights) (counts : T → Counts) (given accepted : T → Option (List ℕ)) where
  -- no worker gave anything back yet
  pub nobody : (least : ℕ) (routes : List Share) → HaveEnded group seen counts given accepted least [] [] [] [] [] routes
  nobody least routes = record { runs = []; whole = tt; apart = tt; least_is = tt; ports_are = refl; callers_are = refl; received_are = refl; served_are = refl; poller_calls_are = refl; one_part = tt; known = tt }

  -- one worker more did
  pub ends : (least : ℕ) (ports ports' : List (List PortState)) (callers callers' : List (CallerState (Call Held PlaceState))) (receivers receivers' : List (ReceiverState (ArrivedState T))) (served served' : List ServedCounts)
      (poller_calls poller_calls' : List (Option (List (PollerCall T)))) (routes routes' : List Share) (seen_routes : KnownState) (its : List PortState) (caller : CallerState (Call Held PlaceState))
      (receiver : ReceiverState (ArrivedState T)) (counted : ServedCounts) (asked : Option (List (PollerCall T))) (connections : ConnectionsState T)
      → HaveEnded group seen counts given accepted least ports callers receivers served poller_calls routes → ports' ≡ ports ++ its ∷ [] → callers' ≡ callers ++ caller ∷ [] → receivers' ≡ receivers ++ receiver ∷ []
      → served' ≡ served ++ counted ∷ [] → poller_calls' ≡ poller_calls ++ asked ∷ []
      → HasRunTo group seen counts given accepted (run_of connections) → live connections ≡ 0 → its ≡ connections.supply.ports → caller ≡ connections.supply.desk → receiver ≡ connections.receiver
      → counted ≡ connections.served → asked ≡ connections.poller_calls → connections.supply.desk.parts ≡ 1 → seen_routes ≡ connections.supply.known → AreFirst routes routes'
      → AreFirst seen_routes.shares routes' → connections.first + length connections.cells ≤ least → HaveEnded group seen counts given accepted connections.first ports' callers' receivers' served' poller_calls' routes'
  ends least ports ports' callers callers' receivers receivers' served served' poller_calls poller_calls' routes routes' seen_routes its caller receiver counted asked connections all ports_are callers_are receivers_are served_are poller_calls_are
      ran none its_are caller_is receiver_is counted_is shut_is part routes_is grown learnt below =
      let run : Run T = ran.run in
      let first_is : run.last.first ≡ connections.first = ap (λ (state : RunState T). state.first) ran.here in
      let cells_are : length run.last.cells ≡ length connections.cells = ap (λ (state : RunState T). length state.cells) ran.here in
      let Knows : List Share → Run T → Type 0 = λ those one. AreFirst one.last.supply.known.shares those in
      let OnePart : Run T → Type 0 = λ one. one.last.supply.desk.parts ≡ 1 in
      record {
        runs = all.runs ++ run ∷ [];
        apart = apart_push all.runs run all.apart
            (all_weaker (λ (other : Run T). least ≤ other.last.first) (λ (other : Run T). IsApart (numbers_of other) (numbers_of run)) (λ other above. inr (omega (arith, above, below, first_is, cells_are))) all.runs all.least_is);
        least_is = all_push (λ (other : Run T). connections.first ≤ other.last.first) all.runs run
            (all_weaker (λ (other : Run T). least ≤ other.last.first) (λ (other : Run T). connections.first ≤ other.last.first) (λ other above. omega (arith, above, below)) all.runs all.least_is)
            (omega (arith, first_is));
        whole = all_push (IsWholeRun group seen counts given accepted) all.runs run all.whole
            (record { is = ran.is; none_live = ap (λ (state : RunState T). occupied state.cells) ran.here ∙ none });
        ports_are = ports_are ∙ ap (λ (l : List (List PortState)). l ++ its ∷ []) all.ports_are
            ∙ ap (λ (p : List PortState). map (λ (one : Run T). one.last.supply.ports) all.runs ++ p ∷ []) (its_are ∙ sym (ap (λ (state : RunState T). state.supply.ports) ran.here))
            ∙ sym (map_push (λ (one : Run T). one.last.supply.ports) all.runs run);
        callers_are = callers_are ∙ ap (λ (l : List (CallerState (Call Held PlaceState))). l ++ caller ∷ []) all.callers_are
            ∙ ap (λ (c : CallerState (Call Held PlaceState)). map (λ (one : Run T). one.last.supply.desk) all.runs ++ c ∷ []) (caller_is ∙ sym (ap (λ (state : RunState T). state.supply.desk) ran.here))
            ∙ sym (map_push (λ (one : Run T). one.last.supply.desk) all.runs run);
        received_are = ap lists_of receivers_are ∙ map_push (λ (r : ReceiverState (ArrivedState T)). r.received) receivers receiver
            ∙ ap (λ (l : List (List (ArrivedState T))). l ++ receiver.received ∷ []) all.received_are
            ∙ ap (λ (r : List (ArrivedState T)). map (λ (one : Run T). one.last.received) all.runs ++ r ∷ [])
            (ap (λ (r : ReceiverState (ArrivedState T)). r.received) receiver_is ∙ sym (ap (λ (state : RunState T). state.received) ran.here))
            ∙ sym (map_push (λ (one : Run T). one.last.received) all.runs run);
        served_are = served_are ∙ ap (λ (l : List ServedCounts). l ++ counted ∷ []) all.served_are
            ∙ ap (λ (c : ServedCounts). map (λ (one : Run T). one.last.served) all.runs ++ c ∷ []) (counted_is ∙ sym (ap (λ (state : RunState T). state.served) ran.here))
            ∙ sym (map_push (λ (one : Run T). one.last.served) all.runs run);
        poller_calls_are = poller_calls_are ∙ ap (λ (l : List (Option (List (PollerCall T)))). l ++ asked ∷ []) all.poller_calls_are
            ∙ ap (λ (c : Option (List (PollerCall T))). map (λ (one : Run T). one.last.poller_calls) all.runs ++ c ∷ []) (shut_is ∙ sym (ap (λ (state : RunState T). state.poller_calls) ran.here))
            ∙ sym (map_push (λ (one : Run T). one.last.poller_calls) all.runs run);
        one_part = all_push OnePart all.runs run all.one_part (ap (λ (state : RunState T). state.supply.desk.parts) ran.here ∙ part);
        known = all_push (Knows routes') all.runs run
            (all_weaker (Knows routes) (Knows routes') (λ one knew. first_of_more one.last.supply.known.shares routes routes' knew grown) all.runs all.known)
            (subst (λ (k : KnownState). AreFirst k.shares routes') (routes_is ∙ sym (ap (λ (state : RunState T). state.supply.known) ran.here)) learnt);
      }

  -- what was sent came to them, as nothing is left where an end mark was received
  pub serve : (least : ℕ) (sender : SenderState (ArrivedState T)) (sent : List (ArrivedState T)) (ports : List (List PortState)) (callers : List (CallerState (Call Held PlaceState)))
      (receivers : List (ReceiverState (ArrivedState T))) (served : List ServedCounts) (poller_calls : List (Option (List (PollerCall T)))) (routes : List Share) → sent ≡ sender.sent
      → HaveEnded group seen counts given accepted least ports callers receivers served poller_calls routes
      → IsSettled sender receivers → 0 < end_marks_received_by receivers → AreServed group seen counts given accepted sent routes ports callers served poller_calls
  serve least sender sent ports callers receivers served poller_calls routes same all settled some =
      let whole : sent ≡ settled.past = same ∙ settled.sent ∙ ap (λ (l : List (ArrivedState T)). settled.past ++ l) (settled.last some) ∙ append-nil settled.past in
      let Came : List (List (ArrivedState T)) → Type 0 = λ lists. IsInterleaving settled.past lists in
      record {
        runs = all.runs;
        whole = all.whole;
        apart = all.apart;
        came_to = subst (λ (l : List (ArrivedState T)). IsInterleaving l (map (λ (one : Run T). one.last.received) all.runs)) (sym whole) (subst Came all.received_are settled.received);
        ports_are = all.ports_are;
        callers_are = all.callers_are;
        served_are = all.served_are;
        poller_calls_are = all.poller_calls_are;
        one_part = all.one_part;
        known = all.known;
      }

  -- and more is known of the routes
  pub more_known : (sent : List (ArrivedState T)) (routes routes' : List Share) (ports : List (List PortState)) (callers : List (CallerState (Call Held PlaceState))) (served : List ServedCounts)
      (poller_calls : List (Option (List (PollerCall T)))) → AreFirst routes routes' → AreServed group seen counts given accepted sent routes ports callers served poller_calls
      → AreServed group seen counts given accepted sent routes' ports callers served poller_calls
  more_known sent routes routes' ports callers served poller_calls grown workers =
      let Knows : List Share → Run T → Type 0 = λ those one. AreFirst one.last.supply.known.shares those in
      record {
        runs = workers.runs;
        whole = workers.whole;
        apart = workers.apart;
        came_to = workers.came_to;
        ports_are = workers.ports_are;
        callers_are = workers.callers_are;
        served_are = workers.served_are;
        poller_calls_are = workers.poller_calls_are;
        one_part = workers.one_part;
        known = all_weaker (Knows routes) (Knows routes') (λ one knew. first_of_more one.last.supply.known.shares routes routes' knew grown) workers.runs workers.known;
      }
