-- What is handed out after a reply was held by nobody, and is out at the session's place.
use Rattle.std.proofs.Common.{◌≡◌, ◌≢◌, ◌⊎◌, ℕ, List, [], ◌∷◌, ◌++◌, drop, slice_get, Option, Some, None, Ok, Contains, refl, sym, ap, subst, ◌∙◌, inl, inr, ⊎_elim, append_assoc, append-nil}
use Rattle.std.proofs.lemmas.List.Elements.{Contains-append_left, Contains-append_right, Contains-append_cases}
use Rattle.std.proofs.lemmas.List.{map-append}
use Rattle.std.proofs.lemmas.Option.{same_Some}
use Rattle.mqtt_packet.specs.declared.packet.Packet.{Packet}
use Rattle.dispatch_core.specs.declared.event.Spot.{Spot}
use Rattle.dispatch_core.specs.declared.event.Spot.TheVariants as spot
use Rattle.dispatch_core.specs.GroupState.{spot_of}
use Rattle.group_jobs.specs.declared.fate.Fate.TheVariants.{Discarded}
use Rattle.group_jobs.specs.declared.stamp.Stamp.{Stamp}
use Rattle.group_jobs.specs.Stamps.{under, Held, job_of}
use Rattle.member_window.specs.Contents.{Contents, held_of, after_put, after_resend}
use Rattle.member_window.proofs.Lists.{contains_nil, contains_cons_cases}
use Rattle.session_desk.specs.declared.session.Membership.{Membership}
use Rattle.session_desk.specs.declared.session.Membership.TheVariants.{NotMember, Member, Leaving}
use Rattle.conn_rules.specs.declared.hand_outs.HandOutTerms.{HandOutTerms}
use Rattle.conn_laws.proofs.HandingOut.{all_discarded, discarded_fresh, discarded_in}
use Rattle.conn_supply.specs.HandOuts.{SendsAgain, AsksFor, DiscardsOne, Discards, Finds, LooksFor, SendsFresh, LeavesWith, HandsFresh, HandsOut}
use Rattle.conn_supply.specs.SupplyCalls.SupplyCall.{Take, TakeBack, TakePlace, Settle}
use Rattle.local_group.specs.declared.waiting.Waiting.{Waiting}
use Rattle.local_group.specs.Groups.{Group, held_by}
use Rattle.local_broker.specs.Places.{GroupPlace}
use Rattle.local_broker.specs.Broker.{Broker}
use Rattle.local_broker.specs.Groups.{IsOutAt}
use Rattle.local_broker.specs.Calls.{Calls}
use Rattle.local_broker.specs.Histories.{AreRunning, HasOut}
use Rattle.local_broker.proofs.Outs.{taken_out, taken_out_again}
use Rattle.local_server.specs.Settling.{Settlement, AreOutFor}
use Rattle.local_server.proofs.Settled.{AddsIn, adds_then, one_settled}
use Rattle.local_server.proofs.Sending.{settle_runs}
use Rattle.local_server.proofs.Known.{Log, IsKnown, AllKnow, same_log}
use Rattle.local_server.proofs.Accepting.{took_known, took_back_known, settled_known}
use Rattle.local_server.proofs.Owning.{Ledger, Entries, IsEntry, Kept, Keeper, Has, Holds, Runs, Goes, still, runs_then, calm_then, one, same_rows, had, none_known, none_apart, owns_on, mine_on, owns_calm, calm, less}

-- a message that was handed out is no other that was out
abbrev IsNobodys : Broker → Held → Type 0
IsNobodys b envelope = (place : GroupPlace) (other : Held) → HasOut b place other → other.stamp ≢ envelope.stamp

-- a job that waits in a group is not out there
not_out : (b : Broker) (slot place : ℕ) (before : Group) (front : Waiting) (at : Spot) (envelope : Held) → AreRunning b → slice_get b.groups slot ≡ Some before
    → envelope ≡ held_by before.slot front place → spot_of before.state front.job ≡ Some at → ((member : ℕ) → at ≢ spot.Held member) → IsNobodys b envelope
not_out b slot place before front at envelope running there is waits differs where_out other has same =
    let group = has.group in
    let held = has.is_so.held in
    let one : where_out.slot ≡ slot =
    sym (running where_out.slot group has.there).numbered ∙ sym held.ours ∙ ap (λ (s : Stamp). s.group) same ∙ ap (λ (e : Held). e.stamp.group) is
    ∙ (running slot before there).numbered in
    let groups_same : group ≡ before = same_Some group before (sym has.there ∙ ap (slice_get b.groups) one ∙ there) in
    let job : job_of other.stamp ≡ front.job = ap job_of same ∙ ap (λ (e : Held). job_of e.stamp) is in
    differs other.place (same_Some at (spot.Held other.place)
    (sym waits ∙ ap (λ (g : Group). spot_of g.state front.job) (sym groups_same) ∙ ap (spot_of group.state) (sym job) ∙ held.there))

take_fresh : (old new : Broker) (place place' : GroupPlace) (envelope : Held) → AreRunning old → Calls old (Take place place' (Ok (Some envelope))) new → IsNobodys old envelope
take_fresh old new place place' envelope running does =
    let call = does.0 in
    not_out old place.slot place.number call.before call.does.0 spot.Queued envelope running call.there call.does.2 call.does.4.step.may.ready.0 (λ member e. cc)

take_back_fresh : (old new : Broker) (place place' : GroupPlace) (envelope : Held) → AreRunning old → Calls old (TakeBack place place' (Ok (Some envelope))) new
    → IsNobodys old envelope
take_back_fresh old new place place' envelope running does =
    let call = does.0 in
    not_out old place.slot place.number call.before call.does.0 spot.Returned envelope running call.there call.does.2 call.does.4.step.may.ready (λ member e. cc)

took : (place place' : GroupPlace) (answer : _) (old new : Broker) → Calls old (Take place place' answer) new → Goes [] old new
took place place' answer old new does = one (Take place place' answer) old new (λ stamp spends. spends) refl tt does (same_rows old new (ap (λ d. d.rows) does.2.desk))

took_back : (place place' : GroupPlace) (answer : _) (old new : Broker) → Calls old (TakeBack place place' answer) new → Goes [] old new
took_back place place' answer old new does = one (TakeBack place place' answer) old new (λ stamp spends. spends) refl tt does (same_rows old new (ap (λ d. d.rows) does.2.desk))

-- a place is handed a message, or none
record Asked (log : Log) (old : Broker) (place : GroupPlace) (found : Option Held) (place' : GroupPlace) (new : Broker) : Type 0 where
  kept : place' ≡ place
  goes : Goes [] old new
  new_one : (envelope : Held) → found ≡ Some envelope → HasOut new place envelope × IsNobodys old envelope × IsKnown log envelope

asked : (found : Option Held) (log : Log) (old new : Broker) (place place' : GroupPlace) → AreRunning old → AllKnow log old.groups → AsksFor Calls old place found place' new
    → Asked log old place found place' new
asked found log old new place place' running know (inl again) =
    record {
      kept = again.2.1;
      goes = took_back place place' (Ok (Some again.0)) old new again.2;
      new_one = λ envelope is.
          let same : again.0 ≡ envelope = same_Some again.0 envelope (sym again.1 ∙ is) in
          subst (λ (e : Held). HasOut new place e × IsNobodys old e × IsKnown log e) same (
            taken_out_again old new place place' again.0 again.2,
            take_back_fresh old new place place' again.0 running again.2,
            took_back_known place place' again.0 log old new again.2 running know,
          );
    }
asked found log old new place place' running know (inr first) =
    let between = first.0 in
    let mid = first.1 in
    let same : between ≡ place = first.2.1 in
    let none = took_back place between (Ok None) old mid first.2 in
    let then : Calls mid (Take place place' (Ok found)) new = subst (λ (p : GroupPlace). Calls mid (Take p place' (Ok found)) new) same first.3 in
    record {
      kept = then.1;
      goes = calm_then old mid new none (took place place' (Ok found) mid new then);
      new_one = λ envelope is.
          let took_it : Calls mid (Take place place' (Ok (Some envelope))) new = subst (λ (o : Option Held). Calls mid (Take place place' (Ok o)) new) is then in
          let nobodys = take_fresh mid new place place' envelope (none.runs.running running) took_it in (
            taken_out mid new place place' envelope took_it,
            λ at other has. nobodys at other (none.runs.out at other has (λ j f c. absurd (contains_nil {X = ℕ × Held} (j, f) c))),
            took_known place place' envelope log mid new took_it (none.runs.running running) (none.know log running (none_known log) know),
          );
    }

owned_nobodys : (membership : Membership GroupPlace) (entries : Entries) (b : Broker) (envelope : Held) → AreOutFor b membership entries → IsNobodys b envelope
    → (i : ℕ) (e : Held) → Contains entries (i, e) → e.stamp ≢ envelope.stamp
owned_nobodys NotMember entries b envelope owned nobodys i e c = absurd (contains_nil (i, e) (subst (λ (es : Entries). Contains es (i, e)) owned c))
owned_nobodys (Member place) entries b envelope owned nobodys i e c = nobodys place e (owned i e c)
owned_nobodys (Leaving place) entries b envelope owned nobodys i e c = nobodys place e (owned i e c)

put_cases : (window : Contents Held) (k : ℕ) (envelope : Held) (j : ℕ) (f : Held) → Contains (held_of (after_put window k envelope)) (j, f)
    → Contains (held_of window) (j, f) ⊎ IsEntry (k, envelope) (j, f)
put_cases window k envelope j f c =
    ⊎_elim
    (λ (early : Contains (window.owed ++ (k, envelope) ∷ []) (j, f)).
    ⊎_elim
    (λ (before : Contains window.owed (j, f)). inl (Contains-append_left window.owed window.waiting (j, f) before))
    (λ (last : Contains {X = ℕ × Held} ((k, envelope) ∷ []) (j, f)).
    ⊎_elim (λ (is : IsEntry (k, envelope) (j, f)). inr is) (λ (none : Contains {X = ℕ × Held} [] (j, f)). absurd (contains_nil (j, f) none))
    (contains_cons_cases (k, envelope) [] (j, f) last))
    (Contains-append_cases window.owed ((k, envelope) ∷ []) (j, f) early))
    (λ (late : Contains window.waiting (j, f)). inl (Contains-append_right window.owed window.waiting (j, f) late))
    (Contains-append_cases (window.owed ++ (k, envelope) ∷ []) window.waiting (j, f) c)

module _ (ledger : Ledger) (old new : Broker) (place : GroupPlace) (window : Contents Held) (k : ℕ) (envelope : Held) (goes : Goes [] old new) (out : HasOut new place envelope)
    (nobodys : IsNobodys old envelope) (is_known : IsKnown ledger.log envelope) (was : Holds ledger old (Member place) (held_of window)) where
  now_known : (i : ℕ) (e : Held) → Contains (held_of window) (i, e) ⊎ IsEntry (k, envelope) (i, e) → IsKnown ledger.log e
  now_known i e (inl had_it) = was.mine.known i e had_it
  now_known i e (inr is) = subst (λ (x : ℕ × Held). IsKnown ledger.log x.1) is is_known

  now_out : (i : ℕ) (e : Held) → Contains (held_of window) (i, e) ⊎ IsEntry (k, envelope) (i, e) → HasOut new place e
  now_out i e (inl had_it) = goes.runs.out place e (was.mine.owned i e had_it) (λ j f c. absurd (contains_nil {X = ℕ × Held} (j, f) c))
  now_out i e (inr is) = subst (λ (x : ℕ × Held). HasOut new place x.1) is out

  now_apart : (keeper : Keeper) (t : Kept) → Has ledger.all_connected old.desk.rows keeper t → (i j : ℕ) (e f : Held) → Contains (held_of window) (i, e) ⊎ IsEntry (k, envelope) (i, e)
      → Contains (held_of t.window) (j, f) → e.stamp ≢ f.stamp
  now_apart keeper t has i j e f (inl had_it) d = was.mine.apart keeper t has i j e f had_it d
  now_apart keeper t has i j e f (inr is) d = λ same.
      owned_nobodys t.membership (held_of t.window) old envelope (was.others.owned keeper t has) nobodys j f d (sym same ∙ ap (λ (x : ℕ × Held). x.1.stamp) (sym is))

  now_once : (i j : ℕ) (e f : Held) → Contains (held_of window) (i, e) ⊎ IsEntry (k, envelope) (i, e) → Contains (held_of window) (j, f) ⊎ IsEntry (k, envelope) (j, f)
      → e.stamp ≡ f.stamp → i ≡ j
  now_once i j e f (inl c) (inl d) same = was.mine.once i j e f c d same
  now_once i j e f (inl c) (inr is) same = absurd (nobodys place e (was.mine.owned i e c) (same ∙ ap (λ (x : ℕ × Held). x.1.stamp) (sym is)))
  now_once i j e f (inr is) (inl d) same = absurd (nobodys place f (was.mine.owned j f d) (sym same ∙ ap (λ (x : ℕ × Held). x.1.stamp) (sym is)))
  now_once i j e f (inr is) (inr are) same = ap (λ (x : ℕ × Held). x.0) (sym is ∙ are)

  put : Holds ledger new (Member place) (held_of (after_put window k envelope))
  put =
      record {
        others = owns_calm ledger old new goes was.others;
        mine = record {
          owned = λ i e c. now_out i e (put_cases window k envelope i e c);
          known = λ i e c. now_known i e (put_cases window k envelope i e c);
          apart = λ keeper t has i j e f c d. now_apart keeper t (had keeper ledger.all_connected old new t goes.runs.desk has) i j e f (put_cases window k envelope i e c) d;
          once = λ i j e f c d same. now_once i j e f (put_cases window k envelope i e c) (put_cases window k envelope j f d) same;
        };
      }

-- of one entry
only_one : (envelope : Held) (j : ℕ) (f : Held) → Contains {X = ℕ × Held} ((0, envelope) ∷ []) (j, f) → IsEntry (0, envelope) (j, f)
only_one envelope j f c =
    ⊎_elim (λ (is : IsEntry (0, envelope) (j, f)). is) (λ (none : Contains {X = ℕ × Held} [] (j, f)). absurd (contains_nil (j, f) none)) (contains_cons_cases (0, envelope) [] (j, f) c)

-- calls by which no message comes from where it was out, nothing is accepted, and these are settled
pub record Hands (discards : List Settlement) (old new : Broker) : Type 0 where
  pub runs : Runs [] old new
  pub know : (log : Log) → AreRunning old → AllKnow log old.groups → AllKnow log new.groups
  pub adds : AddsIn old.groups discards new.groups

hands_nothing : (old new : Broker) → Goes [] old new → Hands [] old new
hands_nothing old new goes = record { runs = goes.runs; know = λ log running was. goes.know log running (none_known log) was; adds = goes.adds }

hands_then : (discards more : List Settlement) (old mid new : Broker) → Hands discards old mid → Hands more mid new → Hands (discards ++ more) old new
hands_then discards more old mid new these those =
    record {
      runs = runs_then [] [] old mid new these.runs those.runs;
      know = λ log running was. those.know log (these.runs.running running) (these.know log running was);
      adds = adds_then discards more old.groups mid.groups new.groups these.adds those.adds;
    }

-- what a session holds stays out
holds_on : (discards : List Settlement) (ledger : Ledger) (old new : Broker) (membership : Membership GroupPlace) (entries : Entries) → Hands discards old new → Holds ledger old membership entries
    → Holds ledger new membership entries
holds_on discards ledger old new membership entries hands was =
    record {
      others =
          owns_on [] ledger ledger.log old new hands.runs (hands.know ledger.log was.others.running was.others.know) (same_log ledger.log)
          (λ keeper t has. none_apart (held_of t.window)) was.others;
      mine = mine_on [] ledger ledger.log old new membership entries hands.runs (same_log ledger.log) (none_apart entries) was.mine;
    }

-- a message is handed out, and discarded at once
one_discarded : (terms : HandOutTerms) (envelope : Held) (log : Log) (old new : Broker) (place place' : GroupPlace) → AreRunning old → AllKnow log old.groups
    → DiscardsOne Calls terms old place envelope place' new → (place' ≡ place) × Hands ((envelope, Discarded) ∷ []) old new
one_discarded terms envelope log old new place place' running know does =
    let mid = does.mid in
    let a = asked (Some envelope) log old mid place does.taken running know does.asked in
    let n = a.new_one envelope refl in
    let settled : Calls mid (Settle place place' envelope Discarded) new = subst (λ (p : GroupPlace). Calls mid (Settle p place' envelope Discarded) new) a.kept does.settled in
    let goes = a.goes in
    let runs = settle_runs place place' 0 envelope Discarded mid new settled in
    let out = n.0 in
    let others : (at : GroupPlace) (other : Held) → HasOut old at other → (j : ℕ) (f : Held) → Contains {X = ℕ × Held} ((0, envelope) ∷ []) (j, f) → f.stamp ≢ other.stamp = λ at other has j f c same.
    n.1 at other has (sym same ∙ sym (ap (λ (x : ℕ × Held). x.1.stamp) (only_one envelope j f c))) in (
      settled.1,
      record {
        runs = record {
          running = λ is. runs.running (goes.runs.running is);
          out = λ at other has apart. runs.out at other (goes.runs.out at other has (λ j f c. absurd (contains_nil {X = ℕ × Held} (j, f) c))) (others at other has);
          desk = λ number session is. goes.runs.desk number session (runs.desk number session is);
        };
        know = λ its was_running was. settled_known place place' envelope Discarded its mid new settled (goes.know its was_running (none_known its) was);
        adds =
            adds_then [] ((envelope, Discarded) ∷ []) old.groups mid.groups new.groups goes.adds
            (one_settled place place' envelope Discarded mid new (out.is_so.held.ours ∙ (goes.runs.running running place.slot out.group out.there).numbered)
            (λ group there. subst (λ (g : Group). IsOutAt g place.number envelope) (same_Some out.group group (sym out.there ∙ there)) out.is_so) settled);
      },
    )

-- one after the other
all_are_discarded : (terms : HandOutTerms) (envelopes : List Held) (log : Log) (old new : Broker) (place place' : GroupPlace) → AreRunning old → AllKnow log old.groups
    → Discards Calls terms old place envelopes place' new → (place' ≡ place) × Hands (all_discarded envelopes) old new
all_are_discarded terms [] log old new place place' running know does = (does.0, hands_nothing old new (still old new does.1))
all_are_discarded terms (envelope ∷ envelopes) log old new place place' running know does =
    let first = one_discarded terms envelope log old does.1 place does.0 running know does.2 in
    let rest = all_are_discarded terms envelopes log does.1 new does.0 place' (first.1.runs.running running) (first.1.know log running know) does.3 in
    (rest.0 ∙ first.0, hands_then ((envelope, Discarded) ∷ []) (all_discarded envelopes) old does.1 new first.1 rest.1)

-- nothing is found
finds_none : (terms : HandOutTerms) (log : Log) (old new : Broker) (place place' : GroupPlace) → AreRunning old → AllKnow log old.groups → Finds Calls terms old place None place' new
    → (place' ≡ place) × Goes [] old new
finds_none terms log old new place place' running know (inl none) = let a = asked None log old new place place' running know none.1 in (a.kept, a.goes)
finds_none terms log old new place place' running know (inr stop) = let answer = stop.2.0 in absurd (cc)

looks_in_vain : (terms : HandOutTerms) (log : Log) (old new : Broker) (place place' : GroupPlace) → AreRunning old → AllKnow log old.groups
    → (looks : LooksFor Calls terms old place None place' new) → (place' ≡ place) × Hands (all_discarded looks.discarded) old new
looks_in_vain terms log old new place place' running know looks =
    let before = all_are_discarded terms looks.discarded log old looks.mid place looks.between running know looks.passed in
    let after : (place' ≡ looks.between) × Goes [] looks.mid new =
    ⊎_elim
    (λ few. finds_none terms log looks.mid new looks.between place' (before.1.runs.running running) (before.1.know log running know) few.1)
    (λ most. (most.2, still looks.mid new most.3))
    looks.ended in (
      after.0 ∙ before.0,
      subst (λ (l : List Settlement). Hands l old new) (append-nil (all_discarded looks.discarded))
          (hands_then (all_discarded looks.discarded) [] old looks.mid new before.1 (hands_nothing looks.mid new after.1)),
    )

some_never : {envelope : Held} → Some envelope ≡ None → ⊥
some_never e = cc

-- one is found that may be sent
found : (terms : HandOutTerms) (envelope : Held) (old new : Broker) (place place' : GroupPlace) → (looks : LooksFor Calls terms old place (Some envelope) place' new)
    → AsksFor Calls looks.mid looks.between (Some envelope) place' new
found terms envelope old new place place' looks = ⊎_elim (λ few. few.1.1) (λ most. absurd (some_never most.1)) looks.ended

-- what a session holds after calls that settle these
abbrev pub Handed : List Settlement → Ledger → Broker → Membership GroupPlace → Contents Held → Broker → Type 0
Handed discards ledger old membership window new = Holds ledger new membership (held_of window) × Hands discards old new

-- nothing goes out
none_sent : (discards : List Settlement) (ledger : Ledger) (old new : Broker) (place place' : GroupPlace) (window window' : Contents Held) → window' ≡ window → place' ≡ place → Hands discards old new
    → Holds ledger old (Member place) (held_of window) → Holds ledger new (Member place') (held_of window')
none_sent discards ledger old new place place' window window' same_window same_place hands was =
    subst (λ (p : GroupPlace). Holds ledger new (Member p) (held_of window')) (sym same_place)
    (subst (λ (w : Contents Held). Holds ledger new (Member place) (held_of w)) (sym same_window) (holds_on discards ledger old new (Member place) (held_of window) hands was))

-- a message is out at its place under whatever Subscription Identifier
out_under : (b : Broker) (place : GroupPlace) (envelope : Held) (subscription : Option ℕ) → HasOut b place envelope → HasOut b place (under subscription envelope)
out_under b place envelope subscription has = record {
  group = has.group;
  there = has.there;
  is_so = record { held = record { ours = has.is_so.held.ours; there = has.is_so.held.there }; its = has.is_so.its };
}

sends_fresh : (terms : HandOutTerms) (packets : List Packet) (ledger : Ledger) (old new : Broker) (place place' : GroupPlace) (window window' : Contents Held)
    (sends : SendsFresh Calls terms old place window packets place' window' new)
    → Holds ledger old (Member place) (held_of window) → Handed (all_discarded (discarded_fresh Calls terms packets old new place place' window window' sends)) ledger old (Member place') window' new
sends_fresh terms [] ledger old new place place' window window' (same_window, inl full) was =
    let goes = hands_nothing old new (still old new full.2) in
    (none_sent [] ledger old new place place' window window' same_window full.1 goes was, goes)
sends_fresh terms [] ledger old new place place' window window' (same_window, inr none) was =
    let looked = looks_in_vain terms ledger.log old new place place' was.others.running was.others.know none.1 in
    (none_sent (all_discarded none.1.discarded) ledger old new place place' window window' same_window looked.0 looked.1 was, looked.1)
sends_fresh terms (packet ∷ packets) ledger old new place place' window window' sends was =
    let between = sends.0 in
    let mid = sends.2 in
    let s = sends.3 in
    let looks = s.found in
    let start = looks.mid in
    let before = all_are_discarded terms looks.discarded ledger.log old start place looks.between was.others.running was.others.know looks.passed in
    let held = holds_on (all_discarded looks.discarded) ledger old start (Member place) (held_of window) before.1 was in
    let asks : AsksFor Calls start place (Some s.envelope) between mid = subst (λ (p : GroupPlace). AsksFor Calls start p (Some s.envelope) between mid) before.0 (found terms s.envelope old mid place between looks) in
    let a = asked (Some s.envelope) ledger.log start mid place between held.others.running held.others.know asks in
    let n = a.new_one s.envelope refl in
    let put_in : Holds ledger mid (Member place) (held_of (after_put window s.identifier (under terms.subscription s.envelope))) =
    put ledger start mid place window s.identifier (under terms.subscription s.envelope) a.goes (out_under mid place s.envelope terms.subscription n.0) n.1 n.2 held in
    let next : Holds ledger mid (Member between) (held_of sends.1) =
    subst (λ (p : GroupPlace). Holds ledger mid (Member p) (held_of sends.1)) (sym a.kept)
    (subst (λ (w : Contents Held). Holds ledger mid (Member place) (held_of w)) (sym s.put) put_in) in
    let rest = sends_fresh terms packets ledger mid new between place' sends.1 window' sends.4 next in
    let later = discarded_fresh Calls terms packets mid new between place' sends.1 window' sends.4 in
    let first : Hands (all_discarded looks.discarded) old mid =
    subst (λ (l : List Settlement). Hands l old mid) (append-nil (all_discarded looks.discarded)) (hands_then (all_discarded looks.discarded) [] old start mid before.1 (hands_nothing start mid a.goes)) in (
      rest.0,
      subst (λ (l : List Settlement). Hands l old new) (sym (map-append (λ (envelope : Held). (envelope, Discarded)) looks.discarded later))
          (hands_then (all_discarded looks.discarded) (all_discarded later) old mid new first rest.1),
    )

-- who leaves
leaves : (ledger : Ledger) (old new : Broker) (place : GroupPlace) (window : Contents Held) (membership : Membership GroupPlace) → LeavesWith Calls old place window membership new
    → Holds ledger old (Leaving place) (held_of window) → Handed [] ledger old membership window new
leaves ledger old new place window membership (inl gone) was =
    let goes = one (TakePlace place) old new (λ stamp spends. spends) refl tt gone.2 (same_rows old new (ap (λ b. b.rows) gone.2.1.makes.2)) in (
      subst (λ (m : Membership GroupPlace). Holds ledger new m (held_of window)) (sym gone.1)
          (calm ledger old new NotMember (held_of window) goes (less ledger old (Leaving place) NotMember (held_of window) (held_of window) (λ i e c. c) (λ owned. gone.0) was)),
      hands_nothing old new goes,
    )
leaves ledger old new place window membership (inr stays) was = (
  subst (λ (m : Membership GroupPlace). Holds ledger new m (held_of window)) (sym stays.1)
      (calm ledger old new (Leaving place) (held_of window) (still old new stays.2) was),
  hands_nothing old new (still old new stays.2),
)

hands_fresh : (terms : HandOutTerms) (membership : Membership GroupPlace) (ledger : Ledger) (old new : Broker) (window : Contents Held) (packets : List Packet) (membership' : Membership GroupPlace)
    (window' : Contents Held) (does : HandsFresh Calls terms old membership window packets membership' window' new)
    → Holds ledger old membership (held_of window) → Handed (all_discarded (discarded_in Calls terms membership old new window packets membership' window' does)) ledger old membership' window' new
hands_fresh terms NotMember ledger old new window packets membership' window' does was =
    let goes = still old new does.3 in (
      subst (λ (m : Membership GroupPlace). Holds ledger new m (held_of window')) (sym does.1)
          (subst (λ (w : Contents Held). Holds ledger new NotMember (held_of w)) (sym does.2) (calm ledger old new NotMember (held_of window) goes was)),
      hands_nothing old new goes,
    )
hands_fresh terms (Member place) ledger old new window packets membership' window' does was =
    let sent = sends_fresh terms packets ledger old new place does.0 window window' does.2 was in
    (subst (λ (m : Membership GroupPlace). Holds ledger new m (held_of window')) (sym does.1) sent.0, sent.1)
hands_fresh terms (Leaving place) ledger old new window packets membership' window' does was =
    subst (λ (w : Contents Held). Handed [] ledger old membership' w new) (sym does.1) (leaves ledger old new place window membership' does.2 was)

-- what is sent again was held
held_again : (packets : List Packet) (now : ℕ) (old new : Contents Held) → SendsAgain now old packets new → held_of new ≡ held_of old
held_again [] now old new sends = ap held_of sends.1
held_again (packet ∷ packets) now old new sends =
    let entry = sends.0 in
    let next = sends.1.1 in
    held_again packets now (after_resend old (Some entry)) new sends.3
    ∙ append_assoc old.owed (entry ∷ []) (drop 1 old.waiting)
    ∙ ap (λ (es : Entries). old.owed ++ es) (ap (λ (es : Entries). entry ∷ drop 1 es) next.1 ∙ sym next.1)

pub hands_out : (terms : HandOutTerms) (ledger : Ledger) (old new : Broker) (membership : Membership GroupPlace) (window : Contents Held) (packets : List Packet) (membership' : Membership GroupPlace)
    (window' : Contents Held) (does : HandsOut Calls terms old membership window packets membership' window' new) → Holds ledger old membership (held_of window)
    → Handed (all_discarded (discarded_in Calls terms membership old new does.between does.fresh membership' window' does.sent_fresh)) ledger old membership' window' new
hands_out terms ledger old new membership window packets membership' window' does was =
    hands_fresh terms membership ledger old new does.between does.fresh membership' window' does.sent_fresh
    (subst (λ (es : Entries). Holds ledger old membership es) (sym (held_again does.again terms.at window does.between does.sent_again)) was)
