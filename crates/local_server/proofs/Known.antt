-- What the groups accepted: what waits in them is that, and so is what the sessions hold.
use Rattle.std.proofs.Common.{◌≡◌, ◌≢◌, ℕ, nat_eq, ◌+◌, ◌&&◌, Bool, true, false, cond, if◌then◌else◌, List, [], ◌∷◌, ◌++◌, filter_map, length, Option, Some, None, Result, Ok, Err, Contains, slice_get, slice_set, refl, sym, ap, subst, ◌∙◌, ⊎_elim, arith, append-nil, append_assoc, get_or, zero-add}
use Rattle.std.specs.List.{cons_option, count_by}
use Rattle.std.proofs.lemmas.Bool.{cases_eq, eq-eqb, ne_eqb}
use Rattle.std.proofs.lemmas.List.Elements.{filter_map-append, Contains-append_cases}
use Rattle.std.proofs.lemmas.List.Sums.{sum_by-cons}
use Rattle.std.proofs.lemmas.Option.{slice_get_within, slice_get-get_or, same_Some}
use Rattle.dispatch_core.specs.declared.event.Event.{Event}
use Rattle.dispatch_core.specs.declared.event.Event.TheVariants.{Accept, First, Ack, Refuse, Discard, Back, Again, Close}
use Rattle.dispatch_core.specs.GroupState.{accepted_of}
use Rattle.dispatch_core.specs.Mentions.{is_accept}
use Rattle.dispatch_core.specs.Step.{next_job}
use Rattle.dispatch_core.proofs.RunLaws.{count_run}
use Rattle.dispatch_core.proofs.Spots.{slice_get-set_same, slice_get-set_other, slice_get-push_same, slice_get-push_other}
use Rattle.group_jobs.specs.declared.fate.Fate.{Fate}
use Rattle.group_jobs.specs.declared.fate.Fate.TheVariants as fate
use Rattle.group_jobs.specs.declared.message.Message.{Message}
use Rattle.group_jobs.specs.declared.stamp.Stamp.{Stamp}
use Rattle.group_jobs.specs.Stamps.{Held, job_of, stamp_of}
use Rattle.member_window.proofs.Lists.{contains_here, contains_there, contains_cons_cases, contains_nil}
use Rattle.conn_supply.specs.declared.supply.NoMemory.{NoMemory}
use Rattle.local_group.specs.declared.waiting.Waiting.{Waiting}
use Rattle.local_group.specs.Groups.{Group, waits, held_by, Adds, Accepts, Takes, TakesBack, Settles, GivesBack, Closes}
use Rattle.local_broker.specs.Groups.{InGroup, HandsOut, HandsOutAgain, IsSettled, IsGivenBack, LetsGo, IsOutAt, ClosesEach}
use Rattle.local_broker.specs.Broker.{AreNewGroups}
use Rattle.local_broker.specs.Histories.{IsRunning}
use Rattle.local_broker.proofs.Closed.{either}
use Rattle.local_server.specs.Messages.{Accepted, message_if, messages_through, IsAcceptedAs, accepted_in, accepted_in_all, accepted_seen_by}

abbrev pub Log : Type 0
Log = List Accepted

-- a message is held as it was accepted
abbrev pub IsKnown : Log → Held → Type 0
IsKnown log envelope = IsAcceptedAs log envelope.stamp envelope.message

abbrev pub AllKnown : Log → List (ℕ × Held) → Type 0
AllKnown log entries = (i : ℕ) (e : Held) → Contains entries (i, e) → IsKnown log e

-- what waits in the group of a slot is what it accepted
abbrev pub AllWait : Log → ℕ → List Waiting → Type 0
AllWait log slot list = (waiting : Waiting) → Contains list waiting → IsAcceptedAs log (stamp_of slot waiting.job) waiting.message

pub record Knows (log : Log) (slot : ℕ) (group : Group) : Type 0 where
  pub queue : AllWait log slot group.queue
  pub returned : AllWait log slot group.returned
  pub told : accepted_in_all group.events ≡ filter_map (accepted_seen_by slot) log

abbrev pub AllKnow : Log → List Group → Type 0
AllKnow log groups = (slot : ℕ) (group : Group) → slice_get groups slot ≡ Some group → Knows log slot group

-- one event by which nothing is accepted
none_accepted : (old new : Group) (event : Event) → Adds old event new → accepted_in event ≡ None → accepted_in_all new.events ≡ accepted_in_all old.events
none_accepted old new event adds is =
    ap accepted_in_all adds.events ∙ filter_map-append accepted_in old.events (event ∷ []) ∙ ap (λ found. accepted_in_all old.events ++ cons_option found []) is
    ∙ append-nil (accepted_in_all old.events)

module _ (log : Log) (slot : ℕ) where
  fewer : (front : Waiting) (old new : List Waiting) → old ≡ front ∷ new → AllWait log slot old → AllWait log slot new
  fewer front old new is was waiting has = was waiting (subst (λ (l : List Waiting). Contains l waiting) (sym is) (contains_there front new waiting has))

  as_ever : (old new : List Waiting) → new ≡ old → AllWait log slot old → AllWait log slot new
  as_ever old new same was = subst (AllWait log slot) (sym same) was

  pub same_group : (old new : Group) → new ≡ old → Knows log slot old → Knows log slot new
  same_group old new same was = subst (Knows log slot) (sym same) was

  front_known : (group : Group) (front : Waiting) (place : ℕ) (envelope : Held) → group.slot ≡ slot → envelope ≡ held_by group.slot front place
      → IsAcceptedAs log (stamp_of slot front.job) front.message → IsKnown log envelope
  front_known group front place envelope its is known =
      subst (IsKnown log) (sym is) (subst (λ (s : ℕ). IsAcceptedAs log (stamp_of s front.job) front.message) (sym its) known)

  -- a place is handed a message
  pub taken_known : (old new : Group) (place : ℕ) (envelope : Held) → old.slot ≡ slot → Takes old place (Some envelope) new → Knows log slot old → IsKnown log envelope
  taken_known old new place envelope its does was =
      front_known old does.0 place envelope its does.2
      (was.queue does.0 (subst (λ (l : List Waiting). Contains l does.0) (sym does.1) (contains_here does.0 new.queue)))

  pub taken_back_known : (old new : Group) (place : ℕ) (envelope : Held) → old.slot ≡ slot → TakesBack old place (Some envelope) new → Knows log slot old
      → IsKnown log envelope
  taken_back_known old new place envelope its does was =
      front_known old does.0 place envelope its does.2
      (was.returned does.0 (subst (λ (l : List Waiting). Contains l does.0) (sym does.1) (contains_here does.0 new.returned)))

  pub handed : (answer : Result (Option Held) NoMemory) (old new : Group) (place : ℕ) → HandsOut old place answer new → Knows log slot old → Knows log slot new
  handed (Ok (Some envelope)) old new place does was =
      record {
        queue = fewer does.0 old.queue new.queue does.1 was.queue;
        returned = as_ever old.returned new.returned does.3 was.returned;
        told = none_accepted old new (First place does.0.job) does.4 refl ∙ was.told;
      }
  handed (Ok None) old new place does was = same_group old new does.1 was
  handed (Err refusal) old new place does was = same_group old new does.1 was

  pub handed_again : (answer : Result (Option Held) NoMemory) (old new : Group) (place : ℕ) → HandsOutAgain old place answer new → Knows log slot old → Knows log slot new
  handed_again (Ok (Some envelope)) old new place does was =
      record {
        queue = as_ever old.queue new.queue does.3 was.queue;
        returned = fewer does.0 old.returned new.returned does.1 was.returned;
        told = none_accepted old new (Again place does.0.job) does.4 refl ∙ was.told;
      }
  handed_again (Ok None) old new place does was = same_group old new does.1 was
  handed_again (Err refusal) old new place does was = same_group old new does.1 was

  -- one is settled, or given back
  settles : (how : Fate) (old new : Group) (envelope : Held) → Settles old envelope how new → accepted_in_all new.events ≡ accepted_in_all old.events
  settles fate.Acknowledged old new envelope does = none_accepted old new _ does.event refl
  settles fate.Refused old new envelope does = none_accepted old new _ does.event refl
  settles fate.Discarded old new envelope does = none_accepted old new _ does.event refl

  pub settled : (how : Fate) (old new : Group) (place : ℕ) (envelope : Held) → IsSettled old place envelope how new → Knows log slot old → Knows log slot new
  settled how old new place envelope does was =
      ⊎_elim
      (λ (is : IsOutAt old place envelope × Settles old envelope how new).
      record {
        queue = as_ever old.queue new.queue is.1.queue was.queue;
        returned = as_ever old.returned new.returned is.1.returned was.returned;
        told = settles how old new envelope is.1 ∙ was.told;
      })
      (λ (is : LetsGo old place envelope new). same_group old new is.same was) does

  one_more : (list : List Waiting) (last : Waiting) → AllWait log slot list → IsAcceptedAs log (stamp_of slot last.job) last.message → AllWait log slot (list ++ last ∷ [])
  one_more list last all known waiting has =
      ⊎_elim (λ (before : Contains list waiting). all waiting before)
      (λ (at_end : Contains (last ∷ []) waiting).
      ⊎_elim (λ (is : last ≡ waiting). subst (λ (w : Waiting). IsAcceptedAs log (stamp_of slot w.job) w.message) is known)
      (λ (none : Contains [] waiting). absurd (contains_nil waiting none)) (contains_cons_cases last [] waiting at_end))
      (Contains-append_cases list (last ∷ []) waiting has)

  pub given_back : (old new : Group) (place : ℕ) (envelope : Held) → old.slot ≡ slot → IsKnown log envelope → IsGivenBack old place envelope new → Knows log slot old
      → Knows log slot new
  given_back old new place envelope its known does was =
      ⊎_elim
      (λ (is : IsOutAt old place envelope × GivesBack old envelope new).
      let group_is : envelope.stamp.group ≡ slot = is.0.held.ours ∙ its in
      let last = waits (job_of envelope.stamp) envelope.message in
      record {
        queue = as_ever old.queue new.queue is.1.queue was.queue;
        returned =
            as_ever (old.returned ++ last ∷ []) new.returned is.1.returned
            (one_more old.returned last was.returned
            (subst (λ (s : ℕ). IsAcceptedAs log (stamp_of s (job_of envelope.stamp)) envelope.message) group_is known));
        told = none_accepted old new (Back envelope.place (job_of envelope.stamp)) is.1.event refl ∙ was.told;
      })
      (λ (is : LetsGo old place envelope new). same_group old new is.same was) does

  pub closed : (old new : Group) → Closes old new → Knows log slot old → Knows log slot new
  closed old new does was =
      ⊎_elim
      (λ (over : old.state.closed ≡ true). same_group old new (does.again over) was)
      (λ (opened : old.state.closed ≡ false).
      record {
        queue = as_ever old.queue new.queue does.queue was.queue;
        returned = as_ever old.returned new.returned does.returned was.returned;
        told = none_accepted old new Close (does.closed opened) refl ∙ was.told;
      })
      (either old.state.closed)

-- after one more accepted message
module _ (log : Log) (accepted : Accepted) where
  abbrev pub more : Log
  more = log ++ accepted ∷ []

  through : (slot port : ℕ) → messages_through slot port more ≡ messages_through slot port log ++ cons_option (message_if slot port accepted) []
  through slot port = filter_map-append (message_if slot port) log (accepted ∷ [])

  pushed : (found : Option Message) (messages : List Message) (k : ℕ) (message : Message) → slice_get messages k ≡ Some message
      → slice_get (messages ++ cons_option found []) k ≡ Some message
  pushed None messages k message is = ap (λ (l : List Message). slice_get l k) (append-nil messages) ∙ is
  pushed (Some last) messages k message is =
      slice_get-push_other messages k last (λ (past : k ≡ length messages). (let within = slice_get_within messages k message is in omega arith)) ∙ is

  pub known_on : (stamp : Stamp) (message : Message) → IsAcceptedAs log stamp message → IsAcceptedAs more stamp message
  known_on stamp message is =
      ap (λ (l : List Message). slice_get l stamp.number) (through stamp.group stamp.port)
      ∙ pushed (message_if stamp.group stamp.port accepted) (messages_through stamp.group stamp.port log) stamp.number message is

  -- a group that did not accept it
  elsewhere : (slot : ℕ) (group : Group) → accepted.group ≢ slot → Knows log slot group → Knows more slot group
  elsewhere slot group other was =
      record {
        queue = λ waiting has. known_on (stamp_of slot waiting.job) waiting.message (was.queue waiting has);
        returned = λ waiting has. known_on (stamp_of slot waiting.job) waiting.message (was.returned waiting has);
        told =
            was.told
            ∙ sym (
            filter_map-append (accepted_seen_by slot) log (accepted ∷ [])
            ∙ ap (λ (b : Bool). filter_map (accepted_seen_by slot) log ++ cons_option (if b then Some accepted.port else None) []) (ne_eqb accepted.group slot other)
            ∙ append-nil (filter_map (accepted_seen_by slot) log));
      }

-- what was known is known still
abbrev pub StaysKnown : Log → Log → Type 0
StaysKnown log log' = (stamp : Stamp) (message : Message) → IsAcceptedAs log stamp message → IsAcceptedAs log' stamp message

pub same_log : (log : Log) → StaysKnown log log
same_log log stamp message is = is

pub stays_known : (log more : Log) → StaysKnown log (log ++ more)
stays_known log [] stamp message is = subst (λ (l : Log). IsAcceptedAs l stamp message) (sym (append-nil log)) is
stays_known log (accepted ∷ others) stamp message is =
    subst (λ (l : Log). IsAcceptedAs l stamp message) (append_assoc log (accepted ∷ []) others)
    (stays_known (log ++ accepted ∷ []) others stamp message (known_on log accepted stamp message is))

-- how many a group accepted through a port
abbrev is_port : ℕ → ℕ → Bool
is_port port other = nat_eq other port

counted_ports : (events : List Event) (port : ℕ) → count_by (is_accept port) events ≡ count_by (is_port port) (accepted_in_all events)
counted_ports [] port = refl
counted_ports (event ∷ events) port = sum_by-cons (λ e. cond (is_accept port e) 1 0) event events ∙ counted_one event (counted_ports events port)
  where
    counted_one : (event : Event) → count_by (is_accept port) events ≡ count_by (is_port port) (accepted_in_all events)
        → cond (is_accept port event) 1 0 + count_by (is_accept port) events ≡ count_by (is_port port) (cons_option (accepted_in event) (accepted_in_all events))
    counted_one (Accept other) rest =
        ap (λ (n : ℕ). cond (is_port port other) 1 0 + n) rest ∙ sym (sum_by-cons (λ (p : ℕ). cond (is_port port p) 1 0) other (accepted_in_all events))
    counted_one (First member job) rest = zero-add (count_by (is_accept port) events) ∙ rest
    counted_one (Ack member job) rest = zero-add (count_by (is_accept port) events) ∙ rest
    counted_one (Refuse member job) rest = zero-add (count_by (is_accept port) events) ∙ rest
    counted_one (Discard member job) rest = zero-add (count_by (is_accept port) events) ∙ rest
    counted_one (Back member job) rest = zero-add (count_by (is_accept port) events) ∙ rest
    counted_one (Again member job) rest = zero-add (count_by (is_accept port) events) ∙ rest
    counted_one Close rest = zero-add (count_by (is_accept port) events) ∙ rest

counted_messages : (log : Log) (slot port : ℕ) → count_by (is_port port) (filter_map (accepted_seen_by slot) log) ≡ length (messages_through slot port log)
counted_messages [] slot port = refl
counted_messages (accepted ∷ log) slot port = seen (nat_eq accepted.group slot) (counted_messages log slot port)
  where
    ports : List ℕ
    ports = filter_map (accepted_seen_by slot) log

    messages : List Message
    messages = messages_through slot port log

    its : (same : Bool) → count_by (is_port port) ports ≡ length messages
        → cond same 1 0 + count_by (is_port port) ports ≡ length (cons_option (if same then Some accepted.message else None) messages)
    its true rest = omega (arith, rest)
    its false rest = zero-add (count_by (is_port port) ports) ∙ rest

    seen : (ours : Bool) → count_by (is_port port) ports ≡ length messages
        → count_by (is_port port) (cons_option (if ours then Some accepted.port else None) ports)
        ≡ length (cons_option (if ours && nat_eq accepted.port port then Some accepted.message else None) messages)
    seen false rest = rest
    seen true rest = sum_by-cons (λ (p : ℕ). cond (is_port port p) 1 0) accepted.port ports ∙ its (nat_eq accepted.port port) rest

-- the number of a job is the place of its message
numbered : (log : Log) (slot port : ℕ) (group : Group) → IsRunning slot group → Knows log slot group
    → accepted_of group.state port ≡ length (messages_through slot port log)
numbered log slot port group running knows =
    count_run group.events group.state port running.run ∙ counted_ports group.events port ∙ ap (count_by (is_port port)) knows.told
    ∙ counted_messages log slot port

-- a group accepts a message
abbrev pub as_accepted : ℕ → ℕ → Message → Accepted
as_accepted slot port message = record { group = slot; port = port; message = message }

accepts : (log : Log) (slot port : ℕ) (message : Message) (stamp : Stamp) (old new : Group) → IsRunning slot old → Accepts old port message stamp new → Knows log slot old
    → Knows (log ++ as_accepted slot port message ∷ []) slot new
accepts log slot port message stamp old new running does was =
    let accepted = as_accepted slot port message in
    let behind : Log = log ++ accepted ∷ [] in
    let before = messages_through slot port log in
    let job = next_job old.state port in
    let its : message_if slot port accepted ≡ Some message =
    (λ i. if (eq-eqb slot slot refl i) && (eq-eqb port port refl i) then Some message else None) in
    let messages : messages_through slot port behind ≡ before ++ message ∷ [] = through log accepted slot port ∙ ap (λ (o : Option Message). before ++ cons_option o []) its in
    let known : IsAcceptedAs behind (stamp_of slot job) message =
    ap (λ (l : List Message). slice_get l job.number) messages
    ∙ ap (slice_get (before ++ message ∷ [])) (numbered log slot port old running was) ∙ slice_get-push_same before message in
    let on : (list : List Waiting) → AllWait log slot list → AllWait behind slot list = λ list all waiting has.
    known_on log accepted (stamp_of slot waiting.job) waiting.message (all waiting has) in
    record {
      queue = as_ever behind slot (old.queue ++ waits job message ∷ []) new.queue does.queue (one_more behind slot old.queue (waits job message) (on old.queue was.queue) known);
      returned = as_ever behind slot old.returned new.returned does.returned (on old.returned was.returned);
      told =
          ap accepted_in_all does.event.events ∙ filter_map-append accepted_in old.events (Accept port ∷ [])
          ∙ ap (λ (l : List ℕ). l ++ port ∷ []) was.told
          ∙ sym (
          filter_map-append (accepted_seen_by slot) log (accepted ∷ [])
          ∙ ap (λ (b : Bool). filter_map (accepted_seen_by slot) log ++ cons_option (if b then Some port else None) []) (eq-eqb slot slot refl));
    }

-- a call of one group of a broker's
becomes : (log : Log) (old new : List Group) (at : ℕ) (after : Group) → new ≡ slice_set old at after → (there : Group) → slice_get old at ≡ Some there
    → Knows log at after → ((slot : ℕ) (group : Group) → at ≢ slot → slice_get old slot ≡ Some group → Knows log slot group) → AllKnow log new
becomes log old new at after is before there here others slot group has =
    let set : slice_get (slice_set old at after) slot ≡ Some group = ap (λ l. slice_get l slot) (sym is) ∙ has in
    ⊎_elim
    (λ (same : at ≡ slot).
    let its : after ≡ group = same_Some after group
    (sym (slice_get-set_same old at after (slice_get_within old at before there)) ∙ ap (slice_get (slice_set old at after)) same ∙ set) in
    subst (λ (s : ℕ). Knows log s group) same (subst (Knows log at) its here))
    (λ (differs : at ≢ slot). others slot group differs (sym (slice_get-set_other old at slot after (λ e. differs (sym e))) ∙ set))
    (cases_eq at slot)

pub in_group : (log : Log) (old new : List Group) (at : ℕ) (Does : Group → Group → Type 0)
    → ((before after : Group) → slice_get old at ≡ Some before → Does before after → Knows log at before → Knows log at after)
    → InGroup old at Does new → AllKnow log old → AllKnow log new
in_group log old new at Does on does was =
    becomes log old new at does.after does.becomes does.before does.there (on does.before does.after does.there does.does (was at does.before does.there))
    (λ slot group differs there. was slot group there)

pub accepted_in_group : (log : Log) (old new : List Group) (at port : ℕ) (message : Message) (stamp : Stamp)
    → ((slot : ℕ) (group : Group) → slice_get old slot ≡ Some group → IsRunning slot group)
    → InGroup old at (λ before after. Accepts before port message stamp after) new → AllKnow log old → AllKnow (log ++ as_accepted at port message ∷ []) new
accepted_in_group log old new at port message stamp running does was =
    becomes (log ++ as_accepted at port message ∷ []) old new at does.after does.becomes does.before does.there
    (accepts log at port message stamp does.before does.after (running at does.before does.there) does.does (was at does.before does.there))
    (λ slot group differs there. elsewhere log (as_accepted at port message) slot group differs (was slot group there))

-- each group is closed
pub closed_each : (log : Log) (old new : List Group) → ClosesEach old new → AllKnow log old → AllKnow log new
closed_each log old new closes was slot group there =
    let within = slice_get_within new slot group there in
    let before = get_or old slot group in
    let stood = slice_get-get_or old slot group (let as_many = closes.as_many in omega arith) in
    let has = closes.each slot before stood in
    subst (Knows log slot) (same_Some has.group group (sym has.there ∙ there)) (closed log slot before has.group has.is_so (was slot before stood))

-- new groups
pub new_known : (capacity : ℕ) (groups : List Group) → AreNewGroups capacity groups → AllKnow [] groups
new_known capacity groups new slot group there =
    let is = new slot group there in
    record {
      queue = λ waiting has. absurd (contains_nil waiting (subst (λ (l : List Waiting). Contains l waiting) is.fresh.queue has));
      returned = λ waiting has. absurd (contains_nil waiting (subst (λ (l : List Waiting). Contains l waiting) is.fresh.returned has));
      told = ap accepted_in_all is.fresh.events;
    }
