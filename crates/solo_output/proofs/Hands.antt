-- What a member is handed on one thread is what the model hands out.
use Rattle.std.proofs.Common.{◌≡◌, ◌≢◌, ℕ, ◌+◌, ◌<◌, ◌≤◌, true, false, List, [], ◌∷◌, ◌++◌, length, slice_get, Option, Some, None, Ok, IsSomeAnd, refl, sym, ap, ◌∙◌, subst, ⊎_elim, inl, inr, arith}
use Rattle.std.proofs.lemmas.List.{map-append, length-map, append-nil}
use Rattle.std.proofs.lemmas.Bool.{cases_lt}
use Rattle.std.proofs.lemmas.Option.{none-some, same_Some, slice_get_within}
use Rattle.dispatch_core.proofs.Spots.{slice_get-set_same}
use Rattle.mqtt_packet.specs.declared.packet.Packet.{Packet}
use Rattle.group_jobs.specs.declared.fate.Fate.TheVariants as fates
use Rattle.group_jobs.specs.declared.message.Message.{Message}
use Rattle.group_jobs.specs.Stamps.{Held, under}
use Rattle.member_window.specs.Identifiers.{identifiers, IsLeastFree}
use Rattle.member_window.specs.Contents.{Contents, held_of, HasRoom, after_put}
use Rattle.session_desk.specs.declared.session.Membership.{Membership}
use Rattle.session_desk.specs.declared.session.Membership.TheVariants.{Member}
use Rattle.conn_rules.specs.declared.hand_outs.HandOutTerms.{HandOutTerms}
use Rattle.conn_rules.specs.HandOuts.{is_discarded}
use Rattle.conn_rules.specs.Packets.{job}
use Rattle.conn_rules.specs.Setups.{most_capacity}
use Rattle.conn_supply.specs.SupplyCalls.SupplyCall.{Take, TakeBack, Settle}
use Rattle.conn_supply.specs.HandOuts.{AsksFor, DiscardsOne, Discards, Finds, SendsOne, SendsNone, SendsFresh}
use Rattle.local_group.specs.Groups.{Group}
use Rattle.local_broker.specs.Places.{GroupPlace}
use Rattle.local_broker.specs.Groups.{IsSettled}
use Rattle.local_broker.specs.Broker.{Broker}
use Rattle.local_broker.specs.Calls.{Calls}
use Rattle.solo_output.specs.Groups.{SoloState, HandOut, accepted_in, handed_in, waiting_in, unacknowledged, with_hand_out}
use Rattle.solo_output.specs.Groups.Outcome.{Unacknowledged, Discarded}
use Rattle.solo_output.specs.HandOuts.{SoloStep, quota, has_room, least_free, terms_in, outcome_of, packets_unless, next_hand_out, sent_before, hand_out}
use Rattle.solo_output.proofs.Groups.{ShowsGroup, messages_in, none_back, none_waits, few_wait, handed_one, discarded_at_once}
use Rattle.solo_output.proofs.Identifiers.{least_is}
use Rattle.solo_output.proofs.Lists.{handed, open_push, open_discarded, handed_in_push_same, handed_in_push_other}
use Rattle.solo_output.proofs.NextOuts.{room_from, full_from, full_out, next_out, waiting_behind}
use Rattle.solo_output.proofs.Brokers.{ShowsBroker, entries_at, in_group, as_many, entries_same, entries_other}

-- the window of a session that was resumed never, and is up: what it holds is unacknowledged
pub record ShowsWindow (solo : SoloState) (w : Contents Held) : Type 0 where
  pub none_waits : w.waiting ≡ []
  pub quota_is : w.quota ≡ Some (quota solo)
  pub opens : unacknowledged solo ≡ identifiers w.owed
  pub not_ending : w.retired ≡ false

-- the one place of a group that is ever lent
abbrev pub first_place : ℕ → GroupPlace
first_place slot = record { slot = slot; number = 0 }

-- what a step comes to
pub record Delivers (solo_step : SoloStep) (slot : ℕ) (old : Broker) (packets : List Packet) (place' : GroupPlace) (window' : Contents Held) (new : Broker) : Type 0 where
  pub sent : packets ≡ solo_step.sent
  pub shows : ShowsBroker solo_step.solo window'.owed new
  pub window : ShowsWindow solo_step.solo window'
  pub place : place' ≡ first_place slot
  pub desk : new.desk ≡ old.desk

-- nothing was given back
pub asked_back : (solo : SoloState) (entries : List (ℕ × Held)) (slot : ℕ) (old mid : Broker) (between : GroupPlace) → ShowsBroker solo entries old
    → Calls old (TakeBack (first_place slot) between (Ok None)) mid → ShowsBroker solo entries mid
asked_back solo entries slot old mid between shows does =
    record {
      routes = does.2.routes ∙ shows.routes;
      few = shows.few;
      eight = as_many old.groups mid.groups slot _ does.0 ∙ shows.eight;
      groups = in_group old.groups mid.groups slot _
          (λ other group. ShowsGroup solo.capacity other (accepted_in other solo.groups) (handed_in other solo.handed_out) (entries_at solo.membership other entries) group)
          does.0 (λ other group differs there. shows.groups other group there)
          (subst (ShowsGroup solo.capacity slot (accepted_in slot solo.groups) (handed_in slot solo.handed_out) (entries_at solo.membership slot entries)) (sym does.0.does.1)
          (shows.groups slot does.0.before does.0.there));
    }

-- the window has room where the model has, and no room where it has none
pub has_quota : (solo : SoloState) (window : Contents Held) → ShowsWindow solo window → HasRoom window → has_room solo ≡ true
has_quota solo window holds room =
    let many : length (unacknowledged solo) ≡ length window.owed = ap length holds.opens ∙ length-map window.owed (λ (e : ℕ × Held). e.0) in
    let some : length window.owed < quota solo = subst (λ (q : Option ℕ). IsSomeAnd q (λ n. length window.owed < n)) holds.quota_is room.0 in
    room_from solo (omega (arith, many))

no_quota : (solo : SoloState) (window : Contents Held) → ShowsWindow solo window → ¬ HasRoom window → has_room solo ≡ false
no_quota solo window holds full =
    let many : length (unacknowledged solo) ≡ length window.owed = ap length holds.opens ∙ length-map window.owed (λ (e : ℕ × Held). e.0) in
    let not_less : ¬ (length window.owed < quota solo) =
    λ less. full (subst (λ (q : Option ℕ). IsSomeAnd q (λ n. length window.owed < n)) (sym holds.quota_is) less, holds.none_waits) in
    full_from solo
    (⊎_elim (λ (less : length window.owed < quota solo). absurd (not_less less)) (λ (most : quota solo ≤ length window.owed). omega (arith, many, most)) (cases_lt (length window.owed) (quota solo)))

module _ (slot : ℕ) (solo : SoloState) (member : solo.membership ≡ Member slot) (window : Contents Held) (old : Broker) (shows : ShowsBroker solo window.owed old) (holds : ShowsWindow solo window) where
  own : entries_at solo.membership slot window.owed ≡ window.owed
  own = ap (λ (m : Membership ℕ). entries_at m slot window.owed) member ∙ entries_same slot window.owed

  others : (other : ℕ) (entries : List (ℕ × Held)) → other ≢ slot → entries_at solo.membership other entries ≡ []
  others other entries differs = ap (λ (m : Membership ℕ). entries_at m other entries) member ∙ entries_other slot other entries (λ e. differs (sym e))

  -- ---- nothing is found

  none_left : (mid new : Broker) (between place' : GroupPlace) → Calls old (TakeBack (first_place slot) between (Ok None)) mid → Calls mid (Take between place' (Ok None)) new → waiting_in slot solo ≡ []
  none_left mid new between place' back does =
      let kept = asked_back solo window.owed slot old mid between shows back in
      let call = subst (λ (p : GroupPlace). Calls mid (Take p place' (Ok None)) new) back.1 does in
      none_waits solo.capacity slot (accepted_in slot solo.groups) (handed_in slot solo.handed_out) (entries_at solo.membership slot window.owed) call.0.before
      (kept.groups slot call.0.before call.0.there) call.0.after call.0.does

  stays : (mid new : Broker) (between place' : GroupPlace) → Calls old (TakeBack (first_place slot) between (Ok None)) mid → Calls mid (Take between place' (Ok None)) new
      → ShowsBroker solo window.owed new × (place' ≡ first_place slot) × (new.desk ≡ old.desk)
  stays mid new between place' back does =
      let kept = asked_back solo window.owed slot old mid between shows back in
      let call = subst (λ (p : GroupPlace). Calls mid (Take p place' (Ok None)) new) back.1 does in (
        record {
          routes = call.2.routes ∙ kept.routes;
          few = shows.few;
          eight = as_many mid.groups new.groups slot _ call.0 ∙ kept.eight;
          groups = in_group mid.groups new.groups slot _
              (λ other group. ShowsGroup solo.capacity other (accepted_in other solo.groups) (handed_in other solo.handed_out) (entries_at solo.membership other window.owed) group)
              call.0 (λ other group differs there. kept.groups other group there)
              (subst (ShowsGroup solo.capacity slot (accepted_in slot solo.groups) (handed_in slot solo.handed_out) (entries_at solo.membership slot window.owed)) (sym call.0.does.1)
              (kept.groups slot call.0.before call.0.there));
        },
        call.1,
        call.2.desk ∙ back.2.desk,
      )

  found_none : (new : Broker) (place' : GroupPlace) → Finds Calls (terms_in solo) old (first_place slot) None place' new
      → (waiting_in slot solo ≡ []) × ShowsBroker solo window.owed new × (place' ≡ first_place slot) × (new.desk ≡ old.desk)
  found_none new place' (inl (allowed, inl found)) = absurd (none-some found.0 found.1)
  found_none new place' (inl (allowed, inr asked)) =
      let after = stays asked.1 new asked.0 place' asked.2 asked.3 in
      (none_left asked.1 new asked.0 place' asked.2 asked.3, after.0, after.1, after.2)
  found_none new place' (inr stop) = let answer = stop.2.0 in absurd (cc)

  -- ---- one message is found

  abbrev next : ℕ
  next = least_free (unacknowledged solo)

  -- it goes out
  abbrev behind : SoloState
  behind = with_hand_out (handed slot solo.subscription next Unacknowledged) solo

  found_one : (envelope : Held) (mid : Broker) (place' : GroupPlace) → AsksFor Calls old (first_place slot) (Some envelope) place' mid
      → (messages : List Message) × (waiting_in slot solo ≡ envelope.message ∷ messages)
      × ShowsBroker behind (window.owed ++ (next, under solo.subscription envelope) ∷ []) mid × (place' ≡ first_place slot) × (mid.desk ≡ old.desk)
  found_one envelope mid place' (inl found) =
      let call = found.2 in
      absurd
      (none_back solo.capacity slot (accepted_in slot solo.groups) (handed_in slot solo.handed_out) (entries_at solo.membership slot window.owed) call.0.before
      (shows.groups slot call.0.before call.0.there) call.0.after found.0 call.0.does)
  found_one envelope mid place' (inr asked) =
      let back = asked.2 in
      let kept = asked_back solo window.owed slot old asked.1 asked.0 shows back in
      let call = subst (λ (p : GroupPlace). Calls asked.1 (Take p place' (Ok (Some envelope))) mid) back.1 asked.3 in
      let accepted = accepted_in slot solo.groups in
      let hand_outs = handed_in slot solo.handed_out in
      let one = handed slot solo.subscription next Unacknowledged in
      let all = window.owed ++ (next, under solo.subscription envelope) ∷ [] in
      let was : ShowsGroup solo.capacity slot accepted hand_outs window.owed call.0.before =
      subst (λ (l : List (ℕ × Held)). ShowsGroup solo.capacity slot accepted hand_outs l call.0.before) own (kept.groups slot call.0.before call.0.there) in
      let got = handed_one solo.capacity slot accepted hand_outs window.owed call.0.before was call.0.after envelope solo.subscription next call.0.does in
      let pushed = handed_in_push_same solo.handed_out one in (
        messages_in call.0.after.queue,
        got.0,
        record {
          routes = call.2.routes ∙ kept.routes;
          few = shows.few;
          eight = as_many asked.1.groups mid.groups slot _ call.0 ∙ kept.eight;
          groups = in_group asked.1.groups mid.groups slot _
              (λ other group. ShowsGroup solo.capacity other (accepted_in other solo.groups) (handed_in other behind.handed_out) (entries_at solo.membership other all) group)
              call.0
              (λ other group differs there.
              subst (λ (hs : List HandOut). ShowsGroup solo.capacity other (accepted_in other solo.groups) hs (entries_at solo.membership other all) group)
              (sym (handed_in_push_other solo.handed_out one other (λ e. differs (sym e))))
              (subst (λ (l : List (ℕ × Held)). ShowsGroup solo.capacity other (accepted_in other solo.groups) (handed_in other solo.handed_out) l group)
              (others other window.owed differs ∙ sym (others other all differs)) (kept.groups other group there)))
              (subst (λ (hs : List HandOut). ShowsGroup solo.capacity slot accepted hs (entries_at solo.membership slot all) call.0.after) (sym pushed)
              (subst (λ (l : List (ℕ × Held)). ShowsGroup solo.capacity slot accepted (hand_outs ++ one ∷ []) l call.0.after)
              (sym (ap (λ (m : Membership ℕ). entries_at m slot all) member ∙ entries_same slot all)) got.1));
        },
        call.1,
        call.2.desk ∙ back.2.desk,
      )

  -- it is discarded at once
  abbrev dropped : SoloState
  dropped = with_hand_out (handed slot solo.subscription next Discarded) solo

  discards_found : (envelope : Held) (taken place' : GroupPlace) (mid new : Broker) → AsksFor Calls old (first_place slot) (Some envelope) taken mid → Calls mid (Settle taken place' envelope fates.Discarded) new
      → (messages : List Message) × (waiting_in slot solo ≡ envelope.message ∷ messages) × (length (waiting_in slot solo) ≤ most_capacity)
      × ShowsBroker dropped window.owed new × (place' ≡ first_place slot) × (new.desk ≡ old.desk)
  discards_found envelope taken place' mid new (inl found) settles =
      let call = found.2 in
      absurd
      (none_back solo.capacity slot (accepted_in slot solo.groups) (handed_in slot solo.handed_out) (entries_at solo.membership slot window.owed) call.0.before
      (shows.groups slot call.0.before call.0.there) call.0.after found.0 call.0.does)
  discards_found envelope taken place' mid new (inr asked) settles =
      let back = asked.2 in
      let kept = asked_back solo window.owed slot old asked.1 asked.0 shows back in
      let call = subst (λ (p : GroupPlace). Calls asked.1 (Take p taken (Ok (Some envelope))) mid) back.1 asked.3 in
      let last = subst (λ (p : GroupPlace). Calls mid (Settle p place' envelope fates.Discarded) new) call.1 settles in
      let accepted = accepted_in slot solo.groups in
      let hand_outs = handed_in slot solo.handed_out in
      let one = handed slot solo.subscription next Discarded in
      let was : ShowsGroup solo.capacity slot accepted hand_outs window.owed call.0.before =
      subst (λ (l : List (ℕ × Held)). ShowsGroup solo.capacity slot accepted hand_outs l call.0.before) own (kept.groups slot call.0.before call.0.there) in
      let there : slice_get mid.groups slot ≡ Some call.0.after =
      ap (λ (l : List Group). slice_get l slot) call.0.becomes ∙ slice_get-set_same asked.1.groups slot call.0.after (slice_get_within asked.1.groups slot call.0.before call.0.there) in
      let same : last.0.before ≡ call.0.after = same_Some last.0.before call.0.after (sym last.0.there ∙ there) in
      let does : IsSettled call.0.after 0 envelope fates.Discarded last.0.after = subst (λ (g : Group). IsSettled g 0 envelope fates.Discarded last.0.after) same last.0.does in
      let got = discarded_at_once solo.capacity slot accepted hand_outs window.owed call.0.before was call.0.after last.0.after envelope solo.subscription next call.0.does does in
      let pushed = handed_in_push_same solo.handed_out one in
      let between = in_group asked.1.groups mid.groups slot _
      (λ other group. other ≢ slot → ShowsGroup solo.capacity other (accepted_in other solo.groups) (handed_in other dropped.handed_out) (entries_at solo.membership other window.owed) group)
      call.0
      (λ other group differs where_ again.
      subst (λ (hs : List HandOut). ShowsGroup solo.capacity other (accepted_in other solo.groups) hs (entries_at solo.membership other window.owed) group)
      (sym (handed_in_push_other solo.handed_out one other (λ e. differs (sym e)))) (kept.groups other group where_))
      (λ again. absurd (again refl)) in (
        messages_in last.0.after.queue,
        got.0,
        few_wait solo.capacity slot accepted hand_outs window.owed call.0.before was,
        record {
          routes = last.2.routes ∙ call.2.routes ∙ kept.routes;
          few = shows.few;
          eight = as_many mid.groups new.groups slot _ last.0 ∙ as_many asked.1.groups mid.groups slot _ call.0 ∙ kept.eight;
          groups = in_group mid.groups new.groups slot _
              (λ other group. ShowsGroup solo.capacity other (accepted_in other solo.groups) (handed_in other dropped.handed_out) (entries_at solo.membership other window.owed) group)
              last.0
              (λ other group differs where_. between other group where_ differs)
              (subst (λ (hs : List HandOut). ShowsGroup solo.capacity slot accepted hs (entries_at solo.membership slot window.owed) last.0.after) (sym pushed)
              (subst (λ (l : List (ℕ × Held)). ShowsGroup solo.capacity slot accepted (hand_outs ++ one ∷ []) l last.0.after) (sym own) got.1));
        },
        last.1,
        last.2.desk ∙ call.2.desk ∙ back.2.desk,
      )

-- what a model becomes where messages are looked for: so many were discarded
pub record Passes (slot : ℕ) (solo : SoloState) (w : Contents Held) (many : ℕ) (old : Broker) (place' : GroupPlace) (mid : Broker) : Type 0 where
  pub later : SoloState
  pub same : hand_out slot (waiting_in slot solo) solo ≡ hand_out slot (waiting_in slot later) later
  pub member : later.membership ≡ Member slot
  pub terms : terms_in later ≡ terms_in solo
  pub shows : ShowsBroker later w.owed mid
  pub holds : ShowsWindow later w
  pub place : place' ≡ first_place slot
  pub desk : mid.desk ≡ old.desk
  pub fewer : many ≤ length (waiting_in slot solo)
  pub few : many ≤ most_capacity

discards_one : (slot : ℕ) (solo : SoloState) → solo.membership ≡ Member slot → (window : Contents Held) → HasRoom window → (old : Broker) → ShowsBroker solo window.owed old → ShowsWindow solo window
    → (envelope : Held) (place' : GroupPlace) (mid : Broker) → DiscardsOne Calls (terms_in solo) old (first_place slot) envelope place' mid
    → (messages : List Message) × (waiting_in slot solo ≡ envelope.message ∷ messages) × (length (waiting_in slot solo) ≤ most_capacity)
    × ShowsBroker (with_hand_out (next_hand_out slot envelope.message solo) solo) window.owed mid × ShowsWindow (with_hand_out (next_hand_out slot envelope.message solo) solo) window
    × (hand_out slot (waiting_in slot solo) solo ≡ hand_out slot messages (with_hand_out (next_hand_out slot envelope.message solo) solo))
    × (place' ≡ first_place slot) × (mid.desk ≡ old.desk)
discards_one slot solo member window room old shows holds envelope place' mid does =
    let next = least_free (unacknowledged solo) in
    let got = discards_found slot solo member window old shows holds envelope does.taken place' does.mid mid does.asked does.settled in
    let discarded : is_discarded (terms_in solo) envelope.message ≡ true = does.reason in
    let one : next_hand_out slot envelope.message solo ≡ handed slot solo.subscription next Discarded = ap (λ b. handed slot solo.subscription next (outcome_of b)) discarded in
    let later = with_hand_out (next_hand_out slot envelope.message solo) solo in (
      got.0,
      got.1,
      got.2,
      subst (λ (h : HandOut). ShowsBroker (with_hand_out h solo) window.owed mid) (sym one) got.3,
      subst (λ (h : HandOut). ShowsWindow (with_hand_out h solo) window) (sym one)
          (record { none_waits = holds.none_waits; quota_is = holds.quota_is; opens = open_discarded solo.handed_out slot solo.subscription next ∙ holds.opens; not_ending = holds.not_ending }),
      ap (λ (l : List Message). hand_out slot l solo) got.1 ∙ next_out slot envelope.message got.0 solo (has_quota solo window holds room)
          ∙ ap (λ b. sent_before (packets_unless b (job 0 false envelope.message solo.subscription next)) (hand_out slot got.0 later)) discarded,
      got.4,
      got.5,
    )

discards_all : (envelopes : List Held) (slot : ℕ) (solo : SoloState) → solo.membership ≡ Member slot → (window : Contents Held) → HasRoom window → (old : Broker) → ShowsBroker solo window.owed old → ShowsWindow solo window
    → (place' : GroupPlace) (mid : Broker) → Discards Calls (terms_in solo) old (first_place slot) envelopes place' mid → Passes slot solo window (length envelopes) old place' mid
discards_all [] slot solo member window room old shows holds place' mid does =
    record {
      later = solo;
      same = refl;
      member = member;
      terms = refl;
      shows = subst (ShowsBroker solo window.owed) (sym does.1) shows;
      holds = holds;
      place = does.0;
      desk = ap (λ (b : Broker). b.desk) does.1;
      fewer = omega arith;
      few = omega arith;
    }
discards_all (envelope ∷ envelopes) slot solo member window room old shows holds place' mid (between, first', one, rest) =
    let got = discards_one slot solo member window room old shows holds envelope between first' one in
    let next = with_hand_out (next_hand_out slot envelope.message solo) solo in
    let goes_on = subst (λ (p : GroupPlace). Discards Calls (terms_in solo) first' p envelopes place' mid) got.6 rest in
    let passes = discards_all envelopes slot next member window room first' got.3 got.4 place' mid goes_on in
    let waits : waiting_in slot next ≡ got.0 = waiting_behind (next_hand_out slot envelope.message solo) solo envelope.message got.0 got.1 in
    let fewer : length envelopes + 1 ≤ length (waiting_in slot solo) = omega (arith, passes.fewer, ap length waits, ap length got.1) in
    record {
      later = passes.later;
      same = got.5 ∙ ap (λ (l : List Message). hand_out slot l next) (sym waits) ∙ passes.same;
      member = passes.member;
      terms = passes.terms;
      shows = passes.shows;
      holds = passes.holds;
      place = passes.place;
      desk = passes.desk ∙ got.7;
      fewer = omega (arith, fewer);
      few = omega (arith, fewer, got.2);
    }

-- nothing goes out any more
sends_none : (slot : ℕ) (solo : SoloState) → solo.membership ≡ Member slot → (window : Contents Held) (old : Broker) → ShowsBroker solo window.owed old → ShowsWindow solo window
    → (new : Broker) (window' : Contents Held) (place' : GroupPlace) → SendsNone Calls (terms_in solo) old (first_place slot) window place' window' new
    → Delivers (hand_out slot (waiting_in slot solo) solo) slot old [] place' window' new
sends_none slot solo member window old shows holds new window' place' (kept, inl full) =
    subst (λ (s : SoloStep). Delivers s slot old [] place' window' new) (sym (full_out slot (waiting_in slot solo) solo (no_quota solo window holds full.0)))
    (record {
      sent = refl;
      shows = subst (λ (w : Contents Held). ShowsBroker solo w.owed new) (sym kept) (subst (ShowsBroker solo window.owed) (sym full.2) shows);
      window = subst (ShowsWindow solo) (sym kept) holds;
      place = full.1;
      desk = ap (λ (b : Broker). b.desk) full.2;
    })
sends_none slot solo member window old shows holds new window' place' (kept, inr (room, looks)) =
    let passes = discards_all looks.discarded slot solo member window room old shows holds looks.between looks.mid looks.passed in
    let later = passes.later in
    ⊎_elim
    (λ few.
    let found = subst (λ (t : HandOutTerms). Finds Calls t looks.mid (first_place slot) None place' new) (sym passes.terms)
    (subst (λ (p : GroupPlace). Finds Calls (terms_in solo) looks.mid p None place' new) passes.place few.1) in
    let got = found_none slot later passes.member window looks.mid passes.shows passes.holds new place' found in
    subst (λ (s : SoloStep). Delivers s slot old [] place' window' new) (sym (passes.same ∙ ap (λ (l : List Message). hand_out slot l later) got.0))
    (record {
      sent = refl;
      shows = subst (λ (w : Contents Held). ShowsBroker later w.owed new) (sym kept) got.1;
      window = subst (ShowsWindow later) (sym kept) passes.holds;
      place = got.2;
      desk = got.3 ∙ passes.desk;
    }))
    (λ most. absurd (let many = most.0 in omega (arith, many, passes.few)))
    looks.ended

-- one message goes out, after those that are discarded
pub record SentOne (slot : ℕ) (solo : SoloState) (old : Broker) (packet : Packet) (place' : GroupPlace) (window' : Contents Held) (mid : Broker) : Type 0 where
  pub later : SoloState
  pub same : hand_out slot (waiting_in slot solo) solo ≡ sent_before (packet ∷ []) (hand_out slot (waiting_in slot later) later)
  pub member : later.membership ≡ Member slot
  pub terms : terms_in later ≡ terms_in solo
  pub shows : ShowsBroker later window'.owed mid
  pub holds : ShowsWindow later window'
  pub place : place' ≡ first_place slot
  pub desk : mid.desk ≡ old.desk

sends_one : (slot : ℕ) (solo : SoloState) → solo.membership ≡ Member slot → (window : Contents Held) (old : Broker) → ShowsBroker solo window.owed old → ShowsWindow solo window
    → (packet : Packet) (mid : Broker) (window' : Contents Held) (place' : GroupPlace) → SendsOne Calls (terms_in solo) old (first_place slot) window packet place' window' mid
    → SentOne slot solo old packet place' window' mid
sends_one slot solo member window old shows holds packet mid window' place' does =
    let looks = does.found in
    let passes = discards_all looks.discarded slot solo member window does.room old shows holds looks.between looks.mid looks.passed in
    ⊎_elim
    (λ few.
    found_it looks.mid passes
    (subst (λ (t : HandOutTerms). Finds Calls t looks.mid (first_place slot) (Some does.envelope) place' mid) (sym passes.terms)
    (subst (λ (p : GroupPlace). Finds Calls (terms_in solo) looks.mid p (Some does.envelope) place' mid) passes.place few.1)))
    (λ most. let never = most.1 in absurd (cc))
    looks.ended
  where
    found_it : {many : ℕ} {between : GroupPlace} (begun : Broker) (passes : Passes slot solo window many old between begun) → Finds Calls (terms_in passes.later) begun (first_place slot) (Some does.envelope) place' mid → SentOne slot solo old packet place' window' mid
    found_it begun passes finds =
        let last = passes.later in
        let envelope = does.envelope in
        let next = least_free (unacknowledged last) in
        let all_owed : held_of window ≡ window.owed = ap (λ (l : List (ℕ × Held)). window.owed ++ l) holds.none_waits ∙ append-nil window.owed in
        let used : identifiers (held_of window) ≡ unacknowledged last = ap identifiers all_owed ∙ sym passes.holds.opens in
        let free : IsLeastFree (unacknowledged last) does.identifier = subst (λ (l : List ℕ). IsLeastFree l does.identifier) used does.free in
        let is_next : does.identifier ≡ next = sym (least_is (unacknowledged last) does.identifier free) in
        let subscription : solo.subscription ≡ last.subscription = ap (λ (t : HandOutTerms). t.subscription) (sym passes.terms) in
        let put : window' ≡ after_put window next (under last.subscription envelope) = does.put ∙ (λ i. after_put window (is_next i) (under (subscription i) envelope)) in
        let sent : packet ≡ job 0 false envelope.message last.subscription next = does.sent ∙ (λ i. job 0 false envelope.message (subscription i) (is_next i)) in
        let got = found_one slot last passes.member window begun passes.shows passes.holds envelope mid place' finds.1 in
        let fits : is_discarded (terms_in last) envelope.message ≡ false = finds.2 in
        let one : next_hand_out slot envelope.message last ≡ handed slot last.subscription next Unacknowledged = ap (λ b. handed slot last.subscription next (outcome_of b)) fits in
        let behind = with_hand_out (next_hand_out slot envelope.message last) last in
        let waits : waiting_in slot behind ≡ got.0 = waiting_behind (next_hand_out slot envelope.message last) last envelope.message got.0 got.1 in
        record {
          later = behind;
          same =
              passes.same ∙ ap (λ (l : List Message). hand_out slot l last) got.1 ∙ next_out slot envelope.message got.0 last (has_quota last window passes.holds does.room)
              ∙ ap (λ b. sent_before (packets_unless b (job 0 false envelope.message last.subscription next)) (hand_out slot got.0 behind)) fits
              ∙ (λ i. sent_before (sym sent i ∷ []) (hand_out slot (sym waits i) behind));
          member = passes.member;
          terms = passes.terms;
          shows =
              subst (λ (h : HandOut). ShowsBroker (with_hand_out h last) window'.owed mid) (sym one)
              (subst (λ (w : Contents Held). ShowsBroker (with_hand_out (handed slot last.subscription next Unacknowledged) last) w.owed mid) (sym put) got.2);
          holds =
              subst (λ (h : HandOut). ShowsWindow (with_hand_out h last) window') (sym one)
              (subst (ShowsWindow (with_hand_out (handed slot last.subscription next Unacknowledged) last)) (sym put)
              (record {
                none_waits = passes.holds.none_waits;
                quota_is = passes.holds.quota_is;
                opens =
                    open_push last.handed_out slot last.subscription next ∙ ap (λ (l : List ℕ). l ++ next ∷ []) passes.holds.opens
                    ∙ sym (map-append (λ (e : ℕ × Held). e.0) window.owed ((next, under last.subscription envelope) ∷ []));
                not_ending = passes.holds.not_ending;
              }));
          place = got.3;
          desk = got.4 ∙ passes.desk;
        }

pub sends_fresh : (packets : List Packet) (slot : ℕ) (solo : SoloState) → solo.membership ≡ Member slot → (window : Contents Held) (old : Broker) → ShowsBroker solo window.owed old → ShowsWindow solo window
    → (place' : GroupPlace) (window' : Contents Held) (new : Broker) → SendsFresh Calls (terms_in solo) old (first_place slot) window packets place' window' new
    → Delivers (hand_out slot (waiting_in slot solo) solo) slot old packets place' window' new
sends_fresh [] slot solo member window old shows holds place' window' new does = sends_none slot solo member window old shows holds new window' place' does
sends_fresh (packet ∷ packets) slot solo member window old shows holds place' window' new does =
    let one = sends_one slot solo member window old shows holds packet does.2 does.1 does.0 does.3 in
    let again = subst (λ (t : HandOutTerms). SendsFresh Calls t does.2 (first_place slot) does.1 packets place' window' new) (sym one.terms)
    (subst (λ (p : GroupPlace). SendsFresh Calls (terms_in solo) does.2 p does.1 packets place' window' new) one.place does.4) in
    let rest = sends_fresh packets slot one.later one.member does.1 does.2 one.shows one.holds place' window' new again in
    subst (λ (s : SoloStep). Delivers s slot old (packet ∷ packets) place' window' new) (sym one.same)
    (record {
      sent = ap (λ (l : List Packet). packet ∷ l) rest.sent;
      shows = rest.shows;
      window = rest.window;
      place = rest.place;
      desk = rest.desk ∙ one.desk;
    })
