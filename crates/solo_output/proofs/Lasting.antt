-- Hand-outs stay what they are, and a Reason Code comes by a PUBACK alone.
use Rattle.std.proofs.Common.{◌≡◌, ◌≢◌, ◌⊎◌, ℕ, ◌<◌, ◌==◌, ◌&&◌, Bool, true, false, cond, List, [], ◌∷◌, ◌++◌, map, length, slice_get, Option, Some, None, refl, sym, ap, ◌∙◌, subst, inl, inr, ⊎_elim, arith, eq-eqb, eqb-true}
use Rattle.std.specs.Option.{option_map}
use Rattle.std.proofs.lemmas.Bool.{cases_Bool, cases_eq}
use Rattle.std.proofs.lemmas.List.{append-nil, append_assoc}
use Rattle.std.proofs.lemmas.Option.{none-some, same_Some, slice_get-map, slice_get_within}
use Rattle.dispatch_core.proofs.Spots.{slice_get-push_same, slice_get-push_other}
use Rattle.group_jobs.specs.declared.message.Message.{Message}
use Rattle.session_desk.specs.declared.session.Membership.TheVariants.{Member}
use Rattle.mqtt_packet.specs.declared.packet.Packet.{Packet}
use Rattle.conn_rules.specs.HandOuts.{is_discarded}
use Rattle.solo_output.specs.Groups.{SoloState, HandOut, Outcome, waits_for_puback, settled, unacknowledged, waiting_in, with_puback, with_hand_out}
use Rattle.solo_output.specs.Groups.Outcome.{Unacknowledged, Acknowledged, Discarded}
use Rattle.solo_output.specs.Groups.Phase.{Connected}
use Rattle.solo_output.specs.HandOuts.{quota, terms_in, outcome_of, next_hand_out, hand_out, deliver}
use Rattle.solo_output.specs.Replies.{solo_steps}
use Rattle.solo_output.specs.Runs.{IsStill}
use Rattle.solo_output.proofs.Lists.{handed}
use Rattle.solo_output.proofs.Moves.{Ways, hands_out, delivered, ran}

pub still : (one : HandOut) → IsStill one one
still one = record { slot = refl; subscription = refl; identifier = refl; for_good = λ done. refl; at_once = λ is. is }

-- ---- a hand-out that was there is there

abbrev pub Lasts : SoloState → SoloState → Type 0
Lasts one two = (place : ℕ) (hand_out : HandOut) → slice_get one.handed_out place ≡ Some hand_out → (other : HandOut) × (slice_get two.handed_out place ≡ Some other) × IsStill hand_out other

lasts : Ways Lasts
lasts =
    record {
      stays = λ solo place hand_out there. (hand_out, there, still hand_out);
      goes_on = λ one two three first later place hand_out there.
          let behind = first place hand_out there in
          let last = later place behind.0 behind.1 in (
            last.0,
            last.1,
            record {
              slot = last.2.slot ∙ behind.2.slot;
              subscription = last.2.subscription ∙ behind.2.subscription;
              identifier = last.2.identifier ∙ behind.2.identifier;
              for_good = λ done. last.2.for_good (λ open_. done (sym (behind.2.for_good done) ∙ open_)) ∙ behind.2.for_good done;
              at_once = λ is. behind.2.at_once (last.2.at_once is);
            },
          );
      connects = λ connect solo is place hand_out there. (hand_out, there, still hand_out);
      closes = λ solo place hand_out there. (hand_out, there, still hand_out);
      expires = λ expiry solo place hand_out there. (hand_out, there, still hand_out);
      binds = λ share solo none few place hand_out there. (hand_out, there, still hand_out);
      joins = λ slot solo may within place hand_out there. (hand_out, there, still hand_out);
      leaves = λ slot solo is place hand_out there. (hand_out, there, still hand_out);
      parts = λ slot solo is none place hand_out there. (hand_out, there, still hand_out);
      subscribes = λ subscription solo place hand_out there. (hand_out, there, still hand_out);
    }

never : (code : ℕ) → Acknowledged code ≡ Discarded → ⊥
never code e = absurd cc

settled_as : (identifier code slot : ℕ) (subscription : Option ℕ) (own : ℕ) (was : Outcome) → IsStill (handed slot subscription own was) (settled identifier code (handed slot subscription own was))
settled_as identifier code slot subscription own (Acknowledged is) = still (handed slot subscription own (Acknowledged is))
settled_as identifier code slot subscription own Discarded = still (handed slot subscription own Discarded)
settled_as identifier code slot subscription own Unacknowledged =
    let one = handed slot subscription own Unacknowledged in
    let now = handed slot subscription own (Acknowledged code) in
    ⊎_elim
    (λ (same : (own == identifier) ≡ true).
    subst (λ (b : Bool). IsStill one (cond b now one)) (sym same)
    (record { slot = refl; subscription = refl; identifier = refl; for_good = λ done. absurd (done refl); at_once = λ is. absurd (never code is) }))
    (λ (differs : (own == identifier) ≡ false). subst (λ (b : Bool). IsStill one (cond b now one)) (sym differs) (still one))
    (cases_Bool (own == identifier))

lasts_settling : (identifier code : ℕ) (solo : SoloState) → Lasts solo (with_puback identifier code solo)
lasts_settling identifier code solo place hand_out there = (
  settled identifier code hand_out,
  slice_get-map (settled identifier code) solo.handed_out place ∙ ap (option_map (settled identifier code)) there,
  settled_as identifier code hand_out.slot hand_out.subscription hand_out.identifier hand_out.outcome,
)

lasts_pushing : (one : HandOut) (hand_outs : List HandOut) (place : ℕ) (hand_out : HandOut) → slice_get hand_outs place ≡ Some hand_out → slice_get (hand_outs ++ one ∷ []) place ≡ Some hand_out
lasts_pushing one hand_outs place hand_out there =
    let within = slice_get_within hand_outs place hand_out there in
    slice_get-push_other hand_outs place one (λ e. absurd (omega (arith, within, e))) ∙ there

lasts_one : (slot : ℕ) (message : Message) (rest : List Message) (solo : SoloState) → solo.phase ≡ Connected → solo.membership ≡ Member slot → length (unacknowledged solo) < quota solo → waiting_in slot solo ≡ message ∷ rest
    → Lasts solo (with_hand_out (next_hand_out slot message solo) solo)
lasts_one slot message rest solo connected member less waits place hand_out there = (
  hand_out,
  lasts_pushing (next_hand_out slot message solo) solo.handed_out place hand_out there,
  still hand_out,
)

pub lasts_handing : (slot : ℕ) (messages : List Message) (solo : SoloState) → solo.phase ≡ Connected → solo.membership ≡ Member slot → waiting_in slot solo ≡ messages → Lasts solo (hand_out slot messages solo).solo
lasts_handing = hands_out Lasts lasts lasts_one

pub lasts_delivering : (solo : SoloState) → Lasts solo (deliver solo).solo
lasts_delivering = delivered Lasts lasts lasts_one

pub lasts_ran : (packets : List Packet) (solo : SoloState) → Lasts solo (solo_steps packets solo).solo
lasts_ran = ran Lasts lasts (λ slot message solo within room place hand_out there. (hand_out, there, still hand_out)) lasts_settling lasts_one

-- what goes out comes after what is there
abbrev Appends : SoloState → SoloState → Type 0
Appends one two = (later : List HandOut) × (two.handed_out ≡ one.handed_out ++ later)

appends : Ways Appends
appends =
    record {
      stays = λ solo. ([], sym (append-nil solo.handed_out));
      goes_on = λ one two three first later. (first.0 ++ later.0, later.1 ∙ ap (λ (l : List HandOut). l ++ later.0) first.1 ∙ append_assoc one.handed_out first.0 later.0);
      connects = λ connect solo is. ([], sym (append-nil solo.handed_out));
      closes = λ solo. ([], sym (append-nil solo.handed_out));
      expires = λ expiry solo. ([], sym (append-nil solo.handed_out));
      binds = λ share solo none few. ([], sym (append-nil solo.handed_out));
      joins = λ slot solo may within. ([], sym (append-nil solo.handed_out));
      leaves = λ slot solo is. ([], sym (append-nil solo.handed_out));
      parts = λ slot solo is none. ([], sym (append-nil solo.handed_out));
      subscribes = λ subscription solo. ([], sym (append-nil solo.handed_out));
    }

pub appends_handing : (slot : ℕ) (messages : List Message) (solo : SoloState) → solo.phase ≡ Connected → solo.membership ≡ Member slot → waiting_in slot solo ≡ messages → Appends solo (hand_out slot messages solo).solo
appends_handing = hands_out Appends appends (λ slot message rest solo connected member less waits. (next_hand_out slot message solo ∷ [], refl))

-- ---- a PUBACK settles the one that is unacknowledged under its identifier

pub settles_its : (identifier code : ℕ) (hand_outs : List HandOut) (place : ℕ) (hand_out : HandOut) → slice_get hand_outs place ≡ Some hand_out → hand_out.outcome ≡ Unacknowledged → identifier ≡ hand_out.identifier
    → slice_get (map (settled identifier code) hand_outs) place ≡ Some (record hand_out { outcome = Acknowledged code })
settles_its identifier code hand_outs place hand_out there none its =
    slice_get-map (settled identifier code) hand_outs place ∙ ap (option_map (settled identifier code)) there
    ∙ ap (λ (o : Outcome). Some (cond (waits_for_puback o && (hand_out.identifier == identifier)) (record hand_out { outcome = Acknowledged code }) hand_out)) none
    ∙ ap (λ (b : Bool). Some (cond b (record hand_out { outcome = Acknowledged code }) hand_out)) (eq-eqb hand_out.identifier identifier (sym its))

-- ---- where a code comes from

-- it was there before, or came by this PUBACK
abbrev pub WasOrEventIsAnswered : ℕ → ℕ → ℕ → ℕ → HandOut → Type 0
WasOrEventIsAnswered identifier code place told one = (one.outcome ≡ Acknowledged told) ⊎ ((one.outcome ≡ Unacknowledged) × (identifier ≡ one.identifier) × (code ≡ told))

came_as : (identifier code place told slot : ℕ) (subscription : Option ℕ) (own : ℕ) (was : Outcome) → (settled identifier code (handed slot subscription own was)).outcome ≡ Acknowledged told
    → WasOrEventIsAnswered identifier code place told (handed slot subscription own was)
came_as identifier code place told slot subscription own (Acknowledged is) e = inl e
came_as identifier code place told slot subscription own Discarded e = inl e
came_as identifier code place told slot subscription own Unacknowledged e =
    let one = handed slot subscription own Unacknowledged in
    let now = handed slot subscription own (Acknowledged code) in
    ⊎_elim
    (λ (same : (own == identifier) ≡ true).
    let told_so : Acknowledged code ≡ Acknowledged told = ap (λ (b : Bool). (cond b now one).outcome) (sym same) ∙ e in
    inr (refl, sym (eqb-true own identifier same), cc))
    (λ (differs : (own == identifier) ≡ false).
    inl (ap (λ (b : Bool). (cond b now one).outcome) (sym differs) ∙ e))
    (cases_Bool (own == identifier))

-- a place of the list after is one of the list before
before_map : (f : HandOut → HandOut) (hand_outs : List HandOut) (place : ℕ) (other : HandOut) → slice_get (map f hand_outs) place ≡ Some other → (one : HandOut) × (slice_get hand_outs place ≡ Some one) × (f one ≡ other)
before_map f hand_outs place other there = found (slice_get hand_outs place) refl
  where
    found : (o : Option HandOut) → slice_get hand_outs place ≡ o → (one : HandOut) × (slice_get hand_outs place ≡ Some one) × (f one ≡ other)
    found None is = absurd (none-some other (sym (ap (option_map f) is) ∙ sym (slice_get-map f hand_outs place) ∙ there))
    found (Some one) is = (one, is, same_Some (f one) other (sym (ap (option_map f) is) ∙ sym (slice_get-map f hand_outs place) ∙ there))

pub came_from : (identifier code : ℕ) (hand_outs : List HandOut) (place told : ℕ) (other : HandOut) → slice_get (map (settled identifier code) hand_outs) place ≡ Some other → other.outcome ≡ Acknowledged told
    → (one : HandOut) × (slice_get hand_outs place ≡ Some one) × WasOrEventIsAnswered identifier code place told one
came_from identifier code hand_outs place told other there is =
    let one = before_map (settled identifier code) hand_outs place other there in
    (one.0, one.1, came_as identifier code place told one.0.slot one.0.subscription one.0.identifier one.0.outcome (ap (λ (h : HandOut). h.outcome) one.2 ∙ is))

-- a further hand-out has none
none_yet : (discarded : Bool) (told : ℕ) → outcome_of discarded ≡ Acknowledged told → ⊥
none_yet true told e = absurd cc
none_yet false told e = absurd cc

pub coded_before : (slot : ℕ) (message : Message) (solo : SoloState) (place told : ℕ) (other : HandOut) → slice_get (with_hand_out (next_hand_out slot message solo) solo).handed_out place ≡ Some other → other.outcome ≡ Acknowledged told
    → slice_get solo.handed_out place ≡ Some other
coded_before slot message solo place told other there is =
    let one = next_hand_out slot message solo in
    ⊎_elim
    (λ (last : place ≡ length solo.handed_out).
    let new : one ≡ other = same_Some one other (sym (slice_get-push_same solo.handed_out one) ∙ ap (slice_get (solo.handed_out ++ one ∷ [])) (sym last) ∙ there) in
    absurd (none_yet (is_discarded (terms_in solo) message) told (ap (λ (h : HandOut). h.outcome) new ∙ is)))
    (λ (earlier : place ≢ length solo.handed_out). sym (slice_get-push_other solo.handed_out place one earlier) ∙ there)
    (cases_eq place (length solo.handed_out))
