-- What is discarded one after the other is what a group's last events tell.
use Rattle.std.proofs.Common.{◌≡◌, ◌⊎◌, ℕ, List, [], ◌∷◌, ◌++◌, length, Option, Some, None, Ok, slice_get, refl, sym, ap, subst, ◌∙◌, inl, inr, ⊎_elim, arith, append_assoc, append-nil}
use Rattle.std.proofs.lemmas.Option.{slice_get_within, same_Some}
use Rattle.dispatch_core.specs.declared.event.Event.{Event}
use Rattle.dispatch_core.specs.declared.event.Event.TheVariants.{First, Discard, Again}
use Rattle.dispatch_core.proofs.Spots.{slice_get-set_same}
use Rattle.group_jobs.specs.declared.fate.Fate.TheVariants.{Discarded}
use Rattle.group_jobs.specs.Stamps.{Held, job_of}
use Rattle.local_group.specs.Groups.{Group, Settles}
use Rattle.conn_rules.specs.declared.hand_outs.HandOutTerms.{HandOutTerms}
use Rattle.conn_supply.specs.SupplyCalls.SupplyCall.{Take, TakeBack, Settle}
use Rattle.conn_supply.specs.HandOuts.{AsksFor, DiscardsOne, Discards, most_discards}
use Rattle.conn_laws.specs.Behind.{DiscardsMost}
use Rattle.local_broker.specs.Places.{GroupPlace}
use Rattle.local_broker.specs.Groups.{InGroup, IsOutAt, LetsGo}
use Rattle.local_broker.specs.Broker.{Broker}
use Rattle.local_broker.specs.Calls.{Calls}
use Rattle.local_broker.specs.Histories.{HasOut}
use Rattle.local_broker.proofs.Outs.{taken_out, taken_out_again}
use Rattle.local_server.specs.NothingWaits.{AreDiscarded, LastWereDiscarded}

-- the group of this slot has, after a call, what it had and these events
record Adds (new : Broker) (slot : ℕ) (before : Group) (events : List Event) : Type 0 where
  group : Group
  there : slice_get new.groups slot ≡ Some group
  adds : group.events ≡ before.events ++ events

becomes : (old new : Broker) (slot : ℕ) (Does : Group → Group → Type 0) → (does : InGroup old.groups slot Does new.groups) → slice_get new.groups slot ≡ Some does.after
becomes old new slot Does does =
    ap (λ (l : List Group). slice_get l slot) does.becomes ∙ slice_get-set_same old.groups slot does.after (slice_get_within old.groups slot does.before does.there)

was : (old new : Broker) (slot : ℕ) (Does : Group → Group → Type 0) (group : Group) → (does : InGroup old.groups slot Does new.groups) → slice_get old.groups slot ≡ Some group → does.before ≡ group
was old new slot Does group does there = same_Some does.before group (sym does.there ∙ there)

-- a place is handed a message
taken : (old new : Broker) (place place' : GroupPlace) (envelope : Held) (group : Group) → slice_get old.groups place.slot ≡ Some group → Calls old (Take place place' (Ok (Some envelope))) new
    → Adds new place.slot group (First place.number (job_of envelope.stamp) ∷ [])
taken old new place place' envelope group there does =
    let its = does.0 in
    let takes = its.does in
    record {
      group = its.after;
      there = becomes old new place.slot _ its;
      adds =
          takes.4.events ∙ ap (λ (e : Held). its.before.events ++ First place.number (job_of e.stamp) ∷ []) (sym takes.2)
          ∙ ap (λ (g : Group). g.events ++ First place.number (job_of envelope.stamp) ∷ []) (was old new place.slot _ group its there);
    }

taken_again : (old new : Broker) (place place' : GroupPlace) (envelope : Held) (group : Group) → slice_get old.groups place.slot ≡ Some group → Calls old (TakeBack place place' (Ok (Some envelope))) new
    → Adds new place.slot group (Again place.number (job_of envelope.stamp) ∷ [])
taken_again old new place place' envelope group there does =
    let its = does.0 in
    let takes = its.does in
    record {
      group = its.after;
      there = becomes old new place.slot _ its;
      adds =
          takes.4.events ∙ ap (λ (e : Held). its.before.events ++ Again place.number (job_of e.stamp) ∷ []) (sym takes.2)
          ∙ ap (λ (g : Group). g.events ++ Again place.number (job_of envelope.stamp) ∷ []) (was old new place.slot _ group its there);
    }

-- there was none that was given back, and the group stays
none_back : (old new : Broker) (place place' : GroupPlace) (group : Group) → slice_get old.groups place.slot ≡ Some group → Calls old (TakeBack place place' (Ok None)) new
    → slice_get new.groups place.slot ≡ Some group
none_back old new place place' group there does =
    let its = does.0 in
    becomes old new place.slot _ its
    ∙ ap (λ (g : Group). let some : Option Group = Some g in some) (its.does.1 ∙ was old new place.slot _ group its there)

-- it is discarded
discarded : (old new : Broker) (place place' : GroupPlace) (envelope : Held) (group : Group) → slice_get old.groups place.slot ≡ Some group → HasOut old place envelope
    → Calls old (Settle place place' envelope Discarded) new → Adds new place.slot group (Discard place.number (job_of envelope.stamp) ∷ [])
discarded old new place place' envelope group there out does =
    let its = does.0 in
    let same = was old new place.slot _ group its there in
    let has : IsOutAt its.before place.number envelope =
    subst (λ (g : Group). IsOutAt g place.number envelope) (same_Some out.group its.before (sym out.there ∙ its.there)) out.is_so in
    record {
      group = its.after;
      there = becomes old new place.slot _ its;
      adds =
          ⊎_elim
          (λ (is : IsOutAt its.before place.number envelope × Settles its.before envelope Discarded its.after).
          is.1.event.events ∙ ap (λ (n : ℕ). its.before.events ++ Discard n (job_of envelope.stamp) ∷ []) has.its)
          (λ (is : LetsGo its.before place.number envelope its.after). absurd (is.stranger has))
          its.does
          ∙ ap (λ (g : Group). g.events ++ Discard place.number (job_of envelope.stamp) ∷ []) same;
    }

-- a message that a place was handed and that is discarded at once
record AddsBoth (new : Broker) (place : GroupPlace) (before : Group) (envelope : Held) : Type 0 where
  hand_out : Event
  which : (hand_out ≡ First place.number (job_of envelope.stamp)) ⊎ (hand_out ≡ Again place.number (job_of envelope.stamp))
  both : Adds new place.slot before (hand_out ∷ Discard place.number (job_of envelope.stamp) ∷ [])

both_added : (mid new : Broker) (place place' : GroupPlace) (envelope : Held) (before : Group) (hand_out : Event)
    → (hand_out ≡ First place.number (job_of envelope.stamp)) ⊎ (hand_out ≡ Again place.number (job_of envelope.stamp))
    → Adds mid place.slot before (hand_out ∷ []) → HasOut mid place envelope → Calls mid (Settle place place' envelope Discarded) new → AddsBoth new place before envelope
both_added mid new place place' envelope before hand_out which first out settled =
    let then = discarded mid new place place' envelope first.group first.there out settled in
    record {
      hand_out = hand_out;
      which = which;
      both = record {
        group = then.group;
        there = then.there;
        adds =
            then.adds ∙ ap (λ (l : List Event). l ++ Discard place.number (job_of envelope.stamp) ∷ []) first.adds
            ∙ append_assoc before.events (hand_out ∷ []) (Discard place.number (job_of envelope.stamp) ∷ []);
      };
    }

-- the place stays what it was
asked_same : (old mid : Broker) (place place' : GroupPlace) (envelope : Held) → AsksFor Calls old place (Some envelope) place' mid → place' ≡ place
asked_same old mid place place' envelope (inl back) = back.2.1
asked_same old mid place place' envelope (inr front) = front.3.1 ∙ front.2.1

asked_adds : (old mid new : Broker) (place place' : GroupPlace) (envelope : Held) (group : Group) → slice_get old.groups place.slot ≡ Some group
    → AsksFor Calls old place (Some envelope) place mid → Calls mid (Settle place place' envelope Discarded) new → AddsBoth new place group envelope
asked_adds old mid new place place' envelope group there (inl back) settled =
    let its : Calls old (TakeBack place place (Ok (Some envelope))) mid =
    subst (λ (e : Held). Calls old (TakeBack place place (Ok (Some e))) mid) (sym (same_Some envelope back.0 back.1)) back.2 in
    both_added mid new place place' envelope group (Again place.number (job_of envelope.stamp)) (inr refl) (taken_again old mid place place envelope group there its)
    (taken_out_again old mid place place envelope its) settled
asked_adds old mid new place place' envelope group there (inr front) settled =
    let looked = front.1 in
    let still = none_back old looked place front.0 group there front.2 in
    let its : Calls looked (Take place place (Ok (Some envelope))) mid =
    subst (λ (p : GroupPlace). Calls looked (Take p place (Ok (Some envelope))) mid) front.2.1 front.3 in
    both_added mid new place place' envelope group (First place.number (job_of envelope.stamp)) (inl refl) (taken looked mid place place envelope group still its)
    (taken_out looked mid place place envelope its) settled

one_adds : (terms : HandOutTerms) (old new : Broker) (place place' : GroupPlace) (envelope : Held) (group : Group) → slice_get old.groups place.slot ≡ Some group
    → DiscardsOne Calls terms old place envelope place' new → (place' ≡ place) × AddsBoth new place group envelope
one_adds terms old new place place' envelope group there one =
    let same = asked_same old one.mid place one.taken envelope one.asked in
    let asked = subst (λ (p : GroupPlace). AsksFor Calls old place (Some envelope) p one.mid) same one.asked in
    let settled = subst (λ (p : GroupPlace). Calls one.mid (Settle p place' envelope Discarded) new) same one.settled in
    (settled.1, asked_adds old one.mid new place place' envelope group there asked settled)

-- what is discarded one after the other
record AddsAll (new : Broker) (place : GroupPlace) (before : Group) (envelopes : List Held) : Type 0 where
  last : List Event
  all : Adds new place.slot before last
  are : AreDiscarded place.number envelopes last

all_add : (terms : HandOutTerms) (envelopes : List Held) (old new : Broker) (place place' : GroupPlace) (group : Group) → slice_get old.groups place.slot ≡ Some group
    → Discards Calls terms old place envelopes place' new → (place' ≡ place) × AddsAll new place group envelopes
all_add terms [] old new place place' group there does = (
  does.0,
  record {
    last = [];
    all = record { group = group; there = ap (λ (b : Broker). slice_get b.groups place.slot) does.1 ∙ there; adds = sym (append-nil group.events) };
    are = refl;
  },
)
all_add terms (envelope ∷ envelopes) old new place place' group there does =
    let mid = does.1 in
    let one = one_adds terms old mid place does.0 envelope group there does.2 in
    let first = one.1.both in
    let two = one.1.hand_out ∷ Discard place.number (job_of envelope.stamp) ∷ [] in
    let rest = all_add terms envelopes mid new place place' first.group first.there (subst (λ (p : GroupPlace). Discards Calls terms mid p envelopes place' new) one.0 does.3) in
    let more = rest.1 in (
      rest.0,
      record {
        last = two ++ more.last;
        all = record {
          group = more.all.group;
          there = more.all.there;
          adds = more.all.adds ∙ ap (λ (l : List Event). l ++ more.last) first.adds ∙ append_assoc group.events two more.last;
        };
        are = (
          more.last,
          more.are,
          ⊎_elim
              (λ (is : one.1.hand_out ≡ First place.number (job_of envelope.stamp)).
              inl (ap (λ (e : Event). e ∷ Discard place.number (job_of envelope.stamp) ∷ more.last) is))
              (λ (is : one.1.hand_out ≡ Again place.number (job_of envelope.stamp)).
              inr (ap (λ (e : Event). e ∷ Discard place.number (job_of envelope.stamp) ∷ more.last) is))
              one.1.which,
        );
      },
    )

-- the group of the place that is asked for the first
first_group : (terms : HandOutTerms) (envelopes : List Held) (old new : Broker) (place place' : GroupPlace) → length envelopes ≡ most_discards → Discards Calls terms old place envelopes place' new
    → (group : Group) × (slice_get old.groups place.slot ≡ Some group)
first_group terms [] old new place place' many does = absurd (omega (arith, many))
first_group terms (envelope ∷ envelopes) old new place place' many does = asked_of does.2.asked
  where
    asked_of : {between : GroupPlace} {mid : Broker} → AsksFor Calls old place (Some envelope) between mid → (group : Group) × (slice_get old.groups place.slot ≡ Some group)
    asked_of (inl back) = (back.2.0.before, back.2.0.there)
    asked_of (inr front) = (front.2.0.before, front.2.0.there)

pub last_discarded : (terms : HandOutTerms) (new : Broker) (place : GroupPlace) → DiscardsMost Calls terms place new → LastWereDiscarded terms new place
last_discarded terms new place most =
    let first = first_group terms most.discarded most.earlier new most.before place most.many most.discards in
    let all = all_add terms most.discarded most.earlier new most.before place first.0 first.1 most.discards in
    let its : AddsAll new place first.0 most.discarded = subst (λ (p : GroupPlace). AddsAll new p first.0 most.discarded) (sym all.0) all.1 in
    record {
      most = most;
      group = its.all.group;
      there = its.all.there;
      before = first.0.events;
      last = its.last;
      events = its.all.adds;
      discarded = its.are;
    }
