-- How the session of the one client shows a model.
use Rattle.std.proofs.Common.{◌≡◌, ℕ, min, List, [], ◌∷◌, length, slice_get, Option, Some, refl, sym, ap, ◌∙◌, subst}
use Rattle.std.proofs.lemmas.Bool.{cond_both}
use Rattle.group_jobs.specs.declared.message.Message.{Message}
use Rattle.group_jobs.specs.Stamps.{Held}
use Rattle.member_window.specs.Contents.{Contents}
use Rattle.session_desk.specs.declared.row.Row.{Row}
use Rattle.session_desk.specs.declared.row.Holder.TheVariants.{Lent}
use Rattle.session_desk.specs.declared.session.Session.{Session}
use Rattle.session_desk.specs.declared.session.Membership.{Membership}
use Rattle.session_desk.specs.declared.session.Membership.TheVariants.{NotMember, Member, Leaving}
use Rattle.session_desk.specs.Rows.{Rows, HasRow}
use Rattle.session_desk.specs.Sessions.{Who}
use Rattle.users.specs.Rights.{all_rights}
use Rattle.conn_rules.specs.declared.terms.Terms.{Terms}
use Rattle.conn_supply.specs.Memberships.{with_subscription as having_subscription}
use Rattle.conn_engine.specs.declared.phase.ConnectedClient.{ConnectedClient}
use Rattle.local_broker.specs.Places.{GroupPlace}
use Rattle.local_broker.specs.Broker.{Broker}
use Rattle.local_group.specs.Groups.{Group}
use Rattle.solo_output.specs.Groups.{SoloState, Phase, accepted_in, handed_in, with_hand_out, with_message, with_membership, with_subscription, with_phase}
use Rattle.solo_output.specs.Groups.Phase.{Connected}
use Rattle.solo_output.specs.HandOuts.{has_room, next_hand_out, next_packets, sent_before, sends_nothing, hand_out}
use Rattle.solo_output.specs.Publishing.{is_full, offer_to, taken_too}
use Rattle.solo_output.proofs.Groups.{ShowsGroup}
use Rattle.solo_output.proofs.Brokers.{ShowsBroker, entries_at}
use Rattle.solo_output.proofs.Hands.{ShowsWindow, first_place}
use Rattle.solo_output.proofs.Desks.{ShowsDesk}

-- the slot of a place
abbrev pub slot_at : GroupPlace → ℕ
slot_at place = place.slot

-- the membership, with the place
abbrev pub placed : Membership ℕ → Membership GroupPlace
placed NotMember = NotMember
placed (Member slot) = Member (first_place slot)
placed (Leaving slot) = Leaving (first_place slot)

-- who is no member holds nothing
abbrev pub Idles : Membership ℕ → List (ℕ × Held) → Type 0
Idles NotMember entries = entries ≡ []
Idles (Member slot) entries = Unit {0}
Idles (Leaving slot) entries = Unit {0}

-- the session is lent
pub record IsLentAs (rows : Rows Held GroupPlace) (who : Who) : Type 0 where
  pub row : Row Held GroupPlace
  pub connection : ℕ
  pub has : HasRow rows who.number row
  pub its : row.client ≡ who.client
  pub stands : row.held_by ≡ Lent connection

pub record ShowsSession (solo : SoloState) (session : Session Held GroupPlace) (b : Broker) : Type 0 where
  pub broker : ShowsBroker solo session.window.owed b
  pub desk : ShowsDesk solo.membership b.desk
  pub window : ShowsWindow solo session.window
  pub member : session.membership ≡ placed solo.membership
  pub idles : Idles solo.membership session.window.owed
  pub subscribed : session.subscription ≡ solo.subscription
  pub expiry : session.expiry.seconds ≡ solo.terms.session_expiry_interval
  pub lent : IsLentAs b.desk.rows session.identity

-- and its connection, which goes on
pub record ShowsClient (solo : SoloState) (connected : ConnectedClient GroupPlace) (b : Broker) : Type 0 where
  pub session : ShowsSession solo connected.session b
  pub terms : connected.terms ≡ solo.terms
  pub rights : connected.rights ≡ all_rights
  pub phase : solo.phase ≡ Connected

-- ---- models that differ in their messages alone

pub record Keeps (one other : SoloState) : Type 0 where
  pub phase : other.phase ≡ one.phase
  pub terms : other.terms ≡ one.terms
  pub membership : other.membership ≡ one.membership
  pub subscription : other.subscription ≡ one.subscription

pub kept : (solo : SoloState) → Keeps solo solo
kept solo = record { phase = refl; terms = refl; membership = refl; subscription = refl }

pub hand_out_keeps : (slot : ℕ) (messages : List Message) (solo : SoloState) → Keeps solo (hand_out slot messages solo).solo
hand_out_keeps slot [] solo = kept solo
hand_out_keeps slot (message ∷ messages) solo =
    let next = with_hand_out (next_hand_out slot message solo) solo in
    cond_both (has_room solo) (sent_before (next_packets message solo) (hand_out slot messages next)) (sends_nothing solo) (λ s. Keeps solo s.solo)
    (λ room.
    let rest = hand_out_keeps slot messages next in
    record { phase = rest.phase; terms = rest.terms; membership = rest.membership; subscription = rest.subscription })
    (λ full. kept solo)

pub record KeepsHanded (one other : SoloState) : Type 0 where
  pub same : Keeps one other
  pub handed_out : other.handed_out ≡ one.handed_out

pub offer_keeps : (slots : List ℕ) (message : Message) (solo : SoloState) → KeepsHanded solo (offer_to slots message solo).solo
offer_keeps [] message solo = record { same = kept solo; handed_out = refl }
offer_keeps (slot ∷ slots) message solo =
    cond_both (is_full slot solo) (offer_to slots message solo) (taken_too (offer_to slots message (with_message slot message solo))) (λ offered. KeepsHanded solo offered.solo)
    (λ full. offer_keeps slots message solo)
    (λ room.
    let rest = offer_keeps slots message (with_message slot message solo) in
    record { same = record { phase = rest.same.phase; terms = rest.same.terms; membership = rest.same.membership; subscription = rest.same.subscription }; handed_out = rest.handed_out })

pub window_kept : (one other : SoloState) (w : Contents Held) → KeepsHanded one other → ShowsWindow one w → ShowsWindow other w
window_kept one other w keeps shows =
    record {
      none_waits = shows.none_waits;
      quota_is = shows.quota_is ∙ ap (λ (t : Terms). Some (min t.receive_maximum 256)) (sym keeps.same.terms);
      opens = ap Rattle.solo_output.specs.Groups.open_identifiers keeps.handed_out ∙ shows.opens;
      not_ending = shows.not_ending;
    }

-- groups accepted messages, and nothing else happened
pub session_kept : (one other : SoloState) (session : Session Held GroupPlace) (old new : Broker) → KeepsHanded one other → ShowsBroker other session.window.owed new → new.desk ≡ old.desk
    → ShowsSession one session old → ShowsSession other session new
session_kept one other session old new keeps broker desk shows =
    record {
      broker = broker;
      desk = subst (λ (m : Membership ℕ). ShowsDesk m new.desk) (sym keeps.same.membership) (subst (ShowsDesk one.membership) (sym desk) shows.desk);
      window = window_kept one other session.window keeps shows.window;
      member = shows.member ∙ ap placed (sym keeps.same.membership);
      idles = subst (λ (m : Membership ℕ). Idles m session.window.owed) (sym keeps.same.membership) shows.idles;
      subscribed = shows.subscribed ∙ sym keeps.same.subscription;
      expiry = shows.expiry ∙ ap (λ (t : Terms). t.session_expiry_interval) (sym keeps.same.terms);
      lent = subst (λ (rows : Rows Held GroupPlace). IsLentAs rows session.identity) (ap (λ d. d.rows) (sym desk)) shows.lent;
    }

-- ---- another membership

pub broker_as : (membership : Membership ℕ) (solo : SoloState) (entries : List (ℕ × Held)) (b : Broker) → ((slot : ℕ) → entries_at membership slot entries ≡ entries_at solo.membership slot entries)
    → ShowsBroker solo entries b → ShowsBroker (with_membership membership solo) entries b
broker_as membership solo entries b same shows =
    record {
      routes = shows.routes;
      few = shows.few;
      eight = shows.eight;
      groups = λ slot group there.
          subst (λ (l : List (ℕ × Held)). ShowsGroup solo.capacity slot (accepted_in slot solo.groups) (handed_in slot solo.handed_out) l group) (sym (same slot)) (shows.groups slot group there);
    }

pub window_as : (membership : Membership ℕ) (solo : SoloState) (w : Contents Held) → ShowsWindow solo w → ShowsWindow (with_membership membership solo) w
window_as membership solo w shows = record { none_waits = shows.none_waits; quota_is = shows.quota_is; opens = shows.opens; not_ending = shows.not_ending }

-- the same, where the broker is another that has the same routes and groups
pub broker_moved : (solo : SoloState) (entries : List (ℕ × Held)) (old new : Broker) → new.routes ≡ old.routes → new.groups ≡ old.groups → ShowsBroker solo entries old → ShowsBroker solo entries new
broker_moved solo entries old new routes groups shows =
    record {
      routes = routes ∙ shows.routes;
      few = shows.few;
      eight = ap length groups ∙ shows.eight;
      groups = λ slot group there. shows.groups slot group (ap (λ (l : List Group). slice_get l slot) (sym groups) ∙ there);
    }

-- another phase
pub session_in : (phase : Phase) (solo : SoloState) (session : Session Held GroupPlace) (b : Broker) → ShowsSession solo session b → ShowsSession (with_phase phase solo) session b
session_in phase solo session b shows =
    record {
      broker = record { routes = shows.broker.routes; few = shows.broker.few; eight = shows.broker.eight; groups = shows.broker.groups };
      desk = shows.desk;
      window = record { none_waits = shows.window.none_waits; quota_is = shows.window.quota_is; opens = shows.window.opens; not_ending = shows.window.not_ending };
      member = shows.member;
      idles = shows.idles;
      subscribed = shows.subscribed;
      expiry = shows.expiry;
      lent = shows.lent;
    }

-- another Subscription Identifier
pub session_under : (subscription : Option ℕ) (solo : SoloState) (session : Session Held GroupPlace) (b : Broker) → ShowsSession solo session b → ShowsSession (with_subscription subscription solo) (having_subscription session subscription) b
session_under subscription solo session b shows =
    record {
      broker = record { routes = shows.broker.routes; few = shows.broker.few; eight = shows.broker.eight; groups = shows.broker.groups };
      desk = shows.desk;
      window = record { none_waits = shows.window.none_waits; quota_is = shows.window.quota_is; opens = shows.window.opens; not_ending = shows.window.not_ending };
      member = shows.member;
      idles = shows.idles;
      subscribed = refl;
      expiry = shows.expiry;
      lent = shows.lent;
    }
