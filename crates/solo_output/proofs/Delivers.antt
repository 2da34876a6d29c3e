-- What is handed out after a reply is what the model delivers.
use Rattle.std.proofs.Common.{◌≡◌, ◌≢◌, ℕ, List, [], ◌∷◌, ◌++◌, refl, sym, ap, ◌∙◌, subst, inl, inr}
use Rattle.std.proofs.lemmas.List.{append-nil}
use Rattle.mqtt_packet.specs.declared.packet.Packet.{Packet}
use Rattle.group_jobs.specs.Stamps.{Held}
use Rattle.member_window.specs.Identifiers.{identifiers}
use Rattle.member_window.specs.Contents.{Contents, held_of}
use Rattle.session_desk.specs.declared.session.Session.{Session}
use Rattle.session_desk.specs.declared.session.Membership.{Membership}
use Rattle.session_desk.specs.declared.session.Membership.TheVariants.{NotMember, Member, Leaving}
use Rattle.session_desk.specs.Rows.{Rows}
use Rattle.conn_rules.specs.declared.hand_outs.HandOutTerms.{HandOutTerms}
use Rattle.conn_rules.specs.declared.terms.Terms.{Terms}
use Rattle.conn_supply.specs.Memberships.{with_window, with_membership as having}
use Rattle.conn_supply.specs.HandOuts.{SendsAgain, HandsFresh, HandsOut, LeavesWith}
use Rattle.conn_engine.specs.declared.phase.ConnectedClient.{ConnectedClient}
use Rattle.conn_engine.specs.Step.{after_hand_out, hand_out_terms}
use Rattle.local_broker.specs.Places.{GroupPlace}
use Rattle.local_broker.specs.Broker.{Broker}
use Rattle.local_broker.specs.Calls.{Calls}
use Rattle.solo_output.specs.Groups.{SoloState, Phase, unacknowledged, waiting_in, with_membership}
use Rattle.solo_output.specs.HandOuts.{SoloStep, terms_in, hand_out, sends_nothing, left_with, deliver_to, deliver_in, deliver}
use Rattle.solo_output.proofs.Brokers.{entries_at, entries_none}
use Rattle.solo_output.proofs.Hands.{first_place, sends_fresh}
use Rattle.solo_output.proofs.Desks.{ShowsDesk, takes}
use Rattle.solo_output.proofs.Sessions.{placed, Idles, IsLentAs, ShowsClient, hand_out_keeps, broker_as, window_as, broker_moved}

-- packets were sent, and the connection's session shows the model after them
pub record Delivered (solo_step : SoloStep) (connected : ConnectedClient GroupPlace) (sent : List Packet) (membership : Membership GroupPlace) (window : Contents Held) (new : Broker) : Type 0 where
  pub sent_are : sent ≡ solo_step.sent
  pub shows : ShowsClient solo_step.solo (after_hand_out connected membership window) new

-- nothing waits to be sent again
none_again : (packets : List Packet) (now : ℕ) (old new : Contents Held) → old.waiting ≡ [] → SendsAgain now old packets new → (packets ≡ []) × (new ≡ old)
none_again [] now old new none does = (refl, does.1)
none_again (packet ∷ packets) now old new none does = let e = sym none ∙ does.1.1.1 in absurd (cc)

pub all_owed : (w : Contents Held) → w.waiting ≡ [] → held_of w ≡ w.owed
all_owed w none = ap (λ (l : List (ℕ × Held)). w.owed ++ l) none ∙ append-nil w.owed

no_entry : (entries : List (ℕ × Held)) → identifiers entries ≡ [] → entries ≡ []
no_entry [] none = refl
no_entry (entry ∷ entries) none = let e = none in absurd (cc)

left_some : (slot : ℕ) (l : List ℕ) → l ≢ [] → left_with slot l ≡ Leaving slot
left_some slot [] some = absurd (some refl)
left_some slot (identifier ∷ l) some = refl

module _ (solo : SoloState) (connected : ConnectedClient GroupPlace) (old : Broker) (shows : ShowsClient solo connected old) where
  as_it_is : (fresh : List Packet) (membership : Membership GroupPlace) (window : Contents Held) (new : Broker) → fresh ≡ [] → membership ≡ connected.session.membership → window ≡ connected.session.window → new ≡ old
      → Delivered (sends_nothing solo) connected fresh membership window new
  as_it_is fresh membership window new none same kept still =
      record {
        sent_are = none;
        shows =
            subst (λ (m : Membership GroupPlace). ShowsClient solo (after_hand_out connected m window) new) (sym same)
            (subst (λ (w : Contents Held). ShowsClient solo (after_hand_out connected connected.session.membership w) new) (sym kept)
            (subst (ShowsClient solo (after_hand_out connected connected.session.membership connected.session.window)) (sym still) (record { session = shows.session; terms = shows.terms; rights = shows.rights; phase = shows.phase })));
      }

  leaves : (slot : ℕ) → solo.membership ≡ Leaving slot → (membership : Membership GroupPlace) (window : Contents Held) (new : Broker) → window ≡ connected.session.window → LeavesWith Calls old (first_place slot) connected.session.window membership new
      → Delivered (deliver_to (Leaving slot) solo) connected [] membership window new
  leaves slot is membership window new kept (inl does) =
      let owed = connected.session.window.owed in
      let empty : owed ≡ [] = sym (all_owed connected.session.window shows.session.window.none_waits) ∙ does.0 in
      let none : unacknowledged solo ≡ [] = shows.session.window.opens ∙ ap identifiers empty in
      let desk = subst (λ (m : Membership ℕ). ShowsDesk m old.desk) is shows.session.desk in
      let got = takes slot old new desk.places desk.not_kicked does.2 in
      subst (λ (l : List ℕ). Delivered (sends_nothing (with_membership (left_with slot l) solo)) connected [] membership window new) (sym none)
      (record {
        sent_are = refl;
        shows =
            subst (λ (m : Membership GroupPlace). ShowsClient (with_membership NotMember solo) (after_hand_out connected m window) new) (sym does.1)
            (subst (λ (w : Contents Held). ShowsClient (with_membership NotMember solo) (after_hand_out connected NotMember w) new) (sym kept)
            (record {
              session = record {
                broker =
                    broker_moved (with_membership NotMember solo) owed old new got.1.routes got.1.groups
                    (broker_as NotMember solo owed old (λ at. sym (ap (entries_at solo.membership at) empty ∙ entries_none solo.membership at)) shows.session.broker);
                desk = got.0;
                window = window_as NotMember solo connected.session.window shows.session.window;
                member = refl;
                idles = empty;
                subscribed = shows.session.subscribed;
                expiry = shows.session.expiry;
                lent = subst (λ (rows : Rows Held GroupPlace). IsLentAs rows connected.session.identity) (sym got.1.rows) shows.session.lent;
              };
              terms = shows.terms;
              rights = shows.rights;
              phase = shows.phase;
            }));
      })
  leaves slot is membership window new kept (inr does) =
      let owed = connected.session.window.owed in
      let some : unacknowledged solo ≢ [] =
      λ e. does.0 (all_owed connected.session.window shows.session.window.none_waits ∙ no_entry owed (sym shows.session.window.opens ∙ e)) in
      let stays : with_membership (left_with slot (unacknowledged solo)) solo ≡ solo =
      ap (λ (m : Membership ℕ). with_membership m solo) (left_some slot (unacknowledged solo) some ∙ sym is) in
      subst (λ (s : SoloState). Delivered (sends_nothing s) connected [] membership window new) (sym stays)
      (as_it_is [] membership window new refl (does.1 ∙ sym (shows.session.member ∙ ap placed is)) kept does.2)

  hands : (own : Membership ℕ) → solo.membership ≡ own → (fresh : List Packet) (membership : Membership GroupPlace) (window : Contents Held) (new : Broker)
      → HandsFresh Calls (terms_in solo) old (placed own) connected.session.window fresh membership window new → Delivered (deliver_to own solo) connected fresh membership window new
  hands NotMember is fresh membership window new does = as_it_is fresh membership window new does.0 (does.1 ∙ sym (shows.session.member ∙ ap placed is)) does.2 does.3
  hands (Member slot) is fresh membership window new (place', as_, does) =
      let got = sends_fresh fresh slot solo is connected.session.window old shows.session.broker shows.session.window place' window new does in
      let keeps = hand_out_keeps slot (waiting_in slot solo) solo in
      let behind = (hand_out slot (waiting_in slot solo) solo).solo in
      let own : behind.membership ≡ Member slot = keeps.membership ∙ is in
      let session : Session Held GroupPlace = having (with_window connected.session window) membership in
      record {
        sent_are = got.sent;
        shows = record {
          session = record {
            broker = got.shows;
            desk = subst (λ (m : Membership ℕ). ShowsDesk m new.desk) (sym keeps.membership) (subst (ShowsDesk solo.membership) (sym got.desk) shows.session.desk);
            window = got.window;
            member = as_ ∙ ap Member got.place ∙ ap placed (sym own);
            idles = subst (λ (m : Membership ℕ). Idles m window.owed) (sym own) tt;
            subscribed = shows.session.subscribed ∙ sym keeps.subscription;
            expiry = shows.session.expiry ∙ ap (λ (t : Terms). t.session_expiry_interval) (sym keeps.terms);
            lent = subst (λ (rows : Rows Held GroupPlace). IsLentAs rows connected.session.identity) (ap (λ d. d.rows) (sym got.desk)) shows.session.lent;
          };
          terms = shows.terms ∙ sym keeps.terms;
          rights = shows.rights;
          phase = keeps.phase ∙ shows.phase;
        };
      }
  hands (Leaving slot) is fresh membership window new does =
      subst (λ (l : List Packet). Delivered (deliver_to (Leaving slot) solo) connected l membership window new) (sym does.0) (leaves slot is membership window new does.1 does.2)

  pub delivers : (sent : List Packet) (membership : Membership GroupPlace) (window : Contents Held) (new : Broker) → HandsOut Calls (hand_out_terms connected 0) old connected.session.membership connected.session.window sent membership window new
      → Delivered (deliver solo) connected sent membership window new
  delivers sent membership window new does =
      let again = none_again does.again 0 connected.session.window does.between shows.session.window.none_waits does.sent_again in
      let all_fresh : sent ≡ does.fresh = does.both ∙ ap (λ (l : List Packet). l ++ does.fresh) again.0 in
      let its = subst (λ (w : Contents Held). HandsFresh Calls (hand_out_terms connected 0) old connected.session.membership w does.fresh membership window new) again.1 does.sent_fresh in
      let terms : hand_out_terms connected 0 ≡ terms_in solo = λ i. record { at = 0; subscription = shows.session.subscribed i; maximum_packet_size = (shows.terms i).maximum_packet_size } in
      let under = subst (λ (s : HandOutTerms). HandsFresh Calls s old connected.session.membership connected.session.window does.fresh membership window new) terms its in
      let own = subst (λ (m : Membership GroupPlace). HandsFresh Calls (terms_in solo) old m connected.session.window does.fresh membership window new) shows.session.member under in
      let got = hands solo.membership refl does.fresh membership window new own in
      subst (λ (p : Phase). Delivered (deliver_in p solo) connected sent membership window new) (sym shows.phase)
      (subst (λ (l : List Packet). Delivered (deliver_to solo.membership solo) connected l membership window new) (sym all_fresh) got)
