-- The answer to a packet of a client that has its session is that of the model.
use Rattle.std.proofs.Common.{◌≡◌, ◌⊎◌, ℕ, Bool, true, false, cond, List, [], length, Contains, Option, Some, None, refl, sym, ap, ◌∙◌, subst, inl, inr}
use Rattle.mqtt_packet.specs.declared.packet.Packet.{Packet}
use Rattle.mqtt_packet.specs.declared.packet.Packet.TheVariants as packets
use Rattle.mqtt_packet.specs.declared.packet.Publish.{Publish}
use Rattle.mqtt_packet.specs.declared.packet.Subscribe.{Subscribe}
use Rattle.mqtt_packet.specs.declared.packet.Unsubscribe.{Unsubscribe}
use Rattle.mqtt_topic.specs.Names.{Share}
use Rattle.mqtt_topic.specs.Routes.{routed, places_of}
use Rattle.group_jobs.specs.Stamps.{Held}
use Rattle.member_window.specs.Identifiers.{identifiers}
use Rattle.member_window.proofs.Lists.{contains_nil}
use Rattle.session_desk.specs.declared.session.Session.{Session}
use Rattle.session_desk.specs.declared.session.Membership.{Membership}
use Rattle.session_desk.specs.declared.session.Membership.TheVariants.{NotMember, Member, Leaving}
use Rattle.session_desk.specs.Rows.{Rows}
use Rattle.users.specs.Table.{Rights}
use Rattle.users.specs.Rights.{all_rights}
use Rattle.users.proofs.Allowed.{everything_may_be_published}
use Rattle.conn_rules.specs.declared.publishing.PublishAnswer.{PublishAnswer}
use Rattle.conn_rules.specs.declared.publishing.PublishAnswer.TheVariants as publishing
use Rattle.conn_rules.specs.Connecting.{is_given_expiry, granted_expiry}
use Rattle.conn_rules.specs.declared.terms.Terms.{Terms}
use Rattle.conn_rules.specs.Packets.{disconnect, puback, suback, unsuback}
use Rattle.conn_rules.specs.Publishing.{publish_answer, puback_code, message_of}
use Rattle.conn_rules.specs.Subscribing.{subscribe_refusal, unsubscribe_refusal}
use Rattle.conn_supply.specs.declared.reply.Then.TheVariants.{Go, Close}
use Rattle.conn_supply.specs.declared.reply.Reply.{Reply as ConnReply}
use Rattle.conn_supply.specs.Memberships.{with_window, with_membership as having}
use Rattle.conn_supply.specs.Publishing.{AnswersPublish, IsOffered, Offers, OffersIf, Publishes}
use Rattle.conn_supply.specs.Acknowledging.{AcknowledgesFor}
use Rattle.conn_supply.specs.Subscribing.{SubscribesAs, UnsubscribesAs, subscription_after, Subscribes}
use Rattle.conn_engine.specs.declared.phase.ConnectedClient.{ConnectedClient}
use Rattle.conn_engine.specs.Answering.{Answers, Disconnects, DisconnectsIf, joining, subscribing, expiring}
use Rattle.local_broker.specs.Places.{GroupPlace}
use Rattle.local_broker.specs.Broker.{Broker}
use Rattle.local_broker.specs.Calls.{Calls}
use Rattle.solo_output.specs.Groups.{SoloState, HandOut, unacknowledged, with_puback, with_subscription, with_phase}
use Rattle.solo_output.specs.Groups.Phase.{Closed}
use Rattle.solo_output.specs.Publishing.{Reply, closing, matching, offer_to, publish_reply_as}
use Rattle.solo_output.specs.Subscribing.{subscribe_reply_as, unsubscribe_reply_as, join_all, leave_all}
use Rattle.solo_output.specs.Replies.{later_reply, disconnect_reply, with_expiry}
use Rattle.solo_output.proofs.Brokers.{ShowsBroker}
use Rattle.solo_output.proofs.Hands.{first_place}
use Rattle.solo_output.proofs.Desks.{ShowsDesk}
use Rattle.solo_output.proofs.Lists.{settles_none}
use Rattle.solo_output.proofs.Publishes.{offers, matching_below}
use Rattle.solo_output.proofs.Settles.{IsAt, member_at, leaving_at, Acknowledged, acknowledges}
use Rattle.solo_output.proofs.Sessions.{slot_at, placed, Idles, IsLentAs, ShowsSession, ShowsClient, offer_keeps, session_kept, session_in, session_under}
use Rattle.solo_output.proofs.Subscribes.{joins_all, leaves_all}

-- The connection goes on with the session that shows the model after the reply, or closes with it.
pub record Answered (answer : Reply) (connected' : ConnectedClient GroupPlace) (reply : ConnReply) (new : Broker) : Type 0 where
  pub told : reply.packet ≡ answer.packet
  pub stands : ((reply.next ≡ Go) × ShowsClient answer.solo connected' new) ⊎ ((reply.next ≡ Close) × (answer.solo.phase ≡ Closed) × ShowsSession answer.solo connected'.session new)

module _ (solo : SoloState) (connected : ConnectedClient GroupPlace) (old : Broker) (shows : ShowsClient solo connected old) where
  -- the connection goes on as it is
  goes : (answer : Option Packet) (connected' : ConnectedClient GroupPlace) (reply : ConnReply) (new : Broker) → connected' ≡ connected → reply ≡ record { packet = answer; next = Go } → new ≡ old → Answered (record { packet = answer; solo = solo }) connected' reply new
  goes answer connected' reply new same is still =
      record {
        told = ap (λ (r : ConnReply). r.packet) is;
        stands = inl (ap (λ (r : ConnReply). r.next) is, subst (λ (l : ConnectedClient GroupPlace). ShowsClient solo l new) (sym same) (subst (ShowsClient solo connected) (sym still) shows));
      }

  -- it closes as it is
  closes : (answer : Option Packet) (connected' : ConnectedClient GroupPlace) (reply : ConnReply) (new : Broker) → connected' ≡ connected → reply ≡ record { packet = answer; next = Close } → new ≡ old
      → Answered (record { packet = answer; solo = with_phase Closed solo }) connected' reply new
  closes answer connected' reply new same is still =
      record {
        told = ap (λ (r : ConnReply). r.packet) is;
        stands = inr (
          ap (λ (r : ConnReply). r.next) is,
          refl,
          subst (λ (l : ConnectedClient GroupPlace). ShowsSession (with_phase Closed solo) l.session new) (sym same) (subst (ShowsSession (with_phase Closed solo) connected.session) (sym still) (session_in Closed solo connected.session old shows.session)),
        );
      }

  -- ---- a PUBLISH
  offers_own : (publish : Publish) (identifier : ℕ) (connected' : ConnectedClient GroupPlace) (reply : ConnReply) (new : Broker) → connected' ≡ connected → IsOffered Calls old 0 0 publish identifier reply new
      → Answered (publish_reply_as (publishing.Offer identifier) publish solo) connected' reply new
  offers_own publish identifier connected' reply new same does =
      let slots : does.slots ≡ matching publish.topic solo = does.matched.0 ∙ ap (λ (l : List Share). places_of 0 (routed publish.topic l)) shows.session.broker.routes in
      let start : ShowsBroker solo connected.session.window.owed does.mid = subst (ShowsBroker solo connected.session.window.owed) (sym does.matched.1) shows.session.broker in
      let all =
      offers (matching publish.topic solo) (message_of 0 publish) solo connected.session.window.owed does.mid new does.taken start (matching_below publish.topic solo)
      (subst (λ (l : List ℕ). Offers Calls does.mid 0 (message_of 0 publish) l does.taken new) slots does.offered) in
      let keeps = offer_keeps (matching publish.topic solo) (message_of 0 publish) solo in
      let behind = (offer_to (matching publish.topic solo) (message_of 0 publish) solo).solo in
      let session : ShowsSession behind connected.session new =
      session_kept solo behind connected.session old new keeps all.shows (all.desk ∙ ap (λ (b : Broker). b.desk) does.matched.1) shows.session in
      let now : ShowsClient behind connected new = record { session = session; terms = shows.terms ∙ sym keeps.same.terms; rights = shows.rights; phase = keeps.same.phase ∙ shows.phase } in
      record {
        told = ap (λ (r : ConnReply). r.packet) does.replied ∙ (λ i. Some (puback identifier (puback_code (length (slots i)) (all.taken_is i))));
        stands = inl (ap (λ (r : ConnReply). r.next) does.replied, subst (λ (l : ConnectedClient GroupPlace). ShowsClient behind l new) (sym same) now);
      }

  publishes : (publish : Publish) (answer : PublishAnswer) (connected' : ConnectedClient GroupPlace) (reply : ConnReply) (new : Broker) → connected' ≡ connected → AnswersPublish Calls all_rights old 0 0 publish answer reply new
      → Answered (publish_reply_as answer publish solo) connected' reply new
  publishes publish (publishing.Close code) connected' reply new same does = closes _ connected' reply new same does.0 does.1
  publishes publish (publishing.Offer identifier) connected' reply new same does =
      offers_own publish identifier connected' reply new same
      (subst (λ (b : Bool). OffersIf Calls b old 0 0 publish identifier reply new) (everything_may_be_published publish.topic) does)

  -- ---- a PUBACK
  module _ (identifier code : ℕ) (session : Session Held GroupPlace) (new : Broker) (connected' : ConnectedClient GroupPlace) (reply : ConnReply)
      (is : reply ≡ record { packet = None; next = Go }) (same : session ≡ having (with_window connected.session session.window) session.membership)
      (has_connected : connected' ≡ record { session = session; terms = connected.terms; rights = connected.rights; heard = connected.heard }) where
    gone_on : ShowsSession (with_puback identifier code solo) session new → Answered (record { packet = None; solo = with_puback identifier code solo }) connected' reply new
    gone_on now =
        record {
          told = ap (λ (r : ConnReply). r.packet) is;
          stands = inl (
            ap (λ (r : ConnReply). r.next) is,
            subst (λ (l : ConnectedClient GroupPlace). ShowsClient (with_puback identifier code solo) l new) (sym has_connected) (record { session = now; terms = shows.terms; rights = shows.rights; phase = shows.phase }),
          );
        }

    settled_at : (slot : ℕ) → IsAt solo.membership slot → session.membership ≡ placed solo.membership → Idles solo.membership session.window.owed
        → Acknowledged (with_puback identifier code solo) slot old (first_place slot) session.window new → ShowsSession (with_puback identifier code solo) session new
    settled_at slot at member idles got =
        subst (λ (s : Session Held GroupPlace). ShowsSession (with_puback identifier code solo) s new) (sym same)
        (record {
          broker = got.shows;
          desk = subst (ShowsDesk solo.membership) (sym got.desk) shows.session.desk;
          window = got.window;
          member = member;
          idles = idles;
          subscribed = shows.session.subscribed;
          expiry = shows.session.expiry;
          lent = subst (λ (rows : Rows Held GroupPlace). IsLentAs rows connected.session.identity) (ap (λ d. d.rows) (sym got.desk)) shows.session.lent;
        })

    settles : (membership : Membership ℕ) → solo.membership ≡ membership → AcknowledgesFor Calls old (placed membership) connected.session.window identifier code session.membership session.window new
        → ShowsSession (with_puback identifier code solo) session new
    settles NotMember at does =
        let empty : connected.session.window.owed ≡ [] = subst (λ (m : Membership ℕ). Idles m connected.session.window.owed) at shows.session.idles in
        let none : ¬ Contains (unacknowledged solo) identifier =
        λ c. contains_nil identifier (subst (λ (l : List ℕ). Contains l identifier) (shows.session.window.opens ∙ ap identifiers empty) c) in
        let unchanged : with_puback identifier code solo ≡ solo = ap (λ (hs : List HandOut). record solo { handed_out = hs }) (settles_none identifier code solo.handed_out none) in
        let as_before : session ≡ connected.session =
        same ∙ (λ i. having (with_window connected.session (does.1 i)) (does.0 i)) ∙ ap (having connected.session) (sym (shows.session.member ∙ ap placed at)) in
        subst (λ (s : SoloState). ShowsSession s session new) (sym unchanged)
        (subst (λ (s : Session Held GroupPlace). ShowsSession solo s new) (sym as_before) (subst (ShowsSession solo connected.session) (sym does.2) shows.session))
    settles (Member slot) at does =
        let place = does.1 in
        let is_at : IsAt solo.membership slot = subst (λ (m : Membership ℕ). IsAt m slot) (sym at) (member_at slot) in
        let got = acknowledges slot solo is_at connected.session.window old shows.session.broker shows.session.window identifier code does.0 session.window new place in
        settled_at slot is_at (does.2 ∙ ap Member got.place ∙ ap placed (sym at)) (subst (λ (m : Membership ℕ). Idles m session.window.owed) (sym at) tt)
        (record { shows = got.shows; window = got.window; place = refl; desk = got.desk })
    settles (Leaving slot) at does =
        let place = does.1 in
        let is_at : IsAt solo.membership slot = subst (λ (m : Membership ℕ). IsAt m slot) (sym at) (leaving_at slot) in
        let got = acknowledges slot solo is_at connected.session.window old shows.session.broker shows.session.window identifier code does.0 session.window new place in
        settled_at slot is_at (does.2 ∙ ap Leaving got.place ∙ ap placed (sym at)) (subst (λ (m : Membership ℕ). Idles m session.window.owed) (sym at) tt)
        (record { shows = got.shows; window = got.window; place = refl; desk = got.desk })

  -- ---- a SUBSCRIBE and an UNSUBSCRIBE
  subscribes : (subscribe : Subscribe) (refusal : Option ℕ) (membership : Membership GroupPlace) (subscription : Option ℕ) (connected' : ConnectedClient GroupPlace) (reply : ConnReply) (new : Broker)
      → connected' ≡ subscribing connected membership subscription
      → SubscribesAs Calls slot_at refusal all_rights old connected.session.membership connected.session.subscription subscribe reply membership subscription new → Answered (subscribe_reply_as refusal subscribe solo) connected' reply new
  subscribes subscribe (Some code) membership subscription connected' reply new has_connected does =
      closes _ connected' reply new (has_connected ∙ (λ i. subscribing connected (does.1 i) (does.2 i))) does.0 does.3
  subscribes subscribe None membership subscription connected' reply new has_connected (codes, is, does, after) =
      let identifier = subscribe.properties.subscription_identifier in
      let all = joins_all subscribe.subscriptions solo connected.session old new codes membership shows.session does in
      let joined = join_all subscribe.subscriptions solo in
      let own = subscription_after joined.codes identifier joined.solo.subscription in
      let same : subscription ≡ own = after ∙ (λ i. subscription_after (all.codes_are i) identifier (all.shows.subscribed i)) in
      let behind = with_subscription own joined.solo in
      let session = session_under own joined.solo (having connected.session membership) new all.shows in
      record {
        told = ap (λ (r : ConnReply). r.packet) is ∙ ap (λ (l : List ℕ). Some (suback subscribe.packet_identifier l)) all.codes_are;
        stands = inl (
          ap (λ (r : ConnReply). r.next) is,
          subst (λ (l : ConnectedClient GroupPlace). ShowsClient behind l new) (sym (has_connected ∙ ap (subscribing connected membership) same))
              (record { session = session; terms = shows.terms ∙ sym all.terms; rights = shows.rights; phase = all.phase ∙ shows.phase }),
        );
      }

  unsubscribes : (unsubscribe : Unsubscribe) (refusal : Option ℕ) (membership : Membership GroupPlace) (connected' : ConnectedClient GroupPlace) (reply : ConnReply) (new : Broker) → connected' ≡ joining connected membership
      → UnsubscribesAs Calls slot_at refusal old connected.session.membership unsubscribe reply membership new → Answered (unsubscribe_reply_as refusal unsubscribe solo) connected' reply new
  unsubscribes unsubscribe (Some code) membership connected' reply new has_connected does = closes _ connected' reply new (has_connected ∙ ap (joining connected) does.1) does.0 does.2
  unsubscribes unsubscribe None membership connected' reply new has_connected (codes, is, does) =
      let all = leaves_all unsubscribe.filters solo connected.session old new codes membership shows.session does in
      let behind = (leave_all unsubscribe.filters solo).solo in
      record {
        told = ap (λ (r : ConnReply). r.packet) is ∙ ap (λ (l : List ℕ). Some (unsuback unsubscribe.packet_identifier l)) all.codes_are;
        stands = inl (
          ap (λ (r : ConnReply). r.next) is,
          subst (λ (l : ConnectedClient GroupPlace). ShowsClient behind l new) (sym has_connected) (record { session = all.shows; terms = shows.terms ∙ sym all.terms; rights = shows.rights; phase = all.phase ∙ shows.phase }),
        );
      }

  -- ---- a DISCONNECT
  expires : (seconds : ℕ) → ShowsSession (with_phase Closed (with_expiry seconds solo)) (expiring connected seconds).session old
  expires seconds =
      let was = shows.session in
      record {
        broker = record { routes = was.broker.routes; few = was.broker.few; eight = was.broker.eight; groups = was.broker.groups };
        desk = was.desk;
        window = record { none_waits = was.window.none_waits; quota_is = was.window.quota_is; opens = was.window.opens; not_ending = was.window.not_ending };
        member = was.member;
        idles = was.idles;
        subscribed = was.subscribed;
        expiry = refl;
        lent = was.lent;
      }

  disconnects_if : (given : Bool) (seconds : ℕ) (connected' : ConnectedClient GroupPlace) (reply : ConnReply) (new : Broker) → is_given_expiry seconds solo.terms ≡ given → DisconnectsIf given connected seconds connected' reply → new ≡ old
      → Answered (disconnect_reply (Some seconds) solo) connected' reply new
  disconnects_if true seconds connected' reply new is does still =
      subst (λ (b : Bool). Answered (cond b (closing (Some (disconnect 0x82)) solo) (closing None (with_expiry (granted_expiry solo.terms seconds) solo))) connected' reply new) (sym is)
      (closes _ connected' reply new does.0 does.1 still)
  disconnects_if false seconds connected' reply new is does still =
      let granted = granted_expiry solo.terms seconds in
      let expired : connected' ≡ expiring connected granted = does.0 ∙ ap (λ (t : Terms). expiring connected (granted_expiry t seconds)) shows.terms in
      subst (λ (b : Bool). Answered (cond b (closing (Some (disconnect 0x82)) solo) (closing None (with_expiry granted solo))) connected' reply new) (sym is)
      (record {
        told = ap (λ (r : ConnReply). r.packet) does.1;
        stands = inr (
          ap (λ (r : ConnReply). r.next) does.1,
          refl,
          subst (λ (l : ConnectedClient GroupPlace). ShowsSession (with_phase Closed (with_expiry granted solo)) l.session new) (sym expired)
              (subst (ShowsSession (with_phase Closed (with_expiry granted solo)) (expiring connected granted).session) (sym still) (expires granted)),
        );
      })

  disconnects : (expiry : Option ℕ) (connected' : ConnectedClient GroupPlace) (reply : ConnReply) (new : Broker) → Disconnects connected expiry connected' reply → new ≡ old → Answered (disconnect_reply expiry solo) connected' reply new
  disconnects None connected' reply new does still = closes _ connected' reply new does.0 does.1 still
  disconnects (Some seconds) connected' reply new does still =
      disconnects_if (is_given_expiry seconds connected.terms) seconds connected' reply new (ap (is_given_expiry seconds) (sym shows.terms)) does still

  pub answers : (packet : Packet) (connected' : ConnectedClient GroupPlace) (reply : ConnReply) (new : Broker) → Answers Calls slot_at old 0 connected 0 packet connected' reply new → Answered (later_reply packet solo) connected' reply new
  answers (packets.Publish publish) connected' reply new does =
      publishes publish (publish_answer publish) connected' reply new does.1 (subst (λ (r : Rights). Publishes Calls r old 0 0 publish reply new) shows.rights does.0)
  answers (packets.Puback puback) connected' reply new (session, acks, has_connected, is) =
      let identifier = puback.packet_identifier in
      let code = puback.reason_code in
      let its = subst (λ (m : Membership GroupPlace). AcknowledgesFor Calls old m connected.session.window identifier code session.membership session.window new) shows.session.member acks.settles in
      gone_on identifier code session new connected' reply is acks.same has_connected (settles identifier code session new connected' reply is acks.same has_connected solo.membership refl its)
  answers (packets.Subscribe subscribe) connected' reply new does =
      subscribes subscribe (subscribe_refusal subscribe) does.0 does.1 connected' reply new does.3
      (subst (λ (r : Rights). Subscribes Calls slot_at r old connected.session.membership connected.session.subscription subscribe reply does.0 does.1 new) shows.rights does.2)
  answers (packets.Unsubscribe unsubscribe) connected' reply new does = unsubscribes unsubscribe (unsubscribe_refusal unsubscribe) does.0 connected' reply new does.2 does.1
  answers packets.Pingreq connected' reply new does = goes _ connected' reply new does.0 does.1 does.2
  answers (packets.Disconnect disconnect) connected' reply new does = disconnects disconnect.properties.session_expiry_interval connected' reply new does.0 does.1
  answers other connected' reply new does = closes _ connected' reply new does.0 does.1 does.2
