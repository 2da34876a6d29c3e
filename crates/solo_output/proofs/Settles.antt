-- A PUBACK on one thread is one in the model.
use Rattle.std.proofs.Common.{◌≡◌, ◌≢◌, ℕ, List, [], ◌++◌, map, Contains, Option, Some, None, sym, ap, ◌∙◌, subst}
use Rattle.std.proofs.lemmas.List.{append-nil}
use Rattle.group_jobs.specs.Stamps.{Held}
use Rattle.member_window.specs.Identifiers.{identifiers, identifiers_without, entries_without, AreDistinct}
use Rattle.member_window.specs.Contents.{Contents, held_of, after_ack}
use Rattle.member_window.specs.Calls.{Acks}
use Rattle.member_window.proofs.Lists.{contains_nil, identifiers-without}
use Rattle.session_desk.specs.declared.session.Membership.{Membership}
use Rattle.session_desk.specs.declared.session.Membership.TheVariants.{Member, Leaving}
use Rattle.conn_supply.specs.Acknowledging.{Settles, SettlesIn}
use Rattle.local_broker.specs.Places.{GroupPlace}
use Rattle.local_broker.specs.Broker.{Broker}
use Rattle.local_broker.specs.Calls.{Calls}
use Rattle.solo_output.specs.Groups.{SoloState, HandOut, accepted_in, handed_in, settled, unacknowledged, with_puback}
use Rattle.solo_output.proofs.Groups.{ShowsGroup, settles, settles_no_other}
use Rattle.solo_output.proofs.Lists.{settles_none, open_settled, handed_in_settled}
use Rattle.solo_output.proofs.Brokers.{ShowsBroker, entries_at, in_group, as_many, entries_same, entries_other}
use Rattle.solo_output.proofs.Hands.{ShowsWindow, first_place}

-- the entries of the window are messages of the group of this slot, and of no other
pub record IsAt (membership : Membership ℕ) (slot : ℕ) : Type 0 where
  pub own : (entries : List (ℕ × Held)) → entries_at membership slot entries ≡ entries
  pub others : (other : ℕ) (entries : List (ℕ × Held)) → other ≢ slot → entries_at membership other entries ≡ []

pub member_at : (slot : ℕ) → IsAt (Member slot) slot
member_at slot = record { own = λ entries. entries_same slot entries; others = λ other entries differs. entries_other slot other entries (λ e. differs (sym e)) }

pub leaving_at : (slot : ℕ) → IsAt (Leaving slot) slot
leaving_at slot = record { own = λ entries. entries_same slot entries; others = λ other entries differs. entries_other slot other entries (λ e. differs (sym e)) }

-- what a PUBACK comes to
pub record Acknowledged (solo : SoloState) (slot : ℕ) (old : Broker) (place' : GroupPlace) (window' : Contents Held) (new : Broker) : Type 0 where
  pub shows : ShowsBroker solo window'.owed new
  pub window : ShowsWindow solo window'
  pub place : place' ≡ first_place slot
  pub desk : new.desk ≡ old.desk

module _ (slot : ℕ) (solo : SoloState) (at : IsAt solo.membership slot) (window : Contents Held) (old : Broker) (shows : ShowsBroker solo window.owed old) (holds : ShowsWindow solo window)
    (identifier code : ℕ) (place' : GroupPlace) (window' : Contents Held) (new : Broker) where
  all_owed : held_of window ≡ window.owed
  all_owed = ap (λ (l : List (ℕ × Held)). window.owed ++ l) holds.none_waits ∙ append-nil window.owed

  -- of an identifier that nothing has
  still : ¬ Contains (identifiers (held_of window)) identifier → window' ≡ window → place' ≡ first_place slot → new ≡ old → Acknowledged (with_puback identifier code solo) slot old place' window' new
  still absent kept place same =
      let open_not : ¬ Contains (unacknowledged solo) identifier =
      λ c. absent (subst (λ (l : List ℕ). Contains l identifier) (holds.opens ∙ ap identifiers (sym all_owed)) c) in
      let unchanged : with_puback identifier code solo ≡ solo = ap (λ (hs : List HandOut). record solo { handed_out = hs }) (settles_none identifier code solo.handed_out open_not) in
      record {
        shows =
            subst (λ (s : SoloState). ShowsBroker s window'.owed new) (sym unchanged)
            (subst (λ (w : Contents Held). ShowsBroker solo w.owed new) (sym kept) (subst (ShowsBroker solo window.owed) (sym same) shows));
        window = subst (λ (s : SoloState). ShowsWindow s window') (sym unchanged) (subst (ShowsWindow solo) (sym kept) holds);
        place = place;
        desk = ap (λ (b : Broker). b.desk) same;
      }

  does_settle : (found : Option Held) → AreDistinct (identifiers (held_of window)) → Acks window identifier found window' → Settles Calls old (first_place slot) code found place' new
      → Acknowledged (with_puback identifier code solo) slot old place' window' new
  does_settle None distinct acks does = still acks.0 acks.1 does.0 does.1
  does_settle (Some envelope) distinct acks does =
      let call = does.0 in
      let left = entries_without identifier window.owed in
      let apart : AreDistinct (identifiers window.owed) = subst (λ (l : List (ℕ × Held)). AreDistinct (identifiers l)) all_owed distinct in
      let there : Contains window.owed (identifier, envelope) = subst (λ (l : List (ℕ × Held)). Contains l (identifier, envelope)) all_owed acks.0 in
      let here : ShowsGroup solo.capacity slot (accepted_in slot solo.groups) (handed_in slot solo.handed_out) window.owed call.before =
      subst (λ (l : List (ℕ × Held)). ShowsGroup solo.capacity slot (accepted_in slot solo.groups) (handed_in slot solo.handed_out) l call.before) (at.own window.owed)
      (shows.groups slot call.before call.there) in
      let got = settles solo.capacity slot (accepted_in slot solo.groups) (handed_in slot solo.handed_out) window.owed call.before here identifier code envelope call.after apart there call.does in
      let broker : ShowsBroker (with_puback identifier code solo) left new = record {
        routes = does.2.routes ∙ shows.routes;
        few = shows.few;
        eight = as_many old.groups new.groups slot _ call ∙ shows.eight;
        groups = in_group old.groups new.groups slot _
            (λ other group. ShowsGroup solo.capacity other (accepted_in other solo.groups) (handed_in other (map (settled identifier code) solo.handed_out)) (entries_at solo.membership other left) group)
            call
            (λ other group differs where_.
            subst (λ (hs : List HandOut). ShowsGroup solo.capacity other (accepted_in other solo.groups) hs (entries_at solo.membership other left) group)
            (sym (handed_in_settled identifier code other solo.handed_out))
            (subst (λ (l : List (ℕ × Held)). ShowsGroup solo.capacity other (accepted_in other solo.groups) (map (settled identifier code) (handed_in other solo.handed_out)) l group)
            (sym (at.others other left differs))
            (settles_no_other solo.capacity other (accepted_in other solo.groups) (handed_in other solo.handed_out) [] group
            (subst (λ (l : List (ℕ × Held)). ShowsGroup solo.capacity other (accepted_in other solo.groups) (handed_in other solo.handed_out) l group) (at.others other window.owed differs)
            (shows.groups other group where_))
            identifier code (contains_nil identifier))))
            (subst (λ (hs : List HandOut). ShowsGroup solo.capacity slot (accepted_in slot solo.groups) hs (entries_at solo.membership slot left) call.after)
            (sym (handed_in_settled identifier code slot solo.handed_out))
            (subst (λ (l : List (ℕ × Held)). ShowsGroup solo.capacity slot (accepted_in slot solo.groups) (map (settled identifier code) (handed_in slot solo.handed_out)) l call.after)
            (sym (at.own left)) got));
      } in
      let kept : ShowsWindow (with_puback identifier code solo) (after_ack window identifier) = record {
        none_waits = ap (entries_without identifier) holds.none_waits;
        quota_is = holds.quota_is;
        opens = open_settled identifier code solo.handed_out ∙ ap (identifiers_without identifier) holds.opens ∙ sym (identifiers-without identifier window.owed);
        not_ending = holds.not_ending;
      } in
      record {
        shows = subst (λ (w : Contents Held). ShowsBroker (with_puback identifier code solo) w.owed new) (sym acks.1) broker;
        window = subst (ShowsWindow (with_puback identifier code solo)) (sym acks.1) kept;
        place = does.1;
        desk = does.2.desk;
      }

  pub acknowledges : SettlesIn Calls old (first_place slot) window identifier code place' window' new → Acknowledged (with_puback identifier code solo) slot old place' window' new
  acknowledges does = does_settle does.found does.sound.entries.distinct does.acked does.settled
