-- Nothing is left to hand out after a step.
use Rattle.std.proofs.Common.{ℕ, false, List, [], ◌∷◌, Some, None, sym, subst, inl, inr, ⊎_elim}
use Rattle.mqtt_packet.specs.declared.packet.Packet.{Packet}
use Rattle.group_jobs.specs.Stamps.{Held}
use Rattle.member_window.specs.Contents.{Contents, IsNextResend, HasRoom, after_resend}
use Rattle.session_desk.specs.declared.session.Membership.{Membership}
use Rattle.session_desk.specs.declared.session.Membership.TheVariants.{NotMember, Member, Leaving}
use Rattle.conn_rules.specs.declared.hand_outs.HandOutTerms.{HandOutTerms}
use Rattle.conn_supply.specs.SupplyCalls.{SupplyCall}
use Rattle.conn_supply.specs.SupplyCalls.SupplyCall.{MayTake}
use Rattle.conn_supply.specs.HandOuts.{SendsAgain, AsksFor, Discards, Finds, SendsNone, SendsFresh, LeavesWith, HandsFresh}
use Rattle.conn_engine.specs.declared.phase.ConnPhase.{ConnPhase}
use Rattle.conn_engine.specs.declared.phase.ConnPhase.TheVariants.{Unconnected, Waiting, Connected, Ended}
use Rattle.conn_laws.specs.Behind.{IsServed, IsAllHandedOut}
use Rattle.conn_engine.specs.Step.{hand_out_terms, Hands}

-- what waits still waits for the quota
abbrev Waits : Contents Held → Type 0
Waits window = IsNextResend window None

all_again : (now : ℕ) (sent : List Packet) (old new : Contents Held) → SendsAgain now old sent new → Waits new
all_again now [] old new sends = subst Waits (sym sends.1) sends.0
all_again now (packet ∷ packets) old new sends = all_again now packets (after_resend old (Some sends.0)) new sends.3

module _ {S P : Type 0} (call : S → SupplyCall P → S → Type 0) where
  asked_last : (terms : HandOutTerms) (old new : S) (place place' : P) (window : Contents Held) → AsksFor call old place None place' new → IsServed call terms new (Member place') window
  asked_last terms old new place place' window (inl found) = cc
  asked_last terms old new place place' window (inr none) = inr (inl (old, none.1, place, none.0, none.2, none.3))

  found_none : (terms : HandOutTerms) (old new : S) (place place' : P) (window : Contents Held) → Finds call terms old place None place' new → IsServed call terms new (Member place') window
  found_none terms old new place place' window (inl none) = asked_last terms old new place place' window none.1
  found_none terms old new place place' window (inr stop) =
      inr (inr (inl (subst (λ s. call s (MayTake place' false) s) (sym stop.1) (subst (λ p. call old (MayTake p false) old) (sym stop.0) stop.2))))

  none_fresh : (terms : HandOutTerms) (old new : S) (place place' : P) (window window' : Contents Held) → SendsNone call terms old place window place' window' new
      → IsServed call terms new (Member place') window'
  none_fresh terms old new place place' window window' (same, inl full) = inl (λ room. full.0 (subst HasRoom same room))
  none_fresh terms old new place place' window window' (same, inr none) =
      let looks = none.1 in
      ⊎_elim (λ few. found_none terms looks.mid new looks.between place' window' few.1)
      (λ most.
      inr (inr (inr (record {
        earlier = old;
        before = place;
        discarded = looks.discarded;
        many = most.0;
        discards = subst (λ s. Discards call terms old place looks.discarded place' s) (sym most.3) (subst (λ p. Discards call terms old place looks.discarded p looks.mid) (sym most.2) looks.passed);
      }))))
      looks.ended

  all_fresh : (terms : HandOutTerms) (sent : List Packet) (old new : S) (place place' : P) (window window' : Contents Held) → SendsFresh call terms old place window sent place' window' new
      → Waits window → Waits window' × IsServed call terms new (Member place') window'
  all_fresh terms [] old new place place' window window' sends waits =
      (subst Waits (sym sends.0) waits, none_fresh terms old new place place' window window' sends)
  all_fresh terms (packet ∷ packets) old new place place' window window' sends waits =
      let one = sends.3 in
      all_fresh terms packets sends.2 new sends.0 place' sends.1 window' sends.4 (subst Waits (sym one.put) (λ quota. one.room.1))

  leaves : (terms : HandOutTerms) (old new : S) (place : P) (window window' : Contents Held) (membership : Membership P) → LeavesWith call old place window membership new → IsServed call terms new membership window'
  leaves terms old new place window window' membership (inl gone) = subst (λ m. IsServed call terms new m window') (sym gone.1) tt
  leaves terms old new place window window' membership (inr stays) = subst (λ m. IsServed call terms new m window') (sym stays.1) tt

  fresh : (terms : HandOutTerms) (membership : Membership P) (old new : S) (window : Contents Held) (sent : List Packet) (membership' : Membership P) (window' : Contents Held)
      → HandsFresh call terms old membership window sent membership' window' new → Waits window → Waits window' × IsServed call terms new membership' window'
  fresh terms NotMember old new window sent membership' window' hands waits =
      (subst Waits (sym hands.2) waits, subst (λ m. IsServed call terms new m window') (sym hands.1) tt)
  fresh terms (Member place) old new window sent membership' window' hands waits =
      let all = all_fresh terms sent old new place hands.0 window window' hands.2 waits in
      (all.0, subst (λ m. IsServed call terms new m window') (sym hands.1) all.1)
  fresh terms (Leaving place) old new window sent membership' window' hands waits =
      (subst Waits (sym hands.1) waits, leaves terms old new place window window' membership' hands.2)

  -- nothing is left, where the connection has a session
  abbrev pub NoneLeft : ConnPhase P → ℕ → S → Type 0
  NoneLeft (Unconnected opened) now new = Unit {0}
  NoneLeft (Waiting request ticks) now new = Unit {0}
  NoneLeft (Connected connected) now new = IsAllHandedOut call connected now new
  NoneLeft Ended now new = Unit {0}

  module _ (slot_of : P → ℕ) where
    pub handed : (between : ConnPhase P) (now : ℕ) (old new : S) (sent : List Packet) (phase : ConnPhase P) → Hands call slot_of old between now sent phase new → NoneLeft phase now new
    handed (Unconnected opened) now old new sent phase hands = subst (λ s. NoneLeft s now new) (sym hands.1) tt
    handed (Waiting request ticks) now old new sent phase hands = subst (λ s. NoneLeft s now new) (sym hands.1) tt
    handed (Connected connected) now old new sent phase hands =
        let out = hands.2 in
        let all = fresh (hand_out_terms connected now) connected.session.membership old new out.between out.fresh hands.0 hands.1 out.sent_fresh (all_again now out.again connected.session.window out.between out.sent_again) in
        subst (λ s. NoneLeft s now new) (sym hands.3) (record { again = all.0; fresh = all.1 })
    handed Ended now old new sent phase hands = subst (λ s. NoneLeft s now new) (sym hands.1) tt
