-- The end of the connection, and what the groups tell then.
use Rattle.std.proofs.Common.{◌≡◌, ◌≢◌, ℕ, suc, ◌+◌, ◌-◌, ◌==◌, Bool, cond, List, [], ◌∷◌, map, length, slice_get, Option, Some, None, option_map, refl, sym, ap, ◌∙◌, subst, ⊎_elim, inl, inr, arith, eq-eqb, ne_eqb, add-zero}
use Rattle.std.proofs.lemmas.Bool.{cases_eq}
use Rattle.std.proofs.lemmas.List.{length-map}
use Rattle.std.proofs.lemmas.Option.{same_Some, slice_get-map, get_or_from_slice_get}
use Rattle.mqtt_topic.specs.Names.{Share}
use Rattle.group_jobs.specs.Stamps.{Held}
use Rattle.session_desk.specs.declared.session.Session.{Session}
use Rattle.session_desk.specs.declared.session.Membership.{Membership}
use Rattle.session_desk.specs.declared.session.Membership.TheVariants.{NotMember, Member, Leaving}
use Rattle.session_desk.specs.Calls.Call.{Park}
use Rattle.session_desk.specs.Keeping.{IsLent, EndsLent}
use Rattle.conn_engine.specs.Ending.{down, GivesBack, Ends, RetiresFrom, RetiresAs, Retires, Parts, PartsAs}
use Rattle.local_group.specs.Groups.{Group}
use Rattle.local_broker.specs.Places.{GroupPlace}
use Rattle.local_broker.specs.Broker.{Broker}
use Rattle.local_broker.specs.Calls.{Calls, AsksDesk}
use Rattle.local_broker.specs.Reporting.{TellsLine}
use Rattle.solo_output.specs.Groups.{SoloState, Bound, shares_of, accepted_in, handed_in, open_identifiers}
use Rattle.solo_output.specs.Report.{counts_of, line_of, report_of}
use Rattle.solo_output.proofs.Groups.{ShowsGroup, IsEnding, ending, one_back, good_of, bad_of, off_of}
use Rattle.solo_output.proofs.Reported.{fates_are, line_is}
use Rattle.solo_output.proofs.Brokers.{ShowsBroker, entries_at, in_group, entries_none}
use Rattle.solo_output.proofs.Hands.{first_place}
use Rattle.solo_output.proofs.Settles.{IsAt, member_at, leaving_at}
use Rattle.solo_output.proofs.Sessions.{placed, Idles, ShowsSession, broker_moved}
use Rattle.solo_output.proofs.Delivers.{all_owed}

-- what a group has of its slot once the client is gone
abbrev EndsAs : SoloState → ℕ → ℕ → List (ℕ × Held) → Group → Type 0
EndsAs solo slot returned entries group =
    IsEnding (length (accepted_in slot solo.groups)) (good_of (handed_in slot solo.handed_out)) (bad_of (handed_in slot solo.handed_out)) (off_of (handed_in slot solo.handed_out))
    (length (accepted_in slot solo.groups) - length (handed_in slot solo.handed_out)) returned slot entries group

-- a group tells the fates that the model has
pub record ReportsFates (slot : ℕ) (solo : SoloState) (group : Group) : Type 0 where
  pub entries : List (ℕ × Held)
  pub returned : ℕ
  pub ends : EndsAs solo slot returned entries group
  pub fates : fates_are (good_of (handed_in slot solo.handed_out)) (bad_of (handed_in slot solo.handed_out)) (off_of (handed_in slot solo.handed_out)) (length entries)
      (length (accepted_in slot solo.groups) - length (handed_in slot solo.handed_out)) returned
      ≡ counts_of solo.terms.session_expiry_interval (length (accepted_in slot solo.groups)) (handed_in slot solo.handed_out)

-- and so does each
pub record ShowsEnd (solo : SoloState) (b : Broker) : Type 0 where
  pub routes : b.routes ≡ shares_of solo.groups
  pub told : (slot : ℕ) (group : Group) → slice_get b.groups slot ≡ Some group → ReportsFates slot solo group

module _ (solo : SoloState) (slot : ℕ) (group : Group) where
  abbrev opened : ℕ
  opened = length (open_identifiers (handed_in slot solo.handed_out))

  tells : (returned : ℕ) (entries : List (ℕ × Held)) → EndsAs solo slot returned entries group → length entries ≡ cond (solo.terms.session_expiry_interval == 0) 0 opened
      → returned ≡ cond (solo.terms.session_expiry_interval == 0) opened 0 → ReportsFates slot solo group
  tells returned entries ends held back =
      record {
        entries = entries;
        returned = returned;
        ends = ends;
        fates = λ i. fates_are (good_of (handed_in slot solo.handed_out)) (bad_of (handed_in slot solo.handed_out)) (off_of (handed_in slot solo.handed_out)) (held i)
            (length (accepted_in slot solo.groups) - length (handed_in slot solo.handed_out)) (back i);
      }

  -- the session goes on
  tells_held : solo.terms.session_expiry_interval ≢ 0 → (entries : List (ℕ × Held)) → opened ≡ length entries → EndsAs solo slot 0 entries group → ReportsFates slot solo group
  tells_held parked entries many ends =
      let is = ne_eqb solo.terms.session_expiry_interval 0 parked in
      tells 0 entries ends (sym many ∙ ap (λ b. cond b 0 opened) (sym is)) (ap (λ b. cond b opened 0) (sym is))

  -- it ends with its connection
  tells_back : solo.terms.session_expiry_interval ≡ 0 → (returned : ℕ) → returned ≡ opened → EndsAs solo slot returned [] group → ReportsFates slot solo group
  tells_back over returned many ends =
      let is = eq-eqb solo.terms.session_expiry_interval 0 over in
      tells returned [] ends (ap (λ b. cond b 0 opened) (sym is)) (many ∙ ap (λ b. cond b opened 0) (sym is))

  -- nothing is out
  tells_none : opened ≡ 0 → EndsAs solo slot 0 [] group → ReportsFates slot solo group
  tells_none none ends =
      ⊎_elim
      (λ (over : solo.terms.session_expiry_interval ≡ 0). tells_back over 0 (sym none) ends)
      (λ (parked : solo.terms.session_expiry_interval ≢ 0). tells_held parked [] none ends)
      (cases_eq solo.terms.session_expiry_interval 0)

-- the entries of a slot are as many as its hand-outs that are open
many_open : (capacity slot : ℕ) (solo : SoloState) (entries : List (ℕ × Held)) (group : Group) → ShowsGroup capacity slot (accepted_in slot solo.groups) (handed_in slot solo.handed_out) entries group
    → length (open_identifiers (handed_in slot solo.handed_out)) ≡ length entries
many_open capacity slot solo entries group shows = ap length shows.opens ∙ length-map entries (λ (e : ℕ × Held). e.0)

-- ---- the line of a group

pub line_told : (solo : SoloState) (b : Broker) → ShowsEnd solo b → (slot : ℕ) (line : List ℕ) → TellsLine b slot line → (own : Bound) → slice_get solo.groups slot ≡ Some own → line ≡ report_of slot own solo
line_told solo b shows slot line tells_line own there =
    let told = shows.told slot tells_line.group tells_line.there in
    let hand_outs = handed_in slot solo.handed_out in
    let expiry = solo.terms.session_expiry_interval in
    let share_at : slice_get (shares_of solo.groups) slot ≡ Some own.share = slice_get-map (λ (g : Bound). g.share) solo.groups slot ∙ ap (option_map (λ (g : Bound). g.share)) there in
    let share : tells_line.share ≡ own.share = same_Some tells_line.share own.share (sym tells_line.bound ∙ ap (λ (l : List Share). slice_get l slot) shows.routes ∙ share_at) in
    let accepted : accepted_in slot solo.groups ≡ own.accepted =
    get_or_from_slice_get (map (λ (g : Bound). g.accepted) solo.groups) slot own.accepted []
    (slice_get-map (λ (g : Bound). g.accepted) solo.groups slot ∙ ap (option_map (λ (g : Bound). g.accepted)) there) in
    tells_line.is_line.told
    ∙ line_is (length (accepted_in slot solo.groups)) (good_of hand_outs) (bad_of hand_outs) (off_of hand_outs) (length (accepted_in slot solo.groups) - length hand_outs) told.returned slot told.entries
    tells_line.group told.ends tells_line.is_line.report tells_line.is_line.reports tells_line.share
    ∙ ap (line_of tells_line.share (length (accepted_in slot solo.groups))) told.fates
    ∙ (λ i. line_of (share i) (length (accepted i)) (counts_of expiry (length (accepted i)) hand_outs))

-- a client that was never connected
pub ends_idle : (solo : SoloState) (b : Broker) → ShowsBroker solo [] b → ShowsEnd solo b
ends_idle solo b shows =
    record {
      routes = shows.routes;
      told = λ slot group there.
          (let shown = subst (λ (l : List (ℕ × Held)). ShowsGroup solo.capacity slot (accepted_in slot solo.groups) (handed_in slot solo.handed_out) l group) (entries_none solo.membership slot) (shows.groups slot group there) in
          tells_none solo slot group (many_open solo.capacity slot solo [] group shown)
          (ending solo.capacity slot (accepted_in slot solo.groups) (handed_in slot solo.handed_out) [] group shown));
    }

-- ---- a session that ends

abbrev open_at : SoloState → ℕ → ℕ
open_at solo slot = length (open_identifiers (handed_in slot solo.handed_out))

-- what is out of one group is given back to it: so many were out at first
record Returning (solo : SoloState) (slot total : ℕ) (entries : List (ℕ × Held)) (returned : ℕ) (b : Broker) : Type 0 where
  routes : b.routes ≡ shares_of solo.groups
  each : (at : ℕ) (group : Group) → slice_get b.groups at ≡ Some group
      → (at ≡ slot → EndsAs solo slot returned entries group × (open_at solo slot ≡ total)) × (at ≢ slot → EndsAs solo at 0 [] group × (open_at solo at ≡ 0))

gives_back : (solo : SoloState) (slot total : ℕ) (entries : List (ℕ × Held)) (returned : ℕ) (old new : Broker) (place' : GroupPlace) (left : List (ℕ × Held)) → Returning solo slot total entries returned old
    → GivesBack Calls old (first_place slot) entries place' left new → Returning solo slot total [] (returned + length entries) new
gives_back solo slot total [] returned old new place' left is does =
    subst (λ (n : ℕ). Returning solo slot total [] n new) (sym (add-zero returned)) (subst (Returning solo slot total [] returned) (sym does.2) is)
gives_back solo slot total (entry ∷ entries) returned old new place' left is (inl (between, mid, call, later)) =
    let hand_outs = handed_in slot solo.handed_out in
    let accepted = length (accepted_in slot solo.groups) in
    let was = (is.each slot call.0.before call.0.there).0 refl in
    let one : EndsAs solo slot (returned + 1) entries call.0.after =
    one_back accepted (good_of hand_outs) (bad_of hand_outs) (off_of hand_outs) (accepted - length hand_outs) returned slot entry entries call.0.before call.0.after was.0 call.0.does in
    let next : Returning solo slot total entries (returned + 1) mid = record {
      routes = call.2.routes ∙ is.routes;
      each = in_group old.groups mid.groups slot _
          (λ at group. (at ≡ slot → EndsAs solo slot (returned + 1) entries group × (open_at solo slot ≡ total)) × (at ≢ slot → EndsAs solo at 0 [] group × (open_at solo at ≡ 0)))
          call.0
          (λ at group differs there. (λ same. absurd (differs same), (is.each at group there).1))
          (λ same. (one, was.1), λ differs. absurd (differs refl));
    } in
    let rest = gives_back solo slot total entries (returned + 1) mid new place' left next (subst (λ (p : GroupPlace). GivesBack Calls mid p entries place' left new) call.1 later) in
    let many : returned + 1 + length entries ≡ returned + suc (length entries) = omega arith in
    subst (λ (n : ℕ). Returning solo slot total [] n new) many rest
gives_back solo slot total (entry ∷ entries) returned old new place' left is (inr none) = absurd none.0

module _ (solo : SoloState) (session : Session Held GroupPlace) (old mid new : Broker) (now : ℕ) (shows : ShowsSession solo session old) (routes : mid.routes ≡ old.routes) (groups : mid.groups ≡ old.groups) where
  before : ShowsBroker solo session.window.owed mid
  before = broker_moved solo session.window.owed old mid routes groups shows.broker

  -- the session goes on without its connection
  parked : solo.terms.session_expiry_interval ≢ 0 → new ≡ mid → ShowsEnd solo new
  parked goes_on same =
      subst (ShowsEnd solo) (sym same)
      (record {
        routes = before.routes;
        told = λ slot group there.
            (let entries = entries_at solo.membership slot session.window.owed in
            let shown = before.groups slot group there in
            tells_held solo slot group goes_on entries (many_open solo.capacity slot solo entries group shown)
            (ending solo.capacity slot (accepted_in slot solo.groups) (handed_in slot solo.handed_out) entries group shown));
      })

  -- a session that is gone, or kept to be retired later
  ended : (left : Session Held GroupPlace) (gone : Bool) (one other : Broker) → Ends Calls one left gone other → (other.routes ≡ one.routes) × (other.groups ≡ one.groups)
  ended left gone one other (inl does) = (does.2.1.routes, does.2.1.groups)
  ended left gone one other (inr does) = (does.2.1.routes, does.2.1.groups)

  retires_from : (slot : ℕ) (again : GroupPlace → Membership GroupPlace) (gone : Bool) → IsAt solo.membership slot → solo.terms.session_expiry_interval ≡ 0 → RetiresFrom Calls mid (down session) (first_place slot) again gone new
      → ShowsEnd solo new
  retires_from slot again gone at over does =
      let owed = session.window.owed in
      let total = length owed in
      let start : Returning solo slot total owed 0 mid = record {
        routes = before.routes;
        each = λ place group there.
            (let accepted = accepted_in place solo.groups in
            let hand_outs = handed_in place solo.handed_out in
            let shown = before.groups place group there in (
              λ same.
                  (let own : ShowsGroup solo.capacity slot (accepted_in slot solo.groups) (handed_in slot solo.handed_out) owed group =
                  subst (λ (l : List (ℕ × Held)). ShowsGroup solo.capacity slot (accepted_in slot solo.groups) (handed_in slot solo.handed_out) l group) (at.own owed)
                  (before.groups slot group (ap (slice_get mid.groups) (sym same) ∙ there)) in
                  (ending solo.capacity slot (accepted_in slot solo.groups) (handed_in slot solo.handed_out) owed group own, many_open solo.capacity slot solo owed group own)),
              λ differs.
                  (let none : ShowsGroup solo.capacity place accepted hand_outs [] group =
                  subst (λ (l : List (ℕ × Held)). ShowsGroup solo.capacity place accepted hand_outs l group) (at.others place owed differs) shown in
                  (ending solo.capacity place accepted hand_outs [] group none, many_open solo.capacity place solo [] group none)),
            ));
      } in
      let given = subst (λ (l : List (ℕ × Held)). GivesBack Calls mid (first_place slot) l does.place' does.left does.mid) (all_owed session.window shows.window.none_waits) does.given in
      let back = gives_back solo slot total owed 0 mid does.mid does.place' does.left start given in
      let last = ended _ gone does.mid new does.ended in
      record {
        routes = last.0 ∙ back.routes;
        told = λ place group there.
            (let each = back.each place group (ap (λ (l : List Group). slice_get l place) (sym last.1) ∙ there) in
            ⊎_elim
            (λ (same : place ≡ slot).
            let own = each.0 same in
            let many : 0 + total ≡ open_at solo slot = omega (arith, own.1) in
            subst (λ (n : ℕ). ReportsFates n solo group) (sym same) (tells_back solo slot group over (0 + total) many own.0))
            (λ (differs : place ≢ slot). let other = each.1 differs in tells_none solo place group other.1 other.0)
            (cases_eq place slot));
      }

  retired : (own : Membership ℕ) → solo.membership ≡ own → (gone : Bool) → solo.terms.session_expiry_interval ≡ 0 → RetiresAs Calls mid (down session) (placed own) gone new → ShowsEnd solo new
  retired NotMember is gone over does =
      let empty : session.window.owed ≡ [] = subst (λ (m : Membership ℕ). Idles m session.window.owed) is shows.idles in
      let last = ended _ gone mid new does in
      ends_idle solo new (broker_moved solo [] mid new last.0 last.1 (subst (λ (l : List (ℕ × Held)). ShowsBroker solo l mid) empty before))
  retired (Member slot) is gone over does = retires_from slot Member gone (subst (λ (m : Membership ℕ). IsAt m slot) (sym is) (member_at slot)) over does
  retired (Leaving slot) is gone over does = retires_from slot Leaving gone (subst (λ (m : Membership ℕ). IsAt m slot) (sym is) (leaving_at slot)) over does

  retires : (gone : Bool) → solo.terms.session_expiry_interval ≡ 0 → Retires Calls mid (down session) gone new → ShowsEnd solo new
  retires gone over does =
      retired solo.membership refl gone over (subst (λ (m : Membership GroupPlace). RetiresAs Calls mid (down session) m gone new) shows.member does)

parted : (solo : SoloState) (session : Session Held GroupPlace) (old mid new : Broker) (now : ℕ) (answer : Option (Session Held GroupPlace)) → ShowsSession solo session old → AsksDesk old (Park (down session) now answer) mid → PartsAs Calls mid answer new
    → ShowsEnd solo new
parted solo session old mid new now None shows asks does = parked solo session old mid new now shows asks.routes asks.groups (λ e. asks.makes.goes_on (shows.expiry ∙ e)) does
parted solo session old mid new now (Some back) shows asks (gone, does) =
    let its : Retires Calls mid (down session) gone new = subst (λ (s : Session Held GroupPlace). Retires Calls mid s gone new) asks.makes.0 does in
    let lent : IsLent old.desk (down session) = record {
      row = shows.lent.row;
      connection = shows.lent.connection;
      is_row = record { has = shows.lent.has; its = shows.lent.its; stands = shows.lent.stands };
    } in
    ⊎_elim
    (λ (over : EndsLent old.desk (down session) mid.desk). retires solo session old mid new now shows asks.routes asks.groups gone (sym shows.expiry ∙ over.with_connection) its)
    (λ (none : (¬ IsLent old.desk (down session)) × (mid.desk ≡ old.desk)). absurd (none.0 lent))
    asks.makes.1

pub parts : (solo : SoloState) (session : Session Held GroupPlace) (old new : Broker) (now : ℕ) → ShowsSession solo session old → Parts Calls old session now new → ShowsEnd solo new
parts solo session old new now shows does = parted solo session old does.1 new now does.0 shows does.2 does.3
