-- The promises of each group of a broker whose report is given.
use Rattle.std.proofs.Common.{◌≡◌, ℕ, List}
use Rattle.std.specs.Prelude.{map, Result, Ok}
use Rattle.dispatch_core.specs.declared.event.Job.{Job}
use Rattle.dispatch_core.specs.GroupState.{GroupState}
use Rattle.dispatch_core.specs.Lawful.{IsLawful}
use Rattle.group_jobs.specs.Endings.{AreOrderly, EndsIn}
use Rattle.group_jobs.specs.Stamps.{Held}
use Rattle.group_jobs.specs.declared.fate.Fate.TheVariants.{Refused, Discarded}
use Rattle.group_jobs.specs.declared.report.Report.{Report}
use Rattle.group_jobs.specs.Reports.{fates_of, times_accepted}
use Rattle.group_jobs.specs.Balance.{Account, AddsUp}
use Rattle.group_queue.specs.declared.finish.Unfinished.{Unfinished}
use Rattle.group_queue.specs.Ports.{GroupId, PortState}
use Rattle.group_queue.specs.Places.{PlaceState, account_of}
use Rattle.broker_groups.specs.Endings.{AreEnded, joined, port_slot, place_slot, held_slot}
use Rattle.broker_groups.specs.Sorting.{at_slot}
use Rattle.session_desk.specs.Calls.{Call}
use Rattle.shared_supply.specs.Endings.{IsEnded}
use Rattle.final_report.specs.Promises.{IsFirstHandedOnce, KeepsOrder, RefusesForGood, DiscardsForGood, GivesOneFate, TellsWhatHappened, EndsLawfully}
use Rattle.final_report.specs.Brokers.{OfEachReport, KeptItsPromisesBehind}
use Rattle.final_report.proofs.Fates.{first_handed_once, tells, ends_at_its_member, gives_one_fate}
use Rattle.final_report.proofs.Orders.{keeps_order}
use Rattle.final_report.proofs.Held.{none_lacks}

-- what the laws of `group_jobs` say
abbrev pub OneFate : Type 0
OneFate = (accounts : List Account) (report : Report) → AddsUp accounts report → (job : Job) → fates_of report job ≡ times_accepted report.accepted.items job

abbrev pub LawfulEnd : Type 0
LawfulEnd = (accounts : List Account) (report : Report) → AddsUp accounts report → AreOrderly accounts report → (state : GroupState) × EndsIn accounts report state × IsLawful state

module _ {W : Type 0} (group : ℕ → GroupId) (ports : List (List PortState)) (places : List PlaceState) (held : List Held) (answers : List (Result Report (Unfinished W)))
    (ended : AreEnded group ports places held answers) where
  pub ended_in_order : OfEachReport KeepsOrder ports places held answers
  ended_in_order = λ slot report at.
      keeps_order (group slot) (at_slot port_slot slot (joined ports)) (at_slot place_slot slot places) (at_slot held_slot slot held) report (ended.each slot (Ok report) at)

  pub ended_lawful : LawfulEnd → OfEachReport EndsLawfully ports places held answers
  ended_lawful law = λ slot report at.
      let r = ended.each slot (Ok report) at in
      law (map account_of (at_slot place_slot slot places)) report r.adds r.orderly

  module _ (one_fate : OneFate) where
    pub ended_first_once : OfEachReport IsFirstHandedOnce ports places held answers
    ended_first_once = λ slot report at.
        let r = ended.each slot (Ok report) at in
        first_handed_once (group slot) (at_slot port_slot slot (joined ports)) (at_slot place_slot slot places) (at_slot held_slot slot held) report r
        (one_fate (map account_of (at_slot place_slot slot places)) report r.adds)

    pub ended_refused_for_good : OfEachReport RefusesForGood ports places held answers
    ended_refused_for_good = λ slot report at.
        let r = ended.each slot (Ok report) at in
        ends_at_its_member (group slot) (at_slot port_slot slot (joined ports)) (at_slot place_slot slot places) (at_slot held_slot slot held) report r
        (one_fate (map account_of (at_slot place_slot slot places)) report r.adds) Refused

    pub ended_discarded_for_good : OfEachReport DiscardsForGood ports places held answers
    ended_discarded_for_good = λ slot report at.
        let r = ended.each slot (Ok report) at in
        ends_at_its_member (group slot) (at_slot port_slot slot (joined ports)) (at_slot place_slot slot places) (at_slot held_slot slot held) report r
        (one_fate (map account_of (at_slot place_slot slot places)) report r.adds) Discarded

    pub ended_one_fate : OfEachReport GivesOneFate ports places held answers
    ended_one_fate = λ slot report at.
        let r = ended.each slot (Ok report) at in
        gives_one_fate (group slot) (at_slot port_slot slot (joined ports)) (at_slot place_slot slot places) (at_slot held_slot slot held) report r
        (one_fate (map account_of (at_slot place_slot slot places)) report r.adds)

    pub ended_what_happened : OfEachReport TellsWhatHappened ports places held answers
    ended_what_happened = λ slot report at.
        let r = ended.each slot (Ok report) at in
        tells (group slot) (at_slot port_slot slot (joined ports)) (at_slot place_slot slot places) (at_slot held_slot slot held) report r
        (one_fate (map account_of (at_slot place_slot slot places)) report r.adds)

-- and of a broker that has ended, with what its desk had
pub kept : {W : Type 0} (group : ℕ → GroupId) (calls : List (Call Held PlaceState)) (ports : List (List PortState)) (answers : List (Result Report (Unfinished W))) (strangers : List Held)
    → OneFate → LawfulEnd → IsEnded group calls ports answers strangers → KeptItsPromisesBehind group calls ports answers strangers
kept group calls ports answers strangers one_fate lawful_end (places, held, e) = (
  places,
  held,
  record {
    ended = e;
    first_once = ended_first_once group ports places held answers e.ended one_fate;
    in_order = ended_in_order group ports places held answers e.ended;
    refused_for_good = ended_refused_for_good group ports places held answers e.ended one_fate;
    discarded_for_good = ended_discarded_for_good group ports places held answers e.ended one_fate;
    one_fate = ended_one_fate group ports places held answers e.ended one_fate;
    what_happened = ended_what_happened group ports places held answers e.ended one_fate;
    lawful = ended_lawful group ports places held answers e.ended lawful_end;
    none_lacks = none_lacks group calls ports places held answers e.ended e.had;
  },
)
