-- What the rules of the queues tell without a look: whatever a place knows, there is a moment at which the queue is empty by the
-- rule alone. So a call that answers without a look lacks nothing but what the witness saw. The wrong bodies cite these lemmas.
use Rattle.std.proofs.Common.{◌≡◌, ℕ, zero, suc, ◌<◌, List, [], ◌∷◌, ◌++◌, refl, sym, ap, ◌∙◌, subst, arith}
use Rattle.std.proofs.Common.{true≢false}
use Rattle.std.proofs.lemmas.List.Elements.{All-nil}
use mathlib.Core.Option.{some, some-injective, some-ne-none}
use lib.ListN.{get_elem?}
use Rattle.crossbeam_queue.specs.Fifo.{Held}
use Rattle.group_queue.specs.declared.posted.Posted.{Posted}
use Rattle.group_queue.specs.declared.view.Bag.{Bag}
use Rattle.group_queue.specs.declared.view.Name.TheVariants.{Port, Place, Finisher}
use Rattle.group_queue.specs.declared.view.View.{View}
use Rattle.group_queue.specs.Views.{one, list_in, IsOf}
use Rattle.group_queue.specs.Past.{Pop, all_of, popped_by, AreNumbered, Fits, HasPast}
use Rattle.group_queue.specs.Returns.{bag}
use Rattle.group_queue.specs.Witnesses.{SawMain, SawReturns}
use Rattle.group_queue.proofs.Lists.{popped-other, all_of-pop}

-- another place was handed again all that this one gave back, and gave back all that this one was handed again
abbrev pub two_bags : List Posted → List Posted → List Bag
two_bags given agains = bag 1 given agains ∷ bag 63 agains given ∷ []

idle : (given agains : List Posted) (pass : ℕ) (v : Bag) → get_elem? (two_bags given agains) pass ≡ some v → v.parts ≡ 0 → (v.pushed ≡ []) × (v.popped ≡ [])
idle given agains zero v at none = let same = ap (λ (y : Bag). y.parts) (some-injective (bag 1 given agains) v at) in absurd (omega arith)
idle given agains (suc zero) v at none = let same = ap (λ (y : Bag). y.parts) (some-injective (bag 63 agains given) v at) in absurd (omega arith)
idle given agains (suc (suc pass)) v at none = absurd (some-ne-none v (sym at))

pub empty_again : (saw : List Posted → List Bag → Type 0) (given agains : List Posted) → saw [] (two_bags given agains) → SawReturns saw (bag 1 given agains) []
empty_again saw given agains seen = record {
  views = two_bags given agains;
  pass = 0;
  there = refl;
  holds = record { parts = refl; small = All-nil (λ (posted : Posted). posted.job.number < 18446744073709551615); idle = idle given agains; counts = (λ worth. omega arith) };
  seen = seen;
}

-- who ends the group popped all that stood in the queue
all_popped : (place : ℕ) (firsts items : List Posted) (past : List Pop) → AreNumbered (all_of past items) → ((port : ℕ) → popped_by (Port port) past ≡ [])
    → firsts ≡ popped_by (Place place) past → HasPast [] (one (Place place) firsts ∷ [])
all_popped place firsts [] past numbered no_port mine = record { past = past; owner = (λ name. 0); numbered = numbered; no_port = no_port; fits = fits }
  where
    here : Fits past [] (λ name. 0) 0 (one (Place place) firsts)
    here = record { entries = ((refl, mine), tt); apart = (tt, tt); ports = (λ keeps. absurd (true≢false (sym keeps))); places = (λ keeps. absurd (true≢false (sym keeps))) }

    fits : (pass : ℕ) (v : View) → get_elem? (one (Place place) firsts ∷ []) pass ≡ some v → Fits past [] (λ name. 0) pass v
    fits zero v at = subst (Fits past [] (λ name. 0) 0) (some-injective (one (Place place) firsts) v at) here
    fits (suc pass) v at = absurd (some-ne-none v (sym at))
all_popped place firsts (x ∷ items) past numbered no_port mine =
    all_popped place firsts items (past ++ record { by = Finisher; posted = x } ∷ []) (subst AreNumbered (sym (all_of-pop past Finisher x items)) numbered)
    (λ port. popped-other past Finisher x (Port port) (λ same. cc) ∙ no_port port) (mine ∙ sym (popped-other past Finisher x (Place place) (λ same. cc)))

-- and any place that looked
pub empty_after : (saw : List Posted → List View → Type 0) (place : ℕ) (v : View) (items : List Posted) → IsOf (Place place) v → SawMain saw v items → saw [] (one (Place place) (list_in v) ∷ [])
    → Held 0 (SawMain saw v)
empty_after saw place v items is was seen =
    let firsts = list_in v in (
      [],
      refl,
      record {
        views = one (Place place) firsts ∷ [];
        pass = 0;
        there = ap some (sym is);
        holds = all_popped place firsts items was.holds.past was.holds.numbered was.holds.no_port (was.holds.fits was.pass (one (Place place) firsts) (was.there ∙ ap some is)).entries.0.1;
        seen = seen;
      },
    )
