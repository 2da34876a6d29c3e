-- All passes are taken in: who did so knows of every port and place.
use Rattle.std.proofs.Common.{◌≡◌, ◌≢◌, ℕ, zero, suc, ◌+◌, ◌-◌, ◌≤◌, Bool, true, false, ltb, eqb, eq-eqb, true≢false, None, Global, List, [], ◌∷◌, length, ◌++◌, All, get_or, refl, sym, ap, ◌∙◌, arith}
use Rattle.std.specs.Prelude.{map, sum_by}
use Rattle.std.specs.List.Sorted.{IsPermutation}
use Rattle.std.proofs.lemmas.Bool.{ltb-true, ltb-false, lt-ltb, le-ltb, eqb-true}
use Rattle.std.proofs.lemmas.List.Sums.{sum_by-cons, sum_by-append, get_or-le-sum_by, count_by-le-length}
use Rattle.std.proofs.lemmas.List.Sorted.{length_permutation, Contains-permutation, IsPermutation-sym, sum_by-IsPermutation}
use Rattle.std.proofs.lemmas.List.Elements.{All-head, All-tail, Contains-get_or}
use Rattle.dispatch_core.specs.JobRuns.{count_of}
use Rattle.group_jobs.specs.declared.ledger.Ledger.{Ledger}
use Rattle.group_jobs.specs.Settled.{settled_as}
use Rattle.shared_ledger.specs.Giving.{times_in}
use Rattle.shared_ledger.specs.Givers.{GiverState, HolderState, IsNewHolder}
use Rattle.crossbeam_queue.specs.SegTies.{SegId, IsSegPassOf}
use Rattle.group_queue.specs.declared.posted.Posted.{Posted}
use Rattle.group_queue.specs.declared.place.Passes.{Passes}
use Rattle.group_queue.specs.declared.view.View.{View}
use Rattle.group_queue.specs.declared.view.Bag.{Bag}
use Rattle.group_queue.specs.declared.view.Name.TheVariants.{Place}
use Rattle.group_queue.specs.Views.{one, keeper, joined, with_entries}
use Rattle.group_queue.specs.Returns.{bag, joined as joined_bags}
use Rattle.group_queue.specs.Ports.{GroupId, PortState, Shape}
use Rattle.group_queue.specs.Places.{PlaceState, IsPlaceOf}
use Rattle.group_queue.specs.Openings.{AreOf}
use Rattle.group_queue.specs.Ends.{HasAll, place_numbers}
use Rattle.group_queue.specs.Known.{port_entry, place_entry, knowing, TakesInParts, TakesInGivers, HasGathered}
use Rattle.group_queue.proofs.MainEnds.{bit}
use Rattle.group_queue.proofs.Checks.{All-there}

-- as many numbers as are there
below : ℕ → ℕ → ℕ
below count number = bit (ltb number count)

here : ℕ → ℕ → ℕ
here count number = bit (eqb number count)

below_more : (count number : ℕ) → below (count + 1) number ≡ below count number + here count number
unfolding below here
below_more count number = cases (ltb number count) refl (eqb number count) refl
  where
    cases : (b : Bool) → ltb number count ≡ b → (d : Bool) → eqb number count ≡ d → bit (ltb number (count + 1)) ≡ bit b + bit d
    cases true less true same = let a = ltb-true number count less in let e = eqb-true number count same in absurd (omega arith)
    cases true less false same = ap bit (lt-ltb number (count + 1) (let a = ltb-true number count less in omega arith))
    cases false less true same = ap bit (lt-ltb number (count + 1) (let e = eqb-true number count same in omega arith))
    cases false less false same = ap bit (le-ltb number (count + 1) (let a = ltb-false number count less in let ne : number ≢ count = λ is. true≢false (sym (eq-eqb number count is) ∙ same) in omega arith))

all_more : (count : ℕ) (numbers : List ℕ) → sum_by (below (count + 1)) numbers ≡ sum_by (below count) numbers + sum_by (here count) numbers
all_more count [] = refl
all_more count (n ∷ numbers) = omega (arith, sum_by-cons (below (count + 1)) n numbers, sum_by-cons (below count) n numbers, sum_by-cons (here count) n numbers, all_more count numbers, below_more count n)

one_here : (count number : ℕ) → number ≡ count → here count number ≡ 1
unfolding here
one_here count number is = ap bit (eq-eqb number count is)

few : (count : ℕ) (numbers : List ℕ) → HasAll count numbers → count ≤ sum_by (below count) numbers
few zero numbers all = omega arith
few (suc count) numbers all =
    let rest = few count numbers (λ number less. all number (omega arith)) in
    let at = all count (omega arith) in
    let next : suc count ≡ count + 1 = omega arith in
    omega (arith, rest, one_here count (get_or numbers at.0 count) at.2, get_or-le-sum_by (here count) numbers at.0 count at.1, all_more count numbers, ap (λ c. sum_by (below c) numbers) next)

-- so many different numbers are at least as many
pub enough : (count : ℕ) (numbers : List ℕ) → HasAll count numbers → count ≤ length numbers
unfolding below
enough count numbers all = omega (arith, few count numbers all, count_by-le-length (λ number. ltb number count) numbers)

pub length_map : {X : Type 0} (f : X → ℕ) (xs : List X) → length (map f xs) ≡ length xs
length_map f [] = refl
length_map f (x ∷ xs) = ap suc (length_map f xs)

pub of_group : (group : GroupId) (p : Passes) (q : SegId Global) → p.main.table_id ≡ group.main → p.main.me.1 ≡ [] → IsSegPassOf q p.returns → q ≡ group.returns → AreOf group p
of_group group p q main bare of is =
    let web = of.0.0 ∙ ap (λ (s : SegId Global). s.web) is in
    let heap = of.0.1 ∙ ap (λ (s : SegId Global). s.heap) is in
    record { hands = λ i. record { main = main i; returns = record { web = web i; heap = heap i } }; bare = record { main = bare; hand = of.1; spare = of.2 } }

pub names_all : (shape : Shape) (last last' : PlaceState) (rest : List PlaceState) (ports : List PortState) (v0 v1 v2 v3 : View)
    → last' ≡ record last { keeps = None } → v0 ≡ keeper shape.ports shape.places → v1 ≡ joined v0 (one (Place last'.number) last'.firsts)
    → v2 ≡ with_entries v1 (map place_entry rest) → v3 ≡ with_entries v2 (map port_entry ports) → v3 ≡ knowing shape [] (last ∷ rest) ports
names_all shape last last' rest ports v0 v1 v2 v3 same e0 e1 e2 e3 =
    let first = e1 ∙ (λ i. joined (e0 i) (one (Place (same i).number) (same i).firsts)) in
    e3 ∙ ap (λ (v : View). with_entries v (map port_entry ports)) (e2 ∙ ap (λ (v : View). with_entries v (map place_entry rest)) first)

-- the parts of all places are all parts
pub parts_all : (group : GroupId) (places : List PlaceState) (last last' : PlaceState) (rest : List PlaceState) (b0 b1 b2 : Bag) → IsPermutation places (last ∷ rest)
    → HasAll group.shape.places (place_numbers places) → group.shape.places ≤ 32 → b0 ≡ bag (64 - group.shape.places) [] [] → b1 ≡ joined_bags b0 (bag 1 last'.given last'.agains)
    → TakesInParts b1 rest b2 → 64 ≤ b2.parts
parts_all group places last last' rest b0 b1 b2 same all most e0 e1 takes = omega (
  arith,
  ap (λ (b : Bag). b.parts) e0,
  ap (λ (b : Bag). b.parts) e1,
  takes.parts_are,
  length_permutation places (last ∷ rest) same,
  enough group.shape.places (place_numbers places) all,
  length_map (λ (p : PlaceState). p.number) places,
  most,
)

module _ (last last' : PlaceState) (rest : List PlaceState) (parts : ℕ) (b0 b1 b2 : Bag) (same : last' ≡ record last { keeps = None })
    (e0 : b0 ≡ bag parts [] []) (e1 : b1 ≡ joined_bags b0 (bag 1 last'.given last'.agains)) (takes : TakesInParts b1 rest b2) (w : Posted → ℕ) where
  pub popped_all : sum_by w b2.popped ≡ sum_by (λ (p : PlaceState). sum_by w p.agains) (last ∷ rest)
  popped_all = omega (
    arith,
    ap (λ (b : Bag). sum_by w b.popped) e0,
    ap (λ (b : Bag). sum_by w b.popped) e1,
    sum_by-append w b0.popped last'.agains,
    takes.popped w,
    ap (λ (p : PlaceState). sum_by w p.agains) same,
    sum_by-cons (λ (p : PlaceState). sum_by w p.agains) last rest,
  )

  pub pushed_all : sum_by w b2.pushed ≡ sum_by (λ (p : PlaceState). sum_by w p.given) (last ∷ rest)
  pushed_all = omega (
    arith,
    ap (λ (b : Bag). sum_by w b.pushed) e0,
    ap (λ (b : Bag). sum_by w b.pushed) e1,
    sum_by-append w b0.pushed last'.given,
    takes.pushed w,
    ap (λ (p : PlaceState). sum_by w p.given) same,
    sum_by-cons (λ (p : PlaceState). sum_by w p.given) last rest,
  )

-- every place has a part of the ledger
parts_enough : (group : GroupId) (places : List PlaceState) → All (IsPlaceOf group) places → length places ≤ sum_by (λ (p : PlaceState). p.giver.parts) places
parts_enough group [] all = omega arith
parts_enough group (p ∷ places) all = omega (
  arith,
  (All-head (IsPlaceOf group) p places all).some_part,
  parts_enough group places (All-tail (IsPlaceOf group) p places all),
  sum_by-cons (λ (q : PlaceState). q.giver.parts) p places,
)

-- who took in the givers of all places has all parts of the ledger, and what all gave
pub given_all : (group : GroupId) (places : List PlaceState) (last : PlaceState) (rest : List PlaceState) (giver : GiverState) (h0 h1 h2 : HolderState) → IsPermutation places (last ∷ rest)
    → All (IsPlaceOf group) places → HasAll group.shape.places (place_numbers places) → last.number + 1 ≡ group.shape.places → giver ≡ last.giver → IsNewHolder group.ledger h0
    → h1 ≡ record h0 { parts = h0.parts + giver.parts; gave = h0.gave ++ giver.gave } → TakesInGivers h1 rest h2 → HasGathered group places h0 h2
given_all group places last rest giver h0 h1 h2 same all whole number is new joined takes =
    let each : All (IsPlaceOf group) (last ∷ rest) = λ k d less.
    let x = get_or (last ∷ rest) k d in
    All-there (IsPlaceOf group) places x all (Contains-permutation (last ∷ rest) places x (IsPermutation-sym places (last ∷ rest) same) (Contains-get_or (last ∷ rest) k d less)) in
    let here = All-head (IsPlaceOf group) last rest each in
    record {
      of = takes.of ∙ (ap (λ (h : HolderState). h.ledger) joined ∙ new.of);
      all = omega (
        arith,
        takes.parts_are,
        ap (λ (h : HolderState). h.parts) joined,
        new.parts_are,
        ap (λ (s : GiverState). s.parts) is,
        here.parts_left number,
        parts_enough group rest (All-tail (IsPlaceOf group) last rest each),
        length_permutation places (last ∷ rest) same,
        enough group.shape.places (place_numbers places) whole,
        length_map (λ (p : PlaceState). p.number) places,
      );
      gave_all = (λ fate job. omega (
        arith,
        takes.gave_are fate job,
        ap (λ (h : HolderState). times_in h.gave fate job) joined,
        sum_by-append (λ (l : Ledger). count_of job (settled_as fate l)) h0.gave giver.gave,
        ap (λ l. times_in l fate job) new.gave_none,
        ap (λ (s : GiverState). times_in s.gave fate job) is,
        sum_by-cons (λ (p : PlaceState). times_in p.giver.gave fate job) last rest,
        sum_by-IsPermutation (λ (p : PlaceState). times_in p.giver.gave fate job) places (last ∷ rest) same,
      ));
      settled_is = takes.settled_is ∙ ap (λ (h : HolderState). h.settled) joined;
    }
