-- What follows where one pass of the main queue has all names: each accepted job was handed out for the first time by one place,
-- once, or popped by who ends the group, or it stands in the queue.
use Rattle.std.proofs.Common.{◌≡◌, ◌≢◌, ℕ, zero, suc, ◌+◌, ◌<◌, ◌≤◌, ◌⊎◌, inl, inr, Bool, true, false, cond, eqb, ltb, eq-eqb, List, [], ◌∷◌, ◌++◌, length, get_or, Contains, refl, sym, ap, ◌∙◌, subst, arith, append_assoc, length-append}
use Rattle.std.specs.Prelude.{map, filter, sum_by, ◌&&◌}
use Rattle.std.proofs.lemmas.Bool.{lt-ltb, le-ltb, ltb-true, ltb-false, eqb-true, eqb-false}
use Rattle.std.proofs.lemmas.List.{get_or_past}
use Rattle.std.proofs.lemmas.List.Sums.{sum_by-cons, sum_by-append, get_or-le-sum_by}
use Rattle.dispatch_core.specs.declared.event.Job.{Job}
use Rattle.dispatch_core.specs.JobRuns.{count_of}
use Rattle.group_queue.specs.declared.posted.Posted.{Posted}
use Rattle.group_queue.specs.declared.view.Name.{Name}
use Rattle.group_queue.specs.declared.view.Name.TheVariants.{Port, Place, Finisher}
use Rattle.group_queue.specs.declared.view.Entry.{Entry}
use Rattle.group_queue.specs.Views.{same_name, entry, Each, AreApart}
use Rattle.group_queue.specs.Past.{Pop, all_of, through, popped_by, list_of, AreNumbered, Fits}
use Rattle.group_queue.specs.Ports.{PortState, Shape}
use Rattle.group_queue.specs.Places.{PlaceState, jobs_in}
use Rattle.group_queue.specs.Ends.{HasAll, AreCounts}
use Rattle.group_queue.specs.Known.{port_entry, place_entry, knowing}
use Rattle.group_queue.proofs.Lists.{same_name-refl, same_name-true, same_name-other, through-push, through-other}
use Rattle.group_queue.proofs.MainLaws.{posts}
use Rattle.group_queue.proofs.Partition.{times, spread, sum_by-map, sum_by-none, sum_by-same}

-- 1 where it is so
abbrev pub bit : Bool → ℕ
bit b = cond b 1 0

-- what a message counts for that is this job
abbrev pub worth : Job → Posted → ℕ
worth job posted = bit ((eqb posted.job.port job.port) && (eqb posted.job.number job.number))

pub count_in : (job : Job) (list : List Posted) → count_of job (jobs_in list) ≡ sum_by (worth job) list
count_in job list = sum_by-map (λ other. bit ((eqb other.port job.port) && (eqb other.number job.number))) (λ (posted : Posted). posted.job) list

-- each name is there once at most
unit : Name → Entry → ℕ
unit n e = bit (same_name n e.name)

apart_none : (n : Name) (es : List Entry) → Each (λ e. e.name ≢ n) es → sum_by (unit n) es ≡ 0
unfolding unit
apart_none n [] apart = refl
apart_none n (e ∷ es) apart =
    let other : bit (same_name n e.name) ≡ 0 = ap (λ b. bit b) (same_name-other n e.name (λ same. apart.0 (sym same))) in
    omega (arith, sum_by-cons (unit n) e es, apart_none n es apart.1, other)

apart_case : (n : Name) (e : Entry) (es : List Entry) → Each (λ f. f.name ≢ e.name) es → sum_by (unit n) es ≤ 1 → (b : Bool) → same_name n e.name ≡ b → bit b + sum_by (unit n) es ≤ 1
apart_case n e es apart rest true is = let none = apart_none n es (subst (λ m. Each (λ f. f.name ≢ m) es) (sym (same_name-true n e.name is)) apart) in omega (arith, none)
apart_case n e es apart rest false is = omega (arith, rest)

apart_once : (n : Name) (es : List Entry) → AreApart es → sum_by (unit n) es ≤ 1
unfolding unit
apart_once n [] apart = omega arith
apart_once n (e ∷ es) apart =
    let here = apart_case n e es apart.0 (apart_once n es apart.1) (same_name n e.name) refl in
    omega (arith, sum_by-cons (unit n) e es, here)

Each-split : (P : Entry → Type 0) (es fs : List Entry) → Each P (es ++ fs) → Each P es × Each P fs
Each-split P [] fs all = (tt, all)
Each-split P (e ∷ es) fs all = let rest = Each-split P es fs all.1 in ((all.0, rest.0), rest.1)

-- an entry for each element of a list
module _ {X : Type 0} (P : Entry → Type 0) (f : X → Entry) where
  pub Each-there : (xs : List X) (x : X) → Each P (map f xs) → Contains xs x → P (f x)
  Each-there [] x all (k, less, is) = absurd (omega arith)
  Each-there (y ∷ ys) x all (zero, less, is) = subst (λ z. P (f z)) is all.0
  Each-there (y ∷ ys) x all (suc k, less, is) = Each-there ys x all.1 (k, omega arith, is)

  pub Each-sum : (g h : X → ℕ) → ((x : X) → P (f x) → g x ≡ h x) → (xs : List X) → Each P (map f xs) → sum_by g xs ≡ sum_by h xs
  Each-sum g h same [] all = refl
  Each-sum g h same (x ∷ xs) all = omega (arith, sum_by-cons g x xs, sum_by-cons h x xs, same x all.0, Each-sum g h same xs all.1)

there_once : (name : ℕ → Name) (numbers : List ℕ) (k : ℕ) → Contains numbers k → 1 ≤ sum_by (λ n. bit (same_name (name k) (name n))) numbers
there_once name numbers k (i, less, is) =
    let f : ℕ → ℕ = λ n. bit (same_name (name k) (name n)) in
    let one : f (get_or numbers i k) ≡ 1 = ap f is ∙ ap (λ b. bit b) (same_name-refl (name k)) in
    omega (arith, get_or-le-sum_by f numbers i k less, one)

turned : (m n : ℕ) → bit (eqb m n) ≡ bit (eqb n m)
turned m n = cases (eqb m n) refl (eqb n m) refl
  where
    cases : (b : Bool) → eqb m n ≡ b → (d : Bool) → eqb n m ≡ d → bit b ≡ bit d
    cases true is true is' = refl
    cases true is false is' = absurd (eqb-false n m is' (sym (eqb-true m n is)))
    cases false is true is' = absurd (eqb-false m n is (sym (eqb-true n m is')))
    cases false is false is' = refl

-- who has all names
module _ (past : List Pop) (items : List Posted) (owner : Name → ℕ) (pass : ℕ) (shape : Shape) (left : List Posted) (places : List PlaceState) (ports : List PortState)
    (no_port : (port : ℕ) → popped_by (Port port) past ≡ [])
    (fits : Fits past items owner pass (knowing shape left places ports))
    (all_places : HasAll shape.places (map (λ (p : PlaceState). p.number) places))
    (all_ports : HasAll shape.ports (map (λ (p : PortState). p.number) ports)) where
  known : Entry → Type 0
  known e = (owner e.name ≡ pass) × (e.list ≡ list_of e.name past items)

  split : Each (λ e. (owner e.name ≡ pass) × (e.list ≡ list_of e.name past items)) (map place_entry places) × Each (λ e. (owner e.name ≡ pass) × (e.list ≡ list_of e.name past items)) (map port_entry ports)
  split = Each-split (λ e. (owner e.name ≡ pass) × (e.list ≡ list_of e.name past items)) (map place_entry places) (map port_entry ports) fits.entries.1

  pub once : (n : Name) → bit (same_name n Finisher) + (sum_by (λ (p : PlaceState). bit (same_name n (Place p.number))) places + sum_by (λ (p : PortState). bit (same_name n (Port p.number))) ports) ≤ 1
  unfolding unit
  once n = omega (
    arith,
    apart_once n (entry Finisher left ∷ (map place_entry places ++ map port_entry ports)) fits.apart,
    sum_by-cons (unit n) (entry Finisher left) (map place_entry places ++ map port_entry ports),
    sum_by-append (unit n) (map place_entry places) (map port_entry ports),
    sum_by-map (unit n) place_entry places,
    sum_by-map (unit n) port_entry ports,
  )

  -- no two places have one number
  pub numbers_apart : (number : ℕ) → sum_by (λ (p : PlaceState). bit (eqb p.number number)) places ≤ 1
  numbers_apart number = omega (
    arith,
    once (Place number),
    sum_by-same (λ (p : PlaceState). bit (eqb number p.number)) (λ (p : PlaceState). bit (eqb p.number number)) (λ p. turned number p.number) places,
  )

  -- what a place was the first to be handed is what it popped
  pub place_popped : (p : PlaceState) → Contains places p → p.firsts ≡ popped_by (Place p.number) past
  place_popped p here = (Each-there (λ e. (owner e.name ≡ pass) × (e.list ≡ list_of e.name past items)) place_entry places p split.0 here).1

  -- what a port sent is what came through it
  pub port_sent : (p : PortState) → Contains ports p → p.sent ≡ through p.number (all_of past items)
  port_sent p here = (Each-there (λ e. (owner e.name ≡ pass) × (e.list ≡ list_of e.name past items)) port_entry ports p split.1 here).1

  -- the names of the places, and of who ends the group
  poppers : List Name
  poppers = Finisher ∷ map (λ (p : PlaceState). Place p.number) places

  place_once : (k : ℕ) → k < shape.places → times (Place k) (Finisher ∷ map (λ (p : PlaceState). Place p.number) places) ≡ 1
  place_once k less = omega (
    arith,
    once (Place k),
    there_once Place (map (λ (p : PlaceState). p.number) places) k (all_places k less),
    sum_by-map (λ n. bit (same_name (Place k) (Place n))) (λ (p : PlaceState). p.number) places,
    sum_by-cons (λ n. bit (same_name (Place k) n)) Finisher (map (λ (p : PlaceState). Place p.number) places),
    sum_by-map (λ n. bit (same_name (Place k) n)) (λ (p : PlaceState). Place p.number) places,
  )

  finisher_once : times Finisher (Finisher ∷ map (λ (p : PlaceState). Place p.number) places) ≡ 1
  finisher_once = omega (
    arith,
    sum_by-cons (λ n. bit (same_name Finisher n)) Finisher (map (λ (p : PlaceState). Place p.number) places),
    sum_by-map (λ n. bit (same_name Finisher n)) (λ (p : PlaceState). Place p.number) places,
    sum_by-none (λ (p : PlaceState). 0) (λ p. refl) places,
  )

  port_once : (k : ℕ) → k < shape.ports → times (Port k) (map (λ (p : PortState). Port p.number) ports) ≡ 1
  port_once k less = omega (
    arith,
    once (Port k),
    there_once Port (map (λ (p : PortState). p.number) ports) k (all_ports k less),
    sum_by-map (λ n. bit (same_name (Port k) (Port n))) (λ (p : PortState). p.number) ports,
    sum_by-map (λ n. bit (same_name (Port k) n)) (λ (p : PortState). Port p.number) ports,
  )

  map_empty : (l : List Pop) → map (λ (pop : Pop). pop.posted) l ≡ [] → l ≡ []
  map_empty [] e = refl
  map_empty (p ∷ l) e = absurd (cc)

  each_popper : (n : Name) → (times n (Finisher ∷ map (λ (p : PlaceState). Place p.number) places) ≡ 1) ⊎ (filter (λ (pop : Pop). same_name pop.by n) past ≡ [])
  each_popper (Port p) = inr (map_empty (filter (λ (pop : Pop). same_name pop.by (Port p)) past) (no_port p))
  each_popper Finisher = inl finisher_once
  each_popper (Place k) = below (ltb k shape.places) refl
    where
      below : (b : Bool) → ltb k shape.places ≡ b → (times (Place k) (Finisher ∷ map (λ (p : PlaceState). Place p.number) places) ≡ 1) ⊎ (filter (λ (pop : Pop). same_name pop.by (Place k)) past ≡ [])
      below true is = inl (place_once k (ltb-true k shape.places is))
      below false is = inr (map_empty (filter (λ (pop : Pop). same_name pop.by (Place k)) past) (fits.places refl k (ltb-false k shape.places is)).1)

  each_port : (x : Posted) → (times (Port x.job.port) (map (λ (p : PortState). Port p.number) ports) ≡ 1) ⊎ (through x.job.port (all_of past items) ≡ [])
  each_port x = below (ltb x.job.port shape.ports) refl
    where
      below : (b : Bool) → ltb x.job.port shape.ports ≡ b → (times (Port x.job.port) (map (λ (p : PortState). Port p.number) ports) ≡ 1) ⊎ (through x.job.port (all_of past items) ≡ [])
      below true is = inl (port_once x.job.port (ltb-true x.job.port shape.ports is))
      below false is = inr (fits.ports refl x.job.port (ltb-false x.job.port shape.ports is)).1

  -- what all places were the first to be handed and what was left is what was popped
  pub all_popped : (w : Posted → ℕ) → sum_by (λ (p : PlaceState). sum_by w p.firsts) places + sum_by w left ≡ sum_by w (posts past)
  all_popped w =
      let f : Pop → ℕ = λ pop. w pop.posted in
      let popped : Name → ℕ = λ n. sum_by f (filter (λ (pop : Pop). same_name pop.by n) past) in
      let whole = spread (λ (pop : Pop). pop.by) f (Finisher ∷ map (λ (p : PlaceState). Place p.number) places) past (λ pop. each_popper pop.by) in
      let of = λ (n : Name). sum_by-map w (λ (pop : Pop). pop.posted) (filter (λ (pop : Pop). same_name pop.by n) past) in
      let firsts = Each-sum (λ e. (owner e.name ≡ pass) × (e.list ≡ list_of e.name past items)) place_entry (λ (p : PlaceState). sum_by w p.firsts) (λ (p : PlaceState). popped (Place p.number))
      (λ p is. ap (sum_by w) is.1 ∙ of (Place p.number)) places split.0 in
      let last = ap (sum_by w) fits.entries.0.1 ∙ of Finisher in
      omega (
        arith,
        whole,
        firsts,
        last,
        sum_by-cons popped Finisher (map (λ (p : PlaceState). Place p.number) places),
        sum_by-map popped (λ (p : PlaceState). Place p.number) places,
        sum_by-map w (λ (pop : Pop). pop.posted) past,
      )

  -- what all ports sent is all that was pushed
  pub all_sent : (w : Posted → ℕ) → sum_by (λ (p : PortState). sum_by w p.sent) ports ≡ sum_by w (all_of past items)
  all_sent w =
      let whole = spread (λ (x : Posted). Port x.job.port) w (map (λ (p : PortState). Port p.number) ports) (all_of past items) each_port in
      let sent = Each-sum (λ e. (owner e.name ≡ pass) × (e.list ≡ list_of e.name past items)) port_entry (λ (p : PortState). sum_by w p.sent) (λ (p : PortState). sum_by w (through p.number (all_of past items)))
      (λ p is. ap (sum_by w) is.1) ports split.1 in
      omega (
        arith,
        whole,
        sent,
        sum_by-map (λ n. sum_by w (filter (λ (x : Posted). same_name (Port x.job.port) n) (all_of past items))) (λ (p : PortState). Port p.number) ports,
      )

  -- so many came through each port
  pub all_counted : (accepted : List ℕ) → AreCounts shape.ports ports accepted → (port : ℕ) → get_or accepted port 0 ≡ length (through port (all_of past items))
  all_counted accepted counts port = below (ltb port shape.ports) refl
    where
      below : (b : Bool) → ltb port shape.ports ≡ b → get_or accepted port 0 ≡ length (through port (all_of past items))
      below true is =
          let at = counts.each port (ltb-true port shape.ports is) in
          let sent = Each-there (λ e. (owner e.name ≡ pass) × (e.list ≡ list_of e.name past items)) port_entry ports at.0 split.1 at.1 in
          at.3 ∙ (ap length sent.1 ∙ ap (λ n. length (through n (all_of past items))) at.2)
      below false is =
          let over = ltb-false port shape.ports is in
          get_or_past accepted port 0 (omega (arith, over, counts.many)) ∙ sym (ap length (fits.ports refl port over).1)

-- in a numbered list each job is there once, where its number is below how many came through its port
module _ (job : Job) where
  before : List Posted → ℕ
  before list = bit (ltb job.number (length (through job.port list)))

  one_more : (k n : ℕ) → bit (ltb k (n + 1)) ≡ bit (eqb n k) + bit (ltb k n)
  one_more k n = cases (ltb k n) refl (eqb n k) refl
    where
      cases : (b : Bool) → ltb k n ≡ b → (d : Bool) → eqb n k ≡ d → bit (ltb k (n + 1)) ≡ bit d + bit b
      cases true less true same = let a = ltb-true k n less in let e = eqb-true n k same in absurd (omega arith)
      cases true less false same = ap (λ x. bit x) (lt-ltb k (n + 1) (let a = ltb-true k n less in omega arith))
      cases false less true same = ap (λ x. bit x) (lt-ltb k (n + 1) (let e = eqb-true n k same in omega arith))
      cases false less false same = ap (λ x. bit x) (le-ltb k (n + 1) (let a = ltb-false k n less in let ne : n ≢ k = λ is. absurd_bool (sym (eq-eqb n k is) ∙ same) in omega arith))
        where
          absurd_bool : true ≡ false → ⊥
          absurd_bool e = cc

  push_case : (front : List Posted) (x : Posted) → x.job.number ≡ length (through x.job.port front) → (b : Bool) → eqb x.job.port job.port ≡ b
      → bit (ltb job.number (length (through job.port (front ++ x ∷ [])))) ≡ bit (b && (eqb x.job.number job.number)) + bit (ltb job.number (length (through job.port front)))
  push_case front x at true same =
      let port = eqb-true x.job.port job.port same in
      let n : ℕ = length (through job.port front) in
      let here : x.job.number ≡ n = at ∙ ap (λ p. length (through p front)) port in
      let len : length (through job.port (front ++ x ∷ [])) ≡ n + 1 = ap length (through-push job.port front x port) ∙ length-append (through job.port front) (x ∷ []) in
      ap (λ m. bit (ltb job.number m)) len ∙ (one_more job.number n ∙ ap (λ m. bit (eqb m job.number) + bit (ltb job.number n)) (sym here))
  push_case front x at false same =
      let other : x.job.port ≢ job.port = λ is. absurd_bool (sym (eq-eqb x.job.port job.port is) ∙ same) in
      let len = ap length (through-other job.port front x other) in
      omega (arith, ap (λ m. bit (ltb job.number m)) len)
    where
      absurd_bool : true ≡ false → ⊥
      absurd_bool e = cc

  count_front : (front rest : List Posted) → AreNumbered (front ++ rest) → sum_by (worth job) rest + bit (ltb job.number (length (through job.port front))) ≡ bit (ltb job.number (length (through job.port (front ++ rest))))
  count_front front [] numbered = omega (arith, ap (λ l. bit (ltb job.number (length (through job.port l)))) (append_nil front))
    where
      append_nil : (l : List Posted) → l ++ [] ≡ l
      append_nil [] = refl
      append_nil (y ∷ ys) = ap (λ l. y ∷ l) (append_nil ys)
  count_front front (x ∷ rest) numbered =
      let e : (front ++ x ∷ []) ++ rest ≡ front ++ x ∷ rest = append_assoc front (x ∷ []) rest in
      let step = push_case front x (numbered front rest x refl).0 (eqb x.job.port job.port) refl in
      let tail = count_front (front ++ x ∷ []) rest (subst AreNumbered (sym e) numbered) in
      omega (arith, step, tail, sum_by-cons (worth job) x rest, ap (λ l. bit (ltb job.number (length (through job.port l)))) e)

  pub count_all : (all : List Posted) → AreNumbered all → sum_by (worth job) all ≡ bit (ltb job.number (length (through job.port all)))
  count_all all numbered =
      let whole = count_front [] all numbered in
      let none : bit (ltb job.number 0) ≡ 0 = ap (λ b. bit b) (le-ltb job.number 0 (omega arith)) in
      omega (arith, whole, none)
