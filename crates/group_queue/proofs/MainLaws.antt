-- What the rule of the main queue means: order, and one first hand-out for each message.
use Rattle.std.proofs.Common.{◌≡◌, ◌≢◌, ℕ, zero, suc, ◌<◌, ◌⊎◌, inl, inr, ⊎_elim, Bool, true, false, eqb, List, [], ◌∷◌, ◌++◌, length, Contains, All, refl, sym, ap, ◌∙◌, subst, arith, append_assoc, length-append}
use Rattle.std.specs.Prelude.{map}
use Rattle.std.proofs.lemmas.List.{map-append}
use Rattle.std.proofs.lemmas.List.Elements.{filter-append, All-cons, All-nil, All-head, All-tail, Contains-append_right, Contains-get_or}
use Rattle.std.proofs.lemmas.List.Kept.{AllPairs-cons}
use Rattle.dispatch_core.specs.declared.event.Job.{Job}
use Rattle.dispatch_core.specs.Lawful.{RisesByPort}
use Rattle.group_queue.specs.declared.posted.Posted.{Posted}
use Rattle.group_queue.specs.declared.view.Name.{Name}
use Rattle.group_queue.specs.Views.{same_name}
use Rattle.group_queue.specs.Past.{Pop, through, popped_by, AreNumbered}
use Rattle.group_queue.specs.Places.{jobs_in}
use Rattle.group_queue.proofs.Lists.{through-push, same_name-true}

abbrev pub posts : List Pop → List Posted
posts past = map (λ (pop : Pop). pop.posted) past

-- one job is before another where they came through one port
abbrev pub IsBefore : Job → Job → Type 0
IsBefore earlier later = earlier.port ≡ later.port → earlier.number < later.number

through-longer : (port : ℕ) (front : List Posted) (x : Posted) (mid : List Posted) → x.job.port ≡ port → length (through port front) < length (through port (front ++ x ∷ mid))
through-longer port front x mid is =
    let p : Posted → Bool = λ posted. eqb posted.job.port port in
    let e : (front ++ x ∷ []) ++ mid ≡ front ++ x ∷ mid = append_assoc front (x ∷ []) mid in
    let l : through port (front ++ x ∷ mid) ≡ (through port front ++ x ∷ []) ++ through port mid =
    ap (through port) (sym e) ∙ (filter-append p (front ++ x ∷ []) mid ∙ ap (λ h. h ++ through port mid) (through-push port front x is)) in
    omega (arith, ap length l, length-append (through port front ++ x ∷ []) (through port mid), length-append (through port front) (x ∷ []))

-- a message is before all after it
before_all : (front : List Posted) (x : Posted) (mid rest : List Posted) → AreNumbered ((front ++ x ∷ mid) ++ rest) → x.job.number ≡ length (through x.job.port front) → All (IsBefore x.job) (jobs_in rest)
before_all front x mid [] numbered at = All-nil (IsBefore x.job)
before_all front x mid (y ∷ rest) numbered at =
    All-cons (IsBefore x.job) y.job (jobs_in rest)
    (λ same.
    let is = (numbered (front ++ x ∷ mid) rest y refl).0 in
    let more = through-longer y.job.port front x mid same in
    let here : x.job.number ≡ length (through y.job.port front) = at ∙ ap (λ p. length (through p front)) same in
    omega arith)
    (before_all front x (mid ++ y ∷ []) rest (subst AreNumbered (sym (ap (λ l. l ++ rest) (sym (append_assoc front (x ∷ mid) (y ∷ []))) ∙ append_assoc (front ++ x ∷ mid) (y ∷ []) rest)) numbered) at)

-- all that was ever pushed rises
pub all_rise : (front rest : List Posted) → AreNumbered (front ++ rest) → RisesByPort (jobs_in rest)
all_rise front [] numbered = λ i j d less within. absurd (omega arith)
all_rise front (x ∷ rest) numbered =
    let e : (front ++ x ∷ []) ++ rest ≡ front ++ x ∷ rest = append_assoc front (x ∷ []) rest in
    let numbered' = subst AreNumbered (sym e) numbered in
    AllPairs-cons IsBefore x.job (jobs_in rest) (before_all front x [] rest numbered' (numbered front rest x refl).0) (all_rise (front ++ x ∷ []) rest numbered')

-- of pairs, the first with all others, and the others among themselves
first_pairs : (x : Job) (xs : List Job) → RisesByPort (x ∷ xs) → All (IsBefore x) xs
first_pairs x xs rises = λ k d less. rises 0 (suc k) d (omega arith) (omega arith)

other_pairs : (x : Job) (xs : List Job) → RisesByPort (x ∷ xs) → RisesByPort xs
other_pairs x xs rises = λ i j d less within. rises (suc i) (suc j) d (omega arith) (omega arith)

contains_cons : (x : Job) (xs : List Job) (job : Job) → Contains (x ∷ xs) job → (x ≡ job) ⊎ Contains xs job
contains_cons x xs job (zero, less, is) = inl is
contains_cons x xs job (suc k, less, is) = inr (k, omega arith, is)

is_before : (x : Job) (xs : List Job) (job : Job) → All (IsBefore x) xs → Contains xs job → x ≢ job
is_before x xs job all (k, less, is) same =
    let before : IsBefore x job = subst (IsBefore x) is (all k job less) in
    let lt = before (ap (λ j. j.port) same) in
    let eq = ap (λ j. j.number) same in
    omega arith

all_step : (P : Job → Type 0) (name : Name) (a : Pop) (past : List Pop) → P a.posted.job → All P (jobs_in (popped_by name past)) → (b : Bool) → same_name a.by name ≡ b
    → All P (jobs_in (popped_by name (a ∷ past)))
all_step P name a past head rest true is = rw is (All-cons P a.posted.job (jobs_in (popped_by name past)) head rest)
all_step P name a past head rest false is = rw is rest

-- what some name popped is among what was popped
All-popped : (P : Job → Type 0) (name : Name) (past : List Pop) → All P (jobs_in (posts past)) → All P (jobs_in (popped_by name past))
All-popped P name [] all = All-nil P
All-popped P name (a ∷ past) all =
    all_step P name a past (All-head P a.posted.job (jobs_in (posts past)) all) (All-popped P name past (All-tail P a.posted.job (jobs_in (posts past)) all)) (same_name a.by name) refl

rise_step : (name : Name) (a : Pop) (past : List Pop) → All (IsBefore a.posted.job) (jobs_in (popped_by name past)) → RisesByPort (jobs_in (popped_by name past))
    → (b : Bool) → same_name a.by name ≡ b → RisesByPort (jobs_in (popped_by name (a ∷ past)))
rise_step name a past head rest true is = rw is (AllPairs-cons IsBefore a.posted.job (jobs_in (popped_by name past)) head rest)
rise_step name a past head rest false is = rw is rest

pub popped_rise : (name : Name) (past : List Pop) → RisesByPort (jobs_in (posts past)) → RisesByPort (jobs_in (popped_by name past))
popped_rise name [] rises = rises
popped_rise name (a ∷ past) rises =
    rise_step name a past (All-popped (IsBefore a.posted.job) name past (first_pairs a.posted.job (jobs_in (posts past)) rises))
    (popped_rise name past (other_pairs a.posted.job (jobs_in (posts past)) rises)) (same_name a.by name) refl

taken : (name : Name) (a : Pop) (past : List Pop) (job : Job) → same_name a.by name ≡ true → Contains (jobs_in (popped_by name (a ∷ past))) job
    → (a.posted.job ≡ job) ⊎ Contains (jobs_in (popped_by name past)) job
taken name a past job is h = contains_cons a.posted.job (jobs_in (popped_by name past)) job (rw is at h)

left_out : (name : Name) (a : Pop) (past : List Pop) (job : Job) → same_name a.by name ≡ false → Contains (jobs_in (popped_by name (a ∷ past))) job → Contains (jobs_in (popped_by name past)) job
left_out name a past job is h = rw is at h

-- two names popped nothing alike
module _ (m n : Name) (ne : m ≢ n) (a : Pop) (past : List Pop) (job : Job)
    (head : (name : Name) → All (IsBefore a.posted.job) (jobs_in (popped_by name past)))
    (rest : Contains (jobs_in (popped_by m past)) job → ¬ Contains (jobs_in (popped_by n past)) job)
    (here : Contains (jobs_in (popped_by m (a ∷ past))) job) (there : Contains (jobs_in (popped_by n (a ∷ past))) job) where
  apart_step : (b : Bool) → same_name a.by m ≡ b → (c : Bool) → same_name a.by n ≡ c → ⊥
  apart_step true is true is' = ne (sym (same_name-true a.by m is) ∙ same_name-true a.by n is')
  apart_step true is false is' =
      let t = left_out n a past job is' there in
      ⊎_elim (λ same. is_before a.posted.job (jobs_in (popped_by n past)) job (head n) t same) (λ h. rest h t) (taken m a past job is here)
  apart_step false is true is' =
      let h = left_out m a past job is here in
      ⊎_elim (λ same. is_before a.posted.job (jobs_in (popped_by m past)) job (head m) h same) (λ t. rest h t) (taken n a past job is' there)
  apart_step false is false is' = rest (left_out m a past job is here) (left_out n a past job is' there)

pub popped_apart : (m n : Name) → m ≢ n → (past : List Pop) → RisesByPort (jobs_in (posts past)) → (job : Job) → Contains (jobs_in (popped_by m past)) job → ¬ Contains (jobs_in (popped_by n past)) job
popped_apart m n ne [] rises job here there = let less = here.1 in omega arith
popped_apart m n ne (a ∷ past) rises job here there =
    apart_step m n ne a past job (λ name. All-popped (IsBefore a.posted.job) name past (first_pairs a.posted.job (jobs_in (posts past)) rises))
    (popped_apart m n ne past (other_pairs a.posted.job (jobs_in (posts past)) rises) job) here there (same_name a.by m) refl (same_name a.by n) refl

-- the front of a rising list and what is after it have nothing alike
pub split_apart : (xs ys : List Posted) → RisesByPort (jobs_in (xs ++ ys)) → (job : Job) → Contains (jobs_in xs) job → ¬ Contains (jobs_in ys) job
split_apart [] ys rises job here there = let less = here.1 in omega arith
split_apart (x ∷ xs) ys rises job here there = ⊎_elim
    (λ same. is_before x.job (jobs_in (xs ++ ys)) job (first_pairs x.job (jobs_in (xs ++ ys)) rises)
    (subst (λ l. Contains l job) (sym (map-append (λ (posted : Posted). posted.job) xs ys)) (Contains-append_right (jobs_in xs) (jobs_in ys) job there)) same)
    (λ h. split_apart xs ys (other_pairs x.job (jobs_in (xs ++ ys)) rises) job h there)
    (contains_cons x.job (jobs_in xs) job here)

pub popped_in : (name : Name) (past : List Pop) (job : Job) → Contains (jobs_in (popped_by name past)) job → Contains (jobs_in (posts past)) job
popped_in name past job (k, less, is) =
    let self : All (Contains (jobs_in (posts past))) (jobs_in (posts past)) = λ i d within. Contains-get_or (jobs_in (posts past)) i d within in
    subst (Contains (jobs_in (posts past))) is (All-popped (Contains (jobs_in (posts past))) name past self k job less)

-- what was pushed first rises, where all does
pub front_rise : (front rest : List Posted) → AreNumbered (front ++ rest) → RisesByPort (jobs_in front)
front_rise front rest numbered = all_rise [] front (λ f b x e. numbered f (b ++ rest) x (ap (λ l. l ++ rest) e ∙ append_assoc f (x ∷ b) rest))
