-- Listeners and ringers are seated one after the other, until each worker's ringers reach each listener.
use Rattle.std.proofs.Common.{◌≡◌, ◌≢◌, ◌⊎◌, ◌<◌, ◌+◌, ℕ, zero, suc, List, [], ◌∷◌, ◌++◌, length, take, slice_get, Some, Result, Ok, Err, OnOk, refl, sym, ap, subst, ◌∙◌, inl, inr, ⊎_elim, arith}
use Rattle.std.specs.List.{slice_set}
use Rattle.std.proofs.lemmas.Option.{slice_get_within}
use Rattle.std.proofs.Math.Seq.{take-append_seam}
use Rattle.std.proofs.lemmas.Bool.{cases_eq}
use Rattle.bell.specs.Handles.{BellId}
use Rattle.worker_bells.specs.Ringing.{ListeningState, RingingState, WorkerBellsState}
use Rattle.worker_bells.specs.Joining.{Reaches, AreJoined, IsListeningAt, AreJoinedBut, HaveRingingsAt, HasListeningMore, HasRingingMore}
use Rattle.worker_bells.proofs.Places.{others_stay, put_there, some_is}

module _ {X : Type 0} where
  -- what stood in a list stands in it with one more, which stands behind it
  still_there : (xs : List X) (x y : X) (k : ℕ) → slice_get xs k ≡ Some y → slice_get (xs ++ x ∷ []) k ≡ Some y
  still_there [] x y k has = absurd (cc has)
  still_there (z ∷ xs) x y zero has = has
  still_there (z ∷ xs) x y (suc k) has = still_there xs x y k has

  last_there : (xs : List X) (x : X) → slice_get (xs ++ x ∷ []) (length xs) ≡ Some x
  last_there [] x = refl
  last_there (y ∷ xs) x = last_there xs x

  -- what stands in a list with one more stood in it, or is that one
  in_more : (xs : List X) (x y : X) (k : ℕ) → slice_get (xs ++ x ∷ []) k ≡ Some y → (slice_get xs k ≡ Some y) ⊎ (x ≡ y)
  in_more [] x y zero has = inr (some_is x y has)
  in_more [] x y (suc k) has = absurd (cc has)
  in_more (z ∷ xs) x y zero has = inl has
  in_more (z ∷ xs) x y (suc k) has = in_more xs x y k has

  -- what stands in a list in which one was put was put there, or stood there before
  in_set : (xs : List X) (at : ℕ) (x y : X) (k : ℕ) → at < length xs → slice_get (slice_set xs at x) k ≡ Some y → ((k ≡ at) × (x ≡ y)) ⊎ ((k ≢ at) × (slice_get xs k ≡ Some y))
  in_set xs at x y k within has = ⊎_elim
      (λ (is : k ≡ at). inl (is, some_is x y (sym (put_there xs at x within) ∙ subst (λ n. slice_get (slice_set xs at x) n ≡ Some y) is has)))
      (λ (other : k ≢ at). inr (other, sym (others_stay xs at k x other) ∙ has))
      (cases_eq k at)

-- the front of a list that goes on
pub front : {A : Type 0} (count : ℕ) (xs ys : List A) → count ≡ length xs → take count (xs ++ ys) ≡ xs
front {A} count xs ys same = let Front : ℕ → Type 0 = λ n. take n (xs ++ ys) ≡ xs in subst Front (sym same) (take-append_seam xs ys)

-- a ringer more reaches no less
reaches_more : (ringings : List RingingState) (more : RingingState) (listening : ListeningState) → Reaches ringings listening → Reaches (ringings ++ more ∷ []) listening
reaches_more ringings more listening reaches = record {
  at = reaches.at;
  ringing = reaches.ringing;
  has = still_there ringings more reaches.ringing reaches.at reaches.has;
  bell = reaches.bell;
  slot = reaches.slot;
}

-- nobody listens yet
abbrev pub NobodyListens : List WorkerBellsState → Type 0
NobodyListens all_own_bells = (j : ℕ) (other : WorkerBellsState) → slice_get all_own_bells j ≡ Some other → other.listenings ≡ []

pub nobody_more : (all_own_bells : List WorkerBellsState) (more : WorkerBellsState) → NobodyListens all_own_bells → more.listenings ≡ [] → NobodyListens (all_own_bells ++ more ∷ [])
nobody_more all_own_bells more nobody none j other has = ⊎_elim
    (λ (before : slice_get all_own_bells j ≡ Some other). nobody j other before)
    (λ (is : more ≡ other). subst (λ (o : WorkerBellsState). o.listenings ≡ []) is none)
    (in_more all_own_bells more other j has)

pub joined_at_first : (all_own_bells : List WorkerBellsState) → NobodyListens all_own_bells → AreJoined all_own_bells
joined_at_first all_own_bells nobody i j k one other listening has_one has_other has_listening =
    absurd (cc (subst (λ (listenings : List ListeningState). slice_get listenings k ≡ Some listening) (nobody j other has_other) has_listening))

-- one listener more at the bell
pub listening_more : (bell : BellId) (slot n : ℕ) (all : List WorkerBellsState) (old new : WorkerBellsState) → slice_get all n ≡ Some old → new.ringings ≡ old.ringings → HasListeningMore bell slot old.listenings new.listenings
    → AreJoinedBut bell slot all → AreJoinedBut bell slot (slice_set all n new)
listening_more bell slot n all old new has same more joined i j k one other listening has_one has_other has_listening =
    ⊎_elim (λ (is : (i ≡ n) × (new ≡ one)). subst Told (sym same ∙ ap (λ (o : WorkerBellsState). o.ringings) is.1) (told n old has)) (λ (before : (i ≢ n) × (slice_get all i ≡ Some one)). told i one before.1)
    (in_set all n new one i within has_one)
  where
    within : n < length all
    within = slice_get_within all n old has

    Told : List RingingState → Type 0
    Told ringings = Reaches ringings listening ⊎ IsListeningAt bell slot listening

    told_of : (m : ℕ) (rings : WorkerBellsState) → slice_get all m ≡ Some rings → slice_get new.listenings k ≡ Some listening → Told rings.ringings
    told_of m rings rings_there heard = ⊎_elim
        (λ (before : slice_get old.listenings k ≡ Some listening). joined m n k rings old listening rings_there has before)
        (λ (is : more.0 ≡ listening). inr (subst (λ (e : ListeningState). IsListeningAt bell slot e) is more.1))
        (in_more old.listenings more.0 listening k (subst (λ (listenings : List ListeningState). slice_get listenings k ≡ Some listening) more.2 heard))

    told : (m : ℕ) (rings : WorkerBellsState) → slice_get all m ≡ Some rings → Told rings.ringings
    told m rings rings_there = ⊎_elim
        (λ (is : (j ≡ n) × (new ≡ other)). told_of m rings rings_there (subst (λ (o : WorkerBellsState). slice_get o.listenings k ≡ Some listening) (sym is.1) has_listening))
        (λ (before : (j ≢ n) × (slice_get all j ≡ Some other)). joined m j k rings other listening rings_there before.1 has_listening)
        (in_set all n new other j within has_other)

pub listening_seated : {E : Type 0} (result : Result (Unit {0}) E) (bell : BellId) (slot n : ℕ) (all : List WorkerBellsState) (old new : WorkerBellsState) → slice_get all n ≡ Some old
    → OnOk result (new.ringings ≡ old.ringings) → OnOk result (HasListeningMore bell slot old.listenings new.listenings)
    → OnOk result (AreJoinedBut bell slot all → AreJoinedBut bell slot (slice_set all n new))
listening_seated (Ok done) bell slot n all old new has same more = λ joined. listening_more bell slot n all old new has same more joined
listening_seated (Err error) bell slot n all old new has same more = tt

-- one ringer more at the bell
pub ringing_more : (bell : BellId) (slot n : ℕ) (all : List WorkerBellsState) (old new : WorkerBellsState) → slice_get all n ≡ Some old → new.listenings ≡ old.listenings → HasRingingMore bell slot old.ringings new.ringings
    → AreJoinedBut bell slot all → AreJoinedBut bell slot (slice_set all n new)
ringing_more bell slot n all old new has same more joined i j k one other listening has_one has_other has_listening =
    ⊎_elim (λ (is : (i ≡ n) × (new ≡ one)). subst (λ (o : WorkerBellsState). Told o.ringings) is.1 (subst Told (sym more.2) (grown (told n old has))))
    (λ (before : (i ≢ n) × (slice_get all i ≡ Some one)). told i one before.1) (in_set all n new one i within has_one)
  where
    within : n < length all
    within = slice_get_within all n old has

    Told : List RingingState → Type 0
    Told ringings = Reaches ringings listening ⊎ IsListeningAt bell slot listening

    grown : Told old.ringings → Told (old.ringings ++ more.0 ∷ [])
    grown before = ⊎_elim (λ (reaches : Reaches old.ringings listening). inl (reaches_more old.ringings more.0 listening reaches)) (λ (at : IsListeningAt bell slot listening). inr at) before

    told : (m : ℕ) (rings : WorkerBellsState) → slice_get all m ≡ Some rings → Told rings.ringings
    told m rings rings_there = ⊎_elim
        (λ (is : (j ≡ n) × (new ≡ other)). joined m n k rings old listening rings_there has
        (subst (λ (listenings : List ListeningState). slice_get listenings k ≡ Some listening) same (subst (λ (o : WorkerBellsState). slice_get o.listenings k ≡ Some listening) (sym is.1) has_listening)))
        (λ (before : (j ≢ n) × (slice_get all j ≡ Some other)). joined m j k rings other listening rings_there before.1 has_listening)
        (in_set all n new other j within has_other)

pub ringings_more : (bell : BellId) (slot n : ℕ) (all : List WorkerBellsState) (old new : WorkerBellsState) → slice_get all n ≡ Some old → HasRingingMore bell slot old.ringings new.ringings
    → HaveRingingsAt bell slot n all → HaveRingingsAt bell slot (n + 1) (slice_set all n new)
ringings_more bell slot n all old new has more have i one below has_one = ⊎_elim
    (λ (is : (i ≡ n) × (new ≡ one)).
    let there : slice_get new.ringings (length old.ringings) ≡ Some more.0 = ap (λ (ringings : List RingingState). slice_get ringings (length old.ringings)) more.2 ∙ last_there old.ringings more.0 in
    (length old.ringings, more.0, subst (λ (o : WorkerBellsState). slice_get o.ringings (length old.ringings) ≡ Some more.0) is.1 there, more.1))
    (λ (before : (i ≢ n) × (slice_get all i ≡ Some one)). have i one (omega (arith, below, before.0)) before.1)
    (in_set all n new one i (slice_get_within all n old has) has_one)

-- once each of them has a ringer at the bell
pub joined_again : (bell : BellId) (slot : ℕ) (all : List WorkerBellsState) → AreJoinedBut bell slot all → HaveRingingsAt bell slot (length all) all → AreJoined all
joined_again bell slot all joined have i j k one other listening has_one has_other has_listening = ⊎_elim
    (λ (reaches : Reaches one.ringings listening). reaches)
    (λ (at : IsListeningAt bell slot listening).
    let ringing = have i one (slice_get_within all i one has_one) has_one in
    record { at = ringing.0; ringing = ringing.1; has = ringing.2; bell = ringing.3.0 ∙ sym at.0; slot = ringing.3.1 ∙ sym at.1 })
    (joined i j k one other listening has_one has_other has_listening)
