-- A share that is bound stays bound as more is learnt, and among the first eight.
use Rattle.std.proofs.Common.{◌≡◌, ◌⊎◌, ◌<◌, ◌≤◌, ◌+◌, ℕ, zero, suc, List, [], ◌∷◌, ◌++◌, length, take, Some, None, All, refl, sym, ap, subst, ◌∙◌, inl, inr, arith, length-append, Result, Ok, Err, OnOk, append_assoc, true, get_or, add-one, drop, ◌-◌}
use Rattle.std.specs.Prelude.{slice_get, bytes_eq}
use Rattle.std.proofs.lemmas.List.Elements.{All-cons, All-weaker}
use Rattle.std.proofs.lemmas.List.Quantifiers.{position-Some}
use Rattle.std.proofs.lemmas.Option.{slice_get-get_or}
use Rattle.std.proofs.lemmas.Slice.Eq.{bytes_eq-Decides}
use Rattle.mqtt_topic.specs.Names.{Share}
use Rattle.mqtt_topic.specs.Routes.{slot_of}
use Rattle.shared_routes.specs.Known.{KnownState, Grows, IsBound}
use Rattle.threaded_broker.specs.Shares.{IsBoundIn}

pub in_more : (xs ys : List Share) (k : ℕ) (x : Share) → slice_get xs k ≡ Some x → slice_get (xs ++ ys) k ≡ Some x
in_more [] ys k x there = cc
in_more (y ∷ xs) ys zero x there = there
in_more (y ∷ xs) ys (suc k) x there = in_more xs ys k x there

pub in_first : (n : ℕ) (xs : List Share) (k : ℕ) (x : Share) → k < n → slice_get xs k ≡ Some x → slice_get (take n xs) k ≡ Some x
in_first zero xs k x few there = absurd (omega arith)
in_first (suc n) [] k x few there = cc
in_first (suc n) (y ∷ xs) zero x few there = there
in_first (suc n) (y ∷ xs) (suc k) x few there = in_first n xs k x (omega arith) there

-- so many are first where there are so many
pub many_first : (n : ℕ) (xs : List Share) → n ≤ length xs → n ≤ length (take n xs)
many_first zero xs many = omega arith
many_first (suc n) [] many = absurd (omega arith)
many_first (suc n) (x ∷ xs) many = let rest : n ≤ length (take n xs) = many_first n xs (omega arith) in omega arith

pub stays : (xs ys : List Share) (share : Share) → IsBoundIn xs share → IsBoundIn (xs ++ ys) share
stays xs ys share (inl among) = inl (record { slot = among.slot; share = among.share; few = among.few; there = in_more xs ys among.slot among.share among.there; same = among.same })
stays xs ys share (inr full) = inr (omega (arith, length-append xs ys))

pub all_stay : (xs ys shares : List Share) → All (IsBoundIn xs) shares → All (IsBoundIn (xs ++ ys)) shares
all_stay xs ys shares bound = All-weaker (IsBoundIn xs) (IsBoundIn (xs ++ ys)) (λ share is. stays xs ys share is) shares bound

pub first : (xs : List Share) (share : Share) → IsBoundIn xs share → IsBoundIn (take 8 xs) share
first xs share (inl among) = inl (record { slot = among.slot; share = among.share; few = among.few; there = in_first 8 xs among.slot among.share among.few among.there; same = among.same })
first xs share (inr full) = inr (many_first 8 xs full)

pub all_first : (xs shares : List Share) → All (IsBoundIn xs) shares → All (IsBoundIn (take 8 xs)) shares
all_first xs shares bound = All-weaker (IsBoundIn xs) (IsBoundIn (take 8 xs)) (λ share is. first xs share is) shares bound

-- the share at a place that is there follows those before it; where none is there, those before are all
one_more_next : (n : ℕ) (xs : List Share) (x : Share) → slice_get xs n ≡ Some x → take (suc n) xs ≡ take n xs ++ x ∷ []
one_more_next n [] x there = cc
one_more_next zero (y ∷ xs) x there = let same : y ≡ x = cc in ap (λ z. z ∷ []) same
one_more_next (suc n) (y ∷ xs) x there = ap (λ zs. y ∷ zs) (one_more_next n xs x there)

none_more_next : (n : ℕ) (xs : List Share) → slice_get xs n ≡ None → take (suc n) xs ≡ take n xs
none_more_next zero [] there = refl
none_more_next (suc n) [] there = refl
none_more_next zero (y ∷ xs) there = cc
none_more_next (suc n) (y ∷ xs) there = ap (λ zs. y ∷ zs) (none_more_next n xs there)

pub one_more : (n : ℕ) (xs : List Share) (x : Share) → slice_get xs n ≡ Some x → take (n + 1) xs ≡ take n xs ++ x ∷ []
one_more n xs x there = rw add-one (one_more_next n xs x there)

pub none_more : (n : ℕ) (xs : List Share) → slice_get xs n ≡ None → take (n + 1) xs ≡ take n xs
none_more n xs there = rw add-one (none_more_next n xs there)

at_end : (xs : List Share) (x : Share) → slice_get (xs ++ x ∷ []) (length xs) ≡ Some x
at_end [] x = refl
at_end (y ∷ xs) x = at_end xs x

-- texts that compare as one are one
bytes_same : (xs ys : List ℕ) → bytes_eq xs ys ≡ true → xs ≡ ys
bytes_same xs ys test = (bytes_eq-Decides xs ys).0 test

-- who binds a share sees it bound
pub sees : (old new : KnownState) (share : Share) (slot : ℕ) → ((slot_of share.text old.shares ≡ Some slot) × (new ≡ old)) ⊎ IsBound old share slot new → slot < 8
    → IsBoundIn new.shares share
sees old new share slot (inl found) few =
    let at : slot < length old.shares = (position-Some (λ (one : Share). bytes_eq one.text share.text) old.shares slot share found.0).0 in
    let test : bytes_eq (get_or old.shares slot share).text share.text ≡ true = (position-Some (λ (one : Share). bytes_eq one.text share.text) old.shares slot share found.0).1 in
    subst (λ (known : KnownState). IsBoundIn known.shares share) (sym found.1)
    (inl (record { slot = slot; share = get_or old.shares slot share; few = few; there = slice_get-get_or old.shares slot share at; same = bytes_same _ _ test }))
sees old new share slot (inr bound) few =
    let ends : new.shares ≡ (old.shares ++ bound.others) ++ bound.bound ∷ [] = bound.grown.shares ∙ sym (append_assoc old.shares bound.others (bound.bound ∷ [])) in
    inl (record {
      slot = slot;
      share = bound.bound;
      few = few;
      there = subst (λ shares. slice_get shares slot ≡ Some bound.bound) (sym ends)
          (subst (λ n. slice_get ((old.shares ++ bound.others) ++ bound.bound ∷ []) n ≡ Some bound.bound) (sym bound.slot_is) (at_end (old.shares ++ bound.others) bound.bound));
      same = bound.same;
    })

grown : (old new : KnownState) (shares : List Share) → Grows old new → All (IsBoundIn old.shares) shares → All (IsBoundIn new.shares) shares
grown old new shares grows bound = subst (λ (all : List Share). All (IsBoundIn all) shares) (sym grows.1.shares) (all_stay old.shares grows.0 shares bound)

-- a share that is bound before others stays bound
pub with_others : (mid new : KnownState) (share : Share) (others : List Share) → IsBoundIn mid.shares share → Grows mid new → All (IsBoundIn new.shares) others
    → All (IsBoundIn new.shares) (share ∷ others)
with_others mid new share others bound grows rest =
    All-cons (IsBoundIn new.shares) share others (subst (λ (all : List Share). IsBoundIn all share) (sym grows.1.shares) (stays mid.shares grows.0 share bound)) rest

-- what is copied at the end has all that were bound
pub at_the_end : (old new : KnownState) (shares copies : List Share) → All (IsBoundIn old.shares) shares → Grows old new → copies ≡ take 8 new.shares → All (IsBoundIn copies) shares
at_the_end old new shares copies bound grows are = subst (λ all. All (IsBoundIn all) shares) (sym are) (all_first new.shares shares (grown old new shares grows bound))

pub with_first : {E : Type 0} (result : Result (Unit {0}) E) (mid new : KnownState) (share : Share) (others : List Share) → IsBoundIn mid.shares share → Grows mid new
    → OnOk result (All (IsBoundIn new.shares) others) → OnOk result (All (IsBoundIn new.shares) (share ∷ others))
with_first (Ok done) mid new share others bound grows rest = with_others mid new share others bound grows rest
with_first (Err error) mid new share others bound grows rest = tt

take_whole : (xs : List Share) → take (length xs) xs ≡ xs
take_whole [] = refl
take_whole (x ∷ xs) = ap (λ ys. x ∷ ys) (take_whole xs)

-- a list is its first element and those after
pub whole_of : (all : List Share) (share default : Share) → 0 < length all → get_or all 0 default ≡ share → share ∷ take (length all - 1) (drop 1 all) ≡ all
whole_of [] share default some is = absurd (omega arith)
whole_of (one ∷ rest) share default some is =
    let n : length (one ∷ rest) - 1 ≡ length rest = omega arith in
    subst (λ n. share ∷ take n rest ≡ one ∷ rest) (sym n) (ap (λ x. x ∷ take (length rest) rest) (sym is) ∙ ap (λ xs. one ∷ xs) (take_whole rest))
