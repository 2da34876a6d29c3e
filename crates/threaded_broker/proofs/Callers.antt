-- A caller that takes others in, one after the other.
use Rattle.std.proofs.Common.{◌≡◌, ℕ, ◌+◌, List, [], ◌∷◌, ◌++◌, sym, ap, ◌∙◌, append-nil, append_assoc, arith}
use Rattle.std.specs.List.{AllByRecursion, flat_map}
use Rattle.std.proofs.lemmas.List.Sums.{sum_by-cons}
use mathlib.Core.List.{IsPrefix}
use Rattle.call_history.specs.Callers.{joined}
use Rattle.threaded_broker.specs.Callers.{DeskCallerState, HasTakenIn}

-- what begins a list begins each that goes on from it
pub begins_longer : {A : Type 0} (xs ys zs : List A) → IsPrefix xs ys → IsPrefix ys zs → IsPrefix xs zs
begins_longer {A} xs ys zs one two = (one.0 ++ two.0, sym (append_assoc xs one.0 two.0) ∙ ap (λ (l : List A). l ++ two.0) one.1 ∙ two.1)

pub begins_itself : {A : Type 0} (xs : List A) → IsPrefix xs xs
begins_itself xs = ([], append-nil xs)

-- none was taken in yet
pub takes_none : (caller : DeskCallerState) → HasTakenIn caller [] caller
takes_none caller = record { before = begins_itself caller.calls; each = tt; own = sym (append-nil caller.own); parts = omega arith }

-- the first was, and then the others
pub takes_first : (old mid new other : DeskCallerState) (others : List DeskCallerState) → mid ≡ joined old other mid.calls → IsPrefix old.calls mid.calls → IsPrefix other.calls mid.calls
    → HasTakenIn mid others new → HasTakenIn old (other ∷ others) new
takes_first old mid new other others is mine theirs rest =
    let own : mid.own ≡ old.own ++ other.own = ap (λ (c : DeskCallerState). c.own) is in
    let parts : mid.parts ≡ old.parts + other.parts = ap (λ (c : DeskCallerState). c.parts) is in
    record {
      before = begins_longer old.calls mid.calls new.calls mine rest.before;
      each = (begins_longer other.calls mid.calls new.calls theirs rest.before, rest.each);
      own = rest.own ∙ ap (λ (l : List ℕ). l ++ flat_map (λ (c : DeskCallerState). c.own) others) own ∙ append_assoc old.own other.own (flat_map (λ (c : DeskCallerState). c.own) others);
      parts = omega (arith, rest.parts, parts, sum_by-cons (λ (c : DeskCallerState). c.parts) other others);
    }

each_longer : (others : List DeskCallerState) (old new : DeskCallerState) → IsPrefix old.calls new.calls → AllByRecursion (λ (other : DeskCallerState). IsPrefix other.calls old.calls) others
    → AllByRecursion (λ (other : DeskCallerState). IsPrefix other.calls new.calls) others
each_longer [] old new longer each = tt
each_longer (other ∷ others) old new longer each = (begins_longer other.calls old.calls new.calls each.0 longer, each_longer others old new longer each.1)

-- and then knows more
pub taken_longer : (old mid new : DeskCallerState) (others : List DeskCallerState) → HasTakenIn old others mid → IsPrefix mid.calls new.calls → new ≡ record mid { calls = new.calls } → HasTakenIn old others new
taken_longer old mid new others taken longer same = record {
  before = begins_longer old.calls mid.calls new.calls taken.before longer;
  each = each_longer others mid new longer taken.each;
  own = ap (λ (c : DeskCallerState). c.own) same ∙ taken.own;
  parts = ap (λ (c : DeskCallerState). c.parts) same ∙ taken.parts;
}
