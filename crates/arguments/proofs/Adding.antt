-- How the groups grow pair by pair.
use Rattle.std.proofs.Common.{◌<◌, ℕ, zero, suc, List, [], ◌∷◌, map, length, take, Option, Some, None, Ok, Err, arith, refl, subst, inl, inr}
use Rattle.std.specs.List.{slice_index_or}
use Rattle.std.specs.Borrow.{Bor}
use Rattle.mqtt_topic.specs.Names.{Share}
use Rattle.arguments.specs.Groups.{Adds, AddsEach, RefusesOne, share_named}
use Rattle.arguments.specs.declared.groups.Refusal.{Refusal}
use Rattle.arguments.specs.declared.groups.Refusal.TheVariants.{NoShare, Twice, Ninth}

abbrev texts : List (Bor (List ℕ)) → List (List ℕ)
texts = map (λ pair. pair.now)

-- the pair after those that are added is added too
pub added_at : (pairs : List (Bor (List ℕ))) (i : ℕ) (d : Bor (List ℕ)) (old mid new : List Share) → i < length pairs
    → AddsEach old (take i (texts pairs)) mid → Adds mid (share_named (slice_index_or pairs i d).now) (Ok tt) new
    → AddsEach old (take (suc i) (texts pairs)) new
added_at [] i d old mid new lt all h = absurd (omega arith)
added_at (pair ∷ pairs) zero d old mid new lt all h = (new, subst (λ groups. Adds groups (share_named pair.now) (Ok tt) new) all h, refl)
added_at (pair ∷ pairs) (suc i) d old mid new lt (next, first, others) h = (next, first, added_at pairs i d next mid new (omega arith) others h)

-- a refusal changes nothing
refused_alike : (old new : List Share) (share : Option Share) (refusal : Refusal) → Adds old share (Err refusal) new → Adds old share (Err refusal) old
refused_alike old new None refusal h = (h.0, refl)
refused_alike old new (Some share) NoShare h = h
refused_alike old new (Some share) Twice h = (h.0, refl)
refused_alike old new (Some share) Ninth h = (h.0, h.1, refl)

-- the pair after those that are added is refused
pub refused_at : (pairs : List (Bor (List ℕ))) (i : ℕ) (d : Bor (List ℕ)) (old mid new : List Share) (refusal : Refusal) → i < length pairs
    → AddsEach old (take i (texts pairs)) mid → Adds mid (share_named (slice_index_or pairs i d).now) (Err refusal) new
    → RefusesOne old (texts pairs) refusal
refused_at [] i d old mid new refusal lt all h = absurd (omega arith)
refused_at (pair ∷ pairs) zero d old mid new refusal lt all h =
    inl (subst (λ groups. Adds groups (share_named pair.now) (Err refusal) groups) all (refused_alike mid new (share_named pair.now) refusal h))
refused_at (pair ∷ pairs) (suc i) d old mid new refusal lt (next, first, others) h =
    inr (next, first, refused_at pairs i d next mid new refusal (omega arith) others h)
