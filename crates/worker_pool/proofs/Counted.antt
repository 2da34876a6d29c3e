-- What the counts of connections add up to.
use Rattle.std.proofs.Common.{◌≡◌, ℕ, ◌+◌, ◌<◌, List, [], ◌∷◌, length, map, sum_by, refl, arith}
use Rattle.std.proofs.Math.Nat.{min-eq_left}
use Rattle.std.proofs.lemmas.List.Sums.{sum_by-cons}
use Rattle.conn_service.specs.declared.served.Served.{Served}
use Rattle.conn_service.specs.declared.served.Served.TheVariants.{Ended, Read, Write, Memory, NoCrossing, Stalled}
use Rattle.worker_connections.specs.declared.served.ServedCounts.{ServedCounts}
use Rattle.worker_connections.specs.Counting.{raised, counted, counts_of, total}
use Rattle.worker_pool.specs.Pools.{total_in}

raises : (count : ℕ) → count < 18446744073709551615 → raised count ≡ count + 1
raises count few = min-eq_left (omega arith)

-- one more is counted
one_more : (how : Served) (counts : ServedCounts) → total counts < 18446744073709551615 → total (counted how counts) ≡ total counts + 1
one_more Ended counts few = let e = raises counts.ended (omega arith) in omega (arith, e)
one_more Read counts few = let e = raises counts.read (omega arith) in omega (arith, e)
one_more Write counts few = let e = raises counts.write (omega arith) in omega (arith, e)
one_more Memory counts few = let e = raises counts.memory (omega arith) in omega (arith, e)
one_more NoCrossing counts few = let e = raises counts.no_crossing (omega arith) in omega (arith, e)
one_more Stalled counts few = let e = raises counts.stalled (omega arith) in omega (arith, e)

-- the counts of so many endings add up to so many
of_one : (endings : List Served) → length endings < 18446744073709551616 → total (counts_of endings) ≡ length endings
of_one [] few = refl
of_one (how ∷ rest) few =
    let before = of_one rest (omega arith) in
    let more = one_more how (counts_of rest) (omega (arith, before)) in
    omega (arith, before, more)

pub of_all : (endings : List (List Served)) → sum_by length endings < 18446744073709551616 → total_in (map counts_of endings) ≡ sum_by length endings
of_all [] few = refl
of_all (first ∷ rest) few =
    let whole = sum_by-cons {X = List Served} length first rest in
    let mine = of_one first (omega (arith, whole)) in
    let others = of_all rest (omega (arith, whole)) in
    let counts = sum_by-cons {X = ServedCounts} total (counts_of first) (map counts_of rest) in
    omega (arith, whole, mine, others, counts)
