-- Which places there are after some calls: one call, calls one after the other, and calls beside which there are other places.
use Rattle.std.proofs.Common.{List, [], ◌∷◌, ◌++◌, refl, arith}
use Rattle.std.proofs.lemmas.List.Sums.{sum_by-append}
use Rattle.std.specs.List.{sum_by}
use Rattle.conn_supply.specs.SupplyCalls.{SupplyCall}
use Rattle.conn_laws.specs.Places.{places_brought, places_taken, KeepsPlaces}

module _ {P : Type 0} where
  pub kept_by_none : (places : List P) → KeepsPlaces places [] places
  kept_by_none places measure = refl

  -- a call takes its places, and brings its places
  pub kept_by_one : (supply_call : SupplyCall P) → KeepsPlaces (places_taken supply_call) (supply_call ∷ []) (places_brought supply_call)
  kept_by_one supply_call measure = omega arith

  pub kept_by_both : (before between after : List P) (these those : List (SupplyCall P)) → KeepsPlaces before these between → KeepsPlaces between those after → KeepsPlaces before (these ++ those) after
  kept_by_both before between after these those first last measure =
      let one = first measure in
      let other = last measure in
      rw (sum_by-append (λ (supply_call : SupplyCall P). sum_by measure (places_brought supply_call)) these those, sum_by-append (λ (supply_call : SupplyCall P). sum_by measure (places_taken supply_call)) these those)
      (omega arith)

  -- there are others after these places, or before them, to which nothing happens
  pub kept_beside : (others before after : List P) (supply_calls : List (SupplyCall P)) → KeepsPlaces before supply_calls after → KeepsPlaces (before ++ others) supply_calls (after ++ others)
  kept_beside others before after supply_calls keeps measure =
      let same = keeps measure in
      rw (sum_by-append measure before others, sum_by-append measure after others) (omega arith)

  pub kept_behind : (others before : List P) (supply_calls : List (SupplyCall P)) → KeepsPlaces before supply_calls [] → KeepsPlaces (others ++ before) supply_calls others
  kept_behind others before supply_calls keeps measure =
      let same = keeps measure in
      rw (sum_by-append measure others before) (omega arith)
