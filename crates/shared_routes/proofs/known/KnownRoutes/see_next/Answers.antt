-- The share of the next cell.
use Rattle.std.proofs.Common.{◌≡◌, ◌∙◌, ◌∷◌, [], List, length, map, set, sym, ap, subst, arith}
use Rattle.std.proofs.lemmas.List.{length-map, length-set, map-append, set-get_or}
use Rattle.mqtt_topic.specs.Names.{Share}
use Rattle.shared_routes.specs.Cells.{CellState, known_of}
use Rattle.shared_routes.specs.Known.{KnownState, AreFirst, Learns}
use Rattle.shared_routes.proofs.Learning.{state_of, told_end, told_more, learns_next}
use Rattle.shared_routes.proofs.known.KnownRoutes.see_next.Goals as goal

pub returns-in_err-share : goal.returns-in_err-share
returns-in_err-share c =
    let same : set c.self.inside.cells.items c.len-slot.result c.look.new.self ≡ c.self.inside.cells.items =
    ap (set c.self.inside.cells.items c.len-slot.result) (c.in_err-share.ensures.1 ∙ c.index_mut.ensures.value)
    ∙ set-get_or c.self.inside.cells.items c.len-slot.result c.index_mut.result.now in
    rw c.from_residual.ensures (
      ap (λ cells. state_of c.self.inside.new_shares cells (map (λ share. share.now) c.self.inside.seen.items)) same ∙ c.self.view_is,
      subst (λ (known : KnownState). known.told ≡ known.shares) c.self.view_is
          (told_end c.self.inside.cells.items (map (λ share. share.now) c.self.inside.seen.items) c.len-slot.result c.index_mut.result.now
          (omega (arith, c.len-slot.ensures, length-map c.self.inside.seen.items (λ share. share.now))) c.index_mut.ensures.value
          (omega (arith, c.len-slot.ensures, length-map c.self.inside.seen.items (λ share. share.now), c.requires, ap (λ (known : KnownState). length known.shares) c.self.view_is, c.self.invariant.1))
          c.in_err-share.ensures.0 c.self.invariant.0),
    )

pub invariant_of-self-2 : goal.invariant_of-self-2
invariant_of-self-2 c = (
  subst (λ (shares : List Share). AreFirst shares (known_of (set c.self.inside.cells.items c.len-slot.result c.look.new.self)))
      (sym (map-append (λ share. share.now) c.self.inside.seen.items (c.in_ok-share.share ∷ [])) ∙ sym (ap (map (λ share. share.now)) c.push_reserved.ensures.items))
      (told_more c.self.inside.cells.items (map (λ share. share.now) c.self.inside.seen.items) c.len-slot.result c.look.new.self c.in_ok-share.share.now
      (omega (arith, c.len-slot.ensures, length-map c.self.inside.seen.items (λ share. share.now)))
      (omega (arith, c.len-slot.ensures, length-map c.self.inside.seen.items (λ share. share.now), c.requires, ap (λ (known : KnownState). length known.shares) c.self.view_is, c.self.invariant.1))
      (ap (λ (cell : CellState). cell.share) c.in_ok-share.ensures.0) c.self.invariant.0),
  omega (arith, c.self.invariant.1, length-set c.self.inside.cells.items c.len-slot.result c.look.new.self),
  omega (arith, c.push_reserved.ensures.len, length-map c.self.inside.seen.items (λ share. share.now), c.requires, ap (λ (known : KnownState). length known.shares) c.self.view_is),
  omega (arith, c.push_reserved.ensures.capacity, c.self.invariant.3),
)

pub returns : goal.returns
returns c = (
  subst (λ (old : KnownState). Learns old (c.in_ok-share.share.now ∷ []) (state_of c.self.inside.new_shares (set c.self.inside.cells.items c.len-slot.result c.look.new.self) (map (λ share. share.now) c.push_reserved.new.self.items))) c.self.view_is
      (learns_next c.self.inside.new_shares c.self.inside.cells.items (map (λ share. share.now) c.self.inside.seen.items) (map (λ share. share.now) c.push_reserved.new.self.items) c.len-slot.result
      c.index_mut.result.now c.look.new.self c.in_ok-share.share.now
      c.index_mut.ensures.value (ap (λ (cell : CellState). cell.name) c.in_ok-share.ensures.0) (ap (λ (cell : CellState). cell.share) c.in_ok-share.ensures.0)
      c.in_ok-share.ensures.1
      (ap (map (λ share. share.now)) c.push_reserved.ensures.items ∙ map-append (λ share. share.now) c.self.inside.seen.items (c.in_ok-share.share ∷ []))),
  (invariant_of-self-2 c).0,
)
