-- The share of a slot that is known.
use Rattle.std.proofs.Common.{◌∙◌, ◌+◌, List, length, map, set, take, sym, ap, subst, arith}
use Rattle.std.proofs.lemmas.List.{length-map, length-set}
use Rattle.mqtt_topic.specs.Names.{Share}
use Rattle.shared_routes.specs.Cells.{RoutesId, known_of}
use Rattle.shared_routes.specs.Known.{KnownState, AreFirst, PublishesTo}
use Rattle.shared_routes.proofs.Told.{first_first}
use Rattle.shared_routes.proofs.Learning.{state_of, slot_name, told_slot}
use Rattle.shared_routes.proofs.known.KnownRoutes.publish_one.Goals as goal

pub publish-requires : goal.publish-requires
publish-requires c =
    slot_name c.self.inside.cells.items c.other.inside.cells.items c.args.slot c.index_mut.result.now c.index_mut-2.result.now
    (ap (λ (known : KnownState). known.table.cells) c.other.view_is ∙ ap (λ (table : RoutesId). table.cells) c.requires.table ∙ sym (ap (λ (known : KnownState). known.table.cells) c.self.view_is))
    c.index_mut.ensures.value c.index_mut-2.ensures.value (omega (arith, c.self.invariant.1, c.self.invariant.2, length-map c.self.inside.seen.items (λ share. share.now), ap (λ (known : KnownState). length known.shares) c.self.view_is, c.requires.known)) (omega (arith, c.other.invariant.1, c.self.invariant.2, length-map c.self.inside.seen.items (λ share. share.now), ap (λ (known : KnownState). length known.shares) c.self.view_is, c.requires.known))

pub invariant_of-other : goal.invariant_of-other
invariant_of-other c =
    let told = told_slot c.other.inside.new_shares c.self.inside.cells.items c.other.inside.cells.items (map (λ share. share.now) c.self.inside.seen.items) (map (λ share. share.now) c.other.inside.seen.items)
    c.args.slot c.index_mut.result.now c.index_mut-2.result.now c.publish.new.other c.index_mut.ensures.value c.index_mut-2.ensures.value c.publish.ensures.told
    (ap (λ (known : KnownState). known.table.cells) c.other.view_is ∙ ap (λ (table : RoutesId). table.cells) c.requires.table ∙ sym (ap (λ (known : KnownState). known.table.cells) c.self.view_is))
    c.publish.ensures.agreed
    (omega (arith, length-map c.self.inside.seen.items (λ share. share.now), ap (λ (known : KnownState). length known.shares) c.self.view_is, c.requires.known)) (omega (arith, c.other.invariant.1, c.self.invariant.2, length-map c.self.inside.seen.items (λ share. share.now), ap (λ (known : KnownState). length known.shares) c.self.view_is, c.requires.known)) c.self.invariant.0
    (subst (λ (told : List Share). AreFirst (take c.args.slot (map (λ share. share.now) c.self.inside.seen.items)) told) (sym (ap (λ (known : KnownState). known.told) c.other.view_is))
    (subst (λ (shares : List Share). AreFirst (take c.args.slot shares) c.args.other.now.told) (sym (ap (λ (known : KnownState). known.shares) c.self.view_is)) c.requires.told)) in (
      first_first (map (λ share. share.now) c.other.inside.seen.items) (known_of c.other.inside.cells.items) (known_of (set c.other.inside.cells.items c.args.slot c.publish.new.other)) c.other.invariant.0 told.kept,
      omega (arith, c.other.invariant.1, length-set c.other.inside.cells.items c.args.slot c.publish.new.other),
      c.other.invariant.2,
      c.other.invariant.3,
    )

pub returns-clause-told : goal.returns-clause-told
returns-clause-told c =
    let told = told_slot c.other.inside.new_shares c.self.inside.cells.items c.other.inside.cells.items (map (λ share. share.now) c.self.inside.seen.items) (map (λ share. share.now) c.other.inside.seen.items)
    c.args.slot c.index_mut.result.now c.index_mut-2.result.now c.publish.new.other c.index_mut.ensures.value c.index_mut-2.ensures.value c.publish.ensures.told
    (ap (λ (known : KnownState). known.table.cells) c.other.view_is ∙ ap (λ (table : RoutesId). table.cells) c.requires.table ∙ sym (ap (λ (known : KnownState). known.table.cells) c.self.view_is))
    c.publish.ensures.agreed
    (omega (arith, length-map c.self.inside.seen.items (λ share. share.now), ap (λ (known : KnownState). length known.shares) c.self.view_is, c.requires.known)) (omega (arith, c.other.invariant.1, c.self.invariant.2, length-map c.self.inside.seen.items (λ share. share.now), ap (λ (known : KnownState). length known.shares) c.self.view_is, c.requires.known)) c.self.invariant.0
    (subst (λ (told : List Share). AreFirst (take c.args.slot (map (λ share. share.now) c.self.inside.seen.items)) told) (sym (ap (λ (known : KnownState). known.told) c.other.view_is))
    (subst (λ (shares : List Share). AreFirst (take c.args.slot shares) c.args.other.now.told) (sym (ap (λ (known : KnownState). known.shares) c.self.view_is)) c.requires.told)) in
    subst (λ (old : KnownState). PublishesTo old (take (c.args.slot + 1) c.args.self.now.shares)
    (state_of c.other.inside.new_shares (set c.other.inside.cells.items c.args.slot c.publish.new.other) (map (λ share. share.now) c.other.inside.seen.items))) c.other.view_is
    (subst (λ (mine : KnownState). PublishesTo (state_of c.other.inside.new_shares c.other.inside.cells.items (map (λ share. share.now) c.other.inside.seen.items)) (take (c.args.slot + 1) mine.shares)
    (state_of c.other.inside.new_shares (set c.other.inside.cells.items c.args.slot c.publish.new.other) (map (λ share. share.now) c.other.inside.seen.items))) c.self.view_is told)
