-- One place more was taken in.
use Rattle.std.proofs.Common.{◌≡◌, ◌++◌, ◌≤◌, append-nil, ap, sym, ◌∙◌, subst, All, refl, length, arith}
use Rattle.std.specs.Prelude.{map, sum_by}
use Rattle.std.specs.Vec.Iter.{into_iter_items}
use Rattle.std.proofs.lemmas.List.Elements.{All-head, All-tail, All-cons, All-nil}
use Rattle.std.proofs.lemmas.List.Sums.{sum_by-append, sum_by-cons}
use Rattle.crossbeam_queue.specs.Passes.{view}
use Rattle.dispatch_core.specs.JobRuns.{count_of}
use Rattle.group_jobs.specs.declared.ledger.Ledger.{Ledger}
use Rattle.group_jobs.specs.Settled.{settled_as}
use Rattle.shared_ledger.specs.Giving.{times_in}
use Rattle.group_queue.specs.declared.view.Bag.{Bag}
use Rattle.group_queue.specs.declared.view.View.{View}
use Rattle.group_queue.specs.declared.view.Name.TheVariants.{Place}
use Rattle.group_queue.specs.Views.{one, with_entries}
use Rattle.group_queue.specs.Returns.{bag_of}
use Rattle.group_queue.specs.Places.{PlaceState, IsBalanced}
use Rattle.group_queue.specs.Known.{place_entry}
use Rattle.group_queue.proofs.Endings.{takes_in, one_more, nothing_left}
use Rattle.group_queue.proofs.ending.join_places.Goals as goal

pub loop-place-preserved : goal.loop-place-preserved
loop-place-preserved g c =
    let next = c.in-Some.ensures.steps.0 in
    let before = c.loop-place.invariant in
    let made = c.join_place-docket.ensures in
    let place = c.in-Some.place in
    let P : PlaceState → Type 0 = λ p. p.hands ≡ record { main = c.args.main.now.table.shared.table_id; returns = c.args.returns.now } in
    let G : PlaceState → Type 0 = λ p. (p.giver.ledger ≡ c.args.ledger.now) × (1 ≤ p.giver.parts) in
    record {
      main = made.main;
      returns = made.returns;
      places = All-tail P _ _ (subst (All P) next before.places);
      names = takes_in (view c.loop-place.passes.main) (one (Place place.number) place.firsts) _ (place_entry place) _ _ made.names refl
          (subst (λ l. with_entries (view c.loop-place.passes.main) (map place_entry l) ≡ with_entries (view c.args.passes.now.main) (map place_entry c.args.places.items)) next before.names);
      parts = omega (arith, before.parts, ap (λ (b : Bag). b.parts) made.parts, ap length next);
      some = omega (arith, before.some, ap (λ (b : Bag). b.parts) made.parts);
      popped = (λ worth. omega (
        arith,
        before.popped worth,
        ap (λ (b : Bag). sum_by worth b.popped) made.parts,
        sum_by-append worth (bag_of c.loop-place.passes.returns).popped place.agains,
        ap (sum_by (λ (p : PlaceState). sum_by worth p.agains)) next ∙ sum_by-cons (λ (p : PlaceState). sum_by worth p.agains) place (into_iter_items c.next.new.self),
      ));
      pushed = (λ worth. omega (
        arith,
        before.pushed worth,
        ap (λ (b : Bag). sum_by worth b.pushed) made.parts,
        sum_by-append worth (bag_of c.loop-place.passes.returns).pushed place.given,
        ap (sum_by (λ (p : PlaceState). sum_by worth p.given)) next ∙ sum_by-cons (λ (p : PlaceState). sum_by worth p.given) place (into_iter_items c.next.new.self),
      ));
      dockets = rw (c.push_reserved.ensures.items, made.docket) (one_more c.loop-place.dockets.items place.docket _ _
          (subst (λ l. c.loop-place.dockets.items ++ map (λ (p : PlaceState). p.docket) l ≡ c.args.dockets.now.items ++ map (λ (p : PlaceState). p.docket) c.args.places.items) next before.dockets));
      balanced = (λ rest. before.balanced (subst (All IsBalanced) (sym next) (All-cons IsBalanced place (into_iter_items c.next.new.self) made.balanced rest)));
      holder = ap (λ h. h.ledger) c.take_in.ensures ∙ before.holder;
      givers = All-tail G _ _ (subst (All G) next before.givers);
      shares = omega (
        arith,
        before.shares,
        ap (λ h. h.parts) c.take_in.ensures,
        ap (λ s. s.parts) made.giver,
        ap (sum_by (λ (p : PlaceState). p.giver.parts)) next ∙ sum_by-cons (λ (p : PlaceState). p.giver.parts) place (into_iter_items c.next.new.self),
      );
      gave = (λ fate job. omega (
        arith,
        before.gave fate job,
        ap (λ h. times_in h.gave fate job) c.take_in.ensures,
        sum_by-append (λ (l : Ledger). count_of job (settled_as fate l)) c.loop-place.holder.gave c.join_place-docket.result.1.gave,
        ap (λ s. times_in s.gave fate job) made.giver,
        ap (sum_by (λ (p : PlaceState). times_in p.giver.gave fate job)) next ∙ sum_by-cons (λ (p : PlaceState). times_in p.giver.gave fate job) place (into_iter_items c.next.new.self),
      ));
      settled = ap (λ h. h.settled) c.take_in.ensures ∙ before.settled;
      room = omega (arith, before.room, ap length next, c.push_reserved.ensures.len, c.push_reserved.ensures.capacity);
    }

pub loop-place-init : goal.loop-place-init
loop-place-init g c = rw c.into_iter-place-iterator.ensures.into_iter_gives.0 (record {
  main = c.requires.main;
  returns = c.requires.returns;
  places = c.requires.places;
  names = refl;
  parts = refl;
  some = c.requires.parts;
  popped = (λ worth. refl);
  pushed = (λ worth. refl);
  dockets = refl;
  balanced = (λ all. all);
  holder = refl;
  givers = c.requires.givers;
  shares = refl;
  gave = (λ fate job. refl);
  settled = refl;
  room = c.requires.room;
})

pub returns-clause-balanced : goal.returns-clause-balanced
returns-clause-balanced g c =
    let ok = c.loop-place.place-iterator.rest.ok in
    c.loop-place.invariant.balanced (subst (All IsBalanced) (sym (nothing_left (into_iter_items c.loop-place.place-iterator) (omega (arith, ok.0, c.in-None.ensures.steps.0)))) (All-nil IsBalanced))

pub take_in-requires-clause-of : goal.take_in-requires-clause-of
take_in-requires-clause-of g c =
    let G : PlaceState → Type 0 = λ p. (p.giver.ledger ≡ c.args.ledger.now) × (1 ≤ p.giver.parts) in
    let here = All-head G _ _ (subst (All G) c.in-Some.ensures.steps.0 c.loop-place.invariant.givers) in
    (c.loop-place.invariant.holder ∙ c.requires.holder, ap (λ s. s.ledger) c.join_place-docket.ensures.giver ∙ here.0)

pub take_in-requires-clause-parts : goal.take_in-requires-clause-parts
take_in-requires-clause-parts g c =
    let G : PlaceState → Type 0 = λ p. (p.giver.ledger ≡ c.args.ledger.now) × (1 ≤ p.giver.parts) in
    let here = All-head G _ _ (subst (All G) c.in-Some.ensures.steps.0 c.loop-place.invariant.givers) in
    omega (arith, here.1, ap (λ s. s.parts) c.join_place-docket.ensures.giver)

pub returns-clause-givers : goal.returns-clause-givers
returns-clause-givers g c =
    let ok = c.loop-place.place-iterator.rest.ok in
    let none = nothing_left (into_iter_items c.loop-place.place-iterator) (omega (arith, ok.0, c.in-None.ensures.steps.0)) in
    let last = c.loop-place.invariant in
    record {
      of = last.holder;
      parts_are = omega (arith, last.shares, ap (sum_by (λ (p : PlaceState). p.giver.parts)) none);
      gave_are = (λ fate job. omega (arith, last.gave fate job, ap (sum_by (λ (p : PlaceState). times_in p.giver.gave fate job)) none));
      settled_is = last.settled;
    }

pub returns-clause-names : goal.returns-clause-names
returns-clause-names g c =
    let ok = c.loop-place.place-iterator.rest.ok in
    let none = nothing_left (into_iter_items c.loop-place.place-iterator) (omega (arith, ok.0, c.in-None.ensures.steps.0)) in
    let now : View = view c.loop-place.passes.main in
    ap (λ es. record now { entries = es }) (sym (append-nil now.entries)) ∙ (ap (λ l. with_entries now (map place_entry l)) (sym none) ∙ c.loop-place.invariant.names)

pub returns-clause-dockets : goal.returns-clause-dockets
returns-clause-dockets g c =
    let ok = c.loop-place.place-iterator.rest.ok in
    let none = nothing_left (into_iter_items c.loop-place.place-iterator) (omega (arith, ok.0, c.in-None.ensures.steps.0)) in
    let now = c.loop-place.dockets.items in
    sym (append-nil now) ∙ (ap (λ l. now ++ map (λ (p : PlaceState). p.docket) l) (sym none) ∙ c.loop-place.invariant.dockets)
