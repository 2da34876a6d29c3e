-- One port more was taken in.
use Rattle.std.proofs.Common.{◌≡◌, ◌∷◌, [], append-nil, sym, ap, ◌∙◌, subst, All, arith}
use Rattle.std.specs.Prelude.{map}
use Rattle.std.specs.Vec.Iter.{into_iter_items}
use Rattle.std.proofs.lemmas.List.Elements.{All-tail}
use Rattle.crossbeam_queue.specs.Passes.{view}
use Rattle.group_queue.specs.declared.view.View.{View}
use Rattle.group_queue.specs.Views.{with_entries}
use Rattle.group_queue.specs.Ports.{PortState}
use Rattle.group_queue.specs.Known.{port_entry}
use Rattle.group_queue.proofs.Endings.{takes_in, nothing_left}
use Rattle.group_queue.proofs.ending.join_ports.Goals as goal

pub loop-port-preserved : goal.loop-port-preserved
loop-port-preserved g c =
    let next = c.in-Some.ensures.steps.0 in
    let P : PortState → Type 0 = λ port. port.queue ≡ c.args.queue.now.table.shared.table_id in
    record {
      queue = c.join.ensures.queue;
      ports = All-tail P _ _ (subst (All P) next c.loop-port.invariant.ports);
      all = takes_in (view c.loop-port.pass) (view c.port.inside.pass) _ (port_entry c.in-Some.port) _ _ c.join.ensures.all
          (ap (λ (v : View). v.entries) c.port.invariant.0.sender_is.of ∙ ap (λ p. port_entry p ∷ []) c.port.view_is)
          (subst (λ l. with_entries (view c.loop-port.pass) (map port_entry l) ≡ with_entries (view c.args.pass.now) (map port_entry c.args.ports.items)) next c.loop-port.invariant.all);
    }

pub returns-clause-all : goal.returns-clause-all
returns-clause-all g c =
    let ok = c.loop-port.port-iterator.rest.ok in
    let none = nothing_left (into_iter_items c.loop-port.port-iterator) (omega (arith, ok.0, c.in-None.ensures.steps.0)) in
    let now : View = view c.loop-port.pass in
    ap (λ es. record now { entries = es }) (sym (append-nil now.entries)) ∙ (ap (λ l. with_entries now (map port_entry l)) (sym none) ∙ c.loop-port.invariant.all)
