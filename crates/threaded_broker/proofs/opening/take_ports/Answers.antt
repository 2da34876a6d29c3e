-- One worker more has its handle.
use Rattle.std.proofs.Common.{◌++◌, ◌∷◌, [], Some, sym, ap, subst, ◌∙◌, rules}
use Rattle.std.proofs.lemmas.List.Elements.{All-pop, All-push, All-same}
use Rattle.broker_groups.specs.Naming.{AreUnsent}
use Rattle.worker_connections.specs.Handles.{IsUnused}
use Rattle.worker_connections.specs.declared.handle.WorkerHandle.{WorkerHandle}
use Rattle.threaded_broker.specs.Callers.{DeskCallerState}
use Rattle.threaded_broker.proofs.opening.take_ports.Goals as goal

pub handles-preserved : goal.handles-preserved
handles-preserved g c =
    let Unused : WorkerHandle g.row.B.Denot g.row.N.Denot g.row.B-Seen.Denot → Type 0 = λ handle. IsUnused handle.ports handle.desk in
    let split = All-pop AreUnsent c.handles.left.items c.pop.new.self.items (Some c.in-Some.ports) c.in-Some.ensures.items c.handles.invariant.left in
    let handle = c.handle_of.result in
    let desk = c.handle_of.ensures.desk ∙ c.share.ensures.new in
    let unused : Unused handle = record {
      none_sent = subst AreUnsent (sym c.handle_of.ensures.ports) split.1;
      none_called = ap (λ (caller : DeskCallerState). caller.own) desk;
      one_part = ap (λ (caller : DeskCallerState). caller.parts) desk;
    } in
    record {
      seats = search rules;
      dealt = search rules;
      taken = search rules;
      enough = search rules;
      room = search rules;
      unused =
          All-same Unused c.push_reserved.new.self.items (c.handles.handles.items ++ handle ∷ []) c.push_reserved.ensures.items
          (All-push Unused c.handles.handles.items handle c.handles.invariant.unused unused);
      caller = search rules;
      parts = search rules;
      enough_parts = search rules;
      left = split.0;
    }
