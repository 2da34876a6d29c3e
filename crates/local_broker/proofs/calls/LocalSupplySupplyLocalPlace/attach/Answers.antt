use Rattle.std.proofs.Common.{◌≤◌, length, sym, subst}
use Rattle.session_desk.specs.declared.newcomers.Newcomers.TheVariants.{IfRoom}
use Rattle.session_desk.specs.Attaching.{asked}
use Rattle.session_desk.specs.Calls.{Attach}
use Rattle.local_broker.proofs.Desks.{kept, comes_out, ready}
use Rattle.local_broker.proofs.calls.LocalSupplySupplyLocalPlace.attach.Goals as goal

pub invariant_of-self : goal.invariant_of-self
invariant_of-self c =
    let i = c.self.inside in
    let client = c.shared_bytes.result.now in
    let short = subst (λ text. length text ≤ 128) (sym c.shared_bytes.ensures) c.requires.short in
    kept i.desk c.attach.new.self i.routes i.groups.items (Attach (IfRoom 256) (asked c.args.connection client c.args.clean c.args.now) c.attach.result) c.self.invariant (c.requires.known, short) tt c.attach.ensures

pub returns-clause-ready : goal.returns-clause-ready
returns-clause-ready c =
    let i = c.self.inside in
    let request = asked c.args.connection c.shared_bytes.result.now c.args.clean c.args.now in
    ready (IfRoom 256) c.shared_bytes.result.now i.desk c.attach.new.self request c.attach.result c.self.invariant.desk c.attach.ensures
    (comes_out i.desk c.attach.new.self i.routes i.groups.items (Attach (IfRoom 256) request c.attach.result) c.self.invariant tt c.attach.ensures)
