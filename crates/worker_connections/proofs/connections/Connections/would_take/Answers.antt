-- The table tells the group of which the client in a cell would be handed a job.
use Rattle.std.proofs.Common.{◌≡◌, ◌≢◌, ◌<◌, Some, None, length, sym, subst, arith}
use Rattle.std.proofs.lemmas.Bool.Decides.{nat_tests}
use Rattle.std.proofs.lemmas.Option.{slice_get-get_or}
use Rattle.worker_connections.specs.Members.{TakesIn}
use Rattle.worker_connections.specs.Serving.{ConnectionsState}
use Rattle.worker_connections.proofs.Wished.{would_take, would_not_take}
use Rattle.worker_connections.proofs.connections.Connections.would_take.Goals as goal

pub returns-in-Some-clause-yes : goal.returns-in-Some-clause-yes
returns-in-Some-clause-yes g c = λ same.
    let within : c.args.cell < length c.self.inside.table = grind (arith, nat_tests) in
    let is : c.in-Some.taken ≡ c.args.slot = grind (arith, nat_tests) in
    subst (λ (s : ConnectionsState g.row.T.Denot). TakesIn c.args.slot c.args.cell s.cells) c.self.view_is
    (would_take c.self.inside.table c.args.cell c.args.slot c.in-Some.taken _ (slice_get-get_or c.self.inside.table c.args.cell None within) c.in-Some.ensures is)

pub returns-in-Some-clause-no : goal.returns-in-Some-clause-no
returns-in-Some-clause-no g c = λ other takes.
    let within : c.args.cell < length c.self.inside.table = grind (arith, nat_tests) in
    let not : c.in-Some.taken ≢ c.args.slot = grind (arith, nat_tests) in
    would_not_take c.self.inside.table c.args.cell c.args.slot (Some c.in-Some.taken) _ (slice_get-get_or c.self.inside.table c.args.cell None within) c.in-Some.ensures
    (λ is. not (cc is))
    (subst (λ (s : ConnectionsState g.row.T.Denot). TakesIn c.args.slot c.args.cell s.cells) (sym c.self.view_is) takes)

pub returns-in-None-clause-no : goal.returns-in-None-clause-no
returns-in-None-clause-no g c = λ same takes.
    let within : c.args.cell < length c.self.inside.table = grind (arith, nat_tests) in
    would_not_take c.self.inside.table c.args.cell c.args.slot None _ (slice_get-get_or c.self.inside.table c.args.cell None within) c.in-None.ensures
    (λ is. cc is)
    (subst (λ (s : ConnectionsState g.row.T.Denot). TakesIn c.args.slot c.args.cell s.cells) (sym c.self.view_is) takes)
