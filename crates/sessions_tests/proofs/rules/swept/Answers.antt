use Rattle.session_desk.specs.Calls.{Sweep}
use Rattle.sessions_tests.proofs.rules.swept.Goals as goal

pub returns-clause-onward : goal.returns-clause-onward
returns-clause-onward c = c.everywhere_law.ensures.onward (λ _. 0) (Sweep c.args.now c.sweep.result) c.args.desk.now c.sweep.new.self c.sweep.ensures c.requires tt

pub returns-clause-few : goal.returns-clause-few
returns-clause-few c = c.everywhere_law.ensures.out (λ _. 0) (Sweep c.args.now c.sweep.result) c.args.desk.now c.sweep.new.self c.sweep.ensures c.requires tt
