-- One report less.
use Rattle.std.proofs.Common.{◌≡◌, ◌⊎◌, ◌∷◌, Result, Err, IfErr, sym, subst}
use Rattle.text_io.specs.declared.error.RunError.{RunError}
use Rattle.text_io.specs.declared.error.RunError.TheVariants.{Memory, Unfinished}
use Rattle.group_queue.specs.declared.error.FinishError.{FinishError}
use Rattle.tcp_server.specs.Lines.{EndsBy}
use Rattle.tcp_server.proofs.Ends.{without_more}
use Rattle.tcp_server.proofs.reporting.end_without.Goals as goal

pub returns-in-Err-clause-ends : goal.returns-in-Err-clause-ends
returns-in-Err-clause-ends c =
    λ reports ends.
    let error = c.in-Err.error in
    let cause = subst (λ (others : Result (Unit {0}) RunError). IfErr others (λ e. (e ≡ Memory) ⊎ (e ≡ Unfinished))) c.in-Err.is c.requires in
    subst (λ (refusal : FinishError). EndsBy {X = Unit {0}} (Err error) (Err refusal ∷ reports)) (sym c.in-Memory.is)
    (without_more error reports cause (subst (λ (others : Result (Unit {0}) RunError). EndsBy others reports) c.in-Err.is ends))
