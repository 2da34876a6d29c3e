use Rattle.std.proofs.Common.{◌≡◌, List, ◌∷◌, All, sym, subst}
use Rattle.std.proofs.lemmas.List.Elements.{All-tail}
use Rattle.dispatch_core.specs.declared.runs.Run.{Run}
use Rattle.dispatch_core.specs.JobRuns.{IsFilled}
use Rattle.dispatch_core.proofs.walks.JobsIterator.next.Goals as goal
use Rattle.dispatch_core.proofs.walks.JobsIterator.next.Goals.{in-Some, in-None+in_ok-run-in-None}

filled_behind : (runs : List Run) (run : Run) (rest : List Run) → runs ≡ run ∷ rest → All IsFilled runs → All IsFilled rest
filled_behind runs run rest is filled = All-tail IsFilled run rest (subst (All IsFilled) is filled)

pub invariant_of-self-2 : goal.invariant_of-self-2
invariant_of-self-2 c =
    record {
      begun_filled = c.behind_first-self-inside.ensures.begun;
      filled = elim c.match-self.branch [
        | in-Some w ↦ subst (λ i. All IsFilled i.runs) (sym w.self-inside-is) c.self.invariant.filled
        | in-None+in_ok-run-in-None w ↦ subst (λ i. All IsFilled i.runs) (sym w.self-inside-is) (filled_behind _ _ _ w.in_ok-run-in-None.ensures.steps c.self.invariant.filled)
      ];
    }
