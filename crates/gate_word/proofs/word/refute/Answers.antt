use Rattle.std.proofs.Common.{◌≡◌, true, ap, ◌∙◌, arith}
use Rattle.atomic_table.specs.Table.{Me}
use Rattle.gate_word.specs.declared.step.GateView.{GateView}
use Rattle.gate_word.specs.Steps.{saw_drained}
use Rattle.gate_word.proofs.Moves.{clashes, never}
use Rattle.gate_word.proofs.word.refute.Goals as goal

pub join_seat-requires : goal.join_seat-requires
join_seat-requires c =
    let drained = c.args.drained in
    let saw : saw_drained drained.me.0.steps ≡ true = ap (λ (me : Me (Unit {0}) GateView). saw_drained me.0.steps) c.requires.drained.1 in (
      c.requires.turn.0.1,
      c.requires.drained.0.1,
      ap (λ me. me.1) c.requires.drained.1,
      omega arith,
      clashes _ _ _ _ drained.me.0 c.requires.turn.1 saw,
    )

pub load-requires : goal.load-requires
load-requires c = (
  c.join_seat.ensures.0 ∙ c.requires.turn.0.1,
  omega arith,
  never _ _ _ _ c.args.turn.now.me.0 c.args.drained.me.0 (λ n. n) (λ _ _. ⊥) c.requires.turn.1 (ap (λ me. me.0) c.join_seat.ensures.2),
)
