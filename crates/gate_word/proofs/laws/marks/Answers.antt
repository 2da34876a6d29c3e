use Rattle.gate_word.specs.Steps.{is_shut, found_by, is_shutting, finds_drained}
use Rattle.gate_word.proofs.Marks.{refused_mark, shut_mark, drained_mark, mark_stays, kept_out}
use Rattle.gate_word.proofs.laws.marks.Goals as goal

pub returns : goal.returns
returns c = record {
  refused = refused_mark;
  shut = shut_mark;
  drained = drained_mark;
  shut_stays = mark_stays is_shutting;
  found_stays = mark_stays (λ step. is_shut (found_by step));
  drained_stays = mark_stays finds_drained;
  kept_out = kept_out;
}
