-- The reports so far are those of the answers so far.
use Rattle.std.proofs.Common.{◌≡◌, ◌+◌, ◌≤◌, ◌++◌, map, length, vec_capacity}
use Rattle.std.specs.Vec.Iter.{into_iter_len, into_iter_items}
use Rattle.tcp_server.specs.Lines.{report_of}
use Rattle.tcp_server.proofs.reporting.gather.Given as goal

abbrev pub invariant-answers : goal.invariant-answers
invariant-answers l = record {
  so_far : l.reports.items ++ map report_of (into_iter_items l.answers) ≡ map report_of l.fn.answers.items;
  room : length l.reports.items + length (into_iter_items l.answers) ≤ vec_capacity l.reports;
}

abbrev pub decreases-answers : goal.decreases-answers
decreases-answers l = into_iter_len l.answers
