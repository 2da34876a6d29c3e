-- Each call adds its part at the end.
use Rattle.std.proofs.Common.{refl}
use Rattle.group_jobs.specs.Reports.{report_line}
use Rattle.group_jobs.proofs.report.Report.line.Goals as goal

pub returns : goal.returns
unfolding report_line
returns c =
    rw (c.in_ok-push.ensures.items, c.in_ok-push_count-7.ensures, c.in_ok-push_count-6.ensures, c.in_ok-push_count-5.ensures, c.in_ok-push_count-4.ensures, c.in_ok-push_count-3.ensures, c.in_ok-push_count-2.ensures, c.in_ok-push_count.ensures, c.in_ok-line.ensures.items, c.text.ensures.text, c.total.ensures.sum, c.deref.ensures.value, c.len.ensures, c.len-2.ensures, c.len-3.ensures, c.as_slice.ensures.value, c.as_slice-2.ensures.value, c.as_slice-3.ensures.value) refl
