-- The lines of so many shares.
use Rattle.std.proofs.Common.{◌≡◌, ◌++◌, List, ℕ}
use Rattle.drive.specs.Transcripts.{ReportsFirst}
use Rattle.drive.proofs.transcript.Transcript.report.Given as goal

abbrev pub invariant-slots : goal.invariant-slots
invariant-slots l = (earlier : List ℕ) × (l.self ≡ l.fn.self ++ earlier) × ReportsFirst l.slot l.server.broker earlier
