use Rattle.member_window.specs.Contents.{new_contents}
use Rattle.std.proofs.Common.{[]}
use Rattle.member_window.specs.Marks.{window_down}
use Rattle.member_window.specs.Runs.{transcript_of}
use Rattle.member_window.proofs.Legality.{legal_within}
use Rattle.member_window.proofs.Law.{legal_transcript, retired_after_all}
use Rattle.member_window.proofs.laws.window_law.Goals as goal

pub returns-clause-legal : goal.returns-clause-legal
returns-clause-legal g c calls w made = legal_transcript calls w made

pub returns-clause-ending : goal.returns-clause-ending
returns-clause-ending g c calls w made = retired_after_all new_contents w calls made

pub returns-clause-within_quota : goal.returns-clause-within_quota
returns-clause-within_quota g c calls w made = legal_within (window_down []) (transcript_of calls) (legal_transcript calls w made)
