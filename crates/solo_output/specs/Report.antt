-- The report lines: what became of the messages of each group (profile).
use Rattle.std.specs.Prelude.{ℕ, ◌+◌, ◌-◌, ◌==◌, if◌then◌else◌, List, [], ◌∷◌, ◌++◌, length, count_by, codes}
use Rattle.mqtt_topic.specs.Names.{Share}
use Rattle.group_jobs.specs.Reports.{labelled}
use Rattle.solo_output.specs.Groups.{Bound, HandOut, SoloState, handed_in, open_identifiers, acknowledges, refuses, discards}

-- how many messages of a group have each fate
pub record Fates : Type 0 where
  pub acknowledged : ℕ
  pub refused : ℕ
  pub held : ℕ
  pub queued : ℕ
  pub returned : ℕ
  pub discarded : ℕ

-- Each accepted message is acknowledged, refused, held, queued, returned or discarded: what is unacknowledged at the end of the connection is
-- returned where the session ends with it, and else held (3.1.2.11.2); what the client was not to be sent is discarded (3.1.2.11.4).
abbrev pub counts_of : ℕ → ℕ → List HandOut → Fates
counts_of expiry accepted hand_outs = record {
  acknowledged = count_by (λ hand_out. acknowledges hand_out.outcome) hand_outs;
  refused = count_by (λ hand_out. refuses hand_out.outcome) hand_outs;
  held = if expiry == 0 then 0 else length (open_identifiers hand_outs);
  queued = accepted - length hand_outs;
  returned = if expiry == 0 then length (open_identifiers hand_outs) else 0;
  discarded = count_by (λ hand_out. discards hand_out.outcome) hand_outs;
}

-- the share's text, the counts, and 0A
abbrev pub line_of : Share → ℕ → Fates → List ℕ
line_of share accepted fates =
    share.text ++ labelled (codes " accepted ") accepted ++ labelled (codes " acknowledged ") fates.acknowledged
    ++ labelled (codes " refused ") fates.refused ++ labelled (codes " held ") fates.held ++ labelled (codes " queued ") fates.queued
    ++ labelled (codes " returned ") fates.returned ++ labelled (codes " discarded ") fates.discarded ++ 10 ∷ []

-- the group of this slot
abbrev pub report_of : ℕ → Bound → SoloState → List ℕ
report_of slot group solo =
    line_of group.share (length group.accepted) (counts_of solo.terms.session_expiry_interval (length group.accepted) (handed_in slot solo.handed_out))

-- a line for each of these groups, the first having this slot
abbrev pub reports_from : ℕ → List Bound → SoloState → List ℕ
reports_from slot [] solo = []
reports_from slot (group ∷ groups) solo = report_of slot group solo ++ reports_from (slot + 1) groups solo

abbrev pub reports : SoloState → List ℕ
reports solo = reports_from 0 solo.groups solo
