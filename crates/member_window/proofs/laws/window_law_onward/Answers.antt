use Rattle.member_window.proofs.Sound.{sound_new}
use Rattle.member_window.proofs.Law.{sound_after_all, legal_calls, legal_from_down, window_after_calls}
use Rattle.member_window.proofs.laws.window_law_onward.Goals as goal

pub returns-clause-first : goal.returns-clause-first
returns-clause-first g c = sound_new

pub returns-clause-sound : goal.returns-clause-sound
returns-clause-sound g c old new calls sound made = sound_after_all old new calls sound made

pub returns-clause-legal : goal.returns-clause-legal
returns-clause-legal g c old new calls sound was made = legal_calls old new calls sound was made

pub returns-clause-legal_from_down : goal.returns-clause-legal_from_down
returns-clause-legal_from_down g c old new calls sound was down made = legal_from_down old new calls sound was down made

pub returns-clause-window : goal.returns-clause-window
returns-clause-window g c old new calls stays made = window_after_calls old new calls stays made
