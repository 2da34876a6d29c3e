-- What holds of the entries of a window.
use Rattle.std.proofs.Common.{ℕ, ◌≤◌, ◌<◌, length, Some, All, subst}
use Rattle.std.proofs.Math.Seq.{drop-append_seam}
use Rattle.std.proofs.lemmas.List.Elements.{All-drop, All-head}
use Rattle.group_jobs.specs.Stamps.{Held}
use Rattle.member_window.specs.Contents.{Contents, held_of, IsNextResend, IsSound}

abbrev IsInRange : ℕ × Held → Type 0
IsInRange entry = (1 ≤ entry.0) × (entry.0 ≤ 256)

-- the packet identifier of what is sent again is not 0
pub resent_in_range : (w : Contents Held) (entry : ℕ × Held) → IsSound w → IsNextResend w (Some entry) → 0 < entry.0
resent_in_range w entry sound next =
    let waiting : All IsInRange w.waiting = subst (All IsInRange) (drop-append_seam w.owed w.waiting) (All-drop IsInRange (length w.owed) (held_of w) sound.entries.in_range) in
    (All-head IsInRange entry next.1.0 (subst (All IsInRange) next.1.1 waiting)).0
