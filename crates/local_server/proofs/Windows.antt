-- Where the transcript of a session leads, its window is.
use Rattle.std.proofs.Common.{◌≡◌, ℕ, ◌≤◌, false, List, [], ◌∷◌, ◌++◌, length, Option, Some, None, Ok, Err, MatchOption, IsSome, refl, sym, ap, subst, ◌∙◌}
use Rattle.std.specs.List.{AllByRecursion}
use Rattle.std.specs.Option.{is_some}
use Rattle.std.proofs.lemmas.Bool.{false≢true}
use Rattle.group_jobs.specs.Stamps.{Held}
use Rattle.member_window.specs.Contents.{Contents, new_contents, held_of, after_up, after_down, IsDown, IsSound}
use Rattle.member_window.specs.Identifiers.{identifiers}
use Rattle.member_window.specs.Marks.{Mark, WindowState, window_down, window_after, window_after_all}
use Rattle.member_window.specs.Marks as marks
use Rattle.member_window.specs.Transcript.{IsLegal, IsLegalFrom}
use Rattle.member_window.specs.Calls.{Call, Up, Down, Put, NextResend, Ack, TakeFirst, Restore, IsAllowed, Makes}
use Rattle.member_window.specs.Runs.{MakesAll, marks_of, transcript_of, window_state}
use Rattle.member_window.proofs.Sound.{sound_new}
use Rattle.member_window.proofs.Legality.{legal_append}
use Rattle.member_window.proofs.Law.{sound_after_all, legal_calls, window_after_calls}
use Rattle.conn_laws.specs.Marks.{IsWithin}

-- a transcript is legal, and the window of its session stands where it leads
pub record Leads (told : List (Mark Held)) (w : Contents Held) : Type 0 where
  pub legal : IsLegal [] told
  pub stands : window_after_all (window_down []) told ≡ window_state w
  pub sound : IsSound w
  pub goes_on : w.retired ≡ false

-- a connection is up, and the session is not ending
abbrev pub IsUp : Contents Held → Type 0
IsUp w = IsSome w.quota × (w.retired ≡ false)

pub leads_new : Leads [] new_contents
leads_new = record { legal = tt; stands = refl; sound = sound_new; goes_on = refl }

pub window_after_append : (s : WindowState Held) (before behind : List (Mark Held)) → window_after_all s (before ++ behind) ≡ window_after_all (window_after_all s before) behind
window_after_append s [] behind = refl
window_after_append s (mark ∷ before) behind = window_after_append (window_after s mark) before behind

-- the calls of its window add their marks
pub leads_on : (told : List (Mark Held)) (w w' : Contents Held) (calls : List (Call Held)) → Leads told w → MakesAll w calls w' → w'.retired ≡ false
    → Leads (told ++ transcript_of calls) w'
leads_on told w w' calls leads made stays =
    record {
      legal =
          legal_append (window_down []) told (transcript_of calls) leads.legal
          (subst (λ (s : WindowState Held). IsLegalFrom s (transcript_of calls)) (sym leads.stands) (legal_calls w w' calls leads.sound leads.goes_on made));
      stands =
          window_after_append (window_down []) told (transcript_of calls) ∙ ap (λ (s : WindowState Held). window_after_all s (transcript_of calls)) leads.stands
          ∙ window_after_calls w w' calls stays made;
      sound = sound_after_all w w' calls leads.sound made;
      goes_on = stays;
    }

-- marks between the beginning and the end of a connection
first_within : (these those : List (Mark Held)) → AllByRecursion IsWithin (these ++ those) → AllByRecursion IsWithin these × AllByRecursion IsWithin those
first_within [] those all = (tt, all)
first_within (mark ∷ these) those all = let rest = first_within these those all.1 in ((all.0, rest.0), rest.1)

-- a call between them leaves the connection up
stays : (old mid : Contents Held) → mid ≡ old → IsUp old → IsUp mid
stays old mid same up = subst IsUp (sym same) up

stays_up_once : (call : Call Held) (old mid : Contents Held) → IsUp old → AllByRecursion IsWithin (marks_of call) → IsAllowed old call → Makes old call mid → IsUp mid
stays_up_once (Up receive_maximum) old mid up within may made = absurd within.0
stays_up_once Down old mid up within may made = absurd within.0
stays_up_once (Put item (Ok identifier)) old mid up within may made = subst IsUp (sym made.2) up
stays_up_once (Put item (Err back)) old mid up within may made = stays old mid made.2 up
stays_up_once (NextResend (Some entry)) old mid up within may made = subst IsUp (sym made.1) up
stays_up_once (NextResend None) old mid up within may made = stays old mid made.1 up
stays_up_once (Ack identifier code (Some item)) old mid up within may made = subst IsUp (sym made.1) up
stays_up_once (Ack identifier code None) old mid up within may made = stays old mid made.1 up
stays_up_once (TakeFirst answer) old mid up within may made = absurd (false≢true (sym (ap is_some may) ∙ up.0))
stays_up_once (Restore identifier item) old mid up within may made = absurd (false≢true (sym up.1 ∙ may.retired))

pub stays_up : (calls : List (Call Held)) (old new : Contents Held) → IsUp old → AllByRecursion IsWithin (transcript_of calls) → MakesAll old calls new → IsUp new
stays_up [] old new up within made = stays old new made up
stays_up (call ∷ calls) old new up within made =
    let parts = first_within (marks_of call) (transcript_of calls) within in
    stays_up calls made.1.0 new (stays_up_once call old made.1.0 up parts.0 made.0 made.1.1) parts.1 made.1.2

-- a connection begins, and goes on
pub leads_up : (told : List (Mark Held)) (receive_maximum : ℕ) (w w' : Contents Held) (calls : List (Call Held)) → Leads told w → AllByRecursion IsWithin (transcript_of calls)
    → MakesAll (after_up w receive_maximum) calls w' → Leads (told ++ marks.Up receive_maximum ∷ transcript_of calls) w' × IsUp w'
leads_up told receive_maximum w w' calls leads within made =
    let up = stays_up calls (after_up w receive_maximum) w' (refl, leads.goes_on) within made in
    (leads_on told w w' (Up receive_maximum ∷ calls) leads (leads.goes_on, (after_up w receive_maximum, refl, made)) up.1, up)

-- it ends
pub leads_down : (told : List (Mark Held)) (w : Contents Held) → Leads told w → Leads (told ++ marks.Down ∷ []) (after_down w)
leads_down told w leads = leads_on told w (after_down w) (Down ∷ []) leads (tt, (after_down w, refl, refl)) leads.goes_on

-- where none is up, an end changes nothing
pub leads_down_again : (told : List (Mark Held)) (w : Contents Held) → Leads told w → IsDown w → Leads told (after_down w)
leads_down_again told w leads down =
    let none : w.owed ≡ [] = subst (λ (o : Option ℕ). MatchOption o (w.owed ≡ []) (λ q. (length w.owed ≤ q) × (q ≤ 256))) down leads.sound.kept in
    record {
      legal = leads.legal;
      stands = leads.stands ∙ (λ i. record { held = held_of w; owed = identifiers (none i); quota = down i });
      sound = sound_after_all w (after_down w) (Down ∷ []) leads.sound (tt, (after_down w, refl, refl));
      goes_on = leads.goes_on;
    }
