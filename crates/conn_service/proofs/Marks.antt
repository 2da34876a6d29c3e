-- The marks of the steps of a life are legal, one after the other.
use Rattle.std.proofs.Common.{◌≡◌, ◌≢◌, ℕ, false, List, [], ◌∷◌, ◌++◌, Some, None, Ok, Err, IsSome, refl, sym, ap, subst, ◌∙◌}
use Rattle.std.specs.List.{AllByRecursion, flat_map}
use Rattle.std.specs.Option.{is_some}
use Rattle.std.proofs.lemmas.Bool.{false≢true}
use Rattle.mqtt_packet.specs.declared.packet.Packet.{Packet}
use Rattle.group_jobs.specs.Stamps.{Held}
use Rattle.member_window.specs.Contents.{Contents, after_up, after_down, IsSound}
use Rattle.member_window.specs.Marks.{Mark, WindowState, window_after, window_after_all}
use Rattle.member_window.specs.Marks as marks
use Rattle.member_window.specs.Transcript.{IsLegalFrom}
use Rattle.member_window.specs.Calls.{Call, Up, Down, Put, NextResend, Ack, TakeFirst, Restore, IsAllowed, Makes}
use Rattle.member_window.specs.Runs.{MakesAll, marks_of, transcript_of, window_state}
use Rattle.member_window.proofs.Legality.{legal_append}
use Rattle.member_window.proofs.Law.{sound_after_all, legal_calls, window_after_calls}
use Rattle.conn_supply.specs.declared.reply.Then.{Then}
use Rattle.conn_supply.specs.SupplyCalls.{SupplyCall}
use Rattle.conn_engine.specs.declared.input.Input.{Input}
use Rattle.conn_engine.specs.declared.phase.ConnectedClient.{ConnectedClient}
use Rattle.conn_engine.specs.declared.phase.ConnPhase.{ConnPhase}
use Rattle.conn_engine.specs.declared.phase.ConnPhase.TheVariants.{Unconnected, Waiting, Connected, Ended}
use Rattle.conn_laws.specs.Behind.{KeepsOrEnds}
use Rattle.conn_laws.specs.Marks.{IsWithin}
use Rattle.conn_laws.specs.Transcripts.{connected_of, IsNotEnding, SessionBegins, Transcribes}
use Rattle.conn_service.specs.Sessions.{IsNotUp}

-- a transcript is legal from what a window held, and another window stands where it leads
pub record Leads (first : Contents Held) (told : List (Mark Held)) (w : Contents Held) : Type 0 where
  pub legal : IsLegalFrom (window_state first) told
  pub stands : window_after_all (window_state first) told ≡ window_state w
  pub sound : IsSound w
  pub up : IsSome w.quota × (w.retired ≡ false)

window_after_append : (s : WindowState Held) (before behind : List (Mark Held)) → window_after_all s (before ++ behind) ≡ window_after_all (window_after_all s before) behind
window_after_append s [] behind = refl
window_after_append s (mark ∷ before) behind = window_after_append (window_after s mark) before behind

legal_on : (first : Contents Held) (told : List (Mark Held)) (w w' : Contents Held) (calls : List (Call Held)) → IsLegalFrom (window_state first) told
    → window_after_all (window_state first) told ≡ window_state w → IsSound w → w.retired ≡ false → MakesAll w calls w' → IsLegalFrom (window_state first) (told ++ transcript_of calls)
legal_on first told w w' calls legal stands sound goes_on made =
    legal_append (window_state first) told (transcript_of calls) legal
    (subst (λ (s : WindowState Held). IsLegalFrom s (transcript_of calls)) (sym stands) (legal_calls w w' calls sound goes_on made))

leads_by : (first : Contents Held) (told : List (Mark Held)) (w w' : Contents Held) (calls : List (Call Held)) → IsLegalFrom (window_state first) told
    → window_after_all (window_state first) told ≡ window_state w → IsSound w → w.retired ≡ false → MakesAll w calls w' → (IsSome w'.quota × (w'.retired ≡ false))
    → Leads first (told ++ transcript_of calls) w'
leads_by first told w w' calls legal stands sound goes_on made up =
    record {
      legal = legal_on first told w w' calls legal stands sound goes_on made;
      stands =
          window_after_append (window_state first) told (transcript_of calls) ∙ ap (λ (s : WindowState Held). window_after_all s (transcript_of calls)) stands
          ∙ window_after_calls w w' calls up.1 made;
      sound = sound_after_all w w' calls sound made;
      up = up;
    }

-- marks between the beginning and the end of a connection leave it up
first_within : (these those : List (Mark Held)) → AllByRecursion IsWithin (these ++ those) → AllByRecursion IsWithin these × AllByRecursion IsWithin those
first_within [] those all = (tt, all)
first_within (mark ∷ these) those all = let rest = first_within these those all.1 in ((all.0, rest.0), rest.1)

-- a connection has the window, and its session is not ending
abbrev pub IsUp : Contents Held → Type 0
IsUp w = IsSome w.quota × (w.retired ≡ false)

stays_up_once : (call : Call Held) (old mid : Contents Held) → IsUp old → AllByRecursion IsWithin (marks_of call) → IsAllowed old call → Makes old call mid → IsUp mid
stays_up_once (Up receive_maximum) old mid up within may made = absurd within.0
stays_up_once Down old mid up within may made = absurd within.0
stays_up_once (Put item (Ok identifier)) old mid up within may made = subst IsUp (sym made.2) up
stays_up_once (Put item (Err back)) old mid up within may made = subst IsUp (sym made.2) up
stays_up_once (NextResend (Some entry)) old mid up within may made = subst IsUp (sym made.1) up
stays_up_once (NextResend None) old mid up within may made = subst IsUp (sym made.1) up
stays_up_once (Ack identifier code (Some item)) old mid up within may made = subst IsUp (sym made.1) up
stays_up_once (Ack identifier code None) old mid up within may made = subst IsUp (sym made.1) up
stays_up_once (TakeFirst answer) old mid up within may made = absurd (false≢true (sym (ap is_some may) ∙ up.0))
stays_up_once (Restore identifier item) old mid up within may made = absurd (false≢true (sym up.1 ∙ may.retired))

-- after such marks it still has
pub stays_up : (calls : List (Call Held)) (old new : Contents Held) → IsUp old → AllByRecursion IsWithin (transcript_of calls) → MakesAll old calls new → IsUp new
stays_up [] old new up within made = subst IsUp (sym made) up
stays_up (call ∷ calls) old new up within made =
    let parts = first_within (marks_of call) (transcript_of calls) within in
    stays_up calls made.1.0 new (stays_up_once call old made.1.0 up parts.0 made.0 made.1.1) parts.1 made.1.2

abbrev pub joined : List (List (Mark Held)) → List (Mark Held)
joined added = flat_map (λ marks. marks) added

-- what is between the beginning and the end of a connection begins none
not_up : (mark : Mark Held) → IsWithin mark → IsNotUp mark
not_up (marks.Up receive_maximum) within = absurd within
not_up (marks.Sent identifier dup envelope) within = tt
not_up (marks.Acked identifier code) within = tt
not_up marks.Down within = tt

none_up : (these : List (Mark Held)) → AllByRecursion IsWithin these → AllByRecursion IsNotUp these
none_up [] within = tt
none_up (mark ∷ these) within = (not_up mark within.0, none_up these within.1)

module _ {P : Type 0} where
  -- a client that has its session has no other phase than these two
  pub some_keeps : (phase : ConnPhase P) (connected : ConnectedClient P) → connected_of phase ≡ Some connected → KeepsOrEnds phase
  some_keeps (Unconnected opened) connected has = absurd (let n = has in cc)
  some_keeps (Waiting request ticks) connected has = absurd (let n = has in cc)
  some_keeps (Connected its) connected has = tt
  some_keeps Ended connected has = tt

  pub none_is_over : (phase : ConnPhase P) → KeepsOrEnds phase → connected_of phase ≡ None → phase ≡ Ended
  none_is_over (Unconnected opened) keeps none = absurd keeps
  none_is_over (Waiting request ticks) keeps none = absurd keeps
  none_is_over (Connected connected) keeps none = absurd (let n = none in cc)
  none_is_over Ended keeps none = refl

  pub not_ending_none : (phase : ConnPhase P) → connected_of phase ≡ None → IsNotEnding phase
  not_ending_none (Unconnected opened) none = tt
  not_ending_none (Waiting request ticks) none = tt
  not_ending_none (Connected connected) none = absurd (let n = none in cc)
  not_ending_none Ended none = tt

  -- where the marks of a life have led, by how far the connection has come
  abbrev pub LegalAt : Contents Held → List (Mark Held) → ConnPhase P → Type 0
  LegalAt first told (Unconnected opened) = IsLegalFrom (window_state first) told
  LegalAt first told (Waiting request ticks) = IsLegalFrom (window_state first) told
  LegalAt first told (Connected connected) = Leads first told connected.session.window
  LegalAt first told Ended = IsLegalFrom (window_state first) told

  pub legal_at : (first : Contents Held) (told : List (Mark Held)) (phase : ConnPhase P) → LegalAt first told phase → IsLegalFrom (window_state first) told
  legal_at first told (Unconnected opened) legal = legal
  legal_at first told (Waiting request ticks) legal = legal
  legal_at first told (Connected connected) legal = legal.legal
  legal_at first told Ended legal = legal

  pub leads_at : (first : Contents Held) (told : List (Mark Held)) (phase : ConnPhase P) (connected : ConnectedClient P) → connected_of phase ≡ Some connected
      → Leads first told connected.session.window → LegalAt first told phase
  leads_at first told (Unconnected opened) connected has leads = leads.legal
  leads_at first told (Waiting request ticks) connected has leads = leads.legal
  leads_at first told (Connected its) connected has leads =
      let same : its ≡ connected = (let h = has in cc) in
      subst (λ (c : ConnectedClient P). Leads first told c.session.window) (sym same) leads
  leads_at first told Ended connected has leads = leads.legal

  -- a session whose marks are legal so far is not ending
  pub is_going : (first : Contents Held) (told : List (Mark Held)) (phase : ConnPhase P) → LegalAt first told phase → IsNotEnding phase
  is_going first told (Unconnected opened) legal = tt
  is_going first told (Waiting request ticks) legal = tt
  is_going first told (Connected connected) legal = legal.up.1
  is_going first told Ended legal = tt

module _ {S P : Type 0} (call : S → SupplyCall P → S → Type 0) where
  -- a step of a connection that has its session
  pub step_leads : (first : Contents Held) (told : List (Mark Held)) (number moment : ℕ) (phase phase' : ConnPhase P) (input : Input) (packets : List Packet) (next : Then) (supply supply' : S) → phase ≢ Ended
      → KeepsOrEnds phase → KeepsOrEnds phase' → LegalAt first told phase → (step : Transcribes call supply number phase moment input packets next phase' supply')
      → AllByRecursion IsNotUp step.marks × LegalAt first (told ++ step.marks) phase'
  step_leads first told number moment (Unconnected opened) phase' input packets next supply supply' not_over keeps keeps' legal step = absurd keeps
  step_leads first told number moment (Waiting request ticks) phase' input packets next supply supply' not_over keeps keeps' legal step = absurd keeps
  step_leads first told number moment Ended phase' input packets next supply supply' not_over keeps keeps' legal step = absurd (not_over refl)
  step_leads first told number moment (Connected connected) (Unconnected opened) input packets next supply supply' not_over keeps keeps' legal step = absurd keeps'
  step_leads first told number moment (Connected connected) (Waiting request ticks) input packets next supply supply' not_over keeps keeps' legal step = absurd keeps'
  step_leads first told number moment (Connected connected) (Connected connected') input packets next supply supply' not_over keeps keeps' legal step =
      let within = subst (AllByRecursion IsWithin) step.session.marks_are step.session.within in
      let up = stays_up step.session.calls connected.session.window connected'.session.window legal.up within step.session.made in (
        none_up step.marks step.session.within,
        subst (λ (m : List (Mark Held)). Leads first (told ++ m) connected'.session.window) (sym step.session.marks_are)
            (leads_by first told connected.session.window connected'.session.window step.session.calls legal.legal legal.stands legal.sound legal.up.1 step.session.made up),
      )
  step_leads first told number moment (Connected connected) Ended input packets next supply supply' not_over keeps keeps' legal step = (
    subst (AllByRecursion IsNotUp) (sym step.session.marks_are) (tt, tt),
    subst (λ (m : List (Mark Held)). IsLegalFrom (window_state first) (told ++ m)) (sym step.session.marks_are)
        (legal_on first told connected.session.window (after_down connected.session.window) (Down ∷ []) legal.legal legal.stands legal.sound legal.up.1
        (tt, (after_down connected.session.window, refl, refl))),
  )

  -- the marks of the act that gives the session
  pub begins_so : (supply supply' : S) (number : ℕ) (connected : ConnectedClient P) (told : List (Mark Held)) → (begun : SessionBegins call supply number connected told supply') → IsSound begun.session.window
      → begun.session.window.retired ≡ false → Leads begun.session.window told connected.session.window
  begins_so supply supply' number connected told begun sound going =
      let window = begun.session.window in
      let up = stays_up begun.calls (after_up window connected.terms.receive_maximum) connected.session.window (refl, going) begun.within begun.made in
      subst (λ (m : List (Mark Held)). Leads window m connected.session.window) (sym begun.marks_are)
      (leads_by window [] window connected.session.window (Up connected.terms.receive_maximum ∷ begun.calls) (legal_calls window window [] sound going refl) refl sound going
      (going, (after_up window connected.terms.receive_maximum, refl, begun.made)) up)
