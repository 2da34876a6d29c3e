-- A sweep that began comes to its end, and after it each connection has its Ticks.
use Rattle.std.proofs.Common.{◌≡◌, ◌<◌, ◌≤◌, ◌+◌, ◌-◌, ℕ, Bool, true, false, List, [], Option, Some, None, refl, sym, ap, ◌∙◌, inl, inr, arith}
use Rattle.std.proofs.lemmas.List.Elements.{All-weaker}
use Rattle.conn_service.specs.declared.served.Round.{Round}
use Rattle.conn_service.specs.declared.served.Round.TheVariants as rounds
use Rattle.conn_service.specs.Services.{ServiceState, Describes}
use Rattle.worker_connections.specs.declared.sweeps.Sweeps.{Sweeps}
use Rattle.worker_connections.specs.Serving.{ConnectionsState, Rounds}
use Rattle.worker_connections.specs.Sweeping.{AreSwept, AreTicked, Begins, HasGone, IfFreshSince, IfTicked, IsInTime, KeepsMoment, Notes, WentOnAt, sweep_period}

-- a sweep that begins has gone over no cell
pub starts : (count : ℕ) (old new : Sweeps) → Begins count old new → HasGone 0 count new
starts count old new (inl none) = inr (omega (arith, none.0), ap (λ (s : Sweeps). s.swept) none.1 ∙ sym (ap (λ (s : Sweeps). s.latest) none.1))
starts count old new (inr some) = inl (omega (arith, some.0), ap (λ (s : Sweeps). s.gone) some.1, ap (λ (s : Sweeps). s.begun) some.1 ∙ sym (ap (λ (s : Sweeps). s.latest) some.1))

-- and goes on from cell to cell
pub goes : (gone count : ℕ) (old new : Sweeps) → gone < count → HasGone gone count old → Notes gone count old new → HasGone (gone + 1) count new
goes gone count old new within (inr whole) notes = absurd (omega (arith, within, whole.0))
goes gone count old new within (inl part) (inl other) = absurd (other.0 (sym part.1))
goes gone count old new within (inl part) (inr (inl more)) =
    inl (more.1, ap (λ (s : Sweeps). s.gone) more.2, ap (λ (s : Sweeps). s.begun) more.2 ∙ part.2 ∙ sym (ap (λ (s : Sweeps). s.latest) more.2))
goes gone count old new within (inl part) (inr (inr last)) =
    inr (last.1, ap (λ (s : Sweeps). s.swept) last.2 ∙ part.2 ∙ sym (ap (λ (s : Sweeps). s.latest) last.2))

-- after the last cell all went on at the worker's moment
pub whole : (count : ℕ) (sweeps : Sweeps) → HasGone count count sweeps → IsInTime sweeps
whole count sweeps (inl part) = absurd (omega (arith, part.0))
whole count sweeps (inr swept) = omega (arith, swept.1)

-- whether a sweep began, or it was in time before
pub ends : (all : Bool) (count : ℕ) (sweeps : Sweeps) → (all ≡ true → HasGone count count sweeps) → (all ≡ false → IsInTime sweeps) → IsInTime sweeps
ends true count sweeps late in_time = whole count sweeps (late refl)
ends false count sweeps late in_time = in_time refl

-- what is in time stays so
pub stays_in_time : (old new : Sweeps) → KeepsMoment old new → IsInTime old → IsInTime new
stays_in_time old new keeps in_time = omega (arith, keeps.latest, keeps.swept, in_time)

-- a note keeps the moment
pub note_keeps : (cell count : ℕ) (old new : Sweeps) → old.swept ≤ old.begun → Notes cell count old new → KeepsMoment old new
note_keeps cell count old new le (inl same) = record { latest = ap (λ (s : Sweeps). s.latest) same.1; begun = ap (λ (s : Sweeps). s.begun) same.1; swept = omega (arith, ap (λ (s : Sweeps). s.swept) same.1) }
note_keeps cell count old new le (inr (inl more)) = record { latest = ap (λ (s : Sweeps). s.latest) more.2; begun = ap (λ (s : Sweeps). s.begun) more.2; swept = omega (arith, ap (λ (s : Sweeps). s.swept) more.2) }
note_keeps cell count old new le (inr (inr last)) = record { latest = ap (λ (s : Sweeps). s.latest) last.2; begun = ap (λ (s : Sweeps). s.begun) last.2; swept = omega (arith, ap (λ (s : Sweeps). s.swept) last.2, le) }

-- rounds after rounds
pub rounds_on : {T : Type 0} (a b c : ConnectionsState T) → Rounds a b → Rounds b c → Rounds a c
rounds_on a b c first then = record {
  stays = then.stays ∙ first.stays;
  keeps = record { latest = then.keeps.latest ∙ first.keeps.latest; begun = then.keeps.begun ∙ first.keeps.begun; swept = omega (arith, first.keeps.swept, then.keeps.swept) };
  count = then.count ∙ first.count;
}

module _ {P T : Type 0} where
  -- who went on at a moment had a Tick not long before it
  told_in_time : (round : Round) (service : ServiceState P T) (moment : ℕ) → Describes round service moment → service.ending ≡ None → service.outgoing ≡ [] → moment - service.ticked < sweep_period
  told_in_time rounds.More service moment told going none = told.2
  told_in_time rounds.Reading service moment told going none = told.3.1
  told_in_time rounds.Writing service moment told going none = absurd (told.1 none)
  told_in_time rounds.Waiting service moment told going none = told.3
  told_in_time (rounds.Ended served) service moment told going none = absurd (cc (told.0, going))

  went_in_time : (service : ServiceState P T) (moment : ℕ) → WentOnAt service moment → service.ending ≡ None → service.outgoing ≡ [] → moment - service.ticked < sweep_period
  went_in_time service moment (inl opened_so) going none = omega (arith, opened_so.2, ap (λ (s : ServiceState P T). s.ticked) opened_so.3)
  went_in_time service moment (inr told) going none = told_in_time told.0 service moment told.1 going none

  ticked_one : (sweeps : Sweeps) (cell : Option (ServiceState P T)) → IsInTime sweeps → IfFreshSince sweeps.swept cell → IfTicked sweeps.latest cell
  ticked_one sweeps None in_time fresh = tt
  ticked_one sweeps (Some service) in_time fresh = λ going none.
      omega (arith, in_time, fresh.1, went_in_time service fresh.0 fresh.2 going none)

  -- each connection that does not wait to write has its Ticks
  pub ticked : (sweeps : Sweeps) (cells : List (Option (ServiceState P T))) → AreSwept sweeps cells → IsInTime sweeps → AreTicked sweeps.latest cells
  ticked sweeps cells are in_time = All-weaker (IfFreshSince sweeps.swept) (IfTicked sweeps.latest) (λ cell fresh. ticked_one sweeps cell in_time fresh) cells are.all
