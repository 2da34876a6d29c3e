-- The gate's law, kept by a step of each kind, and so by every schedule.
use Rattle.std.proofs.Common.{◌≡◌, ℕ, ◌≤◌, refl, true, List, [], ◌∷◌, ◌++◌, sym, ap, subst}
use Rattle.std.specs.Prelude.{◌==◌}
use Rattle.std.proofs.lemmas.List.{append-nil}
use mathlib.Core.Option.{some}
use lib.ListN.{get_elem?}
use Rattle.atomic_table.proofs.Lists.{set_again}
use Rattle.gate_word.specs.declared.step.GateView.{GateView}
use Rattle.gate_word.specs.Steps.{is_shut}
use Rattle.gate_word.specs.Seats.{adds, all_seats, token}
use Rattle.gate_word.specs.GateLaw.{GateLaw}
use Rattle.gate_word.specs.Kinds.{Kind, May, word_after, views_after}
use Rattle.gate_word.specs.Kinds.Kind.{Cut, Enter, Bounce, TakeOff, Leave, SetBit, LookDrained, Look, Witness}
use Rattle.gate_word.specs.Schedules.{Reaches}
use Rattle.gate_word.specs.Schedules.Reaches.{opened, made}
use Rattle.atomic_table.specs.Table.{opening}
use Rattle.gate_word.specs.Rule.{HasPast}
use Rattle.gate_word.proofs.Keeps.{bit-add, bit-sub, bit-shut, shut_again, has_two, keeps_enter, keeps_bounce, keeps_take_off, keeps_leave, keeps_shut, keeps_look}
use Rattle.gate_word.proofs.Grows.{opens, keeps_cut, keeps_token}

-- no new view
alone : (seats word : ℕ) (views : List GateView) → GateLaw seats word views → GateLaw seats word (views ++ [])
alone seats word views law = subst (GateLaw seats word) (sym (append-nil views)) law

module _ (seats word : ℕ) (views : List GateView) (place : ℕ) (v : GateView) (law : GateLaw seats word views) (at : get_elem? views place ≡ some v) where
  pub keeps_kind : (kind : Kind) → May kind word v → GateLaw seats (word_after kind word) (views_after kind word views place v)
  keeps_kind Cut may = keeps_cut seats word views place v law at may.1 may.0
  keeps_kind Enter may = alone _ _ _ (keeps_enter seats word views place v law at may.1 may.0 may.2)
  keeps_kind Bounce may = alone _ _ _ (keeps_bounce seats word views place v law at may.1 may.0)
  keeps_kind TakeOff may = alone _ _ _ (keeps_take_off seats word views place v law at may)
  keeps_kind Leave may = alone _ _ _ (keeps_leave seats word views place v law at may)
  keeps_kind SetBit may = alone _ _ _ (keeps_shut seats word views place v law at may)
  keeps_kind LookDrained may = alone _ _ _ (keeps_look seats word views place v law at)
  keeps_kind Look may = alone _ _ _ (keeps_look seats word views place v law at)
  keeps_kind Witness may =
      subst (λ (same : List GateView). GateLaw seats word (same ++ token v.seats ∷ [])) (sym (set_again views place v at)) (keeps_token seats word views place v law at may)

  -- no step opens a shut gate
  pub stays_shut : (kind : Kind) → May kind word v → is_shut word ≡ true → is_shut (word_after kind word) ≡ true
  stays_shut Cut may shut = shut
  stays_shut Enter may shut = shut_again word _ (bit-add word) shut
  stays_shut Bounce may shut = shut_again word _ (bit-add word) shut
  stays_shut TakeOff may shut = shut_again word _ (bit-sub word (has_two seats word views place v law at (ap adds may))) shut
  stays_shut Leave may shut = shut_again word _ (bit-sub word (has_two seats word views place v law at (ap adds may))) shut
  stays_shut SetBit may shut = ap (λ (bit : ℕ). bit == 1) (bit-shut word)
  stays_shut LookDrained may shut = shut
  stays_shut Look may shut = shut
  stays_shut Witness may shut = shut

pub schedule_keeps : (seats word : ℕ) (views : List GateView) → Reaches seats word views → GateLaw seats word views
schedule_keeps seats word views (opened few) = opens seats few
schedule_keeps seats word views (made kind place v before at may) = keeps_kind seats _ _ place v (schedule_keeps seats _ _ before) at kind may

pub starts : (seats : ℕ) → seats ≤ 80 → HasPast seats (opening (0 ∷ []) [] (all_seats seats))
starts seats few = (0, refl, opened few)
