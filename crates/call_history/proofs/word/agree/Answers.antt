use Rattle.std.proofs.Common.{◌≡◌, ◌⊎◌, ◌≤◌, length, arith, sym, ap, ◌∙◌, subst}
use mathlib.Core.List.{IsPrefix}
use Rattle.atomic_table.specs.Table.{Me}
use Rattle.call_history.specs.declared.word.HistoryView.{HistoryView}
use Rattle.call_history.specs.Rule.{caller, caller_of}
use Rattle.call_history.proofs.Moves.{meets, compares, both, one_of, met_own}
use Rattle.call_history.proofs.word.agree.Goals as goal

pub join_seat-requires : goal.join_seat-requires
join_seat-requires g c = (c.requires.word.1, c.requires.other.0, c.requires.other.1, omega arith, meets _ _ _ _)

pub load-requires : goal.load-requires
load-requires g c = (c.join_seat.ensures.0 ∙ c.requires.word.1, omega arith, compares _ _ _)

pub returns : goal.returns
returns g c =
    let v = c.args.pass.now.me.0 in
    let w = c.args.other.me.0 in
    let joined = c.join_seat.ensures.2 in
    let told = c.load.ensures.2 in
    let known = told.0 ∙ ap (λ (m : Me (Unit {0}) (HistoryView g.row.E.Denot)). (caller (caller_of m.0), m.1)) joined in
    let compared = subst (λ (u : HistoryView g.row.E.Denot). length u.other ≤ length u.calls → IsPrefix u.other u.calls) (ap (λ (m : Me (Unit {0}) (HistoryView g.row.E.Denot)). m.0) joined) told.1 in
    let begin = both v w compared in
    let calls = sym (ap (λ (m : Me (Unit {0}) (HistoryView g.row.E.Denot)). m.0.calls) known) in
    record {
      same = c.load.ensures.0 ∙ c.join_seat.ensures.0;
      known = known;
      one = subst (λ l. (l ≡ v.calls) ⊎ (l ≡ w.calls)) calls (one_of v w);
      mine = subst (IsPrefix v.calls) calls begin.0;
      others = subst (IsPrefix w.calls) calls begin.1;
      own = ap (λ (m : Me (Unit {0}) (HistoryView g.row.E.Denot)). m.0.own) known ∙ met_own v w _;
    }
