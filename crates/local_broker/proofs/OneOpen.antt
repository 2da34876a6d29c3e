-- Brokers that are alike are both open, or neither; and what a call needs of them they go on to have.
use Rattle.std.proofs.Common.{◌≡◌, suc, not, ◌&&◌, List, [], ◌∷◌, length, refl, sym, arith}
use Rattle.std.specs.List.{list_all}
use Rattle.session_desk.specs.Hands.{DeskLaw}
use Rattle.local_group.specs.Groups.{Group}
use Rattle.conn_laws.specs.Asking.{OneAnswer}
use Rattle.local_broker.specs.Broker.{Broker, is_open}
use Rattle.local_broker.specs.Alike.{AreAlikeInEachSlot, AreAlike}
use Rattle.local_broker.specs.Calls.{Calls, Closes}
use Rattle.local_broker.specs.Histories.Happening.{Called, Closed}
use Rattle.local_broker.proofs.Happened.{law_all_along}
use Rattle.local_broker.proofs.OneAnswer.{one_answer, one_close_of_all}

all_open : (these those : List Group) → AreAlikeInEachSlot these those → list_all (λ group. not group.state.closed) these ≡ list_all (λ group. not group.state.closed) those
all_open [] [] alike = refl
all_open [] (other ∷ those) alike = absurd (let e : 0 ≡ length (other ∷ those) = alike.as_many in omega arith)
all_open (one ∷ these) [] alike = absurd (let e : length (one ∷ these) ≡ 0 = alike.as_many in omega arith)
all_open (one ∷ these) (other ∷ those) alike =
    let first : one.state.closed ≡ other.state.closed = sym (alike.each 0 one other refl refl).state.mark in
    let rest : list_all (λ group. not group.state.closed) these ≡ list_all (λ group. not group.state.closed) those =
    all_open these those (record { as_many = (let e : length (one ∷ these) ≡ length (other ∷ those) = alike.as_many in omega arith); each = λ slot g h there here. alike.each (suc slot) g h there here }) in
    λ i. not (first i) && rest i

pub same_open : (one other : Broker) → AreAlike one other → is_open one ≡ is_open other
same_open one other alike = all_open one.groups other.groups alike.groups

-- alike, and the one keeps the desk law
abbrev pub AreLawful : Broker → Broker → Type 0
AreLawful one other = DeskLaw one.desk.rows one.desk.made × AreAlike one other

pub answers : OneAnswer Calls AreLawful
answers a b a' b' supply_call its alike asks had also h k =
    let one = one_answer a b a' b' alike.1 supply_call its alike.0 asks had also h k in
    (one.0, (law_all_along (Called supply_call ∷ []) a a' alike.0 (a', h, refl), one.1))

pub closes : (a b a' b' : Broker) → AreLawful a b → Closes a a' → Closes b b' → AreLawful a' b'
closes a b a' b' alike h k = (law_all_along (Closed ∷ []) a a' alike.0 (a', h, refl), one_close_of_all a b a' b' alike.1 h k)
