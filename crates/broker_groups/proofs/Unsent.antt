-- Nothing was sent through the ports of a broker that was just opened, whoever has them.
use Rattle.std.proofs.Common.{◌≡◌, ◌<◌, ℕ, List, [], ◌∷◌, length, get_or, Some, All, refl, sym, ap, ◌∙◌, arith}
use Rattle.std.specs.Prelude.{sum_by}
use Rattle.std.specs.Global.{Vec}
use Rattle.std.proofs.lemmas.Option.{slice_get-get_or}
use Rattle.std.proofs.lemmas.List.Elements.{All-cons, All-head, All-nil, All-tail}
use Rattle.std.proofs.lemmas.List.Sums.{sum_by-cons}
use Rattle.gate_word.specs.Seats.{GateId}
use Rattle.group_queue.specs.Ports.{GroupId, PortState, AreNewPorts, new_port}
use Rattle.group_queue.specs.Places.{PlaceState}
use Rattle.broker_groups.specs.Naming.{AreUnsent, worth_of_all, worth_of_rows}
use Rattle.broker_groups.specs.Openings.{AreOpened}

-- how many messages were sent through a port
abbrev sent_through : PortState → ℕ
sent_through port = length port.sent

none_is : {A : Type 0} (xs : List A) → length xs ≡ 0 → xs ≡ []
none_is [] none = refl
none_is (x ∷ xs) none = absurd (omega (arith, none))

-- where a sum is 0, so is each of its terms; and where each of them is, so is the sum
terms_none : {A : Type 0} (f : A → ℕ) (xs : List A) → sum_by f xs ≡ 0 → All (λ x. f x ≡ 0) xs
terms_none f [] none = All-nil (λ x. f x ≡ 0)
terms_none {A} f (x ∷ xs) none =
    let whole = sum_by-cons {X = A} f x xs in
    All-cons (λ y. f y ≡ 0) x xs (omega (arith, whole, none)) (terms_none f xs (omega (arith, whole, none)))

sum_none : {A : Type 0} (f : A → ℕ) (xs : List A) → All (λ x. f x ≡ 0) xs → sum_by f xs ≡ 0
sum_none f [] none = refl
sum_none {A} f (x ∷ xs) none =
    let whole = sum_by-cons {X = A} f x xs in
    let rest = sum_none f xs (All-tail (λ y. f y ≡ 0) x xs none) in
    omega (arith, whole, rest, All-head (λ y. f y ≡ 0) x xs none)

-- a list that is not empty has a first element
first_of : {A : Type 0} {k : ℕ} (xs : List A) → k < length xs → A
first_of [] few = absurd (omega (arith, few))
first_of (x ∷ xs) few = x

weaker : {A : Type 0} (P Q : A → Type 0) → ((x : A) → P x → Q x) → (xs : List A) → All P xs → All Q xs
weaker P Q on xs all k d within = on (get_or xs k d) (all k d within)

-- ports that count for nothing sent nothing
pub unsent : (all : List (List PortState)) → worth_of_all sent_through all ≡ 0 → All AreUnsent all
unsent all none =
    weaker (λ (ports : List PortState). sum_by sent_through ports ≡ 0) AreUnsent
    (λ ports zero. weaker (λ (port : PortState). sent_through port ≡ 0) (λ (port : PortState). port.sent ≡ []) (λ port is. none_is port.sent is) ports (terms_none sent_through ports zero))
    all (terms_none (λ (ports : List PortState). sum_by sent_through ports) all none)

-- whoever has ports of which none sent a message
pub dealt : (rows : List (Vec PortState)) (all : List (List PortState)) → All (λ (row : Vec PortState). AreUnsent row.items) rows
    → ((worth : PortState → ℕ) → worth_of_all worth all ≡ worth_of_rows worth rows) → All AreUnsent all
dealt rows all none same =
    unsent all (same sent_through ∙ sum_none (λ (row : Vec PortState). sum_by sent_through row.items) rows
    (weaker (λ (row : Vec PortState). AreUnsent row.items) (λ (row : Vec PortState). sum_by sent_through row.items ≡ 0)
    (λ row its. sum_none sent_through row.items (weaker (λ (port : PortState). port.sent ≡ []) (λ (port : PortState). sent_through port ≡ 0) (λ port is. ap length is) row.items its)) rows none))

-- the new ports of a group did
row_unsent : (group : GroupId) (count : ℕ) (ports : List PortState) → AreNewPorts group count ports → AreUnsent ports
row_unsent group count ports new k d within =
    let is : Some (get_or ports k d) ≡ Some (new_port group k) = sym (slice_get-get_or ports k d within) ∙ new.each k (omega (arith, within, new.all)) in
    let same : get_or ports k d ≡ new_port group k = cc is in
    ap (λ (port : PortState). port.sent) same

-- and so did those of a broker that was opened
pub opened_unsent : (gate : GateId) (capacity workers : ℕ) (groups : List GroupId) (ports : List (Vec PortState)) (places : List (Vec PlaceState))
    → AreOpened gate capacity workers 8 groups ports places → All (λ (row : Vec PortState). AreUnsent row.items) ports
opened_unsent gate capacity workers groups ports places is k d within =
    let few : k < length groups = omega (arith, within, is.ports_many, is.groups_many) in
    let default : GroupId = first_of groups few in
    row_unsent (get_or groups k default) workers (get_or ports k d).items
    (is.ports_each k (get_or groups k default) (get_or ports k d) (slice_get-get_or groups k default few) (slice_get-get_or ports k d within)).new
