-- What the bits say of the entries, what a search of the entries answers, and that each change of them keeps their order.
use Rattle.std.proofs.Common.{◌≡◌, ◌≢◌, ◌⊎◌, ℕ, zero, suc, ◌+◌, ◌-◌, ◌<◌, ◌≤◌, ◌==◌, not, cond, List, [], ◌∷◌, ◌++◌, length, Option, Some, None, MatchOption, Contains, sym, ap, ◌∙◌, subst, inl, inr, ⊎_elim, arith, eq-eqb, ltb, ne_eqb, lt-ltb, le-ltb, get_or, slice_index_or, length-append, Bool, ◌/◌, ◌%◌}
use Rattle.std.proofs.lemmas.Bool.{cases_eq, cases_lt, eqb-true}
use Rattle.std.specs.Int.{from_bool}
use Rattle.std.proofs.lemmas.List.{length-map, map_push, map-append, get_or_default, get_or_append_left, get_or-append-add}
use Rattle.std.proofs.lemmas.List.Elements.{All-cons, Contains-append_left, Contains-push, Contains-append_cases, Contains-push_cases}
use Rattle.std.proofs.lemmas.List.Edits.{length-remove}
use Rattle.std.proofs.lemmas.List.Sums.{passes_at_first}
use Rattle.std.proofs.lemmas.Nat.Bits.{bit_at-lt}
use Rattle.std.specs.List.{remove, position, position_or_len, HoldsAt}
use Rattle.std.specs.Prelude.{slice_index}
use Rattle.member_window.specs.Free.{bit, IsLeastBit}
use Rattle.member_window.specs.Identifiers.{identifiers, identifiers_without, IsLeastFree}
use Rattle.member_window.specs.Contents.{AreEntries}
use Rattle.member_window.specs.Order.{AreBitsOf, IsOrder}
use Rattle.member_window.proofs.Lists.{pigeonhole, contains_nil, contains_here, contains_there, contains_cons_cases, contains_without, contained_without, identifiers-without, without_found}
use Rattle.member_window.proofs.Sound.{entries_push, entries_fewer}

-- the first bits have a 1 among them, or are all 0
some_bit : (words : List ℕ) (n : ℕ) → ((k : ℕ) × (k < n) × (bit words k ≡ 1)) ⊎ ((k : ℕ) → k < n → bit words k ≡ 0)
some_bit words zero = inr (λ k lt. absurd (omega arith))
some_bit words (suc n) =
    ⊎_elim
    (λ (found : (k : ℕ) × (k < n) × (bit words k ≡ 1)). inl (found.0, (let lt = found.1 in omega arith), found.2))
    (λ (none : (k : ℕ) → k < n → bit words k ≡ 0).
    ⊎_elim
    (λ (unset : bit words n < 1).
    inr (λ k lt. ⊎_elim (λ (less : k < n). none k less) (λ (more : n ≤ k). let last : k ≡ n = omega arith in ap (bit words) last ∙ omega arith) (cases_lt k n)))
    (λ (set : 1 ≤ bit words n). inl (n, omega arith, (let most = bit_at-lt (slice_index words (n / 64)) (n % 64) in omega arith)))
    (cases_lt (bit words n) 1))
    (some_bit words n)

module _ {T : Type 0} (es : List (ℕ × T)) (words : List ℕ) (owed capacity : ℕ) (order : IsOrder es words owed capacity) where
  -- where fewer than 256 entries are held, an identifier is free
  pub free_bit : length es < 256 → (k : ℕ) × (k < 256) × (bit words k ≡ 1)
  free_bit few =
      ⊎_elim
      (λ (found : (k : ℕ) × (k < 256) × (bit words k ≡ 1)). found)
      (λ (none : (k : ℕ) → k < 256 → bit words k ≡ 0).
      let crowd = pigeonhole 256 (identifiers es) (λ k low high. (order.bits k low high).0 (none (k - 1) (omega arith))) in
      absurd (omega (arith, length-map es (λ (e : ℕ × T). e.0))))
      (some_bit words 256)

  -- the first bit that is 1 is that of the least free identifier
  pub least_free : (k : ℕ) → IsLeastBit words k → IsLeastFree (identifiers es) k
  least_free k least =
      record {
        not_zero = least.not_zero;
        free = λ has. let used = (order.bits k least.not_zero least.small).1 has in let set = least.set in absurd (omega arith);
        least = λ j low less. (order.bits j low (let most = least.small in omega arith)).0 (least.least (j - 1) (omega arith));
      }

-- the bits after an identifier is used, which then is among the others
bits_taken : (words after used more : List ℕ) (k : ℕ) → AreBitsOf words used → 1 ≤ k → bit after (k - 1) ≡ 0
    → ((j : ℕ) → j < 256 → j ≢ k - 1 → bit after j ≡ bit words j)
    → Contains more k → ((j : ℕ) → Contains used j → Contains more j) → ((j : ℕ) → j ≢ k → Contains more j → Contains used j) → AreBitsOf after more
bits_taken words after used more k bits low unset others here goes back j first last =
    ⊎_elim
    (λ (same : j ≡ k). (λ _. subst (Contains more) (sym same) here, λ _. ap (λ i. bit after (i - 1)) same ∙ unset))
    (λ (other : j ≢ k).
    let kept = others (j - 1) (omega arith) (λ same. other (omega arith)) in
    (λ zero_bit. goes j ((bits j first last).0 (sym kept ∙ zero_bit)), λ has. kept ∙ (bits j first last).1 (back j other has)))
    (cases_eq j k)

-- the bits after an identifier is free again
bits_given : (words after used : List ℕ) (k : ℕ) → AreBitsOf words used → 1 ≤ k → bit after (k - 1) ≡ 1
    → ((j : ℕ) → j < 256 → j ≢ k - 1 → bit after j ≡ bit words j) → AreBitsOf after (identifiers_without k used)
bits_given words after used k bits low set others j first last =
    ⊎_elim
    (λ (same : j ≡ k).
    let one : bit after (j - 1) ≡ 1 = ap (λ i. bit after (i - 1)) same ∙ set in
    (λ zero_bit. absurd (omega arith), λ has. absurd ((contained_without k used j has).1 same)))
    (λ (other : j ≢ k).
    let kept = others (j - 1) (omega arith) (λ same. other (omega arith)) in (
      λ zero_bit. contains_without k used j ((bits j first last).0 (sym kept ∙ zero_bit)) other,
      λ has. kept ∙ (bits j first last).1 (contained_without k used j has).0,
    ))
    (cases_eq j k)

module _ {T : Type 0} (es : List (ℕ × T)) (words : List ℕ) (owed capacity : ℕ) (after : List ℕ) (k : ℕ)
    (others : (j : ℕ) → j < 256 → j ≢ k - 1 → bit after j ≡ bit words j) (order : IsOrder es words owed capacity) where
  pub pushed : (item : T) → length es < 256 → IsLeastBit words k → bit after (k - 1) ≡ 0 → IsOrder (es ++ (k, item) ∷ []) after (owed + 1) capacity
  pushed item few least unset =
      let more : identifiers (es ++ (k, item) ∷ []) ≡ identifiers es ++ k ∷ [] = map_push (λ (e : ℕ × T). e.0) es (k, item) in
      let used = identifiers es in
      let long = length-append es ((k, item) ∷ []) in
      let within = order.within in
      record {
        within = omega arith;
        sound = entries_push es k item order.sound few (least_free es words owed capacity order k least);
        room = order.room;
        bits = subst (AreBitsOf after) (sym more)
            (bits_taken words after used (used ++ k ∷ []) k order.bits least.not_zero unset others (Contains-push used k) (λ j has. Contains-append_left used (k ∷ []) j has)
            (λ j other has. ⊎_elim (λ (before : Contains used j). before) (λ (same : k ≡ j). absurd (other (sym same))) (Contains-push_cases used k j has)));
      }

  pub put_in_front : (item : T) → length es < 256 → 1 ≤ k → k ≤ 256 → ¬ Contains (identifiers es) k → bit after (k - 1) ≡ 0 → IsOrder ((k, item) ∷ es) after owed capacity
  put_in_front item few low high free unset =
      let used = identifiers es in
      let within = order.within in
      record {
        within = omega arith;
        sound = record {
          few = omega arith;
          in_range = All-cons (λ entry. (1 ≤ entry.0) × (entry.0 ≤ 256)) (k, item) es (low, high) order.sound.in_range;
          distinct = (free, order.sound.distinct);
        };
        room = order.room;
        bits = bits_taken words after used (k ∷ used) k order.bits low unset others (contains_here k used) (λ j has. contains_there k used j has)
            (λ j other has. ⊎_elim (λ (same : k ≡ j). absurd (other (sym same))) (λ (behind : Contains used j). behind) (contains_cons_cases k used j has));
      }

  pub taken : (place less : ℕ) (item : T) → place < length es → (k, item) ≡ slice_index_or es place (k, item) → bit after (k - 1) ≡ 1 → less ≡ from_bool (ltb place owed) → IsOrder (remove es place) after (owed - less) capacity
  taken place less item lt is set counts =
      let at : HoldsAt (λ entry. entry.0 ≡ k) es place = λ d. ap (λ (e : ℕ × T). e.0) (get_or_default es place d (k, item) lt ∙ sym is) in
      let low : 1 ≤ k = subst (λ (e : ℕ × T). 1 ≤ e.0) (sym is) (order.sound.in_range place (k, item) lt).0 in
      let left = without_found k es place order.sound.distinct lt at in
      let one = length-remove es place lt in
      let within = order.within in
      record {
        within = ⊎_elim
            (λ (owes : place < owed). let one_less : less ≡ 1 = counts ∙ ap from_bool (lt-ltb place owed owes) in omega arith)
            (λ (waits : owed ≤ place). omega arith)
            (cases_lt place owed);
        sound = subst AreEntries (sym left) (entries_fewer k es order.sound);
        room = order.room;
        bits = subst (AreBitsOf after) (sym (ap identifiers left ∙ identifiers-without k es)) (bits_given words after (identifiers es) k order.bits low set others);
      }

-- what a search for an identifier answers
absent : {T : Type 0} (k : ℕ) (es : List (ℕ × T)) → length es ≤ position_or_len (λ e. e.0 == k) es → ¬ Contains (identifiers es) k
absent k [] le = contains_nil k
absent {T} k (e ∷ es) le =
    let here : ℕ × T → Bool = λ e. e.0 == k in
    ⊎_elim
    (λ (same : e.0 ≡ k).
    let none : position_or_len here (e ∷ es) ≡ 0 = ap (λ b. cond (not b) (1 + position_or_len here es) 0) (eq-eqb e.0 k same) in
    absurd (omega arith))
    (λ (other : e.0 ≢ k).
    let more : position_or_len here (e ∷ es) ≡ 1 + position_or_len here es = ap (λ b. cond (not b) (1 + position_or_len here es) 0) (ne_eqb e.0 k other) in
    λ has. ⊎_elim (λ (same : e.0 ≡ k). other same) (absent k es (omega arith)) (contains_cons_cases e.0 (identifiers es) k has))
    (cases_eq e.0 k)

found : {T : Type 0} (k : ℕ) (es : List (ℕ × T)) (answer : Option ℕ) → answer ≡ position (λ e. e.0 == k) es
    → MatchOption answer (¬ Contains (identifiers es) k) (λ place. (place < length es) × HoldsAt (λ entry. entry.0 ≡ k) es place)
found {T} k es answer is =
    let here : ℕ × T → Bool = λ e. e.0 == k in
    let n = position_or_len here es in
    let Says : Option ℕ → Type 0 = λ o. MatchOption o (¬ Contains (identifiers es) k) (λ place. (place < length es) × HoldsAt (λ entry. entry.0 ≡ k) es place) in
    ⊎_elim
    (λ (lt : n < length es).
    subst Says (sym (is ∙ ap (λ b. cond b (Some n) None) (lt-ltb n (length es) lt))) (lt, λ d. eqb-true (get_or es n d).0 k (passes_at_first here es d lt)))
    (λ (le : length es ≤ n). subst Says (sym (is ∙ ap (λ b. cond b (Some n) None) (le-ltb n (length es) le))) (absent k es le))
    (cases_lt n (length es))

-- the same of two lists, one after the other
module _ {T : Type 0} (k : ℕ) (front back : List (ℕ × T)) where
  pub found_in_front : (place : ℕ) → Some place ≡ position (λ e. e.0 == k) front → (place < length (front ++ back)) × HoldsAt (λ entry. entry.0 ≡ k) (front ++ back) place
  found_in_front place is =
      let there = found k front (Some place) is in
      (omega (arith, there.0, length-append front back), λ d. ap (λ (e : ℕ × T). e.0) (get_or_append_left front back d place there.0) ∙ there.1 d)

  pub found_in_back : (place : ℕ) → Some place ≡ position (λ e. e.0 == k) back → (length front + place < length (front ++ back)) × HoldsAt (λ entry. entry.0 ≡ k) (front ++ back) (length front + place)
  found_in_back place is =
      let there = found k back (Some place) is in
      (omega (arith, there.0, length-append front back), λ d. ap (λ (e : ℕ × T). e.0) (get_or-append-add front back place d) ∙ there.1 d)

  pub found_in_neither : None ≡ position (λ e. e.0 == k) front → None ≡ position (λ e. e.0 == k) back → ¬ Contains (identifiers (front ++ back)) k
  found_in_neither ahead behind has =
      ⊎_elim (found k front None ahead) (found k back None behind)
      (Contains-append_cases (identifiers front) (identifiers back) k (subst (λ ks. Contains ks k) (map-append (λ (e : ℕ × T). e.0) front back) has))
