-- What is handed out is one, where each call has one answer.
use Rattle.std.proofs.Common.{◌≡◌, ◌⊎◌, ℕ, suc, ◌+◌, ◌<◌, ◌≤◌, true, false, length, List, [], ◌∷◌, ◌++◌, Option, Some, None, Ok, refl, sym, ap, ◌∙◌, subst, ⊎_elim, inl, inr, arith}
use Rattle.std.proofs.lemmas.Bool.{cases_lt}
use Rattle.std.proofs.lemmas.Option.{same_Some}
use Rattle.mqtt_packet.specs.declared.packet.Packet.{Packet}
use Rattle.group_jobs.specs.declared.fate.Fate.TheVariants.{Discarded}
use Rattle.group_jobs.specs.Stamps.{Held, under}
use Rattle.member_window.specs.Identifiers.{identifiers, IsLeastFree}
use Rattle.member_window.specs.Contents.{Contents, held_of, IsNextResend, after_put, after_resend}
use Rattle.session_desk.specs.declared.session.Membership.{Membership}
use Rattle.session_desk.specs.declared.session.Membership.TheVariants.{NotMember, Member, Leaving}
use Rattle.conn_rules.specs.declared.hand_outs.HandOutTerms.{HandOutTerms}
use Rattle.conn_rules.specs.HandOuts.{is_discarded}
use Rattle.conn_rules.specs.Packets.{job}
use Rattle.conn_supply.specs.SupplyCalls.{SupplyCall}
use Rattle.conn_supply.specs.SupplyCalls.SupplyCall.{Take, Settle}
use Rattle.conn_laws.specs.Asking.{OneAnswer}
use Rattle.conn_supply.specs.HandOuts.{most_discards, SendsAgain, AsksFor, DiscardsOne, Discards, Finds, LooksFor, SendsOne, SendsNone, SendsFresh, LeavesWith, HandsFresh, HandsOut}
use Rattle.conn_laws.proofs.OneCall as calls
use Rattle.conn_laws.proofs.OneEnding.{none_some}

first_is : {A : Type 0} (x y : A) (these those : List A) → x ∷ these ≡ y ∷ those → x ≡ y
first_is x y these those e = cc

none_cons : {A : Type 0} (x : A) (these : List A) → [] ≡ x ∷ these → ⊥
none_cons x these e = cc

-- the least free identifier is one
one_identifier : (used : List ℕ) (n m : ℕ) → IsLeastFree used n → IsLeastFree used m → n ≡ m
one_identifier used n m h k =
    ⊎_elim
    (λ (less : n < m). absurd (h.free (k.least n h.not_zero less)))
    (λ (not_less : m ≤ n). ⊎_elim (λ (more : m < n). absurd (k.free (h.least m k.not_zero more))) (λ (not_more : n ≤ m). omega arith) (cases_lt m n))
    (cases_lt n m)

next_is : (old : Contents Held) (entry other : ℕ × Held) → IsNextResend old (Some entry) → IsNextResend old (Some other) → entry ≡ other
next_is old entry other h k = first_is entry other h.1.0 k.1.0 (sym h.1.1 ∙ k.1.1)

no_next : (old : Contents Held) (entry : ℕ × Held) → IsNextResend old None → IsNextResend old (Some entry) → ⊥
no_next old entry none some = none_cons entry some.1.0 (sym (none some.0) ∙ some.1.1)

-- what waits is sent again
sent_again : (now : ℕ) (ps qs : List Packet) (old new new' : Contents Held) → SendsAgain now old ps new → SendsAgain now old qs new' → (ps ≡ qs) × (new ≡ new')
sent_again now [] [] old new new' h k = (refl, h.1 ∙ sym k.1)
sent_again now [] (q ∷ qs) old new new' h k = absurd (no_next old k.0 h.0 k.1)
sent_again now (p ∷ ps) [] old new new' h k = absurd (no_next old h.0 k.0 h.1)
sent_again now (p ∷ ps) (q ∷ qs) old new new' h k =
    let entry = next_is old h.0 k.0 h.1 k.1 in
    let packet : p ≡ q = h.2 ∙ ap (λ (e : ℕ × Held). job now true e.1.message e.1.subscription e.0) entry ∙ sym k.2 in
    let rest = sent_again now ps qs (after_resend old (Some h.0)) new new' h.3 (subst (λ (e : ℕ × Held). SendsAgain now (after_resend old (Some e)) qs new') (sym entry) k.3) in
    (λ i. packet i ∷ rest.0 i, rest.1)

no_yes : false ≡ true → ⊥
no_yes e = cc

module _ {S P : Type 0} (call : S → SupplyCall P → S → Type 0) (AreAlike : S → S → Type 0) (answers : OneAnswer call AreAlike) where
  -- a place asks for a message
  asked : (a a' b b' : S) (place p q : P) (x y : Option Held) → AreAlike a b → AsksFor call a place x p a' → AsksFor call b place y q b' → (p ≡ q) × (x ≡ y) × AreAlike a' b'
  asked a a' b b' place p q x y alike (inl h) (inl k) =
      let one = calls.taken_back call AreAlike answers a a' b b' place p q (Some h.0) (Some k.0) alike h.2 k.2 in (one.0, h.1 ∙ one.1 ∙ sym k.1, one.2)
  asked a a' b b' place p q x y alike (inl h) (inr k) =
      absurd (none_some h.0 (sym (calls.taken_back call AreAlike answers a a' b k.1 place p k.0 (Some h.0) None alike h.2 k.2).1))
  asked a a' b b' place p q x y alike (inr h) (inl k) =
      absurd (none_some k.0 (calls.taken_back call AreAlike answers a h.1 b b' place h.0 q None (Some k.0) alike h.2 k.2).1)
  asked a a' b b' place p q x y alike (inr h) (inr k) =
      let one = calls.taken_back call AreAlike answers a h.1 b k.1 place h.0 k.0 None None alike h.2 k.2 in
      calls.taken call AreAlike answers h.1 a' k.1 b' h.0 p q x y one.2 h.3 (subst (λ t. call k.1 (Take t q (Ok y)) b') (sym one.0) k.3)

  -- what a search comes to, after those that were discarded: another message is discarded, one is found, or none
  module _ (terms : HandOutTerms) where
    discards_and_finds : {A : Type 0} (a a' b b' : S) (place p q : P) (envelope : Held) (found : Option Held) → AreAlike a b → DiscardsOne call terms a place envelope p a' → Finds call terms b place found q b' → A
    discards_and_finds a a' b b' place p q envelope (Some other) alike h k =
        let one = asked a h.mid b b' place h.taken q (Some envelope) (Some other) alike h.asked k.1 in
        absurd (no_yes (sym k.2 ∙ ap (λ (e : Held). is_discarded terms e.message) (sym (same_Some envelope other one.1)) ∙ h.reason))
    discards_and_finds a a' b b' place p q envelope None alike h (inl k) =
        absurd (none_some envelope (sym (asked a h.mid b b' place h.taken q (Some envelope) None alike h.asked k.1).1))
    discards_and_finds a a' b b' place p q envelope None alike h (inr k) = absurd (no_yes (sym (calls.allowed call AreAlike answers a a b b place true false alike h.allowed k.2).0))

    finds_and_discards : {A : Type 0} (a a' b b' : S) (place p q : P) (found : Option Held) (envelope : Held) → AreAlike a b → Finds call terms a place found p a' → DiscardsOne call terms b place envelope q b' → A
    finds_and_discards a a' b b' place p q (Some other) envelope alike h k =
        let one = asked a a' b k.mid place p k.taken (Some other) (Some envelope) alike h.1 k.asked in
        absurd (no_yes (sym h.2 ∙ ap (λ (e : Held). is_discarded terms e.message) (same_Some other envelope one.1) ∙ k.reason))
    finds_and_discards a a' b b' place p q None envelope alike (inl h) k =
        absurd (none_some envelope (asked a a' b k.mid place p k.taken None (Some envelope) alike h.1 k.asked).1)
    finds_and_discards a a' b b' place p q None envelope alike (inr h) k = absurd (no_yes (calls.allowed call AreAlike answers a a b b place false true alike h.2 k.allowed).0)

    found_one : (a a' b b' : S) (place p q : P) (x y : Option Held) → AreAlike a b → Finds call terms a place x p a' → Finds call terms b place y q b' → (p ≡ q) × (x ≡ y) × AreAlike a' b'
    found_one a a' b b' place p q (Some x) (Some y) alike h k = asked a a' b b' place p q (Some x) (Some y) alike h.1 k.1
    found_one a a' b b' place p q (Some x) None alike h (inl k) = absurd (none_some x (sym (asked a a' b b' place p q (Some x) None alike h.1 k.1).1))
    found_one a a' b b' place p q (Some x) None alike h (inr k) = absurd (no_yes (sym (calls.allowed call AreAlike answers a a b b place true false alike h.0 k.2).0))
    found_one a a' b b' place p q None (Some y) alike (inl h) k = absurd (none_some y (asked a a' b b' place p q None (Some y) alike h.1 k.1).1)
    found_one a a' b b' place p q None (Some y) alike (inr h) k = absurd (no_yes (calls.allowed call AreAlike answers a a b b place false true alike h.2 k.0).0)
    found_one a a' b b' place p q None None alike (inl h) (inl k) = asked a a' b b' place p q None None alike h.1 k.1
    found_one a a' b b' place p q None None alike (inl h) (inr k) = absurd (no_yes (sym (calls.allowed call AreAlike answers a a b b place true false alike h.0 k.2).0))
    found_one a a' b b' place p q None None alike (inr h) (inl k) = absurd (no_yes (calls.allowed call AreAlike answers a a b b place false true alike h.2 k.0).0)
    found_one a a' b b' place p q None None alike (inr h) (inr k) = (h.0 ∙ sym k.0, refl, calls.still call AreAlike answers a a' b b' alike h.1 k.1)

    -- one and the same message is discarded
    discarded_one : (a a' b b' : S) (place p q : P) (x y : Held) → AreAlike a b → DiscardsOne call terms a place x p a' → DiscardsOne call terms b place y q b' → (p ≡ q) × (x ≡ y) × AreAlike a' b'
    discarded_one a a' b b' place p q x y alike h k =
        let one = asked a h.mid b k.mid place h.taken k.taken (Some x) (Some y) alike h.asked k.asked in
        let envelope = same_Some x y one.1 in
        let settled : call k.mid (Settle h.taken q x Discarded) b' =
        subst (λ (e : Held). call k.mid (Settle h.taken q e Discarded) b') (sym envelope) (subst (λ (t : P). call k.mid (Settle t q y Discarded) b') (sym one.0) k.settled) in
        let last = calls.settled call AreAlike answers h.mid a' k.mid b' h.taken p q x Discarded one.2 h.settled settled in
        (last.0, envelope, last.1)

    -- what ends a search, where so many were discarded before
    abbrev Ends : ℕ → S → P → Option Held → P → S → Type 0
    Ends many old place found place' new = (many < most_discards × Finds call terms old place found place' new) ⊎ ((many ≡ most_discards) × (found ≡ None) × (place' ≡ place) × (new ≡ old))

    ended_one : (many : ℕ) (a a' b b' : S) (place p q : P) (x y : Option Held) → AreAlike a b → Ends many a place x p a' → Ends many b place y q b' → (p ≡ q) × (x ≡ y) × AreAlike a' b'
    ended_one many a a' b b' place p q x y alike (inl h) (inl k) = found_one a a' b b' place p q x y alike h.1 k.1
    ended_one many a a' b b' place p q x y alike (inl h) (inr k) = absurd (omega (arith, h.0, k.0))
    ended_one many a a' b b' place p q x y alike (inr h) (inl k) = absurd (omega (arith, h.0, k.0))
    ended_one many a a' b b' place p q x y alike (inr h) (inr k) = (h.2 ∙ sym k.2, h.1 ∙ sym k.1, calls.still call AreAlike answers a a' b b' alike h.3 k.3)

    -- the longer list of those that are discarded goes on where the shorter one ends
    stops_and_goes_on : {A : Type 0} (many more : ℕ) (a a' b b' : S) (place p q : P) (x : Option Held) (envelope : Held) → AreAlike a b → many + suc more ≤ most_discards → Ends many a place x p a'
        → DiscardsOne call terms b place envelope q b' → A
    stops_and_goes_on many more a a' b b' place p q x envelope alike few (inl h) k = finds_and_discards a a' b b' place p q x envelope alike h.1 k
    stops_and_goes_on many more a a' b b' place p q x envelope alike few (inr h) k = absurd (omega (arith, few, h.0))

    goes_on_and_stops : {A : Type 0} (many more : ℕ) (a a' b b' : S) (place p q : P) (envelope : Held) (y : Option Held) → AreAlike a b → many + suc more ≤ most_discards
        → DiscardsOne call terms a place envelope p a' → Ends many b place y q b' → A
    goes_on_and_stops many more a a' b b' place p q envelope y alike few h (inl k) = discards_and_finds a a' b b' place p q envelope y alike h k.1
    goes_on_and_stops many more a a' b b' place p q envelope y alike few h (inr k) = absurd (omega (arith, few, k.0))

    at_most : (many : ℕ) (old : S) (place : P) (found : Option Held) (place' : P) (new : S) → Ends many old place found place' new → many ≤ most_discards
    at_most many old place found place' new (inl few) = omega (arith, few.0)
    at_most many old place found place' new (inr most) = omega (arith, most.0)

    -- so many were discarded before, and these after them
    searched : (before : ℕ) (these those : List Held) (a m a' b n b' : S) (place r p s q : P) (x y : Option Held) → AreAlike a b
        → Discards call terms a place these r m → Ends (before + length these) m r x p a' → Discards call terms b place those s n → Ends (before + length those) n s y q b' → (p ≡ q) × (x ≡ y) × AreAlike a' b'
    searched before [] [] a m a' b n b' place r p s q x y alike h hs k ks =
        let mids = calls.still call AreAlike answers a m b n alike h.1 k.1 in
        ended_one (before + 0) m a' n b' r p q x y mids hs (subst (λ (t : P). Ends (before + 0) n t y q b') (k.0 ∙ sym h.0) ks)
    searched before [] (other ∷ others) a m a' b n b' place r p s q x y alike h hs k ks =
        stops_and_goes_on (before + 0) (length others) m a' b k.1 r p k.0 x other (calls.still call AreAlike answers a m b b alike h.1 refl)
        (omega (arith, at_most (before + length (other ∷ others)) n s y q b' ks)) hs (subst (λ (t : P). DiscardsOne call terms b t other k.0 k.1) (sym h.0) k.2)
    searched before (one ∷ ones) [] a m a' b n b' place r p s q x y alike h hs k ks =
        goes_on_and_stops (before + 0) (length ones) a h.1 n b' s h.0 q one y (calls.still call AreAlike answers a a b n alike refl k.1)
        (omega (arith, at_most (before + length (one ∷ ones)) m r x p a' hs)) (subst (λ (t : P). DiscardsOne call terms a t one h.0 h.1) (sym k.0) h.2) ks
    searched before (one ∷ ones) (other ∷ others) a m a' b n b' place r p s q x y alike h hs k ks =
        let first = discarded_one a h.1 b k.1 place h.0 k.0 one other alike h.2 k.2 in
        searched (before + 1) ones others h.1 m a' k.1 n b' h.0 r p s q x y first.2 h.3
        (subst (λ many. Ends many m r x p a') (omega arith) hs)
        (subst (λ (t : P). Discards call terms k.1 t others s n) (sym first.0) k.3) (subst (λ many. Ends many n s y q b') (omega arith) ks)

    from_none : (many : ℕ) (old : S) (place : P) (found : Option Held) (place' : P) (new : S) → Ends many old place found place' new → Ends (0 + many) old place found place' new
    from_none many old place found place' new ends = subst (λ n. Ends n old place found place' new) (omega arith) ends

    looked_for : (a a' b b' : S) (place p q : P) (x y : Option Held) → AreAlike a b → LooksFor call terms a place x p a' → LooksFor call terms b place y q b' → (p ≡ q) × (x ≡ y) × AreAlike a' b'
    looked_for a a' b b' place p q x y alike h k =
        searched 0 h.discarded k.discarded a h.mid a' b k.mid b' place h.between p k.between q x y alike h.passed (from_none (length h.discarded) h.mid h.between x p a' h.ended) k.passed
        (from_none (length k.discarded) k.mid k.between y q b' k.ended)

    sent_one : (a a' b b' : S) (place p q : P) (window w v : Contents Held) (x y : Packet) → AreAlike a b
        → SendsOne call terms a place window x p w a' → SendsOne call terms b place window y q v b' → (x ≡ y) × (p ≡ q) × (w ≡ v) × AreAlike a' b'
    sent_one a a' b b' place p q window w v x y alike h k =
        let one = looked_for a a' b b' place p q (Some h.envelope) (Some k.envelope) alike h.found k.found in
        let envelope = same_Some h.envelope k.envelope one.1 in
        let identifier = one_identifier (identifiers (held_of window)) h.identifier k.identifier h.free k.free in (
          h.sent ∙ (λ i. job terms.at false (envelope i).message terms.subscription (identifier i)) ∙ sym k.sent,
          one.0,
          h.put ∙ (λ i. after_put window (identifier i) (under terms.subscription (envelope i))) ∙ sym k.put,
          one.2,
        )

    -- nothing goes out in the one, and something in the other
    none_and_one : {A : Type 0} (a a' b b' : S) (place p q : P) (window w v : Contents Held) (y : Packet) → AreAlike a b → SendsNone call terms a place window p w a' → SendsOne call terms b place window y q v b' → A
    none_and_one a a' b b' place p q window w v y alike (is, inl full) k = absurd (full.0 k.room)
    none_and_one a a' b b' place p q window w v y alike (is, inr none) k =
        absurd (none_some k.envelope (looked_for a a' b b' place p q None (Some k.envelope) alike none.1 k.found).1)

    one_and_none : {A : Type 0} (a a' b b' : S) (place p q : P) (window w v : Contents Held) (x : Packet) → AreAlike a b → SendsOne call terms a place window x p w a' → SendsNone call terms b place window q v b' → A
    one_and_none a a' b b' place p q window w v x alike h (is, inl full) = absurd (full.0 h.room)
    one_and_none a a' b b' place p q window w v x alike h (is, inr none) =
        absurd (none_some h.envelope (sym (looked_for a a' b b' place p q (Some h.envelope) None alike h.found none.1).1))

    sent_none : (a a' b b' : S) (place p q : P) (window w v : Contents Held) → AreAlike a b → SendsNone call terms a place window p w a' → SendsNone call terms b place window q v b' → (p ≡ q) × (w ≡ v) × AreAlike a' b'
    sent_none a a' b b' place p q window w v alike (is, inl h) (also, inl k) = (h.1 ∙ sym k.1, is ∙ sym also, calls.still call AreAlike answers a a' b b' alike h.2 k.2)
    sent_none a a' b b' place p q window w v alike (is, inl h) (also, inr k) = absurd (h.0 k.0)
    sent_none a a' b b' place p q window w v alike (is, inr h) (also, inl k) = absurd (k.0 h.0)
    sent_none a a' b b' place p q window w v alike (is, inr h) (also, inr k) =
        let one = looked_for a a' b b' place p q None None alike h.1 k.1 in (one.0, is ∙ sym also, one.2)

  sent_fresh : (terms : HandOutTerms) (xs ys : List Packet) (a a' b b' : S) (place p q : P) (window w v : Contents Held) → AreAlike a b
      → SendsFresh call terms a place window xs p w a' → SendsFresh call terms b place window ys q v b' → (xs ≡ ys) × (p ≡ q) × (w ≡ v) × AreAlike a' b'
  sent_fresh terms [] [] a a' b b' place p q window w v alike h k = let one = sent_none terms a a' b b' place p q window w v alike h k in (refl, one.0, one.1, one.2)
  sent_fresh terms [] (y ∷ ys) a a' b b' place p q window w v alike h k = none_and_one terms a a' b k.2 place p k.0 window w k.1 y alike h k.3
  sent_fresh terms (x ∷ xs) [] a a' b b' place p q window w v alike h k = one_and_none terms a h.2 b b' place h.0 q window h.1 v x alike h.3 k
  sent_fresh terms (x ∷ xs) (y ∷ ys) a a' b b' place p q window w v alike h k =
      let one = sent_one terms a h.2 b k.2 place h.0 k.0 window h.1 k.1 x y alike h.3 k.3 in
      let rest = sent_fresh terms xs ys h.2 a' k.2 b' h.0 p q h.1 w v one.3 h.4 (subst (λ t. SendsFresh call terms k.2 t h.1 ys q v b') (sym one.1) (subst (λ t. SendsFresh call terms k.2 k.0 t ys q v b') (sym one.2) k.4)) in
      (λ i. one.0 i ∷ rest.0 i, rest.1, rest.2, rest.3)

  left_with : (a a' b b' : S) (place : P) (window : Contents Held) (m n : Membership P) → AreAlike a b → LeavesWith call a place window m a' → LeavesWith call b place window n b' → (m ≡ n) × AreAlike a' b'
  left_with a a' b b' place window m n alike (inl h) (inl k) = (h.1 ∙ sym k.1, calls.place_taken call AreAlike answers a a' b b' place alike h.2 k.2)
  left_with a a' b b' place window m n alike (inl h) (inr k) = absurd (k.0 h.0)
  left_with a a' b b' place window m n alike (inr h) (inl k) = absurd (h.0 k.0)
  left_with a a' b b' place window m n alike (inr h) (inr k) = (h.1 ∙ sym k.1, calls.still call AreAlike answers a a' b b' alike h.2 k.2)

  handed_fresh : (terms : HandOutTerms) (old : Membership P) (a a' b b' : S) (window w v : Contents Held) (xs ys : List Packet) (m n : Membership P) → AreAlike a b
      → HandsFresh call terms a old window xs m w a' → HandsFresh call terms b old window ys n v b' → (xs ≡ ys) × (m ≡ n) × (w ≡ v) × AreAlike a' b'
  handed_fresh terms NotMember a a' b b' window w v xs ys m n alike h k = (h.0 ∙ sym k.0, h.1 ∙ sym k.1, h.2 ∙ sym k.2, calls.still call AreAlike answers a a' b b' alike h.3 k.3)
  handed_fresh terms (Member place) a a' b b' window w v xs ys m n alike h k =
      let one = sent_fresh terms xs ys a a' b b' place h.0 k.0 window w v alike h.2 k.2 in (one.0, h.1 ∙ ap Member one.1 ∙ sym k.1, one.2, one.3)
  handed_fresh terms (Leaving place) a a' b b' window w v xs ys m n alike h k =
      let one = left_with a a' b b' place window m n alike h.2 k.2 in (h.0 ∙ sym k.0, one.0, h.1 ∙ sym k.1, one.1)

  pub handed_out : (terms : HandOutTerms) (old : Membership P) (a a' b b' : S) (window w v : Contents Held) (xs ys : List Packet) (m n : Membership P) → AreAlike a b
      → HandsOut call terms a old window xs m w a' → HandsOut call terms b old window ys n v b' → (xs ≡ ys) × (m ≡ n) × (w ≡ v) × AreAlike a' b'
  handed_out terms old a a' b b' window w v xs ys m n alike h k =
      let again = sent_again terms.at h.again k.again window h.between k.between h.sent_again k.sent_again in
      let fresh = handed_fresh terms old a a' b b' h.between w v h.fresh k.fresh m n alike h.sent_fresh (subst (λ t. HandsFresh call terms b old t k.fresh n v b') (sym again.1) k.sent_fresh) in
      (h.both ∙ (λ i. again.0 i ++ fresh.0 i) ∙ sym k.both, fresh.1, fresh.2, fresh.3)
