-- A session that ends has one end, where each call has one answer.
use Rattle.std.proofs.Common.{◌≡◌, ◌⊎◌, ℕ, zero, suc, Bool, true, false, List, [], ◌∷◌, Option, Some, None, Ok, Err, sym, ◌∙◌, subst, inl, inr}
use Rattle.std.proofs.lemmas.Bool.{false≢true}
use Rattle.std.proofs.lemmas.Option.{same_Some}
use Rattle.group_jobs.specs.Stamps.{Held}
use Rattle.member_window.specs.Contents.{held_of}
use Rattle.session_desk.specs.declared.session.Session.{Session}
use Rattle.session_desk.specs.declared.session.Membership.{Membership}
use Rattle.session_desk.specs.declared.session.Membership.TheVariants.{NotMember, Member, Leaving}
use Rattle.conn_supply.specs.SupplyCalls.{SupplyCall}
use Rattle.conn_laws.specs.Asking.{OneAnswer}
use Rattle.conn_engine.specs.Ending.{down, ending_session, GivesBack, Ends, RetiresFrom, RetiresAs, Retires, PartsAs, Parts, Sweeps}
use Rattle.conn_laws.proofs.OneCall as calls

ok_err : {A B : Type 0} (x : A) (y : B) → Ok x ≡ Err y → ⊥
ok_err x y e = cc

pub none_some : {A : Type 0} (a : A) → None ≡ Some a → ⊥
none_some a e = cc

module _ {S P : Type 0} (call : S → SupplyCall P → S → Type 0) (AreAlike : S → S → Type 0) (answers : OneAnswer call AreAlike) where
  given_back : (entries : List (ℕ × Held)) (a a' b b' : S) (place p q : P) (l m : List (ℕ × Held)) → AreAlike a b
      → GivesBack call a place entries p l a' → GivesBack call b place entries q m b' → (p ≡ q) × (l ≡ m) × AreAlike a' b'
  given_back [] a a' b b' place p q l m alike h k = (h.0 ∙ sym k.0, h.1 ∙ sym k.1, calls.still call AreAlike answers a a' b b' alike h.2 k.2)
  given_back (entry ∷ entries) a a' b b' place p q l m alike (inl h) (inl k) =
      let one = calls.given_back call AreAlike answers a h.1 b k.1 place h.0 k.0 entry.1 (Ok tt) (Ok tt) alike h.2 k.2 in
      given_back entries h.1 a' k.1 b' h.0 p q l m one.2 h.3 (subst (λ t. GivesBack call k.1 t entries q m b') (sym one.0) k.3)
  given_back (entry ∷ entries) a a' b b' place p q l m alike (inl h) (inr k) =
      let one = calls.given_back call AreAlike answers a h.1 b b' place h.0 q entry.1 (Ok tt) (Err entry.1) alike h.2 k.0 in absurd (ok_err tt entry.1 one.1)
  given_back (entry ∷ entries) a a' b b' place p q l m alike (inr h) (inl k) =
      let one = calls.given_back call AreAlike answers a a' b k.1 place p k.0 entry.1 (Err entry.1) (Ok tt) alike h.0 k.2 in absurd (ok_err tt entry.1 (sym one.1))
  given_back (entry ∷ entries) a a' b b' place p q l m alike (inr h) (inr k) =
      let one = calls.given_back call AreAlike answers a a' b b' place p q entry.1 (Err entry.1) (Err entry.1) alike h.0 k.0 in (one.0, h.1 ∙ sym k.1, one.2)

  ended : (a a' b b' : S) (session : Session Held P) (x y : Bool) → AreAlike a b → Ends call a session x a' → Ends call b session y b' → (x ≡ y) × AreAlike a' b'
  ended a a' b b' session x y alike (inl h) (inl k) = (h.1 ∙ sym k.1, calls.buried call AreAlike answers a a' b b' session alike h.2 k.2)
  ended a a' b b' session x y alike (inl h) (inr k) = absurd (k.0 h.0)
  ended a a' b b' session x y alike (inr h) (inl k) = absurd (h.0 k.0)
  ended a a' b b' session x y alike (inr h) (inr k) = (h.1 ∙ sym k.1, calls.kept call AreAlike answers a a' b b' session alike h.2 k.2)

  retired_from : (a a' b b' : S) (session : Session Held P) (place : P) (again : P → Membership P) (x y : Bool) → AreAlike a b
      → RetiresFrom call a session place again x a' → RetiresFrom call b session place again y b' → (x ≡ y) × AreAlike a' b'
  retired_from a a' b b' session place again x y alike h k =
      let one = given_back (held_of session.window) a h.mid b k.mid place h.place' k.place' h.left k.left alike h.given k.given in
      let same : ending_session session (again k.place') k.left ≡ ending_session session (again h.place') h.left = sym (λ i. ending_session session (again (one.0 i)) (one.1 i)) in
      ended h.mid a' k.mid b' (ending_session session (again h.place') h.left) x y one.2 h.ended (subst (λ s. Ends call k.mid s y b') same k.ended)

  retired_as : (membership : Membership P) (a a' b b' : S) (session : Session Held P) (x y : Bool) → AreAlike a b
      → RetiresAs call a session membership x a' → RetiresAs call b session membership y b' → (x ≡ y) × AreAlike a' b'
  retired_as NotMember a a' b b' session x y alike h k = ended a a' b b' (down session) x y alike h k
  retired_as (Member place) a a' b b' session x y alike h k = retired_from a a' b b' session place Member x y alike h k
  retired_as (Leaving place) a a' b b' session x y alike h k = retired_from a a' b b' session place Leaving x y alike h k

  pub retired : (a a' b b' : S) (session : Session Held P) (x y : Bool) → AreAlike a b → Retires call a session x a' → Retires call b session y b' → (x ≡ y) × AreAlike a' b'
  retired a a' b b' session x y alike h k = retired_as session.membership a a' b b' session x y alike h k

  parted_as : (answer : Option (Session Held P)) (a a' b b' : S) → AreAlike a b → PartsAs call a answer a' → PartsAs call b answer b' → AreAlike a' b'
  parted_as None a a' b b' alike h k = calls.still call AreAlike answers a a' b b' alike h k
  parted_as (Some back) a a' b b' alike h k = (retired a a' b b' back h.0 k.0 alike h.1 k.1).1

  pub parted : (a a' b b' : S) (session : Session Held P) (now : ℕ) → AreAlike a b → Parts call a session now a' → Parts call b session now b' → AreAlike a' b'
  parted a a' b b' session now alike h k =
      let one = calls.parked call AreAlike answers a h.1 b k.1 (down session) now h.0 k.0 alike h.2 k.2 in
      parted_as h.0 h.1 a' k.1 b' one.1 h.3 (subst (λ x. PartsAs call k.1 x b') (sym one.0) k.3)

  -- one session is retired, and perhaps further ones
  swept_one : (most now : ℕ) → ((a a' b b' : S) → AreAlike a b → Sweeps call a now most a' → Sweeps call b now most b' → AreAlike a' b') → (a a' b b' after then : S) (session : Session Held P) → AreAlike a b
      → (Retires call a session false a') ⊎ (Retires call a session true after × Sweeps call after now most a')
      → (Retires call b session false b') ⊎ (Retires call b session true then × Sweeps call then now most b') → AreAlike a' b'
  swept_one most now rest a a' b b' after then session alike (inl h) (inl k) = (retired a a' b b' session false false alike h k).1
  swept_one most now rest a a' b b' after then session alike (inl h) (inr k) = absurd (false≢true (retired a a' b then session false true alike h k.0).0)
  swept_one most now rest a a' b b' after then session alike (inr h) (inl k) = absurd (false≢true (sym (retired a after b b' session true false alike h.0 k).0))
  swept_one most now rest a a' b b' after then session alike (inr h) (inr k) = rest after a' then b' (retired a after b then session true true alike h.0 k.0).1 h.1 k.1

  pub swept : (most : ℕ) (now : ℕ) (a a' b b' : S) → AreAlike a b → Sweeps call a now most a' → Sweeps call b now most b' → AreAlike a' b'
  swept zero now a a' b b' alike h k = calls.still call AreAlike answers a a' b b' alike h k
  swept (suc most) now a a' b b' alike (inl h) (inl k) = (calls.swept call AreAlike answers a a' b b' now None None alike h k).1
  swept (suc most) now a a' b b' alike (inl h) (inr k) = absurd (none_some k.0 (calls.swept call AreAlike answers a a' b k.1 now None (Some k.0) alike h k.3).0)
  swept (suc most) now a a' b b' alike (inr h) (inl k) = absurd (none_some h.0 (sym (calls.swept call AreAlike answers a h.1 b b' now (Some h.0) None alike h.3 k).0))
  swept (suc most) now a a' b b' alike (inr h) (inr k) =
      let one = calls.swept call AreAlike answers a h.1 b k.1 now (Some h.0) (Some k.0) alike h.3 k.3 in
      let session : k.0 ≡ h.0 = sym (same_Some h.0 k.0 one.0) in
      swept_one most now (swept most now) h.1 a' k.1 b' h.2 k.2 h.0 one.1 h.4
      (subst (λ s. (Retires call k.1 s false b') ⊎ (Retires call k.1 s true k.2 × Sweeps call k.2 now most b')) session k.4)
