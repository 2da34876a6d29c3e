-- What a session is handed is out at its place, and what it acknowledges is settled there.
use Rattle.std.proofs.Common.{◌≡◌, ◌≢◌, ℕ, not, Bool, if◌then◌else◌, List, [], ◌∷◌, Option, Some, None, Contains, refl, sym, ap, subst, ◌∙◌, ⊎_elim}
use Rattle.std.proofs.lemmas.Bool.{cases_eq, eq-eqb, ne_eqb}
use Rattle.std.proofs.lemmas.List.Elements.{Contains-append_left, Contains-append_right, Contains-append_cases}
use Rattle.std.proofs.lemmas.Option.{same_Some}
use Rattle.group_jobs.specs.declared.fate.Fate.{Fate}
use Rattle.group_jobs.specs.Stamps.{Held}
use Rattle.member_window.specs.Identifiers.{identifiers, entries_without, AreDistinct}
use Rattle.member_window.specs.Contents.{Contents, held_of, after_ack}
use Rattle.member_window.specs.Calls as calls
use Rattle.member_window.proofs.Lists.{contains_here, contains_there, contains_cons_cases, contains_nil, contains_identifier}
use Rattle.session_desk.specs.declared.session.Membership.{Membership}
use Rattle.session_desk.specs.declared.session.Membership.TheVariants.{NotMember, Member, Leaving}
use Rattle.conn_rules.specs.Acknowledging.{fate_of}
use Rattle.conn_supply.specs.Acknowledging.{Settles, AcknowledgesFor}
use Rattle.conn_supply.specs.SupplyCalls.SupplyCall.{Settle}
use Rattle.local_group.specs.Groups.{Group}
use Rattle.local_broker.specs.Places.{GroupPlace}
use Rattle.local_broker.specs.Groups.{IsOutAt}
use Rattle.local_broker.specs.Broker.{Broker}
use Rattle.local_broker.specs.Calls.{Calls}
use Rattle.local_broker.specs.Histories.{Called}
use Rattle.local_broker.proofs.Happened.{running_all}
use Rattle.local_broker.proofs.Outs.{stays_all}
use Rattle.local_server.specs.Settling.{Settlement, AreOut, AreOutFor}
use Rattle.local_server.proofs.Settled.{AddsIn, adds_nothing, one_settled}
use Rattle.local_server.proofs.Known.{same_log}
use Rattle.local_server.proofs.Accepting.{settled_known}
use Rattle.local_server.proofs.Owning.{Ledger, Entries, IsEntry, AreApart, Holds, Runs, still, same_rows, had, owns_on, mine_on, calm, less}

-- what is held under other identifiers
held_still : (k : ℕ) (entries : Entries) (j : ℕ) (f : Held) → Contains (entries_without k entries) (j, f) → Contains entries (j, f) × (j ≢ k)
held_still k [] j f c = absurd (contains_nil (j, f) c)
held_still k (entry ∷ entries) j f c =
    ⊎_elim
    (λ (is : entry.0 ≡ k).
    let later : Contains (entries_without k entries) (j, f) =
    subst (λ (b : Bool). Contains (if not b then entry ∷ entries_without k entries else entries_without k entries) (j, f)) (eq-eqb entry.0 k is) c in
    let rest = held_still k entries j f later in
    (contains_there entry entries (j, f) rest.0, rest.1))
    (λ (other : entry.0 ≢ k).
    let there : Contains (entry ∷ entries_without k entries) (j, f) =
    subst (λ (b : Bool). Contains (if not b then entry ∷ entries_without k entries else entries_without k entries) (j, f)) (ne_eqb entry.0 k other) c in
    ⊎_elim
    (λ (same : entry ≡ (j, f)). (subst (λ (x : ℕ × Held). Contains (entry ∷ entries) x) same (contains_here entry entries), λ e. other (ap (λ (x : ℕ × Held). x.0) same ∙ e)))
    (λ (later : Contains (entries_without k entries) (j, f)). let rest = held_still k entries j f later in (contains_there entry entries (j, f) rest.0, rest.1))
    (contains_cons_cases entry (entries_without k entries) (j, f) there))
    (cases_eq entry.0 k)

acked_still : (window : Contents Held) (k j : ℕ) (f : Held) → Contains (held_of (after_ack window k)) (j, f) → Contains (held_of window) (j, f) × (j ≢ k)
acked_still window k j f c =
    ⊎_elim
    (λ (early : Contains (entries_without k window.owed) (j, f)).
    let one = held_still k window.owed j f early in (Contains-append_left window.owed window.waiting (j, f) one.0, one.1))
    (λ (late : Contains (entries_without k window.waiting) (j, f)).
    let one = held_still k window.waiting j f late in (Contains-append_right window.owed window.waiting (j, f) one.0, one.1))
    (Contains-append_cases (entries_without k window.owed) (entries_without k window.waiting) (j, f) c)

-- one message is under an identifier
pub same_under : (entries : Entries) (k : ℕ) (e f : Held) → AreDistinct (identifiers entries) → Contains entries (k, e) → Contains entries (k, f) → e ≡ f
same_under [] k e f distinct c d = absurd (contains_nil (k, e) c)
same_under (entry ∷ entries) k e f distinct c d =
    let not_later : (g h : Held) → entry ≡ (k, g) → Contains entries (k, h) → ⊥ = λ g h is later.
    distinct.0 (subst (λ (x : ℕ). Contains (identifiers entries) x) (sym (ap (λ (x : ℕ × Held). x.0) is)) (contains_identifier entries k h later)) in
    ⊎_elim
    (λ (here : entry ≡ (k, e)).
    ⊎_elim
    (λ (too : entry ≡ (k, f)). ap (λ (x : ℕ × Held). x.1) (sym here ∙ too))
    (λ (later : Contains entries (k, f)). absurd (not_later e f here later))
    (contains_cons_cases entry entries (k, f) d))
    (λ (later : Contains entries (k, e)).
    ⊎_elim
    (λ (here : entry ≡ (k, f)). absurd (not_later f e here later))
    (λ (too : Contains entries (k, f)). same_under entries k e f distinct.1 later too)
    (contains_cons_cases entry entries (k, f) d))
    (contains_cons_cases entry entries (k, e) c)

-- a PUBACK: what its session holds under the identifier is settled
pub record Acked (ledger : Ledger) (old : Broker) (entries : Entries) (identifier code : ℕ) (membership' : Membership GroupPlace) (entries' : Entries) (new : Broker) : Type 0 where
  pub holds : Holds ledger new membership' entries'
  pub settled : List Settlement
  pub adds : AddsIn old.groups settled new.groups
  pub exact : (envelope : Held) → Contains entries (identifier, envelope) → settled ≡ (envelope, fate_of code) ∷ []

no_entries : (es : Entries) → ((i : ℕ) (e : Held) → Contains es (i, e) → ⊥) → es ≡ []
no_entries [] none = refl
no_entries (entry ∷ es) none = absurd (none entry.0 entry.1 (contains_here entry es))

only : (k i : ℕ) (e0 e : Held) → Contains {X = ℕ × Held} ((k, e0) ∷ []) (i, e) → IsEntry (k, e0) (i, e)
only k i e0 e c =
    ⊎_elim (λ (is : IsEntry (k, e0) (i, e)). is) (λ (none : Contains {X = ℕ × Held} [] (i, e)). absurd (contains_nil (i, e) none)) (contains_cons_cases (k, e0) [] (i, e) c)

pub settle_runs : (place place' : GroupPlace) (k : ℕ) (envelope : Held) (how : Fate) (old new : Broker) → Calls old (Settle place place' envelope how) new
    → Runs ((k, envelope) ∷ []) old new
settle_runs place place' k envelope how old new does =
    record {
      running = λ is. running_all (Called (Settle place place' envelope how) ∷ []) old new is (new, does, refl);
      out = λ at other has apart.
          stays_all (Called (Settle place place' envelope how) ∷ []) old new at other has (new, does, refl) (apart k envelope (contains_here (k, envelope) []), tt);
      desk = same_rows old new (ap (λ b. b.rows) does.2.desk);
    }

module _ (ledger : Ledger) (old new : Broker) (membership : Membership GroupPlace) (place : GroupPlace) (code k : ℕ) (window : Contents Held) where
  settles_one : (place' : GroupPlace) (envelope : Held) → (AreOutFor old membership (held_of window) → AreOut old place (held_of window))
      → AreDistinct (identifiers (held_of window))
      → Contains (held_of window) (k, envelope) → Calls old (Settle place place' envelope (fate_of code)) new → Holds ledger old membership (held_of window)
      → Acked ledger old (held_of window) k code membership (held_of (after_ack window k)) new
  settles_one place' envelope its distinct has does was =
      let entries = held_of window in
      let spent : Entries = (k, envelope) ∷ [] in
      let runs = settle_runs place place' k envelope (fate_of code) old new does in
      let out = its was.mine.owned k envelope has in
      let part : (i : ℕ) (e : Held) → Contains (held_of (after_ack window k)) (i, e) → Contains entries (i, e) = λ i e c. (acked_still window k i e c).0 in
      let rest : Holds ledger old membership (held_of (after_ack window k)) = less ledger old membership membership entries (held_of (after_ack window k)) part
      (λ owned. part_owned membership part owned) was in
      let apart : AreApart spent (held_of (after_ack window k)) = λ i j e f c d same.
      (let is = only k i envelope e c in
      let still = acked_still window k j f d in
      let here : Contains entries (i, e) = subst (λ (x : ℕ × Held). Contains entries x) is has in
      still.1 (sym (ap (λ (x : ℕ × Held). x.0) is ∙ was.mine.once i j e f here still.0 same))) in
      record {
        holds = record {
          others = owns_on spent ledger ledger.log old new runs (settled_known place place' envelope (fate_of code) ledger.log old new does was.others.know) (same_log ledger.log)
              (λ keeper t there i j e f c d. was.mine.apart keeper t (had keeper ledger.all_connected old new t runs.desk there) i j e f
              (subst (λ (x : ℕ × Held). Contains entries x) (only k i envelope e c) has) d)
              was.others;
          mine = mine_on spent ledger ledger.log old new membership (held_of (after_ack window k)) runs (same_log ledger.log) apart rest.mine;
        };
        settled = (envelope, fate_of code) ∷ [];
        adds =
            one_settled place place' envelope (fate_of code) old new (out.is_so.held.ours ∙ (was.others.running place.slot out.group out.there).numbered)
            (λ group there. subst (λ (g : Group). IsOutAt g place.number envelope) (same_Some out.group group (sym out.there ∙ there)) out.is_so) does;
        exact = λ other c. ap (λ (e : Held). (e, fate_of code) ∷ []) (same_under entries k envelope other distinct has c);
      }
    where
      part_owned : (m : Membership GroupPlace) → ((i : ℕ) (e : Held) → Contains (held_of (after_ack window k)) (i, e) → Contains (held_of window) (i, e))
          → AreOutFor old m (held_of window)
          → AreOutFor old m (held_of (after_ack window k))
      part_owned NotMember part owned = no_entries (held_of (after_ack window k)) (λ i e c. contains_nil (i, e) (subst (λ (es : Entries). Contains es (i, e)) owned (part i e c)))
      part_owned (Member at) part owned = λ i e c. owned i e (part i e c)
      part_owned (Leaving at) part owned = λ i e c. owned i e (part i e c)

  settles_in : (found : Option Held) (place' : GroupPlace) (window' : Contents Held) → (AreOutFor old membership (held_of window) → AreOut old place (held_of window))
      → AreDistinct (identifiers (held_of window)) → calls.Acks window k found window' → Settles Calls old place code found place' new → Holds ledger old membership (held_of window)
      → Acked ledger old (held_of window) k code membership (held_of window') new
  settles_in None place' window' its distinct acks settles was =
      subst (λ (w : Contents Held). Acked ledger old (held_of window) k code membership (held_of w) new) (sym acks.1)
      (record {
        holds = calm ledger old new membership (held_of window) (still old new settles.1) was;
        settled = [];
        adds = adds_nothing old new settles.1;
        exact = λ envelope c. absurd (acks.0 (contains_identifier (held_of window) k envelope c));
      })
  settles_in (Some envelope) place' window' its distinct acks settles was =
      subst (λ (w : Contents Held). Acked ledger old (held_of window) k code membership (held_of w) new) (sym acks.1) (settles_one place' envelope its distinct acks.0 settles was)

  kept_place : (found : Option Held) (place' : GroupPlace) → Settles Calls old place code found place' new → place' ≡ place
  kept_place None place' settles = settles.0
  kept_place (Some envelope) place' settles = settles.1

pub acknowledged : (membership : Membership GroupPlace) (ledger : Ledger) (old new : Broker) (window : Contents Held) (identifier code : ℕ) (membership' : Membership GroupPlace)
    (window' : Contents Held)
    → AcknowledgesFor Calls old membership window identifier code membership' window' new → Holds ledger old membership (held_of window)
    → Acked ledger old (held_of window) identifier code membership' (held_of window') new
acknowledged NotMember ledger old new window identifier code membership' window' does was =
    subst (λ (m : Membership GroupPlace). Acked ledger old (held_of window) identifier code m (held_of window') new) (sym does.0)
    (subst (λ (w : Contents Held). Acked ledger old (held_of window) identifier code NotMember (held_of w) new) (sym does.1)
    (record {
      holds = calm ledger old new NotMember (held_of window) (still old new does.2) was;
      settled = [];
      adds = adds_nothing old new does.2;
      exact = λ envelope c. absurd (contains_nil (identifier, envelope) (subst (λ (es : Entries). Contains es (identifier, envelope)) was.mine.owned c));
    }))
acknowledged (Member place) ledger old new window identifier code membership' window' does was =
    let s = does.1 in
    subst (λ (m : Membership GroupPlace). Acked ledger old (held_of window) identifier code m (held_of window') new)
    (sym (does.2 ∙ ap Member (kept_place ledger old new (Member place) place code identifier window s.found does.0 s.settled)))
    (settles_in ledger old new (Member place) place code identifier window s.found does.0 window' (λ owned. owned) s.sound.entries.distinct s.acked s.settled was)
acknowledged (Leaving place) ledger old new window identifier code membership' window' does was =
    let s = does.1 in
    subst (λ (m : Membership GroupPlace). Acked ledger old (held_of window) identifier code m (held_of window') new)
    (sym (does.2 ∙ ap Leaving (kept_place ledger old new (Leaving place) place code identifier window s.found does.0 s.settled)))
    (settles_in ledger old new (Leaving place) place code identifier window s.found does.0 window' (λ owned. owned) s.sound.entries.distinct s.acked s.settled was)
