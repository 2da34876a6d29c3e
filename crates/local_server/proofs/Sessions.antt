-- What holds along a run of the sessions of a desk, and of the connections that have them.
use Rattle.std.proofs.Common.{◌≡◌, ◌≢◌, ℕ, ◌≤◌, nat_eq, if◌then◌else◌, Bool, true, false, List, [], ◌∷◌, ◌++◌, Option, Some, None, refl, sym, ap, subst, ◌∙◌, ⊎_elim, arith}
use Rattle.std.proofs.lemmas.Bool.{cases_eq, eq-eqb, ne_eqb}
use Rattle.group_jobs.specs.Stamps.{Held}
use Rattle.member_window.specs.Contents.{Contents, IsDown}
use Rattle.member_window.specs.Marks.{Mark}
use Rattle.member_window.specs.Transcript.{IsLegal}
use Rattle.session_desk.specs.declared.session.Session.{Session}
use Rattle.session_desk.specs.Rows.{Rows}
use Rattle.session_desk.specs.Books.{Books}
use Rattle.session_desk.specs.Hands.{DeskLaw}
use Rattle.conn_engine.specs.declared.phase.ConnectedClient.{ConnectedClient}
use Rattle.local_server.specs.ConnSteps.{ConnStep, conn_steps_of}
use Rattle.local_server.specs.Transcripts.{transcript_of, IsStepOf, AreStepsOf, session_of}
use Rattle.local_server.proofs.Windows.{Leads, IsUp, leads_new}
use Rattle.local_server.proofs.ConnSteps.{other_marks, quiet_marks, own_steps, other_steps}
use Rattle.local_server.proofs.Lent.{IsLentTo, IsParkedAs, KeepsRows, one_holder, not_both}
use Rattle.local_server.proofs.Given.{IsFirst, IsGiven, IsHandedIn}

-- what each connection has, this one aside
abbrev pub with_connected : {P : Type 0} → (ℕ → Option (ConnectedClient P)) → ℕ → Option (ConnectedClient P) → ℕ → Option (ConnectedClient P)
with_connected all_connected number connected other = if nat_eq other number then connected else all_connected other

pub connected_here : {P : Type 0} (all_connected : ℕ → Option (ConnectedClient P)) (number : ℕ) (connected : Option (ConnectedClient P)) → with_connected all_connected number connected number ≡ connected
connected_here {P} all_connected number connected = ap (λ (b : Bool). if b then connected else all_connected number) (eq-eqb number number refl)

pub connected_beside : {P : Type 0} (all_connected : ℕ → Option (ConnectedClient P)) (number other : ℕ) (connected : Option (ConnectedClient P)) → other ≢ number → with_connected all_connected number connected other ≡ all_connected other
connected_beside {P} all_connected number other connected differs = ap (λ (b : Bool). if b then connected else all_connected other) (ne_eqb other number differs)

again : {A : Type 0} (b : Bool) (one other rest : A) → (if b then other else (if b then one else rest)) ≡ (if b then other else rest)
again true one other rest = refl
again false one other rest = refl

pub with_again : {P : Type 0} (all_connected : ℕ → Option (ConnectedClient P)) (number : ℕ) (one other : Option (ConnectedClient P))
    → with_connected (with_connected all_connected number one) number other ≡ with_connected all_connected number other
with_again all_connected number one other = λ i each. again (nat_eq each number) one other (all_connected each) i

its_own : {P : Type 0} (all_connected : ℕ → Option (ConnectedClient P)) (number : ℕ) (connected : Option (ConnectedClient P)) → all_connected number ≡ connected → (each : ℕ) → with_connected all_connected number connected each ≡ all_connected each
its_own all_connected number connected is each =
    ⊎_elim
    (λ (same : each ≡ number). ap (with_connected all_connected number connected) same ∙ connected_here all_connected number connected ∙ sym is ∙ ap all_connected (sym same))
    (λ (other : each ≢ number). connected_beside all_connected number each connected other)
    (cases_eq each number)

pub with_same : {P : Type 0} (all_connected : ℕ → Option (ConnectedClient P)) (number : ℕ) (connected : Option (ConnectedClient P)) → all_connected number ≡ connected → with_connected all_connected number connected ≡ all_connected
with_same all_connected number connected is = λ i each. its_own all_connected number connected is each i

-- a session stands where its transcript leads: that of a connection, and one that has none
pub record IsLinked {P : Type 0} (conn_steps : List ConnStep) (rows : Rows Held P) (connection : ℕ) (connected : ConnectedClient P) : Type 0 where
  pub holds : IsLentTo rows connected.session.identity.number connection
  pub leads : Leads (transcript_of connected.session.identity.number conn_steps) connected.session.window
  pub up : IsUp connected.session.window

pub record StandsDown (conn_steps : List ConnStep) (number : ℕ) (window : Contents Held) : Type 0 where
  pub leads : Leads (transcript_of number conn_steps) window
  pub down : IsDown window

-- the steps of a run led the sessions of this desk, and those of these connections, to where they are
pub record KeepsSessions {P : Type 0} (conn_steps : List ConnStep) (desk : Books Held P) (all_connected : ℕ → Option (ConnectedClient P)) : Type 0 where
  pub law : DeskLaw desk.rows desk.made
  pub has_connected : (connection : ℕ) (connected : ConnectedClient P) → all_connected connection ≡ Some connected → IsLinked conn_steps desk.rows connection connected
  pub parked : (number : ℕ) (session : Session Held P) → IsParkedAs desk.rows number session → StandsDown conn_steps number session.window
  -- a session that is not new yet has no marks
  pub later : (number : ℕ) → desk.made ≤ number → transcript_of number conn_steps ≡ []
  pub legal : (number : ℕ) → IsLegal [] (transcript_of number conn_steps)
  pub own : (connection : ℕ) → AreStepsOf None (conn_steps_of connection conn_steps) (session_of (all_connected connection))

-- calls by which no session is asked for, and none handed in
pub aside : {P : Type 0} (conn_steps : List ConnStep) (old new : Books Held P) (all_connected : ℕ → Option (ConnectedClient P)) → KeepsRows old new → DeskLaw new.rows new.made
    → KeepsSessions conn_steps old all_connected → KeepsSessions conn_steps new all_connected
aside {P} conn_steps old new all_connected keeps law was =
    record {
      law = law;
      has_connected = λ connection connected is.
          let had = was.has_connected connection connected is in record { holds = keeps.lent connected.session.identity.number connection had.holds; leads = had.leads; up = had.up };
      parked = λ number session is. was.parked number session (keeps.parked number session is);
      later = λ number from. was.later number (let same = keeps.made in omega arith);
      legal = was.legal;
      own = was.own;
    }

-- a session that was given, and is no connection's yet
pub record IsInHand {P : Type 0} (conn_steps : List ConnStep) (desk : Books Held P) (connection : ℕ) (session : Session Held P) : Type 0 where
  pub holds : IsLentTo desk.rows session.identity.number connection
  pub stands : StandsDown conn_steps session.identity.number session.window

pub still_in_hand : {P : Type 0} (conn_steps : List ConnStep) (old new : Books Held P) (connection : ℕ) (session : Session Held P) → KeepsRows old new
    → IsInHand conn_steps old connection session → IsInHand conn_steps new connection session
still_in_hand conn_steps old new connection session keeps had = record { holds = keeps.lent session.identity.number connection had.holds; stands = had.stands }

first : {P : Type 0} (conn_steps : List ConnStep) (old : Books Held P) (all_connected : ℕ → Option (ConnectedClient P)) (session : Session Held P) → KeepsSessions conn_steps old all_connected → IsFirst old session
    → StandsDown conn_steps session.identity.number session.window
first conn_steps old all_connected session was is =
    let none : transcript_of session.identity.number conn_steps ≡ [] = was.later session.identity.number (let e = is.number in omega arith) in
    record {
      leads = subst (λ (marks : List (Mark Held)). Leads marks session.window) (sym none) (subst (Leads []) (sym is.window) leads_new);
      down = ap (λ (w : Contents Held). w.quota) is.window;
    }

pub given : {P : Type 0} (conn_steps : List ConnStep) (old new : Books Held P) (all_connected : ℕ → Option (ConnectedClient P)) (connection : ℕ) (session : Session Held P)
    → IsGiven old session connection new
    → DeskLaw new.rows new.made → KeepsSessions conn_steps old all_connected → KeepsSessions conn_steps new all_connected × IsInHand conn_steps new connection session
given {P} conn_steps old new all_connected connection session gives law was = (
  record {
    law = law;
    has_connected = λ other connected is.
        let had = was.has_connected other connected is in record { holds = gives.lent connected.session.identity.number other had.holds; leads = had.leads; up = had.up };
    parked = λ number its is. was.parked number its (gives.parked number its is).1;
    later = λ number from. was.later number (let more = gives.made in omega arith);
    legal = was.legal;
    own = was.own;
  },
  record {
    holds = gives.holds;
    stands =
        ⊎_elim
        (λ (is : IsFirst old session). first conn_steps old all_connected session was is)
        (λ (is : IsParkedAs old.rows session.identity.number session). was.parked session.identity.number session is)
        gives.from;
  },
)

-- a session is handed in that no connection has
pub handed_in : {P : Type 0} (conn_steps : List ConnStep) (old new : Books Held P) (all_connected : ℕ → Option (ConnectedClient P)) (connection : ℕ) (session : Session Held P) → IsHandedIn old session new
    → DeskLaw new.rows new.made → IsInHand conn_steps old connection session → all_connected connection ≡ None → KeepsSessions conn_steps old all_connected → KeepsSessions conn_steps new all_connected
handed_in {P} conn_steps old new all_connected connection session hands law had free was =
    record {
      law = law;
      has_connected = λ other connected is.
          let its = was.has_connected other connected is in
          let number = connected.session.identity.number in
          let apart : number ≢ session.identity.number = λ same.
          (let here = subst (λ (n : ℕ). IsLentTo old.rows n connection) (sym same) had.holds in
          let one = ap all_connected (one_holder old.rows number other connection its.holds here) in
          cc) in
          record { holds = hands.lent number other apart its.holds; leads = its.leads; up = its.up };
      parked = λ number its is.
          ⊎_elim
          (λ (before : IsParkedAs old.rows number its). was.parked number its before)
          (λ (now : (number ≡ session.identity.number) × (its.window ≡ session.window)).
          subst (λ (w : Contents Held). StandsDown conn_steps number w) (sym now.1) (subst (λ (n : ℕ). StandsDown conn_steps n session.window) (sym now.0) had.stands))
          (hands.parked number its is);
      later = λ number from. was.later number (let same = hands.made in omega arith);
      legal = was.legal;
      own = was.own;
    }

-- one more step, of the connection to which its session is lent
unmarked : {P : Type 0} (conn_steps : List ConnStep) (conn_step : ConnStep) (rows : Rows Held P) (connection : ℕ) (connected : ConnectedClient P) → connected.session.identity.number ≢ conn_step.session
    → IsLinked conn_steps rows connection connected
    → IsLinked (conn_steps ++ conn_step ∷ []) rows connection connected
unmarked conn_steps conn_step rows connection connected other had =
    record {
      holds = had.holds;
      leads = subst (λ (marks : List (Mark Held)). Leads marks connected.session.window) (sym (other_marks connected.session.identity.number conn_steps conn_step other)) had.leads;
      up = had.up;
    }

still_down : (conn_steps : List ConnStep) (conn_step : ConnStep) (number : ℕ) (window : Contents Held) → transcript_of number (conn_steps ++ conn_step ∷ []) ≡ transcript_of number conn_steps
    → StandsDown conn_steps number window
    → StandsDown (conn_steps ++ conn_step ∷ []) number window
still_down conn_steps conn_step number window same was = record { leads = subst (λ (marks : List (Mark Held)). Leads marks window) (sym same) was.leads; down = was.down }

pub turned : {P : Type 0} (conn_steps : List ConnStep) (conn_step : ConnStep) (desk : Books Held P) (all_connected : ℕ → Option (ConnectedClient P)) (after : Option (ConnectedClient P)) → KeepsSessions conn_steps desk all_connected
    → IsLentTo desk.rows conn_step.session conn_step.connection → IsStepOf (session_of (all_connected conn_step.connection)) conn_step (session_of after)
    → IsLegal [] (transcript_of conn_step.session (conn_steps ++ conn_step ∷ []))
    → ((connected : ConnectedClient P) → after ≡ Some connected → IsLinked (conn_steps ++ conn_step ∷ []) desk.rows conn_step.connection connected)
    → KeepsSessions (conn_steps ++ conn_step ∷ []) desk (with_connected all_connected conn_step.connection after)
turned {P} conn_steps conn_step desk all_connected after was holds is_conn_step legal has_connected =
    record {
      law = was.law;
      has_connected = λ connection connected is.
          ⊎_elim
          (λ (same : connection ≡ conn_step.connection).
          subst (λ (c : ℕ). IsLinked (conn_steps ++ conn_step ∷ []) desk.rows c connected) (sym same)
          (has_connected connected (sym (connected_here all_connected conn_step.connection after) ∙ ap (with_connected all_connected conn_step.connection after) (sym same) ∙ is)))
          (λ (other : connection ≢ conn_step.connection).
          let had = was.has_connected connection connected (sym (connected_beside all_connected conn_step.connection connection after other) ∙ is) in
          unmarked conn_steps conn_step desk.rows connection connected
          (λ same. other (one_holder desk.rows conn_step.session connection conn_step.connection (subst (λ (n : ℕ). IsLentTo desk.rows n connection) same had.holds) holds)) had)
          (cases_eq connection conn_step.connection);
      parked = λ number session is.
          let other : number ≢ conn_step.session = λ same.
          not_both desk.rows number conn_step.connection session (subst (λ (n : ℕ). IsLentTo desk.rows n conn_step.connection) (sym same) holds) is in
          still_down conn_steps conn_step number session.window (other_marks number conn_steps conn_step other) (was.parked number session is);
      later = λ number from.
          let below = was.law.made_before conn_step.session holds.row holds.has in
          other_marks number conn_steps conn_step (λ same. (omega arith)) ∙ was.later number from;
      legal = λ number.
          ⊎_elim
          (λ (same : number ≡ conn_step.session). subst (λ (n : ℕ). IsLegal [] (transcript_of n (conn_steps ++ conn_step ∷ []))) (sym same) legal)
          (λ (other : number ≢ conn_step.session). subst (IsLegal []) (sym (other_marks number conn_steps conn_step other)) (was.legal number))
          (cases_eq number conn_step.session);
      own = λ connection.
          ⊎_elim
          (λ (same : connection ≡ conn_step.connection).
          subst (λ (c : ℕ). AreStepsOf None (conn_steps_of c (conn_steps ++ conn_step ∷ [])) (session_of (with_connected all_connected conn_step.connection after c))) (sym same)
          (subst (λ (l : Option (ConnectedClient P)). AreStepsOf None (conn_steps_of conn_step.connection (conn_steps ++ conn_step ∷ [])) (session_of l)) (sym (connected_here all_connected conn_step.connection after))
          (own_steps conn_step.connection conn_steps conn_step (session_of (all_connected conn_step.connection)) (session_of after) refl (was.own conn_step.connection) is_conn_step)))
          (λ (other : connection ≢ conn_step.connection).
          subst (λ (l : Option (ConnectedClient P)). AreStepsOf None (conn_steps_of connection (conn_steps ++ conn_step ∷ [])) (session_of l))
          (sym (connected_beside all_connected conn_step.connection connection after other))
          (subst (λ (ts : List ConnStep). AreStepsOf None ts (session_of (all_connected connection))) (sym (other_steps connection conn_steps conn_step other)) (was.own connection)))
          (cases_eq connection conn_step.connection);
    }

-- a step without marks, of a connection that has no session
pub quiet : {P : Type 0} (conn_steps : List ConnStep) (conn_step : ConnStep) (desk : Books Held P) (all_connected : ℕ → Option (ConnectedClient P)) → conn_step.marks ≡ [] → all_connected conn_step.connection ≡ None
    → KeepsSessions conn_steps desk all_connected
    → KeepsSessions (conn_steps ++ conn_step ∷ []) desk all_connected
quiet {P} conn_steps conn_step desk all_connected none free was =
    let same : (number : ℕ) → transcript_of number (conn_steps ++ conn_step ∷ []) ≡ transcript_of number conn_steps = λ number. quiet_marks number conn_steps conn_step none in
    record {
      law = was.law;
      has_connected = λ connection connected is.
          let had = was.has_connected connection connected is in
          record {
            holds = had.holds;
            leads = subst (λ (marks : List (Mark Held)). Leads marks connected.session.window) (sym (same connected.session.identity.number)) had.leads;
            up = had.up;
          };
      parked = λ number session is. still_down conn_steps conn_step number session.window (same number) (was.parked number session is);
      later = λ number from. same number ∙ was.later number from;
      legal = λ number. subst (IsLegal []) (sym (same number)) (was.legal number);
      own = λ connection.
          ⊎_elim
          (λ (is : connection ≡ conn_step.connection).
          let before : all_connected connection ≡ None = ap all_connected is ∙ free in
          subst (λ (l : Option (ConnectedClient P)). AreStepsOf None (conn_steps_of connection (conn_steps ++ conn_step ∷ [])) (session_of l)) (sym before)
          (own_steps connection conn_steps conn_step None None (sym is)
          (subst (λ (l : Option (ConnectedClient P)). AreStepsOf None (conn_steps_of connection conn_steps) (session_of l)) before (was.own connection)) none))
          (λ (other : connection ≢ conn_step.connection).
          subst (λ (ts : List ConnStep). AreStepsOf None ts (session_of (all_connected connection))) (sym (other_steps connection conn_steps conn_step other)) (was.own connection))
          (cases_eq connection conn_step.connection);
    }
