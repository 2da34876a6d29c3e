-- What the fields of a state are after each change.
use Rattle.std.proofs.Common.{◌≡◌, ◌≢◌, ℕ, zero, suc, ◌+◌, ◌<◌, Bool, false, List, [], ◌∷◌, ◌++◌, length, set, get_or, slice_get, Some, Result, Ok, Err, OnOk, OnErr, is_some, IsSome, refl, sym, ap, ◌∙◌, subst, ⊎_elim, arith, length-set}
use Rattle.std.proofs.lemmas.Bool.{cases_eq}
use Rattle.std.proofs.lemmas.List.{get_or-set_same, get_or-set_other, get_or_read, set-get_or, length_push}
use Rattle.dispatch_core.specs.declared.event.Job.{Job}
use Rattle.dispatch_core.specs.declared.event.Event.{Event}
use Rattle.dispatch_core.specs.declared.event.Event.TheVariants.{Accept, First}
use Rattle.dispatch_core.specs.declared.event.Spot.{Spot}
use Rattle.dispatch_core.specs.declared.event.Spot.TheVariants.{Queued, Held}
use Rattle.dispatch_core.specs.GroupState.{GroupState, spot_of, IsEmpty}
use Rattle.dispatch_core.specs.Step.{Moves, Step, MayHappen, next_job}
use Rattle.dispatch_core.specs.Layout.{state_of, IsKept, AreEmpty}
use Rattle.dispatch_core.proofs.Spots.{some_within, same_parts, slice_get-set_same, slice_get-set_other, slice_get-push_same, slice_get-push_other}
use Rattle.dispatch_core.proofs.LawfulSteps.{lawful_step, lawful_moved}

-- a row that changed at one number
one_row : (rows : List (List Spot)) (firsts other_firsts : List (List Job)) (closed : Bool) (job : Job) (spot : Spot) (at : ℕ) (row : List Spot) → at ≡ job.port → at < length rows → slice_get row job.number ≡ Some spot → ((number : ℕ) → number ≢ job.number → slice_get row number ≡ slice_get (get_or rows at []) number) → Moves (state_of rows firsts closed) job spot (state_of (set rows at row) other_firsts closed)
one_row rows firsts other_firsts closed job spot at row port within here elsewhere =
    record {
      there = ap (λ r. slice_get r job.number) (ap (λ p. get_or (set rows at row) p []) (sym port) ∙ get_or-set_same rows at row [] within) ∙ here;
      others = λ other differs.
          ⊎_elim
          (λ (same : other.port ≡ at).
          let number : other.number ≢ job.number = λ e. differs (same_parts other job (same ∙ port) e) in
          ap (λ r. slice_get r other.number) (ap (λ p. get_or (set rows at row) p []) same ∙ get_or-set_same rows at row [] within)
          ∙ elsewhere other.number number ∙ ap (λ p. slice_get (get_or rows p []) other.number) (sym same))
          (λ (apart : other.port ≢ at). ap (λ r. slice_get r other.number) (get_or-set_other rows at other.port row [] apart))
          (cases_eq other.port at);
    }

-- a job of a row comes to another spot
put_moves : (rows : List (List Spot)) (firsts other_firsts : List (List Job)) (closed : Bool) (job : Job) (spot : Spot) (at : ℕ) (now row : List Spot) → at ≡ job.port → at < length rows → now ≡ get_or rows at now → IsSome (slice_get (get_or rows job.port []) job.number) → row ≡ set now job.number spot → Moves (state_of rows firsts closed) job spot (state_of (set rows at row) other_firsts closed)
put_moves rows firsts other_firsts closed job spot at now row port within read some is =
    let was : now ≡ get_or rows at [] = get_or_read rows at now within read [] in
    let there : IsSome (slice_get now job.number) = subst (λ r. IsSome (slice_get r job.number)) (sym (was ∙ ap (λ p. get_or rows p []) port)) some in
    one_row rows firsts other_firsts closed job spot at row port within
    (ap (λ r. slice_get r job.number) is ∙ slice_get-set_same now job.number spot (some_within now job.number there))
    (λ number differs. ap (λ r. slice_get r number) is ∙ slice_get-set_other now job.number number spot differs ∙ ap (λ r. slice_get r number) was)

pub kept_put : (rows : List (List Spot)) (firsts : List (List Job)) (closed : Bool) (old : GroupState) (job : Job) (spot : Spot) (at : ℕ) (now row : List Spot) → state_of rows firsts closed ≡ old → IsKept rows firsts closed → at ≡ job.port → job.port < 64 → now ≡ get_or rows at now → IsSome (spot_of old job) → spot_of old job ≢ Some Queued → spot ≢ Queued → row ≡ set now job.number spot → IsKept (set rows at row) firsts closed × Moves old job spot (state_of (set rows at row) firsts closed)
kept_put rows firsts closed old job spot at now row view kept port small read accepted unqueued out is =
    let some : IsSome (spot_of (state_of rows firsts closed) job) = subst (λ s. IsSome (spot_of s job)) (sym view) accepted in
    let was : spot_of (state_of rows firsts closed) job ≢ Some Queued = subst (λ s. spot_of s job ≢ Some Queued) (sym view) unqueued in
    let moves = put_moves rows firsts firsts closed job spot at now row port (let many = kept.ports in omega arith) read some is in (
      record {
        ports = length-set rows at row ∙ kept.ports;
        members = kept.members;
        lawful = lawful_moved (state_of rows firsts closed) (state_of (set rows at row) firsts closed) job spot kept.lawful some was out moves (λ member. refl);
      },
      subst (λ s. Moves s job spot (state_of (set rows at row) firsts closed)) view moves,
    )

-- a state that a step led to is kept
kept_step : (rows new_rows : List (List Spot)) (firsts new_firsts : List (List Job)) (closed new_closed : Bool) (event : Event) → IsKept rows firsts closed → length new_rows ≡ length rows → length new_firsts ≡ length firsts → Step (state_of rows firsts closed) event (state_of new_rows new_firsts new_closed) → IsKept new_rows new_firsts new_closed
kept_step rows new_rows firsts new_firsts closed new_closed event kept ports members step =
    record { ports = ports ∙ kept.ports; members = members ∙ kept.members; lawful = lawful_step (state_of rows firsts closed) (state_of new_rows new_firsts new_closed) event kept.lawful step }

-- a port accepts a job, or not
accept_step : (rows : List (List Spot)) (firsts : List (List Job)) (closed : Bool) (port at : ℕ) (now row : List Spot) → at ≡ port → at < length rows → now ≡ get_or rows at now → MayHappen (state_of rows firsts closed) (Accept port) → row ≡ now ++ Queued ∷ [] → Step (state_of rows firsts closed) (Accept port) (state_of (set rows at row) firsts closed)
accept_step rows firsts closed port at now row same within read may is =
    let was : now ≡ get_or rows at [] = get_or_read rows at now within read [] in
    let next = next_job (state_of rows firsts closed) port in
    let number : next.number ≡ length now = ap (λ p. length (get_or rows p [])) (sym same) ∙ sym (ap length was) in
    record {
      may = may;
      made = (
        one_row rows firsts firsts closed next Queued at row same within
            (ap (λ r. slice_get r next.number) is ∙ ap (λ n. slice_get (now ++ Queued ∷ []) n) number ∙ slice_get-push_same now Queued)
            (λ other differs. ap (λ r. slice_get r other) is ∙ slice_get-push_other now other Queued (λ e. differs (e ∙ sym number)) ∙ ap (λ r. slice_get r other) was),
        λ member. refl,
        refl,
      );
    }

pub kept_accept : {T E : Type 0} (result : Result T E) (rows : List (List Spot)) (firsts : List (List Job)) (closed : Bool) (old : GroupState) (port at : ℕ) (now row : List Spot) → state_of rows firsts closed ≡ old → IsKept rows firsts closed → at ≡ port → now ≡ get_or rows at now → MayHappen old (Accept port) → OnOk result (row ≡ now ++ Queued ∷ []) → OnErr result (row ≡ now) → IsKept (set rows at row) firsts closed × OnOk result (Step old (Accept port) (state_of (set rows at row) firsts closed))
kept_accept (Ok done) rows firsts closed old port at now row view kept same read allowed is stays =
    let may : MayHappen (state_of rows firsts closed) (Accept port) = subst (λ s. MayHappen s (Accept port)) (sym view) allowed in
    let step = accept_step rows firsts closed port at now row same (let many = kept.ports in let small : port < 64 = may.in_range in omega arith) read may is in
    (kept_step rows (set rows at row) firsts firsts closed closed (Accept port) kept (length-set rows at row) refl step, subst (λ s. Step s (Accept port) (state_of (set rows at row) firsts closed)) view step)
kept_accept (Err refused) rows firsts closed old port at now row view kept same read may is stays =
    let within : at < length rows = let many = kept.ports in let small : port < 64 = may.in_range in omega arith in
    let was : row ≡ get_or rows at [] = stays ∙ get_or_read rows at now within read [] in
    (subst (λ rs. IsKept rs firsts closed) (sym (ap (set rows at) was ∙ set-get_or rows at [])) kept, tt)

-- a member is handed a job for the first time
pub kept_hand_out : (rows : List (List Spot)) (firsts : List (List Job)) (closed : Bool) (old : GroupState) (member : ℕ) (job : Job) (at place : ℕ) (now row : List Spot) (mine more : List Job) → state_of rows firsts closed ≡ old → IsKept rows firsts closed → at ≡ job.port → place ≡ member → now ≡ get_or rows at now → mine ≡ get_or firsts place mine → MayHappen old (First member job) → row ≡ set now job.number (Held member) → more ≡ mine ++ job ∷ [] → IsKept (set rows at row) (set firsts place more) closed × Step old (First member job) (state_of (set rows at row) (set firsts place more) closed)
kept_hand_out rows firsts closed old member job at place now row mine more view kept port same read listed allowed is longer =
    let may : MayHappen (state_of rows firsts closed) (First member job) = subst (λ s. MayHappen s (First member job)) (sym view) allowed in
    let ports = kept.ports in
    let members = kept.members in
    let range = may.in_range in
    let within : place < length firsts = omega (arith, range.0) in
    let was : mine ≡ get_or firsts place [] = get_or_read firsts place mine within listed [] in
    let step : Step (state_of rows firsts closed) (First member job) (state_of (set rows at row) (set firsts place more) closed) =
    record {
      may = may;
      made = (
        put_moves rows firsts (set firsts place more) closed job (Held member) at now row port (omega (arith, range.1)) read (ap is_some may.ready.0) is,
        record {
          last = ap (λ m. get_or (set firsts place more) m []) (sym same) ∙ get_or-set_same firsts place more [] within ∙ longer ∙ ap (λ js. js ++ job ∷ []) (was ∙ ap (λ m. get_or firsts m []) same);
          others = λ other differs. get_or-set_other firsts place other more [] (λ e. differs (e ∙ same));
        },
        refl,
      );
    } in
    (kept_step rows (set rows at row) firsts (set firsts place more) closed closed (First member job) kept (length-set rows at row) (length-set firsts place more) step, subst (λ s. Step s (First member job) (state_of (set rows at row) (set firsts place more) closed)) view step)

-- lists that are all empty
pub none_empty : {T : Type 0} → AreEmpty {T = T} [] 0
none_empty = record { many = refl; empty = λ k. refl }

push_empty : {T : Type 0} (lists : List (List T)) (k : ℕ) → ((j : ℕ) → get_or lists j [] ≡ []) → get_or (lists ++ [] ∷ []) k [] ≡ []
push_empty [] zero empty = refl
push_empty [] (suc k) empty = refl
push_empty (l ∷ lists) zero empty = empty 0
push_empty (l ∷ lists) (suc k) empty = push_empty lists k (λ j. empty (suc j))

pub more_empty : {T : Type 0} (lists : List (List T)) (count : ℕ) → AreEmpty lists count → AreEmpty (lists ++ [] ∷ []) (count + 1)
more_empty lists count empty = let many = empty.many in record { many = omega (arith, length_push lists []); empty = λ k. push_empty lists k empty.empty }

-- a state of empty lists
pub empty_state : (rows : List (List Spot)) (firsts : List (List Job)) → AreEmpty rows 64 → AreEmpty firsts 32 → IsEmpty (state_of rows firsts false)
empty_state rows firsts ports members =
    record { no_job = λ job. ap (λ r. slice_get r job.number) (ports.empty job.port); no_hand_out = members.empty; not_closed = refl }
