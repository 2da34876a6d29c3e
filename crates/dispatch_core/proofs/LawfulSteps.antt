-- Each step keeps a state lawful.
use Rattle.std.proofs.Common.{◌≡◌, ◌≢◌, ℕ, ◌<◌, ◌≤◌, ◌⊎◌, List, [], ◌∷◌, ◌++◌, length, get_or, Option, Some, is_some, IsSome, Contains, refl, sym, ap, ◌∙◌, subst, inl, inr, ⊎_elim, arith, append_assoc}
use Rattle.std.proofs.lemmas.Bool.{cases_eq, cases_lt, false≢true}
use Rattle.std.proofs.lemmas.List.Elements.{Contains-get_or, Contains-push_cases}
use Rattle.std.proofs.lemmas.List.Quantifiers.{all_pairs_push}
use Rattle.dispatch_core.specs.declared.event.Job.{Job}
use Rattle.dispatch_core.specs.declared.event.Event.{Event}
use Rattle.dispatch_core.specs.declared.event.Event.TheVariants.{Accept, First, Ack, Refuse, Discard, Back, Again, Close}
use Rattle.dispatch_core.specs.declared.event.Spot.{Spot}
use Rattle.dispatch_core.specs.declared.event.Spot.TheVariants.{Queued, Held, Acked, Refused, Discarded, Returned}
use Rattle.dispatch_core.specs.GroupState.{GroupState, spot_of, firsts_of, accepted_of, row_of, IsEmpty}
use Rattle.dispatch_core.specs.Step.{Moves, HandsOut, KeepsFirsts, KeepsSpots, HasOlderQueued, Step, next_job}
use Rattle.dispatch_core.specs.Lawful.{IsLawful, RisesByPort, StandsOnce, HasOneFirst}
use Rattle.dispatch_core.proofs.Spots.{some_within, some_below, same_job, same_parts}

-- of every state: what has a spot was accepted
accepted_has_spot : (state : GroupState) (job : Job) → (IsSome (spot_of state job) → job.number < accepted_of state job.port) × (job.number < accepted_of state job.port → IsSome (spot_of state job))
accepted_has_spot state job = (some_within (row_of state job.port) job.number, some_below (row_of state job.port) job.number)

-- an accepted job that is not queued
abbrev IsOut : GroupState → Job → Type 0
IsOut state job = IsSome (spot_of state job) × (spot_of state job ≢ Some Queued)

pub some_there : (o : Option Spot) (spot : Spot) → o ≡ Some spot → IsSome o
some_there o spot there = ap is_some there

pub held_unqueued : (o : Option Spot) (member : ℕ) → o ≡ Some (Held member) → o ≢ Some Queued
held_unqueued o member held queued = let e : Some (Held member) ≡ Some Queued = sym held ∙ queued in cc

pub returned_unqueued : (o : Option Spot) → o ≡ Some Returned → o ≢ Some Queued
returned_unqueued o returned queued = let e : Some Returned ≡ Some Queued = sym returned ∙ queued in cc

-- a job that is somewhere else than before, or where it was
moved_or_not : (old new : GroupState) (job : Job) (spot : Spot) (other : Job) → Moves old job spot new → (other ≡ job) ⊎ ((other ≢ job) × (spot_of new other ≡ spot_of old other))
moved_or_not old new job spot other moves =
    ⊎_elim (λ (same : other ≡ job). inl same) (λ (differs : other ≢ job). inr (differs, moves.others other differs)) (same_job other job)

-- where a job comes to a spot that is not the queue, what is queued was queued
was_queued : (old new : GroupState) (job : Job) (spot : Spot) (other : Job) → Moves old job spot new → spot ≢ Queued → spot_of new other ≡ Some Queued → (other ≢ job) × (spot_of old other ≡ Some Queued)
was_queued old new job spot other moves out queued =
    ⊎_elim
    (λ (same : other ≡ job).
    let there : spot_of new other ≡ Some spot = subst (λ j. spot_of new j ≡ Some spot) (sym same) moves.there in
    absurd (out (let e : Some spot ≡ Some Queued = sym there ∙ queued in cc)))
    (λ (kept : (other ≢ job) × (spot_of new other ≡ spot_of old other)). (kept.0, sym kept.1 ∙ queued))
    (moved_or_not old new job spot other moves)

-- and what was accepted is accepted, where the job was
was_some : (old new : GroupState) (job : Job) (spot : Spot) (other : Job) → Moves old job spot new → IsSome (spot_of old job) → IsSome (spot_of new other) → IsSome (spot_of old other)
was_some old new job spot other moves accepted some =
    ⊎_elim
    (λ (same : other ≡ job). subst (λ j. IsSome (spot_of old j)) (sym same) accepted)
    (λ (kept : (other ≢ job) × (spot_of new other ≡ spot_of old other)). subst IsSome kept.1 some)
    (moved_or_not old new job spot other moves)

-- the first hand-outs stay where those of each member do
kept_first : (old new : GroupState) (job : Job) → KeepsFirsts old new → HasOneFirst old job → HasOneFirst new job
kept_first old new job kept one =
    record {
      member = one.member;
      is_member = one.is_member;
      once = subst (λ jobs. StandsOnce jobs job) (sym (kept one.member)) one.once;
      no_other = λ other ne has. one.no_other other ne (subst (λ jobs. Contains jobs job) (kept other) has);
    }

-- a job that was handed out moves on: it is acknowledged, refused, returned or held again
pub lawful_moved : (old new : GroupState) (job : Job) (spot : Spot) → IsLawful old → IsSome (spot_of old job) → spot_of old job ≢ Some Queued → spot ≢ Queued → Moves old job spot new → KeepsFirsts old new → IsLawful new
lawful_moved old new job spot lawful accepted was out moves kept =
    let still_out : (other : Job) → IsOut old other → IsOut new other =
    λ other before.
    ⊎_elim
    (λ (same : other ≡ job).
    let there : spot_of new other ≡ Some spot = subst (λ j. spot_of new j ≡ Some spot) (sym same) moves.there in
    (some_there (spot_of new other) spot there, λ queued. out (let e : Some spot ≡ Some Queued = sym there ∙ queued in cc)))
    (λ (stays : (other ≢ job) × (spot_of new other ≡ spot_of old other)). (subst IsSome (sym stays.1) before.0, λ queued. before.1 (sym stays.1 ∙ queued)))
    (moved_or_not old new job spot other moves) in
    let was_out : (other : Job) → IsOut new other → IsOut old other =
    λ other now.
    ⊎_elim
    (λ (same : other ≡ job). (subst (λ j. IsSome (spot_of old j)) (sym same) accepted, λ queued. was (subst (λ j. spot_of old j ≡ Some Queued) same queued)))
    (λ (stays : (other ≢ job) × (spot_of new other ≡ spot_of old other)). (subst IsSome stays.1 now.0, λ queued. now.1 (stays.1 ∙ queued)))
    (moved_or_not old new job spot other moves) in
    record {
      accepted = accepted_has_spot new;
      rising = λ member. subst RisesByPort (sym (kept member)) (lawful.rising member);
      suffix = λ older younger ports numbers queued some.
          let before = was_queued old new job spot older moves out queued in
          let youngers = lawful.suffix older younger ports numbers before.1 (was_some old new job spot younger moves accepted some) in
          moves.others younger (λ same. was (subst (λ j. spot_of old j ≡ Some Queued) same youngers)) ∙ youngers;
      handed_out = λ member other has. still_out other (lawful.handed_out member other (subst (λ jobs. Contains jobs other) (kept member) has));
      one_first = λ other some unqueued.
          let before = was_out other (some, unqueued) in
          kept_first old new other kept (lawful.one_first other before.0 before.1);
    }

-- a new job is queued behind the others of its port
pub lawful_accepted : (old new : GroupState) (port : ℕ) → IsLawful old → Moves old (next_job old port) Queued new → KeepsFirsts old new → IsLawful new
lawful_accepted old new port lawful moves kept =
    let next = next_job old port in
    let unknown : (other : Job) → IsSome (spot_of old other) → other ≢ next =
    λ other some same.
    let less : other.number < accepted_of old other.port = some_within (row_of old other.port) other.number some in
    let numbers : other.number ≡ accepted_of old port = ap (λ j. j.number) same in
    let ports : accepted_of old other.port ≡ accepted_of old port = ap (λ j. accepted_of old j.port) same in
    omega arith in
    let was : (other : Job) → IsOut new other → IsOut old other =
    λ other now.
    ⊎_elim
    (λ (same : other ≡ next). absurd (now.1 (subst (λ j. spot_of new j ≡ Some Queued) (sym same) moves.there)))
    (λ (stays : (other ≢ next) × (spot_of new other ≡ spot_of old other)). (subst IsSome stays.1 now.0, λ queued. now.1 (stays.1 ∙ queued)))
    (moved_or_not old new next Queued other moves) in
    record {
      accepted = accepted_has_spot new;
      rising = λ member. subst RisesByPort (sym (kept member)) (lawful.rising member);
      suffix = λ older younger ports numbers queued some.
          ⊎_elim
          (λ (same : younger ≡ next). subst (λ j. spot_of new j ≡ Some Queued) (sym same) moves.there)
          (λ (stays : (younger ≢ next) × (spot_of new younger ≡ spot_of old younger)).
          let there : IsSome (spot_of old younger) = subst IsSome stays.1 some in
          let less : younger.number < accepted_of old younger.port = some_within (row_of old younger.port) younger.number there in
          let differs : older ≢ next =
          λ same.
          let number : older.number ≡ accepted_of old port = ap (λ j. j.number) same in
          let younger_port : accepted_of old younger.port ≡ accepted_of old port = ap (accepted_of old) (sym ports) ∙ ap (λ j. accepted_of old j.port) same in
          omega arith in
          stays.1 ∙ lawful.suffix older younger ports numbers (sym (moves.others older differs) ∙ queued) there)
          (moved_or_not old new next Queued younger moves);
      handed_out = λ member other has.
          let before = lawful.handed_out member other (subst (λ jobs. Contains jobs other) (kept member) has) in
          let stays = moves.others other (unknown other before.0) in
          (subst IsSome (sym stays) before.0, λ queued. before.1 (sym stays ∙ queued));
      one_first = λ other some unqueued.
          let before = was other (some, unqueued) in
          kept_first old new other kept (lawful.one_first other before.0 before.1);
    }

-- one more job stands at the end of a list where it did not stand
stands_last : (jobs : List Job) (job : Job) → ¬ Contains jobs job → StandsOnce (jobs ++ job ∷ []) job
stands_last jobs job absent =
    record { before = jobs; behind = []; there = refl; not_before = absent; not_behind = λ has. absurd (let h : has.0 < 0 = has.1 in omega arith) }

-- a job that stood once does so still with another after
stands_still : (jobs : List Job) (job other : Job) → other ≢ job → StandsOnce jobs other → StandsOnce (jobs ++ job ∷ []) other
stands_still jobs job other differs once =
    record {
      before = once.before;
      behind = once.behind ++ job ∷ [];
      there = ap (λ js. js ++ job ∷ []) once.there ∙ append_assoc once.before (other ∷ once.behind) (job ∷ []);
      not_before = once.not_before;
      not_behind = λ has.
          ⊎_elim
          (λ (before : Contains once.behind other). once.not_behind before)
          (λ (same : job ≡ other). differs (sym same))
          (Contains-push_cases once.behind job other has);
    }

-- the oldest queued job of its port is handed out for the first time
pub lawful_handed_out : (old new : GroupState) (member : ℕ) (job : Job) → IsLawful old → member < 32 → spot_of old job ≡ Some Queued → ¬ HasOlderQueued old job → Moves old job (Held member) new → HandsOut old member job new → IsLawful new
lawful_handed_out old new member job lawful is_member queued oldest moves hands =
    let held : Held member ≢ Queued = λ e. cc in
    let accepted : IsSome (spot_of old job) = some_there (spot_of old job) Queued queued in
    let absent : (other : ℕ) → ¬ Contains (firsts_of old other) job = λ other has. (lawful.handed_out other job has).1 queued in
    let still_out : (other : Job) → IsOut old other → IsOut new other =
    λ other before.
    let differs : other ≢ job = λ same. before.1 (subst (λ j. spot_of old j ≡ Some Queued) (sym same) queued) in
    let stays = moves.others other differs in
    (subst IsSome (sym stays) before.0, λ q. before.1 (sym stays ∙ q)) in
    let listed : (other : ℕ) (one : Job) → Contains (firsts_of new other) one → Contains (firsts_of old other) one ⊎ ((other ≡ member) × (job ≡ one)) =
    λ other one has.
    ⊎_elim
    (λ (same : other ≡ member).
    let mine : Contains (firsts_of old member ++ job ∷ []) one = subst (λ jobs. Contains jobs one) (ap (firsts_of new) same ∙ hands.last) has in
    ⊎_elim
    (λ (before : Contains (firsts_of old member) one). inl (subst (λ m. Contains (firsts_of old m) one) (sym same) before))
    (λ (is : job ≡ one). inr (same, is))
    (Contains-push_cases (firsts_of old member) job one mine))
    (λ (differs : other ≢ member). inl (subst (λ jobs. Contains jobs one) (hands.others other differs) has))
    (cases_eq other member) in
    record {
      accepted = accepted_has_spot new;
      rising = λ other.
          ⊎_elim
          (λ (same : other ≡ member).
          subst RisesByPort (sym (ap (firsts_of new) same ∙ hands.last))
          (all_pairs_push (λ earlier later. earlier.port ≡ later.port → earlier.number < later.number) (firsts_of old member) job (lawful.rising member)
          (λ k d within ports.
          let earlier = get_or (firsts_of old member) k d in
          let before = lawful.handed_out member earlier (Contains-get_or (firsts_of old member) k d within) in
          ⊎_elim
          (λ (less : earlier.number < job.number). less)
          (λ (more : job.number ≤ earlier.number). absurd (before.1 (lawful.suffix job earlier (sym ports) more queued before.0)))
          (cases_lt earlier.number job.number))))
          (λ (differs : other ≢ member). subst RisesByPort (sym (hands.others other differs)) (lawful.rising other))
          (cases_eq other member);
      suffix = λ older younger ports numbers is_queued some.
          let before = was_queued old new job (Held member) older moves held is_queued in
          let youngers = lawful.suffix older younger ports numbers before.1 (was_some old new job (Held member) younger moves accepted some) in
          let differs : younger ≢ job =
          λ same.
          let number : younger.number ≡ job.number = ap (λ j. j.number) same in
          let port : older.port ≡ job.port = ports ∙ ap (λ j. j.port) same in
          ⊎_elim
          (λ (equal : older.number ≡ job.number). before.0 (same_parts older job port equal))
          (λ (other : older.number ≢ job.number). oldest (older.number, omega arith, subst (λ j. spot_of old j ≡ Some Queued) (same_parts older (record { port = job.port; number = older.number }) port refl) before.1))
          (cases_eq older.number job.number) in
          moves.others younger differs ∙ youngers;
      handed_out = λ other one has.
          ⊎_elim
          (λ (before : Contains (firsts_of old other) one). still_out one (lawful.handed_out other one before))
          (λ (mine : (other ≡ member) × (job ≡ one)).
          let there : spot_of new one ≡ Some (Held member) = subst (λ j. spot_of new j ≡ Some (Held member)) mine.1 moves.there in
          (some_there (spot_of new one) (Held member) there, λ q. held (let e : Some (Held member) ≡ Some Queued = sym there ∙ q in cc)))
          (listed other one has);
      one_first = λ one some unqueued.
          ⊎_elim
          (λ (same : one ≡ job).
          subst (HasOneFirst new) (sym same)
          (record {
            member = member;
            is_member = is_member;
            once = subst (λ jobs. StandsOnce jobs job) (sym hands.last) (stands_last (firsts_of old member) job (absent member));
            no_other = λ other differs has. absent other (subst (λ jobs. Contains jobs job) (hands.others other differs) has);
          }))
          (λ (stays : (one ≢ job) × (spot_of new one ≡ spot_of old one)).
          let was = lawful.one_first one (subst IsSome stays.1 some) (λ q. unqueued (stays.1 ∙ q)) in
          record {
            member = was.member;
            is_member = was.is_member;
            once =
                ⊎_elim
                (λ (same : was.member ≡ member).
                subst (λ jobs. StandsOnce jobs one) (sym (ap (firsts_of new) same ∙ hands.last))
                (stands_still (firsts_of old member) job one stays.0 (subst (λ m. StandsOnce (firsts_of old m) one) same was.once)))
                (λ (differs : was.member ≢ member). subst (λ jobs. StandsOnce jobs one) (sym (hands.others was.member differs)) was.once)
                (cases_eq was.member member);
            no_other = λ other differs has.
                ⊎_elim
                (λ (before : Contains (firsts_of old other) one). was.no_other other differs before)
                (λ (mine : (other ≡ member) × (job ≡ one)). stays.0 (sym mine.1))
                (listed other one has);
          })
          (moved_or_not old new job (Held member) one moves);
    }

-- a change of the mark alone
pub lawful_same : (old new : GroupState) → IsLawful old → KeepsSpots old new → KeepsFirsts old new → IsLawful new
lawful_same old new lawful same kept =
    record {
      accepted = accepted_has_spot new;
      rising = λ member. subst RisesByPort (sym (kept member)) (lawful.rising member);
      suffix = λ older younger ports numbers queued some. same younger ∙ lawful.suffix older younger ports numbers (sym (same older) ∙ queued) (subst IsSome (same younger) some);
      handed_out = λ member job has.
          let before = lawful.handed_out member job (subst (λ jobs. Contains jobs job) (kept member) has) in
          (subst IsSome (sym (same job)) before.0, λ queued. before.1 (sym (same job) ∙ queued));
      one_first = λ job some unqueued. kept_first old new job kept (lawful.one_first job (subst IsSome (same job) some) (λ queued. unqueued (same job ∙ queued)));
    }

-- before its first event
pub lawful_empty : (state : GroupState) → IsEmpty state → IsLawful state
lawful_empty state empty =
    let nothing : (job : Job) → ¬ IsSome (spot_of state job) = λ job some. false≢true (ap is_some (sym (empty.no_job job)) ∙ some) in
    let nobody : (member : ℕ) (job : Job) → ¬ Contains (firsts_of state member) job =
    λ member job has.
    let none : length (firsts_of state member) ≡ 0 = ap length (empty.no_hand_out member) in
    let within : has.0 < length (firsts_of state member) = has.1 in
    omega arith in
    record {
      accepted = accepted_has_spot state;
      rising = λ member i j d less within. absurd (let none : length (firsts_of state member) ≡ 0 = ap length (empty.no_hand_out member) in omega arith);
      suffix = λ older younger ports numbers queued some. absurd (nothing younger some);
      handed_out = λ member job has. absurd (nobody member job has);
      one_first = λ job some unqueued. absurd (nothing job some);
    }

-- every step
pub lawful_step : (old new : GroupState) (event : Event) → IsLawful old → Step old event new → IsLawful new
lawful_step old new (Accept port) lawful step = lawful_accepted old new port lawful step.made.0 step.made.1
lawful_step old new (First member job) lawful step = lawful_handed_out old new member job lawful step.may.in_range.0 step.may.ready.0 step.may.ready.1 step.made.0 step.made.1
lawful_step old new (Ack member job) lawful step = lawful_moved old new job (Acked member) lawful (some_there _ _ step.may.ready) (held_unqueued _ member step.may.ready) (λ e. cc) step.made.0 step.made.1
lawful_step old new (Refuse member job) lawful step = lawful_moved old new job (Refused member) lawful (some_there _ _ step.may.ready) (held_unqueued _ member step.may.ready) (λ e. cc) step.made.0 step.made.1
lawful_step old new (Discard member job) lawful step = lawful_moved old new job (Discarded member) lawful (some_there _ _ step.may.ready) (held_unqueued _ member step.may.ready) (λ e. cc) step.made.0 step.made.1
lawful_step old new (Back member job) lawful step = lawful_moved old new job Returned lawful (some_there _ _ step.may.ready) (held_unqueued _ member step.may.ready) (λ e. cc) step.made.0 step.made.1
lawful_step old new (Again member job) lawful step = lawful_moved old new job (Held member) lawful (some_there _ _ step.may.ready) (returned_unqueued _ step.may.ready) (λ e. cc) step.made.0 step.made.1
lawful_step old new Close lawful step = lawful_same old new lawful step.made.0 step.made.1
