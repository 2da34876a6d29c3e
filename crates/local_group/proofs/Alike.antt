-- What a call makes of groups that are alike is alike.
use Rattle.std.proofs.Common.{◌≡◌, ◌⊎◌, ℕ, Bool, true, false, List, [], ◌∷◌, ◌++◌, length, Some, refl, sym, ap, ◌∙◌, subst, ⊎_elim, inl, inr, arith}
use Rattle.dispatch_core.specs.declared.event.Job.{Job}
use Rattle.dispatch_core.specs.declared.event.Event.{Event}
use Rattle.dispatch_core.specs.declared.event.Event.TheVariants.{First, Again, Close}
use Rattle.dispatch_core.specs.GroupState.{accepted_of}
use Rattle.dispatch_core.specs.Step.{next_job}
use Rattle.dispatch_core.proofs.ExactLaws.{same_step, same_next, same_start}
use Rattle.group_jobs.specs.declared.fate.Fate.{Fate}
use Rattle.group_jobs.specs.declared.message.Message.{Message}
use Rattle.group_jobs.specs.declared.stamp.Stamp.{Stamp}
use Rattle.group_jobs.specs.Stamps.{Held as Envelope, job_of, stamp_of}
use Rattle.local_group.specs.declared.waiting.Waiting.{Waiting}
use Rattle.local_group.specs.Groups.{Group, IsHeld, IsFresh, Adds, Accepts, MayOffer, Takes, TakesBack, Settles, GivesBack, Closes, waits, held_by}
use Rattle.local_group.specs.Alike.{AreAlike}

first_is : {A : Type 0} (a b : A) (these those : List A) → a ∷ these ≡ b ∷ those → a ≡ b
first_is a b these those e = cc

rest_is : {A : Type 0} (a b : A) (these those : List A) → a ∷ these ≡ b ∷ those → these ≡ those
rest_is a b these those e = cc

either : (b : Bool) → (b ≡ true) ⊎ (b ≡ false)
either true = inl refl
either false = inr refl

module _ (one other one' other' : Group) (alike : AreAlike one other) where
  -- one event more, where the lists are alike then
  adds : (event : Event) → Adds one event one' → Adds other event other' → one'.queue ≡ other'.queue → one'.returned ≡ other'.returned → AreAlike one' other'
  adds event a b queue returned =
      record {
        slot = a.form.slot ∙ alike.slot ∙ sym b.form.slot;
        capacity = a.form.capacity ∙ alike.capacity ∙ sym b.form.capacity;
        events = a.events ∙ ap (λ events. events ++ event ∷ []) alike.events ∙ sym b.events;
        state = same_step one.state other.state one'.state other'.state event alike.state a.step b.step;
        queue = queue;
        returned = returned;
      }

  next_is : (port : ℕ) → next_job one.state port ≡ next_job other.state port
  next_is port = same_next one.state other.state port alike.state.spots

  pub accepts : (port : ℕ) (message : Message) (stamp stamp' : Stamp) → Accepts one port message stamp one' → Accepts other port message stamp' other' → (stamp ≡ stamp') × AreAlike one' other'
  accepts port message stamp stamp' a b =
      let next = next_is port in (
        a.stamped ∙ (λ i. stamp_of (alike.slot i) (next i)) ∙ sym b.stamped,
        adds _ a.event b.event (a.queue ∙ (λ i. alike.queue i ++ waits (next i) message ∷ []) ∙ sym b.queue) (a.returned ∙ alike.returned ∙ sym b.returned),
      )

  pub takes : (place : ℕ) (envelope envelope' : Envelope) → Takes one place (Some envelope) one' → Takes other place (Some envelope') other' → (envelope ≡ envelope') × AreAlike one' other'
  takes place envelope envelope' a b =
      let lists : a.0 ∷ one'.queue ≡ b.0 ∷ other'.queue = sym a.1 ∙ alike.queue ∙ b.1 in
      let front = first_is a.0 b.0 one'.queue other'.queue lists in (
        a.2 ∙ (λ i. held_by (alike.slot i) (front i) place) ∙ sym b.2,
        adds (First place a.0.job) a.4 (subst (λ (w : Waiting). Adds other (First place w.job) other') (sym front) b.4) (rest_is a.0 b.0 one'.queue other'.queue lists) (a.3 ∙ alike.returned ∙ sym b.3),
      )

  pub takes_back : (place : ℕ) (envelope envelope' : Envelope) → TakesBack one place (Some envelope) one' → TakesBack other place (Some envelope') other' → (envelope ≡ envelope') × AreAlike one' other'
  takes_back place envelope envelope' a b =
      let lists : a.0 ∷ one'.returned ≡ b.0 ∷ other'.returned = sym a.1 ∙ alike.returned ∙ b.1 in
      let front = first_is a.0 b.0 one'.returned other'.returned lists in (
        a.2 ∙ (λ i. held_by (alike.slot i) (front i) place) ∙ sym b.2,
        adds (Again place a.0.job) a.4 (subst (λ (w : Waiting). Adds other (Again place w.job) other') (sym front) b.4) (a.3 ∙ alike.queue ∙ sym b.3) (rest_is a.0 b.0 one'.returned other'.returned lists),
      )

  pub settles : (envelope : Envelope) (fate : Fate) → Settles one envelope fate one' → Settles other envelope fate other' → AreAlike one' other'
  settles envelope fate a b = adds _ a.event b.event (a.queue ∙ alike.queue ∙ sym b.queue) (a.returned ∙ alike.returned ∙ sym b.returned)

  pub gives_back : (envelope : Envelope) → GivesBack one envelope one' → GivesBack other envelope other' → AreAlike one' other'
  gives_back envelope a b =
      adds _ a.event b.event (a.queue ∙ alike.queue ∙ sym b.queue)
      (a.returned ∙ ap (λ list. list ++ waits (job_of envelope.stamp) envelope.message ∷ []) alike.returned ∙ sym b.returned)

  -- nothing changes
  pub stays : one' ≡ one → other' ≡ other → AreAlike one' other'
  stays a b = rw (a, b) alike

  pub closes : Closes one one' → Closes other other' → AreAlike one' other'
  closes a b =
      ⊎_elim
      (λ (was : one.state.closed ≡ true). stays (a.again was) (b.again (alike.state.mark ∙ was)))
      (λ (was : one.state.closed ≡ false). adds Close (a.closed was) (b.closed (alike.state.mark ∙ was)) (a.queue ∙ alike.queue ∙ sym b.queue) (a.returned ∙ alike.returned ∙ sym b.returned))
      (either one.state.closed)

-- what one group has out, one that is alike has out
pub held : (one other : Group) (envelope : Envelope) → AreAlike one other → IsHeld one envelope → IsHeld other envelope
held one other envelope alike is = record { ours = is.ours ∙ alike.slot; there = alike.state.spots (job_of envelope.stamp) ∙ is.there }

-- what one group may accept, one that is alike may accept
pub may_offer : (one other : Group) (port : ℕ) → AreAlike one other → MayOffer one port → MayOffer other port
may_offer one other port alike may =
    let next : accepted_of one.state port ≡ accepted_of other.state port = ap (λ (job : Job). job.number) (same_next one.state other.state port alike.state.spots) in
    let queued : length one.queue ≡ length other.queue = ap length alike.queue in
    (alike.state.mark ∙ may.0, (let m = may.1 in omega arith), (let m = may.2 in let c = alike.capacity in omega arith))

pub fresh : (one other : Group) → IsFresh one → IsFresh other → one.slot ≡ other.slot → one.capacity ≡ other.capacity → AreAlike one other
fresh one other a b slot capacity =
    record {
      slot = slot;
      capacity = capacity;
      events = a.events ∙ sym b.events;
      state = same_start one.state other.state a.state b.state;
      queue = a.queue ∙ sym b.queue;
      returned = a.returned ∙ sym b.returned;
    }

pub flipped : (one other : Group) → AreAlike one other → AreAlike other one
flipped one other alike =
    record {
      slot = sym alike.slot;
      capacity = sym alike.capacity;
      events = sym alike.events;
      state = record { spots = λ job. sym (alike.state.spots job); firsts = λ member. sym (alike.state.firsts member); mark = sym alike.state.mark };
      queue = sym alike.queue;
      returned = sym alike.returned;
    }
