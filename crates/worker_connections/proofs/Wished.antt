-- Each client that would be handed a job stands among the wishes.
use Rattle.std.proofs.Common.{◌≡◌, ◌≢◌, ◌+◌, ℕ, List, length, slice_get, get_or, replicate, Option, Some, None, sym, subst, ap, ◌∙◌, refl, inl, inr, ⊎_elim, arith}
use Rattle.std.specs.List.{slice_set}
use Rattle.std.proofs.Math.ListN.{length-set}
use Rattle.std.proofs.lemmas.Bool.{cases_eq}
use Rattle.std.proofs.lemmas.List.{get_or-set_same}
use Rattle.std.proofs.lemmas.List.Elements.{All-replicate}
use Rattle.std.proofs.lemmas.Option.{slice_get_within, get_or_from_slice_get}
use Rattle.transport.specs.declared.counts.Counts.{Counts}
use Rattle.group_queue.specs.Places.{PlaceState}
use Rattle.conn_engine.specs.Looking.{TakesAt}
use Rattle.conn_engine.specs.declared.phase.Opening.{Opening}
use Rattle.conn_engine.specs.declared.phase.ConnPhase.{ConnPhase}
use Rattle.conn_engine.specs.declared.phase.ConnPhase.TheVariants.{Unconnected, Waiting, Connected, Ended}
use Rattle.conn_service.specs.Services.{ServiceState, opened}
use Rattle.worker_connections.specs.Cells.{InCell, Opens, TakesFrom}
use Rattle.worker_bells.specs.declared.members.Interest.{Interest}
use Rattle.worker_connections.specs.declared.served.ServedCounts.{ServedCounts}
use Rattle.worker_connections.specs.Arrivals.{ArrivedState, opening_at}
use Rattle.worker_connections.specs.Members.{AreWished, HasTaker, TakesIn}
use Rattle.worker_connections.specs.PollerCalls.{PollerCall}
use Rattle.worker_connections.specs.Serving.{TakesIn as TakesInOne}
use Rattle.worker_bells.specs.Wishing.{IsWished}
use Rattle.worker_bells.proofs.Places.{others_stay, put_there}

-- a client has one place
takes_same : (phase : ConnPhase PlaceState) (one other : PlaceState) → TakesAt phase one → TakesAt phase other → one ≡ other
takes_same (Unconnected opened) one other takes takes' = absurd takes
takes_same (Waiting request ticks) one other takes takes' = absurd takes
takes_same (Connected connected) one other takes takes' = cc (takes.0, takes'.0)
takes_same Ended one other takes takes' = absurd takes

some_is : {X : Type 0} (x y : X) → Some x ≡ Some y → x ≡ y
some_is x y same = cc

module _ {T : Type 0} where
  -- what is noted of a client tells its group
  interest_tells : (service : ServiceState PlaceState T) (place : PlaceState) (taken : Option ℕ) → TakesFrom (λ (p : PlaceState). p.group) (Some service) taken
      → TakesAt service.client.conn.phase place → taken ≡ Some place.group
  interest_tells service place None none takes = absurd (none place takes)
  interest_tells service place (Some slot) some takes =
      ap (λ (n : ℕ). Some n) (sym some.2 ∙ ap (λ (p : PlaceState). p.group) (takes_same service.client.conn.phase some.0 place some.1 takes))

  -- the client in a cell is a member with room of just the group that is told
  pub would_take : (cells : List (Option (ServiceState PlaceState T))) (cell slot taken : ℕ) (here : Option (ServiceState PlaceState T)) → slice_get cells cell ≡ Some here
      → TakesFrom (λ (p : PlaceState). p.group) here (Some taken) → taken ≡ slot → TakesIn slot cell cells
  would_take cells cell slot taken None has tells is = absurd (cc tells)
  would_take cells cell slot taken (Some service) has tells is = record { service = service; place = tells.0; here = has; takes = tells.1; group = tells.2 ∙ is }

  pub would_not_take : (cells : List (Option (ServiceState PlaceState T))) (cell slot : ℕ) (taken : Option ℕ) (here : Option (ServiceState PlaceState T)) → slice_get cells cell ≡ Some here
      → TakesFrom (λ (p : PlaceState). p.group) here taken → taken ≢ Some slot → TakesIn slot cell cells → ⊥
  would_not_take cells cell slot taken here has tells other takes =
      let is : here ≡ Some takes.service = some_is here (Some takes.service) (sym has ∙ takes.here) in
      let told = subst (λ (c : Option (ServiceState PlaceState T)). TakesFrom (λ (p : PlaceState). p.group) c taken) is tells in
      other (interest_tells takes.service takes.place taken told takes.takes ∙ ap (λ (n : ℕ). Some n) takes.group)

  -- no cell has a connection
  pub none_wished : (count : ℕ) (cells : List (Option (ServiceState PlaceState T))) (interests : List Interest) → cells ≡ replicate count None → AreWished cells interests
  none_wished count cells interests free cell service place has takes =
      let IsNone : Option (ServiceState PlaceState T) → Type 0 = λ c. c ≡ None in
      let all = All-replicate IsNone count None refl in
      let has' = subst (λ (cs : List (Option (ServiceState PlaceState T))). slice_get cs cell ≡ Some (Some service)) free has in
      let none = subst IsNone (get_or_from_slice_get (replicate count None) cell (Some service) None has') (all cell None (slice_get_within (replicate count None) cell (Some service) has')) in
      absurd (cc none)

  opened_takes : (service : ServiceState PlaceState T) (number : ℕ) (opening : Opening) (transport : T) (place : PlaceState) → service ≡ opened number opening transport → TakesAt service.client.conn.phase place → ⊥
  opened_takes service number opening transport place is takes =
      subst (λ (s : ServiceState PlaceState T). TakesAt s.client.conn.phase place) is takes

  opened_one : (number : ℕ) (opening : Opening) (transport : T) (before after : Option (ServiceState PlaceState T)) (service : ServiceState PlaceState T) (place : PlaceState) → Opens number opening transport before after
      → after ≡ Some service → TakesAt service.client.conn.phase place → ⊥
  opened_one number opening transport before None service place opened_so is takes = absurd opened_so.1
  opened_one number opening transport before (Some other) service place opened_so is takes =
      opened_takes service number opening transport place (sym (some_is other service is) ∙ opened_so.1) takes

  -- one that is opened would not be handed a job
  wished_opened : (cells cells' : List (Option (ServiceState PlaceState T))) (interests : List Interest) (cell number : ℕ) (opening : Opening) (transport : T) → AreWished cells interests
      → InCell cells cell (Opens number opening transport) cells' → AreWished cells' interests
  wished_opened cells cells' interests cell number opening transport are made k service place has takes =
      let has' = subst (λ (cs : List (Option (ServiceState PlaceState T))). slice_get cs k ≡ Some (Some service)) made.is has in
      ⊎_elim
      (λ (is : k ≡ cell).
      let here = subst (λ n. slice_get (slice_set cells cell made.after) n ≡ Some (Some service)) is has' in
      let after = some_is made.after (Some service) (sym (put_there cells cell made.after (slice_get_within cells cell made.before made.has)) ∙ here) in
      absurd (opened_one number opening transport made.before made.after service place made.becomes after takes))
      (λ (other : k ≢ cell). are k service place (sym (others_stay cells cell k made.after other) ∙ has') takes)
      (cases_eq k cell)

  -- nor would one that came
  pub wished_came : (counts : T → Counts) (given accepted : T → Option (List ℕ)) (arrived : ArrivedState T) (cells cells' : List (Option (ServiceState PlaceState T)))
      (served served' : ServedCounts) (poller_calls poller_calls' : Option (List (PollerCall T))) (interests : List Interest) (first now : ℕ) → length interests ≡ length cells
      → AreWished cells interests → TakesInOne counts given accepted first now arrived cells served poller_calls cells' served' poller_calls' → (length interests ≡ length cells') × AreWished cells' interests
  wished_came counts given accepted arrived cells cells' served served' poller_calls poller_calls' interests first now long are (inl opened) = (
    omega (arith, long, ap length opened.1.2.is, length-set cells opened.0 opened.1.2.after),
    wished_opened cells cells' interests opened.0 (first + opened.0) (opening_at now arrived) opened.1.0 are opened.1.2,
  )
  wished_came counts given accepted arrived cells cells' served served' poller_calls poller_calls' interests first now long are (inr refused) =
      subst (λ those. (length interests ≡ length those) × AreWished those interests) (sym refused.0.0) (long, are)

  -- after a round the wish of the connection in its cell is noted
  pub wished_noted : (cells cells' : List (Option (ServiceState PlaceState T))) (interests interests' : List Interest) (cell : ℕ) (before after : Option (ServiceState PlaceState T)) (interest : Interest)
      → length interests ≡ length cells → AreWished cells interests → slice_get cells cell ≡ Some before → cells' ≡ slice_set cells cell after
      → TakesFrom (λ (p : PlaceState). p.group) (get_or cells' cell None) interest.takes → interests' ≡ slice_set interests cell interest → AreWished cells' interests'
  wished_noted cells cells' interests interests' cell before after interest long are has is tells noted k service place here takes =
      let within = slice_get_within cells cell before has in
      let here' = subst (λ (cs : List (Option (ServiceState PlaceState T))). slice_get cs k ≡ Some (Some service)) is here in
      let Told : List Interest → Type 0 = λ ws. (w : Interest) × (slice_get ws k ≡ Some w) × (w.takes ≡ Some place.group) in
      subst Told (sym noted) (⊎_elim
      (λ (same : k ≡ cell).
      let at_cell = subst (λ n. slice_get (slice_set cells cell after) n ≡ Some (Some service)) same here' in
      let after_is = some_is after (Some service) (sym (put_there cells cell after within) ∙ at_cell) in
      let cell_is : get_or cells' cell None ≡ Some service =
      ap (λ (cs : List (Option (ServiceState PlaceState T))). get_or cs cell None) is ∙ (get_or-set_same cells cell after None within ∙ after_is) in
      let told = subst (λ (c : Option (ServiceState PlaceState T)). TakesFrom (λ (p : PlaceState). p.group) c interest.takes) cell_is tells in (
        interest,
        subst (λ n. slice_get (slice_set interests cell interest) n ≡ Some interest) (sym same) (put_there interests cell interest (omega (arith, long, within))),
        interest_tells service place interest.takes told takes,
      ))
      (λ (other : k ≢ cell).
      let was = are k service place (sym (others_stay cells cell k after other) ∙ here') takes in
      (was.0, others_stay interests cell k interest other ∙ was.1, was.2))
      (cases_eq k cell))

  -- whoever has room stands among the wishes
  pub has_interest : (cells : List (Option (ServiceState PlaceState T))) (interests : List Interest) (slot : ℕ) → AreWished cells interests → HasTaker slot cells → IsWished slot interests
  has_interest cells interests slot are taker =
      let told = are taker.cell taker.service taker.place taker.here taker.takes in
      (taker.cell, told.0, told.1, told.2 ∙ ap (λ (n : ℕ). Some n) taker.group)
