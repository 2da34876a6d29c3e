-- A life gives its connection one session at most, and what it sends is legal from what that held.
use Rattle.std.proofs.Common.{◌≡◌, ◌⊎◌, ℕ, Bool, false, List, [], ◌∷◌, ◌++◌, Option, None, refl, sym, ap, subst, ◌∙◌, append-nil, append_assoc, inl, inr}
use Rattle.std.specs.List.{AllByRecursion}
use Rattle.mqtt_packet.specs.declared.packet.Connect.{Connect}
use Rattle.mqtt_packet.specs.declared.packet.Packet.TheVariants as packets
use Rattle.transport.specs.declared.counts.Counts.{Counts}
use Rattle.group_jobs.specs.Stamps.{Held}
use Rattle.member_window.specs.Contents.{Contents, IsSound}
use Rattle.member_window.specs.Marks.{Mark}
use Rattle.member_window.specs.Transcript.{IsLegalFrom}
use Rattle.member_window.specs.Runs.{window_state}
use Rattle.conn_rules.specs.declared.client_limits.ClientLimits.{ClientLimits}
use Rattle.conn_supply.specs.SupplyCalls.{SupplyCall}
use Rattle.conn_engine.specs.declared.input.Input.TheVariants as inputs
use Rattle.conn_engine.specs.declared.phase.Opening.{Opening}
use Rattle.conn_engine.specs.declared.phase.ConnPhase.{ConnPhase}
use Rattle.conn_engine.specs.declared.phase.ConnPhase.TheVariants.{Unconnected}
use Rattle.conn_laws.specs.Behind.{KeepsOrEnds}
use Rattle.conn_laws.specs.Marks.{publishes_in}
use Rattle.conn_laws.specs.Transcripts.{connected_of}
use Rattle.conn_laws.proofs.Aside.{all_of_both}
use Rattle.conn_service.specs.Services.{ServiceState}
use Rattle.conn_service.specs.Acts.{Act, input_in, packets_sent}
use Rattle.conn_service.specs.Lives.{Does}
use Rattle.conn_service.specs.Sessions.{Comes, IsNotUp, Gives, LeadsBy, EachAdds, GivesSession, NoneGives, session_of, SendsLegally, IsLegalLife}
use Rattle.conn_service.proofs.Marks.{joined, some_keeps, none_is_over, LegalAt, legal_at, leads_at, begins_so}
use Rattle.conn_service.proofs.Turns.{SendsNone, none_in_all, AreAsked, TermsAt, terms_given, turn_terms, Turn, turn_keeps, turn_whose, FirstTurn, first_turn, none_after, turns_on, turn}

comes_earlier : (connect : Connect) (acts others : List Act) → Comes connect acts → Comes connect (acts ++ others)
comes_earlier connect [] others comes = absurd comes
comes_earlier connect (act ∷ acts) others (inl is) = inl is
comes_earlier connect (act ∷ acts) others (inr comes) = inr (comes_earlier connect acts others comes)

comes_last : (connect : Connect) (acts : List Act) (last : Act) → input_in last ≡ inputs.Packet (packets.Connect connect) ∷ [] → Comes connect (acts ++ last ∷ [])
comes_last connect [] last is = inl is
comes_last connect (act ∷ acts) last is = inr (comes_last connect acts last is)

module _ {S P T : Type 0} (call : S → SupplyCall P → S → Type 0) (begins ends : S → S → Type 0) (visiting : S → Bool) (slot_of : P → ℕ)
    (counts : T → Counts) (given accepted : T → Option (List ℕ)) where
  its_turn : (act : Act) (old new : ServiceState P T) (supply supply' : S) → Does call begins ends visiting slot_of counts given accepted act old supply new supply' → Turn call slot_of act old supply new supply'
  its_turn act old new supply supply' does = turn call begins ends visiting slot_of counts given accepted act old new supply supply' does

  abbrev Leading : List Act → ServiceState P T → S → ServiceState P T → S → Type 0
  Leading acts old supply new supply' = LeadsBy call begins ends visiting slot_of counts given accepted acts old supply new supply'

  abbrev GivesIn : List Act → ServiceState P T → S → ServiceState P T → S → Type 0
  GivesIn acts old supply new supply' = GivesSession call begins ends visiting slot_of counts given accepted acts old supply new supply'

  -- one act more, in front
  gives_later : (act : Act) (acts : List Act) (old between new : ServiceState P T) (supply mid supply' : S) → Does call begins ends visiting slot_of counts given accepted act old supply between mid
      → GivesIn acts between mid new supply' → GivesIn (act ∷ acts) old supply new supply'
  gives_later act acts old between new supply mid supply' one life =
      record {
        earlier = act ∷ life.earlier;
        act = life.act;
        later = life.later;
        parts = ap (λ (l : List Act). act ∷ l) life.parts;
        before = life.before;
        supply_before = life.supply_before;
        after = life.after;
        supply_after = life.supply_after;
        till_then = (between, mid, one, life.till_then);
        does = life.does;
        from_then = life.from_then;
        gives = life.gives;
      }

  gives_first : (act : Act) (acts : List Act) (old new : ServiceState P T) (supply supply' : S) → (does : Leading (act ∷ acts) old supply new supply')
      → Gives call act old supply does.0 does.1 → GivesIn (act ∷ acts) old supply new supply'
  gives_first act acts old new supply supply' does gives =
      record {
        earlier = [];
        act = act;
        later = acts;
        parts = refl;
        before = old;
        supply_before = supply;
        after = does.0;
        supply_after = does.1;
        till_then = (refl, refl);
        does = does.2;
        from_then = does.3;
        gives = gives;
      }

  abbrev NoneOrGives : List Act → ServiceState P T → S → ServiceState P T → S → Type 0
  NoneOrGives acts old supply new supply' = (publishes_in (packets_sent acts) ≡ []) ⊎ GivesIn acts old supply new supply'

  after_first : (act : Act) (acts : List Act) (old new : ServiceState P T) (supply supply' : S) → (does : Leading (act ∷ acts) old supply new supply') → SendsNone act
      → NoneOrGives acts does.0 does.1 new supply' → NoneOrGives (act ∷ acts) old supply new supply'
  after_first act acts old new supply supply' does none (inl others) = inl (none_in_all act acts none others)
  after_first act acts old new supply supply' does none (inr life) = inr (gives_later act acts old does.0 new supply does.1 supply' does.2 life)

  first_or_later : (act : Act) (acts : List Act) (old new : ServiceState P T) (supply supply' : S) → (does : Leading (act ∷ acts) old supply new supply') → FirstTurn call slot_of act old supply does.0 does.1
      → (connected_of does.0.client.conn.phase ≡ None → NoneOrGives acts does.0 does.1 new supply') → NoneOrGives (act ∷ acts) old supply new supply'
  first_or_later act acts old new supply supply' does (inl none) on = after_first act acts old new supply supply' does none.0 (on none.1)
  first_or_later act acts old new supply supply' does (inr gives) on = inr (gives_first act acts old new supply supply' does gives)

  -- no PUBLISH is sent, or a session is given
  none_or_gives : (acts : List Act) (old new : ServiceState P T) (supply supply' : S) → connected_of old.client.conn.phase ≡ None → Leading acts old supply new supply' → NoneOrGives acts old supply new supply'
  none_or_gives [] old new supply supply' none does = inl refl
  none_or_gives (act ∷ acts) old new supply supply' none does =
      first_or_later act acts old new supply supply' does (first_turn call slot_of act old does.0 supply does.1 none (its_turn act old does.0 supply does.1 does.2))
      (λ still. none_or_gives acts does.0 new does.1 supply' still does.3)

  -- who has its session has it after these acts, or its connection has ended
  all_keep : (acts : List Act) (old new : ServiceState P T) (supply supply' : S) → KeepsOrEnds old.client.conn.phase → Leading acts old supply new supply' → KeepsOrEnds new.client.conn.phase
  all_keep [] old new supply supply' keeps does = subst (λ (s : ServiceState P T). KeepsOrEnds s.client.conn.phase) (sym does.0) keeps
  all_keep (act ∷ acts) old new supply supply' keeps does =
      all_keep acts does.0 new does.1 supply' (turn_keeps call slot_of act old does.0 supply does.1 keeps (its_turn act old does.0 supply does.1 does.2)) does.3

  -- acts before there is a session send no PUBLISH
  abbrev NoneOrKeeps : List Act → ServiceState P T → Type 0
  NoneOrKeeps acts new = (publishes_in (packets_sent acts) ≡ []) ⊎ KeepsOrEnds new.client.conn.phase

  none_more : (act : Act) (acts : List Act) (new : ServiceState P T) → SendsNone act → NoneOrKeeps acts new → NoneOrKeeps (act ∷ acts) new
  none_more act acts new none (inl others) = inl (none_in_all act acts none others)
  none_more act acts new none (inr keeps) = inr keeps

  none_by : (act : Act) (acts : List Act) (old new : ServiceState P T) (supply supply' : S) → (does : Leading (act ∷ acts) old supply new supply') → FirstTurn call slot_of act old supply does.0 does.1
      → (connected_of does.0.client.conn.phase ≡ None → NoneOrKeeps acts new) → NoneOrKeeps (act ∷ acts) new
  none_by act acts old new supply supply' does (inl none) on = none_more act acts new none.0 (on none.1)
  none_by act acts old new supply supply' does (inr gives) on =
      inr (all_keep acts does.0 new does.1 supply' (some_keeps does.0.client.conn.phase gives.connected gives.has) does.3)

  none_till : (acts : List Act) (old new : ServiceState P T) (supply supply' : S) → connected_of old.client.conn.phase ≡ None → Leading acts old supply new supply' → NoneOrKeeps acts new
  none_till [] old new supply supply' none does = inl refl
  none_till (act ∷ acts) old new supply supply' none does =
      none_by act acts old new supply supply' does (first_turn call slot_of act old does.0 supply does.1 none (its_turn act old does.0 supply does.1 does.2)) (λ still. none_till acts does.0 new does.1 supply' still does.3)

  none_sent : {acts : List Act} (old : ServiceState P T) (supply : S) {new : ServiceState P T} {supply' : S} (life : GivesIn acts old supply new supply') → NoneOrKeeps life.earlier life.before
      → publishes_in (packets_sent life.earlier) ≡ []
  none_sent old supply life (inl none) = none
  none_sent old supply life (inr keeps) =
      absurd (none_after call slot_of life.act life.before life.after life.supply_before life.supply_after (none_is_over life.before.client.conn.phase keeps life.gives.none) life.gives
      (its_turn life.act life.before life.after life.supply_before life.supply_after life.does))

  -- no session is given to a connection that has one, or has ended
  none_gives : (acts : List Act) (old new : ServiceState P T) (supply supply' : S) → KeepsOrEnds old.client.conn.phase → (does : Leading acts old supply new supply')
      → NoneGives call begins ends visiting slot_of counts given accepted acts old supply new supply' does
  none_gives [] old new supply supply' keeps does = tt
  none_gives (act ∷ acts) old new supply supply' keeps does =
      let its = its_turn act old does.0 supply does.1 does.2 in (
        (λ gives. none_after call slot_of act old does.0 supply does.1 (none_is_over old.client.conn.phase keeps gives.none) gives its),
        none_gives acts does.0 new does.1 supply' (turn_keeps call slot_of act old does.0 supply does.1 keeps its) does.3,
      )

  -- the number of a connection stays
  all_whose : (acts : List Act) (old new : ServiceState P T) (supply supply' : S) → Leading acts old supply new supply' → new.client.conn.number ≡ old.client.conn.number
  all_whose [] old new supply supply' does = ap (λ (s : ServiceState P T). s.client.conn.number) does.0
  all_whose (act ∷ acts) old new supply supply' does =
      all_whose acts does.0 new does.1 supply' does.3 ∙ turn_whose call slot_of act old does.0 supply does.1 (its_turn act old does.0 supply does.1 does.2)

  -- the terms of a connection are those of a CONNECT that came
  terms_till : (limits : ClientLimits) (Came : Connect → Type 0) (acts : List Act) (old new : ServiceState P T) (supply supply' : S) → ((connect : Connect) → Comes connect acts → Came connect)
      → TermsAt call slot_of limits Came old.client.conn.phase → Leading acts old supply new supply' → TermsAt call slot_of limits Came new.client.conn.phase
  terms_till limits Came [] old new supply supply' came kept does =
      subst (λ (s : ServiceState P T). TermsAt call slot_of limits Came s.client.conn.phase) (sym does.0) kept
  terms_till limits Came (act ∷ acts) old new supply supply' came kept does =
      terms_till limits Came acts does.0 new does.1 supply' (λ connect comes. came connect (inr comes))
      (turn_terms call slot_of limits Came act old does.0 supply does.1 (λ connect is. came connect (inl is)) kept (its_turn act old does.0 supply does.1 does.2)) does.3

  terms_in : (opening : Opening) {acts : List Act} (old : ServiceState P T) (supply : S) {new : ServiceState P T} {supply' : S} (life : GivesIn acts old supply new supply')
      → old.client.conn.phase ≡ Unconnected opening → AreAsked opening.limits (λ connect. Comes connect (life.earlier ++ life.act ∷ [])) life.gives.connected.terms
  terms_in opening old supply life is =
      let Came = (λ (connect : Connect). Comes connect (life.earlier ++ life.act ∷ [])) in
      let till = terms_till opening.limits Came life.earlier old life.before supply life.supply_before (λ connect comes. comes_earlier connect life.earlier (life.act ∷ []) comes)
      (subst (λ (phase : ConnPhase P). TermsAt call slot_of opening.limits Came phase) (sym is) refl) life.till_then in
      terms_given call slot_of opening.limits Came life.after.client.conn.phase life.gives.connected life.gives.has
      (turn_terms call slot_of opening.limits Came life.act life.before life.after life.supply_before life.supply_after (λ connect is. comes_last connect life.earlier life.act is) till
      (its_turn life.act life.before life.after life.supply_before life.supply_after life.does))

  -- the acts of a connection that has its session, or has ended
  record GoesOn (first : Contents Held) (told : List (Mark Held)) (acts : List Act) (old : ServiceState P T) (supply : S) (new : ServiceState P T) (supply' : S)
      (does : Leading acts old supply new supply') : Type 0 where
    added : List (List (Mark Held))
    adds : EachAdds call begins ends visiting slot_of counts given accepted acts old supply new supply' does added
    no_other_up : AllByRecursion IsNotUp (joined added)
    legal : IsLegalFrom (window_state first) (told ++ joined added)

  goes_on : (first : Contents Held) (told : List (Mark Held)) (acts : List Act) (old new : ServiceState P T) (supply supply' : S) → KeepsOrEnds old.client.conn.phase → LegalAt first told old.client.conn.phase
      → (does : Leading acts old supply new supply') → GoesOn first told acts old supply new supply' does
  goes_on first told [] old new supply supply' keeps legal does =
      record {
        added = [];
        adds = tt;
        no_other_up = tt;
        legal = subst (λ (m : List (Mark Held)). IsLegalFrom (window_state first) m) (sym (append-nil told)) (legal_at first told old.client.conn.phase legal);
      }
  goes_on first told (act ∷ acts) old new supply supply' keeps legal does =
      let its = its_turn act old does.0 supply does.1 does.2 in
      let turned = turns_on call slot_of first told act old does.0 supply does.1 keeps legal (turn_keeps call slot_of act old does.0 supply does.1 keeps its) its in
      let rest = goes_on first (told ++ turned.marks) acts does.0 new does.1 supply' turned.keeps turned.legal does.3 in
      record {
        added = turned.marks ∷ rest.added;
        adds = (turned.adds, rest.adds);
        no_other_up = all_of_both IsNotUp turned.marks (joined rest.added) turned.no_up rest.no_other_up;
        legal = subst (λ (m : List (Mark Held)). IsLegalFrom (window_state first) m) (append_assoc told turned.marks (joined rest.added)) rest.legal;
      }

  sends : (acts : List Act) (old new : ServiceState P T) (supply supply' : S) → (life : GivesIn acts old supply new supply')
      → IsSound (session_of call begins ends visiting slot_of counts given accepted life).window → (session_of call begins ends visiting slot_of counts given accepted life).window.retired ≡ false
      → SendsLegally call begins ends visiting slot_of counts given accepted life
  sends acts old new supply supply' life sound going =
      let gives = life.gives in
      let window = gives.begun.session.window in
      let leads = begins_so call life.supply_before life.supply_after life.before.client.conn.number gives.connected gives.marks gives.begun sound going in
      let rest = goes_on window gives.marks life.later life.after new life.supply_after supply' (some_keeps life.after.client.conn.phase gives.connected gives.has)
      (leads_at window gives.marks life.after.client.conn.phase gives.connected gives.has leads) life.from_then in
      record {
        added = rest.added;
        adds = rest.adds;
        no_other_up = rest.no_other_up;
        legal = rest.legal;
      }

  pub lives : (opening : Opening) (acts : List Act) (old new : ServiceState P T) (supply supply' : S) → old.client.conn.phase ≡ Unconnected opening → Leading acts old supply new supply'
      → IsLegalLife call begins ends visiting slot_of counts given accepted opening.limits acts old supply new supply'
  lives opening acts old new supply supply' is does =
      let none : connected_of old.client.conn.phase ≡ None = ap connected_of is in
      record {
        of_session = none_or_gives acts old new supply supply' none does;
        is_once = λ life.
            let asked = terms_in opening old supply life is in
            record {
              whose = life.gives.begun.asks.whose ∙ all_whose life.earlier old life.before supply life.supply_before life.till_then;
              connect = asked.0;
              comes = asked.1;
              served = asked.2;
              terms_are = asked.3;
              none_before = none_sent old supply life (none_till life.earlier old life.before supply life.supply_before none life.till_then);
              no_other =
                  none_gives life.later life.after new life.supply_after supply' (some_keeps life.after.client.conn.phase life.gives.connected life.gives.has) life.from_then;
            };
        is_legal = λ life sound going. sends acts old new supply supply' life sound going;
      }
