-- What the calls of a transport make of a connection: one act each.
use Rattle.std.proofs.Common.{◌≡◌, ◌≢◌, ◌⊎◌, ℕ, ◌<◌, ◌≤◌, ◌+◌, min, nat_lt, ◌-◌, IsTrue, if◌then◌else◌, Bool, true, false, List, [], ◌++◌, length, take, drop, Option, Some, None, refl, sym, ap, subst, ◌∙◌, inl, append-nil, arith}
use Rattle.std.proofs.lemmas.List.{take-append-drop, length-take}
use Rattle.std.specs.Io.KnownBytes.{append_known}
use Rattle.transport.specs.declared.counts.Counts.{Counts}
use Rattle.transport.specs.Counting.{after_got, after_put}
use Rattle.transport.specs.declared.answers.Got.TheVariants as got
use Rattle.transport.specs.declared.answers.Put.TheVariants as put
use Rattle.conn_engine.specs.declared.phase.ConnPhase.{ConnPhase}
use Rattle.conn_engine.specs.declared.phase.ConnPhase.TheVariants.{Unconnected, Waiting, Connected, Ended}
use Rattle.conn_engine.specs.Phases.{IsWaiting}
use Rattle.client_table.specs.Clients.{ClientState}
use Rattle.client_table.specs.Streams.{fed}
use Rattle.conn_service.specs.declared.served.Served.TheVariants as served
use Rattle.conn_service.specs.Services.{ServiceState, patience}
use Rattle.conn_service.specs.Moments.{kept_since}
use Rattle.conn_service.specs.Acts.{Reads, Starves, IsStopped, Stalls, Ends}
use Rattle.conn_service.specs.Visits.{Outside, Behind, Inside}
use Rattle.conn_service.specs.Edges.{MayRead, ReadsOnce, WritesOnce, LeadsAtEdge}
use Rattle.conn_service.proofs.Leading.{edge_one}

-- nothing after known bytes
nothing_known : (known : Option (List ℕ)) → append_known known [] ≡ known
nothing_known None = refl
nothing_known (Some xs) = ap Some (append-nil xs)

some_limit : (ended : Bool) (limit : ℕ) → limit ≡ (if ended then 1000 else 60000) → 0 < limit
some_limit true limit is = omega arith
some_limit false limit is = omega arith

module _ {P T : Type 0} (counts : T → Counts) (given accepted : T → Option (List ℕ)) where
  -- some of what waits was taken
  wrote_here : (now count : ℕ) (old : ServiceState P T) (transport : T) (bytes left : List ℕ) → old.ending ≡ None → old.outgoing ≢ [] → bytes ≡ old.outgoing → left ≡ drop count old.outgoing
      → (0 < count) × (count ≤ length bytes) → counts transport ≡ counts old.transport → given transport ≡ given old.transport
      → accepted transport ≡ append_known (accepted old.transport) (take count bytes)
      → WritesOnce counts given accepted now (put.Wrote count) old (record old { transport = transport; outgoing = left; since = now; refused = 0 })
  wrote_here now count old transport bytes left going waits are left_is within counted given_is accepted_is =
      record {
        going = going;
        waits = waits;
        taken = take count old.outgoing;
        front = sym (take-append-drop count old.outgoing) ∙ ap (λ (l : List ℕ). take count old.outgoing ++ l) (sym left_is);
        count = let l = ap length are in let w = within.1 in simp length-take (omega arith);
        some = within.0;
        counted = counted;
        given_is = given_is;
        accepted_is = accepted_is ∙ ap (λ (l : List ℕ). append_known (accepted old.transport) (take count l)) are;
        becomes = λ i. record old { transport = transport; outgoing = left; since = now; refused = 0; ending = going i };
      }

  pub wrote : (now count : ℕ) (old inside : ServiceState P T) (transport : T) (bytes left : List ℕ) → inside ≡ old → old.ending ≡ None → old.outgoing ≢ [] → bytes ≡ inside.outgoing
      → left ≡ drop count inside.outgoing → (0 < count) × (count ≤ length bytes) → counts transport ≡ counts inside.transport → given transport ≡ given inside.transport
      → accepted transport ≡ append_known (accepted inside.transport) (take count bytes)
      → WritesOnce counts given accepted now (put.Wrote count) old (record inside { transport = transport; outgoing = left; since = now; refused = 0 })
  wrote now count old inside transport bytes left is going waits are left_is within counted given_is accepted_is =
      subst (λ (s : ServiceState P T). WritesOnce counts given accepted now (put.Wrote count) s (record inside { transport = transport; outgoing = left; since = now; refused = 0 })) is
      (wrote_here now count inside transport bytes left (ap (λ (s : ServiceState P T). s.ending) is ∙ going) (λ none. waits (sym (ap (λ (s : ServiceState P T). s.outgoing) is) ∙ none)) are
      left_is within counted given_is accepted_is)

  -- nothing was taken
  idled_here : (now refused : ℕ) (old : ServiceState P T) (transport : T) → old.ending ≡ None → old.outgoing ≢ [] → refused ≡ min (old.refused + 1) 600
      → counts transport ≡ counts old.transport → given transport ≡ given old.transport → accepted transport ≡ accepted old.transport
      → WritesOnce counts given accepted now put.Idle old (record old { transport = transport; refused = refused })
  idled_here now refused old transport going waits refused_is counted given_is accepted_is =
      record {
        going = going;
        waits = waits;
        taken = [];
        front = refl;
        count = refl;
        some = tt;
        counted = counted;
        given_is = given_is;
        accepted_is = accepted_is ∙ sym (nothing_known (accepted old.transport));
        becomes = λ i. record old { transport = transport; refused = refused_is i; ending = going i };
      }

  pub idled : (now refused : ℕ) (old inside : ServiceState P T) (transport : T) → inside ≡ old → old.ending ≡ None → old.outgoing ≢ [] → refused ≡ min (inside.refused + 1) 600
      → counts transport ≡ counts inside.transport → given transport ≡ given inside.transport → accepted transport ≡ accepted inside.transport
      → WritesOnce counts given accepted now put.Idle old (record inside { transport = transport; refused = refused })
  idled now refused old inside transport is going waits refused_is counted given_is accepted_is =
      subst (λ (s : ServiceState P T). WritesOnce counts given accepted now put.Idle s (record inside { transport = transport; refused = refused })) is
      (idled_here now refused inside transport (ap (λ (s : ServiceState P T). s.ending) is ∙ going) (λ none. waits (sym (ap (λ (s : ServiceState P T). s.outgoing) is) ∙ none)) refused_is
      counted given_is accepted_is)

  -- the write failed
  failed_here : (now : ℕ) (old : ServiceState P T) (transport : T) → old.ending ≡ None → old.outgoing ≢ []
      → counts transport ≡ after_put put.Failed (counts old.transport) → given transport ≡ given old.transport → accepted transport ≡ accepted old.transport
      → WritesOnce counts given accepted now put.Failed old (record old { transport = transport; ending = Some served.Write })
  failed_here now old transport going waits counted given_is accepted_is =
      record {
        going = going;
        waits = waits;
        taken = [];
        front = refl;
        count = refl;
        some = tt;
        counted = counted;
        given_is = given_is;
        accepted_is = accepted_is ∙ sym (nothing_known (accepted old.transport));
        becomes = refl;
      }

  pub write_failed : (now : ℕ) (old inside : ServiceState P T) (transport : T) → inside ≡ old → old.ending ≡ None → old.outgoing ≢ []
      → counts transport ≡ after_put put.Failed (counts inside.transport) → given transport ≡ given inside.transport → accepted transport ≡ accepted inside.transport
      → WritesOnce counts given accepted now put.Failed old (record inside { transport = transport; ending = Some served.Write })
  write_failed now old inside transport is going waits counted given_is accepted_is =
      subst (λ (s : ServiceState P T). WritesOnce counts given accepted now put.Failed s (record inside { transport = transport; ending = Some served.Write })) is
      (failed_here now inside transport (ap (λ (s : ServiceState P T). s.ending) is ∙ going) (λ none. waits (sym (ap (λ (s : ServiceState P T). s.outgoing) is) ∙ none))
      counted given_is accepted_is)

  -- what a read comes to, for a connection that may be read
  may_along : (old inside : ServiceState P T) → inside ≡ old → MayRead counts given accepted old → MayRead counts given accepted inside
  may_along old inside is may = subst (MayRead counts given accepted) (sym is) may

  gave_here : (size count : ℕ) (old : ServiceState P T) (client : ClientState P) (transport : T) (bytes : List ℕ) (kept : ℕ) (drained : Bool) → MayRead counts given accepted old
      → client ≡ fed old.client bytes → kept ≡ kept_since old.client.conn.phase old.kept count → drained ≡ nat_lt count size → length bytes ≡ count → counts transport ≡ counts old.transport
      → given transport ≡ append_known (given old.transport) bytes → accepted transport ≡ accepted old.transport
      → ReadsOnce counts given accepted size (got.Bytes count) bytes old (record old { client = client; transport = transport; kept = kept; drained = drained })
  gave_here size count old client transport bytes kept drained may client_is kept_is drained_is length_is counted given_is accepted_is =
      record {
        may = may;
        gives = record { count = length_is; counted = counted; given_is = given_is; accepted_is = accepted_is };
        becomes = λ i. record old { client = client_is i; transport = transport; kept = kept_is i; drained = drained_is i; at_end = may.not_at_end i; ending = may.going i };
      }

  pub gave : (size count : ℕ) (old inside : ServiceState P T) (client : ClientState P) (transport : T) (bytes : List ℕ) (kept : ℕ) (drained : Bool) → inside ≡ old
      → MayRead counts given accepted old → client ≡ fed inside.client bytes → kept ≡ kept_since inside.client.conn.phase inside.kept count → drained ≡ nat_lt count size → length bytes ≡ count → counts transport ≡ counts inside.transport
      → given transport ≡ append_known (given inside.transport) bytes → accepted transport ≡ accepted inside.transport
      → ReadsOnce counts given accepted size (got.Bytes count) bytes old (record inside { client = client; transport = transport; kept = kept; drained = drained })
  gave size count old inside client transport bytes kept drained is may client_is kept_is drained_is length_is counted given_is accepted_is =
      subst (λ (s : ServiceState P T). ReadsOnce counts given accepted size (got.Bytes count) bytes s (record inside { client = client; transport = transport; kept = kept; drained = drained })) is
      (gave_here size count inside client transport bytes kept drained (may_along old inside is may) client_is kept_is drained_is length_is counted given_is accepted_is)

  -- how much of a stream is kept, where the connection waits and where it does not
  pub kept_is : (phase : ConnPhase P) (wants : Bool) (kept count next : ℕ) → (IsTrue wants → ¬ IsWaiting phase) × (¬ IsWaiting phase → IsTrue wants)
      → next ≡ (if wants then 0 else min (kept + count) 65536) → next ≡ kept_since phase kept count
  kept_is (Unconnected opened) true kept count next is next_is = next_is
  kept_is (Unconnected opened) false kept count next is next_is = cc (is.1 (λ waits. waits))
  kept_is (Waiting request ticks) true kept count next is next_is = absurd (is.0 refl tt)
  kept_is (Waiting request ticks) false kept count next is next_is = next_is
  kept_is (Connected connected) true kept count next is next_is = next_is
  kept_is (Connected connected) false kept count next is next_is = cc (is.1 (λ waits. waits))
  kept_is Ended true kept count next is next_is = next_is
  kept_is Ended false kept count next is next_is = cc (is.1 (λ waits. waits))

  -- nothing came
  none_here : (size : ℕ) (old : ServiceState P T) (transport : T) → MayRead counts given accepted old
      → counts transport ≡ after_got got.Idle (counts old.transport) → given transport ≡ given old.transport → accepted transport ≡ accepted old.transport
      → ReadsOnce counts given accepted size got.Idle [] old (record old { transport = transport; drained = true })
  none_here size old transport may counted given_is accepted_is =
      record {
        may = may;
        gives = record { count = refl; counted = counted; given_is = given_is ∙ sym (nothing_known (given old.transport)); accepted_is = accepted_is };
        becomes = λ i. record old { transport = transport; drained = true; at_end = may.not_at_end i; ending = may.going i };
      }

  pub none : (size : ℕ) (old inside : ServiceState P T) (transport : T) → inside ≡ old → MayRead counts given accepted old
      → counts transport ≡ after_got got.Idle (counts inside.transport) → given transport ≡ given inside.transport → accepted transport ≡ accepted inside.transport
      → ReadsOnce counts given accepted size got.Idle [] old (record inside { transport = transport; drained = true })
  none size old inside transport is may counted given_is accepted_is =
      subst (λ (s : ServiceState P T). ReadsOnce counts given accepted size got.Idle [] s (record inside { transport = transport; drained = true })) is
      (none_here size inside transport (may_along old inside is may) counted given_is accepted_is)

  -- the stream has ended
  ended_here : (size : ℕ) (old : ServiceState P T) (transport : T) → MayRead counts given accepted old
      → counts transport ≡ after_got got.End (counts old.transport) → given transport ≡ given old.transport → accepted transport ≡ accepted old.transport
      → ReadsOnce counts given accepted size got.End [] old (record old { transport = transport; drained = true; at_end = true })
  ended_here size old transport may counted given_is accepted_is =
      record {
        may = may;
        gives = record { count = refl; counted = counted; given_is = given_is ∙ sym (nothing_known (given old.transport)); accepted_is = accepted_is };
        becomes = λ i. record old { transport = transport; drained = true; at_end = true; ending = may.going i };
      }

  pub ended : (size : ℕ) (old inside : ServiceState P T) (transport : T) → inside ≡ old → MayRead counts given accepted old
      → counts transport ≡ after_got got.End (counts inside.transport) → given transport ≡ given inside.transport → accepted transport ≡ accepted inside.transport
      → ReadsOnce counts given accepted size got.End [] old (record inside { transport = transport; drained = true; at_end = true })
  ended size old inside transport is may counted given_is accepted_is =
      subst (λ (s : ServiceState P T). ReadsOnce counts given accepted size got.End [] s (record inside { transport = transport; drained = true; at_end = true })) is
      (ended_here size inside transport (may_along old inside is may) counted given_is accepted_is)

  -- the read failed
  fails_here : {now : ℕ} (size : ℕ) (old : ServiceState P T) (transport : T) → MayRead counts given accepted old
      → counts transport ≡ after_got got.Failed (counts old.transport) → given transport ≡ given old.transport → accepted transport ≡ accepted old.transport
      → LeadsAtEdge counts given accepted now (Inside true) old (record old { transport = transport; drained = true; ending = Some served.Read })
  fails_here {now = now} size old transport may counted given_is accepted_is =
      edge_one counts given accepted (Reads size got.Failed []) old (record old { transport = transport; drained = true; ending = Some served.Read })
      (record {
        may = may;
        gives = record { count = refl; counted = counted; given_is = given_is ∙ sym (nothing_known (given old.transport)); accepted_is = accepted_is };
        becomes = λ i. record old { transport = transport; drained = true; at_end = may.not_at_end i; ending = Some served.Read };
      }) (refl, refl)

  pub read_failed : {now : ℕ} (size : ℕ) (old inside : ServiceState P T) (transport : T) → inside ≡ old → MayRead counts given accepted old
      → counts transport ≡ after_got got.Failed (counts inside.transport) → given transport ≡ given inside.transport → accepted transport ≡ accepted inside.transport
      → LeadsAtEdge counts given accepted now (Inside true) old (record inside { transport = transport; drained = true; ending = Some served.Read })
  read_failed {now = now} size old inside transport is may counted given_is accepted_is =
      subst (λ (s : ServiceState P T). LeadsAtEdge counts given accepted now (Inside true) s (record inside { transport = transport; drained = true; ending = Some served.Read })) is
      (fails_here size inside transport (may_along old inside is may) counted given_is accepted_is)

  -- there was no memory for what came
  starves_here : {now : ℕ} (count : ℕ) (old : ServiceState P T) (client : ClientState P) (transport : T) (bytes : List ℕ) → MayRead counts given accepted old → client ≡ old.client
      → length bytes ≡ count → counts transport ≡ counts old.transport → given transport ≡ append_known (given old.transport) bytes → accepted transport ≡ accepted old.transport
      → LeadsAtEdge counts given accepted now (Inside true) old (record old { client = client; transport = transport; ending = Some served.Memory })
  starves_here {now = now} count old client transport bytes may client_is length_is counted given_is accepted_is =
      edge_one counts given accepted (Starves (got.Bytes count) bytes) old (record old { client = client; transport = transport; ending = Some served.Memory })
      (record {
        may = may;
        gives = record { count = length_is; counted = counted; given_is = given_is; accepted_is = accepted_is };
        becomes = λ i. record old { client = client_is i; transport = transport; ending = Some served.Memory };
      }) (refl, refl)

  pub starves : {now : ℕ} (count : ℕ) (old inside : ServiceState P T) (client : ClientState P) (transport : T) (bytes : List ℕ) → inside ≡ old → MayRead counts given accepted old
      → client ≡ inside.client → length bytes ≡ count → counts transport ≡ counts inside.transport → given transport ≡ append_known (given inside.transport) bytes
      → accepted transport ≡ accepted inside.transport
      → LeadsAtEdge counts given accepted now (Inside true) old (record inside { client = client; transport = transport; ending = Some served.Memory })
  starves {now = now} count old inside client transport bytes is may client_is length_is counted given_is accepted_is =
      subst (λ (s : ServiceState P T). LeadsAtEdge counts given accepted now (Inside true) s (record inside { client = client; transport = transport; ending = Some served.Memory })) is
      (starves_here count inside client transport bytes (may_along old inside is may) client_is length_is counted given_is accepted_is)

  -- it ends at the edge, in one of three ways
  pub held_up : {now : ℕ} (old inside : ServiceState P T) → inside ≡ old → old.ending ≡ None → old.outgoing ≢ []
      → LeadsAtEdge counts given accepted now Outside old (record inside { ending = Some served.NoCrossing })
  held_up old inside is going waits =
      edge_one counts given accepted IsStopped old (record inside { ending = Some served.NoCrossing })
      (record { going = going; waits = waits; becomes = ap (λ (s : ServiceState P T). record s { ending = Some served.NoCrossing }) is }) (inl refl)

  pub stalled : (now : ℕ) (old inside : ServiceState P T) → inside ≡ old → old.ending ≡ None → old.outgoing ≢ [] → 1 ≤ old.refused
      → (old.since + patience old.client.conn.phase ≤ now) ⊎ (600 ≤ old.refused)
      → LeadsAtEdge counts given accepted now Behind old (record inside { ending = Some served.Stalled })
  stalled now old inside is going waits asked long =
      edge_one counts given accepted (Stalls now) old (record inside { ending = Some served.Stalled })
      (record { going = going; waits = waits; asked = asked; long = long; becomes = ap (λ (s : ServiceState P T). record s { ending = Some served.Stalled }) is }) (refl, refl)

  pub over : {now : ℕ} (old inside : ServiceState P T) → inside ≡ old → old.ending ≡ None → old.client.conn.phase ≡ Ended → old.outgoing ≡ []
      → LeadsAtEdge counts given accepted now Behind old (record inside { ending = Some served.Ended })
  over old inside is going ended nothing =
      edge_one counts given accepted Ends old (record inside { ending = Some served.Ended })
      (record { going = going; over = ended; nothing_waits = nothing; becomes = ap (λ (s : ServiceState P T). record s { ending = Some served.Ended }) is }) refl

  patience_is : (phase : ConnPhase P) (ended : Bool) → (IsTrue ended → phase ≡ Ended) × (phase ≡ Ended → IsTrue ended) → patience phase ≡ (if ended then 1000 else 60000)
  patience_is (Unconnected opened) true is = cc (is.0 refl)
  patience_is (Unconnected opened) false is = refl
  patience_is (Waiting request ticks) true is = cc (is.0 refl)
  patience_is (Waiting request ticks) false is = refl
  patience_is (Connected connected) true is = cc (is.0 refl)
  patience_is (Connected connected) false is = refl
  patience_is Ended true is = refl
  patience_is Ended false is = cc (is.1 refl)

  -- the transport took nothing for as long as that
  pub stalled_by : (now limit : ℕ) (ended : Bool) (old inside : ServiceState P T) → inside ≡ old → old.ending ≡ None → (inside.outgoing ≡ [] → ⊥)
      → (IsTrue ended → inside.client.conn.phase ≡ Ended) × (inside.client.conn.phase ≡ Ended → IsTrue ended) → limit ≡ (if ended then 1000 else 60000) → 1 ≤ inside.refused → limit ≤ now - inside.since
      → LeadsAtEdge counts given accepted now Behind old (record inside { ending = Some served.Stalled })
  stalled_by now limit ended old inside is going waits ended_is limit_is asked long =
      let some = some_limit ended limit limit_is in
      let same : patience inside.client.conn.phase ≡ limit = patience_is inside.client.conn.phase ended ended_is ∙ sym limit_is in
      let enough : inside.since + patience inside.client.conn.phase ≤ now = omega arith in
      stalled now old inside is going (λ none. waits (ap (λ (s : ServiceState P T). s.outgoing) is ∙ none)) (subst (λ (s : ServiceState P T). 1 ≤ s.refused) is asked)
      (inl (subst (λ (s : ServiceState P T). s.since + patience s.client.conn.phase ≤ now) is enough))
