-- What is sent, one message after the other.
use Rattle.std.proofs.Common.{◌≡◌, ℕ, ◌<◌, true, false, length, List, [], ◌∷◌, ◌++◌, Some, None, refl, ap, subst, ◌∙◌, append_assoc, inl, ⊎_elim}
use Rattle.mqtt_packet.specs.declared.packet.Packet.{Packet}
use Rattle.group_jobs.specs.declared.fate.Fate.TheVariants.{Discarded}
use Rattle.group_jobs.specs.Stamps.{Held, under}
use Rattle.member_window.specs.Identifiers.{identifiers, IsLeastFree}
use Rattle.member_window.specs.Contents.{Contents, HasRoom, held_of, after_put}
use Rattle.conn_rules.specs.declared.hand_outs.HandOutTerms.{HandOutTerms}
use Rattle.conn_rules.specs.HandOuts.{is_discarded}
use Rattle.conn_rules.specs.Packets.{job}
use Rattle.conn_supply.specs.SupplyCalls.{SupplyCall}
use Rattle.conn_supply.specs.SupplyCalls.SupplyCall.{MayTake, Settle}
use Rattle.conn_supply.specs.HandOuts.{most_discards, AsksFor, DiscardsOne, Discards, LooksFor, SendsOne, SendsFresh, HoldsMore, TakesOne, TakesSome}

-- packets after packets
joined : (before after after' sent : List Packet) (packet : Packet) → after ≡ before ++ packet ∷ [] → after' ≡ after ++ sent → after' ≡ before ++ packet ∷ sent
joined before after after' sent packet one more = more ∙ ap (λ xs. xs ++ sent) one ∙ append_assoc before (packet ∷ []) sent

module _ {S P : Type 0} (call : S → SupplyCall P → S → Type 0) (terms : HandOutTerms) where
  pub one_more_sent : (old mid new : S) (place between place' : P) (window window_between window' : Contents Held)
      (before after after' sent : List Packet) (packet : Packet)
      → after ≡ before ++ packet ∷ [] → SendsOne call terms old place window packet between window_between mid
      → after' ≡ after ++ sent → SendsFresh call terms mid between window_between sent place' window' new
      → (all : List Packet) × (after' ≡ before ++ all) × SendsFresh call terms old place window all place' window' new
  one_more_sent old mid new place between place' window window_between window' before after after' sent packet one sends more rest =
      (packet ∷ sent, joined before after after' sent packet one more, (between, window_between, mid, sends, rest))

  -- what is found is taken
  some_never : {envelope : Held} → Some envelope ≡ None → ⊥
  some_never e = cc

  taken_as_found : (old : S) (place : P) (envelope : Held) (place' : P) (new : S) → LooksFor call terms old place (Some envelope) place' new → TakesOne call terms old place envelope place' new
  taken_as_found old place envelope place' new looks =
      ⊎_elim
      (λ few. record { discarded = looks.discarded; between = looks.between; mid = looks.mid; passed = looks.passed; allowed = few.1.0; asked = few.1.1 })
      (λ most. absurd (some_never most.1))
      looks.ended

  -- one more is discarded, after the others
  one_more_discarded : (envelopes : List Held) (old mid new : S) (place between place' : P) (envelope : Held) → Discards call terms old place envelopes between mid
      → DiscardsOne call terms mid between envelope place' new → Discards call terms old place (envelopes ++ envelope ∷ []) place' new
  one_more_discarded [] old mid new place between place' envelope before last =
      (place', new, subst (λ p. DiscardsOne call terms old p envelope place' new) before.0 (subst (λ s. DiscardsOne call terms s between envelope place' new) before.1 last), (refl, refl))
  one_more_discarded (first ∷ envelopes) old mid new place between place' envelope before last =
      (before.0, before.1, before.2, one_more_discarded envelopes before.1 mid new before.0 between place' envelope before.3 last)

  pub one_more_taken : (old mid new : S) (place between place' : P) (window window_between window' : Contents Held) (packet : Packet) (taken : List Held)
      → SendsOne call terms old place window packet between window_between mid → TakesSome call terms mid between window_between taken place' window' new
      → (all : List Held) × TakesSome call terms old place window all place' window' new
  one_more_taken old mid new place between place' window window_between window' packet taken sends more = (
    sends.envelope ∷ taken,
    (
      sends.identifier,
      between,
      mid,
      taken_as_found old place sends.envelope between mid sends.found,
      sends.free,
      sends.room,
      subst (λ w. TakesSome call terms mid between w taken place' window' new) sends.put more,
    ),
  )

  -- and so is one that was just handed out
  pub discarded_next : (envelopes : List Held) (old mid taken_mid new : S) (place between taken place' : P) (envelope : Held) → Discards call terms old place envelopes between mid
      → call mid (MayTake between true) mid → AsksFor call mid between (Some envelope) taken taken_mid → is_discarded terms envelope.message ≡ true
      → call taken_mid (Settle taken place' envelope Discarded) new → Discards call terms old place (envelopes ++ envelope ∷ []) place' new
  discarded_next envelopes old mid taken_mid new place between taken place' envelope before allowed asked reason settled =
      one_more_discarded envelopes old mid new place between place' envelope before
      (record { taken = taken; mid = taken_mid; allowed = allowed; asked = asked; reason = reason; settled = settled })

  -- after these were discarded one is found that may be sent
  pub found_one : (envelopes : List Held) (old mid new : S) (place between place' : P) (envelope : Held) → length envelopes < most_discards → Discards call terms old place envelopes between mid
      → call mid (MayTake between true) mid → AsksFor call mid between (Some envelope) place' new → is_discarded terms envelope.message ≡ false → LooksFor call terms old place (Some envelope) place' new
  found_one envelopes old mid new place between place' envelope few passed allowed asked fits =
      record { discarded = envelopes; between = between; mid = mid; passed = passed; ended = inl (few, (allowed, asked, fits)) }

  -- it is put into the window, in which nothing has changed
  pub sent_one : (old new : S) (place place' : P) (window now window' : Contents Held) (packet : Packet) (envelope : Held) (identifier : ℕ) → now ≡ window → HasRoom window
      → LooksFor call terms old place (Some envelope) place' new → IsLeastFree (identifiers (held_of now)) identifier → window' ≡ after_put now identifier (under terms.subscription envelope)
      → packet ≡ job terms.at false envelope.message terms.subscription identifier → HoldsMore now window'
      → SendsOne call terms old place window packet place' window' new × HoldsMore window window'
  sent_one old new place place' window now window' packet envelope identifier same room found free put sent more = (
    record {
      envelope = envelope;
      identifier = identifier;
      room = room;
      found = found;
      free = subst (λ w. IsLeastFree (identifiers (held_of w)) identifier) same free;
      put = put ∙ ap (λ w. after_put w identifier (under terms.subscription envelope)) same;
      sent = sent;
    },
    subst (λ w. HoldsMore w window') same more,
  )

  -- where an allocation failed for its packet, it is held
  pub taken_one : (envelopes : List Held) (old mid new : S) (place between place' : P) (window now window' : Contents Held) (envelope : Held) (identifier : ℕ) → now ≡ window → HasRoom window
      → Discards call terms old place envelopes between mid → call mid (MayTake between true) mid → AsksFor call mid between (Some envelope) place' new
      → IsLeastFree (identifiers (held_of now)) identifier → window' ≡ after_put now identifier (under terms.subscription envelope)
      → (all : List Held) × TakesSome call terms old place window all place' window' new
  taken_one envelopes old mid new place between place' window now window' envelope identifier same room passed allowed asked free put = (
    envelope ∷ [],
    (
      identifier,
      place',
      new,
      record { discarded = envelopes; between = between; mid = mid; passed = passed; allowed = allowed; asked = asked },
      subst (λ w. IsLeastFree (identifiers (held_of w)) identifier) same free,
      room,
      (put ∙ ap (λ w. after_put w identifier (under terms.subscription envelope)) same, inl (refl, refl)),
    ),
  )
