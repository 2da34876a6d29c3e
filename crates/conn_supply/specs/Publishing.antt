-- What a connection answers to a PUBLISH, and whom it asks (section 3.3).
use Rattle.std.specs.Prelude.{◌≡◌, ℕ, ◌+◌, Bool, true, false, List, [], ◌∷◌, length, ◌⊎◌, Result, Ok, Err}
use Rattle.mqtt_packet.specs.declared.packet.Publish.{Publish}
use Rattle.users.specs.Table.{Rights}
use Rattle.users.specs.Rights.{may_publish}
use Rattle.group_jobs.specs.declared.message.Message.{Message}
use Rattle.group_jobs.specs.declared.stamp.Stamp.{Stamp}
use Rattle.conn_rules.specs.declared.publishing.PublishAnswer.{PublishAnswer}
use Rattle.conn_rules.specs.declared.publishing.PublishAnswer.TheVariants as answers
use Rattle.conn_rules.specs.Publishing.{publish_answer, puback_code, message_of}
use Rattle.conn_supply.specs.declared.reply.Reply.{Reply}
use Rattle.conn_supply.specs.declared.supply.OfferRefusal.{OfferRefusal}
use Rattle.conn_supply.specs.declared.supply.OfferRefusal.TheVariants as refusal
use Rattle.conn_supply.specs.SupplyCalls.{SupplyCall}
use Rattle.conn_supply.specs.SupplyCalls.SupplyCall.{Match, Offer}
use Rattle.conn_supply.specs.Replies.{closing_with, acknowledging}

-- how many took the message, of a group that gave this answer; lack of memory is none
abbrev pub Took : Result Stamp OfferRefusal → ℕ → Type 0
Took (Ok stamp) taken = taken ≡ 1
Took (Err refusal.Shut) taken = taken ≡ 0
Took (Err refusal.LifeSpent) taken = taken ≡ 0
Took (Err refusal.Full) taken = taken ≡ 0
Took (Err refusal.Memory) taken = ⊥

module _ {S P : Type 0} (call : S → SupplyCall P → S → Type 0) where
  -- the message is offered once to each of these groups, in their order, and so many take it
  abbrev pub Offers : S → ℕ → Message → List ℕ → ℕ → S → Type 0
  Offers old connection message [] taken new = (taken ≡ 0) × (new ≡ old)
  Offers old connection message (slot ∷ slots) taken new =
      (answer : Result Stamp OfferRefusal) × (mid : S) × (first rest : ℕ)
      × call old (Offer slot connection message answer) mid × Took answer first
      × Offers mid connection message slots rest new × (taken ≡ first + rest)

  -- the message is offered once to each of these groups, from the first on, until one of them has no memory for it
  abbrev pub OffersFirst : S → ℕ → Message → List ℕ → S → Type 0
  OffersFirst old connection message [] new = ⊥
  OffersFirst old connection message (slot ∷ slots) new =
      call old (Offer slot connection message (Err refusal.Memory)) new
      ⊎ ((answer : Result Stamp OfferRefusal) × (mid : S) × (taken : ℕ) × call old (Offer slot connection message answer) mid × Took answer taken
      × OffersFirst mid connection message slots new)

  -- so, or to none: what else takes memory is made before the first is asked
  abbrev pub OffersSome : S → ℕ → Message → List ℕ → S → Type 0
  OffersSome old connection message slots new = (new ≡ old) ⊎ OffersFirst old connection message slots new

  -- the packet's own message, which came at this moment, is offered to each group whose filter matches its topic, and the PUBACK says what became of it (3.4.2.1)
  pub record IsOffered (old : S) (connection now : ℕ) (publish : Publish) (identifier : ℕ) (reply : Reply) (new : S) : Type 0 where
    pub slots : List ℕ
    pub mid : S
    pub taken : ℕ
    pub matched : call old (Match publish.topic slots) mid
    pub offered : Offers mid connection (message_of now publish) slots taken new
    pub replied : reply ≡ acknowledging identifier (puback_code (length slots) taken)

  -- it is offered where the client may publish to its topic, and else its PUBACK says that the client is not authorized (3.4.2.1)
  abbrev pub OffersIf : Bool → S → ℕ → ℕ → Publish → ℕ → Reply → S → Type 0
  OffersIf true old connection now publish identifier reply new = IsOffered old connection now publish identifier reply new
  OffersIf false old connection now publish identifier reply new = (reply ≡ acknowledging identifier 0x87) × (new ≡ old)

  -- what becomes of a PUBLISH of a client with these rights
  abbrev pub AnswersPublish : Rights → S → ℕ → ℕ → Publish → PublishAnswer → Reply → S → Type 0
  AnswersPublish rights old connection now publish (answers.Close code) reply new = (reply ≡ closing_with code) × (new ≡ old)
  AnswersPublish rights old connection now publish (answers.Offer identifier) reply new = OffersIf (may_publish rights publish.topic) old connection now publish identifier reply new

  abbrev pub Publishes : Rights → S → ℕ → ℕ → Publish → Reply → S → Type 0
  Publishes rights old connection now publish reply new = AnswersPublish rights old connection now publish (publish_answer publish) reply new

  -- what was done where an allocation failed: the message was offered to none of the groups that match, or to each of them up to one that had no memory for it
  pub record IsCutShort (old : S) (connection now : ℕ) (publish : Publish) (new : S) : Type 0 where
    pub slots : List ℕ
    pub mid : S
    pub matched : call old (Match publish.topic slots) mid
    pub offered : OffersSome mid connection (message_of now publish) slots new

  -- so it is only where the client may publish to its topic
  abbrev pub FailsToPublish : Rights → S → ℕ → ℕ → Publish → S → Type 0
  FailsToPublish rights old connection now publish new = IsCutShort old connection now publish new × (may_publish rights publish.topic ≡ true)
