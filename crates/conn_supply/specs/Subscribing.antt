-- What a connection answers to a SUBSCRIBE and to an UNSUBSCRIBE, and whom it asks (sections 3.8 to 3.11).
use Rattle.std.specs.Prelude.{◌≡◌, ◌≢◌, ℕ, Bool, true, false, List, [], ◌∷◌, Option, Some, None, Result, Ok, Err, ◌⊎◌, ◌==◌, if◌then◌else◌}
use Rattle.std.specs.List.{list_any}
use Rattle.mqtt_packet.specs.declared.packet.Subscribe.{Subscribe}
use Rattle.mqtt_packet.specs.declared.packet.Subscription.{Subscription}
use Rattle.mqtt_packet.specs.declared.packet.Unsubscribe.{Unsubscribe}
use Rattle.mqtt_topic.specs.declared.error.TopicError.{TopicError}
use Rattle.mqtt_topic.specs.Names.{Share, share_of}
use Rattle.conn_rules.specs.declared.subscribing.EntryAnswer.{EntryAnswer}
use Rattle.conn_rules.specs.declared.subscribing.EntryAnswer.TheVariants as answers
use Rattle.conn_rules.specs.Subscribing.{entry_answer, subscribe_refusal, unsubscribe_refusal}
use Rattle.conn_rules.specs.Packets.{suback, unsuback}
use Rattle.users.specs.Table.{Rights}
use Rattle.users.specs.Rights.{may_work}
use Rattle.session_desk.specs.declared.session.Membership.{Membership}
use Rattle.session_desk.specs.declared.session.Membership.TheVariants.{NotMember, Member, Leaving}
use Rattle.conn_supply.specs.declared.reply.Reply.{Reply}
use Rattle.conn_supply.specs.declared.supply.BindRefusal.{BindRefusal}
use Rattle.conn_supply.specs.declared.supply.BindRefusal.TheVariants as refusal
use Rattle.conn_supply.specs.SupplyCalls.{SupplyCall}
use Rattle.conn_supply.specs.SupplyCalls.SupplyCall.{Bind, Find, LendPlace}
use Rattle.conn_supply.specs.Replies.{going_on, closing_with}

-- 3.8.2.1.2 and 3.8.4: a subscription that is made, or made again, has the Subscription Identifier of its SUBSCRIBE, or none where that has none
abbrev pub subscription_after : List ℕ → Option ℕ → Option ℕ → Option ℕ
subscription_after codes identifier subscription = if list_any (λ code. code == 1) codes then identifier else subscription

module _ {S P : Type 0} (call : S → SupplyCall P → S → Type 0) (slot_of : P → ℕ) where
  -- a place in the group of this slot is asked for, and is of that group: 97 where none is free
  abbrev pub IsLent : S → ℕ → Option P → ℕ → Membership P → S → Type 0
  IsLent old slot None code membership new = call old (LendPlace slot None) new × (code ≡ 0x97) × (membership ≡ NotMember)
  IsLent old slot (Some place) code membership new = call old (LendPlace slot (Some place)) new × (code ≡ 1) × (membership ≡ Member place) × (slot_of place ≡ slot)

  -- who is no member is bound to the share's group, if there is a slot for it: else 97; and 87 where the share is not declared, and has to be (3.9.3)
  abbrev pub EntersAs : S → Share → Result ℕ BindRefusal → ℕ → Membership P → S → Type 0
  EntersAs old share (Ok slot) code membership new = (mid : S) × (lent : Option P) × call old (Bind share (Ok slot)) mid × IsLent mid slot lent code membership new
  EntersAs old share (Err refusal.NoSlot) code membership new = call old (Bind share (Err refusal.NoSlot)) new × (code ≡ 0x97) × (membership ≡ NotMember)
  EntersAs old share (Err refusal.Memory) code membership new = ⊥
  EntersAs old share (Err refusal.NotDeclared) code membership new = call old (Bind share (Err refusal.NotDeclared)) new × (code ≡ 0x87) × (membership ≡ NotMember)

  -- whoever has a place in this very group stays, and is a member also where he was leaving; who has one in another is refused by 97
  abbrev pub StaysAs : P → Option ℕ → Membership P → ℕ → Membership P → Type 0
  StaysAs place found old code membership =
      ((found ≡ Some (slot_of place)) × (code ≡ 1) × (membership ≡ Member place))
      ⊎ ((found ≢ Some (slot_of place)) × (code ≡ 0x97) × (membership ≡ old))

  -- a share is joined: a session is a member of one group at a time (profile)
  abbrev pub Joins : S → Membership P → Share → ℕ → Membership P → S → Type 0
  Joins old NotMember share code membership new = (bound : Result ℕ BindRefusal) × EntersAs old share bound code membership new
  Joins old (Member place) share code membership new = (found : Option ℕ) × call old (Find share found) new × StaysAs place found (Member place) code membership
  Joins old (Leaving place) share code membership new = (found : Option ℕ) × call old (Find share found) new × StaysAs place found (Leaving place) code membership

  -- it is joined where the client may work for it, and else the client is not authorized (3.9.3)
  abbrev pub JoinsIf : Bool → S → Membership P → Share → ℕ → Membership P → S → Type 0
  JoinsIf true old membership share code membership' new = Joins old membership share code membership' new
  JoinsIf false old membership share code membership' new = (code ≡ 0x87) × (membership' ≡ membership) × (new ≡ old)

  -- an entry of a SUBSCRIBE of a client with these rights
  abbrev pub AnswersEntry : Rights → S → Membership P → EntryAnswer → ℕ → Membership P → S → Type 0
  AnswersEntry rights old membership (answers.Refuse refused) code membership' new = (code ≡ refused) × (membership' ≡ membership) × (new ≡ old)
  AnswersEntry rights old membership (answers.Join share) code membership' new = JoinsIf (may_work rights share.text) old membership share code membership' new

  -- who is no member was to be bound to this share's group, and there was no memory: it is no member still
  abbrev pub IsUnbound : S → Membership P → Share → Membership P → S → Type 0
  IsUnbound old NotMember share membership' new = call old (Bind share (Err refusal.Memory)) new × (membership' ≡ NotMember)
  IsUnbound old (Member place) share membership' new = ⊥
  IsUnbound old (Leaving place) share membership' new = ⊥

  -- there was no memory for an entry: its own share, for which the client may work, was to be bound
  abbrev pub LacksMemory : Rights → S → Membership P → EntryAnswer → Membership P → S → Type 0
  LacksMemory rights old membership (answers.Refuse refused) membership' new = ⊥
  LacksMemory rights old membership (answers.Join share) membership' new = (may_work rights share.text ≡ true) × IsUnbound old membership share membership' new

  -- the entries of a SUBSCRIBE, in their order: each sees what the earlier ones did
  abbrev pub AnswersEntries : Rights → S → Membership P → List Subscription → List ℕ → Membership P → S → Type 0
  AnswersEntries rights old membership [] codes membership' new = (codes ≡ []) × (membership' ≡ membership) × (new ≡ old)
  AnswersEntries rights old membership (entry ∷ entries) codes membership' new =
      (code : ℕ) × (rest : List ℕ) × (between : Membership P) × (mid : S)
      × AnswersEntry rights old membership (entry_answer entry) code between mid
      × AnswersEntries rights mid between entries rest membership' new × (codes ≡ code ∷ rest)

  -- the entries before one were answered, from the first on, and there was no memory for that one
  abbrev pub AnswersFirst : Rights → S → Membership P → List Subscription → Membership P → S → Type 0
  AnswersFirst rights old membership [] membership' new = ⊥
  AnswersFirst rights old membership (entry ∷ entries) membership' new =
      LacksMemory rights old membership (entry_answer entry) membership' new
      ⊎ ((code : ℕ) × (between : Membership P) × (mid : S)
      × AnswersEntry rights old membership (entry_answer entry) code between mid
      × AnswersFirst rights mid between entries membership' new)

  -- where an allocation failed, nothing was done, or so it was
  abbrev pub AnswersSome : Rights → S → Membership P → List Subscription → Membership P → S → Type 0
  AnswersSome rights old membership entries membership' new =
      ((membership' ≡ membership) × (new ≡ old)) ⊎ AnswersFirst rights old membership entries membership' new

  -- a SUBSCRIBE closes the connection, or is answered by a SUBACK with a code for each entry
  abbrev pub SubscribesAs : Option ℕ → Rights → S → Membership P → Option ℕ → Subscribe → Reply → Membership P → Option ℕ → S → Type 0
  SubscribesAs (Some code) rights old membership subscription subscribe reply membership' subscription' new =
      (reply ≡ closing_with code) × (membership' ≡ membership) × (subscription' ≡ subscription) × (new ≡ old)
  SubscribesAs None rights old membership subscription subscribe reply membership' subscription' new =
      (codes : List ℕ) × (reply ≡ going_on (Some (suback subscribe.packet_identifier codes)))
      × AnswersEntries rights old membership subscribe.subscriptions codes membership' new
      × (subscription' ≡ subscription_after codes subscribe.properties.subscription_identifier subscription)

  abbrev pub Subscribes : Rights → S → Membership P → Option ℕ → Subscribe → Reply → Membership P → Option ℕ → S → Type 0
  Subscribes rights old membership subscription subscribe reply membership' subscription' new =
      SubscribesAs (subscribe_refusal subscribe) rights old membership subscription subscribe reply membership' subscription' new

  -- a member leaves by the very text of its share
  abbrev pub LeavesFrom : P → Option ℕ → ℕ → Membership P → Type 0
  LeavesFrom place found code membership =
      ((found ≡ Some (slot_of place)) × (code ≡ 0) × (membership ≡ Leaving place))
      ⊎ ((found ≢ Some (slot_of place)) × (code ≡ 0x11) × (membership ≡ Member place))

  -- an entry of an UNSUBSCRIBE: 11 where the session is no member of that share (3.11.3)
  abbrev pub LeavesBy : S → Membership P → Result Share TopicError → ℕ → Membership P → S → Type 0
  LeavesBy old (Member place) (Ok share) code membership new = (found : Option ℕ) × call old (Find share found) new × LeavesFrom place found code membership
  LeavesBy old (Member place) (Err refusal) code membership new = (code ≡ 0x11) × (membership ≡ Member place) × (new ≡ old)
  LeavesBy old NotMember parsed code membership new = (code ≡ 0x11) × (membership ≡ NotMember) × (new ≡ old)
  LeavesBy old (Leaving place) parsed code membership new = (code ≡ 0x11) × (membership ≡ Leaving place) × (new ≡ old)

  abbrev pub LeavesByAll : S → Membership P → List (List ℕ) → List ℕ → Membership P → S → Type 0
  LeavesByAll old membership [] codes membership' new = (codes ≡ []) × (membership' ≡ membership) × (new ≡ old)
  LeavesByAll old membership (text ∷ texts) codes membership' new =
      (code : ℕ) × (rest : List ℕ) × (between : Membership P) × (mid : S)
      × LeavesBy old membership (share_of text) code between mid
      × LeavesByAll mid between texts rest membership' new × (codes ≡ code ∷ rest)

  -- an UNSUBSCRIBE closes the connection, or is answered by an UNSUBACK with a code for each filter
  abbrev pub UnsubscribesAs : Option ℕ → S → Membership P → Unsubscribe → Reply → Membership P → S → Type 0
  UnsubscribesAs (Some code) old membership unsubscribe reply membership' new = (reply ≡ closing_with code) × (membership' ≡ membership) × (new ≡ old)
  UnsubscribesAs None old membership unsubscribe reply membership' new =
      (codes : List ℕ) × (reply ≡ going_on (Some (unsuback unsubscribe.packet_identifier codes)))
      × LeavesByAll old membership unsubscribe.filters codes membership' new

  abbrev pub Unsubscribes : S → Membership P → Unsubscribe → Reply → Membership P → S → Type 0
  Unsubscribes old membership unsubscribe reply membership' new = UnsubscribesAs (unsubscribe_refusal unsubscribe) old membership unsubscribe reply membership' new
