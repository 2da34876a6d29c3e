-- What a worker knows of the table of routes that threads share, and what it was told of.
use Rattle.std.specs.Prelude.{◌≡◌, ℕ, ◌⊎◌, length, List, [], ◌∷◌, ◌++◌, Option, Some, None, Result, Ok, Err}
use Rattle.mqtt_topic.specs.Names.{Share}
use Rattle.mqtt_topic.specs.Routes.{most_routes, slot_of}
use Rattle.shared_routes.specs.declared.error.BindError.{BindError}
use Rattle.shared_routes.specs.declared.error.BindError.TheVariants as error
use Rattle.shared_routes.specs.declared.new_shares.NewShares.{NewShares}
use Rattle.shared_routes.specs.declared.new_shares.NewShares.TheVariants.{Bound, Refused}
use Rattle.shared_routes.specs.Cells.{RoutesId}

-- of this table: what is known, the share of slot n at place n, and what the worker was told of or has seen
pub record KnownState : Type 0 where
  pub table : RoutesId
  pub shares : List Share
  pub told : List Share

-- these are the first of all
abbrev pub AreFirst : List Share → List Share → Type 0
AreFirst ones all = (others : List Share) × (all ≡ ones ++ others)

-- of the same table all that was known, and these after; all that the worker was told of stays told
pub record Learns (old : KnownState) (more : List Share) (new : KnownState) : Type 0 where
  pub table : new.table ≡ old.table
  pub shares : new.shares ≡ old.shares ++ more
  pub kept : AreFirst old.told new.told

-- what is known stays, and more may be
abbrev pub Grows : KnownState → KnownState → Type 0
Grows old new = (more : List Share) × Learns old more new

-- of the same table what was known; all that the worker was told of stays told, and these are told as well
pub record PublishesTo (old : KnownState) (shares : List Share) (new : KnownState) : Type 0 where
  pub same : new ≡ record old { told = new.told }
  pub kept : AreFirst old.told new.told
  pub told : AreFirst shares new.told

-- a share that is not known, once it is bound: after what is known others stand that have another text, and then one of its text, whoever bound it
pub record IsBound (old : KnownState) (share : Share) (slot : ℕ) (new : KnownState) : Type 0 where
  pub others : List Share
  pub bound : Share
  pub unknown : slot_of share.text (old.shares ++ others) ≡ None
  pub same : bound.text ≡ share.text
  pub slot_is : slot ≡ length (old.shares ++ others)
  pub grown : Learns old (others ++ bound ∷ []) new

-- all slots are bound, and none to a share of this text
pub record HasNoSlot (old : KnownState) (share : Share) (new : KnownState) : Type 0 where
  pub others : List Share
  pub grown : Learns old others new
  pub full : length new.shares ≡ most_routes
  pub unknown : slot_of share.text new.shares ≡ None

-- the slot of a share that is not known, or that there is none
abbrev pub IsBoundBehind : KnownState → Share → Option ℕ → KnownState → Type 0
IsBoundBehind old share (Some slot) new = IsBound old share slot new
IsBoundBehind old share None new = HasNoSlot old share new

-- what `declare` answers: the slot that is known; or the least free one, which another may have bound to this share in the meantime; or that there is none;
-- or that memory was refused for a share that is not known, and then nothing has changed
abbrev pub DeclareAnswers : KnownState → Share → Result ℕ BindError → KnownState → Type 0
DeclareAnswers old share (Ok slot) new = ((slot_of share.text old.shares ≡ Some slot) × (new ≡ old)) ⊎ IsBound old share slot new
DeclareAnswers old share (Err error.NoSlot) new = HasNoSlot old share new
DeclareAnswers old share (Err error.Memory) new = (slot_of share.text old.shares ≡ None) × (new ≡ old)
DeclareAnswers old share (Err error.NotDeclared) new = ⊥

-- the slot of a share that is known; one that is not was not declared
abbrev pub declared_slot : Option ℕ → Result ℕ BindError
declared_slot (Some slot) = Ok slot
declared_slot None = Err error.NotDeclared

-- what `bind` answers, by what the table does with a share that nobody declared: as `declare`; or the slot that is known or else a refusal, and then nothing has changed
abbrev pub BindAnswers : NewShares → KnownState → Share → Result ℕ BindError → KnownState → Type 0
BindAnswers Bound old share answer new = DeclareAnswers old share answer new
BindAnswers Refused old share answer new = (answer ≡ declared_slot (slot_of share.text old.shares)) × (new ≡ old)
