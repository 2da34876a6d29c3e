-- The table of routes: which slot a share is bound to, and which slots a name is routed to (profile).
use Rattle.std.specs.Prelude.{◌≡◌, ℕ, zero, suc, ◌+◌, ◌*◌, ◌/◌, ◌%◌, ◌<◌, ◌==◌, ◌⊎◌, bytes_eq, Bool, true, false, if◌then◌else◌, List, [], ◌∷◌, ◌++◌, length, map, position, Option, Some, None, Result, Ok, Err}
use Rattle.std.specs.List.{AllByRecursion}
use Rattle.limits.specs.Limits.{most_groups}
use Rattle.mqtt_topic.specs.declared.error.TopicError.{TopicError}
use Rattle.mqtt_topic.specs.declared.error.TopicError.TheVariants as error
use Rattle.mqtt_topic.specs.Levels.{matches}
use Rattle.mqtt_topic.specs.Names.{Share}

-- the most shares that are bound (profile)
abbrev pub most_routes : ℕ
most_routes = most_groups

-- the slot that a share is bound to: two shares are one where their texts are one
abbrev pub slot_of : List ℕ → List Share → Option ℕ
slot_of text shares = position (λ share. bytes_eq share.text text) shares

-- no share has the text of one after it
abbrev pub AreDistinct : List Share → Type 0
AreDistinct [] = Unit {0}
AreDistinct (share ∷ others) = AllByRecursion (λ other. bytes_eq share.text other.text ≡ false) others × AreDistinct others

-- for each bound slot, whether its filter matches the name
abbrev pub routed : List ℕ → List Share → List Bool
routed name shares = map (λ share. matches share.filter name) shares

-- the refusals of `bind`, each in its case
abbrev pub Refuses : List Share → TopicError → Type 0
Refuses old error.Empty = ⊥
Refuses old error.BadWildcard = ⊥
Refuses old error.BadShare = ⊥
Refuses old error.NotShared = ⊥
Refuses old error.NoSlot = length old ≡ most_routes
Refuses old error.Memory = length old < most_routes

-- what `bind` answers, and the table after it: the slot that is there, or the least that is free, or a refusal
abbrev pub BindAnswers : List Share → Share → Result ℕ TopicError → List Share → Type 0
BindAnswers old share (Ok slot) new =
    ((slot_of share.text old ≡ Some slot) × (new ≡ old))
    ⊎ ((slot_of share.text old ≡ None) × (slot ≡ length old) × (length old < most_routes) × (new ≡ old ++ share ∷ []))
BindAnswers old share (Err refusal) new =
    (slot_of share.text old ≡ None) × (new ≡ old) × Refuses old refusal

-- how many sets there are of so many slots
abbrev pub sets_of : ℕ → ℕ
sets_of zero = 1
sets_of (suc slots) = 2 * sets_of slots

abbrev pub bit : Bool → ℕ
bit true = 1
bit false = 0

-- a set of slots as a byte: a bit for each slot, the least significant for slot 0
abbrev pub byte_of : List Bool → ℕ
byte_of [] = 0
byte_of (slot ∷ slots) = bit slot + 2 * byte_of slots

-- the slots that a byte is a set of, in rising order: so many bits, the least significant of which is for the slot given
abbrev pub slots_in : ℕ → ℕ → ℕ → List ℕ
slots_in zero slot byte = []
slots_in (suc left) slot byte = if byte % 2 == 1 then slot ∷ slots_in left (slot + 1) (byte / 2) else slots_in left (slot + 1) (byte / 2)

-- the places at which the list is true, where the first place has the number given
abbrev pub places_of : ℕ → List Bool → List ℕ
places_of place [] = []
places_of place (true ∷ others) = place ∷ places_of (place + 1) others
places_of place (false ∷ others) = places_of (place + 1) others
