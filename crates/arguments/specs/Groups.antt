-- The groups that are there from the start: each a pair NAME:FILTER of the command line (profile).
use Rattle.std.specs.Prelude.{◌≡◌, ◌<◌, ◌⊎◌, ℕ, ◌==◌, ◌++◌, nat_lt, codes, length, Bool, if◌then◌else◌, List, ◌∷◌, [], Option, Some, None, Result, Ok, Err, IsSome}
use Rattle.std.specs.List.{before_first, after_first, position_or_len}
use Rattle.mqtt_packet.specs.Texts.{is_text}
use Rattle.mqtt_topic.specs.Names.{Share, share_of}
use Rattle.mqtt_topic.specs.Routes.{slot_of}
use Rattle.mqtt_topic.specs.declared.error.TopicError.{TopicError}
use Rattle.arguments.specs.declared.groups.Refusal.{Refusal}
use Rattle.arguments.specs.declared.groups.Refusal.TheVariants.{NoShare, Twice, Ninth}

abbrev pub is_colon : ℕ → Bool
is_colon byte = byte == 58

abbrev pub if_share : Result Share TopicError → Option Share
if_share (Ok share) = Some share
if_share (Err refusal) = None

-- the share that a text is, where it is one (4.8.2)
abbrev pub share_in : List ℕ → Option Share
share_in text = if is_text text then if_share (share_of text) else None

-- a pair is cut at its first colon: it names the share $share/NAME/FILTER
abbrev pub share_named : List ℕ → Option Share
share_named pair =
    if nat_lt (position_or_len is_colon pair) (length pair) then share_in (codes "$share/" ++ before_first is_colon pair ++ codes "/" ++ after_first is_colon pair) else None

-- a group more: refused where the pair names no share, where it was given before, and where there are eight; then nothing has changed
abbrev pub Adds : List Share → Option Share → Result (Unit {0}) Refusal → List Share → Type 0
Adds old None answer new = (answer ≡ Err NoShare) × (new ≡ old)
Adds old (Some share) (Ok done) new = (slot_of share.text old ≡ None) × (length old < 8) × (new ≡ old ++ share ∷ [])
Adds old (Some share) (Err NoShare) new = ⊥
Adds old (Some share) (Err Twice) new = IsSome (slot_of share.text old) × (new ≡ old)
Adds old (Some share) (Err Ninth) new = (slot_of share.text old ≡ None) × (length old ≡ 8) × (new ≡ old)

-- the pairs are added in turn, and none is refused
abbrev pub AddsEach : List Share → List (List ℕ) → List Share → Type 0
AddsEach old [] new = new ≡ old
AddsEach old (pair ∷ pairs) new = (next : List Share) × Adds old (share_named pair) (Ok tt) next × AddsEach next pairs new

-- the first of the pairs that is refused, and why: each before it is added
abbrev pub RefusesOne : List Share → List (List ℕ) → Refusal → Type 0
RefusesOne old [] refusal = ⊥
RefusesOne old (pair ∷ pairs) refusal =
    Adds old (share_named pair) (Err refusal) old
    ⊎ ((next : List Share) × Adds old (share_named pair) (Ok tt) next × RefusesOne next pairs refusal)
