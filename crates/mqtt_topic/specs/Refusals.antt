-- The refusals and their numbers (profile), and what a call that parses a text answers.
use Rattle.std.specs.Prelude.{◌≡◌, ℕ, List, Result, Ok, Err}
use Rattle.mqtt_topic.specs.declared.error.TopicError.{TopicError}
use Rattle.mqtt_topic.specs.declared.error.TopicError.TheVariants.{Empty, BadWildcard, BadShare, NotShared, NoSlot, Memory}
use Rattle.mqtt_topic.specs.declared.error.RefusedText.{RefusedText}

abbrev pub number_of : TopicError → ℕ
number_of Empty = 201
number_of BadWildcard = 202
number_of BadShare = 203
number_of NotShared = 204
number_of NoSlot = 205
number_of Memory = 206

-- the value that the definition gives, or its refusal with the text as it was given
abbrev pub ParseAnswers : {A : Type 0} → List ℕ → Result A RefusedText → Result A TopicError → Type 0
ParseAnswers text (Ok value) parsed = parsed ≡ Ok value
ParseAnswers text (Err refused) parsed = (parsed ≡ Err refused.error) × (refused.text ≡ text)
