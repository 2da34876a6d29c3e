-- Which shares a broker has bound at its end.
use Rattle.std.specs.Prelude.{◌≡◌, ◌⊎◌, ◌<◌, ◌≤◌, ℕ, List, length, slice_get, Some}
use Rattle.mqtt_topic.specs.Names.{Share}
use Rattle.mqtt_topic.specs.Routes.{most_routes}

-- a share of this text is bound to one of the eight slots
pub record IsAmong (bound : List Share) (text : List ℕ) : Type 0 where
  pub slot : ℕ
  pub share : Share
  pub few : slot < most_routes
  pub there : slice_get bound slot ≡ Some share
  pub same : share.text ≡ text

-- a share that was to be bound is bound, unless all slots are
abbrev pub IsBoundIn : List Share → Share → Type 0
IsBoundIn bound share = IsAmong bound share.text ⊎ (most_routes ≤ length bound)
