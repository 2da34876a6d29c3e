-- What the front of a CONNECT has to say (section 3.1.2).
use Rattle.std.specs.Prelude.{ℕ, ◌/◌, ◌%◌, ◌==◌, ◌&&◌, ◌||◌, not, Bool, bytes_eq, codes, List}

-- 3.1.2.1 and 3.1.2.2: the Protocol Name and the Protocol Version of MQTT 5.0
abbrev pub is_mqtt_5 : List ℕ → ℕ → Bool
is_mqtt_5 name version = bytes_eq name (codes "MQTT") && version == 5

-- 3.1.2.3 Connect Flags: bit 0 is reserved, a will QoS of 3 is none, and without a will its flags are 0
abbrev pub are_connect_flags : ℕ → Bool
are_connect_flags flags = flags % 2 == 0 && not (flags / 8 % 4 == 3) && (flags / 4 % 2 == 1 || flags / 8 % 8 == 0)

-- 3.1.2.5 Will Flag
abbrev pub has_will : ℕ → Bool
has_will flags = flags / 4 % 2 == 1
