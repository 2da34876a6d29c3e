-- What a client asks for when it connects, and the answer to the first packet (sections 3.1 and 3.2).
use Rattle.std.specs.Prelude.{ℕ, ◌==◌, ◌&&◌, ◌||◌, nat_lt, min, Bool, true, false, if◌then◌else◌, List, length, Option, Some, None, is_some}
use Rattle.limits.specs.Limits.{most_bytes}
use Rattle.mqtt_packet.specs.declared.offer.Offer.{Offer}
use Rattle.mqtt_packet.specs.declared.packet.QoS.TheVariants.{AtLeastOnce}
use Rattle.mqtt_packet.specs.declared.packet.Connect.{Connect}
use Rattle.mqtt_packet.specs.declared.packet.ConnectRefusal.{ConnectRefusal}
use Rattle.mqtt_packet.specs.declared.packet.ConnectRefusal.TheVariants.{ImplementationSpecificError, UnsupportedProtocolVersion, ClientIdentifierNotValid, BadUserNameOrPassword, BadAuthenticationMethod}
use Rattle.mqtt_packet.specs.declared.packet.Packet.{Packet}
use Rattle.mqtt_packet.specs.declared.packet.Packet.TheVariants as packets
use Rattle.users.specs.Table.{Rights, UserTable, admits}
use Rattle.users.specs.Rights.{all_rights, may_connect_as, rights_of}
use Rattle.conn_rules.specs.declared.connecting.FirstAnswer.{FirstAnswer}
use Rattle.conn_rules.specs.declared.connecting.FirstAnswer.TheVariants.{Close, Refuse, Attach}
use Rattle.conn_rules.specs.declared.client_limits.ClientLimits.{ClientLimits}
use Rattle.conn_rules.specs.declared.terms.Overrides.{Overrides}
use Rattle.conn_rules.specs.declared.terms.Terms.{Terms}

-- a number that is there and below the limit
abbrev pub is_under : ℕ → Option ℕ → Bool
is_under limit None = false
is_under limit (Some number) = nat_lt number limit

-- a number, or what holds where it is not there
abbrev pub or_else : ℕ → Option ℕ → ℕ
or_else absent None = absent
or_else absent (Some number) = number

-- the limits of a broker that limits the unacknowledged PUBLISH packets of a client and nothing else, and serves all clients
abbrev pub inflight_alone : ℕ → ClientLimits
inflight_alone max_inflight = record { max_inflight = max_inflight; max_expiry = None; max_keep_alive = None; users = None }

-- the limit of an expiry, where there is one and the seconds are more
abbrev pub expiry_in_place : Option ℕ → ℕ → Option ℕ
expiry_in_place None seconds = None
expiry_in_place (Some most) seconds = if nat_lt most seconds then Some most else None

-- the limit of a keep alive, where there is one and the client asked for a longer one, or for none
abbrev pub keep_alive_in_place : Option ℕ → ℕ → Option ℕ
keep_alive_in_place None seconds = None
keep_alive_in_place (Some most) seconds = if seconds == 0 || nat_lt most seconds then Some most else None

-- everything is as the client asked
abbrev pub no_overrides : Overrides
no_overrides = record { session_expiry_interval = None; keep_alive = None }

-- 3.2.2.3.2 and 3.2.2.3.14: what the broker uses in place of what a client asked for
abbrev pub overrides_of : ClientLimits → Connect → Overrides
overrides_of limits c = record {
  session_expiry_interval = expiry_in_place limits.max_expiry (or_else 0 c.properties.session_expiry_interval);
  keep_alive = keep_alive_in_place limits.max_keep_alive c.keep_alive;
}

-- 3.1.2.10 and 3.1.2.11: what a client asked for, within the broker's limits (profile)
abbrev pub terms_of : ClientLimits → Connect → Terms
terms_of limits c = record {
  receive_maximum = min limits.max_inflight (or_else 65535 c.properties.receive_maximum);
  session_expiry_interval = or_else (or_else 0 c.properties.session_expiry_interval) (overrides_of limits c).session_expiry_interval;
  keep_alive = or_else c.keep_alive (overrides_of limits c).keep_alive;
  maximum_packet_size = c.properties.maximum_packet_size;
  max_expiry = limits.max_expiry;
}

-- 3.14.2.2.2: a session that ends with its connection may not be given an expiry at the end
abbrev pub is_given_expiry : ℕ → Terms → Bool
is_given_expiry expiry terms = nat_lt 0 expiry && terms.session_expiry_interval == 0

-- 3.14.2.2.2: the expiry that a session is given at the end, within the broker's limit (profile)
abbrev pub granted_expiry : Terms → ℕ → ℕ
granted_expiry terms seconds = or_else seconds (expiry_in_place terms.max_expiry seconds)

-- 3.2.2.3: what the broker offers (profile)
abbrev pub offer : Offer
offer = record { maximum_qos = AtLeastOnce; retain_available = false; maximum_packet_size = Some most_bytes; subscription_identifiers_available = true }

-- 3.1.3.5 and 3.1.3.6: a user of this name has this password; a client that names no user, or no password, is none of them
abbrev pub admits_as : UserTable → Option (List ℕ) → Option (List ℕ) → Bool
admits_as users (Some name) (Some password) = admits users name password
admits_as users (Some name) None = false
admits_as users None password = false

-- a client is one of these users, where they are given
abbrev pub is_known : Option UserTable → Connect → Bool
is_known None c = true
is_known (Some users) c = admits_as users c.user_name c.password

abbrev pub may_connect_if : UserTable → Option (List ℕ) → List ℕ → Bool
may_connect_if users None client = false
may_connect_if users (Some name) client = may_connect_as users name client

-- 3.1.3.1: its user may connect under its Client Identifier
abbrev pub is_own_identifier : Option UserTable → Connect → Bool
is_own_identifier None c = true
is_own_identifier (Some users) c = may_connect_if users c.user_name c.client_identifier

-- a client is served: it is one of these users, where they are given, under an identifier that is not another's
abbrev pub is_served : Option UserTable → Connect → Bool
is_served users c = is_known users c && is_own_identifier users c

-- why a client is not: its identifier is not allowed (3.2.2.2), or it is none of the users
abbrev pub unserved : Option UserTable → Connect → ConnectRefusal
unserved users c = if is_known users c then ClientIdentifierNotValid else BadUserNameOrPassword

abbrev pub rights_if : UserTable → Option (List ℕ) → Rights
rights_if users None = all_rights
rights_if users (Some name) = rights_of users name

-- what a client may do: what its user may, where users are given
abbrev pub client_rights : Option UserTable → Connect → Rights
client_rights None c = all_rights
client_rights (Some users) c = rights_if users c.user_name

-- 3.1.2.11.4 and 3.1.4, of several refusals the first: a packet of less than 5 bytes holds no CONNACK; a client that takes less
-- than 64 is refused (profile), and so is any authentication method (4.12), an identifier of more than 128 bytes (3.1.3.1), and where users
-- are given a client that is none of them (3.1.4), or whose identifier is not for it
abbrev pub connect_answer : Option UserTable → Connect → FirstAnswer
connect_answer users c =
    if is_under 5 c.properties.maximum_packet_size then Close
    else (if is_under 64 c.properties.maximum_packet_size then Refuse ImplementationSpecificError
    else (if is_some c.properties.authentication then Refuse BadAuthenticationMethod
    else (if nat_lt 128 (length c.client_identifier) then Refuse ClientIdentifierNotValid
    else (if is_served users c then Attach else Refuse (unserved users c)))))

-- 3.1: the first packet is a CONNECT; another version is refused (3.1.2.2), and so is a will (profile)
abbrev pub first_answer : Option UserTable → Packet → FirstAnswer
first_answer users (packets.Connect c) = connect_answer users c
first_answer users (packets.OtherVersion version) = Refuse UnsupportedProtocolVersion
first_answer users packets.WithWill = Refuse ImplementationSpecificError
first_answer users _ = Close
