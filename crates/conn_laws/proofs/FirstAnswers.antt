-- What the answer to a CONNECT tells of it: of several tests, those in front of the one that decides came to nothing.
use Rattle.std.proofs.Common.{◌≡◌, Bool, true, false, if◌then◌else◌, length, Option, refl}
use Rattle.std.specs.Prelude.{nat_lt, is_some}
use Rattle.mqtt_packet.specs.declared.packet.Connect.{Connect}
use Rattle.mqtt_packet.specs.declared.packet.ConnectRefusal.{ConnectRefusal}
use Rattle.mqtt_packet.specs.declared.packet.ConnectRefusal.TheVariants.{ImplementationSpecificError, ClientIdentifierNotValid, BadAuthenticationMethod}
use Rattle.users.specs.Table.{UserTable}
use Rattle.conn_rules.specs.declared.connecting.FirstAnswer.{FirstAnswer}
use Rattle.conn_rules.specs.declared.connecting.FirstAnswer.TheVariants as first
use Rattle.conn_rules.specs.Connecting.{connect_answer, is_served, is_under, unserved}

pub not_closed : (small : Bool) (rest : FirstAnswer) (refusal : ConnectRefusal) → (if small then first.Close else rest) ≡ first.Refuse refusal → small ≡ false
not_closed true rest refusal is = absurd cc
not_closed false rest refusal is = refl

pub neither_closed : (small : Bool) (rest : FirstAnswer) → (if small then first.Close else rest) ≡ first.Attach → rest ≡ first.Attach
neither_closed true rest is = absurd cc
neither_closed false rest is = is

pub nor_refused : (small : Bool) (refusal : ConnectRefusal) (rest : FirstAnswer) → (if small then first.Refuse refusal else rest) ≡ first.Attach → small ≡ false
nor_refused true refusal rest is = absurd cc
nor_refused false refusal rest is = refl

unrefused : (small : Bool) (refusal : ConnectRefusal) (rest : FirstAnswer) → (if small then first.Refuse refusal else rest) ≡ first.Attach → rest ≡ first.Attach
unrefused true refusal rest is = absurd cc
unrefused false refusal rest is = is

attached : (served : Bool) (refusal : ConnectRefusal) → (if served then first.Attach else first.Refuse refusal) ≡ first.Attach → served ≡ true
attached true refusal is = refl
attached false refusal is = absurd cc

-- a client whose session is looked for is served
pub is_served_there : (users : Option UserTable) (connect : Connect) → connect_answer users connect ≡ first.Attach → is_served users connect ≡ true
is_served_there users connect is =
    attached (is_served users connect) (unserved users connect)
    (unrefused (nat_lt 128 (length connect.client_identifier)) ClientIdentifierNotValid _
    (unrefused (is_some connect.properties.authentication) BadAuthenticationMethod _
    (unrefused (is_under 64 connect.properties.maximum_packet_size) ImplementationSpecificError _
    (neither_closed (is_under 5 connect.properties.maximum_packet_size) _ is))))
