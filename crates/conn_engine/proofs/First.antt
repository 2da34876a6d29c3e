-- A client whose session is asked for has an identifier of at most 128 bytes.
use Rattle.std.proofs.Common.{◌≡◌, ℕ, ◌≤◌, Bool, true, false, cond, length, refl, arith}
use Rattle.std.specs.Prelude.{nat_lt, is_some, Option}
use Rattle.std.proofs.lemmas.Bool.Decides.{nat_tests}
use Rattle.mqtt_packet.specs.declared.packet.Connect.{Connect}
use Rattle.mqtt_packet.specs.declared.packet.ConnectRefusal.{ConnectRefusal}
use Rattle.mqtt_packet.specs.declared.packet.Packet.TheVariants as packets
use Rattle.conn_rules.specs.declared.connecting.FirstAnswer.{FirstAnswer}
use Rattle.conn_rules.specs.declared.connecting.FirstAnswer.TheVariants.{Close, Refuse, Attach}
use Rattle.users.specs.Table.{UserTable}
use Rattle.conn_rules.specs.Connecting.{is_under, first_answer}

short_by : (long : Bool) (refusal : ConnectRefusal) (other : FirstAnswer) (n : ℕ) → nat_lt 128 n ≡ long → cond {A = FirstAnswer} long (Refuse refusal) other ≡ Attach → n ≤ 128
short_by true refusal other n is attach = grind arith
short_by false refusal other n is attach = grind (arith, nat_tests)

short_if : (tiny small asks : Bool) (one two three : ConnectRefusal) (other : FirstAnswer) (n : ℕ)
    → cond {A = FirstAnswer} tiny Close (cond {A = FirstAnswer} small (Refuse one) (cond {A = FirstAnswer} asks (Refuse two) (cond {A = FirstAnswer} (nat_lt 128 n) (Refuse three) other))) ≡ Attach
    → n ≤ 128
short_if true small asks one two three other n attach = grind arith
short_if false true asks one two three other n attach = grind arith
short_if false false true one two three other n attach = grind arith
short_if false false false one two three other n attach = short_by (nat_lt 128 n) three other n refl attach

pub first_is_short : (users : Option UserTable) (connect : Connect) → first_answer users (packets.Connect connect) ≡ Attach → length connect.client_identifier ≤ 128
first_is_short users connect attach =
    short_if (is_under 5 connect.properties.maximum_packet_size) (is_under 64 connect.properties.maximum_packet_size) (is_some connect.properties.authentication)
    _ _ _ _ (length connect.client_identifier) attach
