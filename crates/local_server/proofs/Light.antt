-- What a step sends is short: what is handed on was accepted, and came in a PUBLISH that was read.
use Rattle.std.proofs.Common.{◌≡◌, ℕ, nat_eq, ◌&&◌, Bool, true, false, if◌then◌else◌, List, [], ◌∷◌, filter_map, Option, Some, None, Contains, slice_get, zero, suc, sym, subst, inl, inr}
use Rattle.std.specs.Prelude.{⊤}
use Rattle.std.specs.List.{AllByRecursion, cons_option}
use Rattle.std.proofs.lemmas.Option.{same_Some}
use Rattle.mqtt_packet.specs.declared.packet.Packet.{Packet}
use Rattle.mqtt_packet.specs.declared.packet.Packet.TheVariants as packets
use Rattle.mqtt_wire.specs.Spelling.{Spells}
use Rattle.group_jobs.specs.declared.message.Message.{Message}
use Rattle.group_jobs.specs.Stamps.{Held}
use Rattle.member_window.specs.Marks.{Mark, Up, Sent, Acked, Down}
use Rattle.member_window.proofs.Lists.{contains_here, contains_there}
use Rattle.conn_rules.specs.Packets.{job}
use Rattle.conn_engine.specs.declared.input.Input.{Input}
use Rattle.conn_engine.specs.declared.input.Input.TheVariants as inputs
use Rattle.conn_laws.specs.Marks.{as_publish, publishes_in, publishes_of}
use Rattle.conn_laws.specs.Sizes.{IsShort, IsLight, IsShortUnlessHandedOn}
use Rattle.conn_laws.proofs.Forwarding.{light}
use Rattle.conn_laws.proofs.Lengths.{said}
use Rattle.client_table.specs.Clients.{StepOutput}
use Rattle.local_server.specs.Messages.{Accepted, messages_through, IsBroughtBy, sent_in}
use Rattle.local_server.specs.Sizes.{AllShort, IsWritable, AllWritable}
use Rattle.local_server.proofs.Known.{Log, IsKnown}

-- a packet that comes was read
abbrev pub IsSpelled : Input → Type 0
IsSpelled (inputs.Packet packet) = (bytes : List ℕ) × Spells packet bytes
IsSpelled (inputs.Fault fault) = ⊤
IsSpelled inputs.Tick = ⊤
IsSpelled inputs.EndOfInput = ⊤
IsSpelled inputs.Closing = ⊤

-- what was accepted is short in whatever PUBLISH it is handed on
abbrev pub AllLight : Log → Type 0
AllLight log = AllByRecursion (λ (a : Accepted). IsLight a.message) log

pub brought_light : (accepted : List Accepted) (number now : ℕ) (input : Input) → IsSpelled input → AllByRecursion (IsBroughtBy number now input) accepted → AllLight accepted
brought_light [] number now input spelled each = tt
brought_light (first ∷ others) number now input spelled each =
    let brought = each.0 in
    let read : IsSpelled (inputs.Packet (packets.Publish brought.publish)) = subst IsSpelled brought.came spelled in
    (subst IsLight (sym brought.message) (light brought.publish read.0 now read.1), brought_light others number now input spelled each.1)

-- a message of a port is one of what was accepted
one_light : (ours : Bool) (first : Message) (messages : List Message) (place : ℕ) (message : Message) → IsLight first
    → ((k : ℕ) → slice_get messages k ≡ Some message → IsLight message) → slice_get (cons_option (if ours then Some first else None) messages) place ≡ Some message
    → IsLight message
one_light false first messages place message its rest is = rest place is
one_light true first messages zero message its rest is = subst IsLight (same_Some first message is) its
one_light true first messages (suc place) message its rest is = rest place is

through_light : (log : Log) (group port place : ℕ) (message : Message) → AllLight log → slice_get (messages_through group port log) place ≡ Some message → IsLight message
through_light [] group port place message all is = absurd (cc)
through_light (first ∷ others) group port place message all is =
    one_light (nat_eq first.group group && nat_eq first.port port) first.message (messages_through group port others) place message all.0
    (λ k there. through_light others group port k message all.1 there) is

pub known_light : (log : Log) (envelope : Held) → AllLight log → IsKnown log envelope → IsLight envelope.message
known_light log envelope all known = through_light log envelope.stamp.group envelope.stamp.port envelope.stamp.number envelope.message all known

-- the PUBLISH packets of marks that send only such messages
pub marks_short : (now : ℕ) (marks : List (Mark Held)) → ((e : Held) → Contains (filter_map sent_in marks) e → IsLight e.message) → AllByRecursion IsShort (publishes_of now marks)
marks_short now [] all = tt
marks_short now (Up receive_maximum ∷ marks) all = marks_short now marks all
marks_short now (Sent identifier dup envelope ∷ marks) all = (
  all envelope (contains_here envelope (filter_map sent_in marks)) now dup envelope.subscription identifier,
  marks_short now marks (λ e has. all e (contains_there envelope (filter_map sent_in marks) e has)),
)
marks_short now (Acked identifier code ∷ marks) all = marks_short now marks all
marks_short now (Down ∷ marks) all = marks_short now marks all

-- a packet is short itself, or is one of the PUBLISH packets
behind_first : (found : Option Packet) (others : List Packet) → AllByRecursion IsShort (cons_option found others) → AllByRecursion IsShort others
behind_first None others all = all
behind_first (Some packet) others all = all.1

pub packets_short : (sent : List Packet) → AllByRecursion IsShortUnlessHandedOn sent → AllByRecursion IsShort (publishes_in sent) → AllByRecursion IsShort sent
packets_short [] all publishes = tt
packets_short (packet ∷ others) all publishes = (
  first all.0,
  packets_short others all.1 (behind_first (as_publish packet) (publishes_in others) publishes),
)
  where
    first : IsShortUnlessHandedOn packet → IsShort packet
    first (inl short) = short
    first (inr on) =
        let its : AllByRecursion IsShort (cons_option (as_publish (job on.now on.dup on.message on.subscription on.identifier)) (publishes_in others)) =
        subst (λ (p : Packet). AllByRecursion IsShort (cons_option (as_publish p) (publishes_in others))) on.is publishes in
        subst IsShort (sym on.is) its.0

-- what is short can be written
all_writable : (sent : List Packet) → AllByRecursion IsShort sent → AllByRecursion IsWritable sent
all_writable [] all = tt
all_writable (packet ∷ others) all = (said packet all.0, all_writable others all.1)

pub writable : (told : List StepOutput) → AllShort told → AllWritable told
writable [] all = tt
writable (one ∷ others) all = (all_writable one.packets all.0, writable others all.1)
