-- Laws of streams: no spelling begins another, each stream has exactly one reading, and what is written is read again.
use Rattle.std.proofs.Common.{◌≡◌, ℕ, zero, suc, ◌<◌, ◌≤◌, List, [], ◌∷◌, ◌++◌, length, take, drop, Option, Some, None, Result, Ok, Err, refl, sym, ap, subst, ◌∙◌, arith, inl, inr, length-append}
use Rattle.std.proofs.lemmas.Bool.{cases_lt}
use Rattle.std.proofs.lemmas.List.{take_at, drop_at}
use Rattle.mqtt_fields.specs.declared.fault.StreamFault.{StreamFault}
use Rattle.mqtt_wire.specs.declared.frame.Frame.{Frame}
use Rattle.mqtt_wire.specs.declared.kind.Kind.{Kind}
use Rattle.mqtt_packet.specs.declared.packet.Packet.{Packet}
use Rattle.mqtt_packet.specs.declared.packet.Packet.TheVariants as packets
use Rattle.mqtt_fields.specs.Forms.{variable_byte_integer, AreBytes}
use Rattle.mqtt_wire.specs.Kinds.{first_byte}
use Rattle.mqtt_wire.specs.Bodies.{body_at}
use Rattle.mqtt_wire.specs.Writing.{packet_byte, framed, connect_body, publish_body, written_body, written, reason_bytes}
use Rattle.mqtt_wire.specs.Spelling.{SpellsConnect, SpellsPublish, SpellsPuback, SpellsSubscribe, SpellsUnsubscribe, SpellsDisconnect, SpellsBody, Spells}
use Rattle.mqtt_wire.specs.Stream.{Header, header_at, Frames, IsOpen, FaultAt, EndsAs, Begins, Reads, Reading}
use Rattle.mqtt_wire.specs.Frame.{frame_bytes}
use Rattle.mqtt_wire.proofs.BodyLaws.{body_again}
use Rattle.mqtt_packet.specs.declared.packet.Connect.{Connect}
use Rattle.mqtt_packet.specs.declared.packet.Publish.{Publish}
use Rattle.mqtt_packet.specs.declared.packet.Puback.{Puback}
use Rattle.mqtt_packet.specs.declared.packet.Subscribe.{Subscribe}
use Rattle.mqtt_packet.specs.declared.packet.Unsubscribe.{Unsubscribe}
use Rattle.mqtt_packet.specs.declared.packet.Disconnect.{Disconnect}
use Rattle.mqtt_fields.specs.declared.property.Section.TheVariants as sections
use Rattle.mqtt_fields.specs.Sections.{properties}
use Rattle.mqtt_fields.specs.PropertyLists.{connect_list, publish_list, puback_list, subscribe_list, unsubscribe_list, disconnect_list}
use Rattle.mqtt_fields.specs.FieldRanges.{ConnectFits, PublishFits, PubackFits, SubscribeFits, UnsubscribeFits, DisconnectFits}
use Rattle.mqtt_wire.specs.Ranges.{IsFromClient, PropertiesFit}
use Rattle.mqtt_wire.proofs.ReasonLaws.{reason_written}
use Rattle.mqtt_fields.proofs.PropertyListLaws.{spelled, all_of_connect, connect_gathered, connect_back, all_of_publish, publish_gathered, publish_back, all_of_puback, puback_gathered, puback_back, all_of_subscribe, subscribe_gathered, subscribe_back, all_of_unsubscribe, unsubscribe_gathered, unsubscribe_back, all_of_disconnect, disconnect_gathered, disconnect_back}
use Rattle.mqtt_wire.proofs.ConnectLaws.{shortest_other_version, shortest_with_will}
use Rattle.mqtt_wire.proofs.NextLaws.{body_size, frame_header, frame_spells, frames_whole, back_bytes, frame_body_bytes}

abbrev frame_of : Kind → List ℕ → Frame
frame_of kind body = record { kind = kind; body = body }

-- what stands in front where a spelling of a packet does
pub record Seen (packet : Packet) (front after : List ℕ) : Type 0 where
  pub kind : Kind
  pub body : List ℕ
  pub parts : front ≡ framed (first_byte kind) body
  pub small : length body ≤ 65532
  pub header : header_at (front ++ after) ≡ Ok (Some (record { kind = kind; remaining = length body; rest = body ++ after }))
  pub read : body_at kind body ≡ Ok packet

pub seen : (packet : Packet) (front after : List ℕ) → Spells packet front → Seen packet front after
seen packet front after spelled =
    let within : length spelled.body ≤ 65536 = omega (arith, ap length spelled.parts, length-append (packet_byte packet ∷ variable_byte_integer (length spelled.body)) spelled.body, spelled.size) in
    let r = body_again packet spelled.body within spelled.client spelled.spelled in
    let parts : front ≡ framed (first_byte r.kind) spelled.body = spelled.parts ∙ ap (λ (first : ℕ). framed first spelled.body) r.byte in
    let small = body_size (first_byte r.kind) spelled.body (omega (arith, ap length parts, spelled.size)) in
    record {
      kind = r.kind;
      body = spelled.body;
      parts = parts;
      small = small;
      header = ap (λ (f : List ℕ). header_at (f ++ after)) parts ∙ frame_header (frame_of r.kind spelled.body) after small;
      read = r.read;
    }

abbrev found : Header → Result (Option Header) StreamFault
found header = Ok (Some header)

header_is : (a b : Header) → found a ≡ found b → a ≡ b
header_is a b e = cc

abbrev read : Packet → Result Packet StreamFault
read packet = Ok packet

packet_is : (a b : Packet) → read a ≡ read b → a ≡ b
packet_is a b e = cc

same_front : (a x b y : List ℕ) → a ++ x ≡ b ++ y → length a ≡ length b → (a ≡ b) × (x ≡ y)
same_front a x b y e size = (
  sym (take_at a x (length a) refl) ∙ ap (take (length a)) e ∙ take_at b y (length a) (sym size),
  sym (drop_at a x (length a) refl) ∙ ap (drop (length a)) e ∙ drop_at b y (length a) (sym size),
)

-- no spelling is a proper beginning of another, and no bytes spell two packets
pub one_packet : (p q : Packet) (a x b y : List ℕ) → Spells p a → Spells q b → a ++ x ≡ b ++ y → (p ≡ q) × (a ≡ b) × (x ≡ y)
one_packet p q a x b y s t e =
    let u = seen p a x s in
    let v = seen q b y t in
    let same = header_is (record { kind = u.kind; remaining = length u.body; rest = u.body ++ x }) (record { kind = v.kind; remaining = length v.body; rest = v.body ++ y }) (sym u.header ∙ ap header_at e ∙ v.header) in
    let kind : u.kind ≡ v.kind = ap (λ (h : Header). h.kind) same in
    let size : length u.body ≡ length v.body = ap (λ (h : Header). h.remaining) same in
    let rest : u.body ++ x ≡ v.body ++ y = ap (λ (h : Header). h.rest) same in
    let parts = same_front u.body x v.body y rest size in (
      packet_is p q (sym u.read ∙ ap (λ (k : Kind). body_at k u.body) kind ∙ ap (body_at v.kind) parts.0 ∙ v.read),
      u.parts ∙ ap (λ (k : Kind). framed (first_byte k) u.body) kind ∙ ap (framed (first_byte v.kind)) parts.0 ∙ sym v.parts,
      parts.1,
    )

-- a stream that begins with a packet is not open ..
pub not_open : (packet : Packet) (front after : List ℕ) → Spells packet front → IsOpen (front ++ after) → ⊥
not_open packet front after spelled open' =
    let s = seen packet front after spelled in
    elim open' [
      | inl none ↦ let no = sym none ∙ s.header in absurd cc
      | inr more ↦
          let same = header_is (record { kind = s.kind; remaining = length s.body; rest = s.body ++ after }) more.0 (sym s.header ∙ more.1) in
          omega (arith, more.2, ap (λ (h : Header). h.remaining) same, ap (λ (h : Header). length h.rest) same, length-append s.body after)
    ]

-- .. and no fault stands in front of it
pub no_fault : (packet : Packet) (front after : List ℕ) (fault : StreamFault) → Spells packet front → FaultAt fault (front ++ after) → ⊥
no_fault packet front after fault spelled at =
    let s = seen packet front after spelled in
    elim at [
      | inl header ↦ let no = sym header ∙ s.header in absurd cc
      | inr body ↦
          let same = header_is (record { kind = s.kind; remaining = length s.body; rest = s.body ++ after }) body.0 (sym s.header ∙ body.1.found) in
          let whole : body_at s.kind (take (length s.body) (s.body ++ after)) ≡ Err fault = ap (λ (h : Header). body_at h.kind (take h.remaining h.rest)) same ∙ body.2 in
          let no = sym s.read ∙ ap (body_at s.kind) (sym (take_at s.body after (length s.body) refl)) ∙ whole in
          absurd cc
    ]

-- ---- each stream has a reading

length-framed : (first : ℕ) (body : List ℕ) → 0 < length (framed first body)
length-framed first body = omega (arith, length-append (first ∷ variable_byte_integer (length body)) body)

longer_than : (front after stream : List ℕ) → 0 < length front → front ++ after ≡ stream → length after < length stream
longer_than front after stream some e = omega (arith, ap length e, length-append front after)

spelled_next : (stream : List ℕ) (header : Header) (packet : Packet) → AreBytes stream → Frames stream header → body_at header.kind (take header.remaining header.rest) ≡ Ok packet → ((after : List ℕ) → length after < length stream → AreBytes after → Reading after) → Reading stream
spelled_next stream header packet fits frames e next =
    let frame : Frame = frame_of header.kind (take header.remaining header.rest) in
    let after : List ℕ = drop header.remaining header.rest in
    let k = frames_whole stream header fits frames in
    let here : AreBytes (frame_bytes frame ++ after) = subst AreBytes (sym k.same) fits in
    let spelled = frame_spells frame packet k.small (frame_body_bytes frame after here) e in
    let shorter : length after < length stream = longer_than (frame_bytes frame) after stream (length-framed (first_byte header.kind) frame.body) k.same in
    let r = next after shorter (back_bytes (frame_bytes frame) after here) in
    (packet ∷ r.0, r.1, r.2, ((frame_bytes frame, after, spelled, sym k.same, r.3.0), r.3.1))

after_body : (stream : List ℕ) (header : Header) (body : Result Packet StreamFault) → AreBytes stream → Frames stream header → body_at header.kind (take header.remaining header.rest) ≡ body → ((after : List ℕ) → length after < length stream → AreBytes after → Reading after) → Reading stream
after_body stream header (Ok packet) fits frames e next = spelled_next stream header packet fits frames e next
after_body stream header (Err fault) fits frames e next = ([], stream, Some fault, (refl, inr (header, frames, e)))

after_header : (stream : List ℕ) (header : Result (Option Header) StreamFault) → AreBytes stream → header_at stream ≡ header → ((after : List ℕ) → length after < length stream → AreBytes after → Reading after) → Reading stream
after_header stream (Err fault) fits e next = ([], stream, Some fault, (refl, inl e))
after_header stream (Ok None) fits e next = ([], stream, None, (refl, inl e))
after_header stream (Ok (Some header)) fits e next =
    elim (cases_lt (length header.rest) header.remaining) [
      | inl less ↦ ([], stream, None, (refl, inr (header, e, less)))
      | inr whole ↦ after_body stream header (body_at header.kind (take header.remaining header.rest)) fits (record { found = e; whole = whole }) refl next
    ]

reading_within : (most : ℕ) (stream : List ℕ) → length stream ≤ most → AreBytes stream → Reading stream
reading_within zero stream room fits = after_header stream (header_at stream) fits refl (λ after less bytes. absurd (omega arith))
reading_within (suc most) stream room fits =
    after_header stream (header_at stream) fits refl (λ after less bytes. reading_within most after (omega arith) bytes)

pub exists_reading : (stream : List ℕ) → AreBytes stream → Reading stream
exists_reading stream fits = reading_within (length stream) stream (omega arith) fits

-- ---- and only one

open_no_fault : (bytes : List ℕ) (fault : StreamFault) → IsOpen bytes → FaultAt fault bytes → ⊥
open_no_fault bytes fault (inl none) (inl bad) = let no = sym none ∙ bad in absurd cc
open_no_fault bytes fault (inl none) (inr body) = let no = sym none ∙ body.1.found in absurd cc
open_no_fault bytes fault (inr more) (inl bad) = let no = sym more.1 ∙ bad in absurd cc
open_no_fault bytes fault (inr more) (inr body) =
    let same = header_is more.0 body.0 (sym more.1 ∙ body.1.found) in
    omega (arith, more.2, body.1.whole, ap (λ (h : Header). h.remaining) same, ap (λ (h : Header). length h.rest) same)

abbrev bad_header : StreamFault → Result (Option Header) StreamFault
bad_header fault = Err fault

abbrev bad_body : StreamFault → Result Packet StreamFault
bad_body fault = Err fault

bad_header_is : (f g : StreamFault) → bad_header f ≡ bad_header g → f ≡ g
bad_header_is f g e = cc

bad_body_is : (f g : StreamFault) → bad_body f ≡ bad_body g → f ≡ g
bad_body_is f g e = cc

one_fault : (bytes : List ℕ) (f g : StreamFault) → FaultAt f bytes → FaultAt g bytes → f ≡ g
one_fault bytes f g (inl p) (inl q) = bad_header_is f g (sym p ∙ q)
one_fault bytes f g (inl p) (inr q) = let no = sym p ∙ q.1.found in absurd cc
one_fault bytes f g (inr p) (inl q) = let no = sym q ∙ p.1.found in absurd cc
one_fault bytes f g (inr p) (inr q) =
    let same = header_is p.0 q.0 (sym p.1.found ∙ q.1.found) in
    bad_body_is f g (sym p.2 ∙ ap (λ (h : Header). body_at h.kind (take h.remaining h.rest)) same ∙ q.2)

one_end : (rest : List ℕ) (f g : Option StreamFault) → EndsAs rest f → EndsAs rest g → f ≡ g
one_end rest None None p q = refl
one_end rest None (Some g) p q = absurd (open_no_fault rest g p q)
one_end rest (Some f) None p q = absurd (open_no_fault rest f q p)
one_end rest (Some f) (Some g) p q = ap (λ (h : StreamFault). Some h) (one_fault rest f g p q)

not_ended : (packet : Packet) (front after : List ℕ) (fault : Option StreamFault) → Spells packet front → EndsAs (front ++ after) fault → ⊥
not_ended packet front after None spelled ends = not_open packet front after spelled ends
not_ended packet front after (Some fault) spelled ends = no_fault packet front after fault spelled ends

pub one_reading : (stream : List ℕ) (ps : List Packet) (r : List ℕ) (f : Option StreamFault) (qs : List Packet) (s : List ℕ) (g : Option StreamFault) → Reads stream ps r f → Reads stream qs s g → (ps ≡ qs) × (r ≡ s) × (f ≡ g)
one_reading stream [] r f [] s g p q =
    let same : r ≡ s = sym p.0 ∙ q.0 in
    (refl, same, one_end s f g (subst (λ (t : List ℕ). EndsAs t f) same p.1) q.1)
one_reading stream [] r f (packet ∷ qs) s g p q =
    absurd (not_ended packet q.0.0 q.0.1 f q.0.2 (subst (λ (t : List ℕ). EndsAs t f) (sym p.0 ∙ q.0.3) p.1))
one_reading stream (packet ∷ ps) r f [] s g p q =
    absurd (not_ended packet p.0.0 p.0.1 g p.0.2 (subst (λ (t : List ℕ). EndsAs t g) (sym q.0 ∙ p.0.3) q.1))
one_reading stream (p' ∷ ps) r f (q' ∷ qs) s g p q =
    let first = one_packet p' q' p.0.0 p.0.1 q.0.0 q.0.1 p.0.2 q.0.2 (sym p.0.3 ∙ q.0.3) in
    let others = one_reading q.0.1 ps r f qs s g (subst (λ (t : List ℕ). Begins t ps r) first.2 p.0.4, p.1) (q.0.4, q.1) in
    (ap (λ (x : Packet). x ∷ ps) first.0 ∙ ap (λ (xs : List Packet). q' ∷ xs) others.0, others.1, others.2)

-- ---- what is written is read again

connect_spells : (c : Connect) → ConnectFits c.properties → SpellsConnect c (connect_body c)
connect_spells c fits = record {
  all = all_of_connect c.properties;
  section = properties (connect_list c.properties);
  spelled = spelled sections.Connect (connect_list c.properties) (all_of_connect c.properties) (connect_gathered c.properties fits);
  properties_are = connect_back c.properties;
  parts = refl;
}

publish_spells : (p : Publish) → p.subscription_identifier ≡ None → PublishFits p → SpellsPublish p (publish_body p)
publish_spells p none fits = record {
  all = all_of_publish p;
  section = properties (publish_list p);
  spelled = spelled sections.Publish (publish_list p) (all_of_publish p) (publish_gathered p none fits);
  expiry_is = refl;
  properties_are = publish_back p;
  parts = refl;
}

puback_spells : (p : Puback) → PubackFits p.properties → SpellsPuback p (written_body (packets.Puback p))
puback_spells p fits = record {
  all = all_of_puback p.properties;
  reason = reason_bytes p.reason_code (puback_list p.properties);
  spelled = reason_written sections.Puback p.reason_code (puback_list p.properties) (all_of_puback p.properties) (puback_gathered p.properties fits);
  properties_are = puback_back p.properties;
  parts = refl;
}

subscribe_spells : (s : Subscribe) → SubscribeFits s.properties → SpellsSubscribe s (written_body (packets.Subscribe s))
subscribe_spells s fits = record {
  all = all_of_subscribe s.properties;
  section = properties (subscribe_list s.properties);
  spelled = spelled sections.Subscribe (subscribe_list s.properties) (all_of_subscribe s.properties) (subscribe_gathered s.properties fits);
  properties_are = subscribe_back s.properties;
  parts = refl;
}

unsubscribe_spells : (u : Unsubscribe) → UnsubscribeFits u.properties → SpellsUnsubscribe u (written_body (packets.Unsubscribe u))
unsubscribe_spells u fits = record {
  all = all_of_unsubscribe u.properties;
  section = properties (unsubscribe_list u.properties);
  spelled = spelled sections.Unsubscribe (unsubscribe_list u.properties) (all_of_unsubscribe u.properties) (unsubscribe_gathered u.properties fits);
  properties_are = unsubscribe_back u.properties;
  parts = refl;
}

disconnect_spells : (d : Disconnect) → DisconnectFits d.properties → SpellsDisconnect d (written_body (packets.Disconnect d))
disconnect_spells d fits = record {
  all = all_of_disconnect d.properties;
  spelled = reason_written sections.Disconnect d.reason_code (disconnect_list d.properties) (all_of_disconnect d.properties) (disconnect_gathered d.properties fits);
  properties_are = disconnect_back d.properties;
}

written_body_spells : (packet : Packet) → IsFromClient packet → PropertiesFit packet → SpellsBody packet (written_body packet)
written_body_spells (packets.Connect c) client fits = connect_spells c fits
written_body_spells (packets.Connack c) client fits = absurd client
written_body_spells (packets.Publish p) client fits = publish_spells p client.2 fits
written_body_spells (packets.Puback p) client fits = puback_spells p fits
written_body_spells (packets.Subscribe s) client fits = subscribe_spells s fits
written_body_spells (packets.Suback s) client fits = absurd client
written_body_spells (packets.Unsubscribe u) client fits = unsubscribe_spells u fits
written_body_spells (packets.Unsuback u) client fits = absurd client
written_body_spells packets.Pingreq client fits = refl
written_body_spells packets.Pingresp client fits = absurd client
written_body_spells (packets.Disconnect d) client fits = disconnect_spells d fits
written_body_spells (packets.Foreign kind) client fits = tt
written_body_spells (packets.OtherVersion version) client fits = shortest_other_version version
written_body_spells packets.WithWill client fits = shortest_with_will

pub written_spells : (packet : Packet) → IsFromClient packet → PropertiesFit packet → length (written packet) ≤ 65536 → Spells packet (written packet)
unfolding written
written_spells packet client fits small =
    record { client = client; fits = fits; body = written_body packet; spelled = written_body_spells packet client fits; parts = refl; size = small }

pub read_again : (packet : Packet) (after : List ℕ) (all : List Packet) (rest : List ℕ) (fault : Option StreamFault) → IsFromClient packet → PropertiesFit packet → length (written packet) ≤ 65536 → Reads (written packet ++ after) all rest fault → (others : List Packet) × (all ≡ packet ∷ others) × Reads after others rest fault
read_again packet after [] rest fault client fits small reads =
    absurd (not_ended packet (written packet) after fault (written_spells packet client fits small) (subst (λ (r : List ℕ). EndsAs r fault) (sym reads.0) reads.1))
read_again packet after (first ∷ others) rest fault client fits small reads =
    let same = one_packet packet first (written packet) after reads.0.0 reads.0.1 (written_spells packet client fits small) reads.0.2 reads.0.3 in
    (others, ap (λ (p : Packet). p ∷ others) (sym same.0), (subst (λ (r : List ℕ). Begins r others rest) (sym same.2) reads.0.4, reads.1))
