-- A stream with more bytes after it: what was read of it stays, and so does a fault.
use Rattle.std.proofs.Common.{◌≡◌, ℕ, zero, suc, ◌+◌, ◌-◌, ◌*◌, ltb, eqb, List, [], ◌∷◌, ◌++◌, Option, Some, None, Result, Ok, Err, refl, sym, ap, subst, ◌∙◌, append_assoc, arith, inl, inr, length-append}
use Rattle.std.proofs.lemmas.List.{take-append-le}
use Rattle.mqtt_fields.specs.declared.fault.StreamFault.{StreamFault}
use Rattle.mqtt_fields.specs.declared.fault.StreamFault.TheVariants.{Malformed, TooLarge}
use Rattle.mqtt_packet.specs.declared.packet.Packet.{Packet}
use Rattle.mqtt_wire.specs.declared.kind.Kind.{Kind}
use Rattle.mqtt_fields.specs.Forms.{variable_byte_integer, variable_bytes, AreBytes}
use Rattle.mqtt_wire.specs.Kinds.{kind_at, first_byte}
use Rattle.mqtt_fields.specs.Faults.{◌>>=◌}
use Rattle.mqtt_fields.specs.Fields.{variable_at, longer}
use Rattle.mqtt_wire.specs.Bodies.{body_at}
use Rattle.mqtt_wire.specs.Stream.{Header, header_at, header_of, header_from, Frames, FaultAt, Begins, Reads}
use Rattle.mqtt_fields.proofs.Steps.{rest_bytes}
use Rattle.mqtt_fields.proofs.Variable.{variable_takes, variable_again, chosen}
use Rattle.mqtt_wire.proofs.HeaderLaws.{header_takes, header_again}
use Rattle.mqtt_wire.proofs.NextLaws.{back_bytes}

-- ---- a number

abbrev number_found : ℕ × List ℕ → Result (Option (ℕ × List ℕ)) StreamFault
number_found x = Ok (Some x)

variable_more : (n : ℕ) (bytes more : List ℕ) (x : ℕ × List ℕ) → AreBytes bytes → variable_at n bytes ≡ number_found x → variable_at n (bytes ++ more) ≡ number_found (x.0, x.1 ++ more)
variable_more n bytes more x fits e =
    let t = variable_takes n bytes x fits e in
    ap (λ (b : List ℕ). variable_at n (b ++ more)) t.0.parts
    ∙ ap (variable_at n) (append_assoc (variable_bytes n x.0) x.1 more)
    ∙ variable_again n x.0 (x.1 ++ more) t.1

longer_fails : (byte : ℕ) (x : ℕ × List ℕ) (more : List ℕ) (fault : StreamFault) → longer byte (Some x) ≡ Err fault → longer byte (Some (x.0, x.1 ++ more)) ≡ Err fault
longer_fails byte x more fault e =
    elim (chosen (eqb x.0 0) (Err Malformed) (number_found (byte - 128 + 128 * x.0, x.1)) (Err fault) e) [
      | inl low ↦ rw low.0 low.1
      | inr high ↦ absurd (let no = high.1 in cc)
    ]

-- ---- a header

more_fails : (n : ℕ) (byte : ℕ) (bytes more : List ℕ) (fault : StreamFault) (read : Result (Option (ℕ × List ℕ)) StreamFault) → AreBytes bytes → variable_at n bytes ≡ read → (read >>= longer byte) ≡ Err fault → ((f : StreamFault) → read ≡ Err f → variable_at n (bytes ++ more) ≡ Err f) → (variable_at n (bytes ++ more) >>= longer byte) ≡ Err fault
more_fails n byte bytes more fault (Err f) fits is e later = rw (later f refl) e
more_fails n byte bytes more fault (Ok None) fits is e later = absurd cc
more_fails n byte bytes more fault (Ok (Some x)) fits is e later = rw (variable_more n bytes more x fits is) (longer_fails byte x more fault e)

variable_fails : (n : ℕ) (bytes more : List ℕ) (fault : StreamFault) → AreBytes bytes → variable_at n bytes ≡ Err fault → variable_at n (bytes ++ more) ≡ Err fault
unfolding variable_at
variable_fails zero [] more fault fits e = absurd cc
variable_fails (suc n) [] more fault fits e = absurd cc
variable_fails zero (byte ∷ bytes) more fault fits e =
    elim (chosen (ltb byte 128) (number_found (byte, bytes)) (Err Malformed) (Err fault) e) [
      | inl small ↦ absurd (let no = small.1 in cc)
      | inr large ↦ rw large.0 large.1
    ]
variable_fails (suc n) (byte ∷ bytes) more fault fits e =
    elim (chosen (ltb byte 128) (number_found (byte, bytes)) (variable_at n bytes >>= longer byte) (Err fault) e) [
      | inl small ↦ absurd (let no = small.1 in cc)
      | inr large ↦
          let rest = rest_bytes byte bytes fits in
          rw large.0 (more_fails n byte bytes more fault (variable_at n bytes) rest refl large.1 (λ f is. variable_fails n bytes more f rest is))
    ]

abbrev header_found : Header → Result (Option Header) StreamFault
header_found header = Ok (Some header)

size_fails : (kind : Kind) (bytes more : List ℕ) (fault : StreamFault) (read : Result (Option (ℕ × List ℕ)) StreamFault) → AreBytes bytes → variable_at 3 bytes ≡ read → (read >>= header_from kind) ≡ Err fault → (variable_at 3 (bytes ++ more) >>= header_from kind) ≡ Err fault
size_fails kind bytes more fault (Err f) fits is e = rw (variable_fails 3 bytes more f fits is) e
size_fails kind bytes more fault (Ok None) fits is e = absurd cc
size_fails kind bytes more fault (Ok (Some size)) fits is e =
    elim (chosen (ltb 65532 size.0) (Err TooLarge) (header_found (record { kind = kind; remaining = size.0; rest = size.1 })) (Err fault) e) [
      | inl large ↦ rw (variable_more 3 bytes more size fits is, large.0) large.1
      | inr small ↦ absurd (let no = small.1 in cc)
    ]

kind_fails : (kind : Option Kind) (bytes more : List ℕ) (fault : StreamFault) → AreBytes bytes → header_of kind bytes ≡ Err fault → header_of kind (bytes ++ more) ≡ Err fault
kind_fails None bytes more fault fits e = e
kind_fails (Some kind) bytes more fault fits e = size_fails kind bytes more fault (variable_at 3 bytes) fits refl e

header_fails : (stream more : List ℕ) (fault : StreamFault) → AreBytes stream → header_at stream ≡ Err fault → header_at (stream ++ more) ≡ Err fault
unfolding header_at
header_fails [] more fault fits e = absurd cc
header_fails (first ∷ bytes) more fault fits e = kind_fails (kind_at first) bytes more fault (rest_bytes first bytes fits) e

abbrev behind : Header → List ℕ → Header
behind header more = record header { rest = header.rest ++ more }

header_more : (stream more : List ℕ) (header : Header) → AreBytes stream → header_at stream ≡ header_found header → header_at (stream ++ more) ≡ header_found (behind header more)
header_more stream more header fits e =
    let t = header_takes stream header fits e in
    ap (λ (b : List ℕ). header_at (b ++ more)) t.parts
    ∙ ap header_at (append_assoc (first_byte header.kind ∷ variable_byte_integer header.remaining) header.rest more)
    ∙ header_again header.kind header.remaining (header.rest ++ more) t.small

-- ---- a fault

fault_stays : (stream more : List ℕ) (fault : StreamFault) → AreBytes stream → FaultAt fault stream → FaultAt fault (stream ++ more)
fault_stays stream more fault fits at =
    elim at [
      | inl header ↦ inl (header_fails stream more fault fits header)
      | inr body ↦
          let header = body.0 in
          let frames : Frames (stream ++ more) (behind header more) = record {
            found = header_more stream more header fits body.1.found;
            whole = omega (arith, body.1.whole, length-append header.rest more);
          } in
          inr (behind header more, frames, ap (body_at header.kind) (take-append-le header.remaining header.rest more body.1.whole) ∙ body.2)
    ]

-- ---- packets

begins_more : (stream : List ℕ) (packets : List Packet) (rest more : List ℕ) → Begins stream packets rest → Begins (stream ++ more) packets (rest ++ more)
begins_more stream [] rest more e = ap (λ (s : List ℕ). s ++ more) e
begins_more stream (packet ∷ packets) rest more b =
    (b.0, b.1 ++ more, b.2, ap (λ (s : List ℕ). s ++ more) b.3 ∙ append_assoc b.0 b.1 more, begins_more b.1 packets rest more b.4)

begins_on : (stream : List ℕ) (packets : List Packet) (rest : List ℕ) (others : List Packet) (last : List ℕ) → Begins stream packets rest → Begins rest others last → Begins stream (packets ++ others) last
begins_on stream [] rest others last e next = subst (λ (s : List ℕ). Begins s others last) (sym e) next
begins_on stream (packet ∷ packets) rest others last b next = (b.0, b.1, b.2, b.3, begins_on b.1 packets rest others last b.4 next)

rest_fits : (stream : List ℕ) (packets : List Packet) (rest : List ℕ) → AreBytes stream → Begins stream packets rest → AreBytes rest
rest_fits stream [] rest fits e = subst AreBytes e fits
rest_fits stream (packet ∷ packets) rest fits b = rest_fits b.1 packets rest (back_bytes b.0 b.1 (subst AreBytes b.3 fits)) b.4

pub read_on : (piece next : List ℕ) (packets others : List Packet) (rest last : List ℕ) (fault : Option StreamFault) → Reads piece packets rest None → Reads (rest ++ next) others last fault → Reads (piece ++ next) (packets ++ others) last fault
read_on piece next packets others last_of last fault first second =
    (begins_on (piece ++ next) packets (last_of ++ next) others last (begins_more piece packets last_of next first.0) second.0, second.1)

pub faulty_stays : (piece next : List ℕ) (packets : List Packet) (rest : List ℕ) (fault : StreamFault) → AreBytes piece → Reads piece packets rest (Some fault) → Reads (piece ++ next) packets (rest ++ next) (Some fault)
faulty_stays piece next packets rest fault fits read =
    (begins_more piece packets rest next read.0, fault_stays rest next fault (rest_fits piece packets rest fits read.0) read.1)
