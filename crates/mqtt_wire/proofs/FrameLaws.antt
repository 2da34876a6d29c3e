-- A header that is taken off a stream leaves what is after it.
use Rattle.std.proofs.Common.{◌≡◌, ℕ, ◌-◌, ◌≤◌, List, ◌++◌, length, drop, Some, Ok, ap, ◌∙◌, arith, length-append}
use Rattle.std.proofs.lemmas.List.{drop_at}
use Rattle.mqtt_wire.specs.Stream.{Header, header_at}
use Rattle.mqtt_wire.proofs.HeaderLaws.{header_end}

pub rest_within : (bytes : List ℕ) (header : Header) → header_at bytes ≡ Ok (Some header) → length header.rest ≤ length bytes
rest_within bytes header e =
    let p = header_end bytes header e in
    omega (arith, ap length p.1, length-append p.0 header.rest)

header_size : (bytes front rest : List ℕ) → bytes ≡ front ++ rest → length front ≡ length bytes - length rest
header_size bytes front rest e = omega (arith, ap length e, length-append front rest)

pub rest_of : (bytes : List ℕ) (header : Header) → header_at bytes ≡ Ok (Some header) → drop (length bytes - length header.rest) bytes ≡ header.rest
rest_of bytes header e =
    let p = header_end bytes header e in
    ap (drop (length bytes - length header.rest)) p.1 ∙ drop_at p.0 header.rest (length bytes - length header.rest) (header_size bytes p.0 header.rest p.1)
