-- The events that an input spells are its stream in pieces.
use Rattle.std.proofs.Common.{◌≡◌, ◌↔◌, ℕ, zero, suc, ◌+◌, List, [], ◌∷◌, ◌++◌, Result, Ok, Err, refl, sym, ap, ◌∙◌, arith}
use Rattle.hex.specs.Hex.{decode_of}
use Rattle.hex.specs.declared.error.FromHexError.{FromHexError}
use Rattle.hex.proofs.HexLemmas.{decode_of-ok}
use Rattle.text_io.specs.Lines.{lines_of}
use Rattle.mqtt_fields.specs.Forms.{AreBytes}
use Rattle.local_server.specs.declared.event.ServerEvent.TheVariants.{Open, Bytes, End}
use Rattle.local_server.specs.declared.event.TimedEvent.{TimedEvent}
use Rattle.drive.specs.Scripts.{followed_by}
use Rattle.drive.specs.Streams.{at_once, piece_of, pieces_from, behind_opening, client_script_of}
use Rattle.solo_output.specs.Streams.{joined, stream_from, stream_of}

-- the pieces, and then the end
abbrev pub all_pieces : List (List ℕ) → List TimedEvent
all_pieces [] = at_once (End 0) ∷ []
all_pieces (piece ∷ pieces) = at_once (Bytes 0 piece) ∷ all_pieces pieces

abbrev pub whole : List (List ℕ) → List ℕ
whole [] = []
whole (piece ∷ pieces) = piece ++ whole pieces

-- what lines spell, in both ways
record AreSpelled (events : Result (List TimedEvent) ℕ) (stream : Result (List ℕ) ℕ) (script : List TimedEvent) : Type 0 where
  pieces : List (List ℕ)
  script_is : script ≡ all_pieces pieces
  stream_is : stream ≡ Ok (whole pieces)
  bytes : AreBytes (whole pieces)

bytes_append : (xs ys : List ℕ) → AreBytes xs → AreBytes ys → AreBytes (xs ++ ys)
bytes_append [] ys first second i = second i
bytes_append (x ∷ xs) ys first second zero = first 0
bytes_append (x ∷ xs) ys first second (suc i) = bytes_append xs ys (λ k. first (suc k)) second i

is_ok : {A E : Type 0} (x y : A) → ◌≡◌ {A = Result A E} (Ok x) (Ok y) → x ≡ y
is_ok x y e = cc

is_err : {A E : Type 0} (x y : E) → ◌≡◌ {A = Result A E} (Err x) (Err y) → x ≡ y
is_err x y e = cc

not_ok : {A E : Type 0} (x : A) (y : E) → ◌≡◌ {A = Result A E} (Err y) (Ok x) → ⊥
not_ok x y e = cc

-- a line and those after it
spelled_line : (line : List ℕ) (decoded : Result (List ℕ) FromHexError) (number : ℕ) (events : Result (List TimedEvent) ℕ) (stream : Result (List ℕ) ℕ) (script : List TimedEvent)
    → decode_of line ≡ decoded → ((script : List TimedEvent) → events ≡ Ok script → AreSpelled events stream script) → followed_by (piece_of decoded) number events ≡ Ok script
    → AreSpelled (followed_by (piece_of decoded) number events) (joined decoded number stream) script
spelled_line line (Err error) number events stream script is behind spells = absurd (not_ok script number spells)
spelled_line line (Ok piece) number (Err later) stream script is behind spells = absurd (not_ok script later spells)
spelled_line line (Ok piece) number (Ok events) stream script is behind spells =
    let rest = behind events refl in
    record {
      pieces = piece ∷ rest.pieces;
      script_is = sym (is_ok (at_once (Bytes 0 piece) ∷ events) script spells) ∙ ap (λ (es : List TimedEvent). at_once (Bytes 0 piece) ∷ es) rest.script_is;
      stream_is = ap (joined (Ok piece) number) rest.stream_is;
      bytes = bytes_append piece (whole rest.pieces) (decode_of-ok line piece is).3 rest.bytes;
    }

spelled_lines : (number : ℕ) (lines : List (List ℕ)) (script : List TimedEvent) → pieces_from number lines ≡ Ok script → AreSpelled (pieces_from number lines) (stream_from number lines) script
spelled_lines number [] script spells =
    record { pieces = []; script_is = sym (is_ok (at_once (End 0) ∷ []) script spells); stream_is = refl; bytes = λ i. omega arith }
spelled_lines number (line ∷ lines) script spells =
    spelled_line line (decode_of line) number (pieces_from (number + 1) lines) (stream_from (number + 1) lines) script refl (λ later is. spelled_lines (number + 1) lines later is) spells

-- a stream in pieces, after the opening
pub record IsCut (input : List ℕ) (events : List TimedEvent) : Type 0 where
  pub pieces : List (List ℕ)
  pub events_are : events ≡ at_once (Open 0) ∷ all_pieces pieces
  pub stream_is : stream_of input ≡ Ok (whole pieces)
  pub bytes : AreBytes (whole pieces)

opened : (script : Result (List TimedEvent) ℕ) (stream : Result (List ℕ) ℕ) (events : List TimedEvent) → ((later : List TimedEvent) → script ≡ Ok later → AreSpelled script stream later) → behind_opening script ≡ Ok events
    → (later : List TimedEvent) × (events ≡ at_once (Open 0) ∷ later) × AreSpelled script stream later
opened (Ok later) stream events spells is = (later, sym (is_ok (at_once (Open 0) ∷ later) events is), spells later refl)
opened (Err line) stream events spells is = absurd (not_ok events line is)

pub cut : (input : List ℕ) (events : List TimedEvent) → client_script_of input ≡ Ok events → IsCut input events
cut input events is =
    let got = opened (pieces_from 1 (lines_of input)) (stream_of input) events (λ later spells. spelled_lines 1 (lines_of input) later spells) is in
    record {
      pieces = got.2.pieces;
      events_are = got.1 ∙ ap (λ (es : List TimedEvent). at_once (Open 0) ∷ es) got.2.script_is;
      stream_is = got.2.stream_is;
      bytes = got.2.bytes;
    }

-- ---- a line that is not hex

-- both name one line, or none
abbrev SameLine : Result (List TimedEvent) ℕ → Result (List ℕ) ℕ → Type 0
SameLine (Ok events) (Ok stream) = Unit {0}
SameLine (Ok events) (Err line) = ⊥
SameLine (Err line) (Ok stream) = ⊥
SameLine (Err line) (Err other) = line ≡ other

same_line : (decoded : Result (List ℕ) FromHexError) (number : ℕ) (events : Result (List TimedEvent) ℕ) (stream : Result (List ℕ) ℕ) → SameLine events stream → SameLine (followed_by (piece_of decoded) number events) (joined decoded number stream)
same_line (Err error) number events stream same = refl
same_line (Ok piece) number (Ok events) (Ok stream) same = tt
same_line (Ok piece) number (Ok events) (Err line) same = same
same_line (Ok piece) number (Err line) (Ok stream) same = same
same_line (Ok piece) number (Err line) (Err other) same = same

same_lines : (number : ℕ) (lines : List (List ℕ)) → SameLine (pieces_from number lines) (stream_from number lines)
same_lines number [] = tt
same_lines number (line ∷ lines) = same_line (decode_of line) number (pieces_from (number + 1) lines) (stream_from (number + 1) lines) (same_lines (number + 1) lines)

bad_by : (script : Result (List TimedEvent) ℕ) (stream : Result (List ℕ) ℕ) (line : ℕ) → SameLine script stream → (behind_opening script ≡ Err line) ↔ (stream ≡ Err line)
bad_by (Ok events) (Ok stream) line same = (λ e. absurd (not_ok (at_once (Open 0) ∷ events) line (sym e)), λ e. absurd (not_ok stream line (sym e)))
bad_by (Ok events) (Err other) line same = absurd same
bad_by (Err other) (Ok stream) line same = absurd same
bad_by (Err one) (Err other) line same = (λ e. ap (λ (n : ℕ). Err n) (sym same) ∙ ap (λ (n : ℕ). Err n) (is_err one line e), λ e. ap (λ (n : ℕ). Err n) same ∙ ap (λ (n : ℕ). Err n) (is_err other line e))

pub bad_lines : (input : List ℕ) (line : ℕ) → (client_script_of input ≡ Err line) ↔ (stream_of input ≡ Err line)
bad_lines input line = bad_by (pieces_from 1 (lines_of input)) (stream_of input) line (same_lines 1 (lines_of input))
