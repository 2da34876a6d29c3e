-- The pieces of the lines, one line after another.
use Rattle.std.proofs.Common.{◌≡◌, ℕ, ◌+◌, ◌≤◌, List, [], ◌∷◌, ◌++◌, length, drop, refl, sym, ap, subst, ◌∙◌, Some, None, Result, Ok, Err, arith}
use Rattle.std.proofs.Math.Seq.{take-length, drop-length}
use Rattle.std.proofs.lemmas.List.{length-append, map-append, take-append-le, drop-append-le}
use Rattle.hex.specs.Hex.{decode_of}
use Rattle.local_server.specs.declared.event.ServerEvent.TheVariants.{Open}
use Rattle.local_server.specs.declared.event.TimedEvent.{TimedEvent}
use Rattle.text_io.specs.Lines.{lines_of}
use Rattle.drive.specs.Scripts.{followed_by}
use Rattle.drive.specs.Streams.{at_once, piece_of, pieces_from, behind_opening, client_script_of}
use Rattle.drive.specs.Pieces.{cut_by, AddUpTo, comes, opened}
use Rattle.drive.proofs.Lines.{ahead, event_ahead}

-- what an input spells: these events, and those of the rest after the line of this number
abbrev pub Spells : List ℕ → List TimedEvent → ℕ → List ℕ → Type 0
Spells input events number rest = client_script_of input ≡ ahead events (pieces_from (number + 1) (lines_of rest))

opening_ahead : (later : Result (List TimedEvent) ℕ) → behind_opening later ≡ ahead (at_once (Open 0) ∷ []) later
opening_ahead (Ok events) = refl
opening_ahead (Err line) = refl

pub first_piece : (input : List ℕ) → Spells input (at_once (Open 0) ∷ []) 0 input
first_piece input = opening_ahead (pieces_from 1 (lines_of input))

next_piece : (number : ℕ) (rest line others : List ℕ) → lines_of rest ≡ line ∷ lines_of others
    → pieces_from (number + 1) (lines_of rest) ≡ followed_by (piece_of (decode_of line)) (number + 1) (pieces_from (number + 1 + 1) (lines_of others))
next_piece number rest line others cut = ap (pieces_from (number + 1)) cut

pub one_piece : (input : List ℕ) (events : List TimedEvent) (number : ℕ) (rest line others : List ℕ) (event : TimedEvent) → Spells input events number rest → lines_of rest ≡ line ∷ lines_of others
    → piece_of (decode_of line) ≡ Some event → Spells input (events ++ event ∷ []) (number + 1) others
one_piece input events number rest line others event spells cut is =
    let behind = pieces_from (number + 1 + 1) (lines_of others) in
    spells ∙ ap (ahead events) (next_piece number rest line others cut ∙ ap (λ e. followed_by e (number + 1) behind) is)
    ∙ event_ahead events event (number + 1) behind

pub bad_piece : (input : List ℕ) (events : List TimedEvent) (number : ℕ) (rest line others : List ℕ) → Spells input events number rest → lines_of rest ≡ line ∷ lines_of others
    → piece_of (decode_of line) ≡ None → client_script_of input ≡ Err (number + 1)
bad_piece input events number rest line others spells cut is =
    let behind = pieces_from (number + 1 + 1) (lines_of others) in
    spells ∙ ap (ahead events) (next_piece number rest line others cut ∙ ap (λ e. followed_by e (number + 1) behind) is)

-- what a line adds to the bytes: the piece that it spells, of this size
abbrev pub Adds : List ℕ → List ℕ → List ℕ → ℕ → Type 0
Adds line bytes bytes' size = (piece : List ℕ) × (decode_of line ≡ Ok piece) × (size ≡ length piece) × (bytes' ≡ bytes ++ piece)

cut_more : (sizes bytes piece : List ℕ) → AddUpTo sizes bytes → cut_by (sizes ++ length piece ∷ []) (bytes ++ piece) ≡ cut_by sizes bytes ++ piece ∷ []
cut_more [] bytes piece whole = rw whole (ap (λ xs. xs ∷ []) (take-length piece))
cut_more (size ∷ sizes) bytes piece whole =
    let first = take-append-le size bytes piece whole.0 in
    let others = ap (cut_by (sizes ++ length piece ∷ [])) (drop-append-le size bytes piece whole.0) ∙ cut_more sizes (drop size bytes) piece whole.1 in
    λ i. first i ∷ others i

add_more : (sizes bytes piece : List ℕ) → AddUpTo sizes bytes → AddUpTo (sizes ++ length piece ∷ []) (bytes ++ piece)
add_more [] bytes piece whole = rw whole (omega arith, drop-length piece)
add_more (size ∷ sizes) bytes piece whole =
    let more : length (bytes ++ piece) ≡ length bytes + length piece = length-append bytes piece in
    let fits = whole.0 in
    let within : size ≤ length (bytes ++ piece) = omega (arith, more, fits) in
    (within, subst (AddUpTo (sizes ++ length piece ∷ [])) (sym (drop-append-le size bytes piece whole.0)) (add_more sizes (drop size bytes) piece whole.1))

-- the sizes of all pieces, and one more
pub whole_more : (sizes sizes' bytes bytes' line : List ℕ) (size : ℕ) → AddUpTo sizes bytes → Adds line bytes bytes' size → sizes' ≡ sizes ++ size ∷ [] → AddUpTo sizes' bytes'
whole_more sizes sizes' bytes bytes' line size whole adds longer = rw longer (rw adds.2 (rw adds.3 (add_more sizes bytes adds.0 whole)))

-- the pieces of the lines so far, and the one of this line
pub one_line : (input sizes sizes' bytes bytes' : List ℕ) (number : ℕ) (rest line others : List ℕ) (size : ℕ) → AddUpTo sizes bytes → Adds line bytes bytes' size → sizes' ≡ sizes ++ size ∷ []
    → Spells input (opened (cut_by sizes bytes)) number rest → lines_of rest ≡ line ∷ lines_of others → Spells input (opened (cut_by sizes' bytes')) (number + 1) others
one_line input sizes sizes' bytes bytes' number rest line others size whole adds longer spells cut =
    let piece = adds.0 in
    let pieces = cut_by sizes bytes in
    let more : opened (cut_by (sizes ++ length piece ∷ []) (bytes ++ piece)) ≡ opened pieces ++ comes piece ∷ [] =
    ap opened (cut_more sizes bytes piece whole) ∙ ap (λ events. at_once (Open 0) ∷ events) (map-append comes pieces (piece ∷ [])) in
    rw longer (rw adds.2 (rw adds.3 (subst (λ events. Spells input events (number + 1) others) (sym more)
    (one_piece input (opened pieces) number rest line others (comes piece) spells cut (ap piece_of adds.1)))))
