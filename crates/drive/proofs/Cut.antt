-- The words that are left.
use Rattle.std.proofs.Common.{◌≡◌, ℕ, ◌+◌, Bool, true, false, List, [], ◌∷◌, take, drop, refl, sym, ◌∙◌, Some, None, arith}
use Rattle.memchr.specs.Find.{IsFirstByte, is_byte}
use Rattle.text_io.proofs.Cutting.{cut_first, cut_none}
use Rattle.drive.specs.Words.{words_of, words_left}

pub next_word : (is_done : Bool) (line : List ℕ) (words : List (List ℕ)) (end : ℕ) → is_done ≡ false → words_left is_done line ≡ words
    → IsFirstByte (is_byte 32) line (Some end) → words ≡ take end line ∷ words_left is_done (drop (end + 1) line)
next_word true line words end left is found = absurd (cc)
next_word false line words end left is found = sym is ∙ cut_first 32 ([] ∷ []) line end found

one_word : (line : List ℕ) → IsFirstByte (is_byte 32) line None → words_of line ≡ line ∷ []
one_word [] none = refl
one_word (byte ∷ bytes) none = cut_none 32 ([] ∷ []) (λ x. refl) (byte ∷ bytes) (omega arith) none

pub last_word : (is_done : Bool) (line : List ℕ) (words : List (List ℕ)) → is_done ≡ false → words_left is_done line ≡ words
    → IsFirstByte (is_byte 32) line None → words ≡ line ∷ []
last_word true line words left is none = absurd (cc)
last_word false line words left is none = sym is ∙ one_word line none
