-- The lines of the log of a broker (profile).
use Rattle.std.specs.Prelude.{◌≡◌, ◌≤◌, ◌==◌, ◌||◌, ℕ, nat_lt, if◌then◌else◌, List, ◌∷◌, [], ◌++◌, All, Option, codes, flat_map, map}
use Rattle.std.specs.Io.KnownBytes.{Appends}
use Rattle.text_io.specs.Passing.{Begins}
use Rattle.broker_log.specs.declared.level.Level.{Level}
use Rattle.broker_log.specs.declared.level.Level.TheVariants.{Off, Error, Info, Debug}

-- the order of levels: a log has the lines of its own level and of those before it
abbrev pub rank_of : Level → ℕ
rank_of Off = 0
rank_of Error = 1
rank_of Info = 2
rank_of Debug = 3

-- the word that a line begins with
abbrev pub label_of : Level → List ℕ
label_of Off = codes "error"
label_of Error = codes "error"
label_of Info = codes "info"
label_of Debug = codes "debug"

-- a control character is written as a question mark: so nothing that a text has in it ends its line
abbrev pub shown_byte : ℕ → ℕ
shown_byte byte = if nat_lt byte 32 || byte == 127 then 63 else byte

abbrev pub shown : List ℕ → List ℕ
shown text = map shown_byte text

-- the line of a text
abbrev pub line_text : Level → List ℕ → List ℕ
line_text level text = label_of level ++ codes ": " ++ shown text ++ codes "\n"

-- what is said at each level, `Off` among them, where standard input is at its end as the broker begins to read it
abbrev pub input_ended : List ℕ
input_ended = codes "standard input is at its end already, so the broker closes; --until killed serves until it is killed"

-- a line that a log of this level has: of its own level or one before it, where `Off` has that one text alone
pub record IsLineOf (level : Level) (line : List ℕ) : Type 0 where
  pub its : Level
  pub text : List ℕ
  pub few : rank_of its ≤ rank_of level
  pub only : its ≡ Off → text ≡ input_ended
  pub is : line ≡ line_text its text

abbrev pub joined : List (List ℕ) → List ℕ
joined lines = flat_map (λ line. line) lines

-- whole lines of a log of this level were written
pub record HasLogged (level : Level) (old new : Option (List ℕ)) : Type 0 where
  pub lines : List (List ℕ)
  pub each : All (IsLineOf level) lines
  pub written : Appends old new (joined lines)

-- the same, where the last line may be a beginning, since writing it failed
pub record BeginsToLog (level : Level) (old new : Option (List ℕ)) : Type 0 where
  pub lines : List (List ℕ)
  pub each : All (IsLineOf level) lines
  pub begun : Begins old new (joined lines)
