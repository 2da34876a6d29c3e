-- What the words of a command line ask for, and what is done where they spell no request (profile).
use Rattle.std.specs.Prelude.{◌≡◌, ◌≢◌, ◌⊎◌, ℕ, codes, string_bytes, List, Result, Ok, Err}
use Rattle.clap.specs.declared.error.kind.ErrorKind.{ErrorKind}
use Rattle.clap.specs.declared.error.kind.ErrorKind.TheVariants as kinds
use Rattle.text_io.specs.declared.error.RunError.{RunError}
use Rattle.text_io.specs.declared.error.RunError.TheVariants.{Memory}
use Rattle.arguments.specs.CommandLine.{AskFor, SpellNoRequest}
use Rattle.program.specs.declared.asking.Asked.{Asked}
use Rattle.program.specs.declared.asking.Asked.TheVariants.{Run, Show, Refuse}

-- the help and the version are shown, and nothing is refused else but wrong words
abbrev pub IsAnswerTo : ErrorKind → Asked → Type 0
IsAnswerTo kind (Run request) = ⊥
IsAnswerTo kind (Show text) = (kind ≡ kinds.DisplayHelp) ⊎ (kind ≡ kinds.DisplayVersion)
IsAnswerTo kind (Refuse text) = (kind ≢ kinds.DisplayHelp) × (kind ≢ kinds.DisplayVersion) × (kind ≢ kinds.OutOfMemory)

-- These words, the program's name in front, ask for this: a command is run that they ask for; a text is shown where they wish for the help
-- or the version; and words that spell no request else are refused.
abbrev pub IsAskedBy : List (List ℕ) → Asked → Type 0
IsAskedBy words (Run request) = AskFor words request
IsAskedBy words (Show text) = SpellNoRequest words kinds.DisplayHelp ⊎ SpellNoRequest words kinds.DisplayVersion
IsAskedBy words (Refuse text) = (kind : ErrorKind) × SpellNoRequest words kind × (kind ≢ kinds.DisplayHelp) × (kind ≢ kinds.DisplayVersion)

-- a word that is no UTF-8 text is refused
abbrev pub IsNoText : Asked → Type 0
IsNoText (Run request) = ⊥
IsNoText (Show text) = ⊥
IsNoText (Refuse text) = string_bytes text ≡ codes "error: a word is no UTF-8 text\n"

-- What is asked for by words that were read, as texts, or by the error in their place: one was no text, or memory was refused, for them or
-- for what is said of them.
abbrev pub Asks : {Words Error : Type 0} → Result Words Error → (Words → List (List ℕ)) → Result Asked RunError → Type 0
Asks had texts (Err error) = error ≡ Memory
Asks (Ok words) texts (Ok asked) = IsAskedBy (texts words) asked
Asks (Err error) texts (Ok asked) = IsNoText asked
