-- What clap reads of words in which it finds no fault.
use Rattle.std.proofs.Common.{◌≡◌, ◌∙◌, ◌⊎◌, ◌||◌, ap₂, Bool, cond, true, false, List, [], ◌∷◌, Option, Some, None, ap, codes, drop, inl, inr, is_some, option_map, refl, sym, subst}
use Rattle.std.specs.Option.{option_map_or}
use Rattle.std.specs.Prelude.{unwrap_or}
use Rattle.std.specs.Str.{bytes_eq}
use Rattle.std.proofs.lemmas.Slice.Eq.{bytes_eq-Decides}
use Rattle.clap.specs.Words.{App, HasKind, HasMatchesOf, Row, Text, app_of, built, fault_of, kind_of, is_simple, is_simple_and_free, subcommand_name_of, subcommand_of, subcommand_rows_of}
use Rattle.clap.specs.Walk.{finished, nothing_held, rows_after, walk, walk_from}
use Rattle.clap.specs.Simple.{Shape, built_leaf, entered, help_shape, inherited, marked_built, names_of, rows_at, with_leaf_noted}
use Rattle.clap.specs.Faults.{check_fault, entered_fault, level_fault}
use Rattle.clap.specs.declared.builder.command.Command.{Command}
use Rattle.clap.specs.declared.error.kind.ErrorKind.TheVariants.{MissingSubcommand, OutOfMemory}
use Rattle.clap.specs.declared.error.Error.{Error}
use Rattle.clap.specs.declared.parser.matches.ArgMatches.{ArgMatches, out-ArgMatches}
use Rattle.clap.proofs.OnLiterals.{clap_on_literals}
use Rattle.arguments.specs.CommandLine.{AreReadAs, SpellNoRequest, command_line, password_command, serve_command}
use Rattle.arguments.proofs.Faultless.{level_parts}
use Rattle.arguments.proofs.Numbers.{HasNumbers, leaf, leaf_numbers, options}
use Rattle.arguments.proofs.Stops.{IsNoHelp, walk_stop}

abbrev line : App
line = built command_line

-- a name is that of `solo` or `drive`, whose rows have the numbers, that of `serve`, or that of `hash-password`
abbrev pub IsNamed : Text → List Row → Type 0
IsNamed name rows = (((name ≡ codes "solo") ⊎ (name ≡ codes "drive")) × HasNumbers rows) ⊎ ((name ≡ codes "serve") ⊎ (name ≡ codes "hash-password"))

-- one of the four commands
abbrev IsCommand : Option (Text × List Row) → Type 0
IsCommand o = (name : Text) × (rows : List Row) × (o ≡ Some (name, rows)) × IsNamed name rows

-- `serve` as it is built
abbrev serve : Shape
serve = built_leaf (inherited (with_leaf_noted (marked_built command_line.top)) serve_command.top)

-- `hash-password` as it is built
abbrev hash_password : Shape
hash_password = built_leaf (inherited (with_leaf_noted (marked_built command_line.top)) password_command.top)

abbrev chosen : Bool → Bool → Bool → Bool → Bool → Option Shape
chosen solo drive serves hashes help = cond (solo || false) (Some (leaf (codes "solo")))
    (cond (drive || false) (Some (leaf (codes "drive"))) (cond (serves || false) (Some serve) (cond (hashes || false) (Some hash_password) (cond (help || false) (Some (built_leaf help_shape)) None))))

enters : (stop : Option (Text × List Text)) → IsNoHelp stop → entered_fault line stop ≡ [] → is_some (entered line stop) ≡ true → IsCommand (entered line stop)
enters None good e some = cc
enters (Some p) good e some = go (bytes_eq (codes "solo") p.0) (bytes_eq (codes "drive") p.0) (bytes_eq (codes "serve") p.0) (bytes_eq (codes "hash-password") p.0) (bytes_eq (codes "help") p.0) refl e some
  where
    go : (a b c d f : Bool) → bytes_eq (codes "help") p.0 ≡ f → option_map_or (λ s. level_fault s [] nothing_held p.1 false []) (chosen a b c d f) [] ≡ []
        → is_some (option_map (λ s. rows_at s p.1) (chosen a b c d f)) ≡ true → IsCommand (option_map (λ s. rows_at s p.1) (chosen a b c d f))
    go true b c d f is e some = (codes "solo", rows_after options [] p.1, refl, inl (inl refl, leaf_numbers (codes "solo") p.1 e))
    go false true c d f is e some = (codes "drive", rows_after options [] p.1, refl, inl (inr refl, leaf_numbers (codes "drive") p.1 e))
    go false false true d f is e some = (codes "serve", rows_after serve.rules [] p.1, refl, inr (inl refl))
    go false false false true f is e some = (codes "hash-password", rows_after hash_password.rules [] p.1, refl, inr (inr refl))
    go false false false false true is e some = absurd (good (sym ((bytes_eq-Decides (codes "help") p.0).0 is)))
    go false false false false false is e some = cc

wanted : (has : Bool) (rows : List Row) → check_fault line.top rows has ≡ [] → has ≡ true
wanted true rows e = refl
wanted false rows e =
    let bad : MissingSubcommand ∷ [] ≡ [] = e in
    cc

-- words without a fault name one of the four commands
taken : (words : List Text) → fault_of command_line words ≡ [] → IsCommand (subcommand_of command_line words)
taken words e =
    let stop = (walk line.top.rules (names_of line) nothing_held (drop 1 words)).stopped in
    let p = level_parts line.top (names_of line) nothing_held (drop 1 words) (is_some (entered line stop)) (entered_fault line stop) e in
    enters stop (walk_stop line.top (names_of line) (walk_from nothing_held) (drop 1 words) refl p.0 tt) p.1 (wanted (is_some (entered line stop)) (finished line.top.rules (walk line.top.rules (names_of line) nothing_held (drop 1 words)).held) p.3)

-- ---- of the matches that a parse gave

is_free : is_simple_and_free command_line ≡ true
unfolding clap_on_literals
is_free = refl

is_plain : is_simple command_line ≡ true
unfolding clap_on_literals
is_plain = refl

pub no_fault : (command : Command) (words : List Text) → app_of command ≡ command_line → (is_simple_and_free (app_of command) ≡ true → fault_of (app_of command) words ≡ [])
    → fault_of command_line words ≡ []
no_fault command words line fault = sym (ap (λ (a : App). fault_of a words) line) ∙ fault (ap is_simple_and_free line ∙ is_free)

-- an error of clap is for lack of memory, or is of a fault that it found
pub fault_found : (command : Command) (words : List Text) (error : Error) → app_of command ≡ command_line
    → (is_simple_and_free (app_of command) ≡ true → HasKind (fault_of (app_of command) words) error)
    → (kind_of error ≡ OutOfMemory) ⊎ SpellNoRequest words (kind_of error)
fault_found command words error line fails = go (subst (λ (a : App). HasKind (fault_of a words) error) line (fails (ap is_simple_and_free line ∙ is_free)))
  where
    go : HasKind (fault_of command_line words) error → (kind_of error ≡ OutOfMemory) ⊎ SpellNoRequest words (kind_of error)
    go (inl memory) = inl memory
    go (inr among) = inr (inl among)

-- the command that was entered is the one that the words name
entered_is : (command : Command) (words : List Text) (matches : ArgMatches) → app_of command ≡ command_line → HasMatchesOf (app_of command) words matches
    → subcommand_rows_of matches ≡ subcommand_of command_line words
entered_is command words matches line has = (has (ap is_simple line ∙ is_plain)).1 ∙ ap (λ (a : App). subcommand_of a words) line

mapped : {B : Type 0} (f : B → Text) (g : B → List Row) (o : Option B) (name : Text) (rows : List Row) → Some name ≡ option_map f o
    → Some rows ≡ option_map (λ (p : Text × List Row). p.1) (option_map {T = B} {U = Text × List Row} (λ b. (f b, g b)) o) → option_map {T = B} {U = Text × List Row} (λ b. (f b, g b)) o ≡ Some (name, rows)
mapped f g None name rows named held = cc
mapped f g (Some b) name rows named held =
    ap₂ (λ (n : Text) (r : List Row). Some (n, r)) (ap (λ (o : Option Text). unwrap_or o name) (sym named)) (ap (λ (o : Option (List Row)). unwrap_or o rows) (sym held))

-- what was entered is what clap reads in the words
pub read_as : (command : Command) (words : List Text) (matches : ArgMatches) (name : Text) (rows : List Row) → app_of command ≡ command_line
    → (is_simple_and_free (app_of command) ≡ true → fault_of (app_of command) words ≡ []) → HasMatchesOf (app_of command) words matches
    → Some name ≡ subcommand_name_of matches → Some rows ≡ option_map (λ p. p.1) (subcommand_rows_of matches) → AreReadAs words name rows
read_as command words matches name rows line fault has named held = (
  no_fault command words line fault,
  sym (entered_is command words matches line has) ∙ mapped _ _ (out-ArgMatches matches).subcommand name rows named held,
)

none_some : (o : Option (Text × List Row)) (p : Text × List Row) → None ≡ option_map (λ (p : Text × List Row). p.1) o → o ≡ Some p → ⊥
none_some None p none some = cc
none_some (Some q) p none some = cc

-- something was entered
pub some_command : (command : Command) (words : List Text) (matches : ArgMatches) → app_of command ≡ command_line
    → (is_simple_and_free (app_of command) ≡ true → fault_of (app_of command) words ≡ []) → HasMatchesOf (app_of command) words matches
    → None ≡ option_map (λ p. p.1) (subcommand_rows_of matches) → ⊥
some_command command words matches line fault has none = go (taken words (no_fault command words line fault))
  where
    none_here : None ≡ option_map (λ (p : Text × List Row). p.1) (subcommand_of command_line words)
    none_here = none ∙ ap (option_map (λ (p : Text × List Row). p.1)) (entered_is command words matches line has)

    go : IsCommand (subcommand_of command_line words) → ⊥
    go (name, rows, is, named) = none_some (subcommand_of command_line words) (name, rows) none_here is

pub same_pair : (o : Option (Text × List Row)) (a b : Text) (x y : List Row) → o ≡ Some (a, x) → o ≡ Some (b, y) → (a ≡ b) × (y ≡ x)
same_pair o a b x y e f =
    let both : Some (a, x) ≡ Some (b, y) = sym e ∙ f in (
      ap (λ (o : Option (Text × List Row)). (unwrap_or o (a, x)).0) both,
      sym (ap (λ (o : Option (Text × List Row)). (unwrap_or o (a, x)).1) both),
    )

-- it is one of the four commands
pub command_facts : (words : List Text) (name : Text) (rows : List Row) → AreReadAs words name rows → IsNamed name rows
command_facts words name rows (faultless, is) = go (taken words faultless)
  where
    go : IsCommand (subcommand_of command_line words) → IsNamed name rows
    go (other, held, here, named) =
        let p = same_pair (subcommand_of command_line words) name other rows held is here in
        subst (λ (name : Text). IsNamed name rows) (sym p.0) (subst (IsNamed other) p.1 named)
