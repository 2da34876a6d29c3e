-- The command line: its commands, what words ask for, and why words spell no request (profile).
use Rattle.std.specs.Prelude.{◌≡◌, ◌⊎◌, codes, Bool, true, false, List, [], Some}
use Rattle.std.specs.Net.Grammar.{IsIpv4Text}
use Rattle.clap.specs.Words.{App, IsAmong, Row, Text, fault_of, first_of, new_app, one_of, subcommand_of, with_rule, with_subcommand}
use Rattle.clap.specs.Simple.{on_top}
use Rattle.clap.specs.declared.error.kind.ErrorKind.{ErrorKind}
use Rattle.clap.specs.declared.error.kind.ErrorKind.TheVariants.{ValueValidation}
use Rattle.conn_rules.specs.declared.setup.Setup.{Setup}
use Rattle.users.specs.Lines.{is_user_name}
use Rattle.broker_log.specs.declared.level.Level.{Level}
use Rattle.broker_log.specs.declared.level.Level.TheVariants as levels
use Rattle.arguments.specs.Groups.{AddsEach, RefusesOne}
use Rattle.arguments.specs.Options.{address_option, capacity_option, declared_groups_option, drain_option, group_option, iterations_option, keep_parked_option, log_option, max_expiry_option, max_inflight_option, max_keep_alive_option, metrics_option, name_option, per_address_option, port_option, sessions_option, until_option, users_option, workers_option, HasNumber, HasNumberIf, HaveCapacity, HaveMaxInflight, pairs_in}
use Rattle.arguments.specs.declared.command.Request.{Request}
use Rattle.arguments.specs.declared.command.Request.TheVariants.{Solo, Drive, Serve, HashPassword}
use Rattle.arguments.specs.declared.groups.Refusal.{Refusal}
use Rattle.arguments.specs.declared.password.PasswordOptions.{PasswordOptions}
use Rattle.arguments.specs.declared.service.ServeOptions.{ServeOptions}
use Rattle.arguments.specs.declared.service.ServeUntil.{ServeUntil}
use Rattle.arguments.specs.declared.service.ServeUntil.TheVariants.{Stdin, Killed}

-- ---- the commands, in clap's words

-- a command with the three options of a server
abbrev pub command_named : Text → App
command_named name = with_rule (with_rule (with_rule (new_app name) capacity_option) max_inflight_option) group_option

-- the fourteen options that `serve` has of its own
abbrev pub serve_alone : App
serve_alone =
    with_rule (with_rule (with_rule (with_rule (with_rule (with_rule (with_rule (with_rule (with_rule (with_rule (with_rule (with_rule (with_rule (with_rule (new_app (codes "serve")) port_option) address_option) workers_option) until_option) drain_option) metrics_option) log_option)
    sessions_option) keep_parked_option) declared_groups_option) per_address_option) max_expiry_option) max_keep_alive_option) users_option

-- `serve`, with these before them
abbrev pub serve_command : App
serve_command = with_rule (with_rule (with_rule serve_alone capacity_option) max_inflight_option) group_option

-- `hash-password`, with a name and an option
abbrev pub password_command : App
password_command = with_rule (with_rule (new_app (codes "hash-password")) name_option) iterations_option

-- `share_broker`, which has a version, and wants a command
abbrev pub share_broker : App
share_broker = on_top (λ top. record top { has_version = true; subcommand_required = true }) (new_app (codes "share_broker"))

-- `share_broker solo`, `share_broker drive`, `share_broker serve` and `share_broker hash-password`
abbrev pub command_line : App
command_line =
    with_subcommand (with_subcommand (with_subcommand (with_subcommand share_broker (command_named (codes "solo")).top) (command_named (codes "drive")).top) serve_command.top) password_command.top

-- ---- what the words ask for

-- what a server begins with, by the values that the options of `solo` or `drive` have
abbrev pub IsSetupBy : List Row → Setup → Type 0
IsSetupBy rows setup = HaveCapacity rows setup.capacity × HaveMaxInflight rows setup.max_inflight × AddsEach [] (pairs_in rows) setup.groups

-- the word of `--until`
abbrev pub word_of : ServeUntil → Text
word_of Stdin = codes "stdin"
word_of Killed = codes "killed"

-- the word of `--log`
abbrev pub level_word : Level → Text
level_word levels.Off = codes "off"
level_word levels.Error = codes "error"
level_word levels.Info = codes "info"
level_word levels.Debug = codes "debug"

-- whether an option without a value is given, as it is read
abbrev pub flag_word : Bool → Text
flag_word true = codes "true"
flag_word false = codes "false"

-- what a broker on TCP begins with, by the values that the options of `serve` have
pub record IsServiceBy (rows : List Row) (service : ServeOptions) : Type 0 where
  pub text : Text
  pub value : one_of (codes "address") rows ≡ Some text
  pub address : IsIpv4Text text service.address
  pub port : HasNumber (codes "port") 0 65535 rows service.port
  pub workers : HasNumber (codes "workers") 1 64 rows service.workers
  pub until : first_of (codes "until") rows ≡ Some (word_of service.until)
  pub drain : HasNumber (codes "drain") 0 86400 rows service.drain
  pub metrics : HasNumber (codes "metrics") 0 65535 rows service.metrics
  pub log : first_of (codes "log") rows ≡ Some (level_word service.log)
  pub sessions : HasNumber (codes "sessions") 1 65536 rows service.sessions
  pub keep_parked : first_of (codes "keep-parked") rows ≡ Some (flag_word service.keep_parked)
  pub declared_groups : first_of (codes "declared-groups") rows ≡ Some (flag_word service.declared_groups)
  pub per_address : HasNumber (codes "per-address") 0 65535 rows service.per_address
  pub max_expiry : HasNumberIf (codes "max-expiry") 1 4294967295 rows service.max_expiry
  pub max_keep_alive : HasNumberIf (codes "max-keep-alive") 1 65535 rows service.max_keep_alive
  pub users : first_of (codes "users") rows ≡ service.users
  pub capacity : HaveCapacity rows service.capacity
  pub max_inflight : HaveMaxInflight rows service.max_inflight
  pub groups : AddsEach [] (pairs_in rows) service.groups

-- what the line of a user is made of, by the values that the name and the option of `hash-password` have
pub record IsPasswordBy (rows : List Row) (password : PasswordOptions) : Type 0 where
  pub name : first_of (codes "name") rows ≡ Some password.name
  pub valid : is_user_name password.name ≡ true
  pub iterations : HasNumber (codes "iterations") 1 1000000 rows password.iterations

-- clap finds no fault in the words, and reads the command of that name in them, with these values of its options
abbrev pub AreReadAs : List Text → Text → List Row → Type 0
AreReadAs words name rows = (fault_of command_line words ≡ []) × (subcommand_of command_line words ≡ Some (name, rows))

-- the words, of which the first is the program's name, ask for this
abbrev pub AskFor : List Text → Request → Type 0
AskFor words (Solo setup) = (rows : List Row) × AreReadAs words (codes "solo") rows × IsSetupBy rows setup
AskFor words (Drive setup) = (rows : List Row) × AreReadAs words (codes "drive") rows × IsSetupBy rows setup
AskFor words (Serve service) = (rows : List Row) × AreReadAs words (codes "serve") rows × IsServiceBy rows service
AskFor words (HashPassword password) = (rows : List Row) × AreReadAs words (codes "hash-password") rows × IsPasswordBy rows password

-- clap finds no fault in the words of `solo` or `drive`, and a pair that they give is refused
abbrev pub HaveRefusedPair : List Text → Type 0
HaveRefusedPair words =
    (name : Text) × (rows : List Row) × (refusal : Refusal) × ((name ≡ codes "solo") ⊎ (name ≡ codes "drive")) × AreReadAs words name rows × RefusesOne [] (pairs_in rows) refusal

-- clap finds no fault in the words of `serve`, and no broker begins with the values that they give
abbrev pub HaveNoService : List Text → Type 0
HaveNoService words = (rows : List Row) × AreReadAs words (codes "serve") rows × ((service : ServeOptions) → ¬ IsServiceBy rows service)

-- clap finds no fault in the words of `hash-password`, and no user's line is made of the values that they give
abbrev pub HaveNoPassword : List Text → Type 0
HaveNoPassword words = (rows : List Row) × AreReadAs words (codes "hash-password") rows × ((password : PasswordOptions) → ¬ IsPasswordBy rows password)

-- the words spell no request: clap finds a fault of that kind in them, where a wish for the help or the version is a fault too; or it
-- finds none, and a value that they give is refused
abbrev pub SpellNoRequest : List Text → ErrorKind → Type 0
SpellNoRequest words kind =
    IsAmong kind (fault_of command_line words)
    ⊎ ((kind ≡ ValueValidation) × (HaveRefusedPair words ⊎ (HaveNoService words ⊎ HaveNoPassword words)))
