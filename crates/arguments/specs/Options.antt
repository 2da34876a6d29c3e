-- The options of the commands, and the values that they have (profile).
use Rattle.std.specs.Prelude.{◌≡◌, ℕ, ◌≤◌, codes, true, List, ◌∷◌, [], Option, Some, None, pos, unwrap_or}
use Rattle.std.specs.Str.Parse.{IsNumeral, digits_value, without_leading_plus}
use Rattle.clap.specs.Words.{Row, Rule, Text, all_of, new_rule, one_of}
use Rattle.clap.specs.declared.builder.action.ArgAction.TheVariants.{Append, SetTrue}
use Rattle.clap.specs.declared.builder.value_parser.ValueParser.TheVariants.{Signed}

-- ---- the options, in clap's words

-- `--capacity N`, at most once: a number from 1 to 65536, and 1024 where it is not given
abbrev pub capacity_option : Rule
capacity_option = record (new_rule (codes "capacity")) {
  long = Some (codes "capacity");
  value_names = 1;
  parser = Some (Signed (pos 1) (pos 65536));
  defaults = codes "1024" ∷ [];
}

-- `--max-inflight M`, at most once: a number from 1 to 256, and 256 where it is not given
abbrev pub max_inflight_option : Rule
max_inflight_option = record (new_rule (codes "max-inflight")) {
  long = Some (codes "max-inflight");
  value_names = 1;
  parser = Some (Signed (pos 1) (pos 256));
  defaults = codes "256" ∷ [];
}

-- `--group NAME:FILTER`, any number of times
abbrev pub group_option : Rule
group_option = record (new_rule (codes "group")) {
  long = Some (codes "group");
  value_names = 1;
  action = Some Append;
}

-- `--port P`, which has to be given: a number from 0 to 65535
abbrev pub port_option : Rule
port_option = record (new_rule (codes "port")) {
  long = Some (codes "port");
  value_names = 1;
  parser = Some (Signed (pos 0) (pos 65535));
  required = true;
}

-- `--address IP`, at most once: a text, and 127.0.0.1 where it is not given
abbrev pub address_option : Rule
address_option = record (new_rule (codes "address")) {
  long = Some (codes "address");
  value_names = 1;
  defaults = codes "127.0.0.1" ∷ [];
}

-- `--workers W`, at most once: a number from 1 to 64, and 8 where it is not given
abbrev pub workers_option : Rule
workers_option = record (new_rule (codes "workers")) {
  long = Some (codes "workers");
  value_names = 1;
  parser = Some (Signed (pos 1) (pos 64));
  defaults = codes "8" ∷ [];
}

-- `--until WHEN`, at most once: a text, and stdin where it is not given
abbrev pub until_option : Rule
until_option = record (new_rule (codes "until")) {
  long = Some (codes "until");
  value_names = 1;
  defaults = codes "stdin" ∷ [];
}

-- `--drain SECONDS`, at most once: a number from 0 to 86400, and 0 where it is not given
abbrev pub drain_option : Rule
drain_option = record (new_rule (codes "drain")) {
  long = Some (codes "drain");
  value_names = 1;
  parser = Some (Signed (pos 0) (pos 86400));
  defaults = codes "0" ∷ [];
}

-- `--metrics PORT`, at most once: a number from 0 to 65535, and 0 where it is not given
abbrev pub metrics_option : Rule
metrics_option = record (new_rule (codes "metrics")) {
  long = Some (codes "metrics");
  value_names = 1;
  parser = Some (Signed (pos 0) (pos 65535));
  defaults = codes "0" ∷ [];
}

-- `--log LEVEL`, at most once: a text, and off where it is not given
abbrev pub log_option : Rule
log_option = record (new_rule (codes "log")) {
  long = Some (codes "log");
  value_names = 1;
  defaults = codes "off" ∷ [];
}

-- `--sessions N`, at most once: a number from 1 to 65536, and 256 where it is not given
abbrev pub sessions_option : Rule
sessions_option = record (new_rule (codes "sessions")) {
  long = Some (codes "sessions");
  value_names = 1;
  parser = Some (Signed (pos 1) (pos 65536));
  defaults = codes "256" ∷ [];
}

-- `--keep-parked`, at most once, without a value
abbrev pub keep_parked_option : Rule
keep_parked_option = record (new_rule (codes "keep-parked")) {
  long = Some (codes "keep-parked");
  action = Some SetTrue;
}

-- `--declared-groups`, at most once, without a value
abbrev pub declared_groups_option : Rule
declared_groups_option = record (new_rule (codes "declared-groups")) {
  long = Some (codes "declared-groups");
  action = Some SetTrue;
}

-- `--per-address N`, at most once: a number from 0 to 65535, and 0 where it is not given
abbrev pub per_address_option : Rule
per_address_option = record (new_rule (codes "per-address")) {
  long = Some (codes "per-address");
  value_names = 1;
  parser = Some (Signed (pos 0) (pos 65535));
  defaults = codes "0" ∷ [];
}

-- `--max-expiry SECONDS`, at most once: a number from 1 to 4294967295
abbrev pub max_expiry_option : Rule
max_expiry_option = record (new_rule (codes "max-expiry")) {
  long = Some (codes "max-expiry");
  value_names = 1;
  parser = Some (Signed (pos 1) (pos 4294967295));
}

-- `--max-keep-alive SECONDS`, at most once: a number from 1 to 65535
abbrev pub max_keep_alive_option : Rule
max_keep_alive_option = record (new_rule (codes "max-keep-alive")) {
  long = Some (codes "max-keep-alive");
  value_names = 1;
  parser = Some (Signed (pos 1) (pos 65535));
}

-- `--users FILE`, at most once: a text
abbrev pub users_option : Rule
users_option = record (new_rule (codes "users")) {
  long = Some (codes "users");
  value_names = 1;
}

-- `NAME`, which has to be given: a text
abbrev pub name_option : Rule
name_option = record (new_rule (codes "name")) {
  value_names = 1;
  required = true;
}

-- `--iterations N`, at most once: a number from 1 to 1000000, and 1000 where it is not given
abbrev pub iterations_option : Rule
iterations_option = record (new_rule (codes "iterations")) {
  long = Some (codes "iterations");
  value_names = 1;
  parser = Some (Signed (pos 1) (pos 1000000));
  defaults = codes "1000" ∷ [];
}

-- ---- the values that they have

-- a text spells a number in decimal digits, after a plus or none
abbrev pub Spells : Text → ℕ → Type 0
Spells text number = IsNumeral 10 (without_leading_plus text) × (number ≡ digits_value 10 (without_leading_plus text))

-- the value of an option, as given or as left out, is this number, and lies in this range: as clap reads it, to which -0 is 0
pub record HasNumber (id : Text) (least most : ℕ) (rows : List Row) (number : ℕ) : Type 0 where
  pub text : Text
  pub value : one_of id rows ≡ Some text
  pub spelled : Spells text number
  pub from : least ≤ number
  pub to : number ≤ most

-- the option has no value, or its value is this number, and lies in this range
abbrev pub HasNumberIf : Text → ℕ → ℕ → List Row → Option ℕ → Type 0
HasNumberIf id least most rows None = one_of id rows ≡ None
HasNumberIf id least most rows (Some number) = HasNumber id least most rows number

-- that of `--capacity` is one from 1 to 65536
abbrev pub HaveCapacity : List Row → ℕ → Type 0
HaveCapacity = HasNumber (codes "capacity") 1 65536

-- that of `--max-inflight` is one from 1 to 256
abbrev pub HaveMaxInflight : List Row → ℕ → Type 0
HaveMaxInflight = HasNumber (codes "max-inflight") 1 256

-- the pairs NAME:FILTER that were given, in order
abbrev pub pairs_in : List Row → List Text
pairs_in rows = unwrap_or (all_of (codes "group") rows) []
