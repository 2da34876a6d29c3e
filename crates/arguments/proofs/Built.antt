-- What clap's builders need of the commands and options that they are given.
use Rattle.std.proofs.Common.{◌≡◌, not, is_some, false, true}
use Rattle.clap.specs.Walk.{is_empty, is_simple_arg}
use Rattle.clap.specs.declared.builder.arg.Arg.{Arg}
use Rattle.clap.proofs.SimpleLemmas.{is_false}
use Rattle.clap.proofs.WalkLemmas.{both}

-- a simple argument is its command's own
pub simple_own : (a : Arg) → is_simple_arg a ≡ true → a.global ≡ false
simple_own a e =
    let defaults = both (is_empty a.overrides.items) _ e in
    let groups = both (is_empty a.default_vals_ifs.items) _ defaults.1 in
    let delimiter = both (is_empty a.groups.items) _ groups.1 in
    let terminator = both (not (is_some a.val_delim)) _ delimiter.1 in
    let hyphens = both (not (is_some a.terminator)) _ terminator.1 in
    let numbers = both (not a.allow_hyphen_values) _ hyphens.1 in
    let equals = both (not a.allow_negative_numbers) _ numbers.1 in
    let last = both (not a.require_equals) _ equals.1 in
    is_false a.global (both (not a.last) (not a.global) last.1).1
