use Rattle.std.proofs.Common.{◌≡◌, bytes_eq, Some, None, sym, ap, ◌∙◌}
use Rattle.std.specs.Map.{lookup}
use Rattle.std.specs.Option.{option_copied}
use Rattle.users.specs.Table.{is_password, stored_of}
use Rattle.users.proofs.Seen.{stored_of-seen, admits_known, admits_unknown}
use Rattle.users.proofs.shared.SharedUsers.admits.Goals as goal

pub returns-in-Some : goal.returns-in-Some
returns-in-Some c =
    let entries = c.self.inside.users.value.entries in
    let found : lookup (λ key. bytes_eq c.args.name.now key.items) entries ≡ Some c.in-Some.user.now
    = ap (λ map. lookup (λ key. bytes_eq c.args.name.now key.items) map.entries) (sym c.deref.ensures) ∙ sym c.get.ensures.value ∙ ap option_copied c.in-Some.is in
    c.is_password.ensures ∙ ap (λ user. is_password user.password c.args.password.now) c.user.view_is ∙ sym (admits_known c.args.self.now c.args.name.now c.args.password.now c.in-Some.user.now
    (ap (λ table. stored_of table c.args.name.now) (sym c.self.view_is) ∙ stored_of-seen c.args.name.now entries ∙ found))

pub returns-in-None : goal.returns-in-None
returns-in-None c =
    let entries = c.self.inside.users.value.entries in
    let found : lookup (λ key. bytes_eq c.args.name.now key.items) entries ≡ None
    = ap (λ map. lookup (λ key. bytes_eq c.args.name.now key.items) map.entries) (sym c.deref.ensures) ∙ sym c.get.ensures.value ∙ ap option_copied c.in-None.is in
    sym (admits_unknown c.args.self.now c.args.name.now c.args.password.now
    (ap (λ table. stored_of table c.args.name.now) (sym c.self.view_is) ∙ stored_of-seen c.args.name.now entries ∙ found))
