use Rattle.std.proofs.Common.{◌≡◌, bytes_eq, Some, None, sym, ap, ◌∙◌}
use Rattle.std.specs.Map.{lookup}
use Rattle.std.specs.Option.{option_copied}
use Rattle.users.specs.Rights.{may_use, rights_from}
use Rattle.users.specs.Table.{stored_of}
use Rattle.users.proofs.Seen.{stored_of-seen}
use Rattle.users.proofs.shared.SharedUsers.may_use.Goals as goal

pub returns-in-Some : goal.returns-in-Some
returns-in-Some c =
    let entries = c.self.inside.users.value.entries in
    let found : lookup (λ key. bytes_eq c.args.name.now key.items) entries ≡ Some c.in-Some.user.now
    = ap (λ map. lookup (λ key. bytes_eq c.args.name.now key.items) map.entries) (sym c.deref.ensures) ∙ sym c.get.ensures.value ∙ ap option_copied c.in-Some.is in
    c.may_use.ensures ∙ ap (λ user. may_use user.rights c.args.client.now) c.user.view_is
    ∙ sym (ap (λ user. may_use (rights_from user) c.args.client.now)
    (ap (λ table. stored_of table c.args.name.now) (sym c.self.view_is) ∙ stored_of-seen c.args.name.now entries ∙ found))

pub returns-in-None : goal.returns-in-None
returns-in-None c =
    let entries = c.self.inside.users.value.entries in
    let found : lookup (λ key. bytes_eq c.args.name.now key.items) entries ≡ None
    = ap (λ map. lookup (λ key. bytes_eq c.args.name.now key.items) map.entries) (sym c.deref.ensures) ∙ sym c.get.ensures.value ∙ ap option_copied c.in-None.is in
    sym (ap (λ user. may_use (rights_from user) c.args.client.now)
    (ap (λ table. stored_of table c.args.name.now) (sym c.self.view_is) ∙ stored_of-seen c.args.name.now entries ∙ found))
