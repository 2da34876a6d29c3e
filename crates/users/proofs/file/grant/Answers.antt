use Rattle.std.proofs.Common.{refl, sym, ap, ◌∙◌}
use Rattle.users.specs.Granting.{granted}
use Rattle.users.specs.Table.{Rights, StoredUser}
use Rattle.users.proofs.Granted.{last_granted}
use Rattle.users.proofs.file.grant.Goals as goal

pub returns-in_ok-add-in-Some : goal.returns-in_ok-add-in-Some
returns-in_ok-add-in-Some c =
    let with_rights : Rights → StoredUser = λ rights. record { password = c.user.inside.password; rights = rights } in
    last_granted c.args.users.now.entries c.args.right c.in-Some.user.now _ _ refl (sym c.in-Some.ensures.value)
    (ap with_rights c.in_ok-add-in-Some.ensures ∙ ap (λ user. granted user c.args.right) c.user.view_is)
