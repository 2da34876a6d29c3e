use Rattle.users.proofs.Seen.{known_user, new_user}
use Rattle.users.proofs.file.add.Goals as goal

pub returns-then-contains_key : goal.returns-then-contains_key
returns-then-contains_key c = known_user c.args.users.now.entries c.args.name.now c.args.stored c.if-contains_key.ensures

pub returns : goal.returns
returns c =
    new_user c.args.users.now c.in_ok-from_slice.field-0 c.args.name.now c.args.stored c.insert.new.self.entries c.if-contains_key.ensures c.in_ok-from_slice.ensures.items c.in_ok-insert.ensures.entries
