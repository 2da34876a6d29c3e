use Rattle.std.proofs.Common.{sym, subst, arith}
use Rattle.users.specs.Layout.{seen}
use Rattle.users.proofs.Files.{Spells, no_user, all_lines, nothing_left}
use Rattle.users.proofs.file.read.Goals as goal

pub loop-rest-init : goal.loop-rest-init
loop-rest-init c = record {
  spells = subst (λ entries. Spells c.args.text.now (seen entries) 0 c.args.text.now) (sym c.new-users.ensures.empty) (no_user c.args.text.now);
  few = omega arith;
}

pub returns-clause-ok : goal.returns-clause-ok
returns-clause-ok c =
    all_lines c.args.text.now (seen c.loop-rest.users.entries) c.loop-rest.number c.loop-rest.rest.now c.loop-rest.invariant.spells (nothing_left c.loop-rest.rest.now c.loop-rest-test.ensures)
