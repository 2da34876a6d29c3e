-- A share that is bound before the others stays bound.
use Rattle.std.proofs.Common.{subst, sym, arith, OnOk, All}
use Rattle.threaded_broker.specs.Shares.{IsBoundIn}
use Rattle.threaded_broker.proofs.Bound.{with_first, whole_of}
use Rattle.threaded_broker.proofs.shares.+declare_all.Goals as goal

pub returns-in_ok-declare-in-len1-up-clause-bound : goal.returns-in_ok-declare-in-len1-up-clause-bound
returns-in_ok-declare-in-len1-up-clause-bound t c =
    subst (λ all. OnOk c.declare_all.result (All (IsBoundIn c.declare_all.new.known.shares) all)) (whole_of c.args.shares.now c.share-item.result _ (omega arith) (sym c.share-item.is))
    (with_first c.declare_all.result c.declare.new.known c.declare_all.new.known c.share-item.result _ (subst (λ one. IsBoundIn c.declare.new.known.shares one) c.in_ok-copy-in-len1-up.ensures c.in_ok-declare-in-len1-up.ensures.bound) c.declare_all.ensures.grows c.declare_all.ensures.bound)
