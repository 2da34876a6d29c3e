use Rattle.local_group.proofs.Alike.{accepts, takes, takes_back, settles, gives_back, closes, may_offer, fresh}
use Rattle.local_group.proofs.laws.one_outcome_law.Goals as goal

pub returns : goal.returns
returns c =
    record {
      new = λ one other a b slot capacity. fresh one other a b slot capacity;
      may = λ one other port alike may. may_offer one other port alike may;
      accepted = λ one other one' other' port message stamp stamp' alike a b. accepts one other one' other' alike port message stamp stamp' a b;
      taken = λ one other one' other' place envelope envelope' alike a b. takes one other one' other' alike place envelope envelope' a b;
      taken_back = λ one other one' other' place envelope envelope' alike a b. takes_back one other one' other' alike place envelope envelope' a b;
      settled = λ one other one' other' envelope fate alike a b. settles one other one' other' alike envelope fate a b;
      given_back = λ one other one' other' envelope alike a b. gives_back one other one' other' alike envelope a b;
      closed = λ one other one' other' alike a b. closes one other one' other' alike a b;
    }
