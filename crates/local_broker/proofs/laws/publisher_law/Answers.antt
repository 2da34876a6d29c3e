use Rattle.local_broker.proofs.Publishers.{published, behind_close}
use Rattle.local_broker.proofs.laws.publisher_law.Goals as goal

pub returns-clause-calls : goal.returns-clause-calls
returns-clause-calls c number old new calls = published number old new calls

pub returns-clause-close : goal.returns-clause-close
returns-clause-close c happenings old closed new closes all = behind_close happenings old closed new closes all
