use Rattle.sync_core.proofs.Holding.{lock-is-given, holder-is-served, holder-stays, holder-listens, holder-is-alone}
use Rattle.sync_core.proofs.law.the_holder_goes_on.Goals as goal

pub returns-clause-begins : goal.returns-clause-begins
returns-clause-begins c = lock-is-given

pub returns-clause-served : goal.returns-clause-served
returns-clause-served c = holder-is-served

pub returns-clause-stays : goal.returns-clause-stays
returns-clause-stays c = holder-stays

pub returns-clause-listens : goal.returns-clause-listens
returns-clause-listens c = holder-listens

pub returns-clause-alone : goal.returns-clause-alone
returns-clause-alone c = holder-is-alone
