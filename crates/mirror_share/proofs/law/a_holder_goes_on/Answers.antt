use Rattle.mirror_share.proofs.Holders.{others-leave-it, holder-is-served}
use Rattle.mirror_share.proofs.law.a_holder_goes_on.Goals as goal

pub returns-clause-others : goal.returns-clause-others
returns-clause-others c = others-leave-it c.the_holder_goes_on.ensures.alone

pub returns-clause-served : goal.returns-clause-served
returns-clause-served c = holder-is-served c.the_holder_goes_on.ensures.served c.the_holder_goes_on.ensures.stays
