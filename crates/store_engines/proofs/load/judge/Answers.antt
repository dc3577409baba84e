use Rattle.std.proofs.lemmas.Result.{IfErr-weaker}
use Rattle.std.specs.FinMap as finite
use Rattle.store_engines.proofs.Devices.{unfit_no_device}
use Rattle.store_engines.proofs.load.judge.Goals as goal

pub returns-clause-no_device : goal.returns-clause-no_device
returns-clause-no_device c = IfErr-weaker c.load.result _ _ (λ e unfit. unfit_no_device c.args.trees.now _ e (unfit finite.empty)) c.load.ensures.refused
