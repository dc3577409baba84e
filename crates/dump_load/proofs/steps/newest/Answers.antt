use Rattle.std.proofs.Common.{Option, ap, ◌∙◌}
use Rattle.std.proofs.lemmas.Result.{IfOk-weaker}
use Rattle.std.specs.Option.{option_map_or}
use Rattle.std.specs.FinMap.{get}
use Rattle.node_base.specs.Tree.{PathMap, alone, new_dir}
use Rattle.dump_load.proofs.steps.newest.Goals as goal

pub returns-in-None : goal.returns-in-None
returns-in-None c =
    IfOk-weaker c.empty.result _ _ (λ t h q. h q ∙ ap (λ (o : Option PathMap). option_map_or (λ m. get m) o (alone new_dir) q) c.in-None.ensures.value) c.empty.ensures
