use Rattle.std.proofs.Common.{[], Option, refl, subst}
use Rattle.std.specs.Option.{option_map_or}
use Rattle.std.specs.FinMap.{get}
use Rattle.node_base.specs.Tree.{PathMap, IsDirAt, alone, new_dir}
use Rattle.path_tree.proofs.limits.has_root.Goals as goal

pub returns-in-None : goal.returns-in-None
returns-in-None c = subst (λ (o : Option PathMap). IsDirAt (option_map_or (λ m. get m) o (alone new_dir)) []) c.in-None.ensures.value refl
