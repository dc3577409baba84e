-- Copies of what stands at a path and below it.
use Rattle.std.specs.Prelude.{Bool, false, not, ◌++◌}
use Rattle.std.specs.Option.{option_map_or}
use Rattle.std.specs.List.{list_any}
use Rattle.std.specs.FinMap as map
use Rattle.node_base.specs.Path.{Path, rest_after}
use Rattle.node_base.specs.Limits.{fits}
use Rattle.node_base.specs.Tree.{PathMap}

-- whether a copy from one path to another has a path that is past the limits
abbrev pub copy_too_long : PathMap → Path → Path → Bool
copy_too_long m source to = list_any (λ k. option_map_or (λ r. not (fits (to ++ r))) (rest_after source k) false) (map.keys m)
