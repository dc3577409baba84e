-- Paths that stand as other URLs', and what is wanted there.
use Rattle.std.specs.Prelude.{Bool, true, false, not, ◌&&◌, List, [], ◌∷◌, ◌++◌, Option, None, is_none, if◌then◌else◌}
use Rattle.std.specs.Option.{option_map_or, option_or}
use Rattle.std.specs.FinMap as finite
use Rattle.node_base.specs.Path.{Path, rest_after, same_path}
use Rattle.node_base.specs.Tree.{PathMap, blocked, grafted}
use Rattle.node_base.specs.declared.node.Node.{Node}
use Rattle.path_tree.specs.Copies.{copy_too_long}
use Rattle.dump_load.specs.Faults.{fault_if}
use Rattle.ra_denial.specs.declared.denial.Denial.{Denial}
use Rattle.ra_denial.specs.declared.denial.Denial.TheVariants as denial
use Rattle.ra_report.specs.declared.switched.Switched.{Switched}

-- where a path lies, which is there if nothing is switched: of the switched paths that are fronts of it the last decides
abbrev pub lies : Path → Path → List Switched → Path
lies q there [] = there
lies q there (s ∷ ss) = lies q (option_map_or (λ r. s.place ++ r) (rest_after s.path q) there) ss

-- a folder is wanted above the path
abbrev pub is_open : (Path → Option Node) → Path → Bool
is_open w p = not (same_path p []) && is_none (blocked w p)

-- there what stands at the place in the tree is wanted: it stays switched
abbrev pub with_switch : (Path → Option Node) → PathMap → Switched → Path → Option Node
with_switch w m s = if is_open w s.path then grafted w s.path (λ q. finite.get m (s.place ++ q)) else w

abbrev pub with_switches : (Path → Option Node) → PathMap → List Switched → Path → Option Node
with_switches w m [] = w
with_switches w m (s ∷ ss) = with_switches (with_switch w m s) m ss

-- paths there would pass the limits
abbrev pub switch_denied : (Path → Option Node) → PathMap → Switched → Option Denial
switch_denied w m s = fault_if (is_open w s.path && copy_too_long m s.place s.path) denial.Unsupported

abbrev pub switches_denied : (Path → Option Node) → PathMap → List Switched → Option Denial
switches_denied w m [] = None
switches_denied w m (s ∷ ss) = option_or (switch_denied w m s) (switches_denied (with_switch w m s) m ss)

-- a command with a URL wants what is below that
abbrev pub kept : Bool → List Switched → List Switched
kept true ss = ss
kept false ss = []
