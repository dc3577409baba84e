-- The calls that change one node and no number: the fault of each.
use Rattle.std.specs.Prelude.{ℕ, ◌+◌, Bool, false, not, ◌&&◌, nat_lt, List, length, Option}
use Rattle.std.specs.Option.{option_or, option_map_or}
use Rattle.node_base.specs.Path.{Name, Path}
use Rattle.node_base.specs.Props.{fits_with}
use Rattle.node_base.specs.declared.node.Node.{Node}
use Rattle.node_base.specs.declared.fault.TreeFault.{TreeFault}
use Rattle.node_base.specs.declared.fault.TreeFault.TheVariants.{TooLong}
use Rattle.node_base.specs.declared.limits.TheConstants.{TEXT_BYTES}
use Rattle.path_tree.specs.Calls.{fault_if, change_fault, text_fault}

-- whether a value at the name would take a node's properties past their limits
abbrev pub is_one_too_many : Name → Option Node → Bool
is_one_too_many name = λ o. option_map_or (λ x. not (fits_with x.props name)) o false

-- a path that is there, and then the limits, where a value is put
abbrev pub prop_fault : (Path → Option Node) → Path → Name → Bool → Option TreeFault
prop_fault f p name puts = option_or (change_fault f p) (fault_if (puts && is_one_too_many name (f p)) TooLong)

-- whether so many bytes more would take a file's text past 1,048,576
abbrev pub is_too_long_with : ℕ → Option Node → Bool
is_too_long_with n = λ o. option_map_or (λ x. option_map_or (λ t. nat_lt TEXT_BYTES (length t + n)) x.text false) o false

-- a file that is there, and then the limit
abbrev pub piece_fault : (Path → Option Node) → Path → List ℕ → Option TreeFault
piece_fault f p piece = option_or (text_fault f p) (fault_if (is_too_long_with (length piece) (f p)) TooLong)
