-- The limits of changes, which the types of their parts keep.
use Rattle.std.specs.Prelude.{◌≡◌, ◌≤◌, true, List, length, IfSome}
use Rattle.std.specs.List.{AllByRecursion}
use Rattle.node_base.specs.PathText.{is_path}
use Rattle.node_base.specs.Props.{IsProps}
use Rattle.node_base.specs.declared.node.Source.{Source}
use Rattle.node_base.specs.declared.limits.TheConstants.{REVISION, TEXT_BYTES}
use Rattle.dump_load.specs.declared.change.Change.{Change}
use Rattle.dump_load.specs.Changes.{IsSet}

-- a source is a path and a revision within the limits
pub record IsSource (s : Source) : Type 0 where
  pub path : is_path s.path ≡ true
  pub revision : s.revision ≤ REVISION

-- the properties and the text that a change gives are within the limits
abbrev pub IsWithin : Change → Type 0
IsWithin c = IfSome c.props IsProps × IfSome c.text (λ t. length t ≤ TEXT_BYTES)

-- a change within the limits: its path, its source, and what it gives
pub record IsSmall (c : Change) : Type 0 where
  pub path : is_path c.path ≡ true
  pub source : IfSome c.source IsSource
  pub parts : IsWithin c

-- what each set is by its type: the changes of a set, each within the limits
pub record IsBounded (s : List Change) : Type 0 where
  pub set : IsSet s
  pub small : AllByRecursion IsSmall s
