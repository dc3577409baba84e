-- Trees that are alike but for what is told of nodes beside their own properties.
use Rattle.std.specs.Prelude.{◌≡◌, Bool, false, List, [], ◌∷◌, Option, Some, None, codes}
use Rattle.std.specs.List.{list_any}
use Rattle.std.specs.FinMap as finite
use Rattle.node_base.specs.Path.{Name, same_name}
use Rattle.node_base.specs.declared.node.Node.{Node}

-- the names of what is told beside a node's own properties
abbrev pub entry_names : List Name
entry_names = codes "svn:entry:committed-rev" ∷ codes "svn:entry:committed-date" ∷ codes "svn:entry:last-author" ∷ codes "svn:entry:uuid" ∷ []

abbrev pub is_entry : Name → Bool
is_entry name = list_any (same_name name) entry_names

-- of one text, and of the same properties but for those names
pub record IsLike (x y : Node) : Type 0 where
  pub text : x.text ≡ y.text
  pub props : (name : Name) → is_entry name ≡ false → finite.get x.props name ≡ finite.get y.props name

abbrev pub AreAlike : Option Node → Option Node → Type 0
AreAlike None None = Unit {0}
AreAlike None (Some y) = ⊥
AreAlike (Some x) None = ⊥
AreAlike (Some x) (Some y) = IsLike x y
