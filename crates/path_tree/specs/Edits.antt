-- Edits of a node and what is below it, by the map.
use Rattle.std.specs.Prelude.{◌≡◌, ℕ, List, [], ◌∷◌, ◌++◌, Option, Some, None, unwrap_or}
use Rattle.std.specs.FinMap as map
use Rattle.std.specs.FinMap.Entries.{put}
use Rattle.node_base.specs.Path.{Name, Path, name_cmp, is_front}
use Rattle.node_base.specs.declared.node.Node.{Node}
use Rattle.node_base.specs.Tree.{PathMap, grafted, edited, changed_at, with_given}
use Rattle.node_base.specs.NodeEdits.{with_prop, with_piece}
use Rattle.path_tree.specs.declared.edit.Edit.{Edit}
use Rattle.path_tree.specs.declared.edit.Edit.TheVariants.{Parts, Prop, Piece, Graft, Prune}

-- what an edit makes of a node and what is below it
abbrev pub edit_here : Edit → (Path → Option Node) → Path → Option Node
edit_here (Parts text props) f = changed_at f [] (with_given text props)
edit_here (Prop name value) f = changed_at f [] (with_prop name value)
edit_here (Piece piece) f = changed_at f [] (with_piece piece.items)
edit_here (Graft c) f = grafted f (c.0 ∷ []) (map.get c.1)
edit_here (Prune x) f = grafted f (x ∷ []) (λ _. None)

-- the same at a path
abbrev pub edit_at : Edit → (Path → Option Node) → Path → Path → Option Node
edit_at e f p = grafted f p (edit_here e (λ r. f (p ++ r)))

-- the number, where there is one
abbrev pub renumbered : Option ℕ → Node → Node
renumbered number x = record { text = x.text; props = x.props; changed = unwrap_or number x.changed }

-- the same on each front of the path that is there
abbrev pub marked_by : Option ℕ → (Path → Option Node) → Path → Path → Option Node
marked_by number f p = edited f (λ q. is_front q p) (renumbered number)

-- of children, the one of that name is edited at a path below it and numbered on the way, and the others stay
pub record ChildAlters (old new : List (Name × PathMap)) (x : Name) (p : Path) (e : Edit) (number : Option ℕ) : Type 0 where
  pub before : PathMap
  pub after : PathMap
  pub found : map.find name_cmp x old ≡ Some before
  pub placed : new ≡ put name_cmp x after old
  pub altered : (q : Path) → map.get after q ≡ edit_at e (marked_by number (map.get before) p) p q
