-- Changes, and lists of them.
use Rattle.std.specs.Prelude.{◌≡◌, ◌≤◌, ℕ, Bool, true, false, not, ◌&&◌, ◌||◌, List, [], ◌∷◌, length, Option, Some, None, is_some, is_none, if◌then◌else◌}
use Rattle.std.specs.Option.{option_or}
use Rattle.std.specs.Ordering.{is_lt}
use Rattle.std.specs.List.{AllByRecursion, filter}
use Rattle.std.specs.declared.cmp.Ordering.TheVariants.{Less}
use Rattle.node_base.specs.Path.{Path, path_cmp, same_path, is_front, rest_after}
use Rattle.node_base.specs.Props.{PropMap}
use Rattle.node_base.specs.declared.node.Action.{Action}
use Rattle.node_base.specs.declared.node.Action.TheVariants.{Modify, Add, Delete, Replace}
use Rattle.node_base.specs.declared.node.NodeKind.{NodeKind}
use Rattle.node_base.specs.declared.node.NodeKind.TheVariants.{File, Dir}
use Rattle.node_base.specs.declared.limits.TheConstants.{CHANGES}
use Rattle.dump_load.specs.declared.change.Change.{Change}

-- an add, a delete or a replace, which settles what is below its path
abbrev pub settles : Action → Bool
settles Modify = false
settles Add = true
settles Delete = true
settles Replace = true

-- a deletion
abbrev pub is_delete : Action → Bool
is_delete Modify = false
is_delete Add = false
is_delete Delete = true
is_delete Replace = false

-- an add
abbrev pub is_add : Action → Bool
is_add Modify = false
is_add Add = true
is_add Delete = false
is_add Replace = false

-- an add or a replace
abbrev pub brings : Change → Bool
brings c = settles c.action && not (is_delete c.action)

-- an add or a replace that copies nothing
abbrev pub is_plain : Change → Bool
is_plain c = brings c && is_none c.source

-- the change at a path
abbrev pub change_at : List Change → Path → Option Change
change_at [] p = None
change_at (c ∷ s) p = if same_path c.path p then Some c else change_at s p

-- the changes that settle their path
abbrev pub settling : List Change → List Change
settling = filter (λ c. settles c.action)

-- what f has at the longest front of a path, the path itself included, at which it has anything
abbrev pub deepest : {A : Type 0} → (Path → Option A) → Path → Option A
deepest f [] = f []
deepest f (n ∷ q) = option_or (deepest (λ p. f (n ∷ p)) q) (f [])

-- the change that governs a path
abbrev pub governing : List Change → Path → Option Change
governing s = deepest (change_at (settling s))

-- a file has properties and a text, a directory has properties, and which of the two it is is said
abbrev pub is_described : Option NodeKind → Bool → Bool → Bool
is_described None has_props has_text = false
is_described (Some Dir) has_props has_text = has_props
is_described (Some File) has_props has_text = has_props && has_text

-- an add or a replace that copies nothing says what is there
abbrev pub IsDescribed : Change → Type 0
IsDescribed c = is_plain c ≡ true → is_described c.kind (is_some c.props) (is_some c.text) ≡ true

-- dump text can say it: it has a source only where it makes a node, and no part at a deletion
abbrev pub has_form : Change → Bool
has_form c = (is_none c.source || brings c) && not (is_delete c.action && (is_some c.props || is_some c.text))

-- it says what is there, and dump text can say it
abbrev pub IsWhole : Change → Type 0
IsWhole c = IsDescribed c × (has_form c ≡ true)

-- a change stands before a later one: its path comes before the other's, and isn't a deleted front of it
pub record Precedes (c d : Change) : Type 0 where
  pub rises : path_cmp c.path d.path ≡ Less
  pub stands : is_delete c.action ≡ true → is_front c.path d.path ≡ false

-- each change of s stands before c
abbrev pub Follows : List Change → Change → Type 0
Follows s c = AllByRecursion (λ d. Precedes d c) s

-- no change of s is at the path of c or below it
abbrev pub IsClear : List Change → Change → Type 0
IsClear s c = AllByRecursion (λ d. rest_after c.path d.path ≡ None) s

-- in path order, where a path may stand more than once
abbrev pub NoneFalls : List Change → Type 0
NoneFalls [] = Unit {0}
NoneFalls (c ∷ cs) = AllByRecursion (λ d. is_lt (path_cmp d.path c.path) ≡ false) cs × NoneFalls cs

-- paths rise, and nothing is under a path that is deleted
abbrev pub IsInOrder : List Change → Type 0
IsInOrder [] = Unit {0}
IsInOrder (c ∷ s) = AllByRecursion (Precedes c) s × IsInOrder s

-- each change is whole too
abbrev pub IsNormal : List Change → Type 0
IsNormal [] = Unit {0}
IsNormal (c ∷ s) = IsWhole c × AllByRecursion (Precedes c) s × IsNormal s

-- the changes of a set: normal, and 4,096 at most
abbrev pub IsSet : List Change → Type 0
IsSet s = IsNormal s × (length s ≤ CHANGES)

-- a change with this text and these properties, where they are given
abbrev pub regiven : Option (List ℕ) → Option PropMap → Change → Change
regiven text props c = record { path = c.path; action = c.action; kind = c.kind; source = c.source; props = option_or props c.props; text = option_or text c.text }

-- a change of what is there that gives nothing
pub record IsBare (c : Change) : Type 0 where
  pub stays : settles c.action ≡ false
  pub text : c.text ≡ None
  pub props : c.props ≡ None
