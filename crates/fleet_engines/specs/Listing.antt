-- The listing of a tree.
use Rattle.std.specs.Prelude.{ℕ, ◌++◌, List, [], ◌∷◌, length, codes}
use Rattle.std.specs.List.{flat_map}
use Rattle.std.specs.Option.{option_map_or}
use Rattle.std.specs.Fmt.{decimal}
use Rattle.std.specs.FinMap as finite
use Rattle.node_base.specs.Path.{Path}
use Rattle.node_base.specs.PathText.{path_text}
use Rattle.node_base.specs.Tree.{PathMap}
use Rattle.node_base.specs.declared.node.Node.{Node}

-- a path as it is printed: the root is a slash
abbrev pub shown_path : Path → List ℕ
shown_path [] = codes "/"
shown_path (n ∷ p) = path_text (n ∷ p)

-- `D CHANGED PATH` or `F CHANGED LENGTH PATH`, and an LF
abbrev pub told_line : List ℕ → Node → List ℕ
told_line path x =
    option_map_or (λ text. codes "F " ++ (decimal x.changed ++ (codes " " ++ (decimal (length text) ++ (codes " " ++ (path ++ 10 ∷ []))))))
    x.text (codes "D " ++ (decimal x.changed ++ (codes " " ++ (path ++ 10 ∷ []))))

-- the line of a path and its node
abbrev pub entry_line : Path × Node → List ℕ
entry_line e = told_line (shown_path e.0) e.1

-- a path's text, each name behind a slash, as it is printed
abbrev pub shown_text : List ℕ → List ℕ
shown_text [] = codes "/"
shown_text (b ∷ bs) = bs

-- the line of a path's text and its node
abbrev pub text_line : List ℕ × Node → List ℕ
text_line e = told_line (shown_text e.0) e.1

-- the number of a revision, and a line for each node of its tree in path order
abbrev pub listing : ℕ → PathMap → List ℕ
listing number tree = codes "revision " ++ (decimal number ++ (10 ∷ [] ++ flat_map entry_line (finite.entries tree)))
