-- Lines of a listing, by their paths' texts.
use Rattle.std.proofs.Common.{◌≡◌, List, [], ◌∷◌, ◌++◌, sym, ap, refl, ◌∙◌}
use Rattle.std.specs.List.{flat_map}
use Rattle.node_base.specs.Path.{Path}
use Rattle.node_base.specs.PathText.{slashed}
use Rattle.node_base.specs.declared.node.Node.{Node}
use Rattle.node_base.proofs.TextLemmas.{text_of_first}
use Rattle.path_tree.specs.Visited.{texts}
use Rattle.fleet_engines.specs.Listing.{entry_line, shown_path, shown_text, text_line, told_line}

-- a path's text is printed as the path
shown_slashed : (p : Path) → shown_text (slashed p) ≡ shown_path p
shown_slashed [] = refl
shown_slashed (n ∷ p) = sym (text_of_first n p)

pub lines_of_texts : (es : List (Path × Node)) → flat_map text_line (texts [] es) ≡ flat_map entry_line es
lines_of_texts [] = refl
lines_of_texts (e ∷ es) = λ i. told_line (shown_slashed e.0 i) e.1 ++ lines_of_texts es i
