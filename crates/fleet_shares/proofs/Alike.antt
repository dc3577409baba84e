-- Changes that are the same.
use Rattle.std.proofs.Common.{◌≡◌, ◌<◌, ◌+◌, ◌↔◌, ℕ, Bool, IsTrue, List, length, take, get_or, sym, ap, ◌∙◌}
use Rattle.std.proofs.lemmas.List.{take_more_same}
use Rattle.node_base.specs.Path.{Path, same_path}
use Rattle.node_base.proofs.PathLemmas.{path_of_same, same_path_itself}
use Rattle.dump_load.specs.declared.change.Change.{Change}

pub same_paths : (p q : Path) (b : Bool) → b ≡ same_path p q → IsTrue b ↔ (p ≡ q)
same_paths p q b is = ((λ t. path_of_same p q (sym is ∙ t)), (λ e. is ∙ (ap (same_path p) (sym e) ∙ same_path_itself p)))

-- one more of two lists
pub same_more : (xs ys : List Change) (i : ℕ) (x y : Change) → take i xs ≡ take i ys → i < length xs → i < length ys → x ≡ get_or xs i x → y ≡ get_or ys i y → x ≡ y → take (i + 1) xs ≡ take (i + 1) ys
same_more xs ys i x y so_far h k at_x at_y same = take_more_same xs ys i x h k so_far (sym at_x ∙ (same ∙ (at_y ∙ ap (get_or ys i) (sym same))))
