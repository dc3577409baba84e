use Rattle.std.proofs.Common.{◌≡◌, [], ◌∷◌, None, refl, sym, subst}
use Rattle.std.proofs.lemmas.List.{nil_from_length}
use Rattle.node_base.specs.Path.{Path}
use Rattle.path_tree.specs.Children.{name_in}
use Rattle.path_tree.specs.Listed.{shown_names}
use Rattle.plain_tree.proofs.tree.+name_in.Goals as goal

no_name : (folder : Path) → None ≡ name_in folder []
no_name [] = refl
no_name (d ∷ ds) = refl

pub returns-in_default : goal.returns-in_default
returns-in_default k c = subst (λ p. None ≡ name_in c.args.folder.now (shown_names p)) (sym (nil_from_length c.args.path.now c.in_default.ensures.cases)) (no_name c.args.folder.now)
