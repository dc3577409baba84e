-- The entries of a directory, of its children.
use Rattle.std.proofs.Common.{◌≡◌, Bool, true, List, [], ◌∷◌, ◌++◌, Some, None, Result, Ok, Err, IfOk, refl, sym, ap, ◌∙◌}
use Rattle.std.specs.Option.{option_map_or}
use Rattle.std.specs.List.{flat_map}
use Rattle.std.specs.FinMap as finite
use Rattle.node_base.specs.Path.{Name, Path}
use Rattle.node_base.specs.Tree.{PathMap}
use Rattle.node_base.specs.declared.node.Node.{Node}
use Rattle.path_tree.specs.Children.{name_in, named_in, children_of}
use Rattle.ra_serve.specs.Answers.{entry_of, entries_in, entries_wanted}
use Rattle.ra_serve.specs.Directories.{told_of}

told_entries : (p : Path) (es : List (Path × Node)) → told_of (flat_map (named_in p) es) ≡ entries_in p es
told_entries p [] = refl
told_entries p (e ∷ es) =
    elim (name_in p e.0) as (λ o. told_of (option_map_or (λ n. (n, e.1) ∷ []) o [] ++ flat_map (named_in p) es) ≡ option_map_or (λ n. entry_of e.1 n ∷ []) o [] ++ entries_in p es) [
      | None ↦ told_entries p es
      | Some n ↦ ap (λ z. entry_of e.1 n ∷ z) (told_entries p es)
    ]

-- the entries that are wanted
pub wanted_told : {E : Type 0} (r : Result (List (Name × Node)) E) (w : Bool) (p q : Path) (t : PathMap) → w ≡ true → q ≡ p → IfOk r (λ cs. cs ≡ children_of q t) → IfOk r (λ cs. told_of cs ≡ entries_wanted w p t)
wanted_told (Ok cs) w p q t on e h = ap told_of (h ∙ ap (λ z. children_of z t) e) ∙ told_entries p (finite.entries t) ∙ ap (λ b. entries_wanted b p t) (sym on)
wanted_told (Err x) w p q t on e h = h
