-- The root alone.
use Rattle.std.proofs.Common.{◌≡◌, ◌∷◌, [], refl, sym, ◌∙◌}
use Rattle.std.specs.FinMap as map
use Rattle.std.specs.FinMap.{get-insert, get-empty, same_map}
use Rattle.node_base.specs.Path.{Path, path_cmp, paths_total, paths_exact}
use Rattle.node_base.specs.Tree.{PathMap, alone, new_dir}
use Rattle.dump_load.specs.Effect.{effect}
use Rattle.dump_load.proofs.Walk.{effect_none}
use Rattle.dump_load.specs.Trees.{Makes}
use Rattle.repo_core.specs.Repository.{root_alone}
use Rattle.dump_load.proofs.EffectTrees.{effect_tree_is}

pub get-root_alone : (q : Path) → map.get root_alone q ≡ alone new_dir q
get-root_alone [] = get-insert paths_total map.empty [] new_dir []
get-root_alone (n ∷ q) = get-insert paths_total map.empty [] new_dir (n ∷ q) ∙ get-empty path_cmp (n ∷ q)

pub is_root_alone : (t : PathMap) → ((q : Path) → map.get t q ≡ alone new_dir q) → t ≡ root_alone
is_root_alone t h = same_map paths_total paths_exact t root_alone (λ q. h q ∙ sym (get-root_alone q))

first_effect : (q : Path) → alone new_dir q ≡ effect [] [] q
first_effect [] = sym (effect_none [] [])
first_effect (n ∷ q) = sym (effect_none [] (n ∷ q))

pub root_is_made : (t : PathMap) → ((q : Path) → map.get t q ≡ alone new_dir q) → Makes [] [] t
root_is_made t h = record { faultless = refl; effect = effect_tree_is [] [] t (λ q. h q ∙ first_effect q) }
