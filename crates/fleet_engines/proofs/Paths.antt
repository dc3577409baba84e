-- A path more among the first ones.
use Rattle.std.proofs.Common.{◌≡◌, ℕ, ◌+◌, ◌≤◌, ◌<◌, Bool, true, false, cond, not, ◌||◌, List, [], ◌∷◌, ◌++◌, length, map, refl, sym, ap, subst, ◌∙◌, arith, take, get_or}
use Rattle.std.specs.List.{list_any}
use Rattle.std.specs.FinMap as finite
use Rattle.std.specs.BTreeMap.{is_at}
use Rattle.std.proofs.lemmas.List.{map-append, take_more}
use Rattle.std.proofs.lemmas.List.Folds.{list_any-append}
use Rattle.node_base.specs.Path.{Path, path_cmp, same_path}
use Rattle.node_base.proofs.PathLemmas.{same_path_back}
use Rattle.dump_load.specs.declared.change.Change.{Change}
use Rattle.dump_load.specs.Records.{paths_named}
use Rattle.dump_load.proofs.Moved.{paths_more}
use Rattle.fleet_engines.specs.FirstPaths.{AreFirstPaths}

no_paths : AreFirstPaths [] []
no_paths = (λ few. (sym (finite.len-empty path_cmp Bool), λ p. refl), λ past. absurd (omega (arith, past)))

pub first_none : (paths : List Path) (cs : List Change) → paths ≡ [] → cs ≡ [] → AreFirstPaths paths cs
first_none paths cs e d = subst (λ ps. AreFirstPaths ps cs) (sym e) (subst (AreFirstPaths []) (sym d) no_paths)

more_named : (cs : List Change) (c : Change) → paths_named cs ≤ paths_named (cs ++ c ∷ [])
more_named cs c =
    elim (list_any (λ d. same_path c.path d.path) cs) as (λ b. paths_named (cs ++ c ∷ []) ≡ cond b (paths_named cs) (paths_named cs + 1) → paths_named cs ≤ paths_named (cs ++ c ∷ [])) [
      | true ↦ λ e. omega (arith, e)
      | false ↦ λ e. omega (arith, e)
    ] (paths_more cs c)

-- there are too many already
pub still_past : (paths : List Path) (cs : List Change) (c : Change) → 4096 < length paths → AreFirstPaths paths cs → AreFirstPaths paths (cs ++ c ∷ [])
still_past paths cs c past h = (λ few. absurd (omega (arith, past, few)), λ m. omega (arith, h.1 m, more_named cs c))

-- it is put in its place
pub put_path : (old new : List Path) (added : Bool) (p : Path) → length old ≤ 4096 → added ≡ not (list_any (is_at (path_cmp p)) old) → length new ≡ length old + cond added 1 0
    → ((q : Path) → list_any (is_at (path_cmp q)) new ≡ cond (is_at (path_cmp p) q) true (list_any (is_at (path_cmp q)) old))
    → (cs : List Change) (c : Change) → c.path ≡ p → AreFirstPaths old cs → AreFirstPaths new (cs ++ c ∷ [])
put_path old new added p few is_new long has cs c at h = (λ k. (count, named), λ past. omega (arith, past, count))
  where
    counted : (b : Bool) (n m : ℕ) → n ≡ m → n + cond (not b) 1 0 ≡ cond b m (m + 1)
    counted true n m e = omega (arith, e)
    counted false n m e = omega (arith, e)

    either : (s a : Bool) → cond s true a ≡ (a || (s || false))
    either true true = refl
    either true false = refl
    either false true = refl
    either false false = refl

    there : list_any (is_at (path_cmp p)) old ≡ list_any (λ d. same_path c.path d.path) cs
    there = (h.0 few).1 p ∙ ap (λ q. list_any (λ d. same_path q d.path) cs) (sym at)

    count : length new ≡ paths_named (cs ++ c ∷ [])
    count =
        long
        ∙ ap (λ b. length old + cond b 1 0) is_new
        ∙ counted (list_any (is_at (path_cmp p)) old) (length old) (paths_named cs) (h.0 few).0
        ∙ ap (λ b. cond b (paths_named cs) (paths_named cs + 1)) there
        ∙ sym (paths_more cs c)

    named : (q : Path) → list_any (is_at (path_cmp q)) new ≡ list_any (λ d. same_path q d.path) (cs ++ c ∷ [])
    named q =
        has q
        ∙ ap (cond (is_at (path_cmp p) q) true) ((h.0 few).1 q)
        ∙ ap (λ b. cond b true (list_any (λ d. same_path q d.path) cs)) (same_path_back p q ∙ ap (same_path q) (sym at))
        ∙ either (same_path q c.path) (list_any (λ d. same_path q d.path) cs)
        ∙ sym (list_any-append (λ d. same_path q d.path) cs (c ∷ []))

-- one item more of a list
pub seen : {A B : Type 0} (f : A → B) (xs : List A) (i : ℕ) (x d : A) → i < length xs → x ≡ get_or xs i d → map f (take i xs) ++ f x ∷ [] ≡ map f (take (i + 1) xs)
seen f xs i x d h is = sym (map-append f (take i xs) (x ∷ [])) ∙ ap (map f) (ap (λ y. take i xs ++ y ∷ []) is ∙ sym (take_more xs i d h))
