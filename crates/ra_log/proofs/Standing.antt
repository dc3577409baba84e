-- What stands past the limits of paths: nothing.
use Rattle.std.proofs.Common.{◌≡◌, ℕ, ◌-◌, ◌++◌, true, false, List, [], take, drop, length, Option, Some, None, Result, Ok, Err, true≢false, refl, sym, ap, ◌∙◌}
use Rattle.std.proofs.lemmas.List.{take-append-drop}
use Rattle.std.specs.Prelude.{IfOk, if◌then◌else◌}
use Rattle.std.specs.Option.{option_map, option_and_then}
use Rattle.node_base.specs.Limits.{fits}
use Rattle.node_base.specs.Path.{Path}
use Rattle.node_base.specs.Tree.{PathMap, kind_of}
use Rattle.dump_load.specs.declared.change.Change.{Change}
use Rattle.path_history.specs.declared.place.Place.{Place}
use Rattle.path_history.specs.Lines.{node_at}
use Rattle.path_history.specs.Places.{place, origin, IsPastLimits}
use Rattle.path_history.proofs.Sources.{fits_front}
use Rattle.ra_log.specs.Kinds.{kind_at, kind_before, folder, last_name, below}

pub kind_past : (trees : List PathMap) (a : Place) → fits a.path ≡ false → None ≡ kind_at trees a
kind_past trees a e = sym (ap (λ b. if b then option_map kind_of (node_at trees a) else None) e)

-- below a place past the limits
pub below_past : (trees : List PathMap) (r : Path) (o : Option Place) → IsPastLimits o → None ≡ option_and_then (λ a. kind_at trees (below r a)) o
below_past trees r None h = refl
below_past trees r (Some a) h = kind_past trees (below r a) (fits_front a.path r h)

-- the front of a path isn't past the limits
pub front_within : (p : Path) (k : ℕ) → fits p ≡ true → fits (take k p) ≡ false → ⊥
front_within p k f e = true≢false (sym f ∙ ap fits (sym (take-append-drop k p)) ∙ fits_front (take k p) (drop k p) e)

pub no_long_front : (p names root front : Path) (k : ℕ) → fits p ≡ true → names ≡ p → root ≡ [] → front ≡ take k names → fits (root ++ front) ≡ false → ⊥
no_long_front p names root front k f e r t h = front_within p k f (sym (ap fits (ap (λ q. q ++ front) r ∙ t ∙ ap (λ q. take k q) e)) ∙ h)

-- a path in two parts
pub kind_parts : (trees : List PathMap) (n : ℕ) (set : List Change) (p names front rest at : Path) (k : ℕ) → names ≡ p → k ≡ length names - 1 → front ≡ take k names → rest ≡ drop k names → at ≡ front → option_and_then (λ a. kind_at trees (below rest a)) (origin true set (place n at)) ≡ kind_before trees n set p
kind_parts trees n set p names front rest at k e l f r a =
    let j : k ≡ length p - 1 = l ∙ ap (λ q. length q - 1) e in
    let q : at ≡ folder p = a ∙ f ∙ ap (λ s. take k s) e ∙ ap (λ m. take m p) j in
    let s : rest ≡ last_name p = r ∙ ap (λ t. drop k t) e ∙ ap (λ m. drop m p) j in
    ap (λ t. option_and_then (λ a. kind_at trees (below t a)) (origin true set (place n at))) s ∙ ap (λ t. option_and_then (λ a. kind_at trees (below (last_name p) a)) (origin true set (place n t))) q

-- another name of a value
pub ok_same : {A E : Type 0} (r : Result A E) (x y : A) → IfOk r (λ k. k ≡ x) → x ≡ y → IfOk r (λ k. k ≡ y)
ok_same (Ok a) x y h e = h ∙ e
ok_same (Err f) x y h e = tt
