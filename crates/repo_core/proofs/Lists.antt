-- Trees beside their maps, as revisions.
use Rattle.std.proofs.Common.{◌≡◌, ℕ, zero, suc, List, [], ◌∷◌, ◌++◌, length, refl, ap, arith}
use Rattle.std.specs.Prelude.{slice_get, slice_set}
use Rattle.std.specs.Option.{option_map}
use Rattle.node_base.specs.Props.{PropMap}
use Rattle.node_base.specs.Tree.{PathMap}
use Rattle.repo_core.specs.Repository.{Revision, trees_of}
use Rattle.repo_core.specs.Entries.{with_props}
use Rattle.repo_core.specs.Held.{revisions_of}

pub length-revisions : (ts : List PathMap) (ps : List PropMap) → length ps ≡ length ts → length (revisions_of ts ps) ≡ length ts
length-revisions [] ps h = refl
length-revisions (t ∷ ts) [] h = absurd (omega arith)
length-revisions (t ∷ ts) (p ∷ ps) h = ap suc (length-revisions ts ps (omega arith))

pub trees-revisions : (ts : List PathMap) (ps : List PropMap) → length ps ≡ length ts → trees_of (revisions_of ts ps) ≡ ts
trees-revisions [] ps h = refl
trees-revisions (t ∷ ts) [] h = absurd (omega arith)
trees-revisions (t ∷ ts) (p ∷ ps) h = ap (λ x. t ∷ x) (trees-revisions ts ps (omega arith))

pub tree-revisions : (ts : List PathMap) (ps : List PropMap) (n : ℕ) → length ps ≡ length ts → option_map (λ (x : Revision). x.tree) (slice_get (revisions_of ts ps) n) ≡ slice_get ts n
tree-revisions [] ps n h = refl
tree-revisions (t ∷ ts) [] n h = absurd (omega arith)
tree-revisions (t ∷ ts) (p ∷ ps) zero h = refl
tree-revisions (t ∷ ts) (p ∷ ps) (suc n) h = tree-revisions ts ps n (omega arith)

pub props-revisions : (ts : List PathMap) (ps : List PropMap) (n : ℕ) → length ps ≡ length ts → option_map (λ (x : Revision). x.props) (slice_get (revisions_of ts ps) n) ≡ slice_get ps n
props-revisions [] [] n h = refl
props-revisions [] (p ∷ ps) n h = absurd (omega arith)
props-revisions (t ∷ ts) [] n h = absurd (omega arith)
props-revisions (t ∷ ts) (p ∷ ps) zero h = refl
props-revisions (t ∷ ts) (p ∷ ps) (suc n) h = props-revisions ts ps n (omega arith)

pub revisions-push : (ts : List PathMap) (ps : List PropMap) (t : PathMap) (p : PropMap) → length ps ≡ length ts → revisions_of (ts ++ t ∷ []) (ps ++ p ∷ []) ≡ revisions_of ts ps ++ record { tree = t; props = p } ∷ []
revisions-push [] [] t p h = refl
revisions-push [] (q ∷ ps) t p h = absurd (omega arith)
revisions-push (s ∷ ts) [] t p h = absurd (omega arith)
revisions-push (s ∷ ts) (q ∷ ps) t p h = ap (λ x. record { tree = s; props = q } ∷ x) (revisions-push ts ps t p (omega arith))

pub revisions-set : (ts : List PathMap) (ps : List PropMap) (n : ℕ) (p : PropMap) → length ps ≡ length ts → revisions_of ts (slice_set ps n p) ≡ with_props (revisions_of ts ps) n p
revisions-set [] ps n p h = refl
revisions-set (t ∷ ts) [] n p h = absurd (omega arith)
revisions-set (t ∷ ts) (q ∷ ps) zero p h = refl
revisions-set (t ∷ ts) (q ∷ ps) (suc n) p h = ap (λ x. record { tree = t; props = q } ∷ x) (revisions-set ts ps n p (omega arith))
