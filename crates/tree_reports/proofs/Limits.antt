-- Trees with limits put on them, path by path.
use Rattle.std.proofs.Common.{◌≡◌, ℕ, ◌+◌, ◌≤◌, ◌<◌, Bool, true, false, not, cond, ◌||◌, List, [], ◌∷◌, ◌++◌, drop, length, get_or, Option, Some, None, IsSome, is_some, is_none, Result, Ok, Err, IfOk, refl, sym, ap, subst, ◌∙◌, true≢false}
use Rattle.std.proofs.lemmas.List.{at_drop_more, at_drop_all}
use Rattle.std.specs.Prelude.{OnOk}
use Rattle.std.specs.List.{list_any}
use Rattle.std.specs.Option.{option_and_then, option_map_or}
use Rattle.std.specs.FinMap.{get, keys, contains_key-keys}
use Rattle.node_base.specs.Limits.{fits}
use Rattle.node_base.specs.Path.{Path, rest_after, same_path}
use Rattle.node_base.specs.Tree.{PathMap, IsTree, alone, blocked, grafted, new_dir}
use Rattle.node_base.specs.declared.node.Node.{Node}
use Rattle.node_base.proofs.PathLemmas.{append_of_rest, path_of_same, same_path_itself}
use Rattle.path_tree.specs.Calls.{is_dir}
use Rattle.path_tree.specs.Copies.{copy_too_long}
use Rattle.path_tree.proofs.Faults.{no_dir_there}
use Rattle.path_tree.proofs.Fronts.{alone_fits, dir_is_there, fronts_all, nothing_below}
use Rattle.tree_reports.specs.declared.depth.Depth.{Depth}
use Rattle.tree_reports.specs.declared.depth.Depth.TheVariants.{Empty, Files, Immediates, Infinity}
use Rattle.tree_reports.specs.declared.sparse.Limit.{Limit}
use Rattle.tree_reports.specs.declared.sparse.Part.{Part}
use Rattle.tree_reports.specs.declared.sparse.Part.TheVariants.{LeftOut}
use Rattle.tree_reports.specs.Depths.{goes_below, is_within, within}
use Rattle.tree_reports.specs.Sparse.{part_of, with_limit, with_limits}
use Rattle.tree_reports.proofs.Shallow.{some_of_within, whole}

-- ---- copies that are within the limits

-- a copy all of whose paths fit
pub copy_short : (m : PathMap) (from to : Path) → ((r : Path) → IsSome (get m (from ++ r)) → fits (to ++ r) ≡ true) → copy_too_long m from to ≡ false
copy_short m from to h = none_long (keys m) (λ k member. short k (rest_after from k) refl (contains_key-keys m k ∙ member))
  where
    long : Path → Bool
    long k = option_map_or (λ r. not (fits (to ++ r))) (rest_after from k) false

    short : (k : Path) (o : Option Path) → rest_after from k ≡ o → IsSome (get m k) → option_map_or (λ r. not (fits (to ++ r))) o false ≡ false
    short k None e some = refl
    short k (Some r) e some = ap not (h r (subst (λ q. IsSome (get m q)) (append_of_rest from k r e) some))

    neither : (a b : Bool) → a ≡ false → b ≡ false → (a || b) ≡ false
    neither a b p q = cc

    later : (a b : Bool) → b ≡ true → (a || b) ≡ true
    later true b e = refl
    later false b e = e

    none_long : (ks : List Path) → ((k : Path) → list_any (same_path k) ks ≡ true → long k ≡ false) → list_any long ks ≡ false
    none_long [] g = refl
    none_long (k ∷ ks) g = neither _ _ (g k (ap (λ b. b || list_any (same_path k) ks) (same_path_itself k))) (none_long ks (λ j m. g j (later (same_path j k) _ m)))

-- a copy to where it is
pub same_place : (m : PathMap) (p : Path) → IsTree m → copy_too_long m p p ≡ false
same_place m p t = copy_short m p p (λ r. t.small (p ++ r))

-- a copy of what is looked at
pub part_fits : (m part : PathMap) (p root : Path) (d : Depth) → root ≡ [] → IsTree m → ((q : Path) → get part q ≡ within d (λ r. get m (p ++ r)) q) → copy_too_long part root p ≡ false
part_fits m part p root d e t is =
    ap (λ s. copy_too_long part s p) e
    ∙ copy_short part [] p (λ r some. t.small (p ++ r) (some_of_within d r (get m (p ++ r)) (subst IsSome (is r) some)))

-- a copy of a bare folder
pub bare_fits : (bare : PathMap) (p root : Path) → root ≡ [] → fits p ≡ true → ((q : Path) → get bare q ≡ alone new_dir q) → copy_too_long bare root p ≡ false
bare_fits bare p root e fit is =
    ap (λ s. copy_too_long bare s p) e
    ∙ copy_short bare [] p (λ r some. alone_fits new_dir p fit r (subst IsSome (is r) some))

-- ---- what is put

-- what is put is another one's
pub put_same : {E : Type 0} (f g h : Path → Option Node) (p : Path) (new : PathMap) (r : Result (Unit {0}) E) → ((q : Path) → g q ≡ h q) → OnOk r ((q : Path) → get new q ≡ grafted f p g q) → OnOk r ((q : Path) → get new q ≡ grafted f p h q)
put_same f g h p new (Ok u) s is = λ q. is q ∙ ap (λ (k : Path → Option Node). grafted f p k q) (λ i z. s z i)
put_same f g h p new (Err e) s is = tt

-- all is looked at
pub all_within_it : (d : Depth) (g : Path → Option Node) → goes_below d ≡ true → (q : Path) → g q ≡ within d g q
all_within_it Infinity g e = whole g
all_within_it Empty g e = absurd (true≢false (sym e))
all_within_it Files g e = absurd (true≢false (sym e))
all_within_it Immediates g e = absurd (true≢false (sym e))

-- where no folder stands, nothing is below
pub file_within : (m : PathMap) (p : Path) (d : Depth) → IsTree m → is_dir (get m p) ≡ false → (q : Path) → get m (p ++ q) ≡ within d (λ r. get m (p ++ r)) q
file_within m p d t e [] = elim (get m (p ++ [])) as (λ o. o ≡ option_and_then (λ x. cond true (Some x) None) o) [ None ↦ refl | Some x ↦ refl ]
file_within m p d t e (n ∷ q) = by (get m (p ++ n ∷ q)) (λ some. no_dir_there (get m p) e (fronts_all (get m) t.fronts p n q some))
  where
    by : (o : Option Node) → (IsSome o → ⊥) → o ≡ option_and_then (λ x. cond (is_within d (n ∷ q) x) (Some x) None) o
    by None h = refl
    by (Some x) h = absurd (h refl)

-- a left out path where nothing stands
pub none_left : (m : PathMap) (p : Path) → IsTree m → is_none (get m p) ≡ true → (q : Path) → get m (p ++ q) ≡ part_of LeftOut (get m) p q
none_left m p t e q =
    let none : get m p ≡ None = nothing (get m p) e in
    nothing_below (get m) t.fronts p none q ∙ ap (λ (o : Option Node). cond (is_some o) (alone new_dir q) None) (sym none)
  where
    nothing : (o : Option Node) → is_none o ≡ true → o ≡ None
    nothing None e = refl
    nothing (Some x) e = absurd (true≢false (sym e))

-- ---- at the root

pub shared_within : {E : Type 0} (m : PathMap) (d : Depth) (r : Result PathMap E) → goes_below d ≡ true → IfOk r (λ t. t ≡ m) → IfOk r (λ t. (q : Path) → get t q ≡ within d (get m) q)
shared_within m d (Ok t) e is = λ q. ap (λ k. get k q) is ∙ all_within_it d (get m) e q
shared_within m d (Err x) e is = tt

pub root_left : {E : Type 0} (m : PathMap) (part : Part) (r : Result PathMap E) → IsTree m → part ≡ LeftOut → IfOk r (λ t. (q : Path) → get t q ≡ alone new_dir q) → IfOk r (λ t. (q : Path) → get t q ≡ part_of part (get m) [] q)
root_left m part (Ok t) tree e is = λ q.
    is q
    ∙ ap (λ b. cond b (alone new_dir q) None) (sym (dir_is_there (get m []) tree.root))
    ∙ ap (λ k. part_of k (get m) [] q) (sym e)
root_left m part (Err x) tree e is = tt

-- a limit at the root is all that counts
pub root_limited : {E : Type 0} (w m : PathMap) (l : Limit) (r : Result PathMap E) → same_path l.path [] ≡ true → IfOk r (λ t. (q : Path) → get t q ≡ part_of l.part (get m) [] q) → IfOk r (λ t. (q : Path) → get t q ≡ with_limit (get w) (get m) l q)
root_limited w m l (Ok t) e is = λ q. is q ∙ ap (λ p. cond (is_none (blocked (get w) p)) (grafted (get w) p (part_of l.part (get m) p)) (get w) q) (sym (path_of_same l.path [] e))
root_limited w m l (Err x) e is = tt

-- ---- all of them

-- what is left of some comes to what they all do
pub one_limited : (old new : PathMap) (f last : Path → Option Node) (rest : List Limit) (i : ℕ) (l : Limit) → i < length rest → l ≡ get_or rest i l → ((q : Path) → get new q ≡ with_limit (get old) f l q) → with_limits (get old) f (drop i rest) ≡ last → with_limits (get new) f (drop (i + 1) rest) ≡ last
one_limited old new f last rest i l h e n was =
    ap (λ (w : Path → Option Node). with_limits w f (drop (i + 1) rest)) (λ j q. n q j)
    ∙ ap (λ k. with_limits (with_limit (get old) f k) f (drop (i + 1) rest)) e
    ∙ sym (at_drop_more (with_limits (get old) f) rest i l h)
    ∙ was

pub all_limited : (new : PathMap) (f last : Path → Option Node) (rest : List Limit) (i : ℕ) → length rest ≤ i → with_limits (get new) f (drop i rest) ≡ last → (q : Path) → get new q ≡ last q
all_limited new f last rest i h was q = ap (λ (w : Path → Option Node). w q) (sym (at_drop_all (with_limits (get new) f) rest i h) ∙ was)
