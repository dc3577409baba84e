-- What is looked at of both sides of an edit.
use Rattle.std.proofs.Common.{◌≡◌, ℕ, ◌+◌, ◌≤◌, ◌<◌, Bool, true, false, not, ◌&&◌, ◌||◌, cond, List, [], ◌∷◌, ◌++◌, map, drop, length, get_or, Option, Some, None, is_some, is_none, Result, Ok, Err, IfOk, refl, sym, ap, ◌∙◌, append_assoc, append-nil}
use Rattle.std.specs.List.{flat_map, list_any}
use Rattle.std.specs.Option.{option_and_then, option_map, option_map_or}
use Rattle.std.specs.FinMap as finite
use Rattle.node_base.proofs.PathLemmas.{append_of_rest}
use Rattle.node_base.specs.Path.{Path, is_front, rest_after, same_path}
use Rattle.node_base.specs.Tree.{PathMap, IsTree, alone, blocked, grafted, new_dir}
use Rattle.node_base.specs.declared.fault.TreeFault.{TreeFault}
use Rattle.node_base.specs.declared.node.Node.{Node}
use Rattle.path_tree.proofs.Fronts.{nothing_below}
use Rattle.dump_load.proofs.Unblocked.{unblocked}
use Rattle.tree_reports.specs.Applied.{content}
use Rattle.tree_reports.specs.Depths.{is_within, takes_child, within}
use Rattle.tree_reports.specs.Reports.{content_at, placed}
use Rattle.tree_reports.specs.Sparse.{part_of, with_limit, with_limits}
use Rattle.tree_reports.specs.declared.depth.Depth.{Depth}
use Rattle.tree_reports.specs.declared.depth.Depth.TheVariants as depth
use Rattle.tree_reports.specs.declared.sparse.Limit.{Limit}
use Rattle.tree_reports.specs.declared.sparse.Part.{Part}
use Rattle.tree_reports.specs.declared.sparse.Part.TheVariants as part
use Rattle.browse_wire.specs.Reports.{Report, report_as}
use Rattle.browse_wire.specs.declared.report.ReportCommand.{ReportCommand}
use Rattle.ra_report.specs.Reports.{is_blocked}
use Rattle.ra_report.specs.Shown.{Known}
use Rattle.ra_report.specs.Trimmed.{drop_at, drops, had_by, is_dropped, is_left_out, is_seen, limit_in, seen, seen_at, takes, trimmed_by, within_wanted, without}
use Rattle.ra_report.proofs.Later.{drop_all, next_of}
use Rattle.ra_report.proofs.Takes.{blocked_is}

-- ---- commands one after another

-- whether something holds of one
pub next_holds : (f : Report → Bool) (rest : List ReportCommand) (i : ℕ) (c : ReportCommand) (all : Bool) → i < length rest → c ≡ get_or rest i c → list_any f (map report_as (drop i rest)) ≡ all → (f (report_as c) || list_any f (map report_as (drop (i + 1) rest))) ≡ all
next_holds f rest i c all h e l = sym (ap (λ r. list_any f (map report_as r)) (next_of rest i c h e)) ∙ l

pub none_holds : (f : Report → Bool) (rest : List ReportCommand) (i : ℕ) (c : ReportCommand) (all : Bool) → i < length rest → c ≡ get_or rest i c → f (report_as c) ≡ false → list_any f (map report_as (drop i rest)) ≡ all → list_any f (map report_as (drop (i + 1) rest)) ≡ all
none_holds f rest i c all h e n l = sym (ap (λ b. b || list_any f (map report_as (drop (i + 1) rest))) n) ∙ next_holds f rest i c all h e l

pub one_holds : (f : Report → Bool) (rest : List ReportCommand) (i : ℕ) (c : ReportCommand) (all : Bool) → i < length rest → c ≡ get_or rest i c → f (report_as c) ≡ true → list_any f (map report_as (drop i rest)) ≡ all → true ≡ all
one_holds f rest i c all h e n l = sym (ap (λ b. b || list_any f (map report_as (drop (i + 1) rest))) n) ∙ next_holds f rest i c all h e l

pub all_stay : (f : Report → Bool) (rest : List ReportCommand) (i : ℕ) (all : Bool) → length rest ≤ i → list_any f (map report_as (drop i rest)) ≡ all → false ≡ all
all_stay f rest i all h l = sym (ap (λ r. list_any f (map report_as r)) (drop_all rest i h)) ∙ l

-- their limits
pub one_limit : (z : Option Depth) (b : Bool) (made new : List Limit) (rest : List ReportCommand) (i : ℕ) (c : ReportCommand) (all : List Limit) → i < length rest → c ≡ get_or rest i c → new ≡ made ++ limit_in z b (report_as c)
    → made ++ flat_map (limit_in z b) (map report_as (drop i rest)) ≡ all → new ++ flat_map (limit_in z b) (map report_as (drop (i + 1) rest)) ≡ all
one_limit z b made new rest i c all h e n l =
    let left = flat_map (limit_in z b) (map report_as (drop (i + 1) rest)) in
    ap (λ v. v ++ left) n ∙ append_assoc made (limit_in z b (report_as c)) left ∙ ap (λ r. made ++ flat_map (limit_in z b) (map report_as r)) (sym (next_of rest i c h e)) ∙ l

pub all_limits : (z : Option Depth) (b : Bool) (made : List Limit) (rest : List ReportCommand) (i : ℕ) (all : List Limit) → length rest ≤ i → made ++ flat_map (limit_in z b) (map report_as (drop i rest)) ≡ all → made ≡ all
all_limits z b made rest i all h l = sym (append-nil made) ∙ ap (λ r. made ++ flat_map (limit_in z b) (map report_as r)) (sym (drop_all rest i h)) ∙ l

-- ---- what stands in neither tree

-- some paths, and then others
without_more : (ps qs : List Path) (f : Path → Option Node) (q : Path) → without qs (without ps f) q ≡ without (ps ++ qs) f q
without_more [] qs f q = refl
without_more (p ∷ ps) qs f q =
    elim (is_front p q) as (λ b. cond (list_any (λ p. is_front p q) qs) None (cond (b || list_any (λ p. is_front p q) ps) None (f q)) ≡ cond (b || list_any (λ p. is_front p q) (ps ++ qs)) None (f q)) [
      | true ↦ never (list_any (λ p. is_front p q) qs)
      | false ↦ without_more ps qs f q
    ]
  where
    never : (b : Bool) → ◌≡◌ {A = Option Node} (cond b None None) None
    never true = refl
    never false = refl

-- what is left of some takes away what they all do
pub one_dropped : (f : Path → Option Node) (old new : PathMap) (last : Path → Option Node) (rest : List Limit) (i : ℕ) (l : Limit) → i < length rest → l ≡ get_or rest i l → ((q : Path) → finite.get new q ≡ without (drop_at f l) (finite.get old) q)
    → without (drops f (drop i rest)) (finite.get old) ≡ last → without (drops f (drop (i + 1) rest)) (finite.get new) ≡ last
one_dropped f old new last rest i l h e n was =
    let left = drops f (drop (i + 1) rest) in
    ap (λ (g : Path → Option Node). without left g) (λ j q. n q j)
    ∙ (λ j q. without_more (drop_at f l) left (finite.get old) q j)
    ∙ ap (λ r. without (drops f r) (finite.get old)) (sym (next_of rest i l h e))
    ∙ was

pub all_dropped : (f : Path → Option Node) (new : PathMap) (last : Path → Option Node) (rest : List Limit) (i : ℕ) → length rest ≤ i → without (drops f (drop i rest)) (finite.get new) ≡ last → (q : Path) → finite.get new q ≡ last q
all_dropped f new last rest i h was q = ap (λ (g : Path → Option Node). g q) (ap (λ r. without (drops f r) (finite.get new)) (sym (drop_all rest i h)) ∙ was)

-- nothing stands at a path below no folder
none_there : (m : PathMap) (p : Path) (t : TreeFault) → IsTree m → blocked (finite.get m) p ≡ Some t → finite.get m p ≡ None
none_there m p t tree e = by (finite.get m p) (λ some. unblocked m p tree some)
  where
    open_is : blocked (finite.get m) p ≡ None → ⊥
    open_is n = none_some (sym n ∙ e)
      where
        none_some : ◌≡◌ {A = Option TreeFault} None (Some t) → ⊥
        none_some z = cc

    by : (o : Option Node) → (is_some o ≡ true → blocked (finite.get m) p ≡ None) → o ≡ None
    by None h = refl
    by (Some x) h = absurd (open_is (h refl))

-- left out of a tree in which nothing stands at the path
taken_out : (m : PathMap) (f : Path → Option Node) (p q : Path) → IsTree m → f p ≡ None → cond (is_none (blocked (finite.get m) p)) (grafted (finite.get m) p (part_of part.LeftOut f p)) (finite.get m) q ≡ without (p ∷ []) (finite.get m) q
taken_out m f p q tree none = by (blocked (finite.get m) p) refl
  where
    below : (o : Option Path) → option_map_or (λ r. cond (is_some (f p)) (alone new_dir r) None) o (finite.get m q) ≡ cond (is_some {T = Path} o || false) None (finite.get m q)
    below None = refl
    below (Some r) = ap (λ (x : Option Node). cond (is_some x) (alone new_dir r) None) none

    nothing : (t : TreeFault) (o : Option Path) → blocked (finite.get m) p ≡ Some t → rest_after p q ≡ o → finite.get m q ≡ cond (is_some {T = Path} o || false) None (finite.get m q)
    nothing t None e r = refl
    nothing t (Some s) e r = ap (finite.get m) (append_of_rest p q s r) ∙ nothing_below (finite.get m) tree.fronts p (none_there m p t tree e) s

    by : (o : Option TreeFault) → blocked (finite.get m) p ≡ o → cond (is_none o) (grafted (finite.get m) p (part_of part.LeftOut f p)) (finite.get m) q ≡ without (p ∷ []) (finite.get m) q
    by None e = below (rest_after p q)
    by (Some t) e = nothing t (rest_after p q) e refl

left_is : (k : Part) → is_left_out k ≡ true → k ≡ part.LeftOut
left_is (part.Within d) e = absurd cc
left_is part.LeftOut e = refl

below_root : (p : Path) → not (same_path p []) ≡ true → alone new_dir p ≡ None
below_root [] e = absurd cc
below_root (n ∷ p) e = refl

first_two : (a b c : Bool) → (a && b && c) ≡ true → (a ≡ true) × (b ≡ true)
first_two true true c e = (refl, refl)
first_two true false c e = absurd cc
first_two false b c e = absurd cc

-- the limit of a tree that has its root alone
pub drops_one : {E : Type 0} (f : Path → Option Node) (m nothing : PathMap) (l : Limit) (r : Result PathMap E) → is_dropped f l ≡ true → IsTree m → ((q : Path) → finite.get nothing q ≡ alone new_dir q) → IfOk r (λ t. (q : Path) → finite.get t q ≡ with_limit (finite.get m) (finite.get nothing) l q)
    → IfOk r (λ t. (q : Path) → finite.get t q ≡ without (drop_at f l) (finite.get m) q)
drops_one f m nothing l (Ok t) d tree is h = λ q.
    let two = first_two (is_left_out l.part) (not (same_path l.path [])) (is_some (f l.path)) d in
    h q
    ∙ ap (λ k. cond (is_none (blocked (finite.get m) l.path)) (grafted (finite.get m) l.path (part_of k (finite.get nothing) l.path)) (finite.get m) q) (left_is l.part two.0)
    ∙ taken_out m (finite.get nothing) l.path q tree (is l.path ∙ below_root l.path two.1)
    ∙ ap (λ b. without (cond b (l.path ∷ []) []) (finite.get m) q) (sym d)
drops_one f m nothing l (Err e) d tree is h = tt

-- ---- what is wanted

pub trim_wants : (z : Option Depth) (t : Path) (ls : List Limit) (tree share limited seen new : PathMap) → share ≡ tree → ((q : Path) → finite.get limited q ≡ with_limits (finite.get share) (finite.get tree) ls q) → ((q : Path) → finite.get seen q ≡ within_wanted z t (finite.get limited) q)
    → ((q : Path) → finite.get new q ≡ without (drops (finite.get tree) ls) (finite.get seen) q) → (q : Path) → finite.get new q ≡ trimmed_by z t ls (finite.get tree) q
trim_wants z t ls tree share limited seen new e l s n q =
    let limited_is : finite.get limited ≡ with_limits (finite.get share) (finite.get tree) ls = λ j p. l p j in
    let looked_at : finite.get seen ≡ within_wanted z t (finite.get limited) = λ j p. s p j in
    n q ∙ ap (λ f. without (drops (finite.get tree) ls) f q) (looked_at ∙ ap (within_wanted z t) (limited_is ∙ ap (λ m. with_limits (finite.get m) (finite.get tree) ls) e))

-- ---- what was reported

takes_same : (d : Depth) (x : Node) → takes_child d x ≡ takes d (is_some x.text)
takes_same depth.Empty x = refl
takes_same depth.Files x = refl
takes_same depth.Immediates x = refl
takes_same depth.Infinity x = refl

within_seen : (d : Depth) (q : Path) (x : Node) → is_within d q x ≡ is_seen d q (content x)
within_seen d [] x = refl
within_seen d (n ∷ []) x = takes_same d x
within_seen d (n ∷ m ∷ p) x = refl

content_kept : (b : Bool) (x : Node) → option_map content (cond b (Some x) None) ≡ cond b (Some (content x)) None
content_kept true x = refl
content_kept false x = refl

seen_within : (d : Depth) (g : Path → Option Node) (q : Path) → option_map content (within d g q) ≡ seen d (λ r. option_map content (g r)) q
seen_within d g q = by (g q)
  where
    by : (o : Option Node) → option_map content (option_and_then (λ x. cond (is_within d q x) (Some x) None) o) ≡ option_and_then (λ c. cond (is_seen d q c) (Some c) None) (option_map content o)
    by None = refl
    by (Some x) = content_kept (is_within d q x) x ∙ ap (λ b. cond b (Some (content x)) None) (within_seen d q x)

seen_placed : (d : Depth) (t : Path) (f : Path → Option Node) (q : Path) → option_map content (grafted f t (within d (λ r. f (t ++ r))) q) ≡ placed (λ r. option_map content (f r)) t (seen d (λ r. option_map content (f (t ++ r)))) q
seen_placed d t f q = by (rest_after t q)
  where
    by : (o : Option Path) → option_map content (option_map_or (within d (λ r. f (t ++ r))) o (f q)) ≡ option_map_or (seen d (λ r. option_map content (f (t ++ r)))) o (option_map content (f q))
    by None = refl
    by (Some r) = seen_within d (λ p. f (t ++ p)) r

pub seen_is : (z : Option Depth) (t : Path) (m : PathMap) (q : Path) → option_map content (within_wanted z t (finite.get m) q) ≡ seen_at z t (content_at m) q
seen_is None t m q = refl
seen_is (Some d) t m q = by (blocked (finite.get m) t) (is_blocked (content_at m) t) (blocked_is (finite.get m) t)
  where
    by : (o : Option TreeFault) (b : Bool) → is_some o ≡ b
        → option_map content (cond (is_none o) (grafted (finite.get m) t (within d (λ r. finite.get m (t ++ r)))) (finite.get m) q) ≡ cond b (content_at m) (placed (content_at m) t (seen d (λ r. content_at m (t ++ r)))) q
    by None b e = seen_placed d t (finite.get m) q ∙ ap (λ v. cond v (content_at m) (placed (content_at m) t (seen d (λ r. content_at m (t ++ r)))) q) e
    by (Some f) b e = ap (λ v. cond v (content_at m) (placed (content_at m) t (seen d (λ r. content_at m (t ++ r)))) q) e

content_left : (ps : List Path) (f : Path → Option Node) (q : Path) → option_map content (without ps f q) ≡ without ps (λ r. option_map content (f r)) q
content_left ps f q = by (list_any (λ p. is_front p q) ps)
  where
    by : (b : Bool) → option_map content (cond b None (f q)) ≡ cond b None (option_map content (f q))
    by true = refl
    by false = refl

pub trim_has : (z : Option Depth) (t : Path) (ls : List Limit) (f : Path → Option Node) (old share seen new report : PathMap) → share ≡ old → report ≡ new → ((q : Path) → finite.get seen q ≡ within_wanted z t (finite.get share) q) → ((q : Path) → finite.get new q ≡ without (drops f ls) (finite.get seen) q)
    → (q : Path) → content_at report q ≡ had_by z t ls f (content_at old) q
trim_has z t ls f old share seen new report e r s n q =
    let looked_at : content_at seen ≡ seen_at z t (content_at old) = λ j p. (ap (option_map content) (s p ∙ ap (λ m. within_wanted z t (finite.get m) p) e) ∙ seen_is z t old p) j in
    ap (λ m. content_at m q) r ∙ ap (option_map content) (n q) ∙ content_left (drops f ls) (finite.get seen) q ∙ ap (λ (k : Known). without (drops f ls) k q) looked_at
