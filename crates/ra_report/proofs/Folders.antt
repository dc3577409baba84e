-- What stands at a folder of a revision.
use Rattle.std.proofs.Common.{◌≡◌, ℕ, true, false, not, [], ◌∷◌, ◌++◌, List, Option, Some, None, IsSomeAnd, IsNone, is_some, is_none, Result, refl, sym, ap, subst, ◌∙◌, cond, arith}
use Rattle.std.specs.Option.{option_map, option_map_or, option_or}
use Rattle.std.specs.FinMap as finite
use Rattle.node_base.specs.Limits.{fits}
use Rattle.node_base.specs.Path.{Path, rest_after, same_path}
use Rattle.node_base.specs.Tree.{PathMap, IsDirAt, alone, blocked, grafted, new_dir}
use Rattle.node_base.specs.declared.fault.TreeFault.TheVariants.{NoSuchPath, NotDir}
use Rattle.node_base.specs.declared.node.Node.{Node}
use Rattle.path_tree.specs.Copies.{copy_too_long}
use Rattle.dump_load.specs.Faults.{fault_if}
use Rattle.tree_reports.specs.Applied.{content}
use Rattle.tree_reports.specs.Reports.{content_at, placed}
use Rattle.repo_core.specs.Repository.{Repository}
use Rattle.ra_serve.specs.Answers.{asked}
use Rattle.ra_serve.specs.Ports as port
use Rattle.ra_serve.specs.Ports.{tree_of}
use Rattle.ra_denial.specs.Denials.{no_revision, dir_denied}
use Rattle.ra_denial.specs.Stops.{Comes, Decides}
use Rattle.ra_denial.specs.declared.denial.Denial.{Denial}
use Rattle.ra_denial.specs.declared.denial.Denial.TheVariants as denial
use Rattle.ra_denial.specs.declared.stop.Stop.{Stop}
use Rattle.ra_denial.proofs.Causes.{is_there}
use Rattle.ra_report.specs.Orders.{is_short, place_denied, wanted_denied, wanted_in}
use Rattle.ra_report.specs.Plans.{IsWanted, IsCopy}
use Rattle.ra_report.specs.Reports.{having, begun, begun_denied, folder_denied, placing_denied}
use Rattle.ra_report.specs.Shown.{bare, brought}
use Rattle.ra_report.specs.declared.shown.Shown.{Shown}
use Rattle.ra_report.specs.declared.plan.Wanted.{Wanted}
use Rattle.ra_report.specs.declared.plan.WorkingCopy.{WorkingCopy}
use Rattle.ra_report.proofs.Calls.{then_comes, then_decides}
use Rattle.ra_report.proofs.Later.{same_having, same_known}

-- a directory where none is denied
pub is_dir : (f : Path → Option Node) (p : Path) → dir_denied (f p) ≡ None → IsDirAt f p
is_dir f p h = by (f p) h
  where
    no_text : (t : Option (List ℕ)) → fault_if (is_some t) denial.NotDir ≡ None → IsNone t
    no_text None h = refl
    no_text (Some t) h = absurd cc

    by : (o : Option Node) → dir_denied o ≡ None → IsSomeAnd o (λ x. IsNone x.text)
    by None h = absurd cc
    by (Some x) h = no_text x.text h

-- ---- what is wanted

pub wanted_comes : (x : Repository) (n : Option ℕ) (p t : Path) (number : ℕ) (tree : PathMap) (k m : ℕ) (r : Result Wanted Stop) → port.no_revision x (asked x n) ≡ None → number ≡ asked x n → tree ≡ tree_of x (asked x n)
    → Decides (place_denied tree p t) (λ w. (w.number ≡ number) × (w.whole ≡ tree) × ((q : Path) → finite.get w.tree q ≡ grafted (alone new_dir) t (λ r. finite.get tree (p ++ r)) q)) r
    → Comes k m (wanted_denied x n p t) (IsWanted x n (wanted_in x n p t)) r
wanted_comes x n p t number tree k m r h e same d =
    then_decides k m (no_revision x (asked x n)) (place_denied (tree_of x (asked x n)) p t) (λ w. (w.number ≡ number) × (w.whole ≡ tree_of x (asked x n)) × ((q : Path) → finite.get w.tree q ≡ wanted_in x n p t q)) (IsWanted x n (wanted_in x n p t)) r (is_there x (asked x n) h)
    (λ w i. record { number = i.0 ∙ e; whole = i.1; tree = i.2 })
    (subst (λ v. Decides (place_denied v p t) (λ w. (w.number ≡ number) × (w.whole ≡ v) × ((q : Path) → finite.get w.tree q ≡ grafted (alone new_dir) t (λ r. finite.get v (p ++ r)) q)) r) same d)

-- the folder, another target than is offered, or one name
pub place_root : (m : PathMap) (p t : Path) (r : Result PathMap Stop) → same_path t [] ≡ true → Decides (dir_denied (finite.get m p)) (λ v. (q : Path) → finite.get v q ≡ finite.get m (p ++ q)) r
    → Decides (place_denied m p t) (λ v. (q : Path) → finite.get v q ≡ grafted (alone new_dir) t (λ r. finite.get m (p ++ r)) q) r
place_root m p [] r e h = h
place_root m p (n ∷ t) r e h = absurd cc

pub place_long : (m : PathMap) (p t : Path) → same_path t [] ≡ false → is_short t ≡ false → place_denied m p t ≡ Some denial.Unsupported
place_long m p [] e h = absurd cc
place_long m p (n ∷ []) e h = absurd cc
place_long m p (n ∷ k ∷ t) e h = refl

pub place_named : (m : PathMap) (p t : Path) (Is : PathMap → Type 0) (r : Result PathMap Stop) → same_path t [] ≡ false → is_short t ≡ true → Decides (fault_if (copy_too_long m p t) denial.Unsupported) Is r → Decides (place_denied m p t) Is r
place_named m p [] Is r e s h = absurd cc
place_named m p (n ∷ []) Is r e s h = h
place_named m p (n ∷ k ∷ t) Is r e s h = absurd cc

-- a directory alone is no obstacle to one name
pub open_alone : (m : PathMap) (t : Path) → ((q : Path) → finite.get m q ≡ alone new_dir q) → is_short t ≡ true → blocked (finite.get m) t ≡ None
open_alone m [] h s = refl
open_alone m (n ∷ []) h s = ap (λ o. option_map_or (λ x. cond (is_some x.text) (Some NotDir) None) o (Some NoSuchPath)) (h [])
open_alone m (n ∷ k ∷ t) h s = absurd cc

pub over_alone : (f g : Path → Option Node) (t : Path) (new : PathMap) → ((q : Path) → f q ≡ alone new_dir q) → ((q : Path) → finite.get new q ≡ grafted f t g q) → (q : Path) → finite.get new q ≡ grafted (alone new_dir) t g q
over_alone f g t new h is q = is q ∙ ap (λ o. option_map_or g (rest_after t q) o) (h q)

-- ---- what is reported first

pub begun_comes : (x : Repository) (n : ℕ) (p t : Path) (s : Shown) (base : ℕ) (tree : PathMap) (k m : ℕ) (r : Result WorkingCopy Stop) → port.no_revision x n ≡ None → base ≡ n → tree ≡ tree_of x n
    → Decides (begun_denied t s tree p) (λ c. (c.base ≡ base) × (c.switches.items ≡ []) × ((q : Path) → content_at c.report q ≡ begun t s tree p q)) r
    → Comes k m (option_or (no_revision x n) (begun_denied t s (tree_of x n) p)) (IsCopy (having (begun t s (tree_of x n) p) []) (Some n)) r
begun_comes x n p t s base tree k m r h e same d =
    then_decides k m (no_revision x n) (begun_denied t s (tree_of x n) p) (λ c. (c.base ≡ base) × (c.switches.items ≡ []) × ((q : Path) → content_at c.report q ≡ begun t s (tree_of x n) p q)) (IsCopy (having (begun t s (tree_of x n) p) []) (Some n)) r (is_there x n h)
    (λ c i. record { has = same_having (content_at c.report) (begun t s (tree_of x n) p) c.switches.items [] i.2 i.1; base_is = ap (λ b. Some b) (i.0 ∙ e) })
    (subst (λ v. Decides (begun_denied t s v p) (λ c. (c.base ≡ base) × (c.switches.items ≡ []) × ((q : Path) → content_at c.report q ≡ begun t s v p q)) r) same d)

pub here_comes : (x : Repository) (n : ℕ) (p source t : Path) (s : Shown) (k m : ℕ) (r : Result WorkingCopy Stop) → fault_if (not (fits p)) denial.NoPath ≡ None → source ≡ p
    → Comes k m (option_or (no_revision x n) (begun_denied t s (tree_of x n) source)) (IsCopy (having (begun t s (tree_of x n) source) []) (Some n)) r
    → Comes k m (option_or (fault_if (not (fits p)) denial.NoPath) (option_or (no_revision x n) (begun_denied t s (tree_of x n) p))) (IsCopy (having (begun t s (tree_of x n) p) []) (Some n)) r
here_comes x n p source t s k m r d e h =
    let Is = IsCopy (having (begun t s (tree_of x n) p) []) (Some n) in
    then_comes k k m (fault_if (not (fits p)) denial.NoPath) (option_or (no_revision x n) (begun_denied t s (tree_of x n) p)) Is Is r (omega arith) d (λ v i. i)
    (subst (λ v. Comes k m (option_or (no_revision x n) (begun_denied t s (tree_of x n) v)) (IsCopy (having (begun t s (tree_of x n) v) []) (Some n)) r) e h)

-- the folder, or a target
pub begun_root : (s : Shown) (m : PathMap) (p t : Path) (r : Result PathMap Stop) → same_path t [] ≡ true → Decides (folder_denied s (finite.get m p)) (λ v. (q : Path) → content_at v q ≡ begun [] s m p q) r
    → Decides (begun_denied t s m p) (λ v. (q : Path) → content_at v q ≡ begun t s m p q) r
begun_root s m p [] r e h = h
begun_root s m p (n ∷ t) r e h = absurd cc

pub begun_named : (s : Shown) (m : PathMap) (p t : Path) (r : Result PathMap Stop) → same_path t [] ≡ false
    → Decides (cond (is_none (finite.get m p)) None (placing_denied bare t m p s)) (λ v. (q : Path) → content_at v q ≡ cond (is_none (finite.get m p)) bare (placed bare t (brought s m p)) q) r
    → Decides (begun_denied t s m p) (λ v. (q : Path) → content_at v q ≡ begun t s m p q) r
begun_named s m p [] r e h = absurd cc
begun_named s m p (n ∷ t) r e h = h

is_bare : (r : PathMap) → ((q : Path) → finite.get r q ≡ alone new_dir q) → content_at r ≡ bare
is_bare r h = same_known (content_at r) bare (λ q. ap (option_map content) (h q))

-- nothing stands there
pub nothing_begun : (s : Shown) (m : PathMap) (p t : Path) (d : Option Denial) (r : PathMap) → is_none (finite.get m p) ≡ true → ((q : Path) → finite.get r q ≡ alone new_dir q)
    → (cond (is_none (finite.get m p)) None d ≡ None) × ((q : Path) → content_at r q ≡ cond (is_none (finite.get m p)) bare (placed bare t (brought s m p)) q)
nothing_begun s m p t d r n h = (ap (λ b. cond b None d) n, λ q. ap (option_map content) (h q) ∙ ap (λ b. cond b bare (placed bare t (brought s m p)) q) (sym n))

pub target_begun : (s : Shown) (m : PathMap) (p t : Path) (old : PathMap) (r : Result PathMap Stop) → is_none (finite.get m p) ≡ false → ((q : Path) → finite.get old q ≡ alone new_dir q)
    → Decides (placing_denied (content_at old) t m p s) (λ v. (q : Path) → content_at v q ≡ placed (content_at old) t (brought s m p) q) r
    → Decides (cond (is_none (finite.get m p)) None (placing_denied bare t m p s)) (λ v. (q : Path) → content_at v q ≡ cond (is_none (finite.get m p)) bare (placed bare t (brought s m p)) q) r
target_begun s m p t old r n h d =
    subst (λ b. Decides (cond b None (placing_denied bare t m p s)) (λ v. (q : Path) → content_at v q ≡ cond b bare (placed bare t (brought s m p)) q) r) (sym n)
    (subst (λ k. Decides (placing_denied k t m p s) (λ v. (q : Path) → content_at v q ≡ placed k t (brought s m p) q) r) (is_bare old h) d)
