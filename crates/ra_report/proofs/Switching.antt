-- Paths that stand as other URLs', one after another.
use Rattle.std.proofs.Common.{◌≡◌, ℕ, ◌+◌, ◌≤◌, ◌<◌, Bool, true, false, not, ◌&&◌, List, [], ◌∷◌, ◌++◌, drop, length, get_or, Option, Some, None, is_some, is_none, Result, refl, sym, ap, subst, ◌∙◌, cond}
use Rattle.std.specs.Option.{option_map_or}
use Rattle.std.specs.FinMap as finite
use Rattle.node_base.specs.Limits.{fits}
use Rattle.node_base.specs.Path.{Path, rest_after, same_path}
use Rattle.node_base.specs.Tree.{PathMap, blocked, grafted}
use Rattle.node_base.specs.declared.fault.TreeFault.{TreeFault}
use Rattle.node_base.specs.declared.node.Node.{Node}
use Rattle.path_tree.specs.Copies.{copy_too_long}
use Rattle.dump_load.specs.Faults.{fault_if}
use Rattle.ra_denial.specs.Stops.{Decides, Denies}
use Rattle.ra_denial.specs.declared.denial.Denial.TheVariants as denial
use Rattle.ra_denial.specs.declared.stop.Stop.{Stop}
use Rattle.ra_report.specs.Switches.{lies, is_open, with_switch, with_switches, switch_denied, switches_denied}
use Rattle.ra_report.specs.declared.switched.Switched.{Switched}
use Rattle.ra_report.proofs.Calls.{first_denies, only_second}
use Rattle.ra_report.proofs.Later.{drop_all, next_of}

-- ---- one of them

pub root_closed : (w : Path → Option Node) (p : Path) → same_path p [] ≡ true → is_open w p ≡ false
root_closed w p e = ap (λ b. not b && is_none (blocked w p)) e

pub blocked_closed : (w : Path → Option Node) (p : Path) → is_some (blocked w p) ≡ true → is_open w p ≡ false
blocked_closed w p e = by (not (same_path p [])) (blocked w p) e
  where
    by : (b : Bool) (o : Option TreeFault) → is_some o ≡ true → (b && is_none o) ≡ false
    by true None e = absurd cc
    by true (Some f) e = refl
    by false o e = refl

pub opened : (w : Path → Option Node) (p : Path) → same_path p [] ≡ false → is_some (blocked w p) ≡ false → is_open w p ≡ true
opened w p e f = ap (λ b. not b && is_none (blocked w p)) e ∙ by (blocked w p) f
  where
    by : (o : Option TreeFault) → is_some o ≡ false → is_none o ≡ true
    by None e = refl
    by (Some g) e = absurd cc

pub not_put : (w : PathMap) (m : PathMap) (s : Switched) → is_open (finite.get w) s.path ≡ false → (switch_denied (finite.get w) m s ≡ None) × ((q : Path) → finite.get w q ≡ with_switch (finite.get w) m s q)
not_put w m s e = (ap (λ b. fault_if (b && copy_too_long m s.place s.path) denial.Unsupported) e, λ q. ap (λ b. cond b (grafted (finite.get w) s.path (λ r. finite.get m (s.place ++ r))) (finite.get w) q) (sym e))

pub root_not_put : (w : PathMap) (m : PathMap) (s : Switched) → same_path s.path [] ≡ true → (switch_denied (finite.get w) m s ≡ None) × ((q : Path) → finite.get w q ≡ with_switch (finite.get w) m s q)
root_not_put w m s e = not_put w m s (root_closed (finite.get w) s.path e)

pub blocked_not_put : (w : PathMap) (m : PathMap) (s : Switched) → is_some (blocked (finite.get w) s.path) ≡ true → (switch_denied (finite.get w) m s ≡ None) × ((q : Path) → finite.get w q ≡ with_switch (finite.get w) m s q)
blocked_not_put w m s e = not_put w m s (blocked_closed (finite.get w) s.path e)

pub too_long_put : (w : PathMap) (m : PathMap) (s : Switched) → same_path s.path [] ≡ false → is_some (blocked (finite.get w) s.path) ≡ false → copy_too_long m s.place s.path ≡ true → switch_denied (finite.get w) m s ≡ Some denial.Unsupported
too_long_put w m s e f h = ap (λ b. fault_if (b && copy_too_long m s.place s.path) denial.Unsupported) (opened (finite.get w) s.path e f) ∙ ap (λ b. fault_if b denial.Unsupported) h

pub open_put : (w : PathMap) (m : PathMap) (s : Switched) (new : PathMap) → same_path s.path [] ≡ false → is_some (blocked (finite.get w) s.path) ≡ false → copy_too_long m s.place s.path ≡ false → ((q : Path) → finite.get new q ≡ grafted (finite.get w) s.path (λ r. finite.get m (s.place ++ r)) q) → (switch_denied (finite.get w) m s ≡ None) × ((q : Path) → finite.get new q ≡ with_switch (finite.get w) m s q)
open_put w m s new e f h is =
    let o = opened (finite.get w) s.path e f in
    (ap (λ b. fault_if (b && copy_too_long m s.place s.path) denial.Unsupported) o ∙ ap (λ b. fault_if b denial.Unsupported) h, λ q. is q ∙ ap (λ b. cond b (grafted (finite.get w) s.path (λ r. finite.get m (s.place ++ r))) (finite.get w) q) (sym o))

-- ---- all of them

-- what is left of some comes to what they all do
pub record ArePut (w : Path → Option Node) (m : PathMap) (left : List Switched) (first : Path → Option Node) (all : List Switched) : Type 0 where
  pub denied : switches_denied w m left ≡ switches_denied first m all
  pub wants : with_switches w m left ≡ with_switches first m all

pub one_put : (m old new first : PathMap) (rest : List Switched) (i : ℕ) (s : Switched) (all : List Switched) → i < length rest → s ≡ get_or rest i s → switch_denied (finite.get old) m s ≡ None → ((q : Path) → finite.get new q ≡ with_switch (finite.get old) m s q) → ArePut (finite.get old) m (drop i rest) (finite.get first) all → ArePut (finite.get new) m (drop (i + 1) rest) (finite.get first) all
one_put m old new first rest i s all h e d n l =
    let left = drop (i + 1) rest in
    let was : ArePut (finite.get old) m (s ∷ left) (finite.get first) all = subst (λ r. ArePut (finite.get old) m r (finite.get first) all) (next_of rest i s h e) l in
    let same : finite.get new ≡ with_switch (finite.get old) m s = λ j q. n q j in
    record {
      denied = ap (λ f. switches_denied f m left) same ∙ sym (only_second (switch_denied (finite.get old) m s) (switches_denied (with_switch (finite.get old) m s) m left) d) ∙ was.denied;
      wants = ap (λ f. with_switches f m left) same ∙ was.wants;
    }

pub put_stops : (m old first : PathMap) (rest : List Switched) (i : ℕ) (s : Switched) (all : List Switched) (stop : Stop) → i < length rest → s ≡ get_or rest i s → Denies (switch_denied (finite.get old) m s) stop → ArePut (finite.get old) m (drop i rest) (finite.get first) all → Denies (switches_denied (finite.get first) m all) stop
put_stops m old first rest i s all stop h e d l =
    let left = drop (i + 1) rest in
    let was : ArePut (finite.get old) m (s ∷ left) (finite.get first) all = subst (λ r. ArePut (finite.get old) m r (finite.get first) all) (next_of rest i s h e) l in
    subst (λ o. Denies o stop) was.denied (first_denies (switch_denied (finite.get old) m s) (switches_denied (with_switch (finite.get old) m s) m left) stop d)

pub all_put : (m new first : PathMap) (rest : List Switched) (i : ℕ) (all : List Switched) → length rest ≤ i → ArePut (finite.get new) m (drop i rest) (finite.get first) all → (switches_denied (finite.get first) m all ≡ None) × ((q : Path) → finite.get new q ≡ with_switches (finite.get first) m all q)
all_put m new first rest i all h l =
    let e : ArePut (finite.get new) m [] (finite.get first) all = subst (λ r. ArePut (finite.get new) m r (finite.get first) all) (drop_all rest i h) l in
    (sym e.denied, λ q. ap (λ (f : Path → Option Node). f q) e.wants)

-- ---- where a path lies

pub one_lies : (q at new last : Path) (rest : List Switched) (i : ℕ) (s : Switched) → i < length rest → s ≡ get_or rest i s → new ≡ option_map_or (λ r. s.place ++ r) (rest_after s.path q) at → lies q at (drop i rest) ≡ last → lies q new (drop (i + 1) rest) ≡ last
one_lies q at new last rest i s h e n was = ap (λ a. lies q a (drop (i + 1) rest)) n ∙ sym (ap (lies q at) (next_of rest i s h e)) ∙ was

pub all_lie : (q at last : Path) (rest : List Switched) (i : ℕ) (r : Result Path Stop) → length rest ≤ i → lies q at (drop i rest) ≡ last
    → Decides (fault_if (not (fits at)) denial.NoPath) (λ p. p ≡ at) r → Decides (fault_if (not (fits last)) denial.NoPath) (λ p. p ≡ last) r
all_lie q at last rest i r h was d = subst (λ a. Decides (fault_if (not (fits a)) denial.NoPath) (λ p. p ≡ a) r) (sym (ap (lies q at) (drop_all rest i h)) ∙ was) d
