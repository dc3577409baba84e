-- Paths that a report's commands set.
use Rattle.std.proofs.Common.{◌≡◌, ℕ, Bool, true, false, not, List, [], ◌∷◌, ◌++◌, Option, Some, None, is_some, is_none, Result, Ok, Err, refl, sym, ap, subst, ◌∙◌, cond, arith}
use Rattle.std.specs.Option.{option_map, option_map_or, option_or}
use Rattle.std.specs.FinMap as finite
use Rattle.node_base.specs.Limits.{fits}
use Rattle.node_base.specs.Path.{Path, same_path}
use Rattle.node_base.specs.Tree.{PathMap, blocked}
use Rattle.node_base.specs.declared.fault.TreeFault.{TreeFault}
use Rattle.node_base.specs.declared.fault.TreeFault.TheVariants.{NoSuchPath, NotDir}
use Rattle.node_base.specs.declared.node.Node.{Node}
use Rattle.path_tree.specs.Copies.{copy_too_long}
use Rattle.dump_load.specs.Faults.{fault_if}
use Rattle.tree_reports.specs.Applied.{content}
use Rattle.tree_reports.specs.Reports.{Answers, content_at, due, placed}
use Rattle.tree_reports.specs.declared.error.ReportError.{ReportError}
use Rattle.tree_reports.specs.declared.error.ReportError.TheVariants as error
use Rattle.browse_wire.specs.Reports.{Reported, SetPath, DeletePath, LinkPath, report_as}
use Rattle.browse_wire.specs.Urls.{Url, url_read}
use Rattle.browse_wire.specs.declared.report.ReportCommand.{ReportCommand}
use Rattle.repo_core.specs.Repository.{Repository}
use Rattle.ra_serve.specs.Ports as port
use Rattle.ra_serve.specs.Ports.{tree_of}
use Rattle.ra_denial.specs.Denials.{no_revision}
use Rattle.ra_denial.specs.Places.{url_denied, moved_to}
use Rattle.ra_denial.specs.Stops.{Comes, Decides, Denies}
use Rattle.ra_denial.specs.declared.denial.Denial.{Denial}
use Rattle.ra_denial.specs.declared.denial.Denial.TheVariants as denial
use Rattle.ra_denial.specs.declared.stop.Stop.{Stop}
use Rattle.ra_denial.specs.declared.stop.Stop.TheVariants as stop
use Rattle.ra_denial.proofs.Causes.{is_there}
use Rattle.ra_report.specs.Reports.{Having, having, heeded, heeded_denied, is_blocked, is_void, links_denied, lying, placing_denied, shown_fault, source_denied, switched, with_source, next, next_denied, error_stop, voided, void_denied}
use Rattle.ra_report.specs.Shown.{Known, brought, shown_of}
use Rattle.ra_report.specs.declared.shown.Shown.{Shown}
use Rattle.ra_report.specs.declared.shown.Shown.TheVariants as shown
use Rattle.ra_report.specs.declared.switched.Switched.{Switched}
use Rattle.ra_report.proofs.Calls.{decides_comes, then_comes, then_decides}
use Rattle.ra_report.proofs.Later.{same_having}

-- ---- why a path isn't taken

abbrev denial_of : ReportError → Denial
denial_of error.Root = denial.BadReport
denial_of error.NoFolder = denial.BadReport
denial_of error.NotThere = denial.NoPath
denial_of error.TooLong = denial.Unsupported
denial_of error.OutOfMemory = denial.Unsupported

pub blocked_is : (f : Path → Option Node) (p : Path) → is_some (blocked f p) ≡ is_blocked (λ q. option_map content (f q)) p
blocked_is f [] = refl
blocked_is f (n ∷ p) = by (f []) (blocked_is (λ q. f (n ∷ q)) p)
  where
    by : (o : Option Node) → is_some (blocked (λ q. f (n ∷ q)) p) ≡ is_blocked (λ q. option_map content (f (n ∷ q))) p
        → is_some (option_map_or (λ x. cond (is_some x.text) (Some NotDir) (blocked (λ q. f (n ∷ q)) p)) o (Some NoSuchPath)) ≡ option_map_or (λ c. cond (is_some c.text) true (is_blocked (λ q. option_map content (f (n ∷ q))) p)) (option_map content o) true
    by None e = refl
    by (Some x) e = elim (is_some x.text) as (λ b. is_some (cond b (Some NotDir) (blocked (λ q. f (n ∷ q)) p)) ≡ cond b true (is_blocked (λ q. option_map content (f (n ∷ q))) p)) [ true ↦ refl | false ↦ e ]

faults_denied : (a b c d : Bool) (o : Option TreeFault) → is_some o ≡ b
    → option_map denial_of (option_or (due a error.Root) (option_or (option_map (λ _. error.NoFolder) o) (option_or (due c error.NotThere) (due d error.TooLong)))) ≡ option_or (fault_if a denial.BadReport) (option_or (fault_if b denial.BadReport) (option_or (fault_if c denial.NoPath) (fault_if d denial.Unsupported)))
faults_denied true b c d o e = refl
faults_denied false b c d (Some f) e = ap (λ v. option_or (fault_if v denial.BadReport) (option_or (fault_if c denial.NoPath) (fault_if d denial.Unsupported))) e
faults_denied false b true d None e = ap (λ v. option_or (fault_if v denial.BadReport) (Some denial.NoPath)) e
faults_denied false b false true None e = ap (λ v. option_or (fault_if v denial.BadReport) (Some denial.Unsupported)) e
faults_denied false b false false None e = ap (λ v. option_or (fault_if v denial.BadReport) None) e

no_second : (d : Option Denial) → option_or d None ≡ d
no_second None = refl
no_second (Some w) = refl

left_denied : (a b : Bool) (o : Option TreeFault) → is_some o ≡ b → option_map denial_of (option_or (due a error.Root) (option_map (λ _. error.NoFolder) o)) ≡ option_or (fault_if a denial.BadReport) (option_or (fault_if b denial.BadReport) None)
left_denied true b o e = refl
left_denied false b (Some f) e = ap (λ v. option_or (fault_if v denial.BadReport) None) e
left_denied false b None e = ap (λ v. option_or (fault_if v denial.BadReport) None) e

placing_is : (m : PathMap) (p : Path) (from : PathMap) (source : Path) (s : Shown) → option_map denial_of (shown_fault s m p from source) ≡ placing_denied (content_at m) p from source s
placing_is m p from source shown.Emptied =
    faults_denied (same_path p []) (is_blocked (content_at m) p) (is_none (finite.get from source)) false (blocked (finite.get m) p) (blocked_is (finite.get m) p)
    ∙ ap (λ o. option_or (fault_if (same_path p []) denial.BadReport) (option_or (fault_if (is_blocked (content_at m) p) denial.BadReport) o)) (no_second (fault_if (is_none (finite.get from source)) denial.NoPath))
placing_is m p from source (shown.Within d) = faults_denied (same_path p []) (is_blocked (content_at m) p) (is_none (finite.get from source)) (copy_too_long from source p) (blocked (finite.get m) p) (blocked_is (finite.get m) p)
placing_is m p from source shown.LeftOut = left_denied (same_path p []) (is_blocked (content_at m) p) (blocked (finite.get m) p) (blocked_is (finite.get m) p)

-- ---- what the call for one came to

none_due : (o : Option ReportError) (u : Unit {0}) → Answers o (Ok u) → o ≡ None
none_due None u a = refl
none_due (Some f) u a = absurd cc

same_error : (f : ReportError) → Denies (Some (denial_of f)) (error_stop f)
same_error error.Root = refl
same_error error.NoFolder = refl
same_error error.NotThere = refl
same_error error.TooLong = refl
same_error error.OutOfMemory = tt

error_of : (e f : ReportError) → ◌≡◌ {A = Result (Unit {0}) ReportError} (Err e) (Err f) → f ≡ e
error_of e f h = cc

error_denies : (o : Option ReportError) (e : ReportError) → Answers o (Err e) → Denies (option_map denial_of o) (error_stop e)
error_denies None e a = subst (λ f. Denies None (error_stop f)) (sym a) tt
error_denies (Some f) e a = subst (λ g. Denies (Some (denial_of f)) (error_stop g)) (error_of e f a) (same_error f)

-- a path was taken
pub taken_none : (m : PathMap) (p : Path) (from : PathMap) (source : Path) (s : Shown) (u : Unit {0}) → Answers (shown_fault s m p from source) (Ok u) → placing_denied (content_at m) p from source s ≡ None
taken_none m p from source s u a = sym (placing_is m p from source s) ∙ ap (option_map denial_of) (none_due (shown_fault s m p from source) u a)

pub taken_denies : (m : PathMap) (p : Path) (from : PathMap) (source : Path) (s : Shown) (e : ReportError) → Answers (shown_fault s m p from source) (Err e) → Denies (placing_denied (content_at m) p from source s) (error_stop e)
taken_denies m p from source s e a = subst (λ o. Denies o (error_stop e)) (placing_is m p from source s) (error_denies (shown_fault s m p from source) e a)

-- a path was deleted
root_is : (b : Bool) → option_map denial_of (due b error.Root) ≡ fault_if b denial.BadReport
root_is true = refl
root_is false = refl

pub deleted_none : (b : Bool) (u : Unit {0}) → Answers (due b error.Root) (Ok u) → fault_if b denial.BadReport ≡ None
deleted_none b u a = sym (root_is b) ∙ ap (option_map denial_of) (none_due (due b error.Root) u a)

pub deleted_denies : (b : Bool) (e : ReportError) → Answers (due b error.Root) (Err e) → Denies (fault_if b denial.BadReport) (error_stop e)
deleted_denies b e a = subst (λ o. Denies o (error_stop e)) (root_is b) (error_denies (due b error.Root) e a)

pub shown_comes : (old : Known) (p : Path) (tree : PathMap) (source : Path) (s t : Shown) (new : Known) (r : Result (Unit {0}) Stop) → s ≡ t
    → Decides (placing_denied old p tree source s) (λ _. (q : Path) → new q ≡ placed old p (brought s tree source) q) r
    → Decides (placing_denied old p tree source t) (λ _. (q : Path) → new q ≡ placed old p (brought t tree source) q) r
shown_comes old p tree source s t new r e d = subst (λ v. Decides (placing_denied old p tree source v) (λ _. (q : Path) → new q ≡ placed old p (brought v tree source) q) r) e d

-- ---- of a source in a revision

pub source_comes : (x : Repository) (old : Known) (r : Reported) (source : Path) (tree : PathMap) (new : Known) (k m : ℕ) (result : Result (Unit {0}) Stop) → port.no_revision x r.revision ≡ None → tree ≡ tree_of x r.revision
    → Decides (placing_denied old r.path tree source (shown_of r)) (λ _. (q : Path) → new q ≡ placed old r.path (brought (shown_of r) tree source) q) result
    → Comes k m (source_denied x old r source) (λ _. (q : Path) → new q ≡ with_source x old r source q) result
source_comes x old r source tree new k m result h t d =
    then_decides k m (no_revision x r.revision) (placing_denied old r.path (tree_of x r.revision) source (shown_of r)) (λ _. (q : Path) → new q ≡ with_source x old r source q) (λ _. (q : Path) → new q ≡ with_source x old r source q) result (is_there x r.revision h) (λ u i. i)
    (subst (λ v. Decides (placing_denied old r.path v source (shown_of r)) (λ _. (q : Path) → new q ≡ placed old r.path (brought (shown_of r) v source) q) result) t d)

-- ---- of a command

-- what is known behind it, and what is switched
comes_as : {A : Type 0} (k m : ℕ) (d : Option Denial) (Is Also : A → Type 0) (r : Result A Stop) → ((a : A) → Is a → Also a) → Comes k m d Is r → Comes k m d Also r
comes_as k m d Is Also (Ok a) f h = (h.0, f a h.1)
comes_as k m d Is Also (Err s) f h = h

pub known_comes : (new known : Known) (ss : List Switched) (k m : ℕ) (d : Option Denial) (r : Result (Unit {0}) Stop) → Comes k m d (λ _. (q : Path) → new q ≡ known q) r → Comes k m d (λ _. having new ss ≡ having known ss) r
known_comes new known ss k m d r h = comes_as k m d (λ _. (q : Path) → new q ≡ known q) (λ _. having new ss ≡ having known ss) r (λ u i. same_having new known ss ss i refl) h

-- a path as it stands where it lies
pub set_comes : (x : Repository) (at : Url) (h : Having) (r : Reported) (source : Path) (new : Known) (k m : ℕ) (result : Result (Unit {0}) Stop) → fault_if (not (fits (lying at h r.path))) denial.NoPath ≡ None → source ≡ lying at h r.path
    → Comes k m (source_denied x h.known r source) (λ _. (q : Path) → new q ≡ with_source x h.known r source q) result
    → Comes k m (next_denied x at h (SetPath r)) (λ _. having new h.switches ≡ next x at h (SetPath r)) result
set_comes x at h r source new k m result small e is =
    let place = lying at h r.path in
    let Is : Unit {0} → Type 0 = λ _. having new h.switches ≡ having (with_source x h.known r place) h.switches in
    then_comes k k m (fault_if (not (fits place)) denial.NoPath) (source_denied x h.known r place) Is Is result (omega arith) small (λ u i. i)
    (known_comes new (with_source x h.known r place) h.switches k m (source_denied x h.known r place) result (subst (λ s. Comes k m (source_denied x h.known r s) (λ _. (q : Path) → new q ≡ with_source x h.known r s q) result) e is))

-- a path as it stands at another URL
pub link_comes : (x : Repository) (at : Url) (h new : Having) (r : Reported) (url : List ℕ) (source : Path) (k m : ℕ) (result : Result (Unit {0}) Stop) → links_denied h.switches ≡ None → url_denied at (url_read url) ≡ None → source ≡ (moved_to at (url_read url)).1
    → Comes k m (source_denied x h.known r source) (λ _. new ≡ having (with_source x h.known r source) (h.switches ++ switched r.path source ∷ [])) result
    → Comes k m (next_denied x at h (LinkPath r url)) (λ _. new ≡ next x at h (LinkPath r url)) result
link_comes x at h new r url source k m result all there e is =
    let place = (moved_to at (url_read url)).1 in
    let Is : Unit {0} → Type 0 = λ _. new ≡ having (with_source x h.known r place) (h.switches ++ switched r.path place ∷ []) in
    then_comes k k m (links_denied h.switches) (option_or (url_denied at (url_read url)) (source_denied x h.known r place)) Is Is result (omega arith) all (λ u i. i)
    (
    then_comes k k m (url_denied at (url_read url)) (source_denied x h.known r place) Is Is result (omega arith) there (λ u i. i)
    (subst (λ s. Comes k m (source_denied x h.known r s) (λ _. new ≡ having (with_source x h.known r s) (h.switches ++ switched r.path s ∷ [])) result) e is)
    )

-- a path that goes
pub delete_comes : (x : Repository) (at : Url) (h : Having) (p : Path) (new : Known) (k m : ℕ) (result : Result (Unit {0}) Stop) → Decides (fault_if (same_path p []) denial.BadReport) (λ _. (q : Path) → new q ≡ placed h.known p (λ _. None) q) result
    → Comes k m (next_denied x at h (DeletePath p)) (λ _. having new h.switches ≡ next x at h (DeletePath p)) result
delete_comes x at h p new k m result d =
    known_comes new (placed h.known p (λ _. None)) h.switches k m (fault_if (same_path p []) denial.BadReport) result (decides_comes k m (fault_if (same_path p []) denial.BadReport) (λ _. (q : Path) → new q ≡ placed h.known p (λ _. None) q) result d)

-- a switched path more
pub switch_comes : (known new : Known) (ss now : List Switched) (s : Switched) (d : Option Denial) (k m : ℕ) (result : Result (Unit {0}) Stop) → d ≡ None → ((q : Path) → new q ≡ known q) → Decides None (λ _. now ≡ ss ++ s ∷ []) result
    → Comes k m d (λ _. having new now ≡ having known (ss ++ s ∷ [])) result
switch_comes known new ss now s d k m (Ok u) e is a = (e, same_having new known now (ss ++ s ∷ []) is a.1)
switch_comes known new ss now s d k m (Err (stop.Denied w)) e is a = absurd cc
switch_comes known new ss now s d k m (Err (stop.Port f)) e is a = absurd a
switch_comes known new ss now s d k m (Err stop.OutOfMemory) e is a = tt

pub taken_as : (x : Repository) (at : Url) (old new : Having) (c d : ReportCommand) (k m : ℕ) (r : Result (Unit {0}) Stop) → c ≡ d
    → Comes k m (next_denied x at old (report_as d)) (λ _. new ≡ next x at old (report_as d)) r
    → Comes k m (next_denied x at old (report_as c)) (λ _. new ≡ next x at old (report_as c)) r
taken_as x at old new c d k m r e h = subst (λ v. Comes k m (next_denied x at old (report_as v)) (λ _. new ≡ next x at old (report_as v)) r) (sym e) h

-- ---- below a target that isn't there

-- a link says where what is wanted stands
pub passed_link : (d e : Option Denial) (ss now : List Switched) (s t : Switched) (result : Result (Unit {0}) Stop) → d ≡ None → e ≡ None → s ≡ t → Decides None (λ _. now ≡ ss ++ s ∷ []) result
    → Decides (option_or d e) (λ _. now ≡ ss ++ t ∷ []) result
passed_link d e ss now s t (Ok u) h k i a = (ap (λ o. option_or o e) h ∙ k, a.1 ∙ ap (λ v. ss ++ v ∷ []) i)
passed_link d e ss now s t (Err (stop.Denied w)) h k i a = absurd cc
passed_link d e ss now s t (Err (stop.Port f)) h k i a = absurd a
passed_link d e ss now s t (Err stop.OutOfMemory) h k i a = tt

pub passed_over : (x : Repository) (at : Url) (t : Path) (known : Known) (ss now : List Switched) (c : ReportCommand) (k : ℕ) (result : Result (Unit {0}) Stop) → is_void t known (report_as c) ≡ true
    → Decides (void_denied at ss (report_as c)) (λ _. now ≡ voided at ss (report_as c)) result
    → Comes k k (heeded_denied x at t (having known ss) (report_as c)) (λ _. having known now ≡ heeded x at t (having known ss) (report_as c)) result
passed_over x at t known ss now c k result e d =
    let h = having known ss in
    subst (λ b. Comes k k (cond b (void_denied at ss (report_as c)) (next_denied x at h (report_as c))) (λ _. having known now ≡ cond b (having known (voided at ss (report_as c))) (next x at h (report_as c))) result) (sym e)
    (
    comes_as k k (void_denied at ss (report_as c)) (λ _. now ≡ voided at ss (report_as c)) (λ _. having known now ≡ having known (voided at ss (report_as c))) result (λ u i. ap (having known) i)
    (decides_comes k k (void_denied at ss (report_as c)) (λ _. now ≡ voided at ss (report_as c)) result d)
    )

-- another command counts
pub heeded_as : (x : Repository) (at : Url) (t : Path) (h new : Having) (c : ReportCommand) (k m : ℕ) (result : Result (Unit {0}) Stop) → is_void t h.known (report_as c) ≡ false
    → Comes k m (next_denied x at h (report_as c)) (λ _. new ≡ next x at h (report_as c)) result
    → Comes k m (heeded_denied x at t h (report_as c)) (λ _. new ≡ heeded x at t h (report_as c)) result
heeded_as x at t h new c k m result e d =
    subst (λ b. Comes k m (cond b (void_denied at h.switches (report_as c)) (next_denied x at h (report_as c))) (λ _. new ≡ cond b (having h.known (voided at h.switches (report_as c))) (next x at h (report_as c))) result) (sym e) d
