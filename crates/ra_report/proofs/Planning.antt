-- The plan of an edit, and what comes of it.
use Rattle.std.proofs.Common.{◌≡◌, ℕ, suc, ◌≤◌, map, take, inl, inr, Bool, true, false, List, [], Option, Some, None, is_none, Result, Ok, Err, refl, sym, ap, subst, ◌∙◌, arith}
use Rattle.std.specs.Prelude.{IfOk}
use Rattle.std.specs.Option.{option_or}
use Rattle.std.specs.FinMap as finite
use Rattle.std.specs.Io.KnownBytes.{Appends}
use Rattle.uuid.specs.Text.{hyphenated_text, lower}
use Rattle.fleet_disk.specs.Rules.{Rose}
use Rattle.node_base.specs.Path.{Path, same_path}
use Rattle.node_base.specs.declared.node.Node.{Node}
use Rattle.tree_reports.specs.Reports.{content_at}
use Rattle.tree_reports.specs.declared.depth.Depth.{Depth}
use Rattle.browse_wire.specs.Asks.{Ask}
use Rattle.browse_wire.specs.Reports.{Report}
use Rattle.browse_wire.specs.Urls.{Url}
use Rattle.repo_core.specs.Repository.{Repository}
use Rattle.ra_serve.specs.declared.fault.ServeFault.{ServeFault}
use Rattle.ra_serve.specs.Answers.{asked}
use Rattle.ra_serve.specs.Ports.{tree_of}
use Rattle.ra_denial.specs.Denials.{no_revision, unless_denied}
use Rattle.ra_denial.specs.Stops.{Comes, Decides, MayStop}
use Rattle.ra_denial.specs.Writing.{TellsStop}
use Rattle.ra_denial.specs.declared.denial.Denial.{Denial}
use Rattle.ra_denial.specs.declared.stop.Stop.{Stop}
use Rattle.ra_denial.specs.declared.stop.Stop.TheVariants as stop
use Rattle.ra_report.specs.Edits.{Edit, IsEdit, EditsIf, all_props, edit_denied, edit_told, report_denied, wanted_with}
use Rattle.ra_report.specs.Finishing.{Finished, Finishes}
use Rattle.ra_report.specs.Orders.{order_denied, place_denied, wanted_denied, wanted_in, revision_of, place_of, target_of, depth_of, keeps, IsOrder}
use Rattle.ra_report.specs.Plans.{AreKept, IsCopy, IsFullPlan, IsTrimmed, IsWanted, IsPlan, IsPlanned, IsPlanOf, IsEditOf, TellsPlan}
use Rattle.ra_report.specs.Reports.{Having, having, aimed, aims_denied, reports_denied, reported, base_of, whole_denied}
use Rattle.ra_report.specs.Shown.{Known}
use Rattle.ra_report.specs.Switches.{kept, switches_denied, with_switches}
use Rattle.ra_report.specs.Trimmed.{had, trimmed}
use Rattle.ra_report.specs.declared.order.Order.{Order}
use Rattle.ra_report.specs.declared.plan.Plan.{Plan}
use Rattle.ra_report.specs.declared.plan.Wanted.{Wanted}
use Rattle.ra_report.specs.declared.plan.WorkingCopy.{WorkingCopy}
use Rattle.ra_report.specs.declared.switched.Switched.{Switched}
use Rattle.ra_report.proofs.Calls.{first_alone, first_none, then_comes}

pub plan_ordered : (x : Repository) (at : Url) (c : Ask) (rs : List Report) (o : Order) (k m : ℕ) (r : Result Plan Stop) → order_denied at c ≡ None → IsOrder at c o
    → Comes k m (edit_denied x at o.revision o.path o.target o.keeps rs) (IsPlan x at o.revision o.path o.target o.depth o.keeps rs) r
    → Comes k m (report_denied x at c rs) (IsPlan x at (revision_of c) (place_of at c) (target_of c) (depth_of c) (keeps c) rs) r
plan_ordered x at c rs o k m r d i h =
    let Of : Option ℕ → Path → Path → Option Depth → Bool → Type 0 = λ n p t z b. Comes k m (edit_denied x at n p t b rs) (IsPlan x at n p t z b rs) r in
    let Is = IsPlan x at (revision_of c) (place_of at c) (target_of c) (depth_of c) (keeps c) rs in
    then_comes k k m (order_denied at c) (edit_denied x at (revision_of c) (place_of at c) (target_of c) (keeps c) rs) Is Is r (omega arith) d (λ p z. z)
    (subst (Of (revision_of c) (place_of at c) (target_of c) (depth_of c)) i.4 (subst (λ z. Of (revision_of c) (place_of at c) (target_of c) z o.keeps) i.3 (subst (λ t. Of (revision_of c) (place_of at c) t o.depth o.keeps) i.2 (subst (λ p. Of (revision_of c) p o.target o.depth o.keeps) i.1 (subst (λ n. Of n o.path o.target o.depth o.keeps) i.0 h)))))

-- ---- so much of it

rest_none : (d e : Option Denial) → option_or d e ≡ None → e ≡ None
rest_none None e h = h
rest_none (Some w) e h = absurd cc

none_aims : (x : Repository) (at : Url) (n : Option ℕ) (p t : Path) (b : Bool) (rs : List Report) → edit_denied x at n p t b rs ≡ None → aims_denied t rs ≡ None
none_aims x at n p t b rs d =
    let later = rest_none (wanted_denied x n p t) (option_or (reports_denied x at t rs) (switches_denied (wanted_in x n p t) (tree_of x (asked x n)) (kept b (reported x at t rs).switches))) d in
    first_none (aims_denied t rs) (whole_denied x at t (map (aimed t) rs)) (first_none (reports_denied x at t rs) (switches_denied (wanted_in x n p t) (tree_of x (asked x n)) (kept b (reported x at t rs).switches)) later)

pub plan_trimmed : (x : Repository) (at : Url) (n : Option ℕ) (p t : Path) (z : Option Depth) (b : Bool) (rs : List Report) (full : Plan) (k m : ℕ) (r : Result Plan Stop) → edit_denied x at n p t b rs ≡ None → IsFullPlan x at n p t b rs full
    → Decides (aims_denied t rs) (IsTrimmed z t rs full) r → Comes k m (edit_denied x at n p t b rs) (IsPlan x at n p t z b rs) r
plan_trimmed x at n p t z b rs full k m (Ok v) d i h = (d, record { full = full; planned = i; trimmed = h.1 })
plan_trimmed x at n p t z b rs full k m (Err (stop.Denied w)) d i h = absurd (no_more (aims_denied t rs) (none_aims x at n p t b rs d) h)
  where
    no_more : (o : Option Denial) → o ≡ None → o ≡ Some w → ⊥
    no_more None e s = cc
    no_more (Some v) e s = cc
plan_trimmed x at n p t z b rs full k m (Err (stop.Port f)) d i h = absurd h
plan_trimmed x at n p t z b rs full k m (Err stop.OutOfMemory) d i h = tt

-- what is wanted, and what of it is denied
pub plan_wanted : (x : Repository) (at : Url) (n : Option ℕ) (p t : Path) (b : Bool) (rs : List Report) (w : Wanted) (k m l : ℕ) (r : Result Plan Stop) → k ≤ m → wanted_denied x n p t ≡ None → IsWanted x n (wanted_in x n p t) w
    → Comes m l (option_or (reports_denied x at t rs) (option_or (switches_denied (finite.get w.tree) w.whole (kept b (reported x at t rs).switches)) (no_revision x w.number))) (IsPlanOf x (reported x at t rs) (base_of rs) b (same_path t []) w) r
    → Comes k l (edit_denied x at n p t b rs) (IsFullPlan x at n p t b rs) r
plan_wanted x at n p t b rs w k m l r h d i c =
    let there : no_revision x w.number ≡ None = ap (no_revision x) i.number ∙ first_none (no_revision x (asked x n)) (place_denied (tree_of x (asked x n)) p t) d in
    let tree : finite.get w.tree ≡ wanted_in x n p t = λ j q. i.tree q j in
    let ss = kept b (reported x at t rs).switches in
    let denied = switches_denied (wanted_in x n p t) (tree_of x (asked x n)) ss in
    let same : switches_denied (finite.get w.tree) w.whole ss ≡ denied = ap (λ f. switches_denied f w.whole ss) tree ∙ ap (λ v. switches_denied (wanted_in x n p t) v ss) i.whole in
    let alike : with_switches (finite.get w.tree) w.whole ss ≡ wanted_with x n p t b (reported x at t rs) = ap (λ f. with_switches f w.whole ss) tree ∙ ap (λ v. with_switches (wanted_in x n p t) v ss) i.whole in
    let Of = IsPlanOf x (reported x at t rs) (base_of rs) b (same_path t []) w in
    then_comes k m l (wanted_denied x n p t) (option_or (reports_denied x at t rs) denied) Of (IsFullPlan x at n p t b rs) r h d
    (λ a e. record {
      wants = record { number = e.wants.number ∙ i.number; tree = λ q. e.wants.tree q ∙ ap (λ (f : Path → Option Node). f q) alike; whole = e.wants.whole ∙ i.whole };
      has = e.has;
      tells_root = e.tells_root;
      identity = e.identity;
      revisions = e.revisions;
    })
    (
    subst (λ o. Comes m l (option_or (reports_denied x at t rs) o) Of r) (first_alone denied (no_revision x w.number) there)
    (subst (λ o. Comes m l (option_or (reports_denied x at t rs) (option_or o (no_revision x w.number))) Of r) same c)
    )

-- what is reported
pub plan_reported : (x : Repository) (h : Having) (base : Option ℕ) (b told : Bool) (w : Wanted) (copy : WorkingCopy) (d : Option Denial) (k m l : ℕ) (r : Result Plan Stop) → k ≤ m → d ≡ None → IsCopy h base copy
    → Comes m l (option_or (switches_denied (finite.get w.tree) w.whole (kept b copy.switches.items)) (no_revision x w.number)) (IsPlanOf x (having (content_at copy.report) copy.switches.items) (Some copy.base) b told w) r
    → Comes k l (option_or d (option_or (switches_denied (finite.get w.tree) w.whole (kept b h.switches)) (no_revision x w.number))) (IsPlanOf x h base b told w) r
plan_reported x h base b told w copy d k m l r less e i c =
    let Of : Having → Option ℕ → Type 0 = λ v n. Comes m l (option_or (switches_denied (finite.get w.tree) w.whole (kept b v.switches)) (no_revision x w.number)) (IsPlanOf x v n b told w) r in
    then_comes k m l d (option_or (switches_denied (finite.get w.tree) w.whole (kept b h.switches)) (no_revision x w.number)) (IsPlanOf x h base b told w) (IsPlanOf x h base b told w) r less e (λ a z. z)
    (subst (Of h) i.base_is (subst (λ v. Of v (Some copy.base)) i.has c))

-- what stays switched
pub plan_kept : (x : Repository) (ss : List Switched) (b told root : Bool) (w new : Wanted) (copy : WorkingCopy) (d : Option Denial) (k m : ℕ) (r : Result Plan Stop) → d ≡ None → ss ≡ kept b copy.switches.items → AreKept ss w new → root ≡ told
    → Comes k m (no_revision x new.number) (IsPlanned x new copy root) r
    → Comes k m (option_or d (no_revision x w.number)) (IsPlanOf x (having (content_at copy.report) copy.switches.items) (Some copy.base) b told w) r
plan_kept x ss b told root w new copy d k m r e s a y c =
    then_comes k k m d (no_revision x w.number) (IsPlanned x new copy root) (IsPlanOf x (having (content_at copy.report) copy.switches.items) (Some copy.base) b told w) r (omega arith) e
    (λ p i. record {
      wants = subst (AreKept (kept b copy.switches.items) w) (sym i.0) (subst (λ z. AreKept z w new) s a);
      has = subst (IsCopy (having (content_at copy.report) copy.switches.items) (Some copy.base)) (sym i.1) (record { has = refl; base_is = refl });
      tells_root = i.4 ∙ y;
      identity = i.2;
      revisions = i.3 ∙ ap (λ (u : Wanted). take (suc u.number) (all_props x)) (sym i.0);
    })
    (subst (λ n. Comes k m (no_revision x n) (IsPlanned x new copy root) r) a.number c)

-- ---- the answer

is_edit : (x : Repository) (at : Url) (n : Option ℕ) (p t : Path) (z : Option Depth) (b : Bool) (rs : List Report) (v : Plan) (e : Edit) → IsPlan x at n p t z b rs v → IsEditOf v (hyphenated_text lower v.identity) e → IsEdit x at n p t z b rs e
is_edit x at n p t z b rs v e i o =
    let f = i.planned in
    let c = i.trimmed in
    let known : content_at i.full.copy.report ≡ (reported x at t rs).known = ap (λ (h : Having). h.known) f.has.has in
    let wants : finite.get i.full.wanted.tree ≡ wanted_with x n p t b (reported x at t rs) = λ j q. f.wants.tree q j in
    record {
      tells_root = o.tells_root ∙ c.tells_root ∙ f.tells_root;
      opens = o.opens ∙ c.opens;
      reports = λ q. ap (λ m. content_at m q) o.reported_is ∙ c.has q ∙ ap (λ (g : Path → Option Node). had z t rs g (content_at i.full.copy.report) q) wants ∙ ap (λ (k : Known). had z t rs (wanted_with x n p t b (reported x at t rs)) k q) known;
      wants = λ q. ap (λ m. finite.get m q) o.wanted_is ∙ c.wants q ∙ ap (λ (g : Path → Option Node). trimmed z t rs g q) wants;
      number = o.number ∙ c.number ∙ f.wants.number;
      base = o.base ∙ ap (λ m. Some m) c.base ∙ f.has.base_is;
      identity = o.identity_is ∙ ap (hyphenated_text lower) (c.identity ∙ f.identity);
      revisions = o.revisions ∙ c.revisions ∙ f.revisions ∙ ap (λ m. take (suc m) (all_props x)) f.wants.number;
      between = o.between;
      makes = o.makes;
    }

module _ (x : Repository) (at : Url) (c : Ask) (rs : List Report) where
  sent : (rose : Type 0) (before now : Option (List ℕ)) (is : Bool) (v : Plan) → report_denied x at c rs ≡ None → IsPlan x at (revision_of c) (place_of at c) (target_of c) (depth_of c) (keeps c) rs v → is ≡ true → TellsPlan v (hyphenated_text lower v.identity) edit_told before now → Finished x at c rs rose before now is
  sent rose before now is v d i k t = record {
    halt = None;
    edit = Some t.edit;
    has = subst (λ o. EditsIf (is_none o) x at c rs (Some t.edit)) (sym d) (is_edit x at (revision_of c) (place_of at c) (target_of c) (depth_of c) (keeps c) rs v t.edit i t.planned);
    lawful = tt;
    counted = inl tt;
    answer = k;
    bytes = subst (λ o. Appends before now (unless_denied o (edit_told t.edit))) (sym d) t.bytes;
  }

  stopped : (k n : ℕ) (before now : Option (List ℕ)) (is : Bool) (s : Stop) → MayStop k n (report_denied x at c rs) s → is ≡ false → TellsStop before now s → Finished x at c rs (Rose k n) before now is
  stopped k n before now is (stop.Denied w) m a t = record {
    halt = None;
    edit = None;
    has = subst (λ o. EditsIf (is_none o) x at c rs None) (sym m) refl;
    lawful = tt;
    counted = inl tt;
    answer = a;
    bytes = subst (λ o. Appends before now (unless_denied o [])) (sym m) t;
  }
  stopped k n before now is (stop.Port f) m a t = record {
    halt = Some f;
    edit = None;
    has = refl;
    lawful = m.0;
    counted = inr m.1;
    answer = a;
    bytes = t;
  }
  stopped k n before now is stop.OutOfMemory m a t = absurd t

pub finishes_sent : {P W : Type 0} (repository : P → Option Repository) (refusals : P → ℕ) (contents : W → Option (List ℕ)) (at : Url) (c : Ask) (rs : List Report) (old new : P) (out : W) (v : Plan) (result : Result (W × Bool) ServeFault)
    → ((x : Repository) → repository old ≡ Some x → (report_denied x at c rs ≡ None) × IsPlan x at (revision_of c) (place_of at c) (target_of c) (depth_of c) (keeps c) rs v)
    → IfOk result (λ r. (r.1 ≡ true) × TellsPlan v (hyphenated_text lower v.identity) edit_told (contents out) (contents r.0))
    → IfOk result (λ r. Finishes repository refusals contents at c rs old new out r.0 r.1)
finishes_sent repository refusals contents at c rs old new out v (Ok r) h t = λ x e. let f = h x e in sent x at c rs (Rose (refusals old) (refusals new)) (contents out) (contents r.0) r.1 v f.0 f.1 t.0 t.1
finishes_sent repository refusals contents at c rs old new out v (Err g) h t = tt

pub finishes_stopped : {P W : Type 0} (repository : P → Option Repository) (refusals : P → ℕ) (contents : W → Option (List ℕ)) (at : Url) (c : Ask) (rs : List Report) (old new : P) (out : W) (s : Stop) (result : Result (W × Bool) ServeFault)
    → ((x : Repository) → repository old ≡ Some x → MayStop (refusals old) (refusals new) (report_denied x at c rs) s)
    → IfOk result (λ r. (r.1 ≡ false) × TellsStop (contents out) (contents r.0) s)
    → IfOk result (λ r. Finishes repository refusals contents at c rs old new out r.0 r.1)
finishes_stopped repository refusals contents at c rs old new out s (Ok r) h t = λ x e. stopped x at c rs (refusals old) (refusals new) (contents out) (contents r.0) r.1 s (h x e) t.0 t.1
finishes_stopped repository refusals contents at c rs old new out s (Err g) h t = tt
