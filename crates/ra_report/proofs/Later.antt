-- Commands of a report one after another.
use Rattle.std.proofs.Common.{◌≡◌, ℕ, zero, suc, ◌+◌, ◌≤◌, ◌<◌, List, [], ◌∷◌, map, drop, length, get_or, Some, None, Result, refl, sym, ap, subst, ◌∙◌, arith}
use Rattle.std.proofs.Math.Seq.{drop-cons}
use Rattle.node_base.specs.Path.{Path}
use Rattle.tree_reports.specs.Reports.{content_at}
use Rattle.browse_wire.specs.Reports.{Report, report_as}
use Rattle.browse_wire.specs.declared.report.ReportCommand.{ReportCommand}
use Rattle.browse_wire.specs.Urls.{Url}
use Rattle.repo_core.specs.Repository.{Repository}
use Rattle.ra_denial.specs.Stops.{Comes, MayStop}
use Rattle.ra_denial.specs.declared.stop.Stop.{Stop}
use Rattle.ra_report.specs.Plans.{IsCopy}
use Rattle.ra_report.specs.Shown.{Known}
use Rattle.ra_report.specs.Reports.{Having, having, begin_denied, begin_known, base_in, heeded, heeded_denied, later, later_denied, whole, whole_denied, base_of}
use Rattle.ra_report.specs.declared.switched.Switched.{Switched}
use Rattle.ra_report.specs.declared.plan.WorkingCopy.{WorkingCopy}
use Rattle.ra_report.proofs.Calls.{only_second, then_comes, first_stops}

-- what is left of some commands comes to what they all do
pub record IsLeft (x : Repository) (at : Url) (t : Path) (h : Having) (cs : List Report) (first : Having) (all : List Report) : Type 0 where
  pub denied : later_denied x at t h cs ≡ later_denied x at t first all
  pub has : later x at t h cs ≡ later x at t first all

pub same_known : (j k : Known) → ((q : Path) → j q ≡ k q) → j ≡ k
same_known j k h = λ i q. h q i

pub same_having : (j k : Known) (ss tt : List Switched) → ((q : Path) → j q ≡ k q) → ss ≡ tt → having j ss ≡ having k tt
same_having j k ss tt h e = λ i. having (λ q. h q i) (e i)

-- behind the first of them
pub one_less : (x : Repository) (at : Url) (t : Path) (h new first : Having) (c : Report) (cs all : List Report) → heeded_denied x at t h c ≡ None → new ≡ heeded x at t h c → IsLeft x at t h (c ∷ cs) first all → IsLeft x at t new cs first all
one_less x at t h new first c cs all d e l = record {
  denied = ap (λ v. later_denied x at t v cs) e ∙ sym (only_second (heeded_denied x at t h c) (later_denied x at t (heeded x at t h c) cs) d) ∙ l.denied;
  has = ap (λ v. later x at t v cs) e ∙ l.has;
}

-- it stopped
pub left_stops : (x : Repository) (at : Url) (t : Path) (k first : Having) (c : Report) (cs all : List Report) (p n : ℕ) (s : Stop) → n ≤ n → MayStop p n (heeded_denied x at t k c) s → IsLeft x at t k (c ∷ cs) first all → MayStop p n (later_denied x at t first all) s
left_stops x at t k first c cs all p n s h m l = subst (λ o. MayStop p n o s) l.denied (first_stops p n n (heeded_denied x at t k c) (later_denied x at t (heeded x at t k c) cs) s h m)

-- the folder or the target first
pub reported_comes : (x : Repository) (at : Url) (t : Path) (c : Report) (cs rs : List Report) (k m l : ℕ) (copy : WorkingCopy) (r : Result WorkingCopy Stop) → rs ≡ c ∷ cs → k ≤ m → begin_denied x at t c ≡ None → IsCopy (having (begin_known x at t c) []) (base_in c) copy
    → Comes m l (later_denied x at t (having (content_at copy.report) copy.switches.items) cs) (IsCopy (later x at t (having (content_at copy.report) copy.switches.items) cs) (Some copy.base)) r
    → Comes k l (whole_denied x at t rs) (IsCopy (whole x at t rs) (base_of rs)) r
reported_comes x at t c cs rs k m l copy r e h d is after =
    let first = having (begin_known x at t c) [] in
    subst (λ a. Comes k l (whole_denied x at t a) (IsCopy (whole x at t a) (base_of a)) r) (sym e)
    (
    then_comes k m l (begin_denied x at t c) (later_denied x at t first cs) (IsCopy (whole x at t (c ∷ cs)) (Some copy.base)) (IsCopy (whole x at t (c ∷ cs)) (base_of (c ∷ cs))) r h d
    (λ v i. record { has = i.has; base_is = i.base_is ∙ is.base_is })
    (subst (λ k. Comes m l (later_denied x at t k cs) (IsCopy (later x at t k cs) (Some copy.base)) r) is.has after)
    )

pub reported_stops : (x : Repository) (at : Url) (t : Path) (c : Report) (cs rs : List Report) (p n : ℕ) (s : Stop) → rs ≡ c ∷ cs → n ≤ n → MayStop p n (begin_denied x at t c) s → MayStop p n (whole_denied x at t rs) s
reported_stops x at t c cs rs p n s e h m = subst (λ a. MayStop p n (whole_denied x at t a) s) (sym e) (first_stops p n n (begin_denied x at t c) (later_denied x at t (having (begin_known x at t c) []) cs) s h m)

-- ---- in a loop over them

pub next_of : {A : Type 0} (rest : List A) (i : ℕ) (c : A) → i < length rest → c ≡ get_or rest i c → drop i rest ≡ c ∷ drop (i + 1) rest
next_of rest i c h e =
    let s : suc i ≡ i + 1 = omega arith in
    drop-cons rest i c h ∙ ap (λ d. d ∷ drop (suc i) rest) (sym e) ∙ ap (λ j. c ∷ drop j rest) s

pub next_left : (x : Repository) (at : Url) (t : Path) (k first : Having) (rest : List ReportCommand) (i : ℕ) (c : ReportCommand) (all : List Report) → i < length rest → c ≡ get_or rest i c → IsLeft x at t k (map report_as (drop i rest)) first all → IsLeft x at t k (report_as c ∷ map report_as (drop (i + 1) rest)) first all
next_left x at t k first rest i c all h e l = subst (λ r. IsLeft x at t k (map report_as r) first all) (next_of rest i c h e) l

pub drop_all : {A : Type 0} (rest : List A) (i : ℕ) → length rest ≤ i → drop i rest ≡ []
drop_all [] zero h = refl
drop_all [] (suc i) h = refl
drop_all (c ∷ rest) zero h = absurd (none (length rest) h)
  where
    none : (n : ℕ) → suc n ≤ 0 → ⊥
    none n h = omega (arith, h)
drop_all (c ∷ rest) (suc i) h = drop_all rest i (omega (arith, h))

-- behind the last
pub none_left : (x : Repository) (at : Url) (t : Path) (k first : Having) (rest : List ReportCommand) (i : ℕ) (all : List Report) → length rest ≤ i → IsLeft x at t k (map report_as (drop i rest)) first all → (later_denied x at t first all ≡ None) × (k ≡ later x at t first all)
none_left x at t k first rest i all h l =
    let e : IsLeft x at t k [] first all = subst (λ r. IsLeft x at t k (map report_as r) first all) (drop_all rest i h) l in
    (sym e.denied, e.has)
