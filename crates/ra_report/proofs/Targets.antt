-- Reports of a target.
use Rattle.std.proofs.Common.{◌≡◌, ℕ, ◌+◌, ◌≤◌, ◌<◌, List, [], ◌∷◌, ◌++◌, map, drop, length, get_or, None, Result, refl, sym, ap, subst, ◌∙◌, arith, append_assoc, append-nil}
use Rattle.node_base.specs.Path.{Path}
use Rattle.browse_wire.specs.Reports.{Report, SetPath, LinkPath, DeletePath, FinishReport, AbortReport, report_as}
use Rattle.browse_wire.specs.declared.report.ReportCommand.{ReportCommand}
use Rattle.browse_wire.specs.Urls.{Url}
use Rattle.repo_core.specs.Repository.{Repository}
use Rattle.ra_denial.specs.Stops.{Comes, Denies}
use Rattle.ra_denial.specs.declared.stop.Stop.{Stop}
use Rattle.ra_report.specs.Plans.{IsCopy}
use Rattle.ra_report.specs.Reports.{aim_denied, aimed, aims_denied, base_of, reports_denied, reported, whole, whole_denied}
use Rattle.ra_report.specs.declared.plan.WorkingCopy.{WorkingCopy}
use Rattle.ra_report.proofs.Calls.{only_second, first_denies, then_comes}
use Rattle.ra_report.proofs.Later.{drop_all, next_of}

-- ---- commands with their paths behind a target

same_base : (t : Path) (rs : List Report) → base_of (map (aimed t) rs) ≡ base_of rs
same_base t [] = refl
same_base t (SetPath r ∷ rs) = refl
same_base t (LinkPath r url ∷ rs) = refl
same_base t (DeletePath p ∷ rs) = refl
same_base t (FinishReport ∷ rs) = refl
same_base t (AbortReport ∷ rs) = refl

pub aimed_comes : (x : Repository) (at : Url) (t : Path) (all rs : List Report) (k m : ℕ) (r : Result WorkingCopy Stop) → aims_denied t rs ≡ None → all ≡ map (aimed t) rs
    → Comes k m (whole_denied x at t all) (IsCopy (whole x at t all) (base_of all)) r
    → Comes k m (reports_denied x at t rs) (IsCopy (reported x at t rs) (base_of rs)) r
aimed_comes x at t all rs k m r d e h =
    then_comes k k m (aims_denied t rs) (whole_denied x at t (map (aimed t) rs)) (IsCopy (reported x at t rs) (base_of (map (aimed t) rs))) (IsCopy (reported x at t rs) (base_of rs)) r (omega arith) d (λ v i. record { has = i.has; base_is = i.base_is ∙ same_base t rs })
    (subst (λ a. Comes k m (whole_denied x at t a) (IsCopy (whole x at t a) (base_of a)) r) e h)

-- ---- its commands, one after another

-- what is left to aim comes to what all come to
pub record AreAimed (t : Path) (made : List Report) (left all : List Report) : Type 0 where
  pub denied : aims_denied t left ≡ aims_denied t all
  pub known : made ++ map (aimed t) left ≡ map (aimed t) all

pub one_aimed : (t : Path) (made new : List Report) (rest : List ReportCommand) (i : ℕ) (c : ReportCommand) (all : List Report) → i < length rest → c ≡ get_or rest i c → aim_denied t (report_as c) ≡ None → new ≡ made ++ aimed t (report_as c) ∷ [] → AreAimed t made (map report_as (drop i rest)) all → AreAimed t new (map report_as (drop (i + 1) rest)) all
one_aimed t made new rest i c all h e d n l =
    let left = map report_as (drop (i + 1) rest) in
    let was : AreAimed t made (report_as c ∷ left) all = subst (λ r. AreAimed t made (map report_as r) all) (next_of rest i c h e) l in
    record {
      denied = sym (only_second (aim_denied t (report_as c)) (aims_denied t left) d) ∙ was.denied;
      known = ap (λ v. v ++ map (aimed t) left) n ∙ append_assoc made (aimed t (report_as c) ∷ []) (map (aimed t) left) ∙ was.known;
    }

pub aim_stops : (t : Path) (made : List Report) (rest : List ReportCommand) (i : ℕ) (c : ReportCommand) (all : List Report) (s : Stop) → i < length rest → c ≡ get_or rest i c → Denies (aim_denied t (report_as c)) s → AreAimed t made (map report_as (drop i rest)) all → Denies (aims_denied t all) s
aim_stops t made rest i c all s h e d l =
    let left = map report_as (drop (i + 1) rest) in
    let was : AreAimed t made (report_as c ∷ left) all = subst (λ r. AreAimed t made (map report_as r) all) (next_of rest i c h e) l in
    subst (λ o. Denies o s) was.denied (first_denies (aim_denied t (report_as c)) (aims_denied t left) s d)

pub all_aimed : (t : Path) (made : List Report) (rest : List ReportCommand) (i : ℕ) (all : List Report) → length rest ≤ i → AreAimed t made (map report_as (drop i rest)) all → (aims_denied t all ≡ None) × (made ≡ map (aimed t) all)
all_aimed t made rest i all h l =
    let e : AreAimed t made [] all = subst (λ r. AreAimed t made (map report_as r) all) (drop_all rest i h) l in
    (sym e.denied, sym (append-nil made) ∙ e.known)

-- behind others
pub aimed_behind : (t : Path) (old new : List ReportCommand) (a : ReportCommand) (r : Report) → new ≡ old ++ a ∷ [] → report_as a ≡ r → map report_as new ≡ map report_as old ++ r ∷ []
aimed_behind t old new a r e f = ap (map report_as) e ∙ both old ∙ ap (λ z. map report_as old ++ z ∷ []) f
  where
    both : (l : List ReportCommand) → map report_as (l ++ a ∷ []) ≡ map report_as l ++ report_as a ∷ []
    both [] = refl
    both (b ∷ l) = ap (λ z. report_as b ∷ z) (both l)
