-- Properties of revisions that are shared one after another.
use Rattle.std.proofs.Common.{◌≡◌, ℕ, zero, suc, ◌≤◌, ◌<◌, ◌++◌, Bool, true, false, List, [], ◌∷◌, map, take, length, Some, None, refl, ap, ◌∙◌, arith}
use Rattle.std.proofs.lemmas.Bool.Decides.{nat_tests}
use Rattle.std.specs.Prelude.{nat_le}
use Rattle.node_base.specs.Props.{PropMap}
use Rattle.node_base.specs.declared.refusal.Refusal.TheVariants as refusal
use Rattle.dump_load.specs.Faults.{fault_if}
use Rattle.repo_core.specs.Repository.{Repository, Revision, props_at}
use Rattle.ra_serve.specs.Ports as port
use Rattle.ra_serve.proofs.Causes.{rose_later}
use Rattle.ra_denial.specs.Denials.{no_revision}
use Rattle.ra_denial.specs.Stops.{MayStop}
use Rattle.ra_denial.specs.declared.denial.Denial.{Denial}
use Rattle.ra_denial.specs.declared.denial.Denial.TheVariants as denial
use Rattle.ra_denial.specs.declared.stop.Stop.{Stop}
use Rattle.ra_denial.specs.declared.stop.Stop.TheVariants as stop
use Rattle.ra_report.specs.Edits.{all_props}

not_past : (b : Bool) → fault_if b refusal.NoSuchRevision ≡ None → b ≡ false
not_past true e = absurd cc
not_past false e = refl

past : (b : Bool) (w : Denial) → fault_if b denial.NoRevision ≡ Some w → (b ≡ true) × (Some denial.NoRevision ≡ Some w)
past true w e = (refl, e)
past false w e = absurd cc

take_more : (rs : List Revision) (n : ℕ) → n < length rs → take n (map (λ r. r.props) rs) ++ props_at rs n ∷ [] ≡ take (suc n) (map (λ r. r.props) rs)
take_more [] n h = absurd (none n h)
  where
    none : (n : ℕ) → n < 0 → ⊥
    none n h = omega (arith, h)
take_more (r ∷ rs) zero h = refl
take_more (r ∷ rs) (suc n) h = ap (λ l. r.props ∷ l) (take_more rs n (omega (arith, h)))

-- those of one revision more
pub props_more : (x : Repository) (n : ℕ) (p : PropMap) (old new : List PropMap) → port.no_revision x n ≡ None → p ≡ props_at x.revisions n → new ≡ old ++ p ∷ [] → old ≡ take n (all_props x) → new ≡ take (suc n) (all_props x)
props_more x n p old new d e a k =
    let b = not_past (nat_le (length x.revisions) n) d in
    let h : n < length x.revisions = grind (arith, nat_tests) in
    a ∙ ap (λ l. l ++ p ∷ []) k ∙ ap (λ q. take n (all_props x) ++ q ∷ []) e ∙ take_more x.revisions n h

-- a revision that isn't there, and so none above it
above : (x : Repository) (k last : ℕ) (w : Denial) → k ≤ last → no_revision x k ≡ Some w → no_revision x last ≡ Some w
above x k last w h e =
    let b = past (nat_le (length x.revisions) k) w e in
    let c = b.0 in
    let t : nat_le (length x.revisions) last ≡ true = grind (arith, nat_tests) in
    ap (λ v. fault_if v denial.NoRevision) t ∙ b.1

-- a call for an earlier revision stopped, behind others
pub stops_above : (x : Repository) (p m n k last : ℕ) (s : Stop) → p ≤ m → k ≤ last → MayStop m n (no_revision x k) s → MayStop p n (no_revision x last) s
stops_above x p m n k last (stop.Denied w) h l r = above x k last w l r
stops_above x p m n k last (stop.Port f) h l r = (r.0, rose_later p m n h r.1)
stops_above x p m n k last stop.OutOfMemory h l r = tt
