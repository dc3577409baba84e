-- Sets that are shared one after another.
use Rattle.std.proofs.Common.{◌≡◌, ℕ, zero, suc, ◌≤◌, ◌<◌, ◌++◌, Bool, true, false, List, [], ◌∷◌, take, length, Some, None, Result, Ok, Err, true≢false, refl, sym, ap, subst, ◌∙◌, arith}
use Rattle.std.proofs.Math.Seq.{take-suc}
use Rattle.std.proofs.lemmas.List.{length-map}
use Rattle.std.proofs.lemmas.Bool.Decides.{nat_tests}
use Rattle.std.proofs.lemmas.Option.{slice_get-get_or}
use Rattle.std.specs.Prelude.{nat_le, is_ok, is_err, slice_get, if◌then◌else◌}
use Rattle.std.specs.Option.{option_map_or}
use Rattle.std.specs.FinMap as finite
use Rattle.node_base.specs.declared.refusal.Refusal.TheVariants as refusal
use Rattle.dump_load.specs.declared.change.Change.{Change}
use Rattle.dump_load.specs.Faults.{fault_if}
use Rattle.node_base.specs.Props.{PropMap}
use Rattle.node_base.specs.Tree.{PathMap}
use Rattle.repo_core.specs.Repository.{Repository, Revision, IsRepository, trees_of, props_at}
use Rattle.repo_core.proofs.SetsThere.{sets_count}
use Rattle.ra_serve.specs.declared.fault.PortFault.{PortFault}
use Rattle.ra_serve.specs.declared.fault.PortFault.TheVariants as fault
use Rattle.ra_serve.specs.Ports.{MayRefuse, no_revision, set_of, tree_of}
use Rattle.ra_serve.proofs.Causes.{rose_later}
use Rattle.ra_history.specs.declared.stop.SetsStop.{SetsStop}
use Rattle.ra_history.specs.declared.stop.SetsStop.TheVariants as stop
use Rattle.ra_history.specs.Rows.{props_of}
use Rattle.ra_history.specs.Stops.{MayStop}

not_past : (b : Bool) → fault_if b refusal.NoSuchRevision ≡ None → b ≡ false
not_past true e = absurd cc
not_past false e = refl

past : (b : Bool) → fault_if b refusal.NoSuchRevision ≡ Some refusal.NoSuchRevision → b ≡ true
past true e = refl
past false e = absurd cc

not_long : (b : Bool) → fault_if b refusal.NoSuchRevision ≡ Some refusal.TooLong → ⊥
not_long true e = cc
not_long false e = cc

not_other : (b : Bool) → fault_if b refusal.NoSuchRevision ≡ Some refusal.BaseMismatch → ⊥
not_other true e = cc
not_other false e = cc

-- a push that was made
pub pushed : {T E : Type 0} (r : Result (Unit {0}) E) (new made old : List T) → new ≡ (if is_ok r then made else old) → is_err r ≡ false → new ≡ made
pushed (Ok u) new made old e h = e
pushed (Err f) new made old e h = absurd (true≢false h)

-- one set more
pub set_more : (x : Repository) (n : ℕ) (s : List Change) (old new : List (List Change)) → IsRepository x → no_revision x n ≡ None → s ≡ set_of x n → new ≡ old ++ s ∷ [] → old ≡ take n x.sets → new ≡ take (suc n) x.sets
set_more x n s old new is d e p k =
    let b = not_past (nat_le (length x.revisions) n) d in
    let count = sets_count x is in
    let h : n < length x.sets = grind (arith, nat_tests) in
    p ∙ ap (λ l. l ++ s ∷ []) k ∙ ap (λ t. take n x.sets ++ t ∷ []) (e ∙ ap (λ o. option_map_or (λ t. t) o []) (slice_get-get_or x.sets n [] h)) ∙ sym (take-suc x.sets n [] h)

-- one more of a row
row_more : {T : Type 0} (xs : List T) (n : ℕ) (d s : T) (old new : List T) → n < length xs → s ≡ option_map_or (λ t. t) (slice_get xs n) d → new ≡ old ++ s ∷ [] → old ≡ take n xs → new ≡ take (suc n) xs
row_more xs n d s old new h e p k = p ∙ ap (λ l. l ++ s ∷ []) k ∙ ap (λ t. take n xs ++ t ∷ []) (e ∙ ap (λ o. option_map_or (λ t. t) o d) (slice_get-get_or xs n d h)) ∙ sym (take-suc xs n d h)

within : (x : Repository) (n : ℕ) → no_revision x n ≡ None → n < length x.revisions
within x n d = let b = not_past (nat_le (length x.revisions) n) d in grind (arith, nat_tests)

props_row : (rs : List Revision) (n : ℕ) → props_at rs n ≡ option_map_or (λ t. t) (slice_get (props_of rs) n) finite.empty
props_row [] n = refl
props_row (r ∷ rs) zero = refl
props_row (r ∷ rs) (suc n) = props_row rs n

trees_row : (x : Repository) (rs : List Revision) (n : ℕ) → tree_of (record { identity = x.identity; revisions = rs; sets = x.sets }) n ≡ option_map_or (λ t. t) (slice_get (trees_of rs) n) finite.empty
trees_row x [] n = refl
trees_row x (r ∷ rs) zero = refl
trees_row x (r ∷ rs) (suc n) = trees_row x rs n

-- the properties of one revision more
pub props_more : (x : Repository) (n : ℕ) (s : PropMap) (old new : List PropMap) → no_revision x n ≡ None → s ≡ props_at x.revisions n → new ≡ old ++ s ∷ [] → old ≡ take n (props_of x.revisions) → new ≡ take (suc n) (props_of x.revisions)
props_more x n s old new d e p k = row_more (props_of x.revisions) n finite.empty s old new (subst (λ m. n < m) (sym (length-map x.revisions (λ y. y.props))) (within x n d)) (e ∙ props_row x.revisions n) p k

-- and its tree
pub tree_more : (x : Repository) (n : ℕ) (s : PathMap) (old new : List PathMap) → no_revision x n ≡ None → s ≡ tree_of x n → new ≡ old ++ s ∷ [] → old ≡ take n (trees_of x.revisions) → new ≡ take (suc n) (trees_of x.revisions)
tree_more x n s old new d e p k = row_more (trees_of x.revisions) n finite.empty s old new (subst (λ m. n < m) (sym (length-map x.revisions (λ y. y.tree))) (within x n d)) (e ∙ trees_row x x.revisions n) p k

-- a revision that isn't there, and so none above it
above : (x : Repository) (k last : ℕ) → k ≤ last → no_revision x k ≡ Some refusal.NoSuchRevision → no_revision x last ≡ Some refusal.NoSuchRevision
above x k last h e =
    let b = past (nat_le (length x.revisions) k) e in
    let t : nat_le (length x.revisions) last ≡ true = grind (arith, nat_tests) in
    ap (λ c. fault_if c refusal.NoSuchRevision) t

-- a refusal of an earlier revision, behind others
pub refused_above : (x : Repository) (p m n k last : ℕ) (f : PortFault) → p ≤ m → k ≤ last → MayRefuse m n f (no_revision x k) → MayRefuse p n f (no_revision x last)
refused_above x p m n k last fault.DeviceFailed h l r = rose_later p m n h r
refused_above x p m n k last fault.Failed h l r = rose_later p m n h r
refused_above x p m n k last fault.LogFull h l r = rose_later p m n h r
refused_above x p m n k last fault.OutOfMemory h l r = rose_later p m n h r
refused_above x p m n k last fault.NoSuchRevision h l r = above x k last l r
refused_above x p m n k last fault.TooLong h l r = absurd (not_long (nat_le (length x.revisions) k) r)
refused_above x p m n k last fault.BaseMismatch h l r = absurd (not_other (nat_le (length x.revisions) k) r)

-- a call for an earlier revision stopped, behind others
pub stops_above : (x : Repository) (p m n k last : ℕ) (s : SetsStop) → p ≤ m → k ≤ last → MayStop m n (no_revision x k) s → MayStop p n (no_revision x last) s
stops_above x p m n k last (stop.Port f) h l r = refused_above x p m n k last f h l r
stops_above x p m n k last stop.OutOfMemory h l r = tt
