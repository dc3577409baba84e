-- When a revision was made, where it isn't there, and where a port refused to tell.
use Rattle.std.proofs.Common.{◌≡◌, ◌≢◌, ℕ, ◌≤◌, Bool, true, false, List, Option, Some, None, Result, Ok, Err, refl, sym, ap, ◌∙◌, arith}
use Rattle.std.proofs.lemmas.Bool.Decides.{nat_tests}
use Rattle.std.proofs.lemmas.Option.{slice_get_past}
use Rattle.std.specs.Prelude.{nat_le, length, MatchResult, codes}
use Rattle.std.specs.Option.{option_map_or}
use Rattle.std.specs.FinMap as finite
use Rattle.node_base.specs.Path.{name_cmp}
use Rattle.node_base.specs.declared.refusal.Refusal.TheVariants as refusal
use Rattle.dump_load.specs.Faults.{fault_if}
use Rattle.repo_core.specs.Repository.{Repository, Revision}
use Rattle.ra_serve.specs.declared.fault.PortFault.{PortFault}
use Rattle.ra_serve.specs.declared.fault.PortFault.TheVariants as fault
use Rattle.ra_serve.specs.Ports as port
use Rattle.ra_serve.specs.Ports.{MayRefuse}
use Rattle.ra_denial.specs.Stops.{Comes}
use Rattle.ra_denial.specs.declared.stop.Stop.{Stop}
use Rattle.ra_denial.specs.declared.stop.Stop.TheVariants as stop
use Rattle.ra_denial.proofs.Causes.{not_long, not_other}
use Rattle.ra_browse.specs.declared.made.Made as declared
use Rattle.ra_browse.specs.Answers.{Made, made_in, made_of}
use Rattle.ra_browse.specs.Tellings.{made_as}

abbrev made_with : Option (List ℕ) → Option (List ℕ) → Made
made_with date author = record { date = date; author = author }

pub unknown_made : made_with None None ≡ made_in finite.empty
unknown_made = sym (ap (λ o. made_with o (finite.get {R = name_cmp} (finite.empty {X = List ℕ}) (codes "svn:author"))) (finite.get-empty {X = List ℕ} name_cmp (codes "svn:date")) ∙ ap (λ o. made_with None o) (finite.get-empty {X = List ℕ} name_cmp (codes "svn:author")))

above : (b : Bool) → fault_if b refusal.NoSuchRevision ≡ Some refusal.NoSuchRevision → b ≡ true
above true e = refl
above false e = absurd cc

-- a revision that isn't there
missing : (x : Repository) (n : ℕ) → port.no_revision x n ≡ Some refusal.NoSuchRevision → made_of x n ≡ made_in finite.empty
missing x n e =
    let b = above (nat_le (length x.revisions) n) e in
    let h : length x.revisions ≤ n = grind (arith, nat_tests) in
    ap (λ o. made_in (option_map_or (λ (y : Revision). y.props) o finite.empty)) (slice_get_past x.revisions n h)

pub refused_made : (x : Repository) (p k n : ℕ) (f : PortFault) (result : Result declared.Made Stop) → MayRefuse p k f (port.no_revision x n)
    → MatchResult result (λ m. (f ≡ fault.NoSuchRevision) × (made_as m ≡ made_in finite.empty)) (λ s. (f ≢ fault.NoSuchRevision) × (s ≡ stop.Port f))
    → Comes p k None (λ m. made_as m ≡ made_of x n) result
refused_made x p k n fault.NoSuchRevision (Ok m) r h = (refl, h.1 ∙ sym (missing x n r))
refused_made x p k n fault.NoSuchRevision (Err s) r h = absurd (h.0 refl)
refused_made x p k n fault.DeviceFailed (Err s) r h = rw h.1 (tt, r)
refused_made x p k n fault.Failed (Err s) r h = rw h.1 (tt, r)
refused_made x p k n fault.LogFull (Err s) r h = rw h.1 (tt, r)
refused_made x p k n fault.OutOfMemory (Err s) r h = rw h.1 (tt, r)
refused_made x p k n fault.TooLong (Err s) r h = absurd (not_long (nat_le (length x.revisions) n) r)
refused_made x p k n fault.BaseMismatch (Err s) r h = absurd (not_other (nat_le (length x.revisions) n) r)
refused_made x p k n fault.DeviceFailed (Ok m) r h = let e = h.0 in absurd cc
refused_made x p k n fault.Failed (Ok m) r h = let e = h.0 in absurd cc
refused_made x p k n fault.LogFull (Ok m) r h = let e = h.0 in absurd cc
refused_made x p k n fault.OutOfMemory (Ok m) r h = let e = h.0 in absurd cc
refused_made x p k n fault.TooLong (Ok m) r h = let e = h.0 in absurd cc
refused_made x p k n fault.BaseMismatch (Ok m) r h = let e = h.0 in absurd cc
