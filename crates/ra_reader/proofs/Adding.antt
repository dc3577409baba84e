-- What stands behind what a writer had, whatever its port knows.
use Rattle.std.proofs.Common.{ℕ, List, [], Option, Result, Ok, Err}
use Rattle.std.proofs.KnownBytes.{Appends-trans, Appends-kept}
use Rattle.std.specs.Prelude.{IfOk}
use Rattle.std.specs.Io.KnownBytes.{Appends, Keeps}
use Rattle.ra_item.specs.Items.{Item, spell}
use Rattle.repo_core.specs.Repository.{fresh}
use Rattle.browse_wire.specs.declared.url.SessionUrl.{SessionUrl}
use Rattle.ra_serve.specs.Tellings.{Adds}
use Rattle.ra_serve.specs.declared.fault.End as declared
use Rattle.ra_denial.specs.Writing.{TellsStop}
use Rattle.ra_denial.specs.declared.stop.Stop.{Stop}
use Rattle.ra_denial.proofs.Adding.{stop_adds}
use Rattle.ra_reader.specs.Sessions.{greeting}
use Rattle.ra_reader.specs.Serving.{Greets}
use Rattle.ra_reader.specs.Standings.{Standing, told_at}
use Rattle.ra_reader.specs.Takings.{Passes, standing_as}
use Rattle.ra_reader.specs.declared.phase.Phase as declared_phase

-- why a call stopped
pub adds_stop : {W : Type 0} (contents : W → Option (List ℕ)) (out now : W) (s : Stop) → TellsStop (contents out) (contents now) s → Adds contents out now
adds_stop contents out now s t = stop_adds (contents out) (contents now) s t

-- what a call told that asks no port: the same of any repository
pub passes_adds : {W E : Type 0} (contents : W → Option (List ℕ)) (s : Standing) (u : SessionUrl) (item : Item) (out : W) (result : Result (declared_phase.Phase × W) E)
    → IfOk result (λ r. Passes contents s item out r.1 (standing_as u r.0)) → IfOk result (λ r. Adds contents out r.1)
passes_adds contents s u item out (Ok r) h =
    let t = h (fresh []) 0 0 in
    (told_at (fresh []) s.at s.phase item t.added, t.bytes)
passes_adds contents s u item out (Err f) h = tt

-- and then nothing
pub adds_kept : {W : Type 0} (contents : W → Option (List ℕ)) (out mid now : W) → Adds contents out mid → Keeps (contents mid) (contents now) → Adds contents out now
adds_kept contents out mid now a k = (a.0, Appends-kept (contents out) (contents mid) (contents now) a.0 a.1 k)

-- ---- the greeting

pub greets : {W : Type 0} (contents : W → Option (List ℕ)) (out mid now : W) → Appends (contents out) (contents mid) (spell greeting) → Adds contents mid now → Greets contents out now
greets contents out mid now a b = (b.0, Appends-trans (contents out) (contents mid) (contents now) (spell greeting) b.0 a b.1)

pub greets_first : {W E : Type 0} (contents : W → Option (List ℕ)) (out mid : W) (result : Result (W × declared.End) E) → Appends (contents out) (contents mid) (spell greeting) → IfOk result (λ r. Adds contents mid r.0) → IfOk result (λ r. Greets contents out r.0)
greets_first contents out mid (Ok r) a b = greets contents out mid r.0 a b
greets_first contents out mid (Err f) a b = tt
