-- What stands behind what a writer had, whatever its port knows.
use Rattle.std.proofs.Common.{◌≡◌, ℕ, Bool, true, false, List, Option, Result, Ok, Err}
use Rattle.std.specs.Prelude.{IfOk}
use Rattle.ra_serve.specs.Tellings.{Adds}
use Rattle.ra_denial.specs.Writing.{TellsStop}
use Rattle.ra_denial.specs.declared.stop.Stop.{Stop}
use Rattle.ra_denial.proofs.Adding.{stop_adds}
use Rattle.ra_report.specs.Edits.{edit_told}
use Rattle.ra_report.specs.Plans.{TellsPlan}
use Rattle.ra_report.specs.declared.plan.Plan.{Plan}

-- an edit
pub sent_adds : {W E : Type 0} (contents : W → Option (List ℕ)) (out : W) (result : Result (W × Bool) E) (p : Plan) (identity : List ℕ)
    → IfOk result (λ r. (r.1 ≡ true) × TellsPlan p identity edit_told (contents out) (contents r.0))
    → IfOk result (λ r. Adds contents out r.0)
sent_adds contents out (Ok r) p identity t = (edit_told t.1.edit, t.1.bytes)
sent_adds contents out (Err f) p identity t = tt

-- why there is none
pub refused_adds : {W E : Type 0} (contents : W → Option (List ℕ)) (out : W) (result : Result (W × Bool) E) (s : Stop)
    → IfOk result (λ r. (r.1 ≡ false) × TellsStop (contents out) (contents r.0) s)
    → IfOk result (λ r. Adds contents out r.0)
refused_adds contents out (Ok r) s t = stop_adds (contents out) (contents r.0) s t.1
refused_adds contents out (Err f) s t = tt
