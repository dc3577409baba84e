-- Steps of a session to another URL.
use Rattle.std.proofs.Common.{◌≡◌, ℕ, Bool, true, false, not, List, Option, Some, None, Result, Ok, Err, refl, sym, ap, subst}
use Rattle.std.specs.Prelude.{IfOk, if◌then◌else◌}
use Rattle.std.specs.Str.{bytes_eq}
use Rattle.std.specs.Io.KnownBytes.{Appends}
use Rattle.node_base.specs.Path.{Path}
use Rattle.dump_load.specs.Faults.{fault_if}
use Rattle.ra_item.specs.Items.{spell}
use Rattle.ra_wire.specs.Replies.{done}
use Rattle.browse_wire.specs.Urls.{Url}
use Rattle.browse_wire.specs.declared.url.UrlFault.{UrlFault}
use Rattle.ra_serve.specs.declared.fault.ServeFault.{ServeFault}
use Rattle.ra_denial.specs.Denials.{unless_denied}
use Rattle.ra_denial.specs.Places.{moved_to, url_denied}
use Rattle.ra_denial.specs.Stops.{Denies}
use Rattle.ra_denial.specs.Writing.{TellsStop}
use Rattle.ra_denial.specs.declared.denial.Denial.{Denial}
use Rattle.ra_denial.specs.declared.denial.Denial.TheVariants as denial
use Rattle.ra_denial.specs.declared.stop.Stop.{Stop}
use Rattle.ra_denial.specs.declared.stop.Stop.TheVariants as stop
use Rattle.ra_browse.specs.Tellings.{MayMove}

-- by the path of a URL of its root
pub step_made : (at : Url) (path : Path) (read : Result Url UrlFault) → (url_denied at read ≡ None) × (path ≡ (moved_to at read).1) → (url_denied at read ≡ None) × ((at.0, path) ≡ moved_to at read)
step_made at path (Err f) m = let e = m.0 in absurd cc
step_made at path (Ok to) m = by (bytes_eq to.0 at.0) m.0 m.1
  where
    by : (b : Bool) → fault_if (not b) denial.OtherRoot ≡ None → path ≡ (if b then (at.0, to.1) else at).1 → (fault_if (not b) denial.OtherRoot ≡ None) × ((at.0, path) ≡ (if b then (at.0, to.1) else at))
    by true e p = (e, ap (λ q. (at.0, q)) p)
    by false e p = absurd cc

-- a URL that leads nowhere
stays_put : (at : Url) (d : Denial) (read : Result Url UrlFault) → url_denied at read ≡ Some d → at ≡ moved_to at read
stays_put at d (Err f) e = refl
stays_put at d (Ok to) e = by (bytes_eq to.0 at.0) e
  where
    by : (b : Bool) → fault_if (not b) denial.OtherRoot ≡ Some d → at ≡ (if b then (at.0, to.1) else at)
    by true e = absurd cc
    by false e = refl

pub step_refused : (at : Url) (read : Result Url UrlFault) (s : Stop) → Denies (url_denied at read) s → MayMove at at read (Err s)
step_refused at read (stop.Denied d) h = (h, refl, stays_put at d read h)
step_refused at read (stop.Port f) h = h
step_refused at read stop.OutOfMemory h = refl

-- as it is told
pub step_told : (old new : Url) (read : Result Url UrlFault) (before now : Option (List ℕ)) → (url_denied old read ≡ None) × (new ≡ moved_to old read) → Appends before now (spell done) → Appends before now (unless_denied (url_denied old read) (spell done))
step_told old new read before now m a = subst (λ o. Appends before now (unless_denied o (spell done))) (sym m.0) a

stop_told : (old new : Url) (read : Result Url UrlFault) (s : Stop) (before now : Option (List ℕ)) → MayMove old new read (Err s) → TellsStop before now s → Appends before now (unless_denied (url_denied old read) (spell done))
stop_told old new read (stop.Denied d) before now m t = subst (λ o. Appends before now (unless_denied o (spell done))) (sym m.0) t
stop_told old new read (stop.Port f) before now m t = absurd m
stop_told old new read stop.OutOfMemory before now m t = absurd t

pub stops_told : {W : Type 0} (contents : W → Option (List ℕ)) (old new : Url) (read : Result Url UrlFault) (s : Stop) (out : W) (result : Result W ServeFault) → MayMove old new read (Err s) → IfOk result (λ w. TellsStop (contents out) (contents w) s) → IfOk result (λ w. Appends (contents out) (contents w) (unless_denied (url_denied old read) (spell done)))
stops_told contents old new read s out (Ok w) m t = stop_told old new read s (contents out) (contents w) m t
stops_told contents old new read s out (Err g) m t = tt

stop_stays : (old new : Url) (read : Result Url UrlFault) (s : Stop) (before now : Option (List ℕ)) → MayMove old new read (Err s) → TellsStop before now s → new ≡ moved_to old read
stop_stays old new read (stop.Denied d) before now m t = m.2
stop_stays old new read (stop.Port f) before now m t = absurd m
stop_stays old new read stop.OutOfMemory before now m t = absurd t

pub stops_stay : {W : Type 0} (contents : W → Option (List ℕ)) (old new : Url) (read : Result Url UrlFault) (s : Stop) (out : W) (result : Result W ServeFault) → MayMove old new read (Err s) → IfOk result (λ w. TellsStop (contents out) (contents w) s) → IfOk result (λ w. new ≡ moved_to old read)
stops_stay contents old new read s out (Ok w) m t = stop_stays old new read s (contents out) (contents w) m t
stops_stay contents old new read s out (Err g) m t = tt
