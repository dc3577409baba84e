-- What stands behind what a writer had, whatever its port knows.
use Rattle.std.proofs.Common.{ℕ, List, Option, Result, Ok, Err}
use Rattle.std.specs.Prelude.{IfOk}
use Rattle.browse_wire.specs.Asks.{LogAsk}
use Rattle.ra_serve.specs.Tellings.{GivesMore}
use Rattle.ra_browse.specs.Tellings.{TellsLocations, TellsLogged, TellsVersions}
use Rattle.ra_browse.specs.declared.location.Sought as declared_sought
use Rattle.ra_browse.specs.declared.log.LogSought as declared_log
use Rattle.ra_browse.specs.declared.versions.VersionsSought as declared_versions

pub more_located : {W E : Type 0} (contents : W → Option (List ℕ)) (out : W) (result : Result W E) (s : declared_sought.Sought) → IfOk result (λ w. TellsLocations s (contents out) (contents w)) → GivesMore contents out result
more_located contents out (Ok w) s t = (_, t.bytes)
more_located contents out (Err f) s t = tt

pub more_logged : {W E : Type 0} (contents : W → Option (List ℕ)) (out : W) (result : Result W E) (l : LogAsk) (s : declared_log.LogSought) → IfOk result (λ w. TellsLogged l s (contents out) (contents w)) → GivesMore contents out result
more_logged contents out (Ok w) l s t = (_, t.bytes)
more_logged contents out (Err f) l s t = tt

pub more_versions : {W E : Type 0} (contents : W → Option (List ℕ)) (out : W) (result : Result W E) (s : declared_versions.VersionsSought) → IfOk result (λ w. TellsVersions s (contents out) (contents w)) → GivesMore contents out result
more_versions contents out (Ok w) s t = (_, t.bytes)
more_versions contents out (Err f) s t = tt
