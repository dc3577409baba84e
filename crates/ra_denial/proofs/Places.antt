-- Paths of other URLs.
use Rattle.std.proofs.Common.{◌≡◌, ℕ, Bool, true, false, not, List, Some, None, Result, Ok, Err, refl, sym, ap, ◌∙◌}
use Rattle.std.proofs.lemmas.Slice.Eq.{bytes_eq-Decides}
use Rattle.std.specs.Prelude.{if◌then◌else◌}
use Rattle.std.specs.Str.{bytes_eq}
use Rattle.node_base.specs.Path.{Path}
use Rattle.dump_load.specs.Faults.{fault_if}
use Rattle.browse_wire.specs.Urls.{Url, MovedIs}
use Rattle.browse_wire.specs.declared.url.UrlFault.{UrlFault}
use Rattle.browse_wire.specs.declared.url.UrlFault.TheVariants as url
use Rattle.ra_denial.specs.Places.{url_denied, moved_to, url_stop}
use Rattle.ra_denial.specs.Stops.{Denies}
use Rattle.ra_denial.specs.declared.denial.Denial.TheVariants as denial

same : (a : List ℕ) → bytes_eq a a ≡ true
same a = (bytes_eq-Decides a a).1 refl

not_true : (b : Bool) → (b ≡ true → ⊥) → b ≡ false
not_true true h = absurd (h refl)
not_true false h = refl

-- of the session's root
pub path_made : (at : Url) (path : Path) (read : Result Url UrlFault) → read ≡ Ok (at.0, path) → (url_denied at read ≡ None) × (path ≡ (moved_to at read).1)
path_made at path read e = (
  ap (url_denied at) e ∙ ap (λ b. fault_if (not b) denial.OtherRoot) (same at.0),
  sym (ap (λ r. (moved_to at r).1) e ∙ ap (λ b. (if b then (at.0, path) else at).1) (same at.0)),
)

-- of another
path_other : (at : Url) (other : List ℕ) (path : Path) (read : Result Url UrlFault) → read ≡ Ok (other, path) → (other ≡ at.0 → ⊥) → url_denied at read ≡ Some denial.OtherRoot
path_other at other path read e d =
    let b : bytes_eq other at.0 ≡ false = not_true (bytes_eq other at.0) (λ t. d ((bytes_eq-Decides other at.0).0 t)) in
    ap (url_denied at) e ∙ ap (λ b. fault_if (not b) denial.OtherRoot) b

-- of none
path_none : (at : Url) (f : UrlFault) (read : Result Url UrlFault) → read ≡ Err f → url_denied at read ≡ Some denial.BadUrl
path_none at f read e = ap (url_denied at) e

-- whatever the reason
pub path_refused : (at : Url) (f : UrlFault) (read : Result Url UrlFault) → MovedIs at.0 (Err f) read → Denies (url_denied at read) (url_stop f)
path_refused at url.OtherScheme read e = path_none at url.OtherScheme read e
path_refused at url.NoHost read e = path_none at url.NoHost read e
path_refused at url.TooLong read e = path_none at url.TooLong read e
path_refused at url.BadPath read e = path_none at url.BadPath read e
path_refused at url.OtherRoot read e = path_other at e.0 e.1 read e.2 e.3
path_refused at url.OutOfMemory read e = tt
