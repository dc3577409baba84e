-- What the calls that look for something find.
use Rattle.std.specs.Prelude.{◌≡◌, ◌≢◌, ◌∷◌, [], ℕ, suc, take, true, Bool, IfErr, List, MatchOption, MatchResult, None, Option, Result, Some, Vec, map}
use Rattle.std.specs.FinMap as finite
use Rattle.std.specs.declared.alloc.Global.{Global}
use Rattle.node_base.specs.Path.{Name, Path}
use Rattle.node_base.specs.Tree.{PathMap}
use Rattle.node_base.specs.declared.node.Node.{Node}
use Rattle.dump_load.specs.declared.change.Change.{Change}
use Rattle.path_history.specs.Places.{place}
use Rattle.path_history.specs.declared.place.Place.{Place}
use Rattle.repo_core.specs.Repository.{Repository}
use Rattle.ra_wire.specs.Answers.{dirent_as}
use Rattle.ra_wire.specs.declared.dirent.Dirent.{Dirent}
use Rattle.browse_wire.specs.declared.ask.LogOrder.{LogOrder}
use Rattle.ra_serve.specs.Answers.{asked}
use Rattle.ra_serve.specs.Ports as ports
use Rattle.ra_serve.specs.declared.fault.PortFault.{PortFault}
use Rattle.ra_serve.specs.declared.fault.PortFault.TheVariants as fault
use Rattle.ra_serve.specs.declared.port.RepoPort.{Ghosts}
use Rattle.ra_history.specs.declared.range.LogRange.{LogRange}
use Rattle.ra_log.specs.Entries.{log_as}
use Rattle.ra_denial.specs.Denials.{no_revision}
use Rattle.ra_denial.specs.Stops.{Comes, Decides, Finds}
use Rattle.ra_denial.specs.declared.stop.Stop.{Stop}
use Rattle.ra_denial.specs.declared.stop.Stop.TheVariants as stop
use Rattle.ra_browse.specs.Answers.{entry_of, log_denied, logged_denied, locations_denied, made_in, paths_denied, place_denied, version_denied, versions_denied}
use Rattle.ra_browse.specs.Histories.{newer, newest_logged, paths_below, range_logged, range_of}
use Rattle.ra_browse.specs.Tellings.{AreRows, AreVersionsSought, IsLogSought, IsSought, made_as}
use Rattle.ra_browse.specs.declared.location.Sought.{Sought}
use Rattle.ra_browse.specs.declared.log.LogSought.{LogSought}
use Rattle.ra_browse.specs.declared.made.Made.{Made}
use Rattle.ra_browse.specs.declared.versions.VersionsSought.{VersionsSought}

-- ---- of revisions

-- so much of a row as there is up to a revision
abbrev pub FindsUpTo : {P A : Type 0} → Ghosts P → P → P → ℕ → (Repository → List A) → Result (Vec A Global) Stop → Type 0
FindsUpTo G old new last row result = Finds G (λ x. no_revision x last) (λ x v. v.items ≡ take (suc last) (row x)) old new result

-- what is there of a revision that is
abbrev pub FindsIn : {P A : Type 0} → Ghosts P → P → P → ℕ → (Repository → A → Type 0) → Result A Stop → Type 0
FindsIn G old new last Is result =
    (x : Repository) → G.repository old ≡ Some x → no_revision x last ≡ None → Comes (G.refusals old) (G.refusals new) None (Is x) result

-- two revisions are looked up, and a refusal is of the newer one
abbrev pub RefusesEnds : {P A : Type 0} → Ghosts P → P → P → Option ℕ → Option ℕ → Result A PortFault → Type 0
RefusesEnds G old new start end result =
    (x : Repository) → G.repository old ≡ Some x → IfErr result (λ f. ports.MayRefuse (G.refusals old) (G.refusals new) f (ports.no_revision x (newer (asked x start) (asked x end))))

-- when and by whom is unknown of a revision that isn't there, and another refusal is told
abbrev pub IsUnmade : PortFault → Result Made Stop → Type 0
IsUnmade f result = MatchResult result (λ m. (f ≡ fault.NoSuchRevision) × (made_as m ≡ made_in finite.empty)) (λ s. (f ≢ fault.NoSuchRevision) × (s ≡ stop.Port f))

-- ---- of places

-- something stands at a path of a tree, and this is told of it
abbrev pub StandsAt : {A : Type 0} → PathMap → Path → A → Result A Stop → Type 0
StandsAt tree p told result = Decides (place_denied p (finite.get tree p)) (λ a. a ≡ told) result

-- something stands at each of these paths: the places in a revision
abbrev pub AllStandAt : PathMap → ℕ → List Path → Result (Vec Place Global) Stop → Type 0
AllStandAt tree n ps result = Decides (paths_denied tree ps) (λ v. v.items ≡ map (place n) ps) result

-- the same of a repository's tree
abbrev pub FindsPlacesAt : {P : Type 0} → Ghosts P → P → P → ℕ → List Path → Result (Vec Place Global) Stop → Type 0
FindsPlacesAt G old new n ps result = Finds G (λ x. logged_denied x n ps) (λ x v. v.items ≡ map (place n) ps) old new result

-- the revisions in which a place is looked for, and the sets up to the newest of all
abbrev pub SeeksPlaces : {P : Type 0} → Ghosts P → P → P → Path → ℕ → List ℕ → Result Sought Stop → Type 0
SeeksPlaces G old new p peg ns result = Finds G (λ x. locations_denied x p peg ns) (λ x s. IsSought x (place peg p) ns s) old new result

-- these revisions, and the sets up to one
abbrev pub WithSets : {P : Type 0} → Ghosts P → P → P → ℕ → List ℕ → Result (Vec ℕ Global × Vec (List Change) Global) Stop → Type 0
WithSets G old new last ns result = Finds G (λ x. no_revision x last) (λ x r. (r.0.items ≡ ns) × (r.1.items ≡ take (suc last) x.sets)) old new result

-- ---- of a log

-- what a log is told by
abbrev pub SeeksLog : {P : Type 0} → Ghosts P → P → P → Path → LogOrder → Result LogSought Stop → Type 0
SeeksLog G old new base order result =
    Finds G (λ x. log_denied x base (log_as order)) (λ x s. IsLogSought x (newest_logged x (log_as order)) base (log_as order) (range_logged x (log_as order)) s) old new result

-- between two revisions
abbrev pub SeeksLogBetween : {P : Type 0} → Ghosts P → P → P → Path → LogOrder → ℕ → ℕ → Result LogSought Stop → Type 0
SeeksLogBetween G old new base order first last result =
    Finds G (λ x. logged_denied x (newer first last) (paths_below base order.paths.items)) (λ x s. IsLogSought x (newer first last) base (log_as order) (range_of first last (log_as order)) s) old new result

-- of these places, in a range
abbrev pub SeeksLogOf : {P : Type 0} → Ghosts P → P → P → ℕ → Bool → LogRange → List Place → Result LogSought Stop → Type 0
SeeksLogOf G old new last wanted range places result =
    Finds G (λ x. no_revision x last) (λ x s. (s.places.items ≡ places) × (s.range ≡ range) × AreRows x last wanted s.rows) old new result

-- ---- of a file's versions

-- what versions are told by, from one revision to another
abbrev pub SeeksVersions : {P : Type 0} → Ghosts P → P → P → Path → Option ℕ → Option ℕ → Result VersionsSought Stop → Type 0
SeeksVersions G old new p start end result =
    Finds G (λ x. versions_denied x p (asked x start) (asked x end)) (λ x s. AreVersionsSought x p (asked x start) (newer (asked x start) (asked x end)) s) old new result

abbrev pub SeeksVersionsBetween : {P : Type 0} → Ghosts P → P → P → Path → ℕ → ℕ → Result VersionsSought Stop → Type 0
SeeksVersionsBetween G old new p first last result =
    Finds G (λ x. versions_denied x p first last) (λ x s. AreVersionsSought x p first (newer first last) s) old new result

-- of a place
abbrev pub SeeksVersionsOf : {P : Type 0} → Ghosts P → P → P → Place → ℕ → Result VersionsSought Stop → Type 0
SeeksVersionsOf G old new from first result =
    Finds G (λ x. no_revision x from.revision) (λ x s. (s.from ≡ from) × (s.first ≡ first) × AreRows x from.revision true s.rows) old new result

-- the place of the newest
abbrev pub FindsVersion : {P : Type 0} → Ghosts P → P → P → Path → ℕ → ℕ → Result Place Stop → Type 0
FindsVersion G old new p first last result = Finds G (λ x. versions_denied x p first last) (λ x a. a ≡ place (newer first last) p) old new result

-- by the tree of its revision
abbrev pub HasVersion : PathMap → Path → ℕ → ℕ → Result Place Stop → Type 0
HasVersion tree p first last result = Decides (version_denied first last p (finite.get tree p)) (λ a. a ≡ place (newer first last) p) result

-- ---- of a directory

-- the entry of the first of what is to come, and no entry behind the last
abbrev pub FindsEntry : {P : Type 0} → Ghosts P → P → P → List (Name × Node) → List (Name × Node) → Result (Option Dirent) Stop → Type 0
FindsEntry G old new before after result =
    Finds G (λ x. None) (λ x r. MatchOption r (map (entry_of x) before ≡ []) (λ d. map (entry_of x) before ≡ dirent_as d ∷ map (entry_of x) after)) old new result
