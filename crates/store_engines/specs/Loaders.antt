-- A load, record by record.
use Rattle.std.specs.Prelude.{◌≡◌, ℕ, Bool, List, [], ◌∷◌, ◌++◌, Option, Result, Ok, Err, IfSome}
use Rattle.std.specs.List.{filter}
use Rattle.byte_streams.specs.Causes.{Rose}
use Rattle.byte_streams.specs.declared.input.Input.{Ghosts as InputGhosts}
use Rattle.node_base.specs.declared.refusal.Refusal.{Refusal}
use Rattle.node_base.specs.declared.refusal.Refusal.TheVariants as refusal
use Rattle.dump_text.specs.Streams.{dump_by, records_of}
use Rattle.dump_text.specs.declared.record.DumpRecord.{DumpRecord}
use Rattle.fleet_disk.specs.declared.disk.Disk.{Ghosts}
use Rattle.repo_core.specs.Repository.{Repository}
use Rattle.repo_store.specs.Words.{repository_of}
use Rattle.repo_store.specs.declared.store.RepoStore.{RepoStore}
use Rattle.fleet_engines.specs.Grouping.{is_no_identity, records_of_rev}
use Rattle.fleet_engines.specs.Histories.{open_in, rev_read}
use Rattle.fleet_engines.specs.Revisions.{Rev}
use Rattle.fleet_engines.specs.Takers.{Place}
use Rattle.fleet_engines.specs.declared.open_revision.ReadRevision.{ReadRevision}
use Rattle.store_engines.specs.Devices.{IsSafe}
use Rattle.store_engines.specs.Loads.{read_of, CantClose, CantTake, Gathered, Loaded, LoadsOne, Moves, NotLoaded, Refused, ServesRecords, Stands}
use Rattle.store_engines.specs.Mirrors.{IsNoMirror}
use Rattle.store_engines.specs.Telling.{KeepsTold}
use Rattle.store_engines.specs.declared.load.Loader.{Loader}
use Rattle.store_engines.specs.declared.report.LoadReport.{Ghosts as ReportGhosts}

-- the revision that is still read
abbrev pub last_of : Loader → Option Rev
last_of loader = open_in loader.last

-- what a call with this answer did, that had these records ahead: the entries that it took are theirs, and all that was told stands
pub record Goes {D T : Type 0} {G : Ghosts D} (R : ReportGhosts T) (ahead : List DumpRecord) (p q : Place Loader (RepoStore D G) T) (result : Result (Unit {0}) Refusal) (left : List DumpRecord) : Type 0 where
  pub served : IsSafe p.store → ServesRecords ahead p.store q.store result left
  pub told : KeepsTold p.store q.store (R.told p.output) (R.told q.output)

-- the records are these, of what the store and the report have
abbrev pub StandsAt : {D T : Type 0} {G : Ghosts D} → ReportGhosts T → Repository → List DumpRecord → Option (List ℕ) → Place Loader (RepoStore D G) T → Type 0
StandsAt R x rs start p = Stands x rs (repository_of p.store) (last_of p.taker) start (R.contents p.output)

-- a record more is taken
pub record TakesRecord {D T : Type 0} {G : Ghosts D} (R : ReportGhosts T) (p : Place Loader (RepoStore D G) T) (next : DumpRecord) (q : Place Loader (RepoStore D G) T) : Type 0 where
  pub moves : Moves (repository_of p.store) (last_of p.taker) (R.contents p.output) (next ∷ []) (repository_of q.store) (last_of q.taker) (R.contents q.output)
  pub goes : Goes R (read_of (last_of p.taker) ++ filter is_no_identity (next ∷ [])) p q (Ok tt) (read_of (last_of q.taker))
  pub works : R.failures q.output ≡ R.failures p.output

-- it isn't
pub record RefusesRecord {D T : Type 0} {G : Ghosts D} (R : ReportGhosts T) (p : Place Loader (RepoStore D G) T) (next : DumpRecord) (e : Refusal) (q : Place Loader (RepoStore D G) T) : Type 0 where
  pub why : (x : Repository) (rs : List DumpRecord) (start : Option (List ℕ)) → StandsAt R x rs start p → CantTake x rs next q.store start (R.contents q.output) (Rose (R.failures p.output) (R.failures q.output)) e
  pub goes : Goes R (read_of (last_of p.taker) ++ filter is_no_identity (next ∷ [])) p q (Err e) (read_of (last_of q.taker))

-- the revision that is read is whole, and is loaded
pub record EndsLoad {D T : Type 0} {G : Ghosts D} (R : ReportGhosts T) (p q : Place Loader (RepoStore D G) T) : Type 0 where
  pub gathers : (x : Repository) (rs : List DumpRecord) (start : Option (List ℕ)) → StandsAt R x rs start p → Gathered x rs (repository_of q.store) start (R.contents q.output)
  pub goes : Goes R (read_of (last_of p.taker)) p q (Ok tt) []

-- it isn't
pub record CantEndLoad {D T : Type 0} {G : Ghosts D} (R : ReportGhosts T) (p : Place Loader (RepoStore D G) T) (e : Refusal) (q : Place Loader (RepoStore D G) T) : Type 0 where
  pub why : (x : Repository) (rs : List DumpRecord) (start : Option (List ℕ)) → StandsAt R x rs start p → CantClose x rs q.store start (R.contents q.output) (Rose (R.failures p.output) (R.failures q.output)) e
  pub goes : Goes R (read_of (last_of p.taker)) p q (Err e) []

-- the revision is loaded into the store, and the report is told
abbrev pub LoadsRevision : {D T : Type 0} {G : Ghosts D} → ReportGhosts T → ReadRevision → RepoStore D G → T → RepoStore D G → T → Type 0
LoadsRevision R revision old before new now = LoadsOne (repository_of old) (rev_read revision) (repository_of new) (R.contents before) (R.contents now)

-- it isn't
abbrev pub RefusesRevision : {D T : Type 0} {G : Ghosts D} → ReportGhosts T → ReadRevision → RepoStore D G → T → RepoStore D G → T → Refusal → Type 0
RefusesRevision R revision old before new now e =
    NotLoaded (repository_of old) (rev_read revision) new (R.contents before) (R.contents now) (Rose (R.failures before) (R.failures now)) e

-- what was done to the device of a store that was safe is that revision's
abbrev pub ServesRevision : {D : Type 0} {G : Ghosts D} → ReadRevision → RepoStore D G → RepoStore D G → Result (Unit {0}) Refusal → Type 0
ServesRevision revision old new result = IsSafe old → ServesRecords (records_of_rev (rev_read revision)) old new result []

-- it is that of the revision that was read, and of the next record
abbrev pub ServesNext : {D : Type 0} {G : Ghosts D} → Loader → RepoStore D G → DumpRecord → Loader → RepoStore D G → Result (Unit {0}) Refusal → Type 0
ServesNext before old next after new result = IsSafe old → ServesRecords (read_of (last_of before) ++ filter is_no_identity (next ∷ [])) old new result (read_of (last_of after))

-- whatever records stood, the next one makes them stand as they do then
abbrev pub MovesTo : {D T : Type 0} {G : Ghosts D} → ReportGhosts T → Place Loader (RepoStore D G) T → DumpRecord → Place Loader (RepoStore D G) T → Type 0
MovesTo R p next q = Moves (repository_of p.store) (last_of p.taker) (R.contents p.output) (next ∷ []) (repository_of q.store) (last_of q.taker) (R.contents q.output)

-- whatever records stood, the next one isn't taken
abbrev pub StopsAt : {D T : Type 0} {G : Ghosts D} → ReportGhosts T → Place Loader (RepoStore D G) T → DumpRecord → Refusal → Place Loader (RepoStore D G) T → Type 0
StopsAt R p next e q = (x : Repository) (rs : List DumpRecord) (start : Option (List ℕ)) → StandsAt R x rs start p → CantTake x rs next q.store start (R.contents q.output) (Rose (R.failures p.output) (R.failures q.output)) e

-- whatever records stood, they are whole revisions, which are loaded
abbrev pub Gathers : {D T : Type 0} {G : Ghosts D} → ReportGhosts T → Place Loader (RepoStore D G) T → Place Loader (RepoStore D G) T → Type 0
Gathers R p q = (x : Repository) (rs : List DumpRecord) (start : Option (List ℕ)) → StandsAt R x rs start p → Gathered x rs (repository_of q.store) start (R.contents q.output)

-- whatever records stood, the last revision of them isn't loaded
abbrev pub StopsAtEnd : {D T : Type 0} {G : Ghosts D} → ReportGhosts T → Place Loader (RepoStore D G) T → Refusal → Place Loader (RepoStore D G) T → Type 0
StopsAtEnd R p e q = (x : Repository) (rs : List DumpRecord) (start : Option (List ℕ)) → StandsAt R x rs start p → CantClose x rs q.store start (R.contents q.output) (Rose (R.failures p.output) (R.failures q.output)) e

-- an input of known bytes is a dump, which is loaded whole
abbrev pub LoadsDump : {I D T : Type 0} {G : Ghosts D} → InputGhosts I → ReportGhosts T → Bool → I → RepoStore D G → T → RepoStore D G → T → Type 0
LoadsDump J R deltas input old before new now = IfSome (J.remaining input) (λ bytes. Loaded deltas (repository_of old) bytes (repository_of new) (R.contents before) (R.contents now))

-- it is refused over a store that is no mirror's, and what was loaded before stays
abbrev pub RefusesLoad : {I D T : Type 0} {G : Ghosts D} → InputGhosts I → ReportGhosts T → Bool → I → RepoStore D G → T → RepoStore D G → T → Refusal → Type 0
RefusesLoad J R deltas input old before new now e =
    IsNoMirror old → IfSome (J.remaining input) (λ bytes. Refused deltas (repository_of old) bytes new (R.contents before) (R.contents now) (Rose (R.failures before) (R.failures now)) e)

-- it is refused by a mirror: nothing is loaded, read or told
abbrev pub RefusesAsMirror : {I D T : Type 0} {G : Ghosts D} → InputGhosts I → ReportGhosts T → I → RepoStore D G → T → I → RepoStore D G → T → Refusal → Type 0
RefusesAsMirror J R from old before to new now e =
    (e ≡ refusal.ReadOnly) × (repository_of new ≡ repository_of old) × (J.remaining to ≡ J.remaining from) × (R.contents now ≡ R.contents before)

-- what was done to the store's device is that of an input's records, where its bytes are known
abbrev pub ServesDump : {I D : Type 0} {G : Ghosts D} → InputGhosts I → Bool → I → RepoStore D G → RepoStore D G → Result (Unit {0}) Refusal → Type 0
ServesDump J deltas input old new result = IfSome (J.remaining input) (λ bytes. ServesRecords (filter is_no_identity (records_of (dump_by deltas bytes))) old new result [])
