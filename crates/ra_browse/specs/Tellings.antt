-- What the calls that answer say of their port and their writer.
use Rattle.std.specs.Prelude.{◌≡◌, ◌⊎◌, ℕ, suc, ◌++◌, take, Bool, true, List, [], Option, Some, None, Result, Ok, Err, if◌then◌else◌}
use Rattle.std.specs.Io.KnownBytes.{Appends}
use Rattle.fleet_disk.specs.Rules.{Rose}
use Rattle.node_base.specs.Path.{Path}
use Rattle.node_base.specs.Tree.{PathMap}
use Rattle.repo_core.specs.Repository.{Repository, trees_of}
use Rattle.browse_wire.specs.Asks.{Ask, LogAsk}
use Rattle.browse_wire.specs.AskReading.{Reading}
use Rattle.browse_wire.specs.Urls.{Url}
use Rattle.browse_wire.specs.declared.url.UrlFault.{UrlFault}
use Rattle.ra_wire.specs.Answers.{dirent_as}
use Rattle.ra_wire.specs.declared.dirent.Dirent as declared_dirent
use Rattle.ra_serve.specs.declared.fault.PortFault.{PortFault}
use Rattle.ra_serve.specs.Answers.{asked, node_in}
use Rattle.ra_serve.specs.Ports.{tree_of}
use Rattle.ra_denial.specs.Denials.{unless_denied}
use Rattle.ra_denial.specs.Halts.{IsCalm}
use Rattle.ra_denial.specs.Places.{url_denied, moved_to}
use Rattle.ra_denial.specs.declared.stop.Stop.{Stop}
use Rattle.ra_denial.specs.declared.stop.Stop.TheVariants as stop
use Rattle.ra_browse.specs.declared.made.Made as declared_made
use Rattle.ra_browse.specs.declared.look.Seen as declared_seen
use Rattle.ra_item.specs.Items.{spell}
use Rattle.ra_wire.specs.Replies.{done}
use Rattle.browse_wire.specs.Told.{end_item}
use Rattle.path_history.specs.declared.place.Place.{Place}
use Rattle.path_history.specs.Places.{place}
use Rattle.ra_history.specs.Rows.{props_of}
use Rattle.ra_history.specs.declared.range.LogRange.{LogRange}
use Rattle.ra_log.specs.Entries.{entries_told}
use Rattle.ra_log.specs.Versions.{versions_told}
use Rattle.ra_log.specs.declared.rows.LogRows as declared_rows
use Rattle.ra_browse.specs.declared.location.Sought as declared_sought
use Rattle.ra_browse.specs.declared.log.LogSought as declared_log
use Rattle.ra_browse.specs.declared.versions.VersionsSought as declared_versions
use Rattle.ra_browse.specs.Histories.{Found, FindsPlaces, FindsLog, FindsVersions, newest, places_below, places_told, places_of, numbers_of, found_denied}
use Rattle.ra_browse.specs.Answers.{Made, made_for, told, answer, MayHalt, MayFind, MayHave, entries_wanted}
use Rattle.std.specs.Option.{option_map}
use Rattle.std.specs.Prelude.{map}

-- ---- as values are in code

abbrev pub made_as : declared_made.Made → Made
made_as m = record { date = option_map (λ t. t.items) m.date; author = option_map (λ t. t.items) m.author }

-- ---- what is looked for

-- what stands at a path of a revision
pub record IsSeen (x : Repository) (p : Path) (n : Option ℕ) (s : declared_seen.Seen) : Type 0 where
  pub number : s.number ≡ asked x n
  pub tree : s.tree ≡ tree_of x (asked x n)
  pub names : s.names.items ≡ p
  pub identity : s.identity ≡ x.identity
  pub made : made_as s.made ≡ made_for x (node_in x (asked x n) p)

-- the entries of a directory, where they are wanted
abbrev pub AreEntries : Repository → Bool → Path → PathMap → List declared_dirent.Dirent → Type 0
AreEntries x wanted p tree es = map dirent_as es ≡ entries_wanted wanted x p tree

-- ---- histories

-- a place, the revisions that are asked for, and the sets up to the newest of all
pub record IsSought (x : Repository) (a : Place) (ns : List ℕ) (s : declared_sought.Sought) : Type 0 where
  pub from : s.from ≡ a
  pub numbers : s.numbers.items ≡ ns
  pub sets : s.sets.items ≡ take (suc (newest a.revision ns)) x.sets

-- what was found of the places, and whether it may be told, is told behind them
pub record TellsFound (Is : Found → Type 0) (before now : Option (List ℕ)) : Type 0 where
  pub found : Found
  pub is : Is found
  pub bytes : Appends before now ((places_told (places_of found) ++ spell end_item) ++ unless_denied (found_denied found) (spell done))

abbrev pub TellsLocations : declared_sought.Sought → Option (List ℕ) → Option (List ℕ) → Type 0
TellsLocations s before now = TellsFound (FindsPlaces s.sets.items s.from s.numbers.items) before now

-- ---- logs

-- what a log looks at, up to a revision
pub record AreRows (x : Repository) (last : ℕ) (wanted : Bool) (r : declared_rows.LogRows) : Type 0 where
  pub sets : r.sets.items ≡ take (suc last) x.sets
  pub props : r.props.items ≡ take (suc last) (props_of x.revisions)
  pub trees : r.trees.items ≡ (if wanted then take (suc last) (trees_of x.revisions) else [])

-- the places of which a log is told, its range, and what it looks at, up to a revision
pub record IsLogSought (x : Repository) (last : ℕ) (base : Path) (l : LogAsk) (from_to : LogRange) (s : declared_log.LogSought) : Type 0 where
  pub places : s.places.items ≡ places_below last base l
  pub range : s.range ≡ from_to
  pub rows : AreRows x last l.changed_paths s.rows

-- what was found of the revisions, and whether it may be told, is told behind their entries
pub record TellsLogged (l : LogAsk) (s : declared_log.LogSought) (before now : Option (List ℕ)) : Type 0 where
  pub found : Found
  pub is : FindsLog s.rows.sets.items s.range s.places.items found
  pub bytes : Appends before now ((entries_told l s.rows.sets.items s.rows.props.items s.rows.trees.items (numbers_of found) ++ spell end_item) ++ unless_denied (found_denied found) (spell done))

-- ---- versions of a file

-- the place of a file, from which revision on its versions are told, and what they are told by, up to that place
pub record AreVersionsSought (x : Repository) (p : Path) (first last : ℕ) (s : declared_versions.VersionsSought) : Type 0 where
  pub from : s.from ≡ place last p
  pub begins : s.first ≡ first
  pub rows : AreRows x last true s.rows

-- what was found of the places, and whether it may be told, is told behind the versions there
pub record TellsVersions (s : declared_versions.VersionsSought) (before now : Option (List ℕ)) : Type 0 where
  pub found : Found
  pub is : FindsVersions s.rows.sets.items s.from s.first found
  pub bytes : Appends before now ((versions_told s.rows.props.items s.rows.trees.items None (places_of found) ++ spell end_item) ++ unless_denied (found_denied found) (spell done))

-- ---- answers

-- behind what the writer held stands what a command is told, where what is told of histories is what these have, and the port refused
-- it by itself only if its count rose
pub record Replied (x : Repository) (at : Url) (c : Ask) (rose : Type 0) (before now : Option (List ℕ)) : Type 0 where
  pub halt : Option PortFault
  pub found : Found
  pub has : MayFind x at c halt found
  pub lawful : MayHalt (Ok c) halt
  pub counted : IsCalm halt ⊎ rose
  pub bytes : Appends before now (told x at c found halt)

-- the same of an item
pub record Answered (x : Repository) (at : Url) (read : Reading) (rose : Type 0) (before now : Option (List ℕ)) : Type 0 where
  pub halt : Option PortFault
  pub found : Found
  pub has : MayHave x at read halt found
  pub lawful : MayHalt read halt
  pub counted : IsCalm halt ⊎ rose
  pub bytes : Appends before now (answer x at read found halt)

-- a call told a command: where the port's repository was known
abbrev pub Tells : {P W : Type 0} → (P → Option Repository) → (P → ℕ) → (W → Option (List ℕ)) → Url → Ask → P → P → W → W → Type 0
Tells repository refusals contents at c old new before now =
    (x : Repository) → repository old ≡ Some x → Replied x at c (Rose (refusals old) (refusals new)) (contents before) (contents now)

-- it answered an item
abbrev pub Answers : {P W : Type 0} → (P → Option Repository) → (P → ℕ) → (W → Option (List ℕ)) → Url → Reading → P → P → W → W → Type 0
Answers repository refusals contents at read old new before now =
    (x : Repository) → repository old ≡ Some x → Answered x at read (Rose (refusals old) (refusals new)) (contents before) (contents now)

-- ---- where the session stands

-- a step to another URL was made, or it was denied, or memory ran out, and then the session stands where it stood
abbrev pub MayMove : Url → Url → Result Url UrlFault → Result (Unit {0}) Stop → Type 0
MayMove old new read (Ok u) = (url_denied old read ≡ None) × (new ≡ moved_to old read)
MayMove old new read (Err (stop.Denied d)) = (url_denied old read ≡ Some d) × (new ≡ old) × (new ≡ moved_to old read)
MayMove old new read (Err (stop.Port f)) = ⊥
MayMove old new read (Err stop.OutOfMemory) = new ≡ old
