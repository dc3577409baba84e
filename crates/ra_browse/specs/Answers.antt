-- What a reading client's commands are answered, by what stands in the repository and where the session stands.
use Rattle.std.specs.Prelude.{◌≡◌, ℕ, ◌==◌, nat_lt, not, ◌&&◌, is_none, is_some, Bool, true, false, List, [], ◌∷◌, ◌++◌, map, length, Option, Some, None, unwrap_or, Ok, Err, codes, if◌then◌else◌}
use Rattle.std.specs.Fmt.{decimal}
use Rattle.std.specs.Option.{option_map}
use Rattle.std.specs.FinMap as finite
use Rattle.md5.specs.Md5.{md5}
use Rattle.hex.specs.Hex.{encode_lower}
use Rattle.node_base.specs.Limits.{fits}
use Rattle.node_base.specs.Path.{Path, Name}
use Rattle.node_base.specs.Props.{PropMap}
use Rattle.node_base.specs.Tree.{PathMap, kind_of}
use Rattle.node_base.specs.declared.node.Node.{Node}
use Rattle.dump_load.specs.Faults.{first_of, fault_if}
use Rattle.path_tree.specs.Children.{children_of}
use Rattle.repo_core.specs.Repository.{Repository, head_of, props_at}
use Rattle.ra_item.specs.Items.{Item, Word, Number, Text, spell}
use Rattle.ra_wire.specs.Answers.{Dirent}
use Rattle.ra_wire.specs.Commands as plain
use Rattle.ra_wire.specs.Commands.{truth_word}
use Rattle.ra_wire.specs.Replies.{list, success, string, properties, dirent, node_kind_word, number, proplist, value, kind_is, authorised, done}
use Rattle.browse_wire.specs.Asks.{Ask, Plain, Stat, Log, LogAsk, Locations, Segments, FileRevs, Reparent, GetLock, GetLocks, DatedRev}
use Rattle.browse_wire.specs.AskReading.{Reading}
use Rattle.browse_wire.specs.Told.{no_locks}
use Rattle.browse_wire.specs.Urls.{Url, url_read}
use Rattle.browse_wire.specs.declared.fault.BrowseFault.{BrowseFault}
use Rattle.browse_wire.specs.declared.fault.BrowseFault.TheVariants as browse
use Rattle.ra_serve.specs.declared.fault.PortFault.{PortFault}
use Rattle.ra_serve.specs.Answers.{asked, node_in, refused, text_wanted}
use Rattle.ra_serve.specs.Ports.{refusal_of, tree_of, IsOwn}
use Rattle.ra_serve.specs.Sessions.{identity_text}
use Rattle.ra_denial.specs.Denials.{denied, dir_denied, no_revision, unless_denied}
use Rattle.ra_denial.specs.Halts.{is_looked_at}
use Rattle.ra_denial.specs.Places.{moved_to, url_denied}
use Rattle.ra_denial.specs.declared.denial.Denial.{Denial}
use Rattle.ra_denial.specs.declared.denial.Denial.TheVariants as denial
use Rattle.path_history.specs.Places.{place}
use Rattle.ra_browse.specs.Dates.{is_date, newest_by}
use Rattle.ra_browse.specs.Histories.{Found, Nothing, FindsIf, FindsLogIf, FindsVersionsIf, newer, newest, newest_logged, range_logged, paths_below, places_logged, listed, found_denied}

-- ---- looking

-- when a revision was made, and by whom
pub record Made : Type 0 where
  pub date : Option (List ℕ)
  pub author : Option (List ℕ)

abbrev pub made_in : PropMap → Made
made_in props = record { date = finite.get props (codes "svn:date"); author = finite.get props (codes "svn:author") }

abbrev pub made_of : Repository → ℕ → Made
made_of x n = made_in (props_at x.revisions n)

-- of what stands somewhere: of the revision that last changed it
abbrev pub made_for : Repository → Option Node → Made
made_for x None = made_in finite.empty
made_for x (Some d) = made_of x d.changed

abbrev pub has_props : Node → Bool
has_props d = not (finite.len d.props == 0)

-- ---- a node

-- a directory has no size
abbrev pub size_told : Option (List ℕ) → ℕ
size_told None = 18446744073709551615
size_told (Some text) = length text

-- a date that isn't known is told as the first second of 1970, since a client needs one
abbrev pub date_told : Option (List ℕ) → Option (List ℕ)
date_told None = Some (codes "1970-01-01T00:00:00.000000Z")
date_told (Some date) = Some date

-- kind size has-props created-rev [ date ] [ author ]
abbrev pub node_told : Node → Made → Item
node_told d m = list (Word (node_kind_word (kind_of d)) ∷ Number (size_told d.text) ∷ Word (truth_word (has_props d)) ∷ Number d.changed ∷ string (date_told m.date) ∷ string m.author ∷ [])

abbrev pub stat_told : Option Node → Made → Item
stat_told None m = success (list [] ∷ [])
stat_told (Some d) m = success (list (node_told d m ∷ []) ∷ [])

-- ---- properties of a node

abbrev pub perhaps : List ℕ → Option (List ℕ) → List (Name × List ℕ)
perhaps name None = []
perhaps name (Some v) = (name, v) ∷ []

-- what is told as properties beside a node's own: which revision last changed it, when and by whom, and the repository's identity
abbrev pub entry_props : List ℕ → Node → Made → List (Name × List ℕ)
entry_props identity d m = (codes "svn:entry:committed-rev", decimal d.changed) ∷ (perhaps (codes "svn:entry:committed-date") m.date ++ (perhaps (codes "svn:entry:last-author") m.author ++ (codes "svn:entry:uuid", identity) ∷ []))

abbrev pub props_told : Bool → List ℕ → Node → Made → List (Name × List ℕ)
props_told wanted identity d m = if wanted then finite.entries d.props ++ entry_props identity d m else []

-- ---- files

-- a file that is looked at: nothing is there, or a directory
abbrev pub file_denied : Option Node → Option Denial
file_denied None = Some denial.NoPath
file_denied (Some f) = fault_if (is_none f.text) denial.NotFile

-- [ md5 ] rev ( props )
abbrev pub file_found : List ℕ → ℕ → List (Name × List ℕ) → Item
file_found sum n props = success (list (Text sum ∷ []) ∷ Number n ∷ properties props ∷ [])

abbrev pub file_with : ℕ → Bool → Bool → List ℕ → Made → Node → List ℕ → List ℕ
file_with n props contents identity m f text = spell (file_found (encode_lower (md5 text)) n (props_told props identity f m)) ++ text_wanted contents text

-- a file: its sum, the revision, its properties and its text, these two where they are wanted
abbrev pub file_bytes : ℕ → Bool → Bool → List ℕ → Made → Option Node → List ℕ
file_bytes n props contents identity m None = []
file_bytes n props contents identity m (Some f) = file_with n props contents identity m f (unwrap_or f.text [])

abbrev pub file_told : ℕ → Bool → Bool → List ℕ → Made → Option Node → List ℕ
file_told n props contents identity m f = unless_denied (file_denied f) (file_bytes n props contents identity m f)

-- ---- directories

-- an entry, with when and by whom it was last changed
abbrev pub entry_with : Name × Node → Made → Dirent
entry_with c m = record { name = c.0; kind = kind_of c.1; size = length (unwrap_or c.1.text []); has_props = has_props c.1; created = c.1.changed; date = date_told m.date; author = m.author }

abbrev pub entry_of : Repository → Name × Node → Dirent
entry_of x c = entry_with c (made_of x c.1.changed)

abbrev pub entries_in : Repository → List (Name × Node) → List Dirent
entries_in x cs = map (entry_of x) cs

-- what lies right in a directory, in the order of the names
abbrev pub entries_wanted : Bool → Repository → Path → PathMap → List Dirent
entries_wanted wanted x p tree = if wanted then entries_in x (children_of p tree) else []

-- rev ( props ) ( entry .. )
abbrev pub dir_found : ℕ → List (Name × List ℕ) → List Dirent → Item
dir_found n props entries = success (Number n ∷ properties props ∷ list (map dirent entries) ∷ [])

abbrev pub dir_bytes : ℕ → Bool → List ℕ → Made → List Dirent → Option Node → List ℕ
dir_bytes n props identity m entries None = []
dir_bytes n props identity m entries (Some d) = spell (dir_found n (props_told props identity d m) entries)

abbrev pub dir_told : ℕ → Bool → List ℕ → Made → List Dirent → Option Node → List ℕ
dir_told n props identity m entries d = unless_denied (dir_denied d) (dir_bytes n props identity m entries d)

-- ---- histories

-- a place that is looked for: nothing stands at a path past the limits of paths
abbrev pub place_denied : Path → Option Node → Option Denial
place_denied p d = fault_if (not (fits p && is_some d)) denial.NoPath

abbrev pub stood_denied : Repository → Path → ℕ → Option Denial
stood_denied x p n = first_of (no_revision x n ∷ place_denied p (node_in x n p) ∷ [])

abbrev pub locations_denied : Repository → Path → ℕ → List ℕ → Option Denial
locations_denied x p peg ns = first_of (stood_denied x p peg ∷ no_revision x (newest peg ns) ∷ [])

-- the first of some paths at which nothing stands
abbrev pub paths_denied : PathMap → List Path → Option Denial
paths_denied tree ps = first_of (map (λ p. place_denied p (finite.get tree p)) ps)

-- a log of paths below a base, up to a revision
abbrev pub logged_denied : Repository → ℕ → List Path → Option Denial
logged_denied x n ps = first_of (no_revision x n ∷ paths_denied (tree_of x n) ps ∷ [])

abbrev pub log_denied : Repository → Path → LogAsk → Option Denial
log_denied x base l = logged_denied x (newest_logged x l) (paths_below base l.paths)

-- versions from a revision to an older one
abbrev pub backward : ℕ → ℕ → Option Denial
backward first last = fault_if (nat_lt last first) denial.Unsupported

-- versions of what stands at a path of the newer of two revisions
abbrev pub version_denied : ℕ → ℕ → Path → Option Node → Option Denial
version_denied first last p f = first_of (backward first last ∷ place_denied p f ∷ file_denied f ∷ [])

abbrev pub versions_denied : Repository → Path → ℕ → ℕ → Option Denial
versions_denied x p first last = first_of (no_revision x (newer first last) ∷ version_denied first last p (node_in x (newer first last) p) ∷ [])

-- what is no date, and a repository without revisions
abbrev pub dated_denied : Repository → List ℕ → Option Denial
dated_denied x date = first_of (fault_if (not (is_date date)) denial.BadDate ∷ no_revision x (head_of x.revisions) ∷ [])

-- the newest revision that has a date which isn't later
abbrev pub dated : Repository → List ℕ → ℕ
dated x date = newest_by (props_at x.revisions) date (head_of x.revisions)

-- ---- the table

-- the commands that are answered
abbrev pub is_answered : Ask → Bool
is_answered (Plain (plain.ChangeProp n name v old)) = false
is_answered (Plain (plain.Replay n)) = false
is_answered (Plain (plain.ReplayRange a b)) = false
is_answered (Plain c) = true
is_answered (Stat p n) = true
is_answered (Log l) = true
is_answered (FileRevs p start end merged) = true
is_answered (Locations p peg ns) = true
is_answered (Reparent url) = true
is_answered (GetLock p) = true
is_answered (GetLocks p d) = true
is_answered (DatedRev date) = true
is_answered c = false

-- what the others are told: not supported, but for the one that a client does by logs where a server doesn't know it
abbrev pub unanswered : Ask → Denial
unanswered (Segments p peg start end) = denial.Unknown
unanswered c = denial.Unsupported

-- what is denied of a command where the session stands
abbrev pub browse_due : Repository → Url → Ask → Option Denial
browse_due x at (Plain (plain.CheckPath p n)) = no_revision x (asked x n)
browse_due x at (Plain (plain.GetFile p n props contents)) = first_of (no_revision x (asked x n) ∷ file_denied (node_in x (asked x n) (at.1 ++ p)) ∷ [])
browse_due x at (Plain (plain.GetDir p n props contents)) = first_of (no_revision x (asked x n) ∷ dir_denied (node_in x (asked x n) (at.1 ++ p)) ∷ [])
browse_due x at (Plain (plain.RevProplist n)) = no_revision x n
browse_due x at (Plain (plain.RevProp n name)) = no_revision x n
browse_due x at (Stat p n) = no_revision x (asked x n)
browse_due x at (Log l) = log_denied x at.1 l
browse_due x at (FileRevs p start end merged) = versions_denied x (at.1 ++ p) (asked x start) (asked x end)
browse_due x at (Locations p peg ns) = locations_denied x (at.1 ++ p) peg ns
browse_due x at (Reparent url) = url_denied at (url_read url)
browse_due x at (DatedRev date) = dated_denied x date
browse_due x at c = fault_if (not (is_answered c)) (unanswered c)

-- what it is told where nothing is, behind what was found of histories
abbrev pub browse_content : Repository → Url → Ask → List ℕ
browse_content x at (Plain plain.LatestRev) = spell (number (head_of x.revisions))
browse_content x at (Plain (plain.CheckPath p n)) = spell (kind_is (option_map kind_of (node_in x (asked x n) (at.1 ++ p))))
browse_content x at (Plain (plain.GetFile p n props contents)) = file_bytes (asked x n) props contents (identity_text x) (made_for x (node_in x (asked x n) (at.1 ++ p))) (node_in x (asked x n) (at.1 ++ p))
browse_content x at (Plain (plain.GetDir p n props contents)) = dir_bytes (asked x n) props (identity_text x) (made_for x (node_in x (asked x n) (at.1 ++ p))) (entries_wanted contents x (at.1 ++ p) (tree_of x (asked x n))) (node_in x (asked x n) (at.1 ++ p))
browse_content x at (Plain (plain.RevProplist n)) = spell (proplist (props_at x.revisions n))
browse_content x at (Plain (plain.RevProp n name)) = spell (value (finite.get (props_at x.revisions n) name))
browse_content x at (Stat p n) = spell (stat_told (node_in x (asked x n) (at.1 ++ p)) (made_for x (node_in x (asked x n) (at.1 ++ p))))
browse_content x at (Log l) = spell done
browse_content x at (FileRevs p start end merged) = spell done
browse_content x at (Locations p peg ns) = spell done
browse_content x at (Reparent url) = spell done
browse_content x at (GetLock p) = spell no_locks
browse_content x at (GetLocks p d) = spell no_locks
browse_content x at (DatedRev date) = spell (number (dated x date))
browse_content x at c = []

abbrev pub reply : Repository → Url → Ask → List ℕ
reply x at c = unless_denied (browse_due x at c) (browse_content x at c)

-- where the session stands behind a command: another URL moves it, and nothing else does
abbrev pub moved : Url → Ask → Url
moved at (Reparent url) = moved_to at (url_read url)
moved at c = at

-- ---- refusals of the port's own

-- the commands for which a repository is asked
abbrev pub asks_port : Ask → Bool
asks_port (Reparent url) = false
asks_port (GetLock p) = false
asks_port (GetLocks p d) = false
asks_port c = is_answered c

-- what a command is told behind a list, and how a list ends where the port refused by itself
abbrev pub verdict : Repository → Url → Ask → Found → Option PortFault → List ℕ
verdict x at c found None = unless_denied (found_denied found) (reply x at c)
verdict x at c found (Some f) = refused (refusal_of f)

abbrev pub told : Repository → Url → Ask → Found → Option PortFault → List ℕ
told x at c found h = listed x c found ++ verdict x at c found h

-- ---- items

-- what is told of an item that is no command
abbrev pub no_ask : BrowseFault → Denial
no_ask browse.UnknownCommand = denial.Unknown
no_ask browse.BadShape = denial.BadShape
no_ask browse.ReplayForm = denial.Unsupported
no_ask browse.ExcludedDepth = denial.Unsupported
no_ask browse.OutOfMemory = denial.BadShape

-- what an item is answered, a command or none
abbrev pub answer : Repository → Url → Reading → Found → Option PortFault → List ℕ
answer x at (Ok c) found h = if is_answered c then spell authorised ++ told x at c found h else denied (unanswered c)
answer x at (Err f) found h = denied (no_ask f)

abbrev pub behind : Url → Reading → Url
behind at (Ok c) = moved at c
behind at (Err f) = at

-- the port's own refusal is one of a command for which it is asked
abbrev pub MayHalt : Reading → Option PortFault → Type 0
MayHalt read None = Unit {0}
MayHalt (Ok c) (Some f) = IsOwn f × (asks_port c ≡ true)
MayHalt (Err e) (Some f) = ⊥

-- what is found is what the histories of the repository have, and nothing is for a command that asks for none
abbrev pub MayFind : Repository → Url → Ask → Option PortFault → Found → Type 0
MayFind x at (Locations p peg ns) h found = FindsIf (is_looked_at h (locations_denied x (at.1 ++ p) peg ns)) x.sets (place peg (at.1 ++ p)) ns found
MayFind x at (Log l) h found = FindsLogIf (is_looked_at h (log_denied x at.1 l)) x.sets (range_logged x l) (places_logged x at.1 l) found
MayFind x at (FileRevs p start end merged) h found = FindsVersionsIf (is_looked_at h (versions_denied x (at.1 ++ p) (asked x start) (asked x end))) x.sets (place (newer (asked x start) (asked x end)) (at.1 ++ p)) (asked x start) found
MayFind x at c h found = found ≡ Nothing

abbrev pub MayHave : Repository → Url → Reading → Option PortFault → Found → Type 0
MayHave x at (Ok c) h found = MayFind x at c h found
MayHave x at (Err f) h found = found ≡ Nothing
