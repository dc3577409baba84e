-- What a reading client asks: the table of the items that are which, as the protocol's prototypes have them. What stands behind the
-- last element of a prototype is ignored.
use Rattle.std.specs.Prelude.{◌≡◌, ℕ, Bool, true, false, List, [], ◌∷◌, map, Option, None, Result, Ok, Err, codes}
use Rattle.std.specs.List.{list_any}
use Rattle.std.specs.Str.{bytes_eq}
use Rattle.ra_item.specs.Items.{Item, Items, End, Then, Word, Nested}
use Rattle.node_base.specs.Path.{Path}
use Rattle.ra_wire.specs.Commands as plain
use Rattle.browse_wire.specs.Depths.{IsDepth, word_of, all_below, or_files, or_empty, or_all}
use Rattle.browse_wire.specs.Fields.{IsNumber, IsText, IsTruth, IsPath, Maybe, Listed, First, OrMissing}
use Rattle.browse_wire.specs.declared.depth.DepthWord.{DepthWord}
use Rattle.browse_wire.specs.declared.depth.DepthWord.TheVariants as depth
use Rattle.browse_wire.specs.declared.fault.BrowseFault.{BrowseFault}
use Rattle.browse_wire.specs.declared.fault.BrowseFault.TheVariants as fault
use Rattle.browse_wire.specs.declared.ask.BrowseCommand as declared
use Rattle.browse_wire.specs.declared.ask.BrowseCommand.TheVariants as coded
use Rattle.browse_wire.specs.declared.ask.RevpropsWanted as declared_revprops
use Rattle.browse_wire.specs.declared.ask.RevpropsWanted.TheVariants as wanted

-- which properties of a revision are wanted with its entry: author, date and message, all, or these
pub data Revprops : Type 0 where
  Usual : Revprops
  Every : Revprops
  These : List (List ℕ) → Revprops

-- the entries of which revisions are wanted, and what in them
pub record LogAsk : Type 0 where
  pub paths : List Path
  pub start : Option ℕ
  pub end : Option ℕ
  pub changed_paths : Bool
  pub strict : Bool
  pub limit : ℕ
  pub merged : Bool
  pub revprops : Revprops

-- what a client asks, with a word for a depth where one is asked
pub data Ask : Type 0 where
  Plain : plain.Command → Ask
  Stat : Path → Option ℕ → Ask
  Log : LogAsk → Ask
  Locations : Path → ℕ → List ℕ → Ask
  Segments : Path → Option ℕ → Option ℕ → Option ℕ → Ask
  FileRevs : Path → Option ℕ → Option ℕ → Bool → Ask
  Reparent : List ℕ → Ask
  GetLock : Path → Ask
  GetLocks : Path → DepthWord → Ask
  Update : Option ℕ → Path → DepthWord → Bool → Bool → Ask
  Switch : Option ℕ → Path → List ℕ → DepthWord → Bool → Bool → Ask
  Status : Option ℕ → Path → DepthWord → Ask
  Diff : Option ℕ → Path → List ℕ → DepthWord → Bool → Bool → Ask
  DatedRev : List ℕ → Ask

-- ---- the parameters of each

-- path [ rev ]
abbrev pub IsStat : Path → Option ℕ → Items → Type 0
IsStat p n xs = (a b : Items) × First IsPath p xs a × First (Maybe IsNumber) n a b

-- nothing, which stands for the usual ones, or the word all-revprops, or the word revprops and a list of names
abbrev pub IsRevprops : Revprops → Items → Type 0
IsRevprops Usual xs = xs ≡ End
IsRevprops Every xs = (more : Items) × (xs ≡ Then (Word (codes "all-revprops")) more)
IsRevprops (These names) xs = (a b : Items) × (xs ≡ Then (Word (codes "revprops")) a) × First (Listed IsText) names a b

-- ( path .. ) [ start ] [ end ] changed-paths strict-node ? limit ? include-merged-revisions ? revprops
abbrev pub IsLog : LogAsk → Items → Type 0
IsLog l xs = (a b c d e f g : Items) × First (Listed IsPath) l.paths xs a × First (Maybe IsNumber) l.start a b × First (Maybe IsNumber) l.end b c
    × First IsTruth l.changed_paths c d × First IsTruth l.strict d e
    × OrMissing (First IsNumber) 0 l.limit e f × OrMissing (First IsTruth) false l.merged f g × IsRevprops l.revprops g

-- path peg ( rev .. )
abbrev pub AreLocations : Path → ℕ → List ℕ → Items → Type 0
AreLocations p peg ns xs = (a b c : Items) × First IsPath p xs a × First IsNumber peg a b × First (Listed IsNumber) ns b c

-- path [ peg ] [ start ] [ end ]
abbrev pub AreSegments : Path → Option ℕ → Option ℕ → Option ℕ → Items → Type 0
AreSegments p peg start end xs = (a b c d : Items) × First IsPath p xs a × First (Maybe IsNumber) peg a b × First (Maybe IsNumber) start b c × First (Maybe IsNumber) end c d

-- path [ start ] [ end ] ? include-merged-revisions
abbrev pub AreFileRevs : Path → Option ℕ → Option ℕ → Bool → Items → Type 0
AreFileRevs p start end merged xs = (a b c d : Items) × First IsPath p xs a × First (Maybe IsNumber) start a b × First (Maybe IsNumber) end b c × OrMissing (First IsTruth) false merged c d

-- path ? [ depth ]
abbrev pub AreLocks : Path → DepthWord → Items → Type 0
AreLocks p d xs = (a b : Items) × (o : Option DepthWord) × First IsPath p xs a × OrMissing (First (Maybe IsDepth)) None o a b × (d ≡ or_all o)

-- [ rev ] target recurse ? depth send-copyfrom ignore-ancestry
abbrev pub IsUpdate : Option ℕ → Path → DepthWord → Bool → Bool → Items → Type 0
IsUpdate n p depth copies ignores xs = (a b c d e f : Items) × (recurse : Bool) × First (Maybe IsNumber) n xs a × First IsPath p a b × First IsTruth recurse b c
    × OrMissing (First IsDepth) (or_files recurse) depth c d × OrMissing (First IsTruth) false copies d e × OrMissing (First IsTruth) false ignores e f

-- [ rev ] target recurse url ? depth send-copyfrom ignore-ancestry
abbrev pub IsSwitch : Option ℕ → Path → List ℕ → DepthWord → Bool → Bool → Items → Type 0
IsSwitch n p url depth copies ignores xs = (a b c d e f g : Items) × (recurse : Bool) × First (Maybe IsNumber) n xs a × First IsPath p a b × First IsTruth recurse b c × First IsText url c d
    × OrMissing (First IsDepth) (or_files recurse) depth d e × OrMissing (First IsTruth) false copies e f × OrMissing (First IsTruth) false ignores f g

-- target recurse ? [ rev ] depth
abbrev pub IsStatus : Option ℕ → Path → DepthWord → Items → Type 0
IsStatus n p depth xs = (a b c d : Items) × (recurse : Bool) × First IsPath p xs a × First IsTruth recurse a b
    × OrMissing (First (Maybe IsNumber)) None n b c × OrMissing (First IsDepth) (or_empty recurse) depth c d

-- [ rev ] target recurse ignore-ancestry url ? text-deltas depth
abbrev pub IsDiff : Option ℕ → Path → List ℕ → DepthWord → Bool → Bool → Items → Type 0
IsDiff n p url depth ignores texts xs = (a b c d e f g : Items) × (recurse : Bool) × First (Maybe IsNumber) n xs a × First IsPath p a b × First IsTruth recurse b c × First IsTruth ignores c d × First IsText url d e
    × OrMissing (First IsTruth) true texts e f × OrMissing (First IsDepth) (or_files recurse) depth f g

-- ---- the table

abbrev pub Forms : Ask → Item → Type 0
Forms (Plain c) item = plain.Forms c item
Forms (Stat p n) item = plain.Asks (codes "stat") (IsStat p n) item
Forms (Log l) item = plain.Asks (codes "log") (IsLog l) item
Forms (Locations p peg ns) item = plain.Asks (codes "get-locations") (AreLocations p peg ns) item
Forms (Segments p peg start end) item = plain.Asks (codes "get-location-segments") (AreSegments p peg start end) item
Forms (FileRevs p start end merged) item = plain.Asks (codes "get-file-revs") (AreFileRevs p start end merged) item
Forms (Reparent url) item = plain.Asks (codes "reparent") (λ xs. (a : Items) × First IsText url xs a) item
Forms (GetLock p) item = plain.Asks (codes "get-lock") (λ xs. (a : Items) × First IsPath p xs a) item
Forms (GetLocks p d) item = plain.Asks (codes "get-locks") (AreLocks p d) item
Forms (Update n p d copies ignores) item = plain.Asks (codes "update") (IsUpdate n p d copies ignores) item
Forms (Switch n p url d copies ignores) item = plain.Asks (codes "switch") (IsSwitch n p url d copies ignores) item
Forms (Status n p d) item = plain.Asks (codes "status") (IsStatus n p d) item
Forms (Diff n p url d ignores texts) item = plain.Asks (codes "diff") (IsDiff n p url d ignores texts) item
Forms (DatedRev date) item = plain.Asks (codes "get-dated-rev") (λ xs. (a : Items) × First IsText date xs a) item

-- ---- what is refused

-- names beside those of `plain.names`
abbrev pub own_names : List (List ℕ)
own_names = codes "stat" ∷ codes "log" ∷ codes "get-locations" ∷ codes "get-location-segments" ∷ codes "get-file-revs" ∷ codes "reparent"
    ∷ codes "get-lock" ∷ codes "get-locks" ∷ codes "update" ∷ codes "switch" ∷ codes "status" ∷ codes "diff" ∷ codes "get-dated-rev" ∷ []

abbrev pub is_own_name : List ℕ → Bool
is_own_name w = list_any (bytes_eq w) own_names

-- an item whose name is one of these
abbrev pub is_own : Item → Bool
is_own (Nested (Then (Word w) xs)) = is_own_name w
is_own _ = false

-- a command of another name, whatever its parameters are
abbrev pub IsUnknown : Item → Type 0
IsUnknown item = plain.IsUnknown item × (is_own item ≡ false)

-- a command that asks for the depth `exclude`
abbrev pub depth_of : Ask → DepthWord
depth_of (GetLocks p d) = d
depth_of (Update n p d copies ignores) = d
depth_of (Switch n p url d copies ignores) = d
depth_of (Status n p d) = d
depth_of (Diff n p url d ignores texts) = d
depth_of _ = all_below

abbrev pub IsExcluded : Item → Type 0
IsExcluded item = (a : Ask) × Forms a item × (depth_of a ≡ depth.Excluded)

-- neither a command nor one of these
pub record IsBad (item : Item) : Type 0 where
  pub no_ask : (a : Ask) → Forms a item → ⊥
  pub known : IsUnknown item → ⊥
  pub no_replay : plain.IsOtherReplay item → ⊥

-- ---- as they are in code

abbrev pub revprops_as : declared_revprops.RevpropsWanted → Revprops
revprops_as wanted.Usual = Usual
revprops_as wanted.Every = Every
revprops_as (wanted.These names) = These (map (λ t. t.items) names.items)

abbrev pub ask_as : declared.BrowseCommand → Ask
ask_as (coded.Plain c) = Plain (plain.command_as c)
ask_as (coded.Stat p n) = Stat p n
ask_as (coded.Log l) = Log (record { paths = l.paths.items; start = l.start; end = l.end; changed_paths = l.changed_paths; strict = l.strict; limit = l.limit; merged = l.merged; revprops = revprops_as l.revprops })
ask_as (coded.GetLocations p peg ns) = Locations p peg ns.items
ask_as (coded.GetLocationSegments p peg start end) = Segments p peg start end
ask_as (coded.GetFileRevs p start end merged) = FileRevs p start end merged
ask_as (coded.Reparent url) = Reparent url.items
ask_as (coded.GetLock p) = GetLock p
ask_as (coded.GetLocks p d) = GetLocks p (word_of d)
ask_as (coded.Update u) = Update u.revision u.target (word_of u.depth) u.copies u.ignores_ancestry
ask_as (coded.Switch s) = Switch s.revision s.target s.url.items (word_of s.depth) s.copies s.ignores_ancestry
ask_as (coded.Status s) = Status s.revision s.target (word_of s.depth)
ask_as (coded.Diff d) = Diff d.revision d.target d.url.items (word_of d.depth) d.ignores_ancestry d.texts
ask_as (coded.GetDatedRev date) = DatedRev date.items

-- what an item is taken for, unless memory ran out
abbrev pub Judged : Item → Result declared.BrowseCommand BrowseFault → Type 0
Judged item (Ok c) = Forms (ask_as c) item
Judged item (Err fault.UnknownCommand) = IsUnknown item
Judged item (Err fault.ReplayForm) = plain.IsOtherReplay item
Judged item (Err fault.ExcludedDepth) = IsExcluded item
Judged item (Err fault.BadShape) = IsBad item
Judged item (Err fault.OutOfMemory) = Unit {0}
