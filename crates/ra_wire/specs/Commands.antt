-- Commands of a session: the table of the items that are which, as the protocol's prototypes have them.
use Rattle.std.specs.Prelude.{◌≡◌, ◌⊎◌, ⊤, ℕ, Bool, true, false, ◌&&◌, ◌==◌, List, [], ◌∷◌, ◌++◌, Option, Some, None, Result, Ok, Err, codes}
use Rattle.std.specs.Option.{option_map}
use Rattle.std.specs.List.{list_any}
use Rattle.std.specs.Str.{bytes_eq}
use Rattle.ra_item.specs.Items.{Item, Items, End, Then, Word, Number, Text, Nested}
use Rattle.node_base.specs.Path.{Path, Name}
use Rattle.node_base.specs.PathText.{path_read}
use Rattle.node_base.specs.Props.{prop_name_read}
use Rattle.ra_wire.specs.Params.{unslashed}
use Rattle.ra_wire.specs.declared.fault.WireFault.{WireFault}
use Rattle.ra_wire.specs.declared.fault.WireFault.TheVariants as fault
use Rattle.ra_wire.specs.declared.command.Command as declared
use Rattle.ra_wire.specs.declared.command.Command.TheVariants as coded
use Rattle.ra_wire.specs.declared.command.Previous as declared_previous
use Rattle.ra_wire.specs.declared.command.Previous.TheVariants as previous

-- the value that a change of a property replaces: any or none, none, this one
pub data Previous : Type 0 where
  Any : Previous
  Absent : Previous
  Value : List ℕ → Previous

-- what a client asks. A missing revision is the newest one
pub data Command : Type 0 where
  LatestRev : Command
  CheckPath : Path → Option ℕ → Command
  GetFile : Path → Option ℕ → Bool → Bool → Command
  GetDir : Path → Option ℕ → Bool → Bool → Command
  RevProplist : ℕ → Command
  RevProp : ℕ → Name → Command
  ChangeProp : ℕ → Name → Option (List ℕ) → Previous → Command
  Replay : ℕ → Command
  ReplayRange : ℕ → ℕ → Command

-- ---- places of a prototype

-- what stands at a place: a number, a string, a path, a property's name, a word that is true or false, any list, brackets without
-- anything or with something, and what a change replaces
pub data Place : Type 0 where
  ANumber : ℕ → Place
  AText : List ℕ → Place
  APath : Path → Place
  AName : Name → Place
  ATruth : Bool → Place
  AList : Place
  Empty : Place
  Holding : Place → Place
  Replacing : Previous → Place

abbrev pub truth_word : Bool → List ℕ
truth_word true = codes "true"
truth_word false = codes "false"

-- ( dont-care ? previous )
abbrev pub Replaces : Previous → Items → Type 0
Replaces Any xs = xs ≡ Then (Word (codes "true")) End
Replaces Absent xs = xs ≡ Then (Word (codes "false")) End
Replaces (Value v) xs = (more : Items) × (xs ≡ Then (Word (codes "false")) (Then (Text v) more))

-- a path stands behind one slash or none
abbrev pub IsAt : Place → Item → Type 0
IsAt (ANumber n) x = x ≡ Number n
IsAt (AText t) x = x ≡ Text t
IsAt (APath p) x = (t : List ℕ) × (x ≡ Text t) × (path_read (unslashed t) ≡ Ok p)
IsAt (AName n) x = (t : List ℕ) × (x ≡ Text t) × (prop_name_read t ≡ Ok n)
IsAt (ATruth b) x = x ≡ Word (truth_word b)
IsAt AList x = (xs : Items) × (x ≡ Nested xs)
IsAt Empty x = x ≡ Nested End
IsAt (Holding e) x = (y : Item) × (more : Items) × (x ≡ Nested (Then y more)) × IsAt e y
IsAt (Replacing p) x = (xs : Items) × (x ≡ Nested xs) × Replaces p xs

-- such an item in front, and behind it such items
abbrev pub First : Place → (Items → Type 0) → Items → Type 0
First e Rest End = ⊥
First e Rest (Then x xs) = IsAt e x × Rest xs

-- items with these in front; more is ignored
abbrev pub Begin : List Place → Items → Type 0
Begin [] xs = ⊤
Begin (e ∷ es) xs = First e (Begin es) xs

-- these items and no more
abbrev pub Are : List Place → Items → Type 0
Are [] xs = xs ≡ End
Are (e ∷ es) xs = First e (Are es) xs

-- these, and a last one that may be missing
abbrev pub AndPerhaps : List Place → Option Place → Items → Type 0
AndPerhaps es None xs = Are es xs
AndPerhaps es (Some e) xs = Begin (es ++ e ∷ []) xs

-- brackets that are empty or hold a place
abbrev pub optional : Option Place → Place
optional None = Empty
optional (Some e) = Holding e

-- ---- the table

-- ( name ( params .. ) .. )
abbrev pub IsNamed : List ℕ → Items → Item → Type 0
IsNamed name params item = (more : Items) × (item ≡ Nested (Then (Word name) (Then (Nested params) more)))

abbrev pub Asks : List ℕ → (Items → Type 0) → Item → Type 0
Asks name P item = (params : Items) × IsNamed name params item × P params

-- a list of fields that may be missing
abbrev pub perhaps_list : Bool → Option Place
perhaps_list true = Some AList
perhaps_list false = None

-- what a browser names: a path, a revision, whether properties and whether contents are wanted
abbrev pub looked_at : Path → Option ℕ → Bool → Bool → List Place
looked_at p n props contents = APath p ∷ optional (option_map ANumber n) ∷ ATruth props ∷ ATruth contents ∷ []

abbrev pub Forms : Command → Item → Type 0
Forms LatestRev item = Asks (codes "get-latest-rev") (Begin []) item
Forms (CheckPath p n) item = Asks (codes "check-path") (Begin (APath p ∷ optional (option_map ANumber n) ∷ [])) item
Forms (GetFile p n props contents) item = Asks (codes "get-file") (Begin (looked_at p n props contents)) item
Forms (GetDir p n props contents) item = (fields : Bool) × Asks (codes "get-dir") (AndPerhaps (looked_at p n props contents) (perhaps_list fields)) item
Forms (RevProplist n) item = Asks (codes "rev-proplist") (Begin (ANumber n ∷ [])) item
Forms (RevProp n name) item = Asks (codes "rev-prop") (Begin (ANumber n ∷ AName name ∷ [])) item
Forms (ChangeProp n name v old) item = Asks (codes "change-rev-prop2") (Begin (ANumber n ∷ AName name ∷ optional (option_map AText v) ∷ Replacing old ∷ [])) item
    ⊎ ((old ≡ Any) × Asks (codes "change-rev-prop") (AndPerhaps (ANumber n ∷ AName name ∷ []) (option_map AText v)) item)
Forms (Replay n) item = Asks (codes "replay") (Begin (ANumber n ∷ ANumber 0 ∷ ATruth true ∷ [])) item
Forms (ReplayRange a b) item = Asks (codes "replay-range") (Begin (ANumber a ∷ ANumber b ∷ ANumber 0 ∷ ATruth true ∷ [])) item

-- ---- what is refused

-- the names of commands
abbrev pub names : List (List ℕ)
names = codes "get-latest-rev" ∷ codes "check-path" ∷ codes "get-file" ∷ codes "get-dir" ∷ codes "rev-proplist" ∷ codes "rev-prop"
    ∷ codes "change-rev-prop" ∷ codes "change-rev-prop2" ∷ codes "replay" ∷ codes "replay-range" ∷ []

-- a command of another name, whatever its parameters are
abbrev pub IsUnknown : Item → Type 0
IsUnknown item = (name : List ℕ) × Asks name (Begin []) item × (list_any (bytes_eq name) names ≡ false)

-- a replay against another revision than 0, or without texts
abbrev pub IsOtherReplay : Item → Type 0
IsOtherReplay item = (a b low : ℕ) × (deltas : Bool) × ((low == 0 && deltas) ≡ false)
    × (Asks (codes "replay") (Begin (ANumber a ∷ ANumber low ∷ ATruth deltas ∷ [])) item
    ⊎ Asks (codes "replay-range") (Begin (ANumber a ∷ ANumber b ∷ ANumber low ∷ ATruth deltas ∷ [])) item)

-- neither a command nor one of these
pub record IsBad (item : Item) : Type 0 where
  pub no_command : (c : Command) → Forms c item → ⊥
  pub known : IsUnknown item → ⊥
  pub no_replay : IsOtherReplay item → ⊥

-- ---- as commands are in code

abbrev pub previous_as : declared_previous.Previous → Previous
previous_as previous.Any = Any
previous_as previous.Absent = Absent
previous_as (previous.Value v) = Value v.items

abbrev pub command_as : declared.Command → Command
command_as coded.LatestRev = LatestRev
command_as (coded.CheckPath p n) = CheckPath p n
command_as (coded.GetFile p n props contents) = GetFile p n props contents
command_as (coded.GetDir p n props contents) = GetDir p n props contents
command_as (coded.RevProplist n) = RevProplist n
command_as (coded.RevProp n name) = RevProp n name
command_as (coded.ChangeProp n name v old) = ChangeProp n name (option_map (λ x. x.items) v) (previous_as old)
command_as (coded.Replay n) = Replay n
command_as (coded.ReplayRange a b) = ReplayRange a b

-- what an item is taken for, unless memory ran out
abbrev pub Judged : Item → Result declared.Command WireFault → Type 0
Judged item (Ok c) = Forms (command_as c) item
Judged item (Err fault.UnknownCommand) = IsUnknown item
Judged item (Err fault.ReplayForm) = IsOtherReplay item
Judged item (Err fault.BadShape) = IsBad item
Judged item (Err fault.OutOfMemory) = Unit {0}
