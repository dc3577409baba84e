-- What a server writes, item by item.
use Rattle.std.specs.Prelude.{ℕ, Bool, List, [], ◌∷◌, ◌++◌, map, Option, Some, None, codes, if◌then◌else◌}
use Rattle.std.specs.FinMap as finite
use Rattle.ra_item.specs.Items.{Item, Word, Number, Text, Nested, row}
use Rattle.node_base.specs.Path.{Name}
use Rattle.node_base.specs.Props.{PropMap}
use Rattle.node_base.specs.declared.node.NodeKind.{NodeKind}
use Rattle.node_base.specs.declared.node.NodeKind.TheVariants as kind
use Rattle.ra_wire.specs.Answers.{Dirent}
use Rattle.ra_wire.specs.Commands.{truth_word}

abbrev pub list : List Item → Item
list xs = Nested (row xs)

-- ( name ( .. ) )
abbrev pub answer_of : List ℕ → List Item → Item
answer_of name xs = list (Word name ∷ list xs ∷ [])

-- ( success ( .. ) )
abbrev pub success : List Item → Item
success = answer_of (codes "success")

-- ( failure ( ( number text file line ) ) )
abbrev pub failure : ℕ → List ℕ → Item
failure n text = list (Word (codes "failure") ∷ list (list (Number n ∷ Text text ∷ Text [] ∷ Number 0 ∷ []) ∷ []) ∷ [])

-- ---- the opening

abbrev pub greeting : Item
greeting = success (Number 2 ∷ Number 2 ∷ list [] ∷ list (Word (codes "edit-pipeline") ∷ Word (codes "atomic-revprops") ∷ []) ∷ [])

abbrev pub mechanisms : List ℕ → Item
mechanisms realm = success (list (Word (codes "ANONYMOUS") ∷ []) ∷ Text realm ∷ [])

abbrev pub only_anonymous : Item
only_anonymous = list (Word (codes "failure") ∷ list (Text (codes "only ANONYMOUS") ∷ []) ∷ [])

abbrev pub welcome : List ℕ → List ℕ → Item
welcome identity url = success (Text identity ∷ Text url ∷ list [] ∷ [])

-- ---- answers

-- before the answer to a command
abbrev pub authorised : Item
authorised = success (list [] ∷ Text [] ∷ [])

abbrev pub done : Item
done = success []

abbrev pub number : ℕ → Item
number n = success (Number n ∷ [])

-- a property, and all of them in the order of their names
abbrev pub property : Name × List ℕ → Item
property e = list (Text e.0 ∷ Text e.1 ∷ [])

abbrev pub properties : List (Name × List ℕ) → Item
properties es = list (map property es)

abbrev pub proplist : PropMap → Item
proplist m = success (properties (finite.entries m) ∷ [])

abbrev pub revprops : PropMap → Item
revprops m = list (Word (codes "revprops") ∷ properties (finite.entries m) ∷ [])

-- brackets that are empty or hold a string
abbrev pub string : Option (List ℕ) → Item
string None = list []
string (Some s) = list (Text s ∷ [])

abbrev pub value : Option (List ℕ) → Item
value v = success (string v ∷ [])

-- what stands at a path
abbrev pub kind_word : Option NodeKind → List ℕ
kind_word None = codes "none"
kind_word (Some kind.File) = codes "file"
kind_word (Some kind.Dir) = codes "dir"

abbrev pub kind_is : Option NodeKind → Item
kind_is k = success (Word (kind_word k) ∷ [])

-- brackets that are empty or hold a number
abbrev pub number_or_none : Option ℕ → Item
number_or_none None = list []
number_or_none (Some n) = list (Number n ∷ [])

-- ---- browsing

abbrev pub node_kind_word : NodeKind → List ℕ
node_kind_word kind.File = codes "file"
node_kind_word kind.Dir = codes "dir"

-- an entry of a directory
abbrev pub dirent : Dirent → Item
dirent d = list (Text d.name ∷ Word (node_kind_word d.kind) ∷ Number d.size ∷ Word (truth_word d.has_props) ∷ Number d.created ∷ string d.date ∷ string d.author ∷ [])

-- properties where they are wanted, else empty brackets
abbrev pub wanted_props : Bool → PropMap → Item
wanted_props wanted m = if wanted then properties (finite.entries m) else list []

-- a file's sum, revision and properties
abbrev pub file_found : List ℕ → ℕ → Bool → PropMap → Item
file_found sum n wanted m = success (string (Some sum) ∷ Number n ∷ wanted_props wanted m ∷ [])

-- a directory's revision, properties and entries
abbrev pub dir_found : ℕ → Bool → PropMap → List Dirent → Item
dir_found n wanted m ds = success (Number n ∷ wanted_props wanted m ∷ list (map dirent ds) ∷ [])

-- ---- parts of an answer's bytes

abbrev pub before : List ℕ → List ℕ
before name = 40 ∷ 32 ∷ (name ++ 32 ∷ 40 ∷ 32 ∷ [])

abbrev pub behind : List ℕ
behind = 41 ∷ 32 ∷ 41 ∷ 32 ∷ []
