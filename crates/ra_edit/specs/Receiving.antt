-- What is received of a drive: commands and their items.
use Rattle.std.specs.Prelude.{◌≡◌, ◌⊎◌, ℕ, ◌≤◌, List, [], ◌∷◌, Option, reverse, Result, Ok, IfOk, IfErr, ⊤}
use Rattle.std.specs.Option.{option_map}
use Rattle.ra_item.specs.Items.{Item, Items, Word, Number, Text, Nested}
use Rattle.node_base.specs.Path.{Path}
use Rattle.node_base.specs.declared.node.Source.{Source}
use Rattle.node_base.specs.PathText.{path_read}
use Rattle.node_base.specs.Props.{prop_name_read}
use Rattle.node_base.specs.declared.limits.TheConstants.{REVISION}
use Rattle.ra_edit.specs.Commands.{list}
use Rattle.ra_edit.specs.Names.{word_of}
use Rattle.ra_edit.specs.Edits.{IsCommand, IsRevision, IsString, IsSum, IsSource}
use Rattle.ra_edit.specs.declared.receive_command.Command.{Command}
use Rattle.ra_edit.specs.declared.receive_command.Command.TheVariants as command
use Rattle.ra_edit.specs.declared.name.Name.{Name}
use Rattle.ra_edit.specs.declared.name.Name.TheVariants as word
use Rattle.ra_edit.specs.declared.receive_command.Params.{Params}
use Rattle.ra_edit.specs.declared.shape_fault.ShapeFault.{ShapeFault}
use Rattle.ra_edit.specs.declared.shape_fault.ShapeFault.TheVariants as shape

-- the items that weren't taken yet
abbrev pub left_of : Params → List Item
left_of p = reverse p.items.items

-- the next item is such a one
pub record NextIs (P : Item → Type 0) (old new : List Item) : Type 0 where
  pub item : Item
  pub is : P item
  pub joined : old ≡ item ∷ new

-- a string that is a path, and one that is a property's name
abbrev pub IsPath : Path → Item → Type 0
IsPath p x = (text : List ℕ) × (path_read text ≡ Ok p) × (x ≡ Text text)

abbrev pub IsPropName : List ℕ → Item → Type 0
IsPropName n x = (text : List ℕ) × (prop_name_read text ≡ Ok n) × (x ≡ Text text)

-- the item is a command with these parameters
abbrev pub Forms : Command → Item → Type 0
Forms (command.Target n) x = (n ≤ REVISION) × IsCommand (word_of word.TargetRev) (Number n ∷ []) x
Forms (command.OpenRoot base t) x = (b : Item) × IsRevision base b × IsCommand (word_of word.OpenRoot) (b ∷ Text t.items ∷ []) x
Forms (command.DeleteEntry p base u) x = (q b : Item) × IsPath p q × IsRevision base b × IsCommand (word_of word.DeleteEntry) (q ∷ b ∷ Text u.items ∷ []) x
Forms (command.AddDir p u t from) x = (q s : Item) × IsPath p q × IsSource from s × IsCommand (word_of word.AddDir) (q ∷ Text u.items ∷ Text t.items ∷ s ∷ []) x
Forms (command.OpenDir p u t base) x = (q b : Item) × IsPath p q × IsRevision base b × IsCommand (word_of word.OpenDir) (q ∷ Text u.items ∷ Text t.items ∷ b ∷ []) x
Forms (command.DirProp t n value) x = (q v : Item) × IsPropName n q × IsString (option_map (λ s. s.items) value) v × IsCommand (word_of word.ChangeDirProp) (Text t.items ∷ q ∷ v ∷ []) x
Forms (command.CloseDir t) x = IsCommand (word_of word.CloseDir) (Text t.items ∷ []) x
Forms (command.AddFile p u t from) x = (q s : Item) × IsPath p q × IsSource from s × IsCommand (word_of word.AddFile) (q ∷ Text u.items ∷ Text t.items ∷ s ∷ []) x
Forms (command.OpenFile p u t base) x = (q b : Item) × IsPath p q × IsRevision base b × IsCommand (word_of word.OpenFile) (q ∷ Text u.items ∷ Text t.items ∷ b ∷ []) x
Forms (command.FileProp t n value) x = (q v : Item) × IsPropName n q × IsString (option_map (λ s. s.items) value) v × IsCommand (word_of word.ChangeFileProp) (Text t.items ∷ q ∷ v ∷ []) x
Forms (command.TextStart t) x = (sum : Items) × IsCommand (word_of word.ApplyTextdelta) (Text t.items ∷ Nested sum ∷ []) x
Forms (command.Chunk t bytes) x = IsCommand (word_of word.TextdeltaChunk) (Text t.items ∷ Text bytes.items ∷ []) x
Forms (command.TextEnd t) x = IsCommand (word_of word.TextdeltaEnd) (Text t.items ∷ []) x
Forms (command.CloseFile t sum) x = (s : Item) × IsSum sum s × IsCommand (word_of word.CloseFile) (Text t.items ∷ s ∷ []) x
Forms command.CloseEdit x = IsCommand (word_of word.CloseEdit) [] x
Forms command.Finish x = IsCommand (word_of word.FinishReplay) [] x
Forms command.Abort x = IsCommand (word_of word.AbortEdit) [] x ⊎ IsCommand (word_of word.Failure) [] x

-- the same of a name and what stands in the brackets behind it
abbrev pub FormsWith : Command → Name → List Item → Type 0
FormsWith c n params = (rest : List Item) → Forms c (list (Word (word_of n) ∷ list params ∷ rest))

-- ---- what is no command

-- what a parameter is: a word, a string, a list, a revision, a path, a property's name, and a list of nothing or of a revision, a
-- string, a sum or a source
pub data Param : Type 0 where
  AWord : Param
  AText : Param
  AList : Param
  ARevision : Param
  APath : Param
  APropName : Param
  ABase : Param
  AValue : Param
  ASum : Param
  ASource : Param

abbrev pub IsA : Param → Item → Type 0
IsA AWord x = (w : List ℕ) × (x ≡ Word w)
IsA AText x = (t : List ℕ) × (x ≡ Text t)
IsA AList x = (xs : List Item) × (x ≡ list xs)
IsA ARevision x = (n : ℕ) × (n ≤ REVISION) × (x ≡ Number n)
IsA APath x = (p : Path) × IsPath p x
IsA APropName x = (n : List ℕ) × IsPropName n x
IsA ABase x = (base : Option ℕ) × IsRevision base x
IsA AValue x = (value : Option (List ℕ)) × IsString value x
IsA ASum x = (sum : Option (List ℕ)) × IsSum sum x
IsA ASource x = (from : Option Source) × IsSource from x

-- items begin with such parameters
abbrev pub BeginWith : List Param → List Item → Type 0
BeginWith [] xs = ⊤
BeginWith (p ∷ ps) [] = ⊥
BeginWith (p ∷ ps) (x ∷ xs) = IsA p x × BeginWith ps xs

-- such parameters can't be read: memory ran out, or the items don't begin with them
abbrev pub NotRead : List Param → List Item → ShapeFault → Type 0
NotRead ps xs shape.OutOfMemory = Unit {0}
NotRead ps xs shape.BadShape = BeginWith ps xs → ⊥

-- which parameters a command of a name has
abbrev pub params_of : Name → List Param
params_of word.TargetRev = ARevision ∷ []
params_of word.OpenRoot = ABase ∷ AText ∷ []
params_of word.DeleteEntry = APath ∷ ABase ∷ AText ∷ []
params_of word.AddDir = APath ∷ AText ∷ AText ∷ ASource ∷ []
params_of word.OpenDir = APath ∷ AText ∷ AText ∷ ABase ∷ []
params_of word.ChangeDirProp = AText ∷ APropName ∷ AValue ∷ []
params_of word.CloseDir = AText ∷ []
params_of word.AddFile = APath ∷ AText ∷ AText ∷ ASource ∷ []
params_of word.OpenFile = APath ∷ AText ∷ AText ∷ ABase ∷ []
params_of word.ChangeFileProp = AText ∷ APropName ∷ AValue ∷ []
params_of word.ApplyTextdelta = AText ∷ AList ∷ []
params_of word.TextdeltaChunk = AText ∷ AText ∷ []
params_of word.TextdeltaEnd = AText ∷ []
params_of word.CloseFile = AText ∷ ASum ∷ []
params_of word.CloseEdit = []
params_of word.FinishReplay = []
params_of word.AbortEdit = []
params_of word.Failure = []

-- why an item is read as no command: memory ran out, or it has the form of none
abbrev pub IsNoCommand : Item → ShapeFault → Type 0
IsNoCommand x shape.OutOfMemory = Unit {0}
IsNoCommand x shape.BadShape = (c : Command) → Forms c x → ⊥

-- ---- what reading parameters answers

-- the next one was read, and is such a one
abbrev pub ReadsNext : {T : Type 0} → (T → Item → Type 0) → Params → Params → Result T ShapeFault → Type 0
ReadsNext Is old new result = IfOk result (λ value. NextIs (Is value) (left_of old) (left_of new))

-- a command of this name was read
abbrev pub ReadsForm : Params → Name → Result Command ShapeFault → Type 0
ReadsForm params name result = IfOk result (λ c. FormsWith c name (left_of params))

-- a refusal comes only where such parameters can't be read
abbrev pub Misses : {T : Type 0} → Params → List Param → Result T ShapeFault → Type 0
Misses params wanted result = IfErr result (NotRead wanted (left_of params))
