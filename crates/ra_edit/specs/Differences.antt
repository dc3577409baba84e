-- A drive whose texts come as differences, by one in which they come whole: which items without differences its items stand for.
use Rattle.std.specs.Prelude.{◌≡◌, ℕ, Bool, true, false, List, [], ◌∷◌, ◌++◌, Option, Some, None, Result, IfOk}
use Rattle.ra_item.specs.Items.{Item, Items, Word, Text, Nested}
use Rattle.node_base.specs.Path.{Path}
use Rattle.delta_editor.specs.declared.call.Call.{Call}
use Rattle.svndiff.specs.declared.delta.Delta.{Delta}
use Rattle.svndiff.specs.declared.delta_fault.DeltaFault.{DeltaFault}
use Rattle.svndiff.specs.declared.delta_fault.DeltaFault.TheVariants as delta
use Rattle.svndiff.specs.DeltaReading.{is_between}
use Rattle.svndiff.specs.DeltaStreams.{begun, reading, Reads, Refuses}
use Rattle.svndiff.specs.Spelling.{head, windows}
use Rattle.ra_edit.specs.Commands.{list, command, chunk}
use Rattle.ra_edit.specs.EditFaults.{of_delta}
use Rattle.ra_edit.specs.Edits.{At, Begun, Ended, AllSay, IsCommand, IsSum, SumsTo}
use Rattle.ra_edit.specs.Refusals.{path_at}
use Rattle.ra_edit.specs.Receiving.{Param, AText, ASum, params_of, left_of, Forms, FormsWith}
use Rattle.ra_edit.specs.declared.command_fault.CommandFault.{CommandFault}
use Rattle.ra_edit.specs.declared.receive_command.Command.{Command}
use Rattle.ra_edit.specs.declared.receive_command.Params.{Params}
use Rattle.ra_edit.specs.declared.shape_fault.ShapeFault.{ShapeFault}
use Rattle.ra_edit.specs.declared.shape_fault.ShapeFault.TheVariants as shape
use Rattle.ra_edit.specs.Names.{word_of}
use Rattle.ra_edit.specs.declared.name.Name.{Name}
use Rattle.ra_edit.specs.declared.name.Name.TheVariants as word

-- the sum of a base that an item says: that in the brackets of an `apply-textdelta`
abbrev pub SaysSum : Item → Option (List ℕ) → Type 0
SaysSum item sum = (t : List ℕ) (s : Items) → IsCommand (word_of word.ApplyTextdelta) (Text t ∷ Nested s ∷ []) item → IsSum sum (Nested s)

-- the same of a name and what stands in the brackets behind it
abbrev pub SaysSumWith : Option (List ℕ) → Name → List Item → Type 0
SaysSumWith sum n params = (rest : List Item) → SaysSum (list (Word (word_of n) ∷ list params ∷ rest)) sum

-- a command of this name was read, and the sum of a base that it says
abbrev pub ReadsOver : Params → Name → Result (Command × Option (List ℕ)) ShapeFault → Type 0
ReadsOver params name result = IfOk result (λ p. FormsWith p.0 name (left_of params) × SaysSumWith p.1 name (left_of params))

-- which parameters a command of a name has, where a text has the sum of its base
abbrev pub params_over : Name → List Param
params_over word.ApplyTextdelta = AText ∷ ASum ∷ []
params_over n = params_of n

-- why an item is read as no command with such a sum: memory ran out, or it has the form of none
abbrev pub IsNoDelta : Item → ShapeFault → Type 0
IsNoDelta item shape.OutOfMemory = Unit {0}
IsNoDelta item shape.BadShape = (c : Command) (sum : Option (List ℕ)) → Forms c item → SaysSum item sum → ⊥

-- the difference that is open: from which text, and what has come of it
pub record Difference : Type 0 where
  pub base : List ℕ
  pub delta : Delta

abbrev pub difference : List ℕ → Delta → Difference
difference base d = record { base = base; delta = d }

-- bytes of a difference make this of a base, and go on so
abbrev pub GoesOn : List ℕ → Delta → List ℕ → List ℕ → Delta → Type 0
GoesOn base old bytes made new = (text : List ℕ) → reading base (Reads text old) bytes ≡ Reads (text ++ made) new

-- a command of a text
abbrev pub is_of_text : Name → Bool
is_of_text word.ApplyTextdelta = true
is_of_text word.TextdeltaChunk = true
is_of_text word.TextdeltaEnd = true
is_of_text _ = false

-- an item is a command, and none of a text
abbrev pub IsNoText : Item → Type 0
IsNoText item = (name : Name) × (params : List Item) × IsCommand (word_of name) params item × (is_of_text name ≡ false)

-- what an item stands for behind these calls, while a difference is open or none is: a text begins, whose base is the text that the
-- editor has of the file, and has the sum that came; bytes of it come, and what they make of the base is new data; it ends between
-- windows; any other item stands for itself
pub data StandsFor (HasText : List Call → Path → List ℕ → Type 0) : At → List Call → Option Difference → Item → List Item → Option Difference → Type 0 where
  Same : (at : At) (shown : List Call) (o : Option Difference) (item : Item) → IsNoText item → StandsFor HasText at shown o item (item ∷ []) o
  Begins : (at : At) (shown : List Call) (o : Option Difference) (t base : List ℕ) (sum : Option (List ℕ)) (s : Items) (item : Item) → IsCommand (word_of word.ApplyTextdelta) (Text t ∷ Nested s ∷ []) item → IsSum sum (Nested s) → HasText shown (path_at at) base → SumsTo sum base → StandsFor HasText at shown o item (command (word_of word.ApplyTextdelta) (Text t ∷ list [] ∷ []) ∷ chunk (Text t) head ∷ []) (Some (difference base begun))
  Goes : (at : At) (shown : List Call) (t bytes base made : List ℕ) (d e : Delta) (item : Item) → IsCommand (word_of word.TextdeltaChunk) (Text t ∷ Text bytes ∷ []) item → GoesOn base d bytes made e → StandsFor HasText at shown (Some (difference base d)) item (chunk (Text t) (windows made) ∷ []) (Some (difference base e))
  Ends : (at : At) (shown : List Call) (t base : List ℕ) (d : Delta) (item : Item) → IsCommand (word_of word.TextdeltaEnd) (Text t ∷ []) item → is_between d.window ≡ true → StandsFor HasText at shown (Some (difference base d)) item (item ∷ []) None

-- items one after another: each stands for items that say these calls
pub data AllStandFor (HasText : List Call → Path → List ℕ → Type 0) : At → List Call → Option Difference → List Item → List Call → At → Option Difference → Type 0 where
  Nothing : (at : At) (shown : List Call) (o : Option Difference) → AllStandFor HasText at shown o [] [] at o
  Then : (at mid end : At) (shown first rest : List Call) (o p q : Option Difference) (item : Item) (plain items : List Item) → StandsFor HasText at shown o item plain p → AllSay at plain first mid → AllStandFor HasText mid (shown ++ first) p items rest end q → AllStandFor HasText at shown o (item ∷ items) (first ++ rest) end q

-- the items are the calls of a whole edit, behind these
abbrev pub SpellsDeltas : (List Call → Path → List ℕ → Type 0) → List Call → List Item → List Call → Type 0
SpellsDeltas HasText shown items calls = (o : Option Difference) × AllStandFor HasText Begun shown None items calls Ended o

-- whole items that say the same calls
pub record SaysWhole (calls : List Call) : Type 0 where
  pub items : List Item
  pub say : AllSay Begun items calls Ended

-- an edit whose texts come as differences is the calls of one in which they come whole
abbrev pub DeltasAreWhole : (List Call → Path → List ℕ → Type 0) → Type 0
DeltasAreWhole HasText = (shown : List Call) (items : List Item) (calls : List Call) → SpellsDeltas HasText shown items calls → SaysWhole calls

-- what a refusal says of bytes of a difference, which make this before the byte that shows it; of want of memory nothing
abbrev pub RefusedBehind : DeltaFault → List ℕ → Delta → List ℕ → Type 0
RefusedBehind delta.OutOfMemory base d bytes = Unit {0}
RefusedBehind f base d bytes = (made : List ℕ) × ((text : List ℕ) → reading base (Reads text d) bytes ≡ Refuses (text ++ made) f)

-- why bytes of a difference are refused
abbrev pub RefusesBytes : List ℕ → Delta → List ℕ → CommandFault → Type 0
RefusesBytes base d bytes why = (f : DeltaFault) × (why ≡ of_delta f) × RefusedBehind f base d bytes
