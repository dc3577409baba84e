-- Which items are which calls of an editor: every form that a reader takes, the written one among them.
use Rattle.std.specs.Prelude.{◌≡◌, ◌⊎◌, ℕ, ◌≤◌, Bool, true, false, List, [], ◌∷◌, ◌++◌, map, Option, Some, None, Ok, IfSome, not, ◌&&◌}
use Rattle.std.specs.List.{concat}
use Rattle.hex.specs.Hex.{decode_sized}
use Rattle.md5.specs.Md5.{md5}
use Rattle.ra_item.specs.Items.{Item, Word, Number, Text, Nested, Items}
use Rattle.node_base.specs.Path.{Path, Name, same_name}
use Rattle.node_base.specs.PathText.{path_read}
use Rattle.node_base.specs.Props.{prop_name_read}
use Rattle.node_base.specs.declared.node.Source.{Source}
use Rattle.node_base.specs.declared.limits.TheConstants.{REVISION}
use Rattle.delta_editor.specs.declared.call.Call.{Call}
use Rattle.delta_editor.specs.declared.call.Call.TheVariants as call
use Rattle.ra_edit.specs.Commands.{list}
use Rattle.svndiff.specs.Streams.{reading, pieces_in, Reads}
use Rattle.svndiff.specs.Reading.{begin, is_between}
use Rattle.svndiff.specs.declared.reading.Reading.{Reading}
use Rattle.ra_edit.specs.Names.{word_of}
use Rattle.ra_edit.specs.declared.name.Name.TheVariants as word

-- a command of this name with these parameters; more behind them, and behind the parameters, is ignored
abbrev pub IsCommand : List ℕ → List Item → Item → Type 0
IsCommand name params item = (more rest : List Item) × (item ≡ list (Word name ∷ list (params ++ more) ∷ rest))

-- brackets that are empty, or hold a revision
abbrev pub IsRevision : Option ℕ → Item → Type 0
IsRevision None item = item ≡ list []
IsRevision (Some n) item = (more : List Item) × (n ≤ REVISION) × (item ≡ list (Number n ∷ more))

-- brackets that are empty, or hold a string
abbrev pub IsString : Option (List ℕ) → Item → Type 0
IsString None item = item ≡ list []
IsString (Some s) item = (more : List Item) × (item ≡ list (Text s ∷ more))

-- brackets that are empty, or hold a sum in 32 hexadecimal digits of either case
abbrev pub IsSum : Option (List ℕ) → Item → Type 0
IsSum None item = item ≡ list []
IsSum (Some sum) item = (digits : List ℕ) × (more : List Item) × (decode_sized digits 16 ≡ Ok sum) × (item ≡ list (Text digits ∷ more))

-- brackets that are empty, or hold the path of a copy's source, behind one slash or none, and its revision
abbrev pub IsSource : Option Source → Item → Type 0
IsSource None item = item ≡ list []
IsSource (Some s) item = (text : List ℕ) × (more : List Item) × (path_read text ≡ Ok s.path) × (s.revision ≤ REVISION) × ((item ≡ list (Text text ∷ Number s.revision ∷ more)) ⊎ (item ≡ list (Text (47 ∷ text) ∷ Number s.revision ∷ more)))

-- what is open: a directory, or a file before its text, in it with the text so far and what has come of the window that isn't
-- whole, and after it
pub data Held : Type 0 where
  Dir : Held
  Fresh : Held
  Within : List ℕ → Reading → Held
  Told : List ℕ → Held

-- and by which token
pub record Named : Type 0 where
  pub token : List ℕ
  pub path : Path
  pub held : Held

abbrev pub named : List ℕ → Path → Held → Named
named token p held = record { token = token; path = p; held = held }

-- whether nothing that is open has the token
abbrev pub is_free : List ℕ → List Named → Bool
is_free token [] = true
is_free token (o ∷ os) = not (same_name o.token token) && is_free token os

-- a directory is open at the path by the token
abbrev pub IsOpenDir : List ℕ → Path → List Named → Type 0
IsOpenDir token p os = (inner outer : List Named) × (os ≡ inner ++ named token p Dir ∷ outer)

-- the commands so far: none, a target, the root was opened and these are open, the innermost first,
-- an end was announced with or without a root, and the end
pub data At : Type 0 where
  Begun : At
  Targeted : At
  Inside : List Named → At
  Announced : Bool → At
  Ended : At

-- before the root
abbrev pub IsUnopened : At → Type 0
IsUnopened at = (at ≡ Begun) ⊎ (at ≡ Targeted)

-- an edit without a root stands for one whose root is opened and closed
abbrev pub last_calls : Bool → List Call
last_calls true = call.CloseEdit ∷ []
last_calls false = call.OpenRoot None ∷ call.CloseDir [] ∷ call.CloseEdit ∷ []

-- the sum is that of the text
abbrev pub SumsTo : Option (List ℕ) → List ℕ → Type 0
SumsTo sum text = IfSome sum (λ s. s ≡ md5 text)

-- what one item is behind others, and where the commands then stand: a chunk is pieces of a text, one for each window that has new data in it
pub data Says : At → Item → List Call → At → Type 0 where
  Target : (n : ℕ) (item : Item) → n ≤ REVISION → IsCommand (word_of word.TargetRev) (Number n ∷ []) item → Says Begun item (call.Target n ∷ []) Targeted
  OpenRoot : (at : At) (base : Option ℕ) (t : List ℕ) (b item : Item) → IsUnopened at → IsRevision base b → IsCommand (word_of word.OpenRoot) (b ∷ Text t ∷ []) item → Says at item (call.OpenRoot base ∷ []) (Inside (named t [] Dir ∷ []))
  AddDir : (u : List ℕ) (up : Path) (os : List Named) (text t : List ℕ) (p : Path) (from : Option Source) (s item : Item) → path_read text ≡ Ok p → is_free t (named u up Dir ∷ os) ≡ true → IsSource from s → IsCommand (word_of word.AddDir) (Text text ∷ Text u ∷ Text t ∷ s ∷ []) item → Says (Inside (named u up Dir ∷ os)) item (call.AddDir up p from ∷ []) (Inside (named t p Dir ∷ named u up Dir ∷ os))
  OpenDir : (u : List ℕ) (up : Path) (os : List Named) (text t : List ℕ) (p : Path) (base : Option ℕ) (b item : Item) → path_read text ≡ Ok p → is_free t (named u up Dir ∷ os) ≡ true → IsRevision base b → IsCommand (word_of word.OpenDir) (Text text ∷ Text u ∷ Text t ∷ b ∷ []) item → Says (Inside (named u up Dir ∷ os)) item (call.OpenDir up p base ∷ []) (Inside (named t p Dir ∷ named u up Dir ∷ os))
  DeleteEntry : (u : List ℕ) (up : Path) (os : List Named) (text : List ℕ) (p : Path) (base : Option ℕ) (b item : Item) → path_read text ≡ Ok p → IsRevision base b → IsCommand (word_of word.DeleteEntry) (Text text ∷ b ∷ Text u ∷ []) item → Says (Inside (named u up Dir ∷ os)) item (call.DeleteEntry up p base ∷ []) (Inside (named u up Dir ∷ os))
  AddFile : (u : List ℕ) (up : Path) (os : List Named) (text t : List ℕ) (p : Path) (from : Option Source) (s item : Item) → path_read text ≡ Ok p → is_free t (named u up Dir ∷ os) ≡ true → IsSource from s → IsCommand (word_of word.AddFile) (Text text ∷ Text u ∷ Text t ∷ s ∷ []) item → Says (Inside (named u up Dir ∷ os)) item (call.AddFile up p from ∷ []) (Inside (named t p Fresh ∷ named u up Dir ∷ os))
  OpenFile : (u : List ℕ) (up : Path) (os : List Named) (text t : List ℕ) (p : Path) (base : Option ℕ) (b item : Item) → path_read text ≡ Ok p → is_free t (named u up Dir ∷ os) ≡ true → IsRevision base b → IsCommand (word_of word.OpenFile) (Text text ∷ Text u ∷ Text t ∷ b ∷ []) item → Says (Inside (named u up Dir ∷ os)) item (call.OpenFile up p base ∷ []) (Inside (named t p Fresh ∷ named u up Dir ∷ os))
  DirProp : (t : List ℕ) (p : Path) (os : List Named) (text : List ℕ) (name : Name) (value : Option (List ℕ)) (v item : Item) → IsOpenDir t p os → prop_name_read text ≡ Ok name → IsString value v → IsCommand (word_of word.ChangeDirProp) (Text t ∷ Text text ∷ v ∷ []) item → Says (Inside os) item (call.DirProp p name value ∷ []) (Inside os)
  FileProp : (t : List ℕ) (p : Path) (held : Held) (os : List Named) (text : List ℕ) (name : Name) (value : Option (List ℕ)) (v item : Item) → (held ≡ Dir → ⊥) → prop_name_read text ≡ Ok name → IsString value v → IsCommand (word_of word.ChangeFileProp) (Text t ∷ Text text ∷ v ∷ []) item → Says (Inside (named t p held ∷ os)) item (call.FileProp p name value ∷ []) (Inside (named t p held ∷ os))
  TextStart : (t : List ℕ) (p : Path) (os : List Named) (sum : Items) (item : Item) → IsCommand (word_of word.ApplyTextdelta) (Text t ∷ Nested sum ∷ []) item → Says (Inside (named t p Fresh ∷ os)) item (call.TextStart p ∷ []) (Inside (named t p (Within [] begin) ∷ os))
  Chunk : (t : List ℕ) (p : Path) (os : List Named) (text bytes : List ℕ) (r new : Reading) (pieces : List (List ℕ)) (item : Item) → reading (Reads text r) bytes ≡ Reads (text ++ concat pieces) new → pieces ≡ pieces_in r bytes → IsCommand (word_of word.TextdeltaChunk) (Text t ∷ Text bytes ∷ []) item → Says (Inside (named t p (Within text r) ∷ os)) item (map (call.TextPiece p) pieces) (Inside (named t p (Within (text ++ concat pieces) new) ∷ os))
  TextEnd : (t : List ℕ) (p : Path) (os : List Named) (text : List ℕ) (r : Reading) (item : Item) → is_between r ≡ true → IsCommand (word_of word.TextdeltaEnd) (Text t ∷ []) item → Says (Inside (named t p (Within text r) ∷ os)) item (call.TextEnd p ∷ []) (Inside (named t p (Told text) ∷ os))
  CloseFresh : (t : List ℕ) (p : Path) (os : List Named) (sum : Option (List ℕ)) (s item : Item) → IsSum sum s → IsCommand (word_of word.CloseFile) (Text t ∷ s ∷ []) item → Says (Inside (named t p Fresh ∷ os)) item (call.CloseFile p sum ∷ []) (Inside os)
  CloseTold : (t : List ℕ) (p : Path) (os : List Named) (text : List ℕ) (sum : Option (List ℕ)) (s item : Item) → SumsTo sum text → IsSum sum s → IsCommand (word_of word.CloseFile) (Text t ∷ s ∷ []) item → Says (Inside (named t p (Told text) ∷ os)) item (call.CloseFile p sum ∷ []) (Inside os)
  CloseDir : (t : List ℕ) (p : Path) (os : List Named) (item : Item) → IsCommand (word_of word.CloseDir) (Text t ∷ []) item → Says (Inside (named t p Dir ∷ os)) item (call.CloseDir p ∷ []) (Inside os)
  CloseEdit : (item : Item) → IsCommand (word_of word.CloseEdit) [] item → Says (Inside []) item [] (Announced true)
  CloseNone : (at : At) (item : Item) → IsUnopened at → IsCommand (word_of word.CloseEdit) [] item → Says at item [] (Announced false)
  Finish : (item : Item) → IsCommand (word_of word.FinishReplay) [] item → Says (Inside []) item (last_calls true) Ended
  FinishNone : (at : At) (item : Item) → IsUnopened at → IsCommand (word_of word.FinishReplay) [] item → Says at item (last_calls false) Ended
  FinishAnnounced : (root : Bool) (item : Item) → IsCommand (word_of word.FinishReplay) [] item → Says (Announced root) item (last_calls root) Ended

-- items one after another
pub data AllSay : At → List Item → List Call → At → Type 0 where
  Nothing : (at : At) → AllSay at [] [] at
  Then : (at mid end : At) (item : Item) (items : List Item) (first rest : List Call) → Says at item first mid → AllSay mid items rest end → AllSay at (item ∷ items) (first ++ rest) end

-- the items are the calls of a whole edit
abbrev pub SpellsEdit : List Item → List Call → Type 0
SpellsEdit items calls = AllSay Begun items calls Ended
