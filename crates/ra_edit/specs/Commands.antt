-- Calls of an editor as items of the ra_svn protocol: the one spelling that is written.
use Rattle.std.specs.Prelude.{ℕ, zero, suc, List, [], ◌∷◌, ◌++◌, map, length, take, drop, Option, Some, None, if◌then◌else◌}
use Rattle.std.specs.Fmt.{decimal}
use Rattle.hex.specs.Hex.{encode_lower}
use Rattle.ra_item.specs.Items.{Item, Word, Number, Text, Nested, row, spell_all}
use Rattle.node_base.specs.Path.{Path, same_path}
use Rattle.node_base.specs.PathText.{path_text}
use Rattle.node_base.specs.declared.node.Source.{Source}
use Rattle.delta_editor.specs.declared.call.Call.{Call}
use Rattle.delta_editor.specs.declared.call.Call.TheVariants as call
use Rattle.svndiff.specs.Spelling.{head, window}
use Rattle.ra_edit.specs.Names.{word_of}
use Rattle.ra_edit.specs.declared.name.Name.TheVariants as word

-- items in brackets
abbrev pub list : List Item → Item
list xs = Nested (row xs)

-- a command: its name, and its parameters in brackets
abbrev pub command : List ℕ → List Item → Item
command name params = list (Word name ∷ list params ∷ [])

-- brackets that are empty or hold one item
abbrev pub optional : Option Item → Item
optional None = list []
optional (Some x) = list (x ∷ [])

-- a revision that may be missing
abbrev pub revision : Option ℕ → Item
revision None = optional None
revision (Some n) = optional (Some (Number n))

-- a string that may be missing
abbrev pub string : Option (List ℕ) → Item
string None = optional None
string (Some s) = optional (Some (Text s))

-- where a copy comes from, its path behind a slash
abbrev pub source : Option Source → Item
source None = list []
source (Some s) = list (Text (47 ∷ path_text s.path) ∷ Number s.revision ∷ [])

-- a sum in 32 hexadecimal digits
abbrev pub sum_text : Option (List ℕ) → Option (List ℕ)
sum_text None = None
sum_text (Some sum) = Some (encode_lower sum)

-- the path at which a call opens a directory or a file
abbrev pub opening : Call → Option Path
opening (call.OpenRoot base) = Some []
opening (call.AddDir up p from) = Some p
opening (call.OpenDir up p base) = Some p
opening (call.AddFile up p from) = Some p
opening (call.OpenFile up p base) = Some p
opening _ = None

-- the paths at which something was opened, the newest first, with the one that a call opens
abbrev pub with_opening : List Path → Option Path → List Path
with_opening opened None = opened
with_opening opened (Some p) = p ∷ opened

-- the same with those that calls open
abbrev pub opened_after : List Path → List Call → List Path
opened_after opened [] = opened
opened_after opened (c ∷ cs) = opened_after (with_opening opened (opening c)) cs

-- `t0`, `t1`, `t2` and so on
abbrev pub token : ℕ → List ℕ
token n = 116 ∷ decimal n

-- the token of what is opened next: they are given out in the order of opening, the first to the root
abbrev pub next_token : List Path → Item
next_token opened = Text (token (length opened))

-- how many openings came before the newest one at a path
abbrev pub number_of : List Path → Path → ℕ
number_of [] p = 0
number_of (q ∷ opened) p = if same_path q p then length opened else number_of opened p

-- the token of what is open at a path
abbrev pub token_of : List Path → Path → Item
token_of opened p = Text (token (number_of opened p))

-- bytes of a text in windows
abbrev pub chunk : Item → List ℕ → Item
chunk file bytes = command (word_of word.TextdeltaChunk) (file ∷ Text bytes ∷ [])

-- parts of 65,536 bytes, the last of what is left
abbrev pub parts_within : ℕ → List ℕ → List (List ℕ)
parts_within zero text = []
parts_within (suc k) [] = []
parts_within (suc k) (b ∷ text) = take 65536 (b ∷ text) ∷ parts_within k (drop 65536 (b ∷ text))

abbrev pub parts : List ℕ → List (List ℕ)
parts text = parts_within (length text) text

-- the items of a call, where these were opened before: a text begins with the format's four bytes, and a piece of it is
-- sent window by window, each in a chunk of its own
abbrev pub spelled : List Path → Call → List Item
spelled opened (call.Target n) = command (word_of word.TargetRev) (Number n ∷ []) ∷ []
spelled opened (call.OpenRoot base) = command (word_of word.OpenRoot) (revision base ∷ next_token opened ∷ []) ∷ []
spelled opened (call.AddDir up p from) = command (word_of word.AddDir) (Text (path_text p) ∷ token_of opened up ∷ next_token opened ∷ source from ∷ []) ∷ []
spelled opened (call.OpenDir up p base) = command (word_of word.OpenDir) (Text (path_text p) ∷ token_of opened up ∷ next_token opened ∷ revision base ∷ []) ∷ []
spelled opened (call.DeleteEntry up p base) = command (word_of word.DeleteEntry) (Text (path_text p) ∷ revision base ∷ token_of opened up ∷ []) ∷ []
spelled opened (call.AddFile up p from) = command (word_of word.AddFile) (Text (path_text p) ∷ token_of opened up ∷ next_token opened ∷ source from ∷ []) ∷ []
spelled opened (call.OpenFile up p base) = command (word_of word.OpenFile) (Text (path_text p) ∷ token_of opened up ∷ next_token opened ∷ revision base ∷ []) ∷ []
spelled opened (call.DirProp p name value) = command (word_of word.ChangeDirProp) (token_of opened p ∷ Text name ∷ string value ∷ []) ∷ []
spelled opened (call.FileProp p name value) = command (word_of word.ChangeFileProp) (token_of opened p ∷ Text name ∷ string value ∷ []) ∷ []
spelled opened (call.TextStart p) = command (word_of word.ApplyTextdelta) (token_of opened p ∷ list [] ∷ []) ∷ chunk (token_of opened p) head ∷ []
spelled opened (call.TextPiece p piece) = map (λ part. chunk (token_of opened p) (window part)) (parts piece)
spelled opened (call.TextEnd p) = command (word_of word.TextdeltaEnd) (token_of opened p ∷ []) ∷ []
spelled opened (call.CloseFile p sum) = command (word_of word.CloseFile) (token_of opened p ∷ string (sum_text sum) ∷ []) ∷ []
spelled opened (call.CloseDir p) = command (word_of word.CloseDir) (token_of opened p ∷ []) ∷ []
spelled opened call.CloseEdit = command (word_of word.FinishReplay) [] ∷ []

-- the items of calls, where these were opened before
abbrev pub spelled_after : List Path → List Call → List Item
spelled_after opened [] = []
spelled_after opened (c ∷ cs) = spelled opened c ++ spelled_after (with_opening opened (opening c)) cs

-- the items of an edit's calls from its beginning
abbrev pub edit_items : List Call → List Item
edit_items = spelled_after []

-- and their bytes
abbrev pub edit_bytes : List Call → List ℕ
edit_bytes calls = spell_all (row (edit_items calls))
