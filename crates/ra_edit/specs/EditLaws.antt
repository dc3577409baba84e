-- What is written is one of the forms that are read.
use Rattle.std.specs.Prelude.{◌≡◌, ℕ, ◌≤◌, ◌<◌, ◌^◌, Bool, true, false, List, [], ◌∷◌, ◌++◌, map, length, Option, Some, None, Ok, IfSome, ⊤}
use Rattle.std.specs.List.{list_all, AllByRecursion}
use Rattle.hex.specs.Hex.{IsBytes}
use Rattle.ra_item.specs.Items.{Item, Within, row, spell_all}
use Rattle.ra_item.specs.Streams.{Stream, stream_of}
use Rattle.node_base.specs.Path.{Path}
use Rattle.node_base.specs.PathText.{path_text, path_read}
use Rattle.node_base.specs.Props.{prop_name_read}
use Rattle.node_base.specs.declared.node.Source.{Source}
use Rattle.node_base.specs.declared.limits.TheConstants.{REVISION}
use Rattle.svndiff.specs.declared.limits.TheConstants.{TEXT_BYTES}
use Rattle.delta_editor.specs.declared.call.Call.{Call}
use Rattle.delta_editor.specs.declared.call.Call.TheVariants as call
use Rattle.delta_editor.specs.Nesting.{IsNested}
use Rattle.delta_editor.specs.declared.fault.EditorFault.{EditorFault}
use Rattle.byte_streams.specs.Causes.{Counts, Fails}
use Rattle.ra_item.specs.declared.fault.NextFault.{NextFault}
use Rattle.ra_edit.specs.EditFaults.{of_next}
use Rattle.ra_edit.specs.Commands.{parts, edit_items, edit_bytes}
use Rattle.ra_edit.specs.Edits.{At, Says, SumsTo, SpellsEdit}
use Rattle.ra_item.specs.ItemStreams.{Takes, Ends, Stops}
use Rattle.ra_edit.specs.Received.{RefusesDrive}
use Rattle.ra_edit.specs.Receiving.{Forms}
use Rattle.ra_edit.specs.Refusals.{RefusesOne}
use Rattle.ra_edit.specs.Wire.{AllDeeper}
use Rattle.ra_edit.specs.declared.edit_fault.EditFault.{EditFault}
use Rattle.ra_edit.specs.declared.edit_fault.EditFault.TheVariants as fault
use Rattle.ra_edit.specs.declared.receive_command.Command.{Command}

-- a path within the rules and limits, which is read again
abbrev pub IsPathText : Path → Type 0
IsPathText p = path_read (path_text p) ≡ Ok p

abbrev pub IsRev : Option ℕ → Type 0
IsRev base = IfSome base (λ n. n ≤ REVISION)

abbrev pub IsFrom : Option Source → Type 0
IsFrom from = IfSome from (λ s. IsPathText s.path × (s.revision ≤ REVISION))

-- what a call says is within the rules and limits, as the types of an editor's arguments make sure
abbrev pub IsWithin : Call → Type 0
IsWithin (call.AddDir up p from) = IsPathText p × IsFrom from
IsWithin (call.OpenDir up p base) = IsPathText p × IsRev base
IsWithin (call.DeleteEntry up p base) = IsPathText p × IsRev base
IsWithin (call.AddFile up p from) = IsPathText p × IsFrom from
IsWithin (call.OpenFile up p base) = IsPathText p × IsRev base
IsWithin (call.DirProp p name value) = prop_name_read name ≡ Ok name
IsWithin (call.FileProp p name value) = prop_name_read name ≡ Ok name
IsWithin (call.CloseFile p sum) = IfSome sum (λ s. (length s ≡ 16) × IsBytes s)
IsWithin _ = ⊤

abbrev pub AllWithin : List Call → Type 0
AllWithin [] = ⊤
AllWithin (c ∷ cs) = IsWithin c × AllWithin cs

-- each text has at most 1,048,576 bytes and is closed with its own sum or none, where this was given of the open file's text
abbrev pub TextsFit : Option (List ℕ) → List Call → Type 0
TextsFit given [] = ⊤
TextsFit given (call.AddFile up p from ∷ cs) = TextsFit None cs
TextsFit given (call.OpenFile up p base ∷ cs) = TextsFit None cs
TextsFit given (call.TextStart p ∷ cs) = TextsFit (Some []) cs
TextsFit None (call.TextPiece p piece ∷ cs) = TextsFit None cs
TextsFit (Some text) (call.TextPiece p piece ∷ cs) = (length (text ++ piece) ≤ TEXT_BYTES) × TextsFit (Some (text ++ piece)) cs
TextsFit None (call.CloseFile p sum ∷ cs) = TextsFit None cs
TextsFit (Some text) (call.CloseFile p sum ∷ cs) = SumsTo sum text × TextsFit (Some text) cs
TextsFit given (c ∷ cs) = TextsFit given cs

abbrev pub is_no_target : Call → Bool
is_no_target (call.Target n) = false
is_no_target _ = true

-- a call as it is read: a piece of a text comes in parts of 65,536 bytes
abbrev pub cut : Call → List Call
cut (call.TextPiece p piece) = map (call.TextPiece p) (parts piece)
cut c = c ∷ []

abbrev pub cut_all : List Call → List Call
cut_all [] = []
cut_all (c ∷ cs) = cut c ++ cut_all cs

-- the items that are written for an edit are that edit: one that begins with its target, keeps the nesting, goes down, and says
-- what is within the rules and limits
abbrev pub WrittenIsEdit : Type 0
WrittenIsEdit = (n : ℕ) (base : Option ℕ) (body : List Call) → n ≤ REVISION → IsRev base → list_all is_no_target body ≡ true → IsNested (call.Target n ∷ call.OpenRoot base ∷ body) → AllDeeper body → AllWithin body → TextsFit None body → length body < 2 ^ 64 → SpellsEdit (edit_items (call.Target n ∷ call.OpenRoot base ∷ body)) (call.Target n ∷ call.OpenRoot base ∷ cut_all body)

-- a call, with each byte of a text in a piece of its own
abbrev pub each_byte : Call → List Call
each_byte (call.TextPiece p piece) = map (λ b. call.TextPiece p (b ∷ [])) piece
each_byte c = c ∷ []

abbrev pub byte_by_byte : List Call → List Call
byte_by_byte [] = []
byte_by_byte (c ∷ cs) = each_byte c ++ byte_by_byte cs

-- the same calls, but for where the pieces of texts are cut
abbrev pub AreSameCalls : List Call → List Call → Type 0
AreSameCalls one other = byte_by_byte one ≡ byte_by_byte other

-- items are the calls of one edit at most
abbrev pub OneEdit : Type 0
OneEdit = (items : List Item) (one other : List Call) → SpellsEdit items one → SpellsEdit items other → one ≡ other

-- no edit begins with another
abbrev pub EndsOnce : Type 0
EndsOnce = (items more : List Item) (one other : List Call) → SpellsEdit items one → SpellsEdit (items ++ more) other → more ≡ []

-- an edit that is written, and whose items are within the limits of items
pub record IsWritten (n : ℕ) (base : Option ℕ) (body : List Call) : Type 0 where
  pub rev : n ≤ REVISION
  pub from : IsRev base
  pub no_target : list_all is_no_target body ≡ true
  pub nested : IsNested (call.Target n ∷ call.OpenRoot base ∷ body)
  pub deeper : AllDeeper body
  pub within : AllWithin body
  pub texts : TextsFit None body
  pub count : length body < 2 ^ 64
  pub items : AllByRecursion Within (edit_items (call.Target n ∷ call.OpenRoot base ∷ body))

-- the stream stands before these bytes: with what the reader has left, their items are to come
abbrev pub IsBefore : List ℕ → Option (List ℕ) → (List ℕ → Stream) → Type 0
IsBefore bytes remaining ahead = (left : List ℕ) × (remaining ≡ Some left) × (ahead left ≡ stream_of bytes)

-- where items that were written are to come, as many as are taken are these, and then the stream stands before what follows them
abbrev pub WrittenIsTaken : Type 0
WrittenIsTaken = (xs ys : List Item) (more : List ℕ) (before after : Option (List ℕ)) (was is : List ℕ → Stream) → AllByRecursion Within xs → length ys ≡ length xs → IsBefore (spell_all (row xs) ++ more) before was → Takes ys before after was is → (ys ≡ xs) × IsBefore more after is

-- where an edit that was written is to come, it is received as the same calls, each piece of a text in its parts, however the bytes
-- are cut and whatever follows them, and then the stream stands before what follows
abbrev pub WrittenIsReceived : Type 0
WrittenIsReceived = (n : ℕ) (base : Option ℕ) (body : List Call) (more : List ℕ) (before after : Option (List ℕ)) (was is : List ℕ → Stream) (items : List Item) (calls : List Call) → IsWritten n base body → IsBefore (edit_bytes (call.Target n ∷ call.OpenRoot base ∷ body) ++ more) before was → Takes items before after was is → SpellsEdit items calls → (calls ≡ call.Target n ∷ call.OpenRoot base ∷ cut_all body) × AreSameCalls calls (call.Target n ∷ call.OpenRoot base ∷ body) × IsBefore more after is

-- an item that is an edit's next has the form of a command
abbrev pub SaysSomeCommand : Type 0
SaysSomeCommand = (at to : At) (item : Item) (calls : List Call) → Within item → Says at item calls to → (c : Command) × Forms c item

-- a refusal for want of memory, by a read that failed, or the editor's own, of which this is known
abbrev pub IsOnlyFor : (EditorFault → Type 0) → Counts → EditFault → Type 0
IsOnlyFor own failed fault.OutOfMemory = ⊤
IsOnlyFor own failed fault.PeerFailed = Fails failed
IsOnlyFor own failed (fault.Editor e) = own e
IsOnlyFor own failed f = ⊥

-- where an item that was written is to come, the bytes don't end before it, nor is the stream refused but for want of memory or by a
-- read that failed
abbrev pub WrittenComes : Type 0
WrittenComes = (x : Item) (more : List ℕ) (before after : Option (List ℕ)) (was : List ℕ → Stream) → Within x → IsBefore (spell_all (row (x ∷ [])) ++ more) before was → ((whole : Bool) → Ends [] whole before after was → ⊥) × ((spent : Bool) (failed : Counts) (f : NextFault) → spent ≡ false → Stops [] before after was spent failed f → IsOnlyFor (λ e. ⊥) failed (of_next f))

-- where an edit that was written is to come, it is refused only for want of memory, by a read that failed, or by the editor, which
-- was shown the first of the edit's calls, each piece of a text in its parts, and may refuse the next one so
abbrev pub WrittenIsNotRefused : {E O : Type 0} → (E → List Call → Type 0) → (E → O) → (O → List Call → Call → EditorFault → Type 0) → Type 0
WrittenIsNotRefused shows began refuses = (editor : _) (n : ℕ) (base : Option ℕ) (body : List Call) (more : List ℕ) (before after : Option (List ℕ)) (was : List ℕ → Stream) (spent : Bool) (failed : Counts) (f : EditFault) → IsWritten n base body → IsBefore (edit_bytes (call.Target n ∷ call.OpenRoot base ∷ body) ++ more) before was → spent ≡ false → RefusesDrive shows began refuses editor before after was spent failed f → IsOnlyFor (RefusesOne shows began refuses editor (call.Target n ∷ call.OpenRoot base ∷ cut_all body)) failed f
