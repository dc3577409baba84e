-- What is done for the commands of a drive whose texts come as differences, and why one isn't done.
use Rattle.std.specs.Prelude.{◌≡◌, ◌⊎◌, ℕ, ◌+◌, Bool, true, false, length, List, [], ◌∷◌, ◌++◌, map, Option, Some, None, if◌then◌else◌}
use Rattle.std.specs.Option.{option_map}
use Rattle.byte_streams.specs.Causes.{Counts}
use Rattle.ra_item.specs.Items.{Item}
use Rattle.ra_item.specs.ItemStreams.{Takes, Ends, Stops}
use Rattle.ra_item.specs.Streams.{Stream}
use Rattle.ra_item.specs.declared.fault.NextFault.{NextFault}
use Rattle.node_base.specs.Path.{Path}
use Rattle.svndiff.specs.declared.limits.TheConstants.{TEXT_BYTES}
use Rattle.delta_editor.specs.Calls.{Adds}
use Rattle.delta_editor.specs.declared.call.Call.{Call}
use Rattle.delta_editor.specs.declared.call.Call.TheVariants as call
use Rattle.delta_editor.specs.declared.fault.EditorFault.{EditorFault}
use Rattle.svndiff.specs.Spelling.{windows}
use Rattle.svndiff.specs.declared.delta.Delta.{Delta}
use Rattle.svndiff.specs.declared.reading.Place.TheVariants as place
use Rattle.svndiff.specs.declared.reading.Reading.{Reading}
use Rattle.svndiff.specs.DeltaReading.{is_between, is_failed}
use Rattle.svndiff.specs.DeltaStreams.{stream_of, Reads}
use Rattle.ra_edit.specs.Differences.{Difference, difference, GoesOn, StandsFor, AllStandFor, SpellsDeltas, SaysWhole, SaysSum, IsNoDelta, RefusesBytes}
use Rattle.ra_edit.specs.Edit.{StandsAt, all_open, GivesUp}
use Rattle.ra_edit.specs.EditFaults.{of_command, of_next, of_shape}
use Rattle.ra_edit.specs.Edits.{At, Begun, Ended, Within, AllSay, IsCommand, SumsTo}
use Rattle.ra_edit.specs.Names.{word_of}
use Rattle.ra_edit.specs.Received.{ShownBefore, StillOpen}
use Rattle.ra_edit.specs.Receiving.{Forms}
use Rattle.ra_edit.specs.Refusals.{RefusedFor, RefusesOne, IfOwn, Asks, ReadFirst, at_text, behind_end, in_file, open_of, path_at, held_at, refusal}
use Rattle.ra_edit.specs.declared.command_fault.CommandFault.{CommandFault}
use Rattle.ra_edit.specs.declared.command_fault.CommandFault.TheVariants as fault
use Rattle.ra_edit.specs.declared.delta_edit.Difference as kept
use Rattle.ra_edit.specs.declared.edit_fault.EditFault.{EditFault}
use Rattle.ra_edit.specs.declared.edit_fault.EditFault.TheVariants as edit
use Rattle.ra_edit.specs.declared.name.Name.TheVariants as word
use Rattle.ra_edit.specs.declared.receive_command.Command.{Command}
use Rattle.ra_edit.specs.declared.receive_edit.Edit.{Edit}
use Rattle.ra_edit.specs.declared.receive_command.Command.TheVariants as command
use Rattle.ra_edit.specs.declared.shape_fault.ShapeFault.{ShapeFault}

-- the difference that is open
abbrev pub coming_in : Option kept.Difference → Option Difference
coming_in o = option_map (λ d. difference d.base d.reader.delta) o

-- a text is read up to an end between windows, and may have as much more as its limit leaves
abbrev pub IsAwaiting : List ℕ → Reading → Type 0
IsAwaiting text r = (r.place ≡ place.Between) × (r.room + length text ≡ TEXT_BYTES)

-- the text so far of the file that is open is what the bytes of the open difference make of its base
abbrev pub IsLevel : At → Option Difference → Type 0
IsLevel at o = (text : List ℕ) (r : Reading) → held_at at ≡ Within text r → (base bytes : List ℕ) × (d : Delta) × (o ≡ Some (difference base d)) × (stream_of base bytes ≡ Reads text d) × IsAwaiting text r

-- where the commands of an edit stand, and its difference with them
abbrev pub StandsWith : {E D F T : Type 0} → (D → Path) → (F → Path) → Edit E T D F → Option Difference → At → Type 0
StandsWith dir_path file_path e o at = StandsAt dir_path file_path e at × IsLevel at o

-- a command's item stands, whatever the editor was shown before, for items that say these calls, which it was shown
pub record MovesBy {E : Type 0} (HasText : List Call → Path → List ℕ → Type 0) (shows : E → List Call → Type 0) (old new : E) (item : Item) (at : At) (o p : Option Difference) (stands : At → Type 0) : Type 0 where
  pub plain : List Item
  pub calls : List Call
  pub to : At
  pub stand : (shown : List Call) → shows old shown → StandsFor HasText at shown o item plain p
  pub say : AllSay at plain calls to
  pub adds : Adds shows old new calls
  pub now : stands to

-- a command was done; or it is the end of the drive, and nothing was done for it
abbrev pub SteppedBy : {E : Type 0} → (List Call → Path → List ℕ → Type 0) → (E → List Call → Type 0) → E → E → Item → At → Option Difference → Option Difference → (At → Type 0) → Bool → Type 0
SteppedBy HasText shows old new item at o p stands false = MovesBy HasText shows old new item at o p stands
SteppedBy HasText shows old new item at o p stands true = IsCommand (word_of word.FinishReplay) [] item × (new ≡ old) × (p ≡ o) × stands at

-- a command was done, in whichever form it came with this sum
abbrev pub DoneBy : {E D F T : Type 0} → (List Call → Path → List ℕ → Type 0) → (E → List Call → Type 0) → (D → Path) → (F → Path) → Edit E T D F → Edit E T D F → Option Difference → Option Difference → Command → Option (List ℕ) → Bool → Type 0
DoneBy HasText shows dir_path file_path old new o p c sum done = (at : At) (item : Item) → Forms c item → SaysSum item sum → StandsWith dir_path file_path old o at → SteppedBy HasText shows old.editor new.editor item at o p (StandsWith dir_path file_path new p) done

-- ---- refusals

-- what is due for a command before a byte of a difference is read
abbrev pub due_before : At → Command → Option CommandFault
due_before at (command.Chunk t bytes) = behind_end at (in_file t.items (open_of at) at_text)
due_before at (command.TextEnd t) = behind_end at (in_file t.items (open_of at) at_text)
due_before at c = refusal at c

-- why a command isn't done, behind such calls, while a difference is open or none is: what is due before; a sum that isn't that of the
-- text which the editor has; bytes that are no difference of the base; an end inside a window
pub data IsDeltaRefusal (HasText : List Call → Path → List ℕ → Type 0) (Before : List Call → Type 0) (at : At) (o : Option Difference) (c : Command) (sum : Option (List ℕ)) (why : CommandFault) : Type 0 where
  OfCommand : RefusedFor why (due_before at c) → IsDeltaRefusal HasText Before at o c sum why
  OfSum : (base : List ℕ) (t : _) → c ≡ command.TextStart t → ((shown : List Call) → Before shown → HasText shown (path_at at) base) → (SumsTo sum base → ⊥) → why ≡ fault.BadSum → IsDeltaRefusal HasText Before at o c sum why
  OfBytes : (t bytes : _) (base : List ℕ) (d : Delta) → c ≡ command.Chunk t bytes → o ≡ Some (difference base d) → RefusesBytes base d bytes.items why → IsDeltaRefusal HasText Before at o c sum why
  OfEnd : (t : _) (base : List ℕ) (d : Delta) → c ≡ command.TextEnd t → o ≡ Some (difference base d) → is_between d.window ≡ false → why ≡ (if is_failed d.window then fault.Failed else fault.BadWindow) → IsDeltaRefusal HasText Before at o c sum why

-- the calls of the editor that a command asks for: those for bytes of a difference are pieces of what they make
abbrev pub AsksOver : At → Option Difference → Command → List Call → Type 0
AsksOver at o (command.Chunk t bytes) calls = (base made : List ℕ) × (d e : Delta) × (pieces : List (List ℕ)) × (o ≡ Some (difference base d)) × GoesOn base d bytes.items made e × ReadFirst (held_at at) (windows made) pieces × (calls ≡ map (call.TextPiece (path_at at)) pieces)
AsksOver at o c calls = Asks at c calls

-- a command asks for calls that the editor may refuse so
pub record MeetsOver {E O : Type 0} (shows : E → List Call → Type 0) (began : E → O) (refuses : O → List Call → Call → EditorFault → Type 0) (e : E) (at : At) (o : Option Difference) (c : Command) (f : EditorFault) : Type 0 where
  pub calls : List Call
  pub asked : AsksOver at o c calls
  pub one : RefusesOne shows began refuses e calls f

-- where the commands stand, a command isn't done for one of these; the editor's own refusal is one that may be met; and what was open
-- is, but perhaps for a close that the editor refused
pub record RefusedBy {E D F T O : Type 0} (HasText : List Call → Path → List ℕ → Type 0) (shows : E → List Call → Type 0) (began : E → O) (refuses : O → List Call → Call → EditorFault → Type 0) (dir_path : D → Path) (file_path : F → Path) (old new : Edit E T D F) (o : Option Difference) (c : Command) (sum : Option (List ℕ)) (why : CommandFault) : Type 0 where
  pub due : (at : At) → StandsWith dir_path file_path old o at → IsDeltaRefusal HasText (shows old.editor) at o c sum why
  pub own : (at : At) → StandsWith dir_path file_path old o at → IfOwn (MeetsOver shows began refuses old.editor at o c) why
  pub still : (at : At) → StandsWith dir_path file_path old o at → StillOpen at (of_command why) (all_open dir_path file_path new)

-- why an item is refused: it is read as no command with a sum, or as one that isn't done
abbrev pub IsRefusedBy : (List Call → Path → List ℕ → Type 0) → (List Call → Type 0) → (At → Option Difference → Command → EditorFault → Type 0) → At → Option Difference → Item → CommandFault → Type 0
IsRefusedBy HasText Before met at o item why = ((f : ShapeFault) × (why ≡ of_shape f) × IsNoDelta item f) ⊎ ((c : Command) × (sum : Option (List ℕ)) × Forms c item × SaysSum item sum × IsDeltaRefusal HasText Before at o c sum why × IfOwn (met at o c) why)

-- ---- items that were read

-- these items were read and stand for items that are these calls, which an editor was shown, and so the commands stand
pub record GoesBy {E : Type 0} (HasText : List Call → Path → List ℕ → Type 0) (shows : E → List Call → Type 0) (old new : E) (before after : Option (List ℕ)) (was is : List ℕ → Stream) (now : Option Difference) (stands : At → Type 0) : Type 0 where
  pub items : List Item
  pub plain : List Item
  pub calls : List Call
  pub at : At
  pub taken : Takes items before after was is
  pub stand : (shown : List Call) → shows old shown → AllStandFor HasText Begun shown None items calls at now
  pub say : AllSay Begun plain calls at
  pub shown : Adds shows old new calls
  pub here : stands at

-- and behind them `finish-replay`
pub record ComesBy {E : Type 0} (HasText : List Call → Path → List ℕ → Type 0) (shows : E → List Call → Type 0) (old new : E) (before after : Option (List ℕ)) (was is : List ℕ → Stream) (now : Option Difference) (stands : At → Type 0) : Type 0 where
  pub items : List Item
  pub last : Item
  pub plain : List Item
  pub calls : List Call
  pub at : At
  pub taken : Takes (items ++ last ∷ []) before after was is
  pub stand : (shown : List Call) → shows old shown → AllStandFor HasText Begun shown None items calls at now
  pub say : AllSay Begun plain calls at
  pub end : IsCommand (word_of word.FinishReplay) [] last
  pub shown : Adds shows old new calls
  pub here : stands at

-- one item was read, and what it says was done
pub record TakesOneBy {E : Type 0} (HasText : List Call → Path → List ℕ → Type 0) (shows : E → List Call → Type 0) (old new : E) (before after : Option (List ℕ)) (was is : List ℕ → Stream) (o p : Option Difference) (stood stands : At → Type 0) (done : Bool) : Type 0 where
  pub item : Item
  pub taken : Takes (item ∷ []) before after was is
  pub stepped : (at : At) → stood at → SteppedBy HasText shows old new item at o p stands done

-- ---- a whole drive

-- the items that were read are a whole edit whose texts come as differences, and what it came to shows its calls behind those that the editor was shown before
pub record ReceivedDeltas {E D : Type 0} (HasText : List Call → Path → List ℕ → Type 0) (shows : E → List Call → Type 0) (done_shows : D → List Call → Type 0) (editor : E) (done : D) (before after : Option (List ℕ)) (was is : List ℕ → Stream) : Type 0 where
  pub items : List Item
  pub calls : List Call
  pub taken : Takes items before after was is
  pub spelled : (shown : List Call) → shows editor shown → SpellsDeltas HasText shown items calls
  pub whole : SaysWhole calls
  pub shown : (shown : List Call) → shows editor shown → done_shows done (shown ++ calls)

-- behind these items, where the commands stand so, one more was read, and refused for what it says
pub record RefusesDeltaItem (HasText : List Call → Path → List ℕ → Type 0) (Before : List Call → Type 0) (met : At → Option Difference → Command → EditorFault → Type 0) (items : List Item) (stood : At → Type 0) (o : Option Difference) (before after : Option (List ℕ)) (was : List ℕ → Stream) (f : EditFault) : Type 0 where
  pub item : Item
  pub why : CommandFault
  pub is : List ℕ → Stream
  pub taken : Takes (items ++ item ∷ []) before after was is
  pub same : f ≡ of_command why
  pub due : (at : At) → stood at → IsRefusedBy HasText Before met at o item why

-- behind these items the stream was refused, or ended, or the next item was refused
abbrev pub StopsBehindDeltas : (List Call → Path → List ℕ → Type 0) → (List Call → Type 0) → (At → Option Difference → Command → EditorFault → Type 0) → List Item → (At → Type 0) → Option Difference → Option (List ℕ) → Option (List ℕ) → (List ℕ → Stream) → Bool → Counts → EditFault → Type 0
StopsBehindDeltas HasText Before met items stood o before after was spent failed f = ((e : NextFault) × (f ≡ of_next e) × Stops items before after was spent failed e) ⊎ (((f ≡ edit.BadShape) × Ends items true before after was) ⊎ RefusesDeltaItem HasText Before met items stood o before after was f)

-- the next command of an edit was refused where the commands stand so, and this is open
pub record StopsOneBy {E O : Type 0} (HasText : List Call → Path → List ℕ → Type 0) (shows : E → List Call → Type 0) (began : E → O) (refuses : O → List Call → Call → EditorFault → Type 0) (editor : E) (stood : At → Type 0) (o : Option Difference) (before after : Option (List ℕ)) (was : List ℕ → Stream) (spent : Bool) (failed : Counts) (paths : List Path) (f : EditFault) : Type 0 where
  pub stops : StopsBehindDeltas HasText (shows editor) (MeetsOver shows began refuses editor) [] stood o before after was spent failed f
  pub still : (at : At) → stood at → StillOpen at f paths

-- a drive was refused behind items that are calls of an edit up to some place before its end; by the editor, where it may refuse a call behind these
pub record RefusesDeltas {E O : Type 0} (HasText : List Call → Path → List ℕ → Type 0) (shows : E → List Call → Type 0) (began : E → O) (refuses : O → List Call → Call → EditorFault → Type 0) (editor : E) (before after : Option (List ℕ)) (was : List ℕ → Stream) (spent : Bool) (failed : Counts) (f : EditFault) : Type 0 where
  pub items : List Item
  pub plain : List Item
  pub calls : List Call
  pub at : At
  pub now : Option Difference
  pub stand : (shown : List Call) → shows editor shown → AllStandFor HasText Begun shown None items calls at now
  pub say : AllSay Begun plain calls at
  pub unended : at ≡ Ended → ⊥
  pub stops : StopsBehindDeltas HasText (ShownBefore shows calls editor) (MeetsOver (ShownBefore shows calls) began refuses editor) items (λ a. a ≡ at) now before after was spent failed f

-- a drive was refused, and this is open
pub record StopsDeltas {E O : Type 0} (HasText : List Call → Path → List ℕ → Type 0) (shows : E → List Call → Type 0) (began : E → O) (refuses : O → List Call → Call → EditorFault → Type 0) (editor : E) (before after : Option (List ℕ)) (was : List ℕ → Stream) (spent : Bool) (failed : Counts) (paths : List Path) (f : EditFault) : Type 0 where
  pub drive : RefusesDeltas HasText shows began refuses editor before after was spent failed f
  pub still : StillOpen drive.at f paths

-- a drive was refused; what was open was let go of, the innermost first, and the edit was given up
pub record AbandonsDeltas {E O : Type 0} (HasText : List Call → Path → List ℕ → Type 0) (shows : E → List Call → Type 0) (began : E → O) (refuses : O → List Call → Call → EditorFault → Type 0) (lets_go : E → List Path → Type 0) (given_up : E → Type 0) (editor : E) (before after : Option (List ℕ)) (was : List ℕ → Stream) (spent : Bool) (failed : Counts) (f : EditFault) : Type 0 where
  pub paths : List Path
  pub stops : StopsDeltas HasText shows began refuses editor before after was spent failed paths f
  pub gives_up : GivesUp lets_go given_up paths
