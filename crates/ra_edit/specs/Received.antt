-- What was read of a drive, and what its editor was shown.
use Rattle.std.specs.Prelude.{◌≡◌, ◌⊎◌, ℕ, Bool, true, List, [], ◌∷◌, ◌++◌, Option}
use Rattle.ra_item.specs.Items.{Item}
use Rattle.node_base.specs.Path.{Path}
use Rattle.ra_item.specs.Streams.{Stream}
use Rattle.delta_editor.specs.Calls.{Adds}
use Rattle.delta_editor.specs.declared.call.Call.{Call}
use Rattle.delta_editor.specs.declared.fault.EditorFault.{EditorFault}
use Rattle.ra_edit.specs.Edits.{At, Begun, Ended, AllSay, SpellsEdit, IsCommand}
use Rattle.ra_edit.specs.Edit.{Stepped, StandsAt, all_open, GivesUp}
use Rattle.byte_streams.specs.Causes.{Counts}
use Rattle.ra_item.specs.declared.fault.NextFault.{NextFault}
use Rattle.ra_edit.specs.EditFaults.{of_command, of_next, of_shape}
use Rattle.ra_edit.specs.Receiving.{Forms, IsNoCommand}
use Rattle.ra_edit.specs.Refusals.{refusal, RefusedFor, IfOwn, Meets, paths_at, but_innermost}
use Rattle.ra_item.specs.ItemStreams.{Takes, Ends, Stops}
use Rattle.ra_edit.specs.declared.command_fault.CommandFault.{CommandFault}
use Rattle.ra_edit.specs.declared.receive_command.Command.{Command}
use Rattle.ra_edit.specs.declared.receive_edit.Edit.{Edit}
use Rattle.ra_edit.specs.declared.shape_fault.ShapeFault.{ShapeFault}
use Rattle.ra_edit.specs.declared.edit_fault.EditFault.{EditFault}
use Rattle.ra_edit.specs.declared.edit_fault.EditFault.TheVariants as fault
use Rattle.ra_edit.specs.Names.{word_of}
use Rattle.ra_edit.specs.declared.name.Name.TheVariants as word

-- these items were read and are these calls, which an editor was shown, and so the commands stand
pub record Goes {E : Type 0} (shows : E → List Call → Type 0) (old new : E) (before after : Option (List ℕ)) (was is : List ℕ → Stream) (stands : At → Type 0) : Type 0 where
  pub items : List Item
  pub calls : List Call
  pub at : At
  pub taken : Takes items before after was is
  pub say : AllSay Begun items calls at
  pub shown : Adds shows old new calls
  pub here : stands at

-- and behind them `finish-replay`
pub record Comes {E : Type 0} (shows : E → List Call → Type 0) (old new : E) (before after : Option (List ℕ)) (was is : List ℕ → Stream) (stands : At → Type 0) : Type 0 where
  pub items : List Item
  pub last : Item
  pub calls : List Call
  pub at : At
  pub taken : Takes (items ++ last ∷ []) before after was is
  pub say : AllSay Begun items calls at
  pub end : IsCommand (word_of word.FinishReplay) [] last
  pub shown : Adds shows old new calls
  pub here : stands at

-- one item was read, and what it says was done
pub record TakesOne {E : Type 0} (shows : E → List Call → Type 0) (old new : E) (before after : Option (List ℕ)) (was is : List ℕ → Stream) (stood stands : At → Type 0) (done : Bool) : Type 0 where
  pub item : Item
  pub taken : Takes (item ∷ []) before after was is
  pub stepped : (at : At) → stood at → Stepped shows old new item at stands done

-- the items that were read are a whole edit, and what it came to shows its calls behind those that the editor was shown before
pub record Received {E D : Type 0} (shows : E → List Call → Type 0) (done_shows : D → List Call → Type 0) (editor : E) (done : D) (before after : Option (List ℕ)) (was is : List ℕ → Stream) : Type 0 where
  pub items : List Item
  pub calls : List Call
  pub taken : Takes items before after was is
  pub spelled : SpellsEdit items calls
  pub shown : (shown : List Call) → shows editor shown → done_shows done (shown ++ calls)

-- why an item is refused where the commands stand: it is read as no command, or as one for which this is due there; the editor's
-- own refusal is one that may be met
abbrev pub IsRefused : (At → Command → EditorFault → Type 0) → At → Item → CommandFault → Type 0
IsRefused met at item why = ((f : ShapeFault) × (why ≡ of_shape f) × IsNoCommand item f) ⊎ ((c : Command) × Forms c item × RefusedFor why (refusal at c) × IfOwn (met at c) why)

-- behind these items, where the commands stand so, one more was read, and refused for what it says
pub record RefusesItem (met : At → Command → EditorFault → Type 0) (items : List Item) (stood : At → Type 0) (before after : Option (List ℕ)) (was : List ℕ → Stream) (f : EditFault) : Type 0 where
  pub item : Item
  pub why : CommandFault
  pub is : List ℕ → Stream
  pub taken : Takes (items ++ item ∷ []) before after was is
  pub same : f ≡ of_command why
  pub due : (at : At) → stood at → IsRefused met at item why

-- behind these items the stream was refused, or ended, or the next item was refused
abbrev pub StopsBehind : (At → Command → EditorFault → Type 0) → List Item → (At → Type 0) → Option (List ℕ) → Option (List ℕ) → (List ℕ → Stream) → Bool → Counts → EditFault → Type 0
StopsBehind met items stood before after was spent failed f = ((e : NextFault) × (f ≡ of_next e) × Stops items before after was spent failed e) ⊎ (((f ≡ fault.BadShape) × Ends items true before after was) ⊎ RefusesItem met items stood before after was f)

-- what an editor was shown, once these calls are
abbrev pub ShownBefore : {E : Type 0} → (E → List Call → Type 0) → List Call → E → List Call → Type 0
ShownBefore shows calls e all = (shown : List Call) × shows e shown × (all ≡ shown ++ calls)

-- a drive was refused behind items that are calls of an edit up to some place before its end; by the editor, where it may refuse a call behind these
pub record RefusesDrive {E O : Type 0} (shows : E → List Call → Type 0) (began : E → O) (refuses : O → List Call → Call → EditorFault → Type 0) (editor : E) (before after : Option (List ℕ)) (was : List ℕ → Stream) (spent : Bool) (failed : Counts) (f : EditFault) : Type 0 where
  pub items : List Item
  pub calls : List Call
  pub at : At
  pub say : AllSay Begun items calls at
  pub unended : at ≡ Ended → ⊥
  pub stops : StopsBehind (Meets (ShownBefore shows calls) began refuses editor) items (λ a. a ≡ at) before after was spent failed f

-- what is open where a drive was refused: all that was; where the editor refused a call, which may have been a close, perhaps all but the innermost
abbrev pub StillOpen : At → EditFault → List Path → Type 0
StillOpen at (fault.Editor e) paths = (paths ≡ paths_at at) ⊎ (paths ≡ but_innermost (paths_at at))
StillOpen at f paths = paths ≡ paths_at at

-- the next command of an edit was refused, and this is open
abbrev pub LeavesStill : {E D F T : Type 0} → (D → Path) → (F → Path) → Edit E T D F → Edit E T D F → EditFault → Type 0
LeavesStill dir_path file_path old new f = (at : At) → StandsAt dir_path file_path old at → StillOpen at f (all_open dir_path file_path new)

-- a drive was refused, and this is open
pub record StopsWith {E O : Type 0} (shows : E → List Call → Type 0) (began : E → O) (refuses : O → List Call → Call → EditorFault → Type 0) (editor : E) (before after : Option (List ℕ)) (was : List ℕ → Stream) (spent : Bool) (failed : Counts) (paths : List Path) (f : EditFault) : Type 0 where
  pub drive : RefusesDrive shows began refuses editor before after was spent failed f
  pub still : StillOpen drive.at f paths

-- a drive was refused; what was open was let go of, the innermost first, and the edit was given up
pub record Abandons {E O : Type 0} (shows : E → List Call → Type 0) (began : E → O) (refuses : O → List Call → Call → EditorFault → Type 0) (lets_go : E → List Path → Type 0) (given_up : E → Type 0) (editor : E) (before after : Option (List ℕ)) (was : List ℕ → Stream) (spent : Bool) (failed : Counts) (f : EditFault) : Type 0 where
  pub paths : List Path
  pub stops : StopsWith shows began refuses editor before after was spent failed paths f
  pub gives_up : GivesUp lets_go given_up paths
