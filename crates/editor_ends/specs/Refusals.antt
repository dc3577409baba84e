-- Why a set isn't driven to its end.
use Rattle.std.specs.Prelude.{◌≡◌, List, ◌∷◌, ◌++◌, Some}
use Rattle.std.specs.Option.{option_map}
use Rattle.node_base.specs.Tree.{PathMap}
use Rattle.dump_load.specs.declared.change.Change.{Change}
use Rattle.dump_load.specs.Faults.{fault}
use Rattle.delta_editor.specs.declared.call.Call.{Call}
use Rattle.delta_editor.specs.declared.fault.EditorFault.{EditorFault}
use Rattle.delta_editor.specs.declared.fault.EditorFault.TheVariants.{OutOfMemory}
use Rattle.delta_editor.specs.Faults.{refused}
use Rattle.editor_ends.specs.Drive.{drive}

-- memory ran out, or it is the set's first fault, or it is one that the editor may answer at one of the calls, after those before it
pub data IsDriveRefusal {O : Type 0} (refuses : O → List Call → Call → EditorFault → Type 0) (began : O) (trees : List PathMap) (set : List Change) (f : EditorFault) : Type 0 where
  OfMemory : f ≡ OutOfMemory → IsDriveRefusal refuses began trees set f
  OfSet : option_map refused (fault trees set) ≡ Some f → IsDriveRefusal refuses began trees set f
  OfEditor : (shown : List Call) (next : Call) (rest : List Call) → drive trees set ≡ shown ++ next ∷ rest → refuses began shown next f → IsDriveRefusal refuses began trees set f
