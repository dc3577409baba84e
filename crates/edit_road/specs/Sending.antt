-- What is written of a set that is sent, and why it isn't.
use Rattle.std.specs.Prelude.{◌≡◌, ℕ, List, Option, Some, MatchOption}
use Rattle.std.specs.Option.{option_map}
use Rattle.std.specs.Io.KnownBytes.{Appends}
use Rattle.byte_streams.specs.Causes.{Rose}
use Rattle.node_base.specs.Tree.{PathMap}
use Rattle.dump_load.specs.declared.change.Change.{Change}
use Rattle.dump_load.specs.Faults.{fault}
use Rattle.delta_editor.specs.Faults.{refused}
use Rattle.delta_editor.specs.declared.fault.EditorFault.{EditorFault}
use Rattle.delta_editor.specs.declared.fault.EditorFault.TheVariants.{OutOfMemory, PeerFailed}
use Rattle.editor_ends.specs.Drive.{drive}
use Rattle.ra_edit.specs.Commands.{edit_bytes}

-- behind what a writer had, the other has the commands of the calls that the set is driven as over these trees
abbrev pub Sends : {W : Type 0} → (W → Option (List ℕ)) → List PathMap → List Change → W → W → Type 0
Sends contents trees set out written = Appends (contents out) (contents written) (edit_bytes (drive trees set))

-- memory ran out, the writer failed, or it is the set's first fault
pub data IsUnsent (trees : List PathMap) (set : List Change) (f : EditorFault) : Type 0 where
  OfMemory : f ≡ OutOfMemory → IsUnsent trees set f
  OfWriter : f ≡ PeerFailed → IsUnsent trees set f
  OfSet : option_map refused (fault trees set) ≡ Some f → IsUnsent trees set f

-- that the writer failed is said only where the output is back, and failed more often than so often
abbrev pub IsToldOnlyBy : {O : Type 0} → (O → ℕ) → ℕ → EditorFault → Option O → Type 0
IsToldOnlyBy failures before f out = f ≡ PeerFailed → MatchOption out ⊥ (λ o. Rose before (failures o))
