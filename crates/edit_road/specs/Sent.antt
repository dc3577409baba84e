-- Sets of changes that may be sent, and what is received of them.
use Rattle.std.specs.Prelude.{◌≡◌, ℕ, ◌≤◌, Bool, false, List, [], ◌∷◌, ◌++◌, length, Option, None, IfSome}
use Rattle.std.specs.List.{AllByRecursion}
use Rattle.std.specs.FinMap as finite
use Rattle.node_base.specs.Path.{Path}
use Rattle.node_base.specs.Props.{IsProps}
use Rattle.node_base.specs.Tree.{PathMap, IsDirAt, base}
use Rattle.node_base.specs.declared.limits.TheConstants.{REVISION}
use Rattle.dump_load.specs.declared.change.Change.{Change}
use Rattle.dump_load.specs.Bounds.{IsBounded}
use Rattle.dump_load.specs.Changes.{IsNormal}
use Rattle.dump_load.specs.Effect.{effect}
use Rattle.dump_load.specs.Faults.{fault}
use Rattle.delta_editor.specs.declared.call.Call.{Call}
use Rattle.delta_editor.specs.declared.call.Call.TheVariants as call
use Rattle.delta_editor.specs.declared.fault.EditorFault.TheVariants.{OutOfMemory}
use Rattle.delta_editor.specs.Nesting.{IsNested}
use Rattle.editor_ends.specs.BuildFaults.{RefusesWithin}
use Rattle.editor_ends.specs.Built.{IsSetWithin}
use Rattle.editor_ends.specs.Drive.{base_number, walk, drive}
use Rattle.ra_item.specs.Items.{Item}
use Rattle.ra_item.specs.Streams.{Stream}
use Rattle.ra_edit.specs.Commands.{edit_bytes}
use Rattle.ra_edit.specs.Edits.{SpellsEdit}
use Rattle.ra_edit.specs.EditLaws.{IsWritten, IsBefore, IsOnlyFor}
use Rattle.byte_streams.specs.Causes.{Counts}
use Rattle.ra_item.specs.ItemStreams.{Takes}
use Rattle.ra_edit.specs.Wire.{AllDeeper}
use Rattle.ra_edit.specs.Received.{RefusesDrive}
use Rattle.ra_edit.specs.declared.edit_fault.EditFault.{EditFault}

-- the properties of each node of a tree are within the limits
abbrev pub HasProps : PathMap → Type 0
HasProps m = (q : Path) → IfSome (finite.get m q) (λ x. IsProps x.props)

-- a set that may be sent as the revision after some trees
pub record IsSent (trees : List PathMap) (s : List Change) : Type 0 where
  pub numbered : length trees ≤ REVISION
  pub root : IsDirAt (base trees) []
  pub nodes : AllByRecursion HasProps trees
  pub bounded : IsBounded s
  pub faultless : fault trees s ≡ None

-- what is left of that over trees of a program: a set within the limits that has no fault over them
pub record MayBeSent (trees : List PathMap) (s : List Change) : Type 0 where
  pub bounded : IsBounded s
  pub faultless : fault trees s ≡ None

-- the calls of a drive behind the opening of the root
abbrev pub body_of : List PathMap → List Change → List Call
body_of trees s = walk trees [] [] s ++ (call.CloseDir [] ∷ call.CloseEdit ∷ [])

-- a drive of such a set is an edit that is written
abbrev pub DriveIsWritten : Type 0
DriveIsWritten = (trees : List PathMap) (s : List Change) → IsSent trees s → IsWritten (length trees) (base_number trees) (body_of trees s)

-- where the bytes of a drive are to come, whatever follows them, a set that was built of what was taken has the effect of the one that was sent
abbrev pub DriveIsReceived : Type 0
DriveIsReceived = (trees : List PathMap) (s set : List Change) (more : List ℕ) (before after : Option (List ℕ)) (was is : List ℕ → Stream) (items : List Item) (calls : List Call) → IsSent trees s → IsBefore (edit_bytes (drive trees s) ++ more) before was → Takes items before after was is → SpellsEdit items calls → IsSetWithin trees set calls → ((q : Path) → effect trees set q ≡ effect trees s q) × IsBefore more after is

-- nothing was shown over these trees yet
abbrev pub IsNew : List PathMap → List Call → Type 0
IsNew trees shown = shown ≡ []

-- items that are calls of an edit up to some place before its end were taken, and then the stream was refused, or the next item was, for what it says or by an editor that builds over these trees
abbrev pub RefusesOver : List PathMap → Option (List ℕ) → Option (List ℕ) → (List ℕ → Stream) → Bool → Counts → EditFault → Type 0
RefusesOver trees before after was spent failed f = RefusesDrive IsNew (λ t. t) RefusesWithin trees before after was spent failed f

-- where the bytes of a drive are to come, whatever follows them, such a refusal is want of memory, the editor's own or the receiver's, or a read that failed
abbrev pub DriveIsNotRefused : Type 0
DriveIsNotRefused = (trees : List PathMap) (s : List Change) (more : List ℕ) (before after : Option (List ℕ)) (was : List ℕ → Stream) (spent : Bool) (failed : Counts) (f : EditFault) → IsSent trees s → IsBefore (edit_bytes (drive trees s) ++ more) before was → spent ≡ false → RefusesOver trees before after was spent failed f → IsOnlyFor (λ e. e ≡ OutOfMemory) failed f

-- calls that a set is driven as keep the nesting and go down, so that what they were written as is their spelling
abbrev pub DriveIsSpelled : Type 0
DriveIsSpelled = (trees : List PathMap) (s : List Change) → IsNormal s → fault trees s ≡ None → IsDirAt (base trees) [] → IsNested (drive trees s) × AllDeeper (drive trees s)
