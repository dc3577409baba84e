-- What is written of an update.
use Rattle.delta_editor.specs.declared.fault.EditorFault.TheVariants.{OutOfMemory, PeerFailed}
use Rattle.delta_editor.specs.declared.fault.EditorFault.{EditorFault}
use Rattle.delta_editor.specs.Faults.{refused}
use Rattle.dump_load.specs.Faults.{fault}
use Rattle.std.specs.Option.{option_map}
use Rattle.std.specs.Prelude.{List, [], ◌∷◌, ◌++◌, length, ◌≡◌, Some}
use Rattle.std.specs.FinMap as finite
use Rattle.node_base.specs.Path.{Path}
use Rattle.node_base.specs.Tree.{PathMap}
use Rattle.dump_load.specs.declared.change.Change.{Change}
use Rattle.delta_editor.specs.CallEffect.{all_called}
use Rattle.delta_editor.specs.declared.call.Call.{Call}
use Rattle.delta_editor.specs.declared.call.Call.TheVariants as call
use Rattle.editor_ends.specs.Drive.{base_number, walk}
use Rattle.ra_item.specs.Items.{Item}
use Rattle.ra_edit.specs.Commands.{command}
use Rattle.ra_edit.specs.Names.{word_of}
use Rattle.ra_edit.specs.declared.name.Name.TheVariants as word
use Rattle.ra_update.specs.Alike.{AreAlike}
use Rattle.ra_update.specs.Entries.{all_updated}
use Rattle.ra_update.specs.declared.facts.Facts.{Facts}

-- the newest of some trees
abbrev pub newest : List PathMap → PathMap
newest [] = finite.empty
newest (m ∷ []) = m
newest (m ∷ n ∷ ms) = newest (n ∷ ms)

-- the calls of a drive but for the end
abbrev pub up_to_end : List PathMap → List Change → List Call
up_to_end trees s = call.Target (length trees) ∷ call.OpenRoot (base_number trees) ∷ (walk trees [] [] s ++ call.CloseDir [] ∷ [])

-- the end of an update
abbrev pub end_item : Item
end_item = command (word_of word.CloseEdit) []

-- those calls with what is told beside them, and without what the newest tree has already, which is the reported one
abbrev pub calls_told : Facts → List PathMap → List Change → List Call
calls_told k trees s = all_updated k (newest trees) (up_to_end trees s)

-- applied to what was reported, the calls give what is wanted, but for the properties that are told beside a node's own
abbrev pub Make : PathMap → PathMap → List Call → Type 0
Make reported wanted calls = (q : Path) → AreAlike (all_called (reported ∷ []) (finite.get reported) calls q) (finite.get wanted q)

-- memory ran out, the writer failed, or it is the first fault of the changes
pub data IsUnsent (trees : List PathMap) (s : List Change) (f : EditorFault) : Type 0 where
  OfMemory : f ≡ OutOfMemory → IsUnsent trees s f
  OfWriter : f ≡ PeerFailed → IsUnsent trees s f
  OfChanges : option_map refused (fault trees s) ≡ Some f → IsUnsent trees s f
