-- What is written of an update, and why it isn't.
use Rattle.std.specs.Prelude.{ℕ, List, [], ◌∷◌, ◌++◌, Option, ◌≡◌, ◌⊎◌}
use Rattle.std.specs.Io.KnownBytes.{Appends}
use Rattle.node_base.specs.Tree.{PathMap}
use Rattle.dump_load.specs.declared.change.Change.{Change}
use Rattle.delta_editor.specs.declared.fault.EditorFault.{EditorFault}
use Rattle.delta_editor.specs.declared.fault.EditorFault.TheVariants.{OutOfMemory, PeerFailed}
use Rattle.ra_item.specs.Items.{spell}
use Rattle.ra_edit.specs.Commands.{edit_bytes}
use Rattle.tree_changes.specs.Changes.{AreBetween}
use Rattle.ra_update.specs.Sent.{calls_told, end_item, Make}
use Rattle.ra_update.specs.declared.facts.Facts.{Facts}

-- the calls make what is wanted of what was reported, and behind what a writer had the other has their bytes and the end
pub record IsUpdate {T : Type 0} (contents : T → Option (List ℕ)) (reported : PathMap) (k : Facts) (out written : T) : Type 0 where
  pub changes : List Change
  pub between : AreBetween k.opens reported k.target.now changes
  pub makes : Make reported k.target.now (calls_told k (reported ∷ []) changes)
  pub bytes : Appends (contents out) (contents written) (edit_bytes (calls_told k (reported ∷ []) changes) ++ spell end_item)

-- memory ran out, or the writer failed
abbrev pub MayStop : EditorFault → Type 0
MayStop f = (f ≡ OutOfMemory) ⊎ (f ≡ PeerFailed)
