-- What an editor that writes an update was shown.
use Rattle.std.specs.Prelude.{◌≡◌, ℕ, List, Option}
use Rattle.node_base.specs.Path.{Path}
use Rattle.node_base.specs.Tree.{PathMap}
use Rattle.delta_editor.specs.declared.call.Call.{Call}
use Rattle.ra_edit.specs.Wire.{Shows, held_before, done_held_before, inner_of}
use Rattle.delta_editor.specs.declared.fault.EditorFault.{EditorFault}
use Rattle.delta_editor.specs.declared.fault.EditorFault.TheVariants.{PeerFailed}
use Rattle.ra_edit.specs.declared.wire.WireEditor.{WireEditor}
use Rattle.ra_edit.specs.declared.wire.WireDir.{WireDir}
use Rattle.ra_edit.specs.declared.wire.WireFile.{WireFile}
use Rattle.ra_update.specs.Entries.{all_updated}
use Rattle.ra_update.specs.declared.editor.Ended.{Ended}
use Rattle.ra_update.specs.declared.editor.UpdateEditor.{UpdateEditor}
use Rattle.ra_update.specs.declared.facts.Facts.{Facts}

abbrev pub path_of_dir : WireDir → Path
path_of_dir d = d.place.path.value

abbrev pub path_of_file : WireFile → Path
path_of_file f = f.place.path.value

-- what an editor begins with: what its writer held when it was made, its facts, and what was reported
pub record Begun : Type 0 where
  pub held : Option (List ℕ)
  pub facts : Facts
  pub reported : PathMap

abbrev pub begun : Option (List ℕ) → Facts → PathMap → Begun
begun held k m = record { held = held; facts = k; reported = m }

abbrev pub begun_with : {T : Type 0} → (T → Option (List ℕ)) → UpdateEditor T → Begun
begun_with contents e = begun (held_before contents e.inner) e.facts.now e.reported.now

abbrev pub done_begun_with : {T : Type 0} → (T → Option (List ℕ)) → Ended T → Begun
done_begun_with contents d = begun (done_held_before contents d.out) d.facts.now d.reported.now

abbrev pub written_by : {T : Type 0} → UpdateEditor T → T
written_by e = inner_of e.inner

-- what it writes with was shown the calls with what is told beside them, and without what was reported
abbrev pub ShowsUpdated : {T : Type 0} → (T → Option (List ℕ)) → UpdateEditor T → List Call → Type 0
ShowsUpdated contents e calls = Shows contents e.inner (all_updated e.facts.now e.reported.now calls)

-- whatever was shown, the refusal is that the writer failed
abbrev pub Stopped : {T : Type 0} → (T → Option (List ℕ)) → WireEditor T → EditorFault → Type 0
Stopped contents e f = (calls : List Call) → Shows contents e calls → f ≡ PeerFailed
