use Rattle.std.proofs.Common.{◌≡◌, [], ◌∷◌, ◌++◌, subst, length, None}
use Rattle.delta_editor.specs.Calls.{Adds}
use Rattle.delta_editor.specs.declared.call.Call.TheVariants as call
use Rattle.editor_ends.specs.Drive.{base_number, walk, drive}
use Rattle.editor_ends.specs.Shown.{Halts}
use Rattle.editor_ends.proofs.Edits.{refused_inside, refused_at_end}
use Rattle.node_base.specs.Path.{Path}
use Rattle.dump_load.specs.Effect.{effect}
use Rattle.dump_load.specs.Faults.{fault}
use Rattle.delta_editor.specs.CallEffect.{call_effect}
use Rattle.editor_ends.proofs.CallEffects.{called-drive}
use Rattle.editor_ends.proofs.Walks.{on_each}
use Rattle.editor_ends.proofs.show.drive.Goals as goal

pub returns-in-Ok-clause-refused : goal.returns-in-Ok-clause-refused
returns-in-Ok-clause-refused g c =
    refused_at_end g.E.Editor.shows g.E.Editor.began g.E.Editor.refuses c.args.trees.now c.args.set.now c.args.editor c.show_edit.new.editor c.close_edit.result c.requires.new
    (subst (λ s. Adds g.E.Editor.shows c.args.editor c.show_edit.new.editor (call.Target (length c.args.trees.now) ∷ call.OpenRoot (base_number c.args.trees.now) ∷ (walk c.args.trees.now [] [] s ++ call.CloseDir [] ∷ []))) c.changes.ensures.value c.in-Ok.ensures.shown)
    c.in-Ok.ensures.began c.close_edit.ensures.refused

pub returns-in-Err-clause-refused : goal.returns-in-Err-clause-refused
returns-in-Err-clause-refused g c =
    refused_inside g.E.Editor.shows g.E.Editor.began g.E.Editor.refuses c.args.trees.now c.args.set.now c.args.editor c.in-Err.fault c.requires.new
    (subst (λ s. Halts g.E.Editor.shows g.E.Editor.began g.E.Editor.refuses c.args.trees.now s c.args.editor (drive c.args.trees.now s) c.in-Err.fault) c.changes.ensures.value c.in-Err.ensures.halts)

pub returns-in-Ok-clause-effect : goal.returns-in-Ok-clause-effect
returns-in-Ok-clause-effect g c =
    on_each c.close_edit.result ((q : Path) → call_effect c.args.trees.now (drive c.args.trees.now c.args.set.now) q ≡ effect c.args.trees.now c.args.set.now q)
    (λ q. λ i. called-drive c.args.trees.now c.args.set.now c.changes.ensures.normal (subst (λ s. fault c.args.trees.now s ≡ None) c.changes.ensures.value c.in-Ok.ensures.faultless) i q)
