use Rattle.std.proofs.Common.{length, not, sym, ap, ◌∙◌}
use Rattle.std.proofs.lemmas.Bool.{eq-eqb}
use Rattle.dump_load.specs.Faults.{fault_if}
use Rattle.delta_editor.specs.declared.call.Call.TheVariants as call
use Rattle.delta_editor.specs.declared.fault.EditorFault.TheVariants.{WrongNumber}
use Rattle.editor_ends.proofs.Shows.{adds_silent, targets}
use Rattle.editor_ends.proofs.build.BuildEditorEditor.target.Goals as goal

pub returns-then-index-self-clause-shown : goal.returns-then-index-self-clause-shown
returns-then-index-self-clause-shown c = λ calls h.
    adds_silent c.args.self.now.trees.now c.args.self.now.tree c.args.self.now.changes.items (call.Target c.args.rev) (targets c.args.rev) calls (ap (λ b. fault_if (not b) WrongNumber) (eq-eqb c.args.rev (length c.args.self.now.trees.now) (sym c.index.ensures.number ∙ c.if-index-self.true))) h
