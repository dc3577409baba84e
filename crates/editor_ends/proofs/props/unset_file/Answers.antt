use Rattle.std.proofs.Common.{[], ◌∷◌, sym, ap, subst, ◌∙◌, arith, drop, None, ◌+◌}
use Rattle.delta_editor.specs.Calls.{Adds}
use Rattle.std.specs.FinMap as finite
use Rattle.delta_editor.specs.declared.call.Call.TheVariants as call
use Rattle.editor_ends.specs.Parts.{removals}
use Rattle.editor_ends.proofs.Showing.{shown_one, removals_step}
use Rattle.editor_ends.proofs.props.unset_file.Goals as goal

pub loop-name-preserved : goal.loop-name-preserved
loop-name-preserved g c =
    let p = call.FileProp (g.E.Editor.file_path c.args.file.now) in
    let es = c.entries-entries.result.now in (
      shown_one g.E.Editor.shows c.args.editor.now c.loop-name.editor c.file_prop.new.self (removals p c.args.new.now es) (removals p c.args.new.now (drop c.loop-name.name-index es)) (removals p c.args.new.now (drop (c.loop-name.name-index + 1) es)) (p c.loop-name-item.result.0 None) c.loop-name.invariant.0
          (subst (λ d. Adds g.E.Editor.shows c.loop-name.editor c.file_prop.new.self (call.FileProp d c.loop-name-item.result.0 None ∷ [])) c.loop-name.invariant.1 c.in_ok-file_prop.ensures.shown)
          (removals_step p es c.loop-name.name-index c.loop-name-item.result (omega (arith, c.loop-name-test.true)) c.loop-name-item.is c.args.new.now (ap (finite.contains_key c.args.new.now) (sym c.as_bytes.ensures) ∙ sym c.contains.ensures ∙ c.if-contains.false)),
      c.in_ok-file_prop.ensures.baton ∙ c.loop-name.invariant.1,
      c.in_ok-file_prop.ensures.began ∙ c.loop-name.invariant.2,
    )
