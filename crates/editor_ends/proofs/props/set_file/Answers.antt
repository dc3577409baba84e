use Rattle.std.proofs.Common.{[], ◌∷◌, subst, ◌∙◌, arith, drop, Some, ◌+◌, ◌++◌}
use Rattle.delta_editor.specs.declared.call.Call.TheVariants as call
use Rattle.editor_ends.specs.Parts.{settings}
use Rattle.editor_ends.proofs.Showing.{shown_one, settings_step}
use Rattle.editor_ends.proofs.props.set_file.Goals as goal

pub loop-name-preserved : goal.loop-name-preserved
loop-name-preserved g c =
    let p = call.FileProp (g.E.Editor.file_path c.args.file.now) in
    let es = c.entries-entries.result.now in (
      shown_one g.E.Editor.shows c.args.editor.now c.loop-name.editor c.file_prop.new.self (settings p es) (settings p (drop c.loop-name.name-index es)) (settings p (drop (c.loop-name.name-index + 1) es)) (p c.loop-name-item.result.0 (Some c.loop-name-item.result.1)) c.loop-name.invariant.0
          (λ calls h. subst (λ d. g.E.Editor.shows c.file_prop.new.self (calls ++ call.FileProp d c.loop-name-item.result.0 (Some c.loop-name-item.result.1) ∷ [])) c.loop-name.invariant.1 (subst (λ v. g.E.Editor.shows c.file_prop.new.self (calls ++ call.FileProp (g.E.Editor.file_path c.loop-name.file) c.loop-name-item.result.0 (Some v) ∷ [])) c.as_slice.ensures (c.in_ok-file_prop.ensures.shown calls h)))
          (settings_step p es c.loop-name.name-index c.loop-name-item.result (omega (arith, c.loop-name-test.true)) c.loop-name-item.is),
      c.in_ok-file_prop.ensures.baton ∙ c.loop-name.invariant.1,
      c.in_ok-file_prop.ensures.began ∙ c.loop-name.invariant.2,
    )
