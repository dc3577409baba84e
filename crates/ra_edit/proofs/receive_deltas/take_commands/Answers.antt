use Rattle.std.proofs.Common.{◌∙◌, true, false, refl, ap, arith}
use Rattle.std.proofs.lemmas.Result.{err_from_is_err_and}
use Rattle.ra_edit.specs.DeltaEdits.{coming_in}
use Rattle.ra_edit.proofs.DeltaDrives.{goes_none, goes_more, comes, drive_stops, level_begun, taken_from, stops_from}
use Rattle.ra_edit.proofs.Drives.{not_ended, spent_not}
use Rattle.ra_item.proofs.Streaming.{fails_since}
use Rattle.ra_edit.proofs.receive_deltas.take_commands.Goals as goal

pub loop-init : goal.loop-init
loop-init g c = (goes_none _ _ _ _ _ _ _ (ap coming_in c.requires.none) (c.requires.begun, level_begun _), λ h. h, omega arith, refl)

pub loop-preserved : goal.loop-preserved
loop-preserved g c =
    let same = g.met.E.TextEditor.same_texts _ _ c.loop.invariant.3 in
    let t = taken_from g.E.TextEditor.has_text _ _ _ _ _ _ _ _ _ _ _ _ _ _ false same c.if-branch.false c.in_ok-take_command.ensures.taken in (
      goes_more _ _ _ _ _ _ _ _ _ _ _ _ _ _ _ _ c.loop.invariant.0 t.taken t.stepped,
      spent_not _ _ c.in_ok-take_command.ensures.goes_on,
      omega (arith, c.loop.invariant.2, c.take_command.ensures.failures),
      c.in_ok-take_command.ensures.began ∙ c.loop.invariant.3,
    )

pub returns-then-branch-clause-comes : goal.returns-then-branch-clause-comes
returns-then-branch-clause-comes g c =
    let same = g.met.E.TextEditor.same_texts _ _ c.loop.invariant.3 in
    let t = taken_from g.E.TextEditor.has_text _ _ _ _ _ _ _ _ _ _ _ _ _ _ true same c.if-branch.true c.in_ok-take_command.ensures.taken in
    comes _ _ _ _ _ _ _ _ _ _ _ _ _ _ _ _ c.loop.invariant.0 t.taken t.stepped

pub returns-in_err-take_command-clause-refused : goal.returns-in_err-take_command-clause-refused
returns-in_err-take_command-clause-refused g c =
    let p = err_from_is_err_and c.from_residual.result c.from_residual.ensures.1 in
    let same = g.met.E.TextEditor.same_texts _ _ c.loop.invariant.3 in
    rw (p.1, p.2) (drive_stops _ _ _ _ _ _ _ _ _ _ _ _ _ _ _ _ _ _ _ c.loop.invariant.3 (λ x h. not_ended g.E.Editor.dir_path g.E.Editor.file_path _ _ _ x h.0) c.loop.invariant.0 c.loop.invariant.1 (fails_since _ _ _ _ c.loop.invariant.2) (stops_from g.E.TextEditor.has_text _ _ _ _ _ _ _ _ _ _ _ _ _ _ _ same c.in_err-take_command.ensures.refused))
