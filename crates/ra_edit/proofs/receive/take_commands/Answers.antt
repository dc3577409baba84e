use Rattle.std.proofs.Common.{◌∙◌, refl, arith}
use Rattle.std.proofs.lemmas.Result.{err_from_is_err_and}
use Rattle.ra_edit.proofs.Drives.{goes_none, goes_more, comes, drive_stops, not_ended, spent_not}
use Rattle.ra_item.proofs.Streaming.{fails_since}
use Rattle.ra_edit.proofs.receive.take_commands.Goals as goal

pub loop-init : goal.loop-init
loop-init g c = (goes_none _ _ _ _ _ c.requires.begun, λ h. h, omega arith, refl)

pub loop-preserved : goal.loop-preserved
loop-preserved g c =
    let t = c.in_ok-take_command.ensures.taken in (
      goes_more _ _ _ _ _ _ _ _ _ _ _ _ _ c.loop.invariant.0 t.taken (λ at h. rw c.if-branch.false at (t.stepped at h)),
      spent_not _ _ c.in_ok-take_command.ensures.goes_on,
      omega (arith, c.loop.invariant.2, c.take_command.ensures.failures),
      c.in_ok-take_command.ensures.began ∙ c.loop.invariant.3,
    )

pub returns-then-branch-clause-comes : goal.returns-then-branch-clause-comes
returns-then-branch-clause-comes g c =
    let t = c.in_ok-take_command.ensures.taken in
    comes _ _ _ _ _ _ _ _ _ _ _ _ _ c.loop.invariant.0 t.taken (λ at h. rw c.if-branch.true at (t.stepped at h))

pub returns-in_err-take_command-clause-refused : goal.returns-in_err-take_command-clause-refused
returns-in_err-take_command-clause-refused g c =
    let p = err_from_is_err_and c.from_residual.result c.from_residual.ensures.1 in
    rw (p.1, p.2) (drive_stops _ _ _ _ _ _ _ _ _ _ _ _ _ _ _ _ _ c.loop.invariant.3 (not_ended _ _ _ _ _) c.loop.invariant.0 c.loop.invariant.1 (fails_since _ _ _ _ c.loop.invariant.2) c.in_err-take_command.ensures.refused c.in_err-take_command.ensures.still)
