use Rattle.std.proofs.Common.{sym, ◌∙◌}
use Rattle.mirror_share.proofs.share.MirrorShare.step_by.Goals as goal

pub returns-clause-stepped : goal.returns-clause-stepped
returns-clause-stepped g c =
    let by = c.step_by.ensures.stepped in
    record { old = c.deref_mut.result.now.book; new = by.new; row = c.deref_mut.result.now.book.book.cells ∙ sym c.args.self.now.row_is; stepped = by.stepped }
