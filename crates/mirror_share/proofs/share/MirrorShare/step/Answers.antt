use Rattle.std.proofs.Common.{sym, ◌∙◌}
use Rattle.mirror_share.proofs.share.MirrorShare.step.Goals as goal

pub returns-clause-stepped : goal.returns-clause-stepped
returns-clause-stepped g c = record { old = c.deref_mut.result.now.book; new = c.step.new.self.book; row = c.deref_mut.result.now.book.book.cells ∙ sym c.args.self.now.row_is; stepped = c.step.ensures.stepped }
