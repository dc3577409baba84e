use Rattle.std.proofs.Common.{sym, ◌∙◌}
use Rattle.dump_load.proofs.Unblocked.{unblocked}
use Rattle.dump_load.proofs.judge.front_fault.Goals as goal

pub returns-then-there : goal.returns-then-there
returns-then-there c = sym (unblocked c.args.tree.now c.args.path.now c.is_tree.ensures (sym c.requires ∙ c.if-there.true))
