use Rattle.dump_load.proofs.Within.{within_of}
use Rattle.editor_ends.proofs.Memory.{memory_alone}
use Rattle.editor_ends.proofs.law.set_is_refused_for_memory_alone.Goals as goal

pub returns : goal.returns
returns c = λ e none refusal.
    let b = c.changes.ensures.bounded in
    memory_alone c.args.trees.now c.args.set.now e b.set.0 none c.has_root.ensures (within_of c.args.set.now b.small) b.set.1 refusal
