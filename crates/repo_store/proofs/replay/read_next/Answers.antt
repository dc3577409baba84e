use Rattle.std.proofs.Common.{ℕ, List, Err, ap, subst}
use Rattle.repo_store.specs.declared.read.ReadFault.{ReadFault}
use Rattle.repo_store.specs.Journal.{Spells}
use Rattle.gate_log.specs.Log.{entries_of}
use Rattle.repo_store.proofs.Replaying.{next_taken, same_entry, is_bad, fault_in}
use Rattle.repo_store.proofs.replay.read_next.Goals as goal

pub returns-in-Ok-clause-taken : goal.returns-in-Ok-clause-taken
returns-in-Ok-clause-taken g c h = next_taken (entries_of c.args.log.now) c.args.entry _ _ _ _ (c.in_ok-bytes.ensures.bytes h) c.deref.ensures.value c.in-Ok.ensures.taken

pub returns-clause-breaks : goal.returns-clause-breaks
returns-clause-breaks g c h k is bytes e there spells takes =
    let one = same_entry (entries_of c.args.log.now) c.args.entry bytes _ _ (c.in_ok-bytes.ensures.bytes h) c.deref.ensures.value there in
    c.in-Err.ensures.bad (ap (λ (f : ReadFault). Err f) (is_bad c.in-Err.fault c.damaged.result k c.damaged.ensures.memory (ap fault_in is))) e (subst (λ (b : List ℕ). Spells b e) one spells) takes
