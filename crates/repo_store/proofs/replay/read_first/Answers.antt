use Rattle.std.proofs.Common.{ℕ, List, Err, ap, subst}
use Rattle.gate_log.specs.Log.{entries_of}
use Rattle.repo_store.specs.declared.read.ReadFault.{ReadFault}
use Rattle.repo_store.specs.Journal.{IsBeginning}
use Rattle.repo_store.proofs.Replaying.{first_taken, same_entry, is_bad, fault_in}
use Rattle.repo_store.proofs.replay.read_first.Goals as goal

pub returns-in-Ok-clause-begun : goal.returns-in-Ok-clause-begun
returns-in-Ok-clause-begun g c h = first_taken _ _ _ _ (c.in_ok-bytes.ensures.bytes h) c.deref.ensures.value c.in-Ok.ensures.begun

pub returns-clause-breaks : goal.returns-clause-breaks
returns-clause-breaks g c h k is bytes identity props there begins =
    let one = same_entry (entries_of c.args.log.now) 0 bytes _ _ (c.in_ok-bytes.ensures.bytes h) c.deref.ensures.value there in
    c.in-Err.ensures.bad (ap (λ (f : ReadFault). Err f) (is_bad c.in-Err.fault c.damaged.result k c.damaged.ensures.memory (ap fault_in is))) identity props (subst (λ (b : List ℕ). IsBeginning b identity props) one begins)
