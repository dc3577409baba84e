use Rattle.std.proofs.Common.{subst, OnOk}
use Rattle.byte_streams.specs.Memory.{Adds}
use Rattle.dump_text.specs.Canon.{canon_revision}
use Rattle.fleet_engines.proofs.Plain.{spelled_back}
use Rattle.fleet_engines.proofs.engine.push_closed.Goals as goal

pub returns-in-Some : goal.returns-in-Some
returns-in-Some c =
    let added = subst (λ r. OnOk r (Adds c.args.bytes.now c.write_revision.new.out (canon_revision c.in-Some.revision))) c.unwrap.ensures c.write_revision.ensures.bytes in
    subst (λ l. Adds c.args.bytes.now c.write_revision.new.out l) (spelled_back c.args.closed.now c.in-Some.revision c.in-Some.is) added
