use Rattle.gate_log.proofs.Steps.{still, not_failed}
use Rattle.gate_log.proofs.log.GateLog.len.Goals as goal

pub returns-clause-stand : goal.returns-clause-stand
returns-clause-stand g c h working image left =
    let log = c.args.self.now in
    let works = not_failed log.failed working in
    still log.version log.ends.items (g.D.Disk.reads log.disk) log.rising (log.at_rest h works) image (log.durable h works image left)
