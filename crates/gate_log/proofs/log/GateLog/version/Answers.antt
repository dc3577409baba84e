use Rattle.std.proofs.Common.{sym, subst}
use Rattle.fleet_disk.specs.Image.{Image}
use Rattle.gate_log.specs.Version.{IsOf}
use Rattle.gate_log.proofs.Steps.{rest_is, not_failed}
use Rattle.gate_log.proofs.log.GateLog.version.Goals as goal

pub returns-clause-stand : goal.returns-clause-stand
returns-clause-stand g c h working image left =
    let log = c.args.self.now in
    let works = not_failed log.failed working in
    subst (λ (i : Image). IsOf log.version i) (sym (log.durable h works image left)) (rest_is log.version log.ends.items (g.D.Disk.reads log.disk) (log.at_rest h works))
