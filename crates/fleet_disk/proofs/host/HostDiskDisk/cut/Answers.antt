use Rattle.std.proofs.Common.{rules, subst, sym}
use Rattle.fleet_disk.specs.Rules.{Elapses}
use Rattle.fleet_disk.proofs.Moments.{elapses_then}
use Rattle.fleet_disk.proofs.host.HostDiskDisk.cut.Goals as goal

pub returns-clause-goes : goal.returns-clause-goes
returns-clause-goes g c =
    let H = g.H.HostCalls in
    let same = sym c.stir.ensures.host in
    let first = c.length.ensures.stays in
    record {
      time = λ h.
          let still = subst (λ d. H.honest d) same (first.honest.0 h) in
          let then = subst (λ d. Elapses (H.clock d) (H.clock c.truncate.new.self) (H.left_since d) (H.left_since c.truncate.new.self) (H.may_leave c.truncate.new.self)) c.stir.ensures.host (c.truncate.ensures.goes.time still) in
          elapses_then H.clock H.left_since H.may_leave c.args.self.now.host c.length.new.self c.truncate.new.self (λ t x le may. g.met.H.HostCalls.counts_now c.args.self.now.host t x h le may) (first.left h) (first.time h) then;
      honest = search rules;
      cause = search rules;
    }
