use Rattle.byte_streams.specs.Causes.{Rose}
use Rattle.store_engines.proofs.Upgrading.{upgrade_refused, upgrade_told, upgrade_unsaid}
use Rattle.store_engines.proofs.upgrade.run_upgrade.Goals as goal

pub returns-in-Ok-clause-done : goal.returns-in-Ok-clause-done
returns-in-Ok-clause-done g c =
    upgrade_told c.args.store c.in-Ok.upgraded c.in-Ok.count c.into_disk.result c.into_disk.ensures c.in-Ok.ensures.upgraded
    c.write_count-told.result (g.O.Output.contents c.args.output.now) (g.O.Output.contents c.write_count-told.new.output) c.write_count-told.ensures.ok

pub returns-in-Ok-clause-refused : goal.returns-in-Ok-clause-refused
returns-in-Ok-clause-refused g c =
    upgrade_unsaid c.args.store c.in-Ok.upgraded c.in-Ok.count c.into_disk.result c.into_disk.ensures c.in-Ok.ensures.upgraded
    c.write_count-told.result (g.O.Output.contents c.args.output.now) (g.O.Output.contents c.write_count-told.new.output) (Rose (g.O.Output.failures c.args.output.now) (g.O.Output.failures c.write_count-told.new.output))
    c.write_count-told.ensures.only_peer c.write_count-told.ensures.failed

pub returns-in-Err-clause-refused : goal.returns-in-Err-clause-refused
returns-in-Err-clause-refused g c =
    upgrade_refused c.args.store c.in-Err.disk c.in-Err.fault c.store_refusal.result (g.O.Output.contents c.args.output.now) (Rose (g.O.Output.failures c.args.output.now) (g.O.Output.failures c.args.output.now))
    c.store_refusal.ensures.value c.store_refusal.ensures.no_peer c.in-Err.ensures.refused
