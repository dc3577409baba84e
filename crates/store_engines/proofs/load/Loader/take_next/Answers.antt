use Rattle.fleet_engines.specs.Takers.{place}
use Rattle.store_engines.proofs.Loaded.{taken_ok, taken_err}
use Rattle.store_engines.proofs.load.Loader.take_next.Goals as goal

pub returns-clause-ok : goal.returns-clause-ok
returns-clause-ok g c =
    let r = c.take_record.ensures in
    taken_ok g.T.LoadReport (place c.args.self.now c.args.store.now c.args.report.now) c.args.next (place c.take_record.new.self c.take_record.new.store c.take_record.new.report) c.take_record.result r.ok r.device r.told r.peer

pub returns-clause-refused : goal.returns-clause-refused
returns-clause-refused g c =
    let r = c.take_record.ensures in
    taken_err g.T.LoadReport (place c.args.self.now c.args.store.now c.args.report.now) c.args.next (place c.take_record.new.self c.take_record.new.store c.take_record.new.report) c.take_record.result r.refused r.device r.told
