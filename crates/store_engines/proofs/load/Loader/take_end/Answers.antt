use Rattle.fleet_engines.specs.Takers.{place}
use Rattle.store_engines.proofs.Loaded.{ended_ok, ended_err}
use Rattle.store_engines.proofs.load.Loader.take_end.Goals as goal

pub returns-clause-ok : goal.returns-clause-ok
returns-clause-ok g c =
    let r = c.close.ensures in
    ended_ok g.T.LoadReport (place c.args.self.now c.args.store.now c.args.report.now) (place c.close.new.self c.close.new.store c.close.new.report) c.close.result r.ok r.device r.told

pub returns-clause-refused : goal.returns-clause-refused
returns-clause-refused g c =
    let r = c.close.ensures in
    ended_err g.T.LoadReport (place c.args.self.now c.args.store.now c.args.report.now) (place c.close.new.self c.close.new.store c.close.new.report) c.close.result r.refused r.device r.told
