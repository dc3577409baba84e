use Rattle.std.proofs.Common.{Ok, Err, refl}
use Rattle.sync_job.specs.Questions.{Fetch}
use Rattle.fleet_shares.specs.Ports.{share_of}
use Rattle.fleet_shares.proofs.Asking.{told_on, told_revision, untold}
use Rattle.fleet_shares.proofs.master.SharedMasterMasterPort.fetch.Goals as goal

pub returns-in-Ok-clause-answered : goal.returns-in-Ok-clause-answered
returns-in-Ok-clause-answered g c = λ first made h.
    let has = c.in-Ok.ensures in
    let told = c.without_tree.ensures in
    told_on first c.args.self.now _ made (Fetch c.args.number c.args.trees.now (Ok c.without_tree.result)) refl has.seen has.kept
    (told_revision (share_of c.args.self.now) c.fetch.new.reader c.args.number c.args.trees.now c.in-Ok.set c.in-Ok.props c.without_tree.result has.within has.set has.props told.set told.props) h

pub returns-in-Err-clause-answered : goal.returns-in-Err-clause-answered
returns-in-Err-clause-answered g c = λ first made h.
    let has = c.in-Err.ensures in
    told_on first c.args.self.now _ made (Fetch c.args.number c.args.trees.now (Err c.master_fault.result)) refl has.seen has.kept
    (untold (share_of c.args.self.now) c.args.number c.in-Err.fault _ c.master_fault.result refl c.master_fault.ensures has.refused has.above) h
