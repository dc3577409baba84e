use Rattle.store_share.proofs.share.MasterShare.change_prop.Goals as goal

pub returns : goal.returns
returns g c = record { old = c.deref_mut.result.now; new = c.change_prop.new.self; edits = c.change_prop.ensures.edits }
