use Rattle.store_share.proofs.share.MasterShare.put_props.Goals as goal

pub returns : goal.returns
returns g c = record { old = c.deref_mut.result.now; new = c.put_props.new.self; edits = c.put_props.ensures.edits }
