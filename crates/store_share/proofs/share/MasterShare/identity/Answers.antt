use Rattle.store_share.proofs.share.MasterShare.identity.Goals as goal

pub returns : goal.returns
returns g c = record { book = c.deref.result.now; is = c.identity.ensures }
