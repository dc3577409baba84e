use Rattle.mirror_share.proofs.share.MirrorShare.identity.Goals as goal

pub returns : goal.returns
returns g c = record { book = c.deref.result.now.book; is = c.identity.ensures }
