use Rattle.store_share.proofs.Changing.{edits_as}
use Rattle.store_share.proofs.book.MasterBook.put_props.Goals as goal

pub returns : goal.returns
returns g c = record { edits = edits_as _ _ c.args.self.now c.install.new.self c.stage.new.self c.in_ok-staged.staged c.install.result c.if-self.false c.in_ok-staged.ensures.stages c.install.ensures }
