use Rattle.std.proofs.Common.{◌∙◌, sym}
use Rattle.ra_history.proofs.Sharing.{pushed}
use Rattle.ra_browse.proofs.Logged.{root_denies, root_there}
use Rattle.ra_browse.proofs.log.root_in.Goals as goal

pub returns-in-Err : goal.returns-in-Err
returns-in-Err c = root_denies c.args.tree.now c.root-root.result c.in-Err.stop c.root-root.ensures c.in-Err.ensures

pub returns : goal.returns
returns c =
    root_there c.args.tree.now c.args.number c.root-root.result c.in-Ok.next c.new-places.result.items c.push.new.self.items c.root-root.ensures c.in-Ok.ensures.0 c.in-Ok.ensures.1 c.new-places.ensures.items
    (pushed c.push.result _ _ _ c.push.ensures.items (sym c.is_err.ensures.value ∙ c.if-is_err.false))
