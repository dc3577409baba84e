use Rattle.ra_serve.proofs.Directories.{wanted_told}
use Rattle.ra_serve.proofs.directory.children_wanted.Goals as goal

pub returns-then-wanted : goal.returns-then-wanted
returns-then-wanted c = wanted_told c.children.result c.args.wanted c.args.path.now c.names.result.now c.args.tree.now c.if-wanted.true c.names.ensures.names c.children.ensures
