use Rattle.std.proofs.Common.{◌≡◌, Some, None, rules}
use Rattle.std.specs.FinMap as finite
use Rattle.tree_reports.proofs.Copied.{copied_on, removed_on}
use Rattle.tree_reports.proofs.copy.put_marked.Goals as goal

pub returns-in-Some : goal.returns-in-Some
returns-in-Some c =
    let there : finite.get c.args.from.now c.args.source.now ≡ Some c.in-Some.node.now = search rules in
    copied_on (finite.get c.args.tree.now) c.args.from.now c.args.path.now c.args.source.now c.in-Some.node.now _ c.graft_copy.result there (search rules)

pub returns-in-None : goal.returns-in-None
returns-in-None c =
    let none : finite.get c.args.from.now c.args.source.now ≡ None = search rules in
    removed_on (finite.get c.args.tree.now) c.args.from.now c.args.path.now c.args.source.now 0 _ c.prune.result c.is_tree.ensures none (search rules)
