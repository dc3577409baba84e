use Rattle.std.proofs.Common.{◌≡◌, true, is_none, rules}
use Rattle.std.specs.FinMap as finite
use Rattle.ra_report.specs.Reports.{placing_denied}
use Rattle.ra_report.specs.Shown.{bare}
use Rattle.ra_report.proofs.Folders.{nothing_begun}
use Rattle.ra_report.proofs.report.target_begun.Goals as goal

pub returns-then-is_none : goal.returns-then-is_none
returns-then-is_none c =
    let tree = c.args.tree.now in
    let source = c.args.source.now in
    let gone : is_none (finite.get c.args.tree.now c.args.source.now) ≡ true = search rules in
    nothing_begun c.args.shown tree source c.args.target.now (placing_denied bare c.args.target.now tree source c.args.shown) c.in-Ok.report gone c.in-Ok.ensures
