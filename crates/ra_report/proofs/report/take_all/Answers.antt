use Rattle.std.proofs.Common.{◌+◌, ◌∙◌, drop, map, arith}
use Rattle.tree_reports.specs.Reports.{content_at}
use Rattle.browse_wire.specs.Reports.{report_as}
use Rattle.ra_denial.specs.Places.{place_as}
use Rattle.ra_report.specs.Reports.{having}
use Rattle.ra_report.proofs.Later.{one_less, next_left, none_left}
use Rattle.ra_report.proofs.report.take_all.Goals as goal

pub loop-command-preserved : goal.loop-command-preserved
loop-command-preserved g c =
    let at = place_as c.args.place.now in
    let t = c.args.target.now in
    let was = c.loop-command.invariant in
    let i = c.loop-command.command-index in
    let item = c.command-item.result in
    let old = having (content_at c.loop-command.report) c.loop-command.switches.items in
    let first = having (content_at c.args.report.now) c.args.switches.now.items in
    record {
      left = λ x e.
          let f = c.in-Ok.ensures.found x (was.stays.repository ∙ e) in
          one_less x at t old (having (content_at c.heed.new.report) c.heed.new.switches.items) first (report_as item) (map report_as (drop (i + 1) c.args.rest.now)) (map report_as c.args.rest.now) f.0 f.1
          (next_left x at t old first c.args.rest.now i item (map report_as c.args.rest.now) c.loop-command-test.true c.command-item.is (was.left x e));
      stays = record {
        repository = c.heed.ensures.stays.repository ∙ was.stays.repository;
        goes = record { mirror = c.heed.ensures.stays.goes.mirror ∙ was.stays.goes.mirror; later = omega (arith, was.stays.goes.later, c.heed.ensures.stays.goes.later) };
      };
    }

pub returns-clause-found : goal.returns-clause-found
returns-clause-found g c = λ x e.
    none_left x (place_as c.args.place.now) c.args.target.now (having (content_at c.loop-command.report) c.loop-command.switches.items) (having (content_at c.args.report.now) c.args.switches.now.items) c.args.rest.now c.loop-command.command-index (map report_as c.args.rest.now) c.loop-command-test.false (c.loop-command.invariant.left x e)
