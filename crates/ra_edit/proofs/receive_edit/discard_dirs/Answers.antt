use Rattle.std.proofs.Common.{◌-◌, ap, take, append-nil, ◌∙◌}
use Rattle.ra_edit.proofs.Discarded.{none_discarded, one_discarded, all_discarded}
use Rattle.ra_edit.proofs.receive_edit.discard_dirs.Goals as goal

pub loop-dir-init : goal.loop-dir-init
loop-dir-init g c = ((λ calls s. s), none_discarded _ _ _ _)

pub loop-dir-preserved : goal.loop-dir-preserved
loop-dir-preserved g c = (
  (λ calls s. c.discard_dir.ensures.shown calls (c.loop-dir.invariant.0 calls s)),
  one_discarded g.E.Editor.dir_path g.E.Editor.lets_go c.args.editor c.loop-dir.left c.discard_dir.new.editor c.args.dirs.items c.loop-dir.open.items c.pop.new.self.items c.in-Some.dir c.in-Some.ensures.items c.discard_dir.ensures.let_go c.loop-dir.invariant.1,
)

pub returns-clause-let_go : goal.returns-clause-let_go
returns-clause-let_go g c =
    let none = c.in_default.ensures.items ∙ append-nil c.pop.new.self.items ∙ c.in_default.ensures.rest ∙ ap (λ n. take (n - 1) c.loop-dir.open.items) c.in_default.ensures.cases.0 in
    all_discarded g.E.Editor.dir_path g.E.Editor.lets_go c.args.editor c.loop-dir.left c.args.dirs.items c.loop-dir.open.items none c.loop-dir.invariant.1
