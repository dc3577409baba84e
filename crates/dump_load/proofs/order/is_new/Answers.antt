use Rattle.std.proofs.Common.{◌+◌, cond, take, sym, ap, ◌∙◌}
use Rattle.dump_load.specs.Records.{paths_named}
use Rattle.dump_load.proofs.Counting.{named_first, named_more}
use Rattle.dump_load.proofs.order.is_new.Goals as goal

pub returns-then-place-eq0 : goal.returns-then-place-eq0
returns-then-place-eq0 c = named_first c.args.changes.now c.args.place c.if-place-eq0.true c.requires.within

pub returns-then-is_same_path : goal.returns-then-is_same_path
returns-then-is_same_path c =
    named_more c.args.changes.now c.args.place c.index-changes-place.result c.index-changes-place-2.result c.requires.rises c.if-place-eq0.false c.requires.within c.index-changes-place.is c.index-changes-place-2.is
    ∙ ap (λ b. cond b (paths_named (take c.args.place c.args.changes.now)) (paths_named (take c.args.place c.args.changes.now) + 1)) (sym c.is_same_path.ensures ∙ c.if-is_same_path.true)

pub returns : goal.returns
returns c =
    named_more c.args.changes.now c.args.place c.index-changes-place.result c.index-changes-place-2.result c.requires.rises c.if-place-eq0.false c.requires.within c.index-changes-place.is c.index-changes-place-2.is
    ∙ ap (λ b. cond b (paths_named (take c.args.place c.args.changes.now)) (paths_named (take c.args.place c.args.changes.now) + 1)) (sym c.is_same_path.ensures ∙ c.if-is_same_path.false)
