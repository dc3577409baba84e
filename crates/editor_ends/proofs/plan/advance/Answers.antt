use Rattle.std.proofs.Common.{sym, ap, ◌∙◌}
use Rattle.std.proofs.lemmas.Option.{get_or_from_slice_get}
use Rattle.std.specs.FinMap as map
use Rattle.dump_load.specs.Faults.{fault_of}
use Rattle.dump_load.proofs.Walk.{walked_more, walked_fault, walked_whole}
use Rattle.editor_ends.specs.Drive.{of_file, old_props}
use Rattle.editor_ends.proofs.Walks.{own_is}
use Rattle.editor_ends.proofs.plan.advance.Goals as goal

pub returns-clause-walked : goal.returns-clause-walked
returns-clause-walked c = walked_more c.args.revision.now.trees.now c.args.revision.now.set.now c.args.progress.now.next c.args.progress.now.tree c.requires.ready.walked c.index-set-progress.result c.requires.here c.index-set-progress.is c.requires.ready.normal (sym c.in_default.ensures) c.step.new.tree c.in_ok-step.ensures

pub returns-clause-plan : goal.returns-clause-plan
returns-clause-plan c d e =
    let same = c.index-set-progress.is ∙ get_or_from_slice_get c.args.revision.now.set.now c.args.progress.now.next d c.index-set-progress.result e in
    (c.is_of_file.ensures ∙ ap (of_file c.args.revision.now.trees.now (map.get c.args.progress.now.tree)) same, c.in_ok-old_props.ensures ∙ ap (old_props c.args.revision.now.trees.now (map.get c.args.progress.now.tree)) same)

pub returns-clause-faultless : goal.returns-clause-faultless
returns-clause-faultless c d e =
    let same = c.index-set-progress.is ∙ get_or_from_slice_get c.args.revision.now.set.now c.args.progress.now.next d c.index-set-progress.result e in
    ap (fault_of c.args.revision.now.trees.now (map.get c.args.progress.now.tree)) (sym same) ∙ sym c.in_default.ensures

pub step-requires-clause-whole : goal.step-requires-clause-whole
step-requires-clause-whole c =
    (walked_whole c.args.revision.now.trees.now c.args.revision.now.set.now c.args.progress.now.next c.args.progress.now.tree c.requires.ready.walked c.index-set-progress.result c.requires.here c.index-set-progress.is c.requires.ready.normal).0

pub returns-in-Some-clause-own : goal.returns-in-Some-clause-own
returns-in-Some-clause-own c =
    own_is c.args.revision.now.trees.now c.args.revision.now.set.now c.from.result c.in-Some.fault c.from.ensures
    (walked_fault c.args.revision.now.trees.now c.args.revision.now.set.now c.args.progress.now.next c.args.progress.now.tree c.requires.ready.walked c.index-set-progress.result c.requires.here c.index-set-progress.is c.in-Some.fault (sym c.in-Some.ensures))
