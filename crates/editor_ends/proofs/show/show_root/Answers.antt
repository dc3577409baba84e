use Rattle.std.proofs.Common.{sym, ap, [], ◌∙◌, arith, subst}
use Rattle.std.proofs.lemmas.Option.{slice_get-get_or}
use Rattle.std.specs.Prelude.{Some}
use Rattle.std.specs.FinMap as map
use Rattle.node_base.proofs.PathLemmas.{path_of_same}
use Rattle.editor_ends.specs.Parts.{dir_parts}
use Rattle.editor_ends.specs.Shown.{IsLater, left}
use Rattle.editor_ends.proofs.Walks.{left-root, shown_root, of_root, later_here, later_rise, not_root_later, after_root, on_each, halt_before}
use Rattle.editor_ends.proofs.show.show_root.Goals as goal

pub returns-then-not-is_root-clause-later : goal.returns-then-not-is_root-clause-later
returns-then-not-is_root-clause-later g c =
    let x = c.index-set-progress.result in
    let here = slice_get-get_or c.args.revision.now.set.now c.args.progress.now.next x (omega (arith, c.if-progress-set.false)) ∙ ap Some (sym c.index-set-progress.is) in
    later_here c.args.revision.now.set.now c.args.progress.now.next x [] c.requires.ready.normal here (not_root_later x.path (sym c.if-not-is_root.ensures))

pub give_dir-requires : goal.give_dir-requires
give_dir-requires g c = c.requires.at ∙ sym (path_of_same c.index-set-progress.result.path [] (sym c.if-not-is_root.ensures))

pub returns-clause-later : goal.returns-clause-later
returns-clause-later g c =
    let x = c.index-set-progress.result in
    let here = slice_get-get_or c.args.revision.now.set.now c.args.progress.now.next x (omega (arith, c.if-progress-set.false)) ∙ ap Some (sym c.index-set-progress.is) in
    on_each c.give_dir.result (IsLater c.args.revision.now.set.now c.advance.new.progress.next []) (subst (λ k. IsLater c.args.revision.now.set.now k []) (sym c.in_ok-plan.ensures.next) (later_rise c.args.revision.now.set.now c.args.progress.now.next x [] c.requires.ready.normal here (λ q h. after_root x.path q h)))

pub returns-clause-shown : goal.returns-clause-shown
returns-clause-shown g c =
    let x = c.index-set-progress.result in
    let here = slice_get-get_or c.args.revision.now.set.now c.args.progress.now.next x (omega (arith, c.if-progress-set.false)) ∙ ap Some (sym c.index-set-progress.is) in
    let at = path_of_same x.path [] (sym c.if-not-is_root.ensures) in
    let root = of_root c.args.revision.now.trees.now (map.get c.args.progress.now.tree) x at (c.in_ok-plan.ensures.faultless x here) c.is_tree.ensures.root in
    let plan = c.in_ok-plan.ensures.plan x here in
    shown_root c.args.revision.now.trees.now c.args.revision.now.set.now c.args.progress.now.next c.advance.new.progress.next x c.in_ok-plan.plan.old
    (left-root c.args.revision.now.trees.now c.args.revision.now.set.now c.args.progress.now.next x here at root.stays (map.get c.args.progress.now.tree) (λ k q. c.requires.ready.walked.is q k) root.dir c.in_ok-plan.plan.old plan.1 c.advance.new.progress.next c.in_ok-plan.ensures.next)
    g.E.Editor.shows c.args.editor.now c.give_dir.new.editor c.give_dir.result c.give_dir.ensures.shown

pub returns-clause-halts : goal.returns-clause-halts
returns-clause-halts g c =
    let x = c.index-set-progress.result in
    let here = slice_get-get_or c.args.revision.now.set.now c.args.progress.now.next x (omega (arith, c.if-progress-set.false)) ∙ ap Some (sym c.index-set-progress.is) in
    let at = path_of_same x.path [] (sym c.if-not-is_root.ensures) in
    let root = of_root c.args.revision.now.trees.now (map.get c.args.progress.now.tree) x at (c.in_ok-plan.ensures.faultless x here) c.is_tree.ensures.root in
    let plan = c.in_ok-plan.ensures.plan x here in
    halt_before g.E.Editor.shows g.E.Editor.began g.E.Editor.refuses c.args.revision.now.trees.now c.args.revision.now.set.now c.args.editor.now (dir_parts x c.in_ok-plan.plan.old) (left c.args.revision.now.trees.now c.args.revision.now.set.now c.advance.new.progress.next []) (left c.args.revision.now.trees.now c.args.revision.now.set.now c.args.progress.now.next []) c.give_dir.result c.give_dir.ensures.stops
    (left-root c.args.revision.now.trees.now c.args.revision.now.set.now c.args.progress.now.next x here at root.stays (map.get c.args.progress.now.tree) (λ k q. c.requires.ready.walked.is q k) root.dir c.in_ok-plan.plan.old plan.1 c.advance.new.progress.next c.in_ok-plan.ensures.next)
