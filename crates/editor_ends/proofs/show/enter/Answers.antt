use Rattle.std.proofs.Common.{◌≡◌, sym, ap, ◌∙◌, arith, [], length, subst, refl, ◌<◌}
use Rattle.std.proofs.lemmas.Option.{get_or_from_slice_get}
use Rattle.std.proofs.lemmas.Result.{err_from_is_err_and}
use Rattle.std.specs.FinMap as map
use Rattle.std.specs.Prelude.{OnOk, IfOk, IfErr, MatchOption}
use Rattle.delta_editor.specs.Calls.{Adds}
use Rattle.node_base.specs.Path.{is_front}
use Rattle.delta_editor.specs.declared.call.Call.TheVariants as call
use Rattle.editor_ends.specs.Fronts.{above}
use Rattle.editor_ends.specs.Drive.{calls_with, rests_with}
use Rattle.editor_ends.specs.Shown.{Stops, Refusal, IsLater, left}
use Rattle.editor_ends.proofs.Showing.{shown_adds, stops_first}
use Rattle.editor_ends.proofs.Walks.{next-opens, next-above, next-below_root, next-entered, next-shown, later_here, later_child, below_is_later, halt_before, for_each_ok}
use Rattle.editor_ends.proofs.show.enter.Goals as goal

pub returns-then-names-clause-shown : goal.returns-then-names-clause-shown
returns-then-names-clause-shown g c =
    (c.in_ok-open_dir.ensures.baton, shown_adds g.E.Editor.shows c.args.editor.now c.open_dir.new.self _ _ _ c.in_ok-open_dir.ensures.shown (next-opens c.args.revision.now.trees.now c.args.revision.now.set.now c.args.progress.now.next (g.E.Editor.dir_path c.args.up.now) c.args.path.now c.requires.child c.base_of.result c.base_of.ensures (omega (arith, c.if-names.true, ap (λ x. length x.path) (c.index-set-progress.is ∙ get_or_from_slice_get c.args.revision.now.set.now c.args.progress.now.next c.requires.child.change c.index-set-progress.result c.requires.child.is), ap length c.names.ensures.names, ap length c.names-2.ensures.names))))

pub returns-then-names-clause-later : goal.returns-then-names-clause-later
returns-then-names-clause-later g c =
    let n = c.requires.child in
    let longer : length c.args.path.now < length n.change.path = omega (arith, c.if-names.true, ap (λ x. length x.path) (c.index-set-progress.is ∙ get_or_from_slice_get c.args.revision.now.set.now c.args.progress.now.next n.change c.index-set-progress.result n.is), ap length c.names.ensures.names, ap length c.names-2.ensures.names) in
    later_here c.args.revision.now.set.now c.args.progress.now.next n.change c.args.path.now c.requires.ready.normal n.is (below_is_later c.args.path.now n.change.path n.under longer)

pub returns-in_err-open_dir-clause-halts : goal.returns-in_err-open_dir-clause-halts
returns-in_err-open_dir-clause-halts g c =
    let failed = err_from_is_err_and c.from_residual.result c.from_residual.ensures.1 in
    let n = c.requires.child in
    let opens = next-opens c.args.revision.now.trees.now c.args.revision.now.set.now c.args.progress.now.next (g.E.Editor.dir_path c.args.up.now) c.args.path.now n c.base_of.result c.base_of.ensures (omega (arith, c.if-names.true, ap (λ x. length x.path) (c.index-set-progress.is ∙ get_or_from_slice_get c.args.revision.now.set.now c.args.progress.now.next n.change c.index-set-progress.result n.is), ap length c.names.ensures.names, ap length c.names-2.ensures.names)) in
    rw (failed.1, failed.2) (Refusal (stops_first g.E.Editor.shows g.E.Editor.began g.E.Editor.refuses c.args.editor.now (call.OpenDir (g.E.Editor.dir_path c.args.up.now) c.args.path.now c.base_of.result) (left c.args.revision.now.trees.now c.args.revision.now.set.now c.args.progress.now.next c.args.path.now) (left c.args.revision.now.trees.now c.args.revision.now.set.now c.args.progress.now.next (g.E.Editor.dir_path c.args.up.now)) c.in_err-open_dir.field-0.0 c.in_err-open_dir.ensures.refused opens))

pub show_change-requires-clause-up : goal.show_change-requires-clause-up
show_change-requires-clause-up g c =
    let here = c.index-set-progress.is ∙ get_or_from_slice_get c.args.revision.now.set.now c.args.progress.now.next c.requires.child.change c.index-set-progress.result c.requires.child.is in
    sym (ap (λ x. above x.path) here ∙ next-above c.args.revision.now.trees.now c.args.revision.now.set.now c.args.progress.now.next (g.E.Editor.dir_path c.args.up.now) c.args.path.now c.requires.child (omega (arith, c.if-names.false, ap (λ x. length x.path) (c.index-set-progress.is ∙ get_or_from_slice_get c.args.revision.now.set.now c.args.progress.now.next c.requires.child.change c.index-set-progress.result c.requires.child.is), ap length c.names.ensures.names, ap length c.names-2.ensures.names)))

pub show_change-requires-clause-below_root : goal.show_change-requires-clause-below_root
show_change-requires-clause-below_root g c =
    let here = c.index-set-progress.is ∙ get_or_from_slice_get c.args.revision.now.set.now c.args.progress.now.next c.requires.child.change c.index-set-progress.result c.requires.child.is in
    ap (λ x. is_front x.path []) here ∙ next-below_root c.args.revision.now.trees.now c.args.revision.now.set.now c.args.progress.now.next (g.E.Editor.dir_path c.args.up.now) c.args.path.now c.requires.child

pub returns-clause-halts : goal.returns-clause-halts
returns-clause-halts g c =
    let n = c.requires.child in
    let here = c.index-set-progress.is ∙ get_or_from_slice_get c.args.revision.now.set.now c.args.progress.now.next n.change c.index-set-progress.result n.is in
    let plan = c.in_ok-plan.ensures.plan n.change n.is in
    let x = n.change in
    halt_before g.E.Editor.shows g.E.Editor.began g.E.Editor.refuses c.args.revision.now.trees.now c.args.revision.now.set.now c.args.editor.now (calls_with c.args.revision.now.trees.now c.in_ok-plan.plan.file c.in_ok-plan.plan.old x) _ (left c.args.revision.now.trees.now c.args.revision.now.set.now c.args.progress.now.next (g.E.Editor.dir_path c.args.up.now)) c.show_change.result
    (subst (λ x. IfErr c.show_change.result (Stops g.E.Editor.shows g.E.Editor.began g.E.Editor.refuses c.args.editor.now (calls_with c.args.revision.now.trees.now c.in_ok-plan.plan.file c.in_ok-plan.plan.old x))) here c.show_change.ensures.stops)
    (next-shown c.args.revision.now.trees.now c.args.revision.now.set.now c.args.progress.now.next (g.E.Editor.dir_path c.args.up.now) c.args.path.now n (omega (arith, c.if-names.false, ap (λ x. length x.path) (c.index-set-progress.is ∙ get_or_from_slice_get c.args.revision.now.set.now c.args.progress.now.next n.change c.index-set-progress.result n.is), ap length c.names.ensures.names, ap length c.names-2.ensures.names)) (map.get c.args.progress.now.tree) (λ k q. c.requires.ready.walked.is q k) c.in_ok-plan.plan.file plan.0 c.in_ok-plan.plan.old plan.1)

pub returns-clause-later : goal.returns-clause-later
returns-clause-later g c =
    let n = c.requires.child in
    let same = later_child c.args.revision.now.set.now c.args.progress.now.next c.advance.new.progress.next (g.E.Editor.dir_path c.args.up.now) c.args.path.now n c.requires.ready.normal c.in_ok-plan.ensures.next (omega (arith, c.if-names.false, ap (λ x. length x.path) (c.index-set-progress.is ∙ get_or_from_slice_get c.args.revision.now.set.now c.args.progress.now.next n.change c.index-set-progress.result n.is), ap length c.names.ensures.names, ap length c.names-2.ensures.names)) in
    for_each_ok c.show_change.result (g.E.Editor.dir_path c.args.up.now ≡ g.E.Editor.dir_path c.args.up.now) (IsLater c.args.revision.now.set.now c.advance.new.progress.next c.args.path.now) refl same

pub returns-clause-shown : goal.returns-clause-shown
returns-clause-shown g c =
    let here = c.index-set-progress.is ∙ get_or_from_slice_get c.args.revision.now.set.now c.args.progress.now.next c.requires.child.change c.index-set-progress.result c.requires.child.is in
    let plan = c.in_ok-plan.ensures.plan c.requires.child.change c.requires.child.is in
    next-entered c.args.revision.now.trees.now c.args.revision.now.set.now c.args.progress.now.next (g.E.Editor.dir_path c.args.up.now) c.args.path.now c.requires.child c.advance.new.progress.next c.in_ok-plan.ensures.next (omega (arith, c.if-names.false, ap (λ x. length x.path) (c.index-set-progress.is ∙ get_or_from_slice_get c.args.revision.now.set.now c.args.progress.now.next c.requires.child.change c.index-set-progress.result c.requires.child.is), ap length c.names.ensures.names, ap length c.names-2.ensures.names)) (map.get c.args.progress.now.tree) (λ k q. c.requires.ready.walked.is q k) c.in_ok-plan.plan.file plan.0 c.in_ok-plan.plan.old plan.1
    g.E.Editor.shows g.E.Editor.dir_path c.args.editor.now c.show_change.new.editor c.show_change.result
    (subst (λ x. OnOk c.show_change.result (Adds g.E.Editor.shows c.args.editor.now c.show_change.new.editor (calls_with c.args.revision.now.trees.now c.in_ok-plan.plan.file c.in_ok-plan.plan.old x))) here c.show_change.ensures.shown)
    (subst (λ x. IfOk c.show_change.result (λ o. MatchOption o (rests_with c.in_ok-plan.plan.file x ≡ above x.path) (λ d. (g.E.Editor.dir_path d ≡ x.path) × (rests_with c.in_ok-plan.plan.file x ≡ x.path)))) here c.show_change.ensures.rests)
