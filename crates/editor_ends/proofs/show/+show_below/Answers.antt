use Rattle.std.proofs.Common.{rules, ◌≡◌, ◌<◌, ◌≤◌, ◌-◌, true, false, length, subst, ◌∙◌, arith}
use Rattle.std.proofs.lemmas.Result.{err_from_is_err_and}
use Rattle.node_base.specs.PathText.{is_path}
use Rattle.node_base.proofs.ReadBack.{fits_of_path, count_of_fits}
use Rattle.delta_editor.specs.Calls.{Refused}
use Rattle.delta_editor.specs.declared.call.Call.TheVariants as call
use Rattle.editor_ends.specs.Shown.{Shown, Halts, Refusal, Entered, IsLater, IsNext, left, is_under}
use Rattle.editor_ends.proofs.Showing.{shown_twice, stops_first, stops_behind}
use Rattle.editor_ends.proofs.Walks.{shown_child, found, found_none, later_more, closes_child, halts_behind, child_length}
use Rattle.editor_ends.proofs.show.+show_below.Goals as goal

pub returns-in_err-enter-clause-halts : goal.returns-in_err-enter-clause-halts
returns-in_err-enter-clause-halts g _ c =
    let failed = err_from_is_err_and c.from_residual-in_err-enter.result c.from_residual-in_err-enter.ensures.1 in
    let inv = c.loop-path.invariant in
    rw (failed.1, failed.2)
    (halts_behind g.E.Editor.shows g.E.Editor.began g.E.Editor.refuses c.args.revision.now.trees.now c.args.revision.now.set.now c.args.editor.now c.loop-path.editor (left c.args.revision.now.trees.now c.args.revision.now.set.now c.args.progress.now.next c.args.at.now) (left c.args.revision.now.trees.now c.args.revision.now.set.now c.loop-path.progress.next c.args.at.now) c.in_err-enter.field-0.0 inv.6 inv.5
    (subst (λ d. Halts g.E.Editor.shows g.E.Editor.began g.E.Editor.refuses c.args.revision.now.trees.now c.args.revision.now.set.now c.loop-path.editor (left c.args.revision.now.trees.now c.args.revision.now.set.now c.loop-path.progress.next d) c.in_err-enter.field-0.0) inv.3 c.in_err-enter.ensures.halts))

pub loop-path-preserved-in-None-2 : goal.loop-path-preserved-in-None-2
loop-path-preserved-in-None-2 g _ c =
    let inv = c.loop-path.invariant in
    let dp = g.E.Editor.dir_path c.loop-path.dir in
    let entered = subst (λ z. Entered g.E.Editor.shows g.E.Editor.dir_path c.loop-path.editor c.enter.new.editor (left c.args.revision.now.trees.now c.args.revision.now.set.now c.loop-path.progress.next dp) (left c.args.revision.now.trees.now c.args.revision.now.set.now c.enter.new.progress.next) dp c.in-Some.path z) c.in-None-2.is c.in_ok-enter.ensures.shown in
    let moved : c.loop-path.progress.next < c.enter.new.progress.next = found_none c.in_ok-enter.field-0 (c.loop-path.progress.next < c.enter.new.progress.next) (λ _. c.loop-path.progress.next ≤ c.enter.new.progress.next) c.in-None-2.is c.in_ok-enter.ensures.moved in (
      c.in_ok-enter.ensures.walked,
      c.in_ok-enter.ensures.within,
      omega (arith, moved, inv.2),
      c.in_ok-enter.ensures.up ∙ inv.3,
      later_more c.args.revision.now.set.now c.loop-path.progress.next c.enter.new.progress.next c.args.at.now (omega (arith, moved)) inv.4,
      c.in_ok-enter.ensures.began ∙ inv.5,
      shown_twice g.E.Editor.shows c.args.editor.now c.loop-path.editor c.enter.new.editor (left c.args.revision.now.trees.now c.args.revision.now.set.now c.args.progress.now.next c.args.at.now) (left c.args.revision.now.trees.now c.args.revision.now.set.now c.loop-path.progress.next c.args.at.now) (left c.args.revision.now.trees.now c.args.revision.now.set.now c.enter.new.progress.next c.args.at.now) inv.6
          (subst (λ z. Shown g.E.Editor.shows c.loop-path.editor c.enter.new.editor (left c.args.revision.now.trees.now c.args.revision.now.set.now c.loop-path.progress.next z) (left c.args.revision.now.trees.now c.args.revision.now.set.now c.enter.new.progress.next z)) inv.3 entered),
    )

pub show_below-requires : goal.show_below-requires
show_below-requires g _ c =
    let inv = c.loop-path.invariant in
    let dp = g.E.Editor.dir_path c.loop-path.dir in
    let entered = subst (λ z. Entered g.E.Editor.shows g.E.Editor.dir_path c.loop-path.editor c.enter.new.editor (left c.args.revision.now.trees.now c.args.revision.now.set.now c.loop-path.progress.next dp) (left c.args.revision.now.trees.now c.args.revision.now.set.now c.enter.new.progress.next) dp c.in-Some.path z) c.in-Some-2.is c.in_ok-enter.ensures.shown in
    let later = found c.in_ok-enter.field-0 c.in-Some-2.child (dp ≡ dp) (λ _. IsLater c.args.revision.now.set.now c.enter.new.progress.next c.in-Some.path) c.in-Some-2.is c.in_ok-enter.ensures.later in
    let next = found c.in_ok-child_of.field-0 c.in-Some.path (is_under c.args.revision.now.set.now c.loop-path.progress.next c.args.at.now ≡ false) (IsNext c.args.revision.now.set.now c.loop-path.progress.next c.args.at.now) c.in-Some.is c.in_ok-child_of.ensures.next in
    let small = count_of_fits c.in-Some.path (fits_of_path c.in-Some.path (subst (λ p. is_path p ≡ true) c.path.view_is c.path.invariant)) in
    let falls : 64 - length c.in-Some.path < 64 - length c.args.at.now = omega (arith, small, child_length c.args.revision.now.set.now c.loop-path.progress.next c.args.at.now c.in-Some.path next) in
    let at = entered.0 in
    search (rules, falls, at, later)

pub returns-in_err-close_dir-in-Ok-clause-halts : goal.returns-in_err-close_dir-in-Ok-clause-halts
returns-in_err-close_dir-in-Ok-clause-halts g _ c =
    let failed = err_from_is_err_and c.from_residual-in_err-close_dir-in-Ok.result c.from_residual-in_err-close_dir-in-Ok.ensures.1 in
    let inv = c.loop-path.invariant in
    let dp = g.E.Editor.dir_path c.loop-path.dir in
    let entered = subst (λ z. Entered g.E.Editor.shows g.E.Editor.dir_path c.loop-path.editor c.enter.new.editor (left c.args.revision.now.trees.now c.args.revision.now.set.now c.loop-path.progress.next dp) (left c.args.revision.now.trees.now c.args.revision.now.set.now c.enter.new.progress.next) dp c.in-Some.path z) c.in-Some-2.is c.in_ok-enter.ensures.shown in
    let next = found c.in_ok-child_of.field-0 c.in-Some.path (is_under c.args.revision.now.set.now c.loop-path.progress.next c.args.at.now ≡ false) (IsNext c.args.revision.now.set.now c.loop-path.progress.next c.args.at.now) c.in-Some.is c.in_ok-child_of.ensures.next in
    let first = left c.args.revision.now.trees.now c.args.revision.now.set.now c.args.progress.now.next c.args.at.now in
    let here = left c.args.revision.now.trees.now c.args.revision.now.set.now c.loop-path.progress.next c.args.at.now in
    let inside = left c.args.revision.now.trees.now c.args.revision.now.set.now c.enter.new.progress.next c.in-Some.path in
    let past = left c.args.revision.now.trees.now c.args.revision.now.set.now c.show_below.new.progress.next c.in-Some.path in
    let f = c.in_err-close_dir-in-Ok.field-0.0 in
    let refused = subst (λ p. Refused g.E.Editor.shows g.E.Editor.began g.E.Editor.refuses c.show_below.new.editor (call.CloseDir p) f) (c.in-Ok.ensures.baton ∙ entered.0) c.in_err-close_dir-in-Ok.ensures.refused in
    let one = shown_twice g.E.Editor.shows c.args.editor.now c.loop-path.editor c.enter.new.editor first here inside inv.6 (subst (λ z. Shown g.E.Editor.shows c.loop-path.editor c.enter.new.editor (left c.args.revision.now.trees.now c.args.revision.now.set.now c.loop-path.progress.next z) inside) inv.3 entered.1) in
    let two = shown_twice g.E.Editor.shows c.args.editor.now c.enter.new.editor c.show_below.new.editor first inside past one c.in-Ok.ensures.shown in
    rw (failed.1, failed.2)
    (Refusal
    (stops_behind g.E.Editor.shows g.E.Editor.began g.E.Editor.refuses c.args.editor.now c.show_below.new.editor first past f two (c.in-Ok.ensures.began ∙ c.in_ok-enter.ensures.began ∙ inv.5)
    (stops_first g.E.Editor.shows g.E.Editor.began g.E.Editor.refuses c.show_below.new.editor (call.CloseDir c.in-Some.path) (left c.args.revision.now.trees.now c.args.revision.now.set.now c.show_below.new.progress.next c.args.at.now) past f refused
    (closes_child c.args.revision.now.trees.now c.args.revision.now.set.now c.loop-path.progress.next c.show_below.new.progress.next c.args.at.now c.in-Some.path next c.in-Ok.ensures.past))))

pub returns-in-Err-clause-halts : goal.returns-in-Err-clause-halts
returns-in-Err-clause-halts g _ c =
    let inv = c.loop-path.invariant in
    let dp = g.E.Editor.dir_path c.loop-path.dir in
    let entered = subst (λ z. Entered g.E.Editor.shows g.E.Editor.dir_path c.loop-path.editor c.enter.new.editor (left c.args.revision.now.trees.now c.args.revision.now.set.now c.loop-path.progress.next dp) (left c.args.revision.now.trees.now c.args.revision.now.set.now c.enter.new.progress.next) dp c.in-Some.path z) c.in-Some-2.is c.in_ok-enter.ensures.shown in
    let first = left c.args.revision.now.trees.now c.args.revision.now.set.now c.args.progress.now.next c.args.at.now in
    let here = left c.args.revision.now.trees.now c.args.revision.now.set.now c.loop-path.progress.next c.args.at.now in
    let inside = left c.args.revision.now.trees.now c.args.revision.now.set.now c.enter.new.progress.next c.in-Some.path in
    let one = shown_twice g.E.Editor.shows c.args.editor.now c.loop-path.editor c.enter.new.editor first here inside inv.6 (subst (λ z. Shown g.E.Editor.shows c.loop-path.editor c.enter.new.editor (left c.args.revision.now.trees.now c.args.revision.now.set.now c.loop-path.progress.next z) inside) inv.3 entered.1) in
    halts_behind g.E.Editor.shows g.E.Editor.began g.E.Editor.refuses c.args.revision.now.trees.now c.args.revision.now.set.now c.args.editor.now c.enter.new.editor first inside c.in-Err.fault one (c.in_ok-enter.ensures.began ∙ inv.5) c.in-Err.ensures.halts

pub loop-path-preserved-in_ok-close_dir-in-Ok : goal.loop-path-preserved-in_ok-close_dir-in-Ok
loop-path-preserved-in_ok-close_dir-in-Ok g _ c =
    let inv = c.loop-path.invariant in
    let dp = g.E.Editor.dir_path c.loop-path.dir in
    let entered = subst (λ z. Entered g.E.Editor.shows g.E.Editor.dir_path c.loop-path.editor c.enter.new.editor (left c.args.revision.now.trees.now c.args.revision.now.set.now c.loop-path.progress.next dp) (left c.args.revision.now.trees.now c.args.revision.now.set.now c.enter.new.progress.next) dp c.in-Some.path z) c.in-Some-2.is c.in_ok-enter.ensures.shown in
    let next = found c.in_ok-child_of.field-0 c.in-Some.path (is_under c.args.revision.now.set.now c.loop-path.progress.next c.args.at.now ≡ false) (IsNext c.args.revision.now.set.now c.loop-path.progress.next c.args.at.now) c.in-Some.is c.in_ok-child_of.ensures.next in
    let moved : c.loop-path.progress.next ≤ c.enter.new.progress.next = found c.in_ok-enter.field-0 c.in-Some-2.child (c.loop-path.progress.next < c.enter.new.progress.next) (λ _. c.loop-path.progress.next ≤ c.enter.new.progress.next) c.in-Some-2.is c.in_ok-enter.ensures.moved in (
      c.in-Ok.ensures.walked,
      c.in-Ok.ensures.within,
      omega (arith, moved, inv.2, c.in-Ok.ensures.moved),
      c.in_ok-enter.ensures.up ∙ inv.3,
      later_more c.args.revision.now.set.now c.loop-path.progress.next c.show_below.new.progress.next c.args.at.now (omega (arith, moved, c.in-Ok.ensures.moved)) inv.4,
      c.in_ok-close_dir-in-Ok.ensures.began ∙ c.in-Ok.ensures.began ∙ c.in_ok-enter.ensures.began ∙ inv.5,
      shown_twice g.E.Editor.shows c.args.editor.now c.loop-path.editor c.close_dir.new.self (left c.args.revision.now.trees.now c.args.revision.now.set.now c.args.progress.now.next c.args.at.now) (left c.args.revision.now.trees.now c.args.revision.now.set.now c.loop-path.progress.next c.args.at.now) (left c.args.revision.now.trees.now c.args.revision.now.set.now c.show_below.new.progress.next c.args.at.now) inv.6
          (shown_child c.args.revision.now.trees.now c.args.revision.now.set.now c.loop-path.progress.next c.enter.new.progress.next c.show_below.new.progress.next c.args.at.now c.in-Some.path _ next c.in-Ok.ensures.past (c.in-Ok.ensures.baton ∙ entered.0)
          g.E.Editor.shows c.loop-path.editor c.enter.new.editor c.show_below.new.editor c.close_dir.new.self
          (subst (λ z. Shown g.E.Editor.shows c.loop-path.editor c.enter.new.editor (left c.args.revision.now.trees.now c.args.revision.now.set.now c.loop-path.progress.next z) (left c.args.revision.now.trees.now c.args.revision.now.set.now c.enter.new.progress.next c.in-Some.path)) inv.3 entered.1)
          c.in-Ok.ensures.shown
          c.in_ok-close_dir-in-Ok.ensures.shown),
    )
