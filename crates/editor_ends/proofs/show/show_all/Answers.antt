use Rattle.std.proofs.Common.{◌≡◌, [], subst, false}
use Rattle.std.specs.Prelude.{OnOk, IfErr}
use Rattle.editor_ends.specs.Shown.{Shown, Halts, left, is_under}
use Rattle.editor_ends.proofs.Edits.{end_faultless, end_shown, halt_behind}
use Rattle.editor_ends.proofs.show.show_all.Goals as goal

pub returns-clause-faultless : goal.returns-clause-faultless
returns-clause-faultless g c =
    end_faultless c.show_below.result c.args.revision.now.trees.now c.args.revision.now.set.now c.show_below.new.progress.next c.show_below.new.progress.tree c.show_below.ensures.walked
    (subst (λ z. OnOk c.show_below.result (is_under c.args.revision.now.set.now c.show_below.new.progress.next z ≡ false)) c.root-at.ensures c.show_below.ensures.past)

pub returns-clause-shown : goal.returns-clause-shown
returns-clause-shown g c =
    end_shown c.show_below.result g.E.Editor.shows c.args.revision.now.trees.now c.args.revision.now.set.now c.show_below.new.progress.next c.args.editor.now c.show_root.new.editor c.show_below.new.editor (left c.args.revision.now.trees.now c.args.revision.now.set.now 0 []) (left c.args.revision.now.trees.now c.args.revision.now.set.now c.show_root.new.progress.next []) c.in_ok-show_root.ensures.shown
    (subst (λ z. OnOk c.show_below.result (Shown g.E.Editor.shows c.show_root.new.editor c.show_below.new.editor (left c.args.revision.now.trees.now c.args.revision.now.set.now c.show_root.new.progress.next z) (left c.args.revision.now.trees.now c.args.revision.now.set.now c.show_below.new.progress.next z))) c.root-at.ensures c.show_below.ensures.shown)
    (subst (λ z. OnOk c.show_below.result (is_under c.args.revision.now.set.now c.show_below.new.progress.next z ≡ false)) c.root-at.ensures c.show_below.ensures.past)

pub returns-clause-halts : goal.returns-clause-halts
returns-clause-halts g c =
    halt_behind g.E.Editor.shows g.E.Editor.began g.E.Editor.refuses c.args.revision.now.trees.now c.args.revision.now.set.now c.show_below.result c.args.editor.now c.show_root.new.editor (left c.args.revision.now.trees.now c.args.revision.now.set.now 0 []) (left c.args.revision.now.trees.now c.args.revision.now.set.now c.show_root.new.progress.next []) c.in_ok-show_root.ensures.shown c.in_ok-show_root.ensures.began
    (subst (λ z. IfErr c.show_below.result (Halts g.E.Editor.shows g.E.Editor.began g.E.Editor.refuses c.args.revision.now.trees.now c.args.revision.now.set.now c.show_root.new.editor (left c.args.revision.now.trees.now c.args.revision.now.set.now c.show_root.new.progress.next z))) c.root-at.ensures c.show_below.ensures.halts)
