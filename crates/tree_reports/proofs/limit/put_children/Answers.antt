use Rattle.std.proofs.Common.{◌≡◌, ◌∷◌, sym, ap, subst, ◌∙◌}
use Rattle.path_tree.specs.Children.{children_of}
use Rattle.tree_reports.specs.Depths.{within}
use Rattle.tree_reports.specs.Folders.{IsGrafted, in_folder}
use Rattle.tree_reports.proofs.Taken.{none_taken, one_taken}
use Rattle.tree_reports.proofs.limit.put_children.Goals as goal

pub loop-children-init : goal.loop-children-init
loop-children-init c =
    let m = c.args.tree.now in
    let folder = c.args.folder.now in
    subst (IsGrafted m folder (within c.args.depth (in_folder m folder)) c.args.top.now c.args.top.now) (sym (c.in_ok-children.ensures ∙ ap (λ p. children_of p m) c.names.ensures.names))
    (none_taken c.args.depth m folder c.args.top.now c.is_tree.ensures c.requires.blank)

pub loop-children-preserved : goal.loop-children-preserved
loop-children-preserved c =
    let e : c.loop-children.children ≡ (c.in-Some.field-0.name.now, c.in-Some.field-0.node.now) ∷ c.next.new.self = rw c.in-Some.is at c.in_ok-name.ensures in
    one_taken c.args.depth c.args.tree.now c.args.folder.now c.args.top.now c.loop-children.top c.put_child.new.top c.loop-children.children c.next.new.self c.in-Some.field-0.name.now c.in-Some.field-0.node.now c.requires.shallow c.loop-children.invariant e c.in_ok-put_child.ensures
