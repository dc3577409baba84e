use Rattle.std.proofs.Common.{◌≡◌, ◌∷◌, IsSome, refl, sym, ap, subst, ◌∙◌}
use Rattle.path_tree.specs.Children.{children_of}
use Rattle.tree_reports.specs.Folders.{IsGrafted, in_folder}
use Rattle.tree_reports.proofs.Grafts.{absent_below, none_grafted, child_there, one_copied}
use Rattle.tree_reports.proofs.folder.graft_children.Goals as goal

pub loop-children-init : goal.loop-children-init
loop-children-init c =
    let m = c.args.tree.now in
    let folder = c.args.folder.now in
    subst (IsGrafted m folder (in_folder m folder) c.args.top.now c.args.top.now) (sym (c.in_ok-children.ensures ∙ ap (λ p. children_of p m) c.names.ensures.names))
    (none_grafted m folder (in_folder m folder) c.args.top.now (absent_below m folder c.is_tree.ensures) c.requires)

pub graft_child-requires : goal.graft_child-requires
graft_child-requires c =
    let m = c.args.tree.now in
    let folder = c.args.folder.now in
    let e : c.loop-children.children ≡ (c.in-Some.field-0.name.now, c.in-Some.field-0.node.now) ∷ c.next.new.self = rw c.in-Some.is at c.in_ok-name.ensures in
    subst IsSome (sym (child_there m folder (in_folder m folder) c.args.top.now c.loop-children.top c.loop-children.children c.next.new.self c.in-Some.field-0.name.now c.in-Some.field-0.node.now c.loop-children.invariant e)) refl

pub loop-children-preserved : goal.loop-children-preserved
loop-children-preserved c =
    let e : c.loop-children.children ≡ (c.in-Some.field-0.name.now, c.in-Some.field-0.node.now) ∷ c.next.new.self = rw c.in-Some.is at c.in_ok-name.ensures in
    one_copied c.args.tree.now c.args.folder.now c.args.top.now c.loop-children.top c.graft_child.new.top c.loop-children.children c.next.new.self c.in-Some.field-0.name.now c.in-Some.field-0.node.now c.loop-children.invariant e c.in_ok-graft_child.ensures
