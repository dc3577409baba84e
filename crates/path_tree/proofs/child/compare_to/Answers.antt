use Rattle.std.proofs.Common.{◌≡◌, sym, ap, ◌∙◌}
use Rattle.std.specs.Arc.{arc_value}
use Rattle.std.specs.Ordering.{nat_cmp}
use Rattle.node_base.specs.Path.{name_cmp}
use Rattle.path_tree.proofs.Heads.{by_head_less, by_head_greater}
use Rattle.path_tree.proofs.child.compare_to.Goals as goal

pub returns-in-Less : goal.returns-in-Less
returns-in-Less c =
    let x = c.args.name.now in
    let other = arc_value c.child.inside.entry in
    let e : nat_cmp c.args.head other.head ≡ _ = ap (λ z. nat_cmp c.args.head z.head) (sym c.deref.ensures) ∙ sym c.cmp.ensures ∙ c.in-Less.is in
    sym (by_head_less x (arc_value other.name) c.args.head other.head c.requires c.child.invariant.headed e) ∙ ap (λ z. name_cmp x z.0) c.child.view_is

pub returns-in-Greater : goal.returns-in-Greater
returns-in-Greater c =
    let x = c.args.name.now in
    let other = arc_value c.child.inside.entry in
    let e : nat_cmp c.args.head other.head ≡ _ = ap (λ z. nat_cmp c.args.head z.head) (sym c.deref.ensures) ∙ sym c.cmp.ensures ∙ c.in-Greater.is in
    sym (by_head_greater x (arc_value other.name) c.args.head other.head c.requires c.child.invariant.headed e) ∙ ap (λ z. name_cmp x z.0) c.child.view_is
