use Rattle.std.proofs.Common.{◌∷◌, [], Some, refl, sym, ap, ◌∙◌, arith, take, drop, length, ◌-◌, set}
use Rattle.std.specs.FinMap.{get}
use Rattle.node_base.specs.Path.{is_front}
use Rattle.node_base.specs.Tree.{edited, with_number}
use Rattle.path_tree.proofs.Place.{Swaps, child_found, swaps_set_found}
use Rattle.path_tree.proofs.Edits.{first_and_rest, no_path, edits_as, edited_here, edited_no_child, edited_in_child, front_itself, front_elsewhere}
use Rattle.plain_tree.proofs.branch.Branch.+mark.Goals as goal
use Rattle.plain_tree.proofs.branch.Branch.+mark.Goals.{After-self-1}

swaps : (t : _) (c : After-self-1 t) → Swaps c.self.inside.children.items (set c.self.inside.children.items c.in-Ok.i (c.index_mut-child.result.now.0, c.mark.new.self)) c.first-item.result (Some c.mark.new.self)
swaps t c = swaps_set_found c.self.inside.children.items c.deref.result.now c.first-item.result c.in-Ok.i c.deref.ensures.value c.self.invariant c.in-Ok.ensures.at c.index_mut-child.result.now c.mark.new.self c.in-Ok.ensures.present c.index_mut-child.ensures.value

pub invariant_of-self-in-Ok : goal.invariant_of-self-in-Ok
invariant_of-self-in-Ok t c = (swaps t c).rising

pub returns-in-empty : goal.returns-in-empty
returns-in-empty t c =
    edits_as _ _ c.args.self.now (λ q. is_front q []) (λ q. is_front q c.args.path.now) (with_number c.args.number) c.self.view_is (λ q. ap (is_front q) (sym (no_path c.args.path.now (omega arith))))
    (edited_here c.self.inside.node (λ q. is_front q []) (with_number c.args.number) c.self.inside.children.items c.self.invariant (λ y q. refl))

pub returns-in-Ok : goal.returns-in-Ok
returns-in-Ok t c =
    let x = c.first-item.result in
    let p = take (length c.args.path.now - 1) (drop 1 c.args.path.now) in
    let found = child_found c.self.inside.children.items c.deref.result.now x c.in-Ok.i c.index_mut-child.result.now c.deref.ensures.value c.self.invariant c.in-Ok.ensures.at c.in-Ok.ensures.present c.index_mut-child.ensures.value in
    edits_as _ _ c.args.self.now (λ q. is_front q (x ∷ p)) (λ q. is_front q c.args.path.now) (with_number c.args.number) c.self.view_is (λ q. ap (is_front q) (sym (first_and_rest c.args.path.now x c.first-item.is (omega arith))))
    (edited_in_child c.self.inside.node (λ q. is_front q (x ∷ p)) (with_number c.args.number) x (front_elsewhere x p) c.self.inside.children.items _ c.index_mut-child.result.now.1 c.mark.new.self c.self.invariant (swaps t c) found
    (λ q. c.mark.ensures q ∙ (λ i. edited (get c.index_mut-child.result.now.1) (λ r. front_itself x p r i) (with_number c.args.number) q)))

pub returns-in-Err : goal.returns-in-Err
returns-in-Err t c =
    let x = c.first-item.result in
    let p = take (length c.args.path.now - 1) (drop 1 c.args.path.now) in
    edits_as _ _ c.args.self.now (λ q. is_front q (x ∷ p)) (λ q. is_front q c.args.path.now) (with_number c.args.number) c.self.view_is (λ q. ap (is_front q) (sym (first_and_rest c.args.path.now x c.first-item.is (omega arith))))
    (edited_no_child c.self.inside.node (λ q. is_front q (x ∷ p)) (with_number c.args.number) x (front_elsewhere x p) c.self.inside.children.items c.self.invariant (rw (← c.deref.ensures.value) c.in-Err.ensures.absent))
