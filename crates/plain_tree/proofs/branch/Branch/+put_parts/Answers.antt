use Rattle.std.proofs.Common.{◌∷◌, [], Some, refl, sym, ap, ◌∙◌, arith, take, drop, length, ◌-◌, set}
use Rattle.std.specs.FinMap.{get}
use Rattle.node_base.specs.Path.{same_path}
use Rattle.node_base.specs.Tree.{edited, with_given}
use Rattle.path_tree.proofs.Place.{Swaps, child_found, swaps_set_found}
use Rattle.path_tree.proofs.Edits.{first_and_rest, no_path, edits_as, edited_here, edited_no_child, edited_in_child, path_itself, path_elsewhere}
use Rattle.plain_tree.proofs.branch.Branch.+put_parts.Goals as goal
use Rattle.plain_tree.proofs.branch.Branch.+put_parts.Goals.{After-self-1}

swaps : (t : _) (c : After-self-1 t) → Swaps c.self.inside.children.items (set c.self.inside.children.items c.in-Ok.i (c.index_mut-child.result.now.0, c.put_parts-in-Ok.new.self)) c.first-item.result (Some c.put_parts-in-Ok.new.self)
swaps t c = swaps_set_found c.self.inside.children.items c.deref.result.now c.first-item.result c.in-Ok.i c.deref.ensures.value c.self.invariant c.in-Ok.ensures.at c.index_mut-child.result.now c.put_parts-in-Ok.new.self c.in-Ok.ensures.present c.index_mut-child.ensures.value

pub invariant_of-self-in-Ok : goal.invariant_of-self-in-Ok
invariant_of-self-in-Ok t c = (swaps t c).rising

pub returns-in-empty : goal.returns-in-empty
returns-in-empty t c =
    edits_as _ _ c.args.self.now (λ q. same_path [] q) (λ q. same_path c.args.path.now q) (with_given c.args.text c.args.props) c.self.view_is (λ q. ap (λ z. same_path z q) (sym (no_path c.args.path.now (omega arith))))
    (rw c.put_parts.ensures (edited_here c.self.inside.node (λ q. same_path [] q) (with_given c.args.text c.args.props) c.self.inside.children.items c.self.invariant (λ y q. refl)))

pub returns-in-Ok : goal.returns-in-Ok
returns-in-Ok t c =
    let x = c.first-item.result in
    let p = take (length c.args.path.now - 1) (drop 1 c.args.path.now) in
    let found = child_found c.self.inside.children.items c.deref.result.now x c.in-Ok.i c.index_mut-child.result.now c.deref.ensures.value c.self.invariant c.in-Ok.ensures.at c.in-Ok.ensures.present c.index_mut-child.ensures.value in
    edits_as _ _ c.args.self.now (λ q. same_path (x ∷ p) q) (λ q. same_path c.args.path.now q) (with_given c.args.text c.args.props) c.self.view_is (λ q. ap (λ z. same_path z q) (sym (first_and_rest c.args.path.now x c.first-item.is (omega arith))))
    (edited_in_child c.self.inside.node (λ q. same_path (x ∷ p) q) (with_given c.args.text c.args.props) x (path_elsewhere x p) c.self.inside.children.items _ c.index_mut-child.result.now.1 c.put_parts-in-Ok.new.self c.self.invariant (swaps t c) found
    (λ q. c.put_parts-in-Ok.ensures q ∙ (λ i. edited (get c.index_mut-child.result.now.1) (λ r. path_itself x p r i) (with_given c.args.text c.args.props) q)))

pub returns-in-Err : goal.returns-in-Err
returns-in-Err t c = λ q.
    let x = c.first-item.result in
    let p = take (length c.args.path.now - 1) (drop 1 c.args.path.now) in
    ap (λ m. get m q) (sym c.self.view_is)
    ∙ edits_as _ _ c.args.self.now (λ q. same_path (x ∷ p) q) (λ q. same_path c.args.path.now q) (with_given c.args.text c.args.props) c.self.view_is (λ q. ap (λ z. same_path z q) (sym (first_and_rest c.args.path.now x c.first-item.is (omega arith))))
    (edited_no_child c.self.inside.node (λ q. same_path (x ∷ p) q) (with_given c.args.text c.args.props) x (path_elsewhere x p) c.self.inside.children.items c.self.invariant (rw (← c.deref.ensures.value) c.in-Err.ensures.absent)) q
