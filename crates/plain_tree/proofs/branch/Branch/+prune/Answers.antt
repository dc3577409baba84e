use Rattle.std.proofs.Common.{◌∷◌, ◌++◌, [], Some, None, refl, ap, arith, set}
use Rattle.path_tree.proofs.Place.{Swaps, child_found, swaps_set_found, swaps_remove_found}
use Rattle.path_tree.proofs.Edits.{first_and_rest, no_path, graft_in_child, grafts_in_child, grafts_as, prune_absent}
use Rattle.plain_tree.proofs.branch.Branch.+prune.Goals as goal
use Rattle.plain_tree.proofs.branch.Branch.+prune.Goals.{After-drop-remove-in-Ok-3, After-self-1}

swaps_here : (t : _) (c : After-drop-remove-in-Ok-3 t) → Swaps c.self.inside.children.items c.remove.new.self.items c.args.name.now None
swaps_here t c = rw c.remove.ensures.items (swaps_remove_found c.self.inside.children.items c.deref.result.now c.args.name.now c.in-Ok.i c.deref.ensures.value c.self.invariant c.in-Ok.ensures.at c.in-Ok.ensures.present)

pub invariant_of-self : goal.invariant_of-self
invariant_of-self t c = (swaps_here t c).rising

pub returns-in-Ok : goal.returns-in-Ok
returns-in-Ok t c =
    grafts_as _ _ c.args.self.now (c.args.name.now ∷ []) (c.args.above.now ++ c.args.name.now ∷ []) (λ _. None) c.self.view_is (ap (λ p. p ++ c.args.name.now ∷ []) (no_path c.args.above.now (omega arith)))
    (graft_in_child c.self.inside.node c.self.inside.children.items _ c.args.name.now None c.self.invariant (swaps_here t c) [] (λ _. None) (λ q. refl))

pub returns-in_default : goal.returns-in_default
returns-in_default t c =
    prune_absent c.self.inside.node c.self.inside.children.items c.self.invariant c.args.name.now (rw (← c.deref.ensures.value) c.in_default.ensures.absent) c.args.self.now c.self.view_is [] (c.args.above.now ++ c.args.name.now ∷ []) (ap (λ p. p ++ c.args.name.now ∷ []) (no_path c.args.above.now (omega arith)))

swaps_in_child : (t : _) (c : After-self-1 t) → Swaps c.self.inside.children.items (set c.self.inside.children.items c.in-Ok-place_of.i (c.index_mut-child.result.now.0, c.prune.new.self)) c.first-item.result (Some c.prune.new.self)
swaps_in_child t c = swaps_set_found c.self.inside.children.items c.deref-in-len1-up.result.now c.first-item.result c.in-Ok-place_of.i c.deref-in-len1-up.ensures.value c.self.invariant c.in-Ok-place_of.ensures.at c.index_mut-child.result.now c.prune.new.self c.in-Ok-place_of.ensures.present c.index_mut-child.ensures.value

pub invariant_of-self-in-Ok-place_of : goal.invariant_of-self-in-Ok-place_of
invariant_of-self-in-Ok-place_of t c = (swaps_in_child t c).rising

pub returns-in-Ok-place_of : goal.returns-in-Ok-place_of
returns-in-Ok-place_of t c =
    let found = child_found c.self.inside.children.items c.deref-in-len1-up.result.now c.first-item.result c.in-Ok-place_of.i c.index_mut-child.result.now c.deref-in-len1-up.ensures.value c.self.invariant c.in-Ok-place_of.ensures.at c.in-Ok-place_of.ensures.present c.index_mut-child.ensures.value in
    let split = first_and_rest c.args.above.now c.first-item.result c.first-item.is (omega arith) in
    grafts_as _ _ c.args.self.now _ (c.args.above.now ++ c.args.name.now ∷ []) (λ _. None) c.self.view_is (ap (λ p. p ++ c.args.name.now ∷ []) split)
    (grafts_in_child c.self.inside.node c.self.inside.children.items _ c.first-item.result c.index_mut-child.result.now.1 c.prune.new.self c.self.invariant (swaps_in_child t c) found _ (λ _. None) c.prune.ensures)

pub returns-in_default-place_of : goal.returns-in_default-place_of
returns-in_default-place_of t c =
    let split = first_and_rest c.args.above.now c.first-item.result c.first-item.is (omega arith) in
    prune_absent c.self.inside.node c.self.inside.children.items c.self.invariant c.first-item.result (rw (← c.deref-in-len1-up.ensures.value) c.in_default-place_of.ensures.absent) c.args.self.now c.self.view_is _ (c.args.above.now ++ c.args.name.now ∷ []) (ap (λ p. p ++ c.args.name.now ∷ []) split)
