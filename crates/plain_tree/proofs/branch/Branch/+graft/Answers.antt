use Rattle.std.proofs.Common.{◌∷◌, ◌++◌, [], Some, refl, ap, arith, set, length-take, length-drop}
use Rattle.std.specs.FinMap.{get}
use Rattle.path_tree.proofs.Place.{Swaps, child_found, swaps_set_found, swaps_insert_absent}
use Rattle.path_tree.proofs.Edits.{first_and_rest, no_path, graft_in_child, grafts_in_child, grafts_as, on_ok, not_absent, some_in_child}
use Rattle.plain_tree.proofs.branch.Branch.+graft.Goals as goal
use Rattle.plain_tree.proofs.branch.Branch.+graft.Goals.{In_ok-insert-in-Err, After-graft-arg-1, After-self-in-Ok-place_of-1}

-- the child at the last name is overwritten
pub invariant_of-self : goal.invariant_of-self
invariant_of-self t c = (swaps_set_found c.self.inside.children.items c.deref.result.now c.args.name c.in-Ok.i c.deref.ensures.value c.self.invariant c.in-Ok.ensures.at c.index_mut-child.result.now c.args.branch c.in-Ok.ensures.present c.index_mut-child.ensures.value).rising

pub returns-in-Ok-clause-ok : goal.returns-in-Ok-clause-ok
returns-in-Ok-clause-ok t c =
    grafts_as _ _ c.args.self.now (c.args.name ∷ []) (c.args.above.now ++ c.args.name ∷ []) (get c.args.branch) c.self.view_is (ap (λ p. p ++ c.args.name ∷ []) (no_path c.args.above.now (omega arith)))
    (graft_in_child c.self.inside.node c.self.inside.children.items _ c.args.name (Some c.args.branch) c.self.invariant (swaps_set_found c.self.inside.children.items c.deref.result.now c.args.name c.in-Ok.i c.deref.ensures.value c.self.invariant c.in-Ok.ensures.at c.index_mut-child.result.now c.args.branch c.in-Ok.ensures.present c.index_mut-child.ensures.value) [] (get c.args.branch) (λ q. refl))

-- a child of the last name is added
swaps_new : (t : _) (c : In_ok-insert-in-Err t) → Swaps c.self.inside.children.items c.insert.new.self.items c.args.name (Some c.args.branch)
swaps_new t c = rw c.in_ok-insert-in-Err.ensures.items (swaps_insert_absent c.self.inside.children.items c.deref.result.now c.args.name c.in-Err.i c.deref.ensures.value c.self.invariant c.in-Err.ensures.gap c.args.branch c.in-Err.ensures.absent)

pub invariant_of-self-in-Err : goal.invariant_of-self-in-Err
invariant_of-self-in-Err t c = (swaps_new t c).rising

pub returns-in_ok-insert-in-Err-clause-ok : goal.returns-in_ok-insert-in-Err-clause-ok
returns-in_ok-insert-in-Err-clause-ok t c =
    grafts_as _ _ c.args.self.now (c.args.name ∷ []) (c.args.above.now ++ c.args.name ∷ []) (get c.args.branch) c.self.view_is (ap (λ p. p ++ c.args.name ∷ []) (no_path c.args.above.now (omega arith)))
    (graft_in_child c.self.inside.node c.self.inside.children.items _ c.args.name (Some c.args.branch) c.self.invariant (swaps_new t c) [] (get c.args.branch) (λ q. refl))

-- the graft goes on in a child
pub graft-requires : goal.graft-requires
graft-requires t c =
    let found = child_found c.self.inside.children.items c.deref-in-len1-up.result.now c.first-item.result c.in-Ok-place_of.i c.index_mut-child-in-Ok-place_of.result.now c.deref-in-len1-up.ensures.value c.self.invariant c.in-Ok-place_of.ensures.at c.in-Ok-place_of.ensures.present c.index_mut-child-in-Ok-place_of.ensures.value in (
      simp (length-take, length-drop) (omega arith),
      some_in_child c.self.inside.node c.self.inside.children.items c.self.invariant c.first-item.result c.index_mut-child-in-Ok-place_of.result.now.1 found c.args.self.now c.self.view_is _ c.args.above.now (first_and_rest c.args.above.now c.first-item.result c.first-item.is (omega arith)) c.requires,
    )

swaps_in_child : (t : _) (c : After-self-in-Ok-place_of-1 t) → Swaps c.self.inside.children.items (set c.self.inside.children.items c.in-Ok-place_of.i (c.index_mut-child-in-Ok-place_of.result.now.0, c.graft.new.self)) c.first-item.result (Some c.graft.new.self)
swaps_in_child t c = swaps_set_found c.self.inside.children.items c.deref-in-len1-up.result.now c.first-item.result c.in-Ok-place_of.i c.deref-in-len1-up.ensures.value c.self.invariant c.in-Ok-place_of.ensures.at c.index_mut-child-in-Ok-place_of.result.now c.graft.new.self c.in-Ok-place_of.ensures.present c.index_mut-child-in-Ok-place_of.ensures.value

pub invariant_of-self-in-Ok-place_of : goal.invariant_of-self-in-Ok-place_of
invariant_of-self-in-Ok-place_of t c = (swaps_in_child t c).rising

pub returns-in-Ok-place_of-clause-ok : goal.returns-in-Ok-place_of-clause-ok
returns-in-Ok-place_of-clause-ok t c =
    let found = child_found c.self.inside.children.items c.deref-in-len1-up.result.now c.first-item.result c.in-Ok-place_of.i c.index_mut-child-in-Ok-place_of.result.now c.deref-in-len1-up.ensures.value c.self.invariant c.in-Ok-place_of.ensures.at c.in-Ok-place_of.ensures.present c.index_mut-child-in-Ok-place_of.ensures.value in
    let split = first_and_rest c.args.above.now c.first-item.result c.first-item.is (omega arith) in
    on_ok c.graft.result _ _ (λ h.
    grafts_as _ _ c.args.self.now _ (c.args.above.now ++ c.args.name ∷ []) (get c.args.branch) c.self.view_is (ap (λ p. p ++ c.args.name ∷ []) split)
    (grafts_in_child c.self.inside.node c.self.inside.children.items _ c.first-item.result c.index_mut-child-in-Ok-place_of.result.now.1 c.graft.new.self c.self.invariant (swaps_in_child t c) found _ (get c.args.branch) h)) c.graft.ensures.ok

pub unreachable-requires : goal.unreachable-requires
unreachable-requires t c =
    not_absent c.self.inside.node c.self.inside.children.items c.self.invariant c.first-item.result (rw (← c.deref-in-len1-up.ensures.value) c.in-Err-place_of.ensures.absent) c.args.self.now c.self.view_is _ c.args.above.now (first_and_rest c.args.above.now c.first-item.result c.first-item.is (omega arith)) c.requires
