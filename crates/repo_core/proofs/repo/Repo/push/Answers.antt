use Rattle.std.proofs.Common.{◌∷◌, [], refl, ap, sym, subst, ◌∙◌, arith, length-append}
use Rattle.dump_load.specs.Trees.{Makes}
use Rattle.repo_core.specs.Repository.{trees_of}
use Rattle.repo_core.proofs.Lists.{length-revisions, trees-revisions, revisions-push}
use Rattle.repo_core.proofs.MadeTrees.{length-made, made-push}
use Rattle.repo_core.proofs.repo.Repo.push.Goals as goal

pub push_reserved-requires : goal.push_reserved-requires
push_reserved-requires c =
    let n = length-revisions c.self.inside.trees.items c.self.inside.maps.items c.self.invariant.maps in
    let room = rw (← c.self.view_is) at c.requires.room in
    omega (arith, n, room, c.self.invariant.tree_room)

pub push_reserved-requires-2 : goal.push_reserved-requires-2
push_reserved-requires-2 c =
    let n = length-revisions c.self.inside.trees.items c.self.inside.maps.items c.self.invariant.maps in
    let room = rw (← c.self.view_is) at c.requires.room in
    omega (arith, n, room, c.self.invariant.maps, c.self.invariant.map_room)

pub push_reserved-requires-3 : goal.push_reserved-requires-3
push_reserved-requires-3 c =
    let n = length-revisions c.self.inside.trees.items c.self.inside.maps.items c.self.invariant.maps in
    let room = rw (← c.self.view_is) at c.requires.room in
    let sets = length-made [] c.self.inside.sets.items c.self.inside.trees.items c.self.invariant.made in
    omega (arith, n, room, sets, c.self.invariant.set_room)

pub invariant_of-self : goal.invariant_of-self
invariant_of-self c =
    let n = length-revisions c.self.inside.trees.items c.self.inside.maps.items c.self.invariant.maps in
    let room = rw (← c.self.view_is) at c.requires.room in
    let trees = trees-revisions c.self.inside.trees.items c.self.inside.maps.items c.self.invariant.maps in
    let before = ap (λ r. trees_of r.revisions) (sym c.self.view_is) ∙ trees in
    let makes = subst (λ b. Makes b c.args.set c.args.tree) before c.requires.made in
    let longer = length-append c.self.inside.trees.items (c.args.tree ∷ []) in
    let longer_maps = length-append c.self.inside.maps.items (c.args.props ∷ []) in
    record {
      begun = rw c.push_reserved.ensures.items (omega (arith, longer));
      few = rw c.push_reserved.ensures.items (omega (arith, longer, n, room));
      maps = rw (c.push_reserved.ensures.items, c.push_reserved-2.ensures.items) (omega (arith, longer, longer_maps, c.self.invariant.maps));
      made = rw (c.push_reserved.ensures.items, c.push_reserved-3.ensures.items) (made-push [] c.self.inside.sets.items c.self.inside.trees.items c.args.set c.args.tree c.self.invariant.made makes);
      tree_room = omega (arith, c.push_reserved.ensures.capacity, c.self.invariant.tree_room);
      map_room = omega (arith, c.push_reserved-2.ensures.capacity, c.self.invariant.map_room);
      set_room = omega (arith, c.push_reserved-3.ensures.capacity, c.self.invariant.set_room);
    }

pub returns : goal.returns
returns c =
    let before = trees-revisions c.self.inside.trees.items c.self.inside.maps.items c.self.invariant.maps in
    let pushed = revisions-push c.self.inside.trees.items c.self.inside.maps.items c.args.tree c.args.props c.self.invariant.maps in
    rw (c.push_reserved.ensures.items, c.push_reserved-2.ensures.items, c.push_reserved-3.ensures.items, pushed, c.requires.made.effect, ← c.self.view_is) refl
