use Rattle.std.proofs.Common.{refl, arith}
use Rattle.repo_core.proofs.Roots.{is_root_alone, root_is_made}
use Rattle.repo_core.proofs.repo.Repo.new.Goals as goal

pub invariant_of-result : goal.invariant_of-result
invariant_of-result c =
    let trees = rw c.in_ok-trees.ensures.items at c.push_reserved.ensures.items in
    let maps = rw c.in_ok-maps.ensures.items at c.push_reserved-2.ensures.items in
    let sets = rw (c.in_ok-sets.ensures.items, c.empty-3.ensures) at c.push_reserved-3.ensures.items in
    record {
      begun = rw trees (omega arith);
      few = rw trees (omega arith);
      maps = rw (trees, maps) refl;
      made = rw (trees, sets) (root_is_made _ c.in_ok-empty.ensures, tt);
      tree_room = omega (arith, c.push_reserved.ensures.capacity, c.in_ok-trees.ensures.capacity);
      map_room = omega (arith, c.push_reserved-2.ensures.capacity, c.in_ok-maps.ensures.capacity);
      set_room = omega (arith, c.push_reserved-3.ensures.capacity, c.in_ok-sets.ensures.capacity);
    }

pub returns : goal.returns
returns c =
    let trees = rw c.in_ok-trees.ensures.items at c.push_reserved.ensures.items in
    let maps = rw c.in_ok-maps.ensures.items at c.push_reserved-2.ensures.items in
    let sets = rw (c.in_ok-sets.ensures.items, c.empty-3.ensures) at c.push_reserved-3.ensures.items in
    rw (trees, maps, sets, c.empty-2.ensures, is_root_alone _ c.in_ok-empty.ensures) refl
