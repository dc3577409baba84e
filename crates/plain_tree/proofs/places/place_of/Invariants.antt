use Rattle.path_tree.proofs.Place.{Reached}
use Rattle.plain_tree.proofs.places.place_of.Given as goal

abbrev pub invariant-loop-i : goal.invariant-loop-i
invariant-loop-i g l = Reached l.children l.name l.i
