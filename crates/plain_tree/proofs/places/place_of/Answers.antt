use Rattle.std.proofs.Common.{sym, arith}
use Rattle.path_tree.proofs.Place.{reached_less}
use Rattle.plain_tree.proofs.places.place_of.Goals as goal

pub returns-in-Less-clause-absent : goal.returns-in-Less-clause-absent
returns-in-Less-clause-absent g c = (reached_less c.args.children.now c.args.name.now c.loop-i.i c.loop-i.invariant c.index-children-i.result (omega arith) c.index-children-i.is (sym c.in-Less.ensures)).1
