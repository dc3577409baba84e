use Rattle.std.proofs.Common.{◌≡◌}
use Rattle.node_base.specs.Entries.{blank}
use Rattle.node_base.proofs.DeltaLists.{without}
use Rattle.node_base.proofs.name_set.NameSet.remove_from.Given as goal

abbrev pub invariant-loop-name : goal.invariant-loop-name
invariant-loop-name l = without (blank l.name-iterator) l.list ≡ without (blank l.initial.name-iterator) l.initial.list
