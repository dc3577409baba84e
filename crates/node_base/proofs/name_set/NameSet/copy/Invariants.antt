use Rattle.std.proofs.Common.{◌≡◌}
use Rattle.node_base.proofs.NameSets.{put_names}
use Rattle.node_base.proofs.name_set.NameSet.copy.Given as goal

abbrev pub invariant-loop-name : goal.invariant-loop-name
invariant-loop-name l = put_names l.name-iterator l.copied ≡ put_names l.initial.name-iterator l.initial.copied
