use Rattle.std.proofs.Common.{rules, of_calls}
use Rattle.std.proofs.lemmas.List.Sorted.{IsPartitionPoint-from_clause}
use Rattle.dump_load.specs.declared.change.Change.{Change}
use Rattle.dump_load.specs.Deltas.{comes_before}
use Rattle.path_history.proofs.Lookups.{parted}
use Rattle.path_history.proofs.lookup.place_of.Goals as goal

pub returns-clause-before : goal.returns-clause-before
returns-clause-before c =
    (IsPartitionPoint-from_clause (λ (d : Change). comes_before d.path c.args.path.now) _ _ c.partition_point.ensures.partitioned (parted c.args.set.now c.args.path.now c.requires) (λ a r q k. search (rules, of_calls))).0

pub returns-clause-behind : goal.returns-clause-behind
returns-clause-behind c =
    (IsPartitionPoint-from_clause (λ (d : Change). comes_before d.path c.args.path.now) _ _ c.partition_point.ensures.partitioned (parted c.args.set.now c.args.path.now c.requires) (λ a r q k. search (rules, of_calls))).1
