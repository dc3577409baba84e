use Rattle.std.proofs.Common.{rules, of_calls}
use Rattle.std.proofs.lemmas.List.Sorted.{IsPartitionPoint-from_clause}
use Rattle.whole_texts.specs.declared.settled.Settled.{Settled}
use Rattle.whole_texts.specs.Settled.{comes_before}
use Rattle.whole_texts.proofs.Order.{parted}
use Rattle.whole_texts.proofs.settled.place_of.Goals as goal

pub returns-clause-before : goal.returns-clause-before
returns-clause-before c =
    (IsPartitionPoint-from_clause (λ (s : Settled). comes_before s.path c.args.path.now) _ _ c.partition_point.ensures.partitioned (parted c.args.settled.now c.args.path.now c.requires) (λ a r q k. search (rules, of_calls))).0

pub returns-clause-behind : goal.returns-clause-behind
returns-clause-behind c =
    (IsPartitionPoint-from_clause (λ (s : Settled). comes_before s.path c.args.path.now) _ _ c.partition_point.ensures.partitioned (parted c.args.settled.now c.args.path.now c.requires) (λ a r q k. search (rules, of_calls))).1
