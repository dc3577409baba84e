use Rattle.std.proofs.Common.{rules}
use Rattle.std.proofs.lemmas.List.Sorted.{answers_always}
use Rattle.dump_load.proofs.Sorting.{comes_before, by_path, none_falls, stated_stays}
use Rattle.dump_load.proofs.order.in_path_order.Goals as goal

pub returns-clause-rises : goal.returns-clause-rises
returns-clause-rises c = none_falls _ (c.in_ok-sort_by.ensures.sorted comes_before by_path (answers_always _ _ _ (λ f a r g called. search rules)))

pub returns-clause-stated : goal.returns-clause-stated
returns-clause-stated c = stated_stays _ _ (c.sort_by.ensures.stable comes_before by_path (answers_always _ _ _ (λ f a r g called. search rules)))
