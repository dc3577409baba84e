use Rattle.std.proofs.Common.{◌≡◌, ◌++◌}
use Rattle.whole_texts.specs.Whole.{AreWhole, records_of}
use Rattle.whole_texts.proofs.make.all_whole.Given as goal

abbrev pub invariant-loop-read : goal.invariant-loop-read
invariant-loop-read l = AreWhole l.trees (records_of l.fn.nodes.items) l.yielded l.made.items × (l.yielded ++ l.read-iterator.rest.items ≡ l.fn.nodes.items)
