use Rattle.std.proofs.Common.{◌≡◌, drop}
use Rattle.std.specs.List.{list_any}
use Rattle.whole_texts.specs.Whole.{is_given}
use Rattle.whole_texts.proofs.make.has_delta.Given as goal

abbrev pub invariant-loop-read : goal.invariant-loop-read
invariant-loop-read l = list_any is_given (drop l.read-index l.nodes) ≡ list_any is_given l.nodes
