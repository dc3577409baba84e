use Rattle.std.proofs.Common.{◌+◌, ◌≤◌, ◌++◌, List, vec_len, vec_capacity}
use Rattle.std.specs.Vec.Iter.{into_iter_items, into_iter_len}
use Rattle.fleet_jobs.specs.Answers.{Answer}
use Rattle.fleet_shares.specs.Given.{AreAnswers}
use Rattle.fleet_shares.proofs.answers.gather.Given as goal

abbrev pub invariant-loop-due : goal.invariant-loop-due
invariant-loop-due g l =
    ((tail : List Answer) → AreAnswers (g.J.Runner.may_answer l.own) (into_iter_items l.due-iterator) (into_iter_items l.rest) tail
    → AreAnswers (g.J.Runner.may_answer l.own) (into_iter_items l.initial.due-iterator) (into_iter_items l.initial.rest) (l.answers.items ++ tail))
    × (vec_len l.answers + into_iter_len l.due-iterator ≤ vec_capacity l.answers)
