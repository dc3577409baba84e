use Rattle.command_words.proofs.Spelled.{no_sides, none_between, some_between}
use Rattle.command_words.proofs.command_line.range_of.Goals as goal

pub returns-in-Some-clause-some : goal.returns-in-Some-clause-some
returns-in-Some-clause-some c = some_between _ (c.in-Some.low, c.in-Some.high) _ c.in-Some.ensures.cases c.range_between.ensures.some

pub returns-in-Some-clause-none : goal.returns-in-Some-clause-none
returns-in-Some-clause-none c = none_between _ (c.in-Some.low, c.in-Some.high) _ c.in-Some.ensures.cases c.range_between.ensures.none

pub returns-in-None-clause-none : goal.returns-in-None-clause-none
returns-in-None-clause-none c = no_sides _ c.in-None.ensures.cases
