use Rattle.dump_load.proofs.Faultless.{deletes_settle}
use Rattle.dump_load.proofs.OneMore.{effect-end, clear_of_follows}
use Rattle.dump_load.proofs.Permuted.{effect_one_more}
use Rattle.dump_load.proofs.Walk.{normal_follows}
use Rattle.dump_load.proofs.laws.one_more.Goals as goal

pub returns-clause-anywhere : goal.returns-clause-anywhere
returns-clause-anywhere c = λ trees front rest d none clear. effect_one_more front rest d none trees clear

pub returns-clause-in_order : goal.returns-clause-in_order
returns-clause-in_order c = λ trees s d follows. effect-end trees s d follows (deletes_settle d.action)

pub returns-clause-clear : goal.returns-clause-clear
returns-clause-clear c = clear_of_follows

pub returns-clause-normal : goal.returns-clause-normal
returns-clause-normal c = normal_follows
