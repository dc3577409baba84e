use Rattle.gate_log.proofs.Alike.{one_list, not_damaged, not_missing, one_damage, damage_not_missing}
use Rattle.gate_log.proofs.verdicts.one_verdict.Goals as goal

pub returns-clause-one_list : goal.returns-clause-one_list
returns-clause-one_list c = one_list

pub returns-clause-not_damaged : goal.returns-clause-not_damaged
returns-clause-not_damaged c = not_damaged

pub returns-clause-not_missing : goal.returns-clause-not_missing
returns-clause-not_missing c = not_missing

pub returns-clause-one_damage : goal.returns-clause-one_damage
returns-clause-one_damage c = one_damage

pub returns-clause-damage_not_missing : goal.returns-clause-damage_not_missing
returns-clause-damage_not_missing c = damage_not_missing
