use Rattle.repo_store.proofs.OneImage.{one_journal, one_repository, not_damaged, not_missing, one_damage, damage_not_missing}
use Rattle.repo_store.proofs.Telling.{kept_reopens, reopens_kept, one_text}
use Rattle.repo_store.proofs.verdicts.one_verdict.Goals as goal

pub returns-clause-one_journal : goal.returns-clause-one_journal
returns-clause-one_journal c = one_journal c.dumps_are_read.ensures

pub returns-clause-one_repository : goal.returns-clause-one_repository
returns-clause-one_repository c = one_repository c.one_verdict.ensures.one_list c.dumps_are_read.ensures

pub returns-clause-not_damaged : goal.returns-clause-not_damaged
returns-clause-not_damaged c = not_damaged c.one_verdict.ensures.one_list c.one_verdict.ensures.not_damaged

pub returns-clause-not_missing : goal.returns-clause-not_missing
returns-clause-not_missing c = not_missing c.one_verdict.ensures.not_missing

pub returns-clause-one_damage : goal.returns-clause-one_damage
returns-clause-one_damage c = one_damage c.one_verdict.ensures.one_list c.one_verdict.ensures.not_damaged c.one_verdict.ensures.one_damage

pub returns-clause-damage_not_missing : goal.returns-clause-damage_not_missing
returns-clause-damage_not_missing c = damage_not_missing c.one_verdict.ensures.damage_not_missing c.one_verdict.ensures.not_missing

pub returns-clause-kept_reopens : goal.returns-clause-kept_reopens
returns-clause-kept_reopens c = kept_reopens

pub returns-clause-reopens_kept : goal.returns-clause-reopens_kept
returns-clause-reopens_kept c = reopens_kept

pub returns-clause-one_text : goal.returns-clause-one_text
returns-clause-one_text c = one_text c.one_verdict.ensures.one_list c.dumps_are_read.ensures
