use Rattle.sync_core.proofs.Entries.{due_by, entry_so, due_so, memory_due, there_so, no_number, ok_of}
use Rattle.sync_core.proofs.entry.entry_of.Goals as goal

pub returns-in-Init-clause-entry : goal.returns-in-Init-clause-entry
returns-in-Init-clause-entry c = entry_so c.args.repo.now.revisions c.args.call.now _ c.written.result c.in-Init.is (c.written.ensures.entry _ c.init_entry.ensures.entry)

pub returns-in-Init-clause-refused : goal.returns-in-Init-clause-refused
returns-in-Init-clause-refused c = c.written.ensures.refused (due_by c.args.repo.now.revisions c.args.call.now) (memory_due _ c.init_entry.result c.init_entry.ensures.memory)

pub returns-in-TakeLock-clause-entry : goal.returns-in-TakeLock-clause-entry
returns-in-TakeLock-clause-entry c = entry_so c.args.repo.now.revisions c.args.call.now _ c.written-in-TakeLock.result c.in-TakeLock.is (c.written-in-TakeLock.ensures.entry _ c.lock_entry.ensures.entry)

pub returns-in-TakeLock-clause-refused : goal.returns-in-TakeLock-clause-refused
returns-in-TakeLock-clause-refused c = c.written-in-TakeLock.ensures.refused (due_by c.args.repo.now.revisions c.args.call.now) (due_so c.args.repo.now.revisions c.args.call.now _ c.lock_entry.result c.in-TakeLock.is c.lock_entry.ensures.refused)

pub returns-in-StealLock-clause-entry : goal.returns-in-StealLock-clause-entry
returns-in-StealLock-clause-entry c = entry_so c.args.repo.now.revisions c.args.call.now _ c.written-in-StealLock.result c.in-StealLock.is (c.written-in-StealLock.ensures.entry _ c.lock_entry-in-StealLock.ensures.entry)

pub returns-in-StealLock-clause-refused : goal.returns-in-StealLock-clause-refused
returns-in-StealLock-clause-refused c = c.written-in-StealLock.ensures.refused (due_by c.args.repo.now.revisions c.args.call.now) (due_so c.args.repo.now.revisions c.args.call.now _ c.lock_entry-in-StealLock.result c.in-StealLock.is c.lock_entry-in-StealLock.ensures.refused)

pub returns-in-ReleaseLock-clause-entry : goal.returns-in-ReleaseLock-clause-entry
returns-in-ReleaseLock-clause-entry c = entry_so c.args.repo.now.revisions c.args.call.now _ c.written-in-ReleaseLock.result c.in-ReleaseLock.is (c.written-in-ReleaseLock.ensures.entry _ c.release_entry.ensures.entry)

pub returns-in-ReleaseLock-clause-refused : goal.returns-in-ReleaseLock-clause-refused
returns-in-ReleaseLock-clause-refused c = c.written-in-ReleaseLock.ensures.refused (due_by c.args.repo.now.revisions c.args.call.now) (memory_due _ c.release_entry.result c.release_entry.ensures.refused)

pub returns-in-SetCopying-clause-entry : goal.returns-in-SetCopying-clause-entry
returns-in-SetCopying-clause-entry c = entry_so c.args.repo.now.revisions c.args.call.now _ c.written-in-SetCopying.result c.in-SetCopying.is (c.written-in-SetCopying.ensures.entry _ c.copying_entry.ensures.entry)

pub returns-in-SetCopying-clause-refused : goal.returns-in-SetCopying-clause-refused
returns-in-SetCopying-clause-refused c = c.written-in-SetCopying.ensures.refused (due_by c.args.repo.now.revisions c.args.call.now) (due_so c.args.repo.now.revisions c.args.call.now _ c.copying_entry.result c.in-SetCopying.is c.copying_entry.ensures.refused)

pub returns-in-Commit-clause-entry : goal.returns-in-Commit-clause-entry
returns-in-Commit-clause-entry c = entry_so c.args.repo.now.revisions c.args.call.now _ c.written-in-Commit.result c.in-Commit.is (c.written-in-Commit.ensures.entry _ c.commit_entry.ensures.entry)

pub returns-in-Commit-clause-refused : goal.returns-in-Commit-clause-refused
returns-in-Commit-clause-refused c = c.written-in-Commit.ensures.refused (due_by c.args.repo.now.revisions c.args.call.now) (memory_due _ c.commit_entry.result c.commit_entry.ensures.memory)

pub returns-in-PutProps-clause-entry : goal.returns-in-PutProps-clause-entry
returns-in-PutProps-clause-entry c = entry_so c.args.repo.now.revisions c.args.call.now _ c.written-in-PutProps.result c.in-PutProps.is (c.written-in-PutProps.ensures.entry _ c.props_entry.ensures.entry)

pub returns-in-PutProps-clause-refused : goal.returns-in-PutProps-clause-refused
returns-in-PutProps-clause-refused c = c.written-in-PutProps.ensures.refused (due_by c.args.repo.now.revisions c.args.call.now) (due_so c.args.repo.now.revisions c.args.call.now _ c.props_entry.result c.in-PutProps.is c.props_entry.ensures.refused)

pub returns-in-SetMerged-clause-entry : goal.returns-in-SetMerged-clause-entry
returns-in-SetMerged-clause-entry c = entry_so c.args.repo.now.revisions c.args.call.now _ c.written-in-SetMerged.result c.in-SetMerged.is (c.written-in-SetMerged.ensures.entry _ c.merged_entry.ensures.entry)

pub returns-in-SetMerged-clause-refused : goal.returns-in-SetMerged-clause-refused
returns-in-SetMerged-clause-refused c = c.written-in-SetMerged.ensures.refused (due_by c.args.repo.now.revisions c.args.call.now) (due_so c.args.repo.now.revisions c.args.call.now _ c.merged_entry.result c.in-SetMerged.is c.merged_entry.ensures.refused)

pub returns-in-ClearCopying-clause-entry : goal.returns-in-ClearCopying-clause-entry
returns-in-ClearCopying-clause-entry c = entry_so c.args.repo.now.revisions c.args.call.now _ c.written-in-ClearCopying.result c.in-ClearCopying.is (c.written-in-ClearCopying.ensures.entry _ c.clear_entry.ensures.entry)

pub returns-in-ClearCopying-clause-refused : goal.returns-in-ClearCopying-clause-refused
returns-in-ClearCopying-clause-refused c = c.written-in-ClearCopying.ensures.refused (due_by c.args.repo.now.revisions c.args.call.now) (memory_due _ c.clear_entry.result c.clear_entry.ensures.refused)

pub returns-in-Init-clause-there : goal.returns-in-Init-clause-there
returns-in-Init-clause-there c = no_number c.args.repo.now.revisions c.args.call.now _ c.written.result c.in-Init.is tt

pub returns-in-TakeLock-clause-there : goal.returns-in-TakeLock-clause-there
returns-in-TakeLock-clause-there c = no_number c.args.repo.now.revisions c.args.call.now _ c.written-in-TakeLock.result c.in-TakeLock.is tt

pub returns-in-StealLock-clause-there : goal.returns-in-StealLock-clause-there
returns-in-StealLock-clause-there c = no_number c.args.repo.now.revisions c.args.call.now _ c.written-in-StealLock.result c.in-StealLock.is tt

pub returns-in-ReleaseLock-clause-there : goal.returns-in-ReleaseLock-clause-there
returns-in-ReleaseLock-clause-there c = no_number c.args.repo.now.revisions c.args.call.now _ c.written-in-ReleaseLock.result c.in-ReleaseLock.is tt

pub returns-in-SetCopying-clause-there : goal.returns-in-SetCopying-clause-there
returns-in-SetCopying-clause-there c = no_number c.args.repo.now.revisions c.args.call.now _ c.written-in-SetCopying.result c.in-SetCopying.is tt

pub returns-in-Commit-clause-there : goal.returns-in-Commit-clause-there
returns-in-Commit-clause-there c = no_number c.args.repo.now.revisions c.args.call.now _ c.written-in-Commit.result c.in-Commit.is tt

pub returns-in-PutProps-clause-there : goal.returns-in-PutProps-clause-there
returns-in-PutProps-clause-there c = there_so c.args.repo.now.revisions c.args.call.now _ c.written-in-PutProps.result c.in-PutProps.is (ok_of c.written-in-PutProps.result c.props_entry.result _ _ c.written-in-PutProps.ensures.ok c.props_entry.ensures.there)

pub returns-in-SetMerged-clause-there : goal.returns-in-SetMerged-clause-there
returns-in-SetMerged-clause-there c = no_number c.args.repo.now.revisions c.args.call.now _ c.written-in-SetMerged.result c.in-SetMerged.is tt

pub returns-in-ClearCopying-clause-there : goal.returns-in-ClearCopying-clause-there
returns-in-ClearCopying-clause-there c = no_number c.args.repo.now.revisions c.args.call.now _ c.written-in-ClearCopying.result c.in-ClearCopying.is tt
