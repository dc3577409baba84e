use Rattle.std.proofs.Common.{subst}
use Rattle.repo_store.specs.Changes.{IsTaken, IsBroken}
use Rattle.repo_store.specs.Words.{disk_of, repository_of, revisions_of, entry_in}
use Rattle.sync_core.specs.Calls.{call_of}
use Rattle.sync_job.proofs.Devices.{asked_broken, asked_unstaged, asked_written, full_broken, full_unstaged}
use Rattle.sync_job.proofs.Made.{entry_made, first_taken}
use Rattle.sync_job.proofs.Stores.{not_staged, written, doubtful}
use Rattle.sync_job.proofs.alone.AloneMirror.write.Goals as goal

pub returns-in-Err-clause-moved : goal.returns-in-Err-clause-moved
returns-in-Err-clause-moved g c = λ m s. not_staged c.args.self.now.store c.stage.new.store c.args.self.now.holder (call_of c.args.call.now) c.args.entry c.in-Err.fault c.fault_of.result m (λ image honest left. g.met.D.Disk.only_now (disk_of c.args.self.now.store) image honest left) s c.requires.planned c.in-Err.ensures.stages c.fault_of.ensures

pub returns-in-Ok-install-clause-moved : goal.returns-in-Ok-install-clause-moved
returns-in-Ok-install-clause-moved g c = λ m s. written c.args.self.now.store c.stage.new.store c.install.new.self c.args.self.now.holder c.holder_after-self.result c.new.result (call_of c.args.call.now) c.args.entry c.in-Ok.staged m s c.requires.planned c.in-Ok.ensures.stages (subst (λ e. IsTaken e c.stage.new.store c.install.new.self) c.in-Ok.ensures.stages.says c.in-Ok-install.ensures.installed) c.new.ensures c.holder_after-self.ensures

pub returns-in-Err-install-clause-moved : goal.returns-in-Err-install-clause-moved
returns-in-Err-install-clause-moved g c = λ m s. doubtful c.args.self.now.store c.stage.new.store c.install.new.self c.args.self.now.holder (call_of c.args.call.now) c.args.entry c.in-Ok.staged c.in-Err-install.fault c.fault_of-in-Err-install.result m s c.requires.planned c.in-Ok.ensures.stages (subst (λ e. IsBroken e c.stage.new.store c.install.new.self c.in-Err-install.fault) c.in-Ok.ensures.stages.says c.in-Err-install.ensures.installed) c.fault_of-in-Err-install.ensures

pub returns-in-Err-clause-asked : goal.returns-in-Err-clause-asked
returns-in-Err-clause-asked g c = asked_unstaged c.args.self.now.store c.stage.new.store (call_of c.args.call.now) _ _ _ c.fault_of.result c.in-Err.ensures.stages c.fault_of.ensures

pub returns-in-Ok-install-clause-asked : goal.returns-in-Ok-install-clause-asked
returns-in-Ok-install-clause-asked g c = asked_written c.args.self.now.store c.stage.new.store c.install.new.self (call_of c.args.call.now) _ _ _ _ _ c.in-Ok.ensures.stages c.in-Ok-install.ensures.installed

pub returns-in-Err-install-clause-asked : goal.returns-in-Err-install-clause-asked
returns-in-Err-install-clause-asked g c = asked_broken c.args.self.now.store c.stage.new.store c.install.new.self (call_of c.args.call.now) _ _ _ _ c.in-Err-install.fault c.fault_of-in-Err-install.result c.in-Ok.ensures.stages c.in-Err-install.ensures.installed

pub stage-requires-clause-made : goal.stage-requires-clause-made
stage-requires-clause-made g c = entry_made (revisions_of c.args.self.now.store) (call_of c.args.call.now) c.args.entry c.args.tree c.requires.planned.entry c.requires.planned.numbered c.requires.made

pub returns-in-Ok-install-clause-first : goal.returns-in-Ok-install-clause-first
returns-in-Ok-install-clause-first g c = λ trees f. first_taken (repository_of c.args.self.now.store) (repository_of c.stage.new.store) (repository_of c.install.new.self) (entry_in c.in-Ok.staged) trees c.in-Ok.ensures.stages.stays.repository c.in-Ok-install.ensures.installed.made f

pub returns-in-Err-clause-full : goal.returns-in-Err-clause-full
returns-in-Err-clause-full g c = full_unstaged c.args.self.now.store c.stage.new.store (call_of c.args.call.now) c.args.entry _ c.in-Err.fault c.fault_of.result c.requires.planned.entry c.in-Err.ensures.stages c.fault_of.ensures

pub returns-in-Err-install-clause-full : goal.returns-in-Err-install-clause-full
returns-in-Err-install-clause-full g c = full_broken c.args.self.now.store c.stage.new.store c.install.new.self (call_of c.args.call.now) _ c.in-Err-install.fault c.fault_of-in-Err-install.result c.in-Err-install.ensures.installed c.fault_of-in-Err-install.ensures
