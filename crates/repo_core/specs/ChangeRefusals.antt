-- What a repository answers for a refusal of a set of changes.
use Rattle.dump_load.specs.declared.fault.ChangeFault.{ChangeFault}
use Rattle.dump_load.specs.declared.fault.ChangeFault.TheVariants as change
use Rattle.repo_core.specs.declared.fault.RepoFault.{RepoFault}
use Rattle.repo_core.specs.declared.fault.RepoFault.TheVariants as refusal

-- want of memory is one's own, and the rest is the set's
abbrev pub of_change : ChangeFault → RepoFault
of_change change.OutOfMemory = refusal.OutOfMemory
of_change f = refusal.Change f
