-- The refusals that a path's fault is.
use Rattle.node_base.specs.declared.refusal.Refusal.{Refusal}
use Rattle.node_base.specs.declared.refusal.Refusal.TheVariants as refusal
use Rattle.node_base.specs.declared.fault.PathFault.{PathFault}
use Rattle.node_base.specs.declared.fault.PathFault.TheVariants as path
pub use Rattle.repo_store.specs.Refusals.{log_refusal, repo_refusal, store_refusal}

abbrev pub path_refusal : PathFault → Refusal
path_refusal path.TooLong = refusal.TooLong
path_refusal path.BadPath = refusal.BadPath
path_refusal path.OutOfMemory = refusal.OutOfMemory
