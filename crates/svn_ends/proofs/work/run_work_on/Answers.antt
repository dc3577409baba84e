use Rattle.std.proofs.Common.{refl, inl}
use Rattle.node_base.specs.declared.refusal.Refusal.TheVariants as refusal
use Rattle.svn_ends.specs.Runs.{Reached, Unopened}
use Rattle.svn_ends.proofs.Running.{over}
use Rattle.svn_ends.proofs.work.run_work_on.Goals as goal

pub returns-in_default-clause-ran : goal.returns-in_default-clause-ran
returns-in_default-clause-ran g c = Reached (Unopened refusal.OutOfMemory refl (inl refl) refl refl)

pub returns-clause-ran : goal.returns-clause-ran
returns-clause-ran g c = Reached (over _ _ _ _ _ _ _ _ _ _ _ c.run_work_over.ensures.ran)

pub returns-then-deltas-clause-ran : goal.returns-then-deltas-clause-ran
returns-then-deltas-clause-ran g c = Reached (over _ _ _ _ _ _ _ _ _ _ _ c.run_deltas_over.ensures.ran)
