use Rattle.sync_core.proofs.Runs.{fresh-starts, every-run, every-fresh-run, moments-rise-always, stays-blank}
use Rattle.sync_core.proofs.HolderRuns.{holder-goes-on}
use Rattle.sync_core.proofs.law.every_run.Goals as goal

pub returns-clause-mirrors : goal.returns-clause-mirrors
returns-clause-mirrors c = every-run

pub returns-clause-fresh : goal.returns-clause-fresh
returns-clause-fresh c = every-fresh-run

pub returns-clause-starts : goal.returns-clause-starts
returns-clause-starts c = fresh-starts

pub returns-clause-moments : goal.returns-clause-moments
returns-clause-moments c = moments-rise-always

pub returns-clause-blank : goal.returns-clause-blank
returns-clause-blank c = stays-blank

pub returns-clause-holder : goal.returns-clause-holder
returns-clause-holder c = holder-goes-on
