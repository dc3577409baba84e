-- What a run leaves of the ports that it speaks to.
use Rattle.sync_job.specs.declared.master.MasterPort.{Ghosts as MasterGhosts}
use Rattle.sync_job.specs.declared.mirror.MirrorPort.{Ghosts as MirrorGhosts}
use Rattle.sync_job.specs.declared.ports.JobPorts.{JobPorts}
use Rattle.sync_job.specs.Fronts.{WentAt, Moving}
use Rattle.sync_job.specs.Questions.{KeepsAnswers}
use Rattle.sync_job.specs.Stops.{StopsAsMirror}
use Rattle.sync_job.specs.Telling.{KeepsTelling}
use Rattle.sync_job.specs.Words.{calls_of, master_of, mirror_of}
use Rattle.sync_job.specs.Worlds.{IsEvents}

-- how a run leaves its ports, of any master and any mirror
pub record LeavesPorts {M N R : Type 0} (G : MasterGhosts M) (H : MirrorGhosts N) (old new : JobPorts M N R) : Type 0 where
  -- the calls that were said are what was made of the mirror, and what a stop at any moment leaves
  pub mirror : Moving (calls_of old) (calls_of new) (WentAt H.stands H.clock H.left_since H.honest (mirror_of old) (mirror_of new))
  -- each call that the mirror was asked is said, once and in order, and no other
  pub asked : KeepsTelling H.asked (mirror_of old) (mirror_of new) (calls_of old) (calls_of new)
  -- so is each question to the master
  pub answered : KeepsAnswers G.answered (master_of old) (master_of new) (calls_of old) (calls_of new)
  -- the run is some more events of the world in which both stand so
  pub world : IsEvents (G.is_at (master_of old)) (G.is_at (master_of new)) (H.stands (mirror_of old)) (H.stands (mirror_of new)) (H.seat (mirror_of old))
  -- and a stop at any moment of it, and at its end, leaves a mirror of the master
  pub stops : StopsAsMirror (G.is_at (master_of old)) (G.is_at (master_of new)) (H.stands (mirror_of old)) (H.seat (mirror_of old)) H.clock H.left_since (H.honest (mirror_of old)) (mirror_of old) (mirror_of new)
