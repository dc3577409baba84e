-- A run whose master is asked over sessions.
use Rattle.std.proofs.Common.{◌≡◌, None, Result, sym, subst}
use Rattle.std.specs.List.{AllByRecursion}
use Rattle.fleet_disk.specs.declared.disk.Disk.{Ghosts}
use Rattle.node_base.specs.declared.refusal.Refusal.{Refusal}
use Rattle.repo_core.specs.Repository.{Repository}
use Rattle.repo_store.specs.Words.{disk_of}
use Rattle.repo_store.specs.declared.store.RepoStore.{RepoStore}
use Rattle.sync_core.specs.World.{Origin}
use Rattle.sync_job.specs.Alone.{IsHeardOf, IsMasterAt}
use Rattle.sync_job.specs.Stops.{StopsAsMirror}
use Rattle.sync_job.specs.Worlds.{IsEvents}
use Rattle.sync_job.specs.declared.master.MasterPort.{Ghosts as MasterGhosts}
use Rattle.mirror_engines.specs.Worlds.{later_at, stands_in, stands_last, Brings, EventsInWorld, IsPortOf, StopsInWorld}
use Rattle.mirror_engines.specs.declared.work.Work.{Work}
use Rattle.mirror_engines.proofs.Worlds.{events_on, stops_at}
use Rattle.session_road.specs.Served.{served_in, answered_over, IsMirroredBySessions}
use Rattle.session_road.specs.declared.served.ServedMaster.{ServedMaster}

abbrev pub served_at : ServedMaster → Origin → Type 0
served_at port o = IsMasterAt (served_in port) o

later_served : (port : ServedMaster) (source : Repository) → served_in port ≡ source → (o : Origin) → later_at answered_over served_at port o → IsMasterAt source o
later_served port source e o x = subst (λ s. IsMasterAt s o) e (subst (λ (p : ServedMaster). served_at p o) x.1.1.0 x.2)

port_of_served : (port : ServedMaster) (source : Repository) → served_in port ≡ source → IsPortOf answered_over port source
port_of_served port source e last made h = subst (λ s. AllByRecursion (IsHeardOf s) made) e h.1

world_served : {D : Type 0} {G : Ghosts D} (port : ServedMaster) (old new : RepoStore D G) (source : Repository) → served_in port ≡ source → EventsInWorld answered_over served_at port old new → IsEvents (IsMasterAt source) (IsMasterAt source) (stands_in old None) (stands_last new) 0
world_served port old new source e world =
    subst (λ s. IsEvents (IsMasterAt s) (IsMasterAt source) (stands_in old None) (stands_last new) 0) e
    (events_on (served_at port) (later_at answered_over served_at port) (IsMasterAt source) (stands_in old None) (stands_last new) (stands_last new) (later_served port source e) (λ m s. s) world)

stops_served : {D : Type 0} {G : Ghosts D} (port : ServedMaster) (old new : RepoStore D G) (source : Repository) → served_in port ≡ source → StopsInWorld answered_over served_at port old new
    → StopsAsMirror (IsMasterAt source) (IsMasterAt source) (stands_in old None) 0 G.clock G.left_since (G.honest (disk_of old)) (disk_of old) (disk_of new)
stops_served {D} {G} port old new source e stops =
    subst (λ s. StopsAsMirror (IsMasterAt s) (IsMasterAt source) (stands_in old None) 0 G.clock G.left_since (G.honest (disk_of old)) (disk_of old) (disk_of new)) e
    (stops_at (served_at port) (later_at answered_over served_at port) (IsMasterAt source) (stands_in old None) G.clock G.left_since (G.honest (disk_of old)) (disk_of old) (disk_of new) (later_served port source e) stops)

pub mirrored_served : {D : Type 0} {G : Ghosts D} (H : MasterGhosts ServedMaster) (port : ServedMaster) (work : Work) (old new : RepoStore D G) (result : Result (Unit {0}) Refusal) (source : Repository) → served_in port ≡ source
    → H.answered ≡ answered_over → H.is_at ≡ served_at → Brings H work port old new result → IsMirroredBySessions source work old new result
mirrored_served H port work old new result source e same at b =
    record {
      from = λ works. record { world = world; stops = stops_served port old new source e (subst (λ f. StopsInWorld f served_at port old new) same (subst (λ f. StopsInWorld H.answered f port old new) at b.world.stops)); trees = b.trees source there works };
      all = λ works. b.all source there works;
      world = world;
    }
  where
    world : IsEvents (IsMasterAt source) (IsMasterAt source) (stands_in old None) (stands_last new) 0
    world = world_served port old new source e (subst (λ f. EventsInWorld f served_at port old new) same (subst (λ f. EventsInWorld H.answered f port old new) at b.world.events))

    there : IsPortOf H.answered port source
    there = subst (λ f. IsPortOf f port source) (sym same) (port_of_served port source e)
