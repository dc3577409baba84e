-- A mirror's whole history.
use Rattle.std.proofs.Common.{◌≡◌, ◌⊎◌, inl, inr, ℕ, ◌<◌, length, Bool, true, List, [], ◌∷◌, ◌++◌, map, Some, None, refl, sym, ap, subst, ◌∙◌, arith}
use Rattle.uuid.specs.Text.{hyphenated_text, lower}
use Rattle.fleet_disk.specs.Image.{Image}
use Rattle.fleet_disk.specs.declared.disk.Disk.{Ghosts}
use Rattle.repo_core.specs.Repository.{Repository, trees_of}
use Rattle.repo_store.specs.Journal.{Keeps}
use Rattle.repo_store.specs.Verdicts.{OneRepository, KeptReopens}
use Rattle.repo_store.specs.Words.{disk_of, repository_of, revisions_of}
use Rattle.repo_store.specs.declared.store.RepoStore.{RepoStore}
use Rattle.sync_core.specs.Mirror.{mirror_with}
use Rattle.sync_core.specs.World.{Origin, IsOrigin, World, Event, run}
use Rattle.sync_core.specs.Law.{EveryRun, FreshStarts, Starts, start}
use Rattle.sync_job.specs.Alone.{begun, IsMasterAt, StandsAt}
use Rattle.sync_job.specs.Stops.{IsReached, IsMirrorLeft, StopsLeave}
use Rattle.sync_job.specs.Worlds.{StandsAfter}
use Rattle.sync_job.proofs.Stopping.{reached_later, sooner}
use Rattle.mirror_engines.specs.Histories.{EveryHistory, GoesOn, HasBecome, Fresh, Went, Ran, IsLeftBy, IsMirrorNow}
use Rattle.mirror_engines.specs.Worlds.{stands_in, IsMirroredFrom}

pub record Laws : Type 0 where
  pub every : EveryRun
  pub starts : FreshStarts
  pub one : OneRepository
  pub reopens : KeptReopens

-- the world of a history: a fresh mirror, and a master that is the source
record IsIn (source mirror : Repository) : Type 0 where
  pub world : World
  pub begins : Starts world (λ _. true)
  pub reached : IsReached world (λ _. true) [] (IsMasterAt source) mirror

-- a master that is a repository
abbrev origin_of : Repository → Origin
origin_of r = record { identity = hyphenated_text lower r.identity; trees = trees_of r.revisions; maps = map (λ x. x.props) r.revisions ∷ [] }

master_of : (r : Repository) → IsMasterAt r (origin_of r)
master_of r = record { identity = refl; trees = refl; maps = refl; some = omega arith }

-- what is reached is reached of another repository with the same revisions
same_reached : (w : World) (events : List Event) (at : Origin → Type 0) (r s : Repository) → r.revisions ≡ s.revisions → IsReached w (λ _. true) events at r → IsReached w (λ _. true) events at s
same_reached w events at r s e x =
    let k = x.stands in
    record {
      more = x.more;
      stands = record { happens = k.happens; room = k.room; alone = k.alone; holds = k.holds; master = k.master; mirror = begun s; there = refl; same = k.same ∙ ap (λ m. mirror_with m.repository.revisions m.holder) k.there ∙ ap (λ y. mirror_with y None) e };
      nobody = x.nobody;
    }

-- what a run has left
left_in : {D : Type 0} {G : Ghosts D} → Laws → (source mirror left : Repository) (old new : RepoStore D G) → IsIn source mirror → revisions_of old ≡ mirror.revisions → StandsAt old None (begun (repository_of old)) → G.honest (disk_of old) → IsMirroredFrom source old new → IsLeftBy old new left → IsIn source left
left_in {D} {G} laws source mirror left old new x e there honest run by =
    let k = x.reached in
    let s = k.stands in
    let begins : StandsAfter x.world (λ _. true) ([] ++ k.more) (IsMasterAt source) (stands_in old None) = record { happens = s.happens; room = s.room; alone = s.alone; holds = s.holds; master = s.master; mirror = begun (repository_of old); there = there; same = s.same ∙ ap (λ m. mirror_with m.repository.revisions m.holder) s.there ∙ ap (λ y. mirror_with y None) (sym e) } in
    let stops = run.stops x.world (λ _. true) ([] ++ k.more) x.begins begins k.nobody refl refl honest in
    of (is_left stops by.left)
  where
    is_left : StopsLeave G.clock G.left_since (disk_of old) (disk_of new) (IsMirrorLeft x.world (λ _. true) ([] ++ x.reached.more) (IsMasterAt source)) → G.left_since (disk_of new) (G.clock (disk_of old)) by.image ⊎ G.left_since (disk_of new) (G.clock (disk_of new)) by.image → IsMirrorLeft x.world (λ _. true) ([] ++ x.reached.more) (IsMasterAt source) by.image
    is_left stops (inl l) = stops.during.each by.image l
    is_left stops (inr l) = stops.last by.image l

    of : IsMirrorLeft x.world (λ _. true) ([] ++ x.reached.more) (IsMasterAt source) by.image → IsIn source left
    of m =
        let same : m.0.revisions ≡ left.revisions = (laws.one by.image m.0.identity left.identity m.0.revisions left.revisions (laws.reopens by.image m.0 m.2) (laws.reopens by.image left by.keeps)).1 in
        record { world = x.world; begins = x.begins; reached = sooner x.world (λ _. true) [] x.reached.more (IsMasterAt source) left (same_reached x.world ([] ++ x.reached.more) (IsMasterAt source) m.0 left same m.1) }

in_world : {D : Type 0} {G : Ghosts D} → Laws → (source mirror : Repository) → HasBecome G source mirror → IsIn source mirror
in_world laws source mirror (Fresh s m root fresh_is) =
    let o : Origin = origin_of source in
    let origin : IsOrigin o = record { root = root; maps = omega arith } in
    let begins : Starts (start o 1) (λ _. true) = laws.starts o 1 origin in
    record {
      world = start o 1;
      begins = begins;
      reached = record {
        more = [];
        stands = record { happens = tt; room = _; alone = refl; holds = laws.every (start o 1) (λ _. true) [] begins tt 0 _ refl; master = master_of source; mirror = begun mirror; there = refl; same = ap (λ y. mirror_with y None) (sym fresh_is) };
        nobody = refl;
      };
    }
in_world laws source mirror (Went first later m h goes) =
    let x = in_world laws first mirror h in
    record { world = x.world; begins = x.begins; reached = reached_later laws.every x.world (λ _. true) [] (IsMasterAt first) (IsMasterAt source) mirror (λ _. Unit {0}) x.begins goes x.reached }
in_world laws source mirror (Ran s before left old new h e there honest run by) = left_in laws source before mirror old new (in_world laws source before h) e there honest run by

pub every_history : {D : Type 0} (G : Ghosts D) → Laws → EveryHistory G
every_history G laws source mirror h =
    let x = in_world laws source mirror h in
    let k = x.reached.stands in
    record { origin = (run x.world ([] ++ x.reached.more)).origin; room = k.room; master = k.master; same = ap (λ m. m.revisions) k.same ∙ ap (λ m. m.repository.revisions) k.there; holds = k.holds }
