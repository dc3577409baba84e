-- What was told stands.
use Rattle.std.proofs.Common.{◌≡◌, ◌<◌, ◌≤◌, ◌+◌, ◌⊎◌, ℕ, List, [], ◌∷◌, ◌++◌, length, zero, suc, Ok, Result, is_ok, ⊎_elim, inl, inr, refl, sym, ap, subst, arith, length-append}
use Rattle.std.proofs.lemmas.Bool.{true≢false}
use Rattle.node_base.specs.Props.{PropMap}
use Rattle.node_base.specs.declared.refusal.Refusal.{Refusal}
use Rattle.dump_load.specs.Trees.{effect_tree}
use Rattle.fleet_disk.specs.Image.{Image}
use Rattle.fleet_disk.specs.declared.disk.Disk.{Ghosts}
use Rattle.repo_core.specs.Entries.{with_entry_in, with_props}
use Rattle.repo_core.specs.Repository.{Repository, Revision, trees_of}
use Rattle.repo_core.specs.declared.entry.Entry.{Entry}
use Rattle.repo_core.specs.declared.entry.Entry.TheVariants.{Revised, Mapped}
use Rattle.repo_store.specs.Journal.{Keeps}
use Rattle.repo_store.specs.Words.{disk_of, repository_of, revisions_of, HasFailed}
use Rattle.repo_store.specs.declared.store.RepoStore.{RepoStore}
use Rattle.store_engines.specs.Devices.{repository_after, IsOnTheWay, Serves}
use Rattle.store_engines.specs.Telling.{telling, AllStand, HasRevision, StandsSince, Telling}

-- a revision stays, whatever entries come
same_count : (x : List Revision) (n : ℕ) (props : PropMap) → length (with_props x n props) ≡ length x
same_count [] n props = refl
same_count (y ∷ x) zero props = refl
same_count (y ∷ x) (suc n) props = ap suc (same_count x n props)

still_there : (n : ℕ) (r : Repository) (e : Entry) → n < length r.revisions → n < length (with_entry_in r e).revisions
still_there n r (Revised k set props) h =
    let next : Revision = record { tree = effect_tree (trees_of r.revisions) set; props = props } in
    omega (arith, h, length-append r.revisions (next ∷ []))
still_there n r (Mapped k props) h = omega (arith, h, same_count r.revisions k props)

stays_there : (n : ℕ) (r : Repository) (es : List Entry) → n < length r.revisions → n < length (repository_after r es).revisions
stays_there n r [] h = h
stays_there n r (e ∷ es) h = stays_there n (with_entry_in r e) es (still_there n r e h)

-- a call that ended well has left the store working
pub works_on : {D : Type 0} {G : Ghosts D} (old new : RepoStore D G) (u : Unit {0}) → Serves old new (Ok u) → ¬ HasFailed old → ¬ HasFailed new
works_on old new u s works f = ⊎_elim works (λ e. true≢false (ap is_ok e)) (s.working.0 f)

-- what was told before a call stands after it
pub moved_on : {D : Type 0} {G : Ghosts D} (old new : RepoStore D G) (r : Result (Unit {0}) Refusal) (told : Telling → Type 0) → ¬ HasFailed old → Serves old new r → AllStand old told → AllStand new told
moved_on {G = G} old new r told works s h honest t k =
    let before = s.honest.1 honest in
    let x = h before t k in
    let m = s.any_moment before works in
    record {
      there = subst (λ (y : Repository). t.number < length y.revisions) (sym s.made) (stays_there t.number (repository_of old) s.taken x.there);
      before = omega (arith, x.before, m.later);
      left = λ image since. ⊎_elim (x.left image) (λ way. (repository_after (repository_of old) way.0, way.3, stays_there t.number (repository_of old) way.0 x.there)) (m.before t.moment image x.before since);
    }

-- and what is told of a store that keeps its repository
pub told_on : {D : Type 0} {G : Ghosts D} (store : RepoStore D G) (before now : Telling → Type 0) (n : ℕ) → n < length (revisions_of store) → (G.honest (disk_of store) → (image : Image) → G.may_leave (disk_of store) image → Keeps (repository_of store) image)
    → ((d : D) (image : Image) → G.honest d → G.left_since d (G.clock d) image → G.may_leave d image) → ((t : Telling) → now t → before t ⊎ (t ≡ telling store n)) → AllStand store before → AllStand store now
told_on {G = G} store before now n there stands only_now none h honest t k =
    ⊎_elim (λ o. h honest t o)
    (λ e. subst (StandsSince store) (sym e)
    (record { there = there; before = omega (arith); left = λ image since. (repository_of store, stands honest image (only_now (disk_of store) image honest since), there) }))
    (none t k)
