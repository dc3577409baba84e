-- A run in a world, as an engine hands it on.
use Rattle.std.proofs.Common.{◌≡◌, ◌⊎◌, inl, inr, ℕ, Bool, List, [], None, sym, subst}
use Rattle.std.proofs.lemmas.List.{append-nil}
use Rattle.fleet_disk.specs.Image.{Image}
use Rattle.fleet_disk.specs.declared.disk.Disk.{Ghosts}
use Rattle.repo_core.specs.Repository.{Repository}
use Rattle.repo_store.specs.Words.{disk_of}
use Rattle.repo_store.specs.declared.store.RepoStore.{RepoStore}
use Rattle.sync_core.specs.World.{Origin, World, Event}
use Rattle.sync_job.specs.Alone.{StandsAt, store_of, holder_of}
use Rattle.sync_job.specs.Mirrors.{MirrorNow}
use Rattle.sync_job.specs.Questions.{Exchange, KeepsAnswers}
use Rattle.sync_job.specs.Said.{Spoken}
use Rattle.sync_job.specs.Stops.{IsReached, IsMirrorLeft, StopsAsMirror}
use Rattle.sync_job.specs.Worlds.{IsEvents}
use Rattle.sync_job.specs.declared.alone.AloneMirror.{AloneMirror}
use Rattle.mirror_engines.specs.Worlds.{later_at, stands_in, stands_last, EventsInWorld, StopsInWorld}
use Rattle.mirror_engines.proofs.Running.{stands_alone, clock_alone, left_alone, honest_alone}

pub events_on : (at_old at_new at : Origin → Type 0) (stands_old stands_new stands : MirrorNow → Type 0) → ((o : Origin) → at_new o → at o) → ((m : MirrorNow) → stands_new m → stands m)
    → IsEvents at_old at_new stands_old stands_new 0 → IsEvents at_old at stands_old stands 0
events_on at_old at_new at stands_old stands_new stands f g h w shaped events starts x none seat =
    let r = h w shaped events starts x none seat in
    (r.0, record { happens = r.1.happens; room = r.1.room; alone = r.1.alone; holds = r.1.holds; master = f _ r.1.master; mirror = r.1.mirror; there = g _ r.1.there; same = r.1.same })

reached_on : (w : World) (shaped : ℕ → Bool) (events : List Event) (at new : Origin → Type 0) (r : Repository) → ((o : Origin) → at o → new o) → IsReached w shaped events at r → IsReached w shaped events new r
reached_on w shaped events at new r f x =
    let k = x.stands in
    record { more = x.more; stands = record { happens = k.happens; room = k.room; alone = k.alone; holds = k.holds; master = f _ k.master; mirror = k.mirror; there = k.there; same = k.same }; nobody = x.nobody }

left_on : (w : World) (shaped : ℕ → Bool) (events : List Event) (at new : Origin → Type 0) (c : Image) → ((o : Origin) → at o → new o) → IsMirrorLeft w shaped events at c → IsMirrorLeft w shaped events new c
left_on w shaped events at new c f x = (x.0, reached_on w shaped events at new x.0 f x.1, x.2)

-- the same of a master that may be at more states
pub stops_at : {D : Type 0} (at_old at_new at : Origin → Type 0) (stands : MirrorNow → Type 0) (clock : D → ℕ) (left_since : D → ℕ → Image → Type 0) (honest : Type 0) (before after : D) → ((o : Origin) → at_new o → at o)
    → StopsAsMirror at_old at_new stands 0 clock left_since honest before after → StopsAsMirror at_old at stands 0 clock left_since honest before after
stops_at at_old at_new at stands clock left_since honest before after f h w shaped events starts s none seat working is =
    let x = h w shaped events starts s none seat working is in
    record {
      during = record { later = x.during.later; each = λ c l. left_on w shaped events at_new at c f (x.during.each c l); before = λ t c le l. widen t c (x.during.before t c le l) };
      last = λ c l. left_on w shaped events at_new at c f (x.last c l);
    }
  where
    widen : (t : ℕ) (c : Image) → left_since before t c ⊎ IsMirrorLeft w shaped events at_new c → left_since before t c ⊎ IsMirrorLeft w shaped events at c
    widen t c (inl y) = inl y
    widen t c (inr y) = inr (left_on w shaped events at_new at c f y)

-- what a mirror that is held alone leaves is what its disk leaves
stops_on : {D : Type 0} {G : Ghosts D} (at_old at_new at : Origin → Type 0) (before after : AloneMirror D G) → ((o : Origin) → at_new o → at o)
    → StopsAsMirror at_old at_new (stands_alone before) 0 clock_alone left_alone (honest_alone before) before after
    → StopsAsMirror at_old at (stands_alone before) 0 G.clock G.left_since (G.honest (disk_of (store_of before))) (disk_of (store_of before)) (disk_of (store_of after))
stops_on {D} {G} at_old at_new at before after f h w shaped events starts s none seat working honest =
    let x = stops_at at_old at_new at (stands_alone before) clock_alone left_alone (honest_alone before) before after f h w shaped events starts s none seat working honest in
    record { during = record { later = x.during.later; each = x.during.each; before = x.during.before }; last = x.last }

pub handed_on : {M D : Type 0} {G : Ghosts D} (answered : M → M → List Exchange → Type 0) (is_at : M → Origin → Type 0) (master first last : M) (store new : RepoStore D G) (before after left : AloneMirror D G)
    → first ≡ master → before ≡ left → store_of left ≡ store → holder_of left ≡ None → new ≡ store_of after
    → (made : List Exchange) × answered last first made → IsEvents (is_at first) (is_at last) (stands_alone before) (stands_alone after) 0 → EventsInWorld answered is_at master store new
handed_on {M} {D} {G} answered is_at master first last store new before after left m b s h n asked e =
    subst (λ (x : M). EventsInWorld answered is_at x store new) m
    (subst (λ x. EventsInWorld answered is_at first x new) s
    (subst (λ x. IsEvents (is_at first) (later_at answered is_at first) (stands_in (store_of left) x) (stands_last new) 0) h
    (subst (λ (x : AloneMirror D G). IsEvents (is_at first) (later_at answered is_at first) (stands_in (store_of x) (holder_of x)) (stands_last new) 0) b
    (events_on (is_at first) (is_at last) (later_at answered is_at first) (stands_alone before) (stands_alone after) (stands_last new) (λ o x. (last, asked, x)) (λ k x. (holder_of after, subst (λ y. StandsAt y (holder_of after) k) (sym n) x)) e))))

pub stops_handed_on : {M D : Type 0} {G : Ghosts D} (answered : M → M → List Exchange → Type 0) (is_at : M → Origin → Type 0) (master first last : M) (store new : RepoStore D G) (before after left : AloneMirror D G)
    → first ≡ master → before ≡ left → store_of left ≡ store → holder_of left ≡ None → new ≡ store_of after
    → (made : List Exchange) × answered last first made → StopsAsMirror (is_at first) (is_at last) (stands_alone before) 0 clock_alone left_alone (honest_alone before) before after → StopsInWorld answered is_at master store new
stops_handed_on {M} {D} {G} answered is_at master first last store new before after left m b s h n asked e =
    subst (λ (x : M). StopsInWorld answered is_at x store new) m
    (subst (λ x. StopsInWorld answered is_at first x new) s
    (subst (λ x. StopsInWorld answered is_at first (store_of left) x) (sym n)
    (subst (λ x. StopsAsMirror (is_at first) (later_at answered is_at first) (stands_in (store_of left) x) 0 G.clock G.left_since (G.honest (disk_of (store_of left))) (disk_of (store_of left)) (disk_of (store_of after))) h
    (subst (λ (x : AloneMirror D G). StopsAsMirror (is_at first) (later_at answered is_at first) (stands_in (store_of x) (holder_of x)) 0 G.clock G.left_since (G.honest (disk_of (store_of x))) (disk_of (store_of x)) (disk_of (store_of after))) b
    (stops_on (is_at first) (is_at last) (later_at answered is_at first) before after (λ o x. (last, asked, x)) e)))))

-- what a port was asked since its ports were made
pub was_answered : {M : Type 0} (answered : M → M → List Exchange → Type 0) (first last : M) (start said : List Spoken) → ((m : M) → answered m m []) → KeepsAnswers answered first last start said → (made : List Exchange) × answered last first made
was_answered answered first last start said none h =
    let t = h first start (record { made = []; more = []; adds = sym (append-nil start); answered = none first; said = tt }) in
    (t.made, t.answered)
