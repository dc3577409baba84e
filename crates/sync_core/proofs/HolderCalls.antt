-- What is known after each accepted call.
use Rattle.std.proofs.Common.{◌≡◌, ◌≢◌, ◌⊎◌, inl, inr, ℕ, ◌+◌, Bool, true, false, List, [], ◌∷◌, ◌++◌, Option, Some, None, is_some, is_none, refl, sym, ap, ◌∙◌, subst, arith, length-append}
use Rattle.std.specs.Fmt.{decimal}
use Rattle.std.specs.Option.{option_map_or}
use Rattle.std.specs.FinMap.{get, insert, remove}
use Rattle.node_base.specs.Props.{PropMap, without_sync}
use Rattle.dump_load.specs.Trees.{effect_tree}
use Rattle.repo_core.specs.declared.entry.Entry.TheVariants.{Mapped}
use Rattle.repo_core.specs.Repository.{Revision, trees_of, head_of, props_at}
use Rattle.repo_core.specs.Entries.{with_entry}
use Rattle.sync_core.specs.declared.need.Need.TheVariants as need
use Rattle.sync_core.specs.Names.{merged_name, copying_name, lock_name, Absent, Spelt, number_of, number_at}
use Rattle.sync_core.specs.Mirror.{standing_of, Call, Init, TakeLock, StealLock, ReleaseLock, SetCopying, Commit, PutProps, SetMerged, ClearCopying, Look, refusal, granted}
use Rattle.sync_core.specs.Jobs.{Begun, Locked, Job, begun, Lawful, locked, done_by, answered}
use Rattle.sync_core.specs.World.{Origin, Room, job_at, does}
use Rattle.sync_core.proofs.Lists.{some_is, none_isnt, slice_get-grown}
use Rattle.sync_core.proofs.Writes.{number_of-decimal, get-put_there, get-put_other, get-drop_there, get-drop_other, merged-copying, copying-merged, lock-copying, lock-merged, is_sync-merged, is_sync-copying, is_sync-lock}
use Rattle.sync_core.proofs.Kept.{RoomKept, has_url, passes, no_need}
use Rattle.sync_core.proofs.Revisions.{zeroth_of, none_written}
use Rattle.sync_core.proofs.Jobs.{holder_by, job-stored}
use Rattle.sync_core.proofs.Holder.{SameNumbers, Knowing, RoomKnows, sees, knows-set, over, now0, head0, put-same}

-- the holder goes on with new numbers
same-knows : (x x2 : List Revision) (holder : Option ℕ) (seat : ℕ) (job after : Job) → holder ≡ Some seat → after.stage ≡ job.stage → job.stage ≡ Locked → after.looked ≡ true → SameNumbers after (standing_of x2) → Knowing (standing_of x2) holder seat after
same-knows x x2 holder seat job after h same is seen s =
    record {
      holding = λ l. h;
      numbers = λ l e. s;
      blind = λ l e. let f : true ≡ false = sym seen ∙ e in absurd (cc);
      begun = λ b. let f : Locked ≡ Begun = sym is ∙ sym same ∙ b in absurd (cc);
    }

only : (holder : Option ℕ) (seat : ℕ) → holder ≡ Some seat → (i : ℕ) → i ≢ seat → holder ≡ Some i → ⊥
only holder seat h i other e = other (sym (some_is seat i (sym h ∙ e)))

locked-knows : (x x2 : List Revision) (jobs : List (Option Job)) (holder : Option ℕ) (seat : ℕ) (job : Job) → RoomKnows x holder jobs → job_at jobs seat ≡ Some job → job.stage ≡ Begun → Knowing (standing_of x2) (Some seat) seat (locked job)
locked-knows x x2 jobs holder seat job k runs begun =
    record {
      holding = λ l. refl;
      numbers = λ l e. let f : false ≡ true = e in absurd (cc);
      blind = λ l e. (k.jobs_know seat job runs).begun begun;
      begun = λ b. let f : Locked ≡ Begun = b in absurd (cc);
    }

pub knows-done : (o : Origin) (shaped : Bool) (room : Room) (seat : ℕ) (job : Job) (call : Call) → RoomKept o shaped room → RoomKnows room.mirror.revisions room.mirror.holder room.jobs → job_at room.jobs seat ≡ Some job → Lawful job call → refusal room.mirror seat call ≡ None → RoomKnows (does room seat job call).mirror.revisions (does room seat job call).mirror.holder (does room seat job call).jobs
knows-done o shaped room seat job (Init url uuid props) k n runs lawful free =
    let x : List Revision = room.mirror.revisions in
    let no_url : has_url x ≡ false = (passes (is_some (standing_of x).url) need.AlreadyInitialised _ (no_need room.mirror seat (Init url uuid props) free)).0 in
    knows-set x (does room seat job (Init url uuid props)).mirror.revisions room.mirror.holder room.mirror.holder room.jobs seat (done_by job (Init url uuid props)) n
    (λ i other h. let e : true ≡ false = sym (k.held i h) ∙ no_url in cc)
    (over _ room.mirror.holder seat (done_by job (Init url uuid props)) refl)
    (λ i h. let e : true ≡ false = sym (k.held i h) ∙ no_url in absurd (cc))
knows-done o shaped room seat job (TakeLock token) k n runs lawful free =
    let x : List Revision = room.mirror.revisions in
    let p : PropMap = insert (props_at x 0) lock_name token in
    let rest = passes (is_none (standing_of x).url) need.NotInitialised _ (no_need room.mirror seat (TakeLock token) free) in
    let none : is_some (standing_of x).lock ≡ false = (passes (is_some (standing_of x).lock) need.LockHeld None rest.1).0 in
    knows-set x (with_entry x (Mapped 0 p)) room.mirror.holder (Some seat) room.jobs seat (done_by job (TakeLock token)) n
    (λ i other h. let e : true ≡ false = sym (n.lock i h) ∙ none in cc)
    (locked-knows x (with_entry x (Mapped 0 p)) room.jobs room.mirror.holder seat job n runs lawful.begun)
    (λ i h. ap (λ q. is_some (get q lock_name)) (now0 x p k.revisions.some) ∙ ap is_some (get-put_there (props_at x 0) lock_name token))
knows-done o shaped room seat job (StealLock token) k n runs lawful free =
    let x : List Revision = room.mirror.revisions in
    let p : PropMap = insert (props_at x 0) lock_name token in
    let rest = passes (is_none (standing_of x).url) need.NotInitialised _ (no_need room.mirror seat (StealLock token) free) in
    let none : is_some room.mirror.holder ≡ false = (passes (is_some room.mirror.holder) need.HolderRunning None rest.1).0 in
    knows-set x (with_entry x (Mapped 0 p)) room.mirror.holder (Some seat) room.jobs seat (done_by job (StealLock token)) n
    (λ i other h. let e : true ≡ false = sym (ap is_some h) ∙ none in cc)
    (locked-knows x (with_entry x (Mapped 0 p)) room.jobs room.mirror.holder seat job n runs lawful.begun)
    (λ i h. ap (λ q. is_some (get q lock_name)) (now0 x p k.revisions.some) ∙ ap is_some (get-put_there (props_at x 0) lock_name token))
knows-done o shaped room seat job ReleaseLock k n runs lawful free =
    let x : List Revision = room.mirror.revisions in
    let h = holder_by room.mirror seat _ (no_need room.mirror seat ReleaseLock free) in
    knows-set x (does room seat job ReleaseLock).mirror.revisions room.mirror.holder None room.jobs seat (done_by job ReleaseLock) n
    (only room.mirror.holder seat h)
    (over _ None seat (done_by job ReleaseLock) refl)
    (λ i e. none_isnt i e)
knows-done o shaped room seat job (SetCopying m) k n runs lawful free =
    let x : List Revision = room.mirror.revisions in
    let p : PropMap = insert (props_at x 0) copying_name (decimal m) in
    let h = holder_by room.mirror seat _ (no_need room.mirror seat (SetCopying m) free) in
    let q = sees (standing_of x) room.mirror.holder seat job job.head (n.jobs_know seat job runs) lawful.idle.locked lawful.idle.fits.0 in
    let s = q.1 in
    let now = now0 x p k.revisions.some in
    let small = k.revisions.small in
    let at : m ≡ head_of x + 1 = lawful.next ∙ ap (λ i. i + 1) s.head in
    let spelt : number_of (decimal m) ≡ Spelt m = number_of-decimal m (omega arith) in
    knows-set x (with_entry x (Mapped 0 p)) room.mirror.holder room.mirror.holder room.jobs seat (done_by job (SetCopying m)) n (only room.mirror.holder seat h)
    (same-knows x (with_entry x (Mapped 0 p)) room.mirror.holder seat job (done_by job (SetCopying m)) h refl lawful.idle.locked q.0
    (record {
      merged = s.merged ∙ sym (ap (λ q. number_at q merged_name) now ∙ ap (λ v. option_map_or number_of v Absent) (get-put_other (props_at x 0) copying_name (decimal m) merged_name merged-copying));
      copying = sym (ap (λ q. number_at q copying_name) now ∙ ap (λ v. option_map_or number_of v Absent) (get-put_there (props_at x 0) copying_name (decimal m)) ∙ spelt);
      head = s.head ∙ sym (head0 x 0 p);
    }))
    (λ i e. ap (λ q. is_some (get q lock_name)) now ∙ ap is_some (get-put_other (props_at x 0) copying_name (decimal m) lock_name lock-copying) ∙ n.lock i e)
knows-done o shaped room seat job (SetMerged m) k n runs lawful free =
    let x : List Revision = room.mirror.revisions in
    let p : PropMap = insert (props_at x 0) merged_name (decimal m) in
    let h = holder_by room.mirror seat _ (no_need room.mirror seat (SetMerged m) free) in
    let t = lawful.committed.fits in
    let q = sees (standing_of x) room.mirror.holder seat job t.2.0 (n.jobs_know seat job runs) lawful.committed.locked t.2.1 in
    let s = q.1 in
    let now = now0 x p k.revisions.some in
    let small = k.revisions.small in
    let at : m ≡ head_of x = t.1 ∙ s.head in
    let spelt : number_of (decimal m) ≡ Spelt m = number_of-decimal m (omega arith) in
    knows-set x (with_entry x (Mapped 0 p)) room.mirror.holder room.mirror.holder room.jobs seat (done_by job (SetMerged m)) n (only room.mirror.holder seat h)
    (same-knows x (with_entry x (Mapped 0 p)) room.mirror.holder seat job (done_by job (SetMerged m)) h refl lawful.committed.locked q.0
    (record {
      merged = sym (ap (λ q. number_at q merged_name) now ∙ ap (λ v. option_map_or number_of v Absent) (get-put_there (props_at x 0) merged_name (decimal m)) ∙ spelt);
      copying = s.copying ∙ sym (ap (λ q. number_at q copying_name) now ∙ ap (λ v. option_map_or number_of v Absent) (get-put_other (props_at x 0) merged_name (decimal m) copying_name copying-merged));
      head = s.head ∙ sym (head0 x 0 p);
    }))
    (λ i e. ap (λ q. is_some (get q lock_name)) now ∙ ap is_some (get-put_other (props_at x 0) merged_name (decimal m) lock_name lock-merged) ∙ n.lock i e)
knows-done o shaped room seat job ClearCopying k n runs lawful free =
    let x : List Revision = room.mirror.revisions in
    let p : PropMap = remove (props_at x 0) copying_name in
    let h = holder_by room.mirror seat _ (no_need room.mirror seat ClearCopying free) in
    let q = sees (standing_of x) room.mirror.holder seat job job.head (n.jobs_know seat job runs) lawful.merged.locked lawful.merged.fits.0 in
    let s = q.1 in
    let now = now0 x p k.revisions.some in
    knows-set x (with_entry x (Mapped 0 p)) room.mirror.holder room.mirror.holder room.jobs seat (done_by job ClearCopying) n (only room.mirror.holder seat h)
    (same-knows x (with_entry x (Mapped 0 p)) room.mirror.holder seat job (done_by job ClearCopying) h refl lawful.merged.locked q.0
    (record {
      merged = s.merged ∙ sym (ap (λ q. number_at q merged_name) now ∙ ap (λ v. option_map_or number_of v Absent) (get-drop_other (props_at x 0) copying_name merged_name merged-copying));
      copying = sym (ap (λ q. number_at q copying_name) now ∙ ap (λ v. option_map_or number_of v Absent) (get-drop_there (props_at x 0) copying_name));
      head = s.head ∙ sym (head0 x 0 p);
    }))
    (λ i e. ap (λ q. is_some (get q lock_name)) now ∙ ap is_some (get-drop_other (props_at x 0) copying_name lock_name lock-copying) ∙ n.lock i e)
knows-done o shaped room seat job (PutProps m props) k n runs lawful free =
    let x : List Revision = room.mirror.revisions in
    let h = holder_by room.mirror seat _ (no_need room.mirror seat (PutProps m props) free) in
    let some = k.revisions.some in
    knows-set x (does room seat job (PutProps m props)).mirror.revisions room.mirror.holder room.mirror.holder room.jobs seat (done_by job (PutProps m props)) n (only room.mirror.holder seat h)
    (record {
      holding = λ l. h;
      numbers = λ l e. moved ((n.jobs_know seat job runs).numbers l e);
      blind = (n.jobs_know seat job runs).blind;
      begun = (n.jobs_know seat job runs).begun;
    })
    (λ i e. ap is_some (put-same x m props lock_name some is_sync-lock) ∙ n.lock i e)
  where
    moved : SameNumbers job (standing_of room.mirror.revisions) → SameNumbers (done_by job (PutProps m props)) (standing_of (does room seat job (PutProps m props)).mirror.revisions)
    moved s =
        record {
          merged = s.merged ∙ sym (ap (λ v. option_map_or number_of v Absent) (put-same room.mirror.revisions m props merged_name k.revisions.some is_sync-merged));
          copying = s.copying ∙ sym (ap (λ v. option_map_or number_of v Absent) (put-same room.mirror.revisions m props copying_name k.revisions.some is_sync-copying));
          head = s.head ∙ sym (head0 room.mirror.revisions m _);
        }
knows-done o shaped room seat job (Commit m set props) k n runs lawful free =
    let x : List Revision = room.mirror.revisions in
    let r : Revision = record { tree = effect_tree (trees_of x) set; props = without_sync props } in
    let h = holder_by room.mirror seat _ (no_need room.mirror seat (Commit m set props) free) in
    let q = sees (standing_of x) room.mirror.holder seat job job.head (n.jobs_know seat job runs) lawful.copying.locked lawful.copying.fits.0 in
    let s = q.1 in
    let f = zeroth_of x k.revisions.some in
    let zeroth : props_at (x ++ r ∷ []) 0 ≡ props_at x 0 = ap (λ v. option_map_or (λ (z : Revision). z.props) v none_written) (slice_get-grown x (r ∷ []) 0 f.0 f.1 ∙ sym f.1) in
    let some = k.revisions.some in
    let at : m ≡ head_of x + 1 = lawful.copying.fits.2 ∙ ap (λ i. i + 1) s.head in
    knows-set x (x ++ r ∷ []) room.mirror.holder room.mirror.holder room.jobs seat (done_by job (Commit m set props)) n (only room.mirror.holder seat h)
    (same-knows x (x ++ r ∷ []) room.mirror.holder seat job (done_by job (Commit m set props)) h refl lawful.copying.locked q.0
    (record {
      merged = s.merged ∙ sym (ap (λ q. number_at q merged_name) zeroth);
      copying = s.copying ∙ sym (ap (λ q. number_at q copying_name) zeroth);
      head = let e : m ≡ head_of (x ++ r ∷ []) = omega (arith, length-append x (r ∷ [])) in e;
    }))
    (λ i e. ap (λ q. is_some (get q lock_name)) zeroth ∙ n.lock i e)
knows-done o shaped room seat job Look k n runs lawful free =
    record { jobs_know = λ i j at. which i j (job-stored room.jobs seat (Some (answered job Look (granted room.mirror Look))) i j at); lock = n.lock }
  where
    own : Knowing (standing_of room.mirror.revisions) room.mirror.holder seat (answered job Look (granted room.mirror Look))
    own = record {
      holding = (n.jobs_know seat job runs).holding;
      numbers = λ l e. record { merged = refl; copying = refl; head = refl };
      blind = λ l e. let f : true ≡ false = e in absurd (cc);
      begun = λ b. let f : Locked ≡ Begun = sym lawful ∙ b in absurd (cc);
    }

    which : (i : ℕ) (j : Job) → ((i ≡ seat) × (Some (answered job Look (granted room.mirror Look)) ≡ Some j)) ⊎ ((i ≢ seat) × (job_at room.jobs i ≡ Some j)) → Knowing (standing_of room.mirror.revisions) room.mirror.holder i j
    which i j (inl p) = subst (λ h. Knowing (standing_of room.mirror.revisions) room.mirror.holder h j) (sym p.0) (subst (Knowing (standing_of room.mirror.revisions) room.mirror.holder seat) (some_is (answered job Look (granted room.mirror Look)) j p.1) own)
    which i j (inr p) = n.jobs_know i j p.1
