-- A job comes nearer to its end with each answer, so its run ends by itself.
use Rattle.std.proofs.Common.{◌≡◌, ◌≢◌, ◌⊎◌, inl, inr, ℕ, ◌+◌, ◌≤◌, true, false, List, refl, sym, subst, arith}
use Rattle.sync_core.specs.declared.answer.Answer.{Answer}
use Rattle.sync_core.specs.declared.state.JobState.{JobState}
use Rattle.sync_core.specs.declared.state.JobState.TheVariants as state
use Rattle.sync_core.specs.declared.init_job.InitPhase.{InitPhase}
use Rattle.sync_core.specs.declared.init_job.InitPhase.TheVariants as initial
use Rattle.sync_core.specs.declared.sync_job.Known.{Known}
use Rattle.sync_core.specs.declared.sync_job.SyncPhase.{SyncPhase}
use Rattle.sync_core.specs.declared.sync_job.SyncPhase.TheVariants as phase
use Rattle.sync_core.specs.declared.copy_job.CopyPhase.{CopyPhase}
use Rattle.sync_core.specs.declared.copy_job.CopyPhase.TheVariants as copying
use Rattle.sync_core.specs.declared.answer.Answer.TheVariants as answer
use Rattle.sync_core.specs.Mirror.{ReleaseLock}
use Rattle.sync_job.specs.Rooms.{SyncBegins, CopyBegins, IsUnlocked}
use Rattle.sync_core.specs.Deeds.{Calls, Ends}
use Rattle.sync_core.specs.Measures.{CanBe, ComesNearer, left}
use Rattle.sync_core.specs.SyncTable as sync_table
use Rattle.sync_core.specs.CopyTable as copy_table
use Rattle.sync_core.specs.InitTable as init_table
use Rattle.sync_core.specs.States.{deed_in, after}

-- one answer more
pub nearer_on : ComesNearer → (s t u : JobState) (a : Answer) (i : ℕ) → u ≡ after t a → CanBe a → deed_in t ≢ Ends → left t + i ≤ left s → left u + (i + 1) ≤ left s
nearer_on nearer s t u a i e can goes h = subst (λ x. left x + (i + 1) ≤ left s) (sym e) (omega (arith, nearer t a can goes, h))

sync_releases : (p : SyncPhase) (k : Known) (a : Answer) → sync_table.deed_in p ≡ Calls ReleaseLock → sync_table.deed_in (sync_table.after_in p k a).phase ≡ Ends
sync_releases (phase.Lock token true) k a h = absurd (cc)
sync_releases (phase.Lock token false) k a h = absurd (cc)
sync_releases phase.Look k a h = absurd (cc)
sync_releases (phase.Who shape uuid) k a h = absurd (cc)
sync_releases phase.Latest k a h = absurd (cc)
sync_releases (phase.SetCopying n) k a h = absurd (cc)
sync_releases (phase.Fetch n) k a h = absurd (cc)
sync_releases (phase.Commit n set props) k a h = absurd (cc)
sync_releases (phase.FetchProps n) k a h = absurd (cc)
sync_releases (phase.Put n props) k a h = absurd (cc)
sync_releases (phase.Merge n) k a h = absurd (cc)
sync_releases phase.Clear k a h = absurd (cc)
sync_releases (phase.Release e) k a h = refl
sync_releases (phase.End e) k a h = absurd (cc)

copy_releases : (token : List ℕ) (p : CopyPhase) (low high : ℕ) (a : Answer) → copy_table.deed_in token p ≡ Calls ReleaseLock → copy_table.deed_in token (copy_table.after_in p low high a) ≡ Ends
copy_releases token copying.Lock low high a h = absurd (cc)
copy_releases token copying.Look low high a h = absurd (cc)
copy_releases token (copying.Who m uuid) low high a h = absurd (cc)
copy_releases token (copying.FetchProps n) low high a h = absurd (cc)
copy_releases token (copying.Put n props) low high a h = absurd (cc)
copy_releases token (copying.Release e) low high a h = refl
copy_releases token (copying.End e) low high a h = absurd (cc)

init_releases : (url : List ℕ) (p : InitPhase) (a : Answer) → init_table.deed_in url p ≡ Calls ReleaseLock → init_table.deed_in url (init_table.after_in p a) ≡ Ends
init_releases url initial.Who a h = absurd (cc)
init_releases url (initial.FetchProps u) a h = absurd (cc)
init_releases url (initial.Init u props) a h = absurd (cc)
init_releases url (initial.End e) a h = absurd (cc)

-- behind the release of its lock a job has ended, whatever was answered
pub release_ends : (s : JobState) (a : Answer) → deed_in s ≡ Calls ReleaseLock → deed_in (after s a) ≡ Ends
release_ends (state.Init s) a h = init_releases s.url s.phase a h
release_ends (state.Sync s) a h = sync_releases s.phase s.known a h
release_ends (state.Copy s) a h = copy_releases s.token s.phase s.low s.high a h

sync_begins : (p : SyncPhase) (k : Known) (a : Answer) → SyncBegins p → (sync_table.deed_in (sync_table.after_in p k a).phase ≡ Ends) ⊎ (a ≡ answer.Done)
sync_begins (phase.Lock token steal) k answer.Done h = inr refl
sync_begins (phase.Lock token steal) k (answer.Seen x) h = inl refl
sync_begins (phase.Lock token steal) k (answer.Identity x) h = inl refl
sync_begins (phase.Lock token steal) k (answer.Latest x) h = inl refl
sync_begins (phase.Lock token steal) k (answer.Revision x y) h = inl refl
sync_begins (phase.Lock token steal) k (answer.Map x) h = inl refl
sync_begins (phase.Lock token steal) k (answer.Refused x) h = inl refl
sync_begins (phase.Lock token steal) k (answer.Failed x) h = inl refl
sync_begins phase.Look k a h = absurd h
sync_begins (phase.Who shape uuid) k a h = absurd h
sync_begins phase.Latest k a h = absurd h
sync_begins (phase.SetCopying n) k a h = absurd h
sync_begins (phase.Fetch n) k a h = absurd h
sync_begins (phase.Commit n set props) k a h = absurd h
sync_begins (phase.FetchProps n) k a h = absurd h
sync_begins (phase.Put n props) k a h = absurd h
sync_begins (phase.Merge n) k a h = absurd h
sync_begins phase.Clear k a h = absurd h
sync_begins (phase.Release e) k a h = absurd h
sync_begins (phase.End e) k a h = absurd h

copy_begins : (token : List ℕ) (p : CopyPhase) (low high : ℕ) (a : Answer) → CopyBegins p → (copy_table.deed_in token (copy_table.after_in p low high a) ≡ Ends) ⊎ (a ≡ answer.Done)
copy_begins token copying.Lock low high answer.Done h = inr refl
copy_begins token copying.Lock low high (answer.Seen x) h = inl refl
copy_begins token copying.Lock low high (answer.Identity x) h = inl refl
copy_begins token copying.Lock low high (answer.Latest x) h = inl refl
copy_begins token copying.Lock low high (answer.Revision x y) h = inl refl
copy_begins token copying.Lock low high (answer.Map x) h = inl refl
copy_begins token copying.Lock low high (answer.Refused x) h = inl refl
copy_begins token copying.Lock low high (answer.Failed x) h = inl refl
copy_begins token copying.Look low high a h = absurd h
copy_begins token (copying.Who m uuid) low high a h = absurd h
copy_begins token (copying.FetchProps n) low high a h = absurd h
copy_begins token (copying.Put n props) low high a h = absurd h
copy_begins token (copying.Release e) low high a h = absurd h
copy_begins token (copying.End e) low high a h = absurd h

-- a job that takes its lock next has ended, or has it and goes on; one that takes none makes no release
begins_on : (s : JobState) (a : Answer) → IsUnlocked s → (deed_in (after s a) ≡ Ends) ⊎ (IsUnlocked (after s a) ⊎ (a ≡ answer.Done))
begins_on (state.Init s) a h = inr (inl tt)
begins_on (state.Sync s) a h = elim (sync_begins s.phase s.known a h) [
  | inl e ↦ inl e
  | inr e ↦ inr (inr e)
]
begins_on (state.Copy s) a h = elim (copy_begins s.token s.phase s.low s.high a h) [
  | inl e ↦ inl e
  | inr e ↦ inr (inr e)
]

-- there is room for the release of a job's lock from the lock on
abbrev pub HasRoomFor : Type 0 → JobState → Type 0
HasRoomFor Room s = (deed_in s ≡ Ends) ⊎ (IsUnlocked s ⊎ Room)

no_end : (s : JobState) → deed_in s ≡ Ends → deed_in s ≢ Calls ReleaseLock
no_end s e x = cc

-- and by each answer
pub room_on : (Old New : Type 0) (s t : JobState) (a : Answer) → t ≡ after s a → deed_in s ≢ Ends → HasRoomFor Old s → (Old ⊎ (a ≡ answer.Done) → (deed_in s ≡ Calls ReleaseLock) ⊎ New) → HasRoomFor New t
room_on Old New s t a e goes h keeps = subst (λ x. HasRoomFor New x) (sym e) (by h)
  where
    kept : (deed_in s ≡ Calls ReleaseLock) ⊎ New → HasRoomFor New (after s a)
    kept (inl d) = inl (release_ends s a d)
    kept (inr r) = inr (inr r)

    begun : (deed_in (after s a) ≡ Ends) ⊎ (IsUnlocked (after s a) ⊎ (a ≡ answer.Done)) → HasRoomFor New (after s a)
    begun (inl x) = inl x
    begun (inr (inl u)) = inr (inl u)
    begun (inr (inr d)) = kept (keeps (inr d))

    by : HasRoomFor Old s → HasRoomFor New (after s a)
    by (inl x) = absurd (goes x)
    by (inr (inl u)) = begun (begins_on s a u)
    by (inr (inr r)) = kept (keeps (inl r))
