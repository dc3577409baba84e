-- How jobs end, and that they stay so.
use Rattle.std.proofs.Common.{◌≡◌, ℕ, ◌+◌, nat_lt, nat_le, not, Bool, true, false, List, Option, Some, None, is_none, is_some, if◌then◌else◌, refl, sym, ap, ◌∙◌, arith}
use Rattle.std.specs.Option.{option_map_or}
use Rattle.node_base.specs.Props.{PropMap}
use Rattle.repo_core.specs.Repository.{head_of}
use Rattle.sync_core.specs.declared.sync_job.Known.{Known}
use Rattle.sync_core.specs.declared.sync_job.SyncPhase.{SyncPhase}
use Rattle.sync_core.specs.declared.sync_job.SyncPhase.TheVariants as phase
use Rattle.sync_core.specs.declared.sync_job.SyncJob.{SyncJob}
use Rattle.sync_core.specs.declared.copy_job.CopyPhase.{CopyPhase}
use Rattle.sync_core.specs.declared.copy_job.CopyPhase.TheVariants as copying
use Rattle.sync_core.specs.declared.init_job.InitPhase.{InitPhase}
use Rattle.sync_core.specs.declared.init_job.InitPhase.TheVariants as init
use Rattle.sync_core.specs.declared.state.JobState.TheVariants as state
use Rattle.sync_core.specs.declared.fault.SyncFault.TheVariants as fault
use Rattle.sync_core.specs.declared.ending.Ending.{Ending}
use Rattle.sync_core.specs.declared.ending.Ending.TheVariants as ending
use Rattle.sync_core.specs.declared.answer.Answer.{Answer}
use Rattle.sync_core.specs.declared.answer.Answer.TheVariants as answer
use Rattle.sync_core.specs.declared.resting.Resting.{Resting}
use Rattle.sync_core.specs.declared.resting.Resting.TheVariants as resting
use Rattle.sync_core.specs.Names.{Number, Absent, reaches}
use Rattle.sync_core.specs.Mirror.{Standing, standing_of, Init, ReleaseLock, Commit}
use Rattle.sync_core.specs.Faults.{inconsistent_as}
use Rattle.sync_core.specs.Shapes.{shape_in}
use Rattle.sync_core.specs.Endings.{released}
use Rattle.sync_core.specs.Identities.{is_identity}
use Rattle.sync_core.specs.Deeds.{Deed, Calls, Ends}
use Rattle.sync_core.specs.SyncTable as sync
use Rattle.sync_core.specs.CopyTable as copy
use Rattle.sync_core.specs.InitTable as initial
use Rattle.sync_core.specs.Going.{StaysEnded, OnlyEndedEnds, EndsWellDone, CommitsInOrder}
use Rattle.sync_core.proofs.Lists.{none_isnt}
use Rattle.sync_core.proofs.Kept.{no_need}
use Rattle.sync_core.proofs.Table.{meets}
use Rattle.sync_core.proofs.SyncSteps.{set_copying_is, fetch_is, commit_is, fetch_props_is, put_is, merge_is, clear_is, look_is, who_is, looked_is, next_is}

sync_ended : (p : SyncPhase) (known : Known) (a : Answer) (e : Ending) → sync.ending_in p ≡ Some e → (sync.deed_in p ≡ Ends) × (sync.after_in p known a ≡ sync.at known p)
sync_ended (phase.End x) known a e h = (refl, refl)
sync_ended (phase.Lock token steal) known a e h = none_isnt e h
sync_ended phase.Look known a e h = none_isnt e h
sync_ended (phase.Who shape uuid) known a e h = none_isnt e h
sync_ended phase.Latest known a e h = none_isnt e h
sync_ended (phase.SetCopying n) known a e h = none_isnt e h
sync_ended (phase.Fetch n) known a e h = none_isnt e h
sync_ended (phase.Commit n set props) known a e h = none_isnt e h
sync_ended (phase.FetchProps n) known a e h = none_isnt e h
sync_ended (phase.Put n props) known a e h = none_isnt e h
sync_ended (phase.Merge n) known a e h = none_isnt e h
sync_ended phase.Clear known a e h = none_isnt e h
sync_ended (phase.Release x) known a e h = none_isnt e h

copy_ended : (token : List ℕ) (p : CopyPhase) (low high : ℕ) (a : Answer) (e : Ending) → copy.ending_in p ≡ Some e → (copy.deed_in token p ≡ Ends) × (copy.after_in p low high a ≡ p)
copy_ended token (copying.End x) low high a e h = (refl, refl)
copy_ended token copying.Lock low high a e h = none_isnt e h
copy_ended token copying.Look low high a e h = none_isnt e h
copy_ended token (copying.Who merged uuid) low high a e h = none_isnt e h
copy_ended token (copying.FetchProps n) low high a e h = none_isnt e h
copy_ended token (copying.Put n props) low high a e h = none_isnt e h
copy_ended token (copying.Release x) low high a e h = none_isnt e h

init_ended : (p : InitPhase) (url : List ℕ) (a : Answer) (e : Ending) → initial.ending_in p ≡ Some e → (initial.deed_in url p ≡ Ends) × (initial.after_in p a ≡ p)
init_ended (init.End x) url a e h = (refl, refl)
init_ended init.Who url a e h = none_isnt e h
init_ended (init.FetchProps uuid) url a e h = none_isnt e h
init_ended (init.Init uuid props) url a e h = none_isnt e h

pub stays-ended : StaysEnded
stays-ended (state.Init s) a e h = let r = init_ended s.phase s.url a e h in (r.0, ap (λ p. state.Init (record { url = s.url; phase = p })) r.1)
stays-ended (state.Sync s) a e h = let r = sync_ended s.phase s.known a e h in (r.0, ap state.Sync r.1)
stays-ended (state.Copy s) a e h = let r = copy_ended s.token s.phase s.low s.high a e h in (r.0, ap (λ p. state.Copy (record { token = s.token; low = s.low; high = s.high; phase = p })) r.1)

sync_only : (p : SyncPhase) → sync.deed_in p ≡ Ends → (e : Ending) × (sync.ending_in p ≡ Some e)
sync_only (phase.End x) h = (x, refl)
sync_only (phase.Lock token true) h = absurd (cc)
sync_only (phase.Lock token false) h = absurd (cc)
sync_only phase.Look h = absurd (cc)
sync_only (phase.Who shape uuid) h = absurd (cc)
sync_only phase.Latest h = absurd (cc)
sync_only (phase.SetCopying n) h = absurd (cc)
sync_only (phase.Fetch n) h = absurd (cc)
sync_only (phase.Commit n set props) h = absurd (cc)
sync_only (phase.FetchProps n) h = absurd (cc)
sync_only (phase.Put n props) h = absurd (cc)
sync_only (phase.Merge n) h = absurd (cc)
sync_only phase.Clear h = absurd (cc)
sync_only (phase.Release x) h = absurd (cc)

copy_only : (token : List ℕ) (p : CopyPhase) → copy.deed_in token p ≡ Ends → (e : Ending) × (copy.ending_in p ≡ Some e)
copy_only token (copying.End x) h = (x, refl)
copy_only token copying.Lock h = absurd (cc)
copy_only token copying.Look h = absurd (cc)
copy_only token (copying.Who merged uuid) h = absurd (cc)
copy_only token (copying.FetchProps n) h = absurd (cc)
copy_only token (copying.Put n props) h = absurd (cc)
copy_only token (copying.Release x) h = absurd (cc)

init_only : (p : InitPhase) (url : List ℕ) → initial.deed_in url p ≡ Ends → (e : Ending) × (initial.ending_in p ≡ Some e)
init_only (init.End x) url h = (x, refl)
init_only init.Who url h = absurd (cc)
init_only (init.FetchProps uuid) url h = absurd (cc)
init_only (init.Init uuid props) url h = absurd (cc)

pub only-ended-ends : OnlyEndedEnds
only-ended-ends (state.Init s) h = init_only s.phase s.url h
only-ended-ends (state.Sync s) h = sync_only s.phase h
only-ended-ends (state.Copy s) h = copy_only s.token s.phase h

-- a sync job that goes on
abbrev GoesOn : SyncJob → Type 0
GoesOn s = sync.ending_of s ≡ None

lock_ends : (known : Known) (a : Answer) → sync.ending_of (sync.after_lock known a) ≡ Some ending.Fine → ⊥
lock_ends known answer.Done h = cc
lock_ends known (answer.Seen r) h = cc
lock_ends known (answer.Identity u) h = cc
lock_ends known (answer.Latest k) h = cc
lock_ends known (answer.Revision s p) h = cc
lock_ends known (answer.Map p) h = cc
lock_ends known (answer.Refused x) h = cc
lock_ends known (answer.Failed x) h = cc

latest_goes : (known : Known) (a : Answer) → GoesOn (sync.after_latest known a)
latest_goes known answer.Done = refl
latest_goes known (answer.Seen r) = refl
latest_goes known (answer.Identity u) = refl
latest_goes known (answer.Latest k) = next_is (λ p. GoesOn (sync.at (record known { latest = Some k }) p)) (record known { latest = Some k }) k (λ e. refl) (λ e. refl) refl refl
latest_goes known (answer.Revision s p) = refl
latest_goes known (answer.Map p) = refl
latest_goes known (answer.Refused x) = refl
latest_goes known (answer.Failed x) = refl

cleared_goes : (known : Known) (o : Option ℕ) → GoesOn (option_map_or (λ n. sync.at known (sync.next known n)) o (sync.at known phase.Latest))
cleared_goes known None = refl
cleared_goes known (Some n) = next_is (λ p. GoesOn (sync.at known p)) known n (λ e. refl) (λ e. refl) refl refl

resumes : (known : Known) (shape : Resting) → GoesOn (sync.at known (sync.resumed shape known.head))
resumes known resting.Idle = refl
resumes known (resting.Copying n) = refl
resumes known (resting.Committed n) = refl
resumes known resting.Merged = refl

-- nothing ends well where something goes on
goes_not : {A : Type 0} (o : Option Ending) → o ≡ None → o ≡ Some ending.Fine → A
goes_not o e f = none_isnt ending.Fine (sym e ∙ f)

-- a release that ends well was done
abbrev IsReleased : Ending → Answer → Type 0
IsReleased e a = Some (released e a) ≡ Some ending.Fine → a ≡ answer.Done

released_done : (e : Ending) (a : Answer) → IsReleased e a
released_done (ending.Refused x) a h = absurd (cc)
released_done ending.Fine answer.Done h = refl
released_done ending.Fine (answer.Seen r) h = absurd (cc)
released_done ending.Fine (answer.Identity u) h = absurd (cc)
released_done ending.Fine (answer.Latest k) h = absurd (cc)
released_done ending.Fine (answer.Revision s p) h = absurd (cc)
released_done ending.Fine (answer.Map p) h = absurd (cc)
released_done ending.Fine (answer.Refused x) h = absurd (cc)
released_done ending.Fine (answer.Failed x) h = absurd (cc)

abbrev IsWell : Deed → Answer → Type 0
IsWell d a = (a ≡ answer.Done) × (d ≡ Calls ReleaseLock)

sync_well : (p : SyncPhase) (known : Known) (a : Answer) → sync.ending_in p ≡ None → sync.ending_of (sync.after_in p known a) ≡ Some ending.Fine → IsWell (sync.deed_in p) a
sync_well (phase.Lock token steal) known a n h = absurd (lock_ends known a h)
sync_well phase.Look known a n h = goes_not _ (look_is GoesOn known a (λ r. looked_is GoesOn (sync.seen known r) r (λ f. refl) (λ shape. refl)) (λ f. refl)) h
sync_well (phase.Who shape uuid) known a n h = goes_not _ (who_is GoesOn known shape uuid a (resumes known shape, refl) (λ f. refl)) h
sync_well phase.Latest known a n h = goes_not _ (latest_goes known a) h
sync_well (phase.SetCopying k) known a n h = goes_not _ (set_copying_is GoesOn known k a refl (λ f. refl)) h
sync_well (phase.Fetch k) known a n h = goes_not _ (fetch_is GoesOn known k a (λ s p. refl) (λ f. refl)) h
sync_well (phase.Commit k set props) known a n h = goes_not _ (commit_is GoesOn known k a refl (λ f. refl)) h
sync_well (phase.FetchProps k) known a n h = goes_not _ (fetch_props_is GoesOn known k a (λ p. refl) (λ f. refl)) h
sync_well (phase.Put k props) known a n h = goes_not _ (put_is GoesOn known k a refl (λ f. refl)) h
sync_well (phase.Merge k) known a n h = goes_not _ (merge_is GoesOn known k a refl (λ f. refl)) h
sync_well phase.Clear known a n h = goes_not _ (clear_is GoesOn known a (cleared_goes (record known { copying = Absent }) known.latest) (λ f. refl)) h
sync_well (phase.Release e) known a n h = (released_done e a h, refl)
sync_well (phase.End e) known a n h = absurd (cc)

abbrev CopyGoes : CopyPhase → Type 0
CopyGoes p = copy.ending_in p ≡ None

copy_lock : (a : Answer) → copy.ending_in (copy.after_lock a) ≡ Some ending.Fine → ⊥
copy_lock answer.Done h = cc
copy_lock (answer.Seen r) h = cc
copy_lock (answer.Identity u) h = cc
copy_lock (answer.Latest k) h = cc
copy_lock (answer.Revision s p) h = cc
copy_lock (answer.Map p) h = cc
copy_lock (answer.Refused x) h = cc
copy_lock (answer.Failed x) h = cc

copy_looks : (s : Standing) (b : Bool) (o : Option Resting) → CopyGoes (if b then copy.give_up fault.NotInitialised else if is_some o then copying.Who s.merged s.uuid else copy.give_up (inconsistent_as s))
copy_looks s true o = refl
copy_looks s false None = refl
copy_looks s false (Some shape) = refl

copy_look : (a : Answer) → CopyGoes (copy.after_look a)
copy_look answer.Done = refl
copy_look (answer.Seen r) = copy_looks r (is_none r.url) (shape_in r.merged r.copying r.head)
copy_look (answer.Identity u) = refl
copy_look (answer.Latest k) = refl
copy_look (answer.Revision s p) = refl
copy_look (answer.Map p) = refl
copy_look (answer.Refused x) = refl
copy_look (answer.Failed x) = refl

copy_begins : (low high : ℕ) (b c : Bool) → CopyGoes (if b then copy.give_up (fault.NotYetCopied high) else if c then copying.FetchProps low else copying.Release ending.Fine)
copy_begins low high true c = refl
copy_begins low high false true = refl
copy_begins low high false false = refl

copy_found : (low high : ℕ) (merged : Number) (b : Bool) → CopyGoes (if b then copy.begin low high merged else copy.give_up fault.WrongMaster)
copy_found low high merged true = copy_begins low high (not (reaches merged high)) (nat_le low high)
copy_found low high merged false = refl

copy_who : (low high : ℕ) (merged : Number) (uuid : Option (List ℕ)) (a : Answer) → CopyGoes (copy.after_who low high merged uuid a)
copy_who low high merged uuid answer.Done = refl
copy_who low high merged uuid (answer.Seen r) = refl
copy_who low high merged uuid (answer.Identity u) = copy_found low high merged (is_identity uuid u)
copy_who low high merged uuid (answer.Latest k) = refl
copy_who low high merged uuid (answer.Revision s p) = refl
copy_who low high merged uuid (answer.Map p) = refl
copy_who low high merged uuid (answer.Refused x) = refl
copy_who low high merged uuid (answer.Failed x) = refl

copy_fetch : (n : ℕ) (a : Answer) → CopyGoes (copy.after_fetch_props n a)
copy_fetch n answer.Done = refl
copy_fetch n (answer.Seen r) = refl
copy_fetch n (answer.Identity u) = refl
copy_fetch n (answer.Latest k) = refl
copy_fetch n (answer.Revision s p) = refl
copy_fetch n (answer.Map p) = refl
copy_fetch n (answer.Refused x) = refl
copy_fetch n (answer.Failed x) = refl

copy_next : (n : ℕ) (b : Bool) → CopyGoes (if b then copying.FetchProps (n + 1) else copying.Release ending.Fine)
copy_next n true = refl
copy_next n false = refl

copy_put : (high n : ℕ) (a : Answer) → CopyGoes (copy.after_put high n a)
copy_put high n answer.Done = copy_next n (nat_lt n high)
copy_put high n (answer.Seen r) = refl
copy_put high n (answer.Identity u) = refl
copy_put high n (answer.Latest k) = refl
copy_put high n (answer.Revision s p) = refl
copy_put high n (answer.Map p) = refl
copy_put high n (answer.Refused x) = refl
copy_put high n (answer.Failed x) = refl

copy_well : (token : List ℕ) (p : CopyPhase) (low high : ℕ) (a : Answer) → copy.ending_in p ≡ None → copy.ending_in (copy.after_in p low high a) ≡ Some ending.Fine → IsWell (copy.deed_in token p) a
copy_well token copying.Lock low high a n h = absurd (copy_lock a h)
copy_well token copying.Look low high a n h = goes_not _ (copy_look a) h
copy_well token (copying.Who merged uuid) low high a n h = goes_not _ (copy_who low high merged uuid a) h
copy_well token (copying.FetchProps k) low high a n h = goes_not _ (copy_fetch k a) h
copy_well token (copying.Put k props) low high a n h = goes_not _ (copy_put high k a) h
copy_well token (copying.Release e) low high a n h = (released_done e a h, refl)
copy_well token (copying.End e) low high a n h = absurd (cc)

abbrev IsInitDone : List ℕ → InitPhase → Answer → Type 0
IsInitDone url p a = (a ≡ answer.Done) × ((uuid : List ℕ) × ((props : PropMap) × (initial.deed_in url p ≡ Calls (Init url uuid props))))

init_well : (p : InitPhase) (url : List ℕ) (a : Answer) → initial.ending_in p ≡ None → initial.ending_in (initial.after_in p a) ≡ Some ending.Fine → IsInitDone url p a
init_well init.Who url answer.Done n h = absurd (cc)
init_well init.Who url (answer.Seen r) n h = absurd (cc)
init_well init.Who url (answer.Identity u) n h = absurd (cc)
init_well init.Who url (answer.Latest k) n h = absurd (cc)
init_well init.Who url (answer.Revision s p) n h = absurd (cc)
init_well init.Who url (answer.Map p) n h = absurd (cc)
init_well init.Who url (answer.Refused x) n h = absurd (cc)
init_well init.Who url (answer.Failed x) n h = absurd (cc)
init_well (init.FetchProps uuid) url answer.Done n h = absurd (cc)
init_well (init.FetchProps uuid) url (answer.Seen r) n h = absurd (cc)
init_well (init.FetchProps uuid) url (answer.Identity u) n h = absurd (cc)
init_well (init.FetchProps uuid) url (answer.Latest k) n h = absurd (cc)
init_well (init.FetchProps uuid) url (answer.Revision s p) n h = absurd (cc)
init_well (init.FetchProps uuid) url (answer.Map p) n h = absurd (cc)
init_well (init.FetchProps uuid) url (answer.Refused x) n h = absurd (cc)
init_well (init.FetchProps uuid) url (answer.Failed x) n h = absurd (cc)
init_well (init.Init uuid props) url answer.Done n h = (refl, (uuid, (props, refl)))
init_well (init.Init uuid props) url (answer.Seen r) n h = absurd (cc)
init_well (init.Init uuid props) url (answer.Identity u) n h = absurd (cc)
init_well (init.Init uuid props) url (answer.Latest k) n h = absurd (cc)
init_well (init.Init uuid props) url (answer.Revision s p) n h = absurd (cc)
init_well (init.Init uuid props) url (answer.Map p) n h = absurd (cc)
init_well (init.Init uuid props) url (answer.Refused x) n h = absurd (cc)
init_well (init.Init uuid props) url (answer.Failed x) n h = absurd (cc)
init_well (init.End x) url a n h = absurd (cc)

pub ends-well-done : EndsWellDone
ends-well-done (state.Init s) a n h = let w = init_well s.phase s.url a n h in (w.0, (Init s.url w.1.0 w.1.1.0, w.1.1.1, (s.url, w.1.0, (w.1.1.0, refl))))
ends-well-done (state.Sync s) a n h = let w = sync_well s.phase s.known a n h in (w.0, (ReleaseLock, w.1, refl))
ends-well-done (state.Copy s) a n h = let w = copy_well s.token s.phase s.low s.high a n h in (w.0, (ReleaseLock, w.1, refl))

pub commits-in-order : CommitsInOrder
commits-in-order m seat n set props some free =
    let met = meets (standing_of m.revisions) m.holder seat (Commit n set props) (no_need m seat (Commit n set props) free) in
    let next : n ≡ head_of m.revisions + 1 = met.1.2 in
    omega (arith, next, some)
