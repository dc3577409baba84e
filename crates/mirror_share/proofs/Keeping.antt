-- What a step leaves of a mirror whose holder is counted.
use Rattle.std.proofs.Common.{◌≡◌, ◌≢◌, ◌<◌, ◌≤◌, ◌+◌, ℕ, Bool, true, false, List, [], ◌∷◌, ◌++◌, length, Option, Some, None, is_some, Result, Ok, Err, refl, sym, ap, subst, ◌∙◌, arith}
use Rattle.std.specs.Prelude.{IfOk, ◌==◌, is_none}
use Rattle.std.proofs.lemmas.Bool.Decides.{nat_tests}
use Rattle.std.specs.Option.{option_map_or}
use Rattle.std.specs.Fmt.{decimal}
use Rattle.std.specs.FinMap.{get, insert, remove}
use Rattle.node_base.specs.Path.{Name}
use Rattle.node_base.specs.Props.{PropMap, is_sync, without_sync}
use Rattle.node_base.specs.declared.refusal.Refusal.TheVariants as refusal_is
use Rattle.dump_load.specs.Trees.{effect_tree}
use Rattle.repo_core.specs.Repository.{Revision, trees_of, props_at}
use Rattle.sync_core.specs.Names.{url_name, merged_name, copying_name, lock_name}
use Rattle.sync_core.specs.Holding.{HasLock, TakesLock, known_by}
use Rattle.sync_core.specs.Jobs.{Job, CopyProps, Begun, Locked, Lawful, begun, refused_to}
use Rattle.sync_core.specs.Mirror.{Mirror, Call, Init, TakeLock, StealLock, ReleaseLock, SetCopying, Commit, PutProps, SetMerged, ClearCopying, Look, refusal, standing_of, accepted, revisions_by, holder_after, holds}
use Rattle.sync_core.specs.Mirror as mirror_reply
use Rattle.sync_core.specs.Moves.{numbers_of}
use Rattle.sync_core.specs.Plain.{reply_of}
use Rattle.sync_core.specs.declared.fault.SyncFault.{SyncFault}
use Rattle.sync_core.specs.declared.fault.SyncFault.TheVariants as fault
use Rattle.sync_core.specs.declared.reply.Reply.{Reply as Given}
use Rattle.sync_core.specs.declared.reply.Reply.TheVariants as given
use Rattle.sync_core.specs.declared.standing.Standing.{Standing}
use Rattle.sync_core.proofs.Lists.{slice_get-grown}
use Rattle.sync_core.proofs.Writes.{Differ, get-put_other, get-drop_other, url-copying, url-merged, lock-copying, lock-merged, is_sync-url, is_sync-lock}
use Rattle.sync_core.proofs.Revisions.{zeroth_of, none_written}
use Rattle.sync_core.proofs.Holder.{now0, put-same}
use Rattle.sync_core.proofs.Holding.{holder-is-alone, holder-stays, lock-is-given}
use Rattle.sync_core.proofs.Holding as law
use Rattle.sync_core.proofs.Kept.{no_need}
use Rattle.sync_core.proofs.Table.{meets}
use Rattle.sync_job.specs.Mirrors.{MirrorNow, mirror_in, Accepted, Doubted, Unchanged}
use Rattle.mirror_share.specs.Holding.{IsServed, job_after}
use Rattle.mirror_share.specs.Steps.{StepsShown, Shown, Hides, Stuck}
use Rattle.mirror_share.proofs.Holders.{after_accepted, others-leave-it, holder-is-served}
use Rattle.mirror_share.specs.Books.{IsCounted, IsLocked}
use Rattle.mirror_share.specs.Counts.{Counts, KnowsCounts, TellsCounts, counts_of, holder_count}
use Rattle.mirror_share.proofs.Counting.{same_numbers, same_counts}

abbrev pub IsSized : List Revision → Type 0
IsSized x = (0 < length x) × (length x ≤ 65536)

-- no cell is mended
pub unstuck : (before after : Bool) (m new : MirrorNow) (seat : ℕ) (call : Call) (result : Result Given SyncFault) → StepsShown before m seat call result after new → after ≡ false → before ≡ false
unstuck before after m new seat call result (Shown b a s) works = b
unstuck before after m new seat call result (Hides b a is i) works = b
unstuck before after m new seat call result (Stuck b a is same) works = let n : true ≡ false = sym a ∙ works in absurd (cc)

-- a seat that holds goes on holding behind all but an accepted release

after_other : (h : Option ℕ) (seat : ℕ) (call : Call) → call ≢ ReleaseLock → h ≡ Some seat → holder_after h seat call ≡ Some seat
after_other h seat (Init url uuid props) goes e = e
after_other h seat (TakeLock token) goes e = refl
after_other h seat (StealLock token) goes e = refl
after_other h seat ReleaseLock goes e = absurd (goes refl)
after_other h seat (SetCopying n) goes e = e
after_other h seat (Commit n set props) goes e = e
after_other h seat (PutProps n props) goes e = e
after_other h seat (SetMerged n) goes e = e
after_other h seat ClearCopying goes e = e
after_other h seat Look goes e = e

abbrev Holds : ℕ → Option ℕ → Type 0
Holds seat h = h ≡ Some seat

pub holds_on : (before after : Bool) (m new : MirrorNow) (seat : ℕ) (call : Call) (result : Result Given SyncFault) → call ≢ ReleaseLock → m.holder ≡ Some seat → StepsShown before m seat call result after new → new.holder ≡ Some seat
holds_on before after m new seat call result goes own (Shown b a (Accepted r is x)) = subst (Holds seat) (sym (ap (λ n. n.holder) x.mirror)) (after_other m.holder seat call goes own)
holds_on before after m new seat call result goes own (Shown b a (Doubted is d)) = subst (Holds seat) (sym (ap (λ n. n.holder) d.mirror)) own
holds_on before after m new seat call result goes own (Shown b a (Unchanged f is why same)) = subst (Holds seat) (sym (ap (λ n. n.holder) same)) own
holds_on before after m new seat call result goes own (Hides b a is i) = subst (Holds seat) (sym (ap (λ n. n.holder) i.mirror)) own
holds_on before after m new seat call result goes own (Stuck b a is same) = subst (Holds seat) (sym (ap (λ n. n.holder) same)) own

-- the lock that a seat takes is its own
abbrev pub TookLock : ℕ → Call → MirrorNow → Result Given SyncFault → Type 0
TookLock seat call new (Ok r) = TakesLock call → new.holder ≡ Some seat
TookLock seat call new (Err f) = Unit {0}

takes : (h : Option ℕ) (seat : ℕ) (call : Call) → TakesLock call → holder_after h seat call ≡ Some seat
takes h seat (TakeLock token) t = refl
takes h seat (StealLock token) t = refl
takes h seat (Init url uuid props) t = absurd t
takes h seat ReleaseLock t = absurd t
takes h seat (SetCopying n) t = absurd t
takes h seat (Commit n set props) t = absurd t
takes h seat (PutProps n props) t = absurd t
takes h seat (SetMerged n) t = absurd t
takes h seat ClearCopying t = absurd t
takes h seat Look t = absurd t

pub took_lock : (before after : Bool) (m new : MirrorNow) (seat : ℕ) (call : Call) (result : Result Given SyncFault) → StepsShown before m seat call result after new → TookLock seat call new result
took_lock before after m new seat call result (Shown b a (Accepted r is x)) = subst (TookLock seat call new) (sym is) (λ t. ap (λ n. n.holder) x.mirror ∙ takes m.holder seat call t)
took_lock before after m new seat call result (Shown b a (Doubted is d)) = subst (TookLock seat call new) (sym is) tt
took_lock before after m new seat call result (Shown b a (Unchanged f is why same)) = subst (TookLock seat call new) (sym is) tt
took_lock before after m new seat call result (Hides b a is i) = subst (TookLock seat call new) (sym is) tt
took_lock before after m new seat call result (Stuck b a is same) = subst (TookLock seat call new) (sym is) tt

-- the source and the lock stay behind an accepted call of a holder

abbrev at0 : List Revision → Name → Option Name
at0 x s = get (props_at x 0) s

grown0 : (x : List Revision) (r : Revision) → 0 < length x → props_at (x ++ r ∷ []) 0 ≡ props_at x 0
grown0 x r some = let f = zeroth_of x some in ap (λ v. option_map_or (λ (z : Revision). z.props) v none_written) (slice_get-grown x (r ∷ []) 0 f.0 f.1 ∙ sym f.1)

abbrev IsWork : Call → Type 0
IsWork (SetCopying n) = Unit {0}
IsWork (Commit n set props) = Unit {0}
IsWork (PutProps n props) = Unit {0}
IsWork (SetMerged n) = Unit {0}
IsWork ClearCopying = Unit {0}
IsWork Look = Unit {0}
IsWork _ = ⊥

stays : (x : List Revision) (call : Call) (s : Name) → IsWork call → 0 < length x → is_sync s ≡ true → Differ s copying_name → Differ s merged_name → at0 (revisions_by x call) s ≡ at0 x s
stays x (SetCopying n) s w some y c m = let p : PropMap = insert (props_at x 0) copying_name (decimal n) in ap (λ q. get q s) (now0 x p some) ∙ get-put_other (props_at x 0) copying_name (decimal n) s c
stays x (Commit n set props) s w some y c m = ap (λ q. get q s) (grown0 x (record { tree = effect_tree (trees_of x) set; props = without_sync props }) some)
stays x (PutProps n props) s w some y c m = put-same x n props s some y
stays x (SetMerged n) s w some y c m = let p : PropMap = insert (props_at x 0) merged_name (decimal n) in ap (λ q. get q s) (now0 x p some) ∙ get-put_other (props_at x 0) merged_name (decimal n) s m
stays x ClearCopying s w some y c m = let p : PropMap = remove (props_at x 0) copying_name in ap (λ q. get q s) (now0 x p some) ∙ get-drop_other (props_at x 0) copying_name s c
stays x Look s w some y c m = refl
stays x (Init url uuid props) s w some y c m = absurd w
stays x (TakeLock token) s w some y c m = absurd w
stays x (StealLock token) s w some y c m = absurd w
stays x ReleaseLock s w some y c m = absurd w

-- a job that has looked at nothing, and its lock
abbrev blank_job : Job
blank_job = record (begun (CopyProps [])) { stage = Locked }

abbrev Has : Mirror → Type 0
Has m = (is_some (standing_of m.revisions).url ≡ true) × (is_some (standing_of m.revisions).lock ≡ true)

work_keeps : (m : Mirror) (seat : ℕ) (call : Call) → IsWork call → IsSized m.revisions → Has m → Has (accepted m seat call)
work_keeps m seat call w s h = (
  ap is_some (stays m.revisions call url_name w s.0 is_sync-url url-copying url-merged) ∙ h.0,
  ap is_some (stays m.revisions call lock_name w s.0 is_sync-lock lock-copying lock-merged) ∙ h.1,
)

lock_given : (m : Mirror) (seat : ℕ) (call : Call) → TakesLock call → IsSized m.revisions → refusal m seat call ≡ None → Has (accepted m seat call)
lock_given m seat call t s free = let h = lock-is-given m seat (begun (CopyProps [])) call s.0 s.1 refl t free in (h.url, h.lock)

no_init : (m : Mirror) (seat : ℕ) (url uuid : List ℕ) (props : PropMap) → refusal m seat (Init url uuid props) ≡ None → Has m → {A : Type 0} → A
no_init m seat url uuid props free h =
    let n = meets (standing_of m.revisions) m.holder seat (Init url uuid props) (no_need m seat (Init url uuid props) free) in
    let e : is_some {T = List ℕ} None ≡ true = ap is_some (sym n.0) ∙ h.0 in absurd (cc)

accepted_keeps : (m : Mirror) (seat : ℕ) (call : Call) → IsSized m.revisions → (is_some m.holder ≡ true → Has m) → refusal m seat call ≡ None → is_some (holder_after m.holder seat call) ≡ true → Has (accepted m seat call)
accepted_keeps m seat (Init url uuid props) s has free held = no_init m seat url uuid props free (has held)
accepted_keeps m seat (TakeLock token) s has free held = lock_given m seat (TakeLock token) tt s free
accepted_keeps m seat (StealLock token) s has free held = lock_given m seat (StealLock token) tt s free
accepted_keeps m seat ReleaseLock s has free held = let n : is_some {T = ℕ} None ≡ true = held in absurd (cc)
accepted_keeps m seat (SetCopying n) s has free held = work_keeps m seat (SetCopying n) tt s (has held)
accepted_keeps m seat (Commit n set props) s has free held = work_keeps m seat (Commit n set props) tt s (has held)
accepted_keeps m seat (PutProps n props) s has free held = work_keeps m seat (PutProps n props) tt s (has held)
accepted_keeps m seat (SetMerged n) s has free held = work_keeps m seat (SetMerged n) tt s (has held)
accepted_keeps m seat ClearCopying s has free held = work_keeps m seat ClearCopying tt s (has held)
accepted_keeps m seat Look s has free held = work_keeps m seat Look tt s (has held)

abbrev HasIf : Mirror → Type 0
HasIf m = is_some m.holder ≡ true → Has m

keeps_has : (before after : Bool) (m new : MirrorNow) (seat : ℕ) (call : Call) (result : Result Given SyncFault) → IsSized m.repository.revisions → after ≡ false → HasIf (mirror_in m) → StepsShown before m seat call result after new → HasIf (mirror_in new)
keeps_has before after m new seat call result s works has (Shown b a (Accepted r is x)) =
    subst HasIf (sym (after_accepted m new seat call r x)) (accepted_keeps (mirror_in m) seat call s has x.free)
keeps_has before after m new seat call result s works has (Shown b a (Doubted is d)) = subst HasIf (sym (ap mirror_in d.mirror)) has
keeps_has before after m new seat call result s works has (Shown b a (Unchanged f is why same)) = subst HasIf (sym (ap mirror_in same)) has
keeps_has before after m new seat call result s works has (Hides b a is i) = let n : true ≡ false = sym a ∙ works in absurd (cc)
keeps_has before after m new seat call result s works has (Stuck b a is same) = let n : true ≡ false = sym a ∙ works in absurd (cc)

pub locked_after : (before after : Bool) (m new : MirrorNow) (seat : ℕ) (call : Call) (result : Result Given SyncFault) → IsSized m.repository.revisions → IsLocked before m.repository.revisions m.holder → StepsShown before m seat call result after new
    → IsLocked after new.repository.revisions new.holder
locked_after before after m new seat call result s l step = record {
  url = λ works held. (has works held).0;
  lock = λ works held. (has works held).1;
}
  where
    has : after ≡ false → HasIf (mirror_in new)
    has works = let w = unstuck before after m new seat call result step works in keeps_has before after m new seat call result s works (λ held. (l.url w held, l.lock w held)) step

-- another seat holds: nothing changes

held_by : (m : MirrorNow) (k : ℕ) → IsSized m.repository.revisions → m.holder ≡ Some k → Has (mirror_in m) → HasLock (mirror_in m) k blank_job
held_by m k s holder has = record {
  some = s.0;
  few = s.1;
  url = has.0;
  lock = has.1;
  holder = holder;
  locked = refl;
  numbers = λ l. (let n : false ≡ true = l in absurd (cc));
  blind = λ l. refl;
}

pub beside : (before after : Bool) (m new : MirrorNow) (seat k : ℕ) (call : Call) (result : Result Given SyncFault) → IsSized m.repository.revisions → IsLocked before m.repository.revisions m.holder → m.holder ≡ Some k → seat ≢ k
    → StepsShown before m seat call result after new → mirror_in new ≡ mirror_in m
beside before after m new seat k call result s l holder differs (Shown b a x) =
    let held = ap is_some holder in
    (others-leave-it holder-is-alone before after m new k seat blank_job call result (held_by m k s holder (l.url b held, l.lock b held)) differs (Shown b a x)).0
beside before after m new seat k call result s l holder differs (Hides b a is i) =
    let held = ap is_some holder in
    (others-leave-it holder-is-alone before after m new k seat blank_job call result (held_by m k s holder (l.url b held, l.lock b held)) differs (Hides b a is i)).0
beside before after m new seat k call result s l holder differs (Stuck b a is same) = ap mirror_in same

-- a seat that doesn't hold, where somebody holds
pub other_holds : (h : Option ℕ) (seat : ℕ) → is_none h ≡ false → holds h seat ≡ false → (k : ℕ) × (h ≡ Some k) × (seat ≢ k)
other_holds None seat a b = absurd (cc)
other_holds (Some k) seat a b = (k, refl, λ e. (let n : (k == seat) ≡ true = grind (arith, nat_tests) in absurd (cc)))

pub beside_held : (before after : Bool) (m new : MirrorNow) (seat : ℕ) (call : Call) (result : Result Given SyncFault) → IsSized m.repository.revisions → IsLocked before m.repository.revisions m.holder → is_none m.holder ≡ false → holds m.holder seat ≡ false
    → StepsShown before m seat call result after new → mirror_in new ≡ mirror_in m
beside_held before after m new seat call result s l a b step = let k = other_holds m.holder seat a b in beside before after m new seat k.0 call result s l k.1 k.2 step

-- the holder by its count
pub holder_by : (h : Option ℕ) (seat held : ℕ) → held ≡ holder_count h → held ≡ seat + 1 → h ≡ Some seat
holder_by None seat held a b = absurd (omega (arith, a, b))
holder_by (Some k) seat held a b = ap Some (omega (arith, a, b))

-- the holder

counted_numbers : (stuck : Bool) (x : List Revision) (h : Option ℕ) (k : Counts) (held : ℕ) → IsCounted stuck x h k held → stuck ≡ false → k ≡ counts_of (numbers_of (standing_of x))
counted_numbers stuck x h k held c works = same_counts k.merged _ k.copying _ k.head _ (c.merged works) (c.copying works) (c.head works)

has_lock : (stuck : Bool) (m : MirrorNow) (seat : ℕ) (job : Job) (k : Counts) (held : ℕ) → IsSized m.repository.revisions → IsLocked stuck m.repository.revisions m.holder → IsCounted stuck m.repository.revisions m.holder k held
    → m.holder ≡ Some seat → KnowsCounts job k → stuck ≡ false → HasLock (mirror_in m) seat job
has_lock stuck m seat job k held s l c holder knows works = record {
  some = s.0;
  few = s.1;
  url = l.url works (ap is_some holder);
  lock = l.lock works (ap is_some holder);
  holder = holder;
  locked = knows.locked;
  numbers = λ looked. same_numbers (known_by job) (numbers_of (standing_of m.repository.revisions)) (knows.counts looked ∙ counted_numbers stuck m.repository.revisions m.holder k held c works);
  blind = knows.blind;
}

-- a look tells what is counted
abbrev pub Tells : Counts → Result Given SyncFault → Type 0
Tells k result = IfOk result (λ (r : Given). TellsCounts k r)

told_reply : (m : MirrorNow) (call : Call) (k : Counts) (r : Given) → k ≡ counts_of (numbers_of (standing_of m.repository.revisions)) → reply_of r ≡ mirror_reply.granted (mirror_in m) call → TellsCounts k r
told_reply m call k given.Done e reply = tt
told_reply m Look k (given.Seen s) e reply = let same : s ≡ standing_of m.repository.revisions = cc in ap (λ (x : Standing). counts_of (numbers_of x)) same ∙ sym e
told_reply m (Init url uuid props) k (given.Seen s) e reply = absurd (cc)
told_reply m (TakeLock token) k (given.Seen s) e reply = absurd (cc)
told_reply m (StealLock token) k (given.Seen s) e reply = absurd (cc)
told_reply m ReleaseLock k (given.Seen s) e reply = absurd (cc)
told_reply m (SetCopying n) k (given.Seen s) e reply = absurd (cc)
told_reply m (Commit n set props) k (given.Seen s) e reply = absurd (cc)
told_reply m (PutProps n props) k (given.Seen s) e reply = absurd (cc)
told_reply m (SetMerged n) k (given.Seen s) e reply = absurd (cc)
told_reply m ClearCopying k (given.Seen s) e reply = absurd (cc)

pub tells : (before after : Bool) (m new : MirrorNow) (seat : ℕ) (call : Call) (result : Result Given SyncFault) (k : Counts) (held : ℕ) → IsCounted before m.repository.revisions m.holder k held → StepsShown before m seat call result after new → Tells k result
tells before after m new seat call result k held c (Shown b a (Accepted r is x)) = subst (Tells k) (sym is) (told_reply m call k r (counted_numbers before m.repository.revisions m.holder k held c b) x.reply)
tells before after m new seat call result k held c (Shown b a (Doubted is d)) = subst (Tells k) (sym is) tt
tells before after m new seat call result k held c (Shown b a (Unchanged f is why same)) = subst (Tells k) (sym is) tt
tells before after m new seat call result k held c (Hides b a is i) = subst (Tells k) (sym is) tt
tells before after m new seat call result k held c (Stuck b a is same) = subst (Tells k) (sym is) tt

-- a refusal for a cell (32) is none for the lock or the turn
failed_served : (job : Job) (result : Result Given SyncFault) → result ≡ Err (fault.Other refusal_is.Failed) → IsServed job result
failed_served job result is = subst (IsServed job) (sym is) (
  (λ n. (let x : fault.Other refusal_is.Failed ≡ fault.NotHolder = n in absurd (cc))),
  (λ n. (let x : fault.Other refusal_is.Failed ≡ fault.OutOfTurn = n in absurd (cc))),
)

pub served : (before after : Bool) (m new : MirrorNow) (seat : ℕ) (job : Job) (call : Call) (result : Result Given SyncFault) (k : Counts) (held : ℕ) → IsSized m.repository.revisions → IsLocked before m.repository.revisions m.holder
    → IsCounted before m.repository.revisions m.holder k held → m.holder ≡ Some seat → KnowsCounts job k → Lawful job call → StepsShown before m seat call result after new → IsServed job result
served before after m new seat job call result k held s l c holder knows lawful (Shown b a x) =
    (holder-is-served law.holder-is-served holder-stays before after m new seat job call result (has_lock before m seat job k held s l c holder knows b) lawful (Shown b a x)).0
served before after m new seat job call result k held s l c holder knows lawful (Hides b a is i) = failed_served job result is
served before after m new seat job call result k held s l c holder knows lawful (Stuck b a is same) = failed_served job result is

-- a job whose call is refused knows what it knew

pub begun_not : {A : Type 0} (job : Job) → job.stage ≡ Locked → job.stage ≡ Begun → A
begun_not job l b = let f : Locked ≡ Begun = sym l ∙ b in absurd (cc)

still_knows : (job : Job) (call : Call) (k : Counts) → KnowsCounts job k → Lawful job call → call ≢ ReleaseLock → KnowsCounts (refused_to job call) k
still_knows job (Init url uuid props) k knows lawful goes = begun_not job knows.locked lawful.begun
still_knows job (TakeLock token) k knows lawful goes = begun_not job knows.locked lawful.begun
still_knows job (StealLock token) k knows lawful goes = begun_not job knows.locked lawful.begun
still_knows job ReleaseLock k knows lawful goes = absurd (goes refl)
still_knows job (SetCopying n) k knows lawful goes = knows
still_knows job (Commit n set props) k knows lawful goes = knows
still_knows job (PutProps n props) k knows lawful goes = knows
still_knows job (SetMerged n) k knows lawful goes = knows
still_knows job ClearCopying k knows lawful goes = knows
still_knows job Look k knows lawful goes = knows

-- the hand behind a call: as it was where a cell refused its box, else what is counted then
pub goes_on : (before after : Bool) (m new : MirrorNow) (seat : ℕ) (job : Job) (call : Call) (result : Result Given SyncFault) (k k2 : Counts) (held held2 : ℕ) → IsSized m.repository.revisions → IsLocked before m.repository.revisions m.holder
    → IsCounted before m.repository.revisions m.holder k held → IsCounted after new.repository.revisions new.holder k2 held2 → (after ≡ true → k2 ≡ k)
    → m.holder ≡ Some seat → KnowsCounts job k → Lawful job call → call ≢ ReleaseLock → StepsShown before m seat call result after new → KnowsCounts (job_after job call result) k2
goes_on before after m new seat job call result k k2 held held2 s l c c2 same holder knows lawful goes (Shown b a x) =
    let h = (holder-is-served law.holder-is-served holder-stays before after m new seat job call result (has_lock before m seat job k held s l c holder knows b) lawful (Shown b a x)).1 goes a in
    record {
      locked = h.locked;
      counts = λ looked. ap counts_of (h.numbers looked) ∙ sym (counted_numbers after new.repository.revisions new.holder k2 held2 c2 a);
      blind = h.blind;
    }
goes_on before after m new seat job call result k k2 held held2 s l c c2 same holder knows lawful goes (Hides b a is i) =
    subst (λ r. KnowsCounts (job_after job call r) k2) (sym is) (subst (KnowsCounts (refused_to job call)) (sym (same a)) (still_knows job call k knows lawful goes))
goes_on before after m new seat job call result k k2 held held2 s l c c2 same holder knows lawful goes (Stuck b a is x) =
    subst (λ r. KnowsCounts (job_after job call r) k2) (sym is) (subst (KnowsCounts (refused_to job call)) (sym (same a)) (still_knows job call k knows lawful goes))
