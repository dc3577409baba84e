-- A sync job's states follow what it hears, and what it does there is lawful.
use Rattle.std.proofs.Common.{◌≡◌, ℕ, ◌+◌, ◌<◌, ◌≤◌, nat_lt, ◌⊎◌, inl, inr, Bool, true, false, List, Option, Some, None, IfSome, is_none, if◌then◌else◌, refl, sym, ap, ◌∙◌, subst, arith}
use Rattle.std.specs.Option.{option_map_or}
use Rattle.std.proofs.lemmas.Bool.Decides.{nat_tests}
use Rattle.node_base.specs.Props.{PropMap}
use Rattle.dump_load.specs.declared.change.Change.{Change}
use Rattle.sync_core.specs.declared.sync_job.Known.{Known}
use Rattle.sync_core.specs.declared.sync_job.SyncPhase.{SyncPhase}
use Rattle.sync_core.specs.declared.sync_job.SyncPhase.TheVariants as phase
use Rattle.sync_core.specs.declared.sync_job.SyncJob.{SyncJob}
use Rattle.sync_core.specs.declared.fault.SyncFault.{SyncFault}
use Rattle.sync_core.specs.declared.fault.SyncFault.TheVariants as fault
use Rattle.sync_core.specs.declared.ending.Ending.{Ending}
use Rattle.sync_core.specs.declared.ending.Ending.TheVariants as ending
use Rattle.sync_core.specs.declared.answer.Answer.{Answer}
use Rattle.sync_core.specs.declared.answer.Answer.TheVariants as answer
use Rattle.sync_core.specs.declared.resting.Resting.{Resting}
use Rattle.sync_core.specs.declared.resting.Resting.TheVariants as resting
use Rattle.sync_core.specs.Names.{Number, Absent, Spelt, is_absent}
use Rattle.sync_core.specs.Mirror.{Standing, HasShape, ReleaseLock, SetCopying, Commit, PutProps, SetMerged, ClearCopying, Look}
use Rattle.sync_core.specs.Jobs.{Job, Locked, KnowsShape, MayPutNumber, is_sync_order, locks_with, with_fetched}
use Rattle.sync_core.specs.Deeds.{heard, called, IsLawfulDeed}
use Rattle.sync_core.specs.Faults.{inconsistent_as}
use Rattle.sync_core.specs.Shapes.{shape_in}
use Rattle.sync_core.specs.Identities.{is_identity}
use Rattle.sync_core.specs.Endings.{released}
use Rattle.sync_core.specs.SyncTable.{next_deed, lock_call, at, give_up, inconsistent, after_lock, seen, after_look, resumed, after_who, next, after_latest, after_set_copying, after_fetch, after_commit, after_fetch_props, after_put, after_merge, after_clear, after_in, after, deed_in}
use Rattle.sync_core.specs.declared.state.JobState.TheVariants as state
use Rattle.sync_core.specs.States.{IsAskedFor}
use Rattle.sync_core.specs.SyncFollows.{IsSync, Knows, IsIn, EndsFrom, FollowsIn, FollowsSync}
use Rattle.sync_core.proofs.ShapeLemmas.{shape_of_found}
use Rattle.sync_core.proofs.Gives.{gives_set, gives_map}

-- a state that gives up
lost : (job : Job) (known : Known) (f : SyncFault) → job.stage ≡ Locked → FollowsSync job (give_up known f)
lost job known f l = (l, tt)

lock : (steal : Bool) (token : List ℕ) (job : Job) (known : Known) (a : Answer) → FollowsIn (phase.Lock token steal) job known → FollowsSync (called job (lock_call token steal) a) (after_lock known a)
lock true token job known answer.Done f = (record { token = token; steal = true; order = f.0 }, refl, f.2)
lock false token job known answer.Done f = (record { token = token; steal = false; order = f.0 }, refl, f.2)
lock s token job known (answer.Seen r) f = tt
lock s token job known (answer.Identity u) f = tt
lock s token job known (answer.Latest n) f = tt
lock s token job known (answer.Revision set props) f = tt
lock s token job known (answer.Map props) f = tt
lock s token job known (answer.Refused x) f = tt
lock s token job known (answer.Failed x) f = tt

looks : (job : Job) (known : Known) (s : Standing) → Knows job known → (b : Bool) (o : Option Resting) → IfSome o (IsIn known) → FollowsSync job (if b then give_up known fault.NotInitialised else option_map_or (λ shape. at known (phase.Who shape s.uuid)) o (give_up known (inconsistent_as s)))
looks job known s k true o h = (k.locked, tt)
looks job known s k false None h = (k.locked, tt)
looks job known s k false (Some shape) h = (k, h)

look : (job : Job) (known : Known) (a : Answer) → FollowsIn phase.Look job known → FollowsSync (called job Look a) (after_look known a)
look job known answer.Done f = (f.1, tt)
look job known (answer.Seen r) f =
    looks (called job Look (answer.Seen r)) (seen known r) r
    (record { sync = record { token = f.0.token; steal = f.0.steal; order = f.0.order }; locked = f.1; merged = refl; copying = refl; head = refl; latest = f.2 })
    (is_none r.url) (shape_in r.merged r.copying r.head) (shape_of_found r.merged r.copying r.head)
look job known (answer.Identity u) f = (f.1, tt)
look job known (answer.Latest n) f = (f.1, tt)
look job known (answer.Revision set props) f = (f.1, tt)
look job known (answer.Map props) f = (f.1, tt)
look job known (answer.Refused x) f = (f.1, tt)
look job known (answer.Failed x) f = (f.1, tt)

-- the same, where a job has heard something else
same_sync : (job more : Job) → job.order ≡ more.order → IsSync job → IsSync more
same_sync job more e s = record { token = s.token; steal = s.steal; order = sym e ∙ s.order }

resumes : (job : Job) (known : Known) (shape : Resting) → Knows job known → IsIn known shape → FollowsSync job (at known (resumed shape known.head))
resumes job known resting.Idle k h = (k, inl h)
resumes job known (resting.Copying n) k h = (k, inr (n, h))
resumes job known (resting.Committed n) k h = (k, (h.0 ∙ ap Spelt h.1, refl, (h.2.0, h.2.1, sym h.1 ∙ h.2.2)))
resumes job known resting.Merged k h = (k, h)

who_found : (job : Job) (known : Known) (shape : Resting) → Knows job known → IsIn known shape → (b : Bool) → FollowsSync job (if b then at known (resumed shape known.head) else give_up known fault.WrongMaster)
who_found job known shape k h true = resumes job known shape k h
who_found job known shape k h false = (k.locked, tt)

who : (shape : Resting) (uuid : Option (List ℕ)) (job : Job) (known : Known) (t : ℕ) (a : Answer) → FollowsIn (phase.Who shape uuid) job known → FollowsSync (heard job t (deed_in (phase.Who shape uuid)) a) (after_who known shape uuid a)
who shape uuid job known t answer.Done f = (f.0.locked, tt)
who shape uuid job known t (answer.Seen r) f = (f.0.locked, tt)
who shape uuid job known t (answer.Identity u) f =
    who_found (record job { identity = Some u }) known shape
    (record { sync = same_sync job (record job { identity = Some u }) refl f.0.sync; locked = f.0.locked; merged = f.0.merged; copying = f.0.copying; head = f.0.head; latest = f.0.latest }) f.1 (is_identity uuid u)
who shape uuid job known t (answer.Latest n) f = (f.0.locked, tt)
who shape uuid job known t (answer.Revision set props) f = (f.0.locked, tt)
who shape uuid job known t (answer.Map props) f = (f.0.locked, tt)
who shape uuid job known t (answer.Refused x) f = (f.0.locked, tt)
who shape uuid job known t (answer.Failed x) f = (f.0.locked, tt)

-- the shape by the job's own numbers
fits : (job : Job) (known : Known) (shape : Resting) → Knows job known → IsIn known shape → HasShape shape job.merged job.copying job.head
fits job known shape k h =
    subst (λ m. HasShape shape m job.copying job.head) (sym k.merged)
    (subst (λ c. HasShape shape known.merged c job.head) (sym k.copying) (subst (λ n. HasShape shape known.merged known.copying n) (sym k.head) h))

next_idle : (job : Job) (known : Known) (n : ℕ) → Knows job known → IsIn known resting.Idle → known.latest ≡ Some n → (b : Bool) → nat_lt known.head n ≡ b → FollowsSync job (at known (if b then phase.SetCopying (known.head + 1) else phase.Release ending.Fine))
next_idle job known n k h l true e = (k, h, refl, (n, l, grind (arith, nat_tests, e)))
next_idle job known n k h l false e =
    let below : n ≤ known.head = grind (arith, nat_tests, e) in
    (k.locked, record { latest = n; told = k.latest ∙ l; idle = fits job known resting.Idle k h; all = subst (λ x. n ≤ x) (sym k.head) below })

next_copying : (job : Job) (known : Known) (m : ℕ) → Knows job known → IsIn known (resting.Copying m) → (b : Bool) → FollowsSync job (at known (if b then phase.Fetch (known.head + 1) else phase.Release (ending.Refused (inconsistent known))))
next_copying job known m k h true = (k, (h.0, h.1 ∙ ap Spelt h.2, refl))
next_copying job known m k h false = (k.locked, tt)

no_absent : {A : Type 0} (c : Number) (m : ℕ) → c ≡ Spelt m → is_absent c ≡ true → A
no_absent c m e t = absurd (let q = sym (ap is_absent e) ∙ t in cc)

absent : {A : Type 0} (c : Number) → c ≡ Absent → is_absent c ≡ false → A
absent c e t = absurd (let q = sym (ap is_absent e) ∙ t in cc)

nexts : (job : Job) (known : Known) (n : ℕ) → Knows job known → (IsIn known resting.Idle ⊎ ((m : ℕ) × IsIn known (resting.Copying m))) → known.latest ≡ Some n → (b : Bool) → is_absent known.copying ≡ b
    → FollowsSync job (at known (if b then (if nat_lt known.head n then phase.SetCopying (known.head + 1) else phase.Release ending.Fine) else (if nat_lt known.head 65535 then phase.Fetch (known.head + 1) else phase.Release (ending.Refused (inconsistent known)))))
nexts job known n k (inl h) l true e = next_idle job known n k h l (nat_lt known.head n) refl
nexts job known n k (inl h) l false e = absent known.copying h.1 e
nexts job known n k (inr h) l true e = no_absent known.copying h.0 h.1.1 e
nexts job known n k (inr h) l false e = next_copying job known h.0 k h.1 (nat_lt known.head 65535)

next_follows : (job : Job) (known : Known) (n : ℕ) → Knows job known → (IsIn known resting.Idle ⊎ ((m : ℕ) × IsIn known (resting.Copying m))) → known.latest ≡ Some n → FollowsSync job (at known (next known n))
next_follows job known n k h l = nexts job known n k h l (is_absent known.copying) refl

latest : (job : Job) (known : Known) (t : ℕ) (a : Answer) → FollowsIn phase.Latest job known → FollowsSync (heard job t (deed_in phase.Latest) a) (after_latest known a)
latest job known t answer.Done f = (f.0.locked, tt)
latest job known t (answer.Seen r) f = (f.0.locked, tt)
latest job known t (answer.Identity u) f = (f.0.locked, tt)
latest job known t (answer.Latest n) f =
    next_follows (record job { latest = Some n }) (record known { latest = Some n }) n
    (record { sync = same_sync job (record job { latest = Some n }) refl f.0.sync; locked = f.0.locked; merged = f.0.merged; copying = f.0.copying; head = f.0.head; latest = refl }) f.1 refl
latest job known t (answer.Revision set props) f = (f.0.locked, tt)
latest job known t (answer.Map props) f = (f.0.locked, tt)
latest job known t (answer.Refused x) f = (f.0.locked, tt)
latest job known t (answer.Failed x) f = (f.0.locked, tt)

set_copying : (n : ℕ) (job : Job) (known : Known) (a : Answer) → FollowsIn (phase.SetCopying n) job known → FollowsSync (called job (SetCopying n) a) (after_set_copying known n a)
set_copying n job known answer.Done f =
    (record { sync = same_sync job (record job { copying = Spelt n }) refl f.0.sync; locked = f.0.locked; merged = f.0.merged; copying = refl; head = f.0.head; latest = f.0.latest }, (f.1.0, refl, f.2))
set_copying n job known (answer.Seen r) f = (f.0.locked, tt)
set_copying n job known (answer.Identity u) f = (f.0.locked, tt)
set_copying n job known (answer.Latest k) f = (f.0.locked, tt)
set_copying n job known (answer.Revision set props) f = (f.0.locked, tt)
set_copying n job known (answer.Map props) f = (f.0.locked, tt)
set_copying n job known (answer.Refused x) f = (f.0.locked, tt)
set_copying n job known (answer.Failed x) f = (f.0.locked, tt)

-- what a job knows stays where something more was fetched
fetched_more : (job : Job) (known : Known) (n : ℕ) (set : Option (List Change)) (props : PropMap) (t : ℕ) → Knows job known → Knows (with_fetched job n set props t) known
fetched_more job known n set props t k =
    record { sync = same_sync job (with_fetched job n set props t) refl k.sync; locked = k.locked; merged = k.merged; copying = k.copying; head = k.head; latest = k.latest }

fetch : (n : ℕ) (job : Job) (known : Known) (t : ℕ) (a : Answer) → FollowsIn (phase.Fetch n) job known → FollowsSync (heard job t (deed_in (phase.Fetch n)) a) (after_fetch known n a)
fetch n job known t answer.Done f = (f.0.locked, tt)
fetch n job known t (answer.Seen r) f = (f.0.locked, tt)
fetch n job known t (answer.Identity u) f = (f.0.locked, tt)
fetch n job known t (answer.Latest k) f = (f.0.locked, tt)
fetch n job known t (answer.Revision set props) f = (fetched_more job known n (Some set) props t f.0, f.1, gives_set job.fetched n set props t)
fetch n job known t (answer.Map props) f = (f.0.locked, tt)
fetch n job known t (answer.Refused x) f = (f.0.locked, tt)
fetch n job known t (answer.Failed x) f = (f.0.locked, tt)

commit : (n : ℕ) (set : List Change) (props : PropMap) (job : Job) (known : Known) (a : Answer) → FollowsIn (phase.Commit n set props) job known → FollowsSync (called job (Commit n set props) a) (after_commit known n a)
commit n set props job known answer.Done f =
    (record { sync = same_sync job (record job { head = n }) refl f.0.sync; locked = f.0.locked; merged = f.0.merged; copying = f.0.copying; head = refl; latest = f.0.latest }, (f.1.1, refl, (known.head, f.1.0, f.1.2)))
commit n set props job known (answer.Seen r) f = (f.0.locked, tt)
commit n set props job known (answer.Identity u) f = (f.0.locked, tt)
commit n set props job known (answer.Latest k) f = (f.0.locked, tt)
commit n set props job known (answer.Revision s p) f = (f.0.locked, tt)
commit n set props job known (answer.Map p) f = (f.0.locked, tt)
commit n set props job known (answer.Refused x) f = (f.0.locked, tt)
commit n set props job known (answer.Failed x) f = (f.0.locked, tt)

fetch_props : (n : ℕ) (job : Job) (known : Known) (t : ℕ) (a : Answer) → FollowsIn (phase.FetchProps n) job known → FollowsSync (heard job t (deed_in (phase.FetchProps n)) a) (after_fetch_props known n a)
fetch_props n job known t answer.Done f = (f.0.locked, tt)
fetch_props n job known t (answer.Seen r) f = (f.0.locked, tt)
fetch_props n job known t (answer.Identity u) f = (f.0.locked, tt)
fetch_props n job known t (answer.Latest k) f = (f.0.locked, tt)
fetch_props n job known t (answer.Revision set props) f = (f.0.locked, tt)
fetch_props n job known t (answer.Map props) f = (fetched_more job known n None props t f.0, f.1, gives_map job.fetched n None props t)
fetch_props n job known t (answer.Refused x) f = (f.0.locked, tt)
fetch_props n job known t (answer.Failed x) f = (f.0.locked, tt)

put : (n : ℕ) (props : PropMap) (job : Job) (known : Known) (a : Answer) → FollowsIn (phase.Put n props) job known → FollowsSync (called job (PutProps n props) a) (after_put known n a)
put n props job known answer.Done f =
    (record { sync = same_sync job (record job { put = Some n }) refl f.0.sync; locked = f.0.locked; merged = f.0.merged; copying = f.0.copying; head = f.0.head; latest = f.0.latest }, f.1, refl)
put n props job known (answer.Seen r) f = (f.0.locked, tt)
put n props job known (answer.Identity u) f = (f.0.locked, tt)
put n props job known (answer.Latest k) f = (f.0.locked, tt)
put n props job known (answer.Revision s p) f = (f.0.locked, tt)
put n props job known (answer.Map p) f = (f.0.locked, tt)
put n props job known (answer.Refused x) f = (f.0.locked, tt)
put n props job known (answer.Failed x) f = (f.0.locked, tt)

merge : (n : ℕ) (job : Job) (known : Known) (a : Answer) → FollowsIn (phase.Merge n) job known → FollowsSync (called job (SetMerged n) a) (after_merge known n a)
merge n job known answer.Done f =
    (record { sync = same_sync job (record job { merged = Spelt n }) refl f.0.sync; locked = f.0.locked; merged = refl; copying = f.0.copying; head = f.0.head; latest = f.0.latest }, (ap Spelt f.1.1, f.1.0 ∙ ap Spelt f.1.1))
merge n job known (answer.Seen r) f = (f.0.locked, tt)
merge n job known (answer.Identity u) f = (f.0.locked, tt)
merge n job known (answer.Latest k) f = (f.0.locked, tt)
merge n job known (answer.Revision s p) f = (f.0.locked, tt)
merge n job known (answer.Map p) f = (f.0.locked, tt)
merge n job known (answer.Refused x) f = (f.0.locked, tt)
merge n job known (answer.Failed x) f = (f.0.locked, tt)

clears : (job : Job) (known : Known) → Knows job known → IsIn known resting.Idle → (o : Option ℕ) → known.latest ≡ o → FollowsSync job (option_map_or (λ n. at known (next known n)) o (at known phase.Latest))
clears job known k h None e = (k, inl h)
clears job known k h (Some n) e = next_follows job known n k (inl h) e

clear : (job : Job) (known : Known) (a : Answer) → FollowsIn phase.Clear job known → FollowsSync (called job ClearCopying a) (after_clear known a)
clear job known answer.Done f =
    clears (record job { copying = Absent }) (record known { copying = Absent })
    (record { sync = same_sync job (record job { copying = Absent }) refl f.0.sync; locked = f.0.locked; merged = f.0.merged; copying = refl; head = f.0.head; latest = f.0.latest }) (f.1.0, refl) known.latest refl
clear job known (answer.Seen r) f = (f.0.locked, tt)
clear job known (answer.Identity u) f = (f.0.locked, tt)
clear job known (answer.Latest k) f = (f.0.locked, tt)
clear job known (answer.Revision s p) f = (f.0.locked, tt)
clear job known (answer.Map p) f = (f.0.locked, tt)
clear job known (answer.Refused x) f = (f.0.locked, tt)
clear job known (answer.Failed x) f = (f.0.locked, tt)

release : (e : Ending) (job : Job) (a : Answer) → EndsFrom e job → EndsFrom (released e a) (called job ReleaseLock a)
release (ending.Refused x) job a f = tt
release ending.Fine job answer.Done f = record { latest = f.latest; told = f.told; idle = f.idle; all = f.all }
release ending.Fine job (answer.Seen r) f = tt
release ending.Fine job (answer.Identity u) f = tt
release ending.Fine job (answer.Latest k) f = tt
release ending.Fine job (answer.Revision s p) f = tt
release ending.Fine job (answer.Map p) f = tt
release ending.Fine job (answer.Refused x) f = tt
release ending.Fine job (answer.Failed x) f = tt

follows_in : (p : SyncPhase) (job : Job) (t : ℕ) (known : Known) (a : Answer) → FollowsIn p job known → FollowsSync (heard job t (deed_in p) a) (after_in p known a)
follows_in (phase.Lock token steal) job t known a f = lock steal token job known a f
follows_in phase.Look job t known a f = look job known a f
follows_in (phase.Who shape uuid) job t known a f = who shape uuid job known t a f
follows_in phase.Latest job t known a f = latest job known t a f
follows_in (phase.SetCopying n) job t known a f = set_copying n job known a f
follows_in (phase.Fetch n) job t known a f = fetch n job known t a f
follows_in (phase.Commit n set props) job t known a f = commit n set props job known a f
follows_in (phase.FetchProps n) job t known a f = fetch_props n job known t a f
follows_in (phase.Put n props) job t known a f = put n props job known a f
follows_in (phase.Merge n) job t known a f = merge n job known a f
follows_in phase.Clear job t known a f = clear job known a f
follows_in (phase.Release e) job t known a f = release e job a f.1
follows_in (phase.End e) job t known a f = f

-- the state after an answer follows what the job has heard with it
pub follows_sync : (job : Job) (t : ℕ) (s : SyncJob) (a : Answer) → FollowsSync job s → FollowsSync (heard job t (next_deed s) a) (after s a)
follows_sync job t s a f = follows_in s.phase job t s.known a f

is_sync : (job : Job) → IsSync job → is_sync_order job.order ≡ true
is_sync job s = ap is_sync_order s.order

knows : (job : Job) (known : Known) (shape : Resting) → Knows job known → IsIn known shape → KnowsShape job shape
knows job known shape k h = record { locked = k.locked; fits = fits job known shape k h }

lawful_lock : (steal : Bool) (token : List ℕ) (job : Job) (known : Known) → FollowsIn (phase.Lock token steal) job known → IsLawfulDeed job (deed_in (phase.Lock token steal))
lawful_lock true token job known f = record { begun = f.1; order = ap locks_with f.0 }
lawful_lock false token job known f = record { begun = f.1; order = ap locks_with f.0 }

lawful_in : (p : SyncPhase) (job : Job) (known : Known) → FollowsIn p job known → IsLawfulDeed job (deed_in p)
lawful_in (phase.Lock token steal) job known f = lawful_lock steal token job known f
lawful_in phase.Look job known f = f.1
lawful_in (phase.Who shape uuid) job known f = tt
lawful_in phase.Latest job known f = tt
lawful_in (phase.SetCopying n) job known f =
    record {
      sync = is_sync job f.0.sync;
      idle = knows job known resting.Idle f.0 f.1;
      next = f.2 ∙ ap (λ h. h + 1) (sym f.0.head);
      latest = f.3.0;
      told = f.0.latest ∙ f.3.1;
      more = subst (λ h. h < f.3.0) (sym f.0.head) f.3.2;
    }
lawful_in (phase.Fetch n) job known f = tt
lawful_in (phase.Commit n set props) job known f = record { sync = is_sync job f.0.sync; copying = knows job known (resting.Copying n) f.0 f.1; gives = f.2 }
lawful_in (phase.FetchProps n) job known f = tt
lawful_in (phase.Put n props) job known f =
    record {
      locked = f.0.locked;
      number = subst (λ o. MayPutNumber o job n) (sym f.0.sync.order) (fits job known (resting.Committed n) f.0 f.1);
      gives = f.2;
    }
lawful_in (phase.Merge n) job known f = record { sync = is_sync job f.0.sync; committed = knows job known (resting.Committed n) f.0 f.1; own_put = f.2 }
lawful_in phase.Clear job known f = record { sync = is_sync job f.0.sync; merged = knows job known resting.Merged f.0 f.1 }
lawful_in (phase.Release e) job known f = f.0
lawful_in (phase.End e) job known f = tt

-- what the job does there is lawful
pub lawful_sync : (job : Job) (s : SyncJob) → FollowsSync job s → IsLawfulDeed job (next_deed s)
lawful_sync job s f = lawful_in s.phase job s.known f

asked_in : (p : SyncPhase) (job : Job) (known : Known) → FollowsIn p job known → IsAskedFor (state.Sync (at known p)) job (deed_in p)
asked_in (phase.Lock token steal) job known f = tt
asked_in phase.Look job known f = tt
asked_in (phase.Who shape uuid) job known f = tt
asked_in phase.Latest job known f = f.0.locked
asked_in (phase.SetCopying n) job known f = tt
asked_in (phase.Fetch n) job known f = f.0.copying ∙ f.1.1
asked_in (phase.Commit n set props) job known f = tt
asked_in (phase.FetchProps n) job known f = f.0.copying ∙ f.1.0
asked_in (phase.Put n props) job known f = tt
asked_in (phase.Merge n) job known f = tt
asked_in phase.Clear job known f = tt
asked_in (phase.Release e) job known f = tt
asked_in (phase.End e) job known f = tt

-- a revision that the job asks for is the one that is being copied
pub asked_sync : (job : Job) (s : SyncJob) → FollowsSync job s → IsAskedFor (state.Sync s) job (next_deed s)
asked_sync job s f = asked_in s.phase job s.known f
