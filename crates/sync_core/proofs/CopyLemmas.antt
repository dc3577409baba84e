-- The states of a job that copies properties again follow what it hears, and what it does there is lawful.
use Rattle.std.proofs.Common.{◌≡◌, ℕ, ◌+◌, ◌-◌, ◌≤◌, ◌==◌, nat_lt, nat_le, Bool, true, false, not, List, Option, Some, None, IfSome, is_none, is_some, if◌then◌else◌, refl, sym, ap, ◌∙◌, subst, arith}
use Rattle.std.proofs.lemmas.Bool.Decides.{nat_tests}
use Rattle.node_base.specs.Props.{PropMap}
use Rattle.sync_core.specs.declared.copy_job.CopyPhase.{CopyPhase}
use Rattle.sync_core.specs.declared.copy_job.CopyPhase.TheVariants as phase
use Rattle.sync_core.specs.declared.copy_job.CopyJob.{CopyJob}
use Rattle.sync_core.specs.declared.state.JobState.TheVariants as state
use Rattle.sync_core.specs.declared.fault.SyncFault.TheVariants as fault
use Rattle.sync_core.specs.declared.ending.Ending.{Ending}
use Rattle.sync_core.specs.declared.ending.Ending.TheVariants as ending
use Rattle.sync_core.specs.declared.answer.Answer.{Answer}
use Rattle.sync_core.specs.declared.answer.Answer.TheVariants as answer
use Rattle.sync_core.specs.declared.resting.Resting.{Resting}
use Rattle.sync_core.specs.declared.resting.Resting.TheVariants as resting
use Rattle.sync_core.specs.Names.{Number, Spelt, reaches}
use Rattle.sync_core.specs.Mirror.{Standing, HasShape, TakeLock, ReleaseLock, PutProps, Look}
use Rattle.sync_core.specs.Jobs.{Job, Locked, MayPutNumber, locks_with, with_fetched}
use Rattle.sync_core.specs.Deeds.{heard, called, IsLawfulDeed}
use Rattle.sync_core.specs.Faults.{inconsistent_as}
use Rattle.sync_core.specs.Shapes.{shape_in}
use Rattle.sync_core.specs.Identities.{is_identity}
use Rattle.sync_core.specs.Endings.{released}
use Rattle.sync_core.specs.States.{IsAskedFor}
use Rattle.sync_core.specs.CopyTable.{deed_in, next_deed, give_up, after_lock, after_look, begin, after_who, after_fetch_props, after_put, after_in, after}
use Rattle.sync_core.specs.CopyFollows.{IsCopying, HasMerged, EndsFrom, FollowsIn, FollowsCopy}
use Rattle.sync_core.proofs.ShapeLemmas.{shape_of_found, itself}
use Rattle.sync_core.proofs.Gives.{gives_map}

lock : (token : List ℕ) (job : Job) (low high : ℕ) (a : Answer) → FollowsIn token phase.Lock job low high → FollowsIn token (after_lock a) (called job (TakeLock token) a) low high
lock token job low high answer.Done f = (record { token = token; order = f.0 }, refl, f.2)
lock token job low high (answer.Seen r) f = tt
lock token job low high (answer.Identity u) f = tt
lock token job low high (answer.Latest n) f = tt
lock token job low high (answer.Revision set props) f = tt
lock token job low high (answer.Map props) f = tt
lock token job low high (answer.Refused x) f = tt
lock token job low high (answer.Failed x) f = tt

-- in each shape a number is merged
merged_in : (shape : Resting) (m c : Number) (h : ℕ) → HasShape shape m c h → (last : ℕ) × (m ≡ Spelt last)
merged_in resting.Idle m c h f = (h, f.0)
merged_in (resting.Copying n) m c h f = (h, f.0)
merged_in (resting.Committed n) m c h f = (f.2.0, f.2.1)
merged_in resting.Merged m c h f = (h, f.0)

looks : (token : List ℕ) (job : Job) (low high : ℕ) (s : Standing) → IsCopying job → job.stage ≡ Locked → job.put ≡ None → job.merged ≡ s.merged → (b : Bool) (o : Option Resting) → IfSome o (λ shape. HasShape shape s.merged s.copying s.head)
    → FollowsIn token (if b then give_up fault.NotInitialised else if is_some o then phase.Who s.merged s.uuid else give_up (inconsistent_as s)) job low high
looks token job low high s i l p m true o h = (l, tt)
looks token job low high s i l p m false None h = (l, tt)
looks token job low high s i l p m false (Some shape) h = (i, l, p, m, merged_in shape s.merged s.copying s.head h)

look : (token : List ℕ) (job : Job) (low high : ℕ) (a : Answer) → FollowsIn token phase.Look job low high → FollowsIn token (after_look a) (called job Look a) low high
look token job low high answer.Done f = (f.1, tt)
look token job low high (answer.Seen r) f =
    looks token (called job Look (answer.Seen r)) low high r (record { token = f.0.token; order = f.0.order }) f.1 f.2 refl (is_none r.url) (shape_in r.merged r.copying r.head) (shape_of_found r.merged r.copying r.head)
look token job low high (answer.Identity u) f = (f.1, tt)
look token job low high (answer.Latest n) f = (f.1, tt)
look token job low high (answer.Revision set props) f = (f.1, tt)
look token job low high (answer.Map props) f = (f.1, tt)
look token job low high (answer.Refused x) f = (f.1, tt)
look token job low high (answer.Failed x) f = (f.1, tt)

begins_at : (token : List ℕ) (job : Job) (low high : ℕ) → HasMerged job high → job.put ≡ None → (b : Bool) → nat_le low high ≡ b → FollowsIn token (if b then phase.FetchProps low else phase.Release ending.Fine) job low high
begins_at token job low high h p true e =
    record {
      has = h;
      from = omega arith;
      to = grind (arith, nat_tests, e);
      put = p ∙ sym (ap (λ (b : Bool). if b then None else Some (low - 1)) (itself low));
    }
begins_at token job low high h p false e = (h.locked, λ le. absurd (grind (arith, nat_tests, e, le)))

begins : (token : List ℕ) (job : Job) (low high : ℕ) (merged : Number) (last : ℕ) → IsCopying job → job.stage ≡ Locked → job.put ≡ None → job.merged ≡ merged → merged ≡ Spelt last → (b : Bool) → reaches merged high ≡ b
    → FollowsIn token (if not b then give_up (fault.NotYetCopied high) else if nat_le low high then phase.FetchProps low else phase.Release ending.Fine) job low high
begins token job low high merged last i l p m n false e = (l, tt)
begins token job low high merged last i l p m n true e =
    let t : nat_le high last ≡ true = sym (ap (λ x. reaches x high) n) ∙ e in
    begins_at token job low high (record { copying = i; locked = l; last = last; merged = m ∙ n; reached = grind (arith, nat_tests, t) }) p (nat_le low high) refl

who_found : (token : List ℕ) (job : Job) (low high : ℕ) (merged : Number) (last : ℕ) → IsCopying job → job.stage ≡ Locked → job.put ≡ None → job.merged ≡ merged → merged ≡ Spelt last → (b : Bool) → FollowsIn token (if b then begin low high merged else give_up fault.WrongMaster) job low high
who_found token job low high merged last i l p m n true = begins token job low high merged last i l p m n (reaches merged high) refl
who_found token job low high merged last i l p m n false = (l, tt)

who : (token : List ℕ) (merged : Number) (uuid : Option (List ℕ)) (job : Job) (low high t : ℕ) (a : Answer) → FollowsIn token (phase.Who merged uuid) job low high → FollowsIn token (after_who low high merged uuid a) (heard job t (deed_in token (phase.Who merged uuid)) a) low high
who token merged uuid job low high t answer.Done f = (f.1, tt)
who token merged uuid job low high t (answer.Seen r) f = (f.1, tt)
who token merged uuid job low high t (answer.Identity u) f = who_found token (record job { identity = Some u }) low high merged f.4.0 (record { token = f.0.token; order = f.0.order }) f.1 f.2 f.3 f.4.1 (is_identity uuid u)
who token merged uuid job low high t (answer.Latest n) f = (f.1, tt)
who token merged uuid job low high t (answer.Revision set props) f = (f.1, tt)
who token merged uuid job low high t (answer.Map props) f = (f.1, tt)
who token merged uuid job low high t (answer.Refused x) f = (f.1, tt)
who token merged uuid job low high t (answer.Failed x) f = (f.1, tt)

-- what is merged stays merged
has_more : (job more : Job) (high : ℕ) → job.order ≡ more.order → job.stage ≡ more.stage → job.merged ≡ more.merged → HasMerged job high → HasMerged more high
has_more job more high o s m h =
    record {
      copying = record { token = h.copying.token; order = sym o ∙ h.copying.order };
      locked = sym s ∙ h.locked;
      last = h.last;
      merged = sym m ∙ h.merged;
      reached = h.reached;
    }

fetch_props : (token : List ℕ) (n : ℕ) (job : Job) (low high t : ℕ) (a : Answer) → FollowsIn token (phase.FetchProps n) job low high → FollowsIn token (after_fetch_props n a) (heard job t (deed_in token (phase.FetchProps n)) a) low high
fetch_props token n job low high t answer.Done f = (f.has.locked, tt)
fetch_props token n job low high t (answer.Seen r) f = (f.has.locked, tt)
fetch_props token n job low high t (answer.Identity u) f = (f.has.locked, tt)
fetch_props token n job low high t (answer.Latest k) f = (f.has.locked, tt)
fetch_props token n job low high t (answer.Revision set props) f = (f.has.locked, tt)
fetch_props token n job low high t (answer.Map props) f =
    (record { has = has_more job (with_fetched job n None props t) high refl refl refl f.has; from = f.from; to = f.to; put = f.put }, gives_map job.fetched n None props t)
fetch_props token n job low high t (answer.Refused x) f = (f.has.locked, tt)
fetch_props token n job low high t (answer.Failed x) f = (f.has.locked, tt)

not_low : (low n : ℕ) → low ≤ n → (n + 1 == low) ≡ false
not_low low n h = grind (arith, nat_tests, h)

nexts : (token : List ℕ) (n : ℕ) (job : Job) (low high : ℕ) → HasMerged job high → low ≤ n → n ≤ high → job.put ≡ Some n → (b : Bool) → nat_lt n high ≡ b → FollowsIn token (if b then phase.FetchProps (n + 1) else phase.Release ending.Fine) job low high
nexts token n job low high h f t p true e =
    let last : n + 1 - 1 ≡ n = omega arith in
    record {
      has = h;
      from = omega (arith, f);
      to = grind (arith, nat_tests, e);
      put = p ∙ ap (λ (k : ℕ). Some k) (sym last) ∙ sym (ap (λ (b : Bool). if b then None else Some (n + 1 - 1)) (not_low low n f));
    }
nexts token n job low high h f t p false e =
    let same : n ≡ high = grind (arith, nat_tests, e, t) in
    (h.locked, λ _. p ∙ ap (λ (k : ℕ). Some k) same)

put : (token : List ℕ) (n : ℕ) (props : PropMap) (job : Job) (low high : ℕ) (a : Answer) → FollowsIn token (phase.Put n props) job low high → FollowsIn token (after_put high n a) (called job (PutProps n props) a) low high
put token n props job low high answer.Done f = nexts token n (record job { put = Some n }) low high (has_more job (record job { put = Some n }) high refl refl refl f.0.has) f.0.from f.0.to refl (nat_lt n high) refl
put token n props job low high (answer.Seen r) f = (f.0.has.locked, tt)
put token n props job low high (answer.Identity u) f = (f.0.has.locked, tt)
put token n props job low high (answer.Latest k) f = (f.0.has.locked, tt)
put token n props job low high (answer.Revision s p) f = (f.0.has.locked, tt)
put token n props job low high (answer.Map p) f = (f.0.has.locked, tt)
put token n props job low high (answer.Refused x) f = (f.0.has.locked, tt)
put token n props job low high (answer.Failed x) f = (f.0.has.locked, tt)

release : (e : Ending) (job : Job) (low high : ℕ) (a : Answer) → EndsFrom e job low high → EndsFrom (released e a) (called job ReleaseLock a) low high
release (ending.Refused x) job low high a f = tt
release ending.Fine job low high answer.Done f = f
release ending.Fine job low high (answer.Seen r) f = tt
release ending.Fine job low high (answer.Identity u) f = tt
release ending.Fine job low high (answer.Latest k) f = tt
release ending.Fine job low high (answer.Revision s p) f = tt
release ending.Fine job low high (answer.Map p) f = tt
release ending.Fine job low high (answer.Refused x) f = tt
release ending.Fine job low high (answer.Failed x) f = tt

follows_in : (token : List ℕ) (p : CopyPhase) (job : Job) (low high t : ℕ) (a : Answer) → FollowsIn token p job low high → FollowsIn token (after_in p low high a) (heard job t (deed_in token p) a) low high
follows_in token phase.Lock job low high t a f = lock token job low high a f
follows_in token phase.Look job low high t a f = look token job low high a f
follows_in token (phase.Who merged uuid) job low high t a f = who token merged uuid job low high t a f
follows_in token (phase.FetchProps n) job low high t a f = fetch_props token n job low high t a f
follows_in token (phase.Put n props) job low high t a f = put token n props job low high a f
follows_in token (phase.Release e) job low high t a f = release e job low high a f.1
follows_in token (phase.End e) job low high t a f = f

-- the state after an answer follows what the job has heard with it
pub follows_copy : (job : Job) (t : ℕ) (s : CopyJob) (a : Answer) → FollowsCopy job s → FollowsCopy (heard job t (next_deed s) a) (after s a)
follows_copy job t s a f = follows_in s.token s.phase job s.low s.high t a f

lawful_in : (token : List ℕ) (p : CopyPhase) (job : Job) (low high : ℕ) → FollowsIn token p job low high → IsLawfulDeed job (deed_in token p)
lawful_in token phase.Lock job low high f = record { begun = f.1; order = ap locks_with f.0 }
lawful_in token phase.Look job low high f = f.1
lawful_in token (phase.Who merged uuid) job low high f = tt
lawful_in token (phase.FetchProps n) job low high f = tt
lawful_in token (phase.Put n props) job low high f =
    let within : n ≤ f.0.has.last = omega (arith, f.0.to, f.0.has.reached) in
    record { locked = f.0.has.locked; number = subst (λ o. MayPutNumber o job n) (sym f.0.has.copying.order) (f.0.has.last, f.0.has.merged, within); gives = f.1 }
lawful_in token (phase.Release e) job low high f = f.0
lawful_in token (phase.End e) job low high f = tt

-- what the job does there is lawful
pub lawful_copy : (job : Job) (s : CopyJob) → FollowsCopy job s → IsLawfulDeed job (next_deed s)
lawful_copy job s f = lawful_in s.token s.phase job s.low s.high f

asked_in : (token : List ℕ) (p : CopyPhase) (job : Job) (low high : ℕ) → FollowsIn token p job low high → IsAskedFor (state.Copy (record { token = token; low = low; high = high; phase = p })) job (deed_in token p)
asked_in token phase.Lock job low high f = tt
asked_in token phase.Look job low high f = tt
asked_in token (phase.Who merged uuid) job low high f = tt
asked_in token (phase.FetchProps n) job low high f = (f.from, f.to)
asked_in token (phase.Put n props) job low high f = tt
asked_in token (phase.Release e) job low high f = tt
asked_in token (phase.End e) job low high f = tt

-- the properties that the job asks for are of a revision in its range
pub asked_copy : (job : Job) (s : CopyJob) → FollowsCopy job s → IsAskedFor (state.Copy s) job (next_deed s)
asked_copy job s f = asked_in s.token s.phase job s.low s.high f
