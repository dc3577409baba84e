-- What holds through the rounds of a run.
use Rattle.std.proofs.Common.{◌≡◌, ◌⊎◌, inl, inr, ℕ, List, [], ◌∷◌, ◌++◌, map, Some, refl, sym, ap, subst, ◌∙◌}
use Rattle.std.proofs.lemmas.List.{append-nil, append_assoc}
use Rattle.sync_core.specs.declared.answer.Answer.{Answer}
use Rattle.sync_core.specs.declared.answer.Answer.TheVariants as answer
use Rattle.sync_core.specs.declared.fault.SyncFault.{SyncFault}
use Rattle.sync_core.specs.declared.fault.SyncFault.TheVariants as fault
use Rattle.sync_core.specs.declared.ending.Ending.{Ending}
use Rattle.sync_core.specs.declared.ending.Ending.TheVariants as ending
use Rattle.sync_core.specs.declared.state.JobState.{JobState}
use Rattle.sync_core.specs.declared.state.JobState.TheVariants as state
use Rattle.sync_core.specs.declared.init_job.InitPhase.{InitPhase}
use Rattle.sync_core.specs.declared.init_job.InitPhase.TheVariants as initial
use Rattle.sync_core.specs.declared.sync_job.Known.{Known}
use Rattle.sync_core.specs.declared.sync_job.SyncPhase.{SyncPhase}
use Rattle.sync_core.specs.declared.sync_job.SyncPhase.TheVariants as phase
use Rattle.sync_core.specs.declared.copy_job.CopyPhase.{CopyPhase}
use Rattle.sync_core.specs.declared.copy_job.CopyPhase.TheVariants as copying
use Rattle.sync_core.specs.Jobs.{Job}
use Rattle.sync_core.specs.Deeds.{Deed, Calls, AsksIdentity, AsksLatest, Fetches, FetchesProps, Ends, heard}
use Rattle.sync_core.specs.States.{deed_in, after, ending_of, Follows, IsNumberOf}
use Rattle.sync_core.specs.InitTable as init_table
use Rattle.sync_core.specs.SyncTable as sync_table
use Rattle.sync_core.specs.CopyTable as copy_table
use Rattle.sync_core.specs.InitFollows as init_follows
use Rattle.sync_core.specs.SyncFollows as sync_follows
use Rattle.sync_core.specs.CopyFollows as copy_follows
use Rattle.sync_core.specs.Going.{DoesWhatItMay, AsksWhatItMay, FollowsOn, StaysEnded}
use Rattle.sync_core.specs.States.{IsAskedFor}
use Rattle.sync_job.specs.declared.report.Told.{Told}
use Rattle.sync_core.specs.Copies.{outcome_of}
use Rattle.sync_job.specs.Kept.{refused_as}
use Rattle.sync_job.specs.Said.{Spoken, NoTree, Tells, told_by, made, Fits, IsRound, Done, Lacking, Treeless}
use Rattle.sync_job.specs.Runs.{Round, said_by, Goes, answer_of, hears, hears_all, IsAsked, AreRight}

-- what the core's laws say of its jobs
pub record Laws : Type 0 where
  pub lawful : DoesWhatItMay
  pub asked : AsksWhatItMay
  pub follows : FollowsOn
  pub ended : StaysEnded

-- what each round keeps holds at the end
pub carry : (P : JobState → List Spoken → Type 0) → ((s : JobState) (es : List Spoken) (a : Answer) (more : List Spoken) → P s es → IsRound (deed_in s) a more → P (after s a) (es ++ more)) → (s t : JobState) (rs : List Round) (es : List Spoken) → Goes s rs t → P s es → P t (es ++ said_by rs)
carry P step s t [] es g p = subst (λ x. P x (es ++ [])) (sym g) (subst (λ x. P s x) (sym (append-nil es)) p)
carry P step s t (r ∷ rs) es g p = subst (λ x. P t x) (append_assoc es r.more (said_by rs)) (carry P step (after s r.answer) t rs (es ++ r.more) g.1 (step s es r.answer r.more p g.0))

-- an answer that is told tells the job the same
same_heard : (job : Job) (d : Deed) (a : Answer) → Fits d a → heard job 0 d (answer_of (outcome_of a)) ≡ heard job 0 d a
same_heard job (Calls c) answer.Done h = refl
same_heard job (Calls c) (answer.Seen x) h = refl
same_heard job (Calls c) (answer.Identity x) h = absurd h
same_heard job (Calls c) (answer.Latest x) h = absurd h
same_heard job (Calls c) (answer.Revision x y) h = absurd h
same_heard job (Calls c) (answer.Map x) h = absurd h
same_heard job (Calls c) (answer.Refused x) h = refl
same_heard job (Calls c) (answer.Failed x) h = absurd h
same_heard job AsksIdentity answer.Done h = absurd h
same_heard job AsksIdentity (answer.Seen x) h = absurd h
same_heard job AsksIdentity (answer.Identity x) h = refl
same_heard job AsksIdentity (answer.Latest x) h = absurd h
same_heard job AsksIdentity (answer.Revision x y) h = absurd h
same_heard job AsksIdentity (answer.Map x) h = absurd h
same_heard job AsksIdentity (answer.Refused x) h = refl
same_heard job AsksIdentity (answer.Failed x) h = refl
same_heard job AsksLatest answer.Done h = absurd h
same_heard job AsksLatest (answer.Seen x) h = absurd h
same_heard job AsksLatest (answer.Identity x) h = absurd h
same_heard job AsksLatest (answer.Latest x) h = refl
same_heard job AsksLatest (answer.Revision x y) h = absurd h
same_heard job AsksLatest (answer.Map x) h = absurd h
same_heard job AsksLatest (answer.Refused x) h = refl
same_heard job AsksLatest (answer.Failed x) h = refl
same_heard job (Fetches n) answer.Done h = absurd h
same_heard job (Fetches n) (answer.Seen x) h = absurd h
same_heard job (Fetches n) (answer.Identity x) h = absurd h
same_heard job (Fetches n) (answer.Latest x) h = absurd h
same_heard job (Fetches n) (answer.Revision x y) h = refl
same_heard job (Fetches n) (answer.Map x) h = absurd h
same_heard job (Fetches n) (answer.Refused x) h = refl
same_heard job (Fetches n) (answer.Failed x) h = refl
same_heard job (FetchesProps n) answer.Done h = absurd h
same_heard job (FetchesProps n) (answer.Seen x) h = absurd h
same_heard job (FetchesProps n) (answer.Identity x) h = absurd h
same_heard job (FetchesProps n) (answer.Latest x) h = absurd h
same_heard job (FetchesProps n) (answer.Revision x y) h = absurd h
same_heard job (FetchesProps n) (answer.Map x) h = refl
same_heard job (FetchesProps n) (answer.Refused x) h = refl
same_heard job (FetchesProps n) (answer.Failed x) h = refl
same_heard job Ends answer.Done h = absurd h
same_heard job Ends (answer.Seen x) h = absurd h
same_heard job Ends (answer.Identity x) h = absurd h
same_heard job Ends (answer.Latest x) h = absurd h
same_heard job Ends (answer.Revision x y) h = absurd h
same_heard job Ends (answer.Map x) h = absurd h
same_heard job Ends (answer.Refused x) h = absurd h
same_heard job Ends (answer.Failed x) h = absurd h

pub hears_append : (job : Job) (xs ys : List Spoken) → hears_all job (xs ++ ys) ≡ hears_all (hears_all job xs) ys
hears_append job [] ys = refl
hears_append job (x ∷ xs) ys = hears_append (hears job x) xs ys

hears_tells : (job : Job) (ts : List Told) → hears_all job (map Tells ts) ≡ job
hears_tells job [] = refl
hears_tells job (t ∷ ts) = hears_tells job ts

-- what a job has heard once a deed is done
pub heard_round : (job : Job) (es : List Spoken) (d : Deed) (a : Answer) → Fits d a → hears_all job (es ++ made d a) ≡ heard (hears_all job es) 0 d a
heard_round job es d a fits =
    hears_append job es (made d a) ∙ hears_tells (heard (hears_all job es) 0 d (answer_of (outcome_of a))) (told_by d a) ∙ same_heard (hears_all job es) d a fits

right_append : (N : Job → ℕ → Type 0) (job : Job) (xs ys : List Spoken) → AreRight N job xs → AreRight N (hears_all job xs) ys → AreRight N job (xs ++ ys)
right_append N job [] ys p q = q
right_append N job (x ∷ xs) ys p q = (p.0, right_append N (hears job x) xs ys p.1 q)

right_tells : (N : Job → ℕ → Type 0) (job : Job) (ts : List Told) → AreRight N job (map Tells ts)
right_tells N job [] = tt
right_tells N job (t ∷ ts) = (tt, right_tells N job ts)

-- a job that has ended with a refusal
abbrev pub EndsRefused : JobState → Type 0
EndsRefused s = (f : SyncFault) × (ending_of s ≡ Some (ending.Refused f))

init_lacks : (p : InitPhase) (url : List ℕ) (job : Job) (f : SyncFault) → init_follows.FollowsIn p job url → init_follows.FollowsIn (init_table.after_in p (answer.Refused f)) job url ⊎ ((x : SyncFault) × (init_table.ending_in (init_table.after_in p (answer.Refused f)) ≡ Some (ending.Refused x)))
init_lacks initial.Who url job f h = inr (f, refl)
init_lacks (initial.FetchProps u) url job f h = inr (f, refl)
init_lacks (initial.Init u props) url job f h = inr (f, refl)
init_lacks (initial.End e) url job f h = inl h

sync_lacks : Laws → (p : SyncPhase) (k : Known) (job : Job) (f : SyncFault) → sync_follows.FollowsIn p job k → sync_follows.FollowsSync job (sync_table.after (sync_table.at k p) (answer.Refused f)) ⊎ ((x : SyncFault) × (sync_table.ending_of (sync_table.after (sync_table.at k p) (answer.Refused f)) ≡ Some (ending.Refused x)))
sync_lacks laws (phase.Lock token steal) k job f h = inr (f, refl)
sync_lacks laws (phase.Release ending.Fine) k job f h = inr (f, refl)
sync_lacks laws (phase.Release (ending.Refused x)) k job f h = inr (x, refl)
sync_lacks laws (phase.End e) k job f h = inl h
sync_lacks laws phase.Look k job f h = inl (laws.follows job 0 (state.Sync (sync_table.at k phase.Look)) (answer.Refused f) h)
sync_lacks laws (phase.Who shape uuid) k job f h = inl (laws.follows job 0 (state.Sync (sync_table.at k (phase.Who shape uuid))) (answer.Refused f) h)
sync_lacks laws phase.Latest k job f h = inl (laws.follows job 0 (state.Sync (sync_table.at k phase.Latest)) (answer.Refused f) h)
sync_lacks laws (phase.SetCopying n) k job f h = inl (laws.follows job 0 (state.Sync (sync_table.at k (phase.SetCopying n))) (answer.Refused f) h)
sync_lacks laws (phase.Fetch n) k job f h = inl (laws.follows job 0 (state.Sync (sync_table.at k (phase.Fetch n))) (answer.Refused f) h)
sync_lacks laws (phase.Commit n set props) k job f h = inl (laws.follows job 0 (state.Sync (sync_table.at k (phase.Commit n set props))) (answer.Refused f) h)
sync_lacks laws (phase.FetchProps n) k job f h = inl (laws.follows job 0 (state.Sync (sync_table.at k (phase.FetchProps n))) (answer.Refused f) h)
sync_lacks laws (phase.Put n props) k job f h = inl (laws.follows job 0 (state.Sync (sync_table.at k (phase.Put n props))) (answer.Refused f) h)
sync_lacks laws (phase.Merge n) k job f h = inl (laws.follows job 0 (state.Sync (sync_table.at k (phase.Merge n))) (answer.Refused f) h)
sync_lacks laws phase.Clear k job f h = inl (laws.follows job 0 (state.Sync (sync_table.at k phase.Clear)) (answer.Refused f) h)

copy_lacks : Laws → (token : List ℕ) (p : CopyPhase) (low high : ℕ) (job : Job) (f : SyncFault) → copy_follows.FollowsIn token p job low high → copy_follows.FollowsIn token (copy_table.after_in p low high (answer.Refused f)) job low high ⊎ ((x : SyncFault) × (copy_table.ending_in (copy_table.after_in p low high (answer.Refused f)) ≡ Some (ending.Refused x)))
copy_lacks laws token copying.Lock low high job f h = inr (f, refl)
copy_lacks laws token (copying.Release ending.Fine) low high job f h = inr (f, refl)
copy_lacks laws token (copying.Release (ending.Refused x)) low high job f h = inr (x, refl)
copy_lacks laws token (copying.End e) low high job f h = inl h
copy_lacks laws token copying.Look low high job f h = inl (laws.follows job 0 (state.Copy (record { token = token; low = low; high = high; phase = copying.Look })) (answer.Refused f) h)
copy_lacks laws token (copying.Who m uuid) low high job f h = inl (laws.follows job 0 (state.Copy (record { token = token; low = low; high = high; phase = copying.Who m uuid })) (answer.Refused f) h)
copy_lacks laws token (copying.FetchProps n) low high job f h = inl (laws.follows job 0 (state.Copy (record { token = token; low = low; high = high; phase = copying.FetchProps n })) (answer.Refused f) h)
copy_lacks laws token (copying.Put n props) low high job f h = inl (laws.follows job 0 (state.Copy (record { token = token; low = low; high = high; phase = copying.Put n props })) (answer.Refused f) h)

-- a deed that wasn't done leaves the job as it was, or ends it
lacks : Laws → (s : JobState) (job : Job) (f : SyncFault) → Follows job s → Follows job (after s (answer.Refused f)) ⊎ EndsRefused (after s (answer.Refused f))
lacks laws (state.Init s) job f h = init_lacks s.phase s.url job f h
lacks laws (state.Sync s) job f h = sync_lacks laws s.phase s.known job f h
lacks laws (state.Copy s) job f h = copy_lacks laws s.token s.phase s.low s.high job f h

-- the numbers that a state asks for
abbrev pub IsOf : (Job → ℕ → Type 0) → JobState → Type 0
IsOf N s = (job : Job) (n : ℕ) → IsNumberOf s job n → N job n

is_of_after : (N : Job → ℕ → Type 0) (s : JobState) (a : Answer) → IsOf N s → IsOf N (after s a)
is_of_after N (state.Init s) a h = h
is_of_after N (state.Sync s) a h = h
is_of_after N (state.Copy s) a h = h

asked_rightly : Laws → (N : Job → ℕ → Type 0) (s : JobState) (job : Job) (d : Deed) (a : Answer) → d ≡ deed_in s → IsOf N s → Follows job s → Fits d a → IsAsked N job d
asked_rightly laws N s job (Calls c) a e h f fits = tt
asked_rightly laws N s job AsksIdentity a e h f fits = tt
asked_rightly laws N s job AsksLatest a e h f fits = subst (λ d. IsAskedFor s job d) (sym e) (laws.asked job s f)
asked_rightly laws N s job (Fetches n) a e h f fits = h job n (subst (λ d. IsAskedFor s job d) (sym e) (laws.asked job s f))
asked_rightly laws N s job (FetchesProps n) a e h f fits = h job n (subst (λ d. IsAskedFor s job d) (sym e) (laws.asked job s f))
asked_rightly laws N s job Ends a e h f fits = absurd fits

-- all that was said is right, and the state follows it, or the job has ended with a refusal
pub record IsRightly (N : Job → ℕ → Type 0) (job : Job) (s : JobState) (es : List Spoken) : Type 0 where
  pub right : AreRight N job es
  pub numbers : IsOf N s
  pub follows : Follows (hears_all job es) s ⊎ EndsRefused s

-- a deed that isn't done leaves all right
undone : Laws → (N : Job → ℕ → Type 0) (job : Job) (s : JobState) (es more : List Spoken) (f : SyncFault) → IsRightly N job s es → Follows (hears_all job es) s → AreRight N (hears_all job es) more → hears_all (hears_all job es) more ≡ hears_all job es → IsRightly N job (after s (answer.Refused f)) (es ++ more)
undone laws N job s es more f p h r e =
    record {
      right = right_append N job es more p.right r;
      numbers = is_of_after N s (answer.Refused f) p.numbers;
      follows = subst (λ j. Follows j (after s (answer.Refused f)) ⊎ EndsRefused (after s (answer.Refused f))) (sym (hears_append job es more ∙ e)) (lacks laws s (hears_all job es) f h);
    }

done_rightly : Laws → (N : Job → ℕ → Type 0) (job : Job) (s : JobState) (es : List Spoken) (a : Answer) → IsRightly N job s es → Follows (hears_all job es) s → Fits (deed_in s) a → IsRightly N job (after s a) (es ++ made (deed_in s) a)
done_rightly laws N job s es a p h fits =
    let j : Job = hears_all job es in
    let e : hears_all job (es ++ made (deed_in s) a) ≡ heard j 0 (deed_in s) a = heard_round job es (deed_in s) a fits in
    record {
      right = right_append N job es (made (deed_in s) a) p.right ((laws.lawful j s h, asked_rightly laws N s j (deed_in s) a refl p.numbers h fits), right_tells N (heard j 0 (deed_in s) (answer_of (outcome_of a))) (told_by (deed_in s) a));
      numbers = is_of_after N s a p.numbers;
      follows = inl (subst (λ x. Follows x (after s a)) (sym e) (laws.follows j 0 s a h));
    }

-- a job that has ended says nothing
pub silent : Laws → (s : JobState) (e : Ending) (a : Answer) (more : List Spoken) → ending_of s ≡ Some e → IsRound (deed_in s) a more → more ≡ []
silent laws s e a more h (Done fits m) = absurd (subst (λ d. Fits d a) (laws.ended s a e h).0 fits)
silent laws s e a more h (Lacking r m due) = m
silent laws s e a more h (Treeless of n f d r m) = absurd (never (sym d ∙ (laws.ended s a e h).0))
  where
    never : Fetches of ≡ Ends → ⊥
    never x = cc

at_end : Laws → (N : Job → ℕ → Type 0) (job : Job) (s : JobState) (es : List Spoken) (a : Answer) (more : List Spoken) → IsRightly N job s es → EndsRefused s → IsRound (deed_in s) a more → IsRightly N job (after s a) (es ++ more)
at_end laws N job s es a more p h r =
    let e : more ≡ [] = silent laws s (ending.Refused h.0) a more h.1 r in
    let same : after s a ≡ s = (laws.ended s a (ending.Refused h.0) h.1).1 in
    subst (λ x. IsRightly N job x (es ++ more)) (sym same) (subst (λ x. IsRightly N job s x) (sym (append-nil es) ∙ ap (λ xs. es ++ xs) (sym e)) p)

pub rightly_on : Laws → (N : Job → ℕ → Type 0) (job : Job) (s : JobState) (es : List Spoken) (a : Answer) (more : List Spoken) → IsRightly N job s es → IsRound (deed_in s) a more → IsRightly N job (after s a) (es ++ more)
rightly_on laws N job s es a more p r = by p.follows
  where
    by_round : Follows (hears_all job es) s → IsRound (deed_in s) a more → IsRightly N job (after s a) (es ++ more)
    by_round h (Done fits m) = subst (λ xs. IsRightly N job (after s a) (es ++ xs)) (sym m) (done_rightly laws N job s es a p h fits)
    by_round h (Lacking e m due) = subst (λ x. IsRightly N job (after s x) (es ++ more)) (sym e) (subst (λ xs. IsRightly N job (after s (answer.Refused fault.OutOfMemory)) (es ++ xs)) (sym m) (undone laws N job s es [] fault.OutOfMemory p h tt refl))
    by_round h (Treeless of n f d e m) = subst (λ x. IsRightly N job (after s x) (es ++ more)) (sym e) (subst (λ xs. IsRightly N job (after s (answer.Refused f)) (es ++ xs)) (sym m) (undone laws N job s es (NoTree n (refused_as f) ∷ []) f p h (tt, tt) refl))

    by : Follows (hears_all job es) s ⊎ EndsRefused s → IsRightly N job (after s a) (es ++ more)
    by (inl h) = by_round h r
    by (inr h) = at_end laws N job s es a more p h r

-- all that a run says is right
pub run_rightly : Laws → (N : Job → ℕ → Type 0) (job : Job) (s t : JobState) (rs : List Round) → IsOf N s → Follows job s → Goes s rs t → IsRightly N job t (said_by rs)
run_rightly laws N job s t rs n f g = carry (λ x es. IsRightly N job x es) (rightly_on laws N job) s t rs [] g (record { right = tt; numbers = n; follows = inl f })
