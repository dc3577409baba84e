-- A job's refusal of a device or of a full journal is one that a call of it met.
use Rattle.std.proofs.Common.{◌≡◌, inl, inr, ℕ, ◌==◌, ◌||◌, Bool, true, false, List, [], ◌∷◌, Result, Ok, Err, IfErr, refl, sym, ap, subst, ◌∙◌, arith}
use Rattle.std.proofs.lemmas.Bool.{true≢false}
use Rattle.std.proofs.lemmas.Bool.Decides.{nat_tests}
use Rattle.std.specs.List.{AllByRecursion, AllZip}
use Rattle.fleet_disk.specs.declared.disk.Disk.{Ghosts}
use Rattle.fleet_jobs.specs.declared.order.Work.{Work}
use Rattle.fleet_jobs.specs.declared.order.Work.TheVariants.{Sync, Copy}
use Rattle.mirror_share.specs.Locked.{IsStepOf}
use Rattle.mirror_share.specs.declared.share.MirrorShare.{MirrorShare}
use Rattle.sync_core.specs.Copies.{Outcome, number_in, outcome_of}
use Rattle.sync_core.specs.Copies as told
use Rattle.sync_core.specs.Deeds.{Calls, AsksIdentity, AsksLatest, Fetches, FetchesProps, Ends}
use Rattle.sync_core.specs.Jobs.{Job, begun}
use Rattle.sync_core.specs.Jobs as jobs
use Rattle.sync_core.specs.Mirror.{Call}
use Rattle.sync_core.specs.declared.answer.Answer.{Answer}
use Rattle.sync_core.specs.declared.fault.SyncFault.{SyncFault}
use Rattle.sync_core.specs.declared.reply.Reply.{Reply as Given}
use Rattle.sync_core.specs.declared.reply.Reply.TheVariants as given
use Rattle.sync_job.specs.Asked.{Asked}
use Rattle.sync_job.specs.Fronts.{IsHeard}
use Rattle.sync_job.specs.Kept.{refused_as}
use Rattle.sync_job.specs.Runs.{ComesFrom, Mirrors, Trees, Masters, Memory, Tables, IsSaid, IsShown, no_number}
use Rattle.sync_job.specs.Said.{Spoken, Says, NoTree, Tells}
use Rattle.sync_job.specs.Telling.{IsOther, IsSaidAs, calls_in, others_in}
use Rattle.fleet_shares.specs.Jobs.{HasMet, IsOfStore, IsRunOf}

-- the numbers

abbrev is_of_store : ℕ → Bool
is_of_store n = (n == 31) || ((n == 32) || (n == 36))

other_number : (n m : ℕ) → is_of_store n ≡ true → is_of_store m ≡ false → n ≡ m → ⊥
other_number n m h k e = true≢false (sym h ∙ ap is_of_store e ∙ k)

test : (n : ℕ) → IsOfStore n → is_of_store n ≡ true
test n (inl e) = ap is_of_store e
test n (inr (inl e)) = ap is_of_store e
test n (inr (inr e)) = ap is_of_store e

is_31 : (n : ℕ) → n == 31 ≡ true → n ≡ 31
is_31 n h = grind (arith, nat_tests)

-- what is said with such a number was asked of the mirror, and so answered

abbrev IsNumber : ℕ → Outcome → Type 0
IsNumber n (told.Refused m text) = m ≡ n
IsNumber n _ = ⊥

abbrev IsNumberOf : ℕ → Spoken → Type 0
IsNumberOf n (Says d o) = IsNumber n o
IsNumberOf n (NoTree k o) = IsNumber n o
IsNumberOf n (Tells t) = ⊥

abbrev IsAnswered : ℕ → Result Given SyncFault → Type 0
IsAnswered n (Ok r) = ⊥
IsAnswered n (Err f) = number_in f ≡ n

heard_number : (n : ℕ) → is_of_store n ≡ true → (result : Result Given SyncFault) (a : Answer) → IsHeard result a → IsNumber n (outcome_of a) → IsAnswered n result
heard_number n h (Ok given.Done) a e k = absurd (subst (λ x. IsNumber n (outcome_of x)) e k)
heard_number n h (Ok (given.Seen s)) a (inl e) k = absurd (subst (λ x. IsNumber n (outcome_of x)) e k)
heard_number n h (Ok (given.Seen s)) a (inr e) k = absurd (other_number n 70 h refl (sym (subst (λ x. IsNumber n (outcome_of x)) e k)))
heard_number n h (Err f) a (inl e) k = subst (λ x. IsNumber n (outcome_of x)) e k
heard_number n h (Err f) a (inr (inl e)) k = absurd (other_number n 70 h refl (sym (subst (λ x. IsNumber n (outcome_of x)) e.0 k)))
heard_number n h (Err f) a (inr (inr e)) k = is_31 (number_in f) e.1 ∙ subst (λ x. IsNumber n (outcome_of x)) e.0 k

not_other : (n : ℕ) → is_of_store n ≡ true → (o : Outcome) → IsOther o → IsNumber n o → ⊥
not_other n h told.Done p k = k
not_other n h (told.Seen s) p k = k
not_other n h (told.Identity u) p k = k
not_other n h (told.Latest m) p k = k
not_other n h (told.Revision set props) p k = k
not_other n h (told.Map props) p k = k
not_other n h (told.Refused m text) (inl e) k = other_number n 21 h refl (sym k ∙ e)
not_other n h (told.Refused m text) (inr e) k = other_number n 70 h refl (sym k ∙ e)
not_other n h (told.Failed text) p k = k

-- what a job refuses by itself has another number
shown_apart : (High : ℕ → Type 0) (job : Job) (heard : List Spoken) (o : Outcome) (f : SyncFault) → IsShown High job heard o f → is_of_store (number_in f) ≡ false
shown_apart High job heard told.Done f h = absurd h
shown_apart High job heard (told.Seen s) f (inl h) = ap (λ x. is_of_store (number_in x)) h.1
shown_apart High job heard (told.Seen s) f (inr h) = ap (λ x. is_of_store (number_in x)) h.1
shown_apart High job heard (told.Identity u) f (inl h) = ap (λ x. is_of_store (number_in x)) h.fault
shown_apart High job heard (told.Identity u) f (inr h) = ap (λ x. is_of_store (number_in x)) h.fault
shown_apart High job heard (told.Latest n) f h = ap (λ x. is_of_store (number_in x)) h.fault
shown_apart High job heard (told.Revision set props) f h = absurd h
shown_apart High job heard (told.Map props) f h = absurd h
shown_apart High job heard (told.Refused m text) f h = absurd h
shown_apart High job heard (told.Failed text) f h = absurd h

module _ {L D : Type 0} {r : _} {g : Ghosts D} (share : MirrorShare L D r g) (seat n : ℕ) (h : is_of_store n ≡ true) where
  met : (call : Call) (result : Result Given SyncFault) → IsStepOf share seat call result → IsAnswered n result → HasMet share seat n
  met call (Ok x) step k = absurd k
  met call (Err f) step k = record { call = call; fault = f; told = k; step = step }

  found : (e : Spoken) → IsNumberOf n e → (es : List Spoken) (made : List Asked) → IsSaid e es → AllZip IsSaidAs made (calls_in es) → AllByRecursion IsOther (others_in es) → AllByRecursion (λ a. IsStepOf share seat a.call a.result) made → HasMet share seat n
  found e k [] made s z o q = absurd s
  found e k (Says (Calls c) x ∷ es) [] s z o q = absurd z
  found e k (Says (Calls c) x ∷ es) (a ∷ made) (inl s) z o q = met a.call a.result q.0 (heard_number n h a.result z.0.answer z.0.heard (subst (IsNumber n) z.0.outcome (subst (IsNumberOf n) (sym s) k)))
  found e k (Says (Calls c) x ∷ es) (a ∷ made) (inr s) z o q = found e k es made s z.1 o q.1
  found e k (Says AsksIdentity x ∷ es) made (inl s) z o q = absurd (not_other n h x o.0 (subst (IsNumberOf n) (sym s) k))
  found e k (Says AsksIdentity x ∷ es) made (inr s) z o q = found e k es made s z o.1 q
  found e k (Says AsksLatest x ∷ es) made (inl s) z o q = absurd (not_other n h x o.0 (subst (IsNumberOf n) (sym s) k))
  found e k (Says AsksLatest x ∷ es) made (inr s) z o q = found e k es made s z o.1 q
  found e k (Says (Fetches m) x ∷ es) made (inl s) z o q = absurd (not_other n h x o.0 (subst (IsNumberOf n) (sym s) k))
  found e k (Says (Fetches m) x ∷ es) made (inr s) z o q = found e k es made s z o.1 q
  found e k (Says (FetchesProps m) x ∷ es) made (inl s) z o q = absurd (not_other n h x o.0 (subst (IsNumberOf n) (sym s) k))
  found e k (Says (FetchesProps m) x ∷ es) made (inr s) z o q = found e k es made s z o.1 q
  found e k (Says Ends x ∷ es) made (inl s) z o q = absurd (not_other n h x o.0 (subst (IsNumberOf n) (sym s) k))
  found e k (Says Ends x ∷ es) made (inr s) z o q = found e k es made s z o.1 q
  found e k (NoTree m x ∷ es) made (inl s) z o q = absurd (not_other n h x o.0 (subst (IsNumberOf n) (sym s) k))
  found e k (NoTree m x ∷ es) made (inr s) z o q = found e k es made s z o.1 q
  found e k (Tells t ∷ es) made (inl s) z o q = absurd (subst (IsNumberOf n) (sym s) k)
  found e k (Tells t ∷ es) made (inr s) z o q = found e k es made s z o q

  -- so a job's refusal with such a number was one of the mirror's
  met_from : (High : ℕ → Type 0) (job : Job) (es : List Spoken) (made : List Asked) (f : SyncFault) → number_in f ≡ n → ComesFrom High job es f → AllZip IsSaidAs made (calls_in es) → AllByRecursion IsOther (others_in es)
      → AllByRecursion (λ a. IsStepOf share seat a.call a.result) made → HasMet share seat n
  met_from High job es made f k (Mirrors d s) z o q = found (Says d (refused_as f)) k es made s z o q
  met_from High job es made f k (Trees m s) z o q = found (NoTree m (refused_as f)) k es made s z o q
  met_from High job es made f k (Masters d text e s) z o q = absurd (other_number n 60 h refl (sym k ∙ ap number_in e))
  met_from High job es made f k (Memory e) z o q = absurd (other_number n 70 h refl (sym k ∙ ap number_in e))
  met_from High job es made f k (Tables d x heard more e s shown) z o q = absurd (other_number n (number_in f) h (shown_apart High job heard x f shown) (sym k))

-- the same of a run that does an order's work
pub met_in : {L D : Type 0} {r : _} {g : Ghosts D} (share : MirrorShare L D r g) (seat : ℕ) (work : Work) (token : List ℕ) (said : List Spoken) (ended : Result (Unit {0}) SyncFault) (made : List Asked) → IsRunOf work token said ended
    → AllZip IsSaidAs made (calls_in said) → AllByRecursion IsOther (others_in said) → AllByRecursion (λ a. IsStepOf share seat a.call a.result) made → IfErr ended (λ f. IsOfStore (number_in f) → HasMet share seat (number_in f))
met_in share seat work token said (Ok u) made run z o q = tt
met_in share seat (Sync steal) token said (Err f) made run z o q = λ k.
    met_from share seat (number_in f) (test (number_in f) k) no_number (begun (jobs.Sync token steal)) run.more made f refl run.end (subst (λ xs. AllZip IsSaidAs made (calls_in xs)) run.adds z) (subst (λ xs. AllByRecursion IsOther (others_in xs)) run.adds o) q
met_in share seat (Copy low high) token said (Err f) made run z o q = λ k.
    met_from share seat (number_in f) (test (number_in f) k) (λ n. n ≡ high) (begun (jobs.CopyProps token)) run.more made f refl run.end (subst (λ xs. AllZip IsSaidAs made (calls_in xs)) run.adds z) (subst (λ xs. AllByRecursion IsOther (others_in xs)) run.adds o) q
