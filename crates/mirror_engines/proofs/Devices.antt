-- Where a run is answered 31 and 32.
use Rattle.std.proofs.Common.{◌≡◌, ◌⊎◌, inl, inr, ℕ, ◌==◌, ◌||◌, ◌≤◌, Bool, true, false, List, [], ◌∷◌, ◌++◌, Result, Ok, Err, IfErr, refl, sym, ap, subst, ◌∙◌, arith, if◌then◌else◌}
use Rattle.std.proofs.lemmas.Bool.{true≢false}
use Rattle.std.proofs.lemmas.Bool.Decides.{nat_tests}
use Rattle.std.proofs.lemmas.List.{append-nil}
use Rattle.std.specs.List.{AllByRecursion, AllZip}
use Rattle.fleet_disk.specs.declared.disk.Disk.{Ghosts}
use Rattle.node_base.specs.Refusals.{refusal_number}
use Rattle.node_base.specs.declared.refusal.Refusal.{Refusal}
use Rattle.node_base.specs.declared.refusal.Refusal.TheVariants.{DeviceFailed, Failed, PeerFailed, OutOfTurn}
use Rattle.repo_store.specs.declared.store.RepoStore.{RepoStore}
use Rattle.sync_core.specs.Copies.{Outcome, number_in, outcome_of}
use Rattle.sync_core.specs.Copies as told
use Rattle.sync_core.specs.Deeds.{Deed, Calls, AsksIdentity, AsksLatest, Fetches, FetchesProps, Ends}
use Rattle.sync_core.specs.Faults.{fault_text, refusal_of}
use Rattle.sync_core.specs.Jobs.{Job, Order, Initialise, CopyProps, begun}
use Rattle.sync_core.specs.declared.answer.Answer.{Answer}
use Rattle.sync_core.specs.declared.fault.SyncFault.{SyncFault}
use Rattle.sync_core.specs.declared.reply.Reply.{Reply as Given}
use Rattle.sync_core.specs.declared.reply.Reply.TheVariants as given
use Rattle.sync_job.specs.Alone.{store_of, IsStep}
use Rattle.sync_job.specs.Asked.{Asked}
use Rattle.sync_job.specs.Devices.{FailsSince, HasFailedSince, IsCaused, WasAsked}
use Rattle.sync_job.specs.Fronts.{IsHeard}
use Rattle.sync_job.specs.Kept.{refused_as}
use Rattle.sync_job.specs.Questions.{LeadsBy}
use Rattle.sync_job.specs.Runs.{ComesFrom, Mirrors, Trees, Masters, Memory, Tables, EndsSync, EndsInit, EndsCopy, IsSaid, IsShown, Runs, no_number}
use Rattle.sync_job.specs.Said.{Spoken, Says, NoTree, Tells}
use Rattle.sync_job.specs.Telling.{IsOther, IsSaidAs, KeepsTelling, TellsAsked, calls_in, others_in}
use Rattle.sync_job.specs.declared.alone.AloneMirror.{AloneMirror}
use Rattle.sync_job.specs.declared.report.Told.{Told}
use Rattle.sync_job.proofs.Devices.{was_asked}
use Rattle.mirror_engines.specs.Runs.{TellsDevice, answer_of, told_as}

-- the numbers of a device

abbrev is_device : ℕ → Bool
is_device n = (n == 31) || (n == 32)

other_number : (n m : ℕ) → is_device n ≡ true → is_device m ≡ false → n ≡ m → ⊥
other_number n m h k e = true≢false (sym h ∙ ap is_device e ∙ k)

-- what is said with such a number was asked of the mirror, and so answered

abbrev IsNumber : ℕ → Outcome → Type 0
IsNumber n (told.Refused m text) = m ≡ n
IsNumber n _ = ⊥

abbrev IsNumberOf : ℕ → Spoken → Type 0
IsNumberOf n (Says d o) = IsNumber n o
IsNumberOf n (NoTree k o) = IsNumber n o
IsNumberOf n (Tells t) = ⊥

abbrev IsAnswered : ℕ → Result Given SyncFault → Type 0
IsAnswered n (Ok r) = ⊥
IsAnswered n (Err f) = number_in f ≡ n

is_31 : (n : ℕ) → n == 31 ≡ true → n ≡ 31
is_31 n h = grind (arith, nat_tests)

heard_number : (n : ℕ) → is_device n ≡ true → (result : Result Given SyncFault) (a : Answer) → IsHeard result a → IsNumber n (outcome_of a) → IsAnswered n result
heard_number n h (Ok given.Done) a e k = absurd (subst (λ x. IsNumber n (outcome_of x)) e k)
heard_number n h (Ok (given.Seen s)) a (inl e) k = absurd (subst (λ x. IsNumber n (outcome_of x)) e k)
heard_number n h (Ok (given.Seen s)) a (inr e) k = absurd (other_number n 70 h refl (sym (subst (λ x. IsNumber n (outcome_of x)) e k)))
heard_number n h (Err f) a (inl e) k = subst (λ x. IsNumber n (outcome_of x)) e k
heard_number n h (Err f) a (inr (inl e)) k = absurd (other_number n 70 h refl (sym (subst (λ x. IsNumber n (outcome_of x)) e.0 k)))
heard_number n h (Err f) a (inr (inr e)) k = is_31 (number_in f) e.1 ∙ subst (λ x. IsNumber n (outcome_of x)) e.0 k

not_other : (n : ℕ) → is_device n ≡ true → (o : Outcome) → IsOther o → IsNumber n o → ⊥
not_other n h told.Done p k = k
not_other n h (told.Seen s) p k = k
not_other n h (told.Identity u) p k = k
not_other n h (told.Latest m) p k = k
not_other n h (told.Revision set props) p k = k
not_other n h (told.Map props) p k = k
not_other n h (told.Refused m text) (inl e) k = other_number n 21 h refl (sym k ∙ e)
not_other n h (told.Refused m text) (inr e) k = other_number n 70 h refl (sym k ∙ e)
not_other n h (told.Failed text) p k = k

found : (Q : Type 0) (n : ℕ) → is_device n ≡ true → (e : Spoken) → IsNumberOf n e → (es : List Spoken) (made : List Asked) → IsSaid e es → AllZip IsSaidAs made (calls_in es) → AllByRecursion IsOther (others_in es)
    → AllByRecursion (λ a. IsAnswered n a.result → Q) made → Q
found Q n h e k [] made s z o q = absurd s
found Q n h e k (Says (Calls c) x ∷ es) [] s z o q = absurd z
found Q n h e k (Says (Calls c) x ∷ es) (a ∷ made) (inl s) z o q = q.0 (heard_number n h a.result z.0.answer z.0.heard (subst (IsNumber n) z.0.outcome (subst (IsNumberOf n) (sym s) k)))
found Q n h e k (Says (Calls c) x ∷ es) (a ∷ made) (inr s) z o q = found Q n h e k es made s z.1 o q.1
found Q n h e k (Says AsksIdentity x ∷ es) made (inl s) z o q = absurd (not_other n h x o.0 (subst (IsNumberOf n) (sym s) k))
found Q n h e k (Says AsksIdentity x ∷ es) made (inr s) z o q = found Q n h e k es made s z o.1 q
found Q n h e k (Says AsksLatest x ∷ es) made (inl s) z o q = absurd (not_other n h x o.0 (subst (IsNumberOf n) (sym s) k))
found Q n h e k (Says AsksLatest x ∷ es) made (inr s) z o q = found Q n h e k es made s z o.1 q
found Q n h e k (Says (Fetches m) x ∷ es) made (inl s) z o q = absurd (not_other n h x o.0 (subst (IsNumberOf n) (sym s) k))
found Q n h e k (Says (Fetches m) x ∷ es) made (inr s) z o q = found Q n h e k es made s z o.1 q
found Q n h e k (Says (FetchesProps m) x ∷ es) made (inl s) z o q = absurd (not_other n h x o.0 (subst (IsNumberOf n) (sym s) k))
found Q n h e k (Says (FetchesProps m) x ∷ es) made (inr s) z o q = found Q n h e k es made s z o.1 q
found Q n h e k (Says Ends x ∷ es) made (inl s) z o q = absurd (not_other n h x o.0 (subst (IsNumberOf n) (sym s) k))
found Q n h e k (Says Ends x ∷ es) made (inr s) z o q = found Q n h e k es made s z o.1 q
found Q n h e k (NoTree m x ∷ es) made (inl s) z o q = absurd (not_other n h x o.0 (subst (IsNumberOf n) (sym s) k))
found Q n h e k (NoTree m x ∷ es) made (inr s) z o q = found Q n h e k es made s z o.1 q
found Q n h e k (Tells t ∷ es) made (inl s) z o q = absurd (subst (IsNumberOf n) (sym s) k)
found Q n h e k (Tells t ∷ es) made (inr s) z o q = found Q n h e k es made s z o q

-- what a job refuses by itself has another number
shown_apart : (High : ℕ → Type 0) (job : Job) (heard : List Spoken) (o : Outcome) (f : SyncFault) → IsShown High job heard o f → is_device (number_in f) ≡ false
shown_apart High job heard told.Done f h = absurd h
shown_apart High job heard (told.Seen s) f (inl h) = ap (λ x. is_device (number_in x)) h.1
shown_apart High job heard (told.Seen s) f (inr h) = ap (λ x. is_device (number_in x)) h.1
shown_apart High job heard (told.Identity u) f (inl h) = ap (λ x. is_device (number_in x)) h.fault
shown_apart High job heard (told.Identity u) f (inr h) = ap (λ x. is_device (number_in x)) h.fault
shown_apart High job heard (told.Latest n) f h = ap (λ x. is_device (number_in x)) h.fault
shown_apart High job heard (told.Revision set props) f h = absurd h
shown_apart High job heard (told.Map props) f h = absurd h
shown_apart High job heard (told.Refused m text) f h = absurd h
shown_apart High job heard (told.Failed text) f h = absurd h

-- so a job's refusal with such a number was one of the mirror's
from_mirror : (Q : Type 0) (n : ℕ) → is_device n ≡ true → (High : ℕ → Type 0) (job : Job) (es : List Spoken) (made : List Asked) (f : SyncFault) → number_in f ≡ n → ComesFrom High job es f → AllZip IsSaidAs made (calls_in es)
    → AllByRecursion IsOther (others_in es) → AllByRecursion (λ a. IsAnswered n a.result → Q) made → Q
from_mirror Q n h High job es made f k (Mirrors d s) z o q = found Q n h (Says d (refused_as f)) k es made s z o q
from_mirror Q n h High job es made f k (Trees m s) z o q = found Q n h (NoTree m (refused_as f)) k es made s z o q
from_mirror Q n h High job es made f k (Masters d text e s) z o q = absurd (other_number n 60 h refl (sym k ∙ ap number_in e))
from_mirror Q n h High job es made f k (Memory e) z o q = absurd (other_number n 70 h refl (sym k ∙ ap number_in e))
from_mirror Q n h High job es made f k (Tables d x heard more e s shown) z o q = absurd (other_number n (number_in f) h (shown_apart High job heard x f shown) (sym k))

-- the answer of a run has the number of its job's refusal

told_same : (e r : Refusal) (t : Bool) → refusal_number e == 49 ≡ t → is_device (refusal_number r) ≡ true → told_as e ≡ r → refusal_number e ≡ refusal_number r
told_same e r true is h k = absurd (other_number (refusal_number r) 61 h refl (sym (ap refusal_number (subst (λ b. (if b then OutOfTurn else e) ≡ r) is k))))
told_same e r false is h k = ap refusal_number (subst (λ b. (if b then OutOfTurn else e) ≡ r) is k)

answered : (Q : Type 0) (r : Refusal) → is_device (refusal_number r) ≡ true → (ended : Result (Unit {0}) SyncFault) (lost : Bool) → IfErr ended (λ f. number_in f ≡ refusal_number r → Q) → IfErr (answer_of ended lost) (λ e. e ≡ r → Q)
answered Q r h (Ok u) false q = tt
answered Q r h (Ok u) true q = λ e. absurd (other_number (refusal_number r) 49 h refl (sym (ap refusal_number e)))
answered Q r h (Err f) lost q = λ e. q (told_same (refusal_of f) r (refusal_number (refusal_of f) == 49) refl h e)

if_err : {T E : Type 0} (r : Result T E) (A B : E → Type 0) → ((e : E) → A e → B e) → IfErr r A → IfErr r B
if_err (Ok t) A B f a = tt
if_err (Err e) A B f a = f e a

-- each call has its cause
caused : (Q : Type 0) (n : ℕ) (r : Result Given SyncFault) → IfErr r (λ f. number_in f ≡ n → Q) → IsAnswered n r → Q
caused Q n (Ok g) c k = absurd k
caused Q n (Err x) c k = c k

causes : (Q : Type 0) (n : ℕ) (made : List Asked) (P : Asked → Type 0) → ((a : Asked) → P a → IfErr a.result (λ f. number_in f ≡ n → Q)) → AllByRecursion P made → AllByRecursion (λ a. IsAnswered n a.result → Q) made
causes Q n [] P f h = tt
causes Q n (a ∷ made) P f h = (λ k. caused Q n a.result (f a h.0) k, causes Q n made P f h.1)

-- how the three kinds of runs end

pub sync_ends : (order : Order) (ended : Result (Unit {0}) SyncFault) (es : List Spoken) → EndsSync order ended es → IfErr ended (λ f. ComesFrom no_number (begun order) es f)
sync_ends order (Ok u) es h = tt
sync_ends order (Err f) es h = h

pub init_ends : (url : List ℕ) (ended : Result (Unit {0}) SyncFault) (es : List Spoken) → EndsInit url ended es → IfErr ended (λ f. ComesFrom no_number (begun (Initialise url)) es f)
init_ends url (Ok u) es h = tt
init_ends url (Err f) es h = h

pub copy_ends : (token : List ℕ) (low high : ℕ) (ended : Result (Unit {0}) SyncFault) (es : List Spoken) → EndsCopy token low high ended es → IfErr ended (λ f. ComesFrom (λ n. n ≡ high) (begun (CopyProps token)) es f)
copy_ends token low high (Ok u) es h = tt
copy_ends token low high (Err f) es h = h

-- the ghost of a mirror that is held alone
abbrev pub asked_alone : {D : Type 0} {G : Ghosts D} → AloneMirror D G → AloneMirror D G → List Asked → Type 0
asked_alone now first calls = LeadsBy IsStep first calls now

-- what a run tells of the device, of which these calls were asked
tells_of : {D : Type 0} {G : Ghosts D} (High : ℕ → Type 0) (job : Job) (old new : RepoStore D G) (said : List Spoken) (made : List Asked) (ended : Result (Unit {0}) SyncFault) (lost : Bool)
    → IfErr ended (λ f. ComesFrom High job said f) → WasAsked new old made → AllZip IsSaidAs made (calls_in said) → AllByRecursion IsOther (others_in said) → TellsDevice old new said (answer_of ended lost)
tells_of High job old new said made ended lost from asked z o =
    record {
      later = asked.later;
      device = answered (FailsSince old new) DeviceFailed refl ended lost
          (if_err ended (λ f. ComesFrom High job said f) (λ f. number_in f ≡ 31 → FailsSince old new) (λ f c k. from_mirror (FailsSince old new) 31 refl High job said made f k c z o fails) from);
      calls = λ d text s. found (FailsSince old new) 31 refl (Says d (told.Refused 31 text)) refl said made s z o fails;
      failed = answered (HasFailedSince old new) Failed refl ended lost
          (if_err ended (λ f. ComesFrom High job said f) (λ f. number_in f ≡ 32 → HasFailedSince old new) (λ f c k. from_mirror (HasFailedSince old new) 32 refl High job said made f k c z o failed) from);
      broken = asked.broken;
    }
  where
    fails : AllByRecursion (λ a. IsAnswered 31 a.result → FailsSince old new) made
    fails = causes (FailsSince old new) 31 made (λ a. IsCaused old new a.result) (λ a c. c.device) asked.causes

    failed : AllByRecursion (λ a. IsAnswered 32 a.result → HasFailedSince old new) made
    failed = causes (HasFailedSince old new) 32 made (λ a. IsCaused old new a.result) (λ a c. c.failed) asked.causes

-- from the ports as they are made
pub tells_device : {D : Type 0} {G : Ghosts D} {B : Type 0} (N : Job → ℕ → Type 0) (High : ℕ → Type 0) (order : Order) (End : List Spoken → Type 0) (before after : AloneMirror D G) (start said : List Spoken) (ended : Result (Unit {0}) SyncFault) (lost : Bool)
    (heard_old heard_new : B → List Told → Type 0) → start ≡ [] → Runs N order start said heard_old heard_new End → ((es : List Spoken) → End es → IfErr ended (λ f. ComesFrom High (begun order) es f))
    → KeepsTelling asked_alone before after start said → TellsDevice (store_of before) (store_of after) said (answer_of ended lost)
tells_device {G} N High order End before after start said ended lost heard_old heard_new none run comes telling =
    let t = telling before start (record { made = []; more = []; adds = sym (append-nil start); asked = refl; said = tt; others = tt }) in
    tells_of High (begun order) (store_of before) (store_of after) said t.made ended lost
    (subst (λ xs. IfErr ended (λ f. ComesFrom High (begun order) xs f)) (sym (run.adds ∙ ap (λ xs. xs ++ run.more) none)) (comes run.more run.end))
    (was_asked before after t.made t.asked)
    (subst (λ xs. AllZip IsSaidAs t.made (calls_in xs)) (sym (t.adds ∙ ap (λ xs. xs ++ t.more) none)) t.said)
    (subst (λ xs. AllByRecursion IsOther (others_in xs)) (sym (t.adds ∙ ap (λ xs. xs ++ t.more) none)) t.others)
