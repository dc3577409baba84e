-- What is said goes on telling what a master's port was asked.
use Rattle.std.proofs.Common.{◌≡◌, ◌⊎◌, inl, inr, ℕ, List, [], ◌∷◌, ◌++◌, map, refl, sym, ap, subst, ◌∙◌}
use Rattle.std.specs.List.{AllZip}
use Rattle.std.proofs.lemmas.List.{append-nil, append_assoc, map-append}
use Rattle.sync_core.specs.declared.answer.Answer.{Answer}
use Rattle.sync_core.specs.declared.answer.Answer.TheVariants as answer
use Rattle.sync_core.specs.declared.fault.SyncFault.{SyncFault}
use Rattle.sync_core.specs.declared.fault.SyncFault.TheVariants.{OutOfMemory}
use Rattle.sync_core.specs.Copies.{Outcome, outcome_of}
use Rattle.sync_core.specs.Deeds.{Calls}
use Rattle.sync_core.specs.Mirror.{Call}
use Rattle.sync_job.specs.declared.port_call.PortCall.{PortCall}
use Rattle.sync_job.specs.declared.report.Told.{Told}
use Rattle.sync_job.specs.Kept.{refused_as}
use Rattle.sync_job.specs.Questions.{Exchange, Identity, Latest, Fetch, FetchProps, LeadsBy, IsSaidOf, KeepsAnswers, deed_for, outcome_for, questions_by, questions_in}
use Rattle.sync_job.specs.Said.{Spoken, Says, NoTree, Tells, spoken}
use Rattle.sync_job.proofs.Telling.{zip_append}

-- one step more behind those that led here
pub leads_on : {M A : Type 0} (Step : M → A → M → Type 0) (first mid now : M) (xs : List A) (x : A) → LeadsBy Step first xs mid → Step mid x now → LeadsBy Step first (xs ++ x ∷ []) now
leads_on {M} {A} Step first mid now [] x a s = (now, subst (λ (m : M). Step m x now) a s, refl)
leads_on Step first mid now (y ∷ ys) x a s = (a.0, a.1, leads_on Step a.0 mid now ys x a.2 s)

pub questions_append : (xs ys : List Spoken) → questions_in (xs ++ ys) ≡ questions_in xs ++ questions_in ys
questions_append [] ys = refl
questions_append (Says d o ∷ xs) ys = ap (λ zs. questions_by d o ++ zs) (questions_append xs ys) ∙ sym (append_assoc (questions_by d o) (questions_in xs) (questions_in ys))
questions_append (NoTree n o ∷ xs) ys = questions_append xs ys
questions_append (Tells t ∷ xs) ys = questions_append xs ys

tells_no_question : (ts : List Told) → questions_in (map Tells ts) ≡ []
tells_no_question [] = refl
tells_no_question (t ∷ ts) = tells_no_question ts

-- more is said, and this was asked meanwhile
answers_more : {M : Type 0} (Answered : M → M → List Exchange → Type 0) (before now : M) (old new more : List Spoken) (made : List Exchange) → new ≡ old ++ more
    → ((first : M) (asked : List Exchange) → Answered before first asked → Answered now first (asked ++ made)) → AllZip IsSaidOf made (questions_in more) → KeepsAnswers Answered before now old new
answers_more Answered before now old new more made adds asks said = λ first base t. record {
  made = t.made ++ made;
  more = t.more ++ more;
  adds = adds ∙ ap (λ xs. xs ++ more) t.adds ∙ append_assoc base t.more more;
  answered = asks first t.made t.answered;
  said = subst (λ xs. AllZip IsSaidOf (t.made ++ made) xs) (sym (questions_append t.more more)) (zip_append IsSaidOf t.made made (questions_in t.more) (questions_in more) t.said said);
}

-- nothing is asked of the master, whatever else is said
pub answers_unasked : {M : Type 0} (Answered : M → M → List Exchange → Type 0) (before now : M) (old new more : List Spoken) → now ≡ before → new ≡ old ++ more → questions_in more ≡ [] → KeepsAnswers Answered before now old new
answers_unasked {M} Answered before now old new more same adds none =
    answers_more Answered before now old new more [] adds (λ first asked h. subst (λ (x : M). Answered x first (asked ++ [])) (sym same) (subst (Answered before first) (sym (append-nil asked)) h))
    (subst (λ xs. AllZip IsSaidOf [] xs) (sym none) tt)

-- nothing is said
pub answers_none : {M : Type 0} (Answered : M → M → List Exchange → Type 0) (before now : M) (old new : List Spoken) → now ≡ before → new ≡ old → KeepsAnswers Answered before now old new
answers_none Answered before now old new m c = answers_unasked Answered before now old new [] m (c ∙ sym (append-nil old)) refl

-- one after another
pub answers_on : {M : Type 0} (Answered : M → M → List Exchange → Type 0) (a b c : M) (x y z : List Spoken) → KeepsAnswers Answered a b x y → KeepsAnswers Answered b c y z → KeepsAnswers Answered a c x z
answers_on Answered a b c x y z p q = λ first base t. q first base (p first base t)

-- a call of the mirror
pub answers_call : {M : Type 0} (Answered : M → M → List Exchange → Type 0) (before now : M) (call : Call) (o : Outcome) (said : PortCall) (old : List Spoken) (items new : List PortCall)
    → now ≡ before → map spoken items ≡ old → spoken said ≡ Says (Calls call) o → new ≡ items ++ said ∷ [] → KeepsAnswers Answered before now old (map spoken new)
answers_call Answered before now call o said old items new same stays is adds =
    answers_unasked Answered before now old (map spoken new) (Says (Calls call) o ∷ []) same
    (ap (map spoken) adds ∙ map-append spoken items (said ∷ []) ∙ ap (λ xs. xs ++ spoken said ∷ []) stays ∙ ap (λ e. old ++ e ∷ []) is) refl

-- what is told of it
pub answers_told : {M : Type 0} (Answered : M → M → List Exchange → Type 0) (before now : M) (old new : List Spoken) (ts : List Told) → now ≡ before → new ≡ old ++ map Tells ts → KeepsAnswers Answered before now old new
answers_told Answered before now old new ts same adds = answers_unasked Answered before now old new (map Tells ts) same adds (tells_no_question ts)

-- a tree is refused
pub answers_tree : {M : Type 0} (Answered : M → M → List Exchange → Type 0) (before now : M) (n : ℕ) (said : PortCall) (f : SyncFault) (old mid new : List PortCall) → now ≡ before → spoken said ≡ NoTree n (refused_as f) → mid ≡ old → new ≡ mid ++ said ∷ [] → KeepsAnswers Answered before now (map spoken old) (map spoken new)
answers_tree Answered before now n said f old mid new same is stays adds =
    answers_unasked Answered before now (map spoken old) (map spoken new) (NoTree n (refused_as f) ∷ []) same
    (ap (map spoken) (adds ∙ ap (λ xs. xs ++ said ∷ []) stays) ∙ map-append spoken old (said ∷ []) ∙ ap (λ e. map spoken old ++ e ∷ []) is) refl

-- a question to the master

one_question : (x : Exchange) (o : Outcome) → questions_by (deed_for x) o ++ [] ≡ record { deed = deed_for x; outcome = o } ∷ []
one_question (Identity r) o = refl
one_question (Latest r) o = refl
one_question (Fetch n trees r) o = refl
one_question (FetchProps n r) o = refl

heard_outcome : (x : Exchange) (a : Answer) → (outcome_of a ≡ outcome_for x) ⊎ (a ≡ answer.Refused OutOfMemory) → (outcome_of a ≡ outcome_for x) ⊎ (outcome_of a ≡ refused_as OutOfMemory)
heard_outcome x a (inl e) = inl e
heard_outcome x a (inr e) = inr (ap outcome_of e)

pub answers_question : {M : Type 0} (Answered : M → M → List Exchange → Type 0) (before mid now : M) (x : Exchange) (said : PortCall) (a : Answer) (old between new : List PortCall)
    → mid ≡ before → ((first : M) (asked : List Exchange) → Answered mid first asked → Answered now first (asked ++ x ∷ [])) → spoken said ≡ Says (deed_for x) (outcome_of a)
    → (outcome_of a ≡ outcome_for x) ⊎ (a ≡ answer.Refused OutOfMemory) → between ≡ old → new ≡ between ++ said ∷ [] → KeepsAnswers Answered before now (map spoken old) (map spoken new)
answers_question {M} Answered before mid now x said a old between new is_mid asks is out stays adds =
    answers_more Answered before now (map spoken old) (map spoken new) (Says (deed_for x) (outcome_of a) ∷ []) (x ∷ [])
    (ap (map spoken) (adds ∙ ap (λ xs. xs ++ said ∷ []) stays) ∙ map-append spoken old (said ∷ []) ∙ ap (λ e. map spoken old ++ e ∷ []) is)
    (λ first asked h. asks first asked (subst (λ (m : M). Answered m first asked) (sym is_mid) h))
    (subst (λ xs. AllZip IsSaidOf (x ∷ []) xs) (sym (one_question x (outcome_of a))) (record { deed = refl; outcome = heard_outcome x a out }, tt))
