-- What is said goes on telling what was asked.
use Rattle.std.proofs.Common.{◌≡◌, inl, inr, ℕ, List, [], ◌∷◌, ◌++◌, map, Result, refl, sym, ap, subst, ◌∙◌}
use Rattle.std.specs.List.{AllByRecursion, AllZip}
use Rattle.std.proofs.lemmas.List.{append-nil, append_assoc, map-append}
use Rattle.sync_core.specs.declared.answer.Answer.{Answer}
use Rattle.sync_core.specs.declared.fault.SyncFault.{SyncFault}
use Rattle.sync_core.specs.declared.reply.Reply.{Reply as Given}
use Rattle.sync_core.specs.Copies.{Outcome, outcome_of}
use Rattle.sync_core.specs.Deeds.{Deed, Calls, AsksIdentity, AsksLatest, Fetches, FetchesProps, Ends}
use Rattle.sync_core.specs.Mirror.{Call}
use Rattle.sync_job.specs.declared.port_call.PortCall.{PortCall}
use Rattle.sync_job.specs.declared.report.Told.{Told}
use Rattle.sync_job.specs.Asked.{Asked, asked_as}
use Rattle.sync_job.specs.Fronts.{IsHeard}
use Rattle.sync_job.specs.Kept.{refused_as}
use Rattle.sync_job.specs.Said.{Spoken, Says, NoTree, Tells, spoken, IsQuestion}
use Rattle.sync_job.specs.Telling.{IsOther, IsSaidAs, IsTreeFault, KeepsTelling, calls_by, calls_in, others_by, others_in}

pub zip_append : {A B : Type 0} (R : A → B → Type 0) (xs us : List A) (ys vs : List B) → AllZip R xs ys → AllZip R us vs → AllZip R (xs ++ us) (ys ++ vs)
zip_append R [] us [] vs a b = b
zip_append R [] us (y ∷ ys) vs a b = absurd a
zip_append R (x ∷ xs) us [] vs a b = absurd a
zip_append R (x ∷ xs) us (y ∷ ys) vs a b = (a.0, zip_append R xs us ys vs a.1 b)

pub all_append : {A : Type 0} (P : A → Type 0) (xs ys : List A) → AllByRecursion P xs → AllByRecursion P ys → AllByRecursion P (xs ++ ys)
all_append P [] ys a b = b
all_append P (x ∷ xs) ys a b = (a.0, all_append P xs ys a.1 b)

calls_append : (xs ys : List Spoken) → calls_in (xs ++ ys) ≡ calls_in xs ++ calls_in ys
calls_append [] ys = refl
calls_append (Says d o ∷ xs) ys = ap (λ zs. calls_by d o ++ zs) (calls_append xs ys) ∙ sym (append_assoc (calls_by d o) (calls_in xs) (calls_in ys))
calls_append (NoTree n o ∷ xs) ys = calls_append xs ys
calls_append (Tells t ∷ xs) ys = calls_append xs ys

others_append : (xs ys : List Spoken) → others_in (xs ++ ys) ≡ others_in xs ++ others_in ys
others_append [] ys = refl
others_append (Says d o ∷ xs) ys = ap (λ zs. others_by d o ++ zs) (others_append xs ys) ∙ sym (append_assoc (others_by d o) (others_in xs) (others_in ys))
others_append (NoTree n o ∷ xs) ys = ap (λ zs. o ∷ zs) (others_append xs ys)
others_append (Tells t ∷ xs) ys = others_append xs ys

tells_no_call : (ts : List Told) → calls_in (map Tells ts) ≡ []
tells_no_call [] = refl
tells_no_call (t ∷ ts) = tells_no_call ts

tells_no_other : (ts : List Told) → others_in (map Tells ts) ≡ []
tells_no_other [] = refl
tells_no_other (t ∷ ts) = tells_no_other ts

-- more is said, and this was asked meanwhile
says_more : {N : Type 0} (Asks : N → N → List Asked → Type 0) (before now : N) (old new more : List Spoken) (made : List Asked) → new ≡ old ++ more
    → ((first : N) (calls : List Asked) → Asks before first calls → Asks now first (calls ++ made)) → AllZip IsSaidAs made (calls_in more) → AllByRecursion IsOther (others_in more) → KeepsTelling Asks before now old new
says_more Asks before now old new more made adds asks said others = λ first base t. record {
  made = t.made ++ made;
  more = t.more ++ more;
  adds = adds ∙ ap (λ xs. xs ++ more) t.adds ∙ append_assoc base t.more more;
  asked = asks first t.made t.asked;
  said = subst (λ xs. AllZip IsSaidAs (t.made ++ made) xs) (sym (calls_append t.more more)) (zip_append IsSaidAs t.made made (calls_in t.more) (calls_in more) t.said said);
  others = subst (λ xs. AllByRecursion IsOther xs) (sym (others_append t.more more)) (all_append IsOther (others_in t.more) (others_in more) t.others others);
}

-- nothing is asked, and nothing is said
pub says_none : {N : Type 0} (Asks : N → N → List Asked → Type 0) (before now : N) (old new : List Spoken) → now ≡ before → new ≡ old → KeepsTelling Asks before now old new
says_none Asks before now old new m c = subst (λ x. KeepsTelling Asks before x old new) (sym m) (subst (λ xs. KeepsTelling Asks before before old xs) (sym c) (λ first base t. t))

-- the port is as before for what it was asked
pub asks_none : {N : Type 0} (Asks : N → N → List Asked → Type 0) (before now : N) (old new : List Spoken) → ((first : N) (calls : List Asked) → Asks before first calls → Asks now first calls) → new ≡ old → KeepsTelling Asks before now old new
asks_none Asks before now old new asks c = λ first base t. record {
  made = t.made;
  more = t.more;
  adds = c ∙ t.adds;
  asked = asks first t.made t.asked;
  said = t.said;
  others = t.others;
}

-- one after another
pub says_on : {N : Type 0} (Asks : N → N → List Asked → Type 0) (a b c : N) (x y z : List Spoken) → KeepsTelling Asks a b x y → KeepsTelling Asks b c y z → KeepsTelling Asks a c x z
says_on Asks a b c x y z p q = λ first base t. q first base (p first base t)

-- a question to the master

question_is : (d : Deed) (o : Outcome) → IsQuestion d → (calls_by d o ≡ []) × (others_by d o ≡ o ∷ [])
question_is (Calls call) o q = absurd q
question_is AsksIdentity o q = (refl, refl)
question_is AsksLatest o q = (refl, refl)
question_is (Fetches n) o q = (refl, refl)
question_is (FetchesProps n) o q = (refl, refl)
question_is Ends o q = absurd q

pub asks_master : {N : Type 0} (Asks : N → N → List Asked → Type 0) (m : N) (d : Deed) (said : PortCall) (o : Outcome) (old mid new : List PortCall) → IsQuestion d → spoken said ≡ Says d o
    → IsOther o → mid ≡ old → new ≡ mid ++ said ∷ [] → KeepsTelling Asks m m (map spoken old) (map spoken new)
asks_master Asks m d said o old mid new q is other stays adds =
    let no = question_is d o q in
    says_more Asks m m (map spoken old) (map spoken new) (Says d o ∷ []) []
    (ap (map spoken) (adds ∙ ap (λ xs. xs ++ said ∷ []) stays) ∙ map-append spoken old (said ∷ []) ∙ ap (λ e. map spoken old ++ e ∷ []) is)
    (λ first calls h. subst (Asks m first) (sym (append-nil calls)) h)
    (subst (λ xs. AllZip IsSaidAs [] (xs ++ [])) (sym no.0) tt)
    (subst (λ xs. AllByRecursion IsOther (xs ++ [])) (sym no.1) (other, tt))

-- a call of the mirror
pub asks_call : {N : Type 0} (Asks : N → N → List Asked → Type 0) (before mid now : N) (said : PortCall) (a : Answer) (call : Call) (result : Result Given SyncFault) (old : List Spoken) (items new : List PortCall)
    → mid ≡ before → map spoken items ≡ old → spoken said ≡ Says (Calls call) (outcome_of a) → IsHeard result a
    → ((f : N) (calls : List Asked) → Asks mid f calls → Asks now f (calls ++ asked_as call result ∷ [])) → new ≡ items ++ said ∷ [] → KeepsTelling Asks before now old (map spoken new)
asks_call Asks before mid now said a call result old items new same stays is heard asks adds =
    says_more Asks before now old (map spoken new) (Says (Calls call) (outcome_of a) ∷ []) (asked_as call result ∷ [])
    (ap (map spoken) adds ∙ map-append spoken items (said ∷ []) ∙ ap (λ xs. xs ++ spoken said ∷ []) stays ∙ ap (λ e. old ++ e ∷ []) is)
    (λ f calls h. asks f calls (subst (λ x. Asks x f calls) (sym same) h))
    (record { call = refl; answer = a; heard = heard; outcome = refl }, tt)
    tt

-- what is told of it
pub asks_told : {N : Type 0} (Asks : N → N → List Asked → Type 0) (before now : N) (old new : List Spoken) (ts : List Told) → now ≡ before → new ≡ old ++ map Tells ts → KeepsTelling Asks before now old new
asks_told Asks before now old new ts same adds =
    says_more Asks before now old new (map Tells ts) [] adds
    (λ first calls h. subst (λ x. Asks x first (calls ++ [])) (sym same) (subst (Asks before first) (sym (append-nil calls)) h))
    (subst (λ xs. AllZip IsSaidAs [] xs) (sym (tells_no_call ts)) tt)
    (subst (λ xs. AllByRecursion IsOther xs) (sym (tells_no_other ts)) tt)

-- a tree is refused

fault_other : (f : SyncFault) → IsTreeFault f → IsOther (refused_as f)
fault_other f (inl e) = subst (λ x. IsOther (refused_as x)) (sym e) (inl refl)
fault_other f (inr e) = subst (λ x. IsOther (refused_as x)) (sym e) (inr refl)

pub asks_tree : {N : Type 0} (Asks : N → N → List Asked → Type 0) (before now : N) (n : ℕ) (said : PortCall) (f : SyncFault) (old mid new : List PortCall) → ((first : N) (calls : List Asked) → Asks before first calls → Asks now first calls)
    → IsTreeFault f → spoken said ≡ NoTree n (refused_as f) → mid ≡ old → new ≡ mid ++ said ∷ [] → KeepsTelling Asks before now (map spoken old) (map spoken new)
asks_tree Asks before now n said f old mid new asks t is stays adds =
    says_more Asks before now (map spoken old) (map spoken new) (NoTree n (refused_as f) ∷ []) []
    (ap (map spoken) (adds ∙ ap (λ xs. xs ++ said ∷ []) stays) ∙ map-append spoken old (said ∷ []) ∙ ap (λ e. map spoken old ++ e ∷ []) is)
    (λ first calls h. subst (Asks now first) (sym (append-nil calls)) (asks first calls h))
    tt
    (fault_other f t, tt)
