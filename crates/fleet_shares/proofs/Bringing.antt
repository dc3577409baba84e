-- What a job commits to a mirror is what its master told it.
use Rattle.std.proofs.Common.{◌≡◌, ◌⊎◌, inl, inr, ℕ, zero, suc, ◌≤◌, ◌<◌, ◌+◌, ◌-◌, ◌==◌, Bool, true, false, List, [], ◌∷◌, Option, Some, None, Result, Ok, Err, IfOk, OnOk, if◌then◌else◌, refl, sym, ap, subst, ◌∙◌, arith}
use Rattle.std.proofs.lemmas.Bool.Decides.{nat_tests}
use Rattle.std.specs.List.{AllByRecursion, AllZip, range_with_len}
use Rattle.node_base.specs.Props.{PropMap}
use Rattle.dump_load.specs.declared.change.Change.{Change}
use Rattle.sync_core.specs.declared.answer.Answer.{Answer}
use Rattle.sync_core.specs.declared.answer.Answer.TheVariants as answer
use Rattle.sync_core.specs.declared.fault.SyncFault.{SyncFault}
use Rattle.sync_core.specs.declared.fault.SyncFault.TheVariants as fault
use Rattle.sync_core.specs.declared.reply.Reply.{Reply as Given}
use Rattle.sync_core.specs.declared.reply.Reply.TheVariants as given
use Rattle.sync_core.specs.declared.standing.Standing.{Standing}
use Rattle.sync_core.specs.Copies.{Outcome, outcome_of}
use Rattle.sync_core.specs.Copies as told
use Rattle.sync_core.specs.Deeds.{Deed, Calls, AsksIdentity, AsksLatest, Fetches, FetchesProps, Ends, called}
use Rattle.sync_core.specs.Jobs.{Job, Fetched, Order, Lawful, begun, last_fetch, with_fetched, done_by}
use Rattle.sync_core.specs.Mirror.{Call, Init, TakeLock, StealLock, ReleaseLock, SetCopying, Commit, PutProps, SetMerged, ClearCopying, Look}
use Rattle.sync_core.specs.declared.number.Number.{Number}
use Rattle.sync_core.specs.declared.number.Number.TheVariants.{Absent, Spelt}
use Rattle.sync_core.specs.SyncFollows.{IsSynced}
use Rattle.sync_job.specs.Asked.{Asked}
use Rattle.sync_job.specs.Fronts.{IsHeard}
use Rattle.sync_job.specs.Kept.{IsLook, refused_as}
use Rattle.sync_job.specs.Mirrors.{IsFit}
use Rattle.sync_job.specs.Questions.{Exchange, Identity, Latest, Fetch, FetchProps, IsSaidOf, deed_for, outcome_for, questions_in}
use Rattle.sync_job.specs.Runs.{AreRight, IsLooked, IsSaid, answer_of, hears, hears_all, puts_in}
use Rattle.sync_job.specs.Said.{Spoken, Says, NoTree, Tells}
use Rattle.sync_job.specs.Telling.{IsSaidAs, calls_in}
use Rattle.store_share.proofs.Showing.{some_is}

-- numbers

n_is : (n m : ℕ) → n == m ≡ true → n ≡ m
n_is n m h = grind (arith, nat_tests)

n_isnt : (i n h : ℕ) → i == n ≡ false → i ≤ n → n ≡ h + 1 → i ≤ h
n_isnt i n h e le next = grind (arith, nat_tests)

-- options and answers

none_is_some : {X A : Type 0} (x : X) → ◌≡◌ {A = Option X} None (Some x) → A
none_is_some x e = absurd (cc)

no_number : {A : Type 0} (n : ℕ) (x : Number) → x ≡ Absent → x ≡ Spelt n → A
no_number n x e f = absurd (let g : Absent ≡ Spelt n = sym e ∙ f in cc)

same_seen : (s t : Standing) → answer.Seen s ≡ answer.Seen t → s ≡ t
same_seen s t e = ap (λ a. of a) e
  where
    of : Answer → Standing
    of (answer.Seen x) = x
    of _ = s

-- a refused call is heard as refused
heard_err : {A : Type 0} (f : SyncFault) (s : Standing) → IsHeard (Err f) (answer.Seen s) → A
heard_err f s (inl e) = absurd (cc)
heard_err f s (inr (inl e)) = absurd (let x = e.0 in cc)
heard_err f s (inr (inr e)) = absurd (let x = e.0 in cc)

heard_done : {A : Type 0} (f : SyncFault) → IsHeard (Err f) answer.Done → A
heard_done f (inl e) = absurd (cc)
heard_done f (inr (inl e)) = absurd (let x = e.0 in cc)
heard_done f (inr (inr e)) = absurd (let x = e.0 in cc)

-- only a look is answered by how a mirror stands
only_look : (call : Call) → IsLook call → call ≡ Look
only_look Look h = refl
only_look (Init x y z) h = absurd h
only_look (TakeLock x) h = absurd h
only_look (StealLock x) h = absurd h
only_look ReleaseLock h = absurd h
only_look (SetCopying x) h = absurd h
only_look (Commit x y z) h = absurd h
only_look (PutProps x y) h = absurd h
only_look (SetMerged x) h = absurd h
only_look ClearCopying h = absurd h

-- the numbers of a range, and the puts of a run

abbrev IsIn : ℕ → List ℕ → Type 0
IsIn n [] = ⊥
IsIn n (x ∷ xs) = (x ≡ n) ⊎ IsIn n xs

in_range : (low count n : ℕ) → low ≤ n → n < low + count → IsIn n (range_with_len low count)
in_range low zero n from to = absurd (omega (arith, from, to))
in_range low (suc count) n from to = by (λ above. in_range (low + 1) count n above (omega (arith, to))) (low == n) refl
  where
    by : (low + 1 ≤ n → IsIn n (range_with_len (low + 1) count)) → (b : Bool) → low == n ≡ b → (low ≡ n) ⊎ IsIn n (range_with_len (low + 1) count)
    by rest true e = inl (n_is low n e)
    by rest false e = inr (rest (grind (arith, nat_tests)))

abbrev IsPut : ℕ → List Spoken → Type 0
IsPut n es = (props : PropMap) × IsSaid (Says (Calls (PutProps n props)) told.Done) es

put_later : (n : ℕ) (e : Spoken) (es : List Spoken) → IsPut n es → IsPut n (e ∷ es)
put_later n e es p = (p.0, inr p.1)

put_said : (n : ℕ) (es : List Spoken) → IsIn n (puts_in es) → IsPut n es
put_said n [] h = absurd h
put_said n (Says (Calls (PutProps m p)) told.Done ∷ es) (inl e) = (p, inl (ap (λ i. Says (Calls (PutProps i p)) told.Done) e))
put_said n (Says (Calls (PutProps m p)) told.Done ∷ es) (inr h) = put_later n _ es (put_said n es h)
put_said n (Says (Calls (PutProps m p)) (told.Seen s) ∷ es) h = put_later n _ es (put_said n es h)
put_said n (Says (Calls (PutProps m p)) (told.Identity u) ∷ es) h = put_later n _ es (put_said n es h)
put_said n (Says (Calls (PutProps m p)) (told.Latest i) ∷ es) h = put_later n _ es (put_said n es h)
put_said n (Says (Calls (PutProps m p)) (told.Revision s q) ∷ es) h = put_later n _ es (put_said n es h)
put_said n (Says (Calls (PutProps m p)) (told.Map q) ∷ es) h = put_later n _ es (put_said n es h)
put_said n (Says (Calls (PutProps m p)) (told.Refused i t) ∷ es) h = put_later n _ es (put_said n es h)
put_said n (Says (Calls (PutProps m p)) (told.Failed t) ∷ es) h = put_later n _ es (put_said n es h)
put_said n (Says (Calls (Init x y z)) o ∷ es) h = put_later n _ es (put_said n es h)
put_said n (Says (Calls (TakeLock x)) o ∷ es) h = put_later n _ es (put_said n es h)
put_said n (Says (Calls (StealLock x)) o ∷ es) h = put_later n _ es (put_said n es h)
put_said n (Says (Calls ReleaseLock) o ∷ es) h = put_later n _ es (put_said n es h)
put_said n (Says (Calls (SetCopying x)) o ∷ es) h = put_later n _ es (put_said n es h)
put_said n (Says (Calls (Commit x y z)) o ∷ es) h = put_later n _ es (put_said n es h)
put_said n (Says (Calls (SetMerged x)) o ∷ es) h = put_later n _ es (put_said n es h)
put_said n (Says (Calls ClearCopying) o ∷ es) h = put_later n _ es (put_said n es h)
put_said n (Says (Calls Look) o ∷ es) h = put_later n _ es (put_said n es h)
put_said n (Says AsksIdentity o ∷ es) h = put_later n _ es (put_said n es h)
put_said n (Says AsksLatest o ∷ es) h = put_later n _ es (put_said n es h)
put_said n (Says (Fetches x) o ∷ es) h = put_later n _ es (put_said n es h)
put_said n (Says (FetchesProps x) o ∷ es) h = put_later n _ es (put_said n es h)
put_said n (Says Ends o ∷ es) h = put_later n _ es (put_said n es h)
put_said n (NoTree x o ∷ es) h = put_later n _ es (put_said n es h)
put_said n (Tells t ∷ es) h = put_later n _ es (put_said n es h)

-- where the puts of a run are those of a range, each number of it was put
pub range_put : (low high : ℕ) (es : List Spoken) → puts_in es ≡ range_with_len low (high + 1 - low) → (n : ℕ) → low ≤ n → n ≤ high → IsPut n es
range_put low high es e n from to = put_said n es (subst (λ ns. IsIn n ns) (sym e) (in_range low (high + 1 - low) n from (omega (arith, from, to))))

-- what is known of a revision's set: in the master's row, and in the mirror's, which is seen up to there; of its properties at the
-- master; and which newest revision the master has told. `total` is all that was said
module _ (Theirs Ours : ℕ → List Change → Type 0) (Maps : ℕ → PropMap → Type 0) (Newest Reached : ℕ → Type 0) (reaches : (n : ℕ) (set : List Change) → Ours n set → Reached n) (total : List Spoken) where
  abbrev pub Both : ℕ → Type 0
  Both n = (set : List Change) × Theirs n set × Ours n set

  abbrev pub Among : Spoken → Type 0
  Among e = IsSaid e total

  -- what a call that was done has shown
  abbrev pub Shown : Call → Type 0
  Shown (Commit n set props) = Ours n set
  Shown _ = Unit {0}

  abbrev pub Looks : Given → Type 0
  Looks given.Done = Unit {0}
  Looks (given.Seen s) = Reached s.head

  pub record IsFine (a : Asked) : Type 0 where
    pub commit : OnOk a.result (Shown a.call)
    pub head : IfOk a.result Looks
    pub fit : IfOk a.result (IsFit a.call)

  -- what a master's answer has told
  abbrev pub IsTold : Exchange → Type 0
  IsTold (Latest (Ok n)) = Newest n
  IsTold (Fetch n trees (Ok x)) = Theirs n x.set × Maps n x.props
  IsTold (FetchProps n (Ok p)) = Maps n p
  IsTold _ = Unit {0}

  -- a look told a head, and above it, up to this number, the rows agree
  pub record Found (head : ℕ) : Type 0 where
    pub standing : Standing
    pub looked : IsLooked standing total
    pub risen : standing.head ≤ head
    pub reached : Reached head
    pub agree : (n : ℕ) → standing.head < n → n ≤ head → Both n

  -- what a job has heard: each set and map that was fetched last is the master's; the newest revision was told; and it knows of nothing
  -- merged, or has looked
  pub record Knows (job : Job) : Type 0 where
    pub fetched : (n : ℕ) (f : Fetched) (set : List Change) → last_fetch job.fetched n ≡ Some f → f.set ≡ Some set → Theirs n set
    pub maps : (n : ℕ) (f : Fetched) → last_fetch job.fetched n ≡ Some f → Maps n f.props
    pub latest : (n : ℕ) → job.latest ≡ Some n → Among (Says AsksLatest (told.Latest n)) × Newest n
    pub found : (job.merged ≡ Absent) ⊎ Found job.head

  -- a job that knows the same, but for its stage
  knows_as : (job now : Job) → now.fetched ≡ job.fetched → now.latest ≡ job.latest → now.merged ≡ job.merged → now.head ≡ job.head → Knows job → Knows now
  knows_as job now a b c d k = record {
    fetched = λ n f set l. k.fetched n f set (ap (λ fs. last_fetch fs n) (sym a) ∙ l);
    maps = λ n f l. k.maps n f (ap (λ fs. last_fetch fs n) (sym a) ∙ l);
    latest = λ n e. k.latest n (sym b ∙ e);
    found = found k.found;
  }
    where
      found : (job.merged ≡ Absent) ⊎ Found job.head → (now.merged ≡ Absent) ⊎ Found now.head
      found (inl e) = inl (c ∙ e)
      found (inr f) = inr (subst (λ h. Found h) (sym d) f)

  -- a revision more
  one_more : (head n : ℕ) → n ≡ head + 1 → Both n → Found head → Found n
  one_more head n next both f = record {
    standing = f.standing;
    looked = f.looked;
    risen = omega (arith, next, f.risen);
    reached = reaches n both.0 both.2;
    agree = λ i above within. by i above within (i == n) refl;
  }
    where
      by : (i : ℕ) → f.standing.head < i → i ≤ n → (b : Bool) → i == n ≡ b → Both i
      by i above within true e = subst (λ j. Both j) (sym (n_is i n e)) both
      by i above within false e = f.agree i above (n_isnt i n head e within next)

  -- a commit that the job may make carries what the master told
  commit_theirs : (job : Job) (n : ℕ) (set : List Change) (props : PropMap) → Lawful job (Commit n set props) → Knows job → Theirs n set
  commit_theirs job n set props l k = k.fetched n l.gives.it set l.gives.last l.gives.the_set

  -- a call is done
  done_knows : (job : Job) (call : Call) → Lawful job call → Shown call → Knows job → Knows (done_by job call)
  done_knows job (Init url uuid props) l s k = knows_as job (done_by job (Init url uuid props)) refl refl refl refl k
  done_knows job (TakeLock token) l s k = record { fetched = λ n f set e. none_is_some f e; maps = λ n f e. none_is_some f e; latest = k.latest; found = k.found }
  done_knows job (StealLock token) l s k = record { fetched = λ n f set e. none_is_some f e; maps = λ n f e. none_is_some f e; latest = k.latest; found = k.found }
  done_knows job ReleaseLock l s k = knows_as job (done_by job ReleaseLock) refl refl refl refl k
  done_knows job (SetCopying n) l s k = knows_as job (done_by job (SetCopying n)) refl refl refl refl k
  done_knows job (Commit n set props) l s k = record { fetched = k.fetched; maps = k.maps; latest = k.latest; found = found k.found }
    where
      found : (job.merged ≡ Absent) ⊎ Found job.head → (job.merged ≡ Absent) ⊎ Found n
      found (inl e) = inl e
      found (inr f) = inr (one_more job.head n l.copying.fits.2 (set, commit_theirs job n set props l k, s) f)
  done_knows job (PutProps n props) l s k = knows_as job (done_by job (PutProps n props)) refl refl refl refl k
  done_knows job (SetMerged n) l s k = record { fetched = k.fetched; maps = k.maps; latest = k.latest; found = found k.found }
    where
      found : (job.merged ≡ Absent) ⊎ Found job.head → (Spelt n ≡ Absent) ⊎ Found job.head
      found (inl e) = let before = l.committed.fits.2 in no_number before.0 job.merged e before.1
      found (inr f) = inr f
  done_knows job ClearCopying l s k = knows_as job (done_by job ClearCopying) refl refl refl refl k
  done_knows job Look l s k = k

  -- or refused
  refused_knows : (job : Job) (call : Call) → Knows job → Knows (called job call (answer.Refused fault.OutOfTurn))
  refused_knows job (Init x y z) k = knows_as job _ refl refl refl refl k
  refused_knows job (TakeLock x) k = knows_as job _ refl refl refl refl k
  refused_knows job (StealLock x) k = knows_as job _ refl refl refl refl k
  refused_knows job ReleaseLock k = knows_as job _ refl refl refl refl k
  refused_knows job (SetCopying x) k = k
  refused_knows job (Commit x y z) k = k
  refused_knows job (PutProps x y) k = k
  refused_knows job (SetMerged x) k = k
  refused_knows job ClearCopying k = k
  refused_knows job Look k = k

  done_shown : (call : Call) (result : Result Given SyncFault) → IsHeard result answer.Done → OnOk result (Shown call) → Shown call
  done_shown call (Ok r) h p = p
  done_shown call (Err f) h p = heard_done f h

  seen_look : (call : Call) (result : Result Given SyncFault) (s : Standing) → IsHeard result (answer.Seen s) → IfOk result (IsFit call) → call ≡ Look
  seen_look call (Ok given.Done) s h p = absurd (cc)
  seen_look call (Ok (given.Seen t)) s h p = only_look call p
  seen_look call (Err f) s h p = heard_err f s h

  seen_head : (result : Result Given SyncFault) (s : Standing) → IsHeard result (answer.Seen s) → IfOk result Looks → Reached s.head
  seen_head (Ok given.Done) s h p = absurd (cc)
  seen_head (Ok (given.Seen t)) s (inl e) p = subst (λ x. Reached x.head) (sym (same_seen s t e)) p
  seen_head (Ok (given.Seen t)) s (inr e) p = absurd (cc)
  seen_head (Err f) s h p = heard_err f s h

  -- a look has told a head
  look_knows : (job : Job) (call : Call) (s : Standing) → IsLooked s total → Reached s.head → Knows job → Knows (called job call (answer.Seen s))
  look_knows job call s looked reached k = record {
    fetched = k.fetched;
    maps = k.maps;
    latest = k.latest;
    found = inr (record { standing = s; looked = looked; risen = omega arith; reached = reached; agree = λ n above within. absurd (omega (arith, above, within)) });
  }

  -- the answer to a call is heard
  call_knows : (job : Job) (x : Asked) (a : Answer) → Lawful job x.call → IsFine x → IsHeard x.result a → Among (Says (Calls x.call) (outcome_of a)) → Knows job → Knows (called job x.call (answer_of (outcome_of a)))
  call_knows job x answer.Done l f h among k = done_knows job x.call l (done_shown x.call x.result h f.commit) k
  call_knows job x (answer.Seen s) l f h among k = look_knows job x.call s (subst (λ c. Among (Says (Calls c) (told.Seen s))) (seen_look x.call x.result s h f.fit) among) (seen_head x.result s h f.head) k
  call_knows job x (answer.Refused g) l f h among k = refused_knows job x.call k
  call_knows job x (answer.Failed text) l f h among k = refused_knows job x.call k
  call_knows job x (answer.Identity u) l f h among k = k
  call_knows job x (answer.Latest n) l f h among k = k
  call_knows job x (answer.Revision set props) l f h among k = k
  call_knows job x (answer.Map props) l f h among k = k

  said_knows : (job : Job) (call : Call) (o : Outcome) (x : Asked) → Lawful job call → IsFine x → (z : IsSaidAs x (record { call = call; outcome = o })) → Among (Says (Calls call) o) → Knows job → Knows (hears job (Says (Calls call) o))
  said_knows job call o x l f z among k =
      subst (λ c. Knows (called job c (answer_of o))) (sym z.call)
      (subst (λ o. Knows (called job x.call (answer_of o))) (sym z.outcome)
      (call_knows job x z.answer (subst (λ c. Lawful job c) z.call l) f z.heard (subst (λ c. Among (Says (Calls c) (outcome_of z.answer))) z.call (subst (λ o. Among (Says (Calls call) o)) z.outcome among)) k))

  -- what was fetched last
  fetched_knows : (job : Job) (n : ℕ) (set : Option (List Change)) (props : PropMap) → ((s : List Change) → set ≡ Some s → Theirs n s) → Maps n props → Knows job → Knows (with_fetched job n set props 0)
  fetched_knows job n set props is map k =
      record {
        fetched = λ i f s. elim (n == i) as (λ b. (n == i) ≡ b → (if b then Some new else last_fetch job.fetched i) ≡ Some f → f.set ≡ Some s → Theirs i s) [
          | true ↦ λ e l g. subst (λ j. Theirs j s) (n_is n i e) (is s (ap (λ (x : Fetched). x.set) (some_is new f l) ∙ g))
          | false ↦ λ e l g. k.fetched i f s l g
        ] refl;
        maps = λ i f. elim (n == i) as (λ b. (n == i) ≡ b → (if b then Some new else last_fetch job.fetched i) ≡ Some f → Maps i f.props) [
          | true ↦ λ e l. subst (λ j. Maps j f.props) (n_is n i e) (subst (λ p. Maps n p) (ap (λ (x : Fetched). x.props) (some_is new f l)) map)
          | false ↦ λ e l. k.maps i f l
        ] refl;
        latest = k.latest;
        found = k.found;
      }
    where
      new : Fetched
      new = record { number = n; set = set; props = props; moment = 0 }

  -- a master's answer is heard
  answer_knows : (job : Job) (x : Exchange) → IsTold x → Among (Says (deed_for x) (outcome_for x)) → Knows job → Knows (hears job (Says (deed_for x) (outcome_for x)))
  answer_knows job (Identity (Ok u)) a among k = knows_as job (hears job (Says AsksIdentity (told.Identity u))) refl refl refl refl k
  answer_knows job (Identity (Err f)) a among k = k
  answer_knows job (Latest (Ok n)) a among k = record {
    fetched = k.fetched;
    maps = k.maps;
    latest = λ i e. subst (λ j. Among (Says AsksLatest (told.Latest j)) × Newest j) (some_is n i e) (among, a);
    found = k.found;
  }
  answer_knows job (Latest (Err f)) a among k = k
  answer_knows job (Fetch n trees (Ok v)) a among k = fetched_knows job n (Some v.set) v.props (λ s e. subst (λ t. Theirs n t) (some_is v.set s e) a.0) a.1 k
  answer_knows job (Fetch n trees (Err f)) a among k = k
  answer_knows job (FetchProps n (Ok p)) a among k = fetched_knows job n None p (λ s e. none_is_some s e) a k
  answer_knows job (FetchProps n (Err f)) a among k = k

  memory_knows : (job : Job) (x : Exchange) → Knows job → Knows (hears job (Says (deed_for x) (refused_as fault.OutOfMemory)))
  memory_knows job (Identity r) k = k
  memory_knows job (Latest r) k = k
  memory_knows job (Fetch n trees r) k = k
  memory_knows job (FetchProps n r) k = k

  question_knows : (job : Job) (x : Exchange) (d : Deed) (o : Outcome) → d ≡ deed_for x → (o ≡ outcome_for x) ⊎ (o ≡ refused_as fault.OutOfMemory) → IsTold x → Among (Says d o) → Knows job → Knows (hears job (Says d o))
  question_knows job x d o e (inl f) a among k =
      subst (λ d. Knows (hears job (Says d o))) (sym e)
      (subst (λ o. Knows (hears job (Says (deed_for x) o))) (sym f)
      (answer_knows job x a (subst (λ d. Among (Says d (outcome_for x))) e (subst (λ o. Among (Says d o)) f among)) k))
  question_knows job x d o e (inr f) a among k =
      subst (λ d. Knows (hears job (Says d o))) (sym e) (subst (λ o. Knows (hears job (Says (deed_for x) o))) (sym f) (memory_knows job x k))

  -- a revision that was committed has the set that the master told, and the mirror shows
  pub record IsBoth (n : ℕ) (set : List Change) (props : PropMap) : Type 0 where
    pub theirs : Theirs n set
    pub ours : Ours n set
    pub map : Maps n props

  abbrev pub AreBoth : List Spoken → Type 0
  AreBoth said = (n : ℕ) (set : List Change) (props : PropMap) → IsSaid (Says (Calls (Commit n set props)) told.Done) said → IsBoth n set props

  -- and properties that were put are the master's
  abbrev pub AreMaps : List Spoken → Type 0
  AreMaps said = (n : ℕ) (props : PropMap) → IsSaid (Says (Calls (PutProps n props)) told.Done) said → Maps n props

  pub record Walked (job : Job) (said : List Spoken) : Type 0 where
    pub last : Knows (hears_all job said)
    pub commits : AreBoth said
    pub puts : AreMaps said

  abbrev call_in : Spoken → Call → Call
  call_in (Says (Calls c) o) call = c
  call_in _ call = call

  abbrev is_call : Spoken → Bool
  is_call (Says (Calls c) o) = true
  is_call _ = false

  abbrev outcome_in : Spoken → Outcome
  outcome_in (Says d o) = o
  outcome_in _ = told.Done

  -- another word is none
  no_call : {A : Type 0} (e : Spoken) (call : Call) → is_call e ≡ false → e ≡ Says (Calls call) told.Done → A
  no_call e call h f = absurd (let g : true ≡ false = sym (ap is_call f) ∙ h in cc)

  others_walk : (job : Job) (e : Spoken) (es : List Spoken) → is_call e ≡ false → Walked (hears job e) es → Walked job (e ∷ es)
  others_walk job e es h w = record { last = w.last; commits = by; puts = put }
    where
      by : AreBoth (e ∷ es)
      by n set props (inl f) = no_call e (Commit n set props) h f
      by n set props (inr s) = w.commits n set props s

      put : AreMaps (e ∷ es)
      put n props (inl f) = no_call e (PutProps n props) h f
      put n props (inr s) = w.puts n props s

  -- a call that was done is one that was asked, and so answered
  done_asked : (x : Asked) (call : Call) (o : Outcome) → IsFine x → IsSaidAs x (record { call = call; outcome = o }) → o ≡ told.Done → Shown call
  done_asked x call o f z e = subst (λ c. Shown c) (sym z.call) (by z.answer z.heard (sym z.outcome ∙ e))
    where
      by : (a : Answer) → IsHeard x.result a → outcome_of a ≡ told.Done → Shown x.call
      by answer.Done h d = done_shown x.call x.result h f.commit
      by (answer.Seen s) h d = absurd (cc)
      by (answer.Refused g) h d = absurd (cc)
      by (answer.Failed text) h d = absurd (cc)
      by (answer.Identity u) h d = absurd (cc)
      by (answer.Latest m) h d = absurd (cc)
      by (answer.Revision s p) h d = absurd (cc)
      by (answer.Map p) h d = absurd (cc)

  committed : (job : Job) (n : ℕ) (set : List Change) (props : PropMap) → Lawful job (Commit n set props) → Shown (Commit n set props) → Knows job → IsBoth n set props
  committed job n set props l shown k = record {
    theirs = commit_theirs job n set props l k;
    ours = shown;
    map = subst (λ p. Maps n p) l.gives.the_map (k.maps n l.gives.it l.gives.last);
  }

  put_again : (job : Job) (n : ℕ) (props : PropMap) → Lawful job (PutProps n props) → Knows job → Maps n props
  put_again job n props l k = subst (λ p. Maps n p) l.gives.the_map (k.maps n l.gives.it l.gives.last)

  calls_walk : (job : Job) (x : Asked) (call : Call) (o : Outcome) (es : List Spoken) → Lawful job call → IsFine x → IsSaidAs x (record { call = call; outcome = o }) → Knows job
      → Walked (hears job (Says (Calls call) o)) es → Walked job (Says (Calls call) o ∷ es)
  calls_walk job x call o es l f z k w = record { last = w.last; commits = by; puts = put }
    where
      by : AreBoth (Says (Calls call) o ∷ es)
      by n set props (inl e) =
          let same : call ≡ Commit n set props = ap (λ y. call_in y call) e in
          committed job n set props (subst (λ c. Lawful job c) same l) (subst (λ c. Shown c) same (done_asked x call o f z (ap outcome_in e))) k
      by n set props (inr s) = w.commits n set props s

      put : AreMaps (Says (Calls call) o ∷ es)
      put n props (inl e) = let same : call ≡ PutProps n props = ap (λ y. call_in y call) e in put_again job n props (subst (λ c. Lawful job c) same l) k
      put n props (inr s) = w.puts n props s

  -- all that was said
  pub walk : (N : Job → ℕ → Type 0) (es : List Spoken) (job : Job) (made : List Asked) (asked : List Exchange) → Knows job → ((e : Spoken) → IsSaid e es → Among e) → AreRight N job es
      → AllByRecursion IsFine made → AllZip IsSaidAs made (calls_in es) → AllByRecursion IsTold asked → AllZip IsSaidOf asked (questions_in es) → Walked job es
  walk N [] job made asked k i r f z a q = record { last = k; commits = λ n set props s. absurd s; puts = λ n props s. absurd s }
  walk N (Says (Calls call) o ∷ es) job [] asked k i r f z a q = absurd z
  walk N (Says (Calls call) o ∷ es) job (x ∷ made) asked k i r f z a q =
      calls_walk job x call o es r.0.0 f.0 z.0 k
      (walk N es (hears job (Says (Calls call) o)) made asked (said_knows job call o x r.0.0 f.0 z.0 (i (Says (Calls call) o) (inl refl)) k) (λ e s. i e (inr s)) r.1 f.1 z.1 a q)
  walk N (Says AsksIdentity o ∷ es) job made [] k i r f z a q = absurd q
  walk N (Says AsksIdentity o ∷ es) job made (x ∷ asked) k i r f z a q =
      others_walk job (Says AsksIdentity o) es refl (walk N es (hears job (Says AsksIdentity o)) made asked (question_knows job x AsksIdentity o q.0.deed q.0.outcome a.0 (i (Says AsksIdentity o) (inl refl)) k) (λ e s. i e (inr s)) r.1 f z a.1 q.1)
  walk N (Says AsksLatest o ∷ es) job made [] k i r f z a q = absurd q
  walk N (Says AsksLatest o ∷ es) job made (x ∷ asked) k i r f z a q =
      others_walk job (Says AsksLatest o) es refl (walk N es (hears job (Says AsksLatest o)) made asked (question_knows job x AsksLatest o q.0.deed q.0.outcome a.0 (i (Says AsksLatest o) (inl refl)) k) (λ e s. i e (inr s)) r.1 f z a.1 q.1)
  walk N (Says (Fetches n) o ∷ es) job made [] k i r f z a q = absurd q
  walk N (Says (Fetches n) o ∷ es) job made (x ∷ asked) k i r f z a q =
      others_walk job (Says (Fetches n) o) es refl (walk N es (hears job (Says (Fetches n) o)) made asked (question_knows job x (Fetches n) o q.0.deed q.0.outcome a.0 (i (Says (Fetches n) o) (inl refl)) k) (λ e s. i e (inr s)) r.1 f z a.1 q.1)
  walk N (Says (FetchesProps n) o ∷ es) job made [] k i r f z a q = absurd q
  walk N (Says (FetchesProps n) o ∷ es) job made (x ∷ asked) k i r f z a q =
      others_walk job (Says (FetchesProps n) o) es refl (walk N es (hears job (Says (FetchesProps n) o)) made asked (question_knows job x (FetchesProps n) o q.0.deed q.0.outcome a.0 (i (Says (FetchesProps n) o) (inl refl)) k) (λ e s. i e (inr s)) r.1 f z a.1 q.1)
  walk N (Says Ends o ∷ es) job made [] k i r f z a q = absurd q
  walk N (Says Ends o ∷ es) job made (x ∷ asked) k i r f z a q = others_walk job (Says Ends o) es refl (walk N es job made asked k (λ e s. i e (inr s)) r.1 f z a.1 q.1)
  walk N (NoTree n o ∷ es) job made asked k i r f z a q = others_walk job (NoTree n o) es refl (walk N es job made asked k (λ e s. i e (inr s)) r.1 f z a q)
  walk N (Tells t ∷ es) job made asked k i r f z a q = others_walk job (Tells t) es refl (walk N es job made asked k (λ e s. i e (inr s)) r.1 f z a q)

  -- a job begins
  pub begun_knows : (order : Order) → Knows (begun order)
  begun_knows order = record { fetched = λ n f set e. none_is_some f e; maps = λ n f e. none_is_some f e; latest = λ n e. none_is_some n e; found = inl refl }

  -- one that ends well has looked
  pub record Brought : Type 0 where
    pub latest : ℕ
    pub answered : Among (Says AsksLatest (told.Latest latest))
    pub newest : Newest latest
    pub head : ℕ
    pub all : latest ≤ head
    pub found : Found head

  pub brought : (job : Job) → Knows job → IsSynced job → Brought
  brought job k s = record { latest = s.latest; answered = (k.latest s.latest s.told).0; newest = (k.latest s.latest s.told).1; head = job.head; all = s.all; found = found k.found }
    where
      found : (job.merged ≡ Absent) ⊎ Found job.head → Found job.head
      found (inl e) = no_number job.head job.merged e s.idle.0
      found (inr f) = f
