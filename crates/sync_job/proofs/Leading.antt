-- What was said in a run leads its mirror, and so by what the master told.
use Rattle.std.proofs.Common.{◌≡◌, ◌⊎◌, inl, inr, ℕ, zero, suc, ◌≤◌, ◌<◌, ◌+◌, ◌==◌, true, false, List, [], ◌∷◌, ◌++◌, length, length-append, take, Option, Some, None, IsSome, IsSomeAnd, Result, Ok, Err, if◌then◌else◌, refl, sym, ap, subst, ◌∙◌, arith, append_assoc}
use Rattle.std.specs.List.{AllByRecursion, AllZip, slice_get}
use Rattle.std.proofs.Math.Seq.{take-append_seam}
use Rattle.std.proofs.lemmas.List.{map-append, length-map}
use Rattle.std.specs.Option.{option_map_or}
use Rattle.node_base.specs.Tree.{PathMap}
use Rattle.node_base.specs.Props.{PropMap}
use Rattle.dump_load.specs.declared.change.Change.{Change}
use Rattle.dump_load.specs.Trees.{Makes, effect_tree}
use Rattle.node_base.specs.declared.refusal.Refusal.TheVariants as device
use Rattle.repo_core.specs.Repository.{Repository, Revision, trees_of, tree_at, head_of}
use Rattle.repo_core.specs.Entries.{with_entry}
use Rattle.repo_core.specs.declared.entry.Entry.{Entry}
use Rattle.repo_core.specs.declared.entry.Entry.TheVariants.{Revised, Mapped}
use Rattle.sync_core.specs.declared.answer.Answer.{Answer}
use Rattle.sync_core.specs.declared.answer.Answer.TheVariants as answer
use Rattle.sync_core.specs.declared.fault.SyncFault.{SyncFault}
use Rattle.sync_core.specs.declared.fault.SyncFault.TheVariants as fault
use Rattle.sync_core.specs.declared.reply.Reply.{Reply as Given}
use Rattle.sync_core.specs.declared.reply.Reply.TheVariants as given
use Rattle.sync_core.specs.Copies.{Outcome, outcome_of}
use Rattle.sync_core.specs.Deeds.{Deed, Calls, AsksIdentity, AsksLatest, Fetches, FetchesProps, Ends, called, heard}
use Rattle.sync_core.specs.Going.{CommitsInOrder}
use Rattle.sync_core.specs.Jobs.{Job, Fetched, Order, Lawful, begun, last_fetch, with_fetched, done_by}
use Rattle.sync_core.specs.declared.standing.Standing.{Standing}
use Rattle.sync_core.specs.Mirror.{Reply, Call, Init, TakeLock, StealLock, ReleaseLock, SetCopying, Commit, PutProps, SetMerged, ClearCopying, Look, refusal, entry_of, standing_of, granted}
use Rattle.sync_core.specs.Mirror as reply
use Rattle.sync_core.proofs.Kept.{is_equal}
use Rattle.sync_job.specs.declared.master.Fetched.{Fetched as Gave}
use Rattle.sync_job.specs.Alone.{IsAnsweredBy, IsHeardOf, IsSetIn, IsSetOf}
use Rattle.sync_job.specs.Asked.{Asked}
use Rattle.sync_job.specs.Fronts.{IsHeard, counted_by, counted_in, replayed}
use Rattle.sync_job.specs.Kept.{refused_as}
use Rattle.sync_job.specs.Leading.{IsMirrorStep, IsLawful, HasFirstSets, StaysFirst, FrontsKeepSets, FrontsStayFirst, SyncedHasAll}
use Rattle.sync_job.specs.Mirrors.{MirrorNow, mirror_in, repository_by, Steps, Accepted, Doubted, Unchanged, IsAccepted}
use Rattle.sync_job.specs.Questions.{Exchange, Identity, Latest, Fetch, FetchProps, LeadsBy, IsSaidOf, deed_for, outcome_for, questions_in}
use Rattle.sync_job.specs.Runs.{answer_of, hears, hears_all}
use Rattle.sync_job.specs.Said.{Spoken, Says, NoTree, Tells}
use Rattle.sync_job.specs.Telling.{IsSaidAs, calls_in}
use Rattle.sync_job.specs.Worlds.{AreFirst}
use Rattle.sync_job.proofs.Fronts.{cause_isnt, refused_counts}
use Rattle.sync_job.proofs.Worlds.{some_is, one_more, rest_at, revisions_in}

-- lists of revisions

length-set : (x : List Revision) (n : ℕ) (p : PropMap) → length (with_entry x (Mapped n p)) ≡ length x
length-set [] n p = refl
length-set (r ∷ rs) zero p = refl
length-set (r ∷ rs) (suc n) p = ap suc (length-set rs n p)

trees-set : (x : List Revision) (n : ℕ) (p : PropMap) → trees_of (with_entry x (Mapped n p)) ≡ trees_of x
trees-set [] n p = refl
trees-set (r ∷ rs) zero p = refl
trees-set (r ∷ rs) (suc n) p = ap (λ ts. r.tree ∷ ts) (trees-set rs n p)

grows : (x : List Revision) (e : Option Entry) → length x ≤ length (option_map_or (with_entry x) e x)
grows x None = omega arith
grows x (Some (Mapped n p)) = omega (arith, length-set x n p)
grows x (Some (Revised n set p)) = omega (arith, length-append x (record { tree = effect_tree (trees_of x) set; props = p } ∷ []))

grows_by : (r : Repository) (call : Call) → length r.revisions ≤ length (repository_by r call).revisions
grows_by r call = subst (λ x. length r.revisions ≤ length x) (sym (revisions_in r (entry_of r.revisions call))) (grows r.revisions (entry_of r.revisions call))

-- a step of a mirror

step_grows : (m now : MirrorNow) (call : Call) (result : Result Given SyncFault) → Steps m 0 call result now → length m.repository.revisions ≤ length now.repository.revisions
step_grows m now call result (Accepted r e p) = subst (λ x. length m.repository.revisions ≤ length x.repository.revisions) (sym p.mirror) (grows_by m.repository call)
step_grows m now call result (Doubted e p) = subst (λ x. length m.repository.revisions ≤ length x.repository.revisions) (sym p.mirror) (omega arith)
step_grows m now call result (Unchanged f e cause same) = subst (λ x. length m.repository.revisions ≤ length x.repository.revisions) (sym same) (omega arith)

-- it leaves the repository, takes the call, or begins it and is in doubt
data OneStep (m now : MirrorNow) (call : Call) (counted : List Call) : Type 0 where
  Quiet : counted ≡ [] → now.repository ≡ m.repository → OneStep m now call counted
  Taken : counted ≡ call ∷ [] → refusal (mirror_in m) 0 call ≡ None → now.repository ≡ repository_by m.repository call → OneStep m now call counted
  InDoubt : counted ≡ call ∷ [] → refusal (mirror_in m) 0 call ≡ None → IsSome now.doubt → OneStep m now call counted

abbrev counted_of : Call → Answer → List Call
counted_of call a = counted_by (Calls call) (outcome_of a)

-- only a look is answered by how a mirror stands
only_look : (m : MirrorNow) (call : Call) (s : Standing) → reply.Seen s ≡ granted (mirror_in m) call → (call ≡ Look) × (s ≡ standing_of m.repository.revisions)
only_look m Look s e = (refl, seen_is e)
  where
    seen_is : reply.Seen s ≡ reply.Seen (standing_of m.repository.revisions) → s ≡ standing_of m.repository.revisions
    seen_is e = ap (λ r. by r) e
      where
        by : Reply → Standing
        by (reply.Seen x) = x
        by _ = s
only_look m (Init x y z) s e = absurd (cc)
only_look m (TakeLock x) s e = absurd (cc)
only_look m (StealLock x) s e = absurd (cc)
only_look m ReleaseLock s e = absurd (cc)
only_look m (SetCopying x) s e = absurd (cc)
only_look m (Commit x y z) s e = absurd (cc)
only_look m (PutProps x y) s e = absurd (cc)
only_look m (SetMerged x) s e = absurd (cc)
only_look m ClearCopying s e = absurd (cc)

one_step : (m now : MirrorNow) (call : Call) (result : Result Given SyncFault) (a : Answer) → Steps m 0 call result now → IsHeard result a → OneStep m now call (counted_of call a)
one_step m now call result a (Accepted r e p) h = by r p (subst (λ x. IsHeard x a) e h)
  where
    by : (r : Given) → IsAccepted m 0 call r now → IsHeard (Ok r) a → OneStep m now call (counted_of call a)
    by given.Done p h = Taken (ap (counted_of call) h) p.free (ap (λ x. x.repository) p.mirror)
    by (given.Seen s) p h =
        let look = only_look m call s p.reply in
        Quiet (seen h) (ap (λ x. x.repository) p.mirror ∙ ap (λ k. repository_by m.repository k) look.0)
      where
        seen : (a ≡ answer.Seen s) ⊎ (a ≡ answer.Refused fault.OutOfMemory) → counted_of call a ≡ []
        seen (inl e) = ap (counted_of call) e
        seen (inr e) = ap (counted_of call) e
one_step m now call result a (Doubted e p) h = InDoubt (by (subst (λ x. IsHeard x a) e h)) p.free (subst (λ x. IsSome x.doubt) (sym p.mirror) p.entry)
  where
    by : IsHeard (Err (fault.Other device.DeviceFailed)) a → counted_of call a ≡ call ∷ []
    by (inl e) = ap (counted_of call) e
    by (inr (inl e)) = absurd (let f : true ≡ false = e.1 in cc)
    by (inr (inr e)) = ap (counted_of call) e.0
one_step m now call result a (Unchanged f e cause same) h = Quiet (refused_counts call f a (cause_isnt m 0 call f cause) (subst (λ x. IsHeard x a) e h)) (ap (λ x. x.repository) same)

-- in doubt nothing counts any more

none_some : IsSome {T = Entry} None → ⊥
none_some e = cc

no_more : (m now : MirrorNow) (call : Call) (result : Result Given SyncFault) (a : Answer) → IsSome m.doubt → Steps m 0 call result now → IsHeard result a → (counted_of call a ≡ []) × IsSome now.doubt
no_more m now call result a d (Accepted r e p) h = by r p (subst (λ x. IsHeard x a) e h) p.working
  where
    by : (r : Given) → IsAccepted m 0 call r now → IsHeard (Ok r) a → (m.doubt ≡ None) ⊎ (call ≡ Look) → (counted_of call a ≡ []) × IsSome now.doubt
    by r p h (inl w) = absurd (none_some (subst IsSome w d))
    by given.Done p h (inr look) = absurd (let e : reply.Done ≡ reply.Seen (standing_of m.repository.revisions) = subst (λ k. reply.Done ≡ granted (mirror_in m) k) look p.reply in cc)
    by (given.Seen s) p (inl h) (inr look) = (ap (counted_of call) h, subst (λ x. IsSome x.doubt) (sym p.mirror) d)
    by (given.Seen s) p (inr h) (inr look) = (ap (counted_of call) h, subst (λ x. IsSome x.doubt) (sym p.mirror) d)
no_more m now call result a d (Doubted e p) h = absurd (none_some (subst IsSome p.working d))
no_more m now call result a d (Unchanged f e cause same) h = (refused_counts call f a (cause_isnt m 0 call f cause) (subst (λ x. IsHeard x a) e h), subst (λ x. IsSome x.doubt) (sym same) d)

none_counted : (said : List Spoken) (m now : MirrorNow) (made : List Asked) → IsSome m.doubt → LeadsBy IsMirrorStep m made now → AllZip IsSaidAs made (calls_in said) → counted_in said ≡ []
none_counted [] m now made d l z = refl
none_counted (Says (Calls call) o ∷ es) m now [] d l z = absurd z
none_counted (Says (Calls call) o ∷ es) m now (x ∷ xs) d l z =
    let one = no_more m l.0 x.call x.result z.0.answer d l.1 z.0.heard in
    let none : counted_by (Calls call) o ≡ [] = ap (λ k. counted_by (Calls k) o) z.0.call ∙ ap (counted_by (Calls x.call)) z.0.outcome ∙ one.0 in
    ap (λ cs. cs ++ counted_in es) none ∙ none_counted es l.0 now xs one.1 l.2 z.1
none_counted (Says AsksIdentity o ∷ es) m now made d l z = none_counted es m now made d l z
none_counted (Says AsksLatest o ∷ es) m now made d l z = none_counted es m now made d l z
none_counted (Says (Fetches n) o ∷ es) m now made d l z = none_counted es m now made d l z
none_counted (Says (FetchesProps n) o ∷ es) m now made d l z = none_counted es m now made d l z
none_counted (Says Ends o ∷ es) m now made d l z = none_counted es m now made d l z
none_counted (NoTree n o ∷ es) m now made d l z = none_counted es m now made d l z
none_counted (Tells t ∷ es) m now made d l z = none_counted es m now made d l z

head_is : (x y : Call) (xs ys : List Call) → x ∷ xs ≡ y ∷ ys → (x ≡ y) × (xs ≡ ys)
head_is x y xs ys e = (ap (λ l. first l) e, ap (λ l. others l) e)
  where
    first : List Call → Call
    first [] = x
    first (z ∷ zs) = z

    others : List Call → List Call
    others [] = []
    others (z ∷ zs) = zs

nil_front : (front rest : List Call) → front ++ rest ≡ [] → front ≡ []
nil_front [] rest e = refl
nil_front (x ∷ xs) rest e = absurd (cc)

heard_err : {A : Type 0} (f : SyncFault) (s : Standing) → IsHeard (Err f) (answer.Seen s) → A
heard_err f s (inl e) = absurd (cc)
heard_err f s (inr (inl e)) = absurd (let x = e.0 in cc)
heard_err f s (inr (inr e)) = absurd (let x = e.0 in cc)

heard_done : {A : Type 0} (f : SyncFault) → IsHeard (Err f) answer.Done → A
heard_done f (inl e) = absurd (cc)
heard_done f (inr (inl e)) = absurd (let x = e.0 in cc)
heard_done f (inr (inr e)) = absurd (let x = e.0 in cc)

-- a look shows the head
seen_is : (m now : MirrorNow) (call : Call) (result : Result Given SyncFault) (s : Standing) → Steps m 0 call result now → IsHeard result (answer.Seen s) → s ≡ standing_of m.repository.revisions
seen_is m now call result s (Accepted r e p) h = by r p (subst (λ x. IsHeard x (answer.Seen s)) e h)
  where
    same : (t : Standing) → answer.Seen s ≡ answer.Seen t → s ≡ t
    same t e = ap (λ a. out a) e
      where
        out : Answer → Standing
        out (answer.Seen x) = x
        out _ = s

    by : (r : Given) → IsAccepted m 0 call r now → IsHeard (Ok r) (answer.Seen s) → s ≡ standing_of m.repository.revisions
    by given.Done p h = absurd (cc)
    by (given.Seen t) p (inl h) = same t h ∙ (only_look m call t p.reply).1
    by (given.Seen t) p (inr h) = absurd (cc)
seen_is m now call result s (Doubted e p) h = heard_err _ s (subst (λ x. IsHeard x (answer.Seen s)) e h)
seen_is m now call result s (Unchanged f e cause same) h = heard_err f s (subst (λ x. IsHeard x (answer.Seen s)) e h)

-- a call is heard as done only where it was accepted
done_is : (m now : MirrorNow) (call : Call) (result : Result Given SyncFault) → Steps m 0 call result now → IsHeard result answer.Done → (refusal (mirror_in m) 0 call ≡ None) × (now.repository ≡ repository_by m.repository call)
done_is m now call result (Accepted r e p) h = (p.free, ap (λ x. x.repository) p.mirror)
done_is m now call result (Doubted e p) h = heard_done _ (subst (λ x. IsHeard x answer.Done) e h)
done_is m now call result (Unchanged f e cause same) h = heard_done f (subst (λ x. IsHeard x answer.Done) e h)

-- what a job has heard of its mirror and of its master: the head that it knows isn't above the mirror's, the newest revision is that
-- repository's, and of each set that was fetched S is so
record Knows (S : ℕ → List Change → Type 0) (source : Repository) (job : Job) (m : MirrorNow) : Type 0 where
  pub head : job.head ≤ head_of m.repository.revisions
  pub latest : (n : ℕ) → job.latest ≡ Some n → n ≡ head_of source.revisions
  pub fetched : (n : ℕ) (f : Fetched) (set : List Change) → last_fetch job.fetched n ≡ Some f → f.set ≡ Some set → S n set
  pub some : 0 < length m.repository.revisions

none_is_some : {X A : Type 0} (x : X) → ◌≡◌ {A = Option X} None (Some x) → A
none_is_some x e = absurd (cc)

-- what a job knows of a master of whose answers T is so: each is this repository's, and S is so of each set
module _ (source : Repository) (T : Exchange → Type 0) (S : ℕ → List Change → Type 0) (is_heard : (x : Exchange) → T x → IsHeardOf source x) (gives : (n : ℕ) (trees : List PathMap) (v : Gave) → T (Fetch n trees (Ok v)) → S n v.set) where
  -- a mirror that has grown
  still_knows : (job : Job) (m now : MirrorNow) → length m.repository.revisions ≤ length now.repository.revisions → Knows S source job m → Knows S source job now
  still_knows job m now more k = record { head = omega (arith, k.head, more); latest = k.latest; fetched = k.fetched; some = omega (arith, k.some, more) }

  -- an accepted call
  done_knows : CommitsInOrder → (job : Job) (m now : MirrorNow) (call : Call) → refusal (mirror_in m) 0 call ≡ None → now.repository ≡ repository_by m.repository call → Knows S source job m → Knows S source (done_by job call) now
  done_knows commits job m now call free is k = by call free is
    where
      grown : (call : Call) → now.repository ≡ repository_by m.repository call → length m.repository.revisions ≤ length now.repository.revisions
      grown call e = subst (λ r. length m.repository.revisions ≤ length r.revisions) (sym e) (grows_by m.repository call)

      by : (call : Call) → refusal (mirror_in m) 0 call ≡ None → now.repository ≡ repository_by m.repository call → Knows S source (done_by job call) now
      by (Init url uuid props) f e = let s = still_knows job m now (grown (Init url uuid props) e) k in record { head = s.head; latest = s.latest; fetched = s.fetched; some = s.some }
      by (TakeLock token) f e = let s = still_knows job m now (grown (TakeLock token) e) k in record { head = s.head; latest = s.latest; fetched = λ n g set l. none_is_some g l; some = s.some }
      by (StealLock token) f e = let s = still_knows job m now (grown (StealLock token) e) k in record { head = s.head; latest = s.latest; fetched = λ n g set l. none_is_some g l; some = s.some }
      by ReleaseLock f e = let s = still_knows job m now (grown ReleaseLock e) k in record { head = s.head; latest = s.latest; fetched = s.fetched; some = s.some }
      by (SetCopying n) f e = let s = still_knows job m now (grown (SetCopying n) e) k in record { head = s.head; latest = s.latest; fetched = s.fetched; some = s.some }
      by (Commit n set props) f e =
          let s = still_knows job m now (grown (Commit n set props) e) k in
          let next : n ≡ length m.repository.revisions = commits (mirror_in m) 0 n set props k.some f in
          let long : length now.repository.revisions ≡ length m.repository.revisions + 1 = ap (λ r. length r.revisions) e ∙ length-append m.repository.revisions _ in
          record { head = omega (arith, next, long); latest = s.latest; fetched = s.fetched; some = s.some }
      by (PutProps n props) f e = let s = still_knows job m now (grown (PutProps n props) e) k in record { head = s.head; latest = s.latest; fetched = s.fetched; some = s.some }
      by (SetMerged n) f e = let s = still_knows job m now (grown (SetMerged n) e) k in record { head = s.head; latest = s.latest; fetched = s.fetched; some = s.some }
      by ClearCopying f e = let s = still_knows job m now (grown ClearCopying e) k in record { head = s.head; latest = s.latest; fetched = s.fetched; some = s.some }
      by Look f e = still_knows job m now (grown Look e) k

  refused_knows : (job : Job) (m : MirrorNow) (call : Call) → Knows S source job m → Knows S source (called job call (answer.Refused fault.OutOfTurn)) m
  refused_knows job m (Init x y z) k = record { head = k.head; latest = k.latest; fetched = k.fetched; some = k.some }
  refused_knows job m (TakeLock x) k = record { head = k.head; latest = k.latest; fetched = k.fetched; some = k.some }
  refused_knows job m (StealLock x) k = record { head = k.head; latest = k.latest; fetched = k.fetched; some = k.some }
  refused_knows job m ReleaseLock k = record { head = k.head; latest = k.latest; fetched = k.fetched; some = k.some }
  refused_knows job m (SetCopying x) k = k
  refused_knows job m (Commit x y z) k = k
  refused_knows job m (PutProps x y) k = k
  refused_knows job m (SetMerged x) k = k
  refused_knows job m ClearCopying k = k
  refused_knows job m Look k = k

  -- the answer to a call is heard
  call_knows : CommitsInOrder → (job : Job) (m now : MirrorNow) (call : Call) (result : Result Given SyncFault) (a : Answer) → Steps m 0 call result now → IsHeard result a → Knows S source job m → Knows S source (called job call (answer_of (outcome_of a))) now
  call_knows commits job m now call result answer.Done s h k = let d = done_is m now call result s h in done_knows commits job m now call d.0 d.1 k
  call_knows commits job m now call result (answer.Seen r) s h k =
      let g = still_knows job m now (step_grows m now call result s) k in
      let is = seen_is m now call result r s h in
      let high : r.head ≡ head_of m.repository.revisions = ap (λ x. x.head) is in
      record { head = omega (arith, high, step_grows m now call result s); latest = g.latest; fetched = g.fetched; some = g.some }
  call_knows commits job m now call result (answer.Refused f) s h k = refused_knows job now call (still_knows job m now (step_grows m now call result s) k)
  call_knows commits job m now call result (answer.Failed text) s h k = refused_knows job now call (still_knows job m now (step_grows m now call result s) k)
  call_knows commits job m now call result (answer.Identity u) s h k = still_knows job m now (step_grows m now call result s) k
  call_knows commits job m now call result (answer.Latest n) s h k = still_knows job m now (step_grows m now call result s) k
  call_knows commits job m now call result (answer.Revision set props) s h k = still_knows job m now (step_grows m now call result s) k
  call_knows commits job m now call result (answer.Map props) s h k = still_knows job m now (step_grows m now call result s) k

  -- what was fetched last
  fetched_knows : (job : Job) (m : MirrorNow) (n : ℕ) (set : Option (List Change)) (props : PropMap) → ((s : List Change) → set ≡ Some s → S n s) → Knows S source job m → Knows S source (with_fetched job n set props 0) m
  fetched_knows job m n set props is k =
      record {
        head = k.head;
        latest = k.latest;
        fetched = λ i f s. elim (n == i) as (λ b. (n == i) ≡ b → (if b then Some new else last_fetch job.fetched i) ≡ Some f → f.set ≡ Some s → S i s) [
          | true ↦ λ e l g. subst (λ j. S j s) (is_equal n i e) (is s (ap (λ (x : Fetched). x.set) (some_is new f l) ∙ g))
          | false ↦ λ e l g. k.fetched i f s l g
        ] refl;
        some = k.some;
      }
    where
      new : Fetched
      new = record { number = n; set = set; props = props; moment = 0 }

  -- a master's answer is heard
  answer_knows : (job : Job) (m : MirrorNow) (x : Exchange) → T x → Knows S source job m → Knows S source (hears job (Says (deed_for x) (outcome_for x))) m
  answer_knows job m (Identity (Ok u)) a k = record { head = k.head; latest = k.latest; fetched = k.fetched; some = k.some }
  answer_knows job m (Identity (Err f)) a k = k
  answer_knows job m (Latest (Ok n)) a k = record { head = k.head; latest = λ i e. sym (some_is n i e) ∙ is_heard (Latest (Ok n)) a; fetched = k.fetched; some = k.some }
  answer_knows job m (Latest (Err f)) a k = k
  answer_knows job m (Fetch n trees (Ok v)) a k = fetched_knows job m n (Some v.set) v.props (λ s e. subst (λ t. S n t) (some_is v.set s e) (gives n trees v a)) k
  answer_knows job m (Fetch n trees (Err f)) a k = k
  answer_knows job m (FetchProps n (Ok p)) a k = fetched_knows job m n None p (λ s e. none_is_some s e) k
  answer_knows job m (FetchProps n (Err f)) a k = k

  memory_knows : (job : Job) (m : MirrorNow) (x : Exchange) → Knows S source job m → Knows S source (hears job (Says (deed_for x) (refused_as fault.OutOfMemory))) m
  memory_knows job m (Identity r) k = k
  memory_knows job m (Latest r) k = k
  memory_knows job m (Fetch n trees r) k = k
  memory_knows job m (FetchProps n r) k = k

  question_knows : (job : Job) (m : MirrorNow) (x : Exchange) (d : Deed) (o : Outcome) → d ≡ deed_for x → (o ≡ outcome_for x) ⊎ (o ≡ refused_as fault.OutOfMemory) → T x → Knows S source job m → Knows S source (hears job (Says d o)) m
  question_knows job m x d o e (inl f) a k = subst (λ d. Knows S source (hears job (Says d o)) m) (sym e) (subst (λ o. Knows S source (hears job (Says (deed_for x) o)) m) (sym f) (answer_knows job m x a k))
  question_knows job m x d o e (inr f) a k = subst (λ d. Knows S source (hears job (Says d o)) m) (sym e) (subst (λ o. Knows S source (hears job (Says (deed_for x) o)) m) (sym f) (memory_knows job m x k))

  -- and a call's
  said_knows : CommitsInOrder → (job : Job) (m now : MirrorNow) (call : Call) (o : Outcome) (x : Asked) → IsMirrorStep m x now → (z : IsSaidAs x (record { call = call; outcome = o })) → Knows S source job m → Knows S source (hears job (Says (Calls call) o)) now
  said_knows commits job m now call o x s z k =
      subst (λ c. Knows S source (called job c (answer_of o)) now) (sym z.call)
      (subst (λ o. Knows S source (called job x.call (answer_of o)) now) (sym z.outcome) (call_knows commits job m now x.call x.result z.answer s z.heard k))

  -- all that was said
  all_know : CommitsInOrder → (said : List Spoken) (job : Job) (m now : MirrorNow) (made : List Asked) (told : List Exchange) → Knows S source job m
      → LeadsBy IsMirrorStep m made now → AllZip IsSaidAs made (calls_in said) → AllByRecursion T told → AllZip IsSaidOf told (questions_in said) → Knows S source (hears_all job said) now
  all_know commits [] job m now [] told k l z a q = subst (λ x. Knows S source job x) (sym l) k
  all_know commits [] job m now (x ∷ xs) told k l z a q = absurd z
  all_know commits (Says (Calls call) o ∷ es) job m now [] told k l z a q = absurd z
  all_know commits (Says (Calls call) o ∷ es) job m now (x ∷ xs) told k l z a q = all_know commits es (hears job (Says (Calls call) o)) l.0 now xs told (said_knows commits job m l.0 call o x l.1 z.0 k) l.2 z.1 a q
  all_know commits (Says AsksIdentity o ∷ es) job m now made [] k l z a q = absurd q
  all_know commits (Says AsksIdentity o ∷ es) job m now made (x ∷ xs) k l z a q = all_know commits es (hears job (Says AsksIdentity o)) m now made xs (question_knows job m x AsksIdentity o q.0.deed q.0.outcome a.0 k) l z a.1 q.1
  all_know commits (Says AsksLatest o ∷ es) job m now made [] k l z a q = absurd q
  all_know commits (Says AsksLatest o ∷ es) job m now made (x ∷ xs) k l z a q = all_know commits es (hears job (Says AsksLatest o)) m now made xs (question_knows job m x AsksLatest o q.0.deed q.0.outcome a.0 k) l z a.1 q.1
  all_know commits (Says (Fetches n) o ∷ es) job m now made [] k l z a q = absurd q
  all_know commits (Says (Fetches n) o ∷ es) job m now made (x ∷ xs) k l z a q = all_know commits es (hears job (Says (Fetches n) o)) m now made xs (question_knows job m x (Fetches n) o q.0.deed q.0.outcome a.0 k) l z a.1 q.1
  all_know commits (Says (FetchesProps n) o ∷ es) job m now made [] k l z a q = absurd q
  all_know commits (Says (FetchesProps n) o ∷ es) job m now made (x ∷ xs) k l z a q = all_know commits es (hears job (Says (FetchesProps n) o)) m now made xs (question_knows job m x (FetchesProps n) o q.0.deed q.0.outcome a.0 k) l z a.1 q.1
  all_know commits (Says Ends o ∷ es) job m now made [] k l z a q = absurd q
  all_know commits (Says Ends o ∷ es) job m now made (x ∷ xs) k l z a q = all_know commits es (hears job (Says Ends o)) m now made xs k l z a.1 q.1
  all_know commits (NoTree n o ∷ es) job m now made told k l z a q = all_know commits es job m now made told k l z a q
  all_know commits (Tells t ∷ es) job m now made told k l z a q = all_know commits es job m now made told k l z a q

  -- a job begins
  begun_knows : (order : Order) (m : MirrorNow) → 0 < length m.repository.revisions → Knows S source (begun order) m
  begun_knows order m some = record { head = omega arith; latest = λ n e. none_is_some n e; fetched = λ n f set l. none_is_some f l; some = some }

  -- what is so of the mirror's repository, and stays so with each call that the job may make, is so after each front of the calls
  -- that count
  module _ (P : Repository → Type 0) (stays : (job : Job) (m : MirrorNow) (call : Call) → Knows S source job m → Lawful job call → refusal (mirror_in m) 0 call ≡ None → P m.repository → P (repository_by m.repository call)) where
    fronts_so : CommitsInOrder → (said : List Spoken) (job : Job) (m now : MirrorNow) (made : List Asked) (told : List Exchange) → Knows S source job m → IsLawful job said
        → LeadsBy IsMirrorStep m made now → AllZip IsSaidAs made (calls_in said) → AllByRecursion T told → AllZip IsSaidOf told (questions_in said)
        → P m.repository → (front rest : List Call) → front ++ rest ≡ counted_in said → P (replayed m.repository front)
    fronts_so commits said job m now made told k r l z a q f [] rest e = f
    fronts_so commits [] job m now made told k r l z a q f (c ∷ cs) rest e = absurd (cc)
    fronts_so commits (Says (Calls call) o ∷ es) job m now [] told k r l z a q f (c ∷ cs) rest e = absurd z
    fronts_so commits (Says (Calls call) o ∷ es) job m now (x ∷ xs) told k r l z a q f (c ∷ cs) rest e =
        by
        (λ front g h. fronts_so commits es (hears job (Says (Calls call) o)) l.0 now xs told (said_knows commits job m l.0 call o x l.1 z.0 k) r.1 l.2 z.1 a q g front rest h)
        (one_step m l.0 x.call x.result z.0.answer l.1 z.0.heard)
      where
        counted : counted_by (Calls call) o ≡ counted_of x.call z.0.answer
        counted = ap (λ k. counted_by (Calls k) o) z.0.call ∙ ap (counted_by (Calls x.call)) z.0.outcome

        lawful : Lawful job x.call
        lawful = subst (λ c. Lawful job c) z.0.call r.0.0

        Goes : Type 0
        Goes = (front : List Call) → P l.0.repository → front ++ rest ≡ counted_in es → P (replayed l.0.repository front)

        by : Goes → OneStep m l.0 x.call (counted_of x.call z.0.answer) → P (replayed m.repository (c ∷ cs))
        by more (Quiet none same) =
            subst (λ y. P (replayed y (c ∷ cs))) same (more (c ∷ cs) (subst P (sym same) f) (e ∙ ap (λ ys. ys ++ counted_in es) (counted ∙ none)))
        by more (Taken one free is) =
            let h = head_is c x.call (cs ++ rest) (counted_in es) (e ∙ ap (λ ys. ys ++ counted_in es) (counted ∙ one)) in
            let later : P (replayed l.0.repository cs) = more cs (subst P (sym is) (stays job m x.call k lawful free f)) h.1 in
            subst (λ d. P (replayed (repository_by m.repository d) cs)) (sym h.0) (subst (λ y. P (replayed y cs)) is later)
        by more (InDoubt one free d) =
            let h = head_is c x.call (cs ++ rest) (counted_in es) (e ∙ ap (λ ys. ys ++ counted_in es) (counted ∙ one)) in
            let none : cs ≡ [] = nil_front cs rest (h.1 ∙ none_counted es l.0 now xs d l.2 z.1) in
            subst (λ ds. P (replayed m.repository (c ∷ ds))) (sym none) (subst (λ d. P (repository_by m.repository d)) (sym h.0) (stays job m x.call k lawful free f))
    fronts_so commits (Says AsksIdentity o ∷ es) job m now made [] k r l z a q f (c ∷ cs) rest e = absurd q
    fronts_so commits (Says AsksIdentity o ∷ es) job m now made (x ∷ xs) k r l z a q f (c ∷ cs) rest e =
        fronts_so commits es (hears job (Says AsksIdentity o)) m now made xs (question_knows job m x AsksIdentity o q.0.deed q.0.outcome a.0 k) r.1 l z a.1 q.1 f (c ∷ cs) rest e
    fronts_so commits (Says AsksLatest o ∷ es) job m now made [] k r l z a q f (c ∷ cs) rest e = absurd q
    fronts_so commits (Says AsksLatest o ∷ es) job m now made (x ∷ xs) k r l z a q f (c ∷ cs) rest e =
        fronts_so commits es (hears job (Says AsksLatest o)) m now made xs (question_knows job m x AsksLatest o q.0.deed q.0.outcome a.0 k) r.1 l z a.1 q.1 f (c ∷ cs) rest e
    fronts_so commits (Says (Fetches n) o ∷ es) job m now made [] k r l z a q f (c ∷ cs) rest e = absurd q
    fronts_so commits (Says (Fetches n) o ∷ es) job m now made (x ∷ xs) k r l z a q f (c ∷ cs) rest e =
        fronts_so commits es (hears job (Says (Fetches n) o)) m now made xs (question_knows job m x (Fetches n) o q.0.deed q.0.outcome a.0 k) r.1 l z a.1 q.1 f (c ∷ cs) rest e
    fronts_so commits (Says (FetchesProps n) o ∷ es) job m now made [] k r l z a q f (c ∷ cs) rest e = absurd q
    fronts_so commits (Says (FetchesProps n) o ∷ es) job m now made (x ∷ xs) k r l z a q f (c ∷ cs) rest e =
        fronts_so commits es (hears job (Says (FetchesProps n) o)) m now made xs (question_knows job m x (FetchesProps n) o q.0.deed q.0.outcome a.0 k) r.1 l z a.1 q.1 f (c ∷ cs) rest e
    fronts_so commits (Says Ends o ∷ es) job m now made [] k r l z a q f (c ∷ cs) rest e = absurd q
    fronts_so commits (Says Ends o ∷ es) job m now made (x ∷ xs) k r l z a q f (c ∷ cs) rest e = fronts_so commits es job m now made xs k r.1 l z a.1 q.1 f (c ∷ cs) rest e
    fronts_so commits (NoTree n o ∷ es) job m now made told k r l z a q f (c ∷ cs) rest e = fronts_so commits es job m now made told k r.1 l z a q f (c ∷ cs) rest e
    fronts_so commits (Tells t ∷ es) job m now made told k r l z a q f (c ∷ cs) rest e = fronts_so commits es job m now made told k r.1 l z a q f (c ∷ cs) rest e

pub synced_has_all : CommitsInOrder → SyncedHasAll
synced_has_all commits source order said m now told led some synced =
    let k = all_know source (IsHeardOf source) (IsSetIn source) (λ x h. h) (λ n trees v h. h.0) commits said (begun order) m now led.made told.made (begun_knows source (IsHeardOf source) (IsSetIn source) (λ x h. h) (λ n trees v h. h.0) order m some) led.steps led.told told.each told.told in
    let newest : synced.latest ≡ head_of source.revisions = k.latest synced.latest synced.told in
    omega (arith, newest, synced.all, k.head, k.some)

-- the trees

stays_first : (source : Repository) (r : Repository) → AreFirst (trees_of r.revisions) (trees_of source.revisions) → StaysFirst source r r
stays_first source r f = record { first = f; no_fewer = omega arith }

-- the source's tree of the number after those of the mirror's
next_tree : (source r : Repository) (n : ℕ) (set : List Change) → n ≡ length r.revisions → IsSetIn source n set → AreFirst (trees_of r.revisions) (trees_of source.revisions) → AreFirst (trees_of r.revisions ++ effect_tree (trees_of r.revisions) set ∷ []) (trees_of source.revisions)
next_tree source r n set e is f = by (tree_at source.revisions n) refl is
  where
    long : n ≡ length (trees_of r.revisions)
    long = e ∙ sym (length-map r.revisions (λ x. x.tree))

    front : take n (trees_of source.revisions) ≡ trees_of r.revisions
    front = ap (λ i. take i (trees_of source.revisions)) long ∙ ap (λ ts. take (length (trees_of r.revisions)) ts) (sym f.1) ∙ take-append_seam (trees_of r.revisions) f.0

    by : (t : Option PathMap) → tree_at source.revisions n ≡ t → IsSomeAnd t (Makes (take n (trees_of source.revisions)) set) → AreFirst (trees_of r.revisions ++ effect_tree (trees_of r.revisions) set ∷ []) (trees_of source.revisions)
    by None at h = absurd h
    by (Some t) at h =
        let same : t ≡ effect_tree (trees_of r.revisions) set = h.effect ∙ ap (λ ts. effect_tree ts set) front in
        subst (λ x. AreFirst (trees_of r.revisions ++ x ∷ []) (trees_of source.revisions)) same (one_more source.revisions (trees_of r.revisions) n t long at f)

-- a call that the job may make leaves the source's first trees
call_first : CommitsInOrder → (source begin : Repository) (job : Job) (m : MirrorNow) (call : Call) → Knows (IsSetIn source) source job m → Lawful job call → refusal (mirror_in m) 0 call ≡ None → StaysFirst source begin m.repository → StaysFirst source begin (repository_by m.repository call)
call_first commits source begin job m call k lawful free f = record { first = by call lawful free; no_fewer = omega (arith, f.no_fewer, grows_by m.repository call) }
  where
    mapped : (n : ℕ) (p : PropMap) → AreFirst (trees_of (with_entry m.repository.revisions (Mapped n p))) (trees_of source.revisions)
    mapped n p = subst (λ ts. AreFirst ts (trees_of source.revisions)) (sym (trees-set m.repository.revisions n p)) f.first

    by : (call : Call) → Lawful job call → refusal (mirror_in m) 0 call ≡ None → AreFirst (trees_of (repository_by m.repository call).revisions) (trees_of source.revisions)
    by (Init url uuid props) l e = mapped _ _
    by (TakeLock token) l e = mapped _ _
    by (StealLock token) l e = mapped _ _
    by ReleaseLock l e = mapped _ _
    by (SetCopying n) l e = mapped _ _
    by (Commit n set props) l e =
        let g = l.gives in
        subst (λ ts. AreFirst ts (trees_of source.revisions)) (sym (map-append (λ (x : Revision). x.tree) m.repository.revisions _))
        (next_tree source m.repository n set (commits (mirror_in m) 0 n set props k.some e) (k.fetched n g.it set g.last g.the_set) f.first)
    by (PutProps n props) l e = mapped _ _
    by (SetMerged n) l e = mapped _ _
    by ClearCopying l e = mapped _ _
    by Look l e = f.first

pub fronts_stay_first : CommitsInOrder → FrontsStayFirst
fronts_stay_first commits source order said m now right told led some f front rest e =
    fronts_so source (IsHeardOf source) (IsSetIn source) (λ x h. h) (λ n trees v h. h.0) (StaysFirst source m.repository) (λ job n call k l free s. call_first commits source m.repository job n call k l free s)
    commits said (begun order) m now led.made told.made (begun_knows source (IsHeardOf source) (IsSetIn source) (λ x h. h) (λ n trees v h. h.0) order m some) right led.steps led.told told.each told.told (stays_first source m.repository f) front rest e

-- the sets: as many as revisions, and the source's first ones

abbrev AreSets : Repository → Repository → Type 0
AreSets source r = (length r.sets ≡ length r.revisions) × HasFirstSets source r

set_more : (source r : Repository) (n : ℕ) (set : List Change) (x : Revision) → n ≡ length r.revisions → IsSetOf source n set → AreSets source r → (length (r.sets ++ set ∷ []) ≡ length (r.revisions ++ x ∷ [])) × ((rest : List (List Change)) × ((r.sets ++ set ∷ []) ++ rest ≡ source.sets))
set_more source r n set x e is f =
    let next = rest_at r.sets f.1.0 set (ap (λ ss. slice_get ss (length r.sets)) f.1.1 ∙ ap (λ i. slice_get source.sets i) (f.0 ∙ sym e) ∙ is) in (
      omega (arith, f.0, length-append r.sets (set ∷ []), length-append r.revisions (x ∷ [])),
      (next.0, append_assoc r.sets (set ∷ []) next.0 ∙ ap (λ ss. r.sets ++ ss) (sym next.1) ∙ f.1.1),
    )

call_keeps : CommitsInOrder → (source : Repository) (job : Job) (m : MirrorNow) (call : Call) → Knows (IsSetOf source) source job m → Lawful job call → refusal (mirror_in m) 0 call ≡ None → AreSets source m.repository → AreSets source (repository_by m.repository call)
call_keeps commits source job m call k lawful free f = by call lawful free
  where
    mapped : (n : ℕ) (p : PropMap) → length m.repository.sets ≡ length (with_entry m.repository.revisions (Mapped n p))
    mapped n p = f.0 ∙ sym (length-set m.repository.revisions n p)

    by : (call : Call) → Lawful job call → refusal (mirror_in m) 0 call ≡ None → AreSets source (repository_by m.repository call)
    by (Init url uuid props) l e = (mapped _ _, f.1)
    by (TakeLock token) l e = (mapped _ _, f.1)
    by (StealLock token) l e = (mapped _ _, f.1)
    by ReleaseLock l e = (mapped _ _, f.1)
    by (SetCopying n) l e = (mapped _ _, f.1)
    by (Commit n set props) l e =
        let g = l.gives in
        set_more source m.repository n set _ (commits (mirror_in m) 0 n set props k.some e) (k.fetched n g.it set g.last g.the_set) f
    by (PutProps n props) l e = (mapped _ _, f.1)
    by (SetMerged n) l e = (mapped _ _, f.1)
    by ClearCopying l e = (mapped _ _, f.1)
    by Look l e = f

pub fronts_keep_sets : CommitsInOrder → FrontsKeepSets
fronts_keep_sets commits source order said m now right told led some many f front rest e =
    (fronts_so source (IsAnsweredBy source) (IsSetOf source) (λ x h. h.0) (λ n trees v h. h.2) (AreSets source) (λ job n call k l free s. call_keeps commits source job n call k l free s)
    commits said (begun order) m now led.made told.made (begun_knows source (IsAnsweredBy source) (IsSetOf source) (λ x h. h.0) (λ n trees v h. h.2) order m some) right led.steps led.told told.each told.told (many, f) front rest e).1
