-- Rows that agree: what a job's run brought is what its readers know.
use Rattle.std.proofs.Common.{◌≡◌, ℕ, ◌≤◌, ◌+◌, ◌-◌, Bool, true, false, List, [], ◌∷◌, Option, Result, Ok, Err, IfOk, OnOk, refl, sym, subst, ◌∙◌, arith}
use Rattle.std.specs.Prelude.{nat_le}
use Rattle.std.proofs.Math.Logic.{∥∥₁_elim}
use Rattle.std.proofs.lemmas.Bool.Decides.{nat_tests}
use Rattle.std.specs.Coded.{Coded-set, coded_option}
use Rattle.std.specs.List.{AllByRecursion, AllZip, range_with_len}
use Rattle.fleet_disk.specs.declared.disk.Disk.{Ghosts}
use Rattle.fleet_jobs.specs.declared.order.Work.{Work}
use Rattle.fleet_jobs.specs.declared.order.Work.TheVariants.{Sync, Copy}
use Rattle.node_base.specs.Props.{PropMap}
use Rattle.dump_load.specs.declared.change.Change.{Change}
use Rattle.mirror_share.specs.Locked.{IsStepOf}
use Rattle.mirror_share.specs.Ports.{IsSeenBy}
use Rattle.mirror_share.specs.Seen.{HasSeenCommit, HasSeenHead}
use Rattle.mirror_share.specs.Steps.{StepsShown, Shown, Hides, Stuck}
use Rattle.mirror_share.specs.declared.share.MirrorShare.{MirrorShare}
use Rattle.store_share.specs.Chains.{IsChain}
use Rattle.store_share.specs.Facts.{coded_rev}
use Rattle.store_share.specs.Locked.{HasProps, IsNewest}
use Rattle.store_share.specs.Seats.{known_by, seen_by}
use Rattle.store_share.specs.declared.rev.Rev.{Rev}
use Rattle.store_share.specs.declared.seat.ReaderSeat.{ReaderSeat}
use Rattle.store_share.specs.declared.share.MasterShare.{MasterShare}
use Rattle.sync_core.specs.Jobs.{Job, Order, begun}
use Rattle.sync_core.specs.Jobs as jobs
use Rattle.sync_core.specs.Mirror.{Call, Init, TakeLock, StealLock, ReleaseLock, SetCopying, Commit, PutProps, SetMerged, ClearCopying, Look, granted}
use Rattle.sync_core.specs.Plain.{reply_of}
use Rattle.sync_core.specs.SyncFollows.{IsSynced}
use Rattle.sync_core.specs.declared.fault.SyncFault.{SyncFault}
use Rattle.sync_core.specs.declared.reply.Reply.{Reply as Given}
use Rattle.sync_core.specs.declared.reply.Reply.TheVariants as given
use Rattle.sync_job.specs.Asked.{Asked}
use Rattle.sync_job.specs.Mirrors.{MirrorNow, mirror_in, Accepted, Doubted, Unchanged, IsFit}
use Rattle.sync_job.specs.Questions.{Exchange, Identity, Latest, Fetch, FetchProps, IsSaidOf, questions_in}
use Rattle.sync_job.specs.Runs.{AreRight, EndsCopy, EndsSync, hears_all, puts_in}
use Rattle.sync_job.specs.Said.{Spoken}
use Rattle.sync_job.specs.Telling.{IsSaidAs, calls_in}
use Rattle.fleet_shares.specs.Brought.{HasSeen, AgreeAt, AgreeUpTo, AreCopied, ArePut, ArePutFrom, AreSame, Brings, IsBrought}
use Rattle.fleet_shares.specs.Jobs.{IsRunOf}
use Rattle.fleet_shares.specs.Ports.{IsToldTo}
use Rattle.fleet_shares.proofs.Bringing as walk
use Rattle.fleet_shares.proofs.Comparing.{same_chained as same_at_all}

-- revisions

-- of rows that agree, one way and the other
same_chained : {M L : Type 0} {m : _} {r : _} (theirs : ReaderSeat M m) (ours : ReaderSeat L r) (high : ℕ) → AgreeUpTo theirs ours high → IsChain (known_by theirs) (seen_by theirs) → IsChain (known_by ours) (seen_by ours) → AreSame theirs ours high
same_chained theirs ours high agree made_theirs made_ours =
    same_at_all (known_by ours) (known_by theirs) high (λ n le. ours.known n (agree n le).2.within) (λ n le. theirs.known n (agree n le).1.within) (λ n le. (agree n le).2.set_is ∙ sym (agree n le).1.set_is)
    (λ n le. made_ours n (agree n le).2.within) (λ n le. made_theirs n (agree n le).1.within)

-- rows that agree from revision 0 on have the same revisions
pub same_up_to : {M L : Type 0} {m : _} {r : _} (theirs : ReaderSeat M m) (ours : ReaderSeat L r) (high : ℕ) → AgreeUpTo theirs ours high → AreSame theirs ours high
same_up_to theirs ours high agree n le =
    let one : (a b : Option Rev) → IsProp (a ≡ b) = Coded-set (coded_option coded_rev) in
    ∥∥₁_elim theirs.chain (one (known_by ours n) (known_by theirs n)) (λ t. ∥∥₁_elim ours.chain (one (known_by ours n) (known_by theirs n)) (λ o. same_chained theirs ours high agree t o n le))

-- a step of a mirror answers as it fits

fit_granted : (m : MirrorNow) (call : Call) (x : Given) → reply_of x ≡ granted (mirror_in m) call → IsFit call x
fit_granted m Look given.Done e = absurd (cc)
fit_granted m (Init x y z) given.Done e = tt
fit_granted m (TakeLock x) given.Done e = tt
fit_granted m (StealLock x) given.Done e = tt
fit_granted m ReleaseLock given.Done e = tt
fit_granted m (SetCopying x) given.Done e = tt
fit_granted m (Commit x y z) given.Done e = tt
fit_granted m (PutProps x y) given.Done e = tt
fit_granted m (SetMerged x) given.Done e = tt
fit_granted m ClearCopying given.Done e = tt
fit_granted m Look (given.Seen s) e = tt
fit_granted m (Init x y z) (given.Seen s) e = absurd (cc)
fit_granted m (TakeLock x) (given.Seen s) e = absurd (cc)
fit_granted m (StealLock x) (given.Seen s) e = absurd (cc)
fit_granted m ReleaseLock (given.Seen s) e = absurd (cc)
fit_granted m (SetCopying x) (given.Seen s) e = absurd (cc)
fit_granted m (Commit x y z) (given.Seen s) e = absurd (cc)
fit_granted m (PutProps x y) (given.Seen s) e = absurd (cc)
fit_granted m (SetMerged x) (given.Seen s) e = absurd (cc)
fit_granted m ClearCopying (given.Seen s) e = absurd (cc)

fit_step : (before after : Bool) (m new : MirrorNow) (seat : ℕ) (call : Call) (result : Result Given SyncFault) → StepsShown before m seat call result after new → IfOk result (IsFit call)
fit_step before after m new seat call result (Shown b a (Accepted x is p)) = subst (λ y. IfOk y (IsFit call)) (sym is) (fit_granted m call x p.reply)
fit_step before after m new seat call result (Shown b a (Doubted is d)) = subst (λ y. IfOk y (IsFit call)) (sym is) tt
fit_step before after m new seat call result (Shown b a (Unchanged f is why same)) = subst (λ y. IfOk y (IsFit call)) (sym is) tt
fit_step before after m new seat call result (Hides b a is i) = subst (λ y. IfOk y (IsFit call)) (sym is) tt
fit_step before after m new seat call result (Stuck b a is same) = subst (λ y. IfOk y (IsFit call)) (sym is) tt

module _ {M L D : Type 0} {m : _} {r : _} {g : Ghosts D} (master : MasterShare M D m g) (share : MirrorShare L D r g) (theirs : ReaderSeat M m) (ours : ReaderSeat L r) (said : List Spoken) where
  abbrev Maps : ℕ → PropMap → Type 0
  Maps n props = HasProps master n props

  abbrev Newest : ℕ → Type 0
  Newest n = (seen : ℕ) × IsNewest master seen theirs n

  abbrev Reached : ℕ → Type 0
  Reached n = n ≤ seen_by ours

  pub reaches : (n : ℕ) (set : List Change) → HasSeen ours n set → Reached n
  reaches n set h = h.within

  abbrev Fine : Asked → Type 0
  Fine a = walk.IsFine (HasSeen theirs) (HasSeen ours) Maps Newest Reached reaches said a

  abbrev Told : Exchange → Type 0
  Told x = walk.IsTold (HasSeen theirs) (HasSeen ours) Maps Newest Reached reaches said x

  shown_seen : (call : Call) → HasSeenCommit call (known_by ours) (seen_by ours) → walk.Shown (HasSeen theirs) (HasSeen ours) Maps Newest Reached reaches said call
  shown_seen (Commit n set props) h = record { within = h.0; set_is = h.1 }
  shown_seen (Init x y z) h = tt
  shown_seen (TakeLock x) h = tt
  shown_seen (StealLock x) h = tt
  shown_seen ReleaseLock h = tt
  shown_seen (SetCopying x) h = tt
  shown_seen (PutProps x y) h = tt
  shown_seen (SetMerged x) h = tt
  shown_seen ClearCopying h = tt
  shown_seen Look h = tt

  fine : (seat : ℕ) (a : Asked) → IsStepOf share seat a.call a.result → IsSeenBy ours a.call a.result → Fine a
  fine seat a step seen = record { commit = shown a.result seen.commit; head = looks a.result seen.head; fit = fit_step _ _ _ _ seat a.call a.result step.stepped.step }
    where
      shown : (result : Result Given SyncFault) → OnOk result (HasSeenCommit a.call (known_by ours) (seen_by ours)) → OnOk result (walk.Shown (HasSeen theirs) (HasSeen ours) Maps Newest Reached reaches said a.call)
      shown (Ok x) h = shown_seen a.call h
      shown (Err f) h = tt

      looks : (result : Result Given SyncFault) → IfOk result (λ x. HasSeenHead x (seen_by ours)) → IfOk result (walk.Looks (HasSeen theirs) (HasSeen ours) Maps Newest Reached reaches said)
      looks (Ok given.Done) h = tt
      looks (Ok (given.Seen s)) h = h
      looks (Err f) h = tt

  all_fine : (seat : ℕ) (made : List Asked) → AllByRecursion (λ a. IsStepOf share seat a.call a.result) made → AllByRecursion (λ a. IsSeenBy ours a.call a.result) made → AllByRecursion Fine made
  all_fine seat [] steps seen = tt
  all_fine seat (a ∷ made) steps seen = (fine seat a steps.0 seen.0, all_fine seat made steps.1 seen.1)

  told : (x : Exchange) → IsToldTo master theirs x → Told x
  told (Identity (Ok u)) h = tt
  told (Identity (Err f)) h = tt
  told (Latest (Ok n)) h = h.1
  told (Latest (Err f)) h = tt
  told (Fetch n trees (Ok x)) h = (record { within = h.0; set_is = h.1 }, h.2)
  told (Fetch n trees (Err f)) h = tt
  told (FetchProps n (Ok p)) h = h
  told (FetchProps n (Err f)) h = tt

  all_told : (asked : List Exchange) → AllByRecursion (IsToldTo master theirs) asked → AllByRecursion Told asked
  all_told [] h = tt
  all_told (x ∷ asked) h = (told x h.0, all_told asked h.1)

  -- what was said in a job's run, whatever the numbers that it asks for
  abbrev IsWalked : Job → Type 0
  IsWalked job = walk.Walked (HasSeen theirs) (HasSeen ours) Maps Newest Reached reaches said job said

  walked : (N : Job → ℕ → Type 0) (order : Order) (seat : ℕ) (made : List Asked) (asked : List Exchange) → AreRight N (begun order) said
      → AllByRecursion (λ a. IsStepOf share seat a.call a.result) made → AllByRecursion (λ a. IsSeenBy ours a.call a.result) made → AllZip IsSaidAs made (calls_in said)
      → AllByRecursion (IsToldTo master theirs) asked → AllZip IsSaidOf asked (questions_in said) → IsWalked (begun order)
  walked N order seat made asked right steps seen z answers q =
      walk.walk (HasSeen theirs) (HasSeen ours) Maps Newest Reached reaches said N said (begun order) made asked (walk.begun_knows (HasSeen theirs) (HasSeen ours) Maps Newest Reached reaches said order) (λ e s. s) right (all_fine seat made steps seen) z (all_told asked answers) q

  copied : (job : Job) → IsWalked job → AreCopied master theirs ours said
  copied job w n set props s = let b = w.commits n set props s in record { master_has = b.theirs; mirror_has = b.ours; map = b.map }

  put_from : (job : Job) (low high : ℕ) → IsWalked job → puts_in said ≡ range_with_len low (high + 1 - low) → ArePutFrom master said low high
  put_from job low high w e n from to = let p = walk.range_put low high said e n from to in (p.0, p.1, w.puts n p.0 p.1)

  is_brought : walk.Brought (HasSeen theirs) (HasSeen ours) Maps Newest Reached reaches said → IsBrought master theirs ours said
  is_brought b = record {
    standing = b.found.standing;
    looked = b.found.looked;
    latest = b.latest;
    answered = b.answered;
    newest = b.newest;
    head = b.head;
    risen = b.found.risen;
    all = b.all;
    seen = b.found.reached;
    agree = b.found.agree;
    whole = λ from. same_up_to theirs ours b.head (λ n le. by from n le (nat_le n b.found.standing.head) refl);
  }
    where
      by : AgreeUpTo theirs ours b.found.standing.head → (n : ℕ) → n ≤ b.head → (t : Bool) → nat_le n b.found.standing.head ≡ t → AgreeAt theirs ours n
      by from n le true e = from n (grind (arith, nat_tests))
      by from n le false e = b.found.agree n (grind (arith, nat_tests)) le

  is_synced : (job : Job) → IsWalked job → IsSynced (hears_all job said) → IsBrought master theirs ours said
  is_synced job w s = is_brought (walk.brought (HasSeen theirs) (HasSeen ours) Maps Newest Reached reaches said (hears_all job said) w.last s)

-- what was said in a run, that its calls were steps of a share, and its questions answered by a master
pub record IsMade {M L D : Type 0} {m : _} {r : _} {g : Ghosts D} (master : MasterShare M D m g) (share : MirrorShare L D r g) (theirs : ReaderSeat M m) (ours : ReaderSeat L r) (said : List Spoken) : Type 0 where
  pub seat : ℕ
  pub made : List Asked
  pub steps : AllByRecursion (λ a. IsStepOf share seat a.call a.result) made
  pub seen : AllByRecursion (λ a. IsSeenBy ours a.call a.result) made
  pub calls : AllZip IsSaidAs made (calls_in said)
  pub asked : List Exchange
  pub answers : AllByRecursion (IsToldTo master theirs) asked
  pub questions : AllZip IsSaidOf asked (questions_in said)

-- what a run brought
pub record IsAllBrought {M L D : Type 0} {m : _} {r : _} {g : Ghosts D} (master : MasterShare M D m g) (theirs : ReaderSeat M m) (ours : ReaderSeat L r) (work : Work) (said : List Spoken) (ended : Result (Unit {0}) SyncFault) : Type 0 where
  pub copied : AreCopied master theirs ours said
  pub put : ArePut master said
  pub brought : Brings work ended master theirs ours said

module _ {M L D : Type 0} {m : _} {r : _} {g : Ghosts D} (master : MasterShare M D m g) (share : MirrorShare L D r g) (theirs : ReaderSeat M m) (ours : ReaderSeat L r) where
  all_walked : (N : Job → ℕ → Type 0) (order : Order) (said : List Spoken) → AreRight N (begun order) said → IsMade master share theirs ours said → IsWalked master share theirs ours said (begun order)
  all_walked N order said right x = walked master share theirs ours said N order x.seat x.made x.asked right x.steps x.seen x.calls x.answers x.questions

  -- of a run of an order's work
  pub brings : (work : Work) (token : List ℕ) (said : List Spoken) (ended : Result (Unit {0}) SyncFault) → IsRunOf work token said ended → IsMade master share theirs ours said → IsAllBrought master theirs ours work said ended
  brings (Sync steal) token said ended run x = subst (λ xs. IsAllBrought master theirs ours (Sync steal) xs ended) (sym run.adds) (by ended run.end)
    where
      w : IsWalked master share theirs ours run.more (begun (jobs.Sync token steal))
      w = all_walked _ (jobs.Sync token steal) run.more run.right (subst (λ xs. IsMade master share theirs ours xs) run.adds x)

      by : (ended : Result (Unit {0}) SyncFault) → EndsSync (jobs.Sync token steal) ended run.more → IsAllBrought master theirs ours (Sync steal) run.more ended
      by (Ok u) end = record { copied = copied master share theirs ours run.more _ w; put = w.puts; brought = is_synced master share theirs ours run.more _ w end.all }
      by (Err f) end = record { copied = copied master share theirs ours run.more _ w; put = w.puts; brought = tt }
  brings (Copy low high) token said ended run x = subst (λ xs. IsAllBrought master theirs ours (Copy low high) xs ended) (sym run.adds) (by ended run.end)
    where
      w : IsWalked master share theirs ours run.more (begun (jobs.CopyProps token))
      w = all_walked _ (jobs.CopyProps token) run.more run.right (subst (λ xs. IsMade master share theirs ours xs) run.adds x)

      by : (ended : Result (Unit {0}) SyncFault) → EndsCopy token low high ended run.more → IsAllBrought master theirs ours (Copy low high) run.more ended
      by (Ok u) end = record { copied = copied master share theirs ours run.more _ w; put = w.puts; brought = put_from master share theirs ours run.more _ low high w end.all }
      by (Err f) end = record { copied = copied master share theirs ours run.more _ w; put = w.puts; brought = tt }
