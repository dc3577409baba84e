-- How init runs and copying runs end well.
use Rattle.std.proofs.Common.{◌≡◌, ◌⊎◌, inl, inr, ℕ, suc, ◌+◌, ◌-◌, ◌≤◌, nat_lt, nat_le, true, false, List, [], ◌∷◌, ◌++◌, Some, Result, refl, sym, ap, subst, ◌∙◌, arith}
use Rattle.std.proofs.lemmas.List.{append-nil, append_assoc}
use Rattle.sync_core.specs.declared.answer.Answer.{Answer}
use Rattle.sync_core.specs.declared.answer.Answer.TheVariants as answer
use Rattle.sync_core.specs.declared.fault.SyncFault.{SyncFault}
use Rattle.sync_core.specs.declared.fault.SyncFault.TheVariants as fault
use Rattle.sync_core.specs.declared.ending.Ending.{Ending}
use Rattle.sync_core.specs.declared.ending.Ending.TheVariants as ending
use Rattle.sync_core.specs.declared.state.JobState.{JobState}
use Rattle.sync_core.specs.declared.state.JobState.TheVariants as state
use Rattle.sync_core.specs.declared.init_job.InitPhase.{InitPhase}
use Rattle.sync_core.specs.declared.init_job.InitPhase.TheVariants as initial
use Rattle.sync_core.specs.declared.copy_job.CopyPhase.{CopyPhase}
use Rattle.sync_core.specs.declared.copy_job.CopyPhase.TheVariants as copying
use Rattle.sync_core.specs.Mirror.{Init, TakeLock, PutProps, Look, ReleaseLock}
use Rattle.sync_core.specs.Jobs.{Initialise, CopyProps, begun}
use Rattle.sync_core.specs.Deeds.{Deed, Calls, AsksIdentity, FetchesProps}
use Rattle.sync_core.specs.States.{deed_in, after, ending_of, Follows, init_start, copy_start}
use Rattle.sync_core.specs.InitTable as init_table
use Rattle.sync_core.specs.CopyTable as copy_table
use Rattle.sync_job.specs.declared.report.Told.{Told}
use Rattle.sync_core.specs.Copies as told
use Rattle.sync_job.specs.Said.{Spoken, Says, NoTree, Tells, made, IsRound, Done, Lacking, Treeless}
use Rattle.sync_job.specs.Runs.{no_number, said_by, Goes, Ran, IsZero, IsWithin, answer_to, Begun, EndsInit, IsInitRun, put_by, puts_in, EndsCopy, IsCopyRun, IsSaid}
use Rattle.std.specs.List.{range_with_len}
use Rattle.std.proofs.lemmas.Bool.Decides.{nat_tests}
use Rattle.sync_core.proofs.Lists.{range-next}
use Rattle.node_base.specs.Props.{PropMap}
use Rattle.sync_job.proofs.Endings.{EndsReleased, run_released, some_fine, never}
use Rattle.sync_job.proofs.Rounds.{Laws, carry, silent, run_rightly, IsRightly}
use Rattle.sync_job.proofs.Releases.{run_lets_go, begun_unlocked}
use Rattle.sync_job.proofs.Causes.{run_reported, run_from, ended_refused, copy_looked_is, copy_begin_is, copy_next_is, said_right}

-- an init job comes to a good end by its Init alone
pub record IsInitDone (url : List ℕ) (d : Deed) (a : Answer) : Type 0 where
  pub uuid : List ℕ
  pub props : PropMap
  pub deed : d ≡ Calls (Init url uuid props)
  pub accepted : a ≡ answer.Done

init_fine : (p : InitPhase) (url : List ℕ) (a : Answer) → init_table.ending_in (init_table.after_in p a) ≡ Some ending.Fine → (init_table.ending_in p ≡ Some ending.Fine) ⊎ IsInitDone url (init_table.deed_in url p) a
init_fine initial.Who url answer.Done h = absurd (cc)
init_fine initial.Who url (answer.Seen x) h = absurd (cc)
init_fine initial.Who url (answer.Identity x) h = absurd (cc)
init_fine initial.Who url (answer.Latest x) h = absurd (cc)
init_fine initial.Who url (answer.Revision x y) h = absurd (cc)
init_fine initial.Who url (answer.Map x) h = absurd (cc)
init_fine initial.Who url (answer.Refused x) h = absurd (cc)
init_fine initial.Who url (answer.Failed x) h = absurd (cc)
init_fine (initial.FetchProps u) url answer.Done h = absurd (cc)
init_fine (initial.FetchProps u) url (answer.Seen x) h = absurd (cc)
init_fine (initial.FetchProps u) url (answer.Identity x) h = absurd (cc)
init_fine (initial.FetchProps u) url (answer.Latest x) h = absurd (cc)
init_fine (initial.FetchProps u) url (answer.Revision x y) h = absurd (cc)
init_fine (initial.FetchProps u) url (answer.Map x) h = absurd (cc)
init_fine (initial.FetchProps u) url (answer.Refused x) h = absurd (cc)
init_fine (initial.FetchProps u) url (answer.Failed x) h = absurd (cc)
init_fine (initial.Init u props) url answer.Done h = inr (record { uuid = u; props = props; deed = refl; accepted = refl })
init_fine (initial.Init u props) url (answer.Seen x) h = absurd (cc)
init_fine (initial.Init u props) url (answer.Identity x) h = absurd (cc)
init_fine (initial.Init u props) url (answer.Latest x) h = absurd (cc)
init_fine (initial.Init u props) url (answer.Revision x y) h = absurd (cc)
init_fine (initial.Init u props) url (answer.Map x) h = absurd (cc)
init_fine (initial.Init u props) url (answer.Refused x) h = absurd (cc)
init_fine (initial.Init u props) url (answer.Failed x) h = absurd (cc)
init_fine (initial.End e) url a h = inl h

abbrev pub IsInitState : List ℕ → JobState → Type 0
IsInitState url (state.Init s) = s.url ≡ url
IsInitState url (state.Sync s) = ⊥
IsInitState url (state.Copy s) = ⊥

stays_init : (url : List ℕ) (s : JobState) (a : Answer) → IsInitState url s → IsInitState url (after s a)
stays_init url (state.Init s) a h = h
stays_init url (state.Sync s) a h = h
stays_init url (state.Copy s) a h = h

fine_init : (url : List ℕ) (s : JobState) (a : Answer) → IsInitState url s → ending_of (after s a) ≡ Some ending.Fine → (ending_of s ≡ Some ending.Fine) ⊎ IsInitDone url (deed_in s) a
fine_init url (state.Init s) a i h = subst (λ u. (init_table.ending_in s.phase ≡ Some ending.Fine) ⊎ IsInitDone u (init_table.deed_in s.url s.phase) a) i (init_fine s.phase s.url a h)
fine_init url (state.Sync s) a i h = absurd i
fine_init url (state.Copy s) a i h = absurd i

pub record EndsBegun (url : List ℕ) (s : JobState) (es : List Spoken) : Type 0 where
  pub init : IsInitState url s
  pub done : ending_of s ≡ Some ending.Fine → Begun url es

no_done : (f : SyncFault) → answer.Refused f ≡ answer.Done → ⊥
no_done f h = cc

begun_made : (url : List ℕ) (d : Deed) (a : Answer) (es more : List Spoken) → IsInitDone url d a → more ≡ made d a → Begun url (es ++ more)
begun_made url d a es more i m =
    record {
      uuid = i.uuid;
      props = i.props;
      accepted = said_right (Says (Calls (Init url i.uuid i.props)) told.Done) es more (subst (λ xs. IsSaid (Says (Calls (Init url i.uuid i.props)) told.Done) xs) (sym (m ∙ ap (λ x. made x a) i.deed ∙ ap (λ x. made (Calls (Init url i.uuid i.props)) x) i.accepted)) (inl refl));
    }

begun_on : Laws → (url : List ℕ) (s : JobState) (es : List Spoken) (a : Answer) (more : List Spoken) → EndsBegun url s es → IsRound (deed_in s) a more → EndsBegun url (after s a) (es ++ more)
begun_on laws url s es a more p r = record { init = stays_init url s a p.init; done = λ h. by (fine_init url s a p.init h) r }
  where
    by : (ending_of s ≡ Some ending.Fine) ⊎ IsInitDone url (deed_in s) a → IsRound (deed_in s) a more → Begun url (es ++ more)
    by (inl h) r = subst (λ xs. Begun url xs) (sym (append-nil es) ∙ ap (λ xs. es ++ xs) (sym (silent laws s ending.Fine a more h r))) (p.done h)
    by (inr h) (Done fits m) = begun_made url (deed_in s) a es more h m
    by (inr h) (Lacking e m due) = absurd (no_done fault.OutOfMemory (sym e ∙ h.accepted))
    by (inr h) (Treeless of n f d e m) = absurd (no_done f (sym e ∙ h.accepted))

-- an init run
pub init_run : {B : Type 0} → Laws → (url : List ℕ) (s : JobState) (old new : List Spoken) (heard_old heard_new : B → List Told → Type 0) (e : Ending) (x : Result (Unit {0}) SyncFault)
    → s ≡ init_start url → Follows (begun (Initialise url)) s → Ran s old new heard_old heard_new e → x ≡ answer_to e → IsInitRun url old new heard_old heard_new x
init_run laws url s old new ho hn e x start f ran same =
    record {
      more = said_by ran.going.rounds;
      adds = ran.going.adds;
      right = rightly.right;
      reported = run_reported s ran.last ran.going.rounds ran.going.goes;
      tells = ran.going.tells;
      let_go = run_lets_go (begun (Initialise url)) (init_start url) ran.last ran.going.rounds e (begun_unlocked refl) goes ran.ended;
      end = subst (λ y. EndsInit url y (said_by ran.going.rounds)) (sym same) (ends e ran.ended);
    }
  where
    goes : Goes (init_start url) ran.going.rounds ran.last
    goes = subst (λ y. Goes y ran.going.rounds ran.last) start ran.going.goes

    rightly : IsRightly IsZero (begun (Initialise url)) ran.last (said_by ran.going.rounds)
    rightly = run_rightly laws IsZero (begun (Initialise url)) (init_start url) ran.last ran.going.rounds (λ job n h. h) (subst (λ y. Follows (begun (Initialise url)) y) start f) goes

    done : EndsBegun url ran.last (said_by ran.going.rounds)
    done = carry (EndsBegun url) (begun_on laws url) (init_start url) ran.last ran.going.rounds [] goes (record { init = refl; done = λ h. never h })

    ends : (e : Ending) → ending_of ran.last ≡ Some e → EndsInit url (answer_to e) (said_by ran.going.rounds)
    ends ending.Fine h = done.done h
    ends (ending.Refused g) h = run_from laws IsZero no_number (begun (Initialise url)) (init_start url) ran.last ran.going.rounds goes (record { rightly = record { right = tt; numbers = λ job n h. h; follows = inl (subst (λ y. Follows (begun (Initialise url)) y) start f) }; from = record { refusals = λ y z. absurd z; who = λ y z. absurd z; merged = λ y z. absurd z; highest = λ n z. absurd z } }) g (ended_refused ran.last g h)

-- copying runs

puts_append : (xs ys : List Spoken) → puts_in (xs ++ ys) ≡ puts_in xs ++ puts_in ys
puts_append [] ys = refl
puts_append (Says d o ∷ xs) ys = ap (λ ns. put_by d o ++ ns) (puts_append xs ys) ∙ sym (append_assoc (put_by d o) (puts_in xs) (puts_in ys))
puts_append (NoTree n o ∷ xs) ys = puts_append xs ys
puts_append (Tells t ∷ xs) ys = puts_append xs ys

-- an answer that isn't want of memory, nor a tree's refusal
abbrev pub IsGood : Answer → Type 0
IsGood (answer.Refused f) = ⊥
IsGood _ = Unit {0}

is_made : (d : Deed) (a : Answer) (more : List Spoken) → IsGood a → IsRound d a more → more ≡ made d a
is_made d a more g (Done fits m) = m
is_made d a more g (Lacking e m due) = absurd (subst (λ x. IsGood x) e g)
is_made d a more g (Treeless of n f x e m) = absurd (subst (λ x. IsGood x) e g)

quiet : (d : Deed) (a : Answer) (es more : List Spoken) → puts_in (made d a) ≡ [] → IsGood a → IsRound d a more → puts_in (es ++ more) ≡ puts_in es
quiet d a es more e g r = puts_append es more ∙ ap (λ ns. puts_in es ++ ns) (ap puts_in (is_made d a more g r) ∙ e) ∙ append-nil (puts_in es)

-- from low up to n, that alone excepted
pub record IsUpTo (low high n : ℕ) (es : List Spoken) : Type 0 where
  pub from : low ≤ n
  pub to : n ≤ high
  pub puts : puts_in es ≡ range_with_len low (n - low)

abbrev pub PutsAt : Ending → ℕ → ℕ → List Spoken → Type 0
PutsAt ending.Fine low high es = puts_in es ≡ range_with_len low (high + 1 - low)
PutsAt (ending.Refused f) low high es = Unit {0}

abbrev pub PutsIn : CopyPhase → ℕ → ℕ → List Spoken → Type 0
PutsIn copying.Lock low high es = puts_in es ≡ []
PutsIn copying.Look low high es = puts_in es ≡ []
PutsIn (copying.Who m uuid) low high es = puts_in es ≡ []
PutsIn (copying.FetchProps n) low high es = IsUpTo low high n es
PutsIn (copying.Put n props) low high es = IsUpTo low high n es
PutsIn (copying.Release e) low high es = PutsAt e low high es
PutsIn (copying.End e) low high es = PutsAt e low high es

starts_at : (low high : ℕ) (es : List Spoken) → puts_in es ≡ [] → nat_le low high ≡ true → IsUpTo low high low es
starts_at low high es p e =
    let len : low - low ≡ 0 = omega arith in
    record { from = omega arith; to = grind (arith, nat_tests, e); puts = p ∙ sym (ap (λ k. range_with_len low k) len) }

none_at : (low high : ℕ) (es : List Spoken) → puts_in es ≡ [] → nat_le low high ≡ false → puts_in es ≡ range_with_len low (high + 1 - low)
none_at low high es p e =
    let above : high + 1 ≤ low = grind (arith, nat_tests, e) in
    let len : high + 1 - low ≡ 0 = omega (arith, above) in
    p ∙ sym (ap (λ k. range_with_len low k) len)

one_more : (low high n : ℕ) (es more : List Spoken) → IsUpTo low high n es → puts_in (es ++ more) ≡ puts_in es ++ n ∷ [] → puts_in (es ++ more) ≡ range_with_len low (n + 1 - low)
one_more low high n es more p e =
    let from : low ≤ n = p.from in
    let at : low + (n - low) ≡ n = omega (arith, from) in
    let len : suc (n - low) ≡ n + 1 - low = omega (arith, from) in
    e ∙ ap (λ ns. ns ++ n ∷ []) p.puts ∙ ap (λ k. range_with_len low (n - low) ++ k ∷ []) (sym at) ∙ sym (range-next low (n - low)) ∙ ap (λ k. range_with_len low k) len

next_up : (low high n : ℕ) (es more : List Spoken) → IsUpTo low high n es → puts_in (es ++ more) ≡ puts_in es ++ n ∷ [] → nat_lt n high ≡ true → IsUpTo low high (n + 1) (es ++ more)
next_up low high n es more p e b =
    let from : low ≤ n = p.from in
    record { from = omega (arith, from); to = grind (arith, nat_tests, b); puts = one_more low high n es more p e }

last_up : (low high n : ℕ) (es more : List Spoken) → IsUpTo low high n es → puts_in (es ++ more) ≡ puts_in es ++ n ∷ [] → nat_lt n high ≡ false → puts_in (es ++ more) ≡ range_with_len low (high + 1 - low)
last_up low high n es more p e b =
    let to : n ≤ high = p.to in
    let not_below : high ≤ n = grind (arith, nat_tests, b) in
    let same : n ≡ high = omega (arith, to, not_below) in
    one_more low high n es more p e ∙ ap (λ k. range_with_len low (k + 1 - low)) same

puts_put : (n : ℕ) (props : PropMap) (es more : List Spoken) → IsRound (Calls (PutProps n props)) answer.Done more → puts_in (es ++ more) ≡ puts_in es ++ n ∷ []
puts_put n props es more r = puts_append es more ∙ ap (λ ns. puts_in es ++ ns) (ap puts_in (is_made (Calls (PutProps n props)) answer.Done more tt r))

puts_on : Laws → (token : List ℕ) (p : CopyPhase) (low high : ℕ) (a : Answer) (es more : List Spoken) → PutsIn p low high es → IsRound (copy_table.deed_in token p) a more → PutsIn (copy_table.after_in p low high a) low high (es ++ more)
puts_on laws token copying.Lock low high answer.Done es more h r = quiet (Calls (TakeLock token)) (answer.Done) es more refl tt r ∙ h
puts_on laws token copying.Lock low high (answer.Seen x) es more h r = tt
puts_on laws token copying.Lock low high (answer.Identity x) es more h r = tt
puts_on laws token copying.Lock low high (answer.Latest x) es more h r = tt
puts_on laws token copying.Lock low high (answer.Revision x y) es more h r = tt
puts_on laws token copying.Lock low high (answer.Map x) es more h r = tt
puts_on laws token copying.Lock low high (answer.Refused x) es more h r = tt
puts_on laws token copying.Lock low high (answer.Failed x) es more h r = tt
puts_on laws token copying.Look low high answer.Done es more h r = tt
puts_on laws token copying.Look low high (answer.Seen x) es more h r = copy_looked_is x (λ p. PutsIn p low high (es ++ more)) (quiet (Calls Look) (answer.Seen x) es more refl tt r ∙ h) (λ y t. tt)
puts_on laws token copying.Look low high (answer.Identity x) es more h r = tt
puts_on laws token copying.Look low high (answer.Latest x) es more h r = tt
puts_on laws token copying.Look low high (answer.Revision x y) es more h r = tt
puts_on laws token copying.Look low high (answer.Map x) es more h r = tt
puts_on laws token copying.Look low high (answer.Refused x) es more h r = tt
puts_on laws token copying.Look low high (answer.Failed x) es more h r = tt
puts_on laws token (copying.Who m uuid) low high answer.Done es more h r = tt
puts_on laws token (copying.Who m uuid) low high (answer.Seen x) es more h r = tt
puts_on laws token (copying.Who m uuid) low high (answer.Identity x) es more h r = copy_begin_is m uuid x (λ p. PutsIn p low high (es ++ more)) low high (starts_at low high (es ++ more) (quiet (AsksIdentity) (answer.Identity x) es more refl tt r ∙ h)) (none_at low high (es ++ more) (quiet (AsksIdentity) (answer.Identity x) es more refl tt r ∙ h)) (λ o. tt) (λ o. tt)
puts_on laws token (copying.Who m uuid) low high (answer.Latest x) es more h r = tt
puts_on laws token (copying.Who m uuid) low high (answer.Revision x y) es more h r = tt
puts_on laws token (copying.Who m uuid) low high (answer.Map x) es more h r = tt
puts_on laws token (copying.Who m uuid) low high (answer.Refused x) es more h r = tt
puts_on laws token (copying.Who m uuid) low high (answer.Failed x) es more h r = tt
puts_on laws token (copying.FetchProps n) low high answer.Done es more h r = tt
puts_on laws token (copying.FetchProps n) low high (answer.Seen x) es more h r = tt
puts_on laws token (copying.FetchProps n) low high (answer.Identity x) es more h r = tt
puts_on laws token (copying.FetchProps n) low high (answer.Latest x) es more h r = tt
puts_on laws token (copying.FetchProps n) low high (answer.Revision x y) es more h r = tt
puts_on laws token (copying.FetchProps n) low high (answer.Map x) es more h r = record { from = h.from; to = h.to; puts = quiet (FetchesProps n) (answer.Map x) es more refl tt r ∙ h.puts }
puts_on laws token (copying.FetchProps n) low high (answer.Refused x) es more h r = tt
puts_on laws token (copying.FetchProps n) low high (answer.Failed x) es more h r = tt
puts_on laws token (copying.Put n props) low high answer.Done es more h r = copy_next_is (λ p. PutsIn p low high (es ++ more)) high n (next_up low high n es more h (puts_put n props es more r)) (last_up low high n es more h (puts_put n props es more r))
puts_on laws token (copying.Put n props) low high (answer.Seen x) es more h r = tt
puts_on laws token (copying.Put n props) low high (answer.Identity x) es more h r = tt
puts_on laws token (copying.Put n props) low high (answer.Latest x) es more h r = tt
puts_on laws token (copying.Put n props) low high (answer.Revision x y) es more h r = tt
puts_on laws token (copying.Put n props) low high (answer.Map x) es more h r = tt
puts_on laws token (copying.Put n props) low high (answer.Refused x) es more h r = tt
puts_on laws token (copying.Put n props) low high (answer.Failed x) es more h r = tt
puts_on laws token (copying.Release ending.Fine) low high answer.Done es more h r = quiet (Calls ReleaseLock) (answer.Done) es more refl tt r ∙ h
puts_on laws token (copying.Release ending.Fine) low high (answer.Seen x) es more h r = tt
puts_on laws token (copying.Release ending.Fine) low high (answer.Identity x) es more h r = tt
puts_on laws token (copying.Release ending.Fine) low high (answer.Latest x) es more h r = tt
puts_on laws token (copying.Release ending.Fine) low high (answer.Revision x y) es more h r = tt
puts_on laws token (copying.Release ending.Fine) low high (answer.Map x) es more h r = tt
puts_on laws token (copying.Release ending.Fine) low high (answer.Refused x) es more h r = tt
puts_on laws token (copying.Release ending.Fine) low high (answer.Failed x) es more h r = tt
puts_on laws token (copying.Release (ending.Refused f)) low high a es more h r = tt
puts_on laws token (copying.End (ending.Refused f)) low high a es more h r = tt
puts_on laws token (copying.End ending.Fine) low high a es more h r =
    subst (λ xs. puts_in xs ≡ range_with_len low (high + 1 - low)) (sym (append-nil es) ∙ ap (λ xs. es ++ xs) (sym (silent laws (state.Copy (record { low = low; high = high; token = token; phase = copying.End ending.Fine })) ending.Fine a more refl r))) h

abbrev pub CopyPuts : ℕ → ℕ → JobState → List Spoken → Type 0
CopyPuts low high (state.Init s) es = ⊥
CopyPuts low high (state.Sync s) es = ⊥
CopyPuts low high (state.Copy s) es = (s.low ≡ low) × (s.high ≡ high) × PutsIn s.phase s.low s.high es

copy_on : Laws → (low high : ℕ) (s : JobState) (es : List Spoken) (a : Answer) (more : List Spoken) → CopyPuts low high s es → IsRound (deed_in s) a more → CopyPuts low high (after s a) (es ++ more)
copy_on laws low high (state.Init s) es a more p r = p
copy_on laws low high (state.Sync s) es a more p r = p
copy_on laws low high (state.Copy s) es a more p r = (p.0, p.1, puts_on laws s.token s.phase s.low s.high a es more p.2 r)

all_put : (low high : ℕ) (t : JobState) (es : List Spoken) → CopyPuts low high t es → ending_of t ≡ Some ending.Fine → puts_in es ≡ range_with_len low (high + 1 - low)
all_put low high (state.Init s) es p h = absurd p
all_put low high (state.Sync s) es p h = absurd p
all_put low high (state.Copy s) es p h = subst (λ k. puts_in es ≡ range_with_len k (high + 1 - k)) p.0 (subst (λ k. puts_in es ≡ range_with_len s.low (k + 1 - s.low)) p.1 (by s.phase p.2 h))
  where
    by : (q : CopyPhase) → PutsIn q s.low s.high es → copy_table.ending_in q ≡ Some ending.Fine → puts_in es ≡ range_with_len s.low (s.high + 1 - s.low)
    by (copying.End e) q h = subst (λ x. PutsAt x s.low s.high es) (some_fine e h) q
    by copying.Lock q h = never h
    by copying.Look q h = never h
    by (copying.Who m uuid) q h = never h
    by (copying.FetchProps n) q h = never h
    by (copying.Put n props) q h = never h
    by (copying.Release e) q h = never h

-- a copying run
pub copy_run : {B : Type 0} → Laws → (token : List ℕ) (low high : ℕ) (s : JobState) (old new : List Spoken) (heard_old heard_new : B → List Told → Type 0) (e : Ending) (x : Result (Unit {0}) SyncFault)
    → s ≡ copy_start token low high → Follows (begun (CopyProps token)) s → Ran s old new heard_old heard_new e → x ≡ answer_to e → IsCopyRun token low high old new heard_old heard_new x
copy_run laws token low high s old new ho hn e x start f ran same =
    record {
      more = said_by ran.going.rounds;
      adds = ran.going.adds;
      right = rightly.right;
      reported = run_reported s ran.last ran.going.rounds ran.going.goes;
      tells = ran.going.tells;
      let_go = run_lets_go (begun (CopyProps token)) (copy_start token low high) ran.last ran.going.rounds e refl goes ran.ended;
      end = subst (λ y. EndsCopy token low high y (said_by ran.going.rounds)) (sym same) (ends e ran.ended);
    }
  where
    goes : Goes (copy_start token low high) ran.going.rounds ran.last
    goes = subst (λ y. Goes y ran.going.rounds ran.last) start ran.going.goes

    rightly : IsRightly (IsWithin low high) (begun (CopyProps token)) ran.last (said_by ran.going.rounds)
    rightly = run_rightly laws (IsWithin low high) (begun (CopyProps token)) (copy_start token low high) ran.last ran.going.rounds (λ job n h. h) (subst (λ y. Follows (begun (CopyProps token)) y) start f) goes

    released : EndsReleased ran.last (said_by ran.going.rounds)
    released = run_released laws (copy_start token low high) ran.last ran.going.rounds goes tt refl

    puts : CopyPuts low high ran.last (said_by ran.going.rounds)
    puts = carry (CopyPuts low high) (copy_on laws low high) (copy_start token low high) ran.last ran.going.rounds [] goes (refl, refl, refl)

    ends : (e : Ending) → ending_of ran.last ≡ Some e → EndsCopy token low high (answer_to e) (said_by ran.going.rounds)
    ends ending.Fine h = record { all = all_put low high ran.last (said_by ran.going.rounds) puts h; released = released.released h }
    ends (ending.Refused g) h = run_from laws (IsWithin low high) (λ n. n ≡ high) (begun (CopyProps token)) (copy_start token low high) ran.last ran.going.rounds goes (record { rightly = record { right = tt; numbers = λ job n h. h; follows = inl (subst (λ y. Follows (begun (CopyProps token)) y) start f) }; from = record { refusals = λ y z. absurd z; who = λ y z. absurd z; merged = λ y z. absurd z; highest = λ n e. sym e } }) g (ended_refused ran.last g h)
