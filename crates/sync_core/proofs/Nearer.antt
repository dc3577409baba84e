-- Each answer brings a job nearer to its end.
use Rattle.std.proofs.Common.{◌≡◌, ◌≢◌, ℕ, ◌+◌, ◌-◌, ◌*◌, ◌<◌, ◌≤◌, nat_lt, nat_le, not, Bool, true, false, List, Option, Some, None, is_none, is_some, if◌then◌else◌, refl, sym, ◌∙◌, subst, arith}
use Rattle.std.specs.Option.{option_map_or}
use Rattle.std.proofs.lemmas.Bool.Decides.{nat_tests}
use Rattle.sync_core.specs.declared.sync_job.Known.{Known}
use Rattle.sync_core.specs.declared.sync_job.SyncPhase.{SyncPhase}
use Rattle.sync_core.specs.declared.sync_job.SyncPhase.TheVariants as phase
use Rattle.sync_core.specs.declared.sync_job.SyncJob.{SyncJob}
use Rattle.sync_core.specs.declared.copy_job.CopyPhase.{CopyPhase}
use Rattle.sync_core.specs.declared.copy_job.CopyPhase.TheVariants as copying
use Rattle.sync_core.specs.declared.init_job.InitPhase.{InitPhase}
use Rattle.sync_core.specs.declared.init_job.InitPhase.TheVariants as init
use Rattle.sync_core.specs.declared.state.JobState.{JobState}
use Rattle.sync_core.specs.declared.state.JobState.TheVariants as state
use Rattle.sync_core.specs.declared.fault.SyncFault.TheVariants as fault
use Rattle.sync_core.specs.declared.ending.Ending.TheVariants as ending
use Rattle.sync_core.specs.declared.answer.Answer.{Answer}
use Rattle.sync_core.specs.declared.answer.Answer.TheVariants as answer
use Rattle.sync_core.specs.declared.resting.Resting.{Resting}
use Rattle.sync_core.specs.declared.resting.Resting.TheVariants as resting
use Rattle.sync_core.specs.Names.{Number, Absent, is_absent, reaches}
use Rattle.sync_core.specs.Mirror.{Standing}
use Rattle.sync_core.specs.Faults.{inconsistent_as}
use Rattle.sync_core.specs.Shapes.{shape_in}
use Rattle.sync_core.specs.Identities.{is_identity}
use Rattle.sync_core.specs.SyncTable.{at, seen, resumed, next, after_latest, after_lock, after_in, deed_in}
use Rattle.sync_core.specs.CopyTable as copy
use Rattle.sync_core.specs.InitTable as initial
use Rattle.sync_core.specs.Deeds.{Ends}
use Rattle.sync_core.specs.States as states
use Rattle.sync_core.specs.Measures.{most, beyond, at_first, sync_left, copy_left, init_left, left, CanBe, ComesNearer}
use Rattle.sync_core.proofs.SyncSteps.{set_copying_is, fetch_is, commit_is, fetch_props_is, put_is, merge_is, clear_is, look_is, who_is, looked_is, next_is}

-- a sync job is within that
abbrev Under : ℕ → SyncJob → Type 0
Under k s = sync_left s.phase s.known < k

-- how many there are is at most what there may be before it was asked
first_most : (known : Known) (n : ℕ) → beyond known n ≤ at_first known
first_most known n = by_latest known.latest
  where
    by_latest : (latest : Option ℕ) → option_map_or (λ l. l - n) latest most ≤ most + option_map_or (λ l. l) latest 0
    by_latest None = omega arith
    by_latest (Some l) = omega arith

least : (known : Known) → most ≤ at_first known
least known = omega arith

resumes : (known : Known) (shape : Resting) → Under (13 * at_first known + 10) (at known (resumed shape known.head))
resumes known resting.Idle = let l : most ≤ at_first known = least known in omega (arith, l)
resumes known (resting.Copying n) = let l : most ≤ at_first known = least known in omega (arith, l)
resumes known (resting.Committed n) = let l : beyond known known.head ≤ at_first known = first_most known known.head in omega (arith, l)
resumes known resting.Merged = let l : beyond known known.head ≤ at_first known = first_most known known.head in omega (arith, l)

-- the next of n revisions, from one that copies nothing or not
abbrev told : Known → ℕ → Known
told known n = record known { latest = Some n }

asked : (known : Known) (n : ℕ) → n ≤ 65535 → Under (13 * most + 2) (at (told known n) (next (told known n) n))
asked known n few =
    next_is (λ p. Under (13 * most + 2) (at (told known n) p)) (told known n) n
    (λ e. omega (arith, few))
    (λ e. omega (arith, few))
    (omega arith)
    (omega arith)

latest : (known : Known) (a : Answer) → CanBe a → Under (13 * most + 2) (after_latest known a)
latest known answer.Done c = omega arith
latest known (answer.Seen r) c = omega arith
latest known (answer.Identity u) c = omega arith
latest known (answer.Latest n) c = asked known n c
latest known (answer.Revision s p) c = omega arith
latest known (answer.Map p) c = omega arith
latest known (answer.Refused x) c = omega arith
latest known (answer.Failed x) c = omega arith

-- one revision less is left
one_less : (h l : ℕ) → h < l → 13 * (1 + (l - (h + 1))) + 5 < 13 * (l - h) + 6
one_less h l below = omega (arith, below)

cleared_left : (known : Known) (l : Option ℕ) → known.latest ≡ l → is_absent known.copying ≡ true → Under (13 * option_map_or (λ k. k - known.head) l most + 6) (option_map_or (λ n. at known (next known n)) l (at known phase.Latest))
cleared_left known None e c = omega arith
cleared_left known (Some n) e c =
    next_is (λ p. Under (13 * (n - known.head) + 6) (at known p)) known n
    (λ b. let below : known.head < n = grind (arith, nat_tests, b) in
    subst (λ o. 13 * (1 + option_map_or (λ k. k - (known.head + 1)) o most) + 5 < 13 * (n - known.head) + 6) (sym e) (one_less known.head n below))
    (λ b. absurd (let f : true ≡ false = sym c ∙ b in cc))
    (omega arith)
    (omega arith)

lock : (known : Known) (a : Answer) → Under (13 * at_first known + 12) (after_lock known a)
lock known answer.Done = omega arith
lock known (answer.Seen r) = omega arith
lock known (answer.Identity u) = omega arith
lock known (answer.Latest n) = omega arith
lock known (answer.Revision s p) = omega arith
lock known (answer.Map p) = omega arith
lock known (answer.Refused x) = omega arith
lock known (answer.Failed x) = omega arith

sync_nearer : (p : SyncPhase) (known : Known) (a : Answer) → CanBe a → deed_in p ≢ Ends → Under (sync_left p known) (after_in p known a)
sync_nearer (phase.Lock token steal) known a c e = lock known a
sync_nearer phase.Look known a c e =
    look_is (Under (13 * at_first known + 11)) known a
    (λ r. looked_is (Under (13 * at_first known + 11)) (seen known r) r (λ f. omega arith) (λ shape. omega arith))
    (λ f. omega arith)
sync_nearer (phase.Who shape uuid) known a c e = who_is (Under (13 * at_first known + 10)) known shape uuid a (resumes known shape, omega arith) (λ f. omega arith)
sync_nearer phase.Latest known a c e = latest known a c
sync_nearer (phase.SetCopying n) known a c e = set_copying_is (Under (13 * (1 + beyond known n) + 5)) known n a (omega arith) (λ f. omega arith)
sync_nearer (phase.Fetch n) known a c e = fetch_is (Under (13 * (1 + beyond known n) + 4)) known n a (λ s p. omega arith) (λ f. omega arith)
sync_nearer (phase.Commit n set props) known a c e = commit_is (Under (13 * (1 + beyond known n) + 3)) known n a (omega arith) (λ f. omega arith)
sync_nearer (phase.FetchProps n) known a c e = fetch_props_is (Under (13 * beyond known known.head + 9)) known n a (λ p. omega arith) (λ f. omega arith)
sync_nearer (phase.Put n props) known a c e = put_is (Under (13 * beyond known known.head + 8)) known n a (omega arith) (λ f. omega arith)
sync_nearer (phase.Merge n) known a c e = merge_is (Under (13 * beyond known known.head + 7)) known n a (omega arith) (λ f. omega arith)
sync_nearer phase.Clear known a c e =
    clear_is (Under (13 * beyond known known.head + 6)) known a (cleared_left (record known { copying = Absent }) known.latest refl refl) (λ f. omega arith)
sync_nearer (phase.Release x) known a c e = omega arith
sync_nearer (phase.End x) known a c e = absurd (e refl)

abbrev Below : ℕ → ℕ → CopyPhase → Type 0
Below high k p = copy_left p high < k

copy_lock : (high : ℕ) (a : Answer) → Below high (2 * high + 7) (copy.after_lock a)
copy_lock high answer.Done = omega arith
copy_lock high (answer.Seen r) = omega arith
copy_lock high (answer.Identity u) = omega arith
copy_lock high (answer.Latest k) = omega arith
copy_lock high (answer.Revision s p) = omega arith
copy_lock high (answer.Map p) = omega arith
copy_lock high (answer.Refused x) = omega arith
copy_lock high (answer.Failed x) = omega arith

copy_looks : (high : ℕ) (s : Standing) (b : Bool) (o : Option Resting) → Below high (2 * high + 6) (if b then copy.give_up fault.NotInitialised else if is_some o then copying.Who s.merged s.uuid else copy.give_up (inconsistent_as s))
copy_looks high s true o = omega arith
copy_looks high s false None = omega arith
copy_looks high s false (Some shape) = omega arith

copy_look : (high : ℕ) (a : Answer) → Below high (2 * high + 6) (copy.after_look a)
copy_look high answer.Done = omega arith
copy_look high (answer.Seen r) = copy_looks high r (is_none r.url) (shape_in r.merged r.copying r.head)
copy_look high (answer.Identity u) = omega arith
copy_look high (answer.Latest k) = omega arith
copy_look high (answer.Revision s p) = omega arith
copy_look high (answer.Map p) = omega arith
copy_look high (answer.Refused x) = omega arith
copy_look high (answer.Failed x) = omega arith

copy_begins : (low high : ℕ) (b c : Bool) → Below high (2 * high + 5) (if b then copy.give_up (fault.NotYetCopied high) else if c then copying.FetchProps low else copying.Release ending.Fine)
copy_begins low high true c = omega arith
copy_begins low high false true = omega arith
copy_begins low high false false = omega arith

copy_found : (low high : ℕ) (merged : Number) (b : Bool) → Below high (2 * high + 5) (if b then copy.begin low high merged else copy.give_up fault.WrongMaster)
copy_found low high merged true = copy_begins low high (not (reaches merged high)) (nat_le low high)
copy_found low high merged false = omega arith

copy_who : (low high : ℕ) (merged : Number) (uuid : Option (List ℕ)) (a : Answer) → Below high (2 * high + 5) (copy.after_who low high merged uuid a)
copy_who low high merged uuid answer.Done = omega arith
copy_who low high merged uuid (answer.Seen r) = omega arith
copy_who low high merged uuid (answer.Identity u) = copy_found low high merged (is_identity uuid u)
copy_who low high merged uuid (answer.Latest k) = omega arith
copy_who low high merged uuid (answer.Revision s p) = omega arith
copy_who low high merged uuid (answer.Map p) = omega arith
copy_who low high merged uuid (answer.Refused x) = omega arith
copy_who low high merged uuid (answer.Failed x) = omega arith

copy_fetch : (n high : ℕ) (a : Answer) → Below high (2 * (high - n) + 4) (copy.after_fetch_props n a)
copy_fetch n high answer.Done = omega arith
copy_fetch n high (answer.Seen r) = omega arith
copy_fetch n high (answer.Identity u) = omega arith
copy_fetch n high (answer.Latest k) = omega arith
copy_fetch n high (answer.Revision s p) = omega arith
copy_fetch n high (answer.Map p) = omega arith
copy_fetch n high (answer.Refused x) = omega arith
copy_fetch n high (answer.Failed x) = omega arith

copy_next : (n high : ℕ) (b : Bool) → nat_lt n high ≡ b → Below high (2 * (high - n) + 3) (if b then copying.FetchProps (n + 1) else copying.Release ending.Fine)
copy_next n high true e = let below : n < high = grind (arith, nat_tests, e) in omega (arith, below)
copy_next n high false e = omega arith

copy_put : (n high : ℕ) (a : Answer) → Below high (2 * (high - n) + 3) (copy.after_put high n a)
copy_put n high answer.Done = copy_next n high (nat_lt n high) refl
copy_put n high (answer.Seen r) = omega arith
copy_put n high (answer.Identity u) = omega arith
copy_put n high (answer.Latest k) = omega arith
copy_put n high (answer.Revision s p) = omega arith
copy_put n high (answer.Map p) = omega arith
copy_put n high (answer.Refused x) = omega arith
copy_put n high (answer.Failed x) = omega arith

copy_nearer : (token : List ℕ) (p : CopyPhase) (low high : ℕ) (a : Answer) → copy.deed_in token p ≢ Ends → Below high (copy_left p high) (copy.after_in p low high a)
copy_nearer token copying.Lock low high a e = copy_lock high a
copy_nearer token copying.Look low high a e = copy_look high a
copy_nearer token (copying.Who merged uuid) low high a e = copy_who low high merged uuid a
copy_nearer token (copying.FetchProps n) low high a e = copy_fetch n high a
copy_nearer token (copying.Put n props) low high a e = copy_put n high a
copy_nearer token (copying.Release x) low high a e = omega arith
copy_nearer token (copying.End x) low high a e = absurd (e refl)

init_nearer : (url : List ℕ) (p : InitPhase) (a : Answer) → initial.deed_in url p ≢ Ends → init_left (initial.after_in p a) < init_left p
init_nearer url init.Who answer.Done e = omega arith
init_nearer url init.Who (answer.Seen r) e = omega arith
init_nearer url init.Who (answer.Identity u) e = omega arith
init_nearer url init.Who (answer.Latest k) e = omega arith
init_nearer url init.Who (answer.Revision s p) e = omega arith
init_nearer url init.Who (answer.Map p) e = omega arith
init_nearer url init.Who (answer.Refused x) e = omega arith
init_nearer url init.Who (answer.Failed x) e = omega arith
init_nearer url (init.FetchProps uuid) answer.Done e = omega arith
init_nearer url (init.FetchProps uuid) (answer.Seen r) e = omega arith
init_nearer url (init.FetchProps uuid) (answer.Identity u) e = omega arith
init_nearer url (init.FetchProps uuid) (answer.Latest k) e = omega arith
init_nearer url (init.FetchProps uuid) (answer.Revision s p) e = omega arith
init_nearer url (init.FetchProps uuid) (answer.Map p) e = omega arith
init_nearer url (init.FetchProps uuid) (answer.Refused x) e = omega arith
init_nearer url (init.FetchProps uuid) (answer.Failed x) e = omega arith
init_nearer url (init.Init uuid props) answer.Done e = omega arith
init_nearer url (init.Init uuid props) (answer.Seen r) e = omega arith
init_nearer url (init.Init uuid props) (answer.Identity u) e = omega arith
init_nearer url (init.Init uuid props) (answer.Latest k) e = omega arith
init_nearer url (init.Init uuid props) (answer.Revision s p) e = omega arith
init_nearer url (init.Init uuid props) (answer.Map p) e = omega arith
init_nearer url (init.Init uuid props) (answer.Refused x) e = omega arith
init_nearer url (init.Init uuid props) (answer.Failed x) e = omega arith
init_nearer url (init.End x) a e = absurd (e refl)

pub comes-nearer : ComesNearer
comes-nearer (state.Init s) a c e = init_nearer s.url s.phase a e
comes-nearer (state.Sync s) a c e = sync_nearer s.phase s.known a c e
comes-nearer (state.Copy s) a c e = copy_nearer s.token s.phase s.low s.high a e

pub nearer_by : (s : JobState) (a : Answer) (r : JobState) → r ≡ states.after s a → CanBe a → states.deed_in s ≢ Ends → left r < left s
nearer_by s a r e c n = subst (λ x. left x < left s) (sym e) (comes-nearer s a c n)
