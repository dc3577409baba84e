-- Where an answer may lead a sync job: for any fact, it holds there if it holds of each place.
use Rattle.std.proofs.Common.{◌≡◌, ℕ, ◌+◌, nat_lt, Bool, true, false, List, Option, Some, None, is_none, if◌then◌else◌, refl}
use Rattle.std.specs.Option.{option_map_or}
use Rattle.node_base.specs.Props.{PropMap}
use Rattle.dump_load.specs.declared.change.Change.{Change}
use Rattle.sync_core.specs.declared.sync_job.Known.{Known}
use Rattle.sync_core.specs.declared.sync_job.SyncPhase.{SyncPhase}
use Rattle.sync_core.specs.declared.sync_job.SyncPhase.TheVariants as phase
use Rattle.sync_core.specs.declared.sync_job.SyncJob.{SyncJob}
use Rattle.sync_core.specs.declared.fault.SyncFault.{SyncFault}
use Rattle.sync_core.specs.declared.fault.SyncFault.TheVariants as fault
use Rattle.sync_core.specs.declared.ending.Ending.TheVariants as ending
use Rattle.sync_core.specs.declared.answer.Answer.{Answer}
use Rattle.sync_core.specs.declared.answer.Answer.TheVariants as answer
use Rattle.sync_core.specs.declared.resting.Resting.{Resting}
use Rattle.sync_core.specs.Names.{Absent, Spelt, is_absent}
use Rattle.sync_core.specs.Mirror.{Standing}
use Rattle.sync_core.specs.Faults.{inconsistent_as}
use Rattle.sync_core.specs.Shapes.{shape_in}
use Rattle.sync_core.specs.Identities.{is_identity}
use Rattle.sync_core.specs.SyncTable.{at, give_up, inconsistent, seen, after_look, looked, resumed, after_who, next, after_set_copying, after_fetch, after_commit, after_fetch_props, after_put, after_merge, cleared, after_clear}

found : (Q : SyncJob → Type 0) (known : Known) (shape : Resting) → (Q (at known (resumed shape known.head)) × Q (give_up known fault.WrongMaster)) → (b : Bool) → Q (if b then at known (resumed shape known.head) else give_up known fault.WrongMaster)
found Q known shape w true = w.0
found Q known shape w false = w.1

pub set_copying_is : (Q : SyncJob → Type 0) (known : Known) (n : ℕ) (a : Answer) → Q (at (record known { copying = Spelt n }) (phase.Fetch n)) → ((f : SyncFault) → Q (give_up known f)) → Q (after_set_copying known n a)
set_copying_is Q known n answer.Done w g = w
set_copying_is Q known n (answer.Seen r) w g = g fault.OutOfTurn
set_copying_is Q known n (answer.Identity u) w g = g fault.OutOfTurn
set_copying_is Q known n (answer.Latest k) w g = g fault.OutOfTurn
set_copying_is Q known n (answer.Revision s p) w g = g fault.OutOfTurn
set_copying_is Q known n (answer.Map p) w g = g fault.OutOfTurn
set_copying_is Q known n (answer.Refused x) w g = g x
set_copying_is Q known n (answer.Failed x) w g = g (fault.MasterFailed x)

pub fetch_is : (Q : SyncJob → Type 0) (known : Known) (n : ℕ) (a : Answer) → ((set : List Change) (props : PropMap) → Q (at known (phase.Commit n set props))) → ((f : SyncFault) → Q (give_up known f)) → Q (after_fetch known n a)
fetch_is Q known n answer.Done w g = g fault.OutOfTurn
fetch_is Q known n (answer.Seen r) w g = g fault.OutOfTurn
fetch_is Q known n (answer.Identity u) w g = g fault.OutOfTurn
fetch_is Q known n (answer.Latest k) w g = g fault.OutOfTurn
fetch_is Q known n (answer.Revision s p) w g = w s p
fetch_is Q known n (answer.Map p) w g = g fault.OutOfTurn
fetch_is Q known n (answer.Refused x) w g = g x
fetch_is Q known n (answer.Failed x) w g = g (fault.MasterFailed x)

pub commit_is : (Q : SyncJob → Type 0) (known : Known) (n : ℕ) (a : Answer) → Q (at (record known { head = n }) (phase.FetchProps n)) → ((f : SyncFault) → Q (give_up known f)) → Q (after_commit known n a)
commit_is Q known n answer.Done w g = w
commit_is Q known n (answer.Seen r) w g = g fault.OutOfTurn
commit_is Q known n (answer.Identity u) w g = g fault.OutOfTurn
commit_is Q known n (answer.Latest k) w g = g fault.OutOfTurn
commit_is Q known n (answer.Revision s p) w g = g fault.OutOfTurn
commit_is Q known n (answer.Map p) w g = g fault.OutOfTurn
commit_is Q known n (answer.Refused x) w g = g x
commit_is Q known n (answer.Failed x) w g = g (fault.MasterFailed x)

pub fetch_props_is : (Q : SyncJob → Type 0) (known : Known) (n : ℕ) (a : Answer) → ((props : PropMap) → Q (at known (phase.Put n props))) → ((f : SyncFault) → Q (give_up known f)) → Q (after_fetch_props known n a)
fetch_props_is Q known n answer.Done w g = g fault.OutOfTurn
fetch_props_is Q known n (answer.Seen r) w g = g fault.OutOfTurn
fetch_props_is Q known n (answer.Identity u) w g = g fault.OutOfTurn
fetch_props_is Q known n (answer.Latest k) w g = g fault.OutOfTurn
fetch_props_is Q known n (answer.Revision s p) w g = g fault.OutOfTurn
fetch_props_is Q known n (answer.Map p) w g = w p
fetch_props_is Q known n (answer.Refused x) w g = g x
fetch_props_is Q known n (answer.Failed x) w g = g (fault.MasterFailed x)

pub put_is : (Q : SyncJob → Type 0) (known : Known) (n : ℕ) (a : Answer) → Q (at known (phase.Merge n)) → ((f : SyncFault) → Q (give_up known f)) → Q (after_put known n a)
put_is Q known n answer.Done w g = w
put_is Q known n (answer.Seen r) w g = g fault.OutOfTurn
put_is Q known n (answer.Identity u) w g = g fault.OutOfTurn
put_is Q known n (answer.Latest k) w g = g fault.OutOfTurn
put_is Q known n (answer.Revision s p) w g = g fault.OutOfTurn
put_is Q known n (answer.Map p) w g = g fault.OutOfTurn
put_is Q known n (answer.Refused x) w g = g x
put_is Q known n (answer.Failed x) w g = g (fault.MasterFailed x)

pub merge_is : (Q : SyncJob → Type 0) (known : Known) (n : ℕ) (a : Answer) → Q (at (record known { merged = Spelt n }) phase.Clear) → ((f : SyncFault) → Q (give_up known f)) → Q (after_merge known n a)
merge_is Q known n answer.Done w g = w
merge_is Q known n (answer.Seen r) w g = g fault.OutOfTurn
merge_is Q known n (answer.Identity u) w g = g fault.OutOfTurn
merge_is Q known n (answer.Latest k) w g = g fault.OutOfTurn
merge_is Q known n (answer.Revision s p) w g = g fault.OutOfTurn
merge_is Q known n (answer.Map p) w g = g fault.OutOfTurn
merge_is Q known n (answer.Refused x) w g = g x
merge_is Q known n (answer.Failed x) w g = g (fault.MasterFailed x)

pub clear_is : (Q : SyncJob → Type 0) (known : Known) (a : Answer) → Q (cleared (record known { copying = Absent })) → ((f : SyncFault) → Q (give_up known f)) → Q (after_clear known a)
clear_is Q known answer.Done w g = w
clear_is Q known (answer.Seen r) w g = g fault.OutOfTurn
clear_is Q known (answer.Identity u) w g = g fault.OutOfTurn
clear_is Q known (answer.Latest k) w g = g fault.OutOfTurn
clear_is Q known (answer.Revision s p) w g = g fault.OutOfTurn
clear_is Q known (answer.Map p) w g = g fault.OutOfTurn
clear_is Q known (answer.Refused x) w g = g x
clear_is Q known (answer.Failed x) w g = g (fault.MasterFailed x)

pub look_is : (Q : SyncJob → Type 0) (known : Known) (a : Answer) → ((r : Standing) → Q (looked (seen known r) r)) → ((f : SyncFault) → Q (give_up known f)) → Q (after_look known a)
look_is Q known answer.Done w g = g fault.OutOfTurn
look_is Q known (answer.Seen r) w g = w r
look_is Q known (answer.Identity u) w g = g fault.OutOfTurn
look_is Q known (answer.Latest k) w g = g fault.OutOfTurn
look_is Q known (answer.Revision s p) w g = g fault.OutOfTurn
look_is Q known (answer.Map p) w g = g fault.OutOfTurn
look_is Q known (answer.Refused x) w g = g x
look_is Q known (answer.Failed x) w g = g (fault.MasterFailed x)

pub who_is : (Q : SyncJob → Type 0) (known : Known) (shape : Resting) (uuid : Option (List ℕ)) (a : Answer) → (Q (at known (resumed shape known.head)) × Q (give_up known fault.WrongMaster)) → ((f : SyncFault) → Q (give_up known f)) → Q (after_who known shape uuid a)
who_is Q known shape uuid answer.Done w g = g fault.OutOfTurn
who_is Q known shape uuid (answer.Seen r) w g = g fault.OutOfTurn
who_is Q known shape uuid (answer.Identity u) w g = found Q known shape w (is_identity uuid u)
who_is Q known shape uuid (answer.Latest k) w g = g fault.OutOfTurn
who_is Q known shape uuid (answer.Revision s p) w g = g fault.OutOfTurn
who_is Q known shape uuid (answer.Map p) w g = g fault.OutOfTurn
who_is Q known shape uuid (answer.Refused x) w g = g x
who_is Q known shape uuid (answer.Failed x) w g = g (fault.MasterFailed x)

looks : (Q : SyncJob → Type 0) (known : Known) (s : Standing) → ((f : SyncFault) → Q (give_up known f)) → ((shape : Resting) → Q (at known (phase.Who shape s.uuid))) → (b : Bool) (o : Option Resting)
    → Q (if b then give_up known fault.NotInitialised else option_map_or (λ shape. at known (phase.Who shape s.uuid)) o (give_up known (inconsistent_as s)))
looks Q known s g w true o = g fault.NotInitialised
looks Q known s g w false None = g (inconsistent_as s)
looks Q known s g w false (Some shape) = w shape

pub looked_is : (Q : SyncJob → Type 0) (known : Known) (s : Standing) → ((f : SyncFault) → Q (give_up known f)) → ((shape : Resting) → Q (at known (phase.Who shape s.uuid))) → Q (looked known s)
looked_is Q known s g w = looks Q known s g w (is_none s.url) (shape_in s.merged s.copying s.head)

more : (Q : SyncPhase → Type 0) (known : Known) (b : Bool) → (b ≡ true → Q (phase.SetCopying (known.head + 1))) → Q (phase.Release ending.Fine) → Q (if b then phase.SetCopying (known.head + 1) else phase.Release ending.Fine)
more Q known true w r = w refl
more Q known false w r = r

fetched : (Q : SyncPhase → Type 0) (known : Known) (b : Bool) → Q (phase.Fetch (known.head + 1)) → Q (phase.Release (ending.Refused (inconsistent known))) → Q (if b then phase.Fetch (known.head + 1) else phase.Release (ending.Refused (inconsistent known)))
fetched Q known true w r = w
fetched Q known false w r = r

nexts : (Q : SyncPhase → Type 0) (known : Known) (n : ℕ) (b : Bool) → is_absent known.copying ≡ b → (nat_lt known.head n ≡ true → Q (phase.SetCopying (known.head + 1))) → (is_absent known.copying ≡ false → Q (phase.Fetch (known.head + 1)))
    → Q (phase.Release ending.Fine) → Q (phase.Release (ending.Refused (inconsistent known)))
    → Q (if b then (if nat_lt known.head n then phase.SetCopying (known.head + 1) else phase.Release ending.Fine) else (if nat_lt known.head 65535 then phase.Fetch (known.head + 1) else phase.Release (ending.Refused (inconsistent known))))
nexts Q known n true e w v r f = more Q known (nat_lt known.head n) w r
nexts Q known n false e w v r f = fetched Q known (nat_lt known.head 65535) (v e) f

pub next_is : (Q : SyncPhase → Type 0) (known : Known) (n : ℕ) → (nat_lt known.head n ≡ true → Q (phase.SetCopying (known.head + 1))) → (is_absent known.copying ≡ false → Q (phase.Fetch (known.head + 1)))
    → Q (phase.Release ending.Fine) → Q (phase.Release (ending.Refused (inconsistent known))) → Q (next known n)
next_is Q known n w v r f = nexts Q known n (is_absent known.copying) refl w v r f
