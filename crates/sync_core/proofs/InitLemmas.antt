-- An init job's states follow what it hears, and what it does there is lawful.
use Rattle.std.proofs.Common.{ℕ, List, None, refl}
use Rattle.node_base.specs.Props.{PropMap}
use Rattle.sync_core.specs.declared.init_job.InitPhase.{InitPhase}
use Rattle.sync_core.specs.declared.init_job.InitPhase.TheVariants as phase
use Rattle.sync_core.specs.declared.init_job.InitJob.{InitJob}
use Rattle.sync_core.specs.declared.state.JobState.TheVariants as state
use Rattle.sync_core.specs.declared.answer.Answer.{Answer}
use Rattle.sync_core.specs.declared.answer.Answer.TheVariants as answer
use Rattle.sync_core.specs.Jobs.{Job}
use Rattle.sync_core.specs.Deeds.{heard, IsLawfulDeed}
use Rattle.sync_core.specs.States.{IsAskedFor}
use Rattle.sync_core.specs.InitTable.{deed_in, next_deed, after_who, after_fetch_props, after_init, after_in, after}
use Rattle.sync_core.specs.InitFollows.{HasBegun, FollowsIn, FollowsInit}
use Rattle.sync_core.proofs.Gives.{gives_map}

who : (url : List ℕ) (job : Job) (t : ℕ) (a : Answer) → HasBegun job url → FollowsIn (after_who a) (heard job t (deed_in url phase.Who) a) url
who url job t answer.Done f = tt
who url job t (answer.Seen r) f = tt
who url job t (answer.Identity u) f = (record { order = f.order; begun = f.begun }, refl)
who url job t (answer.Latest n) f = tt
who url job t (answer.Revision set props) f = tt
who url job t (answer.Map props) f = tt
who url job t (answer.Refused x) f = tt
who url job t (answer.Failed x) f = tt

fetch_props : (uuid url : List ℕ) (job : Job) (t : ℕ) (a : Answer) → FollowsIn (phase.FetchProps uuid) job url → FollowsIn (after_fetch_props uuid a) (heard job t (deed_in url (phase.FetchProps uuid)) a) url
fetch_props uuid url job t answer.Done f = tt
fetch_props uuid url job t (answer.Seen r) f = tt
fetch_props uuid url job t (answer.Identity u) f = tt
fetch_props uuid url job t (answer.Latest n) f = tt
fetch_props uuid url job t (answer.Revision set props) f = tt
fetch_props uuid url job t (answer.Map props) f = (record { order = f.0.order; begun = f.0.begun }, f.1, gives_map job.fetched 0 None props t)
fetch_props uuid url job t (answer.Refused x) f = tt
fetch_props uuid url job t (answer.Failed x) f = tt

init : (uuid url : List ℕ) (props : PropMap) (job : Job) (t : ℕ) (a : Answer) → FollowsIn (after_init a) (heard job t (deed_in url (phase.Init uuid props)) a) url
init uuid url props job t answer.Done = tt
init uuid url props job t (answer.Seen r) = tt
init uuid url props job t (answer.Identity u) = tt
init uuid url props job t (answer.Latest n) = tt
init uuid url props job t (answer.Revision set p) = tt
init uuid url props job t (answer.Map p) = tt
init uuid url props job t (answer.Refused x) = tt
init uuid url props job t (answer.Failed x) = tt

follows_in : (p : InitPhase) (url : List ℕ) (job : Job) (t : ℕ) (a : Answer) → FollowsIn p job url → FollowsIn (after_in p a) (heard job t (deed_in url p) a) url
follows_in phase.Who url job t a f = who url job t a f
follows_in (phase.FetchProps uuid) url job t a f = fetch_props uuid url job t a f
follows_in (phase.Init uuid props) url job t a f = init uuid url props job t a
follows_in (phase.End e) url job t a f = tt

-- the state after an answer follows what the job has heard with it
pub follows_init : (job : Job) (t : ℕ) (s : InitJob) (a : Answer) → FollowsInit job s → FollowsInit (heard job t (next_deed s) a) (after s a)
follows_init job t s a f = follows_in s.phase s.url job t a f

lawful_in : (p : InitPhase) (url : List ℕ) (job : Job) → FollowsIn p job url → IsLawfulDeed job (deed_in url p)
lawful_in phase.Who url job f = tt
lawful_in (phase.FetchProps uuid) url job f = tt
lawful_in (phase.Init uuid props) url job f = record { begun = f.0.begun; order = f.0.order; identity = f.1; gives = f.2 }
lawful_in (phase.End e) url job f = tt

-- what the job does there is lawful
pub lawful_init : (job : Job) (s : InitJob) → FollowsInit job s → IsLawfulDeed job (next_deed s)
lawful_init job s f = lawful_in s.phase s.url job f

asked_in : (p : InitPhase) (url : List ℕ) (job : Job) → IsAskedFor (state.Init (record { url = url; phase = p })) job (deed_in url p)
asked_in phase.Who url job = tt
asked_in (phase.FetchProps uuid) url job = refl
asked_in (phase.Init uuid props) url job = tt
asked_in (phase.End e) url job = tt

-- the properties that the job asks for are those of revision 0
pub asked_init : (job : Job) (s : InitJob) → FollowsInit job s → IsAskedFor (state.Init s) job (next_deed s)
asked_init job s f = asked_in s.phase s.url job
