-- A job's states follow what it hears, and what it does there is lawful.
use Rattle.std.proofs.Common.{◌≡◌, ℕ, subst, sym}
use Rattle.sync_core.specs.declared.state.JobState.{JobState}
use Rattle.sync_core.specs.declared.state.JobState.TheVariants as state
use Rattle.sync_core.specs.declared.answer.Answer.{Answer}
use Rattle.sync_core.specs.Jobs.{Job}
use Rattle.sync_core.specs.Deeds.{Deed, heard, IsLawfulDeed}
use Rattle.sync_core.specs.States.{deed_in, after, Follows, IsAskedFor}
use Rattle.sync_core.proofs.InitLemmas.{follows_init, lawful_init, asked_init}
use Rattle.sync_core.proofs.SyncLemmas.{follows_sync, lawful_sync, asked_sync}
use Rattle.sync_core.proofs.CopyLemmas.{follows_copy, lawful_copy, asked_copy}

pub follows : (job : Job) (t : ℕ) (s : JobState) (a : Answer) → Follows job s → Follows (heard job t (deed_in s) a) (after s a)
follows job t (state.Init s) a f = follows_init job t s a f
follows job t (state.Sync s) a f = follows_sync job t s a f
follows job t (state.Copy s) a f = follows_copy job t s a f

pub lawful : (job : Job) (s : JobState) → Follows job s → IsLawfulDeed job (deed_in s)
lawful job (state.Init s) f = lawful_init job s f
lawful job (state.Sync s) f = lawful_sync job s f
lawful job (state.Copy s) f = lawful_copy job s f

pub asked : (job : Job) (s : JobState) → Follows job s → IsAskedFor s job (deed_in s)
asked job (state.Init s) f = asked_init job s f
asked job (state.Sync s) f = asked_sync job s f
asked job (state.Copy s) f = asked_copy job s f

pub follows_by : (s : JobState) (a : Answer) (r : JobState) → r ≡ after s a → (job : Job) (t : ℕ) → Follows job s → Follows (heard job t (deed_in s) a) r
follows_by s a r e job t f = subst (λ x. Follows (heard job t (deed_in s) a) x) (sym e) (follows job t s a f)

pub lawful_by : (s : JobState) (d : Deed) → d ≡ deed_in s → (job : Job) → Follows job s → IsLawfulDeed job d
lawful_by s d e job f = subst (λ x. IsLawfulDeed job x) (sym e) (lawful job s f)

pub asked_by : (s : JobState) (d : Deed) → d ≡ deed_in s → (job : Job) → Follows job s → IsAskedFor s job d
asked_by s d e job f = subst (λ x. IsAskedFor s job x) (sym e) (asked job s f)
