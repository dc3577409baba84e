-- Jobs of a run hear the answers that the code's jobs absorb.
use Rattle.std.proofs.Common.{◌≡◌, ℕ, Option, Some, None, is_some, slice_set, if◌then◌else◌, refl, sym, ap, ◌∙◌, subst}
use Rattle.std.specs.Option.{option_map_or}
use Rattle.node_base.specs.Props.{PropMap}
use Rattle.sync_core.specs.declared.answer.Answer.{Answer}
use Rattle.sync_core.specs.declared.answer.Answer.TheVariants as answer
use Rattle.sync_core.specs.declared.state.JobState.{JobState}
use Rattle.sync_core.specs.Mirror.{Call, Reply, Done, Seen, Refused, refusal, granted, reply_to}
use Rattle.sync_core.specs.Jobs.{Job, with_fetched, answered, refused_to}
use Rattle.sync_core.specs.Deeds.{Calls, called, told_identity, told_latest, given_revision, given_map, heard}
use Rattle.sync_core.specs.States.{deed_in, after, Follows}
use Rattle.sync_core.specs.World.{Origin, moment_of, map_at, Question, Identity, Latest, Fetch, FetchProps, Room, Happening, Begin, Ask, Make, Starve, Leave, Read, Stop, StopAfter, job_at, IsCallOf, MayHappen, told, hears, does, made, room_after}
use Rattle.sync_core.specs.Hearing.{asked, IsRefusal, IsGiven, IsAnswerOf, IsAnswerFor, IsDone, AnswersAreHeard, RefusalTellsNothing, JobsGoOn, StopsInFlight}
use Rattle.sync_core.proofs.StateLemmas.{follows_by, lawful_by}

-- what a refusal leaves
left : (job : Job) (t n : ℕ) (a : Answer) → IsRefusal a → (told_identity job a ≡ job) × (told_latest job a ≡ job) × (given_revision job t n a ≡ job) × (given_map job t n a ≡ job)
left job t n (answer.Refused f) r = (refl, refl, refl, refl)
left job t n (answer.Failed text) r = (refl, refl, refl, refl)
left job t n answer.Done r = absurd r
left job t n (answer.Seen s) r = absurd r
left job t n (answer.Identity u) r = absurd r
left job t n (answer.Latest m) r = absurd r
left job t n (answer.Revision set props) r = absurd r
left job t n (answer.Map props) r = absurd r

pub refusal-tells-nothing : RefusalTellsNothing
refusal-tells-nothing job t Identity a r = (left job t 0 a r).0
refusal-tells-nothing job t Latest a r = (left job t 0 a r).1
refusal-tells-nothing job t (Fetch n set) a r = (left job t n a r).2
refusal-tells-nothing job t (FetchProps n) a r = (left job t n a r).3

-- the master's answer
told-heard : (o : Origin) (job : Job) (question : Question) (a : Answer) → IsAnswerOf o question a → told o job question ≡ heard job (moment_of o) (asked question) a
told-heard o job Identity a e = rw e refl
told-heard o job Latest a e = rw e refl
told-heard o job (Fetch n set) a e = of_revision (map_at o (moment_of o) n) e
  where
    of_revision : (s : Option PropMap) → IsGiven (answer.Revision set) s a → option_map_or (λ p. with_fetched job n (Some set) p (moment_of o)) s job ≡ given_revision job (moment_of o) n a
    of_revision (Some p) g = rw g refl
    of_revision None g = sym (left job (moment_of o) n a g).2
told-heard o job (FetchProps n) a e = of_map (map_at o (moment_of o) n) e
  where
    of_map : (s : Option PropMap) → IsGiven answer.Map s a → option_map_or (λ p. with_fetched job n None p (moment_of o)) s job ≡ given_map job (moment_of o) n a
    of_map (Some p) g = rw g refl
    of_map None g = sym (left job (moment_of o) n a g).3

-- the mirror's
reply-heard : (job : Job) (call : Call) (r : Reply) (a : Answer) → IsAnswerFor r a → answered job call r ≡ called job call a
reply-heard job call Done a e = rw e refl
reply-heard job call (Seen s) a e = rw e refl
reply-heard job call (Refused why) a e = rw e.1 refl

made-jobs : (room : Room) (seat : ℕ) (call : Call) (job : Job) → (made room seat call job).jobs ≡ slice_set room.jobs seat (Some (answered job call (reply_to room.mirror seat call)))
made-jobs room seat call job =
    elim (refusal room.mirror seat call) as (λ s. (if is_some s then hears room seat (refused_to job call) else does room seat job call).jobs ≡ slice_set room.jobs seat (Some (answered job call (option_map_or Refused s (granted room.mirror call))))) [
      | None ↦ refl
      | Some why ↦ refl
    ]

pub answers-are-heard : AnswersAreHeard
answers-are-heard o room seat job d a (Ask k question) runs e = subst (λ i. (room_after o room (Ask i question)).jobs ≡ slice_set room.jobs seat (Some (heard job (moment_of o) d a))) (sym e.0) asks
  where
    asks : (room_after o room (Ask seat question)).jobs ≡ slice_set room.jobs seat (Some (heard job (moment_of o) d a))
    asks = rw runs (ap (λ j. slice_set room.jobs seat (Some j)) (told-heard o job question a e.3 ∙ ap (λ x. heard job (moment_of o) x a) e.1))
answers-are-heard o room seat job d a (Make k call) runs e = subst (λ i. (room_after o room (Make i call)).jobs ≡ slice_set room.jobs seat (Some (heard job (moment_of o) d a))) (sym e.0) makes
  where
    makes : (room_after o room (Make seat call)).jobs ≡ slice_set room.jobs seat (Some (heard job (moment_of o) d a))
    makes = rw runs (made-jobs room seat call job ∙ ap (λ j. slice_set room.jobs seat (Some j)) (reply-heard job call (reply_to room.mirror seat call) a e.2 ∙ ap (λ x. heard job (moment_of o) x a) e.1))
answers-are-heard o room seat job d a (Starve k call) runs e = subst (λ i. (room_after o room (Starve i call)).jobs ≡ slice_set room.jobs seat (Some (heard job (moment_of o) d a))) (sym e.0) starves
  where
    refusal_is : refused_to job call ≡ called job call a
    refusal_is = rw e.2.1 refl

    starves : (room_after o room (Starve seat call)).jobs ≡ slice_set room.jobs seat (Some (heard job (moment_of o) d a))
    starves = rw runs (ap (λ j. slice_set room.jobs seat (Some j)) (refusal_is ∙ ap (λ x. heard job (moment_of o) x a) e.1))
answers-are-heard o room seat job d a (Begin order) runs e = absurd e
answers-are-heard o room seat job d a (Leave k) runs e = absurd e
answers-are-heard o room seat job d a (Read n) runs e = absurd e
answers-are-heard o room seat job d a Stop runs e = absurd e
answers-are-heard o room seat job d a (StopAfter k call) runs e = absurd e

-- a call that a job in that state makes
call-of : (room : Room) (seat k : ℕ) (job : Job) (s : JobState) (call : Call) → job_at room.jobs seat ≡ Some job → Follows job s → k ≡ seat → Calls call ≡ deed_in s → IsCallOf room k call
call-of room seat k job s call runs f e d =
    record {
      job = job;
      runs = subst (λ i. job_at room.jobs i ≡ Some job) (sym e) runs;
      lawful = lawful_by s (Calls call) d job f;
    }

may : (o : Origin) (room : Room) (seat : ℕ) (job : Job) (s : JobState) (a : Answer) (what : Happening) → job_at room.jobs seat ≡ Some job → Follows job s → IsDone o room seat (deed_in s) a what → MayHappen o room what
may o room seat job s a (Ask k question) runs f e = e.2
may o room seat job s a (Make k call) runs f e = call-of room seat k job s call runs f e.0 e.1
may o room seat job s a (Starve k call) runs f e = call-of room seat k job s call runs f e.0 e.1
may o room seat job s a (Begin order) runs f e = absurd e
may o room seat job s a (Leave k) runs f e = absurd e
may o room seat job s a (Read n) runs f e = absurd e
may o room seat job s a Stop runs f e = absurd e
may o room seat job s a (StopAfter k call) runs f e = absurd e

pub jobs-go-on : JobsGoOn
jobs-go-on o room seat job s a what runs f e = (may o room seat job s a what runs f e, follows_by s a (after s a) refl job (moment_of o) f)

pub stops-in-flight : StopsInFlight
stops-in-flight o room seat job s call runs f d free = (call-of room seat seat job s call runs f refl d, free)
