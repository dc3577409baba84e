-- What a job's run was, and what it is answered with.
use Rattle.std.proofs.Common.{◌≡◌, inl, inr, ℕ, List, [], ◌++◌, None, Result, Ok, Err, subst, refl, sym}
use Rattle.std.specs.List.{AllByRecursion, AllZip}
use Rattle.fleet_jobs.specs.declared.order.Order.{Order}
use Rattle.fleet_jobs.specs.declared.order.Work.{Work}
use Rattle.fleet_jobs.specs.declared.order.Work.TheVariants.{Sync, Copy}
use Rattle.mirror_engines.specs.Runs.{IsUnheard}
use Rattle.mirror_share.specs.Ports.{reader_of, seat_of, share_of, WasAsked}
use Rattle.mirror_share.specs.Seats.{hand_of, place_of}
use Rattle.mirror_share.specs.Served.{IsServedIn}
use Rattle.mirror_share.specs.declared.port.SeatMirror.{SeatMirror}
use Rattle.mirror_share.specs.declared.share.MirrorShare.{MirrorShare}
use Rattle.mirror_share.proofs.Happening.{is_served}
use Rattle.store_share.specs.Seats.{seen_by}
use Rattle.store_share.specs.declared.seat.ReaderSeat.{ReaderSeat}
use Rattle.store_share.specs.declared.share.MasterShare.{MasterShare}
use Rattle.sync_core.specs.Jobs.{Job, begun}
use Rattle.sync_core.specs.Jobs as jobs
use Rattle.sync_core.specs.declared.fault.SyncFault.{SyncFault}
use Rattle.sync_job.specs.Questions.{IsSaidOf, KeepsAnswers, questions_in}
use Rattle.sync_job.specs.Runs.{Runs, IsCopying, IsWithin}
use Rattle.sync_job.specs.Said.{Spoken}
use Rattle.sync_job.specs.Telling.{IsOther, IsSaidAs, KeepsTelling, calls_in, others_in}
use Rattle.sync_job.specs.declared.report.Told.{Told}
use Rattle.fleet_shares.specs.Answers.{Answers, EndsAs}
use Rattle.fleet_shares.specs.Jobs.{EndsBy, HasRun, IsHeardFrom, IsRunOf, job_order}
use Rattle.fleet_shares.specs.Ports.{WasTold}
use Rattle.fleet_shares.specs.Ports as master
use Rattle.fleet_shares.specs.declared.master.SharedMaster.{SharedMaster}
use Rattle.fleet_shares.proofs.Agreeing.{IsMade, brings}
use Rattle.fleet_shares.proofs.Meeting.{met_in}

-- a run that nobody hears, from the first word that was said
pub unheard : {B : Type 0} (N : Job → ℕ → Type 0) (order : jobs.Order) (End : List Spoken → Type 0) (old said : List Spoken) (before after : B → List Told → Type 0) → old ≡ []
    → Runs N order old said before after End → Runs N order [] said IsUnheard IsUnheard End
unheard N order End old said before after e run = record {
  more = run.more;
  adds = subst (λ (l : List Spoken). said ≡ l ++ run.more) e run.adds;
  right = run.right;
  reported = run.reported;
  tells = (λ u told h. tt);
  let_go = run.let_go;
  end = run.end;
}

-- what was said of a shared master through ports through which nothing was said before
heard_from : {R L D : Type 0} {r : _} {g : _} (share : MasterShare L D r g) (first last : SharedMaster R L D r g) (said : List Spoken) → master.share_of first ≡ share → KeepsAnswers WasTold first last [] said → IsHeardFrom share said
heard_from share first last said e keeps =
    let t = keeps first [] (record { made = []; more = []; adds = refl; answered = record { share = refl; told = tt }; said = tt }) in
    subst (λ s. IsHeardFrom s said) e (record { reader = master.seat_of last; made = t.made; answers = t.answered.told; told = subst (λ xs. AllZip IsSaidOf t.made (questions_in xs)) (sym t.adds) t.said })

-- it is served, from a seat that didn't hold the lock
served_at : {R L D : Type 0} {r : _} {g : _} (first last : SeatMirror R L D r g) (work : Work) (token : List ℕ) (said : List Spoken) (ended : Result (Unit {0}) SyncFault) → hand_of (seat_of first) ≡ None → KeepsTelling WasAsked first last [] said
    → IsRunOf work token said ended → IsServedIn (begun (job_order work token)) [] said
served_at first last (Sync steal) token said ended none keeps run = is_served IsCopying (jobs.Sync token steal) first last [] said run.more none run.adds run.right keeps
served_at first last (Copy low high) token said ended none keeps run = is_served (IsWithin low high) (jobs.CopyProps token) first last [] said run.more none run.adds run.right keeps

-- a run at a seat of a share, through ports through which nothing was said before
ran_at : {R M L D : Type 0} {m : _} {r : _} {g : _} (origin : MasterShare M D m g) (share : MirrorShare L D r g) (first last : SeatMirror R L D r g) (order : Order) (said : List Spoken) (ended : Result (Unit {0}) SyncFault) → IsHeardFrom origin said
    → share_of first ≡ share → hand_of (seat_of first) ≡ None → KeepsTelling WasAsked first last [] said → IsRunOf order.work order.token said ended → HasRun origin share order ended
ran_at origin share first last order said ended heard e none keeps run =
    let t = keeps first [] (record { made = []; more = []; adds = refl; asked = record { share = refl; seat = refl; steps = tt; seen = tt; carried = refl }; said = tt; others = tt }) in
    let told = subst (λ xs. AllZip IsSaidAs t.made (calls_in xs)) (sym t.adds) t.said in
    let others = subst (λ xs. AllByRecursion IsOther (others_in xs)) (sym t.adds) t.others in
    let made : IsMade origin (share_of first) heard.reader (reader_of last) said = record { seat = place_of (seat_of first); made = t.made; steps = t.asked.steps; seen = t.asked.seen; calls = told; asked = heard.made; answers = heard.answers; questions = heard.told } in
    let all = brings origin (share_of first) heard.reader (reader_of last) order.work order.token said ended run made in
    subst (λ s. HasRun origin s order ended) e
    (record {
      said = said;
      run = run;
      calls = record { seat = place_of (seat_of first); reader = reader_of last; made = t.made; steps = t.asked.steps; seen = t.asked.seen; told = told };
      answers = heard;
      served = served_at first last order.work order.token said ended none keeps run;
      met = met_in (share_of first) (place_of (seat_of first)) order.work order.token said ended t.made run told others t.asked.steps;
      copied = all.copied;
      put = all.put;
      brought = all.brought;
    })

-- a job that was let in ends as its run
pub ends_as : {R M L D : Type 0} {m : _} {r : _} {g : _} (origin : MasterShare M D m g) (asked heard : SharedMaster R M D m g) (share : MirrorShare L D r g) (first last : SeatMirror R L D r g) (order : Order) (said : List Spoken) (ended : Result (Unit {0}) SyncFault)
    → master.share_of asked ≡ origin → KeepsAnswers WasTold asked heard [] said → share_of first ≡ share → hand_of (seat_of first) ≡ None → KeepsTelling WasAsked first last [] said → EndsBy order said ended → EndsAs origin share order ended
ends_as origin asked heard share first last order said (Ok u) o answers e none keeps (inl run) = ran_at origin share first last order said (Ok u) (heard_from origin asked heard said o answers) e none keeps run
ends_as origin asked heard share first last order said (Ok u) o answers e none keeps (inr memory) = absurd (let starved = memory.0 in cc)
ends_as origin asked heard share first last order said (Err f) o answers e none keeps (inl run) = inl (ran_at origin share first last order said (Err f) (heard_from origin asked heard said o answers) e none keeps run)
ends_as origin asked heard share first last order said (Err f) o answers e none keeps (inr memory) = let starved = memory.0 in inr (cc)

-- what it is answered with
pub answered_well : {M L D : Type 0} {m : _} {r : _} {g : _} (origin : MasterShare M D m g) (share : MirrorShare L D r g) (order : Order) (n : ℕ) (seat : ReaderSeat L r) (ended : Result (Unit {0}) SyncFault) (u : Unit {0}) → ended ≡ Ok u
    → EndsAs origin share order ended → seen_by seat ≡ n → Answers origin share order (Ok n)
answered_well origin share order n seat ended u is h seen = (subst (EndsAs origin share order) is h, (seat, seen))
