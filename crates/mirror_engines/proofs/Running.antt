-- What a run over a mirror's store comes to.
use Rattle.std.proofs.Common.{◌≡◌, ◌↔◌, ◌==◌, ℕ, Bool, true, false, List, [], ◌∷◌, ◌++◌, Option, None, Result, Ok, Err, IfErr, refl, sym, ap, subst, ◌∙◌, if◌then◌else◌}
use Rattle.std.specs.List.{AllZip, flat_map}
use Rattle.std.specs.Result.{OnOk}
use Rattle.std.specs.Io.KnownBytes.{Appends}
use Rattle.std.proofs.KnownBytes.{Appends-nil, Appends-trans}
use Rattle.std.proofs.lemmas.Bool.{true≢false}
use Rattle.std.proofs.lemmas.List.{append-nil, append_assoc}
use Rattle.fleet_disk.specs.Image.{Image}
use Rattle.fleet_disk.specs.Rules.{LeavesOnly}
use Rattle.fleet_disk.specs.declared.disk.Disk.{Ghosts}
use Rattle.byte_streams.specs.Causes.{Rose}
use Rattle.node_base.specs.declared.refusal.Refusal.{Refusal}
use Rattle.node_base.specs.declared.refusal.Refusal.TheVariants.{PeerFailed, OutOfTurn}
use Rattle.node_base.specs.Refusals.{refusal_number}
use Rattle.repo_store.specs.Words.{disk_of, repository_of, HasFailed}
use Rattle.repo_store.specs.declared.store.RepoStore.{RepoStore}
use Rattle.sync_core.specs.Faults.{refusal_of}
use Rattle.sync_core.specs.Jobs.{Job, Order}
use Rattle.sync_core.specs.Mirror.{Call}
use Rattle.sync_core.specs.declared.fault.SyncFault.{SyncFault}
use Rattle.sync_job.specs.Alone.{StandsAt, begun, store_of, holder_of}
use Rattle.sync_job.specs.Fronts.{HasCome, KeepsFront, Moving, WentAt, accepted_in, counted_in}
use Rattle.sync_job.specs.Mirrors.{MirrorNow}
use Rattle.sync_job.specs.Questions.{Exchange, IsSaidOf, KeepsAnswers, questions_in}
use Rattle.sync_job.specs.Runs.{Runs}
use Rattle.sync_job.specs.Said.{Spoken, told_in}
use Rattle.sync_job.specs.Telling.{IsSaidAs, KeepsTelling, calls_in}
use Rattle.sync_job.specs.declared.alone.AloneMirror.{AloneMirror}
use Rattle.sync_job.specs.declared.report.Told.{Told}
use Rattle.mirror_engines.specs.Lines.{IsPrinted, Printed, Lost, line_of}
use Rattle.mirror_engines.specs.Ports.{HasPrinted, is_lost, output_of}
use Rattle.mirror_engines.specs.Runs.{answer_of, told_as, IsUnheard, Leaves, Serves, TellsDevice}
use Rattle.mirror_engines.specs.Worlds.{Hears, Leads}
use Rattle.mirror_engines.specs.declared.printer.Printer.{Printer}
use Rattle.mirror_engines.proofs.Devices.{asked_alone}
use Rattle.sync_job.proofs.Devices.{was_led}

-- a line more
one_more : (told : List Told) (t : Told) → flat_map line_of (told ++ t ∷ []) ≡ flat_map line_of told ++ line_of t
one_more [] t = append-nil (line_of t)
one_more (x ∷ xs) t = ap (λ bs. line_of x ++ bs) (one_more xs t) ∙ sym (append_assoc (line_of x) (flat_map line_of xs) (line_of t))

-- nothing is printed yet
pub printed_none : {O : Type 0} (contents : O → Option (List ℕ)) (failures : O → ℕ) (p : Printer O) → is_lost p ≡ false → HasPrinted contents failures p p []
printed_none contents failures p l = record { printed = Printed l (Appends-nil (contents (output_of p))); failed = λ e. refl }

-- without a line lost one more is printed
pub printed_on : {O : Type 0} (contents : O → Option (List ℕ)) (failures : O → ℕ) (old new first : Printer O) (told : List Told) (t : Told) → HasPrinted contents failures old first told → is_lost old ≡ false → is_lost new ≡ false
    → Appends (contents (output_of old)) (contents (output_of new)) (line_of t) → failures (output_of new) ≡ failures (output_of old) → HasPrinted contents failures new first (told ++ t ∷ [])
printed_on contents failures old new first told t h was is adds same = record { printed = goes h.printed; failed = λ e. same ∙ h.failed was }
  where
    goes : IsPrinted (contents (output_of first)) (contents (output_of old)) (Rose (failures (output_of first)) (failures (output_of old))) (is_lost old) told → IsPrinted (contents (output_of first)) (contents (output_of new)) (Rose (failures (output_of first)) (failures (output_of new))) (is_lost new) (told ++ t ∷ [])
    goes (Printed l a) =
        Printed is (subst (λ bs. Appends (contents (output_of first)) (contents (output_of new)) bs) (sym (one_more told t))
        (Appends-trans (contents (output_of first)) (contents (output_of old)) (contents (output_of new)) (flat_map line_of told) (line_of t) a adds))
    goes (Lost l f) = absurd (true≢false (sym l ∙ was))

-- or it is lost
pub printed_lost : {O : Type 0} (contents : O → Option (List ℕ)) (failures : O → ℕ) (new first : Printer O) (told : List Told) → is_lost new ≡ true → Rose (failures (output_of first)) (failures (output_of new)) → HasPrinted contents failures new first told
printed_lost contents failures new first told l f = record { printed = Lost l f; failed = λ e. absurd (true≢false (sym l ∙ e)) }

-- once a line is lost all are
pub printed_stays : {O : Type 0} (contents : O → Option (List ℕ)) (failures : O → ℕ) (p first : Printer O) (told more : List Told) → is_lost p ≡ true → HasPrinted contents failures p first told → HasPrinted contents failures p first more
printed_stays contents failures p first told more l h = goes h.printed
  where
    goes : IsPrinted (contents (output_of first)) (contents (output_of p)) (Rose (failures (output_of first)) (failures (output_of p))) (is_lost p) told → HasPrinted contents failures p first more
    goes (Printed e a) = absurd (true≢false (sym l ∙ e))
    goes (Lost e f) = printed_lost contents failures p first more l f

-- the ghosts of a mirror that is held alone
abbrev pub stands_alone : {D : Type 0} {G : Ghosts D} → AloneMirror D G → MirrorNow → Type 0
stands_alone a m = StandsAt (store_of a) (holder_of a) m

abbrev pub clock_alone : {D : Type 0} {G : Ghosts D} → AloneMirror D G → ℕ
clock_alone {D} {G} a = G.clock (disk_of (store_of a))

abbrev pub left_alone : {D : Type 0} {G : Ghosts D} → AloneMirror D G → ℕ → Image → Type 0
left_alone {D} {G} a t image = G.left_since (disk_of (store_of a)) t image

abbrev pub honest_alone : {D : Type 0} {G : Ghosts D} → AloneMirror D G → Type 0
honest_alone {D} {G} a = G.honest (disk_of (store_of a))

-- what is left of a mirror that stood in its store
leaves : {D : Type 0} {G : Ghosts D} (before after : AloneMirror D G) (accepted counted : List Call) → StandsAt (store_of before) (holder_of before) (begun (repository_of (store_of before)))
    → WentAt stands_alone clock_alone left_alone honest_alone before after accepted counted → Leaves (store_of before) (store_of after) accepted counted
leaves before after accepted counted there w =
    let went = w.1 (begun (repository_of (store_of before))) there in
    record { honest = w.0; now = went.now; holder = holder_of after; come = went.come; there = went.there; any_moment = λ h. let x = went.images h in record { later = x.later; each = x.each; before = x.before }; last = went.left }

-- as the master was asked
heard_in : {M : Type 0} (answered : M → M → List Exchange → Type 0) (first last : M) (said : List Spoken) → ((before : M) → answered before before []) → KeepsAnswers answered first last [] said → Hears answered first said
heard_in answered first last said none h =
    let t = h first [] (record { made = []; more = []; adds = refl; answered = none first; said = tt }) in
    record { last = last; made = t.made; gave = t.answered; told = subst (λ es. AllZip IsSaidOf t.made (questions_in es)) (sym t.adds) t.said }

-- and the mirror
led_in : {D : Type 0} {G : Ghosts D} (before after : AloneMirror D G) (said : List Spoken) → KeepsTelling asked_alone before after [] said → StandsAt (store_of before) (holder_of before) (begun (repository_of (store_of before))) → Leads (store_of before) (store_of after) said
led_in before after said h there =
    let t = h before [] (record { made = []; more = []; adds = refl; asked = refl; said = tt; others = tt }) in
    let w = was_led before after t.made (begun (repository_of (store_of before))) t.asked there in
    record { now = w.0; holder = holder_of after; there = w.1; led = record { made = t.made; steps = w.2; told = subst (λ es. AllZip IsSaidAs t.made (calls_in es)) (sym t.adds) t.said } }

-- what was said and printed in a run, and what it left
pub serves : {D M : Type 0} {G : Ghosts D} {O : Type 0} (answered : M → M → List Exchange → Type 0) (first last : M) (contents : O → Option (List ℕ)) (failures : O → ℕ) (IsRun : List Spoken → Result (Unit {0}) SyncFault → Type 0) (N : Job → ℕ → Type 0) (order : Order)
    (End : List Spoken → Type 0) (before after : AloneMirror D G) (p q : Printer O) (said : List Spoken) (ended : Result (Unit {0}) SyncFault)
    → (Runs N order [] said IsUnheard IsUnheard End → IsRun said ended) → Runs N order [] said (HasPrinted contents failures p) (HasPrinted contents failures q) End → is_lost p ≡ false
    → (¬ HasFailed (store_of before) → StandsAt (store_of before) None (begun (repository_of (store_of before)))) → holder_of before ≡ None
    → Moving [] said (WentAt stands_alone clock_alone left_alone honest_alone before after) → TellsDevice (store_of before) (store_of after) said (answer_of ended (is_lost q))
    → ((m : M) → answered m m []) → KeepsAnswers answered first last [] said → KeepsTelling asked_alone before after [] said → Serves answered first IsRun (store_of before) (store_of after) (contents (output_of p)) (contents (output_of q)) (Rose (failures (output_of p)) (failures (output_of q))) (answer_of ended (is_lost q))
serves answered first last contents failures IsRun N order End before after p q said ended is run l there holder moving device none hears leads =
    record {
      said = said;
      ended = ended;
      run = is (record { more = run.more; adds = run.adds; right = run.right; reported = run.reported; tells = λ u told h. tt; let_go = run.let_go; end = run.end });
      lost = is_lost q;
      printed = subst (λ xs. IsPrinted (contents (output_of p)) (contents (output_of q)) (Rose (failures (output_of p)) (failures (output_of q))) (is_lost q) (told_in xs)) (sym run.adds)
          (run.tells p [] (printed_none contents failures p l)).printed;
      answer = refl;
      heard = heard_in answered first last said none hears;
      led = λ works. led_in before after said leads (subst (λ h. StandsAt (store_of before) h (begun (repository_of (store_of before)))) (sym holder) (there works));
      left = λ works. leaves before after (accepted_in said) (counted_in said)
          (subst (λ h. StandsAt (store_of before) h (begun (repository_of (store_of before)))) (sym holder) (there works))
          (subst (λ xs. WentAt stands_alone clock_alone left_alone honest_alone before after (accepted_in xs) (counted_in xs)) (sym moving.adds) moving.went);
      device = device;
    }

-- the writer has failed in a run only where a line was lost
pub writer_failed : {O : Type 0} (contents : O → Option (List ℕ)) (failures : O → ℕ) (N : Job → ℕ → Type 0) (order : Order) (End : List Spoken → Type 0) (p q : Printer O) (said : List Spoken)
    → Runs N order [] said (HasPrinted contents failures p) (HasPrinted contents failures q) End → is_lost p ≡ false → HasPrinted contents failures q p (told_in said)
writer_failed contents failures N order End p q said run l = subst (λ xs. HasPrinted contents failures q p (told_in xs)) (sym run.adds) (run.tells p [] (printed_none contents failures p l))

lost_failed : {O : Type 0} (contents : O → Option (List ℕ)) (failures : O → ℕ) (q p : Printer O) (told : List Told) → HasPrinted contents failures q p told → is_lost q ≡ true → Rose (failures (output_of p)) (failures (output_of q))
lost_failed contents failures q p told h l = goes h.printed
  where
    goes : IsPrinted (contents (output_of p)) (contents (output_of q)) (Rose (failures (output_of p)) (failures (output_of q))) (is_lost q) told → Rose (failures (output_of p)) (failures (output_of q))
    goes (Printed e a) = absurd (true≢false (sym l ∙ e))
    goes (Lost e f) = f

told_apart : (e : Refusal) (t : Bool) → refusal_number e == 49 ≡ t → told_as e ≡ PeerFailed → ⊥
told_apart e true is h = let bad : OutOfTurn ≡ PeerFailed = subst (λ b. (if b then OutOfTurn else e) ≡ PeerFailed) is h in cc
told_apart e false is h =
    let same : e ≡ PeerFailed = subst (λ b. (if b then OutOfTurn else e) ≡ PeerFailed) is h in
    let bad : true ≡ false = sym (ap (λ r. refusal_number r == 49) same) ∙ is in
    cc

-- 49 is answered only where a line was lost
pub only_lost : (ended : Result (Unit {0}) SyncFault) (lost : Bool) → IfErr (answer_of ended lost) (λ e. e ≡ PeerFailed → lost ≡ true)
only_lost (Ok u) false = tt
only_lost (Ok u) true = λ e. refl
only_lost (Err f) lost = λ e. absurd (told_apart (refusal_of f) (refusal_number (refusal_of f) == 49) refl e)

-- and a run that ends well has lost none
none_lost : (ended : Result (Unit {0}) SyncFault) (lost : Bool) → OnOk (answer_of ended lost) (lost ≡ false)
none_lost (Ok u) false = refl
none_lost (Ok u) true = tt
none_lost (Err f) lost = tt

on_ok : {T E : Type 0} (r : Result T E) (A B : Type 0) → (A → B) → OnOk r A → OnOk r B
on_ok (Ok t) A B f a = f a
on_ok (Err e) A B f a = tt

if_err : {T E : Type 0} (r : Result T E) (A B : E → Type 0) → ((e : E) → A e → B e) → IfErr r A → IfErr r B
if_err (Ok t) A B f a = tt
if_err (Err e) A B f a = f e a

pub unfailed : {O : Type 0} (contents : O → Option (List ℕ)) (failures : O → ℕ) (q p : Printer O) (told : List Told) (ended : Result (Unit {0}) SyncFault) → HasPrinted contents failures q p told
    → OnOk (answer_of ended (is_lost q)) (failures (output_of q) ≡ failures (output_of p))
unfailed contents failures q p told ended h = on_ok (answer_of ended (is_lost q)) (is_lost q ≡ false) (failures (output_of q) ≡ failures (output_of p)) h.failed (none_lost ended (is_lost q))

pub peer_failed : {O : Type 0} (contents : O → Option (List ℕ)) (failures : O → ℕ) (q p : Printer O) (told : List Told) (ended : Result (Unit {0}) SyncFault) → HasPrinted contents failures q p told
    → IfErr (answer_of ended (is_lost q)) (λ e. e ≡ PeerFailed → Rose (failures (output_of p)) (failures (output_of q)))
peer_failed contents failures q p told ended h =
    if_err (answer_of ended (is_lost q)) (λ e. e ≡ PeerFailed → is_lost q ≡ true) (λ e. e ≡ PeerFailed → Rose (failures (output_of p)) (failures (output_of q))) (λ e f is. lost_failed contents failures q p told h (f is)) (only_lost ended (is_lost q))

-- what a run that ends so comes to
pub record Whole {D M : Type 0} {G : Ghosts D} {O : Type 0} (answered : M → M → List Exchange → Type 0) (master : M) (contents : O → Option (List ℕ)) (failures : O → ℕ) (IsRun : List Spoken → Result (Unit {0}) SyncFault → Type 0) (store new : RepoStore D G) (output sink : O)
    (answer : Result (Unit {0}) Refusal) : Type 0 where
  pub ran : Serves answered master IsRun store new (contents output) (contents sink) (Rose (failures output) (failures sink)) answer
  pub unfailed : OnOk answer (failures sink ≡ failures output)
  pub peer : IfErr answer (λ e. e ≡ PeerFailed → Rose (failures output) (failures sink))

-- from the ports as they are made to what is taken out of them
pub whole : {D M : Type 0} {G : Ghosts D} {O : Type 0} (answered : M → M → List Exchange → Type 0) (master mold mnew : M) (contents : O → Option (List ℕ)) (failures : O → ℕ) (IsRun : List Spoken → Result (Unit {0}) SyncFault → Type 0) (N : Job → ℕ → Type 0) (order : Order)
    (End : List Spoken → Type 0) (store new : RepoStore D G) (output sink : O) (held before after left : AloneMirror D G) (first p q report : Printer O) (start said : List Spoken)
    (ended : Result (Unit {0}) SyncFault) (lost : Bool) (answer : Result (Unit {0}) Refusal)
    → store_of held ≡ store → (¬ HasFailed store → StandsAt store None (begun (repository_of store))) → holder_of held ≡ None → output_of first ≡ output → is_lost first ≡ false
    → start ≡ [] → before ≡ held → p ≡ first
    → Runs N order start said (HasPrinted contents failures p) (HasPrinted contents failures q) End → Moving start said (WentAt stands_alone clock_alone left_alone honest_alone before after)
    → TellsDevice (store_of before) (store_of after) said (answer_of ended (is_lost q)) → left ≡ after → report ≡ q → lost ≡ is_lost report → answer ≡ answer_of ended lost → new ≡ store_of left → sink ≡ output_of report
    → (Runs N order [] said IsUnheard IsUnheard End → IsRun said ended)
    → mold ≡ master → ((m : M) → answered m m []) → KeepsAnswers answered mold mnew start said → KeepsTelling asked_alone before after start said → Whole answered master contents failures IsRun store new output sink answer
whole {M = M} {O = O} answered master mold mnew contents failures IsRun N order End store new output sink held before after left first p q report start said ended lost answer at stands holder out none begins same_mirror same_report run moving device left_is report_is lost_is answer_is new_is sink_is is same_master unasked hears leads =
    record {
      ran = subst (λ (k : M). Serves answered k IsRun store new (contents output) (contents sink) (Rose (failures output) (failures sink)) answer) same_master
          (subst (λ x. Serves answered mold IsRun x new (contents output) (contents sink) (Rose (failures output) (failures sink)) answer) e_store
          (subst (λ x. Serves answered mold IsRun (store_of before) x (contents output) (contents sink) (Rose (failures output) (failures sink)) answer) e_new
          (subst (λ (x : O). Serves answered mold IsRun (store_of before) (store_of after) (contents x) (contents sink) (Rose (failures x) (failures sink)) answer) e_output
          (subst (λ (x : O). Serves answered mold IsRun (store_of before) (store_of after) (contents (output_of p)) (contents x) (Rose (failures (output_of p)) (failures x)) answer) e_sink
          (subst (λ x. Serves answered mold IsRun (store_of before) (store_of after) (contents (output_of p)) (contents (output_of q)) (Rose (failures (output_of p)) (failures (output_of q))) x) e_answer
          (serves answered mold mnew contents failures IsRun N order End before after p q said ended is run_on fresh_report
          (subst (λ x. ¬ HasFailed x → StandsAt x None (begun (repository_of x))) (sym e_store) stands)
          (ap holder_of same_mirror ∙ holder)
          (subst (λ x. Moving x said (WentAt stands_alone clock_alone left_alone honest_alone before after)) begins moving) device unasked
          (subst (λ x. KeepsAnswers answered mold mnew x said) begins hears) (subst (λ x. KeepsTelling asked_alone before after x said) begins leads)))))));
      unfailed = subst (λ x. OnOk x (failures sink ≡ failures output)) e_answer
          (subst (λ (x : O). OnOk (answer_of ended (is_lost q)) (failures x ≡ failures output)) e_sink
          (subst (λ (x : O). OnOk (answer_of ended (is_lost q)) (failures (output_of q) ≡ failures x)) e_output (unfailed contents failures q p (told_in said) ended printed)));
      peer = subst (λ x. IfErr x (λ e. e ≡ PeerFailed → Rose (failures output) (failures sink))) e_answer
          (subst (λ (x : O). IfErr (answer_of ended (is_lost q)) (λ e. e ≡ PeerFailed → Rose (failures output) (failures x))) e_sink
          (subst (λ (x : O). IfErr (answer_of ended (is_lost q)) (λ e. e ≡ PeerFailed → Rose (failures x) (failures (output_of q)))) e_output (peer_failed contents failures q p (told_in said) ended printed)));
    }
  where
    e_store : store_of before ≡ store
    e_store = ap store_of same_mirror ∙ at

    e_new : store_of after ≡ new
    e_new = sym (new_is ∙ ap store_of left_is)

    e_output : output_of p ≡ output
    e_output = ap output_of same_report ∙ out

    e_sink : output_of q ≡ sink
    e_sink = sym (sink_is ∙ ap output_of report_is)

    e_answer : answer_of ended (is_lost q) ≡ answer
    e_answer = sym (answer_is ∙ ap (answer_of ended) (lost_is ∙ ap is_lost report_is))

    fresh_report : is_lost p ≡ false
    fresh_report = ap is_lost same_report ∙ none

    run_on : Runs N order [] said (HasPrinted contents failures p) (HasPrinted contents failures q) End
    run_on = subst (λ x. Runs N order x said (HasPrinted contents failures p) (HasPrinted contents failures q) End) begins run

    printed : HasPrinted contents failures q p (told_in said)
    printed = writer_failed contents failures N order End p q said run_on fresh_report
