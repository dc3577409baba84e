-- What a run leaves of a mirror's trees and its sets, where its master is a repository.
use Rattle.std.proofs.Common.{◌≡◌, ◌⊎◌, inl, inr, ℕ, ◌<◌, ◌≤◌, Bool, true, false, List, [], ◌∷◌, ◌++◌, length, Option, None, Result, Ok, Err, refl, sym, ap, subst, ◌∙◌}
use Rattle.std.specs.Result.{OnOk}
use Rattle.std.proofs.lemmas.List.{append-nil, length-map}
use Rattle.fleet_disk.specs.Image.{Image}
use Rattle.fleet_disk.specs.Rules.{LeavesOnly}
use Rattle.fleet_disk.specs.declared.disk.Disk.{Ghosts}
use Rattle.node_base.specs.declared.refusal.Refusal.{Refusal}
use Rattle.repo_core.proofs.MadeTrees.{length-made}
use Rattle.repo_core.specs.Repository.{AllMade, IsRepository, Repository, trees_of}
use Rattle.repo_store.specs.Journal as journal
use Rattle.repo_store.specs.Words.{disk_of, repository_of, revisions_of, HasFailed}
use Rattle.repo_store.specs.declared.store.RepoStore.{RepoStore}
use Rattle.sync_core.specs.Jobs.{Job, Order, Sync, begun as begun_job}
use Rattle.sync_core.specs.Deeds.{Deed, Calls, AsksIdentity, AsksLatest, Fetches, FetchesProps, Ends}
use Rattle.sync_core.specs.Mirror.{Call}
use Rattle.sync_core.specs.SyncFollows.{IsSynced}
use Rattle.sync_core.specs.declared.fault.SyncFault.{SyncFault}
use Rattle.sync_job.specs.Alone.{begun, IsAnsweredBy, IsHeardOf}
use Rattle.sync_job.specs.Fronts.{EndsKeepAll, HasCome, Working, Doubtful, KeepsFront, accepted_in, counted_in, replayed}
use Rattle.sync_job.specs.Leading.{IsLawful, FrontsKeepSets, FrontsStayFirst, HasFirstSets, SyncedHasAll, StaysFirst, TellsMaster, LeadsMirror}
use Rattle.sync_job.specs.Mirrors.{MirrorNow, Keeps}
use Rattle.sync_job.specs.Questions.{Exchange}
use Rattle.sync_job.specs.Runs.{AreRight, IsAsked, Runs, Synced, hears, hears_all}
use Rattle.sync_job.specs.Said.{Spoken, Says, NoTree, Tells}
use Rattle.sync_job.specs.declared.report.Told.{Told}
use Rattle.sync_job.specs.Worlds.{AreFirst}
use Rattle.sync_job.specs.declared.master.MasterPort.{Ghosts as MasterGhosts}
use Rattle.mirror_engines.specs.Runs.{answer_of, IsWorked, Leaves, Serves}
use Rattle.mirror_engines.specs.Worlds.{Brings, BringsSets, BringsTrees, GivesOwnSets, Hears, IsCaughtUp, IsInWorld, IsPortOf, IsThroughout, Leads, unknown}
use Rattle.mirror_engines.specs.declared.work.Work.{Work}
use Rattle.mirror_engines.specs.declared.work.Work.TheVariants as work

-- the words of a run are lawful, of whatever numbers

asked_so : (IsNumber : Job → ℕ → Type 0) (job : Job) (d : Deed) → IsAsked IsNumber job d → IsAsked (λ _ _. Unit {0}) job d
asked_so IsNumber job (Calls call) h = tt
asked_so IsNumber job AsksIdentity h = tt
asked_so IsNumber job AsksLatest h = h
asked_so IsNumber job (Fetches n) h = tt
asked_so IsNumber job (FetchesProps n) h = tt
asked_so IsNumber job Ends h = h

lawful_so : (IsNumber : Job → ℕ → Type 0) (said : List Spoken) (job : Job) → AreRight IsNumber job said → IsLawful job said
lawful_so IsNumber [] job r = tt
lawful_so IsNumber (Says d o ∷ es) job r = ((r.0.0, asked_so IsNumber job d r.0.1), lawful_so IsNumber es (hears job (Says d o)) r.1)
lawful_so IsNumber (NoTree n o ∷ es) job r = (tt, lawful_so IsNumber es job r.1)
lawful_so IsNumber (Tells t ∷ es) job r = (tt, lawful_so IsNumber es job r.1)

record IsRight (said : List Spoken) : Type 0 where
  pub order : Order
  pub right : IsLawful (begun_job order) said

right_in : {B : Type 0} {heard_old heard_new : B → List Told → Type 0} {IsEnd : List Spoken → Type 0} (IsNumber : Job → ℕ → Type 0) (order : Order) (said : List Spoken) → Runs IsNumber order [] said heard_old heard_new IsEnd → IsRight said
right_in IsNumber order said r = record { order = order; right = lawful_so IsNumber said (begun_job order) (subst (λ es. AreRight IsNumber (begun_job order) es) (sym r.adds) r.right) }

worked_right : (w : Work) (said : List Spoken) (ended : Result (Unit {0}) SyncFault) → IsWorked w said ended → IsRight said
worked_right (work.Initialize url) said ended r = right_in _ _ said r
worked_right (work.Synchronize token steal) said ended r = right_in _ _ said r
worked_right (work.CopyRevprops token low high) said ended r = right_in _ _ said r

-- what the port told is told of the repository
tells_of : {M : Type 0} (answered : M → M → List Exchange → Type 0) (master : M) (source : Repository) (said : List Spoken) → IsPortOf answered master source → Hears answered master said → TellsMaster (IsHeardOf source) said
tells_of answered master source said is h = record { made = h.made; each = is h.last h.made h.gave; told = h.told }

gives_in : {M : Type 0} (answered : M → M → List Exchange → Type 0) (master : M) (source : Repository) (said : List Spoken) → GivesOwnSets answered master source → Hears answered master said → TellsMaster (IsAnsweredBy source) said
gives_in answered master source said is h = record { made = h.made; each = is h.last h.made h.gave; told = h.told }

-- a repository has as many sets as revisions
as_many : (r : Repository) → IsRepository r → length r.sets ≡ length r.revisions
as_many r is = length-made [] r.sets (trees_of r.revisions) is.made ∙ length-map r.revisions (λ x. x.tree)

-- what was accepted is a front of what counts
front_of : (m now : MirrorNow) (accepted counted : List Call) → HasCome m now accepted counted → (rest : List Call) × (accepted ++ rest ≡ counted)
front_of m now accepted counted (Working same none all at) = ([], append-nil accepted ∙ sym all)
front_of m now accepted counted (Doubtful call working in_it is all at) = (call ∷ [], sym all)

come_to : (m now : MirrorNow) (accepted counted : List Call) → HasCome m now accepted counted → now.repository ≡ replayed m.repository accepted
come_to m now accepted counted (Working same none all at) = at
come_to m now accepted counted (Doubtful call working in_it is all at) = at

leaves_as : {D : Type 0} (clock : D → ℕ) (left_since : D → ℕ → Image → Type 0) (old new : D) (P Q : Image → Type 0) → ((c : Image) → P c → Q c) → LeavesOnly clock left_since old new P → LeavesOnly clock left_since old new Q
leaves_as clock left_since old new P Q f x = record { later = x.later; each = λ c l. f c (x.each c l); before = λ t c le l. widen t c (x.before t c le l) }
  where
    widen : (t : ℕ) (c : Image) → left_since old t c ⊎ P c → left_since old t c ⊎ Q c
    widen t c (inl y) = inl y
    widen t c (inr y) = inr (f c y)

-- what is so after each front of the calls that count is so throughout
throughout : {D M : Type 0} {G : Ghosts D} (answered : M → M → List Exchange → Type 0) (master : M) (w : Work) (old new : RepoStore D G) (before now : Option (List ℕ)) (fails : Type 0) (result : Result (Unit {0}) Refusal) (P : Repository → Type 0) → EndsKeepAll
    → (s : Serves answered master (IsWorked w) old new before now fails result) → ¬ HasFailed old → ((front rest : List Call) → front ++ rest ≡ counted_in s.said → P (replayed (repository_of old) front)) → IsThroughout P old new
throughout {G = G} answered master w old new before now fails result P ends s works so =
    record {
      memory = subst P (sym (come_to (begun (repository_of old)) left.now (accepted_in s.said) (counted_in s.said) left.come) ∙ left.there.repository) (so (accepted_in s.said) accepted.0 accepted.1);
      disk = λ honest. record {
        during = leaves_as G.clock G.left_since (disk_of old) (disk_of new) (KeepsFront (begun (repository_of old)) (counted_in s.said)) Kept during (left.any_moment honest);
        last = λ image l. last image (ends (begun (repository_of old)) left.now (accepted_in s.said) (counted_in s.said) image refl left.come (left.last honest image l));
      };
    }
  where
    Kept : Image → Type 0
    Kept image = (r : Repository) × P r × journal.Keeps r image

    left : Leaves old new (accepted_in s.said) (counted_in s.said)
    left = s.left works

    accepted : (rest : List Call) × (accepted_in s.said ++ rest ≡ counted_in s.said)
    accepted = front_of (begun (repository_of old)) left.now (accepted_in s.said) (counted_in s.said) left.come

    during : (image : Image) → KeepsFront (begun (repository_of old)) (counted_in s.said) image → Kept image
    during image (inl (inl k)) = (repository_of old, so [] (counted_in s.said) refl, k)
    during image (inl (inr k)) = absurd k
    during image (inr f) = (replayed (repository_of old) f.0, so f.0 f.1 f.2, f.3)

    last : (image : Image) → journal.Keeps (replayed (repository_of old) (accepted_in s.said)) image ⊎ journal.Keeps (replayed (repository_of old) (counted_in s.said)) image → Kept image
    last image (inl k) = (replayed (repository_of old) (accepted_in s.said), so (accepted_in s.said) accepted.0 accepted.1, k)
    last image (inr k) = (replayed (repository_of old) (counted_in s.said), so (counted_in s.said) [] (append-nil (counted_in s.said)), k)

brings_trees : {D M : Type 0} {G : Ghosts D} (answered : M → M → List Exchange → Type 0) (master : M) (w : Work) (old new : RepoStore D G) (before now : Option (List ℕ)) (fails : Type 0) (result : Result (Unit {0}) Refusal) → FrontsStayFirst → EndsKeepAll → 0 < length (revisions_of old)
    → Serves answered master (IsWorked w) old new before now fails result → (source : Repository) → IsPortOf answered master source → ¬ HasFailed old → BringsTrees source old new
brings_trees answered master w old new before now fails result fronts ends some s source is works first =
    let right = worked_right w s.said s.ended s.run in
    let led = s.led works in
    throughout answered master w old new before now fails result (StaysFirst source (repository_of old)) ends s works
    (λ front rest e. fronts source right.order s.said (begun (repository_of old)) led.now right.right (tells_of answered master source s.said is s.heard) led.led some first front rest e)

brings_sets : {D M : Type 0} {G : Ghosts D} (answered : M → M → List Exchange → Type 0) (master : M) (w : Work) (old new : RepoStore D G) (before now : Option (List ℕ)) (fails : Type 0) (result : Result (Unit {0}) Refusal) → FrontsKeepSets → EndsKeepAll → IsRepository (repository_of old)
    → Serves answered master (IsWorked w) old new before now fails result → (source : Repository) → GivesOwnSets answered master source → ¬ HasFailed old → BringsSets source old new
brings_sets answered master w old new before now fails result fronts ends is s source gives works first =
    let right = worked_right w s.said s.ended s.run in
    let led = s.led works in
    throughout answered master w old new before now fails result (HasFirstSets source) ends s works
    (λ front rest e. fronts source right.order s.said (begun (repository_of old)) led.now right.right (gives_in answered master source s.said gives s.heard) led.led is.begun (as_many (repository_of old) is) first front rest e)

-- a synchronisation that is done
ended_well : (ended : Result (Unit {0}) SyncFault) (lost : Bool) (result : Result (Unit {0}) Refusal) (P : Type 0) → result ≡ answer_of ended lost → (ended ≡ Ok tt → P) → OnOk result P
ended_well (Ok u) false result P e f = subst (λ r. OnOk r P) (sym e) (f refl)
ended_well (Ok u) true result P e f = subst (λ r. OnOk r P) (sym e) tt
ended_well (Err x) lost result P e f = subst (λ r. OnOk r P) (sym e) tt

synced_in : (token : List ℕ) (steal : Bool) (said : List Spoken) → IsWorked (work.Synchronize token steal) said (Ok tt) → IsSynced (hears_all (begun_job (Sync token steal)) said)
synced_in token steal said r = subst (λ es. IsSynced (hears_all (begun_job (Sync token steal)) es)) (sym r.adds) r.end.all

brings_all : {D M : Type 0} {G : Ghosts D} (answered : M → M → List Exchange → Type 0) (master : M) (w : Work) (old new : RepoStore D G) (before now : Option (List ℕ)) (fails : Type 0) (result : Result (Unit {0}) Refusal) → SyncedHasAll → 0 < length (revisions_of old)
    → Serves answered master (IsWorked w) old new before now fails result → (source : Repository) → IsPortOf answered master source → ¬ HasFailed old → OnOk result (IsCaughtUp w source new)
brings_all answered master (work.Initialize url) old new before now fails result all some s source is works = ended_well s.ended s.lost result (Unit {0}) s.answer (λ e. tt)
brings_all answered master (work.CopyRevprops token low high) old new before now fails result all some s source is works = ended_well s.ended s.lost result (Unit {0}) s.answer (λ e. tt)
brings_all answered master (work.Synchronize token steal) old new before now fails result all some s source is works =
    ended_well s.ended s.lost result (length source.revisions ≤ length (revisions_of new)) s.answer
    (λ e. subst (λ r. length source.revisions ≤ length r.revisions) (s.led works).there.repository
    (all source (Sync token steal) s.said (begun (repository_of old)) (s.led works).now (tells_of answered master source s.said is s.heard) (s.led works).led some (synced_in token steal s.said (subst (λ x. IsWorked (work.Synchronize token steal) s.said x) e s.run))))

-- all that a run of a work brings
pub brings : {D M : Type 0} {G : Ghosts D} (H : MasterGhosts M) (master : M) (w is : Work) (old new : RepoStore D G) (before now : Option (List ℕ)) (fails : Type 0) (result : Result (Unit {0}) Refusal) → w ≡ is → FrontsStayFirst → FrontsKeepSets → SyncedHasAll → EndsKeepAll → IsRepository (repository_of old)
    → Serves H.answered master (IsWorked is) old new before now fails result → IsInWorld H master old new → Brings H w master old new result
brings H master w is old new before now fails result e fronts sets synced ends rules s world =
    record {
      world = world;
      trees = brings_trees H.answered master is old new before now fails result fronts ends rules.begun s;
      sets = brings_sets H.answered master is old new before now fails result sets ends rules s;
      all = λ source port works. subst (λ x. OnOk result (IsCaughtUp x source new)) (sym e) (brings_all H.answered master is old new before now fails result synced rules.begun s source port works);
    }

-- of whatever master a run was, it is one of a master of which nothing is known
pub unknown_serves : {D M : Type 0} {G : Ghosts D} (answered : M → M → List Exchange → Type 0) (master : M) (IsRun : List Spoken → Result (Unit {0}) SyncFault → Type 0) (old new : RepoStore D G) (before now : Option (List ℕ)) (fails : Type 0) (result : Result (Unit {0}) Refusal)
    → Serves answered master IsRun old new before now fails result → Serves unknown tt IsRun old new before now fails result
unknown_serves answered master IsRun old new before now fails result s =
    record { said = s.said; ended = s.ended; run = s.run; lost = s.lost; printed = s.printed; answer = s.answer; heard = record { last = tt; made = s.heard.made; gave = tt; told = s.heard.told }; led = s.led; left = s.left; device = s.device }
