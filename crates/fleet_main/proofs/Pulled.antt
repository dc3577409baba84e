-- What is done over the mirror that stands in a folder and a server, step by step.
use Rattle.std.proofs.Common.{◌≡◌, ◌⊎◌, ℕ, List, [], ◌∷◌, Option, Result, Ok, Err, inl, inr, sym, ap, subst, ◌∙◌, IfErr}
use Rattle.std.specs.Result.{OnOk}
use Rattle.std.specs.List.{AllByRecursion}
use Rattle.fleet_disk.specs.declared.disk.Disk.{Ghosts}
use Rattle.byte_streams.specs.Causes.{Rose}
use Rattle.node_base.specs.declared.refusal.Refusal.{Refusal}
use Rattle.repo_store.specs.Words.{disk_of, HasFailed}
use Rattle.repo_store.specs.declared.store.RepoStore.{RepoStore}
use Rattle.sync_core.specs.declared.fault.SyncFault.{SyncFault}
use Rattle.sync_job.specs.Questions.{Exchange}
use Rattle.sync_job.specs.Said.{Spoken}
use Rattle.mirror_engines.specs.Worlds.{unknown}
use Rattle.mirror_engines.specs.declared.work.Work.{Work}
use Rattle.svn_ends.specs.Runs.{RunsFrom, RunsOver, Unreached, Reached, Unopened, Ran}
use Rattle.fleet_main.specs.Doing.{IsOpenedIn, IsWorkedOver, NotWorkedOn, OfStanding, UnopenedOr, WorkedOn, untold}
use Rattle.fleet_main.specs.Loans.{TakesBack}
use Rattle.fleet_main.specs.Pulling.{NotPulledOn, NotPulledOver, work_as}
use Rattle.command_words.specs.declared.command_line.Task.{Task}
use Rattle.fleet_main.specs.declared.lending.Folders.{Ghosts as FolderGhosts}
use Rattle.fleet_main.proofs.Doing.{KeptThen, kept_opened, standing}
use Rattle.fleet_main.proofs.Mirroring.{or_second, worked_done, worked_refused, worked_rules}

-- nothing is said of what a server answers
all_untold : (last : Unit {0}) (made : List Exchange) → Unit {0} → AllByRecursion untold made
all_untold last [] u = tt
all_untold last (x ∷ xs) u = (tt, all_untold last xs u)

-- an answer that is a refusal says nothing of what is done
none_done : (r : Result (Unit {0}) Refusal) (e : Refusal) (P : Type 0) → r ≡ Err e → OnOk r P
none_done r e P is = subst (λ x. OnOk x P) (sym is) tt

-- and is what is said of that refusal
refused_as : (r : Result (Unit {0}) Refusal) (e : Refusal) (P : Refusal → Type 0) → r ≡ Err e → P e → IfErr r P
refused_as r e P is h = subst (λ x. IfErr x P) (sym is) h

over_done : {D O : Type 0} {G : Ghosts D} (contents : O → Option (List ℕ)) (failures : O → ℕ) (IsRun : List Spoken → Result (Unit {0}) SyncFault → Type 0) (r : Result (Unit {0}) Refusal) (old new : RepoStore D G) (before now : O)
    → RunsOver contents failures IsRun old new before now r → OnOk r (WorkedOn untold IsRun (contents before) (contents now) old new)
over_done contents failures IsRun r old new before now (Unopened e is why same out) = none_done r e _ is
over_done contents failures IsRun r old new before now (Ran s) = worked_done unknown tt untold IsRun r old new (contents before) (contents now) (Rose (failures before) (failures now)) all_untold s

pub pulled_done : {D O : Type 0} {G : Ghosts D} (contents : O → Option (List ℕ)) (failures : O → ℕ) (IsRun : List Spoken → Result (Unit {0}) SyncFault → Type 0) (r : Result (Unit {0}) Refusal) (old new : RepoStore D G) (before now : O)
    → RunsFrom contents failures IsRun old new before now r → OnOk r (WorkedOn untold IsRun (contents before) (contents now) old new)
pulled_done contents failures IsRun r old new before now (Unreached e is why same out) = none_done r e _ is
pulled_done contents failures IsRun r old new before now (Reached o) = over_done contents failures IsRun r old new before now o

not_worked : {D : Type 0} {G : Ghosts D} (IsRun : List Spoken → Result (Unit {0}) SyncFault → Type 0) (r : Result (Unit {0}) Refusal) (before now : Option (List ℕ)) (fails : Type 0) (old new : RepoStore D G)
    → IfErr r (λ e. NotWorkedOn untold IsRun before now fails e old new) → IfErr r (λ e. NotPulledOn IsRun before now fails e old new)
not_worked IsRun (Ok u) before now fails old new h = tt
not_worked IsRun (Err e) before now fails old new h = inr h

over_refused : {D O : Type 0} {G : Ghosts D} (contents : O → Option (List ℕ)) (failures : O → ℕ) (IsRun : List Spoken → Result (Unit {0}) SyncFault → Type 0) (r : Result (Unit {0}) Refusal) (old new : RepoStore D G) (before now : O)
    → RunsOver contents failures IsRun old new before now r → IfErr r (λ e. NotPulledOn IsRun (contents before) (contents now) (Rose (failures before) (failures now)) e old new)
over_refused contents failures IsRun r old new before now (Unopened e is (inl memory) same out) =
    refused_as r e (λ x. NotPulledOn IsRun (contents before) (contents now) (Rose (failures before) (failures now)) x old new) is (inl (inl (inr memory), ap contents out, same))
over_refused contents failures IsRun r old new before now (Unopened e is (inr why) same out) =
    refused_as r e (λ x. NotPulledOn IsRun (contents before) (contents now) (Rose (failures before) (failures now)) x old new) is (inl (inr why, ap contents out, same))
over_refused contents failures IsRun r old new before now (Ran s) =
    not_worked IsRun r (contents before) (contents now) (Rose (failures before) (failures now)) old new (worked_refused unknown tt untold IsRun r old new (contents before) (contents now) (Rose (failures before) (failures now)) all_untold s)

pub pulled_refused : {D O : Type 0} {G : Ghosts D} (contents : O → Option (List ℕ)) (failures : O → ℕ) (IsRun : List Spoken → Result (Unit {0}) SyncFault → Type 0) (r : Result (Unit {0}) Refusal) (old new : RepoStore D G) (before now : O)
    → RunsFrom contents failures IsRun old new before now r → IfErr r (λ e. NotPulledOn IsRun (contents before) (contents now) (Rose (failures before) (failures now)) e old new)
pulled_refused contents failures IsRun r old new before now (Unreached e is why same out) =
    refused_as r e (λ x. NotPulledOn IsRun (contents before) (contents now) (Rose (failures before) (failures now)) x old new) is (inl (inl why, ap contents out, same))
pulled_refused contents failures IsRun r old new before now (Reached o) = over_refused contents failures IsRun r old new before now o

over_rules : {D O : Type 0} {G : Ghosts D} (contents : O → Option (List ℕ)) (failures : O → ℕ) (IsRun : List Spoken → Result (Unit {0}) SyncFault → Type 0) (r : Result (Unit {0}) Refusal) (old new : RepoStore D G) (before now : O)
    → RunsOver contents failures IsRun old new before now r → ¬ HasFailed old → G.honest (disk_of old) → G.honest (disk_of new)
over_rules {G = G} contents failures IsRun r old new before now (Unopened e is why same out) works h = subst (λ (s : RepoStore _ G). G.honest (disk_of s)) (sym same) h
over_rules contents failures IsRun r old new before now (Ran s) works h = worked_rules unknown tt IsRun r old new (contents before) (contents now) (Rose (failures before) (failures now)) s works h

pub pulled_rules : {D O : Type 0} {G : Ghosts D} (contents : O → Option (List ℕ)) (failures : O → ℕ) (IsRun : List Spoken → Result (Unit {0}) SyncFault → Type 0) (r : Result (Unit {0}) Refusal) (old new : RepoStore D G) (before now : O)
    → RunsFrom contents failures IsRun old new before now r → ¬ HasFailed old → G.honest (disk_of old) → G.honest (disk_of new)
pulled_rules {G = G} contents failures IsRun r old new before now (Unreached e is why same out) works h = subst (λ (s : RepoStore _ G). G.honest (disk_of s)) (sym same) h
pulled_rules contents failures IsRun r old new before now (Reached o) works h = over_rules contents failures IsRun r old new before now o works h

-- of the mirror that is opened, and whose disk is back then
module _ {F D : Type 0} (G : Ghosts D) (H : FolderGhosts F D) (folders then later : F) (folder : List ℕ) (IsRun : List Spoken → Result (Unit {0}) SyncFault → Type 0) (before now : Option (List ℕ)) (old new : RepoStore D G) where
  pub standing_done : (r : Result (Unit {0}) Refusal) → IsOpenedIn G H folders then folder old → OnOk r (WorkedOn untold IsRun before now old new) → TakesBack G H then later folder (disk_of new)
      → (¬ HasFailed old → G.honest (disk_of old) → G.honest (disk_of new)) → OnOk r (OfStanding G H folders later folder (IsWorkedOver untold IsRun before now))
  standing_done (Ok u) o w t rules = standing G H folders then later folder (IsWorkedOver untold IsRun before now) old new o t (rules o.2.working) (w o.2.working)
  standing_done (Err e) o w t rules = tt

  not_over : (e : Refusal) (fails : Type 0) → IsOpenedIn G H folders then folder old → KeptThen new → NotPulledOn IsRun before now fails e old new → NotPulledOver (H.honest folders) IsRun before now fails e old new
  not_over e fails o k (inl n) = inl (n.0, n.1, n.2, kept_opened (H.honest folders) o.0 old o.2 (subst KeptThen n.2 k))
  not_over e fails o k (inr w) = inr (w o.2.working)

  pub standing_refused : (r : Result (Unit {0}) Refusal) (fails : Type 0) → IsOpenedIn G H folders then folder old → KeptThen new → IfErr r (λ e. NotPulledOn IsRun before now fails e old new)
      → TakesBack G H then later folder (disk_of new) → (¬ HasFailed old → G.honest (disk_of old) → G.honest (disk_of new))
      → IfErr r (λ e. UnopenedOr G H folders later folder before now e (NotPulledOver (H.honest folders) IsRun before now fails e))
  standing_refused (Ok u) fails o k w t rules = tt
  standing_refused (Err e) fails o k w t rules =
      inr (standing G H folders then later folder (NotPulledOver (H.honest folders) IsRun before now fails e) old new o t (rules o.2.working) (not_over e fails o k w))

-- by the texts that words give: of the mirror's folder and of the URL
pub asked_done : (r : Result (Unit {0}) Refusal) (Q : List ℕ → Work → Type 0) (task : Task) (w : Work) (a b u v : List ℕ) → a ≡ b → w ≡ work_as u task → u ≡ v → OnOk r (Q a w) → OnOk r (Q b (work_as v task))
asked_done r Q task w a b u v folder is url h = subst (λ t. OnOk r (Q t (work_as v task))) folder (subst (λ x. OnOk r (Q a x)) (is ∙ ap (λ x. work_as x task) url) h)

pub asked_refused : (r : Result (Unit {0}) Refusal) (N : Refusal → Type 0) (Q : List ℕ → Work → Refusal → Type 0) (task : Task) (w : Work) (a b u v : List ℕ) → a ≡ b → w ≡ work_as u task → u ≡ v → IfErr r (Q a w)
    → IfErr r (λ e. N e ⊎ Q b (work_as v task) e)
asked_refused r N Q task w a b u v folder is url h =
    or_second r N (Q b (work_as v task)) (subst (λ t. IfErr r (Q t (work_as v task))) folder (subst (λ x. IfErr r (Q a x)) (is ∙ ap (λ x. work_as x task) url) h))
