-- What is done over a mirror and its source, step by step.
use Rattle.std.proofs.Common.{◌≡◌, ◌⊎◌, ℕ, Bool, true, false, List, [], ◌∷◌, Option, None, Result, Ok, Err, IfErr, inl, inr, refl, sym, subst, ◌∙◌}
use Rattle.std.specs.Result.{OnOk}
use Rattle.std.specs.List.{AllByRecursion, flat_map}
use Rattle.std.specs.Io.KnownBytes.{Appends}
use Rattle.std.proofs.lemmas.Bool.{true≢false}
use Rattle.fleet_disk.specs.declared.disk.Disk.{Ghosts}
use Rattle.node_base.specs.declared.refusal.Refusal.{Refusal}
use Rattle.node_base.specs.declared.refusal.Refusal.TheVariants as refusal
use Rattle.repo_core.specs.Repository.{Repository, head_of, props_at}
use Rattle.repo_store.specs.Words.{disk_of, repository_of, revisions_of, HasFailed}
use Rattle.repo_store.specs.declared.store.RepoStore.{RepoStore}
use Rattle.sync_core.specs.declared.fault.SyncFault.{SyncFault}
use Rattle.sync_core.specs.World.{Origin}
use Rattle.sync_job.specs.Alone.{lent_in, IsAnsweredBy, IsHeardOf, IsMasterAt}
use Rattle.sync_job.specs.Leading.{TellsMaster}
use Rattle.sync_job.specs.Questions.{Exchange}
use Rattle.sync_job.specs.Said.{Spoken, told_in}
use Rattle.sync_job.specs.Stops.{StopsAsMirror}
use Rattle.sync_job.specs.Worlds.{IsEvents}
use Rattle.sync_job.specs.declared.lent.LentMaster.{LentMaster}
use Rattle.sync_job.specs.declared.report.Told.{Told}
use Rattle.mirror_engines.specs.Infos.{info_fault, info_text, IsUntold}
use Rattle.mirror_engines.specs.Lines.{line_of, IsPrinted, Printed, Lost}
use Rattle.mirror_engines.specs.Runs.{answer_of, IsWorked, Serves}
use Rattle.mirror_engines.specs.Worlds.{later_at, stands_in, stands_last, BringsTrees, GivesOwnSets, Hears, IsCaughtUp, EventsInWorld, IsMirroredFrom, IsPortOf, StopsInWorld}
use Rattle.mirror_engines.specs.declared.work.Work.{Work}
use Rattle.mirror_engines.proofs.Worlds.{events_on, stops_at}
use Rattle.fleet_main.specs.Doing.{BroughtOn, IsBrought, IsCopiedFrom, IsOpenedIn, IsToldOf, NoSourceOr, NotBrought, NotBroughtOn, NotToldOf, NotWorkedOn, OfBoth, OfStanding, OverSource, UnopenedBoth, UnopenedOr, WorkedOn, no_source, both}
use Rattle.fleet_main.specs.Loans.{TakesBack, only_of}
use Rattle.fleet_main.specs.declared.lending.Folders.{Ghosts as FolderGhosts}
use Rattle.fleet_main.proofs.Doing.{KeptThen, kept_opened, standing}
use Rattle.fleet_main.proofs.Loans.{one_back, one_more_back}
use Rattle.fleet_main.proofs.Opening.{not_opened_under, opened_under, rose_between}

-- a run that answers well has ended so, and lost no line
well_ended : (ended : Result (Unit {0}) SyncFault) (lost : Bool) → Ok tt ≡ answer_of ended lost → (ended ≡ Ok tt) × (lost ≡ false)
well_ended (Ok u) false h = (refl, refl)
well_ended (Ok u) true h = absurd (cc)
well_ended (Err f) lost h = absurd (cc)

all_printed : (before now : Option (List ℕ)) (fails : Type 0) (lost : Bool) (told : List Told) → lost ≡ false → IsPrinted before now fails lost told → Appends before now (flat_map line_of told)
all_printed before now fails lost told none (Printed l a) = a
all_printed before now fails lost told none (Lost l f) = absurd (true≢false (sym l ∙ none))

-- what the port told, of which P is so
heard_so : {M : Type 0} (answered : M → M → List Exchange → Type 0) (port : M) (P : Exchange → Type 0) (said : List Spoken) → ((last : M) (made : List Exchange) → answered last port made → AllByRecursion P made) → Hears answered port said → TellsMaster P said
heard_so answered port P said is h = record { made = h.made; each = is h.last h.made h.gave; told = h.told }

pub worked_done : {D M : Type 0} {G : Ghosts D} (answered : M → M → List Exchange → Type 0) (port : M) (P : Exchange → Type 0) (IsRun : List Spoken → Result (Unit {0}) SyncFault → Type 0) (r : Result (Unit {0}) Refusal) (old new : RepoStore D G) (before now : Option (List ℕ)) (fails : Type 0)
    → ((last : M) (made : List Exchange) → answered last port made → AllByRecursion P made) → Serves answered port IsRun old new before now fails r → OnOk r (WorkedOn P IsRun before now old new)
worked_done answered port P IsRun (Ok u) old new before now fails is s =
    let e = well_ended s.ended s.lost s.answer in
    λ works. record { said = s.said; run = subst (λ x. IsRun s.said x) e.0 s.run; heard = heard_so answered port P s.said is s.heard; led = s.led works; printed = all_printed before now fails s.lost (told_in s.said) e.1 s.printed; left = s.left works }
worked_done answered port P IsRun (Err x) old new before now fails is s = tt

pub worked_refused : {D M : Type 0} {G : Ghosts D} (answered : M → M → List Exchange → Type 0) (port : M) (P : Exchange → Type 0) (IsRun : List Spoken → Result (Unit {0}) SyncFault → Type 0) (r : Result (Unit {0}) Refusal) (old new : RepoStore D G) (before now : Option (List ℕ)) (fails : Type 0)
    → ((last : M) (made : List Exchange) → answered last port made → AllByRecursion P made) → Serves answered port IsRun old new before now fails r → IfErr r (λ e. NotWorkedOn P IsRun before now fails e old new)
worked_refused answered port P IsRun (Ok u) old new before now fails is s = tt
worked_refused answered port P IsRun (Err x) old new before now fails is s =
    λ works. record { said = s.said; ended = s.ended; run = s.run; heard = heard_so answered port P s.said is s.heard; led = s.led works; lost = s.lost; printed = s.printed; answer = s.answer; left = s.left works; device = s.device.device }

pub worked_rules : {D M : Type 0} {G : Ghosts D} (answered : M → M → List Exchange → Type 0) (port : M) (IsRun : List Spoken → Result (Unit {0}) SyncFault → Type 0) (r : Result (Unit {0}) Refusal) (old new : RepoStore D G) (before now : Option (List ℕ)) (fails : Type 0)
    → Serves answered port IsRun old new before now fails r → ¬ HasFailed old → G.honest (disk_of old) → G.honest (disk_of new)
worked_rules answered port IsRun r old new before now fails s works h = (s.left works).honest.0 h

-- a source that is lent is as it was, and its port tells what it is

abbrev pub answered_lent : {D : Type 0} {G : Ghosts D} → LentMaster D G → LentMaster D G → List Exchange → Type 0
answered_lent now first made = (now ≡ first) × AllByRecursion (IsAnsweredBy (repository_of (lent_in first))) made

abbrev pub lent_at : {D : Type 0} {G : Ghosts D} → LentMaster D G → Origin → Type 0
lent_at port o = IsMasterAt (repository_of (lent_in port)) o

answers_of_lent : {D : Type 0} {G : Ghosts D} (port : LentMaster D G) (master : RepoStore D G) → lent_in port ≡ master → (last : LentMaster D G) (made : List Exchange) → answered_lent last port made → AllByRecursion (IsAnsweredBy (repository_of master)) made
answers_of_lent port master e last made h = subst (λ s. AllByRecursion (IsAnsweredBy (repository_of s)) made) e h.1

all_heard : (source : Repository) (made : List Exchange) → AllByRecursion (IsAnsweredBy source) made → AllByRecursion (IsHeardOf source) made
all_heard source [] a = tt
all_heard source (x ∷ xs) a = (a.0.0, all_heard source xs a.1)

pub port_of_lent : {D : Type 0} {G : Ghosts D} (port : LentMaster D G) (master : RepoStore D G) → lent_in port ≡ master → IsPortOf answered_lent port (repository_of master)
port_of_lent port master e last made h = all_heard (repository_of master) made (answers_of_lent port master e last made h)

pub sets_of_lent : {D : Type 0} {G : Ghosts D} (port : LentMaster D G) (master : RepoStore D G) → lent_in port ≡ master → GivesOwnSets answered_lent port (repository_of master)
sets_of_lent port master e last made h = answers_of_lent port master e last made h

later_lent : {D : Type 0} {G : Ghosts D} (port : LentMaster D G) (master : RepoStore D G) → lent_in port ≡ master → (o : Origin) → later_at answered_lent lent_at port o → IsMasterAt (repository_of master) o
later_lent {D} {G} port master e o x = subst (λ s. IsMasterAt (repository_of s) o) e (subst (λ (p : LentMaster D G). lent_at p o) x.1.1.0 x.2)

pub mirrored_lent : {D : Type 0} {G : Ghosts D} (port : LentMaster D G) (old new master : RepoStore D G) → lent_in port ≡ master → EventsInWorld answered_lent lent_at port old new → StopsInWorld answered_lent lent_at port old new → BringsTrees (repository_of master) old new
    → IsMirroredFrom (repository_of master) old new
mirrored_lent {D} {G} port old new master e world stops trees =
    record {
      world = subst (λ s. IsEvents (IsMasterAt (repository_of s)) (IsMasterAt (repository_of master)) (stands_in old None) (stands_last new) 0) e
          (events_on (lent_at port) (later_at answered_lent lent_at port) (IsMasterAt (repository_of master)) (stands_in old None) (stands_last new) (stands_last new) (later_lent port master e) (λ m s. s) world);
      stops = subst (λ s. StopsAsMirror (IsMasterAt (repository_of s)) (IsMasterAt (repository_of master)) (stands_in old None) 0 G.clock G.left_since (G.honest (disk_of old)) (disk_of old) (disk_of new)) e
          (stops_at (lent_at port) (later_at answered_lent lent_at port) (IsMasterAt (repository_of master)) (stands_in old None) G.clock G.left_since (G.honest (disk_of old)) (disk_of old) (disk_of new) (later_lent port master e) stops);
      trees = trees;
    }

pub brought_done : {D : Type 0} {G : Ghosts D} (port : LentMaster D G) (w : Work) (r : Result (Unit {0}) Refusal) (old new master : RepoStore D G) (before now : Option (List ℕ)) (fails : Type 0) → lent_in port ≡ master → Serves answered_lent port (IsWorked w) old new before now fails r
    → (¬ HasFailed old → IsCopiedFrom (repository_of master) old new) → (¬ HasFailed old → OnOk r (IsCaughtUp w (repository_of master) new)) → OnOk r (BroughtOn w before now master old new)
brought_done port w (Ok u) old new master before now fails e s from all =
    λ works. (worked_done answered_lent port (IsAnsweredBy (repository_of master)) (IsWorked w) (Ok u) old new before now fails (answers_of_lent port master e) s works, from works, all works)
brought_done port w (Err x) old new master before now fails e s from all = tt

pub brought_refused : {D : Type 0} {G : Ghosts D} (port : LentMaster D G) (w : Work) (r : Result (Unit {0}) Refusal) (old new master : RepoStore D G) (before now : Option (List ℕ)) (fails : Type 0) → lent_in port ≡ master → Serves answered_lent port (IsWorked w) old new before now fails r
    → (¬ HasFailed old → IsCopiedFrom (repository_of master) old new) → IfErr r (λ e. NotBroughtOn w before now fails e master old new)
brought_refused port w (Ok u) old new master before now fails e s from = tt
brought_refused port w (Err x) old new master before now fails e s from =
    λ works. (worked_refused answered_lent port (IsAnsweredBy (repository_of master)) (IsWorked w) (Err x) old new before now fails (answers_of_lent port master e) s works, from works)

-- over the source that is opened, whose disk is back then
module _ {F D : Type 0} (G : Ghosts D) (H : FolderGhosts F D) (folders then later : F) (source : List ℕ) (old new master : RepoStore D G) (P : RepoStore D G → RepoStore D G → RepoStore D G → Type 0) where
  over_source : IsOpenedIn G H folders then source master → KeptThen master → TakesBack G H then later source (disk_of master) → (¬ HasFailed old → P master old new) → OverSource G H folders later source old new P
  over_source o k t w = record {
    given = o.0;
    master = master;
    opened = o.2;
    kept = kept_opened (H.honest folders) o.0 master o.2 k;
    back = one_back G H folders then later source o.0 (disk_of master) o.1 o.2.rules t;
    done = w;
  }

pub source_done : {F D : Type 0} (G : Ghosts D) (H : FolderGhosts F D) (folders then later : F) (source : List ℕ) (w : Work) (r : Result (Unit {0}) Refusal)
    (old new master : RepoStore D G) (before now : Option (List ℕ)) → IsOpenedIn G H folders then source master → KeptThen master → TakesBack G H then later source (disk_of master) → OnOk r (BroughtOn w before now master old new)
    → OnOk r (OverSource G H folders later source old new (IsBrought w before now))
source_done G H folders then later source w (Ok u) old new master before now o k t b = over_source G H folders then later source old new master (IsBrought w before now) o k t b
source_done G H folders then later source w (Err e) old new master before now o k t b = tt

pub source_refused : {F D : Type 0} (G : Ghosts D) (H : FolderGhosts F D) (folders then later : F) (source : List ℕ) (w : Work) (r : Result (Unit {0}) Refusal)
    (old new master : RepoStore D G) (before now : Option (List ℕ)) (fails : Type 0) → IsOpenedIn G H folders then source master → KeptThen master → TakesBack G H then later source (disk_of master)
    → IfErr r (λ e. NotBroughtOn w before now fails e master old new) → IfErr r (λ e. NoSourceOr G H folders later source old new before now e (NotBrought w before now fails e))
source_refused G H folders then later source w (Ok u) old new master before now fails o k t b = tt
source_refused G H folders then later source w (Err e) old new master before now fails o k t b =
    inr (over_source G H folders then later source old new master (NotBrought w before now fails e) o k t b)

-- and over the mirror that is opened before it, and whose disk is back last
module _ {F D : Type 0} (G : Ghosts D) (H : FolderGhosts F D) (folders then between later : F) (mirror source : List ℕ) (old new : RepoStore D G) where
  both_stand : (P : RepoStore D G → RepoStore D G → RepoStore D G → Type 0) → IsOpenedIn G H folders then mirror old → OverSource G H then between source old new P → TakesBack G H between later mirror (disk_of new)
      → (¬ HasFailed old → G.honest (disk_of old) → G.honest (disk_of new)) → OfBoth G H folders later mirror source P
  both_stand P o w t rules = record {
    given = o.0;
    old = old;
    new = new;
    given_source = w.given;
    master = w.master;
    opened = o.2;
    opened_source = opened_under G (H.honest then) (H.honest folders) w.given w.master o.1.honest w.opened;
    done = w.done o.2.working;
    kept = λ h. w.kept (o.1.honest h);
    back = one_more_back G H folders then between later mirror o.0 (disk_of new) (only_of source w.given (disk_of w.master)) o.1 w.back (λ h. rules o.2.working (o.2.rules h)) t;
  }

  pub both_done : (P : RepoStore D G → RepoStore D G → RepoStore D G → Type 0) (r : Result (Unit {0}) Refusal) → IsOpenedIn G H folders then mirror old → OnOk r (OverSource G H then between source old new P)
      → TakesBack G H between later mirror (disk_of new) → (¬ HasFailed old → G.honest (disk_of old) → G.honest (disk_of new)) → OnOk r (OfBoth G H folders later mirror source P)
  both_done P (Ok u) o w t rules = both_stand P o w t rules
  both_done P (Err e) o w t rules = tt

  both_or : (P : RepoStore D G → RepoStore D G → RepoStore D G → Type 0) (before now : Option (List ℕ)) (e : Refusal) → IsOpenedIn G H folders then mirror old → KeptThen new → NoSourceOr G H then between source old new before now e P
      → TakesBack G H between later mirror (disk_of new) → (¬ HasFailed old → G.honest (disk_of old) → G.honest (disk_of new)) → UnopenedBoth G H folders later mirror source before now e P
  both_or P before now e o k (inl n) t rules =
      no_source (record {
        given = o.0;
        store = old;
        loans = n.0.0;
        opened = o.2;
        kept = kept_opened (H.honest folders) o.0 old o.2 (subst KeptThen n.1 k);
        why = not_opened_under G (H.honest then) (H.honest folders) _ _ source n.0.0 e o.1.honest
            (rose_between (H.failures folders) (H.failures then) (H.failures between) (H.failures later) o.1.later t.later) n.0.1;
        back = one_more_back G H folders then between later mirror o.0 (disk_of old) n.0.0 o.1 n.0.2 o.2.rules (subst (λ (s : RepoStore D G). TakesBack G H between later mirror (disk_of s)) n.1 t);
      }) n.2
  both_or P before now e o k (inr w) t rules = both (both_stand P o w t rules)

  pub both_refused : (P : Refusal → RepoStore D G → RepoStore D G → RepoStore D G → Type 0) (r : Result (Unit {0}) Refusal) (before now : Option (List ℕ)) → IsOpenedIn G H folders then mirror old → KeptThen new
      → IfErr r (λ e. NoSourceOr G H then between source old new before now e (P e)) → TakesBack G H between later mirror (disk_of new) → (¬ HasFailed old → G.honest (disk_of old) → G.honest (disk_of new))
      → IfErr r (λ e. UnopenedBoth G H folders later mirror source before now e (P e))
  both_refused P (Ok u) before now o k w t rules = tt
  both_refused P (Err e) before now o k w t rules = both_or (P e) before now e o k w t rules

-- how a mirror stands is told
module _ {F D : Type 0} (G : Ghosts D) (H : FolderGhosts F D) (folders then later : F) (folder : List ℕ) (before now : Option (List ℕ)) (store : RepoStore D G) where
  pub told_done : (r : Result (Unit {0}) Refusal) → IsOpenedIn G H folders then folder store → OnOk r (info_fault (props_at (revisions_of store) 0) (head_of (revisions_of store)) ≡ None)
      → OnOk r (Appends before now (info_text (props_at (revisions_of store) 0))) → KeptThen store → TakesBack G H then later folder (disk_of store)
      → OnOk r (OfStanding G H folders later folder (IsToldOf (H.honest folders) before now))
  told_done (Ok u) o fine text k t =
      standing G H folders then later folder (IsToldOf (H.honest folders) before now) store store o t (λ h. h) (refl, fine, text, kept_opened (H.honest folders) o.0 store o.2 k)
  told_done (Err e) o fine text k t = tt

  pub told_refused : (r : Result (Unit {0}) Refusal) (fails : Type 0) → IsOpenedIn G H folders then folder store
      → IfErr r (λ e. (IsUntold (props_at (revisions_of store) 0) (head_of (revisions_of store)) e × (now ≡ before)) ⊎ ((e ≡ refusal.PeerFailed) × fails)) → KeptThen store
      → TakesBack G H then later folder (disk_of store) → IfErr r (λ e. UnopenedOr G H folders later folder before now e (NotToldOf (H.honest folders) before now fails e))
  told_refused (Ok u) fails o h k t = tt
  told_refused (Err e) fails o h k t =
      inr (standing G H folders then later folder (NotToldOf (H.honest folders) before now fails e) store store o t (λ h. h) (refl, h, kept_opened (H.honest folders) o.0 store o.2 k))

-- two folders by their texts
pub both_at : {T : Type 0} (r : Result T Refusal) (Q : List ℕ → List ℕ → Type 0) (a b c d : List ℕ) → a ≡ b → c ≡ d → OnOk r (Q a c) → OnOk r (Q b d)
both_at r Q a b c d e f h = subst (λ x. OnOk r (Q b x)) f (subst (λ x. OnOk r (Q x c)) e h)

pub not_both_at : {T : Type 0} (r : Result T Refusal) (Q : List ℕ → List ℕ → Refusal → Type 0) (a b c d : List ℕ) → a ≡ b → c ≡ d → IfErr r (Q a c) → IfErr r (Q b d)
not_both_at r Q a b c d e f h = subst (λ x. IfErr r (Q b x)) f (subst (λ x. IfErr r (Q x c)) e h)

-- the second of two causes
pub or_second : {T : Type 0} (r : Result T Refusal) (P Q : Refusal → Type 0) → IfErr r Q → IfErr r (λ e. P e ⊎ Q e)
or_second (Ok u) P Q h = tt
or_second (Err e) P Q h = inr h

-- what is said of a refusal holds of the one that is answered
pub of_err : {T : Type 0} (r : Result T Refusal) (e : Refusal) (P : Refusal → Type 0) → r ≡ Err e → IfErr r P → P e
of_err r e P same h = subst (λ x. IfErr x P) same h
