-- What a command does over the repository that stands in a folder, step by step.
use Rattle.std.proofs.Common.{◌≡◌, ◌≢◌, ℕ, Bool, true, false, List, [], length, ◌<◌, Option, Result, Ok, Err, IfSome, inr, refl, subst, ap, is_ok, IfErr, IsErrOf, ⊎_elim}
use Rattle.std.specs.Result.{OnOk, OnErr}
use Rattle.std.specs.List.{filter}
use Rattle.std.specs.Io.KnownBytes.{Appends, Keeps as HandedOn}
use Rattle.std.proofs.lemmas.Bool.{true≢false}
use Rattle.jiff_core.specs.declared.civil.datetime.DateTime.{DateTime}
use Rattle.dump_text.specs.Streams.{dump_by, records_of}
use Rattle.fleet_disk.specs.Image.{Image}
use Rattle.fleet_disk.specs.Lasting.{KeepsNames}
use Rattle.fleet_disk.specs.declared.disk.Disk.{Ghosts}
use Rattle.node_base.specs.Path.{Path}
use Rattle.node_base.specs.PathText.{path_read}
use Rattle.node_base.specs.declared.refusal.Refusal.{Refusal}
use Rattle.node_base.specs.declared.refusal.Refusal.TheVariants as refusal
use Rattle.repo_store.specs.Journal.{Keeps}
use Rattle.repo_store.specs.Words.{disk_of, repository_of, revisions_of, HasFailed, IsKept as IsStored}
use Rattle.repo_store.specs.declared.store.RepoStore.{RepoStore}
use Rattle.fleet_engines.specs.Grouping.{is_no_identity}
use Rattle.byte_streams.specs.Causes.{Rose}
use Rattle.store_engines.specs.Commits.{directory_entry, IsCommitted, NotCommitted}
use Rattle.store_engines.specs.Devices.{Serves}
use Rattle.store_engines.specs.Dumps.{dump_of, DumpStops}
use Rattle.store_engines.specs.Loads.{Loaded, ServesOne, ServesRecords, Refused as LoadRefused}
use Rattle.store_engines.specs.Mirrors.{is_mirror}
use Rattle.store_engines.specs.Ranges.{count_wanted, first_wanted, last_wanted}
use Rattle.store_engines.specs.declared.range.RevRange.{RevRange}
use Rattle.fleet_main.specs.Doing.{EndsWith, HandsOn, IsBegun, IsBegunIn, IsCommittedTo, IsDumped, IsHeadOf, IsKept, IsKeptOr, IsLoadedFrom, IsOpenedIn, IsOpenedOn, NoHeadOf, NotCommittedTo, NotDumped, NotLoadedFrom, OfStanding, UnopenedOr, head_line, not_handed_on}
use Rattle.fleet_main.specs.Loans.{TakesBack}
use Rattle.fleet_main.specs.declared.lending.Folders.{Ghosts as FolderGhosts}
use Rattle.fleet_main.proofs.Lasting.{still_made}
use Rattle.fleet_main.proofs.Loans.{one_back}

-- of a store whose disk is honest and hasn't failed a stop leaves what keeps its repository
abbrev pub KeptThen : {D : Type 0} {G : Ghosts D} → RepoStore D G → Type 0
KeptThen {G} store = G.honest (disk_of store) → ¬ HasFailed store → (left : Image) → G.may_leave (disk_of store) left → Keeps (repository_of store) left

pub kept_opened : {D : Type 0} {G : Ghosts D} (honest : Type 0) (given : D) (store : RepoStore D G) → IsOpenedOn G honest given store → KeptThen store → IsKept honest store
kept_opened honest given store o k h = (o.rules h, k (o.rules h) o.working)

-- so also after a call, unless the device failed in it
kept_served : {D : Type 0} {G : Ghosts D} (r : Result (Unit {0}) Refusal) (honest : Type 0) (given : D) (old new : RepoStore D G) → IsOpenedOn G honest given old → Serves old new r → KeptThen new
    → (IsErrOf r refusal.DeviceFailed → ⊥) → IsKept honest new
kept_served r honest given old new o s k d h =
    let rules = s.honest.0 (o.rules h) in
    (rules, k rules (λ f. ⊎_elim o.working d (s.working.0 f)))

kept_ok : {D : Type 0} {G : Ghosts D} (honest : Type 0) (given : D) (old new : RepoStore D G) → IsOpenedOn G honest given old → Serves old new (Ok tt) → KeptThen new → IsKept honest new
kept_ok honest given old new o s k = kept_served (Ok tt) honest given old new o s k (λ e. true≢false (ap is_ok e))

abbrev refusal_in : Result (Unit {0}) Refusal → Refusal
refusal_in (Ok u) = refusal.OutOfMemory
refusal_in (Err e) = e

kept_err : {D : Type 0} {G : Ghosts D} (e : Refusal) (honest : Type 0) (given : D) (old new : RepoStore D G) → IsOpenedOn G honest given old → Serves old new (Err e) → KeptThen new
    → e ≢ refusal.DeviceFailed → IsKept honest new
kept_err e honest given old new o s k d = kept_served (Err e) honest given old new o s k (λ f. d (ap refusal_in f))

kept_or : {D : Type 0} {G : Ghosts D} (r : Result (Unit {0}) Refusal) (honest : Type 0) (given : D) (old new : RepoStore D G) → IsOpenedOn G honest given old → Serves old new r → IsStored new → IsKeptOr honest new
kept_or r honest given old new o s k h = let rules = s.honest.0 (o.rules h) in (rules, k rules)

-- what is done over the folders as they are, as they are while the disk is lent, and as they are once it is back
module _ {F D : Type 0} (G : Ghosts D) (H : FolderGhosts F D) (folders then later : F) (folder : List ℕ) where
  -- to the store that is opened
  pub standing : (P : RepoStore D G → RepoStore D G → Type 0) (old new : RepoStore D G) → IsOpenedIn G H folders then folder old → TakesBack G H then later folder (disk_of new)
      → (G.honest (disk_of old) → G.honest (disk_of new)) → P old new → OfStanding G H folders later folder P
  standing P old new o t rules p = record {
    given = o.0;
    old = old;
    new = new;
    opened = o.2;
    done = p;
    back = one_back G H folders then later folder o.0 (disk_of new) o.1 (λ h. rules (o.2.rules h)) t;
  }

  -- a load
  pub load_done : (deltas : Bool) (r : Result (Unit {0}) Refusal) (bytes before now : Option (List ℕ)) (old new : RepoStore D G) → IsOpenedIn G H folders then folder old
      → OnOk r (IfSome bytes (λ read. Loaded deltas (repository_of old) read (repository_of new) before now)) → OnOk r (is_mirror (revisions_of old) ≡ false) → Serves old new r
      → IfSome bytes (λ read. ServesRecords (filter is_no_identity (records_of (dump_by deltas read))) old new r []) → KeptThen new → TakesBack G H then later folder (disk_of new)
      → OnOk r (OfStanding G H folders later folder (IsLoadedFrom deltas (H.honest folders) bytes before now))
  load_done deltas (Ok t) bytes before now old new o l m s records k back =
      standing (IsLoadedFrom deltas (H.honest folders) bytes before now) old new o back s.honest.0 (m, l, (s, records), kept_ok (H.honest folders) o.0 old new o.2 s k)
  load_done deltas (Err e) bytes before now old new o l m s records k back = tt

  pub load_refused : (deltas : Bool) (r : Result (Unit {0}) Refusal) (bytes left rest before now : Option (List ℕ)) (fails : Type 0) (old new : RepoStore D G) → IsOpenedIn G H folders then folder old
      → IfErr r (λ e. is_mirror (revisions_of old) ≡ false → IfSome bytes (λ read. LoadRefused deltas (repository_of old) read new before now fails e))
      → (is_mirror (revisions_of old) ≡ true → IfErr r (λ e. (e ≡ refusal.ReadOnly) × (repository_of new ≡ repository_of old) × (left ≡ rest) × (now ≡ before))) → Serves old new r
      → IfSome bytes (λ read. ServesRecords (filter is_no_identity (records_of (dump_by deltas read))) old new r []) → KeptThen new → IsStored new → TakesBack G H then later folder (disk_of new)
      → IfErr r (λ e. UnopenedOr G H folders later folder before now e (NotLoadedFrom deltas (H.honest folders) bytes before now fails e))
  load_refused deltas (Ok t) bytes left rest before now fails old new o h m s records k d back = tt
  load_refused deltas (Err e) bytes left rest before now fails old new o h m s records k d back =
      inr (standing (NotLoadedFrom deltas (H.honest folders) bytes before now fails e) old new o back s.honest.0
      (h, (λ is. let n = m is in (n.0, n.1, n.3)), (s, records), kept_err e (H.honest folders) o.0 old new o.2 s k, kept_or (Err e) (H.honest folders) o.0 old new o.2 s d))

  -- a commit of a directory
  pub directory_done : (r : Result (Unit {0}) Refusal) (bytes message : List ℕ) (moment : DateTime) (before now : Option (List ℕ)) (old new : RepoStore D G) → IsOpenedIn G H folders then folder old
      → OnOk r (IsCommitted (repository_of old) bytes message moment (repository_of new) before now) → Serves old new r
      → ((place : Path) → path_read bytes ≡ Ok place → ServesOne (directory_entry (revisions_of old) place message moment) old new r) → KeptThen new → TakesBack G H then later folder (disk_of new)
      → OnOk r (OfStanding G H folders later folder (IsCommittedTo (H.honest folders) bytes message moment before now))
  directory_done (Ok t) bytes message moment before now old new o d s entry k back =
      standing (IsCommittedTo (H.honest folders) bytes message moment before now) old new o back s.honest.0 (d, (s, entry), kept_ok (H.honest folders) o.0 old new o.2 s k)
  directory_done (Err e) bytes message moment before now old new o d s entry k back = tt

  pub directory_refused : (r : Result (Unit {0}) Refusal) (bytes message : List ℕ) (moment : DateTime) (before now : Option (List ℕ)) (fails : Type 0) (old new : RepoStore D G) → IsOpenedIn G H folders then folder old
      → IfErr r (NotCommitted (repository_of old) bytes message moment new before now fails) → Serves old new r
      → ((place : Path) → path_read bytes ≡ Ok place → ServesOne (directory_entry (revisions_of old) place message moment) old new r) → KeptThen new → IsStored new → TakesBack G H then later folder (disk_of new)
      → IfErr r (λ e. UnopenedOr G H folders later folder before now e (NotCommittedTo (H.honest folders) bytes message moment before now fails e))
  directory_refused (Ok t) bytes message moment before now fails old new o d s entry k f back = tt
  directory_refused (Err e) bytes message moment before now fails old new o d s entry k f back =
      inr (standing (NotCommittedTo (H.honest folders) bytes message moment before now fails e) old new o back s.honest.0 (d, (s, entry), kept_err e (H.honest folders) o.0 old new o.2 s k, kept_or (Err e) (H.honest folders) o.0 old new o.2 s f))

  -- a dump
  pub dump_done : {T : Type 0} (r : Result T Refusal) (range : Option RevRange) (before now : Option (List ℕ)) (store : RepoStore D G) → IsOpenedIn G H folders then folder store
      → OnOk r (last_wanted (repository_of store) range < length (revisions_of store))
      → OnOk r (Appends before now (dump_of (repository_of store) (first_wanted range) (count_wanted (repository_of store) range))) → KeptThen store → TakesBack G H then later folder (disk_of store)
      → OnOk r (OfStanding G H folders later folder (IsDumped (H.honest folders) range before now))
  dump_done (Ok t) range before now store o there written k back =
      standing (IsDumped (H.honest folders) range before now) store store o back (λ h. h) (refl, there, written, kept_opened (H.honest folders) o.0 store o.2 k)
  dump_done (Err e) range before now store o there written k back = tt

  pub dump_refused : {T : Type 0} (r : Result T Refusal) (range : Option RevRange) (before now : Option (List ℕ)) (fails : Type 0) (store : RepoStore D G) → IsOpenedIn G H folders then folder store
      → IfErr r (DumpStops (repository_of store) range before now fails) → KeptThen store → TakesBack G H then later folder (disk_of store)
      → IfErr r (λ e. UnopenedOr G H folders later folder before now e (NotDumped (H.honest folders) range before now fails e))
  dump_refused (Ok t) range before now fails store o h k back = tt
  dump_refused (Err e) range before now fails store o h k back =
      inr (standing (NotDumped (H.honest folders) range before now fails e) store store o back (λ h. h) (refl, h, kept_opened (H.honest folders) o.0 store o.2 k))

  -- its newest revision is printed
  pub head_done : (r : Result (Unit {0}) Refusal) (before now : Option (List ℕ)) (store : RepoStore D G) → IsOpenedIn G H folders then folder store → OnOk r (Appends before now (head_line (revisions_of store)))
      → KeptThen store → TakesBack G H then later folder (disk_of store) → OnOk r (OfStanding G H folders later folder (IsHeadOf (H.honest folders) before now))
  head_done (Ok t) before now store o written k back =
      standing (IsHeadOf (H.honest folders) before now) store store o back (λ h. h) (refl, written, kept_opened (H.honest folders) o.0 store o.2 k)
  head_done (Err e) before now store o written k back = tt

  pub head_refused : (r : Result (Unit {0}) Refusal) (before now : Option (List ℕ)) (fails : Type 0) (store : RepoStore D G) → IsOpenedIn G H folders then folder store → IfErr r (λ e. e ≡ refusal.PeerFailed) → OnErr r fails
      → KeptThen store → TakesBack G H then later folder (disk_of store) → IfErr r (λ e. UnopenedOr G H folders later folder before now e (NoHeadOf (H.honest folders) fails e))
  head_refused (Ok t) before now fails store o only failed k back = tt
  head_refused (Err e) before now fails store o only failed k back =
      inr (standing (NoHeadOf (H.honest folders) fails e) store store o back (λ h. h) (refl, only, failed, kept_opened (H.honest folders) o.0 store o.2 k))

  -- a repository is begun
  pub begun : (identity : List ℕ) (store : RepoStore D G) → IsBegunIn G H folders then folder identity store → TakesBack G H then later folder (disk_of store) → KeepsNames H.lasts then later
      → IsBegun G H folders later folder identity
  begun identity store b back names = record {
    given = b.0;
    store = store;
    begun = b.2;
    back = one_back G H folders then later folder b.0 (disk_of store) b.1 (λ h. (b.2.kept h).0) back;
    lasts = λ h. still_made G H folders then folder later names (b.3 h);
  }

-- what is done is handed on
pub handed_on : {T : Type 0} (r : Result T Refusal) (P : Option (List ℕ) → Type 0) (written now : Option (List ℕ)) → P written → HandedOn written now → OnOk r (HandsOn P now)
handed_on (Ok t) P written now p k = record { written = written; done = p; kept = k }
handed_on (Err e) P written now p k = tt

-- what is so of an answer that is Ok
pub of_ok : (r : Result (Unit {0}) Refusal) (u : Unit {0}) (P : Type 0) → r ≡ Ok u → OnOk r P → P
of_ok r u P is h = subst (λ x. OnOk x P) is h

pub done_unsaid : {T : Type 0} (r : Result T Refusal) (P : Option (List ℕ) → Type 0) (N : Option (List ℕ) → ℕ → Refusal → Type 0) (written now : Option (List ℕ)) (start before count : ℕ)
    → P written → HandedOn written now → before ≡ start → IfErr r (λ e. e ≡ refusal.PeerFailed) → OnErr r (Rose before count) → IfErr r (EndsWith P N start now count)
done_unsaid (Ok t) P N written now start before count p k same e f = tt
done_unsaid (Err x) P N written now start before count p k same e f = not_handed_on (record { written = written; done = p; kept = k }) e (subst (λ n. Rose n count) same f)

-- what is so of an answer, beside what is so anyway
pub ok_and : {T : Type 0} (r : Result T Refusal) (A B : Type 0) → OnOk r A → B → OnOk r (A × B)
ok_and (Ok t) A B a b = (a, b)
ok_and (Err e) A B a b = tt

pub err_and : {T : Type 0} (r : Result T Refusal) (P : Refusal → Type 0) (B : Type 0) → IfErr r P → B → IfErr r (λ e. P e × B)
err_and (Ok t) P B p b = tt
err_and (Err e) P B p b = (p, b)

-- a folder by its text
pub done_at : {T : Type 0} (r : Result T Refusal) (Q : List ℕ → Type 0) (a b : List ℕ) → a ≡ b → OnOk r (Q a) → OnOk r (Q b)
done_at r Q a b same h = subst (λ t. OnOk r (Q t)) same h

pub refused_at : {T : Type 0} (r : Result T Refusal) (Q : List ℕ → Refusal → Type 0) (a b : List ℕ) → a ≡ b → IfErr r (Q a) → IfErr r (Q b)
refused_at r Q a b same h = subst (λ t. IfErr r (Q t)) same h

-- a directory by the texts of its folder, path and message
pub committed_at : {T : Type 0} (r : Result T Refusal) (Q : List ℕ → List ℕ → List ℕ → Type 0) (a b c d i j : List ℕ) → a ≡ b → c ≡ d → i ≡ j → OnOk r (Q a c i) → OnOk r (Q b d j)
committed_at r Q a b c d i j folder path message h = subst (λ t. OnOk r (Q t d j)) folder (subst (λ m. OnOk r (Q a d m)) message (subst (λ p. OnOk r (Q a p i)) path h))

pub not_committed_at : {T : Type 0} (r : Result T Refusal) (Q : List ℕ → List ℕ → List ℕ → Refusal → Type 0) (a b c d i j : List ℕ) → a ≡ b → c ≡ d → i ≡ j → IfErr r (Q a c i) → IfErr r (Q b d j)
not_committed_at r Q a b c d i j folder path message h = subst (λ t. IfErr r (Q t d j)) folder (subst (λ m. IfErr r (Q a d m)) message (subst (λ p. IfErr r (Q a p i)) path h))
