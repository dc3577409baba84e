-- What `serve` does over the repository that stands in a folder, step by step.
use Rattle.std.proofs.Common.{◌≡◌, ◌≢◌, ◌⊎◌, ℕ, List, Option, Result, Ok, Err, inr, refl, subst, sym, ◌∙◌, IfErr}
use Rattle.std.specs.Io.KnownBytes.{Appends}
use Rattle.std.specs.Result.{OnOk}
use Rattle.fleet_disk.specs.declared.disk.Disk.{Ghosts}
use Rattle.node_base.specs.declared.refusal.Refusal.{Refusal}
use Rattle.repo_store.specs.declared.store.RepoStore.{RepoStore}
use Rattle.sockets.specs.declared.fault.SocketFault.{SocketFault}
use Rattle.svn_server.specs.Served.{IsOfStore}
use Rattle.fleet_main.specs.Doing.{IsOpenedIn}
use Rattle.fleet_main.specs.Loans.{TakesBack}
use Rattle.svn_server.specs.Serving.{IsServerFault, NotServedIn, OfServed}
use Rattle.fleet_main.specs.declared.lending.Folders.{Ghosts as FolderGhosts}
use Rattle.fleet_main.proofs.Doing.{KeptThen, kept_opened}

module _ {F D : Type 0} (G : Ghosts D) (H : FolderGhosts F D) (folders then later : F) (folder : List ℕ) (store : RepoStore D G) (back : D) where
  of_served : (P : Type 0) → IsOpenedIn G H folders then folder store → KeptThen store → IsOfStore G back → TakesBack G H then later folder back → P → OfServed G H folders later folder P
  of_served P o k left t p = record {
    given = o.0;
    old = store;
    back = back;
    opened = o.2;
    done = p;
    kept = kept_opened (H.honest folders) o.0 store o.2 k;
    lent = o.1.given;
    there = λ h. t.back (o.1.honest h) (o.1.lent h);
    left = left;
    others = λ h other far. t.others (o.1.honest h) (o.1.lent h) other far ∙ o.1.others h other far;
    honest = λ h rules. t.honest (o.1.honest h) rules;
  }

  pub served_done : (r : Result (Unit {0}) Refusal) (P : Type 0) → IsOpenedIn G H folders then folder store → KeptThen store → IsOfStore G back → TakesBack G H then later folder back → OnOk r P
      → OnOk r (OfServed G H folders later folder P)
  served_done (Ok u) P o k left t p = of_served P o k left t p
  served_done (Err e) P o k left t p = tt

  pub served_refused : (r : Result (Unit {0}) Refusal) (before now : Option (List ℕ)) → IsOpenedIn G H folders then folder store → KeptThen store → IsOfStore G back → TakesBack G H then later folder back → IfErr r IsServerFault
      → IfErr r (NotServedIn G H folders later folder before now)
  served_refused (Ok u) before now o k left t why = tt
  served_refused (Err e) before now o k left t why = inr (of_served (IsServerFault e) o k left t why)

-- what a server tells, of an output that was lent to it and is back
pub served_told : {O : Type 0} (contents : O → Option (List ℕ)) (r : Result (Unit {0}) Refusal) (done : Result (Unit {0}) SocketFault) (bytes : List ℕ) (output before inner now : O) → OnOk r (done ≡ Ok tt)
    → OnOk done (Appends (contents before) (contents inner) bytes) → before ≡ output → now ≡ inner → OnOk r (Appends (contents output) (contents now) bytes)
served_told contents (Ok u) done bytes output before inner now is told same back =
    subst (λ o. Appends (contents o) (contents now) bytes) same
    (subst (λ o. Appends (contents before) (contents o) bytes) (sym back) (subst (λ d. OnOk d (Appends (contents before) (contents inner) bytes)) is told))
served_told contents (Err e) done bytes output before inner now is told same back = tt
