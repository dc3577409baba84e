-- What an upgrade does over the repository that stands in a folder, step by step.
use Rattle.std.proofs.Common.{ℕ, List, Option, Result, Ok, Err, inr, IfErr}
use Rattle.std.specs.Result.{OnOk}
use Rattle.fleet_disk.specs.Lasting.{KeepsNames}
use Rattle.fleet_disk.specs.declared.disk.Disk.{Ghosts}
use Rattle.node_base.specs.declared.refusal.Refusal.{Refusal}
use Rattle.repo_store.specs.Words.{disk_of}
use Rattle.repo_store.specs.declared.store.RepoStore.{RepoStore}
use Rattle.store_engines.specs.Upgrades.{IsUpgraded, NotUpgraded}
use Rattle.fleet_main.specs.Doing.{FilesLast, IsOpenedIn, OfUpgrade, UnopenedOrUpgrade}
use Rattle.fleet_main.specs.Loans.{TakesBack}
use Rattle.fleet_main.specs.declared.lending.Folders.{Ghosts as FolderGhosts}
use Rattle.fleet_main.proofs.Lasting.{files_still_last}
use Rattle.fleet_main.proofs.Loans.{one_back}

module _ {F D : Type 0} (G : Ghosts D) (H : FolderGhosts F D) (folders then later : F) (folder : List ℕ) (store : RepoStore D G) (back : D) where
  of_upgrade : (P : RepoStore D G → D → Type 0) → IsOpenedIn G H folders then folder store → FilesLast G H folders then folder store → KeepsNames H.lasts then later → TakesBack G H then later folder back → (G.honest (disk_of store) → G.honest back) → P store back
      → OfUpgrade G H folders later folder P
  of_upgrade P o lasts names t rules p = record {
    given = o.0;
    old = store;
    left = back;
    opened = o.2;
    done = p;
    back = one_back G H folders then later folder o.0 back o.1 (λ h. rules (o.2.rules h)) t;
    lasts = files_still_last G H folders then folder later store names lasts;
  }

  pub upgrade_done : (r : Result (Unit {0}) Refusal) (before now : Option (List ℕ)) → IsOpenedIn G H folders then folder store → FilesLast G H folders then folder store → KeepsNames H.lasts then later → TakesBack G H then later folder back → OnOk r (IsUpgraded before now store back)
      → OnOk r (OfUpgrade G H folders later folder (IsUpgraded before now))
  upgrade_done (Ok u) before now o lasts names t d = of_upgrade (IsUpgraded before now) o lasts names t d.spared.honest.0 d
  upgrade_done (Err e) before now o lasts names t d = tt

  pub upgrade_refused : (r : Result (Unit {0}) Refusal) (before now : Option (List ℕ)) (fails : Type 0) → IsOpenedIn G H folders then folder store → FilesLast G H folders then folder store → KeepsNames H.lasts then later → TakesBack G H then later folder back
      → IfErr r (λ e. NotUpgraded before now fails e store back) → IfErr r (λ e. UnopenedOrUpgrade G H folders later folder before now e (NotUpgraded before now fails e))
  upgrade_refused (Ok u) before now fails o lasts names t d = tt
  upgrade_refused (Err e) before now fails o lasts names t d = inr (of_upgrade (NotUpgraded before now fails e) o lasts names t d.spared.honest.0 d)
