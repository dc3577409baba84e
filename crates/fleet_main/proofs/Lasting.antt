-- What a stop leaves of a folder where a repository is begun, and of one whose log is upgraded.
use Rattle.std.proofs.Common.{◌≡◌, ◌≢◌, ◌≤◌, ◌⊎◌, ◌++◌, ℕ, List, [], ◌∷◌, length, inl, inr, sym, ◌∙◌, ap, subst, arith, length-append}
use Rattle.std.proofs.Math.Logic.{∥∥₁_elim}
use Rattle.fleet_disk.specs.FolderFiles.{path_in}
use Rattle.fleet_disk.specs.Image.{Image, no_bytes}
use Rattle.fleet_disk.specs.Lasting.{IsMadeToLast, KeepsNames, LastsUnlessFull, LastsUnlessLacking}
use Rattle.fleet_disk.specs.declared.disk.Disk.{Ghosts}
use Rattle.gate_log.specs.Standing.{last_end, IsRising, Stands}
use Rattle.gate_log.specs.Version.{IsOf}
use Rattle.gate_log.specs.declared.version.LogVersion.TheVariants.{First, Second}
use Rattle.repo_core.specs.Repository.{Revision}
use Rattle.repo_store.specs.Journal.{ReopensTo, StandsFor}
use Rattle.repo_store.specs.Words.{identity_of, revisions_of}
use Rattle.repo_store.specs.declared.store.RepoStore.{RepoStore}
use Rattle.fleet_main.specs.Doing.{FilesLast, IsOpenedOn}
use Rattle.fleet_main.specs.declared.lending.Folders.{Ghosts as FolderGhosts}

bottom_prop : (p q : ⊥) → p ≡ q
bottom_prop p q = absurd p

-- the ends rise
at_last : (from : ℕ) (ends : List ℕ) → IsRising from ends → from ≤ last_end from ends
at_last from [] rising = omega arith
at_last from (end ∷ ends) (less, rising) = omega (arith, less, at_last end ends rising)

not_empty : (front rest : List ℕ) (gate : ℕ) → front ++ gate ∷ rest ≢ []
not_empty front rest gate is = omega (arith, length-append front (gate ∷ rest), ap length is)

-- of entries that stand the journal has bytes, and in the first version the gate
stand_written : (image : Image) (entries : List (List ℕ)) (identity : List ℕ) (x : List Revision) → Stands image entries → StandsFor entries identity x → image.journal ≢ []
stand_written image [] identity x (version, ends, at, are) stands is = absurd stands
stand_written image (first ∷ more) identity x (version, [], at, are) stands is = absurd (omega (arith, ap length are))
stand_written image (first ∷ more) identity x (version, end ∷ ends, at, are) stands is = omega (arith, at.rising.0, at_last end ends at.rising.1, at.within, ap length is)

stand_gated : (image : Image) (entries : List (List ℕ)) → IsOf First image → Stands image entries → image.gate ≢ []
stand_gated image entries first (First, ends, at, are) is = not_empty _ at.rest at.next_gate (sym at.gates ∙ is)
stand_gated image entries first (Second, ends, at, are) is = first at.is

-- so of a store that is opened
lacks_nothing : (identity : List ℕ) (x : List Revision) (image : Image) → IsOf First image → ReopensTo identity x image → (image.journal ≡ []) ⊎ (image.gate ≡ []) → ⊥
lacks_nothing identity x image first known lacks = ∥∥₁_elim known bottom_prop (of_one lacks)
  where
    of_one : (image.journal ≡ []) ⊎ (image.gate ≡ []) → (entries : List (List ℕ)) × Stands image entries × StandsFor entries identity x → ⊥
    of_one (inl is) (entries, there, stands) = stand_written image entries identity x there stands is
    of_one (inr is) (entries, there, stands) = stand_gated image entries first there is

module _ {F D : Type 0} (G : Ghosts D) (H : FolderGhosts F D) (folders then : F) (folder : List ℕ) where
  -- a disk that a store is begun on has no bytes
  pub begun_lasts : (given : D) → LastsUnlessFull H.honest H.lacks H.lasts G.reads folders then folder given → (H.honest folders → G.reads given ≡ no_bytes) → H.honest folders → IsMadeToLast H.honest H.lacks H.lasts folders then folder
  begun_lasts given (inl lasts) empty h = lasts
  begun_lasts given (inr full) empty h = absurd (full h (empty h))

  -- one that a store without sums is opened on has bytes in the journal, and in the gate
  pub opened_lasts : (given : D) (store : RepoStore D G) → LastsUnlessLacking H.honest H.lasts G.reads folders then folder given → IsOpenedOn G (H.honest folders) given store → FilesLast G H folders then folder store
  opened_lasts given store (inl lasts) o h first file = lasts file
  opened_lasts given store (inr lacks) o h first file = absurd (lacks_nothing (identity_of store) (revisions_of store) (G.reads given) (subst (λ v. IsOf v (G.reads given)) first (o.version h)) (o.stands h) (lacks h))

  -- and where names are kept, that stays so
  pub still_made : (later : F) → KeepsNames H.lasts then later → IsMadeToLast H.honest H.lacks H.lasts folders then folder → IsMadeToLast H.honest H.lacks H.lasts folders later folder
  still_made later keeps m = record {
    files = λ file. keeps (path_in folder file) (m.files file);
    above = λ h lacks. keeps folder (m.above h lacks);
  }

  pub files_still_last : (later : F) (store : RepoStore D G) → KeepsNames H.lasts then later → FilesLast G H folders then folder store → FilesLast G H folders later folder store
  files_still_last later store keeps lasts h first file = keeps (path_in folder file) (lasts h first file)
