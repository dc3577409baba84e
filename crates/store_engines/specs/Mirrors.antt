-- Which repositories are mirrors.
use Rattle.std.specs.Prelude.{◌≡◌, Bool, true, false, List, codes}
use Rattle.std.specs.FinMap as finite
use Rattle.fleet_disk.specs.declared.disk.Disk.{Ghosts}
use Rattle.repo_core.specs.Repository.{Revision, props_at}
use Rattle.repo_store.specs.Words.{revisions_of}
use Rattle.repo_store.specs.declared.store.RepoStore.{RepoStore}

-- revision 0 names the source that it is synchronised from
abbrev pub is_mirror : List Revision → Bool
is_mirror x = finite.contains_key (props_at x 0) (codes "svn:sync-from-url")

-- a store is a mirror's, or isn't
abbrev pub IsMirror : {D : Type 0} {G : Ghosts D} → RepoStore D G → Type 0
IsMirror store = is_mirror (revisions_of store) ≡ true

abbrev pub IsNoMirror : {D : Type 0} {G : Ghosts D} → RepoStore D G → Type 0
IsNoMirror store = is_mirror (revisions_of store) ≡ false
