-- What a dump of a repository is.
use Rattle.std.specs.Prelude.{◌≡◌, ◌<◌, ◌≤◌, ◌⊎◌, ℕ, Bool, true, List, [], ◌++◌, length, slice_get, unwrap_or, Option, Some}
use Rattle.std.specs.List.{flat_map, range_with_len}
use Rattle.std.specs.Io.KnownBytes.{Appends}
use Rattle.byte_streams.specs.Causes.{Rose}
use Rattle.byte_streams.specs.declared.output.Output.{Ghosts as OutputGhosts}
use Rattle.node_base.specs.declared.refusal.Refusal.{Refusal}
use Rattle.node_base.specs.declared.refusal.Refusal.TheVariants as refusal
use Rattle.dump_text.specs.Canon.{canon_head}
use Rattle.dump_load.specs.declared.change.Change.{Change}
use Rattle.repo_core.specs.Repository.{Repository, props_at}
use Rattle.repo_core.specs.declared.entry.Entry.{Entry}
use Rattle.repo_core.specs.declared.entry.Entry.TheVariants.{Revised}
use Rattle.repo_store.specs.Journal.{spelling}
use Rattle.store_engines.specs.Ranges.{first_wanted, last_wanted, count_wanted}
use Rattle.store_engines.specs.declared.range.RevRange.{RevRange}

-- the set that made the tree of a revision
abbrev pub set_at : Repository → ℕ → List Change
set_at r n = unwrap_or (slice_get r.sets n) []

-- a revision as it is now: the set that made its tree, and its properties
abbrev pub revision_now : Repository → ℕ → Entry
revision_now r n = Revised n (set_at r n) (props_at r.revisions n)

-- so many revisions from one on, each in its canonical text
abbrev pub revisions_text : Repository → ℕ → ℕ → List ℕ
revisions_text r first count = flat_map (λ n. spelling (revision_now r n)) (range_with_len first count)

-- a dump of them: the head with the identity, and the revisions
abbrev pub dump_of : Repository → ℕ → ℕ → List ℕ
dump_of r first count = canon_head (Some r.identity) ++ revisions_text r first count

-- a dump ends before its end: a revision that is wanted is above the head, and nothing is written; or memory runs out at one of the revisions, and all before it is written; or the writer fails
pub data DumpStops (r : Repository) (range : Option RevRange) (before now : Option (List ℕ)) (fails : Type 0) (e : Refusal) : Type 0 where
  no_revision : length r.revisions ≤ last_wanted r range → e ≡ refusal.NoSuchRevision → now ≡ before → DumpStops r range before now fails e
  no_memory : (written : ℕ) → last_wanted r range < length r.revisions → written < count_wanted r range → e ≡ refusal.OutOfMemory → Appends before now (dump_of r (first_wanted range) written) → DumpStops r range before now fails e
  writer_fails : last_wanted r range < length r.revisions → fails → e ≡ refusal.PeerFailed → DumpStops r range before now fails e

-- the repository has the revisions that are wanted
abbrev pub HasWanted : Repository → Option RevRange → Type 0
HasWanted r range = last_wanted r range < length r.revisions

-- the dump of those that are wanted
abbrev pub wanted_dump : Repository → Option RevRange → List ℕ
wanted_dump r range = dump_of r (first_wanted range) (count_wanted r range)

-- the writer failed (49)
abbrev pub IsWriterFault : {O : Type 0} → OutputGhosts O → O → O → Refusal → Type 0
IsWriterFault W old new e = (e ≡ refusal.PeerFailed) × Rose (W.failures old) (W.failures new)

-- nothing is written, since memory ran out; or the writer failed
abbrev pub CantWriteOne : {O : Type 0} → OutputGhosts O → O → O → Refusal → Type 0
CantWriteOne W old new e = ((e ≡ refusal.OutOfMemory) × (W.contents new ≡ W.contents old)) ⊎ IsWriterFault W old new e

-- of so many revisions from one on the first are written, since memory ran out; or the writer failed
abbrev pub WritesFewer : {O : Type 0} → OutputGhosts O → Repository → ℕ → ℕ → O → O → Refusal → Type 0
WritesFewer W r first count old new e =
    ((e ≡ refusal.OutOfMemory) × (written : ℕ) × (written < count) × Appends (W.contents old) (W.contents new) (revisions_text r first written)) ⊎ IsWriterFault W old new e

-- the dump that is wanted ends before its end
abbrev pub StopsDump : {O : Type 0} → OutputGhosts O → Repository → Option RevRange → O → O → Refusal → Type 0
StopsDump W r range old new e = DumpStops r range (W.contents old) (W.contents new) (Rose (W.failures old) (W.failures new)) e
