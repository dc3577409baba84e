-- How the reading of a log's entries goes on.
use Rattle.std.proofs.Common.{◌≡◌, ◌≤◌, ◌+◌, ◌↔◌, ℕ, List, [], ◌∷◌, ◌++◌, take, slice_get, Some, ◌∙◌, ap, subst, inl, inr, arith}
use Rattle.std.proofs.lemmas.List.{take_more}
use Rattle.std.proofs.lemmas.Option.{slice_get_within, get_or_from_slice_get}
use Rattle.fleet_disk.specs.Image.{Image}
use Rattle.fleet_disk.specs.Rules.{Rose}
use Rattle.fleet_disk.specs.declared.disk.Disk.{Ghosts}
use Rattle.gate_log.specs.Log.{disk_of, ends_of, entries_of, LooksIn}
use Rattle.gate_log.specs.Standing.{parts}
use Rattle.gate_log.specs.declared.log.GateLog.{GateLog}
use Rattle.gate_log.proofs.Looking.{looks_more}
use Rattle.repo_core.specs.Repository.{Repository}
use Rattle.repo_core.specs.Entries.{with_entry_in}
use Rattle.repo_core.specs.declared.entry.Entry.{Entry}
use Rattle.repo_store.specs.Journal.{Spells, Takes}

-- a log that is only looked in has the entries that it had
pub same_entries : {D : Type 0} {G : Ghosts D} (old new : GateLog D G) → LooksIn old new → G.honest (disk_of old) → entries_of new ≡ entries_of old
same_entries {G} old new it h = ap (λ (ends : List ℕ). parts 0 ends (G.reads (disk_of new)).journal) it.ends ∙ ap (λ (i : Image). parts 0 (ends_of old) i.journal) (it.looks.same h)

-- and once more
pub looked_in : {D : Type 0} {G : Ghosts D} → ((disk : D) (c : Image) → G.honest disk → G.left_since disk (G.clock disk) c → G.may_leave disk c) → (old mid new : GateLog D G) → LooksIn old mid → LooksIn mid new → LooksIn old new
looked_in {G} only_now old mid new first then = record {
  ends = then.ends ∙ first.ends;
  version = then.version ∙ first.version;
  looks = looks_more G only_now (disk_of old) (disk_of mid) (disk_of new) first.looks then.looks;
}

-- a count that rose later rose
pub rose_on : (a b c : ℕ) → a ≤ b → Rose b c → Rose a c
rose_on a b c le (inl h) = inl (omega (arith, le, h))
rose_on a b c le (inr h) = inr h

-- an element more at the front
pub take_got : {X : Type 0} (xs : List X) (i : ℕ) (x : X) → slice_get xs i ≡ Some x → take (i + 1) xs ≡ take i xs ++ x ∷ []
take_got xs i x h = take_more xs i x (slice_get_within xs i x h) ∙ ap (λ (z : _). take i xs ++ z ∷ []) (get_or_from_slice_get xs i x x h)

-- an entry of the same list
pub next_in : (there entries : List (List ℕ)) (i : ℕ) (old new : Repository) → there ≡ entries
    → (bytes : List ℕ) × (e : Entry) × (slice_get there i ≡ Some bytes) × Spells bytes e × Takes old.revisions e × (new ≡ with_entry_in old e)
    → (bytes : List ℕ) × (e : Entry) × (slice_get entries i ≡ Some bytes) × Spells bytes e × Takes old.revisions e × (new ≡ with_entry_in old e)
next_in there entries i old new same (bytes, e, at, spells, takes, is) = (bytes, e, subst (λ (l : List (List ℕ)). slice_get l i ≡ Some bytes) same at, spells, takes, is)
