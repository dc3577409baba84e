-- What a reader has seen behind a call that was taken.
use Rattle.std.proofs.Common.{◌≡◌, ◌<◌, ◌≤◌, ◌+◌, ℕ, Bool, false, List, [], ◌∷◌, length, Option, Some, Result, Ok, Err, sym, ap, subst, ◌∙◌, arith, length-append}
use Rattle.std.specs.Option.{option_map}
use Rattle.node_base.specs.Props.{PropMap, without_sync}
use Rattle.dump_load.specs.declared.change.Change.{Change}
use Rattle.dump_load.specs.Trees.{effect_tree}
use Rattle.repo_core.specs.Repository.{Repository, trees_of}
use Rattle.repo_core.specs.Entries.{with_entry_in}
use Rattle.repo_core.specs.declared.entry.Entry.TheVariants.{Revised}
use Rattle.store_share.specs.declared.rev.Rev.{Rev}
use Rattle.store_share.specs.Row.{rev_at}
use Rattle.store_share.proofs.Showing.{revision_as, rev_new}
use Rattle.sync_core.specs.Mirror.{Call, Init, TakeLock, StealLock, ReleaseLock, SetCopying, Commit, PutProps, SetMerged, ClearCopying, Look, standing_of}
use Rattle.sync_core.proofs.Kept.{no_need}
use Rattle.sync_core.proofs.Table.{meets}
use Rattle.sync_core.specs.declared.fault.SyncFault.{SyncFault}
use Rattle.sync_core.specs.declared.reply.Reply.{Reply as Given}
use Rattle.sync_job.specs.Mirrors.{MirrorNow, mirror_in, IsAccepted, Accepted, Doubted, Unchanged}
use Rattle.mirror_share.specs.Seen.{HasSeenCommit}
use Rattle.mirror_share.specs.Steps.{StepsShown, Shown, Hides, Stuck}

-- a call that is taken is accepted, and no cell refused its box
abbrev IsTaken : MirrorNow → ℕ → Call → Bool → MirrorNow → Result Given SyncFault → Type 0
IsTaken m seat call after new (Ok r) = (after ≡ false) × IsAccepted m seat call r new
IsTaken m seat call after new (Err f) = Unit {0}

taken : (before after : Bool) (m new : MirrorNow) (seat : ℕ) (call : Call) (result : Result Given SyncFault) → StepsShown before m seat call result after new → IsTaken m seat call after new result
taken before after m new seat call result (Shown b a (Accepted r is x)) = subst (IsTaken m seat call after new) (sym is) (a, x)
taken before after m new seat call result (Shown b a (Doubted is d)) = subst (IsTaken m seat call after new) (sym is) tt
taken before after m new seat call result (Shown b a (Unchanged f is why same)) = subst (IsTaken m seat call after new) (sym is) tt
taken before after m new seat call result (Hides b a is i) = subst (IsTaken m seat call after new) (sym is) tt
taken before after m new seat call result (Stuck b a is same) = subst (IsTaken m seat call after new) (sym is) tt

-- of the new repository, whose head is shown, the reader knows the new revision
new_seen : (r s : Repository) (n : ℕ) (set : List Change) (props : PropMap) (head seen : ℕ) (known : ℕ → Option Rev) → length r.sets ≡ length r.revisions → n ≡ length r.revisions
    → s ≡ with_entry_in r (Revised n set props) → head + 1 ≡ length s.revisions → head ≤ seen → ((i : ℕ) → i ≤ head → known i ≡ rev_at s i)
    → (n ≤ seen) × (option_map (λ (x : Rev). x.set) (known n) ≡ Some set)
new_seen r s n set props head seen known sets at made newest le knows =
    let grown = length-append r.revisions (revision_as (effect_tree (trees_of r.revisions) set) props ∷ []) in
    let many = ap (λ (x : Repository). length x.revisions) made in
    let is : head ≡ n = omega (arith, newest, many, grown, at) in (
      omega (arith, is, le),
      ap (λ (o : Option Rev). option_map (λ (x : Rev). x.set) o) (knows n (omega (arith, is)) ∙ ap (λ (x : Repository). rev_at x n) made ∙ rev_new r n set props sets at),
    )

pub commit_seen : (before after : Bool) (old new : MirrorNow) (seat : ℕ) (call : Call) (reply : Given) (head seen : ℕ) (known : ℕ → Option Rev)
    → 0 < length old.repository.revisions → length old.repository.sets ≡ length old.repository.revisions
    → StepsShown before old seat call (Ok reply) after new → (after ≡ false → head + 1 ≡ length new.repository.revisions)
    → head ≤ seen → ((i : ℕ) → i ≤ head → known i ≡ rev_at new.repository i) → HasSeenCommit call known seen
commit_seen before after old new seat (Commit n set props) reply head seen known some sets step newest le knows =
    let a = taken before after old new seat (Commit n set props) (Ok reply) step in
    let needs = meets (standing_of old.repository.revisions) old.holder seat (Commit n set props) (no_need (mirror_in old) seat (Commit n set props) a.1.free) in
    let next : n ≡ length old.repository.revisions = omega (arith, needs.1.2, some) in
    new_seen old.repository new.repository n set (without_sync props) head seen known sets next (ap (λ m. m.repository) a.1.mirror) (newest a.0) le knows
commit_seen before after old new seat (Init url uuid props) reply head seen known some sets step newest le knows = tt
commit_seen before after old new seat (TakeLock token) reply head seen known some sets step newest le knows = tt
commit_seen before after old new seat (StealLock token) reply head seen known some sets step newest le knows = tt
commit_seen before after old new seat ReleaseLock reply head seen known some sets step newest le knows = tt
commit_seen before after old new seat (SetCopying n) reply head seen known some sets step newest le knows = tt
commit_seen before after old new seat (PutProps n props) reply head seen known some sets step newest le knows = tt
commit_seen before after old new seat (SetMerged n) reply head seen known some sets step newest le knows = tt
commit_seen before after old new seat ClearCopying reply head seen known some sets step newest le knows = tt
commit_seen before after old new seat Look reply head seen known some sets step newest le knows = tt
