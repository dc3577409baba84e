-- A fetched set's tree is kept for its commit, and is the one that the set makes of the mirror's trees then.
use Rattle.std.proofs.Common.{◌≡◌, ◌≤◌, ℕ, suc, true, false, List, [], ◌∷◌, ◌++◌, Option, Some, None, inl, inr, ◌⊎◌, refl, sym, ap, subst, ◌∙◌, length, length-append, take, append-nil, arith}
use Rattle.std.specs.Prelude.{IfSome}
use Rattle.std.specs.Option.{option_map_or}
use Rattle.node_base.specs.Tree.{PathMap}
use Rattle.node_base.specs.Props.{PropMap}
use Rattle.dump_load.specs.declared.change.Change.{Change}
use Rattle.dump_load.specs.Trees.{Makes}
use Rattle.repo_core.specs.Repository.{Repository, Revision, trees_of}
use Rattle.repo_core.specs.Entries.{with_entry_in}
use Rattle.repo_core.specs.declared.entry.Entry.{Entry}
use Rattle.repo_core.specs.declared.entry.Entry.TheVariants.{Revised, Mapped}
use Rattle.sync_core.specs.declared.answer.Answer.{Answer}
use Rattle.sync_core.specs.declared.answer.Answer.TheVariants as answer
use Rattle.sync_core.specs.declared.fault.SyncFault.TheVariants as fault
use Rattle.sync_core.specs.declared.resting.Resting.{Resting}
use Rattle.sync_core.specs.declared.resting.Resting.TheVariants as resting
use Rattle.sync_core.specs.declared.state.JobState.{JobState}
use Rattle.sync_core.specs.declared.state.JobState.TheVariants as state
use Rattle.sync_core.specs.declared.init_job.InitPhase.{InitPhase}
use Rattle.sync_core.specs.declared.init_job.InitPhase.TheVariants as initial
use Rattle.sync_core.specs.declared.sync_job.Known.{Known}
use Rattle.sync_core.specs.declared.sync_job.SyncJob.{SyncJob}
use Rattle.sync_core.specs.declared.sync_job.SyncPhase.{SyncPhase}
use Rattle.sync_core.specs.declared.sync_job.SyncPhase.TheVariants as phase
use Rattle.sync_core.specs.declared.copy_job.CopyPhase.{CopyPhase}
use Rattle.sync_core.specs.declared.copy_job.CopyPhase.TheVariants as copying
use Rattle.sync_core.specs.Mirror.{Call, Init, TakeLock, StealLock, ReleaseLock, SetCopying, Commit, PutProps, SetMerged, ClearCopying, Look, entry_of}
use Rattle.sync_core.specs.Plain.{IsNumbered}
use Rattle.sync_core.specs.States.{deed_in, after}
use Rattle.sync_core.specs.SyncTable as sync_table
use Rattle.sync_core.specs.SyncTable.{at, seen, next, cleared, resumed}
use Rattle.sync_core.specs.CopyTable as copy_table
use Rattle.sync_core.specs.InitTable as init_table
use Rattle.sync_core.specs.declared.number.Number.TheVariants.{Absent}
use Rattle.sync_core.proofs.SyncSteps.{set_copying_is, commit_is, fetch_props_is, put_is, merge_is, clear_is, look_is, looked_is, who_is, next_is}
use Rattle.sync_job.specs.Made.{IsMadeOver, IsMadeAt, ComesWith, IsTreeOf, IsKeptFor, IsMadeBy, KeepsMade, MakesOf}
use Rattle.sync_job.specs.Rooms.{SyncBegins, IsUnlocked}
use Rattle.sync_job.specs.Worlds.{AreFirst}
use Rattle.sync_job.proofs.Worlds.{first_on}

-- ---- a job commits only behind a fetch

abbrev KeptIn : (List PathMap → Type 0) → Option PathMap → SyncPhase → Type 0
KeptIn begins_with tree p = IsKeptFor begins_with (sync_table.deed_in p) tree

abbrev KeptBy : (List PathMap → Type 0) → Option PathMap → SyncJob → Type 0
KeptBy begins_with tree s = KeptIn begins_with tree s.phase

resumed_kept : (begins_with : List PathMap → Type 0) (tree : Option PathMap) (shape : Resting) (head : ℕ) → KeptIn begins_with tree (resumed shape head)
resumed_kept begins_with tree resting.Idle head = tt
resumed_kept begins_with tree (resting.Copying n) head = tt
resumed_kept begins_with tree (resting.Committed n) head = tt
resumed_kept begins_with tree resting.Merged head = tt

next_kept : (begins_with : List PathMap → Type 0) (tree : Option PathMap) (known : Known) (n : ℕ) → KeptIn begins_with tree (next known n)
next_kept begins_with tree known n = next_is (KeptIn begins_with tree) known n (λ _. tt) (λ _. tt) tt tt

cleared_kept : (begins_with : List PathMap → Type 0) (tree : Option PathMap) (known : Known) → KeptBy begins_with tree (cleared known)
cleared_kept begins_with tree known = elim known.latest as (λ o. KeptBy begins_with tree (option_map_or (λ n. at known (next known n)) o (at known phase.Latest))) [
  | None ↦ tt
  | Some n ↦ next_kept begins_with tree known n
]

lock_kept : (begins_with : List PathMap → Type 0) (tree : Option PathMap) (known : Known) (a : Answer) → KeptBy begins_with tree (sync_table.after_lock known a)
lock_kept begins_with tree known answer.Done = tt
lock_kept begins_with tree known (answer.Seen s) = tt
lock_kept begins_with tree known (answer.Identity u) = tt
lock_kept begins_with tree known (answer.Latest n) = tt
lock_kept begins_with tree known (answer.Revision s p) = tt
lock_kept begins_with tree known (answer.Map p) = tt
lock_kept begins_with tree known (answer.Refused f) = tt
lock_kept begins_with tree known (answer.Failed f) = tt

latest_kept : (begins_with : List PathMap → Type 0) (tree : Option PathMap) (known : Known) (a : Answer) → KeptBy begins_with tree (sync_table.after_latest known a)
latest_kept begins_with tree known answer.Done = tt
latest_kept begins_with tree known (answer.Seen s) = tt
latest_kept begins_with tree known (answer.Identity u) = tt
latest_kept begins_with tree known (answer.Latest n) = next_kept begins_with tree (record known { latest = Some n }) n
latest_kept begins_with tree known (answer.Revision s p) = tt
latest_kept begins_with tree known (answer.Map p) = tt
latest_kept begins_with tree known (answer.Refused f) = tt
latest_kept begins_with tree known (answer.Failed f) = tt

made_at : (begins_with : List PathMap → Type 0) (trees : List PathMap) (n : ℕ) (set : List Change) (tree : Option PathMap) → begins_with trees → IfSome tree (IsMadeOver trees n set) → IfSome tree (IsMadeAt begins_with n set)
made_at begins_with trees n set None b h = tt
made_at begins_with trees n set (Some t) b h = record { trees = trees; first = b; made = h }

fetch_kept : (begins_with : List PathMap → Type 0) (trees : List PathMap) (tree : Option PathMap) (known : Known) (n : ℕ) (a : Answer) → begins_with trees → IsMadeBy trees n a tree → KeptBy begins_with tree (sync_table.after_fetch known n a)
fetch_kept begins_with trees tree known n answer.Done b h = tt
fetch_kept begins_with trees tree known n (answer.Seen s) b h = tt
fetch_kept begins_with trees tree known n (answer.Identity u) b h = tt
fetch_kept begins_with trees tree known n (answer.Latest k) b h = tt
fetch_kept begins_with trees tree known n (answer.Revision set props) b h = made_at begins_with trees n set tree b h
fetch_kept begins_with trees tree known n (answer.Map p) b h = tt
fetch_kept begins_with trees tree known n (answer.Refused f) b h = tt
fetch_kept begins_with trees tree known n (answer.Failed f) b h = tt

sync_kept : (begins_with : List PathMap → Type 0) (trees : List PathMap) (tree : Option PathMap) (p : SyncPhase) (k : Known) (a : Answer) → begins_with trees → KeepsMade trees (sync_table.deed_in p) a tree → KeptBy begins_with tree (sync_table.after_in p k a)
sync_kept begins_with trees tree (phase.Lock token steal) k a b h = lock_kept begins_with tree k a
sync_kept begins_with trees tree phase.Look k a b h = look_is (KeptBy begins_with tree) k a (λ s. looked_is (KeptBy begins_with tree) (seen k s) s (λ _. tt) (λ _. tt)) (λ _. tt)
sync_kept begins_with trees tree (phase.Who shape uuid) k a b h = who_is (KeptBy begins_with tree) k shape uuid a (resumed_kept begins_with tree shape k.head, tt) (λ _. tt)
sync_kept begins_with trees tree phase.Latest k a b h = latest_kept begins_with tree k a
sync_kept begins_with trees tree (phase.SetCopying n) k a b h = set_copying_is (KeptBy begins_with tree) k n a tt (λ _. tt)
sync_kept begins_with trees tree (phase.Fetch n) k a b h = fetch_kept begins_with trees tree k n a b h
sync_kept begins_with trees tree (phase.Commit n set props) k a b h = commit_is (KeptBy begins_with tree) k n a tt (λ _. tt)
sync_kept begins_with trees tree (phase.FetchProps n) k a b h = fetch_props_is (KeptBy begins_with tree) k n a (λ _. tt) (λ _. tt)
sync_kept begins_with trees tree (phase.Put n props) k a b h = put_is (KeptBy begins_with tree) k n a tt (λ _. tt)
sync_kept begins_with trees tree (phase.Merge n) k a b h = merge_is (KeptBy begins_with tree) k n a tt (λ _. tt)
sync_kept begins_with trees tree phase.Clear k a b h = clear_is (KeptBy begins_with tree) k a (cleared_kept begins_with tree (record k { copying = Absent })) (λ _. tt)
sync_kept begins_with trees tree (phase.Release e) k a b h = tt
sync_kept begins_with trees tree (phase.End e) k a b h = tt

copy_kept : (begins_with : List PathMap → Type 0) (tree : Option PathMap) (token : List ℕ) (p : CopyPhase) → IsKeptFor begins_with (copy_table.deed_in token p) tree
copy_kept begins_with tree token copying.Lock = tt
copy_kept begins_with tree token copying.Look = tt
copy_kept begins_with tree token (copying.Who m uuid) = tt
copy_kept begins_with tree token (copying.FetchProps n) = tt
copy_kept begins_with tree token (copying.Put n props) = tt
copy_kept begins_with tree token (copying.Release e) = tt
copy_kept begins_with tree token (copying.End e) = tt

init_kept : (begins_with : List PathMap → Type 0) (tree : Option PathMap) (url : List ℕ) (p : InitPhase) → IsKeptFor begins_with (init_table.deed_in url p) tree
init_kept begins_with tree url initial.Who = tt
init_kept begins_with tree url (initial.FetchProps u) = tt
init_kept begins_with tree url (initial.Init u props) = tt
init_kept begins_with tree url (initial.End e) = tt

after_kept : (begins_with : List PathMap → Type 0) (trees : List PathMap) (tree : Option PathMap) (s : JobState) (a : Answer) → begins_with trees → KeepsMade trees (deed_in s) a tree → IsKeptFor begins_with (deed_in (after s a)) tree
after_kept begins_with trees tree (state.Init s) a b h = init_kept begins_with tree s.url (init_table.after_in s.phase a)
after_kept begins_with trees tree (state.Sync s) a b h = sync_kept begins_with trees tree s.phase s.known a b h
after_kept begins_with trees tree (state.Copy s) a b h = copy_kept begins_with tree s.token (copy_table.after_in s.phase s.low s.high a)

-- the tree that is kept behind an answer is the one for what is done next
pub kept_on : (begins_with : List PathMap → Type 0) (trees : List PathMap) (tree : Option PathMap) (s t : JobState) (a : Answer) → t ≡ after s a → begins_with trees → KeepsMade trees (deed_in s) a tree → IsKeptFor begins_with (deed_in t) tree
kept_on begins_with trees tree s t a e b h = subst (λ x. IsKeptFor begins_with (deed_in x) tree) (sym e) (after_kept begins_with trees tree s a b h)

begin_kept : (begins_with : List PathMap → Type 0) (tree : Option PathMap) (p : SyncPhase) → SyncBegins p → KeptIn begins_with tree p
begin_kept begins_with tree (phase.Lock token true) h = tt
begin_kept begins_with tree (phase.Lock token false) h = tt
begin_kept begins_with tree phase.Look h = tt
begin_kept begins_with tree (phase.Who shape uuid) h = tt
begin_kept begins_with tree phase.Latest h = tt
begin_kept begins_with tree (phase.SetCopying n) h = tt
begin_kept begins_with tree (phase.Fetch n) h = tt
begin_kept begins_with tree (phase.Commit n set props) h = absurd h
begin_kept begins_with tree (phase.FetchProps n) h = tt
begin_kept begins_with tree (phase.Put n props) h = tt
begin_kept begins_with tree (phase.Merge n) h = tt
begin_kept begins_with tree phase.Clear h = tt
begin_kept begins_with tree (phase.Release e) h = tt
begin_kept begins_with tree (phase.End e) h = tt

-- a job that begins doesn't begin with a commit
pub kept_first : (begins_with : List PathMap → Type 0) (tree : Option PathMap) (s : JobState) → IsUnlocked s → IsKeptFor begins_with (deed_in s) tree
kept_first begins_with tree (state.Init s) h = init_kept begins_with tree s.url s.phase
kept_first begins_with tree (state.Sync s) h = begin_kept begins_with tree s.phase h
kept_first begins_with tree (state.Copy s) h = copy_kept begins_with tree s.token s.phase

-- ---- a fetch and its answer

pub made_by : (trees : List PathMap) (n : ℕ) (a heard : Answer) (tree : Option PathMap) → n ≤ length trees → MakesOf (take n trees) a tree → (heard ≡ a) ⊎ (heard ≡ answer.Refused fault.OutOfMemory) → IsMadeBy trees n heard tree
made_by trees n a heard tree l h (inl e) = subst (λ x. IsMadeBy trees n x tree) (sym e) (by a h)
  where
    some : (set : List Change) (tree : Option PathMap) → IfSome tree (Makes (take n trees) set) → IfSome tree (IsMadeOver trees n set)
    some set None h = tt
    some set (Some t) h = record { there = l; makes = h }

    by : (a : Answer) → MakesOf (take n trees) a tree → IsMadeBy trees n a tree
    by answer.Done h = tt
    by (answer.Seen s) h = tt
    by (answer.Identity u) h = tt
    by (answer.Latest k) h = tt
    by (answer.Revision set props) h = some set tree h
    by (answer.Map p) h = tt
    by (answer.Refused f) h = tt
    by (answer.Failed f) h = tt
made_by trees n a heard tree l h (inr e) = subst (λ x. IsMadeBy trees n x tree) (sym e) tt

-- ---- the entry of a commit

no_more : (n : ℕ) (trees rest all : List PathMap) → trees ++ rest ≡ all → n ≤ length trees → n ≡ length all → take n trees ≡ all
no_more n trees [] all e l c = ap (λ k. take k trees) (c ∙ ap length (sym e) ∙ ap length (append-nil trees)) ∙ take_all trees ∙ sym (append-nil trees) ∙ e
  where
    take_all : (ts : List PathMap) → take (length ts) ts ≡ ts
    take_all [] = refl
    take_all (t ∷ ts) = ap (λ z. t ∷ z) (take_all ts)
no_more n trees (r ∷ rest) all e l c = absurd (omega (arith, l, c, ap length e, length-append trees (r ∷ rest)))

numbered_trees : (x : List Revision) → length (trees_of x) ≡ length x
numbered_trees [] = refl
numbered_trees (r ∷ rs) = ap suc (numbered_trees rs)

-- the trees that a mirror begins with, as many as it has revisions, are all that it has
made_of_all : (x : List Revision) (n : ℕ) (set : List Change) (tree : Option PathMap) → n ≡ length x → IfSome tree (IsMadeAt (λ trees. AreFirst trees (trees_of x)) n set) → IfSome tree (Makes (trees_of x) set)
made_of_all x n set None e h = tt
made_of_all x n set (Some t) e h = subst (λ ts. Makes ts set t) (no_more n h.trees h.first.0 (trees_of x) h.first.1 h.made.there (e ∙ sym (numbered_trees x))) h.made.makes

-- the tree that comes with a commit is the one of its entry
pub entry_made : (x : List Revision) (call : Call) (e : Entry) (tree : Option PathMap) → entry_of x call ≡ Some e → IsNumbered x e → ComesWith (λ trees. AreFirst trees (trees_of x)) call tree → IsTreeOf (trees_of x) e tree
entry_made x call (Mapped n p) tree is k h = tt
entry_made x (Commit m other props) (Revised n set p) tree is k h =
    let same : Revised m other _ ≡ Revised n set p = some_is is in
    subst (λ s. IfSome tree (Makes (trees_of x) s)) (set_of same) (made_of_all x m other tree (number_of same ∙ k) h)
  where
    some_is : {a b : Entry} → Some a ≡ Some b → a ≡ b
    some_is e = cc

    set_of : {m n : ℕ} {s t : List Change} {p q : PropMap} → Revised m s p ≡ Revised n t q → s ≡ t
    set_of e = cc

    number_of : {m n : ℕ} {s t : List Change} {p q : PropMap} → Revised m s p ≡ Revised n t q → m ≡ n
    number_of e = cc
entry_made x (Init url uuid props) (Revised n set p) tree is k h = absurd (cc)
entry_made x (TakeLock t) (Revised n set p) tree is k h = absurd (cc)
entry_made x (StealLock t) (Revised n set p) tree is k h = absurd (cc)
entry_made x ReleaseLock (Revised n set p) tree is k h = absurd (cc)
entry_made x (SetCopying m) (Revised n set p) tree is k h = absurd (cc)
entry_made x (PutProps m props) (Revised n set p) tree is k h = absurd (cc)
entry_made x (SetMerged m) (Revised n set p) tree is k h = absurd (cc)
entry_made x ClearCopying (Revised n set p) tree is k h = absurd (cc)
entry_made x Look (Revised n set p) tree is k h = absurd (cc)

-- the trees that are there stay with an entry that is taken
pub first_taken : (old mid new : Repository) (e : Entry) (trees : List PathMap) → mid ≡ old → new ≡ with_entry_in mid e → AreFirst trees (trees_of old.revisions) → AreFirst trees (trees_of new.revisions)
first_taken old mid new e trees same taken f = subst (λ r. AreFirst trees (trees_of r.revisions)) (sym (taken ∙ ap (λ r. with_entry_in r e) same)) (first_on old.revisions (Some e) trees f)
