-- What is kept at every mirror.
use Rattle.std.proofs.Common.{◌≡◌, ◌≢◌, ℕ, zero, suc, ◌<◌, ◌≤◌, ◌==◌, Bool, true, false, not, ◌&&◌, List, [], ◌∷◌, ◌++◌, length, take, slice_get, Option, Some, None, is_some, refl, sym, ap}
use Rattle.std.specs.Option.{option_map, option_or, option_and_then}
use Rattle.std.specs.List.{range_with_len}
use Rattle.std.specs.FinMap.{get}
use Rattle.std.proofs.lemmas.Bool.Decides.{Decides-eqb}
use Rattle.node_base.specs.Path.{Name}
use Rattle.node_base.specs.Props.{PropMap}
use Rattle.dump_load.specs.declared.change.Change.{Change}
use Rattle.dump_load.specs.Faults.{fault_if}
use Rattle.repo_core.specs.declared.entry.Entry.{Entry}
use Rattle.repo_core.specs.declared.entry.Entry.TheVariants.{Revised, Mapped}
use Rattle.repo_core.specs.Repository.{Revision, trees_of, head_of, props_at, root_alone}
use Rattle.repo_core.specs.Entries.{with_entry, revisions_after}
use Rattle.repo_core.specs.Refusals.{by_repository}
use Rattle.sync_core.specs.Names.{url_name, Number, Absent, Misspelt, Spelt, Huge, is_number, is_absent}
use Rattle.sync_core.specs.Mirror.{Mirror, fresh, standing_of, IsAtRest, Call, holds, unmet, entry_of, Missed, OfRepository, refusal, commits_of}
use Rattle.sync_core.specs.Jobs.{Fetched, Job, last_fetch}
use Rattle.sync_core.specs.World.{Origin, moment_of, map_at, Room, job_at, Makes}
use Rattle.sync_core.specs.Law.{IsCopied}

abbrev pub has_url : List Revision → Bool
has_url x = is_some (get (props_at x 0) url_name)

-- an initialised mirror, which was at rest in a shape at the start or not
pub record Rest (o : Origin) (shaped : Bool) (x : List Revision) (copied : ℕ → ℕ) : Type 0 where
  pub within : length x ≤ length o.trees
  pub trees : trees_of x ≡ take (length x) o.trees
  pub identity : (standing_of x).uuid ≡ Some o.identity
  pub shape : shaped ≡ true → IsAtRest (standing_of x)
  pub maps : (n : ℕ) (y : Revision) → slice_get x n ≡ Some y → IsCopied o (copied n) n y.props

-- the revisions of any mirror, and its journal
pub record Kept (o : Origin) (shaped : Bool) (x : List Revision) (entries : List Entry) (copied : ℕ → ℕ) : Type 0 where
  pub some : 0 < length x
  pub small : length x ≤ 65536
  pub root : slice_get (trees_of x) 0 ≡ Some root_alone
  pub master : slice_get o.trees 0 ≡ Some root_alone
  pub commits : commits_of entries ≡ range_with_len 1 (head_of x)
  pub journal : x ≡ revisions_after fresh.revisions entries
  pub rest : has_url x ≡ true → Rest o shaped x copied

-- what a job was given is the master's
pub record IsFetched (o : Origin) (n : ℕ) (f : Fetched) : Type 0 where
  pub there : map_at o f.moment n ≡ Some f.props
  pub by_now : f.moment ≤ moment_of o
  pub makes : (set : List Change) → f.set ≡ Some set → Makes o n set

pub record JobsKept (o : Origin) (jobs : List (Option Job)) (holder : Option ℕ) (copied : ℕ → ℕ) : Type 0 where
  pub past : (n : ℕ) → copied n ≤ moment_of o
  pub fetched : (seat : ℕ) (job : Job) → job_at jobs seat ≡ Some job → (n : ℕ) (f : Fetched) → last_fetch job.fetched n ≡ Some f → IsFetched o n f
  -- the holder has fetched nothing before the last copying
  pub later : (seat : ℕ) (job : Job) → job_at jobs seat ≡ Some job → holder ≡ Some seat → (n : ℕ) (f : Fetched) → last_fetch job.fetched n ≡ Some f → copied n ≤ f.moment
  pub identity : (seat : ℕ) (job : Job) → job_at jobs seat ≡ Some job → (u : Name) → job.identity ≡ Some u → u ≡ o.identity

pub record RoomKept (o : Origin) (shaped : Bool) (room : Room) : Type 0 where
  pub revisions : Kept o shaped room.mirror.revisions room.journal room.copied
  pub jobs : JobsKept o room.jobs room.mirror.holder room.copied
  -- nothing was copied before it was initialised
  pub new : has_url room.mirror.revisions ≡ false → (n : ℕ) → room.copied n ≡ 0
  pub held : (seat : ℕ) → room.mirror.holder ≡ Some seat → has_url room.mirror.revisions ≡ true
  pub acknowledged : room.acknowledged ≤ head_of room.mirror.revisions
  pub shown : room.shown ≤ head_of room.mirror.revisions

abbrev pub refuse_if : {A : Type 0} → Bool → A → Option A → Option A
refuse_if b f rest = option_or (fault_if b f) rest

-- what a call that isn't refused has met
pub passes : {A : Type 0} (b : Bool) (f : A) (rest : Option A) → refuse_if b f rest ≡ None → (b ≡ false) × (rest ≡ None)
passes true f rest e = absurd (cc)
passes false f rest e = (refl, e)

pub not_false : (b : Bool) → not b ≡ false → b ≡ true
not_false true e = refl
not_false false e = sym e

pub both : (a b : Bool) → (a && b) ≡ true → (a ≡ true) × (b ≡ true)
both true b e = (refl, e)
both false b e = absurd (cc)

pub is_equal : (a b : ℕ) → (a == b) ≡ true → a ≡ b
is_equal a b e = (Decides-eqb a b).0 e

pub itself : (a : ℕ) → (a == a) ≡ true
itself a = (Decides-eqb a a).1 refl

pub is_other : (a b : ℕ) → a ≢ b → (a == b) ≡ false
is_other a b h = elim (a == b) as (λ t. (a == b) ≡ t → t ≡ false) [ true ↦ λ e. absurd (h (is_equal a b e)) | false ↦ λ e. refl ] refl

pub number_is : (m : Number) (n : ℕ) → is_number m n ≡ true → m ≡ Spelt n
number_is Absent n e = absurd (cc)
number_is Misspelt n e = absurd (cc)
number_is (Spelt k) n e = ap Spelt (is_equal k n e)
number_is Huge n e = absurd (cc)

pub absent_is : (m : Number) → is_absent m ≡ true → m ≡ Absent
absent_is Absent e = refl
absent_is Misspelt e = absurd (cc)
absent_is (Spelt k) e = absurd (cc)
absent_is Huge e = absurd (cc)

pub holder_is : (holder : Option ℕ) (seat : ℕ) → holds holder seat ≡ true → holder ≡ Some seat
holder_is None seat e = absurd (cc)
holder_is (Some k) seat e = ap (λ (j : ℕ). Some j) (is_equal k seat e)

-- a journal with one entry more
pub revisions-push : (x : List Revision) (es : List Entry) (e : Entry) → revisions_after x (es ++ e ∷ []) ≡ with_entry (revisions_after x es) e
revisions-push x [] e = refl
revisions-push x (f ∷ es) e = revisions-push (with_entry x f) es e

pub commits-push_map : (es : List Entry) (n : ℕ) (p : PropMap) → commits_of (es ++ Mapped n p ∷ []) ≡ commits_of es
commits-push_map [] n p = refl
commits-push_map (Revised k s q ∷ es) n p = ap (λ ks. k ∷ ks) (commits-push_map es n p)
commits-push_map (Mapped k q ∷ es) n p = commits-push_map es n p

pub commits-push_revision : (es : List Entry) (n : ℕ) (s : List Change) (p : PropMap) → commits_of (es ++ Revised n s p ∷ []) ≡ commits_of es ++ n ∷ []
commits-push_revision [] n s p = refl
commits-push_revision (Revised k t q ∷ es) n s p = ap (λ ks. k ∷ ks) (commits-push_revision es n s p)
commits-push_revision (Mapped k q ∷ es) n s p = commits-push_revision es n s p

or_first : {A : Type 0} (a b : Option A) → option_or a b ≡ None → (a ≡ None) × (b ≡ None)
or_first None b e = (refl, e)
or_first (Some x) b e = absurd (cc)

or_end : {A : Type 0} (a : Option A) → option_or a None ≡ None → a ≡ None
or_end None e = refl
or_end (Some x) e = absurd (cc)

mapped_none : {A B : Type 0} (f : A → B) (a : Option A) → option_map f a ≡ None → a ≡ None
mapped_none f None e = refl
mapped_none f (Some x) e = absurd (cc)

-- a call that isn't refused misses no need, and the repository takes its entry
pub no_need : (m : Mirror) (seat : ℕ) (call : Call) → refusal m seat call ≡ None → unmet (standing_of m.revisions) m.holder seat call ≡ None
no_need m seat call e = mapped_none Missed (unmet (standing_of m.revisions) m.holder seat call) (or_first (option_map Missed (unmet (standing_of m.revisions) m.holder seat call)) _ e).0

pub taken : (m : Mirror) (seat : ℕ) (call : Call) → refusal m seat call ≡ None → option_and_then (by_repository m.revisions) (entry_of m.revisions call) ≡ None
taken m seat call e =
    mapped_none OfRepository (option_and_then (by_repository m.revisions) (entry_of m.revisions call))
    (or_end _ (or_first (option_map Missed (unmet (standing_of m.revisions) m.holder seat call)) _ e).1)

-- the trees and the length after a write of one map
pub trees-mapped : (x : List Revision) (n : ℕ) (p : PropMap) → trees_of (with_entry x (Mapped n p)) ≡ trees_of x
trees-mapped [] n p = refl
trees-mapped (y ∷ x) zero p = refl
trees-mapped (y ∷ x) (suc n) p = ap (λ ts. y.tree ∷ ts) (trees-mapped x n p)

pub length-mapped : (x : List Revision) (n : ℕ) (p : PropMap) → length (with_entry x (Mapped n p)) ≡ length x
length-mapped [] n p = refl
length-mapped (y ∷ x) zero p = refl
length-mapped (y ∷ x) (suc n) p = ap suc (length-mapped x n p)
