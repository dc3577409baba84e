-- What is heard of a range of revisions.
use Rattle.std.specs.Prelude.{◌≡◌, ℕ, suc, ◌+◌, ◌-◌, List, [], ◌∷◌, ◌++◌, length, take, Result, IsSomeAnd, MatchResult}
use Rattle.std.specs.FinMap as finite
use Rattle.byte_streams.specs.Causes.{Fails}
use Rattle.byte_streams.specs.declared.input.Input.{Ghosts as InputGhosts}
use Rattle.node_base.specs.Path.{Path}
use Rattle.node_base.specs.Props.{PropMap, IsProps}
use Rattle.node_base.specs.Tree.{PathMap}
use Rattle.dump_load.specs.declared.change.Change.{Change}
use Rattle.dump_load.specs.Effect.{effect}
use Rattle.editor_ends.specs.Drive.{drive}
use Rattle.edit_road.specs.Sent.{MayBeSent}
use Rattle.ra_edit.specs.Commands.{edit_bytes}
use Rattle.ra_edit.specs.declared.edit_fault.EditFault.TheVariants as edit
use Rattle.ra_item.specs.Items.{spell}
use Rattle.ra_item.specs.declared.stream.ItemStream.{ItemStream}
use Rattle.ra_wire.specs.Replies.{revprops}
use Rattle.ra_client.specs.Steps.{counts_of}
use Rattle.ra_client.specs.Telling.{IsToCome, IsExcused, IsRevision}
use Rattle.ra_client.specs.declared.fault.ClientFault.{ClientFault}
use Rattle.ra_client.specs.declared.fault.ClientFault.TheVariants as fault
use Rattle.repo_core.specs.Repository.{Repository, trees_of, tree_at, props_at}

-- where these bytes are to come, whatever follows them, such is what comes of them, and what follows is to come then; only want of
-- memory or an input that failed refuses them
abbrev pub HearsFrom : {R A : Type 0} {g : InputGhosts R} → List ℕ → (A → Type 0) → ItemStream R g → ItemStream R g → Result A ClientFault → Type 0
HearsFrom bytes Is old new result = (more : List ℕ) → IsToCome (bytes ++ more) old → MatchResult result (λ v. Is v × IsToCome more new) (IsExcused (Fails (counts_of old new)))

abbrev pub is_no_memory : ClientFault → Type 0
is_no_memory f = f ≡ fault.Edit edit.OutOfMemory

-- ---- one revision

-- the edit of a set that may be sent over these trees, behind properties that were taken
abbrev pub HearsEdit : {R : Type 0} {g : InputGhosts R} → List PathMap → PropMap → ItemStream R g → ItemStream R g → Result (List Change × PropMap) ClientFault → Type 0
HearsEdit trees props old new result = (s : List Change) → MayBeSent trees s → HearsFrom (edit_bytes (drive trees s)) (IsRevision trees s props) old new result

-- properties within their limits and that edit
abbrev pub HearsNext : {R : Type 0} {g : InputGhosts R} → List PathMap → ItemStream R g → ItemStream R g → Result (List Change × PropMap) ClientFault → Type 0
HearsNext trees old new result = (s : List Change) (m : PropMap) → MayBeSent trees s → IsProps m → HearsFrom (spell (revprops m) ++ edit_bytes (drive trees s)) (IsRevision trees s m) old new result

-- a set whose effect over the trees before a revision is its tree, and the properties that the revision has
pub record IsRevisionOf (x : Repository) (n : ℕ) (found : List Change × PropMap) : Type 0 where
  pub tree : IsSomeAnd (tree_at x.revisions n) (λ t. (q : Path) → effect (take n (trees_of x.revisions)) found.0 q ≡ finite.get t q)
  pub properties : found.1 ≡ props_at x.revisions n

-- ---- a range

-- so it is of each, the first of them that of a revision, and the others of those behind it
abbrev pub AreRevisionsOf : Repository → ℕ → List (List Change × PropMap) → Type 0
AreRevisionsOf x n [] = Unit {0}
AreRevisionsOf x n (r ∷ rs) = IsRevisionOf x n r × AreRevisionsOf x (n + 1) rs

-- from a revision to a last one
pub record IsRange (x : Repository) (a b : ℕ) (found : List (List Change × PropMap)) : Type 0 where
  pub count : length found ≡ suc b - a
  pub revisions : AreRevisionsOf x a found

-- behind what there was stands one more of which this holds
pub record HasMore {A : Type 0} (P : A → Type 0) (old new : List A) : Type 0 where
  pub last : A
  pub is : P last
  pub behind : new ≡ old ++ last ∷ []
