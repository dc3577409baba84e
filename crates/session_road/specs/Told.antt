-- What a server answers the commands of a client.
use Rattle.std.specs.Prelude.{◌≡◌, ℕ, zero, suc, ◌+◌, ◌-◌, Bool, List, [], ◌++◌, None, IsSomeAnd, take}
use Rattle.std.specs.FinMap as finite
use Rattle.node_base.specs.Path.{Path}
use Rattle.node_base.specs.Props.{IsProps}
use Rattle.dump_load.specs.Effect.{effect}
use Rattle.editor_ends.specs.Drive.{drive}
use Rattle.edit_road.specs.Sent.{MayBeSent}
use Rattle.ra_edit.specs.Commands.{edit_bytes}
use Rattle.ra_item.specs.Items.{spell}
use Rattle.repo_core.specs.Repository.{Repository, trees_of, tree_at, head_of, props_at}
use Rattle.ra_wire.specs.Commands.{LatestRev, RevProplist, ReplayRange}
use Rattle.ra_wire.specs.Reading.{command_in}
use Rattle.ra_wire.specs.Replies.{authorised, done, revprops}
use Rattle.ra_wire.specs.Requests.{command_item}
use Rattle.ra_serve.specs.Answers.{answer}
use Rattle.ra_serve.specs.Ports.{no_revision, set_of}
use Rattle.ra_client.specs.Telling.{number_told, proplist_told, revision_told}

-- so many revisions from one on: the properties of each, the edit that its set is driven as over the trees before it, and then the others
abbrev pub revisions_told : Repository → ℕ → ℕ → List ℕ
revisions_told x n zero = []
revisions_told x n (suc count) = spell (revprops (props_at x.revisions n)) ++ (edit_bytes (drive (take n (trees_of x.revisions)) (set_of x n)) ++ revisions_told x (n + 1) count)

-- by the repository that it has, where its port refuses nothing by itself
pub record ServerTells : Type 0 where
  pub number : (mirror : Bool) (x : Repository) → answer mirror x (command_in (command_item LatestRev)) None ≡ number_told (head_of x.revisions)
  pub properties : (mirror : Bool) (x : Repository) (n : ℕ) → no_revision x n ≡ None → answer mirror x (command_in (command_item (RevProplist n))) None ≡ proplist_told (props_at x.revisions n)
  pub revision : (mirror : Bool) (x : Repository) (n : ℕ) → no_revision x n ≡ None → answer mirror x (command_in (command_item (ReplayRange n n))) None ≡ revision_told (take n (trees_of x.revisions)) (set_of x n) (props_at x.revisions n)
  pub range : (mirror : Bool) (x : Repository) (a b : ℕ) → no_revision x a ≡ None → no_revision x b ≡ None → answer mirror x (command_in (command_item (ReplayRange a b))) None ≡ spell authorised ++ (revisions_told x a (suc b - a) ++ spell done)

-- a revision of a repository may be heard over the trees before it: its set may be sent, its properties are within their limits, and
-- the set makes its tree
pub record MayBeHeard (x : Repository) (n : ℕ) : Type 0 where
  pub sent : MayBeSent (take n (trees_of x.revisions)) (set_of x n)
  pub properties : IsProps (props_at x.revisions n)
  pub tree : IsSomeAnd (tree_at x.revisions n) (λ t. (q : Path) → effect (take n (trees_of x.revisions)) (set_of x n) q ≡ finite.get t q)
