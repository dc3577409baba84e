-- Laws of what clients are told.
use Rattle.std.specs.Prelude.{◌≡◌, ◌⊎◌, ◌++◌, ◌<◌, ◌≤◌, ℕ, true, false, List, Option, Some, None}
use Rattle.node_base.specs.Path.{Path}
use Rattle.node_base.specs.Props.{PropMap}
use Rattle.node_base.specs.declared.node.Node.{Node}
use Rattle.repo_core.specs.Repository.{Repository, head_of, props_at}
use Rattle.ra_item.specs.Items.{spell}
use Rattle.browse_wire.specs.Asks.{Ask, Stat, Reparent}
use Rattle.browse_wire.specs.Urls.{Url}
use Rattle.ra_serve.specs.Answers.{asked, node_in}
use Rattle.ra_denial.specs.Denials.{no_revision}
use Rattle.ra_browse.specs.Answers.{dated, made_of, moved, reply, stat_told}
use Rattle.ra_browse.specs.Dates.{is_by}

-- the node at the session's path and the one that is asked for, of the revision that is asked for
abbrev pub StatIsTheNode : Type 0
StatIsTheNode = (x : Repository) (at : Url) (p : Path) (n : Option ℕ) (d : Node) → no_revision x (asked x n) ≡ None → node_in x (asked x n) (at.1 ++ p) ≡ Some d → reply x at (Stat p n) ≡ spell (stat_told (Some d) (made_of x d.changed))

abbrev pub IsReparent : Ask → Type 0
IsReparent (Reparent url) = Unit {0}
IsReparent c = ⊥

abbrev pub OnlyReparentMoves : Type 0
OnlyReparentMoves = (at : Url) (c : Ask) → (IsReparent c → ⊥) → moved at c ≡ at

-- a revision up to the last one has a date that isn't later, or is revision 0; and none behind it has such a date
pub record IsNewestBy (props : ℕ → PropMap) (date : List ℕ) (last n : ℕ) : Type 0 where
  pub there : n ≤ last
  pub by : (n ≡ 0) ⊎ (is_by date (props n) ≡ true)
  pub newest : (m : ℕ) → n < m → m ≤ last → is_by date (props m) ≡ false

abbrev pub DatedIsNewest : Type 0
DatedIsNewest = (x : Repository) (date : List ℕ) → IsNewestBy (props_at x.revisions) date (head_of x.revisions) (dated x date)
