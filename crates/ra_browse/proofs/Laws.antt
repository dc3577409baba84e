-- Laws of what clients are told.
use Rattle.std.proofs.Common.{◌≡◌, ℕ, Bool, true, false, ◌++◌, Option, Some, None, Result, Ok, Err, refl, ap, ◌∙◌}
use Rattle.std.specs.Prelude.{if◌then◌else◌}
use Rattle.std.specs.Str.{bytes_eq}
use Rattle.node_base.specs.Path.{Path}
use Rattle.node_base.specs.declared.node.Node.{Node}
use Rattle.repo_core.specs.Repository.{Repository}
use Rattle.ra_item.specs.Items.{spell}
use Rattle.browse_wire.specs.Asks.{Ask, Plain, Stat, Log, Locations, Segments, FileRevs, Reparent, GetLock, GetLocks, Update, Switch, Status, Diff, DatedRev}
use Rattle.browse_wire.specs.AskReading.{Reading}
use Rattle.browse_wire.specs.Urls.{Url, url_read}
use Rattle.browse_wire.specs.declared.url.UrlFault.{UrlFault}
use Rattle.ra_serve.specs.Answers.{asked, node_in}
use Rattle.ra_denial.specs.Denials.{unless_denied, no_revision}
use Rattle.ra_denial.specs.Places.{moved_to}
use Rattle.ra_browse.specs.Answers.{made_of, made_for, moved, behind, reply, stat_told, browse_content}
use Rattle.ra_browse.specs.Laws.{IsReparent}

pub stat_told_node : (x : Repository) (at : Url) (p : Path) (n : Option ℕ) (d : Node) → no_revision x (asked x n) ≡ None → node_in x (asked x n) (at.1 ++ p) ≡ Some d → reply x at (Stat p n) ≡ spell (stat_told (Some d) (made_of x d.changed))
stat_told_node x at p n d h k = ap (λ o. unless_denied o (browse_content x at (Stat p n))) h ∙ ap (λ o. spell (stat_told o (made_for x o))) k

pub others_stay : (at : Url) (c : Ask) → (IsReparent c → ⊥) → moved at c ≡ at
others_stay at (Plain c) h = refl
others_stay at (Stat p n) h = refl
others_stay at (Log l) h = refl
others_stay at (Locations p peg ns) h = refl
others_stay at (Segments p peg start end) h = refl
others_stay at (FileRevs p start end merged) h = refl
others_stay at (Reparent url) h = absurd (h tt)
others_stay at (GetLock p) h = refl
others_stay at (GetLocks p d) h = refl
others_stay at (Update n p d copies ignores) h = refl
others_stay at (Switch n p url d copies ignores) h = refl
others_stay at (Status n p d) h = refl
others_stay at (Diff n p url d ignores texts) h = refl
others_stay at (DatedRev date) h = refl

either_root : (at : Url) (p : Path) (b : Bool) → (if b then (at.0, p) else at).0 ≡ at.0
either_root at p true = refl
either_root at p false = refl

root_moved : (at : Url) (r : Result Url UrlFault) → (moved_to at r).0 ≡ at.0
root_moved at (Err f) = refl
root_moved at (Ok to) = either_root at to.1 (bytes_eq to.0 at.0)

root_kept : (at : Url) (c : Ask) → (moved at c).0 ≡ at.0
root_kept at (Plain c) = refl
root_kept at (Stat p n) = refl
root_kept at (Log l) = refl
root_kept at (Locations p peg ns) = refl
root_kept at (Segments p peg start end) = refl
root_kept at (FileRevs p start end merged) = refl
root_kept at (Reparent url) = root_moved at (url_read url)
root_kept at (GetLock p) = refl
root_kept at (GetLocks p d) = refl
root_kept at (Update n p d copies ignores) = refl
root_kept at (Switch n p url d copies ignores) = refl
root_kept at (Status n p d) = refl
root_kept at (Diff n p url d ignores texts) = refl
root_kept at (DatedRev date) = refl

pub root_behind : (at : Url) (read : Reading) → (behind at read).0 ≡ at.0
root_behind at (Ok c) = root_kept at c
root_behind at (Err f) = refl
