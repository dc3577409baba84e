-- What is wanted by a working copy that doesn't have all, and where a command wants a depth.
use Rattle.std.specs.Prelude.{Bool, true, false, not, ◌&&◌, List, [], ◌∷◌, ◌++◌, map, Option, Some, None, is_some, if◌then◌else◌}
use Rattle.std.specs.Option.{option_and_then}
use Rattle.std.specs.List.{flat_map, list_any}
use Rattle.node_base.specs.Path.{Path, is_front, same_path}
use Rattle.node_base.specs.declared.node.Node.{Node}
use Rattle.tree_reports.specs.Applied.{Content}
use Rattle.tree_reports.specs.Depths.{goes_below}
use Rattle.tree_reports.specs.Reports.{placed}
use Rattle.tree_reports.specs.Sparse.{with_limit, with_limits}
use Rattle.tree_reports.specs.declared.depth.Depth.{Depth}
use Rattle.tree_reports.specs.declared.depth.Depth.TheVariants as depth
use Rattle.tree_reports.specs.declared.sparse.Limit.{Limit}
use Rattle.tree_reports.specs.declared.sparse.Part.{Part}
use Rattle.tree_reports.specs.declared.sparse.Part.TheVariants as part
use Rattle.browse_wire.specs.Reports.{Report, SetPath, DeletePath, LinkPath, FinishReport, AbortReport}
use Rattle.ra_report.specs.Reports.{aimed, is_blocked}
use Rattle.ra_report.specs.Shown.{Known, part_as}

-- ---- what a report leaves out

-- all of it is there
abbrev pub is_whole : Part → Bool
is_whole (part.Within d) = goes_below d
is_whole part.LeftOut = false

-- it is there, and not all below it
abbrev pub is_shallow : Part → Bool
is_shallow (part.Within d) = not (goes_below d)
is_shallow part.LeftOut = false

abbrev pub is_left_out : Part → Bool
is_left_out (part.Within d) = false
is_left_out part.LeftOut = true

-- a command reports a path of which that holds
abbrev pub reports : (Part → Bool) → Report → Bool
reports holds (SetPath r) = holds (part_as r.depth)
reports holds (LinkPath r url) = holds (part_as r.depth)
reports holds (DeletePath p) = false
reports holds FinishReport = false
reports holds AbortReport = false

abbrev pub leaves_out : Report → Bool
leaves_out (SetPath r) = not (is_whole (part_as r.depth))
leaves_out (LinkPath r url) = not (is_whole (part_as r.depth))
leaves_out (DeletePath p) = false
leaves_out FinishReport = false
leaves_out AbortReport = false

-- where no depth is wanted, what is left out anywhere counts, and then how deep each path is; else what is left out whole
abbrev pub counts : Option Depth → Bool → Part → Bool
counts None sparse p = sparse
counts (Some d) sparse (part.Within e) = false
counts (Some d) sparse part.LeftOut = true

abbrev pub limit_at : Option Depth → Bool → Path → Part → List Limit
limit_at wanted sparse p q = if counts wanted sparse q then record { path = p; part = q } ∷ [] else []

-- of a command
abbrev pub limit_in : Option Depth → Bool → Report → List Limit
limit_in wanted sparse (SetPath r) = limit_at wanted sparse r.path (part_as r.depth)
limit_in wanted sparse (LinkPath r url) = limit_at wanted sparse r.path (part_as r.depth)
limit_in wanted sparse (DeletePath p) = []
limit_in wanted sparse FinishReport = []
limit_in wanted sparse AbortReport = []

abbrev pub limits_in : Option Depth → List Report → List Limit
limits_in wanted cs = flat_map (limit_in wanted (list_any leaves_out cs)) cs

-- ---- what stands in neither tree

-- a limit leaves a path out at which something is wanted; the folder itself stays
abbrev pub is_dropped : (Path → Option Node) → Limit → Bool
is_dropped f l = is_left_out l.part && not (same_path l.path []) && is_some (f l.path)

abbrev pub drop_at : (Path → Option Node) → Limit → List Path
drop_at f l = if is_dropped f l then l.path ∷ [] else []

-- the paths that are left out of what is wanted: nothing is told of them
abbrev pub drops : (Path → Option Node) → List Limit → List Path
drops f ls = flat_map (drop_at f) ls

-- without what stands at the paths and below them
abbrev pub without : {A : Type 0} → List Path → (Path → Option A) → Path → Option A
without ps f q = if list_any (λ p. is_front p q) ps then None else f q

-- ---- what is wanted

-- the target is looked at as deep as a command wants
abbrev pub within_wanted : Option Depth → Path → (Path → Option Node) → Path → Option Node
within_wanted None t f = f
within_wanted (Some d) t f = with_limit f f (record { path = t; part = part.Within d })

-- of what stands there so much as limits leave, and of that as much as is wanted; nothing stands where a path is left out
abbrev pub trimmed_by : Option Depth → Path → List Limit → (Path → Option Node) → Path → Option Node
trimmed_by wanted t ls f = without (drops f ls) (within_wanted wanted t (with_limits f f ls))

-- the limits are those of a working copy
abbrev pub trimmed : Option Depth → Path → List Report → (Path → Option Node) → Path → Option Node
trimmed wanted t cs f = trimmed_by wanted t (limits_in wanted (map (aimed t) cs)) f

-- folders in which nothing differs are opened too, where some path is there in part: a client sets their depth then, and notes what of them it hasn't
abbrev pub opens_all : List Report → Bool
opens_all cs = list_any (reports is_shallow) cs

-- ---- what was reported, looked at as deep

abbrev pub takes : Depth → Bool → Bool
takes depth.Empty file = false
takes depth.Files file = file
takes depth.Immediates file = true
takes depth.Infinity file = true

abbrev pub is_seen : Depth → Path → Content → Bool
is_seen d [] c = true
is_seen d (n ∷ []) c = takes d (is_some c.text)
is_seen d (n ∷ m ∷ p) c = goes_below d

abbrev pub seen : Depth → Known → Known
seen d k q = option_and_then (λ c. if is_seen d q c then Some c else None) (k q)

-- at a target, which a directory is above
abbrev pub seen_at : Option Depth → Path → Known → Known
seen_at None t k = k
seen_at (Some d) t k = if is_blocked k t then k else placed k t (seen d (λ q. k (t ++ q)))

-- what is left out of what is wanted isn't there; where nothing is wanted, a left out path stands as it was reported, so that its deletion is told
abbrev pub had_by : Option Depth → Path → List Limit → (Path → Option Node) → Known → Known
had_by wanted t ls f k = without (drops f ls) (seen_at wanted t k)

abbrev pub had : Option Depth → Path → List Report → (Path → Option Node) → Known → Known
had wanted t cs f k = had_by wanted t (limits_in wanted (map (aimed t) cs)) f k
