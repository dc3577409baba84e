-- The paths that changes name, counted up to one past what a set may have.
use Rattle.std.specs.Prelude.{◌≡◌, ◌≤◌, ◌<◌, ◌++◌, ◌∷◌, [], List, length}
use Rattle.std.specs.List.{list_any}
use Rattle.std.specs.BTreeMap.{is_at}
use Rattle.node_base.specs.Path.{Path, path_cmp, same_path}
use Rattle.node_base.specs.declared.limits.TheConstants.{CHANGES}
use Rattle.dump_load.specs.declared.change.Change.{Change}
use Rattle.dump_load.specs.Records.{paths_named}

-- these are the paths that changes name; or they are past 4,096, and so are those that the changes name
abbrev pub AreFirstPaths : List Path → List Change → Type 0
AreFirstPaths paths cs = (length paths ≤ CHANGES → (length paths ≡ paths_named cs) × ((p : Path) → list_any (is_at (path_cmp p)) paths ≡ list_any (λ c. same_path p c.path) cs)) × (4096 < length paths → 4096 < paths_named cs)

-- a change more, at that path
abbrev pub AddsPath : Path → List Path → List Path → Type 0
AddsPath path before after = (cs : List Change) (c : Change) → c.path ≡ path → AreFirstPaths before cs → AreFirstPaths after (cs ++ c ∷ [])
