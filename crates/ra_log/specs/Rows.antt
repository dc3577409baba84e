-- What is told by the rows that a log looks at.
use Rattle.std.specs.Prelude.{ℕ, List, Option, None, slice_get}
use Rattle.node_base.specs.declared.node.Node.{Node}
use Rattle.path_history.specs.declared.place.Place.{Place}
use Rattle.browse_wire.specs.Asks.{LogAsk}
use Rattle.ra_log.specs.Entries.{entries_told, entry_bytes}
use Rattle.ra_log.specs.Versions.{head_told, props_of, revision_props, versions_told}
use Rattle.ra_log.specs.declared.rows.LogRows.{LogRows}

-- the entry of the revision of a number
abbrev pub entry_in : LogAsk → LogRows → ℕ → List ℕ
entry_in l rows n = entry_bytes l rows.trees.items n (slice_get rows.sets.items n) (slice_get rows.props.items n)

-- the entries of the revisions of these numbers
abbrev pub entries_in : LogAsk → LogRows → List ℕ → List ℕ
entries_in l rows ns = entries_told l rows.sets.items rows.props.items rows.trees.items ns

-- what a version is beside its text, by the node before it and its own
abbrev pub head_in : LogRows → Option Node → Option Node → Place → List ℕ
head_in rows old new a = head_told a (revision_props rows.props.items a.revision) (props_of old) (props_of new)

-- the versions of a file at these places, oldest first
abbrev pub versions_in : LogRows → List Place → List ℕ
versions_in rows places = versions_told rows.props.items rows.trees.items None places
