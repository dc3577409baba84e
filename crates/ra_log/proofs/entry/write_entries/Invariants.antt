use Rattle.std.proofs.Common.{take}
use Rattle.std.specs.Io.KnownBytes.{Appends}
use Rattle.ra_log.specs.Entries.{log_as, entries_told}
use Rattle.ra_log.proofs.entry.write_entries.Given as goal

abbrev pub invariant-loop-number : goal.invariant-loop-number
invariant-loop-number g l = Appends (g.W.Write.contents l.fn.out) (g.W.Write.contents l.out) (entries_told (log_as l.order) l.rows.sets.items l.rows.props.items l.rows.trees.items (take l.number-index l.numbers))
