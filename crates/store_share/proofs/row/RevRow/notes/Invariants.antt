use Rattle.std.proofs.Common.{◌≡◌, ℕ, map, take, None}
use Rattle.once_cell.specs.Once.{cell_name}
use Rattle.store_share.proofs.Replacing.{Cells, Known}
use Rattle.store_share.proofs.row.RevRow.notes.Given as goal

abbrev pub invariant-loop-cell : goal.invariant-loop-cell
invariant-loop-cell l = (Cells l.notes.items ≡ map cell_name (take l.cell-index l.cell-items)) × ((r : ℕ) → Known l.notes.items r ≡ None)
