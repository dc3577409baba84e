use Rattle.std.proofs.Common.{◌≡◌, ◌++◌, ℕ, List, drop, None}
use Rattle.std.specs.Option.{option_copied}
use Rattle.std.specs.Io.KnownBytes.{Appends}
use Rattle.ra_log.specs.Versions.{versions_told}
use Rattle.ra_log.proofs.version.write_versions.Given as goal

abbrev pub invariant-loop-place : goal.invariant-loop-place
invariant-loop-place g l =
    (front : List ℕ) × Appends (g.W.Write.contents l.fn.out) (g.W.Write.contents l.out) front
    × (versions_told l.rows.props.items l.rows.trees.items None l.places ≡ front ++ versions_told l.rows.props.items l.rows.trees.items (option_copied l.old) (drop l.place-index l.places))
