use Rattle.std.proofs.Common.{◌≡◌, ◌++◌, take, drop}
use Rattle.ra_browse.specs.Histories.{down_to}
use Rattle.ra_browse.proofs.versions.count_down_to.Given as goal

abbrev pub invariant-loop-place : goal.invariant-loop-place
invariant-loop-place l = (l.count ≡ l.place-index) × (down_to l.first l.places ≡ take l.place-index l.places ++ down_to l.first (drop l.place-index l.places))
