use Rattle.std.proofs.Common.{take}
use Rattle.ra_history.specs.Locations.{AreLocations}
use Rattle.ra_history.proofs.place.locations_of.Given as goal

abbrev pub invariant-loop-number : goal.invariant-loop-number
invariant-loop-number g l = AreLocations (g.S.Sets.sets l.sets) l.from (take l.number-index l.numbers) l.told.items
