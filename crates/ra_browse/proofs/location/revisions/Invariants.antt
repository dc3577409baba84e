use Rattle.std.proofs.Common.{◌≡◌, take}
use Rattle.ra_browse.specs.Histories.{newest}
use Rattle.ra_browse.proofs.location.revisions.Given as goal

abbrev pub invariant-loop-number : goal.invariant-loop-number
invariant-loop-number g l = (l.told.items ≡ take l.number-index l.numbers) × (l.last ≡ newest l.fn.peg (take l.number-index l.numbers))
