use Rattle.std.proofs.Common.{ap, arith}
use Rattle.ra_item.specs.declared.reading.Reading.{Reading}
use Rattle.ra_item.proofs.Read.{standing_kept}
use Rattle.ra_item.proofs.reader.ItemReader.held.Goals as goal

pub kept-requires : goal.kept-requires
kept-requires c = let s = standing_kept c.self.inside.reading c.self.invariant in omega (arith, s.0, s.1)

pub returns-clause-fed : goal.returns-clause-fed
returns-clause-fed c = let s = standing_kept c.self.inside.reading c.self.invariant in omega (arith, s.0, c.kept.ensures, ap (λ (r : Reading). r.count) c.self.view_is)
