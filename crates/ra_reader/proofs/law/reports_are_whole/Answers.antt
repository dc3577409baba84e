use Rattle.std.proofs.Common.{[], arith}
use Rattle.ra_reader.proofs.Laws.{whole}
use Rattle.ra_reader.proofs.law.reports_are_whole.Goals as goal

pub returns : goal.returns
returns c = λ x at c ts rs t h k e. whole x at c ts [] rs t h (omega (arith, k)) e
