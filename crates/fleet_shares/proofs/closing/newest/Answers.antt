use Rattle.std.proofs.Common.{sym, ◌∙◌}
use Rattle.fleet_shares.proofs.Settling.{newest_of}
use Rattle.fleet_shares.proofs.closing.newest.Goals as goal

pub returns-clause-some : goal.returns-clause-some
returns-clause-some g c = newest_of c.args.book.now c.repo.result.now c.head.result c.repo.ensures.value c.head.ensures.head c.head.ensures.begun (c.repo.ensures.newest (sym c.is_stuck.ensures ∙ c.if-is_stuck.false))
