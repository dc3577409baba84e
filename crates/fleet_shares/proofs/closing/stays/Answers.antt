use Rattle.std.proofs.Common.{arith, inr, rules}
use Rattle.repo_store.specs.Words.{repository_of}
use Rattle.store_share.specs.Book.{store_of}
use Rattle.store_share.specs.Book as book
use Rattle.fleet_shares.proofs.Settling.{stays_on, stuck_now}
use Rattle.fleet_shares.proofs.closing.stays.Goals as goal

pub returns-in_default-clause-stayed : goal.returns-in_default-clause-stayed
returns-in_default-clause-stayed g c = stuck_now c.args.book.now _ (c.newest.ensures.none (search rules))

pub returns-then-last-first-clause-stayed : goal.returns-then-last-first-clause-stayed
returns-then-last-first-clause-stayed g c = inr (omega (arith, c.seen.ensures, c.index-first.ensures.number, c.index-last.ensures.number, c.if-last-first.true, c.in-Some.ensures.some.0))

pub returns-clause-stayed : goal.returns-clause-stayed
returns-clause-stayed g c =
    stays_on c.args.opened c.latest-newest.new.reader (repository_of (store_of c.args.book.now)) c.in-Some.head (book.head_of c.args.book.now) c.in-Some.ensures.some.0 c.in-Some.ensures.some.1
    (omega (arith, c.seen.ensures, c.index-first.ensures.number, c.index-last.ensures.number, c.if-last-first.false)) c.latest-newest.ensures.known c.latest-newest.ensures.kept
