use Rattle.std.proofs.Common.{arith}
use Rattle.std.proofs.Math.Logic.{∥∥₁_map}
use Rattle.store_share.specs.Row.{known_at}
use Rattle.store_share.proofs.Chained.{chain_learned}
use Rattle.store_share.proofs.Seen.{learned_numbers}
use Rattle.store_share.proofs.book.MasterBook.latest.Goals as goal

pub invariant_of-reader-clause-known : goal.invariant_of-reader-clause-known
invariant_of-reader-clause-known g c =
    learned_numbers (known_at c.args.reader.now.notes) (known_at c.learn.new.self) (known_at c.args.self.now.notes) c.args.self.now.head c.args.reader.now.seen c.args.self.now.head
    c.learn.ensures.learned c.learn.ensures.rest c.shows_revisions.ensures.numbers c.args.reader.now.known (λ r le past. omega (arith, le, past))

pub invariant_of-reader-clause-chain : goal.invariant_of-reader-clause-chain
invariant_of-reader-clause-chain g c =
    ∥∥₁_map c.args.reader.now.chain
    (λ mine.
    chain_learned (known_at c.args.reader.now.notes) (known_at c.learn.new.self) (known_at c.args.self.now.notes) c.args.self.now.head c.args.reader.now.seen c.args.self.now.head
    c.learn.ensures.learned c.learn.ensures.rest c.learn.ensures.agreed c.shows_revisions.ensures.chain mine (λ r le past. omega (arith, le, past)))

pub invariant_of-reader-else-lt-clause-known : goal.invariant_of-reader-else-lt-clause-known
invariant_of-reader-else-lt-clause-known g c =
    learned_numbers (known_at c.args.reader.now.notes) (known_at c.learn.new.self) (known_at c.args.self.now.notes) c.args.self.now.head c.args.reader.now.seen c.args.reader.now.seen
    c.learn.ensures.learned c.learn.ensures.rest c.shows_revisions.ensures.numbers c.args.reader.now.known (λ r le past. le)

pub invariant_of-reader-else-lt-clause-chain : goal.invariant_of-reader-else-lt-clause-chain
invariant_of-reader-else-lt-clause-chain g c =
    ∥∥₁_map c.args.reader.now.chain
    (λ mine.
    chain_learned (known_at c.args.reader.now.notes) (known_at c.learn.new.self) (known_at c.args.self.now.notes) c.args.self.now.head c.args.reader.now.seen c.args.reader.now.seen
    c.learn.ensures.learned c.learn.ensures.rest c.learn.ensures.agreed c.shows_revisions.ensures.chain mine (λ r le past. le))
