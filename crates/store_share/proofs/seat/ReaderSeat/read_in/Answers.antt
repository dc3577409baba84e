use Rattle.std.proofs.Math.Logic.{∥∥₁_map}
use Rattle.store_share.specs.Row.{known_at}
use Rattle.store_share.proofs.Chained.{chain_kept}
use Rattle.store_share.proofs.Seen.{has_known, kept_numbers}
use Rattle.store_share.proofs.seat.ReaderSeat.read_in.Goals as goal

pub returns-clause-there : goal.returns-clause-there
returns-clause-there g c le =
    let x = has_known (known_at c.args.self.now.notes c.args.number) c.args.number (c.args.self.now.known c.args.number le) in
    (c.see.ensures.known x.0 x.1 x.2).1

pub invariant_of-self-clause-known : goal.invariant_of-self-clause-known
invariant_of-self-clause-known g c = kept_numbers (known_at c.args.self.now.notes) (known_at c.see.new.notes) c.args.self.now.seen c.args.self.now.known c.see.ensures.kept

pub invariant_of-self-clause-chain : goal.invariant_of-self-clause-chain
invariant_of-self-clause-chain g c = ∥∥₁_map c.args.self.now.chain (λ mine. chain_kept (known_at c.args.self.now.notes) (known_at c.see.new.notes) c.args.self.now.seen c.see.ensures.kept mine)
