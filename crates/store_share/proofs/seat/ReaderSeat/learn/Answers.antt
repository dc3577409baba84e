use Rattle.std.proofs.Common.{◌∙◌, ap}
use Rattle.std.proofs.Math.Logic.{∥∥₁_map}
use Rattle.std.specs.Option.{option_map}
use Rattle.store_share.specs.declared.rev.Rev.{Rev}
use Rattle.store_share.specs.Row.{known_at}
use Rattle.store_share.proofs.Chained.{chain_same}
use Rattle.store_share.proofs.seat.ReaderSeat.learn.Goals as goal

pub invariant_of-self-clause-known : goal.invariant_of-self-clause-known
invariant_of-self-clause-known g c r le = ap (option_map (λ (v : Rev). v.number)) (c.learn.ensures.learned r le) ∙ c.args.other.now.known r le

pub invariant_of-self-clause-chain : goal.invariant_of-self-clause-chain
invariant_of-self-clause-chain g c = ∥∥₁_map c.args.other.now.chain (λ theirs. chain_same (known_at c.learn.new.self) (known_at c.args.other.now.notes) c.args.other.now.seen c.learn.ensures.learned theirs)

pub invariant_of-other-clause-known : goal.invariant_of-other-clause-known
invariant_of-other-clause-known g c r le = ap (option_map (λ (v : Rev). v.number)) (c.learn.ensures.others r) ∙ c.args.other.now.known r le

pub invariant_of-other-clause-chain : goal.invariant_of-other-clause-chain
invariant_of-other-clause-chain g c = ∥∥₁_map c.args.other.now.chain (λ theirs. chain_same (known_at c.learn.new.from) (known_at c.args.other.now.notes) c.args.other.now.seen (λ r le. c.learn.ensures.others r) theirs)
