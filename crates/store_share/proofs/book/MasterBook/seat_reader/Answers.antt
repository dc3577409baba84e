use Rattle.std.proofs.Common.{◌∙◌, ap}
use Rattle.std.specs.Option.{option_map}
use Rattle.store_share.specs.declared.rev.Rev.{Rev}
use Rattle.store_share.specs.Row.{known_at}
use Rattle.store_share.proofs.Chained.{chain_same}
use Rattle.store_share.proofs.book.MasterBook.seat_reader.Goals as goal

pub invariant_of-result-clause-known : goal.invariant_of-result-clause-known
invariant_of-result-clause-known g c r le = ap (option_map (λ (v : Rev). v.number)) (c.learn.ensures.learned r le) ∙ c.shows_revisions.ensures.numbers r le

pub invariant_of-result-clause-chain : goal.invariant_of-result-clause-chain
invariant_of-result-clause-chain g c = ∣ chain_same (known_at c.learn.new.self) (known_at c.args.self.now.notes) c.args.self.now.head c.learn.ensures.learned c.shows_revisions.ensures.chain ∣₁
