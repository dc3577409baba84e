use Rattle.ra_item.specs.ItemStreams.{ahead}
use Rattle.ra_item.proofs.Streaming.{taken_ok, taken_unless, few_ok, few_unless, refused_of_byte}
use Rattle.ra_item.proofs.stream.ItemStream.take.Goals as goal

pub returns-in-Ok-clause-ahead : goal.returns-in-Ok-clause-ahead
returns-in-Ok-clause-ahead g c =
    let old = c.args.self.now in
    λ more. taken_ok old.rest old.items c.feed.new.self old.ready.items c.feed.new.out.items c.turn.new.items.items c.args.piece.now more c.requires.open c.requires.none c.turn.ensures (c.in-Ok.ensures.reads (old.standing c.requires.open))

pub returns-in-Err-clause-ahead : goal.returns-in-Err-clause-ahead
returns-in-Err-clause-ahead g c =
    let old = c.args.self.now in
    taken_unless c.refuse.result old.rest old.items c.feed.new.self old.ready.items c.feed.new.out.items c.in-Err.fault (ahead c.refuse.new.self) c.args.piece.now c.requires.open c.requires.none c.refuse.ensures.refused (c.in-Err.ensures.reads (old.standing c.requires.open))

pub refuse-requires : goal.refuse-requires
refuse-requires g c =
    let old = c.args.self.now in
    record { of_byte = refused_of_byte old.rest old.items c.feed.new.self old.ready.items c.feed.new.out.items c.in-Err.fault c.args.piece.now (old.standing c.requires.open) (c.in-Err.ensures.reads (old.standing c.requires.open)) }

pub returns-in-Ok-clause-few : goal.returns-in-Ok-clause-few
returns-in-Ok-clause-few g c =
    let old = c.args.self.now in
    few_ok old.ready.items c.feed.new.out.items c.turn.new.items.items old.items c.feed.new.self c.args.piece.now c.requires.none c.turn.ensures (c.in-Ok.ensures.reads (old.standing c.requires.open))

pub returns-in-Err-clause-few : goal.returns-in-Err-clause-few
returns-in-Err-clause-few g c =
    let old = c.args.self.now in
    few_unless c.refuse.result old.ready.items c.feed.new.out.items c.refuse.new.self.ready.items old.items c.feed.new.self c.in-Err.fault (ahead c.refuse.new.self) c.args.piece.now c.requires.none c.refuse.ensures.turned c.refuse.ensures.refused (c.in-Err.ensures.reads (old.standing c.requires.open))
