use Rattle.std.proofs.Common.{inl, sym, ◌∙◌}
use Rattle.ra_item.proofs.Read.{stays_sound, standing_sound, sound_goes_on}
use Rattle.ra_item.proofs.reader.ItemReader.feed.Goals as goal

pub invariant_of-self-in-Ok : goal.invariant_of-self-in-Ok
invariant_of-self-in-Ok c =
    let s = standing_sound c.self.inside.reading c.self.invariant (sym c.is_failed.ensures ∙ c.if-is_failed.false) in
    inl (stays_sound c.args.out.now.items c.take_piece.new.out.items c.self.inside.reading c.take_piece.new.self c.args.piece.now s c.in-Ok.ensures.on)

pub returns-in-Ok-clause-goes_on : goal.returns-in-Ok-clause-goes_on
returns-in-Ok-clause-goes_on c =
    let s = standing_sound c.self.inside.reading c.self.invariant (sym c.is_failed.ensures ∙ c.if-is_failed.false) in
    sound_goes_on c.take_piece.new.self (stays_sound c.args.out.now.items c.take_piece.new.out.items c.self.inside.reading c.take_piece.new.self c.args.piece.now s c.in-Ok.ensures.on)
