use Rattle.std.proofs.Common.{[]}
use Rattle.session_road.specs.Ranges.{IsRange}
use Rattle.session_road.proofs.Taken.{answer_heard, answer_unheard}
use Rattle.session_road.proofs.range.take_range.Goals as goal

pub returns-in-Ok : goal.returns-in-Ok
returns-in-Ok g c = record { heard = λ mirror. answer_heard {g = g.I.Input} c.written_is_taken.ensures c.written_comes.ensures (λ all. IsRange c.args.repo.now c.args.first c.args.last all.items) mirror c.args.repo.now c.args.first c.args.last c.args.items.now c.take_authorised.new.items c.take_told.new.items c.take_told.result c.requires.begun c.requires.there c.in-Ok.ensures.taken c.take_told.ensures.heard }

pub returns-in-Err : goal.returns-in-Err
returns-in-Err g c = record { heard = λ mirror. answer_unheard {g = g.I.Input} c.written_is_taken.ensures c.written_comes.ensures (λ (u : Unit {0}). []) mirror c.args.repo.now c.args.first c.args.last c.args.items.now c.take_authorised.new.items c.in-Err.fault c.requires.begun c.requires.there c.in-Err.ensures.taken }
