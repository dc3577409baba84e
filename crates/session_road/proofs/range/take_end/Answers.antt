use Rattle.std.proofs.Common.{◌≡◌, Ok, Err, refl}
use Rattle.ra_item.specs.Items.{spell}
use Rattle.ra_wire.specs.Replies.{done}
use Rattle.session_road.proofs.Taken.{hears_done, made_of}
use Rattle.session_road.proofs.range.take_end.Goals as goal

pub returns-in-Ok : goal.returns-in-Ok
returns-in-Ok g c = record { heard = made_of {g = g.I.Input} (spell done) (λ (u : Unit {0}). u ≡ tt) (λ all. all ≡ c.args.found) c.args.items.now c.take_done.new.items tt c.args.found (λ _. refl) (hears_done {g = g.I.Input} c.written_is_taken.ensures c.written_comes.ensures c.args.items.now c.take_done.new.items (Ok tt) c.in-Ok.ensures.taken) }

pub returns-in-Err : goal.returns-in-Err
returns-in-Err g c = record { heard = hears_done {g = g.I.Input} c.written_is_taken.ensures c.written_comes.ensures c.args.items.now c.take_done.new.items (Err c.in-Err.fault) c.in-Err.ensures.taken }
