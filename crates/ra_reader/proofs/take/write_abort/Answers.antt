use Rattle.ra_reader.proofs.Exits.{only_named}
use Rattle.ra_reader.proofs.take.write_abort.Goals as goal

pub returns : goal.returns
returns g c = only_named c.write_end.result (g.W.Write.contents c.args.out.now) (g.W.Write.contents c.write_name.new.out) (g.W.Write.contents c.write_end.new.out) c.in_ok-write_name.ensures c.write_end.ensures
