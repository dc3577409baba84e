use Rattle.dump_text.proofs.StreamRuns.{failed_at}
use Rattle.dump_text.proofs.state.ReadState.advance.Goals as goal

pub returns-in-Failed-clause-on : goal.returns-in-Failed-clause-on
returns-in-Failed-clause-on c = failed_at c.args.out.now.items c.args.self.now c.args.piece.now c.in-Failed.is c.requires
