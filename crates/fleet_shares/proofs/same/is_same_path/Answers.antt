use Rattle.fleet_shares.proofs.Alike.{same_paths}
use Rattle.fleet_shares.proofs.same.is_same_path.Goals as goal

pub returns : goal.returns
returns c = same_paths c.args.this.now c.args.that.now c.eq.result c.eq.ensures
