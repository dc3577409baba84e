use Rattle.std.proofs.Common.{map}
use Rattle.sync_core.specs.Copies.{call_in}
use Rattle.mirror_share.proofs.Coming.{all_acceptable}
use Rattle.mirror_share.proofs.calls.CallBook.is_whole.Goals as goal

pub returns : goal.returns
returns g c = record {
  replay = c.args.self.now.replay;
  came = all_acceptable c.args.self.now.opening.value (map call_in c.args.self.now.calls.items) c.args.self.now.came;
  kept = c.repo.ensures.kept;
  shown = c.repo.ensures.shown;
  newest = c.repo.ensures.newest;
}
