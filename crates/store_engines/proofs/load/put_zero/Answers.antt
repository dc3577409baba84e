use Rattle.std.proofs.Common.{refl}
use Rattle.repo_core.specs.declared.entry.Entry.TheVariants.{Mapped}
use Rattle.store_engines.proofs.Serving.{commits_err, commits_ok}
use Rattle.store_engines.proofs.load.put_zero.Goals as goal

pub returns-in-Ok : goal.returns-in-Ok
returns-in-Ok g c = commits_ok c.args.store.now c.put_props.new.self (Mapped 0 c.args.props) _ refl (λ d f h l. g.met.D.Disk.only_now d f h l) c.in-Ok.ensures.change c.in-Ok.ensures.version

pub returns-in-Err : goal.returns-in-Err
returns-in-Err g c = commits_err c.args.store.now c.put_props.new.self (Mapped 0 c.args.props) _ c.in-Err.fault c.store_refusal.result refl c.store_refusal.ensures.value c.store_refusal.ensures.no_peer c.in-Err.ensures.change c.in-Err.ensures.version
