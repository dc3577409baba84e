use Rattle.std.proofs.Common.{rules}
use Rattle.repo_store.proofs.Beginnings.{beginning_size}
use Rattle.repo_store.proofs.store.prepare.Goals as goal

pub returns-clause-size : goal.returns-clause-size
returns-clause-size c = beginning_size c.in_ok-bytes.bytes.items c.args.identity (search rules)
