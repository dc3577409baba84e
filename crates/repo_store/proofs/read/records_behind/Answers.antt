use Rattle.std.proofs.Common.{rules}
use Rattle.repo_store.proofs.read.records_behind.Goals as goal

pub returns-clause-read : goal.returns-clause-read
returns-clause-read c = (c.feed.new.reader, search rules)
