use Rattle.repo_store.proofs.Numbering.{commits_in_order, kept_by_entries}
use Rattle.repo_store.proofs.numbers.commits_in_order.Goals as goal

pub returns-clause-entries : goal.returns-clause-entries
returns-clause-entries c = kept_by_entries

pub returns-clause-order : goal.returns-clause-order
returns-clause-order c = commits_in_order
