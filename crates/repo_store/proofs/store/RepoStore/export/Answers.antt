use Rattle.std.proofs.Common.{rules, refl, inl}
use Rattle.repo_store.proofs.Exports.{exported, absent_set}
use Rattle.repo_store.proofs.store.RepoStore.export.Goals as goal

pub returns-in_default-set-clause-refused : goal.returns-in_default-set-clause-refused
returns-in_default-set-clause-refused g c = inl (refl, absent_set c.args.self.now.repo c.args.number c.is_repository.ensures (search rules))

pub returns-clause-canonical : goal.returns-clause-canonical
returns-clause-canonical g c =
    exported c.args.self.now.repo c.args.number c.in-Some-set.set.now c.in-Some.props.now c.in_ok-bytes.bytes.items (search rules) (search rules) (search rules)
