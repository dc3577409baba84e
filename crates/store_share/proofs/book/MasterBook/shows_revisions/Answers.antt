use Rattle.std.proofs.Common.{◌≡◌, length, subst}
use Rattle.repo_core.specs.Repository.{Repository, IsRepository}
use Rattle.store_share.specs.Row.{known_at}
use Rattle.store_share.proofs.Chained.{chain_of}
use Rattle.store_share.proofs.book.MasterBook.shows_revisions.Goals as goal

pub returns-clause-chain : goal.returns-clause-chain
returns-clause-chain g c =
    chain_of c.sets_make_trees.ensures c.args.self.now.store.repo (known_at c.args.self.now.notes) c.args.self.now.head (subst IsRepository c.repo-repo.ensures.value c.is_repository.ensures)
    (subst (λ (r : Repository). length r.sets ≡ length r.revisions) c.repo-repo.ensures.value c.head-head.ensures.sets) c.args.self.now.within c.args.self.now.shown
