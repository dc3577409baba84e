use Rattle.repo_store.specs.Words.{repository_of}
use Rattle.store_share.specs.Book.{store_of}
use Rattle.fleet_shares.proofs.Settling.{settled_by}
use Rattle.fleet_shares.proofs.closing.settled.Goals as goal

pub returns-clause-settled : goal.returns-clause-settled
returns-clause-settled g c =
    settled_by c.is_brought-is_brought.result c.args.opened c.in-Some-opened.opened c.args.had c.into_store-2.result (store_of c.is_brought-is_brought.new.book) (store_of c.into_book-book.result) (repository_of (store_of c.args.master.now)) c.in-Some-opened.is c.into_store-2.ensures
    c.is_brought-is_brought.ensures.book c.is_brought-is_brought.ensures.brought
