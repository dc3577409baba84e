use Rattle.store_share.proofs.book.MasterBook.is_whole.Goals as goal

pub returns : goal.returns
returns g c = record { kept = c.repo.ensures.kept; shown = c.repo.ensures.shown; newest = c.repo.ensures.newest }
