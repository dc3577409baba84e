use Rattle.store_share.specs.Opened.{cells_of}
use Rattle.mirror_share.specs.Names.{ledgers_named, row_named}
use Rattle.fleet_tests.proofs.fetch_tests.copy.Given as goal

abbrev pub ghosts-copied_of-M-RowName : goal.ghosts-copied_of-M-RowName
ghosts-copied_of-M-RowName g a = record { cells = cells_of a.source }

abbrev pub ghosts-copied_of-L-MirrorName : goal.ghosts-copied_of-L-MirrorName
ghosts-copied_of-L-MirrorName g a = ledgers_named a.target

abbrev pub ghosts-copied_of-L-RowName : goal.ghosts-copied_of-L-RowName
ghosts-copied_of-L-RowName g a = row_named a.target
