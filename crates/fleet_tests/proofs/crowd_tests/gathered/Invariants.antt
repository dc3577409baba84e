use Rattle.store_share.specs.Opened.{cells_of}
use Rattle.mirror_share.specs.Names.{ledgers_named, row_named}
use Rattle.fleet_tests.proofs.crowd_tests.gathered.Given as goal

abbrev pub ghosts-together-M-RowName : goal.ghosts-together-M-RowName
ghosts-together-M-RowName g a = record { cells = cells_of a.master }

abbrev pub ghosts-together-A-MirrorName : goal.ghosts-together-A-MirrorName
ghosts-together-A-MirrorName g a = ledgers_named a.one

abbrev pub ghosts-together-A-RowName : goal.ghosts-together-A-RowName
ghosts-together-A-RowName g a = row_named a.one

abbrev pub ghosts-together-B-MirrorName : goal.ghosts-together-B-MirrorName
ghosts-together-B-MirrorName g a = ledgers_named a.other

abbrev pub ghosts-together-B-RowName : goal.ghosts-together-B-RowName
ghosts-together-B-RowName g a = row_named a.other
