use Rattle.store_share.specs.Opened.{cells_of}
use Rattle.fleet_shares.specs.Opening.{cells_at, ledgers_at}
use Rattle.fleet_tests.proofs.fleet_crowd_tests.is_brought_up.Given as goal

abbrev pub ghosts-together-M-RowName : goal.ghosts-together-M-RowName
ghosts-together-M-RowName g a = record { cells = cells_of a.fleet.master }

abbrev pub ghosts-together-L0-MirrorName : goal.ghosts-together-L0-MirrorName
ghosts-together-L0-MirrorName g a = ledgers_at a.fleet.first

abbrev pub ghosts-together-L0-RowName : goal.ghosts-together-L0-RowName
ghosts-together-L0-RowName g a = record { cells = cells_at a.fleet.first }

abbrev pub ghosts-together-L1-MirrorName : goal.ghosts-together-L1-MirrorName
ghosts-together-L1-MirrorName g a = ledgers_at a.fleet.second

abbrev pub ghosts-together-L1-RowName : goal.ghosts-together-L1-RowName
ghosts-together-L1-RowName g a = record { cells = cells_at a.fleet.second }

abbrev pub ghosts-together-L2-MirrorName : goal.ghosts-together-L2-MirrorName
ghosts-together-L2-MirrorName g a = ledgers_at a.fleet.third

abbrev pub ghosts-together-L2-RowName : goal.ghosts-together-L2-RowName
ghosts-together-L2-RowName g a = record { cells = cells_at a.fleet.third }

abbrev pub ghosts-together-L3-MirrorName : goal.ghosts-together-L3-MirrorName
ghosts-together-L3-MirrorName g a = ledgers_at a.fleet.fourth

abbrev pub ghosts-together-L3-RowName : goal.ghosts-together-L3-RowName
ghosts-together-L3-RowName g a = record { cells = cells_at a.fleet.fourth }
