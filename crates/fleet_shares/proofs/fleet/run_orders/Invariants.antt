use Rattle.store_share.specs.Opened.{cells_of}
use Rattle.fleet_shares.specs.Opening.{cells_at, ledgers_at}
use Rattle.fleet_shares.proofs.fleet.run_orders.Given as goal

abbrev pub ghosts-run_opened-M-RowName : goal.ghosts-run_opened-M-RowName
ghosts-run_opened-M-RowName g a = record { cells = cells_of a.opened.master }

abbrev pub ghosts-run_opened-L0-MirrorName : goal.ghosts-run_opened-L0-MirrorName
ghosts-run_opened-L0-MirrorName g a = ledgers_at a.opened.first

abbrev pub ghosts-run_opened-L0-RowName : goal.ghosts-run_opened-L0-RowName
ghosts-run_opened-L0-RowName g a = record { cells = cells_at a.opened.first }

abbrev pub ghosts-run_opened-L1-MirrorName : goal.ghosts-run_opened-L1-MirrorName
ghosts-run_opened-L1-MirrorName g a = ledgers_at a.opened.second

abbrev pub ghosts-run_opened-L1-RowName : goal.ghosts-run_opened-L1-RowName
ghosts-run_opened-L1-RowName g a = record { cells = cells_at a.opened.second }

abbrev pub ghosts-run_opened-L2-MirrorName : goal.ghosts-run_opened-L2-MirrorName
ghosts-run_opened-L2-MirrorName g a = ledgers_at a.opened.third

abbrev pub ghosts-run_opened-L2-RowName : goal.ghosts-run_opened-L2-RowName
ghosts-run_opened-L2-RowName g a = record { cells = cells_at a.opened.third }

abbrev pub ghosts-run_opened-L3-MirrorName : goal.ghosts-run_opened-L3-MirrorName
ghosts-run_opened-L3-MirrorName g a = ledgers_at a.opened.fourth

abbrev pub ghosts-run_opened-L3-RowName : goal.ghosts-run_opened-L3-RowName
ghosts-run_opened-L3-RowName g a = record { cells = cells_at a.opened.fourth }
