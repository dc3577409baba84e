use Rattle.store_share.specs.Opened.{cells_of}
use Rattle.fleet_shares.proofs.opening.store_in.Given as goal

abbrev pub ghosts-unnamed : goal.ghosts-unnamed
ghosts-unnamed g a = record { cells = cells_of a.opened }
