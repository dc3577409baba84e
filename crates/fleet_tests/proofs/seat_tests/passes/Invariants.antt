use Rattle.store_share.specs.Opened.{cells_of}
use Rattle.fleet_tests.proofs.seat_tests.passes.Given as goal

abbrev pub ghosts-judged_of : goal.ghosts-judged_of
ghosts-judged_of g a = record { cells = cells_of a.opened }
