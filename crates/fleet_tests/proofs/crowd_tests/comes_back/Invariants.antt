use Rattle.mirror_share.specs.Names.{ledgers_named, row_named}
use Rattle.fleet_tests.proofs.crowd_tests.comes_back.Given as goal

abbrev pub ghosts-brought_up-L-MirrorName : goal.ghosts-brought_up-L-MirrorName
ghosts-brought_up-L-MirrorName g a = ledgers_named a.opened

abbrev pub ghosts-brought_up-L-RowName : goal.ghosts-brought_up-L-RowName
ghosts-brought_up-L-RowName g a = row_named a.opened
