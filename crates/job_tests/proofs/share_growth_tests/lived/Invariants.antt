use Rattle.mirror_share.specs.Names.{ledgers_named, row_named}
use Rattle.job_tests.proofs.share_growth_tests.lived.Given as goal

abbrev pub ghosts-life-L-MirrorName : goal.ghosts-life-L-MirrorName
ghosts-life-L-MirrorName g a = ledgers_named a.opened

abbrev pub ghosts-life-L-RowName : goal.ghosts-life-L-RowName
ghosts-life-L-RowName g a = row_named a.opened
