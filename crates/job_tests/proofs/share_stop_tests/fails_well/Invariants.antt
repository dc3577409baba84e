use Rattle.mirror_share.specs.Names.{ledgers_named, row_named}
use Rattle.job_tests.proofs.share_stop_tests.fails_well.Given as goal

abbrev pub ghosts-judged-L-MirrorName : goal.ghosts-judged-L-MirrorName
ghosts-judged-L-MirrorName g a = ledgers_named a.opened

abbrev pub ghosts-judged-L-RowName : goal.ghosts-judged-L-RowName
ghosts-judged-L-RowName g a = row_named a.opened
