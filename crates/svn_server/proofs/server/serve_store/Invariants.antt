use Rattle.store_share.specs.Opened.{cells_of}
use Rattle.svn_server.proofs.server.serve_store.Given as goal

abbrev pub ghosts-serve_opened : goal.ghosts-serve_opened
ghosts-serve_opened g a = record { cells = cells_of a.opened }
