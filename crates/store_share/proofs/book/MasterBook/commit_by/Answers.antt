use Rattle.std.proofs.Common.{◌∙◌, ap, arith}
use Rattle.std.specs.Option.{option_map}
use Rattle.store_share.specs.declared.rev.Rev.{Rev}
use Rattle.store_share.proofs.book.MasterBook.commit_by.Goals as goal

pub returns-in-Ok-clause-commits : goal.returns-in-Ok-clause-commits
returns-in-Ok-clause-commits g c = record { new = c.commit.new.self; commits = c.in-Ok.ensures.commits }

pub returns-in-Ok-clause-set : goal.returns-in-Ok-clause-set
returns-in-Ok-clause-set g c = ap (option_map (λ (x : Rev). x.set)) (c.latest.ensures.known c.in-Ok.number (omega (arith, c.in-Ok.ensures.commits.1))) ∙ c.in-Ok.ensures.shown

pub returns-in-Err-clause-commits : goal.returns-in-Err-clause-commits
returns-in-Err-clause-commits g c = record { new = c.commit.new.self; commits = c.in-Err.ensures.commits }
