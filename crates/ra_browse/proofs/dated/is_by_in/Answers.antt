use Rattle.std.proofs.Common.{◌∙◌, ap}
use Rattle.ra_denial.proofs.Causes.{is_there}
use Rattle.ra_browse.specs.Dates.{is_by}
use Rattle.ra_browse.proofs.dated.is_by_in.Goals as goal

pub returns-in-Ok-clause-found : goal.returns-in-Ok-clause-found
returns-in-Ok-clause-found g c = λ x e.
    let f = c.in-Ok.ensures.props x e in
    (is_there x c.args.number f.0, c.is_by.ensures ∙ ap (is_by c.args.date.now) f.1)
