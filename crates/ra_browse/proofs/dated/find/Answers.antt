use Rattle.std.proofs.Common.{◌≡◌, None, sym, subst, ◌∙◌}
use Rattle.repo_core.specs.Repository.{head_of}
use Rattle.ra_denial.specs.Denials.{no_revision}
use Rattle.ra_denial.specs.Stops.{MayStop}
use Rattle.ra_denial.proofs.Causes.{is_there}
use Rattle.ra_browse.proofs.DatedRevs.{bad_date, good_date, find_comes}
use Rattle.ra_browse.proofs.dated.find.Goals as goal

pub returns-then-not-is_date-clause-found : goal.returns-then-not-is_date-clause-found
returns-then-not-is_date-clause-found g c = λ x e. bad_date x c.args.date.now (sym c.is_date.ensures ∙ c.if-not-is_date.true)

pub returns-in-Ok-clause-found : goal.returns-in-Ok-clause-found
returns-in-Ok-clause-found g c = λ x e.
    find_comes x c.args.date.now _ _ _ _ c.newest_by.result c.tree_asked.ensures.stays.goes.later (sym c.is_date.ensures ∙ c.if-not-is_date.false) (is_there x (head_of x.revisions) (c.in-Ok.ensures.there x e)) (c.in-Ok.ensures.number x e)
    (c.newest_by.ensures.found x (c.tree_asked.ensures.stays.repository ∙ e) (subst (λ n. no_revision x n ≡ None) (sym (c.in-Ok.ensures.number x e)) (is_there x (head_of x.revisions) (c.in-Ok.ensures.there x e))))

pub returns-in-Err-clause-found : goal.returns-in-Err-clause-found
returns-in-Err-clause-found g c = λ x e.
    subst (λ d. MayStop (g.P.RepoPort.refusals c.args.port.now) (g.P.RepoPort.refusals c.tree_asked.new.port) d c.stopped.result) (sym (good_date x c.args.date.now (sym c.is_date.ensures ∙ c.if-not-is_date.false))) (c.stopped.ensures x _ _ (head_of x.revisions) (c.in-Err.ensures.refused x e))
