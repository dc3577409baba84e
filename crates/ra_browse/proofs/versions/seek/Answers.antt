use Rattle.std.proofs.Common.{arith, ◌++◌, ◌∙◌}
use Rattle.ra_serve.specs.Answers.{asked, node_in}
use Rattle.ra_denial.specs.Denials.{no_revision}
use Rattle.ra_browse.specs.Histories.{newer}
use Rattle.ra_browse.specs.Answers.{version_denied}
use Rattle.ra_browse.proofs.Located.{first_stops}
use Rattle.ra_browse.proofs.FileVersions.{seek_comes}
use Rattle.ra_browse.proofs.versions.seek.Goals as goal

pub returns-in-Ok-clause-found : goal.returns-in-Ok-clause-found
returns-in-Ok-clause-found g c = λ x e.
    seek_comes x (c.args.base.now ++ c.args.path.now) c.args.start c.args.end _ _ _ _ _ c.seek_between.result c.ends.ensures.stays.goes.later (c.in-Ok.ensures.first x e) (c.in-Ok.ensures.last x e) (c.seek_between.ensures.found x (c.ends.ensures.stays.repository ∙ e))

pub returns-in-Err-clause-found : goal.returns-in-Err-clause-found
returns-in-Err-clause-found g c = λ x e.
    let now = g.P.RepoPort.refusals c.ends.new.port in
    let q = c.args.base.now ++ c.args.path.now in
    let first = asked x c.args.start in
    let last = asked x c.args.end in
    first_stops (g.P.RepoPort.refusals c.args.port.now) now now (no_revision x (newer first last)) (version_denied first last q (node_in x (newer first last) q)) c.stopped.result (omega arith) (c.stopped.ensures x _ _ (newer first last) (c.in-Err.ensures.refused x e))
