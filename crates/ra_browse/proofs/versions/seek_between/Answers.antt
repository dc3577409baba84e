use Rattle.std.proofs.Common.{◌++◌, ◌∙◌}
use Rattle.ra_browse.proofs.FileVersions.{between_comes}
use Rattle.ra_browse.proofs.versions.seek_between.Goals as goal

pub returns-in-Ok-clause-found : goal.returns-in-Ok-clause-found
returns-in-Ok-clause-found g c = λ x e.
    let f = c.in-Ok.ensures.found x e in
    between_comes x (c.args.base.now ++ c.args.path.now) c.args.first c.args.last _ _ _ c.in-Ok.from c.with_rows.result c.file_at.ensures.stays.goes.later f.0 f.1 (c.with_rows.ensures.found x (c.file_at.ensures.stays.repository ∙ e))
