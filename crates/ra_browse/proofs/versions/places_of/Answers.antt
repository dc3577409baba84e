use Rattle.std.proofs.Common.{refl}
use Rattle.ra_browse.proofs.FileVersions.{are_versions}
use Rattle.ra_browse.proofs.versions.places_of.Goals as goal

pub returns-in-Ok-clause-told : goal.returns-in-Ok-clause-told
returns-in-Ok-clause-told c =
    are_versions c.args.sought.now _ _ c.deref.result.now c.in-Ok.history.items c.from_oldest.result.items c.deref.ensures.value c.in_ok-copy.ensures refl c.in-Ok.ensures.told c.from_oldest.ensures
