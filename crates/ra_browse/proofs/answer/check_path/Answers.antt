use Rattle.std.proofs.Common.{◌∙◌}
use Rattle.ra_denial.specs.Places.{place_as}
use Rattle.ra_browse.proofs.answer.check_path.Goals as goal

pub returns-in-Ok-clause-told : goal.returns-in-Ok-clause-told
returns-in-Ok-clause-told g c = c.tell_kind.ensures.told (place_as c.args.place.now) c.args.path.now (c.as_slice.ensures.value ∙ c.in-Ok.ensures)
