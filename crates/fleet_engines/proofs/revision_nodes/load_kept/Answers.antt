use Rattle.fleet_engines.specs.Revisions.{not_made, not_whole}
use Rattle.fleet_engines.proofs.revision_nodes.load_kept.Goals as goal

pub returns-in-Err-clause-refused : goal.returns-in-Err-clause-refused
returns-in-Err-clause-refused c = λ props. not_whole c.in-Err.fault c.requires.next c.requires.few c.in-Err.ensures.refused c.text_refusal.ensures.value

pub returns-in-Err-load_revision-clause-refused : goal.returns-in-Err-load_revision-clause-refused
returns-in-Err-load_revision-clause-refused c =
    λ props. not_made c.in-Ok.records.items c.in-Err-load_revision.fault c.requires.few c.in-Ok.ensures.whole c.in-Err-load_revision.ensures.refused c.change_refusal.ensures.value
