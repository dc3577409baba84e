use Rattle.std.proofs.Common.{◌≡◌, ◌∷◌, ◌++◌, map, subst}
use Rattle.dump_text.specs.declared.record.DumpRecord.TheVariants.{Revision, Node}
use Rattle.repo_store.specs.Readings.{so_far}
use Rattle.repo_store.proofs.Reading.{a_delta}
use Rattle.repo_store.proofs.read.join.Goals as goal

pub returns-in-DeltaNode-clause-bad : goal.returns-in-DeltaNode-clause-bad
returns-in-DeltaNode-clause-bad c is rest n ps nodes h =
    let d = c.in-DeltaNode in
    a_delta c.args.revision d.field-0 d.field-1 rest n ps nodes (subst (λ r. so_far c.args.revision ++ r ∷ rest ≡ Revision n ps ∷ map Node nodes) d.is h)
