use Rattle.std.specs.Option.{option_copied}
use Rattle.repo_core.specs.Repository.{props_at}
use Rattle.repo_core.specs.Refusals.{change_fault, with_value}
use Rattle.repo_core.specs.declared.entry.Entry.TheVariants.{Mapped}
use Rattle.repo_store.specs.Words.{revisions_of}
use Rattle.repo_store.proofs.Changing.{judged_of}
use Rattle.repo_store.proofs.store.RepoStore.stage_change_prop.Goals as goal

pub returns-clause-stages : goal.returns-clause-stages
returns-clause-stages g c =
    let x = revisions_of c.args.self.now in
    let value = option_copied c.args.value in
    let entry = Mapped c.args.number (with_value (props_at x c.args.number) c.args.name.now value) in
    let fault = change_fault x c.args.number c.args.name.now value c.args.expected.now in
    let e = c.stage_change_prop-judged.ensures in
    c.ready.ensures.stages entry fault (judged_of entry fault c.stage_change_prop-judged.result e.entry e.taken e.refused)
