use Rattle.std.proofs.Common.{sym, ap, ◌∙◌, not}
use Rattle.dump_load.specs.Changes.{is_delete}
use Rattle.editor_ends.proofs.Opened.{taken_place, taken_gap}
use Rattle.editor_ends.proofs.building.place_open.Goals as goal

pub returns-then-is_delete-clause-none : goal.returns-then-is_delete-clause-none
returns-then-is_delete-clause-none c = λ _ n.
    taken_place c.args.changes.now c.in-Ok.at c.args.path.now c.index-changes-at.result c.in-Ok.ensures.found c.index-changes-at.is (c.in-Ok.ensures.placed n) n
    ∙ ap not (ap (λ x. is_delete x.action) c.index-changes-at.is ∙ sym c.is_delete.ensures ∙ c.if-is_delete.true)

pub returns-in-Err-clause-none : goal.returns-in-Err-clause-none
returns-in-Err-clause-none c = λ _ n. taken_gap c.args.changes.now c.in-Err.field-0 c.args.path.now (c.in-Err.ensures.placed n)
