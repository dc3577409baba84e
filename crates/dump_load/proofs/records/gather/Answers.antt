use Rattle.std.proofs.lemmas.Result.{err_from_is_err_and}
use Rattle.std.proofs.Common.{map, sym, ap, subst, ◌∙◌}
use Rattle.node_base.specs.Path.{Path}
use Rattle.dump_load.specs.Deltas.{AreSorted, deltas_of, delta_at}
use Rattle.dump_load.specs.Records.{change_of, IsNormalSetOf, not_stated}
use Rattle.dump_load.proofs.Fillings.{set_of}
use Rattle.dump_load.proofs.Few.{few_filled}
use Rattle.dump_load.proofs.Gathered.{gathered_set, gathered_many, gathered_fits, gathered_order, gathered_normal, gathered_refused}
use Rattle.dump_load.proofs.records.gather.Goals as goal

pub new-requires : goal.new-requires
new-requires c = (
  (set_of c.args.trees.now c.as_slice-2.result.now c.in_ok-stated.stated.items c.in_ok-combined.combined.items c.in_ok-filled.filled.changes.items c.in_ok-combined.ensures.combined c.in_ok-filled.ensures.kinds c.in_ok-filled.ensures.filled).normal,
  few_filled c.args.trees.now c.as_slice-2.result.now c.in_ok-stated.stated.items c.in_ok-combined.combined.items c.in_ok-filled.filled.changes.items c.deref.result.now c.count_paths.result c.in_ok-combined.ensures.combined c.in_ok-filled.ensures.filled
      c.deref.ensures.value c.count_paths.ensures c.if-count_paths-gt-CHANGES.false,
)

pub returns-clause-set : goal.returns-clause-set
returns-clause-set c =
    let alike = λ (p : Path). ap (λ ds. delta_at ds p) c.as_slice-2.ensures.value ∙ c.in_ok-deltas.ensures.alike p ∙ ap (λ rs. delta_at (deltas_of rs) p) c.as_slice.ensures.value in
    subst (IsNormalSetOf c.args.trees.now c.args.records.items) (sym c.new.ensures.set)
    (gathered_normal c.args.records.items c.args.trees.now c.as_slice-2.result.now alike c.in_ok-filled.filled.changes.items
    (gathered_set (map change_of c.args.records.items) c.in_ok-changes_of.field-0.items c.in_ok-stated.stated.items c.in_ok-changes_of.ensures c.in_ok-stated.ensures.moved c.in_ok-stated.ensures.stated
    c.args.trees.now c.as_slice-2.result.now c.in_ok-combined.combined.items c.in_ok-filled.filled.changes.items c.in_ok-combined.ensures.combined c.in_ok-filled.ensures.kinds c.in_ok-filled.ensures.filled)
    c.in_ok-filled.ensures.deltas)

pub returns-clause-fits : goal.returns-clause-fits
returns-clause-fits c =
    gathered_fits (map change_of c.args.records.items) c.in_ok-changes_of.field-0.items c.in_ok-stated.stated.items c.in_ok-changes_of.ensures c.in_ok-stated.ensures.moved c.in_ok-stated.ensures.stated
    c.deref.result.now c.count_paths.result c.deref.ensures.value c.count_paths.ensures c.if-count_paths-gt-CHANGES.false
    c.in_ok-combined.combined.items c.in_ok-combined.ensures.combined c.in_ok-filled.ensures.kinds

pub returns-then-count_paths-gt-CHANGES-clause-refused : goal.returns-then-count_paths-gt-CHANGES-clause-refused
returns-then-count_paths-gt-CHANGES-clause-refused c =
    not_stated (gathered_many (map change_of c.args.records.items) c.in_ok-changes_of.field-0.items c.in_ok-stated.stated.items c.in_ok-changes_of.ensures c.in_ok-stated.ensures.moved c.in_ok-stated.ensures.stated
    c.deref.result.now c.count_paths.result c.deref.ensures.value c.count_paths.ensures c.if-count_paths-gt-CHANGES.true)

pub returns-in_err-combined-clause-refused : goal.returns-in_err-combined-clause-refused
returns-in_err-combined-clause-refused c =
    let p = err_from_is_err_and c.from_residual-in_err-combined.result c.from_residual-in_err-combined.ensures.1 in rw (p.1, p.2)
    (not_stated (gathered_order (map change_of c.args.records.items) c.in_ok-changes_of.field-0.items c.in_ok-stated.stated.items c.in_ok-changes_of.ensures c.in_ok-stated.ensures.moved c.in_ok-stated.ensures.stated
    c.deref.result.now c.count_paths.result c.deref.ensures.value c.count_paths.ensures c.if-count_paths-gt-CHANGES.false c.in_err-combined.field-0.0 c.in_err-combined.ensures.refused))

pub returns-in_err-filled-clause-refused : goal.returns-in_err-filled-clause-refused
returns-in_err-filled-clause-refused c =
    let alike = λ (p : Path). ap (λ ds. delta_at ds p) c.as_slice-2.ensures.value ∙ c.in_ok-deltas.ensures.alike p ∙ ap (λ rs. delta_at (deltas_of rs) p) c.as_slice.ensures.value in
    let p = err_from_is_err_and c.from_residual-in_err-filled.result c.from_residual-in_err-filled.ensures.1 in rw (p.1, p.2)
    (gathered_refused c.args.records.items c.args.trees.now c.as_slice-2.result.now alike c.in_ok-changes_of.field-0.items c.in_ok-stated.stated.items c.in_ok-changes_of.ensures c.in_ok-stated.ensures.moved c.in_ok-stated.ensures.stated
    c.deref.result.now c.count_paths.result c.deref.ensures.value c.count_paths.ensures c.if-count_paths-gt-CHANGES.false c.in_err-filled.field-0.0 c.in_ok-combined.combined.items c.in_ok-combined.ensures.combined c.in_err-filled.ensures.refused)

pub fill-requires-clause-sorted : goal.fill-requires-clause-sorted
fill-requires-clause-sorted c = subst AreSorted (sym c.as_slice-2.ensures.value) c.in_ok-deltas.ensures.sorted
