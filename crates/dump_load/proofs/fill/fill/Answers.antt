use Rattle.std.proofs.Common.{◌≡◌, false, [], ◌∷◌, ◌++◌, sym, ap, subst, ◌∙◌}
use Rattle.std.proofs.lemmas.Result.{err_from_is_err_and}
use Rattle.std.specs.List.{list_any}
use Rattle.std.specs.Option.{option_or}
use Rattle.dump_load.specs.declared.fault.ChangeFault.TheVariants.{BadHeader}
use Rattle.dump_load.specs.Changes.{IsInOrder}
use Rattle.dump_load.specs.Faults.{fault_if, IsRefusal}
use Rattle.dump_load.specs.Deltas.{delta_fault}
use Rattle.dump_load.specs.Records.{is_unsaid, filled_after}
use Rattle.dump_load.proofs.Fillings.{not_of_one}
use Rattle.dump_load.proofs.fill.fill.Goals as goal

pub returns-then-leaves_unsaid-clause-refused : goal.returns-then-leaves_unsaid-clause-refused
returns-then-leaves_unsaid-clause-refused c =
    let t = c.args.trees.now in
    let ds = c.args.deltas.now in
    ap (λ b. option_or (fault_if b BadHeader) (delta_fault t ds (filled_after t ds [] c.args.changes.items)))
    (ap (list_any is_unsaid) (sym c.deref.ensures.value) ∙ sym c.leaves_unsaid.ensures ∙ c.if-leaves_unsaid.true)

pub fill_one-requires-clause-said : goal.fill_one-requires-clause-said
fill_one-requires-clause-said c =
    let whole : c.loop-change.yielded ++ (c.in-Some.change ∷ c.next.new.self.rest.items) ≡ c.args.changes.items = ap (λ l. c.loop-change.yielded ++ l) (sym c.in-Some.ensures.steps.0) ∙ c.loop-change.invariant.1 in
    let said : list_any is_unsaid c.args.changes.items ≡ false = ap (list_any is_unsaid) (sym c.deref.ensures.value) ∙ sym c.leaves_unsaid.ensures ∙ c.if-leaves_unsaid.false in
    not_of_one is_unsaid c.loop-change.yielded c.next.new.self.rest.items c.in-Some.change (ap (list_any is_unsaid) whole ∙ said)

pub returns-in_err-fill_one-clause-refused : goal.returns-in_err-fill_one-clause-refused
returns-in_err-fill_one-clause-refused c =
    let t = c.args.trees.now in
    let ds = c.args.deltas.now in
    let e = c.in_err-fill_one.field-0.0 in
    let whole : c.loop-change.yielded ++ (c.in-Some.change ∷ c.next.new.self.rest.items) ≡ c.args.changes.items = ap (λ l. c.loop-change.yielded ++ l) (sym c.in-Some.ensures.steps.0) ∙ c.loop-change.invariant.1 in
    let said : list_any is_unsaid c.args.changes.items ≡ false = ap (list_any is_unsaid) (sym c.deref.ensures.value) ∙ sym c.leaves_unsaid.ensures ∙ c.if-leaves_unsaid.false in
    let p = err_from_is_err_and c.from_residual-in_err-fill_one.result c.from_residual-in_err-fill_one.ensures.1 in
    rw (p.1, p.2)
    (subst (λ b. IsRefusal e (option_or (fault_if b BadHeader) (delta_fault t ds (filled_after t ds [] c.args.changes.items)))) (sym said)
    (subst (λ cs. IsRefusal e (delta_fault t ds (filled_after t ds [] cs))) whole
    (c.in_err-fill_one.ensures.refused c.loop-change.yielded c.next.new.self.rest.items c.loop-change.invariant.0 (subst IsInOrder (sym whole) c.requires.order))))
