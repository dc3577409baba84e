use Rattle.std.proofs.Common.{◌≡◌, ◌++◌, ◌∷◌, [], sym, ap, subst, ◌∙◌}
use Rattle.std.proofs.lemmas.Result.{err_from_is_err_and}
use Rattle.std.specs.FinMap.{get}
use Rattle.std.specs.Option.{option_or}
use Rattle.dump_load.specs.Changes.{IsWhole}
use Rattle.dump_load.specs.Deltas.{delta_at, with_delta, delta_fault_of}
use Rattle.dump_load.specs.Faults.{fault_of, IsRefusal}
use Rattle.dump_load.specs.Records.{with_blanks, with_kind, Filling}
use Rattle.dump_load.proofs.Fillings.{whole_filled, whole_delta, filled_more, delta_refused}
use Rattle.dump_load.proofs.fill.fill_one.Goals as goal

pub advance-requires-clause-whole : goal.advance-requires-clause-whole
advance-requires-clause-whole c =
    let t = c.args.trees.now in
    let f = get c.args.so_far.now.tree in
    let k = with_kind t f (with_blanks c.args.change) in
    let kind = c.with_kind-kinded.ensures ∙ ap (with_kind t f) c.in_ok-blanked.ensures in
    let said = c.in_ok-whole.ensures.changed ∙ ap (λ x. with_delta t f x c.with_kind-kinded.result) c.delta_at-delta.ensures ∙ ap (with_delta t f (delta_at c.args.deltas.now c.args.change.path)) kind in
    (subst IsWhole (sym said) (whole_delta t f (delta_at c.args.deltas.now c.args.change.path) k (whole_filled t f c.args.change c.requires.said))).0

pub returns-clause-filled : goal.returns-clause-filled
returns-clause-filled c = λ ys rest w order.
    let t = c.args.trees.now in
    let ds = c.args.deltas.now in
    let f = get c.args.so_far.now.tree in
    let k = c.with_kind-kinded.result in
    let kind = c.with_kind-kinded.ensures ∙ ap (with_kind t f) c.in_ok-blanked.ensures in
    let said = c.in_ok-whole.ensures.changed ∙ ap (λ x. with_delta t f x k) c.delta_at-delta.ensures in
    let fine = ap (λ x. delta_fault_of t c.args.so_far.now.fault f x k) (sym c.delta_at-delta.ensures) ∙ c.in_ok-whole.ensures.applied in
    let first : c.or-so_far.result ≡ option_or c.args.so_far.now.fault (fault_of t f c.in_ok-whole.whole) = c.or-so_far.ensures ∙ ap (option_or c.args.so_far.now.fault) c.in_ok-fault.ensures.fault in
    subst (λ o. Filling t ds (ys ++ c.args.change ∷ []) c.push.new.self.items c.advance.new.tree o) (sym first)
    (subst (λ out. Filling t ds (ys ++ c.args.change ∷ []) out c.advance.new.tree (option_or c.args.so_far.now.fault (fault_of t f c.in_ok-whole.whole))) (sym c.in_ok-push.ensures.items)
    (filled_more t ds ys rest c.args.so_far.now.changes.items c.args.so_far.now.tree c.args.so_far.now.fault c.args.change k w order kind c.in_ok-whole.whole said fine c.advance.new.tree c.in_ok-fault.ensures.left))

pub returns-in_err-whole-clause-refused : goal.returns-in_err-whole-clause-refused
returns-in_err-whole-clause-refused c =
    let t = c.args.trees.now in
    let ds = c.args.deltas.now in
    let f = get c.args.so_far.now.tree in
    let k = c.with_kind-kinded.result in
    let kind = c.with_kind-kinded.ensures ∙ ap (with_kind t f) c.in_ok-blanked.ensures in
    let p = err_from_is_err_and c.from_residual-in_err-whole.result c.from_residual-in_err-whole.ensures.1 in
    rw (p.1, p.2) (λ ys rest w order.
    delta_refused t ds ys rest c.args.so_far.now.changes.items c.args.so_far.now.tree c.args.so_far.now.fault c.args.change k w order kind c.in_err-whole.field-0.0
    (subst (λ x. IsRefusal c.in_err-whole.field-0.0 (delta_fault_of t c.args.so_far.now.fault f x k)) c.delta_at-delta.ensures c.in_err-whole.ensures.refused))
