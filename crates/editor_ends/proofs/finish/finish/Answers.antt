use Rattle.std.proofs.Common.{[], ◌≡◌, ◌≤◌, ◌<◌, ◌++◌, ◌∷◌, map, length, List, sym, subst, ◌∙◌, arith}
use Rattle.node_base.specs.Tree.{PathMap}
use Rattle.dump_load.specs.declared.change.Change.{Change}
use Rattle.std.proofs.lemmas.List.{nil_from_length}
use Rattle.std.specs.FinMap.{get}
use Rattle.dump_load.specs.Changes.{IsNormal}
use Rattle.editor_ends.specs.Built.{Keeps, IsSetOver, OfSize, filled}
use Rattle.editor_ends.proofs.Ended.{keeps_twice, over_all, too_large}
use Rattle.editor_ends.proofs.finish.finish.Goals as goal

pub loop-change-preserved : goal.loop-change-preserved
loop-change-preserved c = (
  λ trees n. keeps_twice trees all (c.loop-change.kept.items ++ c.in_ok-filled.field-0 ∷ rest) (c.keep.new.kept.items ++ rest) (here trees n) (c.in_ok-keep.ensures.keeps trees rest (here trees n).normal),
  λ n. c.in_ok-keep.ensures.lean rest (here [] n).normal (c.loop-change.invariant.1 n),
)
  where
    all : List Change
    all = map (filled (get c.args.tree.now)) c.args.changes.items

    rest : List Change
    rest = map (filled (get c.args.tree.now)) c.next.new.self.rest.items

    here : (trees : List PathMap) → IsNormal all → Keeps trees all (c.loop-change.kept.items ++ c.in_ok-filled.field-0 ∷ rest)
    here trees n = subst (λ x. Keeps trees all (c.loop-change.kept.items ++ x ∷ rest)) (sym c.in_ok-filled.ensures) (subst (λ z. Keeps trees all (c.loop-change.kept.items ++ map (filled (get c.args.tree.now)) z)) c.in-Some.ensures.steps.0 (c.loop-change.invariant.0 trees n))

pub returns-then-len-gt-CHANGES-clause-refused : goal.returns-then-len-gt-CHANGES-clause-refused
returns-then-len-gt-CHANGES-clause-refused c = λ trees m.
    let f = get c.args.tree.now in
    let nil : c.loop-change.change-iterator.rest.items ≡ [] = nil_from_length c.loop-change.change-iterator.rest.items (sym c.loop-change.change-iterator.rest.ok.0 ∙ c.in-None.ensures.steps.0) in
    let many : 4096 < length c.loop-change.kept.items = omega (arith, c.if-len-gt-CHANGES.true, c.len-2.ensures) in
    OfSize Rattle.std.proofs.Common.refl (too_large trees c.args.tree.now c.args.changes.items c.loop-change.kept.items m (λ n. subst (λ z. Keeps trees (map (filled f) c.args.changes.items) (c.loop-change.kept.items ++ map (filled f) z)) nil (c.loop-change.invariant.0 trees n)) c.loop-change.invariant.1 many)

pub returns-in-Ok-clause-set : goal.returns-in-Ok-clause-set
returns-in-Ok-clause-set c = λ trees m.
    let f = get c.args.tree.now in
    let nil : c.loop-change.change-iterator.rest.items ≡ [] = nil_from_length c.loop-change.change-iterator.rest.items (sym c.loop-change.change-iterator.rest.ok.0 ∙ c.in-None.ensures.steps.0) in
    let few : length c.loop-change.kept.items ≤ 4096 = omega (arith, c.if-len-gt-CHANGES.false, c.len-2.ensures) in
    subst (IsSetOver trees f c.args.changes.items) (sym c.in-Ok.ensures.set) (over_all trees c.args.tree.now c.args.changes.items c.loop-change.kept.items m (λ n. subst (λ z. Keeps trees (map (filled f) c.args.changes.items) (c.loop-change.kept.items ++ map (filled f) z)) nil (c.loop-change.invariant.0 trees n)) c.loop-change.invariant.1 few)

pub returns-in-Err-clause-refused : goal.returns-in-Err-clause-refused
returns-in-Err-clause-refused c = λ trees m.
    let f = get c.args.tree.now in
    let nil : c.loop-change.change-iterator.rest.items ≡ [] = nil_from_length c.loop-change.change-iterator.rest.items (sym c.loop-change.change-iterator.rest.ok.0 ∙ c.in-None.ensures.steps.0) in
    let few : length c.loop-change.kept.items ≤ 4096 = omega (arith, c.if-len-gt-CHANGES.false, c.len-2.ensures) in
    let set = over_all trees c.args.tree.now c.args.changes.items c.loop-change.kept.items m (λ n. subst (λ z. Keeps trees (map (filled f) c.args.changes.items) (c.loop-change.kept.items ++ map (filled f) z)) nil (c.loop-change.invariant.0 trees n)) c.loop-change.invariant.1 few in
    absurd (c.in-Err.ensures.no_set (set.normal, few))
