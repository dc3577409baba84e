use Rattle.std.proofs.Common.{sym, ap, subst, ◌∙◌, arith}
use Rattle.dump_load.specs.Changes.{IsNormal}
use Rattle.dump_load.specs.Effect.{effect}
use Rattle.dump_load.specs.Faults.{fault}
use Rattle.dump_load.proofs.Walk.{walked_none, walked_fault, walked_more, walked_whole, walked_effect, walked_no_fault, refused_is}
use Rattle.dump_load.proofs.EffectTrees.{effect_tree_is}
use Rattle.dump_load.proofs.load.apply.Goals as goal

pub loop-change-init : goal.loop-change-init
loop-change-init c = walked_none c.args.trees.now c.changes-changes.result.now c.in_ok-tree.tree c.in_ok-tree.ensures

pub returns-in-Some-clause-fault : goal.returns-in-Some-clause-fault
returns-in-Some-clause-fault c =
    let first = walked_fault c.args.trees.now c.changes-changes.result.now c.loop-change.change-index c.loop-change.tree c.loop-change.invariant c.change-item.result (omega arith) c.change-item.is c.in-Some.fault (sym c.in-Some.ensures) in
    refused_is c.from.result c.in-Some.fault (fault c.args.trees.now c.args.set.now) c.from.ensures (ap (fault c.args.trees.now) (sym c.changes-changes.ensures.value) ∙ first)

pub loop-change-preserved : goal.loop-change-preserved
loop-change-preserved c =
    walked_more c.args.trees.now c.changes-changes.result.now c.loop-change.change-index c.loop-change.tree c.loop-change.invariant c.change-item.result (omega arith) c.change-item.is
    (subst IsNormal (sym c.changes-changes.ensures.value) c.changes-changes.ensures.normal) (sym c.in_default.ensures) c.step.new.tree c.in_ok-step.ensures

pub step-requires-clause-whole : goal.step-requires-clause-whole
step-requires-clause-whole c =
    (walked_whole c.args.trees.now c.changes-changes.result.now c.loop-change.change-index c.loop-change.tree c.loop-change.invariant c.change-item.result (omega arith) c.change-item.is
    (subst IsNormal (sym c.changes-changes.ensures.value) c.changes-changes.ensures.normal)).0

pub returns-clause-effect : goal.returns-clause-effect
returns-clause-effect c = λ q.
    walked_effect c.args.trees.now c.changes-changes.result.now c.loop-change.change-index c.loop-change.tree c.loop-change.invariant (omega arith) q
    ∙ ap (λ s. effect c.args.trees.now s q) c.changes-changes.ensures.value

pub returns-clause-no_fault : goal.returns-clause-no_fault
returns-clause-no_fault c =
    ap (fault c.args.trees.now) (sym c.changes-changes.ensures.value)
    ∙ walked_no_fault c.args.trees.now c.changes-changes.result.now c.loop-change.change-index c.loop-change.tree c.loop-change.invariant (omega arith)

pub returns-clause-makes : goal.returns-clause-makes
returns-clause-makes c = record {
  faultless = returns-clause-no_fault c;
  effect = effect_tree_is c.args.trees.now c.args.set.now c.loop-change.tree (returns-clause-effect c);
}
