use Rattle.std.proofs.Common.{sym, ◌∙◌}
use Rattle.dump_load.specs.Faults.{fault}
use Rattle.std.proofs.lemmas.Result.{err_from_is_err_and}
use Rattle.dump_load.specs.Records.{faulty, no_set}
use Rattle.dump_load.proofs.Walk.{refused_is}
use Rattle.dump_load.proofs.EffectTrees.{effect_tree_is}
use Rattle.dump_load.proofs.load.load_revision.Goals as goal

pub returns-in-Some-clause-refused : goal.returns-in-Some-clause-refused
returns-in-Some-clause-refused c =
    faulty c.in_ok-gathered.gathered.set (sym c.index.ensures.number ∙ c.if-index-trees.false) c.in_ok-gathered.ensures.set
    (refused_is c.from.result c.in-Some.fault (fault c.args.trees.now c.in_ok-gathered.gathered.set) c.from.ensures (sym c.in_ok-gathered.ensures.fault ∙ c.in-Some.is))

pub returns-clause-makes : goal.returns-clause-makes
returns-clause-makes c = record {
  faultless = sym c.in_ok-gathered.ensures.fault ∙ c.in_default.is;
  effect = effect_tree_is c.args.trees.now c.in_ok-gathered.gathered.set c.in_ok-gathered.gathered.tree (c.in_ok-gathered.ensures.tree c.in_default.is);
}

pub returns-in_err-gathered-clause-refused : goal.returns-in_err-gathered-clause-refused
returns-in_err-gathered-clause-refused c =
    let p = err_from_is_err_and c.from_residual.result c.from_residual.ensures.1 in
    rw (p.1, p.2) (no_set (sym c.index.ensures.number ∙ c.if-index-trees.false) c.in_err-gathered.ensures.refused)
