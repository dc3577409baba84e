use Rattle.std.proofs.Common.{sym, ◌∙◌, arith}
use Rattle.svndiff.proofs.DeltaRuns.{counts}
use Rattle.svndiff.proofs.window.Window.instructed.Goals as goal

pub count-requires-clause-sum : goal.count-requires-clause-sum
count-requires-clause-sum c =
    (counts c.args.instruction c.args.self.now (sym c.is_wrong.ensures ∙ c.if-is_wrong.false) (omega (arith, c.same.ensures, c.same.type_inv)) (omega (arith, c.same-2.ensures, c.same-2.type_inv)) (omega (arith, c.same-3.ensures, c.same-3.type_inv))).0

pub count-requires-clause-news : goal.count-requires-clause-news
count-requires-clause-news c =
    (counts c.args.instruction c.args.self.now (sym c.is_wrong.ensures ∙ c.if-is_wrong.false) (omega (arith, c.same.ensures, c.same.type_inv)) (omega (arith, c.same-2.ensures, c.same-2.type_inv)) (omega (arith, c.same-3.ensures, c.same-3.type_inv))).1
