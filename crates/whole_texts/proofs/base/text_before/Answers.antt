use Rattle.std.proofs.Common.{sym, ◌∙◌}
use Rattle.whole_texts.proofs.Bases.{root_before, none_before}
use Rattle.whole_texts.proofs.base.text_before.Goals as goal

pub returns-then-is_root : goal.returns-then-is_root
returns-then-is_root c = root_before c.args.trees.now c.args.path.now c.in-None.ensures.value (sym c.is_root.ensures ∙ c.if-is_root.true)

pub returns-else-is_root : goal.returns-else-is_root
returns-else-is_root c = none_before c.args.trees.now c.args.path.now c.in-None.ensures.value (sym c.is_root.ensures ∙ c.if-is_root.false)
