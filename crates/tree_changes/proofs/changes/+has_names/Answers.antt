use Rattle.std.proofs.Common.{◌∙◌, sym, ap}
use Rattle.path_tree.specs.Listed.{shown_names}
use Rattle.tree_changes.proofs.Paths.{names_match}
use Rattle.tree_changes.proofs.changes.+has_names.Goals as goal

pub returns-then-eq : goal.returns-then-eq
returns-then-eq t c h =
    c.in-Some.ensures.cases.0
    ∙ names_match c.in-Some.first.now c.in-Some-split_first.name.now.now c.in-Some.path.now (shown_names c.in-Some-split_first.names.now) c.compare.result (sym c.eq.ensures ∙ c.if-eq.true) c.compare.ensures (c.has_names.ensures h)
    ∙ sym (ap shown_names c.in-Some-split_first.ensures.cases.0)
