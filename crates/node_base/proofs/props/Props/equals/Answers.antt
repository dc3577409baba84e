use Rattle.std.proofs.Common.{ap, sym, ◌∙◌}
use Rattle.std.specs.FinMap as map
use Rattle.std.specs.FinMap.{same_entries_map}
use Rattle.node_base.proofs.props.Props.equals.Goals as goal

pub returns : goal.returns
returns c =
    let these = c.entries.ensures.entries in
    let those = c.entries-2.ensures.entries in
    (λ t. same_entries_map _ _ (sym these ∙ c.are_equal.ensures.0 t ∙ those), λ e. c.are_equal.ensures.1 (these ∙ ap map.entries e ∙ sym those))
