use Rattle.std.proofs.Common.{[], ◌∷◌, ◌++◌, ◌∙◌, ap, codes, append_assoc}
use Rattle.std.specs.Fmt.{decimal}
use Rattle.std.specs.List.{flat_map}
use Rattle.std.specs.FinMap.{entries}
use Rattle.path_tree.specs.Visited.{texts}
use Rattle.fleet_engines.specs.Listing.{entry_line, text_line}
use Rattle.fleet_engines.proofs.Listed.{lines_of_texts}
use Rattle.fleet_engines.proofs.listing.listed.Goals as goal

pub returns : goal.returns
returns c =
    let number = decimal c.args.number in
    let es = entries c.args.tree.now in
    c.in_ok-visit_nodes.ensures
    ∙ ap (λ z. z ++ flat_map text_line (texts [] es)) (c.in_ok-push_number_line.ensures ∙ ap (λ z. z ++ (codes "revision " ++ (number ++ 10 ∷ []))) c.new-bytes.ensures.items)
    ∙ ap (λ z. codes "revision " ++ z) (append_assoc number (10 ∷ []) (flat_map text_line (texts [] es)))
    ∙ ap (λ z. codes "revision " ++ (number ++ (10 ∷ z))) (lines_of_texts es)
