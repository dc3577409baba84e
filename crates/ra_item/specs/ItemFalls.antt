-- The items of a list are nested less deep than the list.
use Rattle.std.specs.Prelude.{◌+◌, ◌≤◌, max, List, [], ◌∷◌}
use Rattle.std.proofs.Common.{arith}
use denote.Param.Weighed.{most}
use Rattle.ra_item.specs.Items.{Item, row, nesting, deepest}
use Rattle.ra_item.specs.Shapes.{item_of}
use Rattle.ra_item.specs.declared.item.Content.{Content}
use Rattle.ra_item.specs.declared.item.Content.TheVariants as content
use Rattle.ra_item.specs.declared.item.Item.TheDeep.{deep-Content}

pub most_le-deepest : (xs : List Item) → most (λ x. nesting x + 1) xs ≤ deepest (row xs) + 1
most_le-deepest [] = omega arith
most_le-deepest (x ∷ xs) = omega (arith, most_le-deepest xs)

pub shallow : (n : Content) → max (deep-Content n) 0 ≤ nesting (item_of n)
shallow (content.Word w) = omega arith
shallow (content.Number n) = omega arith
shallow (content.Text t) = omega arith
shallow (content.List xs) = omega (arith, most_le-deepest xs.items)
