-- Items of several lists, in any order.
use Rattle.std.proofs.Common.{◌≡◌, ◌+◌, List, [], ◌∷◌, ◌++◌, reverse, refl, ap, arith}
use Rattle.std.proofs.lemmas.Grind.{reverse_onto}
use Rattle.ra_item.specs.Items.{Item}
use Rattle.ra_item.specs.Weights.{weigh_all}

weigh_append : (xs ys : List (List Item)) → weigh_all (xs ++ ys) ≡ weigh_all xs + weigh_all ys
weigh_append [] ys = omega arith
weigh_append (x ∷ xs) ys = omega (arith, weigh_append xs ys)

pub weigh_reverse : (xs : List (List Item)) → weigh_all (reverse xs) ≡ weigh_all xs
weigh_reverse [] = refl
weigh_reverse (x ∷ xs) = omega (arith, ap weigh_all (reverse_onto xs x []), weigh_append (reverse xs) (x ∷ []), weigh_reverse xs)
