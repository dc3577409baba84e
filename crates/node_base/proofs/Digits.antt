-- What follows from the definitions of numbers.
use Rattle.std.proofs.Common.{◌≡◌, ℕ, ◌+◌, ◌-◌, ◌*◌, ◌≤◌, List, [], ◌∷◌, ◌++◌, refl, arith}
use Rattle.node_base.specs.Numbers.{number_after}

pub number_after-ge : (n : ℕ) (ds : List ℕ) → n ≤ number_after n ds
number_after-ge n [] = omega arith
number_after-ge n (d ∷ ds) = omega (arith, number_after-ge (n * 10 + (d - 48)) ds)

pub number_after-append : (n : ℕ) (ds es : List ℕ) → number_after n (ds ++ es) ≡ number_after (number_after n ds) es
number_after-append n [] es = refl
number_after-append n (d ∷ ds) es = number_after-append (n * 10 + (d - 48)) ds es
