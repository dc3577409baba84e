-- Facts that a book and a seat keep have at most one proof.
use Rattle.std.specs.Prelude.{◌≡◌, ◌<◌, ◌≤◌, ℕ, List, Option, Some, refl}
use Rattle.std.specs.Coded.{Coded, Coded-set, coded×, coded_ℕ, coded_option, code_by}
use Rattle.std.proofs.Props.{props}
use Rattle.node_base.specs.Tree.{PathMap, coded_tree}
use Rattle.dump_load.specs.declared.change.Change.{Change}
use Rattle.dump_load.specs.Coded.{coded_set}
use Rattle.store_share.specs.declared.rev.Rev.{Rev}

abbrev pub coded_rev : Coded Rev
coded_rev = code_by (ℕ × (List Change × PathMap)) (coded× coded_ℕ (coded× coded_set coded_tree)) (λ v. (v.number, (v.set, v.tree))) (λ p. record { number = p.0; set = p.1.0; tree = p.1.1 }) (λ _. refl)

pub shown_prop : (n : ℕ) (k l : ℕ → Option Rev) → IsProp ((r : ℕ) → r < n → k r ≡ l r)
shown_prop n k l = let s : (a b : Option Rev) → IsProp (a ≡ b) = Coded-set (coded_option coded_rev) in hlevel (props, s)

pub number_prop : (n : ℕ) (k : ℕ → Option ℕ) → IsProp ((r : ℕ) → r ≤ n → k r ≡ Some r)
number_prop n k = let s : (a b : Option ℕ) → IsProp (a ≡ b) = Coded-set (coded_option coded_ℕ) in hlevel (props, s)
