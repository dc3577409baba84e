-- A name is read from its own text.
use Rattle.std.proofs.Common.{◌≡◌, ℕ, ◌≤◌, Bool, true, false, length, nat_lt, ap, ◌∙◌, arith}
use Rattle.std.specs.Prelude.{Ok, Err, if◌then◌else◌}
use Rattle.std.proofs.lemmas.Bool.Decides.{nat_tests}
use Rattle.node_base.specs.Path.{Name}
use Rattle.node_base.specs.Names.{is_name}
use Rattle.node_base.specs.PathText.{name_read}
use Rattle.node_base.specs.Props.{is_prop_name, prop_name_read}

pub not_longer : (k n : ℕ) → n ≤ k → nat_lt k n ≡ false
not_longer k n h = grind (arith, nat_tests)

read_if : {E : Type 0} (past other : E) (long good : Bool) (n : Name) → long ≡ false → good ≡ true → (if long then Err past else if good then Ok n else Err other) ≡ Ok n
read_if past other long good n e f = ap (λ b. if b then Err past else if good then Ok n else Err other) e ∙ ap (λ b. if b then Ok n else Err other) f

pub prop_name_again : (n : Name) → is_prop_name n ≡ true → length n ≤ 255 → prop_name_read n ≡ Ok n
prop_name_again n rule short = read_if _ _ (nat_lt 255 (length n)) (is_prop_name n) n (not_longer 255 (length n) short) rule

pub node_name_again : (n : Name) → is_name n ≡ true → length n ≤ 255 → name_read n ≡ Ok n
unfolding name_read
node_name_again n rule short = read_if _ _ (nat_lt 255 (length n)) (is_name n) n (not_longer 255 (length n) short) rule
