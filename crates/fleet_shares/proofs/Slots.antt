-- The stores of a fleet by the numbers of their slots.
use Rattle.std.proofs.Common.{◌≡◌, ℕ, zero, suc, Bool, Option, None, is_some, refl, sym, ap, ◌∙◌}
use Rattle.fleet_shares.specs.Opening.{HasStores}
use Rattle.fleet_shares.specs.Runners.{has_at}
use Rattle.fleet_shares.specs.Stores.{pick, store_at}
use Rattle.fleet_shares.specs.Told.{SameSlots}
use Rattle.fleet_shares.specs.declared.stores.FleetStores.{FleetStores}

pub some_at : {A : Type 0} (n : ℕ) (a b c d : Option A) → is_some (pick n a b c d None) ≡ has_at n (is_some a) (is_some b) (is_some c) (is_some d)
some_at zero a b c d = refl
some_at (suc zero) a b c d = refl
some_at (suc (suc zero)) a b c d = refl
some_at (suc (suc (suc zero))) a b c d = refl
some_at (suc (suc (suc (suc n)))) a b c d = refl

at_bools : (n : ℕ) (a b c d s t u v : Bool) → a ≡ s → b ≡ t → c ≡ u → d ≡ v → has_at n a b c d ≡ has_at n s t u v
at_bools n a b c d s t u v e f h i = ap (λ x. has_at n x b c d) e ∙ (ap (λ x. has_at n s x c d) f ∙ (ap (λ x. has_at n s t x d) h ∙ ap (λ x. has_at n s t u x) i))

-- stores that have one where these say so
pub has_some : {D : Type 0} {g : _} (stores : FleetStores D g) (a b c d : Bool) → HasStores a b c d stores → (n : ℕ) → is_some (store_at stores n) ≡ has_at n a b c d
has_some stores a b c d h n =
    some_at n stores.first stores.second stores.third stores.fourth ∙ at_bools n (is_some stores.first) (is_some stores.second) (is_some stores.third) (is_some stores.fourth) a b c d h.0 h.1 h.2 h.3

pub same_slots : {D : Type 0} {g : _} (old new : FleetStores D g) → HasStores (is_some old.first) (is_some old.second) (is_some old.third) (is_some old.fourth) new → SameSlots old new
same_slots old new h n = has_some new _ _ _ _ h n ∙ sym (some_at n old.first old.second old.third old.fourth)
