-- One order a slot.
use Rattle.std.proofs.Common.{◌≡◌, ℕ, suc, ◌+◌, List, [], ◌∷◌, ◌++◌, map, sym, ap, ◌∙◌, arith}
use Rattle.std.specs.List.{range_with_len}
use Rattle.std.proofs.lemmas.List.{map-append}
use Rattle.fleet_jobs.specs.declared.order.Order.{Order}
use Rattle.sync_core.proofs.Lists.{range-next}
use Rattle.fleet_shares.specs.Orders.{sync_order}

after : (n m : ℕ) → m ≡ n + 1 → m ≡ suc n
after n m e = omega (arith, e)

from_zero : (n : ℕ) → 0 + n ≡ n
from_zero n = omega arith

pub orders_more : (os more : List Order) (n m : ℕ) (o : Order) → more ≡ os ++ o ∷ [] → o ≡ sync_order n → m ≡ n + 1 → os ≡ map sync_order (range_with_len 0 n) → more ≡ map sync_order (range_with_len 0 m)
orders_more os more n m o pushed is next so_far =
    pushed
    ∙ (ap (λ l. l ++ o ∷ []) so_far
    ∙ (ap (λ k. map sync_order (range_with_len 0 n) ++ k ∷ []) (is ∙ ap sync_order (sym (from_zero n)))
    ∙ (sym (map-append sync_order (range_with_len 0 n) ((0 + n) ∷ []))
    ∙ (ap (map sync_order) (sym (range-next 0 n)) ∙ ap (λ k. map sync_order (range_with_len 0 k)) (sym (after n m next))))))
