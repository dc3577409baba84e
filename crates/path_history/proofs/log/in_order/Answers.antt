use Rattle.std.proofs.Common.{Contains, sym, subst}
use Rattle.std.specs.List.Sorted.{IsStrictlyIncreasing}
use Rattle.std.specs.Prelude.{◌==◌}
use Rattle.std.proofs.lemmas.List.Filters.{dedup_is}
use Rattle.std.proofs.lemmas.List.Kept.{Contains-dedup_nat, Contains-from_dedup}
use Rattle.std.proofs.lemmas.List.Sorted.{Contains-permutation, IsPermutation-sym}
use Rattle.std.proofs.lemmas.Map.Keys.{IsStrictlyIncreasing-dedup}
use Rattle.path_history.proofs.log.in_order.Goals as goal

pub returns-clause-kept : goal.returns-clause-kept
returns-clause-kept c n h =
    let sorted = c.sort.new.self.items in
    let kept = dedup_is (λ a b. a == b) sorted _ c.dedup.ensures.filtered in
    subst (λ v. Contains v n) (sym kept) (Contains-dedup_nat sorted n (Contains-permutation _ sorted n c.sort.ensures.permutation h))

pub returns-clause-known : goal.returns-clause-known
returns-clause-known c n h =
    let sorted = c.sort.new.self.items in
    let kept = dedup_is (λ a b. a == b) sorted _ c.dedup.ensures.filtered in
    Contains-permutation sorted _ n (IsPermutation-sym _ sorted c.sort.ensures.permutation) (Contains-from_dedup (λ a b. a == b) sorted n (subst (λ v. Contains v n) kept h))

pub returns-clause-rises : goal.returns-clause-rises
returns-clause-rises c =
    let sorted = c.sort.new.self.items in
    let kept = dedup_is (λ a b. a == b) sorted _ c.dedup.ensures.filtered in
    subst IsStrictlyIncreasing (sym kept) (IsStrictlyIncreasing-dedup sorted c.in_ok-sort.ensures.sorted)
