-- A mirror of which what it has besides is its master's.
use Rattle.std.proofs.Common.{◌≡◌, ◌<◌, ◌≤◌, ◌+◌, ◌++◌, ℕ, zero, suc, Bool, true, false, List, length, Option, Some, None, refl, sym, ap, ◌∙◌, arith}
use Rattle.std.specs.Prelude.{nat_le}
use Rattle.std.specs.Option.{option_map}
use Rattle.std.proofs.lemmas.Bool.Decides.{nat_tests}
use Rattle.node_base.specs.Tree.{PathMap}
use Rattle.dump_load.specs.Trees.{effect_tree}
use Rattle.dump_load.specs.declared.change.Change.{Change}
use Rattle.repo_core.specs.Laws.{SetsMakeTrees}
use Rattle.repo_core.specs.Repository.{Repository, IsRepository, head_of}
use Rattle.store_share.specs.Chains.{IsChain, IsMade, tree_in, trees_known}
use Rattle.store_share.specs.Row.{rev_at}
use Rattle.store_share.specs.declared.rev.Rev.{Rev}
use Rattle.store_share.proofs.Chained.{chain_of}
use Rattle.store_share.proofs.Seen.{known_numbers}
use Rattle.store_share.proofs.Showing.{rev_as, some_is}
use Rattle.fleet_shares.specs.Agreed.{Adds, HaveSet, IsSameTo}

-- chains of which each has the number of its place, and the same sets, are the same
abbrev number_of : Option Rev → Option ℕ
number_of o = option_map (λ (v : Rev). v.number) o

abbrev set_of : Option Rev → Option (List Change)
set_of o = option_map (λ (v : Rev). v.set) o

same_rev : (x y : Rev) → x.number ≡ y.number → x.set ≡ y.set → x.tree ≡ y.tree → x ≡ y
same_rev x y e f g = λ j. rev_as (e j) (f j) (g j)

same_made : (o p : Option Rev) (n : ℕ) (ts us : List PathMap) → ts ≡ us → number_of o ≡ Some n → number_of p ≡ Some n → set_of o ≡ set_of p → IsMade ts o → IsMade us p → o ≡ p
same_made None p n ts us e a b s m k = absurd m
same_made (Some x) None n ts us e a b s m k = absurd k
same_made (Some x) (Some y) n ts us e a b s m k =
    let sets : x.set ≡ y.set = some_is x.set y.set s in
    ap Some (same_rev x y (some_is x.number y.number (a ∙ sym b)) sets (m.effect ∙ (ap (λ s. effect_tree ts s) sets ∙ (ap (λ zs. effect_tree zs y.set) e ∙ sym k.effect))))

module _ (k l : ℕ → Option Rev) (high : ℕ) (first : (n : ℕ) → n ≤ high → number_of (k n) ≡ Some n) (second : (n : ℕ) → n ≤ high → number_of (l n) ≡ Some n) (sets : (n : ℕ) → n ≤ high → set_of (k n) ≡ set_of (l n)) (made : IsChain k high) (made_too : IsChain l high) where
  same_at : (n : ℕ) → n ≤ high → trees_known k n ≡ trees_known l n → k n ≡ l n
  same_at n le e = same_made (k n) (l n) n (trees_known k n) (trees_known l n) e (first n le) (second n le) (sets n le) (made n le) (made_too n le)

  same_front : (n : ℕ) → n ≤ high + 1 → trees_known k n ≡ trees_known l n
  same_front zero le = refl
  same_front (suc n) le =
      let before = same_front n (omega (arith, le)) in
      ap (λ ts. ts ++ tree_in (k n)) before ∙ ap (λ o. trees_known l n ++ tree_in o) (same_at n (omega (arith, le)) before)

  pub same_chained : (n : ℕ) → n ≤ high → k n ≡ l n
  same_chained n le = same_at n le (same_front n (omega (arith, le)))

-- what a mirror has besides is its master's, and if all that it had was, all is
pub adds_all : SetsMakeTrees → (x y : Repository) (above : ℕ) → IsRepository x → IsRepository y → length x.sets ≡ length x.revisions → length y.sets ≡ length y.revisions
    → ((n : ℕ) → above < n → n ≤ head_of x.revisions → HaveSet x y n) → Adds above x y
adds_all law x y above is are long longer more = record { more = more; whole = λ same. record { within = reach same; same = whole same } }
  where
    reach : IsSameTo x y above → head_of x.revisions ≤ head_of y.revisions
    reach same = by (nat_le (head_of x.revisions) above) refl
      where
        by : (b : Bool) → nat_le (head_of x.revisions) above ≡ b → head_of x.revisions ≤ head_of y.revisions
        by true e = let w = same.within in grind (arith, nat_tests)
        by false e = (more (head_of x.revisions) (grind (arith, nat_tests)) (omega arith)).within

    sets : IsSameTo x y above → (n : ℕ) → n ≤ head_of x.revisions → set_of (rev_at x n) ≡ set_of (rev_at y n)
    sets same n le = by (nat_le n above) refl
      where
        by : (b : Bool) → nat_le n above ≡ b → set_of (rev_at x n) ≡ set_of (rev_at y n)
        by true e = ap set_of (same.same n (grind (arith, nat_tests)))
        by false e = (more n (grind (arith, nat_tests)) le).same

    whole : IsSameTo x y above → (n : ℕ) → n ≤ head_of x.revisions → rev_at x n ≡ rev_at y n
    whole same =
        let far = reach same in
        let begun = is.begun in
        let begun_too = are.begun in
        same_chained (rev_at x) (rev_at y) (head_of x.revisions)
        (known_numbers x (rev_at x) (head_of x.revisions) long (omega (arith, begun)) (λ i less. refl))
        (λ n le. known_numbers y (rev_at y) (head_of y.revisions) longer (omega (arith, begun_too)) (λ i less. refl) n (omega (arith, le, far)))
        (sets same)
        (chain_of law x (rev_at x) (head_of x.revisions) is long (omega (arith, begun)) (λ i less. refl))
        (λ r le. chain_of law y (rev_at y) (head_of y.revisions) are longer (omega (arith, begun_too)) (λ i less. refl) r (omega (arith, le, far)))
