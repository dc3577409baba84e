-- How long written blocks are.
use Rattle.std.proofs.Common.{◌≡◌, ℕ, ◌*◌, ◌≤◌, cond, true, T, List, [], ◌∷◌, length, Some, None, refl, sym, ap, subst, ◌∙◌, length-append, arith}
use Rattle.std.proofs.lemmas.Cmp.{tied_itself}
use Rattle.std.proofs.lemmas.Fmt.{length-decimal-le}
use Rattle.std.specs.Option.{IfSome}
use Rattle.std.specs.List.{flat_map}
use Rattle.std.specs.Fmt.{decimal}
use Rattle.std.specs.FinMap as map
use Rattle.std.specs.FinMap.{find, is_sorted, entries_sorted, get-entries}
use Rattle.std.specs.FinMap.Entries.{below_all}
use Rattle.std.specs.Ordering.{is_eq}
use Rattle.std.specs.declared.cmp.Ordering.TheVariants.{Less, Equal, Greater}
use Rattle.node_base.specs.Path.{Name, name_cmp, names_total, names_exact}
use Rattle.node_base.specs.Entries.{Entries, IsRising}
use Rattle.node_base.specs.Props.{PropMap, IsProps, is_prop_name}
use Rattle.node_base.specs.BlockGrammar.{block_end}
use Rattle.node_base.specs.BlockCanon.{canon_block, canon_property}
use Rattle.node_base.specs.declared.limits.TheConstants.{BLOCK_BYTES}
use Rattle.node_base.proofs.EntryLemmas.{both_true, find_absent}
use Rattle.node_base.proofs.BlockSpelled.{property_length}
use Rattle.node_base.proofs.BlockLengths.{few_entries, few_digits}

none_is_some : (v : List ℕ) (G : Type 0) → None ≡ Some v → G
none_is_some v G e = cc

-- what is found behind an entry is found
find_behind : (q : Name) (v : List ℕ) (p : Name × List ℕ) (ps : Entries) → T (below_all name_cmp p.0 ps) → find name_cmp q ps ≡ Some v → find name_cmp q (p ∷ ps) ≡ Some v
find_behind q v p ps h e =
    elim (name_cmp q p.0) as (λ o. name_cmp q p.0 ≡ o → cond (is_eq o) (Some p.1) (find name_cmp q ps) ≡ Some v) [
      | Less ↦ λ c. e
      | Equal ↦ λ c. none_is_some v _ (sym (ap (λ x. find name_cmp x ps) (names_exact q p.0 c) ∙ find_absent p.0 ps h) ∙ e)
      | Greater ↦ λ c. e
    ] refl

abbrev Small : Name → List ℕ → Type 0
Small q v = (length q ≤ 255) × (length v ≤ 65536)

small_property : (p : Name × List ℕ) → Small p.0 p.1 → length (canon_property p) ≤ 65809
small_property p h =
    omega (arith, property_length (decimal (length p.0)) p.0 (decimal (length p.1)) p.1, length-decimal-le 3 (length p.0) (omega arith) (omega arith) (omega (arith, h.0)), few_digits (length p.1) h.1, h.0, h.1)

small_entries : (ps : Entries) → IsRising ps → ((q : Name) (v : List ℕ) → find name_cmp q ps ≡ Some v → Small q v) → length (flat_map canon_property ps) ≤ 65809 * length ps
small_entries [] s each = omega arith
small_entries (p ∷ ps) s each =
    let b = both_true (below_all name_cmp p.0 ps) (is_sorted name_cmp ps) s in
    let here = each p.0 p.1 (ap (λ o. cond (is_eq o) (Some p.1) (find name_cmp p.0 ps)) (tied_itself names_total p.0)) in
    omega (arith, length-append (canon_property p) (flat_map canon_property ps), small_property p here, small_entries ps b.1 (λ q v e. each q v (find_behind q v p ps b.0 e)))

-- a block that is written is never past the limit
pub small_block : (m : PropMap) → IsProps m → length (canon_block m) ≤ BLOCK_BYTES
small_block m p =
    let each : (q : Name) (v : List ℕ) → find name_cmp q (map.entries m) ≡ Some v → Small q v = λ q v e.
    (let f : (is_prop_name q ≡ true) × (length q ≤ 255) × (length v ≤ 65536) = subst (λ o. IfSome o (λ w. (is_prop_name q ≡ true) × (length q ≤ 255) × (length w ≤ 65536))) (get-entries m q ∙ e) (p.each q) in (f.1, f.2)) in
    omega (arith, length-append (flat_map canon_property (map.entries m)) block_end, small_entries (map.entries m) (entries_sorted m) each, few_entries m p)
