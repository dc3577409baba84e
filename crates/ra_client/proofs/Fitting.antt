-- Properties are told in items within the limits of items.
use Rattle.std.proofs.Common.{ℕ, ◌+◌, ◌*◌, ◌≤◌, max, List, [], ◌∷◌, ◌++◌, map, length, codes, refl, length-append, arith}
use Rattle.std.proofs.lemmas.Fmt.{length-decimal-le}
use Rattle.std.specs.Fmt.{decimal}
use Rattle.std.specs.FinMap as finite
use Rattle.std.specs.List.{AllByRecursion}
use Rattle.node_base.specs.Path.{Name}
use Rattle.node_base.specs.Props.{PropMap, IsProps}
use Rattle.node_base.proofs.BlockLengths.{few_entries}
use Rattle.ra_item.specs.Items.{Item, Text, row, spell, spell_all, nesting, deepest, AllFit, Within}
use Rattle.edit_road.proofs.Limits.{IsEntry, entries_fit}
use Rattle.ra_wire.specs.Replies.{answer_of, success, property, properties, proplist, revprops}

max_least : (a b n : ℕ) → a ≤ n → b ≤ n → max a b ≤ n
max_least a b n h k = grind arith

pub success_short : (xs : List Item) → length (spell (success xs)) ≤ length (spell_all (row xs)) + 20
success_short xs =
    let a = spell_all (row xs) in
    omega (arith, length-append a (41 ∷ 32 ∷ []), length-append (a ++ 41 ∷ 32 ∷ []) [], length-append ((a ++ 41 ∷ 32 ∷ []) ++ []) (41 ∷ 32 ∷ []))

revprops_short : (xs : List Item) → length (spell (answer_of (codes "revprops") xs)) ≤ length (spell_all (row xs)) + 20
revprops_short xs =
    let a = spell_all (row xs) in
    omega (arith, length-append a (41 ∷ 32 ∷ []), length-append (a ++ 41 ∷ 32 ∷ []) [], length-append ((a ++ 41 ∷ 32 ∷ []) ++ []) (41 ∷ 32 ∷ []))

text_short : (t : List ℕ) → length t ≤ 65536 → length (spell (Text t)) ≤ length t + 7
text_short t l = omega (arith, l, length-decimal-le 5 (length t) (omega arith) (omega (arith, l)) (omega (arith, l)), length-append (decimal (length t)) (58 ∷ (t ++ 32 ∷ [])), length-append t (32 ∷ []))

property_short : (e : Name × List ℕ) → IsEntry e → length (spell (property e)) ≤ 65820
property_short e h =
    let a = spell (Text e.0) in
    let b = spell (Text e.1) in
    omega (arith, h.1, h.2, text_short e.0 (omega (arith, h.1)), text_short e.1 h.2, length-append b [], length-append a (b ++ []), length-append (a ++ (b ++ [])) (41 ∷ 32 ∷ []))

-- what holds of properties one after another
record AreShort (es : List (Name × List ℕ)) : Type 0 where
  fit : AllFit (row (map property es))
  flat : deepest (row (map property es)) ≤ 1
  short : length (spell_all (row (map property es))) ≤ length es * 65820

are_short : (es : List (Name × List ℕ)) → AllByRecursion IsEntry es → AreShort es
are_short [] h = record { fit = tt; flat = omega arith; short = omega arith }
are_short (e ∷ es) h =
    let r = are_short es h.1 in
    record {
      fit = ((omega (arith, h.0.1), (omega (arith, h.0.2), tt)), r.fit);
      flat = max_least (nesting (property e)) (deepest (row (map property es))) 1 (omega arith) r.flat;
      short = omega (arith, r.short, property_short e h.0, length-append (spell (property e)) (spell_all (row (map property es))));
    }

all_short : (m : PropMap) → IsProps m → AreShort (finite.entries m)
all_short m h = are_short (finite.entries m) (entries_fit m h)

pub revprops_fit : (m : PropMap) → IsProps m → Within (revprops m)
revprops_fit m h =
    let r = all_short m h in
    record {
      fits = ((refl, omega arith), (r.fit, tt));
      depth = omega (arith, max_least (deepest (row (map property (finite.entries m))) + 1) 0 2 (omega (arith, r.flat)) (omega arith), max_least 0 (max (deepest (row (map property (finite.entries m))) + 1) 0) 2 (omega arith) (max_least (deepest (row (map property (finite.entries m))) + 1) 0 2 (omega (arith, r.flat)) (omega arith)));
      bytes = omega (arith, revprops_short (map property (finite.entries m)), r.short, few_entries m h);
    }

pub proplist_fits : (m : PropMap) → IsProps m → Within (proplist m)
proplist_fits m h =
    let r = all_short m h in
    let d = deepest (row (map property (finite.entries m))) in
    let a = spell_all (row (map property (finite.entries m))) in
    let l = spell (properties (finite.entries m)) in
    record {
      fits = ((refl, omega arith), ((r.fit, tt), tt));
      depth = omega (arith, max_least (d + 1) 0 2 (omega (arith, r.flat)) (omega arith), max_least (max (d + 1) 0 + 1) 0 3 (omega (arith, max_least (d + 1) 0 2 (omega (arith, r.flat)) (omega arith))) (omega arith), max_least 0 (max (max (d + 1) 0 + 1) 0) 3 (omega arith) (max_least (max (d + 1) 0 + 1) 0 3 (omega (arith, max_least (d + 1) 0 2 (omega (arith, r.flat)) (omega arith))) (omega arith)));
      bytes = omega (arith, success_short (properties (finite.entries m) ∷ []), r.short, few_entries m h, length-append l [], length-append a (41 ∷ 32 ∷ []));
    }
