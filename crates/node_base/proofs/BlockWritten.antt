-- Blocks of the grammar are read as their maps, and what is written is in the grammar.
use Rattle.std.proofs.Common.{◌≡◌, ℕ, ◌+◌, ◌≤◌, ◌<◌, ◌^◌, ◌&&◌, not, cond, Bool, true, false, T, List, [], ◌∷◌, ◌++◌, length, nat_le, Option, Some, None, refl, sym, ap, subst, ◌∙◌, append_assoc, append-nil, arith}
use Rattle.std.proofs.lemmas.Bool.Decides.{nat_tests}
use Rattle.std.proofs.lemmas.Fmt.{decimal_nonempty, digits_decimal, digits_value-decimal}
use Rattle.std.proofs.lemmas.Str.Parse.{IsNumeralModel, numerals_by_fold}
use Rattle.std.specs.Fmt.{decimal}
use Rattle.std.specs.Option.{is_some, IfSome}
use Rattle.std.specs.List.{flat_map}
use Rattle.std.specs.FinMap as map
use Rattle.std.specs.FinMap.{find, entries_sorted, entries-from_sorted, from_entries_push, get-from_entries, get-from_sorted, get-entries, same_entries_map, get-empty}
use Rattle.std.specs.FinMap.Entries.{put, below_all}
use Rattle.std.specs.Ordering.{is_lt, is_eq, ordering_reverse}
use Rattle.std.specs.declared.cmp.Ordering.{Ordering}
use Rattle.std.specs.declared.cmp.Ordering.TheVariants.{Less, Equal, Greater}
use Rattle.std.proofs.lemmas.Cmp.{tied_itself}
use Rattle.node_base.specs.Path.{Name, name_cmp, names_total, names_exact}
use Rattle.node_base.specs.Numbers.{is_digit, all_bytes, number_after}
use Rattle.node_base.specs.Entries.{Entries, IsRising, passing}
use Rattle.node_base.specs.Props.{PropMap, IsProps, is_prop_name, is_sync, props_fit}
use Rattle.node_base.specs.Blocks.{run_block, begun, new_block, Done}
use Rattle.node_base.specs.BlockGrammar.{Spells, BlockEntry, Sets, Removes, IsBlock, MayStand, block_end, with_all, without_all, set_in, removed_in, all_set}
use Rattle.node_base.specs.BlockCanon.{canon_block, canon_property}
use Rattle.node_base.proofs.EntryLemmas.{both_true, find_absent}
use Rattle.node_base.proofs.PropLemmas.{listed, map_put, map_none, len_retained}
use Rattle.node_base.proofs.BlockSpelled.{both, block_read}

-- ---- the maps of a list of entries

is_none : (o : Option (List ℕ)) → is_some o ≡ false → o ≡ None
is_none None e = refl
is_none (Some v) e = cc

-- a name that no entry has, put behind them
pushed_new : (es : Entries) (name value : List ℕ) → map.contains_key (map.from_entries {R = name_cmp} es) name ≡ false → map.insert (map.from_entries {R = name_cmp} es) name value ≡ map.from_entries (es ++ (name, value) ∷ [])
pushed_new es name value new = sym (from_entries_push names_total names_exact es name value (is_none _ (ap is_some (sym (get-from_entries names_total es name)) ∙ new)))

-- what entries set and remove, behind others
pub all_from_entries : (ps gs : Entries) (es : List BlockEntry) → MayStand (map.from_entries ps) (map.from_entries gs) es → (with_all (map.from_entries ps) es ≡ map.from_entries (ps ++ set_in es)) × (without_all (map.from_entries gs) es ≡ map.from_entries (gs ++ removed_in es))
all_from_entries ps gs [] m = (ap map.from_entries (sym (append-nil ps)), ap map.from_entries (sym (append-nil gs)))
all_from_entries ps gs (Sets name value ∷ es) m =
    let pushed = pushed_new ps name value m.0.new.unset in
    let rest = all_from_entries (ps ++ (name, value) ∷ []) gs es (subst (λ x. MayStand x (map.from_entries gs) es) pushed m.1) in
    (ap (λ x. with_all x es) pushed ∙ rest.0 ∙ ap map.from_entries (append_assoc ps ((name, value) ∷ []) (set_in es)), rest.1)
all_from_entries ps gs (Removes name ∷ es) m =
    let pushed = pushed_new gs name [] m.0.unremoved in
    let rest = all_from_entries ps (gs ++ (name, []) ∷ []) es (subst (λ x. MayStand (map.from_entries ps) x es) pushed m.1) in
    (rest.0, ap (λ x. without_all x es) pushed ∙ rest.1 ∙ ap map.from_entries (append_assoc gs ((name, []) ∷ []) (removed_in es)))

pub block_is_read : (delta : Bool) (bytes more : List ℕ) (es : List BlockEntry) → IsBlock delta bytes es → MayStand map.empty map.empty es → run_block (begun delta (length bytes)) (bytes ++ more) ≡ Done (map.from_entries (set_in es)) (map.from_entries (removed_in es)) more
block_is_read delta bytes more es b m =
    let all = all_from_entries [] [] es m in
    block_read delta false map.empty bytes more map.empty es b m ∙ ap (λ x. Done x (without_all map.empty es) more) all.0 ∙ ap (λ x. Done (map.from_entries (set_in es)) x more) all.1

-- ---- decimal numbers

abbrev IsDigits : List ℕ → Type 0
IsDigits ds = all_bytes is_digit ds ≡ true

digit_low : (c : ℕ) → is_digit c ≡ true → 48 ≤ c
digit_low c e = let p = both (nat_le 48 c) (nat_le c 57) e in grind (arith, nat_tests)

digit_high : (c : ℕ) → is_digit c ≡ true → c ≤ 57
digit_high c e = let p = both (nat_le 48 c) (nat_le c 57) e in grind (arith, nat_tests)

in_range : (c : ℕ) → 48 ≤ c → c ≤ 57 → is_digit c ≡ true
in_range c a b = grind (arith, nat_tests)

own : IsNumeralModel IsDigits (number_after 0)
own = numerals_by_fold IsDigits (record {
  empty = refl;
  parts = λ c cs e. let p = both (is_digit c) (all_bytes is_digit cs) e in ((digit_low c p.0, digit_high c p.0), p.1);
  more = λ c cs r e. rw (in_range c r.0 r.1) e;
}) number_after (record { empty = λ n. refl; more = λ n c cs r. refl })

pub spells_decimal : (n : ℕ) → n < 2 ^ 64 → Spells (decimal n) n
spells_decimal n h = record { some = decimal_nonempty n h; digits_only = digits_decimal own n h; number = digits_value-decimal own n h }

-- ---- the properties of a map may stand one after the other

-- a name and a value that fit
pub record Fits (p : Name × List ℕ) : Type 0 where
  pub rule : is_prop_name p.0 ≡ true
  pub short : length p.0 ≤ 255
  pub small : length p.1 ≤ 65536

abbrev AllFit : Entries → Type 0
AllFit [] = Unit {0}
AllFit (p ∷ ps) = Fits p × AllFit ps

-- the names behind a list are larger than its own
abbrev AllBelow : Entries → Name → Type 0
AllBelow [] k = Unit {0}
AllBelow (e ∷ es) k = (name_cmp e.0 k ≡ Less) × AllBelow es k

larger : (k x : Name) → name_cmp x k ≡ Less → name_cmp k x ≡ Greater
larger k x e = names_total.antisymm k x ∙ ap ordering_reverse e

put_last : (es : Entries) (k : Name) (v : List ℕ) → AllBelow es k → put name_cmp k v es ≡ es ++ (k, v) ∷ []
put_last [] k v h = refl
put_last (e ∷ es) k v h = rw (larger k e.0 h.0) (ap (λ s. e ∷ s) (put_last es k v h.1))

find_last : (es : Entries) (k : Name) → AllBelow es k → find name_cmp k es ≡ None
find_last [] k h = refl
find_last (e ∷ es) k h = rw (larger k e.0 h.0) (find_last es k h.1)

less_of : (r : Ordering) → T (is_lt r) → r ≡ Less
less_of Less h = refl
less_of Equal h = absurd h
less_of Greater h = absurd h

below_first : (x : Name) (es ps : Entries) (p : Name × List ℕ) → T (below_all name_cmp x (es ++ p ∷ ps)) → name_cmp x p.0 ≡ Less
below_first x [] ps p h = less_of _ (both_true _ _ h).0
below_first x (e ∷ es) ps p h = below_first x es ps p (both_true _ _ h).1

all_below : (es ps : Entries) (p : Name × List ℕ) → IsRising (es ++ p ∷ ps) → AllBelow es p.0
all_below [] ps p s = tt
all_below (e ∷ es) ps p s = let b = both_true _ _ s in (below_first e.0 es ps p b.0, all_below es ps p b.1)

pub below_front : (x : Name) (es ps : Entries) → T (below_all name_cmp x (es ++ ps)) → T (below_all name_cmp x es)
below_front x [] ps h = tt
below_front x (e ∷ es) ps h =
    let b = both_true _ _ h in
    subst (λ t. T t) (sym (ap (λ o. is_lt o && below_all name_cmp x es) (less_of _ b.0))) (below_front x es ps b.1)

joined : (a b : Bool) → T a → T b → T (a && b)
joined true b p q = q
joined false b p q = p

rising_front : (es ps : Entries) → IsRising (es ++ ps) → IsRising es
rising_front [] ps s = tt
rising_front (e ∷ es) ps s =
    let b = both_true _ _ s in
    let first = below_front e.0 es ps b.0 in
    joined _ _ first (rising_front es ps b.1)

passing-append : (p : Name → Bool) (es ps : Entries) → passing p (es ++ ps) ≡ passing p es + passing p ps
passing-append p [] ps = omega arith
passing-append p (e ∷ es) ps = omega (arith, passing-append p es ps)

passed : (p : Name → Bool) (es : Entries) → IsRising es → map.len (map.retain_keys (listed es) p) ≡ passing p es
passed p es s = len_retained (listed es) p ∙ ap (passing p) (entries-from_sorted name_cmp es s)

le_still : (a b n : ℕ) → a ≤ b → nat_le b n ≡ true → nat_le a n ≡ true
le_still a b n h e = grind (arith, nat_tests)

-- a front of what fits fits
front_fits : (es ps : Entries) → IsRising (es ++ ps) → props_fit (listed (es ++ ps)) ≡ true → props_fit (listed es) ≡ true
front_fits es ps s fit =
    let r = rising_front es ps s in
    let fewer_others : map.len (map.retain_keys (listed es) (λ n. not (is_sync n))) ≤ map.len (map.retain_keys (listed (es ++ ps)) (λ n. not (is_sync n))) = omega (arith, passed (λ n. not (is_sync n)) es r, passed (λ n. not (is_sync n)) (es ++ ps) s, passing-append (λ n. not (is_sync n)) es ps) in
    let fewer_syncs : map.len (map.retain_keys (listed es) is_sync) ≤ map.len (map.retain_keys (listed (es ++ ps)) is_sync) = omega (arith, passed is_sync es r, passed is_sync (es ++ ps) s, passing-append is_sync es ps) in
    let others : nat_le (map.len (map.retain_keys (listed es) (λ n. not (is_sync n)))) 256 ≡ true = le_still _ _ 256 fewer_others (both _ _ fit).0 in
    let syncs : nat_le (map.len (map.retain_keys (listed es) is_sync)) 16 ≡ true = le_still _ _ 16 fewer_syncs (both _ _ fit).1 in
    rw (others, syncs) refl

-- properties that rise, fit, and are within the limits may stand one after the other, and are their map
pub may_stand : (es ps : Entries) → IsRising (es ++ ps) → AllFit ps → props_fit (listed (es ++ ps)) ≡ true → MayStand (listed es) map.empty (all_set ps) × (with_all (listed es) (all_set ps) ≡ listed (es ++ ps))
may_stand es [] s f fit = (tt, ap listed (sym (append-nil es)))
may_stand es (p ∷ ps) s f fit =
    let below = all_below es ps p s in
    let r = rising_front es (p ∷ ps) s in
    let pushed : map.insert (listed es) p.0 p.1 ≡ listed (es ++ p ∷ []) = sym (map_put es p.0 p.1 r) ∙ ap listed (put_last es p.0 p.1 below) in
    let joins : (es ++ p ∷ []) ++ ps ≡ es ++ p ∷ ps = append_assoc es (p ∷ []) ps in
    let rest = may_stand (es ++ p ∷ []) ps (subst IsRising (sym joins) s) f.1 (ap (λ x. props_fit (listed x)) joins ∙ fit) in
    let fits : props_fit (listed (es ++ p ∷ [])) ≡ true = front_fits (es ++ p ∷ []) ps (subst IsRising (sym joins) s) (ap (λ x. props_fit (listed x)) joins ∙ fit) in
    let new : map.contains_key (listed es) p.0 ≡ false = ap is_some (get-from_sorted name_cmp es p.0 r ∙ find_last es p.0 below) in (
      (record { new = record { rule = f.0.rule; short = f.0.short; unset = new; unremoved = ap is_some (get-empty name_cmp p.0) }; small = f.0.small; fit = ap props_fit pushed ∙ fits }, subst (λ x. MayStand x map.empty (all_set ps)) (sym pushed) rest.0),
      ap (λ x. with_all x (all_set ps)) pushed ∙ rest.1 ∙ ap listed joins,
    )

abbrev canon_of : Entries → List ℕ
canon_of ps = flat_map canon_property ps ++ block_end

pub canon_is_block : (ps : Entries) → AllFit ps → IsBlock false (canon_of ps) (all_set ps)
canon_is_block [] f = refl
canon_is_block (p ∷ ps) f =
    (decimal (length p.0), decimal (length p.1), canon_of ps, spells_decimal (length p.0) (omega (arith, f.0.short)), spells_decimal (length p.1) (omega (arith, f.0.small)), canon_is_block ps f.1, append_assoc (canon_property p) _ _)

listed_entries : (m : PropMap) → listed (map.entries m) ≡ m
listed_entries m = same_entries_map _ _ (entries-from_sorted name_cmp (map.entries m) (entries_sorted m))

absent_some : (v : List ℕ) (G : Type 0) → None ≡ Some v → G
absent_some v G e = cc

absurd_found : (q : Name) (v : List ℕ) (p : Name × List ℕ) (ps : Entries) → T (below_all name_cmp p.0 ps) → q ≡ p.0 → find name_cmp q ps ≡ Some v → Some p.1 ≡ Some v
absurd_found q v p ps h same e = absent_some v _ (sym (ap (λ x. find name_cmp x ps) same ∙ find_absent p.0 ps h) ∙ e)

-- what is found behind an entry is found
find_rest : (q : Name) (v : List ℕ) (p : Name × List ℕ) (ps : Entries) → T (below_all name_cmp p.0 ps) → find name_cmp q ps ≡ Some v → find name_cmp q (p ∷ ps) ≡ Some v
find_rest q v p ps h e =
    elim (name_cmp q p.0) as (λ o. name_cmp q p.0 ≡ o → cond (is_eq o) (Some p.1) (find name_cmp q ps) ≡ Some v) [
      | Less ↦ λ c. e
      | Equal ↦ λ c. absurd_found q v p ps h (names_exact q p.0 c) e
      | Greater ↦ λ c. e
    ] refl

-- what each name of a map has, its entries have
fit_each : (whole : PropMap) (ps : Entries) → ((q : Name) → IfSome (map.get whole q) (λ v. (is_prop_name q ≡ true) × (length q ≤ 255) × (length v ≤ 65536))) → ((q : Name) (v : List ℕ) → find name_cmp q ps ≡ Some v → map.get whole q ≡ Some v) → IsRising ps → AllFit ps
fit_each whole [] each has s = tt
fit_each whole (p ∷ ps) each has s =
    let b = both_true _ _ s in
    let here = has p.0 p.1 (ap (λ o. cond (is_eq o) (Some p.1) (find name_cmp p.0 ps)) (tied_itself names_total p.0)) in
    let f : (is_prop_name p.0 ≡ true) × (length p.0 ≤ 255) × (length p.1 ≤ 65536) = subst (λ o. IfSome o (λ v. (is_prop_name p.0 ≡ true) × (length p.0 ≤ 255) × (length v ≤ 65536))) here (each p.0) in
    (record { rule = f.0; short = f.1; small = f.2 }, fit_each whole ps each (λ q v e. has q v (find_rest q v p ps b.0 e)) b.1)

-- they remove nothing
none_removed : (ps : Entries) (removed : PropMap) → without_all removed (all_set ps) ≡ removed
none_removed [] removed = refl
none_removed (p ∷ ps) removed = none_removed ps removed

-- the entries of a map may stand one after another, and are the map then
pub entries_stand : (m : PropMap) → IsProps m → MayStand map.empty map.empty (all_set (map.entries m)) × (with_all map.empty (all_set (map.entries m)) ≡ m)
entries_stand m p =
    let ps = map.entries m in
    let s : IsRising ps = entries_sorted m in
    let f = fit_each m ps p.each (λ q v e. get-entries m q ∙ e) s in
    let all = may_stand [] ps s f (ap props_fit (listed_entries m) ∙ p.fit) in (
      subst (λ x. MayStand x map.empty (all_set ps)) map_none all.0,
      ap (λ x. with_all x (all_set ps)) (sym map_none) ∙ all.1 ∙ listed_entries m,
    )

pub written_is_read : (m : PropMap) (more : List ℕ) → IsProps m → IsBlock false (canon_block m) (all_set (map.entries m)) × (run_block (new_block (length (canon_block m))) (canon_block m ++ more) ≡ Done m map.empty more)
written_is_read m more p =
    let ps = map.entries m in
    let block = canon_is_block ps (fit_each m ps p.each (λ q v e. get-entries m q ∙ e) (entries_sorted m)) in
    let stand = entries_stand m p in (
      block,
      block_read false false map.empty (canon_block m) more map.empty (all_set ps) block stand.0
          ∙ ap (λ x. Done x (without_all map.empty (all_set ps)) more) stand.1
          ∙ ap (λ x. Done m x more) (none_removed ps map.empty),
    )
