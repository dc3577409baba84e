-- Sets of names as maps with an empty value at each.
use Rattle.std.proofs.Common.{◌≡◌, ℕ, suc, Bool, true, false, cond, not, ◌&&◌, ◌||◌, T, length, List, [], ◌∷◌, Option, Some, None, refl, sym, ap, ◌∙◌, ◌+◌, arith}
use Rattle.std.specs.Cmp.{eq_by_cmp_equiv}
use Rattle.std.specs.List.{list_any}
use Rattle.std.specs.Option.{is_some}
use Rattle.std.specs.FinMap as map
use Rattle.std.specs.FinMap.{find, get-from_entries, get-from_sorted, entries-from_sorted, get-insert, get-empty, len-entries, len-empty, same_map}
use Rattle.std.specs.FinMap.Entries.{below_all}
use Rattle.std.specs.List.{AllByRecursion}
use Rattle.std.specs.List.Sorted.{IsStrictlySortedBy}
use Rattle.std.specs.Ordering.{is_lt}
use Rattle.std.specs.declared.cmp.Ordering.{Ordering}
use Rattle.std.specs.declared.cmp.Ordering.TheVariants.{Less, Equal, Greater}
use Rattle.std.specs.BTreeMap.{is_at}
use Rattle.node_base.specs.Path.{Name, name_cmp, names_total, names_exact, same_name}
use Rattle.node_base.specs.Entries.{IsRising, blank, entry_bytes, stored_bytes}
use Rattle.node_base.specs.Props.{PropMap}
use Rattle.node_base.specs.PropDeltas.{kept_in}
use Rattle.node_base.proofs.PropLemmas.{get-retained, turned, entries_none}
use Rattle.node_base.proofs.DeltaLists.{without, get-without}

-- an empty value, or another
abbrev given : Bool → Option (List ℕ) → Option (List ℕ)
given b o = cond b (Some []) o

-- whether a name is among names
abbrev among : Name → List Name → Bool
among q ns = list_any (is_at (name_cmp q)) ns

abbrev pub blanks : List Name → PropMap
blanks ns = map.from_entries (blank ns)

find_blank : (q : Name) (ns : List Name) → find name_cmp q (blank ns) ≡ given (among q ns) None
find_blank q [] = refl
find_blank q (n ∷ ns) =
    elim (is_at (name_cmp q) n) as (λ b. given b (find name_cmp q (blank ns)) ≡ given (b || among q ns) None) [
      | true ↦ refl
      | false ↦ find_blank q ns
    ]

get-blanks : (ns : List Name) (q : Name) → map.get (blanks ns) q ≡ given (among q ns) None
get-blanks ns q = get-from_entries names_total (blank ns) q ∙ find_blank q ns

has : (b : Bool) → is_some (given b None) ≡ b
has true = refl
has false = refl

pub contains_blank : (ns : List Name) (q : Name) → list_any (is_at (name_cmp q)) ns ≡ map.contains_key (blanks ns) q
contains_blank ns q = sym (ap is_some (get-blanks ns q) ∙ has (among q ns))

-- names that differ at one name
pub one_named : (ns ms : List Name) (n : Name) → ((q : Name) → among q ms ≡ cond (is_at (name_cmp n) q) true (among q ns)) → blanks ms ≡ map.insert (blanks ns) n []
one_named ns ms n h =
    same_map names_total names_exact _ _ (λ q.
    get-blanks ms q
    ∙ ap (λ b. given b None) (h q)
    ∙ ap (λ b. given (cond b true (among q ns)) None) ((eq_by_cmp_equiv names_total).symm n q)
    ∙ elim (same_name q n) as (λ b. given (cond b true (among q ns)) None ≡ given b (given (among q ns) None)) [
      | true ↦ refl
      | false ↦ refl
    ]
    ∙ ap (given (same_name q n)) (sym (get-blanks ns q))
    ∙ sym (get-insert names_total (blanks ns) n [] q))

pub no_names : (ns : List Name) → ns ≡ [] → blanks ns ≡ map.empty
no_names ns e = ap blanks e

-- ---- how many there are

rises : (a b : Bool) → T a → T b → T (a && b)
rises true b p q = q
rises false b p q = p

less : (o : Ordering) → o ≡ Less → T (is_lt o)
less Less e = tt
less Equal e = cc
less Greater e = cc

below_blank : (x : Name) (ns : List Name) → AllByRecursion (λ y. name_cmp x y ≡ Less) ns → T (below_all name_cmp x (blank ns))
below_blank x [] h = tt
below_blank x (n ∷ ns) h = rises _ _ (less _ h.0) (below_blank x ns h.1)

names_rise : (ns : List Name) → IsStrictlySortedBy name_cmp ns → IsRising (blank ns)
unfolding IsStrictlySortedBy
names_rise [] h = tt
names_rise (n ∷ ns) h = rises _ _ (below_blank n ns h.0) (names_rise ns h.1)

length_blank : (ns : List Name) → length (blank ns) ≡ length ns
length_blank [] = refl
length_blank (n ∷ ns) = ap suc (length_blank ns)

entries_blanks : (ns : List Name) → IsStrictlySortedBy name_cmp ns → map.entries (blanks ns) ≡ blank ns
entries_blanks ns h =
    let s = names_rise ns h in
    let same : blanks ns ≡ map.from_sorted (blank ns) = same_map names_total names_exact _ _ (λ q. get-from_entries names_total (blank ns) q ∙ sym (get-from_sorted name_cmp (blank ns) q s)) in
    ap map.entries same ∙ entries-from_sorted name_cmp (blank ns) s

pub len_blanks : (ns : List Name) → IsStrictlySortedBy name_cmp ns → length ns ≡ map.len (blanks ns)
len_blanks ns h = sym (len-entries (blanks ns) ∙ ap length (entries_blanks ns h) ∙ length_blank ns)

pub blanks_bytes : (ns rest : List Name) (len : ℕ) → rest ≡ [] → IsStrictlySortedBy name_cmp ns → len + entry_bytes (blank rest) ≡ entry_bytes (blank ns) → len ≡ stored_bytes (blanks ns)
blanks_bytes ns rest len end h e = omega (arith, e, ap (λ r. entry_bytes (blank r)) end, ap entry_bytes (entries_blanks ns h))

pub no_bytes : (m : PropMap) → m ≡ map.empty → 0 ≡ stored_bytes m
no_bytes m e = sym (ap stored_bytes e ∙ ap entry_bytes entries_none)

pub len_none : (m : PropMap) → m ≡ map.empty → 0 ≡ map.len m
len_none m e = sym (ap map.len e ∙ len-empty name_cmp (List ℕ))

-- ---- names put, one after another

abbrev pub put_names : List Name → PropMap → PropMap
put_names [] m = m
put_names (n ∷ ns) m = put_names ns (map.insert m n [])

get-put_names : (ns : List Name) (m : PropMap) (q : Name) → map.get (put_names ns m) q ≡ given (among q ns) (map.get m q)
get-put_names [] m q = refl
get-put_names (n ∷ ns) m q =
    get-put_names ns (map.insert m n []) q
    ∙ ap (given (among q ns)) (get-insert names_total m n [] q)
    ∙ elim (same_name q n) as (λ b. given (among q ns) (given b (map.get m q)) ≡ given (b || among q ns) (map.get m q)) [
      | true ↦ same_either (among q ns)
      | false ↦ refl
    ]
  where
    same_either : (b : Bool) → given b (Some []) ≡ Some []
    same_either true = refl
    same_either false = refl

pub all_named : (ns rest : List Name) (m start : PropMap) → rest ≡ [] → put_names rest m ≡ put_names ns start → start ≡ map.empty → m ≡ blanks ns
all_named ns rest m start end e first =
    sym (ap (λ r. put_names r m) end)
    ∙ e
    ∙ ap (put_names ns) first
    ∙ same_map names_total names_exact _ _ (λ q.
    get-put_names ns map.empty q
    ∙ ap (given (among q ns)) (get-empty name_cmp q)
    ∙ sym (get-blanks ns q))

-- ---- names taken out, one after another

pub names_out : (ns rest : List Name) (list start : PropMap) → rest ≡ [] → without (blank rest) list ≡ without (blank ns) start → list ≡ kept_in (blanks ns) start
names_out ns rest list start end e =
    sym (ap (λ r. without (blank r) list) end)
    ∙ e
    ∙ same_map names_total names_exact _ _ (λ q.
    get-without (blank ns) start q
    ∙ ap (λ o. cond (is_some o) None (map.get start q)) (sym (get-from_entries names_total (blank ns) q))
    ∙ sym (turned (map.contains_key (blanks ns) q) (map.get start q))
    ∙ sym (get-retained start (λ n. not (map.contains_key (blanks ns) n)) q))

-- nothing is taken out where there are no names
pub none_out : (removed list : PropMap) → removed ≡ map.empty → list ≡ kept_in removed list
none_out removed list e = names_out [] [] list list refl refl ∙ ap (λ r. kept_in r list) (sym e)

pub none_there : (m : PropMap) (q : Name) → m ≡ map.empty → false ≡ map.contains_key m q
none_there m q e = sym (ap (λ x. map.contains_key x q) e ∙ ap is_some (get-empty name_cmp q))
