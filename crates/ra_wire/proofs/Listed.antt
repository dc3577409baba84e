-- Properties that are written are read again, and what stands beside them.
use Rattle.std.proofs.Common.{◌≡◌, ℕ, ◌≤◌, Bool, true, false, List, [], ◌∷◌, length, ap, ◌∙◌, refl}
use Rattle.std.specs.Prelude.{map, Option, Some, None, if◌then◌else◌}
use Rattle.std.specs.Option.{option_map, option_and_then}
use Rattle.std.specs.FinMap as finite
use Rattle.ra_item.specs.Items.{End, Then, Text, Nested, row}
use Rattle.node_base.specs.Path.{Name}
use Rattle.node_base.specs.Entries.{Entries}
use Rattle.node_base.specs.Props.{PropMap, IsProps, is_prop_name}
use Rattle.node_base.specs.BlockGrammar.{MayStand, MayFollow, with_all, all_set}
use Rattle.node_base.proofs.BlockWritten.{entries_stand}
use Rattle.ra_wire.specs.Params.{Read, right, text_in, list_in, each}
use Rattle.ra_wire.specs.Answers.{short_value, property_in, with_property, one_more, properties_of, Dirent, dirent_in, FileFound, file_in, DirFound}
use Rattle.ra_wire.specs.Replies.{property, dirent, file_found}
use Rattle.ra_wire.specs.ReadAgain.{answered, props_told, AreEntriesReadAgain, ArePropsReadAgain, IsDirReadAgain}
use Rattle.ra_wire.proofs.Kept.{not_longer, prop_name_again}

value_again : (v : List ℕ) → length v ≤ 65536 → short_value v ≡ Some v
value_again v small = ap (λ b. if b then None else Some v) (not_longer 65536 (length v) small)

-- what follows a property's name, and its value
abbrev valued : Name → Option (List ℕ) → Option (Name × List ℕ)
valued n v = option_map (λ w. (n, w)) v

abbrev behind_name : List ℕ → Read Name → Option (Name × List ℕ)
behind_name v r = option_and_then (λ n. option_and_then (λ t. option_map (λ w. (n.0, w)) (short_value t.0)) (text_in n.1)) r

property_again : (n : Name) (v : List ℕ) → is_prop_name n ≡ true → length n ≤ 255 → length v ≤ 65536 → property_in (property (n, v)) ≡ Some (n, v)
property_again n v rule short small =
    ap (λ r. behind_name v (right r (row (Text v ∷ [])))) (prop_name_again n rule short) ∙ ap (valued n) (value_again v small)

-- a property that may follow is put among the others
put_again : (m : PropMap) (n : Name) (v : List ℕ) → MayFollow m finite.empty n v → one_more m (property (n, v)) ≡ Some (finite.insert m n v)
put_again m n v f =
    ap (option_and_then (with_property m)) (property_again n v f.new.rule f.new.short f.small)
    ∙ ap (λ b. if b then Some (finite.insert m n v) else None) f.fit

listed_again : (m : PropMap) (es : Entries) → MayStand m finite.empty (all_set es) → properties_of m (row (map property es)) ≡ Some (with_all m (all_set es))
listed_again m [] f = refl
listed_again m (e ∷ es) f = ap (option_and_then (λ n. properties_of n (row (map property es)))) (put_again m e.0 e.1 f.0) ∙ listed_again (finite.insert m e.0 e.1) es f.1

whole_again : (m : PropMap) → IsProps m → properties_of finite.empty (row (map property (finite.entries m))) ≡ Some m
whole_again m p = let s = entries_stand m p in listed_again finite.empty (finite.entries m) s.0 ∙ ap Some s.1

-- what is read in front of a list's end
abbrev paired : Option PropMap → Read PropMap
paired o = option_map (λ n. (n, End)) o

abbrev first_of : Option PropMap → Option PropMap
first_of o = option_map (λ r. r.0) (paired o)

-- what is read of a file behind its sum and revision
abbrev file_of : List ℕ → ℕ → Option PropMap → Option FileFound
file_of sum n o = option_map (λ p. record { sum = Some sum; revision = n; props = p.0 }) (paired o)

file_again : (m : PropMap) → IsProps m → (sum : List ℕ) (n : ℕ) (wanted : Bool) → answered file_in (file_found sum n wanted m) ≡ Some (record { sum = Some sum; revision = n; props = props_told wanted m })
file_again m p sum n true = ap (file_of sum n) (whole_again m p)
file_again m p sum n false = refl

pub props_again : (m : PropMap) → IsProps m → ArePropsReadAgain m
props_again m p = record { of_proplist = ap first_of (whole_again m p); of_revprops = ap first_of (whole_again m p); of_file = file_again m p }

-- what is read of a directory behind its revision, by its properties and its entries
abbrev dir_with : ℕ → PropMap → Option (List Dirent) → Option DirFound
dir_with n m o = option_map (λ es. record { revision = n; props = m; entries = es }) o

abbrev and_entries : List Dirent → Option PropMap → Read PropMap
and_entries ds o = option_map (λ m. (m, Then (Nested (row (map dirent ds))) End)) o

abbrev dir_of : ℕ → List Dirent → Option PropMap → Option DirFound
dir_of n ds o = option_and_then (λ p. option_and_then (λ l. dir_with n p.0 (each dirent_in l.0)) (list_in p.1)) (and_entries ds o)

pub dir_again : (m : PropMap) (ds : List Dirent) → IsProps m → AreEntriesReadAgain ds → IsDirReadAgain m ds
dir_again m ds p a n true = ap (dir_of n ds) (whole_again m p) ∙ ap (dir_with n m) a
dir_again m ds p a n false = ap (dir_with n finite.empty) a
