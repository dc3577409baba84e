-- The items of a drive are within the limits of items.
use Rattle.std.proofs.Common.{◌≡◌, ℕ, zero, suc, ◌+◌, ◌*◌, ◌/◌, ◌%◌, ◌^◌, ◌≤◌, ◌<◌, max, Bool, true, false, cond, List, [], ◌∷◌, ◌++◌, map, length, take, drop, codes, Option, Some, None, refl, length-append, arith, nat_lt, if◌then◌else◌}
use Rattle.std.proofs.lemmas.Fmt.{length-decimal-le}
use Rattle.std.proofs.lemmas.List.{length-take}
use Rattle.std.specs.Prelude.{IfSome}
use Rattle.std.specs.Option.{option_map}
use Rattle.std.specs.List.{AllByRecursion}
use Rattle.std.specs.Fmt.{decimal}
use Rattle.std.specs.FinMap as finite
use Rattle.hex.specs.Hex.{encode_lower, lower_digits}
use Rattle.hex.proofs.HexLemmas.{length-encode_with}
use Rattle.md5.specs.Md5.{md5}
use Rattle.md5.proofs.StandardFacts.{length-md5}
use Rattle.node_base.specs.Path.{Name, Path, same_path}
use Rattle.node_base.specs.PathText.{is_path, path_text}
use Rattle.node_base.specs.Props.{PropMap, IsProps}
use Rattle.node_base.specs.Tree.{PathMap}
use Rattle.node_base.specs.declared.node.Source.{Source}
use Rattle.ra_item.specs.declared.limits.TheConstants.{STRING_BYTES}
use Rattle.node_base.proofs.ReadBack.{fits_of_path, weight_of_fits, length_of_text}
use Rattle.dump_load.specs.declared.change.Change.{Change}
use Rattle.delta_editor.specs.declared.call.Call.{Call}
use Rattle.delta_editor.specs.declared.call.Call.TheVariants as call
use Rattle.editor_ends.specs.Fronts.{above, fronts}
use Rattle.editor_ends.specs.Parts.{pieces}
use Rattle.editor_ends.specs.Drive.{base_number}
use Rattle.ra_item.specs.Bytes.{is_word}
use Rattle.ra_item.specs.Items.{Item, Number, Text, row, spell, spell_all, nesting, deepest, Fits, AllFit, Within}
use Rattle.ra_edit.specs.Commands.{list, command, revision, string, source, sum_text, opening, with_opening, token, next_token, number_of, token_of, chunk, parts_within, spelled, spelled_after, edit_items}
use Rattle.ra_edit.specs.EditLaws.{IsRev}
use Rattle.svndiff.specs.Spelling.{groups, new_data, window, head}
use Rattle.dump_load.specs.Bounds.{IsSmall, IsSource}
use Rattle.edit_road.specs.Sent.{IsSent, body_of}
use Rattle.edit_road.proofs.Counting.{body_few}
use Rattle.edit_road.proofs.Limits.{IsEntry, above_path, fronts_paths, entries_fit}
use Rattle.edit_road.proofs.Walked.{Entry, Holds, body_all}
use Rattle.edit_road.proofs.Within.{rev_of, each_of, some_to, each_holds}

-- ---- items by their parts

-- an item that is no list
record Leaf (x : Item) : Type 0 where
  fits : Fits x
  flat : nesting x ≤ 0
  short : length (spell x) ≤ 1048600

-- a parameter: an item that is no list, or a list of two of them at most
record Param (x : Item) : Type 0 where
  fits : Fits x
  flat : nesting x ≤ 1
  short : length (spell x) ≤ 2097204

max_least : (a b n : ℕ) → a ≤ n → b ≤ n → max a b ≤ n
max_least a b n h k = grind arith

param_of : (x : Item) → Leaf x → Param x
param_of x h = record { fits = h.fits; flat = omega (arith, h.flat); short = omega (arith, h.short) }

row_leaves : (xs : List Item) → AllByRecursion Leaf xs → AllFit (row xs) × (deepest (row xs) ≤ 0) × (length (spell_all (row xs)) ≤ length xs * 1048600)
row_leaves [] h = (tt, omega arith, omega arith)
row_leaves (x ∷ xs) h =
    let r = row_leaves xs h.1 in
    ((h.0.fits, r.0), max_least (nesting x) (deepest (row xs)) 0 h.0.flat r.1, omega (arith, h.0.short, r.2, length-append (spell x) (spell_all (row xs))))

row_params : (xs : List Item) → AllByRecursion Param xs → AllFit (row xs) × (deepest (row xs) ≤ 1) × (length (spell_all (row xs)) ≤ length xs * 2097204)
row_params [] h = (tt, omega arith, omega arith)
row_params (x ∷ xs) h =
    let r = row_params xs h.1 in
    ((h.0.fits, r.0), max_least (nesting x) (deepest (row xs)) 1 h.0.flat r.1, omega (arith, h.0.short, r.2, length-append (spell x) (spell_all (row xs))))

list_param : (xs : List Item) → length xs ≤ 2 → AllByRecursion Leaf xs → Param (list xs)
list_param xs l h =
    let r = row_leaves xs h in
    record { fits = r.0; flat = omega (arith, r.1); short = omega (arith, l, r.2, length-append (spell_all (row xs)) (41 ∷ 32 ∷ [])) }

command_within : (name : List ℕ) (params : List Item) → is_word name ≡ true → length name ≤ 64 → length params ≤ 4 → AllByRecursion Param params → Within (command name params)
command_within name params w n l h =
    let r = row_params params h in
    let inner = spell (list params) in
    record {
      fits = ((w, n), (r.0, tt));
      depth = omega (arith, max_least 0 (max (deepest (row params) + 1) 0) 2 (omega arith) (max_least (deepest (row params) + 1) 0 2 (omega (arith, r.1)) (omega arith)));
      bytes = omega (arith, n, l, r.2, length-append (spell_all (row params)) (41 ∷ 32 ∷ []), length-append inner [], length-append name (32 ∷ []), length-append (name ++ 32 ∷ []) (inner ++ []), length-append ((name ++ 32 ∷ []) ++ (inner ++ [])) (41 ∷ 32 ∷ []));
    }

text_leaf : (t : List ℕ) → length t ≤ STRING_BYTES → Leaf (Text t)
text_leaf t l = record {
  fits = l;
  flat = omega arith;
  short = omega (arith, l, length-decimal-le 7 (length t) (omega arith) (omega (arith, l)) (omega (arith, l)), length-append (decimal (length t)) (58 ∷ (t ++ 32 ∷ [])), length-append t (32 ∷ []));
}

number_leaf : (n : ℕ) → n ≤ 65535 → Leaf (Number n)
number_leaf n l = record {
  fits = omega (arith, l);
  flat = omega arith;
  short = omega (arith, length-decimal-le 5 n (omega arith) (omega (arith, l)) (omega (arith, l)), length-append (decimal n) (32 ∷ []));
}

token_leaf : (n : ℕ) → n < 2 ^ 64 → Leaf (Text (token n))
token_leaf n l = text_leaf (token n) (omega (arith, length-decimal-le 20 n (omega arith) (omega (arith, l)) l))

word : (x : Item) → Leaf x → Param x
word = param_of

none_param : Param (list [])
none_param = list_param [] (omega arith) tt

rev_param : (base : Option ℕ) → IsRev base → Param (revision base)
rev_param None h = none_param
rev_param (Some n) h = list_param (Number n ∷ []) (omega arith) (number_leaf n h, tt)

path_short : (p : Path) → is_path p ≡ true → length (path_text p) ≤ 1024
path_short p e = omega (arith, length_of_text p, weight_of_fits p (fits_of_path p e))

path_param : (p : Path) → is_path p ≡ true → Param (Text (path_text p))
path_param p e = word (Text (path_text p)) (text_leaf (path_text p) (omega (arith, path_short p e)))

source_param : (o : Option Source) → IfSome o IsSource → Param (source o)
source_param None h = none_param
source_param (Some s) h = list_param (Text (47 ∷ path_text s.path) ∷ Number s.revision ∷ []) (omega arith) (text_leaf (47 ∷ path_text s.path) (omega (arith, path_short s.path h.path)), (number_leaf s.revision h.revision, tt))

string_param : (o : Option (List ℕ)) → IfSome o (λ v. length v ≤ 65536) → Param (string o)
string_param None h = none_param
string_param (Some v) h = list_param (Text v ∷ []) (omega arith) (text_leaf v (omega (arith, h)), tt)

-- ---- windows

groups_short : (n : ℕ) → length (groups n) ≤ 3
groups_short n = by (nat_lt n 128) (nat_lt n 16384)
  where
    by : (s t : Bool) → length (if s then n ∷ [] else if t then (128 + n / 128) ∷ (n % 128) ∷ [] else (128 + n / 16384) ∷ (128 + (n / 128) % 128) ∷ (n % 128) ∷ []) ≤ 3
    by true t = omega arith
    by false true = omega arith
    by false false = omega arith

new_short : (n : ℕ) → length (new_data n) ≤ 4
new_short n = by (nat_lt n 64)
  where
    by : (s : Bool) → length (if s then (128 + n) ∷ [] else 128 ∷ groups n) ≤ 4
    by true = omega arith
    by false = omega (arith, groups_short n)

window_short : (new : List ℕ) → length new ≤ 65536 → length (window new) ≤ 65600
window_short new l =
    let n = length new in
    let m = length (new_data n) in
    omega (arith, l, groups_short n, groups_short m, new_short n, length-append (groups n) (groups m ++ (groups n ++ (new_data n ++ new))), length-append (groups m) (groups n ++ (new_data n ++ new)), length-append (groups n) (new_data n ++ new), length-append (new_data n) new)

chunk_within : (n : ℕ) (bytes : List ℕ) → n < 2 ^ 64 → length bytes ≤ 65600 → Within (chunk (Text (token n)) bytes)
chunk_within n bytes l k = command_within (codes "textdelta-chunk") (Text (token n) ∷ Text bytes ∷ []) refl (omega arith) (omega arith) (word (Text (token n)) (token_leaf n l), (word (Text bytes) (text_leaf bytes (omega (arith, k))), tt))

piece_short : (n : ℕ) (t : List ℕ) → length (take n t) ≤ n
piece_short n t = omega (arith, length-take n t)

chunks_within : (n : ℕ) (k : ℕ) (text : List ℕ) → n < 2 ^ 64 → AllByRecursion Within (map (λ part. chunk (Text (token n)) (window part)) (parts_within k text))
chunks_within n zero text l = tt
chunks_within n (suc k) [] l = tt
chunks_within n (suc k) (b ∷ text) l = (chunk_within n (window (take 65536 (b ∷ text))) l (window_short (take 65536 (b ∷ text)) (piece_short 65536 (b ∷ text))), chunks_within n k (drop 65536 (b ∷ text)) l)

-- ---- calls

number_small : (opened : List Path) (p : Path) → number_of opened p ≤ length opened
number_small [] p = omega arith
number_small (q ∷ opened) p = elim (same_path q p) as (λ b. cond b (length opened) (number_of opened p) ≤ suc (length opened)) [ true ↦ omega arith | false ↦ omega (arith, number_small opened p) ]

-- the items of a call are within the limits, whatever was opened before
abbrev pub IsSpelled : Call → Type 0
IsSpelled c = (opened : List Path) → length opened < 2 ^ 64 → AllByRecursion Within (spelled opened c)

module _ (opened : List Path) (few : length opened < 2 ^ 64) where
  old_token : (p : Path) → Param (token_of opened p)
  old_token p = word (token_of opened p) (token_leaf (number_of opened p) (omega (arith, few, number_small opened p)))

  new_token : Param (next_token opened)
  new_token = word (next_token opened) (token_leaf (length opened) few)

target_spelled : (n : ℕ) → n ≤ 65535 → IsSpelled (call.Target n)
target_spelled n l opened few = (command_within (codes "target-rev") (Number n ∷ []) refl (omega arith) (omega arith) (word (Number n) (number_leaf n l), tt), tt)

root_spelled : (base : Option ℕ) → IsRev base → IsSpelled (call.OpenRoot base)
root_spelled base h opened few = (command_within (codes "open-root") (revision base ∷ next_token opened ∷ []) refl (omega arith) (omega arith) (rev_param base h, (new_token opened few, tt)), tt)

add_dir_spelled : (up p : Path) (from : Option Source) → is_path p ≡ true → IfSome from IsSource → IsSpelled (call.AddDir up p from)
add_dir_spelled up p from e h opened few = (command_within (codes "add-dir") (Text (path_text p) ∷ token_of opened up ∷ next_token opened ∷ source from ∷ []) refl (omega arith) (omega arith) (path_param p e, (old_token opened few up, (new_token opened few, (source_param from h, tt)))), tt)

add_file_spelled : (up p : Path) (from : Option Source) → is_path p ≡ true → IfSome from IsSource → IsSpelled (call.AddFile up p from)
add_file_spelled up p from e h opened few = (command_within (codes "add-file") (Text (path_text p) ∷ token_of opened up ∷ next_token opened ∷ source from ∷ []) refl (omega arith) (omega arith) (path_param p e, (old_token opened few up, (new_token opened few, (source_param from h, tt)))), tt)

open_dir_spelled : (up p : Path) (base : Option ℕ) → is_path p ≡ true → IsRev base → IsSpelled (call.OpenDir up p base)
open_dir_spelled up p base e h opened few = (command_within (codes "open-dir") (Text (path_text p) ∷ token_of opened up ∷ next_token opened ∷ revision base ∷ []) refl (omega arith) (omega arith) (path_param p e, (old_token opened few up, (new_token opened few, (rev_param base h, tt)))), tt)

open_file_spelled : (up p : Path) (base : Option ℕ) → is_path p ≡ true → IsRev base → IsSpelled (call.OpenFile up p base)
open_file_spelled up p base e h opened few = (command_within (codes "open-file") (Text (path_text p) ∷ token_of opened up ∷ next_token opened ∷ revision base ∷ []) refl (omega arith) (omega arith) (path_param p e, (old_token opened few up, (new_token opened few, (rev_param base h, tt)))), tt)

delete_spelled : (up p : Path) (base : Option ℕ) → is_path p ≡ true → IsRev base → IsSpelled (call.DeleteEntry up p base)
delete_spelled up p base e h opened few = (command_within (codes "delete-entry") (Text (path_text p) ∷ revision base ∷ token_of opened up ∷ []) refl (omega arith) (omega arith) (path_param p e, (rev_param base h, (old_token opened few up, tt))), tt)

dir_prop_spelled : (p : Path) (name : Name) (value : Option (List ℕ)) → length name ≤ 255 → IfSome value (λ v. length v ≤ 65536) → IsSpelled (call.DirProp p name value)
dir_prop_spelled p name value l h opened few = (command_within (codes "change-dir-prop") (token_of opened p ∷ Text name ∷ string value ∷ []) refl (omega arith) (omega arith) (old_token opened few p, (word (Text name) (text_leaf name (omega (arith, l))), (string_param value h, tt))), tt)

file_prop_spelled : (p : Path) (name : Name) (value : Option (List ℕ)) → length name ≤ 255 → IfSome value (λ v. length v ≤ 65536) → IsSpelled (call.FileProp p name value)
file_prop_spelled p name value l h opened few = (command_within (codes "change-file-prop") (token_of opened p ∷ Text name ∷ string value ∷ []) refl (omega arith) (omega arith) (old_token opened few p, (word (Text name) (text_leaf name (omega (arith, l))), (string_param value h, tt))), tt)

start_spelled : (p : Path) → IsSpelled (call.TextStart p)
start_spelled p opened few =
    (command_within (codes "apply-textdelta") (token_of opened p ∷ list [] ∷ []) refl (omega arith) (omega arith) (old_token opened few p, (none_param, tt)), (chunk_within (number_of opened p) head (omega (arith, few, number_small opened p)) (omega arith), tt))

piece_spelled : (p : Path) (piece : List ℕ) → IsSpelled (call.TextPiece p piece)
piece_spelled p piece opened few = chunks_within (number_of opened p) (length piece) piece (omega (arith, few, number_small opened p))

text_end_spelled : (p : Path) → IsSpelled (call.TextEnd p)
text_end_spelled p opened few = (command_within (codes "textdelta-end") (token_of opened p ∷ []) refl (omega arith) (omega arith) (old_token opened few p, tt), tt)

close_file_spelled : (p : Path) (o : Option (List ℕ)) → IsSpelled (call.CloseFile p (option_map md5 o))
close_file_spelled p o opened few = (command_within (codes "close-file") (token_of opened p ∷ string (sum_text (option_map md5 o)) ∷ []) refl (omega arith) (omega arith) (old_token opened few p, (sum o, tt)), tt)
  where
    sum : (o : Option (List ℕ)) → Param (string (sum_text (option_map md5 o)))
    sum None = none_param
    sum (Some t) = string_param (Some (encode_lower (md5 t))) (omega (arith, length-encode_with lower_digits (md5 t), length-md5 t))

close_dir_spelled : (p : Path) → IsSpelled (call.CloseDir p)
close_dir_spelled p opened few = (command_within (codes "close-dir") (token_of opened p ∷ []) refl (omega arith) (omega arith) (old_token opened few p, tt), tt)

end_spelled : IsSpelled call.CloseEdit
end_spelled opened few = (command_within (codes "finish-replay") [] refl (omega arith) (omega arith) tt, tt)

-- ---- a drive

any_of : {X : Type 0} (Q : X → Type 0) → ((x : X) → Q x) → (xs : List X) → AllByRecursion Q xs
any_of Q h [] = tt
any_of Q h (x ∷ xs) = (h x, any_of Q h xs)

some_any : {A : Type 0} (P : A → Type 0) (o : Option A) → ((x : A) → P x) → IfSome o P
some_any P None h = tt
some_any P (Some x) h = h x

spelled_holds : (b : Option ℕ) (c : Change) (old : PropMap) → IsRev b → IsSmall c → IsProps old → Holds IsSpelled b c old
spelled_holds b c old rev small props = record {
  closes_up = any_of (λ d. IsSpelled (call.CloseDir d)) close_dir_spelled (fronts c.path);
  closes_above = any_of (λ d. IsSpelled (call.CloseDir d)) close_dir_spelled (fronts (above c.path));
  opens_up = each_of (λ d. is_path d ≡ true) (λ d. IsSpelled (call.OpenDir (above d) d b)) (λ d e. open_dir_spelled (above d) d b e rev) (fronts (above c.path)) (fronts_paths [] (above c.path) (above_path c.path small.path));
  delete = delete_spelled (above c.path) c.path b small.path rev;
  add_file = add_file_spelled (above c.path) c.path c.source small.path small.source;
  add_dir = add_dir_spelled (above c.path) c.path c.source small.path small.source;
  open_file = open_file_spelled (above c.path) c.path b small.path rev;
  open_dir = open_dir_spelled (above c.path) c.path b small.path rev;
  gone_dir = each_of {X = Entry} IsEntry (λ e. IsSpelled (call.DirProp c.path e.0 None)) (λ e h. dir_prop_spelled c.path e.0 None h.1 tt) (finite.entries old) (entries_fit old props);
  gone_file = each_of {X = Entry} IsEntry (λ e. IsSpelled (call.FileProp c.path e.0 None)) (λ e h. file_prop_spelled c.path e.0 None h.1 tt) (finite.entries old) (entries_fit old props);
  set_dir = some_to IsProps (λ m. AllByRecursion (λ (e : Entry). IsSpelled (call.DirProp c.path e.0 (Some e.1))) (finite.entries m)) c.props (λ m h. each_of {X = Entry} IsEntry (λ e. IsSpelled (call.DirProp c.path e.0 (Some e.1))) (λ e k. dir_prop_spelled c.path e.0 (Some e.1) k.1 k.2) (finite.entries m) (entries_fit m h)) small.parts.0;
  set_file = some_to IsProps (λ m. AllByRecursion (λ (e : Entry). IsSpelled (call.FileProp c.path e.0 (Some e.1))) (finite.entries m)) c.props (λ m h. each_of {X = Entry} IsEntry (λ e. IsSpelled (call.FileProp c.path e.0 (Some e.1))) (λ e k. file_prop_spelled c.path e.0 (Some e.1) k.1 k.2) (finite.entries m) (entries_fit m h)) small.parts.0;
  text = some_any (λ t. IsSpelled (call.TextStart c.path) × AllByRecursion (λ x. IsSpelled (call.TextPiece c.path x)) (pieces t) × IsSpelled (call.TextEnd c.path)) c.text (λ t. (start_spelled c.path, any_of (λ x. IsSpelled (call.TextPiece c.path x)) (piece_spelled c.path) (pieces t), text_end_spelled c.path));
  close = close_file_spelled c.path c.text;
}

all_join : (xs ys : List Item) → AllByRecursion Within xs → AllByRecursion Within ys → AllByRecursion Within (xs ++ ys)
all_join [] ys h k = k
all_join (x ∷ xs) ys h k = (h.0, all_join xs ys h.1 k)

one_more : (opened : List Path) (o : Option Path) → length (with_opening opened o) ≤ suc (length opened)
one_more opened None = omega arith
one_more opened (Some p) = omega arith

after_spelled : (opened : List Path) (cs : List Call) → length opened + length cs < 2 ^ 64 → AllByRecursion IsSpelled cs → AllByRecursion Within (spelled_after opened cs)
after_spelled opened [] l h = tt
after_spelled opened (c ∷ cs) l h = all_join (spelled opened c) (spelled_after (with_opening opened (opening c)) cs) (h.0 opened (omega (arith, l))) (after_spelled (with_opening opened (opening c)) cs (omega (arith, l, one_more opened (opening c))) h.1)

pub items_within : (trees : List PathMap) (s : List Change) → IsSent trees s → AllByRecursion Within (edit_items (call.Target (length trees) ∷ call.OpenRoot (base_number trees) ∷ body_of trees s))
items_within trees s sent =
    after_spelled [] (call.Target (length trees) ∷ call.OpenRoot (base_number trees) ∷ body_of trees s) (omega (arith, body_few trees s sent))
    (target_spelled (length trees) sent.numbered, (root_spelled (base_number trees) (rev_of trees sent.numbered), body_all IsSpelled trees s (each_holds IsSpelled trees sent.nodes (λ c old small props. spelled_holds (base_number trees) c old (rev_of trees sent.numbered) small props) [] s tt sent.bounded.small) (close_dir_spelled []) end_spelled))
