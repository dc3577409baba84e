-- A path's text in a header line.
use Rattle.std.proofs.Common.{◌≡◌, ℕ, ◌≤◌, ◌==◌, ◌&&◌, not, true, false, [], ◌∷◌, length, Ok, refl, arith}
use Rattle.std.proofs.lemmas.Bool.Decides.{nat_tests}
use Rattle.std.specs.List.{list_all}
use Rattle.std.specs.Str.{is_utf8}
use Rattle.node_base.specs.Path.{Name, Path}
use Rattle.node_base.specs.Numbers.{is_nil}
use Rattle.node_base.specs.Names.{is_name, is_name_byte, is_dots}
use Rattle.node_base.specs.PathText.{path_text, is_path}
use Rattle.node_base.proofs.BlockSpelled.{both}
use Rattle.node_base.proofs.ReadBack.{kept_of_test, read_of_path, length_of_text, weight_of_fits}
use Rattle.dump_text.specs.Headers.{without_slash, dump_path}
use Rattle.dump_text.specs.Streams.{NoLf}
use Rattle.dump_text.proofs.CanonRead.{lone_append}

no_lf : (b : ℕ) → is_name_byte b ≡ true → (b == 10) ≡ false
no_lf b e = grind (arith, nat_tests)

no_slash : (b : ℕ) → is_name_byte b ≡ true → (b == 47) ≡ false
no_slash b e = grind (arith, nat_tests)

lone_name : (n : Name) → list_all is_name_byte n ≡ true → NoLf n
lone_name [] e = tt
lone_name (b ∷ n) e = let p = both (is_name_byte b) (list_all is_name_byte n) e in (no_lf b p.0, lone_name n p.1)

name_bytes : (n : Name) → is_name n ≡ true → (not (is_nil n) ≡ true) × (list_all is_name_byte n ≡ true)
unfolding is_name
name_bytes n e =
    let outer = both (is_utf8 n && not (is_nil n) && not (is_dots n)) (list_all is_name_byte n) e in
    let inner = both (is_utf8 n && not (is_nil n)) (not (is_dots n)) outer.0 in
    ((both (is_utf8 n) (not (is_nil n)) inner.0).1, outer.1)

lone_names : (p : Path) → list_all is_name p ≡ true → NoLf (path_text p)
lone_names [] e = tt
lone_names (n ∷ []) e = lone_name n (name_bytes n (both (is_name n) true e).0).1
lone_names (n ∷ m ∷ p) e =
    let h = both (is_name n) (list_all is_name (m ∷ p)) e in
    lone_append n (47 ∷ path_text (m ∷ p)) (lone_name n (name_bytes n h.0).1) (refl, lone_names (m ∷ p) h.1)

pub lone_path : (p : Path) → is_path p ≡ true → NoLf (path_text p)
lone_path p e = lone_names p (kept_of_test p e).names

pub short_path : (p : Path) → is_path p ≡ true → length (path_text p) ≤ 1024
short_path p e = omega (arith, length_of_text p, weight_of_fits p (kept_of_test p e).fits)

first_byte : (b : ℕ) (n : Name) → is_name (b ∷ n) ≡ true → (b == 47) ≡ false
first_byte b n e = no_slash b (both (is_name_byte b) (list_all is_name_byte n) (name_bytes (b ∷ n) e).1).0

unslashed : (p : Path) → list_all is_name p ≡ true → without_slash (path_text p) ≡ path_text p
unslashed [] e = refl
unslashed ([] ∷ p) e = let x = (name_bytes [] (both (is_name []) (list_all is_name p) e).0).0 in cc
unslashed ((b ∷ n) ∷ []) e = rw (first_byte b n (both (is_name (b ∷ n)) true e).0) refl
unslashed ((b ∷ n) ∷ m ∷ p) e = rw (first_byte b n (both (is_name (b ∷ n)) (list_all is_name (m ∷ p)) e).0) refl

-- the text of a path is read as the path
pub path_back : (p : Path) → is_path p ≡ true → dump_path (path_text p) ≡ Ok p
path_back p e = rw (unslashed p (kept_of_test p e).names, read_of_path p e) refl
