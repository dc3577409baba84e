-- A text's sum in a header line.
use Rattle.std.proofs.Common.{◌≡◌, ℕ, zero, suc, ◌*◌, ◌/◌, ◌%◌, ◌<◌, ◌^◌, ◌==◌, not, true, false, List, [], ◌∷◌, ◌++◌, length, slice_index, Option, Some, None, Ok, Err, refl, ap, ◌∙◌, arith}
use Rattle.std.proofs.lemmas.Bool.Decides.{nat_tests}
use Rattle.std.specs.Int.{byte_at, to_le_bytes, w32}
use Rattle.hex.specs.Hex.{IsBytes, encode_lower, encode_with, decode_sized, decode_pairs, lower_digits}
use Rattle.hex.proofs.HexLemmas.{length-encode_with, decode_pairs-encode_with, IsDigits-lower_digits}
use Rattle.md5.specs.Md5.{md5, digest_bytes}
use Rattle.md5.proofs.StandardFacts.{length-md5}
use Rattle.dump_text.specs.Headers.{same, sum_of}
use Rattle.node_base.proofs.BlockSpelled.{both}
use Rattle.dump_text.specs.Streams.{NoLf}
use Rattle.dump_text.proofs.CanonRead.{has_no_lf, not_true}

bytes_nil : IsBytes []
bytes_nil i = omega arith

bytes_more : (b : ℕ) (xs : List ℕ) → b < 256 → IsBytes xs → IsBytes (b ∷ xs)
bytes_more b xs h r zero = h
bytes_more b xs h r (suc i) = r i

bytes_append : (xs ys : List ℕ) → IsBytes xs → IsBytes ys → IsBytes (xs ++ ys)
bytes_append [] ys a b = b
bytes_append (x ∷ xs) ys a b = bytes_more x (xs ++ ys) (a zero) (bytes_append xs ys (λ i. a (suc i)) b)

below : (x : ℕ) → x % 256 < 256
below x = omega arith

small_byte : (i n : ℕ) → byte_at i n < 256
small_byte zero n = below n
small_byte (suc i) n = below (n / 256 ^ suc i)

word_bytes : (n : ℕ) → IsBytes (to_le_bytes w32 n)
word_bytes n =
    bytes_more (byte_at 0 n) (byte_at 1 n ∷ byte_at 2 n ∷ byte_at 3 n ∷ []) (small_byte 0 n)
    (bytes_more (byte_at 1 n) (byte_at 2 n ∷ byte_at 3 n ∷ []) (small_byte 1 n)
    (bytes_more (byte_at 2 n) (byte_at 3 n ∷ []) (small_byte 2 n)
    (bytes_more (byte_at 3 n) [] (small_byte 3 n) bytes_nil)))

digest_small : (h : List ℕ) (n : ℕ) → IsBytes (digest_bytes h n)
unfolding digest_bytes
digest_small h zero = bytes_nil
digest_small h (suc n) = bytes_append (digest_bytes h n) (to_le_bytes w32 (slice_index h n)) (digest_small h n) (word_bytes (slice_index h n))

-- a sum is of bytes
pub sum_bytes : (text : List ℕ) → IsBytes (md5 text)
unfolding md5
sum_bytes text = digest_small _ 4

sized : (s : List ℕ) (n : ℕ) → length s ≡ 2 * n → decode_sized s n ≡ decode_pairs 0 s
sized s n e = grind (arith, nat_tests)

-- the digits of a sum are read as the sum
sum_back : (text : List ℕ) → decode_sized (encode_lower (md5 text)) 16 ≡ Ok (md5 text)
sum_back text =
    let long = length-encode_with lower_digits (md5 text) in
    sized (encode_lower (md5 text)) 16 (omega (arith, long, length-md5 text))
    ∙ decode_pairs-encode_with lower_digits IsDigits-lower_digits 0 (md5 text) (sum_bytes text)

pub sum_read : (text : List ℕ) → sum_of (encode_lower (md5 text)) ≡ Some (md5 text)
sum_read text = ap (λ r. elim r as (λ _. Option (List ℕ)) [ Ok sum ↦ Some sum | Err e ↦ None ]) (sum_back text)

pub sum_length : (text : List ℕ) → length (encode_lower (md5 text)) ≡ 32
sum_length text = omega (arith, length-encode_with lower_digits (md5 text), length-md5 text)

none_ten : (xs : List ℕ) → has_no_lf xs ≡ true → (d : ℕ) → (slice_index xs d == 10) ≡ false
none_ten [] e d = refl
none_ten (x ∷ xs) e zero = not_true (x == 10) (both (not (x == 10)) (has_no_lf xs) e).0
none_ten (x ∷ xs) e (suc d) = none_ten xs (both (not (x == 10)) (has_no_lf xs) e).1 d

not_ten : (d : ℕ) → (slice_index lower_digits d == 10) ≡ false
not_ten = none_ten lower_digits refl

pub lone_hex : (xs : List ℕ) → NoLf (encode_lower xs)
unfolding encode_with
lone_hex [] = tt
lone_hex (b ∷ xs) = (not_ten (b / 16), (not_ten (b % 16), lone_hex xs))

eq_itself : (x : ℕ) → (x == x) ≡ true
eq_itself x = grind (arith, nat_tests)

pub same_itself : (xs : List ℕ) → same xs xs ≡ true
same_itself [] = refl
same_itself (x ∷ xs) = rw (eq_itself x) (same_itself xs)
