-- Values as they are spelled.
use Rattle.std.proofs.Common.{◌≡◌, ◌≢◌, ◌<◌, ◌≤◌, ℕ, zero, suc, Bool, true, false, List, [], ◌∷◌, Option, Some, None, arith, refl, length, sym, ap, ◌∙◌, true≢false, IfNone, IfSome, IfOk, IsOk, ◌↔◌, Result, Ok, Err}
use Rattle.std.specs.Result.{result_ok}
use Rattle.uuid.specs.Text.{parsed}
use Rattle.uuid.specs.declared.error.Error.{Error}
use Rattle.std.specs.Prelude.{get_or, MatchOption}
use Rattle.std.specs.Borrow.{Bor}
use Rattle.std.proofs.lemmas.Str.Pattern.{IsSplitOnceResult, split_after, split_parts}
use Rattle.node_base.specs.Numbers.{all_bytes, is_digit, rev_read}
use Rattle.store_engines.specs.Ranges.{first_in, last_in}
use Rattle.store_engines.specs.declared.range.RevRange.{RevRange}
use Rattle.command_words.specs.Values.{SpellsRange, identity_read}

no_digit : (d : ℕ) (t : Bool) → is_digit d ≡ t → true ≡ t → d ≢ 58
no_digit d t h is e = let bad : true ≡ false = is ∙ (sym h ∙ ap is_digit e) in cc

first_is : (d : ℕ) (ds : List ℕ) (t : Bool) → is_digit d ≡ t → all_bytes is_digit (d ∷ ds) ≡ true → t ≡ true
first_is d ds true e h = refl
first_is d ds false e h = let bad : false ≡ true = rw e at h in cc

rest_is : (d : ℕ) (ds : List ℕ) (t : Bool) → is_digit d ≡ t → all_bytes is_digit (d ∷ ds) ≡ true → all_bytes is_digit ds ≡ true
rest_is d ds true e h = rw e at h
rest_is d ds false e h = let bad : false ≡ true = rw e at h in cc

-- a colon is no digit
free_of_colons : (ds : List ℕ) → all_bytes is_digit ds ≡ true → (i : ℕ) → i < length ds → get_or ds i 0 ≢ 58
free_of_colons [] h i lt = absurd (omega (arith, lt))
free_of_colons (d ∷ ds) h zero lt = no_digit d (is_digit d) refl (sym (first_is d ds (is_digit d) refl h))
free_of_colons (d ∷ ds) h (suc i) lt = free_of_colons ds (rest_is d ds (is_digit d) refl h) i (omega (arith, lt))

-- what is read as a number is digits
read_digits : (ds : List ℕ) (n : ℕ) → rev_read ds ≡ Some n → all_bytes is_digit ds ≡ true
read_digits [] n h = refl
read_digits (d ∷ ds) n h = by_test (all_bytes is_digit (d ∷ ds)) refl
  where
    by_test : (t : Bool) → all_bytes is_digit (d ∷ ds) ≡ t → all_bytes is_digit (d ∷ ds) ≡ true
    by_test true t = t
    by_test false t = let bad : None ≡ Some n = rw t at h in cc

-- two numbers that are read stand at both sides of the first colon
sides : (value : List ℕ) (r : Option (Bor (List ℕ) × Bor (List ℕ))) (lo hi : ℕ) (s : SpellsRange value lo hi) → IsSplitOnceResult 58 value r
    → MatchOption r ⊥ (λ x. (x.0.now ≡ s.low) × (x.1.now ≡ s.high))
sides value r lo hi s h = split_after 58 value s.low s.high r h (omega arith) s.split (free_of_colons s.low (read_digits s.low lo s.first))

-- without a colon no range is spelled
pub no_sides : (value : List ℕ) → IsSplitOnceResult 58 value None → (lo hi : ℕ) → SpellsRange value lo hi → ⊥
no_sides value h lo hi s = sides value None lo hi s h

-- what two numbers around the first colon say is what is spelled
pub some_between : (value : List ℕ) (x : Bor (List ℕ) × Bor (List ℕ)) (r : Option RevRange) → IsSplitOnceResult 58 value (Some x)
    → IfSome r (λ k. (rev_read x.0.now ≡ Some (first_in k)) × (rev_read x.1.now ≡ Some (last_in k)) × (first_in k ≤ last_in k))
    → IfSome r (λ k. SpellsRange value (first_in k) (last_in k))
some_between value x None h p = tt
some_between value x (Some k) h p = record {
  low = x.0.now;
  high = x.1.now;
  split = (split_parts 58 value (Some x) h (omega arith)).0;
  first = p.0;
  last = p.1;
  ordered = p.2;
}

pub none_between : (value : List ℕ) (x : Bor (List ℕ) × Bor (List ℕ)) (r : Option RevRange) → IsSplitOnceResult 58 value (Some x)
    → IfNone r ((lo hi : ℕ) → rev_read x.0.now ≡ Some lo → rev_read x.1.now ≡ Some hi → lo ≤ hi → ⊥)
    → IfNone r ((lo hi : ℕ) → SpellsRange value lo hi → ⊥)
none_between value x (Some k) h p = tt
none_between value x None h p = λ lo hi s.
    let at = sides value (Some x) lo hi s h in
    p lo hi (ap rev_read at.0 ∙ s.first) (ap rev_read at.1 ∙ s.last) s.ordered

-- of 36 bytes the forms of an identity leave the one with hyphens
parsed_at_36 : (value : List ℕ) → length value ≡ 36 → parsed value ≡ identity_read value
parsed_at_36 value n = rw n refl

ok_of_some : (r : Result (List ℕ) Error) (o : Option (List ℕ)) → (IsOk r ↔ ((u : List ℕ) × (o ≡ Some u))) → IfOk r (λ u. Some u ≡ o) → result_ok r ≡ o
ok_of_some (Ok u) o iff some = some
ok_of_some (Err e) None iff some = refl
ok_of_some (Err e) (Some u) iff some = absurd (true≢false (sym (iff.1 (u, refl))))

-- an identity is read from 36 bytes as it is from its form
pub identity_is : (value bytes : List ℕ) (r : Result (List ℕ) Error) → length value ≡ 36 → bytes ≡ value
    → (IsOk r ↔ ((u : List ℕ) × (parsed bytes ≡ Some u))) → IfOk r (λ u. Some u ≡ parsed bytes) → result_ok r ≡ identity_read value
identity_is value bytes r n same iff some = ok_of_some r (parsed bytes) iff some ∙ (ap parsed same ∙ parsed_at_36 value n)
