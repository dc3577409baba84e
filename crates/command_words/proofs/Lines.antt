-- A text's first lines, taken line by line.
use Rattle.std.proofs.Common.{◌≡◌, ◌≢◌, ℕ, ◌+◌, ◌<◌, ◌≤◌, ◌⊎◌, Bool, true, false, cond, List, [], ◌∷◌, ◌++◌, length, drop, take, get_or, map, nat_lt, inl, inr, refl, sym, ap, subst, ◌∙◌, append_assoc, arith, length-append}
use Rattle.std.specs.Char.{is_newline}
use Rattle.std.specs.Str.{IsTrim, NoCharPasses}
use Rattle.std.specs.Str.Lines.{IsFirstLine, StripsCarriageReturn}
use Rattle.std.specs.List.{join_with_byte, take_while}
use Rattle.std.proofs.lemmas.List.{at_drop_more, at_drop_all, take_all, get_or_default}
use Rattle.std.proofs.lemmas.List.Elements.{All-append, All-cons, All-nil, All-take, All-drop}
use Rattle.std.proofs.lemmas.Str.Pattern.{NoCharPasses-char}
use Rattle.std.proofs.Math.ListN.{get_or-append}
use Rattle.std.proofs.lemmas.Bool.Decides.{nat_tests}
use Rattle.std.proofs.lemmas.List.Sums.{take_while-cons}
use Rattle.command_words.specs.Lines.{HasNoLineFeed, is_some_text}

-- one more line behind what there is
abbrev pub spaced : List ℕ → List ℕ → List ℕ
spaced done line = cond (is_some_text done) ((done ++ 32 ∷ []) ++ line) (done ++ line)

-- what the lines come to, each seen by f, behind what there is
abbrev pub go_on : (List ℕ → List ℕ) → List ℕ → List (List ℕ) → List ℕ
go_on f done [] = done
go_on f done (x ∷ xs) = cond (is_some_text (f x)) (go_on f (spaced done (f x)) xs) done

join_front : (c : ℕ) (a b : List ℕ) (ws : List (List ℕ)) → join_with_byte c ((a ++ b) ∷ ws) ≡ a ++ join_with_byte c (b ∷ ws)
join_front c a b [] = refl
join_front c a b (w ∷ ws) = append_assoc a b (c ∷ join_with_byte c (w ∷ ws))

longer : (done line : List ℕ) → is_some_text ((done ++ 32 ∷ []) ++ line) ≡ true
longer [] line = refl
longer (x ∷ xs) line = refl

-- the lines from one on that has some text, or from one on that has none
cut_some : (x : List ℕ) (xs : List (List ℕ)) → is_some_text x ≡ true → take_while is_some_text (x ∷ xs) ≡ x ∷ take_while is_some_text xs
cut_some x xs t = take_while-cons is_some_text x xs ∙ ap (λ b. cond b (x ∷ take_while is_some_text xs) []) t

cut_none : (x : List ℕ) (xs : List (List ℕ)) → is_some_text x ≡ false → take_while is_some_text (x ∷ xs) ≡ []
cut_none x xs t = take_while-cons is_some_text x xs ∙ ap (λ b. cond b (x ∷ take_while is_some_text xs) []) t

module _ (f : List ℕ → List ℕ) where
  pub some_line : (done x : List ℕ) (xs : List (List ℕ)) → is_some_text (f x) ≡ true → go_on f done (x ∷ xs) ≡ go_on f (spaced done (f x)) xs
  some_line done x xs t = ap (λ b. cond b (go_on f (spaced done (f x)) xs) done) t

  pub no_line : (done x : List ℕ) (xs : List (List ℕ)) → is_some_text (f x) ≡ false → go_on f done (x ∷ xs) ≡ done
  no_line done x xs t = ap (λ b. cond b (go_on f (spaced done (f x)) xs) done) t

  one_more : (done x : List ℕ) (xs : List (List ℕ)) → is_some_text done ≡ true → ((d : List ℕ) → is_some_text d ≡ true → go_on f d xs ≡ join_with_byte 32 (d ∷ take_while is_some_text (map f xs)))
      → (t : Bool) → is_some_text (f x) ≡ t → go_on f done (x ∷ xs) ≡ join_with_byte 32 (done ∷ take_while is_some_text (f x ∷ map f xs))
  one_more done x xs some more true t =
      some_line done x xs t ∙ ap (λ b. go_on f (cond b ((done ++ 32 ∷ []) ++ f x) (done ++ f x)) xs) some ∙ more ((done ++ 32 ∷ []) ++ f x) (longer done (f x))
      ∙ join_front 32 (done ++ 32 ∷ []) (f x) (take_while is_some_text (map f xs)) ∙ append_assoc done (32 ∷ []) (join_with_byte 32 (f x ∷ take_while is_some_text (map f xs)))
      ∙ ap (λ l. join_with_byte 32 (done ∷ l)) (sym (cut_some (f x) (map f xs) t))
  one_more done x xs some more false t = no_line done x xs t ∙ ap (λ l. join_with_byte 32 (done ∷ l)) (sym (cut_none (f x) (map f xs) t))

  goes_on : (done : List ℕ) (ls : List (List ℕ)) → is_some_text done ≡ true → go_on f done ls ≡ join_with_byte 32 (done ∷ take_while is_some_text (map f ls))
  goes_on done [] some = refl
  goes_on done (x ∷ xs) some = one_more done x xs some (λ d s. goes_on d xs s) (is_some_text (f x)) refl

  first_line : (x : List ℕ) (xs : List (List ℕ)) (t : Bool) → is_some_text (f x) ≡ t → go_on f [] (x ∷ xs) ≡ join_with_byte 32 (take_while is_some_text (f x ∷ map f xs))
  first_line x xs true t = some_line [] x xs t ∙ goes_on (f x) xs t ∙ ap (join_with_byte 32) (sym (cut_some (f x) (map f xs) t))
  first_line x xs false t = no_line [] x xs t ∙ ap (join_with_byte 32) (sym (cut_none (f x) (map f xs) t))

  -- the lines before the first empty one, joined by blanks
  pub joined_is : (ls : List (List ℕ)) → go_on f [] ls ≡ join_with_byte 32 (take_while is_some_text (map f ls))
  joined_is [] = refl
  joined_is (x ∷ xs) = first_line x xs (is_some_text (f x)) refl

  -- at the line of that number
  pub at_line : (done : List ℕ) (ls : List (List ℕ)) (n : ℕ) (x : List ℕ) → (n < length ls) × (x ≡ get_or ls n x) → go_on f done (drop n ls) ≡ go_on f done (x ∷ drop (n + 1) ls)
  at_line done ls n x h = at_drop_more (go_on f done) ls n x h.0 ∙ ap (λ y. go_on f done (y ∷ drop (n + 1) ls)) (sym h.1)

  pub at_end : (done : List ℕ) (ls : List (List ℕ)) (n : ℕ) → n ≡ length ls → go_on f done (drop n ls) ≡ done
  at_end done ls n h = at_drop_all (go_on f done) ls n (omega arith)

pub empty_is : (xs : List ℕ) → length xs ≡ 0 → is_some_text xs ≡ false
empty_is [] h = refl
empty_is (x ∷ xs) h = absurd (omega arith)

pub some_is : (xs : List ℕ) → (length xs ≡ 0 → ⊥) → is_some_text xs ≡ true
some_is [] h = absurd (h refl)
some_is (x ∷ xs) h = refl

pub spaced_some : (done mid line now : List ℕ) → is_some_text done ≡ true → mid ≡ done ++ 32 ∷ [] → now ≡ mid ++ line → now ≡ spaced done line
spaced_some done mid line now some m n = n ∙ ap (λ l. l ++ line) m ∙ sym (ap (λ b. cond b ((done ++ 32 ∷ []) ++ line) (done ++ line)) some)

pub spaced_none : (done mid line now : List ℕ) → is_some_text done ≡ false → mid ≡ done → now ≡ mid ++ line → now ≡ spaced done line
spaced_none done mid line now none m n = n ∙ ap (λ l. l ++ line) m ∙ sym (ap (λ b. cond b ((done ++ 32 ∷ []) ++ line) (done ++ line)) none)

blank_only : HasNoLineFeed (32 ∷ [])
blank_only = All-cons (λ b. b ≢ 10) 32 [] (λ e. cc) (All-nil (λ b. b ≢ 10))

pub spaced_lacks : (done line : List ℕ) → HasNoLineFeed done → HasNoLineFeed line → HasNoLineFeed (spaced done line)
spaced_lacks done line d l = by_test (is_some_text done)
  where
    by_test : (t : Bool) → HasNoLineFeed (cond t ((done ++ 32 ∷ []) ++ line) (done ++ line))
    by_test true = All-append (λ b. b ≢ 10) (done ++ 32 ∷ []) line (All-append (λ b. b ≢ 10) done (32 ∷ []) d blank_only) l
    by_test false = All-append (λ b. b ≢ 10) done line d l

pub lacks_at : (bs : List ℕ) → NoCharPasses is_newline bs → HasNoLineFeed bs
lacks_at bs none k d l e = NoCharPasses-char 10 bs k none (omega arith) l (get_or_default bs k 0 d l ∙ e)

stripped_lacks : (l x : List ℕ) → HasNoLineFeed l → StripsCarriageReturn l x → HasNoLineFeed x
stripped_lacks l x h (inl s) = subst HasNoLineFeed (sym s.0) h
stripped_lacks l x h (inr s) = λ k d inside e. h k d (omega (arith, ap length s, length-append x (13 ∷ []))) (ap (λ y. get_or y k d) s ∙ get_or-append x (13 ∷ []) d k inside ∙ e)

-- no line of a text has a line feed
up_to : (w x : List ℕ) (n : ℕ) → NoCharPasses is_newline (take n w) → (n ≡ length w → x ≡ w) → (n < length w → StripsCarriageReturn (take n w) x) → (n < length w) ⊎ (n ≡ length w) → HasNoLineFeed x
up_to w x n none all some (inl below) = stripped_lacks (take n w) x (lacks_at (take n w) none) (some below)
up_to w x n none all some (inr whole) = subst HasNoLineFeed (take_all n w (omega arith) ∙ sym (all whole)) (lacks_at (take n w) none)

below_or_at : (n m : ℕ) → n ≤ m → (n < m) ⊎ (n ≡ m)
below_or_at n m h = by_test (nat_lt n m) refl
  where
    by_test : (t : Bool) → nat_lt n m ≡ t → (n < m) ⊎ (n ≡ m)
    by_test true t = inl (grind (arith, nat_tests))
    by_test false t = inr (grind (arith, nat_tests))

pub line_lacks : (w x rest : List ℕ) → IsFirstLine w x rest → HasNoLineFeed x
line_lacks w x rest h = up_to w x h.0 h.1 h.4 h.5 (below_or_at h.0 (length w) (omega (arith, h.3)))

pub trim_lacks : (s r : List ℕ) → IsTrim s r → HasNoLineFeed s → HasNoLineFeed r
trim_lacks s r t h = subst HasNoLineFeed (sym t.2) (All-take (λ b. b ≢ 10) t.1 (drop t.0 s) (All-drop (λ b. b ≢ 10) t.0 s h))
