-- The folder above a folder, by what a trim and a split say.
use Rattle.std.proofs.Common.{◌≡◌, ◌≢◌, ℕ, ◌-◌, ◌<◌, List, [], ◌∷◌, ◌++◌, length, drop, Option, Some, None, refl, sym, ap, ◌∙◌, append_assoc, arith, IfSome, ◌==◌, subst}
use Rattle.std.specs.List.{All}
use Rattle.std.specs.Str.{NoCharPasses}
use Rattle.std.specs.Str.Pattern.{CutsSuffixes, FindsCharSuffix, IsTrimEndMatches, RFindsChar, SplitsAroundMatch}
use Rattle.std.proofs.lemmas.List.{append-nil, get_or_default, take-append-drop}
use Rattle.std.proofs.lemmas.List.Elements.{All-cons, All-nil}
use Rattle.std.proofs.lemmas.Str.Pattern.{NoCharPasses-char, drop_at_char}
use Rattle.std.proofs.Math.Seq.{drop-length}
use Rattle.fleet_disk.specs.Above.{IsAbove, in_folder, in_root, in_this}

abbrev pub AllSlashes : List ℕ → Type 0
AllSlashes = All (λ b. b ≡ 47)

abbrev pub NoSlash : List ℕ → Type 0
NoSlash = All (λ b. b ≢ 47)

no_slash : (bs : List ℕ) → NoCharPasses (λ d. d == 47) bs → NoSlash bs
no_slash bs none k d l e = NoCharPasses-char 47 bs k none (omega arith) l (get_or_default bs k 0 d l ∙ e)

-- what is cut off at the end are slashes
cut_slashes : (ns s r : List ℕ) → CutsSuffixes (FindsCharSuffix 47) s ns r → (slashes : List ℕ) × AllSlashes slashes × (s ≡ r ++ slashes)
cut_slashes [] s r h = ([], All-nil (λ b. b ≡ 47), sym h ∙ sym (append-nil r))
cut_slashes (n ∷ ns) s r h =
    let m : List ℕ = h.0 in
    let more = cut_slashes ns s m h.1 in
    let ends : drop (length m - n) m ≡ 47 ∷ [] = drop_at_char 47 m (length m - n) (length m) h.2.1 (omega arith) ∙ ap (λ l. 47 ∷ l) (drop-length m) in
    let cut : m ≡ r ++ (47 ∷ []) = sym (take-append-drop (length m - n) m) ∙ ap (λ l. l ++ drop (length m - n) m) (sym h.3) ∙ ap (λ l. r ++ l) ends in
    (47 ∷ more.0, All-cons (λ b. b ≡ 47) 47 more.0 refl more.1, more.2 ∙ ap (λ l. l ++ more.0) cut ∙ append_assoc r (47 ∷ []) more.0)

-- and no slash is left there
ends_otherwise : (r : List ℕ) (o : Option ℕ) → FindsCharSuffix 47 r o → IfSome o (λ n. n ≡ 0) → (front : List ℕ) → r ≢ front ++ (47 ∷ [])
unfolding lib.Utf8.encode
ends_otherwise r None h zero = h
ends_otherwise r (Some n) h zero = absurd (omega (arith, h.0, zero))

-- a trimmed text split at its last slash
parts : (r x y : List ℕ) → SplitsAroundMatch (RFindsChar 47) r x y → (r ≡ x ++ (47 ∷ y)) × NoSlash y
parts r x y h = (
  sym (take-append-drop h.0 r) ∙ ap (λ l. l ++ drop h.0 r) (sym h.3) ∙ ap (λ l. x ++ l) (drop_at_char 47 r h.0 h.1 h.2.1 (omega arith) ∙ ap (λ l. 47 ∷ l) (sym h.4)),
  subst NoSlash (sym h.4) (no_slash (drop h.1 r) h.2.0),
)

named : (r x y : List ℕ) → r ≡ x ++ (47 ∷ y) → ((front : List ℕ) → r ≢ front ++ (47 ∷ [])) → 0 < length y
named r x [] e otherwise = absurd (otherwise x e)
named r x (b ∷ bs) e otherwise = omega arith

pub above_split : (folder r x y : List ℕ) → IsTrimEndMatches (FindsCharSuffix 47) folder r → SplitsAroundMatch (RFindsChar 47) r x y → 0 < length x → IsAbove folder x
above_split folder r x y t h some =
    let cut = cut_slashes t.0.0 folder r t.0.1 in
    let p = parts r x y h in
    in_folder y cut.0 p.1 cut.1 (named r x y p.0 (ends_otherwise r t.1.0 t.1.1 t.1.2)) (cut.2 ∙ ap (λ l. l ++ cut.0) p.0 ∙ append_assoc x (47 ∷ y) cut.0) some

pub above_root : (folder r x y root : List ℕ) → IsTrimEndMatches (FindsCharSuffix 47) folder r → SplitsAroundMatch (RFindsChar 47) r x y → length x ≡ 0 → root ≡ 47 ∷ [] → IsAbove folder root
above_root folder r [] y root t h none is =
    let cut = cut_slashes t.0.0 folder r t.0.1 in
    let p = parts r [] y h in
    in_root y cut.0 p.1 cut.1 (named r [] y p.0 (ends_otherwise r t.1.0 t.1.1 t.1.2)) (cut.2 ∙ ap (λ l. l ++ cut.0) p.0) is
above_root folder r (x ∷ xs) y root t h none is = absurd (omega arith)

pub above_none : (folder r here : List ℕ) → IsTrimEndMatches (FindsCharSuffix 47) folder r → NoCharPasses (λ d. d == 47) r → here ≡ 46 ∷ [] → IsAbove folder here
above_none folder r here t none is = let cut = cut_slashes t.0.0 folder r t.0.1 in in_this r cut.0 (no_slash r none) cut.1 cut.2 is

pub some_left : (x : List ℕ) → (length x ≡ 0 → ⊥) → 0 < length x
some_left [] h = absurd (h refl)
some_left (b ∷ bs) h = omega arith
