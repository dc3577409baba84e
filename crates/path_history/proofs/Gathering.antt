-- Revisions gathered from the histories of several places.
use Rattle.std.proofs.Common.{◌≡◌, Bool, ℕ, ◌+◌, ◌<◌, ◌⊎◌, inl, inr, [], ◌∷◌, ◌++◌, List, length, take, get_or, map, Contains, sym, ap, subst, ◌∙◌, arith}
use Rattle.std.specs.List.{AllByRecursion}
use Rattle.std.specs.List.Sorted.{IsStrictlyIncreasing}
use Rattle.std.proofs.lemmas.List.{take_more}
use Rattle.std.proofs.lemmas.List.Elements.{Contains-append_left, Contains-append_right, Contains-append_cases, Contains-push, Contains-push_cases}
use Rattle.path_history.specs.declared.asked.Asked.{Asked}
use Rattle.path_history.specs.declared.place.Place.{Place}
use Rattle.path_history.specs.Places.{Sets}
use Rattle.path_history.specs.Histories.{IsAsked, IsCut, IsHistory, IsTooLong}
use Rattle.path_history.specs.Logs.{IsLogged, HasLogged, IsLog, IsOneTooLong}

abbrev pub revisions : List Place → List ℕ
revisions = map (λ a. a.revision)

abbrev pub unlimited : Asked → Asked
unlimited w = record { lowest = w.lowest; highest = w.highest; limit = 0; crosses_copies = w.crosses_copies }

asked_too : (sets : Sets) (w : Asked) (a b : Place) → IsAsked sets (unlimited w) a b → IsAsked sets w a b
asked_too sets w a b h = record { follows = h.follows; touched = h.touched; from = h.from; to = h.to }

asked_unlimited : (sets : Sets) (w : Asked) (a b : Place) → IsAsked sets w a b → IsAsked sets (unlimited w) a b
asked_unlimited sets w a b h = record { follows = h.follows; touched = h.touched; from = h.from; to = h.to }

-- a revision in a list of those of places is that of one of the places
pub record IsOneOf (P : Place → Type 0) (n : ℕ) : Type 0 where
  pub at : Place
  pub holds : P at
  pub number : at.revision ≡ n

contains_none : {X : Type 0} (x : X) → Contains {X = X} [] x → ⊥
contains_none x h = absurd (omega (arith, h.1))

contains_cons : {X : Type 0} (x : X) (xs : List X) (n : X) → Contains (x ∷ xs) n → (x ≡ n) ⊎ Contains xs n
contains_cons {X} x xs n h = at (Contains-append_cases (x ∷ []) xs n h)
  where
    one : Contains {X = X} [] n ⊎ (x ≡ n) → x ≡ n
    one (inl f) = absurd (contains_none n f)
    one (inr e) = e

    at : Contains (x ∷ []) n ⊎ Contains xs n → (x ≡ n) ⊎ Contains xs n
    at (inl f) = inl (one (Contains-push_cases [] x n f))
    at (inr f) = inr f

pub one_of : (P : Place → Type 0) (s : List Place) → AllByRecursion P s → (n : ℕ) → Contains (revisions s) n → IsOneOf P n
one_of P [] h n c = absurd (contains_none n c)
one_of P (a ∷ s) h n c = at (one_of P s h.1 n) (contains_cons a.revision (revisions s) n c)
  where
    at : (Contains (revisions s) n → IsOneOf P n) → (a.revision ≡ n) ⊎ Contains (revisions s) n → IsOneOf P n
    at below (inl e) = record { at = a; holds = h.0; number = e }
    at below (inr f) = below f

pub revision_in : (s : List Place) (b : Place) → Contains s b → Contains (revisions s) b.revision
revision_in [] b h = absurd (contains_none b h)
revision_in (a ∷ s) b h = at (revision_in s b) (contains_cons a s b h)
  where
    at : (Contains s b → Contains (revisions s) b.revision) → (a ≡ b) ⊎ Contains s b → Contains (revisions (a ∷ s)) b.revision
    at below (inl e) = Contains-append_left (a.revision ∷ []) (revisions s) b.revision (subst (λ n. Contains (a.revision ∷ []) n) (ap (λ y. y.revision) e) (Contains-push [] a.revision))
    at below (inr f) = Contains-append_right (a.revision ∷ []) (revisions s) b.revision (below f)

-- so far the places of a front of the list are gathered
pub gathered_first : (sets : Sets) (w : Asked) → HasLogged sets w [] []
gathered_first sets w = record { each = λ n h. absurd (contains_none n h); all = λ n h. absurd (no_place h.from h.given) }
  where
    no_place : (a : Place) → Contains {X = Place} [] a → ⊥
    no_place a h = absurd (omega (arith, h.1))

module _ (sets : Sets) (w : Asked) (front : List Place) (x : Place) (numbers : List ℕ) (told : List Place) (h : IsHistory sets (unlimited w) x told) (so : HasLogged sets w front numbers) where
  logged_later : (n : ℕ) → IsLogged sets w front n → IsLogged sets w (front ++ x ∷ []) n
  logged_later n l = record { from = l.from; at = l.at; given = Contains-append_left front (x ∷ []) l.from l.given; asked = l.asked; number = l.number }

  logged_now : (n : ℕ) → IsOneOf (IsAsked sets (unlimited w) x) n → IsLogged sets w (front ++ x ∷ []) n
  logged_now n l = record { from = x; at = l.at; given = Contains-push front x; asked = asked_too sets w x l.at l.holds; number = l.number }

  each_now : (n : ℕ) → Contains numbers n ⊎ Contains (revisions told) n → IsLogged sets w (front ++ x ∷ []) n
  each_now n (inl c) = logged_later n (so.each n c)
  each_now n (inr c) = logged_now n (one_of (IsAsked sets (unlimited w) x) told h.each n c)

  in_history : (b : Place) → Contains told b ⊎ IsCut 0 told b → Contains (revisions told) b.revision
  in_history b (inl c) = revision_in told b c
  in_history b (inr c) = absurd (omega (arith, c.some))

  of_this : (l : Place) (n : ℕ) → IsAsked sets w x l → l.revision ≡ n → Contains (numbers ++ revisions told) n
  of_this l n a e = Contains-append_right numbers (revisions told) n (subst (Contains (revisions told)) e (in_history l (h.all l (asked_unlimited sets w x l a))))

  all_now : (n : ℕ) (l : IsLogged sets w (front ++ x ∷ []) n) → Contains front l.from ⊎ (x ≡ l.from) → Contains (numbers ++ revisions told) n
  all_now n l (inl c) = Contains-append_left numbers (revisions told) n (so.all n (record { from = l.from; at = l.at; given = c; asked = l.asked; number = l.number }))
  all_now n l (inr e) = of_this l.at n (subst (λ a. IsAsked sets w a l.at) (sym e) l.asked) l.number

  pub gathered_more : HasLogged sets w (front ++ x ∷ []) (numbers ++ revisions told)
  gathered_more = record { each = λ n c. each_now n (Contains-append_cases numbers (revisions told) n c); all = λ n l. all_now n l (Contains-push_cases front x l.from l.given) }

pub log_of_gathered : (sets : Sets) (w : Asked) (places : List Place) (numbers told : List ℕ) → HasLogged sets w places numbers → ((n : ℕ) → Contains numbers n → Contains told n) → ((n : ℕ) → Contains told n → Contains numbers n) → IsStrictlyIncreasing told → IsLog sets w places told
log_of_gathered sets w places numbers told h kept known rises = record { has = record { each = λ n c. h.each n (known n c); all = λ n l. kept n (h.all n l) }; rises = rises }

pub gathered_step : (sets : Sets) (w : Asked) (places : List Place) (i : ℕ) (x y : Place) (numbers told now : List ℕ) (tells : List Place) → i < length places → x ≡ get_or places i x → y ≡ x → told ≡ revisions tells → now ≡ numbers ++ told → IsHistory sets (unlimited w) y tells → HasLogged sets w (take i places) numbers → HasLogged sets w (take (i + 1) places) now
gathered_step sets w places i x y numbers told now tells in' is same t n h so =
    let front : take (i + 1) places ≡ take i places ++ x ∷ [] = take_more places i x in' ∙ ap (λ z. take i places ++ z ∷ []) (sym is) in
    let all : now ≡ numbers ++ revisions tells = n ∙ ap (λ z. numbers ++ z) t in
    subst (λ f. HasLogged sets w f now) (sym front) (subst (HasLogged sets w (take i places ++ x ∷ [])) (sym all) (gathered_more sets w (take i places) x numbers tells (subst (λ a. IsHistory sets (unlimited w) a tells) same h) so))

pub one_too_long : (crosses : Bool) (sets : Sets) (places : List Place) (i : ℕ) (x y : Place) → i < length places → x ≡ get_or places i x → y ≡ x → IsTooLong crosses sets y → IsOneTooLong crosses sets places
one_too_long crosses sets places i x y in' is same h = record { from = x; given = (i, in', sym is); long = subst (IsTooLong crosses sets) same h }
