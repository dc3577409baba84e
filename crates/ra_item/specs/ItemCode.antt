-- Items as lists of marks, by which proofs tell them apart.
use Rattle.std.specs.Prelude.{◌≡◌, ℕ, zero, suc, List, [], ◌∷◌, ◌++◌}
use Rattle.std.proofs.Common.{refl, ap, ◌∙◌, append_assoc, append-nil, sym}
use Rattle.std.specs.Coded.{Coded, code_by, coded×, coded_ℕ, coded_list}
use Rattle.ra_item.specs.Items.{Item, Word, Number, Text, Nested, Items, End, Then}

-- a kind and its bytes or its number
abbrev pub Mark : Type 0
Mark = ℕ × List ℕ

-- the marks of an item, its parts first
abbrev mutual
  pub marks : Item → List Mark
  marks (Word w) = (0, w) ∷ []
  marks (Number n) = (1, n ∷ []) ∷ []
  marks (Text t) = (2, t) ∷ []
  marks (Nested xs) = marks_all xs ++ (3, []) ∷ []

  pub marks_all : Items → List Mark
  marks_all End = (4, []) ∷ []
  marks_all (Then x xs) = marks x ++ (marks_all xs ++ (5, []) ∷ [])

-- the items and the lists that marks build, the last first
abbrev pub Built : Type 0
Built = List Item × List Items

abbrev pub one_of : List ℕ → ℕ
one_of [] = 0
one_of (n ∷ ns) = n

-- the list on top becomes an item
abbrev pub enclosed : List Item → List Items → Built
enclosed is [] = (is, [])
enclosed is (xs ∷ rs) = (Nested xs ∷ is, rs)

-- the item on top begins the list on top
abbrev pub joined : List Item → List Items → Built
joined [] rs = ([], rs)
joined (x ∷ is) [] = (x ∷ is, [])
joined (x ∷ is) (xs ∷ rs) = (is, Then x xs ∷ rs)

abbrev pub mark_step : ℕ → List ℕ → Built → Built
mark_step zero w s = (Word w ∷ s.0, s.1)
mark_step (suc zero) n s = (Number (one_of n) ∷ s.0, s.1)
mark_step (suc (suc zero)) t s = (Text t ∷ s.0, s.1)
mark_step (suc (suc (suc zero))) b s = enclosed s.0 s.1
mark_step (suc (suc (suc (suc zero)))) b s = (s.0, End ∷ s.1)
mark_step k b s = joined s.0 s.1

abbrev pub build : List Mark → Built → Built
build [] s = s
build (m ∷ ms) s = build ms (mark_step m.0 m.1 s)

abbrev pub top : Built → Item
top s = elim s.0 [ [] ↦ Number 0 | x ∷ xs ↦ x ]

abbrev pub from_marks : List Mark → Item
from_marks ms = top (build ms ([], []))

mutual
  pub built : (x : Item) (ms : List Mark) (is : List Item) (rs : List Items) → build (marks x ++ ms) (is, rs) ≡ build ms (x ∷ is, rs)
  built (Word w) ms is rs = refl
  built (Number n) ms is rs = refl
  built (Text t) ms is rs = refl
  built (Nested xs) ms is rs = ap (λ m. build m (is, rs)) (append_assoc (marks_all xs) ((3, []) ∷ []) ms) ∙ built_all xs ((3, []) ∷ ms) is rs

  pub built_all : (xs : Items) (ms : List Mark) (is : List Item) (rs : List Items) → build (marks_all xs ++ ms) (is, rs) ≡ build ms (is, xs ∷ rs)
  built_all End ms is rs = refl
  built_all (Then x xs) ms is rs =
      ap (λ m. build m (is, rs)) (append_assoc (marks x) (marks_all xs ++ (5, []) ∷ []) ms)
      ∙ built x ((marks_all xs ++ (5, []) ∷ []) ++ ms) is rs
      ∙ ap (λ m. build m (x ∷ is, rs)) (append_assoc (marks_all xs) ((5, []) ∷ []) ms)
      ∙ built_all xs ((5, []) ∷ ms) (x ∷ is) rs

pub from_to : (x : Item) → from_marks (marks x) ≡ x
from_to x = ap (λ m. top (build m ([], []))) (sym (append-nil (marks x))) ∙ ap top (built x [] [] [])

abbrev pub coded_item : Coded Item
coded_item = code_by (List Mark) (coded_list (coded× coded_ℕ (coded_list coded_ℕ))) marks from_marks from_to
