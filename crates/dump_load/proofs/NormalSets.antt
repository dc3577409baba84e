-- Changes in order and normal sets, change by change.
use Rattle.std.proofs.Common.{◌≡◌, ℕ, suc, ◌+◌, ◌-◌, ◌<◌, List, [], ◌∷◌, ◌++◌, length, take, drop, get_or, sym, ap, subst, ◌∙◌, arith, add-one, drop-cons}
use Rattle.std.proofs.lemmas.List.{take-append-drop}
use Rattle.std.proofs.Math.Seq.{take-suc}
use Rattle.dump_load.specs.declared.change.Change.{Change}
use Rattle.dump_load.specs.Changes.{Precedes, Follows, IsWhole, IsInOrder, IsNormal}
use Rattle.dump_load.proofs.Combining.{follows_later, follows_end, order_follows, order_end}
use Rattle.dump_load.proofs.Fillings.{normal_end}
use Rattle.dump_load.proofs.Walk.{normal_follows, whole_in}

last_of : (s rest : List Change) (l c : Change) → Follows (s ++ l ∷ rest) c → Precedes l c
last_of [] rest l c h = h.0
last_of (d ∷ s) rest l c h = last_of s rest l c h.1

module _ (cs : List Change) (i : ℕ) (c : Change) (here : i < length cs) (is : c ≡ get_or cs i c) where
  split_is : cs ≡ take i cs ++ c ∷ drop (i + 1) cs
  split_is = sym (take-append-drop i cs) ∙ ap (λ r. take i cs ++ r) (rw (add-one i) (drop-cons cs i c here ∙ ap (λ y. y ∷ drop (suc i) cs) (sym is)))

  done_is : take (i + 1) cs ≡ take i cs ++ c ∷ []
  done_is = rw (add-one i) (take-suc cs i c here ∙ ap (λ y. take i cs ++ y ∷ []) (sym is))

  pub not_whole : (IsWhole c → ⊥) → IsNormal cs → ⊥
  not_whole apart n = apart (whole_in (take i cs) (drop (i + 1) cs) c (subst IsNormal split_is n))

  pub order_first : i ≡ 0 → IsInOrder (take (i + 1) cs)
  order_first e = subst IsInOrder (sym (done_is ∙ ap (λ j. take j cs ++ c ∷ []) e)) (tt, tt)

  pub normal_first : i ≡ 0 → IsWhole c → IsNormal (take (i + 1) cs)
  normal_first e w = subst IsNormal (sym (done_is ∙ ap (λ j. take j cs ++ c ∷ []) e)) (w, tt, tt)

  module _ (l : Change) (some : i ≡ 0 → ⊥) (before : l ≡ get_or cs (i - 1) l) where
    front_is : take i cs ≡ take (i - 1) cs ++ l ∷ []
    front_is =
        let back : i ≡ suc (i - 1) = omega arith in
        ap (λ j. take j cs) back ∙ take-suc cs (i - 1) l (omega arith) ∙ ap (λ y. take (i - 1) cs ++ y ∷ []) (sym before)

    pub not_next : (Precedes l c → ⊥) → IsNormal cs → ⊥
    not_next apart n =
        apart (last_of (take (i - 1) cs) [] l c (subst (λ s. Follows s c) front_is (normal_follows (take i cs) (drop (i + 1) cs) c (subst IsNormal split_is n))))

    pub not_rising : (Precedes l c → ⊥) → IsInOrder cs → ⊥
    not_rising apart n =
        apart (last_of (take (i - 1) cs) [] l c (subst (λ s. Follows s c) front_is (order_follows (take i cs) (drop (i + 1) cs) c (subst IsInOrder split_is n))))

    pub order_next : Precedes l c → IsInOrder (take i cs) → IsInOrder (take (i + 1) cs)
    order_next p n =
        let front : IsInOrder (take (i - 1) cs ++ l ∷ []) = subst IsInOrder front_is n in
        let follows : Follows (take i cs) c = subst (λ s. Follows s c) (sym front_is) (follows_end (take (i - 1) cs) l c (follows_later (take (i - 1) cs) l c p.rises (order_follows (take (i - 1) cs) [] l front)) p) in
        subst IsInOrder (sym done_is) (order_end (take i cs) c n follows)

    pub normal_next : Precedes l c → IsWhole c → IsNormal (take i cs) → IsNormal (take (i + 1) cs)
    normal_next p w n =
        let front : IsNormal (take (i - 1) cs ++ l ∷ []) = subst IsNormal front_is n in
        let follows : Follows (take i cs) c = subst (λ s. Follows s c) (sym front_is) (follows_end (take (i - 1) cs) l c (follows_later (take (i - 1) cs) l c p.rises (normal_follows (take (i - 1) cs) [] l front)) p) in
        subst IsNormal (sym done_is) (normal_end (take i cs) c n follows w)
