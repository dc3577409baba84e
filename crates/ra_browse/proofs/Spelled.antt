-- Properties as they are written, one part behind another.
use Rattle.std.proofs.Common.{◌≡◌, ℕ, List, [], ◌∷◌, ◌++◌, map, refl, sym, ap, ◌∙◌, append_assoc, append-nil}
use Rattle.node_base.specs.Path.{Name}
use Rattle.ra_item.specs.Items.{Item, spell, spell_all, row}
use Rattle.ra_wire.specs.Replies.{answer_of, before, behind, property, properties}

abbrev pub spelled : List (Name × List ℕ) → List ℕ
spelled es = spell_all (row (map property es))

pub spelled_both : (es fs : List (Name × List ℕ)) → spelled (es ++ fs) ≡ spelled es ++ spelled fs
spelled_both [] fs = refl
spelled_both (e ∷ es) fs = ap (λ l. spell (property e) ++ l) (spelled_both es fs) ∙ sym (append_assoc (spell (property e)) (spelled es) (spelled fs))

-- four parts, of which the first and the last are one property each
pub spelled_four : (a : Name × List ℕ) (bs cs : List (Name × List ℕ)) (d : Name × List ℕ) → spelled (a ∷ (bs ++ (cs ++ d ∷ []))) ≡ spell (property a) ++ (spelled bs ++ (spelled cs ++ (spell (property d) ++ [])))
spelled_four a bs cs d = ap (λ l. spell (property a) ++ l) (spelled_both bs (cs ++ d ∷ []) ∙ ap (λ l. spelled bs ++ l) (spelled_both cs (d ∷ [])))

-- two parts in brackets
pub spelled_list : (es fs : List (Name × List ℕ)) → spell (properties (es ++ fs)) ≡ (40 ∷ 32 ∷ []) ++ (spelled es ++ (spelled fs ++ 41 ∷ 32 ∷ []))
spelled_list es fs = ap (λ l. 40 ∷ 32 ∷ (l ++ 41 ∷ 32 ∷ [])) (spelled_both es fs) ∙ ap (λ l. 40 ∷ 32 ∷ l) (append_assoc (spelled es) (spelled fs) (41 ∷ 32 ∷ []))

-- an answer: its name, its items, and the brackets that close it
pub spelled_answer : (name : List ℕ) (xs : List Item) → spell (answer_of name xs) ≡ before name ++ (spell_all (row xs) ++ behind)
spelled_answer name xs =
    let c : List ℕ = 41 ∷ 32 ∷ [] in
    let s : List ℕ = spell_all (row xs) in
    ap (λ t. 40 ∷ 32 ∷ (((name ++ 32 ∷ []) ++ t) ++ c)) (append-nil (40 ∷ 32 ∷ (s ++ c)))
    ∙ ap (λ t. 40 ∷ 32 ∷ t) (append_assoc (name ++ 32 ∷ []) (40 ∷ 32 ∷ (s ++ c)) c ∙ append_assoc name (32 ∷ []) ((40 ∷ 32 ∷ (s ++ c)) ++ c) ∙ ap (λ t. name ++ 32 ∷ 40 ∷ 32 ∷ t) (append_assoc s c c) ∙ sym (append_assoc name (32 ∷ 40 ∷ 32 ∷ []) (s ++ behind)))

-- of three items
pub spelled_three : (name : List ℕ) (x y z : Item) → spell (answer_of name (x ∷ y ∷ z ∷ [])) ≡ before name ++ (spell x ++ (spell y ++ (spell z ++ behind)))
spelled_three name x y z =
    spelled_answer name (x ∷ y ∷ z ∷ [])
    ∙ ap (λ t. before name ++ t) (append_assoc (spell x) (spell y ++ (spell z ++ [])) behind
    ∙ ap (λ t. spell x ++ t) (append_assoc (spell y) (spell z ++ []) behind ∙ ap (λ t. spell y ++ (t ++ behind)) (append-nil (spell z))))

-- of one item
pub spelled_single : (name : List ℕ) (x : Item) → spell (answer_of name (x ∷ [])) ≡ before name ++ (spell x ++ behind)
spelled_single name x = spelled_answer name (x ∷ []) ∙ ap (λ t. before name ++ (t ++ behind)) (append-nil (spell x))
