-- Items one behind another.
use Rattle.std.proofs.Common.{◌≡◌, ℕ, ◌≤◌, ◌<◌, ◌+◌, Bool, true, false, List, [], ◌∷◌, ◌++◌, map, length, take, drop, get_or, Option, refl, sym, ap, subst, ◌∙◌, append-nil, arith}
use Rattle.std.proofs.KnownBytes.{Appends-trans}
use Rattle.std.proofs.lemmas.List.{drop_all, take_more, flat_map_more}
use Rattle.std.specs.Prelude.{◌||◌, if◌then◌else◌}
use Rattle.std.specs.List.{filter, flat_map, list_any}
use Rattle.std.specs.Str.{bytes_eq}
use Rattle.std.specs.Io.KnownBytes.{Appends}
use Rattle.node_base.specs.Entries.{passing}
use Rattle.node_base.specs.Path.{Name}
use Rattle.node_base.specs.Tree.{PathMap}
use Rattle.dump_load.specs.declared.change.Change.{Change}
use Rattle.ra_item.specs.Items.{spell, spell_all, row}
use Rattle.ra_wire.specs.Replies.{property}
use Rattle.browse_wire.specs.Asks.{Revprops}
use Rattle.ra_log.specs.Entries.{change_item, is_other, others_of}

pub changes_row : (trees : List PathMap) (n : ℕ) (set cs : List Change) → spell_all (row (map (change_item trees n set) cs)) ≡ flat_map (λ c. spell (change_item trees n set c)) cs
changes_row trees n set [] = refl
changes_row trees n set (c ∷ cs) = ap (λ l. spell (change_item trees n set c) ++ l) (changes_row trees n set cs)

-- the other properties of some
abbrev pub others_bytes : Revprops → List (Name × List ℕ) → List ℕ
others_bytes w es = spell_all (row (map property (others_of w es)))

first_other : (w : Revprops) (e : Name × List ℕ) (es : List (Name × List ℕ)) (b : Bool) → spell_all (row (map property (if b then e ∷ others_of w es else others_of w es))) ≡ spell_all (row (map property (if b then e ∷ [] else []))) ++ others_bytes w es
first_other w e es true = ap (λ l. l ++ others_bytes w es) (sym (append-nil (spell (property e))))
first_other w e es false = refl

pub others_row : (w : Revprops) (es : List (Name × List ℕ)) → others_bytes w es ≡ flat_map (λ e. others_bytes w (e ∷ [])) es
others_row w [] = refl
others_row w (e ∷ es) = first_other w e es (is_other w e.0) ∙ ap (λ l. others_bytes w (e ∷ []) ++ l) (others_row w es)

-- one more is written
pub others_next : (w : Revprops) (es : List (Name × List ℕ)) (i : ℕ) (a b c : Option (List ℕ)) (e : Name × List ℕ) → i < length es → e ≡ get_or es i e → Appends a b (flat_map (λ d. others_bytes w (d ∷ [])) (take i es)) → Appends b c (others_bytes w (e ∷ [])) → Appends a c (flat_map (λ d. others_bytes w (d ∷ [])) (take (i + 1) es))
others_next w es i a b c e h is x y =
    let F : Name × List ℕ → List ℕ = λ d. others_bytes w (d ∷ []) in
    subst (Appends a c) (flat_map_more F [] (take i es) e ∙ ap (flat_map F) (ap (λ d. take i es ++ d ∷ []) is ∙ sym (take_more es i e h)))
    (Appends-trans a b c (flat_map F (take i es)) (F e) x y)

-- those that are counted
passing_filter : (p : Name → Bool) (es : List (Name × List ℕ)) → passing p es ≡ length (filter (λ e. p e.0) es)
passing_filter p [] = refl
passing_filter p (e ∷ es) = at (p e.0) (passing_filter p es)
  where
    at : (b : Bool) → passing p es ≡ length (filter (λ d. p d.0) es) → (if b then 1 else 0) + passing p es ≡ length (if b then e ∷ filter (λ d. p d.0) es else filter (λ d. p d.0) es)
    at true h = omega (arith, h)
    at false h = omega (arith, h)

pub counted : (p : Name → Bool) (es : List (Name × List ℕ)) (n i : ℕ) → length es ≤ i → n + passing p (drop i es) ≡ passing p es → n ≡ length (filter (λ e. p e.0) es)
counted p es n i h so_far =
    let d : passing p (drop i es) ≡ 0 = ap (passing p) (drop_all i es h) in
    let f = passing_filter p es in
    omega (arith, so_far, d, f)

-- a name that is one of these, in code and here
pub any_items : {V : Type 0} (name : List ℕ) (items : V → List ℕ) (vs : List V) → list_any (λ v. bytes_eq name (items v)) vs ≡ list_any (bytes_eq name) (map items vs)
any_items name items [] = refl
any_items name items (v ∷ vs) = ap (λ b. bytes_eq name (items v) || b) (any_items name items vs)
