-- Items of a list, one after another.
use Rattle.std.proofs.Common.{◌≡◌, ℕ, zero, suc, ◌≤◌, ◌<◌, List, [], ◌∷◌, ◌++◌, length, get_or, Option, Some, None, refl, ap, ◌∙◌, append_assoc, arith}
use Rattle.std.specs.List.{flat_map}
use Rattle.std.specs.Io.KnownBytes.{Appends}
use Rattle.ra_item.specs.Items.{Item, row, spell, spell_all, nesting, deepest}

pub spell_row : (xs : List Item) → spell_all (row xs) ≡ flat_map spell xs
spell_row [] = refl
spell_row (x ∷ xs) = ap (λ t. spell x ++ t) (spell_row xs)

pub nested_less : (xs : List Item) (i : ℕ) (d : Item) → i < length xs → nesting (get_or xs i d) ≤ deepest (row xs)
nested_less [] i d h = absurd (omega arith)
nested_less (x ∷ xs) zero d h = omega arith
nested_less (x ∷ xs) (suc i) d h = omega (arith, nested_less xs i d (omega arith))

pub appends_join : (a b c : Option (List ℕ)) (x y : List ℕ) → Appends a b x → Appends b c y → Appends a c (x ++ y)
appends_join None b c x y h k = tt
appends_join (Some a) None c x y h k = absurd h
appends_join (Some a) (Some b) None x y h k = absurd k
appends_join (Some a) (Some b) (Some c) x y h k = k ∙ ap (λ t. t ++ y) h ∙ append_assoc a x y

pub appends_as : (a b c : Option (List ℕ)) (x y z : List ℕ) → x ++ y ≡ z → Appends a b x → Appends b c y → Appends a c z
appends_as a b c x y z e h k = rw e at (appends_join a b c x y h k)
