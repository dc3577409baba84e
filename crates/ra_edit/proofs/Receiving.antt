-- Commands and their items.
use Rattle.std.proofs.Common.{◌≡◌, ℕ, List, [], ◌∷◌, ◌++◌, refl, sym, ap, subst, ◌∙◌, inl, inr}
use Rattle.std.specs.Prelude.{◌⊎◌, reverse}
use Rattle.std.proofs.lemmas.List.{reverse-append}
use Rattle.ra_item.specs.Items.{Item, Word}
use Rattle.ra_edit.specs.Commands.{list}
use Rattle.ra_edit.specs.Edits.{IsCommand}
use Rattle.ra_edit.specs.Receiving.{FormsWith}
use Rattle.ra_edit.specs.declared.receive_command.Command.TheVariants as command
use Rattle.ra_edit.specs.declared.name.Name.{Name}
use Rattle.ra_edit.specs.declared.name.Name.TheVariants as name

pub turned : (old new : List Item) (x : Item) → old ≡ new ++ x ∷ [] → reverse old ≡ x ∷ reverse new
turned old new x e = ap reverse e ∙ reverse-append new (x ∷ [])

-- a command whose parameters are these, one after another
pub named0 : {name : List ℕ} (a rest : List Item) → IsCommand name [] (list (Word name ∷ list a ∷ rest))
named0 a rest = (a, rest, refl)

pub named1 : {name : List ℕ} {a b : List Item} {x : Item} → a ≡ x ∷ b → (rest : List Item) → IsCommand name (x ∷ []) (list (Word name ∷ list a ∷ rest))
named1 {name = name} {b = b} p rest = (b, rest, ap (λ l. list (Word name ∷ list l ∷ rest)) p)

pub named2 : {name : List ℕ} {a b d : List Item} {x y : Item} → a ≡ x ∷ b → b ≡ y ∷ d → (rest : List Item) → IsCommand name (x ∷ y ∷ []) (list (Word name ∷ list a ∷ rest))
named2 {name = name} {d = d} {x = x} p q rest = (d, rest, ap (λ l. list (Word name ∷ list l ∷ rest)) (p ∙ ap (λ l. x ∷ l) q))

pub named3 : {name : List ℕ} {a b d e : List Item} {x y z : Item} → a ≡ x ∷ b → b ≡ y ∷ d → d ≡ z ∷ e → (rest : List Item) → IsCommand name (x ∷ y ∷ z ∷ []) (list (Word name ∷ list a ∷ rest))
named3 {name = name} {e = e} {x = x} {y = y} p q r rest = (e, rest, ap (λ l. list (Word name ∷ list l ∷ rest)) (p ∙ ap (λ l. x ∷ l) (q ∙ ap (λ l. y ∷ l) r)))

pub named4 : {name : List ℕ} {a b d e f : List Item} {x y z w : Item} → a ≡ x ∷ b → b ≡ y ∷ d → d ≡ z ∷ e → e ≡ w ∷ f → (rest : List Item) → IsCommand name (x ∷ y ∷ z ∷ w ∷ []) (list (Word name ∷ list a ∷ rest))
named4 {name = name} {f = f} {x = x} {y = y} {z = z} p q r s rest = (f, rest, ap (λ l. list (Word name ∷ list l ∷ rest)) (p ∙ ap (λ l. x ∷ l) (q ∙ ap (λ l. y ∷ l) (r ∙ ap (λ l. z ∷ l) s))))

-- the edit was given up, or a failure came in place of a command
pub given_up : (n : Name) (params : List Item) → (n ≡ name.AbortEdit) ⊎ (n ≡ name.Failure) → FormsWith command.Abort n params
given_up n params (inl e) = subst (λ m. FormsWith command.Abort m params) (sym e) (λ rest. inl (named0 params rest))
given_up n params (inr e) = subst (λ m. FormsWith command.Abort m params) (sym e) (λ rest. inr (named0 params rest))
