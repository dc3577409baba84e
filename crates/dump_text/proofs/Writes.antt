-- Writes one after another.
use Rattle.std.proofs.Common.{◌≡◌, ℕ, ◌+◌, ◌<◌, List, [], ◌∷◌, ◌++◌, length, take, get_or, subst, sym, ap, ◌∙◌, append_assoc, append-nil}
use Rattle.std.specs.List.{flat_map}
use Rattle.std.proofs.lemmas.List.{take_more}
use Rattle.std.proofs.lemmas.Grind.{flat_map-append}
use Rattle.byte_streams.specs.Memory.{written_in, Adds}
use Rattle.byte_streams.specs.declared.vec_writer.VecWriter.{VecWriter}

-- a write behind a write
pub join : (a b c : VecWriter) (x y : List ℕ) → Adds a b x → Adds b c y → Adds a c (x ++ y)
join a b c x y p q = λ whole. let s = q whole in let r = p s.0 in (r.0, s.1 ∙ ap (λ t. t ++ y) r.1 ∙ append_assoc (written_in a) x y)

-- the same bytes, said otherwise
pub wrote_as : (a b : VecWriter) (x y : List ℕ) → x ≡ y → Adds a b x → Adds a b y
wrote_as a b x y e p = subst (λ z. Adds a b z) e p

-- an element more
pub mapped_more : {X : Type 0} (f : X → List ℕ) (xs : List X) (i : ℕ) (x d : X) → i < length xs → x ≡ get_or xs i d → flat_map f (take i xs) ++ f x ≡ flat_map f (take (i + 1) xs)
mapped_more f xs i x d h e =
    ap (λ y. flat_map f (take i xs) ++ f y) e
    ∙ sym (ap (flat_map f) (take_more xs i d h) ∙ flat_map-append f (take i xs) (get_or xs i d ∷ []) ∙ ap (λ t. flat_map f (take i xs) ++ t) (append-nil (f (get_or xs i d))))
