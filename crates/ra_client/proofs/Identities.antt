-- What the identity's text is.
use Rattle.std.proofs.Common.{◌≡◌, ℕ, List, length, Option, Some, None, refl}
use Rattle.uuid.specs.Text.{parsed, parsed_hyphenated}

pub none_of : {A : Type 0} (o : Option A) → (((a : A) × (o ≡ Some a)) → ⊥) → o ≡ None
none_of None h = refl
none_of (Some a) h = absurd (h (a, refl))

pub hyphenated_alone : (s : List ℕ) → length s ≡ 36 → parsed s ≡ parsed_hyphenated s
hyphenated_alone s e = rw e refl
