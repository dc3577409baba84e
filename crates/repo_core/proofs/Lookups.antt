-- What a look-up in a slice gives.
use Rattle.std.proofs.Common.{◌≡◌, ℕ, List, Option, Some, None, sym, ap, ◌∙◌}
use Rattle.std.specs.Prelude.{slice_get}
use Rattle.std.specs.Option.{option_copied}
use Rattle.std.specs.Slice.{IsItemAt}
use Rattle.std.specs.Borrow.{Bor}
use Rattle.std.proofs.lemmas.Option.{slice_get_past, slice_get-get_or}

pub item_at : {X : Type 0} (xs : List X) (i : ℕ) (r : Option (Bor X)) → IsItemAt xs i r → option_copied r ≡ slice_get xs i
item_at xs i None h = sym (slice_get_past xs i h.3)
item_at xs i (Some b) h = ap Some h.1 ∙ sym (slice_get-get_or xs i b.now h.3.0)
