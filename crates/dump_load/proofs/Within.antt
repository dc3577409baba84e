-- Changes within the limits, one after another.
use Rattle.std.proofs.Common.{◌≡◌, ◌<◌, ◌+◌, ℕ, List, [], ◌∷◌, ◌++◌, length, take, get_or, sym, ap, subst, ◌∙◌}
use Rattle.std.proofs.lemmas.List.{take_more}
use Rattle.std.specs.List.{AllByRecursion}
use Rattle.dump_load.specs.declared.change.Change.{Change}
use Rattle.dump_load.specs.Bounds.{IsSmall, IsWithin}

pub small_last : (s : List Change) (c : Change) → AllByRecursion IsSmall s → IsSmall c → AllByRecursion IsSmall (s ++ c ∷ [])
small_last [] c k n = (n, tt)
small_last (d ∷ s) c k n = (k.0, small_last s c k.1 n)

pub small_push : (s : List Change) (i : ℕ) (c d : Change) → i < length s → c ≡ get_or s i d → AllByRecursion IsSmall (take i s) → IsSmall c → AllByRecursion IsSmall (take (i + 1) s)
small_push s i c d inside e k n = subst (AllByRecursion IsSmall) (ap (λ x. take i s ++ x ∷ []) e ∙ sym (take_more s i d inside)) (small_last (take i s) c k n)

-- what changes within the limits give is within them
pub within_of : (s : List Change) → AllByRecursion IsSmall s → AllByRecursion IsWithin s
within_of [] h = tt
within_of (c ∷ s) h = (h.0.parts, within_of s h.1)
