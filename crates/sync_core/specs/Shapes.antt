-- Which shape numbers have.
use Rattle.std.specs.Prelude.{ℕ, ◌+◌, ◌&&◌, [], ◌∷◌, Option}
use Rattle.dump_load.specs.Faults.{fault_if, first_of}
use Rattle.sync_core.specs.Names.{Number, is_absent, is_number, precedes}
use Rattle.sync_core.specs.declared.resting.Resting.{Resting}
use Rattle.sync_core.specs.declared.resting.Resting.TheVariants as resting

-- by what is merged, what is being copied, and the head
abbrev pub shape_in : Number → Number → ℕ → Option Resting
shape_in merged copying head =
    first_of
    (fault_if (is_number merged head && is_absent copying) resting.Idle
    ∷ fault_if (is_number merged head && is_number copying (head + 1)) (resting.Copying (head + 1))
    ∷ fault_if (is_number copying head && precedes merged head) (resting.Committed head)
    ∷ fault_if (is_number merged head && is_number copying head) resting.Merged
    ∷ []
    )
