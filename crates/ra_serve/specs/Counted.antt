-- Why a session over an output whose failures are counted is given up.
use Rattle.std.specs.Prelude.{◌≡◌, ℕ, Option, MatchOption}
use Rattle.byte_streams.specs.Causes.{Rose}
use Rattle.ra_serve.specs.declared.fault.ServeFault.{ServeFault}
use Rattle.ra_serve.specs.declared.fault.ServeFault.TheVariants.{WriteFailed}

-- that the writer failed is said only where the output is back, and failed more often than so often
abbrev pub IsToldOnlyBy : {O : Type 0} → (O → ℕ) → ℕ → ServeFault → Option O → Type 0
IsToldOnlyBy failures before f out = f ≡ WriteFailed → MatchOption out ⊥ (λ o. Rose before (failures o))
