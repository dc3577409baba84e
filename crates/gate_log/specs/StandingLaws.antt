-- Facts of entries' ends and of a log at rest that have at most one proof.
use Rattle.std.proofs.Common.{ℕ, List, [], ◌∷◌}
use Rattle.std.proofs.Props.{props}
use Rattle.fleet_disk.specs.Image.{Image}
use Rattle.gate_log.specs.declared.version.LogVersion.{LogVersion}
use Rattle.gate_log.specs.declared.version.LogVersion.TheVariants.{First, Second}
use Rattle.gate_log.specs.Version.{others_of, IsIdle}
use Rattle.gate_log.specs.Standing.{IsRising, IsAtRest}

pub rising_prop : (from : ℕ) (ends : List ℕ) → IsProp (IsRising from ends)
rising_prop from [] = hlevel props
rising_prop from (end ∷ ends) = let rest = rising_prop end ends in hlevel (props, rest)

idle_prop : (version : LogVersion) (bytes : List ℕ) → IsProp (IsIdle version bytes)
idle_prop First bytes = hlevel props
idle_prop Second bytes = hlevel props

pub rest_prop : (honest works : Type 0) (version : LogVersion) (ends : List ℕ) (image : Image) → IsProp (honest → works → IsAtRest version ends image)
rest_prop honest works version ends image = let idle = idle_prop version (others_of version image) in hlevel (props, idle)
