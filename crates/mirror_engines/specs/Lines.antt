-- The lines that a run prints.
use Rattle.std.specs.Prelude.{◌≡◌, ℕ, Bool, true, false, List, ◌++◌, codes, Option}
use Rattle.std.specs.Fmt.{decimal}
use Rattle.std.specs.Io.KnownBytes.{Appends}
use Rattle.std.specs.List.{flat_map}
use Rattle.sync_job.specs.declared.report.Told.{Told}
use Rattle.sync_job.specs.declared.report.Told.TheVariants.{Committed, Copied}

-- the line of what is told
abbrev pub line_of : Told → List ℕ
line_of (Committed n) = codes "Committed revision " ++ (decimal n ++ codes ".\n")
line_of (Copied n) = codes "Copied properties for revision " ++ (decimal n ++ codes ".\n")

-- of an output that held `before`, what it holds once these were told: a line each, in order; or a line was lost, since the output failed
pub data IsPrinted (before now : Option (List ℕ)) (fails : Type 0) (lost : Bool) (told : List Told) : Type 0 where
  Printed : lost ≡ false → Appends before now (flat_map line_of told) → IsPrinted before now fails lost told
  Lost : lost ≡ true → fails → IsPrinted before now fails lost told
