-- The ports of a run.
use Rattle.std.specs.Prelude.{◌≡◌, ◌++◌, ◌∷◌, [], ℕ, List, Bool, false, Option}
use Rattle.byte_streams.specs.Causes.{Rose}
use Rattle.byte_streams.specs.declared.output.Output.{Ghosts}
use Rattle.sync_job.specs.declared.report.Told.{Told}
use Rattle.mirror_engines.specs.Lines.{IsPrinted}
use Rattle.mirror_engines.specs.declared.printer.Printer.{Printer}

-- the output of a report as it is now, and whether a line was lost
abbrev pub output_of : {O : Type 0} → Printer O → O
output_of p = p.output

abbrev pub is_lost : {O : Type 0} → Printer O → Bool
is_lost p = p.lost

-- since the report was as the first it has printed these; its output has failed meanwhile only where a line was lost
pub record HasPrinted {O : Type 0} (contents : O → Option (List ℕ)) (failures : O → ℕ) (now first : Printer O) (told : List Told) : Type 0 where
  pub printed : IsPrinted (contents (output_of first)) (contents (output_of now)) (Rose (failures (output_of first)) (failures (output_of now))) (is_lost now) told
  pub failed : is_lost now ≡ false → failures (output_of now) ≡ failures (output_of first)

-- since whatever the report was it has printed one thing more
abbrev pub PrintsMore : {O : Type 0} → Ghosts O → Printer O → Told → Printer O → Type 0
PrintsMore {O} W old told new = (first : Printer O) (before : List Told) → HasPrinted W.contents W.failures old first before → HasPrinted W.contents W.failures new first (before ++ told ∷ [])
