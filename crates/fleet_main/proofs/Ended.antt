-- How a command over streams alone ends.
use Rattle.std.proofs.Common.{refl, inl, inr, ◌⊎◌, ℕ, Result, Ok, Err, IfErr}
use Rattle.byte_streams.specs.Causes.{Counts, Rose}
use Rattle.node_base.specs.declared.refusal.Refusal.{Refusal}
use Rattle.fleet_engines.specs.Runs.{BothCounted}
use Rattle.fleet_main.specs.Doing.{OutputFails}
use Rattle.fleet_main.specs.Ending.{SparesInput}
use Rattle.command_words.specs.declared.command_line.Command.{Command}
use Rattle.command_words.specs.declared.command_line.Command.TheVariants.{List as ListIt, Canon, Create, Load, Dump, MakeDir, Upgrade, Initialize, Synchronize, CopyRevprops, Info, Head}

-- what the output's failure is told as
pub told_failure : {T : Type 0} (r : Result T Refusal) (P : Refusal → Type 0) (input : Counts) (before now : ℕ) → IfErr r (λ e. Rose before now ⊎ P e) → BothCounted r input before now
    → IfErr r (λ e. OutputFails before now e ⊎ P e)
told_failure (Ok x) P input before now h b = tt
told_failure (Err e) P input before now (inl rose) (le, inl (is, why)) = inl (rose, inl is)
told_failure (Err e) P input before now (inl rose) (le, inr (other, same, out)) = inl (rose, inr out)
told_failure (Err e) P input before now (inr p) b = inr p

-- an input that isn't touched
pub spared : {I : Type 0} (c : Command) (i : I) → SparesInput c i i
spared (ListIt deltas) i = tt
spared (Canon deltas) i = tt
spared (Create folder identity) i = refl
spared (Load folder deltas) i = tt
spared (Dump folder range) i = refl
spared (MakeDir folder path message moment) i = refl
spared (Upgrade folder) i = refl
spared (Initialize mirror source) i = refl
spared (Synchronize mirror source token steal) i = refl
spared (CopyRevprops mirror source token range) i = refl
spared (Info mirror) i = refl
spared (Head folder) i = refl
