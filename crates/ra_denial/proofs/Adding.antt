-- What stands behind what a writer had, where it was told why a call stopped.
use Rattle.std.proofs.Common.{ℕ, List, ◌++◌, Option, Result, Ok, Err}
use Rattle.std.proofs.KnownBytes.{Appends-trans}
use Rattle.std.specs.Prelude.{IfOk}
use Rattle.std.specs.Io.KnownBytes.{Appends}
use Rattle.ra_serve.specs.Answers.{refused}
use Rattle.ra_serve.specs.Ports.{refusal_of}
use Rattle.ra_serve.specs.Tellings.{GivesMore}
use Rattle.ra_denial.specs.Denials.{denied}
use Rattle.ra_denial.specs.Writing.{TellsBehind, TellsStop}
use Rattle.ra_denial.specs.declared.stop.Stop.{Stop}
use Rattle.ra_denial.specs.declared.stop.Stop.TheVariants as stop

pub stop_adds : (before now : Option (List ℕ)) (s : Stop) → TellsStop before now s → (rest : List ℕ) × Appends before now rest
stop_adds before now (stop.Denied d) t = (denied d, t)
stop_adds before now (stop.Port f) t = (refused (refusal_of f), t)
stop_adds before now stop.OutOfMemory t = absurd t

pub more_stopped : {W E : Type 0} (contents : W → Option (List ℕ)) (out : W) (result : Result W E) (s : Stop) → IfOk result (λ w. TellsStop (contents out) (contents w) s) → GivesMore contents out result
more_stopped contents out (Ok w) s t = stop_adds (contents out) (contents w) s t
more_stopped contents out (Err f) s t = tt

-- behind other bytes
behind_adds : (front : List ℕ) (before now : Option (List ℕ)) (s : Stop) → TellsBehind front before now s → (rest : List ℕ) × Appends before now rest
behind_adds front before now s t =
    let r = stop_adds t.mid now s t.stop in
    (front ++ r.0, Appends-trans before t.mid now front r.0 t.told r.1)

pub more_behind_last : {W E : Type 0} (contents : W → Option (List ℕ)) (out : W) (result : Result W E) (front : List ℕ) (s : Stop) → IfOk result (λ w. TellsBehind front (contents out) (contents w) s) → GivesMore contents out result
more_behind_last contents out (Ok w) front s t = behind_adds front (contents out) (contents w) s t
more_behind_last contents out (Err f) front s t = tt
