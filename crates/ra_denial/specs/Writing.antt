-- What is written where something is told.
use Rattle.std.specs.Prelude.{ℕ, List, [], ◌∷◌, IfOk, Option, Result}
use Rattle.std.specs.Io.KnownBytes.{Appends}
use Rattle.std.specs.declared.io.Write.{Ghosts}
use Rattle.ra_item.specs.Items.{Item, Number, Text, spell}
use Rattle.ra_wire.specs.Replies.{list}
use Rattle.ra_serve.specs.Answers.{refused}
use Rattle.ra_serve.specs.Ports.{refusal_of}
use Rattle.ra_denial.specs.Denials.{denied}
use Rattle.ra_denial.specs.declared.stop.Stop.{Stop}
use Rattle.ra_denial.specs.declared.stop.Stop.TheVariants as stop

-- ---- by a writer that comes back

-- at Ok these bytes are behind what it had
abbrev pub TellsBytes : {W E : Type 0} → Ghosts W → W → List ℕ → Result W E → Type 0
TellsBytes G out bytes result = IfOk result (λ w. Appends (G.contents out) (G.contents w) bytes)

-- at Ok an item is
abbrev pub TellsItem : {W E : Type 0} → Ghosts W → W → Item → Result W E → Type 0
TellsItem G out item result = TellsBytes G out (spell item) result

-- ---- why a call stopped

-- ( number text file line )
abbrev pub cause_item : ℕ → List ℕ → Item
cause_item n text = list (Number n ∷ Text text ∷ Text [] ∷ Number 0 ∷ [])

-- why it did is told, and nothing for want of memory
abbrev pub TellsStop : Option (List ℕ) → Option (List ℕ) → Stop → Type 0
TellsStop before now (stop.Denied d) = Appends before now (denied d)
TellsStop before now (stop.Port f) = Appends before now (refused (refusal_of f))
TellsStop before now stop.OutOfMemory = ⊥

-- the same behind other bytes
pub record TellsBehind (front : List ℕ) (before now : Option (List ℕ)) (s : Stop) : Type 0 where
  pub mid : Option (List ℕ)
  pub told : Appends before mid front
  pub stop : TellsStop mid now s
