-- What a command makes of paths where nothing was, and which of them a stop leaves.
use Rattle.std.specs.Prelude.{List, ℕ, string_bytes}
use Rattle.fleet_disk.specs.Lasting.{KeepsNames}
use Rattle.fleet_disk.specs.Lending.{MakesIn, MakesNothing}
use Rattle.command_words.specs.declared.command_line.Command.{Command}
use Rattle.command_words.specs.declared.command_line.Command.TheVariants.{Create, Upgrade}

-- nothing is made where nothing was, and what a stop left, it leaves
abbrev pub PathsStay : {F : Type 0} → (F → List ℕ → Type 0) → (F → List ℕ → Type 0) → F → F → Type 0
PathsStay lacks lasts old new = MakesNothing lacks old new × KeepsNames lasts old new

-- `create` and `upgrade` make a folder's files, and the first the folder, where they are missing; of any other command all paths stay
abbrev pub MakesFor : {F : Type 0} → (F → List ℕ → Type 0) → (F → List ℕ → Type 0) → Command → F → F → Type 0
MakesFor lacks lasts (Create folder identity) old new = MakesIn lacks (string_bytes folder) old new
MakesFor lacks lasts (Upgrade folder) old new = MakesIn lacks (string_bytes folder) old new
MakesFor lacks lasts other old new = PathsStay lacks lasts old new
