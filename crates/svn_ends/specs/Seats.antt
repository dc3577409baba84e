-- What a seat keeps over a call of a port, and what a port refuses of it.
use Rattle.std.specs.Prelude.{◌≡◌, ◌≤◌, ◌<◌, ◌⊎◌, ℕ, List, length, take, Some, Result, IfOk}
use Rattle.std.specs.Option.{option_map}
use Rattle.fleet_disk.specs.Rules.{Rose}
use Rattle.ra_serve.specs.declared.fault.PortFault.{PortFault}
use Rattle.ra_serve.specs.declared.fault.PortFault.TheVariants as fault
use Rattle.node_base.specs.Tree.{PathMap}
use Rattle.dump_load.specs.declared.change.Change.{Change}
use Rattle.ra_serve.specs.declared.port.Replay.{Replay}
use Rattle.store_share.specs.declared.rev.Rev.{Rev}
use Rattle.store_share.specs.Chains.{trees_known}
use Rattle.store_share.specs.Seats.{known_by, seen_by}
use Rattle.store_share.specs.declared.seat.ReaderSeat.{ReaderSeat}

-- what a seat has seen it has seen for good, and knows as it did
pub record Keeps {L : Type 0} {r : _} (old new : ReaderSeat L r) : Type 0 where
  pub seen : seen_by old ≤ seen_by new
  pub known : (n : ℕ) (x : Rev) → n ≤ seen_by old → known_by old n ≡ Some x → known_by new n ≡ Some x

-- trees are those of the revisions from 0 up, as a seat knows them
abbrev pub AreRead : {L : Type 0} {r : _} → ReaderSeat L r → List PathMap → Type 0
AreRead seat trees = trees ≡ trees_known (known_by seat) (length trees)

-- a refusal to read a revision, where the seat has seen up to a number: it hasn't seen that one; or for want of memory, which
-- the port counts
abbrev pub Misses : ℕ → ℕ → ℕ → ℕ → PortFault → Type 0
Misses number seen before now f = ((f ≡ fault.NoSuchRevision) × (seen < number)) ⊎ ((f ≡ fault.OutOfMemory) × Rose before now)

-- of the trees those below a number are what the seat knows there
abbrev pub AreReadBelow : {L : Type 0} {r : _} → ReaderSeat L r → List PathMap → ℕ → Type 0
AreReadBelow seat trees n = take n trees ≡ trees_known (known_by seat) n

-- an answer is the tree of the revision that the seat knows
abbrev pub GivesTree : {L E : Type 0} {r : _} → ReaderSeat L r → ℕ → Result PathMap E → Type 0
GivesTree seat n result = IfOk result (λ t. option_map (λ x. x.tree) (known_by seat n) ≡ Some t)

-- its changes
abbrev pub GivesSet : {L E : Type 0} {r : _} → ReaderSeat L r → ℕ → Result (List Change) E → Type 0
GivesSet seat n result = IfOk result (λ s. option_map (λ x. x.set) (known_by seat n) ≡ Some s)

-- and its changes as a replay takes them
abbrev pub ReplaysSet : {L E : Type 0} {r : _} → ReaderSeat L r → ℕ → Result Replay E → Type 0
ReplaysSet seat n result = IfOk result (λ p. option_map (λ x. x.set) (known_by seat n) ≡ Some p.set)
