-- When a stream may be called failed.
use Rattle.std.specs.Prelude.{◌≡◌, ◌<◌, ◌⊎◌, ℕ, ◌+◌, ◌≤◌, ◌^◌, List, Option, Result, OnOk, OnErr, take}
use Rattle.byte_streams.specs.declared.fault.SinkFault.{SinkFault}
use Rattle.byte_streams.specs.declared.fault.SinkFault.TheVariants as fault
use Rattle.std.specs.Io.KnownBytes.{Appends}

-- a count rose; at its greatest it counts as risen
abbrev pub Rose : ℕ → ℕ → Type 0
Rose before now = (before < now) ⊎ (2 ^ 64 ≤ now + 1)

-- a count rose by so many, or stands at its greatest
abbrev pub RoseBy : ℕ → ℕ → ℕ → Type 0
RoseBy n before now = (before + n ≤ now) ⊎ (2 ^ 64 ≤ now + 1)

-- the count doesn't fall, is as it was at Ok, and a refusal comes only where it rose
pub record HasCause {T E : Type 0} (before now : ℕ) (result : Result T E) : Type 0 where
  pub later : before ≤ now
  pub kept : OnOk result (now ≡ before)
  pub failed : OnErr result (Rose before now)

-- one read more is counted, and no more than one
pub record CountsOne (before now : ℕ) : Type 0 where
  pub rose : RoseBy 1 before now
  pub later : before ≤ now
  pub one : now ≤ before + 1

-- known bytes grow by a front of some bytes
abbrev pub AppendsFront : Option (List ℕ) → Option (List ℕ) → List ℕ → Type 0
AppendsFront old new bytes = (n : ℕ) × Appends old new (take n bytes)

-- the number that a refusal is told by
abbrev pub number_of : SinkFault → ℕ
number_of fault.PeerFailed = 49
number_of fault.OutOfMemory = 70

-- how often an input had failed before some calls and has by their end, and how often it was read by then
pub record Counts : Type 0 where
  pub before : ℕ
  pub now : ℕ
  pub reads : ℕ

abbrev pub counts : {I : Type 0} → (I → ℕ) → (I → ℕ) → I → I → Counts
counts failures reads old new = record { before = failures old; now = failures new; reads = reads new }

-- it failed in these calls, or was read as often as one stream may be
abbrev pub Fails : Counts → Type 0
Fails c = Rose c.before c.now ⊎ (1099511627775 ≤ c.reads)
