-- What is known of streams for tests, and of a writer to memory.
use Rattle.std.specs.Prelude.{◌≡◌, ◌++◌, ℕ, List, true}
use Rattle.byte_streams.specs.declared.fuse.FuseInput.{FuseInput}
use Rattle.byte_streams.specs.declared.memory.MemOutput.{MemOutput}
use Rattle.byte_streams.specs.declared.vec_writer.VecWriter.{VecWriter}

-- the input that takes the reads that pass
abbrev pub inner_of : {I : Type 0} → FuseInput I → I
inner_of input = input.inner

-- how many more reads pass
abbrev pub passing_in : {I : Type 0} → FuseInput I → ℕ
passing_in input = input.passing

-- how often it was read
abbrev pub reads_of : {I : Type 0} → FuseInput I → ℕ
reads_of input = input.reads

-- what was written
abbrev pub held_of : MemOutput → List ℕ
held_of output = output.bytes.items

-- how many of these bytes are handed on
abbrev pub handed_of : MemOutput → ℕ
handed_of output = output.handed_on

-- how often it failed
abbrev pub failures_of : MemOutput → ℕ
failures_of output = output.failures

-- what was written to memory
abbrev pub written_in : VecWriter → List ℕ
written_in writer = writer.bytes.items

-- memory was refused in no write
abbrev pub IsWhole : VecWriter → Type 0
IsWhole writer = writer.is_whole ≡ true

-- these bytes are written behind the others, if memory was refused in no write up to there
abbrev pub Adds : VecWriter → VecWriter → List ℕ → Type 0
Adds old new bytes = IsWhole new → IsWhole old × (written_in new ≡ written_in old ++ bytes)

-- these bytes are all that was written
abbrev pub HasAll : VecWriter → List ℕ → Type 0
HasAll writer bytes = IsWhole writer × (bytes ≡ written_in writer)
