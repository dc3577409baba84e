-- The text of a stream of bytes that is a delta of a base.
use Rattle.std.specs.Prelude.{◌≡◌, ℕ, List, [], ◌∷◌, ◌++◌, length, take, drop, Option, Some, None, Result, Ok, Err, if◌then◌else◌}
use Rattle.svndiff.specs.declared.delta.Delta.{Delta}
use Rattle.svndiff.specs.declared.delta_fault.DeltaFault.{DeltaFault}
use Rattle.svndiff.specs.declared.delta_fault.DeltaFault.TheVariants.{OutOfMemory}
use Rattle.svndiff.specs.declared.instructions.Instruction.{Instruction}
use Rattle.svndiff.specs.declared.window.Awaited.TheVariants as at
use Rattle.svndiff.specs.DeltaReading.{Step, Next, Refused, begin, spent, is_whole, one_step, kept, over}
use Rattle.svndiff.specs.Making.{run}
use Rattle.svndiff.specs.Streams.{with_piece}

-- before the first byte
abbrev pub begun : Delta
begun = record { window = begin; instructions = []; fresh = [] }

-- behind refused bytes, with nothing kept
abbrev pub spent_delta : Delta
spent_delta = record { window = spent; instructions = []; fresh = [] }

-- what a byte makes of a window, before its text is made; or the byte is refused
pub data Took : Type 0 where
  Now : Delta → Took
  Not : DeltaFault → Took

-- an instruction more, if one is whole
abbrev pub and_one : Option Instruction → List Instruction → List Instruction
and_one None is = is
and_one (Some i) is = is ++ i ∷ []

abbrev pub took : Delta → Step → Took
took d (Next done w) = Now (record d { window = w; instructions = and_one done d.instructions })
took d (Refused f) = Not f

-- what a byte that is no new data makes of a window over a base of a length
abbrev pub taken : ℕ → Delta → ℕ → Took
taken size d b = took d (one_step size d.window b)

-- new data
abbrev pub held : List ℕ → Delta → Delta
held bytes d = record d { window = kept (length bytes) d.window; fresh = d.fresh ++ bytes }

-- what a window makes of a base
abbrev pub made_of : List ℕ → Delta → List ℕ
made_of base d = (run (take d.window.source (drop d.window.offset base)) (record { made = []; new = d.fresh }) d.instructions).made

-- the window's text is made
abbrev pub ended : Delta → Delta
ended d = record { window = over d.window; instructions = []; fresh = [] }

-- the text so far and what has come of the next window; or the text before the first refused byte, and its refusal
pub data Stream : Type 0 where
  Reads : List ℕ → Delta → Stream
  Refuses : List ℕ → DeltaFault → Stream

-- a window that is whole makes its text
abbrev pub settled : List ℕ → List ℕ → Took → Stream
settled base text (Now d) = if is_whole d.window then Reads (text ++ made_of base d) (ended d) else Reads text d
settled base text (Not f) = Refuses text f

-- new data is kept, and any other byte is judged
abbrev pub any_byte : ℕ → Delta → ℕ → Took
any_byte size d b = elim d.window.place as (λ _. Took) [ at.NewData ↦ Now (held (b ∷ []) d) | _ ↦ taken size d b ]

abbrev pub one_byte : List ℕ → Stream → ℕ → Stream
one_byte base (Reads text d) b = settled base text (any_byte (length base) d b)
one_byte base (Refuses text f) b = Refuses text f

-- what bytes make of a stream
abbrev pub reading : List ℕ → Stream → List ℕ → Stream
reading base s [] = s
reading base s (b ∷ bs) = reading base (one_byte base s b) bs

-- what a stream of bytes is
abbrev pub stream_of : List ℕ → List ℕ → Stream
stream_of base = reading base (Reads [] begun)

-- the text of a window that is whole, where it has a byte, and the others
abbrev pub and_texts : List ℕ → Took → (Delta → List (List ℕ)) → List (List ℕ)
and_texts base (Now d) behind = if is_whole d.window then with_piece (made_of base d) (behind (ended d)) else behind d
and_texts base (Not f) behind = []

-- the texts that the windows make which end in bytes, of those that make a byte
abbrev pub texts_in : List ℕ → Delta → List ℕ → List (List ℕ)
texts_in base d [] = []
texts_in base d (b ∷ bs) = and_texts base (any_byte (length base) d b) (λ next. texts_in base next bs)

-- what a call did with a byte; of want of memory nothing is said
abbrev pub TookIs : Result (Unit {0}) DeltaFault → Delta → Took → Type 0
TookIs (Ok u) new t = t ≡ Now new
TookIs (Err OutOfMemory) new t = Unit {0}
TookIs (Err f) new t = t ≡ Not f

-- what a refusal says of bytes; of want of memory nothing
abbrev pub Tells : DeltaFault → List ℕ → Delta → List ℕ → Type 0
Tells OutOfMemory base d bytes = Unit {0}
Tells f base d bytes = (text : List ℕ) → reading base (Reads text d) bytes ≡ Refuses text f
