-- Texts of files.
use Rattle.std.specs.Prelude.{ℕ, nat_lt, List, ◌++◌, length, Option, Some, None, if◌then◌else◌}
use Rattle.node_base.specs.declared.text_fault.TextFault.{TextFault}
use Rattle.node_base.specs.declared.text_fault.TextFault.TheVariants.{TooLong, OutOfMemory}
use Rattle.node_base.specs.declared.limits.TheConstants.{TEXT_BYTES}

-- why bytes aren't made a text: the limit of 1,048,576 bytes, or else memory
abbrev pub text_fault : List ℕ → TextFault
text_fault bytes = if nat_lt TEXT_BYTES (length bytes) then TooLong else OutOfMemory

-- why a piece isn't put behind a text, where there is one
abbrev pub piece_fault : List ℕ → Option (List ℕ) → TextFault
piece_fault piece None = OutOfMemory
piece_fault piece (Some text) = text_fault (text ++ piece)
