-- What is known of an output that is lent.
use Rattle.byte_streams.specs.declared.lent.Lent.{Lent}

-- the output
abbrev pub output_of : {O : Type 0} → Lent O → O
output_of lent = lent.inner
