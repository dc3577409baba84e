use Rattle.std.proofs.Common.{◌≡◌, length}
use Rattle.svndiff.specs.DeltaStreams.{stream_of, reading, Reads}
use Rattle.whole_texts.proofs.made.made_of.Given as goal

abbrev pub invariant-loop-rest : goal.invariant-loop-rest
invariant-loop-rest l = stream_of l.base l.bytes ≡ reading l.base (Reads l.text.items l.reader.delta) l.rest

abbrev pub decreases-loop-rest : goal.decreases-loop-rest
decreases-loop-rest l = length l.rest
