use Rattle.std.proofs.Common.{take}
use Rattle.byte_streams.specs.Memory.{Adds}
use Rattle.node_base.specs.PathText.{slashed}
use Rattle.dump_text.proofs.writer.write_slashed.Given as goal

abbrev pub invariant-loop-name : goal.invariant-loop-name
invariant-loop-name l = Adds l.fn.out l.out (slashed (take l.name-index l.names))
