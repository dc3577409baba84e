use Rattle.std.proofs.Common.{take}
use Rattle.std.specs.List.{flat_map}
use Rattle.byte_streams.specs.Memory.{Adds}
use Rattle.dump_text.specs.Canon.{canon_node}
use Rattle.dump_text.proofs.writer.write_nodes.Given as goal

abbrev pub invariant-loop-node : goal.invariant-loop-node
invariant-loop-node l = Adds l.fn.out l.out (flat_map canon_node (take l.node-index l.nodes))
