use Rattle.std.proofs.Common.{take}
use Rattle.std.specs.List.{flat_map}
use Rattle.byte_streams.specs.Memory.{Adds}
use Rattle.node_base.specs.BlockCanon.{canon_property}
use Rattle.node_base.proofs.props.Props.write_block.Given as goal

abbrev pub invariant-loop-name : goal.invariant-loop-name
invariant-loop-name l = Adds l.fn.out l.out (flat_map canon_property (take l.name-index l.name-items))
