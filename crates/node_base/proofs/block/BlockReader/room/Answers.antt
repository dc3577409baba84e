use Rattle.std.proofs.Common.{inl, inr}
use Rattle.node_base.proofs.BlockRuns.{may_keep_if_name, may_keep_if_value}
use Rattle.node_base.proofs.block.BlockReader.room.Goals as goal

pub returns-in-Name-clause-keep : goal.returns-in-Name-clause-keep
returns-in-Name-clause-keep c =
    elim c.in-Name.is [
      | inl e ↦ may_keep_if_name c.args.self.now c.in-Name.n c.room_for.result e c.room_for.ensures.part c.room_for.ensures.left
      | inr e ↦ may_keep_if_value c.args.self.now c.in-Name.n c.room_for.result e c.room_for.ensures.part c.room_for.ensures.left
    ]
