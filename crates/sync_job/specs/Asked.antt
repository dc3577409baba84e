-- What a mirror's port is asked.
use Rattle.std.specs.Prelude.{Result}
use Rattle.sync_core.specs.Mirror.{Call}
use Rattle.sync_core.specs.declared.fault.SyncFault.{SyncFault}
use Rattle.sync_core.specs.declared.reply.Reply.{Reply as Given}

-- a call, and how the port answered it
pub record Asked : Type 0 where
  pub call : Call
  pub result : Result Given SyncFault

abbrev pub asked_as : Call → Result Given SyncFault → Asked
asked_as call result = record { call = call; result = result }
