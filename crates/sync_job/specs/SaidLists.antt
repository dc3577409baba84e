-- The list of what was said through a job's ports.
use Rattle.std.specs.Prelude.{ℕ, List, map, vec_capacity}
use Rattle.sync_job.specs.declared.port_call.PortCall.{PortCall}
use Rattle.sync_job.specs.declared.said_list.SaidList.{SaidList}

-- the calls, in order
abbrev pub said_in : SaidList → List PortCall
said_in said = map (λ s. s.value) said.calls.items

-- how many there is room for
abbrev pub room_in : SaidList → ℕ
room_in said = vec_capacity said.calls
