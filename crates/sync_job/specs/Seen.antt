-- Calls of a mirror of which clauses alone see what they bring.
use Rattle.sync_core.specs.Mirror.{Call, Init, TakeLock, StealLock, ReleaseLock, SetCopying, Commit, PutProps, SetMerged, ClearCopying, Look}
use Rattle.sync_job.specs.declared.port_call.SeenCall.{SeenCall}
use Rattle.sync_job.specs.declared.port_call.SeenCall.TheVariants as seen

-- the call that was seen
abbrev pub call_seen : SeenCall → Call
call_seen (seen.Init url uuid props) = Init url.value uuid.value props.value
call_seen (seen.TakeLock token) = TakeLock token.value
call_seen (seen.StealLock token) = StealLock token.value
call_seen seen.ReleaseLock = ReleaseLock
call_seen (seen.SetCopying n) = SetCopying n
call_seen (seen.Commit n set props) = Commit n set.value props.value
call_seen (seen.PutProps n props) = PutProps n props.value
call_seen (seen.SetMerged n) = SetMerged n
call_seen seen.ClearCopying = ClearCopying
call_seen seen.Look = Look
