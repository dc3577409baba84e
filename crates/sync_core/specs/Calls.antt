-- What the code's calls are.
use Rattle.sync_core.specs.declared.call.MirrorCall.{MirrorCall}
use Rattle.sync_core.specs.declared.call.MirrorCall.TheVariants as call
use Rattle.sync_core.specs.Mirror.{Call, Init, TakeLock, StealLock, ReleaseLock, SetCopying, Commit, PutProps, SetMerged, ClearCopying, Look}

abbrev pub call_of : MirrorCall → Call
call_of (call.Init url uuid props) = Init url.now uuid.now props.now
call_of (call.TakeLock token) = TakeLock token.now
call_of (call.StealLock token) = StealLock token.now
call_of call.ReleaseLock = ReleaseLock
call_of (call.SetCopying n) = SetCopying n
call_of (call.Commit n set props) = Commit n set.now props.now
call_of (call.PutProps n props) = PutProps n props.now
call_of (call.SetMerged n) = SetMerged n
call_of call.ClearCopying = ClearCopying
call_of call.Look = Look
