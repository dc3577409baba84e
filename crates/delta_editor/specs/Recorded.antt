-- What a recorder was shown.
use Rattle.std.specs.Prelude.{List}
use Rattle.delta_editor.specs.declared.recorder.Recorder.{Recorder}
use Rattle.delta_editor.specs.Calls.{Call}

-- the calls that it keeps, in order
abbrev pub calls_of : Recorder → List Call
calls_of r = r.calls.items
