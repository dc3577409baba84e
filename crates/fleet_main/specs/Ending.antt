-- What the streams of a command hold at its end.
use Rattle.std.specs.Prelude.{◌≡◌, ◌⊎◌, Result, IfErr}
use Rattle.std.specs.Io.KnownBytes.{Appends}
use Rattle.byte_streams.specs.Causes.{Fails, Rose, counts}
use Rattle.byte_streams.specs.declared.input.Input.{Ghosts as InputGhosts}
use Rattle.byte_streams.specs.declared.output.Output.{Ghosts as OutputGhosts}
use Rattle.node_base.specs.Refusals.{fault_line}
use Rattle.node_base.specs.declared.refusal.Refusal.{Refusal}
use Rattle.node_base.specs.declared.refusal.Refusal.TheVariants as refusal
use Rattle.command_words.specs.declared.command_line.Command.{Command}
use Rattle.command_words.specs.declared.command_line.Command.TheVariants.{List as ListIt, Canon, Load}

-- the refusal's line is written, unless the stream failed
abbrev pub TellsLine : {E : Type 0} → OutputGhosts E → E → E → Refusal → Type 0
TellsLine W old new e = Rose (W.failures old) (W.failures new) ⊎ Appends (W.contents old) (W.contents new) (fault_line e)

-- the input failed, or the output
abbrev pub StreamsFail : {I O : Type 0} → InputGhosts I → OutputGhosts O → I → I → O → O → Type 0
StreamsFail R W old new before now = Fails (counts R.failures R.reads old new) ⊎ Rose (W.failures before) (W.failures now)

-- PeerFailed (49) comes only where one of them did
abbrev pub IsStreamFailure : {I O T : Type 0} → InputGhosts I → OutputGhosts O → I → I → O → O → Result T Refusal → Type 0
IsStreamFailure R W old new before now result = IfErr result (λ e. e ≡ refusal.PeerFailed → StreamsFail R W old new before now)

-- neither failed
abbrev pub StreamsWork : {I O : Type 0} → InputGhosts I → OutputGhosts O → I → I → O → O → Type 0
StreamsWork R W old new before now = (R.failures new ≡ R.failures old) × (W.failures now ≡ W.failures before)

-- standard input is read for a dump alone
abbrev pub SparesInput : {I : Type 0} → Command → I → I → Type 0
SparesInput (ListIt deltas) old new = Unit {0}
SparesInput (Canon deltas) old new = Unit {0}
SparesInput (Load folder deltas) old new = Unit {0}
SparesInput c old new = new ≡ old
