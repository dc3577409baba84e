-- Why a drive isn't received, as numbers and from other refusals.
use Rattle.std.specs.Prelude.{ℕ}
use Rattle.delta_editor.specs.Faults.{number_of}
use Rattle.ra_item.specs.declared.fault.NextFault.{NextFault}
use Rattle.ra_item.specs.declared.fault.NextFault.TheVariants as next
use Rattle.ra_item.specs.declared.fault.ItemFault.TheVariants as item
use Rattle.ra_edit.specs.declared.command_fault.CommandFault.{CommandFault}
use Rattle.ra_edit.specs.declared.command_fault.CommandFault.TheVariants as command
use Rattle.ra_edit.specs.declared.edit_fault.EditFault.{EditFault}
use Rattle.ra_edit.specs.declared.edit_fault.EditFault.TheVariants as fault
use Rattle.ra_edit.specs.declared.shape_fault.ShapeFault.{ShapeFault}
use Rattle.ra_edit.specs.declared.shape_fault.ShapeFault.TheVariants as shape
use Rattle.svndiff.specs.declared.delta_fault.DeltaFault.{DeltaFault}
use Rattle.svndiff.specs.declared.delta_fault.DeltaFault.TheVariants as delta
use Rattle.svndiff.specs.declared.fault.WindowFault.{WindowFault}
use Rattle.svndiff.specs.declared.fault.WindowFault.TheVariants as window

abbrev pub edit_number : EditFault → ℕ
edit_number fault.BadSum = 6
edit_number fault.Truncated = 7
edit_number fault.TooLong = 8
edit_number fault.Failed = 32
edit_number fault.BadItem = 41
edit_number fault.TooDeep = 42
edit_number fault.BadWindow = 44
edit_number fault.CopyWindow = 45
edit_number fault.BadToken = 46
edit_number fault.BadShape = 48
edit_number fault.PeerFailed = 49
edit_number fault.Refused = 60
edit_number fault.OutOfMemory = 70
edit_number (fault.Editor f) = number_of f

-- the refusal of a stream whose next item doesn't come
abbrev pub of_next : NextFault → EditFault
of_next (next.Items item.Truncated) = fault.Truncated
of_next (next.Items item.TooLong) = fault.TooLong
of_next (next.Items item.Failed) = fault.Failed
of_next (next.Items item.BadItem) = fault.BadItem
of_next (next.Items item.TooDeep) = fault.TooDeep
of_next (next.Items item.OutOfMemory) = fault.OutOfMemory
of_next next.PeerFailed = fault.PeerFailed

-- the refusal of bytes that are no windows
abbrev pub of_window : WindowFault → CommandFault
of_window window.TooLong = command.TooLong
of_window window.Failed = command.Failed
of_window window.BadWindow = command.BadWindow
of_window window.CopyWindow = command.CopyWindow

-- the refusal of bytes that are no delta
abbrev pub of_delta : DeltaFault → CommandFault
of_delta delta.TooLong = command.TooLong
of_delta delta.Failed = command.Failed
of_delta delta.BadWindow = command.BadWindow
of_delta delta.OutOfMemory = command.OutOfMemory

-- the refusal of an item that is no command
abbrev pub of_shape : ShapeFault → CommandFault
of_shape shape.BadShape = command.BadShape
of_shape shape.OutOfMemory = command.OutOfMemory

-- the refusal of a command
abbrev pub of_command : CommandFault → EditFault
of_command command.BadSum = fault.BadSum
of_command command.TooLong = fault.TooLong
of_command command.Failed = fault.Failed
of_command command.BadWindow = fault.BadWindow
of_command command.CopyWindow = fault.CopyWindow
of_command command.BadToken = fault.BadToken
of_command command.BadShape = fault.BadShape
of_command command.Refused = fault.Refused
of_command command.OutOfMemory = fault.OutOfMemory
of_command (command.Editor f) = fault.Editor f
