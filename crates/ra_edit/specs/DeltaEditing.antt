-- The same of an edit whose texts come as differences, over an editor that knows the texts of open files: its ghosts, from what it has texts, and which these are.
use Rattle.std.specs.Prelude.{ℕ, Bool, List, Option, Result, IfOk, IfErr}
use Rattle.delta_editor.specs.declared.call.Call.{Call}
use Rattle.delta_editor.specs.declared.editor.Editor.{Ghosts}
use Rattle.node_base.specs.Path.{Path}
use Rattle.ra_edit.specs.DeltaEdits.{coming_in, DoneBy, RefusedBy}
use Rattle.ra_edit.specs.declared.command_fault.CommandFault.{CommandFault}
use Rattle.ra_edit.specs.declared.delta_edit.DeltaEdit.{DeltaEdit}
use Rattle.ra_edit.specs.declared.receive_command.Command.{Command}

-- the text so far of an open file, as an editor has it
abbrev pub HasText : {E O : Type 0} → (E → O) → (O → List Call → Path → List ℕ → Type 0) → E → List Call → Path → List ℕ → Type 0
HasText texts has_text editor = has_text (texts editor)

-- a command was done that came with this sum, or it is the end of the drive
abbrev pub StepsOver : {E N D F O : Type 0} → Ghosts E N D F → (E → O) → (O → List Call → Path → List ℕ → Type 0) → DeltaEdit E N D F → DeltaEdit E N D F → Command → Option (List ℕ) → Result Bool CommandFault → Type 0
StepsOver G texts has_text old new c sum result = IfOk result (DoneBy (HasText texts has_text old.edit.editor) G.shows G.dir_path G.file_path old.edit new.edit (coming_in old.coming) (coming_in new.coming) c sum)

-- whatever came for a sum
abbrev pub StepsAnyhow : {E N D F O : Type 0} → Ghosts E N D F → (E → O) → (O → List Call → Path → List ℕ → Type 0) → DeltaEdit E N D F → DeltaEdit E N D F → Command → Result Bool CommandFault → Type 0
StepsAnyhow G texts has_text old new c result = IfOk result (λ done. (sum : Option (List ℕ)) → DoneBy (HasText texts has_text old.edit.editor) G.shows G.dir_path G.file_path old.edit new.edit (coming_in old.coming) (coming_in new.coming) c sum done)

-- a command that came with this sum is refused for what it may be, and what was open is, but for what a refused close took
abbrev pub RefusesOver : {E N D F T O : Type 0} → Ghosts E N D F → (E → O) → (O → List Call → Path → List ℕ → Type 0) → DeltaEdit E N D F → DeltaEdit E N D F → Command → Option (List ℕ) → Result T CommandFault → Type 0
RefusesOver G texts has_text old new c sum result = IfErr result (RefusedBy (HasText texts has_text old.edit.editor) G.shows G.began G.refuses G.dir_path G.file_path old.edit new.edit (coming_in old.coming) c sum)

-- whatever came for a sum
abbrev pub RefusesAnyhow : {E N D F T O : Type 0} → Ghosts E N D F → (E → O) → (O → List Call → Path → List ℕ → Type 0) → DeltaEdit E N D F → DeltaEdit E N D F → Command → Result T CommandFault → Type 0
RefusesAnyhow G texts has_text old new c result = IfErr result (λ f. (sum : Option (List ℕ)) → RefusedBy (HasText texts has_text old.edit.editor) G.shows G.began G.refuses G.dir_path G.file_path old.edit new.edit (coming_in old.coming) c sum f)
