-- What is read of a drive from a stream of items, and why no more is, said of the stream and of the editor's ghosts.
use Rattle.std.specs.Prelude.{◌≡◌, ◌≤◌, ℕ, Bool, List, [], Result, IfOk, IfErr, OnOk}
use Rattle.byte_streams.specs.Causes.{Counts, Fails}
use Rattle.byte_streams.specs.declared.input.Input.{Ghosts as InputGhosts}
use Rattle.delta_editor.specs.declared.call.Call.{Call}
use Rattle.delta_editor.specs.declared.editor.Editor.{Ghosts}
use Rattle.node_base.specs.Path.{Path}
use Rattle.ra_item.specs.ItemStreams.{reader_of, meanwhile, is_spent, ahead}
use Rattle.ra_item.specs.declared.stream.ItemStream.{ItemStream}
use Rattle.ra_edit.specs.Edit.{StandsAt, all_open}
use Rattle.ra_edit.specs.DeltaEdits.{coming_in, StandsWith, ComesBy, TakesOneBy, StopsOneBy, ReceivedDeltas, StopsDeltas, AbandonsDeltas}
use Rattle.ra_edit.specs.DeltaEditing.{HasText}
use Rattle.ra_edit.specs.Received.{Comes, TakesOne, Received, StopsBehind, StopsWith, Abandons}
use Rattle.ra_edit.specs.Refusals.{Meets}
use Rattle.ra_edit.specs.declared.delta_edit.DeltaEdit.{DeltaEdit}
use Rattle.ra_edit.specs.declared.edit_fault.EditFault.{EditFault}
use Rattle.ra_edit.specs.declared.edit_fault.EditFault.TheVariants.{PeerFailed}
use Rattle.ra_edit.specs.declared.receive_edit.Edit.{Edit}

-- how often the reader failed between two states of a stream
abbrev pub counts_of : {I : Type 0} {g : InputGhosts I} → ItemStream I g → ItemStream I g → Counts
counts_of {I} {g} old new = meanwhile g.failures g.reads old new

-- the count of the reader's failures doesn't fall
abbrev pub CountsOn : {I : Type 0} {g : InputGhosts I} → ItemStream I g → ItemStream I g → Type 0
CountsOn {I} {g} old new = g.failures (reader_of old) ≤ g.failures (reader_of new)

-- a failed stream is told only where the reader failed, or was read too often
abbrev pub TellsPeer : {I T : Type 0} {g : InputGhosts I} → ItemStream I g → ItemStream I g → Result T EditFault → Type 0
TellsPeer old new result = IfErr result (λ f. f ≡ PeerFailed → Fails (counts_of old new))

-- ---- an edit whose texts come whole

-- an edit was received, and its editor was shown it
abbrev pub ReceivesEdit : {I E N D F : Type 0} {g : InputGhosts I} → Ghosts E N D F → ItemStream I g → ItemStream I g → E → Result N EditFault → Type 0
ReceivesEdit {I} {E} {N} {D} {F} {g} G old new editor result = IfOk result (λ done. Received G.shows G.done_shows editor done (g.remaining (reader_of old)) (g.remaining (reader_of new)) (ahead old) (ahead new))

-- it was refused, and was given up
abbrev pub AbandonsEdit : {I E N D F : Type 0} {g : InputGhosts I} → Ghosts E N D F → ItemStream I g → ItemStream I g → E → Result N EditFault → Type 0
AbandonsEdit {I} {E} {N} {D} {F} {g} G old new editor result = IfErr result (Abandons G.shows G.began G.refuses G.lets_go G.given_up editor (g.remaining (reader_of old)) (g.remaining (reader_of new)) (ahead old) (is_spent old) (counts_of old new))

-- its commands came up to `finish-replay`
abbrev pub ReachesEnd : {I E N D F T : Type 0} {g : InputGhosts I} → Ghosts E N D F → ItemStream I g → ItemStream I g → Edit E N D F → Edit E N D F → Result T EditFault → Type 0
ReachesEnd {I} {E} {N} {D} {F} {T} {g} G old new edit edited result = OnOk result (Comes G.shows edit.editor edited.editor (g.remaining (reader_of old)) (g.remaining (reader_of new)) (ahead old) (ahead new) (StandsAt G.dir_path G.file_path edited))

-- they were refused before it
abbrev pub StopsWithin : {I E N D F T : Type 0} {g : InputGhosts I} → Ghosts E N D F → ItemStream I g → ItemStream I g → Edit E N D F → Edit E N D F → Result T EditFault → Type 0
StopsWithin {I} {E} {N} {D} {F} {T} {g} G old new edit edited result = IfErr result (StopsWith G.shows G.began G.refuses edit.editor (g.remaining (reader_of old)) (g.remaining (reader_of new)) (ahead old) (is_spent old) (counts_of old new) (all_open G.dir_path G.file_path edited))

-- one command came and was done
abbrev pub TakesCommand : {I E N D F : Type 0} {g : InputGhosts I} → Ghosts E N D F → ItemStream I g → ItemStream I g → Edit E N D F → Edit E N D F → Result Bool EditFault → Type 0
TakesCommand {I} {E} {N} {D} {F} {g} G old new edit edited result = IfOk result (TakesOne G.shows edit.editor edited.editor (g.remaining (reader_of old)) (g.remaining (reader_of new)) (ahead old) (ahead new) (StandsAt G.dir_path G.file_path edit) (StandsAt G.dir_path G.file_path edited))

-- none came, or it was refused
abbrev pub StopsAtCommand : {I E N D F T : Type 0} {g : InputGhosts I} → Ghosts E N D F → ItemStream I g → ItemStream I g → Edit E N D F → Result T EditFault → Type 0
StopsAtCommand {I} {E} {N} {D} {F} {T} {g} G old new edit result = IfErr result (StopsBehind (Meets G.shows G.began G.refuses edit.editor) [] (StandsAt G.dir_path G.file_path edit) (g.remaining (reader_of old)) (g.remaining (reader_of new)) (ahead old) (is_spent old) (counts_of old new))

-- ---- the same of one whose texts come as differences

abbrev pub ReceivesOver : {I E N D F O : Type 0} {g : InputGhosts I} → Ghosts E N D F → (E → O) → (O → List Call → Path → List ℕ → Type 0) → ItemStream I g → ItemStream I g → E → Result N EditFault → Type 0
ReceivesOver {I} {E} {N} {D} {F} {O} {g} G texts has_text old new editor result = IfOk result (λ done. ReceivedDeltas (HasText texts has_text editor) G.shows G.done_shows editor done (g.remaining (reader_of old)) (g.remaining (reader_of new)) (ahead old) (ahead new))

abbrev pub AbandonsOver : {I E N D F O : Type 0} {g : InputGhosts I} → Ghosts E N D F → (E → O) → (O → List Call → Path → List ℕ → Type 0) → ItemStream I g → ItemStream I g → E → Result N EditFault → Type 0
AbandonsOver {I} {E} {N} {D} {F} {O} {g} G texts has_text old new editor result = IfErr result (AbandonsDeltas (HasText texts has_text editor) G.shows G.began G.refuses G.lets_go G.given_up editor (g.remaining (reader_of old)) (g.remaining (reader_of new)) (ahead old) (is_spent old) (counts_of old new))

abbrev pub ReachesEndOver : {I E N D F T O : Type 0} {g : InputGhosts I} → Ghosts E N D F → (E → O) → (O → List Call → Path → List ℕ → Type 0) → ItemStream I g → ItemStream I g → DeltaEdit E N D F → DeltaEdit E N D F → Result T EditFault → Type 0
ReachesEndOver {I} {E} {N} {D} {F} {T} {O} {g} G texts has_text old new edit edited result = OnOk result (ComesBy (HasText texts has_text edit.edit.editor) G.shows edit.edit.editor edited.edit.editor (g.remaining (reader_of old)) (g.remaining (reader_of new)) (ahead old) (ahead new) (coming_in edited.coming) (StandsWith G.dir_path G.file_path edited.edit (coming_in edited.coming)))

abbrev pub StopsWithinOver : {I E N D F T O : Type 0} {g : InputGhosts I} → Ghosts E N D F → (E → O) → (O → List Call → Path → List ℕ → Type 0) → ItemStream I g → ItemStream I g → DeltaEdit E N D F → DeltaEdit E N D F → Result T EditFault → Type 0
StopsWithinOver {I} {E} {N} {D} {F} {T} {O} {g} G texts has_text old new edit edited result = IfErr result (StopsDeltas (HasText texts has_text edit.edit.editor) G.shows G.began G.refuses edit.edit.editor (g.remaining (reader_of old)) (g.remaining (reader_of new)) (ahead old) (is_spent old) (counts_of old new) (all_open G.dir_path G.file_path edited.edit))

abbrev pub TakesCommandOver : {I E N D F O : Type 0} {g : InputGhosts I} → Ghosts E N D F → (E → O) → (O → List Call → Path → List ℕ → Type 0) → ItemStream I g → ItemStream I g → DeltaEdit E N D F → DeltaEdit E N D F → Result Bool EditFault → Type 0
TakesCommandOver {I} {E} {N} {D} {F} {O} {g} G texts has_text old new edit edited result = IfOk result (TakesOneBy (HasText texts has_text edit.edit.editor) G.shows edit.edit.editor edited.edit.editor (g.remaining (reader_of old)) (g.remaining (reader_of new)) (ahead old) (ahead new) (coming_in edit.coming) (coming_in edited.coming) (StandsWith G.dir_path G.file_path edit.edit (coming_in edit.coming)) (StandsWith G.dir_path G.file_path edited.edit (coming_in edited.coming)))

abbrev pub StopsAtCommandOver : {I E N D F T O : Type 0} {g : InputGhosts I} → Ghosts E N D F → (E → O) → (O → List Call → Path → List ℕ → Type 0) → ItemStream I g → ItemStream I g → DeltaEdit E N D F → DeltaEdit E N D F → Result T EditFault → Type 0
StopsAtCommandOver {I} {E} {N} {D} {F} {T} {O} {g} G texts has_text old new edit edited result = IfErr result (StopsOneBy (HasText texts has_text edit.edit.editor) G.shows G.began G.refuses edit.edit.editor (StandsWith G.dir_path G.file_path edit.edit (coming_in edit.coming)) (coming_in edit.coming) (g.remaining (reader_of old)) (g.remaining (reader_of new)) (ahead old) (is_spent old) (counts_of old new) (all_open G.dir_path G.file_path edited.edit))
