-- What is done in an edit over an editor, and why it isn't, said of the record of the editor's ghosts.
use Rattle.std.specs.Prelude.{◌≡◌, ℕ, Bool, List, [], ◌∷◌, ◌++◌, map, Option, None, Result, IfOk, IfErr, OnOk}
use Rattle.std.specs.List.{concat}
use Rattle.md5.specs.Md5.{Holds}
use Rattle.md5.specs.declared.Md5.{Md5}
use Rattle.node_base.specs.Path.{Path}
use Rattle.delta_editor.specs.Calls.{Adds}
use Rattle.delta_editor.specs.declared.call.Call.{Call}
use Rattle.delta_editor.specs.declared.call.Call.TheVariants as call
use Rattle.delta_editor.specs.declared.editor.Editor.{Ghosts}
use Rattle.delta_editor.specs.declared.fault.EditorFault.{EditorFault}
use Rattle.svndiff.specs.Streams.{reading, pieces_in, with_piece, Reads}
use Rattle.svndiff.specs.declared.reading.Reading.{Reading}
use Rattle.ra_item.specs.Items.{Item}
use Rattle.ra_edit.specs.Edit.{StandsAt, Performs, RefusedAs, MetAs, LeavesOpen, GivesUp, all_open, Stepped, Finishes, FileMoves, GivenIs}
use Rattle.ra_edit.specs.Edits.{At, Held, IsCommand}
use Rattle.ra_edit.specs.Names.{word_of}
use Rattle.ra_edit.specs.Receiving.{Forms}
use Rattle.ra_edit.specs.Refusals.{RefusedFor, RefusesOne, IfOwn, ReadFirst, for_token}
use Rattle.ra_edit.specs.declared.command_fault.CommandFault.{CommandFault}
use Rattle.ra_edit.specs.declared.name.Name.TheVariants as word
use Rattle.ra_edit.specs.declared.receive_command.Command.{Command}
use Rattle.ra_edit.specs.declared.receive_edit.Edit.{Edit}
use Rattle.ra_edit.specs.declared.receive_edit.Given.{Given}
use Rattle.ra_edit.specs.declared.receive_edit.OpenDir.{OpenDir}
use Rattle.ra_edit.specs.declared.receive_edit.OpenFile.{OpenFile}

-- ---- a command in an edit

-- it was done, in whichever form it came
abbrev pub Does : {E N D F T : Type 0} → Ghosts E N D F → Edit E N D F → Edit E N D F → Command → Result T CommandFault → Type 0
Does G old new c result = OnOk result (Performs G.dir_path G.file_path G.shows old new c)

-- it was done, or it is the end of the drive
abbrev pub Steps : {E N D F : Type 0} → Ghosts E N D F → Edit E N D F → Edit E N D F → Command → Result Bool CommandFault → Type 0
Steps G old new c result = IfOk result (λ done. (at : At) (item : Item) → Forms c item → StandsAt G.dir_path G.file_path old at → Stepped G.shows old.editor new.editor item at (StandsAt G.dir_path G.file_path new) done)

-- a refusal is one that is due where the commands stand
abbrev pub RefusesAt : {E N D F T : Type 0} → Ghosts E N D F → Edit E N D F → (At → Option CommandFault) → Result T CommandFault → Type 0
RefusesAt G e due result = IfErr result (λ f. (at : At) → StandsAt G.dir_path G.file_path e at → RefusedFor f (due at))

-- the same of a command that isn't the end
abbrev pub RefusesDue : {E N D F T : Type 0} → Ghosts E N D F → Edit E N D F → Command → Result T CommandFault → Type 0
RefusesDue G e c result = IfErr result (RefusedAs G.dir_path G.file_path e c)

-- the editor's own refusal is one that a call may meet for which the command asks
abbrev pub MayMeet : {E N D F T : Type 0} → Ghosts E N D F → Edit E N D F → Command → Result T CommandFault → Type 0
MayMeet G e c result = IfErr result (IfOwn (MetAs G.dir_path G.file_path G.shows G.began G.refuses e c))

-- after a refusal what was open is, but for what a refused close took
abbrev pub KeepsOpen : {E N D F T : Type 0} → Ghosts E N D F → Edit E N D F → Edit E N D F → Command → Result T CommandFault → Type 0
KeepsOpen G old new c result = IfErr result (LeavesOpen G.dir_path G.file_path old new c)

-- the innermost open thing was taken, a directory with this token
abbrev pub TakesInnermost : {E N D F : Type 0} → Edit E N D F → Edit E N D F → List ℕ → Result (OpenDir D) CommandFault → Type 0
TakesInnermost old new token result = IfOk result (λ d. (old.dirs.items ≡ new.dirs.items ++ d ∷ []) × (d.token.items ≡ token) × (old.file ≡ None))

-- `finish-replay` ends the edit
abbrev pub EndsEdit : {E N D F : Type 0} → Ghosts E N D F → Edit E N D F → Result N CommandFault → Type 0
EndsEdit G e result = IfOk result (λ d. (at : At) (item : Item) → IsCommand (word_of word.FinishReplay) [] item → StandsAt G.dir_path G.file_path e at → Finishes G.shows G.done_shows e.editor d item at)

-- what is open was let go of, and then the edit was given up
abbrev pub IsGivenUp : {E N D F : Type 0} → Ghosts E N D F → Edit E N D F → Type 0
IsGivenUp G e = GivesUp G.lets_go G.given_up (all_open G.dir_path G.file_path e)

-- ---- a command in the open file

-- it was done
abbrev pub DoesInFile : {E N D F T : Type 0} → Ghosts E N D F → E → E → OpenFile F → OpenFile F → Command → Result T CommandFault → Type 0
DoesInFile G old new f g c result = OnOk result ((item : Item) → Forms c item → FileMoves G.file_path G.shows old new item f g)

-- a refusal is one that is due for what was given of the text
abbrev pub RefusesGiven : {T : Type 0} → Given → (Held → Option CommandFault) → Result T CommandFault → Type 0
RefusesGiven given due result = IfErr result (λ f. (held : Held) → GivenIs given held → RefusedFor f (due held))

-- the same of the open file, which may have another token
abbrev pub RefusesInFile : {F T : Type 0} → OpenFile F → List ℕ → (Held → Option CommandFault) → Result T CommandFault → Type 0
RefusesInFile file token due result = RefusesGiven file.given (λ held. for_token token file.token.items (due held)) result

-- the editor's own refusal is one that one of these calls may meet
abbrev pub MeetsOne : {E N D F T : Type 0} → Ghosts E N D F → E → List Call → Result T CommandFault → Type 0
MeetsOne G e calls result = IfErr result (IfOwn (RefusesOne G.shows G.began G.refuses e calls))

-- or a piece that bytes of the open file's text have
abbrev pub MeetsPiece : {E N D F T : Type 0} → Ghosts E N D F → E → OpenFile F → List ℕ → Result T CommandFault → Type 0
MeetsPiece G e file bytes result = IfErr result (IfOwn (λ f. (held : Held) → GivenIs file.given held → (pieces : List (List ℕ)) × ReadFirst held bytes pieces × RefusesOne G.shows G.began G.refuses e (map (call.TextPiece (G.file_path file.baton)) pieces) f))

-- ---- new data of the text of a file at a path

-- it was shown as one piece, or as none where there is nothing
abbrev pub ShowsStretch : {E N D F T : Type 0} → Ghosts E N D F → E → E → Path → List ℕ → Result T EditorFault → Type 0
ShowsStretch G old new path bytes result = OnOk result ((pieces : List (List ℕ)) × (concat pieces ≡ bytes) × Adds G.shows old new (map (call.TextPiece path) pieces) × (pieces ≡ with_piece bytes []))

-- what bytes in windows have of it was shown and summed, and so the text is read on
abbrev pub HandsOn : {E N D F T : Type 0} → Ghosts E N D F → E → E → Reading → Reading → Md5 → Md5 → Path → List ℕ → Result T CommandFault → Type 0
HandsOn G old new before after sum sums path bytes result = OnOk result ((pieces : List (List ℕ)) × Adds G.shows old new (map (call.TextPiece path) pieces) × ((text : List ℕ) → reading (Reads text before) bytes ≡ Reads (text ++ concat pieces) after) × ((text : List ℕ) → Holds sum text → Holds sums (text ++ concat pieces)) × (pieces ≡ pieces_in before bytes))

-- the editor's own refusal is one of a piece on the way through such bytes
abbrev pub MeetsOnWay : {E N D F T : Type 0} → Ghosts E N D F → E → Reading → Path → List ℕ → Result T CommandFault → Type 0
MeetsOnWay G e before path bytes result = IfErr result (IfOwn (λ f. (pieces : List (List ℕ)) × (rest : List ℕ) × (new : Reading) × ((text : List ℕ) → reading (Reads text before) bytes ≡ reading (Reads (text ++ concat pieces) new) rest) × (pieces_in before bytes ≡ pieces ++ pieces_in new rest) × RefusesOne G.shows G.began G.refuses e (map (call.TextPiece path) pieces) f))
