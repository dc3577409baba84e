-- Where the commands of a drive stand, and what was given of an open file's text.
use Rattle.std.specs.Prelude.{◌++◌, ◌≡◌, ℕ, Bool, true, false, List, [], ◌∷◌, map, reverse, MatchOption, Option, Some, None}
use Rattle.md5.specs.Md5.{Holds, md5}
use Rattle.svndiff.specs.Reading.{is_between}
use Rattle.svndiff.specs.declared.reading.Reading.{Reading}
use Rattle.ra_item.specs.Items.{Item}
use Rattle.node_base.specs.Path.{Path}
use Rattle.delta_editor.specs.Calls.{Adds, LetsGo}
use Rattle.delta_editor.specs.declared.call.Call.{Call}
use Rattle.ra_edit.specs.Edits.{Held, Dir, Fresh, Within, Told, Named, named, At, Begun, Targeted, Inside, Announced, Ended, Says, IsCommand}
use Rattle.ra_edit.specs.Receiving.{Forms}
use Rattle.ra_edit.specs.Refusals.{due, left_open, RefusedFor, Meets}
use Rattle.delta_editor.specs.declared.fault.EditorFault.{EditorFault}
use Rattle.ra_edit.specs.declared.command_fault.CommandFault.{CommandFault}
use Rattle.ra_edit.specs.declared.receive_command.Command.{Command}
use Rattle.ra_edit.specs.declared.receive_edit.Edit.{Edit}
use Rattle.ra_edit.specs.declared.receive_edit.Given.{Given}
use Rattle.ra_edit.specs.declared.receive_edit.Given.TheVariants as given
use Rattle.ra_edit.specs.declared.receive_edit.OpenDir.{OpenDir}
use Rattle.ra_edit.specs.declared.receive_edit.OpenFile.{OpenFile}
use Rattle.ra_edit.specs.declared.receive_edit.Stage.{Stage}
use Rattle.ra_edit.specs.declared.receive_edit.Stage.TheVariants as stage
use Rattle.ra_edit.specs.Names.{word_of}
use Rattle.ra_edit.specs.declared.name.Name.TheVariants as word

-- an open directory, with its token
abbrev pub dir_named : {D : Type 0} → (D → Path) → OpenDir D → Named
dir_named path d = named d.token.items (path d.baton) Dir

-- those that are open, the innermost first
abbrev pub dirs_named : {D : Type 0} → (D → Path) → List (OpenDir D) → List Named
dirs_named path ds = reverse (map (dir_named path) ds)

-- the paths of open directories, the innermost first; of all that is open, where a file is the innermost
abbrev pub dir_paths : {D : Type 0} → (D → Path) → List (OpenDir D) → List Path
dir_paths path ds = map (λ (o : Named). o.path) (dirs_named path ds)

abbrev pub open_paths : {D F : Type 0} → (D → Path) → (F → Path) → List (OpenDir D) → Option (OpenFile F) → List Path
open_paths dir_path file_path ds None = dir_paths dir_path ds
open_paths dir_path file_path ds (Some f) = file_path f.baton ∷ dir_paths dir_path ds

-- what was given of a file's text
abbrev pub GivenIs : Given → Held → Type 0
GivenIs given.Nothing held = held ≡ Fresh
GivenIs (given.Begun reader sum) held = (text : List ℕ) × (held ≡ Within text reader) × Holds sum text
GivenIs (given.Whole sum) held = (text : List ℕ) × (held ≡ Told text) × (sum ≡ md5 text)

-- a text has begun and not ended
abbrev pub IsGivenText : Given → Type 0
IsGivenText (given.Begun reader sum) = Unit {0}
IsGivenText _ = ⊥

-- what is open: a file perhaps, and the directories around it
abbrev pub OpenIs : {D F : Type 0} → (D → Path) → (F → Path) → List (OpenDir D) → Option (OpenFile F) → List Named → Type 0
OpenIs dir_path file_path dirs None os = os ≡ dirs_named dir_path dirs
OpenIs dir_path file_path dirs (Some f) os = (held : Held) × GivenIs f.given held × (os ≡ named f.token.items (file_path f.baton) held ∷ dirs_named dir_path dirs)

-- where the commands stand
abbrev pub Stands : {D F : Type 0} → (D → Path) → (F → Path) → Stage → List (OpenDir D) → Option (OpenFile F) → At → Type 0
Stands dir_path file_path stage.Begun dirs file at = (at ≡ Begun) × (dirs ≡ []) × (file ≡ None)
Stands dir_path file_path stage.Targeted dirs file at = (at ≡ Targeted) × (dirs ≡ []) × (file ≡ None)
Stands dir_path file_path stage.Inside dirs file at = (os : List Named) × (at ≡ Inside os) × OpenIs dir_path file_path dirs file os
Stands dir_path file_path (stage.Announced root) dirs file at = (at ≡ Announced root) × (dirs ≡ []) × (file ≡ None)

-- an item moves an editor from one place to another by the calls that it says
pub record Moves {E : Type 0} (shows : E → List Call → Type 0) (old new : E) (item : Item) (at : At) (stands : At → Type 0) : Type 0 where
  pub calls : List Call
  pub to : At
  pub says : Says at item calls to
  pub shown : Adds shows old new calls
  pub now : stands to

-- before the root
abbrev pub is_unopened : Stage → Bool
is_unopened stage.Begun = true
is_unopened stage.Targeted = true
is_unopened stage.Inside = false
is_unopened (stage.Announced root) = false

-- whether the root was opened
abbrev pub has_root : Stage → Bool
has_root stage.Begun = false
has_root stage.Targeted = false
has_root stage.Inside = true
has_root (stage.Announced root) = root

-- a text has ended with this sum
abbrev pub TextEnds : Given → List ℕ → Type 0
TextEnds g sum = (held : Held) → GivenIs g held → (text : List ℕ) × (r : Reading) × (held ≡ Within text r) × (is_between r ≡ true) × (sum ≡ md5 text)

-- the sum that came with a text's end is the text's, where there is one
abbrev pub SumIs : Given → Option (List ℕ) → Type 0
SumIs given.Nothing sum = Unit {0}
SumIs (given.Begun r s) sum = ⊥
SumIs (given.Whole found) sum = (s : List ℕ) → sum ≡ Some s → s ≡ found

-- whether the end was announced
abbrev pub is_announced : Stage → Bool
is_announced stage.Begun = false
is_announced stage.Targeted = false
is_announced stage.Inside = false
is_announced (stage.Announced root) = true

-- an item moves an editor inside the open file
pub record FileMoves {E F : Type 0} (file_path : F → Path) (shows : E → List Call → Type 0) (old new : E) (item : Item) (f g : OpenFile F) : Type 0 where
  pub calls : List Call
  pub token : g.token.items ≡ f.token.items
  pub path : file_path g.baton ≡ file_path f.baton
  pub says : (held : Held) (os : List Named) → GivenIs f.given held → (after : Held) × GivenIs g.given after × Says (Inside (named f.token.items (file_path f.baton) held ∷ os)) item calls (Inside (named f.token.items (file_path f.baton) after ∷ os))
  pub shown : Adds shows old new calls

-- a command was done; or it is the end of the drive, and nothing was done for it
abbrev pub Stepped : {E : Type 0} → (E → List Call → Type 0) → E → E → Item → At → (At → Type 0) → Bool → Type 0
Stepped shows old new item at stands false = Moves shows old new item at stands
Stepped shows old new item at stands true = IsCommand (word_of word.FinishReplay) [] item × (new ≡ old) × stands at

-- `finish-replay` ends the edit, and this was shown by it
abbrev pub Finishes : {E D : Type 0} → (E → List Call → Type 0) → (D → List Call → Type 0) → E → D → Item → At → Type 0
Finishes shows done_shows editor done item at = (calls : List Call) × Says at item calls Ended × ((shown : List Call) → shows editor shown → done_shows done (shown ++ calls))

-- ---- a command in an edit

-- where the commands of an edit stand
abbrev pub StandsAt : {E D F T : Type 0} → (D → Path) → (F → Path) → Edit E T D F → At → Type 0
StandsAt dir_path file_path e at = Stands dir_path file_path e.stage e.dirs.items e.file at

-- the command was done, in whichever form it came
abbrev pub Performs : {E D F T : Type 0} → (D → Path) → (F → Path) → (E → List Call → Type 0) → Edit E T D F → Edit E T D F → Command → Type 0
Performs dir_path file_path shows old new c = (at : At) (item : Item) → Forms c item → StandsAt dir_path file_path old at → Moves shows old.editor new.editor item at (StandsAt dir_path file_path new)

-- it is refused for what is due where the commands stand
abbrev pub RefusedAs : {E D F T : Type 0} → (D → Path) → (F → Path) → Edit E T D F → Command → CommandFault → Type 0
RefusedAs dir_path file_path e c f = (at : At) → StandsAt dir_path file_path e at → RefusedFor f (due at c)

-- the editor refuses one of the calls that it asks for
abbrev pub MetAs : {E D F T O : Type 0} → (D → Path) → (F → Path) → (E → List Call → Type 0) → (E → O) → (O → List Call → Call → EditorFault → Type 0) → Edit E T D F → Command → EditorFault → Type 0
MetAs dir_path file_path shows began refuses e c f = (at : At) → StandsAt dir_path file_path e at → Meets shows began refuses e.editor at c f

-- the text so far of the file that is open, as the editor has it; the empty one where none is
abbrev pub IsBase : {E D F T O : Type 0} → (E → List Call → Type 0) → (E → O) → (F → Path) → (O → List Call → Path → List ℕ → Type 0) → Edit E T D F → List ℕ → Type 0
IsBase shows texts file_path has_text e text = MatchOption e.file (text ≡ []) (λ f. (calls : List Call) → shows e.editor calls → has_text (texts e.editor) calls (file_path f.baton) text)

-- the innermost open thing is a file in its text, by this token
abbrev pub IsInText : List ℕ → At → Type 0
IsInText t at = (p : Path) × (text : List ℕ) × (r : Reading) × (os : List Named) × (at ≡ Inside (named t p (Within text r) ∷ os))

-- ---- what is open after a refusal

-- the paths of all that is open in an edit, the innermost first
abbrev pub all_open : {E D F T : Type 0} → (D → Path) → (F → Path) → Edit E T D F → List Path
all_open dir_path file_path e = open_paths dir_path file_path e.dirs.items e.file

abbrev pub LeavesOpen : {E D F T : Type 0} → (D → Path) → (F → Path) → Edit E T D F → Edit E T D F → Command → CommandFault → Type 0
LeavesOpen dir_path file_path old new c f = all_open dir_path file_path new ≡ left_open c f (all_open dir_path file_path old)

-- an editor was let go of what is open at these paths, in order, and then given up
pub record GivesUp {E : Type 0} (lets_go : E → List Path → Type 0) (given_up : E → Type 0) (paths : List Path) : Type 0 where
  pub stopped : E
  pub last : E
  pub discarded : LetsGo lets_go stopped last paths
  pub ended : given_up last
