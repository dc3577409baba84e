-- What a command is refused for, where the commands so far stand.
use Rattle.std.specs.Prelude.{◌≡◌, ℕ, Bool, true, false, ◌&&◌, ◌||◌, if◌then◌else◌, List, [], ◌∷◌, ◌++◌, map, Option, Some, None}
use Rattle.std.specs.List.{concat}
use Rattle.std.specs.Option.{option_map}
use Rattle.md5.specs.Md5.{md5}
use Rattle.node_base.specs.Path.{Path, same_name}
use Rattle.ra_edit.specs.EditFaults.{of_window}
use Rattle.ra_item.specs.Items.{Item}
use Rattle.delta_editor.specs.declared.call.Call.{Call}
use Rattle.delta_editor.specs.declared.call.Call.TheVariants as call
use Rattle.delta_editor.specs.declared.fault.EditorFault.{EditorFault}
use Rattle.ra_edit.specs.Edits.{Held, Dir, Fresh, Within, Told, Named, is_free, IsOpenDir, At, Begun, Inside, Announced, Says, last_calls}
use Rattle.ra_edit.specs.Receiving.{Forms}
use Rattle.svndiff.specs.Reading.{is_between, is_failed}
use Rattle.svndiff.specs.declared.reading.Reading.{Reading}
use Rattle.svndiff.specs.Streams.{Stream, Reads, Refuses, reading, pieces_in}
use Rattle.ra_edit.specs.declared.command_fault.CommandFault.{CommandFault}
use Rattle.ra_edit.specs.declared.command_fault.CommandFault.TheVariants as fault
use Rattle.ra_edit.specs.declared.receive_command.Command.{Command}
use Rattle.ra_edit.specs.declared.receive_command.Command.TheVariants as command

-- what is open
abbrev pub open_of : At → List Named
open_of (Inside os) = os
open_of _ = []

abbrev pub unless : Bool → CommandFault → Option CommandFault
unless true f = None
unless false f = Some f

abbrev pub is_dir : Held → Bool
is_dir Dir = true
is_dir _ = false

-- the innermost open thing is a directory with this token
abbrev pub is_in_dir : List ℕ → List Named → Bool
is_in_dir t [] = false
is_in_dir t (o ∷ os) = is_dir o.held && same_name o.token t

-- a directory is open by this token
abbrev pub has_dir : List ℕ → List Named → Bool
has_dir t [] = false
has_dir t (o ∷ os) = (is_dir o.held && same_name o.token t) || has_dir t os

-- the token is the one that was given, and then what else there is
abbrev pub for_token : List ℕ → List ℕ → Option CommandFault → Option CommandFault
for_token t found what = if same_name found t then what else Some fault.BadToken

-- the innermost open thing is a file with this token, and then what its text asks for
abbrev pub in_file : List ℕ → List Named → (Held → Option CommandFault) → Option CommandFault
in_file t [] f = Some fault.BadToken
in_file t (o ∷ os) f = if is_dir o.held then Some fault.BadToken else for_token t o.token (f o.held)

abbrev pub at_start : Held → Option CommandFault
at_start Fresh = None
at_start _ = Some fault.BadShape

-- in its text
abbrev pub at_text : Held → Option CommandFault
at_text (Within text r) = None
at_text _ = Some fault.BadShape

abbrev pub of_stream : Stream → Option CommandFault
of_stream (Reads text r) = None
of_stream (Refuses text f) = Some (of_window f)

abbrev pub at_chunk : List ℕ → Held → Option CommandFault
at_chunk bytes (Within text r) = of_stream (reading (Reads text r) bytes)
at_chunk bytes _ = Some fault.BadShape

-- a text ends between windows, where its bytes weren't refused
abbrev pub at_end : Held → Option CommandFault
at_end (Within text r) = if is_failed r then Some fault.Failed else unless (is_between r) fault.BadWindow
at_end _ = Some fault.BadShape

abbrev pub sums : Option (List ℕ) → List ℕ → Bool
sums None text = true
sums (Some s) text = same_name s (md5 text)

abbrev pub at_close : Option (List ℕ) → Held → Option CommandFault
at_close sum (Told text) = unless (sums sum text) fault.BadSum
at_close sum Fresh = None
at_close sum _ = Some fault.BadShape

-- `finish-replay`
abbrev pub is_finish : Command → Bool
is_finish command.Finish = true
is_finish _ = false

-- the target comes first, and the root is opened once
abbrev pub at_target : At → Option CommandFault
at_target Begun = None
at_target _ = Some fault.BadShape

abbrev pub at_root : At → Option CommandFault
at_root (Inside os) = Some fault.BadShape
at_root (Announced root) = Some fault.BadShape
at_root _ = None

-- the end is announced once, where nothing is open, and comes so
abbrev pub at_close_edit : At → Option CommandFault
at_close_edit (Inside (o ∷ os)) = Some fault.BadToken
at_close_edit (Announced root) = Some fault.BadShape
at_close_edit _ = None

abbrev pub at_finish : At → Option CommandFault
at_finish (Inside (o ∷ os)) = Some fault.BadToken
at_finish _ = None

-- what a command is refused for before the end was announced, but for memory and the editor's own refusals
abbrev pub due : At → Command → Option CommandFault
due at (command.Target n) = at_target at
due at (command.OpenRoot base t) = at_root at
due at (command.DeleteEntry p base u) = unless (is_in_dir u.items (open_of at)) fault.BadToken
due at (command.AddDir p u t from) = unless (is_free t.items (open_of at) && is_in_dir u.items (open_of at)) fault.BadToken
due at (command.OpenDir p u t base) = unless (is_free t.items (open_of at) && is_in_dir u.items (open_of at)) fault.BadToken
due at (command.AddFile p u t from) = unless (is_free t.items (open_of at) && is_in_dir u.items (open_of at)) fault.BadToken
due at (command.OpenFile p u t base) = unless (is_free t.items (open_of at) && is_in_dir u.items (open_of at)) fault.BadToken
due at (command.DirProp t n value) = unless (has_dir t.items (open_of at)) fault.BadToken
due at (command.CloseDir t) = unless (is_in_dir t.items (open_of at)) fault.BadToken
due at (command.FileProp t n value) = in_file t.items (open_of at) (λ held. None)
due at (command.TextStart t) = in_file t.items (open_of at) at_start
due at (command.Chunk t bytes) = in_file t.items (open_of at) (at_chunk bytes.items)
due at (command.TextEnd t) = in_file t.items (open_of at) at_end
due at (command.CloseFile t sum) = in_file t.items (open_of at) (at_close sum)
due at command.CloseEdit = at_close_edit at
due at command.Finish = at_finish at
due at command.Abort = Some fault.Refused

-- behind `close-edit` nothing but the end comes
abbrev pub behind_end : At → Option CommandFault → Option CommandFault
behind_end (Announced root) what = Some fault.BadShape
behind_end _ what = what

abbrev pub refusal : At → Command → Option CommandFault
refusal at c = if is_finish c then due at c else behind_end at (due at c)

-- why a command wasn't done: memory, the editor, or this
abbrev pub RefusedFor : CommandFault → Option CommandFault → Type 0
RefusedFor fault.OutOfMemory what = Unit {0}
RefusedFor (fault.Editor e) what = Unit {0}
RefusedFor f what = what ≡ Some f

-- an item that is an edit's next is no command that is refused where the commands stand
abbrev pub NothingDue : Type 0
NothingDue = (at to : At) (item : Item) (calls : List Call) (c : Command) → Says at item calls to → Forms c item → refusal at c ≡ None

-- ---- what is open after a refusal

abbrev pub is_close : Command → Bool
is_close (command.CloseDir t) = true
is_close (command.CloseFile t sum) = true
is_close _ = false

abbrev pub is_editors : CommandFault → Bool
is_editors (fault.Editor e) = true
is_editors _ = false

abbrev pub but_innermost : List Path → List Path
but_innermost [] = []
but_innermost (p ∷ ps) = ps

-- what was open is; but a close that the editor refused took the innermost
abbrev pub left_open : Command → CommandFault → List Path → List Path
left_open c f paths = if is_close c && is_editors f then but_innermost paths else paths

-- the paths of what is open where the commands stand, the innermost first
abbrev pub paths_at : At → List Path
paths_at at = map (λ (o : Named). o.path) (open_of at)

-- ---- the editor's own refusals

-- some of these calls were shown, and the next one may be refused so
pub record RefusesOne {E O : Type 0} (shows : E → List Call → Type 0) (began : E → O) (refuses : O → List Call → Call → EditorFault → Type 0) (e : E) (calls : List Call) (f : EditorFault) : Type 0 where
  pub before : List Call
  pub next : Call
  pub rest : List Call
  pub among : before ++ next ∷ rest ≡ calls
  pub met : (shown : List Call) → shows e shown → refuses (began e) (shown ++ before) next f

-- the innermost open thing: its path, and what was given of it
abbrev pub path_at : At → Path
path_at (Inside (o ∷ os)) = o.path
path_at _ = []

abbrev pub held_at : At → Held
held_at (Inside (o ∷ os)) = o.held
held_at _ = Dir

-- whether the root was opened
abbrev pub is_rooted : At → Bool
is_rooted (Inside os) = true
is_rooted (Announced root) = root
is_rooted _ = false

-- the first of the bytes read as these pieces of a text, which are the first of the pieces that the bytes have
abbrev pub ReadFirst : Held → List ℕ → List (List ℕ) → Type 0
ReadFirst (Within text r) bytes pieces = (rest : List ℕ) × (new : Reading) × (reading (Reads text r) bytes ≡ reading (Reads (text ++ concat pieces) new) rest) × (pieces_in r bytes ≡ pieces ++ pieces_in new rest)
ReadFirst _ bytes pieces = ⊥

-- the calls of the editor that a command asks for, where the commands stand so
abbrev pub Asks : At → Command → List Call → Type 0
Asks at (command.Target n) calls = calls ≡ call.Target n ∷ []
Asks at (command.OpenRoot base t) calls = calls ≡ call.OpenRoot base ∷ []
Asks at (command.DeleteEntry p base u) calls = calls ≡ call.DeleteEntry (path_at at) p base ∷ []
Asks at (command.AddDir p u t from) calls = calls ≡ call.AddDir (path_at at) p from ∷ []
Asks at (command.OpenDir p u t base) calls = calls ≡ call.OpenDir (path_at at) p base ∷ []
Asks at (command.DirProp t n value) calls = (p : Path) × IsOpenDir t.items p (open_of at) × (calls ≡ call.DirProp p n (option_map (λ s. s.items) value) ∷ [])
Asks at (command.CloseDir t) calls = calls ≡ call.CloseDir (path_at at) ∷ []
Asks at (command.AddFile p u t from) calls = calls ≡ call.AddFile (path_at at) p from ∷ []
Asks at (command.OpenFile p u t base) calls = calls ≡ call.OpenFile (path_at at) p base ∷ []
Asks at (command.FileProp t n value) calls = calls ≡ call.FileProp (path_at at) n (option_map (λ s. s.items) value) ∷ []
Asks at (command.TextStart t) calls = calls ≡ call.TextStart (path_at at) ∷ []
Asks at (command.Chunk t bytes) calls = (pieces : List (List ℕ)) × ReadFirst (held_at at) bytes.items pieces × (calls ≡ map (call.TextPiece (path_at at)) pieces)
Asks at (command.TextEnd t) calls = calls ≡ call.TextEnd (path_at at) ∷ []
Asks at (command.CloseFile t sum) calls = calls ≡ call.CloseFile (path_at at) sum ∷ []
Asks at command.CloseEdit calls = ⊥
Asks at command.Finish calls = calls ≡ last_calls (is_rooted at)
Asks at command.Abort calls = ⊥

-- a command asks for calls that the editor may refuse so
pub record Meets {E O : Type 0} (shows : E → List Call → Type 0) (began : E → O) (refuses : O → List Call → Call → EditorFault → Type 0) (e : E) (at : At) (c : Command) (f : EditorFault) : Type 0 where
  pub calls : List Call
  pub asked : Asks at c calls
  pub one : RefusesOne shows began refuses e calls f

-- this holds of the editor's refusal, where it is one
abbrev pub IfOwn : (EditorFault → Type 0) → CommandFault → Type 0
IfOwn holds (fault.Editor f) = holds f
IfOwn holds f = Unit {0}
