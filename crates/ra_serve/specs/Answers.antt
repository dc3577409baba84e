-- What a session's commands are answered: for each what is refused, and what it is told else.
use Rattle.std.specs.Prelude.{◌≡◌, ℕ, suc, ◌+◌, ◌-◌, ◌<◌, ◌≤◌, nat_lt, ◌==◌, is_none, is_some, not, Bool, true, false, List, [], ◌∷◌, ◌++◌, map, take, length, Option, Some, None, unwrap_or, Ok, Err, if◌then◌else◌}
use Rattle.std.specs.Option.{option_map, option_map_or, option_or}
use Rattle.std.specs.List.{flat_map, range_with_len}
use Rattle.std.specs.FinMap as finite
use Rattle.md5.specs.Md5.{md5}
use Rattle.hex.specs.Hex.{encode_lower}
use Rattle.node_base.specs.Path.{Path, Name}
use Rattle.node_base.specs.Refusals.{refusal_number, refusal_text}
use Rattle.node_base.specs.Tree.{PathMap, kind_of}
use Rattle.node_base.specs.declared.node.Node.{Node}
use Rattle.node_base.specs.declared.refusal.Refusal.{Refusal}
use Rattle.node_base.specs.declared.refusal.Refusal.TheVariants as refusal
use Rattle.dump_load.specs.Faults.{first_of, fault_if}
use Rattle.editor_ends.specs.Drive.{drive}
use Rattle.editor_ends.specs.Parts.{pieces}
use Rattle.repo_core.specs.Repository.{Repository, trees_of, head_of, props_at}
use Rattle.repo_core.specs.Entries.{with_entry_in}
use Rattle.repo_core.specs.Refusals.{Wanted, Anything, Nothing, This, with_value}
use Rattle.repo_core.specs.declared.entry.Entry.TheVariants.{Mapped}
use Rattle.path_tree.specs.Children.{name_in}
use Rattle.ra_item.specs.Items.{Text, row, spell, spell_all}
use Rattle.ra_item.specs.declared.limits.TheConstants.{ITEM_BYTES}
use Rattle.ra_edit.specs.Commands.{edit_bytes}
use Rattle.ra_wire.specs.Answers.{Dirent}
use Rattle.ra_wire.specs.Commands.{Command, LatestRev, CheckPath, GetFile, GetDir, RevProplist, RevProp, ChangeProp, Replay, ReplayRange, Previous, Any, Absent, Value}
use Rattle.ra_wire.specs.Reading.{Reading}
use Rattle.ra_wire.specs.Replies.{failure, authorised, done, number, proplist, revprops, value, kind_is, file_found, dir_found}
use Rattle.ra_wire.specs.declared.fault.WireFault.TheVariants as wire
use Rattle.ra_serve.specs.declared.fault.PortFault.{PortFault}
use Rattle.ra_serve.specs.Ports.{refusal_of, no_revision, change_due, tree_of, set_of, IsOwn}

-- ---- refusals

-- a refusal as it is told
abbrev pub refused : Refusal → List ℕ
refused r = spell (failure (refusal_number r) (refusal_text r))

-- these where nothing is refused, and else the refusal
abbrev pub unless_due : Option Refusal → List ℕ → List ℕ
unless_due None bytes = bytes
unless_due (Some r) bytes = refused r

abbrev pub after_due : Option Refusal → Repository → Repository → Repository
after_due None new old = new
after_due (Some r) new old = old

-- ---- looking

-- the revision that is asked for, the newest where none is named
abbrev pub asked : Repository → Option ℕ → ℕ
asked x None = head_of x.revisions
asked x (Some n) = n

-- what stands at a path of a revision
abbrev pub node_in : Repository → ℕ → Path → Option Node
node_in x n p = finite.get (tree_of x n) p

-- a file that is looked at: nothing is there, or a directory
abbrev pub file_due : Option Node → Option Refusal
file_due None = Some refusal.NoSuchPath
file_due (Some f) = fault_if (is_none f.text) refusal.KindMismatch

-- a directory that is looked at: nothing is there, or a file
abbrev pub dir_due : Option Node → Option Refusal
dir_due None = Some refusal.NoSuchPath
dir_due (Some d) = fault_if (is_some d.text) refusal.NotDir

-- a text in strings of 65,536 bytes, the last of them perhaps shorter
abbrev pub strings : List ℕ → List ℕ
strings text = spell_all (row (map Text (pieces text)))

-- these, then an empty string, and that it is done
abbrev pub text_bytes : List ℕ → List ℕ
text_bytes text = strings text ++ (spell (Text []) ++ spell done)

abbrev pub text_wanted : Bool → List ℕ → List ℕ
text_wanted wanted text = if wanted then text_bytes text else []

-- a file: its sum, the revision, its properties and its text, these two where they are wanted
abbrev pub file_with : ℕ → Bool → Bool → Node → List ℕ → List ℕ
file_with n props contents f text = spell (file_found (encode_lower (md5 text)) n props f.props) ++ text_wanted contents text

abbrev pub file_bytes : ℕ → Bool → Bool → Option Node → List ℕ
file_bytes n props contents None = []
file_bytes n props contents (Some f) = file_with n props contents f (unwrap_or f.text [])

abbrev pub entry_of : Node → Name → Dirent
entry_of x name = record { name = name; kind = kind_of x; size = length (unwrap_or x.text []); has_props = not (finite.len x.props == 0); created = x.changed; date = None; author = None }

abbrev pub entry_at : Path → Path × Node → List Dirent
entry_at p e = option_map_or (λ name. entry_of e.1 name ∷ []) (name_in p e.0) []

-- what lies right in a directory, in the order of the names
abbrev pub entries_in : Path → List (Path × Node) → List Dirent
entries_in p es = flat_map (entry_at p) es

abbrev pub entries_wanted : Bool → Path → PathMap → List Dirent
entries_wanted wanted p tree = if wanted then entries_in p (finite.entries tree) else []

-- a directory: the revision, its properties and its entries, these two where they are wanted
abbrev pub dir_with : ℕ → Bool → List Dirent → Option Node → List ℕ
dir_with n props entries None = []
dir_with n props entries (Some d) = spell (dir_found n props d.props entries)

abbrev pub dir_bytes : ℕ → Bool → Bool → Path → PathMap → List ℕ
dir_bytes n props contents p tree = dir_with n props (entries_wanted contents p tree) (finite.get tree p)

-- an answer of more bytes than an item may have, with the space behind it
abbrev pub item_due : List ℕ → Option Refusal
item_due item = fault_if (nat_lt (ITEM_BYTES + 1) (length item)) refusal.TooLong

-- what is refused of it
abbrev pub dir_refusal : ℕ → Bool → Bool → Path → PathMap → Option Refusal
dir_refusal n props contents p tree = option_or (dir_due (finite.get tree p)) (item_due (dir_bytes n props contents p tree))

-- what is told of a path in a tree
abbrev pub file_told : ℕ → Bool → Bool → Option Node → List ℕ
file_told n props contents f = unless_due (file_due f) (file_bytes n props contents f)

abbrev pub dir_told : ℕ → Bool → Bool → Path → PathMap → List ℕ
dir_told n props contents p tree = unless_due (dir_refusal n props contents p tree) (dir_bytes n props contents p tree)

-- ---- replays

-- the edit of a revision: its changes, as they are driven over the trees before it
abbrev pub edit_of : Repository → ℕ → List ℕ
edit_of x n = edit_bytes (drive (take n (trees_of x.revisions)) (set_of x n))

-- a revision of a range: its properties, and its edit
abbrev pub revision_bytes : Repository → ℕ → List ℕ
revision_bytes x n = spell (revprops (props_at x.revisions n)) ++ edit_of x n

-- so many revisions from one on
abbrev pub edits : Repository → ℕ → ℕ → List ℕ
edits x n count = flat_map (revision_bytes x) (range_with_len n count)

-- ---- the table

abbrev pub wanted_of : Previous → Wanted
wanted_of Any = Anything
wanted_of Absent = Nothing
wanted_of (Value v) = This v

-- what is refused of a command, by a mirror or not
abbrev pub due : Bool → Repository → Command → Option Refusal
due mirror x LatestRev = None
due mirror x (CheckPath p n) = no_revision x (asked x n)
due mirror x (GetFile p n props contents) = first_of (no_revision x (asked x n) ∷ file_due (node_in x (asked x n) p) ∷ [])
due mirror x (GetDir p n props contents) = first_of (no_revision x (asked x n) ∷ dir_refusal (asked x n) props contents p (tree_of x (asked x n)) ∷ [])
due mirror x (RevProplist n) = no_revision x n
due mirror x (RevProp n name) = no_revision x n
due true x (ChangeProp n name v old) = Some refusal.ReadOnly
due false x (ChangeProp n name v old) = change_due x n name v (wanted_of old)
due mirror x (Replay n) = no_revision x n
due mirror x (ReplayRange a b) = first_of (no_revision x a ∷ no_revision x b ∷ [])

-- what it is told where nothing is
abbrev pub content : Repository → Command → List ℕ
content x LatestRev = spell (number (head_of x.revisions))
content x (CheckPath p n) = spell (kind_is (option_map kind_of (node_in x (asked x n) p)))
content x (GetFile p n props contents) = file_bytes (asked x n) props contents (node_in x (asked x n) p)
content x (GetDir p n props contents) = dir_bytes (asked x n) props contents p (tree_of x (asked x n))
content x (RevProplist n) = spell (proplist (props_at x.revisions n))
content x (RevProp n name) = spell (value (finite.get (props_at x.revisions n) name))
content x (ChangeProp n name v old) = spell done
content x (Replay n) = edit_of x n ++ spell done
content x (ReplayRange a b) = edits x a (suc b - a) ++ spell done

-- and the repository behind it
abbrev pub made : Repository → Command → Repository
made x (ChangeProp n name v old) = with_entry_in x (Mapped n (with_value (props_at x.revisions n) name v))
made x c = x

abbrev pub reply : Bool → Repository → Command → List ℕ
reply mirror x c = unless_due (due mirror x c) (content x c)

abbrev pub after : Bool → Repository → Command → Repository
after mirror x c = after_due (due mirror x c) (made x c) x

-- ---- refusals of the port's own

-- such a refusal of a command, behind so many revisions of a range
pub record Halt : Type 0 where
  pub cause : PortFault
  pub edits : ℕ

-- what was told before it
abbrev pub front : Repository → Command → ℕ → List ℕ
front x (ReplayRange a b) k = edits x a k
front x c k = []

-- how many revisions may stand before it: fewer than the range has
abbrev pub most_before : Command → ℕ
most_before (ReplayRange a b) = b - a
most_before c = 0

pub record IsHalt (mirror : Bool) (x : Repository) (c : Command) (h : Halt) : Type 0 where
  pub own : IsOwn h.cause
  pub few : h.edits ≤ most_before c
  -- where a revision was told, the range is there
  pub there : 0 < h.edits → due mirror x c ≡ None

abbrev pub halted : Repository → Command → Halt → List ℕ
halted x c h = front x c h.edits ++ refused (refusal_of h.cause)

-- what a command is told, unless the port refused it by itself; and the repository behind it
abbrev pub told : Bool → Repository → Command → Option Halt → List ℕ
told mirror x c None = reply mirror x c
told mirror x c (Some h) = halted x c h

abbrev pub after_told : Bool → Repository → Command → Option Halt → Repository
after_told mirror x c None = after mirror x c
after_told mirror x c (Some h) = x

abbrev pub MayHalt : Bool → Repository → Command → Option Halt → Type 0
MayHalt mirror x c None = Unit {0}
MayHalt mirror x c (Some h) = IsHalt mirror x c h

-- the port refused nothing by itself
abbrev pub IsCalm : Option Halt → Type 0
IsCalm None = Unit {0}
IsCalm (Some h) = ⊥

-- how many refusals that is
abbrev pub halts_in : Option Halt → ℕ
halts_in None = 0
halts_in (Some h) = 1

-- ---- items

-- what an item is answered, a command or none
abbrev pub answer : Bool → Repository → Reading → Option Halt → List ℕ
answer mirror x (Ok c) h = spell authorised ++ told mirror x c h
answer mirror x (Err wire.ReplayForm) h = spell authorised ++ refused refusal.ReplayForm
answer mirror x (Err wire.UnknownCommand) h = refused refusal.UnknownCommand
answer mirror x (Err wire.BadShape) h = refused refusal.BadShape
answer mirror x (Err wire.OutOfMemory) h = refused refusal.OutOfMemory

-- and the repository behind it
abbrev pub behind : Bool → Repository → Reading → Option Halt → Repository
behind mirror x (Ok c) h = after_told mirror x c h
behind mirror x (Err f) h = x

-- the port's own refusal is one of a command
abbrev pub MayHaltAt : Bool → Repository → Reading → Option Halt → Type 0
MayHaltAt mirror x (Ok c) h = MayHalt mirror x c h
MayHaltAt mirror x (Err f) h = IsCalm h
