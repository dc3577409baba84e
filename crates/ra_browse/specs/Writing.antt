-- What the calls that answer write.
use Rattle.std.specs.Prelude.{ℕ, ◌∷◌, ◌++◌, [], Bool, IfOk, List, Option, Result, Some, map}
use Rattle.std.specs.FinMap as finite
use Rattle.std.specs.declared.io.Write.{Ghosts as WriteGhosts}
use Rattle.uuid.specs.Text.{hyphenated_text, lower}
use Rattle.node_base.specs.Path.{Name}
use Rattle.node_base.specs.declared.node.Node.{Node}
use Rattle.ra_item.specs.Items.{Item, Number, spell}
use Rattle.ra_wire.specs.Answers.{dirent_as}
use Rattle.ra_wire.specs.Replies.{answer_of, dirent, done, list, properties, string}
use Rattle.ra_wire.specs.declared.dirent.Dirent.{Dirent}
use Rattle.browse_wire.specs.Asks.{Ask}
use Rattle.browse_wire.specs.AskReading.{Reading}
use Rattle.browse_wire.specs.Told.{end_item}
use Rattle.browse_wire.specs.Urls.{Url}
use Rattle.ra_serve.specs.declared.port.RepoPort.{Ghosts}
use Rattle.ra_browse.specs.Answers.{dir_told, entry_props, file_told, file_with, props_told}
use Rattle.ra_browse.specs.Tellings.{Answers, Tells, made_as}
use Rattle.ra_browse.specs.declared.file.Wanted.{Wanted}
use Rattle.ra_browse.specs.declared.look.Seen.{Seen}
use Rattle.ra_browse.specs.declared.made.Made.{Made}

-- ---- a writer that comes back

-- at Ok what a command is told is behind what it had
abbrev pub Replies : {P W E : Type 0} → Ghosts P → WriteGhosts W → P → P → W → Url → Ask → Result W E → Type 0
Replies G H old new out at c result = IfOk result (Tells G.repository G.refusals H.contents at c old new out)

-- at Ok what an item is answered is
abbrev pub AnswersItem : {P W E : Type 0} → Ghosts P → WriteGhosts W → P → P → W → Url → Reading → Result W E → Type 0
AnswersItem G H old new out at read result = IfOk result (Answers G.repository G.refusals H.contents at read old new out)

-- a list that has ended, and that all went well
abbrev pub ended : List ℕ → List ℕ
ended bytes = (bytes ++ spell end_item) ++ spell done

-- ---- what was looked at

-- what is told as properties beside a node's own
abbrev pub added_props : List ℕ → Node → Made → List (Name × List ℕ)
added_props identity d made = entry_props (hyphenated_text lower identity) d (made_as made)

-- a node's properties with these, where they are wanted
abbrev pub node_props : Bool → List ℕ → Node → Made → List (Name × List ℕ)
node_props wanted identity d made = props_told wanted (hyphenated_text lower identity) d (made_as made)

-- those of what was looked at
abbrev pub seen_props : Bool → Seen → Node → List (Name × List ℕ)
seen_props wanted seen d = node_props wanted seen.identity d seen.made

-- what stands there
abbrev pub seen_node : Seen → Option Node
seen_node seen = finite.get seen.tree seen.names.items

-- a directory: rev ( props ) ( entry .. )
abbrev pub dir_item : List ℕ → Bool → Seen → Node → List Dirent → Item
dir_item name wanted seen d entries = answer_of name (Number seen.number ∷ properties (seen_props wanted seen d) ∷ list (map dirent (map dirent_as entries)) ∷ [])

-- what is told of it, or why nothing is
abbrev pub dir_seen : Bool → Seen → List Dirent → List ℕ
dir_seen wanted seen entries = dir_told seen.number wanted (hyphenated_text lower seen.identity) (made_as seen.made) (map dirent_as entries) (seen_node seen)

-- a file: [ md5 ] rev ( props )
abbrev pub file_item : List ℕ → List ℕ → Bool → Seen → Node → Item
file_item name sum wanted seen f = answer_of name (string (Some sum) ∷ Number seen.number ∷ properties (seen_props wanted seen f) ∷ [])

-- with its text
abbrev pub file_body : Wanted → Seen → Node → List ℕ → List ℕ
file_body wanted seen f text = file_with seen.number wanted.props wanted.contents (hyphenated_text lower seen.identity) (made_as seen.made) f text

-- what is told of it, or why nothing is
abbrev pub file_seen : Wanted → Seen → List ℕ
file_seen wanted seen = file_told seen.number wanted.props wanted.contents (hyphenated_text lower seen.identity) (made_as seen.made) (seen_node seen)
