-- What a server tells a reading client, item by item.
use Rattle.std.specs.Prelude.{ℕ, false, List, [], ◌∷◌, map, length, Option, Some, None, codes}
use Rattle.std.specs.Option.{option_map}
use Rattle.std.specs.FinMap as finite
use Rattle.ra_item.specs.Items.{Item, Word, Number, Text}
use Rattle.node_base.specs.Path.{Path}
use Rattle.node_base.specs.PathText.{path_text}
use Rattle.ra_wire.specs.Commands.{truth_word}
use Rattle.ra_wire.specs.Replies.{list, success, string, properties, node_kind_word}
use Rattle.browse_wire.specs.declared.told.NodeInfo as declared_info
use Rattle.browse_wire.specs.declared.told.Action.{Action}
use Rattle.browse_wire.specs.declared.told.Action.TheVariants as action
use Rattle.browse_wire.specs.declared.told.ChangedPath as declared_change
use Rattle.browse_wire.specs.declared.told.LogEntry as declared_entry
use Rattle.browse_wire.specs.declared.told.Refusal.{Refusal}
use Rattle.browse_wire.specs.declared.told.Refusal.TheVariants as refusal

-- a path behind a slash
abbrev pub absolute : Path → List ℕ
absolute p = 47 ∷ path_text p

-- ---- a node

-- kind size has-props created-rev [ date ] [ author ]
abbrev pub info_item : declared_info.NodeInfo → Item
info_item i = list (Word (node_kind_word i.kind) ∷ Number i.size ∷ Word (truth_word i.has_props) ∷ Number i.created
    ∷ string (option_map (λ t. t.items) i.date) ∷ string (option_map (λ t. t.items) i.author) ∷ [])

-- what stands at a path, or nothing
abbrev pub info_or_none : Option declared_info.NodeInfo → Item
info_or_none None = list []
info_or_none (Some i) = list (info_item i ∷ [])

abbrev pub stat_answer : Option declared_info.NodeInfo → Item
stat_answer o = success (info_or_none o ∷ [])

-- ---- an entry of a log

abbrev pub action_word : Action → List ℕ
action_word action.Added = codes "A"
action_word action.Deleted = codes "D"
action_word action.Replaced = codes "R"
action_word action.Modified = codes "M"

-- where a copy came from
abbrev pub source_item : Option (Path × ℕ) → Item
source_item None = list []
source_item (Some s) = list (Text (absolute s.0) ∷ Number s.1 ∷ [])

-- path action [ copy-path copy-rev ] ( kind text-changed props-changed )
abbrev pub change_item : declared_change.ChangedPath → Item
change_item c = list (Text (absolute c.path) ∷ Word (action_word c.action) ∷ source_item c.source
    ∷ list (Text (node_kind_word c.kind) ∷ Word (truth_word c.text) ∷ Word (truth_word c.props) ∷ []) ∷ [])

-- ( change .. ) rev [ author ] [ date ] [ message ] has-children invalid-rev revprop-count ( property .. ) subtractive-merge
abbrev pub log_item : declared_entry.LogEntry → Item
log_item e = list (list (map change_item e.changes.items) ∷ Number e.revision ∷ string (option_map (λ t. t.items) e.author) ∷ string (option_map (λ t. t.items) e.date) ∷ string (option_map (λ t. t.items) e.message)
    ∷ Word (truth_word false) ∷ Word (truth_word false) ∷ Number (length (finite.entries e.others)) ∷ properties (finite.entries e.others) ∷ Word (truth_word false) ∷ [])

-- the end of a list that is told item by item
abbrev pub end_item : Item
end_item = Word (codes "done")

-- ---- where a node stood

abbrev pub location_item : ℕ → Path → Item
location_item n p = list (Number n ∷ Text (absolute p) ∷ [])

-- first last [ path ]
abbrev pub segment_item : ℕ → ℕ → Option Path → Item
segment_item first last p = list (Number first ∷ Number last ∷ string (option_map path_text p) ∷ [])

-- ---- locks

-- a lock that isn't there, and locks of which there are none
abbrev pub no_locks : Item
no_locks = success (list [] ∷ [])

-- ---- refusals, by Subversion's own numbers

abbrev pub refusal_number : Refusal → ℕ
refusal_number refusal.UnknownCommand = 210001
refusal_number refusal.NoSuchPath = 160013
refusal_number refusal.NoSuchRevision = 160006
refusal_number refusal.NotSupported = 200007

abbrev pub refusal_text : Refusal → List ℕ
refusal_text refusal.UnknownCommand = codes "this server only answers readers"
refusal_text refusal.NoSuchPath = codes "path not found"
refusal_text refusal.NoSuchRevision = codes "no such revision"
refusal_text refusal.NotSupported = codes "not supported"
