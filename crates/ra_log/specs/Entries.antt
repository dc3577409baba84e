-- What a log tells of a revision: a function of its set, its properties, the trees up to it, and what is asked.
use Rattle.std.specs.Prelude.{ℕ, ◌++◌, ◌&&◌, not, Bool, true, false, List, [], ◌∷◌, map, length, Option, Some, None, is_some, codes, if◌then◌else◌}
use Rattle.std.specs.List.{filter, flat_map, list_any, slice_get}
use Rattle.std.specs.Option.{option_map}
use Rattle.std.specs.Str.{bytes_eq}
use Rattle.std.specs.FinMap as finite
use Rattle.node_base.specs.Path.{Name, Path}
use Rattle.node_base.specs.Props.{PropMap}
use Rattle.node_base.specs.Tree.{PathMap}
use Rattle.node_base.specs.declared.node.NodeKind.{NodeKind}
use Rattle.node_base.specs.declared.node.Source.{Source}
use Rattle.dump_load.specs.declared.change.Change.{Change}
use Rattle.path_history.specs.Logs.{letter, tells_props}
use Rattle.ra_item.specs.Items.{Item, Word, Number, Text, spell}
use Rattle.ra_wire.specs.Commands.{truth_word}
use Rattle.ra_wire.specs.Replies.{list, string, properties, node_kind_word}
use Rattle.browse_wire.specs.Asks.{Revprops, Usual, Every, These, LogAsk, revprops_as}
use Rattle.browse_wire.specs.Told.{absolute, source_item}
use Rattle.browse_wire.specs.declared.ask.LogOrder.{LogOrder}
use Rattle.ra_log.specs.Kinds.{kind_told}

-- what is asked, as it is in code
abbrev pub log_as : LogOrder → LogAsk
log_as l = record { paths = l.paths.items; start = l.start; end = l.end; changed_paths = l.changed_paths; strict = l.strict; limit = l.limit; merged = l.merged; revprops = revprops_as l.revprops }

-- ---- changed paths

-- where a copy came from: [ copy-path copy-rev ]
abbrev pub copied_from : Option Source → Item
copied_from source = source_item (option_map (λ s. (s.path, s.revision)) source)

-- what a path is, and what of it changed: ( kind text-changed props-changed )
abbrev pub kind_item : NodeKind → Bool → Bool → Item
kind_item kind text props = list (Text (node_kind_word kind) ∷ Word (truth_word text) ∷ Word (truth_word props) ∷ [])

-- path action [ copy-path copy-rev ] ( kind text-changed props-changed )
abbrev pub path_item : Path → ℕ → Option Source → NodeKind → Bool → Bool → Item
path_item path action source kind text props = list (Text (absolute path) ∷ Word (action ∷ []) ∷ copied_from source ∷ kind_item kind text props ∷ [])

-- a change, by what it is of
abbrev pub change_with : NodeKind → Change → Item
change_with kind c = path_item c.path (letter c.action) c.source kind (is_some c.text) (tells_props c)

-- a change of a revision's set
abbrev pub change_item : List PathMap → ℕ → List Change → Change → Item
change_item trees n set c = change_with (kind_told trees n set c) c

-- those of a revision, in the order of their paths
abbrev pub changes_told : List PathMap → ℕ → List Change → List Item
changes_told trees n set = map (change_item trees n set) set

-- where they are wanted
abbrev pub changes_item : Bool → List PathMap → ℕ → List Change → Item
changes_item wanted trees n set = if wanted then list (changes_told trees n set) else list []

-- ---- properties of a revision

-- author, date and message have places of their own in an entry
abbrev pub is_usual : Name → Bool
is_usual name = list_any (bytes_eq name) (codes "svn:author" ∷ codes "svn:date" ∷ codes "svn:log" ∷ [])

-- the ones that are wanted
abbrev pub wants : Revprops → Name → Bool
wants Usual name = is_usual name
wants Every name = true
wants (These names) name = list_any (bytes_eq name) names

-- one that has a place of its own
abbrev pub value_told : Revprops → PropMap → Name → Option (List ℕ)
value_told w props name = if wants w name then finite.get props name else None

-- the others that are wanted
abbrev pub is_other : Revprops → Name → Bool
is_other w name = wants w name && not (is_usual name)

abbrev pub others_of : Revprops → List (Name × List ℕ) → List (Name × List ℕ)
others_of w es = filter (λ e. is_other w e.0) es

-- of a revision's properties
abbrev pub others_in : Revprops → PropMap → List (Name × List ℕ)
others_in w props = others_of w (finite.entries props)

-- [ author ] [ date ] [ message ]
abbrev pub usual_told : Revprops → PropMap → List Item
usual_told w props = string (value_told w props (codes "svn:author")) ∷ string (value_told w props (codes "svn:date")) ∷ string (value_told w props (codes "svn:log")) ∷ []

-- has-children invalid-rev revprop-count ( property .. ) subtractive-merge
abbrev pub others_told : Revprops → PropMap → List Item
others_told w props = Word (truth_word false) ∷ Word (truth_word false) ∷ Number (length (others_in w props)) ∷ properties (others_in w props) ∷ Word (truth_word false) ∷ []

-- both, one behind another
abbrev pub revprops_told : Revprops → PropMap → List Item
revprops_told w props = usual_told w props ++ others_told w props

-- ---- an entry

-- ( change .. ) rev [ author ] [ date ] [ message ] has-children invalid-rev revprop-count ( property .. ) subtractive-merge
abbrev pub entry_item : LogAsk → List PathMap → ℕ → List Change → PropMap → Item
entry_item l trees n set props = list (changes_item l.changed_paths trees n set ∷ Number n ∷ revprops_told l.revprops props)

-- the entry of a revision; a revision that isn't there has none
abbrev pub entry_bytes : LogAsk → List PathMap → ℕ → Option (List Change) → Option PropMap → List ℕ
entry_bytes l trees n None props = []
entry_bytes l trees n (Some set) None = []
entry_bytes l trees n (Some set) (Some props) = spell (entry_item l trees n set props)

-- the entries of these revisions, by the sets, the properties and the trees of all
abbrev pub entries_told : LogAsk → List (List Change) → List PropMap → List PathMap → List ℕ → List ℕ
entries_told l sets props trees ns = flat_map (λ n. entry_bytes l trees n (slice_get sets n) (slice_get props n)) ns
