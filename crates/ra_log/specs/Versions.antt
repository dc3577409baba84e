-- What is told of a file's versions: of each what differs from the one before it.
use Rattle.std.specs.Prelude.{ℕ, Bool, false, not, List, [], ◌∷◌, ◌++◌, Option, Some, None, unwrap_or, if◌then◌else◌}
use Rattle.std.specs.List.{flat_map, slice_get}
use Rattle.std.specs.Option.{option_and_then, option_map_or}
use Rattle.std.specs.Str.{bytes_eq}
use Rattle.std.specs.FinMap as finite
use Rattle.node_base.specs.Path.{Name}
use Rattle.node_base.specs.Props.{PropMap}
use Rattle.node_base.specs.Tree.{PathMap}
use Rattle.node_base.specs.declared.node.Node.{Node}
use Rattle.path_history.specs.declared.place.Place.{Place}
use Rattle.path_history.specs.Lines.{node_at}
use Rattle.svndiff.specs.Spelling.{head, window}
use Rattle.ra_item.specs.Items.{Item, Word, Number, Text, spell}
use Rattle.ra_edit.specs.Commands.{parts}
use Rattle.ra_wire.specs.Commands.{truth_word}
use Rattle.ra_wire.specs.Replies.{list, string, properties}
use Rattle.browse_wire.specs.Told.{absolute}

-- items in brackets
abbrev pub bracketed : List ℕ → List ℕ
bracketed items = 40 ∷ 32 ∷ (items ++ 41 ∷ 32 ∷ [])

-- ---- properties

-- a property's name, and its new value; none where it is gone
abbrev pub prop_item : Name → Option (List ℕ) → Item
prop_item name value = list (Text name ∷ string value ∷ [])

abbrev pub gone_of : PropMap → Name → List ℕ
gone_of new name = if finite.contains_key new name then [] else spell (prop_item name None)

-- of some properties those whose names the new ones lack
abbrev pub gone_told : PropMap → List (Name × List ℕ) → List ℕ
gone_told new es = flat_map (λ e. gone_of new e.0) es

-- whether a property had a value
abbrev pub had : PropMap → Name → List ℕ → Bool
had old name value = option_map_or (λ v. bytes_eq v value) (finite.get old name) false

abbrev pub given_of : PropMap → Name → List ℕ → List ℕ
given_of old name value = if had old name value then [] else spell (prop_item name (Some value))

-- of some properties those that hadn't their values
abbrev pub given_told : PropMap → List (Name × List ℕ) → List ℕ
given_told old es = flat_map (λ e. given_of old e.0 e.1) es

-- what makes the new properties of the old ones, each in the order of the names
abbrev pub props_told : PropMap → PropMap → List ℕ
props_told old new = bracketed (gone_told new (finite.entries old) ++ given_told old (finite.entries new))

-- path rev ( revision's property .. ) ( property .. ) merged
abbrev pub head_told : Place → PropMap → PropMap → PropMap → List ℕ
head_told a revision old new = bracketed (spell (Text (absolute a.path)) ++ (spell (Number a.revision) ++ (spell (properties (finite.entries revision)) ++ (props_told old new ++ spell (Word (truth_word false))))))

-- ---- a text

-- a text in windows of new data alone, each a string
abbrev pub windows_told : List ℕ → List ℕ
windows_told text = flat_map (λ part. spell (Text (window part))) (parts text)

abbrev pub delta_told : List ℕ → List ℕ
delta_told text = spell (Text head) ++ windows_told text

abbrev pub is_same : Option (List ℕ) → List ℕ → Bool
is_same old new = option_map_or (λ t. bytes_eq t new) old false

-- a text, where it isn't the one before it; an empty string is its end
abbrev pub text_told : Option (List ℕ) → List ℕ → List ℕ
text_told old new = (if is_same old new then [] else delta_told new) ++ spell (Text [])

-- ---- versions

abbrev pub props_of : Option Node → PropMap
props_of o = option_map_or (λ x. x.props) o finite.empty

abbrev pub text_of : Option Node → Option (List ℕ)
text_of o = option_and_then (λ x. x.text) o

abbrev pub revision_props : List PropMap → ℕ → PropMap
revision_props props n = unwrap_or (slice_get props n) finite.empty

-- the text of a version, by what the one before it was
abbrev pub text_behind : Option Node → Option Node → List ℕ
text_behind old new = text_told (text_of old) (unwrap_or (text_of new) [])

-- a version at a place, by what the one before it was
abbrev pub version_told : List PropMap → Option Node → Option Node → Place → List ℕ
version_told props old new a = head_told a (revision_props props a.revision) (props_of old) (props_of new) ++ text_behind old new

-- those at some places, oldest first, by the properties and the trees of all revisions, and by what was there before them
abbrev pub versions_told : List PropMap → List PathMap → Option Node → List Place → List ℕ
versions_told props trees old [] = []
versions_told props trees old (a ∷ s) = version_told props old (node_at trees a) a ++ versions_told props trees (node_at trees a) s
