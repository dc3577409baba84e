-- What a client reads of a server's answers.
use Rattle.std.specs.Prelude.{ℕ, nat_lt, Bool, List, map, length, Option, Some, None, codes, if◌then◌else◌}
use Rattle.std.specs.Option.{option_map, option_and_then}
use Rattle.std.specs.Str.{bytes_eq}
use Rattle.std.specs.FinMap as finite
use Rattle.ra_item.specs.Items.{Item, Items, End, Then, Word, Text, Nested}
use Rattle.node_base.specs.Path.{Name}
use Rattle.node_base.specs.PathText.{name_read}
use Rattle.node_base.specs.Props.{PropMap, props_fit}
use Rattle.node_base.specs.declared.node.NodeKind.{NodeKind}
use Rattle.node_base.specs.declared.node.NodeKind.TheVariants as kind
use Rattle.node_base.specs.declared.limits.TheConstants.{PROP_VALUE_BYTES}
use Rattle.ra_wire.specs.Params.{Read, parts_in, word_in, text_in, number_in, list_in, bool_in, prop_name_in, bracketed, each, right, left_of}
use Rattle.ra_wire.specs.declared.reply.Refused as declared_refused
use Rattle.ra_wire.specs.declared.reply.Reply as declared_reply
use Rattle.ra_wire.specs.declared.reply.Reply.TheVariants as coded
use Rattle.ra_wire.specs.declared.dirent.Dirent as declared_dirent
use Rattle.ra_wire.specs.declared.browse.FileFound as declared_file
use Rattle.ra_wire.specs.declared.browse.DirFound as declared_dir

-- ---- an answer

-- why a server refuses: a number, a text, a file and a line
pub record Refused : Type 0 where
  pub number : ℕ
  pub text : List ℕ
  pub file : List ℕ
  pub line : ℕ

pub data Reply : Type 0 where
  Success : Items → Reply
  Failure : List Refused → Reply

-- ( number text file line )
abbrev pub refused_in : Item → Option Refused
refused_in item = option_and_then (λ xs. option_and_then (λ n. option_and_then (λ t. option_and_then (λ f. option_map (λ l.
    record { number = n.0; text = t.0; file = f.0; line = l.0 }) (number_in f.1)) (text_in t.1)) (text_in n.1)) (number_in xs)) (parts_in item)

-- what stands behind one of the two words
abbrev pub reply_of : List ℕ → Items → Option Reply
reply_of w xs = if bytes_eq w (codes "success") then Some (Success xs) else if bytes_eq w (codes "failure") then option_map Failure (each refused_in xs) else None

-- ( success ( .. ) ) or ( failure ( refused .. ) )
abbrev pub reply_in : Item → Option Reply
reply_in item = option_and_then (λ xs. option_and_then (λ w. option_and_then (λ ys. reply_of w.0 ys.0) (list_in w.1)) (word_in xs)) (parts_in item)

-- what an answer holds that is no failure
abbrev pub held : Reply → Option Items
held (Success xs) = Some xs
held (Failure fs) = None

abbrev pub content_in : Item → Option Items
content_in item = option_and_then held (reply_in item)

-- ---- contents

-- the words none, file and dir
abbrev pub kind_said : List ℕ → Items → Read (Option NodeKind)
kind_said w xs = if bytes_eq w (codes "none") then Some (None, xs) else if bytes_eq w (codes "file") then Some (Some kind.File, xs) else if bytes_eq w (codes "dir") then Some (Some kind.Dir, xs) else None

abbrev pub kind_in : Items → Read (Option NodeKind)
kind_in (Then (Word w) xs) = kind_said w xs
kind_in _ = None

-- ( name value ), each within the limits
abbrev pub short_value : List ℕ → Option (List ℕ)
short_value v = if nat_lt PROP_VALUE_BYTES (length v) then None else Some v

abbrev pub property_in : Item → Option (Name × List ℕ)
property_in item = option_and_then (λ xs. option_and_then (λ n. option_and_then (λ t. option_map (λ v. (n.0, v)) (short_value t.0)) (text_in n.1)) (prop_name_in xs)) (parts_in item)

-- properties with one more, within the limits; it takes the place of an earlier one of its name
abbrev pub with_property : PropMap → Name × List ℕ → Option PropMap
with_property m e = if props_fit (finite.insert m e.0 e.1) then Some (finite.insert m e.0 e.1) else None

abbrev pub one_more : PropMap → Item → Option PropMap
one_more m item = option_and_then (with_property m) (property_in item)

abbrev pub properties_of : PropMap → Items → Option PropMap
properties_of m End = Some m
properties_of m (Then x xs) = option_and_then (λ n. properties_of n xs) (one_more m x)

-- ( property .. ), in any order
abbrev pub props_in : Items → Read PropMap
props_in (Then (Nested ys) xs) = option_map (λ m. (m, xs)) (properties_of finite.empty ys)
props_in _ = None

-- ( revprops ( property .. ) )
abbrev pub revprops_in : Item → Option PropMap
revprops_in item = option_and_then (λ xs. option_and_then (λ w. if bytes_eq w.0 (codes "revprops") then option_map (λ m. m.0) (props_in w.1) else None) (word_in xs)) (parts_in item)

-- ---- browsing

abbrev pub node_name_in : Items → Read Name
node_name_in (Then (Text t) xs) = right (name_read t) xs
node_name_in _ = None

-- an entry of a directory: its name and kind, how long its text is, whether it has properties, the revision that last changed it,
-- and perhaps when and by whom
pub record Dirent : Type 0 where
  pub name : Name
  pub kind : NodeKind
  pub size : ℕ
  pub has_props : Bool
  pub created : ℕ
  pub date : Option (List ℕ)
  pub author : Option (List ℕ)

-- file or dir
abbrev pub node_kind_in : Items → Read NodeKind
node_kind_in xs = option_and_then (λ k. option_map (λ found. (found, k.1)) k.0) (kind_in xs)

-- has-props created-rev [ date ] [ author ]
abbrev pub dirent_with : Name → NodeKind → ℕ → Items → Option Dirent
dirent_with name kind size xs = option_and_then (λ h. option_and_then (λ c. option_and_then (λ d. option_map (λ a.
    record { name = name; kind = kind; size = size; has_props = h.0; created = c.0; date = d.0; author = a.0 })
    (bracketed text_in d.1)) (bracketed text_in c.1)) (number_in h.1)) (bool_in xs)

-- ( name kind size has-props created-rev [ date ] [ author ] )
abbrev pub dirent_in : Item → Option Dirent
dirent_in item = option_and_then (λ xs. option_and_then (λ n. option_and_then (λ k. option_and_then (λ s. dirent_with n.0 k.0 s.0 s.1) (number_in k.1)) (node_kind_in n.1)) (node_name_in xs)) (parts_in item)

-- a file's sum, revision and properties
pub record FileFound : Type 0 where
  pub sum : Option (List ℕ)
  pub revision : ℕ
  pub props : PropMap

-- [ md5 ] rev ( props )
abbrev pub file_in : Items → Option FileFound
file_in xs = option_and_then (λ s. option_and_then (λ r. option_map (λ p. record { sum = s.0; revision = r.0; props = p.0 }) (props_in r.1)) (number_in s.1)) (bracketed text_in xs)

-- a directory's revision, properties and entries
pub record DirFound : Type 0 where
  pub revision : ℕ
  pub props : PropMap
  pub entries : List Dirent

-- rev ( props ) ( entry .. )
abbrev pub dir_in : Items → Option DirFound
dir_in xs = option_and_then (λ r. option_and_then (λ p. option_and_then (λ l. option_map (λ es. record { revision = r.0; props = p.0; entries = es }) (each dirent_in l.0)) (list_in p.1)) (props_in r.1)) (number_in xs)

-- ---- as they are in code

abbrev pub refused_as : declared_refused.Refused → Refused
refused_as f = record { number = f.number; text = f.text.items; file = f.file.items; line = f.line }

abbrev pub reply_as : declared_reply.Reply → Reply
reply_as (coded.Success p) = Success (left_of p)
reply_as (coded.Failure fs) = Failure (map refused_as fs.items)

abbrev pub dirent_as : declared_dirent.Dirent → Dirent
dirent_as d = record { name = d.name; kind = d.kind; size = d.size; has_props = d.has_props; created = d.created; date = option_map (λ t. t.items) d.date; author = option_map (λ t. t.items) d.author }

abbrev pub file_as : declared_file.FileFound → FileFound
file_as f = record { sum = option_map (λ t. t.items) f.sum; revision = f.revision; props = f.props }

abbrev pub dir_as : declared_dir.DirFound → DirFound
dir_as d = record { revision = d.revision; props = d.props; entries = map dirent_as d.entries.items }
