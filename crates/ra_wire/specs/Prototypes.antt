-- Openings and answers: the table of the items that are which, as the protocol's prototypes have them. What stands behind the
-- last element of a prototype is ignored.
use Rattle.std.specs.Prelude.{◌≡◌, ℕ, ◌≤◌, true, List, [], ◌∷◌, map, length, Option, Some, None, Result, Ok, Err, codes}
use Rattle.std.specs.FinMap as finite
use Rattle.ra_item.specs.Items.{Item, Items, End, Then, Word, Number, Text, Nested, row}
use Rattle.node_base.specs.Path.{Name}
use Rattle.node_base.specs.PathText.{name_read}
use Rattle.node_base.specs.Props.{PropMap, prop_name_read, props_fit}
use Rattle.node_base.specs.declared.node.NodeKind.{NodeKind}
use Rattle.node_base.specs.declared.limits.TheConstants.{PROP_VALUE_BYTES}
use Rattle.ra_wire.specs.Commands.{truth_word}
use Rattle.ra_wire.specs.Openings.{Greeting, Hello, Mechanisms, Login, Welcome}
use Rattle.ra_wire.specs.Answers.{Refused, Reply, Success, Failure, Dirent, FileFound, DirFound}
use Rattle.ra_wire.specs.Replies.{kind_word, node_kind_word}
use Rattle.ra_wire.specs.declared.fault.WireFault.{WireFault}
use Rattle.ra_wire.specs.declared.fault.WireFault.TheVariants as fault

-- ---- forms

-- elements, and what stands behind them
abbrev pub and_more : List Item → Items → Items
and_more [] more = more
and_more (x ∷ xs) more = Then x (and_more xs more)

-- items that begin with these; more is ignored
abbrev pub Begins : List Item → Items → Type 0
Begins xs items = (more : Items) × (items ≡ and_more xs more)

-- a list that begins with these; more is ignored
abbrev pub IsList : List Item → Item → Type 0
IsList xs item = (more : Items) × (item ≡ Nested (and_more xs more))

-- items that are each such a thing, and no more
abbrev pub Each : {T : Type 0} → (T → Item → Type 0) → List T → Items → Type 0
Each Is [] items = items ≡ End
Each Is (t ∷ ts) End = ⊥
Each Is (t ∷ ts) (Then x items) = Is t x × Each Is ts items

-- a list of words
abbrev pub words : List (List ℕ) → Item
words ws = Nested (row (map Word ws))

-- brackets that are empty, or hold a string; more in them is ignored
abbrev pub perhaps_text : Option (List ℕ) → Items → Item
perhaps_text None more = Nested End
perhaps_text (Some t) more = Nested (Then (Text t) more)

-- ---- openings

-- minver maxver ( mech .. ) ( cap .. )
abbrev pub IsGreeting : Greeting → Items → Type 0
IsGreeting g = Begins (Number g.low ∷ Number g.high ∷ words g.mechanisms ∷ words g.capabilities ∷ [])

-- ( 2 ( cap .. ) url )
abbrev pub IsHello : Hello → Item → Type 0
IsHello h = IsList (Number 2 ∷ words h.capabilities ∷ Text h.url ∷ [])

-- ( mech .. ) realm
abbrev pub AreMechanisms : Mechanisms → Items → Type 0
AreMechanisms m = Begins (words m.names ∷ Text m.realm ∷ [])

-- ( mech ( token ) ) or ( mech ( ) )
abbrev pub IsLogin : Login → Item → Type 0
IsLogin l item = (a : Items) × IsList (Word l.mechanism ∷ perhaps_text l.token a ∷ []) item

-- uuid url ( cap .. )
abbrev pub IsWelcome : Welcome → Items → Type 0
IsWelcome w = Begins (Text w.identity ∷ Text w.url ∷ words w.capabilities ∷ [])

-- ---- answers

-- ( number text file line )
abbrev pub IsRefused : Refused → Item → Type 0
IsRefused f = IsList (Number f.number ∷ Text f.text ∷ Text f.file ∷ Number f.line ∷ [])

-- ( success ( .. ) ) or ( failure ( refused .. ) )
abbrev pub IsReply : Reply → Item → Type 0
IsReply (Success content) item = IsList (Word (codes "success") ∷ Nested content ∷ []) item
IsReply (Failure fs) item = (refused : Items) × IsList (Word (codes "failure") ∷ Nested refused ∷ []) item × Each IsRefused fs refused

-- ( success ( .. ) )
abbrev pub HasContent : Items → Item → Type 0
HasContent content = IsReply (Success content)

abbrev pub IsNumber : ℕ → Items → Type 0
IsNumber n = Begins (Number n ∷ [])

-- one of the words none, file and dir
abbrev pub IsKind : Option NodeKind → Items → Type 0
IsKind k = Begins (Word (kind_word k) ∷ [])

-- ( value ) or ( )
abbrev pub IsValue : Option (List ℕ) → Items → Type 0
IsValue v items = (a : Items) × Begins (perhaps_text v a ∷ []) items

-- ( name value ), within the limits
abbrev pub IsProperty : Name × List ℕ → Item → Type 0
IsProperty e item = IsList (Text e.0 ∷ Text e.1 ∷ []) item × (prop_name_read e.0 ≡ Ok e.0) × (length e.1 ≤ PROP_VALUE_BYTES)

-- properties that are put among others one after another, always within the limits; the later of two with one name counts
abbrev pub Put : PropMap → List (Name × List ℕ) → PropMap → Type 0
Put old [] new = new ≡ old
Put old (e ∷ es) new = (props_fit (finite.insert old e.0 e.1) ≡ true) × Put (finite.insert old e.0 e.1) es new

-- property ..
abbrev pub AreProps : PropMap → Items → Type 0
AreProps m items = (es : List (Name × List ℕ)) × Each IsProperty es items × Put finite.empty es m

-- ( property .. )
abbrev pub HasProps : PropMap → Items → Type 0
HasProps m items = (props : Items) × Begins (Nested props ∷ []) items × AreProps m props

-- ( revprops ( property .. ) )
abbrev pub AreRevprops : PropMap → Item → Type 0
AreRevprops m item = (props : Items) × IsList (Word (codes "revprops") ∷ Nested props ∷ []) item × AreProps m props

-- ---- browsing

-- ( name kind size has-props created-rev [ date ] [ author ] )
abbrev pub IsDirent : Dirent → Item → Type 0
IsDirent d item = (a b : Items)
    × IsList (Text d.name ∷ Word (node_kind_word d.kind) ∷ Number d.size ∷ Word (truth_word d.has_props) ∷ Number d.created ∷ perhaps_text d.date a ∷ perhaps_text d.author b ∷ []) item
    × (name_read d.name ≡ Ok d.name)

-- [ md5 ] rev ( property .. )
abbrev pub IsFile : FileFound → Items → Type 0
IsFile f items = (a props : Items) × Begins (perhaps_text f.sum a ∷ Number f.revision ∷ Nested props ∷ []) items × AreProps f.props props

-- rev ( property .. ) ( entry .. )
abbrev pub IsDir : DirFound → Items → Type 0
IsDir d items = (props entries : Items) × Begins (Number d.revision ∷ Nested props ∷ Nested entries ∷ []) items × AreProps d.props props × Each IsDirent d.entries entries

-- ---- what is read

-- what a call answers, unless memory ran out: a value that the table has for what was read, or that it has none
abbrev pub Judges : {S T A : Type 0} → (T → S → Type 0) → (A → T) → S → Result A WireFault → Type 0
Judges Is view what (Ok x) = Is (view x) what
Judges {T = T} Is view what (Err fault.BadShape) = (t : T) → Is t what → ⊥
Judges Is view what (Err fault.OutOfMemory) = Unit {0}
Judges Is view what (Err f) = ⊥
