-- What a session writes, by what was read of its client.
use Rattle.std.specs.Prelude.{◌+◌, ℕ, Bool, true, false, not, ◌&&◌, is_none, is_some, List, [], ◌∷◌, ◌++◌, Option, Some, None, codes, if◌then◌else◌}
use Rattle.std.specs.Option.{option_map_or}
use Rattle.std.specs.Str.{bytes_eq}
use Rattle.uuid.specs.Text.{hyphenated_text, lower}
use Rattle.node_base.specs.declared.refusal.Refusal.TheVariants as refusal
use Rattle.ra_item.specs.Items.{Item, spell}
use Rattle.repo_core.specs.Repository.{Repository}
use Rattle.ra_wire.specs.Reading.{command_in}
use Rattle.ra_wire.specs.Openings.{Hello, Login, hello_in, login_in}
use Rattle.ra_wire.specs.Replies.{greeting, mechanisms, only_anonymous, welcome, done}
use Rattle.ra_serve.specs.Answers.{Halt, MayHaltAt, halts_in, answer, behind, refused}

-- an item that a client sent, and the port's own refusal of it, where it refused it by itself
pub record Turn : Type 0 where
  pub item : Item
  pub halt : Option Halt

-- ---- commands

abbrev pub turn_bytes : Bool → Repository → Turn → List ℕ
turn_bytes mirror x t = answer mirror x (command_in t.item) t.halt

abbrev pub turn_after : Bool → Repository → Turn → Repository
turn_after mirror x t = behind mirror x (command_in t.item) t.halt

-- each is answered by the repository that those before it left
abbrev pub answers : Bool → Repository → List Turn → List ℕ
answers mirror x [] = []
answers mirror x (t ∷ ts) = turn_bytes mirror x t ++ answers mirror (turn_after mirror x t) ts

abbrev pub left : Bool → Repository → List Turn → Repository
left mirror x [] = x
left mirror x (t ∷ ts) = left mirror (turn_after mirror x t) ts

-- each refusal of the port's own is one that it may give there
abbrev pub AllMayHalt : Bool → Repository → List Turn → Type 0
AllMayHalt mirror x [] = Unit {0}
AllMayHalt mirror x (t ∷ ts) = MayHaltAt mirror x (command_in t.item) t.halt × AllMayHalt mirror (turn_after mirror x t) ts

-- how many there are
abbrev pub halts : List Turn → ℕ
halts [] = 0
halts (t ∷ ts) = halts_in t.halt + halts ts

-- ---- the opening

abbrev pub identity_text : Repository → List ℕ
identity_text x = hyphenated_text lower x.identity

abbrev pub is_anonymous : Login → Bool
is_anonymous l = bytes_eq l.mechanism (codes "ANONYMOUS")

-- behind what a client says of itself
abbrev pub behind_login : List ℕ → Bool → Repository → Option Login → List Turn → List ℕ
behind_login url mirror x None ts = refused refusal.BadShape
behind_login url mirror x (Some l) ts = if is_anonymous l then spell done ++ (spell (welcome (identity_text x) url) ++ answers mirror x ts) else spell only_anonymous

abbrev pub asked_who : List ℕ → Bool → Repository → List Turn → List ℕ
asked_who url mirror x [] = []
asked_who url mirror x (t ∷ ts) = behind_login url mirror x (login_in t.item) ts

-- behind its greeting
abbrev pub behind_hello : List ℕ → Bool → Repository → Option Hello → List Turn → List ℕ
behind_hello url mirror x None ts = refused refusal.BadShape
behind_hello url mirror x (Some h) ts = spell (mechanisms (identity_text x)) ++ asked_who url mirror x ts

abbrev pub greeted : List ℕ → Bool → Repository → List Turn → List ℕ
greeted url mirror x [] = []
greeted url mirror x (t ∷ ts) = behind_hello url mirror x (hello_in t.item) ts

-- all that is written where these turns were taken, the opening's two first
abbrev pub session : List ℕ → Bool → Repository → List Turn → List ℕ
session url mirror x ts = spell greeting ++ greeted url mirror x ts

-- those behind the opening
abbrev pub commands_of : List Turn → List Turn
commands_of [] = []
commands_of (h ∷ []) = []
commands_of (h ∷ (l ∷ ts)) = ts

-- none of these items ends the opening
abbrev pub logs_in : Option Login → Bool
logs_in o = option_map_or is_anonymous o false

abbrev pub goes_on : List Item → Bool
goes_on [] = true
goes_on (h ∷ []) = is_some (hello_in h)
goes_on (h ∷ (l ∷ xs)) = is_some (hello_in h) && logs_in (login_in l)

-- the last of these items ends it
abbrev pub ends_opening : List Item → Bool
ends_opening (h ∷ []) = is_none (hello_in h)
ends_opening (h ∷ (l ∷ [])) = is_some (hello_in h) && not (logs_in (login_in l))
ends_opening _ = false
