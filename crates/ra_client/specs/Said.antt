-- What single items say to a client.
use Rattle.std.specs.Prelude.{◌≡◌, ℕ, nat_lt, nat_le, Bool, true, false, ◌&&◌, ◌⊎◌, List, [], ◌∷◌, Option, Some, None, Result, Ok, Err, codes, if◌then◌else◌}
use Rattle.std.specs.Option.{option_map, option_map_or, option_and_then}
use Rattle.std.specs.List.{list_any}
use Rattle.std.specs.Str.{bytes_eq}
use Rattle.uuid.specs.Text.{parsed_hyphenated}
use Rattle.node_base.specs.Props.{PropMap}
use Rattle.node_base.specs.declared.limits.TheConstants.{REVISION}
use Rattle.ra_item.specs.Items.{Item, Items}
use Rattle.ra_edit.specs.declared.edit_fault.EditFault.TheVariants as edit
use Rattle.ra_wire.specs.Params.{parts_in, word_in, list_in, number_in}
use Rattle.ra_wire.specs.Openings.{Greeting, Welcome, greeting_in, mechanisms_in, welcome_in}
use Rattle.ra_wire.specs.Answers.{props_in}
use Rattle.ra_wire.specs.Limits.{props_past}
use Rattle.ra_client.specs.declared.fault.ClientFault.{ClientFault}
use Rattle.ra_client.specs.declared.fault.ClientFault.TheVariants as fault

-- what was awaited, or none where the server says no
abbrev pub Reply : Type 0 → Type 0
Reply = Option

-- ( success ( .. ) ) or ( failure ( .. ) ), whatever a failure holds
abbrev pub reply_by : List ℕ → Items → Option (Reply Items)
reply_by w xs = if bytes_eq w (codes "success") then Some (Some xs) else if bytes_eq w (codes "failure") then Some None else None

abbrev pub reply_said : Item → Option (Reply Items)
reply_said x = option_and_then (λ xs. option_and_then (λ w. option_and_then (λ ys. reply_by w.0 ys.0) (list_in w.1)) (word_in xs)) (parts_in x)

-- and in it something that is awaited
abbrev pub held : {T : Type 0} → (Items → Option T) → Reply Items → Option (Reply T)
held what None = Some None
held what (Some xs) = option_map Some (what xs)

abbrev pub said : {T : Type 0} → (Items → Option T) → Item → Option (Reply T)
said what x = option_and_then (held what) (reply_said x)

-- ---- in front of an answer, and answers

-- whatever it holds
abbrev pub done_in : Items → Option (Unit {0})
done_in xs = Some tt

abbrev pub done_said : Item → Option (Reply (Unit {0}))
done_said = said done_in

-- no way to say who one is: nothing is asked
abbrev pub none_of : List (List ℕ) → Option (Unit {0})
none_of [] = Some tt
none_of (w ∷ ws) = None

abbrev pub unasked_in : Items → Option (Unit {0})
unasked_in xs = option_and_then (λ m. none_of m.names) (mechanisms_in xs)

abbrev pub authorised_said : Item → Option (Reply (Unit {0}))
authorised_said = said unasked_in

-- a revision's number
abbrev pub revision_of : ℕ → Option ℕ
revision_of n = if nat_lt REVISION n then None else Some n

abbrev pub revision_in : Items → Option ℕ
revision_in xs = option_and_then revision_of (option_map (λ n. n.0) (number_in xs))

abbrev pub number_said : Item → Option (Reply ℕ)
number_said = said revision_in

-- properties
abbrev pub proplist_in : Items → Option PropMap
proplist_in xs = option_map (λ m. m.0) (props_in xs)

abbrev pub proplist_said : Item → Option (Reply PropMap)
proplist_said = said proplist_in

-- whether they stop at one past a limit
abbrev pub past_in : Option (Reply Items) → Bool
past_in None = false
past_in (Some None) = false
past_in (Some (Some xs)) = props_past xs

abbrev pub proplist_past : Item → Bool
proplist_past x = past_in (reply_said x)

-- ( revprops ( .. ) ) or ( failure ( .. ) )
abbrev pub failed_in : Items → Option (Reply PropMap)
failed_in xs = option_map (λ l. None) (list_in xs)

abbrev pub revprops_by : List ℕ → Items → Option (Reply PropMap)
revprops_by w xs = if bytes_eq w (codes "revprops") then option_map Some (proplist_in xs) else if bytes_eq w (codes "failure") then failed_in xs else None

abbrev pub revprops_said : Item → Option (Reply PropMap)
revprops_said x = option_and_then (λ xs. option_and_then (λ w. revprops_by w.0 w.1) (word_in xs)) (parts_in x)

abbrev pub revprops_past_by : List ℕ → Items → Bool
revprops_past_by w xs = if bytes_eq w (codes "revprops") then props_past xs else false

-- the word in front of an item's parts, and what stands behind it
abbrev pub worded : Item → Option (List ℕ × Items)
worded x = option_and_then word_in (parts_in x)

abbrev pub revprops_past : Item → Bool
revprops_past x = option_map_or (λ w. revprops_past_by w.0 w.1) (worded x) false

-- ---- the opening

-- version 2 is spoken
abbrev pub version_2 : Greeting → Option (Unit {0})
version_2 g = if nat_le g.low 2 && nat_le 2 g.high then Some tt else None

abbrev pub version_2_in : Items → Option (Unit {0})
version_2_in xs = option_and_then version_2 (greeting_in xs)

abbrev pub greeting_said : Item → Option (Reply (Unit {0}))
greeting_said = said version_2_in

-- whether one is asked who one is; where one is, nobody has to be among those who are taken
abbrev pub is_anonymous : List ℕ → Bool
is_anonymous w = bytes_eq w (codes "ANONYMOUS")

abbrev pub asks_of : List (List ℕ) → Option Bool
asks_of [] = Some false
asks_of (w ∷ ws) = if list_any is_anonymous (w ∷ ws) then Some true else None

abbrev pub asks_in : Items → Option Bool
asks_in xs = option_and_then (λ m. asks_of m.names) (mechanisms_in xs)

abbrev pub asks_said : Item → Option (Reply Bool)
asks_said = said asks_in

-- which repository a server has: its identity, and the URL that it gives
pub record Repository : Type 0 where
  pub identity : List ℕ
  pub url : List ℕ

abbrev pub repository_of : Welcome → Option Repository
repository_of w = option_map (λ id. record { identity = id; url = w.url }) (parsed_hyphenated w.identity)

abbrev pub repository_in : Items → Option Repository
repository_in xs = option_and_then repository_of (welcome_in xs)

abbrev pub welcome_said : Item → Option (Reply Repository)
welcome_said = said repository_in

-- ---- what a call makes of an item, or of what an answer holds

-- what was awaited, a refusal where the server says no, or that it is neither; or memory ran out
abbrev pub Told : {A T : Type 0} → (A → T) → Option (Reply T) → Result A ClientFault → Type 0
Told view o (Ok v) = o ≡ Some (Some (view v))
Told view o (Err fault.Refused) = o ≡ Some None
Told view o (Err fault.BadAnswer) = o ≡ None
Told view o (Err (fault.Edit f)) = f ≡ edit.OutOfMemory

-- the same of an item that may be past a limit, which is told so
abbrev pub ToldWithin : {A T : Type 0} → Bool → (A → T) → Option (Reply T) → Result A ClientFault → Type 0
ToldWithin past view o (Ok v) = o ≡ Some (Some (view v))
ToldWithin past view o (Err fault.Refused) = o ≡ Some None
ToldWithin past view o (Err fault.BadAnswer) = (o ≡ None) × (past ≡ false)
ToldWithin past view o (Err (fault.Edit f)) = (f ≡ edit.OutOfMemory) ⊎ ((f ≡ edit.TooLong) × (o ≡ None) × (past ≡ true))

-- of what has no limits
abbrev pub never : Item → Bool
never x = false

abbrev pub ToldIn : {A T : Type 0} → (A → T) → Option T → Result A ClientFault → Type 0
ToldIn view o = Told view (option_map Some o)

-- the value itself
abbrev pub same : {T : Type 0} → T → T
same v = v
