-- Laws of commands and answers, over all items.
use Rattle.std.specs.Prelude.{◌≡◌, Option, Some, Ok, Err}
use Rattle.ra_item.specs.Items.{Item}
use Rattle.ra_wire.specs.Commands.{Command, Forms, IsUnknown, IsOtherReplay}
use Rattle.ra_wire.specs.Reading.{command_in}
use Rattle.ra_wire.specs.Params.{text_in, number_in, bracketed}
use Rattle.ra_wire.specs.Openings.{greeting_in, hello_in, mechanisms_in, login_in, welcome_in}
use Rattle.ra_wire.specs.Answers.{refused_in, reply_in, content_in, kind_in, props_in, revprops_in, dirent_in, file_in, dir_in}
use Rattle.ra_wire.specs.ReadAgain.{first_in}
use Rattle.ra_wire.specs.Prototypes.{IsGreeting, IsHello, AreMechanisms, IsLogin, IsWelcome, IsRefused, IsReply, HasContent, IsNumber, IsKind, IsValue, HasProps, AreRevprops, IsDirent, IsFile, IsDir}
use Rattle.ra_wire.specs.declared.fault.WireFault.TheVariants as fault

-- an item that the table has for a command is read as that command
abbrev pub FormsAreRead : Type 0
FormsAreRead = (c : Command) (item : Item) → Forms c item → command_in item ≡ Ok c

-- an item is one command at most
abbrev pub OneCommand : Type 0
OneCommand = (c d : Command) (item : Item) → Forms c item → Forms d item → c ≡ d

-- a command of another name is refused as such, whatever its parameters are
abbrev pub UnknownIsTold : Type 0
UnknownIsTold = (item : Item) → IsUnknown item → command_in item ≡ Err fault.UnknownCommand

-- a replay against another revision than 0, or without texts, is refused as such
abbrev pub OtherReplayIsTold : Type 0
OtherReplayIsTold = (item : Item) → IsOtherReplay item → command_in item ≡ Err fault.ReplayForm

-- where the table has a value it is read, and what is read the table has
abbrev pub Exactly : {S T : Type 0} → (T → S → Type 0) → (S → Option T) → Type 0
Exactly {S} {T} Is reading = (t : T) (x : S) → (Is t x → reading x ≡ Some t) × (reading x ≡ Some t → Is t x)

-- openings and answers are read by the table of their prototypes
pub record PrototypesAreRead : Type 0 where
  pub of_greeting : Exactly IsGreeting greeting_in
  pub of_hello : Exactly IsHello hello_in
  pub of_mechanisms : Exactly AreMechanisms mechanisms_in
  pub of_login : Exactly IsLogin login_in
  pub of_welcome : Exactly IsWelcome welcome_in
  pub of_refused : Exactly IsRefused refused_in
  pub of_reply : Exactly IsReply reply_in
  pub of_content : Exactly HasContent content_in
  pub of_number : Exactly IsNumber (first_in number_in)
  pub of_kind : Exactly IsKind (first_in kind_in)
  pub of_value : Exactly IsValue (first_in (bracketed text_in))
  pub of_proplist : Exactly HasProps (first_in props_in)
  pub of_revprops : Exactly AreRevprops revprops_in
  pub of_dirent : Exactly IsDirent dirent_in
  pub of_file : Exactly IsFile file_in
  pub of_dir : Exactly IsDir dir_in
