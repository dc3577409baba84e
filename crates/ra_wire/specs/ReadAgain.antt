-- What is written is read again as the same value.
use Rattle.std.specs.Prelude.{◌≡◌, ℕ, Bool, List, [], ◌∷◌, map, Option, Some, Ok, codes, if◌then◌else◌}
use Rattle.std.specs.Option.{option_map, option_and_then}
use Rattle.std.specs.FinMap as finite
use Rattle.ra_item.specs.Items.{Item, Items, End, row}
use Rattle.node_base.specs.Props.{PropMap}
use Rattle.node_base.specs.declared.node.NodeKind.{NodeKind}
use Rattle.ra_wire.specs.Params.{Read, text_in, number_in, bracketed, each}
use Rattle.ra_wire.specs.Commands.{Command}
use Rattle.ra_wire.specs.Reading.{command_in}
use Rattle.ra_wire.specs.Requests.{hello, anonymous, command_item}
use Rattle.ra_wire.specs.Replies.{greeting, mechanisms, welcome, authorised, done, number, failure, kind_is, value, dirent, proplist, revprops, file_found, dir_found}
use Rattle.ra_wire.specs.Openings.{greeting_in, hello_in, mechanisms_in, login_in, welcome_in}
use Rattle.ra_wire.specs.Answers.{Failure, reply_in, content_in, kind_in, Dirent, dirent_in, props_in, revprops_in, file_in, dir_in}

-- what is read in an answer that is no failure
abbrev pub answered : {T : Type 0} → (Items → Option T) → Item → Option T
answered what item = option_and_then what (content_in item)

-- the first thing in it
abbrev pub first_in : {T : Type 0} → (Items → Read T) → Items → Option T
first_in what xs = option_map (λ r. r.0) (what xs)

-- ---- what two sides say whatever the values are

pub record OpeningsAreReadAgain : Type 0 where
  pub of_greeting : answered greeting_in greeting ≡ Some (record { low = 2; high = 2; mechanisms = []; capabilities = codes "edit-pipeline" ∷ codes "atomic-revprops" ∷ [] })
  pub of_hello : (url : List ℕ) → hello_in (hello url) ≡ Some (record { capabilities = codes "edit-pipeline" ∷ []; url = url })
  pub of_mechanisms : (realm : List ℕ) → answered mechanisms_in (mechanisms realm) ≡ Some (record { names = codes "ANONYMOUS" ∷ []; realm = realm })
  pub of_login : login_in anonymous ≡ Some (record { mechanism = codes "ANONYMOUS"; token = Some [] })
  pub of_welcome : (identity url : List ℕ) → answered welcome_in (welcome identity url) ≡ Some (record { identity = identity; url = url; capabilities = [] })

pub record AnswersAreReadAgain : Type 0 where
  pub of_authorised : answered mechanisms_in authorised ≡ Some (record { names = []; realm = [] })
  pub of_done : content_in done ≡ Some End
  pub of_failure : (n : ℕ) (text : List ℕ) → reply_in (failure n text) ≡ Some (Failure (record { number = n; text = text; file = []; line = 0 } ∷ []))
  pub of_number : (n : ℕ) → answered (first_in number_in) (number n) ≡ Some n
  pub of_kind : (k : Option NodeKind) → answered (first_in kind_in) (kind_is k) ≡ Some k
  pub of_value : (v : Option (List ℕ)) → answered (first_in (bracketed text_in)) (value v) ≡ Some v

-- ---- what each value of a type is written as

abbrev pub IsReadAgain : Command → Type 0
IsReadAgain c = command_in (command_item c) ≡ Ok c

abbrev pub IsEntryReadAgain : Dirent → Type 0
IsEntryReadAgain d = dirent_in (dirent d) ≡ Some d

abbrev pub AreEntriesReadAgain : List Dirent → Type 0
AreEntriesReadAgain ds = each dirent_in (row (map dirent ds)) ≡ Some ds

-- properties where they were wanted, and none where they weren't
abbrev pub props_told : Bool → PropMap → PropMap
props_told wanted m = if wanted then m else finite.empty

-- properties in an answer, in front of an edit, and of a file
pub record ArePropsReadAgain (m : PropMap) : Type 0 where
  pub of_proplist : answered (first_in props_in) (proplist m) ≡ Some m
  pub of_revprops : revprops_in (revprops m) ≡ Some m
  pub of_file : (sum : List ℕ) (n : ℕ) (wanted : Bool) → answered file_in (file_found sum n wanted m) ≡ Some (record { sum = Some sum; revision = n; props = props_told wanted m })

-- a directory with its properties and entries
abbrev pub IsDirReadAgain : PropMap → List Dirent → Type 0
IsDirReadAgain m ds = (n : ℕ) (wanted : Bool) → answered dir_in (dir_found n wanted m ds) ≡ Some (record { revision = n; props = props_told wanted m; entries = ds })
