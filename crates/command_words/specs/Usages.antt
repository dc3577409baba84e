-- What the program tells where the words name no command.
use Rattle.std.specs.Prelude.{◌≡◌, ◌≢◌, ◌⊎◌, ℕ, List, true, false, [], ◌∷◌, ◌++◌, slice_get, Option, Some, None, IfSome, bytes_eq, string_bytes, codes}
use Rattle.std.specs.Fmt.{debug_str}
use Rattle.clap.specs.Kinds.{Kinds, IsAmong}
use Rattle.clap.specs.Words.{Row}
use Rattle.clap.specs.declared.error.kind.ErrorKind.{ErrorKind}
use Rattle.clap.specs.declared.error.kind.ErrorKind.TheVariants as kind
use Rattle.command_words.specs.Lines.{HasNoLineFeed, IsLineOf}
use Rattle.command_words.specs.Roots.{is_root_url}
use Rattle.command_words.specs.Terminal.{HasNoControl}
use Rattle.sync_core.specs.Tokens.{is_token}
use Rattle.command_words.specs.Twice.{first_twice}
use Rattle.command_words.specs.Values.{HasReturn, HasValue, HasValues, SpellsMicros, SpellsRange, SpellsServer, SpellsUpTo, identity_read, is_on_server}
use Rattle.command_words.specs.declared.command_line.Usage.{Usage}
use Rattle.command_words.specs.declared.command_line.Usage.TheVariants.{Shown, Wrong, OutOfMemory}

-- neither help nor the version was asked for
abbrev pub IsMistake : ErrorKind → Type 0
IsMistake k = (k ≢ kind.DisplayHelp) × (k ≢ kind.DisplayVersion)

-- one line that says what is wrong, and whose help tells more
abbrev pub IsTextOfMistake : List ℕ → List ℕ → Type 0
IsTextOfMistake help line = HasNoControl line × HasNoLineFeed line × ((wrong : List ℕ) × IsLineOf help wrong line)

-- of an error of that kind: its text where help or the version was asked for, and a line on what is wrong where another mistake was found; else memory ran out
abbrev pub IsUsageOf : List ℕ → ErrorKind → Usage → Type 0
IsUsageOf help k (Shown text) = (k ≢ kind.OutOfMemory) × (IsMistake k → ⊥)
IsUsageOf help k (Wrong text) = (k ≢ kind.OutOfMemory) × IsMistake k × IsTextOfMistake help (string_bytes text)
IsUsageOf help k OutOfMemory = Unit {0}

-- one line that a value isn't what is wanted, the value between quotes; of a value beyond ASCII nothing more is said of how it is shown
abbrev pub IsValueLine : List ℕ → List ℕ → List ℕ → List ℕ → Type 0
IsValueLine help value wanted line =
    HasNoControl line × HasNoLineFeed line × IfSome (debug_str value) (λ quoted. IsLineOf help (quoted ++ (codes " is not " ++ wanted)) line)

-- of a value that isn't what is wanted: its line, with the help that tells more; else memory ran out
abbrev pub IsTold : List ℕ → List ℕ → List ℕ → Usage → Type 0
IsTold help value wanted (Shown text) = ⊥
IsTold help value wanted (Wrong text) = IsValueLine help value wanted (string_bytes text)
IsTold help value wanted OutOfMemory = Unit {0}

-- the seconds that aren't taken
pub record IsTimeoutRefused (rows : List Row) (help line : List ℕ) : Type 0 where
  pub value : List ℕ
  pub given : HasValue rows (codes "timeout") value
  pub unspelt : (n : ℕ) → SpellsUpTo 43200 value n → ⊥
  pub told : IsValueLine help value (codes "a number of seconds from 1 to 43200") line

-- they are told; else memory ran out
abbrev pub IsTimeoutTold : List Row → List ℕ → Usage → Type 0
IsTimeoutTold rows help (Shown text) = ⊥
IsTimeoutTold rows help (Wrong text) = IsTimeoutRefused rows help (string_bytes text)
IsTimeoutTold rows help OutOfMemory = Unit {0}

-- the value of a command over a mirror and its source that isn't taken: the source begins as one on a server and is none, or it is the mirror's folder, or the token is none, or the seconds aren't taken
pub data IsSyncValueRefused (rows : List Row) (help line : List ℕ) : Type 0 where
  on_server : (value : List ℕ) → HasValue rows (codes "SOURCE") value → is_on_server value ≡ true → ((n : ℕ) → SpellsServer value n → ⊥)
      → IsValueLine help value (codes "a folder or svn://127.0.0.1:P/ with a port P from 1 to 65535") line → IsSyncValueRefused rows help line
  named_twice : (mirror value : List ℕ) → HasValue rows (codes "MIRROR") mirror → HasValue rows (codes "SOURCE") value → bytes_eq mirror value ≡ true
      → IsValueLine help value (codes "another folder than the mirror's") line → IsSyncValueRefused rows help line
  no_token : (value : List ℕ) → HasValue rows (codes "token") value → is_token value ≡ false
      → IsValueLine help value (codes "a token of 1 to 255 printable ASCII characters without blanks") line → IsSyncValueRefused rows help line
  no_seconds : IsTimeoutRefused rows help line → IsSyncValueRefused rows help line

-- of such a command: a value is refused; else memory ran out
abbrev pub IsSyncRefused : List Row → List ℕ → Usage → Type 0
IsSyncRefused rows help (Shown text) = ⊥
IsSyncRefused rows help (Wrong text) = IsSyncValueRefused rows help (string_bytes text)
IsSyncRefused rows help OutOfMemory = Unit {0}

-- a command over a mirror and its source
abbrev pub IsOverTwo : List ℕ → Type 0
IsOverTwo name = (name ≡ codes "initialize") ⊎ (name ≡ codes "synchronize") ⊎ (name ≡ codes "copy-revprops")

-- the folder of a fleet that isn't taken: a fifth mirror, or the first that is named again
pub data IsFolderRefused (master : List ℕ) (mirrors : List (List ℕ)) (line : List ℕ) : Type 0 where
  a_fifth : (value : List ℕ) → slice_get mirrors 4 ≡ Some value → IsValueLine (codes "svnfleet fleet") value (codes "one of 1 to 4 mirrors") line → IsFolderRefused master mirrors line
  named_again : (value : List ℕ) → first_twice (master ∷ mirrors) ≡ Some value → IsValueLine (codes "svnfleet fleet") value (codes "a folder of its own") line → IsFolderRefused master mirrors line

-- of such folders: one is refused; else memory ran out
abbrev pub AreRefused : List ℕ → List (List ℕ) → Usage → Type 0
AreRefused master mirrors (Shown text) = ⊥
AreRefused master mirrors (Wrong text) = IsFolderRefused master mirrors (string_bytes text)
AreRefused master mirrors OutOfMemory = Unit {0}

-- the value of a subcommand that isn't taken: it spells no identity, no range, no moment or no token, is a message with a carriage return, a source that is none, no port, number of connections, seconds or root of a server, no number of workers, or a folder of a fleet that isn't taken
pub data IsValueRefused (name : List ℕ) (rows : List Row) (line : List ℕ) : Type 0 where
  no_identity : (value : List ℕ) → name ≡ codes "create" → HasValue rows (codes "uuid") value → identity_read value ≡ None
      → IsValueLine (codes "svnfleet create") value (codes "a UUID of the form 8-4-4-4-12 in hexadecimal digits") line → IsValueRefused name rows line
  no_range : (value : List ℕ) → name ≡ codes "dump" → HasValue rows (codes "revisions") value → ((lo hi : ℕ) → SpellsRange value lo hi → ⊥)
      → IsValueLine (codes "svnfleet dump") value (codes "a range LO:HI of revisions from 0 to 65535, LO not above HI, or N:N for one revision") line → IsValueRefused name rows line
  no_moment : (value : List ℕ) → name ≡ codes "mkdir" → HasValue rows (codes "moment") value → ((micros : ℕ) → SpellsMicros value micros → ⊥)
      → IsValueLine (codes "svnfleet mkdir") value (codes "a number of microseconds from 0 to 4102444799999999") line → IsValueRefused name rows line
  no_message : (value : List ℕ) → name ≡ codes "mkdir" → HasValue rows (codes "message") value → HasReturn value
      → IsValueLine (codes "svnfleet mkdir") value (codes "a message without carriage returns") line → IsValueRefused name rows line
  no_folders : IsOverTwo name → IsSyncValueRefused rows (codes "svnfleet " ++ name) line → IsValueRefused name rows line
  no_copied_range : (value : List ℕ) → name ≡ codes "copy-revprops" → HasValue rows (codes "revisions") value → ((lo hi : ℕ) → SpellsRange value lo hi → ⊥)
      → IsValueLine (codes "svnfleet copy-revprops") value (codes "a range LO:HI of revisions from 0 to 65535, LO not above HI, or N:N for one revision") line → IsValueRefused name rows line
  no_port : (value : List ℕ) → name ≡ codes "serve" → HasValue rows (codes "port") value → ((n : ℕ) → SpellsUpTo 65535 value n → ⊥)
      → IsValueLine (codes "svnfleet serve") value (codes "a port from 1 to 65535") line → IsValueRefused name rows line
  no_connections : (value : List ℕ) → name ≡ codes "serve" → HasValue rows (codes "connections") value → ((n : ℕ) → SpellsUpTo 1024 value n → ⊥)
      → IsValueLine (codes "svnfleet serve") value (codes "a number of connections from 1 to 1024") line → IsValueRefused name rows line
  no_timeout : name ≡ codes "serve" → IsTimeoutRefused rows (codes "svnfleet serve") line → IsValueRefused name rows line
  no_root : (value : List ℕ) → name ≡ codes "serve" → HasValue rows (codes "root-url") value → is_root_url value ≡ false
      → IsValueLine (codes "svnfleet serve") value (codes "a root URL like svn://HOST:PORT/ or svn+ssh://HOST/PATH, of at most 1024 printable ASCII characters without blanks") line → IsValueRefused name rows line
  no_workers : (value : List ℕ) → name ≡ codes "fleet" → HasValue rows (codes "workers") value → ((n : ℕ) → SpellsUpTo 64 value n → ⊥)
      → IsValueLine (codes "svnfleet fleet") value (codes "a number of workers from 1 to 64") line → IsValueRefused name rows line
  no_fleet : (master : List ℕ) (mirrors : List (List ℕ)) → name ≡ codes "fleet" → HasValue rows (codes "MASTER") master → HasValues rows (codes "MIRROR") mirrors
      → IsFolderRefused master mirrors line → IsValueRefused name rows line

-- of a subcommand with its values: a value is refused; else memory ran out
abbrev pub IsRefusedAt : Option (List ℕ × List Row) → Usage → Type 0
IsRefusedAt named (Shown text) = ⊥
IsRefusedAt named (Wrong text) = (name : List ℕ) × (rows : List Row) × (named ≡ Some (name, rows)) × IsValueRefused name rows (string_bytes text)
IsRefusedAt named OutOfMemory = Unit {0}

-- of words, by their help, the kinds of error that clap may find in them and the subcommand that they name: help or the version was asked for; or they have another mistake; or they have none, and a value is refused
abbrev pub IsUsageAt : List ℕ → Kinds → Option (List ℕ × List Row) → Usage → Type 0
IsUsageAt help kinds named (Shown text) = (k : ErrorKind) × IsAmong k kinds × (IsMistake k → ⊥)
IsUsageAt help kinds named (Wrong text) =
    ((k : ErrorKind) × IsAmong k kinds × IsMistake k × IsTextOfMistake help (string_bytes text)) ⊎ ((kinds ≡ []) × IsRefusedAt named (Wrong text))
IsUsageAt help kinds named OutOfMemory = Unit {0}
