-- What the values of a command's words spell.
use Rattle.std.specs.Prelude.{◌≡◌, ◌≤◌, ℕ, List, ◌∷◌, ◌++◌, ◌==◌, length, map, nat_eq, Option, Bool, true, false, Some, None, bytes_eq, string_bytes, codes}
use Rattle.std.specs.List.{list_any, starts_with}
use Rattle.std.specs.Option.{option_map, option_map_or}
use Rattle.uuid.specs.Text.{parsed_hyphenated}
use Rattle.clap.specs.Words.{Row, all_of, first_of}
use Rattle.node_base.specs.Numbers.{decimal, rev_read}
use Rattle.repo_core.specs.Dates.{IsMoment}
use Rattle.store_engines.specs.Ranges.{first_in, last_in}
use Rattle.store_engines.specs.declared.range.RevRange.{RevRange}
use Rattle.sync_core.specs.Tokens.{is_token}
use Rattle.command_words.specs.Roots.{is_root_url}
use Rattle.command_words.specs.Twice.{first_twice}
use Rattle.command_words.specs.Words.{word_of, word_of_task}
use Rattle.command_words.specs.declared.command_line.Command.{Command}
use Rattle.command_words.specs.declared.command_line.Command.TheVariants.{List as ListIt, Canon, Create, Load, Dump, Head, MakeDir, Upgrade, Initialize, Synchronize, CopyRevprops, Info}
use Rattle.command_words.specs.declared.command_line.Service.{Service}
use Rattle.command_words.specs.declared.command_line.Place.{Place}
use Rattle.command_words.specs.declared.command_line.Place.TheVariants.{Folder, Server}
use Rattle.command_words.specs.declared.command_line.Planned.{Planned}
use Rattle.command_words.specs.declared.command_line.Planned.TheVariants.{Run, Serve, Fleet as FleetIt, Pull as PullIt}
use Rattle.command_words.specs.declared.command_line.Pull.{Pull}
use Rattle.command_words.specs.declared.fleet_words.Fleet.{Fleet}
use Rattle.command_words.specs.declared.command_line.Task.{Task}
use Rattle.command_words.specs.declared.command_line.Task.TheVariants as task

-- the identity that 8-4-4-4-12 hexadecimal digits spell, in any case, with hyphens between them
abbrev pub identity_read : List ℕ → Option (List ℕ)
identity_read = parsed_hyphenated

-- LO:HI, two revision numbers in decimal digits with a colon between them, the first not above the last
pub record SpellsRange (value : List ℕ) (lo hi : ℕ) : Type 0 where
  pub low : List ℕ
  pub high : List ℕ
  pub split : value ≡ low ++ 58 ∷ high
  pub first : rev_read low ≡ Some lo
  pub last : rev_read high ≡ Some hi
  pub ordered : lo ≤ hi

-- microseconds after 1970 began, in decimal digits, up to the end of 2099
abbrev pub SpellsMicros : List ℕ → ℕ → Type 0
SpellsMicros value micros = (decimal value ≡ Some micros) × (micros ≤ 4102444799999999)

-- a number from 1 up to the most, in decimal digits
abbrev pub SpellsUpTo : ℕ → List ℕ → ℕ → Type 0
SpellsUpTo most value n = (decimal value ≡ Some n) × (1 ≤ n) × (n ≤ most)

-- the seconds that a value says, where there is one: from 1 to 43200 (twelve hours); and else 600 (ten minutes)
abbrev pub IsTimeoutOf : Option (List ℕ) → ℕ → Type 0
IsTimeoutOf None seconds = seconds ≡ 600
IsTimeoutOf (Some value) seconds = SpellsUpTo 43200 value seconds

-- what a value says, where there is one: a range, or all where it is left out
abbrev pub IsRangeOf : Option (List ℕ) → Option RevRange → Type 0
IsRangeOf None None = Unit {0}
IsRangeOf None (Some range) = ⊥
IsRangeOf (Some value) None = ⊥
IsRangeOf (Some value) (Some range) = SpellsRange value (first_in range) (last_in range)

-- it has a carriage return, which Subversion takes in no log message
abbrev pub HasReturn : List ℕ → Type 0
HasReturn text = list_any (λ b. b == 13) text ≡ true

-- among the values of a subcommand, the first of that name is this one
abbrev pub HasValue : List Row → List ℕ → List ℕ → Type 0
HasValue rows name value = first_of name rows ≡ Some value

-- the source is one on a server
abbrev pub is_on_server : List ℕ → Bool
is_on_server source = starts_with nat_eq source (codes "svn://")

-- the folders of a mirror and its source: two, and the source's isn't on a server
abbrev pub HasFolders : List Row → List ℕ → List ℕ → Type 0
HasFolders rows mirror source =
    HasValue rows (codes "MIRROR") mirror × HasValue rows (codes "SOURCE") source × (is_on_server source ≡ false) × (bytes_eq mirror source ≡ false)

-- a source on a server, with that text where its port stands
abbrev pub server_url : List ℕ → List ℕ
server_url digits = codes "svn://127.0.0.1:" ++ (digits ++ codes "/")

-- `svn://127.0.0.1:P/`, with a port from 1 to 65535 in decimal digits
abbrev pub SpellsServer : List ℕ → ℕ → Type 0
SpellsServer url port = (digits : List ℕ) × (url ≡ server_url digits) × SpellsUpTo 65535 digits port

-- whether the option without a value is given
abbrev pub is_given : List Row → List ℕ → Bool
is_given rows name = option_map_or (λ value. bytes_eq value (codes "true")) (first_of name rows) false

-- the folder of a mirror and its source: another folder, or on a server, which may say nothing for so long, and sends texts as differences or whole
abbrev pub HasSource : List Row → List ℕ → Place → Type 0
HasSource rows mirror (Folder source) = HasFolders rows mirror (string_bytes source)
HasSource rows mirror (Server url port seconds deltas) =
    HasValue rows (codes "MIRROR") mirror × HasValue rows (codes "SOURCE") (string_bytes url) × SpellsServer (string_bytes url) port
    × IsTimeoutOf (first_of (codes "timeout") rows) seconds × (deltas ≡ is_given rows (codes "deltas"))

-- the range that is given
abbrev pub IsRangeGiven : List Row → RevRange → Type 0
IsRangeGiven rows range = (value : List ℕ) × HasValue rows (codes "revisions") value × SpellsRange value (first_in range) (last_in range)

-- the token that a value says, where there is one, and else `job`
abbrev pub IsTokenOf : Option (List ℕ) → List ℕ → Type 0
IsTokenOf None token = token ≡ codes "job"
IsTokenOf (Some value) token = (token ≡ value) × (is_token value ≡ true)

-- the first value of that name spells the number
abbrev pub HasNumber : List Row → List ℕ → ℕ → ℕ → Type 0
HasNumber rows name most n = (value : List ℕ) × HasValue rows name value × SpellsUpTo most value n

-- a command's folder, identity, range, path, message and moment are those of the values under their names, and so are its flags
abbrev pub HasValuesOf : List Row → Command → Type 0
HasValuesOf rows (ListIt deltas) = deltas ≡ is_given rows (codes "deltas")
HasValuesOf rows (Canon deltas) = deltas ≡ is_given rows (codes "deltas")
HasValuesOf rows (Create folder identity) =
    HasValue rows (codes "DIR") (string_bytes folder) × ((value : List ℕ) × HasValue rows (codes "uuid") value × (identity_read value ≡ Some identity))
HasValuesOf rows (Load folder deltas) = HasValue rows (codes "DIR") (string_bytes folder) × (deltas ≡ is_given rows (codes "deltas"))
HasValuesOf rows (Dump folder range) = HasValue rows (codes "DIR") (string_bytes folder) × IsRangeOf (first_of (codes "revisions") rows) range
HasValuesOf rows (Head folder) = HasValue rows (codes "DIR") (string_bytes folder)
HasValuesOf rows (MakeDir folder path message moment) =
    HasValue rows (codes "DIR") (string_bytes folder) × HasValue rows (codes "PATH") (string_bytes path) × HasValue rows (codes "message") (string_bytes message) × ¬ HasReturn (string_bytes message)
    × ((value : List ℕ) × HasValue rows (codes "moment") value × ((micros : ℕ) × SpellsMicros value micros × IsMoment micros moment))
HasValuesOf rows (Upgrade folder) = HasValue rows (codes "DIR") (string_bytes folder)
HasValuesOf rows (Initialize mirror source) = HasFolders rows (string_bytes mirror) (string_bytes source)
HasValuesOf rows (Synchronize mirror source token steal) =
    HasFolders rows (string_bytes mirror) (string_bytes source) × IsTokenOf (first_of (codes "token") rows) token × (steal ≡ is_given rows (codes "steal-lock"))
HasValuesOf rows (CopyRevprops mirror source token range) =
    HasFolders rows (string_bytes mirror) (string_bytes source) × IsTokenOf (first_of (codes "token") rows) token
    × IsRangeGiven rows range
HasValuesOf rows (Info mirror) = HasValue rows (codes "MIRROR") (string_bytes mirror)

-- of a subcommand with its values: the command has its name and its values
abbrev pub IsCommandOf : Option (List ℕ × List Row) → Command → Type 0
IsCommandOf named command = (rows : List Row) × (named ≡ Some (word_of command, rows)) × HasValuesOf rows command

-- the root that a value says, where there is one: it is told as it is given
abbrev pub IsRootOf : Option (List ℕ) → Option (List ℕ) → Type 0
IsRootOf None root = root ≡ None
IsRootOf (Some value) root = (root ≡ Some value) × (is_root_url value ≡ true)

-- a server's folder, port, number of connections, seconds and root are those of the values under their names, and whether it is for readers
abbrev pub HasServiceOf : List Row → Service → Type 0
HasServiceOf rows service =
    HasValue rows (codes "DIR") (string_bytes service.folder) × HasNumber rows (codes "port") 65535 service.port
    × HasNumber rows (codes "connections") 1024 service.connections × IsTimeoutOf (first_of (codes "timeout") rows) service.seconds
    × IsRootOf (first_of (codes "root-url") rows) (option_map string_bytes service.root_url) × (service.browse ≡ is_given rows (codes "browse"))

-- a task's token, range and whether it steals are those of the values under their names
abbrev pub HasTaskOf : List Row → Task → Type 0
HasTaskOf rows task.Initialize = Unit {0}
HasTaskOf rows (task.Synchronize token steal) = IsTokenOf (first_of (codes "token") rows) token × (steal ≡ is_given rows (codes "steal-lock"))
HasTaskOf rows (task.CopyRevprops token range) = IsTokenOf (first_of (codes "token") rows) token × IsRangeGiven rows range

-- a mirror's folder, its source on a server and its seconds are those of the values under their names, as is whether it sends texts as
-- differences, and what is to be done
abbrev pub HasPullOf : List Row → Pull → Type 0
HasPullOf rows pull =
    HasValue rows (codes "MIRROR") (string_bytes pull.mirror) × HasValue rows (codes "SOURCE") (string_bytes pull.url)
    × SpellsServer (string_bytes pull.url) pull.port × IsTimeoutOf (first_of (codes "timeout") rows) pull.seconds
    × (pull.deltas ≡ is_given rows (codes "deltas")) × HasTaskOf rows pull.task

-- the values under that name are these
abbrev pub HasValues : List Row → List ℕ → List (List ℕ) → Type 0
HasValues rows name values = all_of name rows ≡ Some values

-- a fleet of that master, these mirrors and so many workers: one to four mirrors, and no folder twice
abbrev pub NamesFleet : List ℕ → List (List ℕ) → ℕ → Fleet → Type 0
NamesFleet master mirrors workers fleet =
    (string_bytes fleet.master ≡ master) × (map string_bytes fleet.mirrors.items ≡ mirrors) × (fleet.workers ≡ workers)
    × (1 ≤ length mirrors) × (length mirrors ≤ 4) × (first_twice (master ∷ mirrors) ≡ None)

-- its master, mirrors and number of workers are those of the values under their names
abbrev pub HasFleetOf : List Row → Fleet → Type 0
HasFleetOf rows fleet =
    (master : List ℕ) × (mirrors : List (List ℕ)) × (workers : ℕ) × HasValue rows (codes "MASTER") master × HasValues rows (codes "MIRROR") mirrors
    × HasNumber rows (codes "workers") 64 workers × NamesFleet master mirrors workers fleet

-- of a subcommand with its values: it is that command, or `serve` with the server's values, or `fleet` with its own, or a command over a mirror whose source is on a server
abbrev pub IsPlannedOf : Option (List ℕ × List Row) → Planned → Type 0
IsPlannedOf named (Run command) = IsCommandOf named command
IsPlannedOf named (Serve service) = (rows : List Row) × (named ≡ Some (codes "serve", rows)) × HasServiceOf rows service
IsPlannedOf named (FleetIt fleet) = (rows : List Row) × (named ≡ Some (codes "fleet", rows)) × HasFleetOf rows fleet
IsPlannedOf named (PullIt pull) = (rows : List Row) × (named ≡ Some (word_of_task pull.task, rows)) × HasPullOf rows pull
