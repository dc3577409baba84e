-- The command line of the program.
use Rattle.std.specs.Prelude.{ℕ, List, [], ◌∷◌, Bool, true, false, Some, codes}
use Rattle.std.specs.List.{fold}
use Rattle.clap.specs.Words.{App, Rule, new_app, new_rule, with_rule, with_subcommand}
use Rattle.clap.specs.Simple.{on_top}
use Rattle.clap.specs.declared.builder.action.ArgAction.TheVariants.{Append, Set, SetTrue}
use Rattle.command_words.specs.declared.command_line.Command.{Command}
use Rattle.command_words.specs.declared.command_line.Command.TheVariants.{List as ListIt, Canon, Create, Load, Dump, Head, MakeDir, Upgrade, Initialize, Synchronize, CopyRevprops, Info}
use Rattle.command_words.specs.declared.command_line.Task.{Task}
use Rattle.command_words.specs.declared.command_line.Task.TheVariants as task
use Rattle.command_words.specs.declared.word.Subcommand.{Subcommand}
use Rattle.command_words.specs.declared.word.Word.{Word}
use Rattle.command_words.specs.declared.word.WordKind.{WordKind}
use Rattle.command_words.specs.declared.word.WordKind.TheVariants.{Place, Places, Named, Optional, Flag, Range}

-- ---- what a word may be

-- a word that has to be there
abbrev pub word_rule : List ℕ → Rule
word_rule name = record (new_rule name) { required = true; action = Some Set }

-- words, one at least
abbrev pub words_rule : List ℕ → Rule
words_rule name = record (new_rule name) { required = true; action = Some Append }

-- an option with a long name and one value, which has to be there
abbrev pub named_rule : List ℕ → Rule
named_rule name = record (word_rule name) { long = Some name; value_names = 1 }

-- an option with a long name and one value, which may be left out
abbrev pub optional_rule : List ℕ → Rule
optional_rule name = record (new_rule name) { long = Some name; action = Some Set; value_names = 1 }

-- an option with a long name and no value
abbrev pub flag_rule : List ℕ → Rule
flag_rule name = record (new_rule name) { long = Some name; action = Some SetTrue }

-- `-r LO:HI`, which has to be there or may be left out
abbrev pub range_rule : Bool → List ℕ → Rule
range_rule required name = record (new_rule name) { required = required; short = Some 114; action = Some Set; value_names = 1 }

-- ---- the commands, each with its words

abbrev pub app_with : List ℕ → List Rule → App
app_with name rules = fold with_rule (new_app name) rules

-- the folder of a repository
abbrev pub folder_rule : Rule
folder_rule = word_rule (codes "DIR")

-- the option by which texts are taken as differences
abbrev pub deltas_rule : Rule
deltas_rule = flag_rule (codes "deltas")

abbrev pub list_app : App
list_app = app_with (codes "list") (deltas_rule ∷ [])

abbrev pub canon_app : App
canon_app = app_with (codes "canon") (deltas_rule ∷ [])

abbrev pub create_app : App
create_app = app_with (codes "create") (folder_rule ∷ named_rule (codes "uuid") ∷ [])

abbrev pub load_app : App
load_app = app_with (codes "load") (folder_rule ∷ deltas_rule ∷ [])

abbrev pub dump_app : App
dump_app = app_with (codes "dump") (folder_rule ∷ range_rule false (codes "revisions") ∷ [])

abbrev pub head_app : App
head_app = app_with (codes "head") (folder_rule ∷ [])

abbrev pub mkdir_app : App
mkdir_app = app_with (codes "mkdir") (folder_rule ∷ word_rule (codes "PATH") ∷ named_rule (codes "message") ∷ named_rule (codes "moment") ∷ [])

abbrev pub upgrade_app : App
upgrade_app = app_with (codes "upgrade") (folder_rule ∷ [])

-- a command over a mirror and its source, and what it takes besides
abbrev pub two_folders_app : List ℕ → List Rule → App
two_folders_app name rules = app_with name (word_rule (codes "MIRROR") ∷ word_rule (codes "SOURCE") ∷ rules)

abbrev pub initialize_app : App
initialize_app = two_folders_app (codes "initialize") (optional_rule (codes "timeout") ∷ [])

abbrev pub synchronize_app : App
synchronize_app = two_folders_app (codes "synchronize") (flag_rule (codes "steal-lock") ∷ deltas_rule ∷ optional_rule (codes "token") ∷ optional_rule (codes "timeout") ∷ [])

abbrev pub copy_revprops_app : App
copy_revprops_app = two_folders_app (codes "copy-revprops") (range_rule true (codes "revisions") ∷ optional_rule (codes "token") ∷ optional_rule (codes "timeout") ∷ [])

abbrev pub info_app : App
info_app = app_with (codes "info") (word_rule (codes "MIRROR") ∷ [])

-- a folder, a port and a number of connections, how long a client may say nothing, the root that it is told, and whether clients read
abbrev pub serve_app : App
serve_app = app_with (codes "serve") (folder_rule ∷ named_rule (codes "port") ∷ named_rule (codes "connections") ∷ optional_rule (codes "timeout") ∷ optional_rule (codes "root-url") ∷ flag_rule (codes "browse") ∷ [])

-- a master and its mirrors, and a number of workers
abbrev pub fleet_app : App
fleet_app = app_with (codes "fleet") (word_rule (codes "MASTER") ∷ words_rule (codes "MIRROR") ∷ named_rule (codes "workers") ∷ [])

-- the program by itself
abbrev pub bare_app : App
bare_app = on_top (λ s. record s { has_version = true; subcommand_required = true }) (new_app (codes "svnfleet"))

abbrev pub with_apps : App → List App → App
with_apps program apps = fold (λ program app. with_subcommand program app.top) program apps

-- the program with the commands over a dump or one repository
abbrev pub archive_app : App
archive_app = with_apps bare_app (list_app ∷ canon_app ∷ create_app ∷ load_app ∷ dump_app ∷ head_app ∷ mkdir_app ∷ upgrade_app ∷ [])

-- those over mirrors, and what serves
abbrev pub mirror_apps : List App
mirror_apps = initialize_app ∷ synchronize_app ∷ copy_revprops_app ∷ info_app ∷ serve_app ∷ fleet_app ∷ []

-- the program and its subcommands, of which it wants one
abbrev pub svnfleet_app : App
svnfleet_app = with_apps archive_app mirror_apps

-- ---- the same of commands that are data

abbrev pub rule_as : List ℕ → WordKind → Rule
rule_as name Place = word_rule name
rule_as name Places = words_rule name
rule_as name (Named value) = named_rule name
rule_as name (Optional value) = optional_rule name
rule_as name Flag = flag_rule name
rule_as name (Range required) = range_rule required name

abbrev pub rule_of_word : Word → Rule
rule_of_word word = rule_as word.name.now word.kind

abbrev pub subcommand_app : Subcommand → App
subcommand_app command = fold (λ app word. with_rule app (rule_of_word word)) (new_app command.name.now) command.words.now

abbrev pub with_commands_app : App → List Subcommand → App
with_commands_app program commands = fold (λ program command. with_subcommand program (subcommand_app command).top) program commands

-- ---- what a command is called

-- the word that names a command
abbrev pub word_of : Command → List ℕ
word_of (ListIt deltas) = codes "list"
word_of (Canon deltas) = codes "canon"
word_of (Create folder identity) = codes "create"
word_of (Load folder deltas) = codes "load"
word_of (Dump folder range) = codes "dump"
word_of (Head folder) = codes "head"
word_of (MakeDir folder path message moment) = codes "mkdir"
word_of (Upgrade folder) = codes "upgrade"
word_of (Initialize mirror source) = codes "initialize"
word_of (Synchronize mirror source token steal) = codes "synchronize"
word_of (CopyRevprops mirror source token range) = codes "copy-revprops"
word_of (Info mirror) = codes "info"

-- the command that does a task over a mirror and its source
abbrev pub word_of_task : Task → List ℕ
word_of_task task.Initialize = codes "initialize"
word_of_task (task.Synchronize token steal) = codes "synchronize"
word_of_task (task.CopyRevprops token range) = codes "copy-revprops"
