-- The lines that the program tells of a mistake.
use Rattle.std.specs.Prelude.{◌≡◌, ℕ, Bool, true, false, List, [], ◌∷◌, ◌++◌, map, drop, get_or, nat_eq, bytes_eq, All, ◌≢◌, codes, if◌then◌else◌}
use Rattle.std.specs.List.{join_with_byte, list_any, take_while, starts_with}
use Rattle.std.specs.Str.{trim}
use Rattle.std.specs.Str.Lines.{lines}
use Rattle.command_words.specs.Terminal.{shown}
use Rattle.command_words.specs.Words.{svnfleet_app}

-- the words that name a command
abbrev pub commands : List (List ℕ)
commands = map (λ command. command.name) svnfleet_app.subs

-- the words whose help tells more: of the command that the first word behind the program's name is, or else of the program
abbrev pub help_of : List (List ℕ) → List ℕ
help_of words = if list_any (bytes_eq (get_or words 1 [])) commands then codes "svnfleet " ++ get_or words 1 [] else codes "svnfleet"

-- the one line that is told of what is wrong, as a terminal is given it
abbrev pub IsLineOf : List ℕ → List ℕ → List ℕ → Type 0
IsLineOf help wrong line = line ≡ shown (codes "svnfleet: " ++ (wrong ++ (codes " (" ++ (help ++ codes " --help tells more)"))))

-- it is one line at most
abbrev pub HasNoLineFeed : List ℕ → Type 0
HasNoLineFeed = All (λ b. b ≢ 10)

-- it has a byte
abbrev pub is_some_text : List ℕ → Bool
is_some_text [] = false
is_some_text (b ∷ bs) = true

-- the lines of a text before the first empty one, each without the white space round it, and a blank between two
abbrev pub first_lines : List ℕ → List ℕ
first_lines text = join_with_byte 32 (take_while is_some_text (map trim (lines text)))

-- what stands behind the label `error: `, or all where it isn't there
abbrev pub without_label : List ℕ → List ℕ
without_label text = if starts_with nat_eq text (codes "error: ") then drop 7 text else text
