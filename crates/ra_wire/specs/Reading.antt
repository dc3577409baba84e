-- How the command is read that an item is, place by place. `Commands` has the table that it comes to.
use Rattle.std.specs.Prelude.{◌≡◌, ℕ, Bool, true, false, ◌&&◌, ◌==◌, List, Option, Some, None, Result, Ok, Err, codes, if◌then◌else◌}
use Rattle.std.specs.Option.{option_and_then}
use Rattle.std.specs.Str.{bytes_eq}
use Rattle.ra_item.specs.Items.{Item, Items}
use Rattle.ra_wire.specs.Params.{Read, parts_in, word_in, text_in, number_in, list_in, bool_in, path_in, prop_name_in, bracketed, perhaps}
use Rattle.ra_wire.specs.Commands.{Previous, Any, Absent, Value, Command, LatestRev, CheckPath, GetFile, GetDir, RevProplist, RevProp, ChangeProp, Replay, ReplayRange, command_as}
use Rattle.ra_wire.specs.declared.fault.WireFault.{WireFault}
use Rattle.ra_wire.specs.declared.fault.WireFault.TheVariants as fault
use Rattle.ra_wire.specs.declared.command.Command as declared

-- the command, or why there is none
abbrev pub Reading : Type 0
Reading = Result Command WireFault

-- what is there, and then the rest; another shape where it isn't
abbrev pub then_read : {T : Type 0} → Read T → (T → Items → Reading) → Reading
then_read None next = Err fault.BadShape
then_read (Some r) next = next r.0 r.1

-- the same of what may be missing at the end
abbrev pub last_read : {T : Type 0} → Option T → (T → Reading) → Reading
last_read None next = Err fault.BadShape
last_read (Some x) next = next x

-- a replay is against revision 0 and with texts
abbrev pub replayed : ℕ → Bool → Command → Reading
replayed low deltas c = if low == 0 && deltas then Ok c else Err fault.ReplayForm

-- the value that a change of a property expects
abbrev pub previous_of : Bool → Option (List ℕ) → Option Previous
previous_of true None = Some Any
previous_of true (Some v) = None
previous_of false None = Some Absent
previous_of false (Some v) = Some (Value v)

-- ( dont-care ? previous )
abbrev pub previous_in : Items → Option Previous
previous_in xs = option_and_then (λ r. option_and_then (previous_of r.0) (perhaps text_in r.1)) (bool_in xs)

-- ---- the parameters of each command

abbrev pub check_path_in : Items → Reading
check_path_in xs = then_read (path_in xs) (λ p ys. then_read (bracketed number_in ys) (λ n zs. Ok (CheckPath p n)))

abbrev pub get_file_in : Items → Reading
get_file_in xs = then_read (path_in xs) (λ p ys. then_read (bracketed number_in ys) (λ n zs. then_read (bool_in zs) (λ props us. then_read (bool_in us) (λ contents vs. Ok (GetFile p n props contents)))))

abbrev pub get_dir_in : Items → Reading
get_dir_in xs = then_read (path_in xs) (λ p ys. then_read (bracketed number_in ys) (λ n zs. then_read (bool_in zs) (λ props us. then_read (bool_in us) (λ contents vs. last_read (perhaps list_in vs) (λ fields. Ok (GetDir p n props contents))))))

abbrev pub rev_proplist_in : Items → Reading
rev_proplist_in xs = then_read (number_in xs) (λ n ys. Ok (RevProplist n))

abbrev pub rev_prop_in : Items → Reading
rev_prop_in xs = then_read (number_in xs) (λ n ys. then_read (prop_name_in ys) (λ name zs. Ok (RevProp n name)))

abbrev pub change_rev_prop_in : Items → Reading
change_rev_prop_in xs = then_read (number_in xs) (λ n ys. then_read (prop_name_in ys) (λ name zs. last_read (perhaps text_in zs) (λ v. Ok (ChangeProp n name v Any))))

abbrev pub change_rev_prop2_in : Items → Reading
change_rev_prop2_in xs = then_read (number_in xs) (λ n ys. then_read (prop_name_in ys) (λ name zs. then_read (bracketed text_in zs) (λ v us. then_read (list_in us) (λ inner vs. last_read (previous_in inner) (λ old. Ok (ChangeProp n name v old))))))

abbrev pub replay_in : Items → Reading
replay_in xs = then_read (number_in xs) (λ n ys. then_read (number_in ys) (λ low zs. then_read (bool_in zs) (λ deltas us. replayed low deltas (Replay n))))

abbrev pub replay_range_in : Items → Reading
replay_range_in xs = then_read (number_in xs) (λ a ys. then_read (number_in ys) (λ b zs. then_read (number_in zs) (λ low us. then_read (bool_in us) (λ deltas vs. replayed low deltas (ReplayRange a b)))))

-- the names, and what each takes; more parameters are ignored
abbrev pub named : List ℕ → Items → Reading
named w xs =
    if bytes_eq w (codes "get-latest-rev") then Ok LatestRev
    else if bytes_eq w (codes "check-path") then check_path_in xs
    else if bytes_eq w (codes "get-file") then get_file_in xs
    else if bytes_eq w (codes "get-dir") then get_dir_in xs
    else if bytes_eq w (codes "rev-proplist") then rev_proplist_in xs
    else if bytes_eq w (codes "rev-prop") then rev_prop_in xs
    else if bytes_eq w (codes "change-rev-prop") then change_rev_prop_in xs
    else if bytes_eq w (codes "change-rev-prop2") then change_rev_prop2_in xs
    else if bytes_eq w (codes "replay") then replay_in xs
    else if bytes_eq w (codes "replay-range") then replay_range_in xs
    else Err fault.UnknownCommand

-- the command that an item is: its name, and its parameters in brackets; more behind these is ignored
abbrev pub command_in : Item → Reading
command_in item = last_read (parts_in item) (λ xs. then_read (word_in xs) (λ w ys. then_read (list_in ys) (λ ps zs. named w ps)))

-- what a call read is this, unless memory ran out
abbrev pub ReadIs : Result declared.Command WireFault → Reading → Type 0
ReadIs (Ok c) read = read ≡ Ok (command_as c)
ReadIs (Err fault.OutOfMemory) read = Unit {0}
ReadIs (Err f) read = read ≡ Err f
