-- How what a client asks is read, place by place. `Asks` has the table that it comes to.
use Rattle.std.specs.Prelude.{ℕ, true, false, List, Some, None, Result, Ok, Err, codes, if◌then◌else◌}
use Rattle.std.specs.Option.{option_map}
use Rattle.std.specs.Str.{bytes_eq}
use Rattle.ra_item.specs.Items.{Item, Items, End, Then, Word}
use Rattle.ra_wire.specs.Params.{Read, parts_in, word_in, text_in, number_in, list_in, bool_in, path_in, bracketed}
use Rattle.ra_wire.specs.Commands.{Command}
use Rattle.ra_wire.specs.Reading.{command_in}
use Rattle.ra_wire.specs.declared.fault.WireFault.{WireFault}
use Rattle.browse_wire.specs.Faults.{of_wire}
use Rattle.browse_wire.specs.Depths.{depth_in, or_files, or_empty, or_all, unless_excluded}
use Rattle.browse_wire.specs.Fields.{path_of, number_of, text_of, each_in, or_missing, then_read}
use Rattle.browse_wire.specs.Asks.{Revprops, Usual, Every, These, Ask, Plain, Stat, Log, Locations, Segments, FileRevs, Reparent, GetLock, GetLocks, Update, Switch, Status, Diff, DatedRev, is_own}
use Rattle.browse_wire.specs.declared.fault.BrowseFault.{BrowseFault}
use Rattle.browse_wire.specs.declared.fault.BrowseFault.TheVariants as fault

abbrev pub Reading : Type 0
Reading = Result Ask BrowseFault

abbrev pub stat_in : Items → Reading
stat_in xs = then_read (path_in xs) (λ p a. then_read (bracketed number_in a) (λ n b. Ok (Stat p n)))

abbrev pub revprops_named : List ℕ → Items → Read Revprops
revprops_named w xs = if bytes_eq w (codes "all-revprops") then Some (Every, End) else if bytes_eq w (codes "revprops") then option_map (λ r. (These r.0, End)) (each_in text_of xs) else None

-- what they are, and nothing behind them
abbrev pub revprops_in : Items → Read Revprops
revprops_in End = Some (Usual, End)
revprops_in (Then (Word w) xs) = revprops_named w xs
revprops_in _ = None

abbrev pub log_in : Items → Reading
log_in xs = then_read (each_in path_of xs) (λ ps a. then_read (bracketed number_in a) (λ start b. then_read (bracketed number_in b) (λ end c.
    then_read (bool_in c) (λ changed d. then_read (bool_in d) (λ strict e. then_read (or_missing number_in 0 e) (λ limit f. then_read (or_missing bool_in false f) (λ merged g.
    then_read (revprops_in g) (λ revprops h. Ok (Log (record { paths = ps; start = start; end = end; changed_paths = changed; strict = strict; limit = limit; merged = merged; revprops = revprops }))))))))))

abbrev pub locations_in : Items → Reading
locations_in xs = then_read (path_in xs) (λ p a. then_read (number_in a) (λ peg b. then_read (each_in number_of b) (λ ns c. Ok (Locations p peg ns))))

abbrev pub segments_in : Items → Reading
segments_in xs = then_read (path_in xs) (λ p a. then_read (bracketed number_in a) (λ peg b. then_read (bracketed number_in b) (λ start c. then_read (bracketed number_in c) (λ end d. Ok (Segments p peg start end)))))

abbrev pub file_revs_in : Items → Reading
file_revs_in xs = then_read (path_in xs) (λ p a. then_read (bracketed number_in a) (λ start b. then_read (bracketed number_in b) (λ end c. then_read (or_missing bool_in false c) (λ merged d. Ok (FileRevs p start end merged)))))

abbrev pub reparent_in : Items → Reading
reparent_in xs = then_read (text_in xs) (λ url a. Ok (Reparent url))

abbrev pub get_lock_in : Items → Reading
get_lock_in xs = then_read (path_in xs) (λ p a. Ok (GetLock p))

abbrev pub get_locks_in : Items → Reading
get_locks_in xs = then_read (path_in xs) (λ p a. then_read (or_missing (bracketed depth_in) None a) (λ o b. unless_excluded (or_all o) (GetLocks p (or_all o))))

abbrev pub update_in : Items → Reading
update_in xs = then_read (bracketed number_in xs) (λ n a. then_read (path_in a) (λ p b. then_read (bool_in b) (λ recurse c. then_read (or_missing depth_in (or_files recurse) c) (λ depth d.
    then_read (or_missing bool_in false d) (λ copies e. then_read (or_missing bool_in false e) (λ ignores f. unless_excluded depth (Update n p depth copies ignores)))))))

abbrev pub switch_in : Items → Reading
switch_in xs = then_read (bracketed number_in xs) (λ n a. then_read (path_in a) (λ p b. then_read (bool_in b) (λ recurse c. then_read (text_in c) (λ url d. then_read (or_missing depth_in (or_files recurse) d) (λ depth e.
    then_read (or_missing bool_in false e) (λ copies f. then_read (or_missing bool_in false f) (λ ignores g. unless_excluded depth (Switch n p url depth copies ignores))))))))

abbrev pub status_in : Items → Reading
status_in xs = then_read (path_in xs) (λ p a. then_read (bool_in a) (λ recurse b. then_read (or_missing (bracketed number_in) None b) (λ n c. then_read (or_missing depth_in (or_empty recurse) c) (λ depth d. unless_excluded depth (Status n p depth)))))

abbrev pub diff_in : Items → Reading
diff_in xs = then_read (bracketed number_in xs) (λ n a. then_read (path_in a) (λ p b. then_read (bool_in b) (λ recurse c. then_read (bool_in c) (λ ignores d. then_read (text_in d) (λ url e.
    then_read (or_missing bool_in true e) (λ texts f. then_read (or_missing depth_in (or_files recurse) f) (λ depth g. unless_excluded depth (Diff n p url depth ignores texts))))))))

abbrev pub dated_rev_in : Items → Reading
dated_rev_in xs = then_read (text_in xs) (λ date a. Ok (DatedRev date))

-- the names, and what each takes
abbrev pub named : List ℕ → Items → Reading
named w xs =
    if bytes_eq w (codes "stat") then stat_in xs
    else if bytes_eq w (codes "log") then log_in xs
    else if bytes_eq w (codes "get-locations") then locations_in xs
    else if bytes_eq w (codes "get-location-segments") then segments_in xs
    else if bytes_eq w (codes "get-file-revs") then file_revs_in xs
    else if bytes_eq w (codes "reparent") then reparent_in xs
    else if bytes_eq w (codes "get-lock") then get_lock_in xs
    else if bytes_eq w (codes "get-locks") then get_locks_in xs
    else if bytes_eq w (codes "update") then update_in xs
    else if bytes_eq w (codes "switch") then switch_in xs
    else if bytes_eq w (codes "status") then status_in xs
    else if bytes_eq w (codes "diff") then diff_in xs
    else if bytes_eq w (codes "get-dated-rev") then dated_rev_in xs
    else Err fault.UnknownCommand

-- a name and parameters in brackets
abbrev pub own_in : Item → Reading
own_in item = elim (parts_in item) [ None ↦ Err fault.BadShape | Some xs ↦ then_read (word_in xs) (λ w ys. then_read (list_in ys) (λ ps zs. named w ps)) ]

-- a command that needs nothing of this crate
abbrev pub lifted : Result Command WireFault → Reading
lifted (Ok c) = Ok (Plain c)
lifted (Err f) = Err (of_wire f)

abbrev pub ask_in : Item → Reading
ask_in item = if is_own item then own_in item else lifted (command_in item)
