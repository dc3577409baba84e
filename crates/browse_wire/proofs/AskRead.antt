-- What a client asks is read as the table has it, and what isn't read is none.
use Rattle.std.proofs.Common.{◌≡◌, ℕ, Bool, true, false, List, [], ◌∷◌, ap, subst, sym, ◌∙◌, refl, inl, inr, true≢false}
use Rattle.std.specs.Prelude.{◌⊎◌, ◌||◌, Option, Some, None, Result, Ok, Err, codes, if◌then◌else◌}
use Rattle.std.specs.Option.{option_map}
use Rattle.std.specs.List.{list_any}
use Rattle.std.specs.Str.{bytes_eq}
use Rattle.std.proofs.lemmas.Slice.Eq.{bytes_eq-Decides}
use Rattle.ra_item.specs.Items.{Item, Items, End, Then, Word, Nested}
use Rattle.node_base.specs.Path.{Path}
use Rattle.ra_wire.specs.Params.{Read, text_in, number_in, bool_in, path_in, bracketed}
use Rattle.ra_wire.specs.Commands as plain
use Rattle.ra_wire.specs.Reading.{command_in}
use Rattle.ra_wire.specs.declared.fault.WireFault.{WireFault}
use Rattle.ra_wire.specs.declared.fault.WireFault.TheVariants as wire
use Rattle.ra_wire.proofs.Judged as commands
use Rattle.browse_wire.specs.declared.fault.BrowseFault.{BrowseFault}
use Rattle.browse_wire.specs.declared.fault.BrowseFault.TheVariants as fault
use Rattle.browse_wire.specs.declared.depth.DepthWord.{DepthWord}
use Rattle.browse_wire.specs.declared.depth.DepthWord.TheVariants as said_depth
use Rattle.browse_wire.specs.declared.ask.BrowseCommand as declared
use Rattle.browse_wire.specs.Faults.{ReadIs}
use Rattle.browse_wire.specs.Depths.{IsDepth, depth_in, or_files, or_empty, or_all, unless_excluded}
use Rattle.browse_wire.specs.Fields.{IsNumber, IsText, IsTruth, IsPath, Maybe, Listed, First, OrMissing, path_of, number_of, text_of, each_in, or_missing, then_read}
use Rattle.browse_wire.specs.Asks.{Revprops, Usual, Every, These, LogAsk, Ask, Plain, Stat, Log, Locations, Segments, FileRevs, Reparent, GetLock, GetLocks, Update, Switch, Status, Diff, DatedRev, IsStat, IsRevprops, IsLog, AreLocations, AreSegments, AreFileRevs, AreLocks, IsUpdate, IsSwitch, IsStatus, IsDiff, Forms, is_own_name, is_own, IsUnknown, depth_of, IsExcluded, ask_as, Judged}
use Rattle.browse_wire.specs.AskReading.{Reading, stat_in, revprops_in, log_in, locations_in, segments_in, file_revs_in, reparent_in, get_lock_in, get_locks_in, update_in, switch_in, status_in, diff_in, dated_rev_in, named, own_in, lifted, ask_in}
use Rattle.browse_wire.proofs.Placed.{Told, told_next, number_told, number_back, text_told, text_back, path_told, path_back, truth_told, truth_back, depth_told, depth_back, maybe_told, maybe_back, paths_told, paths_back, numbers_told, numbers_back, texts_told, texts_back, or_told, or_back}

-- what was read is such a one
abbrev pub Said : Item → Reading → Type 0
Said item (Ok a) = Forms a item
Said item (Err fault.UnknownCommand) = IsUnknown item
Said item (Err fault.ReplayForm) = plain.IsOtherReplay item
Said item (Err fault.ExcludedDepth) = IsExcluded item
Said item (Err fault.BadShape) = Unit {0}
Said item (Err fault.OutOfMemory) = Unit {0}

-- a name, parameters, and what is ignored
abbrev pub full : List ℕ → Items → Items → Item
full w ps zs = Nested (Then (Word w) (Then (Nested ps) zs))

excluded_said : (item : Item) (d : DepthWord) (a : Ask) → depth_of a ≡ d → Forms a item → Said item (unless_excluded d a)
excluded_said item (said_depth.Known k) a e f = f
excluded_said item said_depth.AsReported a e f = f
excluded_said item said_depth.Excluded a e f = (a, f, e)

-- ---- which properties of revisions are wanted

abbrev IsRevpropsField : Revprops → Items → Items → Type 0
IsRevpropsField r xs behind = IsRevprops r xs

names_told : (w : List ℕ) (xs : Items) (o : Read (List (List ℕ))) → w ≡ codes "revprops" → Told (First (Listed IsText)) xs o → Told IsRevpropsField (Then (Word w) xs) (option_map (λ r. (These r.0, End)) o)
names_told w xs None e h = tt
names_told w xs (Some r) e h = (xs, r.1, ap (λ k. Then (Word k) xs) e, h)

revprops_told_if : (w : List ℕ) (xs : Items) (p q : Bool) → (p ≡ true → w ≡ codes "all-revprops") → (q ≡ true → w ≡ codes "revprops")
    → Told IsRevpropsField (Then (Word w) xs) (if p then Some (Every, End) else if q then option_map (λ r. (These r.0, End)) (each_in text_of xs) else None)
revprops_told_if w xs true q f g = (xs, ap (λ k. Then (Word k) xs) (f refl))
revprops_told_if w xs false true f g = names_told w xs (each_in text_of xs) (g refl) (texts_told xs)
revprops_told_if w xs false false f g = tt

revprops_told : (xs : Items) → Told IsRevpropsField xs (revprops_in xs)
revprops_told End = refl
revprops_told (Then (Word w) xs) = revprops_told_if w xs (bytes_eq w (codes "all-revprops")) (bytes_eq w (codes "revprops")) (bytes_eq-Decides w (codes "all-revprops")).0 (bytes_eq-Decides w (codes "revprops")).0
revprops_told _ = tt

revprops_back : (r : Revprops) (xs : Items) → IsRevprops r xs → revprops_in xs ≡ Some (r, End)
revprops_back Usual xs f = ap revprops_in f
revprops_back Every xs f = ap revprops_in f.1
revprops_back (These names) xs f = ap revprops_in f.2 ∙ ap (option_map (λ r. (These r.0, End))) (texts_back names f.0 f.1 f.3)

-- ---- from what is read to the table, command by command

reparent_said : (xs zs : Items) → Said (full (codes "reparent") xs zs) (reparent_in xs)
reparent_said xs zs =
    told_next (Said (full (codes "reparent") xs zs)) (First IsText) xs (text_in xs) (λ url a. Ok (Reparent url)) (text_told xs) tt (λ url a f. (xs, (zs, refl), (a, f)))

dated_rev_said : (xs zs : Items) → Said (full (codes "get-dated-rev") xs zs) (dated_rev_in xs)
dated_rev_said xs zs =
    told_next (Said (full (codes "get-dated-rev") xs zs)) (First IsText) xs (text_in xs) (λ date a. Ok (DatedRev date)) (text_told xs) tt (λ date a f. (xs, (zs, refl), (a, f)))

get_lock_said : (xs zs : Items) → Said (full (codes "get-lock") xs zs) (get_lock_in xs)
get_lock_said xs zs =
    told_next (Said (full (codes "get-lock") xs zs)) (First IsPath) xs (path_in xs) (λ p a. Ok (GetLock p)) (path_told xs) tt (λ p a f. (xs, (zs, refl), (a, f)))

get_locks_said : (xs zs : Items) → Said (full (codes "get-locks") xs zs) (get_locks_in xs)
get_locks_said xs zs =
    let P : Reading → Type 0 = Said (full (codes "get-locks") xs zs) in
    told_next P (First IsPath) xs (path_in xs) (λ p a. then_read (or_missing (bracketed depth_in) None a) (λ o b. unless_excluded (or_all o) (GetLocks p (or_all o)))) (path_told xs) tt (λ p a f0.
    told_next P (OrMissing (First (Maybe IsDepth)) None) a (or_missing (bracketed depth_in) None a) (λ o b. unless_excluded (or_all o) (GetLocks p (or_all o))) (or_told (Maybe IsDepth) (bracketed depth_in) None (maybe_told IsDepth depth_in depth_told) a) tt (λ o b f1.
    excluded_said (full (codes "get-locks") xs zs) (or_all o) (GetLocks p (or_all o)) refl (xs, (zs, refl), (a, b, o, f0, f1, refl))))

stat_said : (xs zs : Items) → Said (full (codes "stat") xs zs) (stat_in xs)
stat_said xs zs =
    let P : Reading → Type 0 = Said (full (codes "stat") xs zs) in
    told_next P (First IsPath) xs (path_in xs) (λ p a. then_read (bracketed number_in a) (λ n b. Ok (Stat p n))) (path_told xs) tt (λ p a f0.
    told_next P (First (Maybe IsNumber)) a (bracketed number_in a) (λ n b. Ok (Stat p n)) (maybe_told IsNumber number_in number_told a) tt (λ n b f1.
    (xs, (zs, refl), (a, b, f0, f1))))

locations_said : (xs zs : Items) → Said (full (codes "get-locations") xs zs) (locations_in xs)
locations_said xs zs =
    let P : Reading → Type 0 = Said (full (codes "get-locations") xs zs) in
    told_next P (First IsPath) xs (path_in xs) (λ p a. then_read (number_in a) (λ peg b. then_read (each_in number_of b) (λ ns c. Ok (Locations p peg ns)))) (path_told xs) tt (λ p a f0.
    told_next P (First IsNumber) a (number_in a) (λ peg b. then_read (each_in number_of b) (λ ns c. Ok (Locations p peg ns))) (number_told a) tt (λ peg b f1.
    told_next P (First (Listed IsNumber)) b (each_in number_of b) (λ ns c. Ok (Locations p peg ns)) (numbers_told b) tt (λ ns c f2.
    (xs, (zs, refl), (a, b, c, f0, f1, f2)))))

segments_said : (xs zs : Items) → Said (full (codes "get-location-segments") xs zs) (segments_in xs)
segments_said xs zs =
    let P : Reading → Type 0 = Said (full (codes "get-location-segments") xs zs) in
    told_next P (First IsPath) xs (path_in xs) (λ p a. then_read (bracketed number_in a) (λ peg b. then_read (bracketed number_in b) (λ start c. then_read (bracketed number_in c) (λ end d. Ok (Segments p peg start end))))) (path_told xs) tt (λ p a f0.
    told_next P (First (Maybe IsNumber)) a (bracketed number_in a) (λ peg b. then_read (bracketed number_in b) (λ start c. then_read (bracketed number_in c) (λ end d. Ok (Segments p peg start end)))) (maybe_told IsNumber number_in number_told a) tt (λ peg b f1.
    told_next P (First (Maybe IsNumber)) b (bracketed number_in b) (λ start c. then_read (bracketed number_in c) (λ end d. Ok (Segments p peg start end))) (maybe_told IsNumber number_in number_told b) tt (λ start c f2.
    told_next P (First (Maybe IsNumber)) c (bracketed number_in c) (λ end d. Ok (Segments p peg start end)) (maybe_told IsNumber number_in number_told c) tt (λ end d f3.
    (xs, (zs, refl), (a, b, c, d, f0, f1, f2, f3))))))

file_revs_said : (xs zs : Items) → Said (full (codes "get-file-revs") xs zs) (file_revs_in xs)
file_revs_said xs zs =
    let P : Reading → Type 0 = Said (full (codes "get-file-revs") xs zs) in
    told_next P (First IsPath) xs (path_in xs) (λ p a. then_read (bracketed number_in a) (λ start b. then_read (bracketed number_in b) (λ end c. then_read (or_missing bool_in false c) (λ merged d. Ok (FileRevs p start end merged))))) (path_told xs) tt (λ p a f0.
    told_next P (First (Maybe IsNumber)) a (bracketed number_in a) (λ start b. then_read (bracketed number_in b) (λ end c. then_read (or_missing bool_in false c) (λ merged d. Ok (FileRevs p start end merged)))) (maybe_told IsNumber number_in number_told a) tt (λ start b f1.
    told_next P (First (Maybe IsNumber)) b (bracketed number_in b) (λ end c. then_read (or_missing bool_in false c) (λ merged d. Ok (FileRevs p start end merged))) (maybe_told IsNumber number_in number_told b) tt (λ end c f2.
    told_next P (OrMissing (First IsTruth) false) c (or_missing bool_in false c) (λ merged d. Ok (FileRevs p start end merged)) (or_told IsTruth bool_in false truth_told c) tt (λ merged d f3.
    (xs, (zs, refl), (a, b, c, d, f0, f1, f2, f3))))))

update_said : (xs zs : Items) → Said (full (codes "update") xs zs) (update_in xs)
update_said xs zs =
    let P : Reading → Type 0 = Said (full (codes "update") xs zs) in
    told_next P (First (Maybe IsNumber)) xs (bracketed number_in xs) (λ n a. then_read (path_in a) (λ p b. then_read (bool_in b) (λ recurse c. then_read (or_missing depth_in (or_files recurse) c) (λ depth d. then_read (or_missing bool_in false d) (λ copies e. then_read (or_missing bool_in false e) (λ ignores f. unless_excluded depth (Update n p depth copies ignores))))))) (maybe_told IsNumber number_in number_told xs) tt (λ n a f0.
    told_next P (First IsPath) a (path_in a) (λ p b. then_read (bool_in b) (λ recurse c. then_read (or_missing depth_in (or_files recurse) c) (λ depth d. then_read (or_missing bool_in false d) (λ copies e. then_read (or_missing bool_in false e) (λ ignores f. unless_excluded depth (Update n p depth copies ignores)))))) (path_told a) tt (λ p b f1.
    told_next P (First IsTruth) b (bool_in b) (λ recurse c. then_read (or_missing depth_in (or_files recurse) c) (λ depth d. then_read (or_missing bool_in false d) (λ copies e. then_read (or_missing bool_in false e) (λ ignores f. unless_excluded depth (Update n p depth copies ignores))))) (truth_told b) tt (λ recurse c f2.
    told_next P (OrMissing (First IsDepth) (or_files recurse)) c (or_missing depth_in (or_files recurse) c) (λ depth d. then_read (or_missing bool_in false d) (λ copies e. then_read (or_missing bool_in false e) (λ ignores f. unless_excluded depth (Update n p depth copies ignores)))) (or_told IsDepth depth_in (or_files recurse) depth_told c) tt (λ depth d f3.
    told_next P (OrMissing (First IsTruth) false) d (or_missing bool_in false d) (λ copies e. then_read (or_missing bool_in false e) (λ ignores f. unless_excluded depth (Update n p depth copies ignores))) (or_told IsTruth bool_in false truth_told d) tt (λ copies e f4.
    told_next P (OrMissing (First IsTruth) false) e (or_missing bool_in false e) (λ ignores f. unless_excluded depth (Update n p depth copies ignores)) (or_told IsTruth bool_in false truth_told e) tt (λ ignores f f5.
    excluded_said (full (codes "update") xs zs) depth (Update n p depth copies ignores) refl (xs, (zs, refl), (a, b, c, d, e, f, recurse, f0, f1, f2, f3, f4, f5))))))))

switch_said : (xs zs : Items) → Said (full (codes "switch") xs zs) (switch_in xs)
switch_said xs zs =
    let P : Reading → Type 0 = Said (full (codes "switch") xs zs) in
    told_next P (First (Maybe IsNumber)) xs (bracketed number_in xs) (λ n a. then_read (path_in a) (λ p b. then_read (bool_in b) (λ recurse c. then_read (text_in c) (λ url d. then_read (or_missing depth_in (or_files recurse) d) (λ depth e. then_read (or_missing bool_in false e) (λ copies f. then_read (or_missing bool_in false f) (λ ignores g. unless_excluded depth (Switch n p url depth copies ignores)))))))) (maybe_told IsNumber number_in number_told xs) tt (λ n a f0.
    told_next P (First IsPath) a (path_in a) (λ p b. then_read (bool_in b) (λ recurse c. then_read (text_in c) (λ url d. then_read (or_missing depth_in (or_files recurse) d) (λ depth e. then_read (or_missing bool_in false e) (λ copies f. then_read (or_missing bool_in false f) (λ ignores g. unless_excluded depth (Switch n p url depth copies ignores))))))) (path_told a) tt (λ p b f1.
    told_next P (First IsTruth) b (bool_in b) (λ recurse c. then_read (text_in c) (λ url d. then_read (or_missing depth_in (or_files recurse) d) (λ depth e. then_read (or_missing bool_in false e) (λ copies f. then_read (or_missing bool_in false f) (λ ignores g. unless_excluded depth (Switch n p url depth copies ignores)))))) (truth_told b) tt (λ recurse c f2.
    told_next P (First IsText) c (text_in c) (λ url d. then_read (or_missing depth_in (or_files recurse) d) (λ depth e. then_read (or_missing bool_in false e) (λ copies f. then_read (or_missing bool_in false f) (λ ignores g. unless_excluded depth (Switch n p url depth copies ignores))))) (text_told c) tt (λ url d f3.
    told_next P (OrMissing (First IsDepth) (or_files recurse)) d (or_missing depth_in (or_files recurse) d) (λ depth e. then_read (or_missing bool_in false e) (λ copies f. then_read (or_missing bool_in false f) (λ ignores g. unless_excluded depth (Switch n p url depth copies ignores)))) (or_told IsDepth depth_in (or_files recurse) depth_told d) tt (λ depth e f4.
    told_next P (OrMissing (First IsTruth) false) e (or_missing bool_in false e) (λ copies f. then_read (or_missing bool_in false f) (λ ignores g. unless_excluded depth (Switch n p url depth copies ignores))) (or_told IsTruth bool_in false truth_told e) tt (λ copies f f5.
    told_next P (OrMissing (First IsTruth) false) f (or_missing bool_in false f) (λ ignores g. unless_excluded depth (Switch n p url depth copies ignores)) (or_told IsTruth bool_in false truth_told f) tt (λ ignores g f6.
    excluded_said (full (codes "switch") xs zs) depth (Switch n p url depth copies ignores) refl (xs, (zs, refl), (a, b, c, d, e, f, g, recurse, f0, f1, f2, f3, f4, f5, f6)))))))))

status_said : (xs zs : Items) → Said (full (codes "status") xs zs) (status_in xs)
status_said xs zs =
    let P : Reading → Type 0 = Said (full (codes "status") xs zs) in
    told_next P (First IsPath) xs (path_in xs) (λ p a. then_read (bool_in a) (λ recurse b. then_read (or_missing (bracketed number_in) None b) (λ n c. then_read (or_missing depth_in (or_empty recurse) c) (λ depth d. unless_excluded depth (Status n p depth))))) (path_told xs) tt (λ p a f0.
    told_next P (First IsTruth) a (bool_in a) (λ recurse b. then_read (or_missing (bracketed number_in) None b) (λ n c. then_read (or_missing depth_in (or_empty recurse) c) (λ depth d. unless_excluded depth (Status n p depth)))) (truth_told a) tt (λ recurse b f1.
    told_next P (OrMissing (First (Maybe IsNumber)) None) b (or_missing (bracketed number_in) None b) (λ n c. then_read (or_missing depth_in (or_empty recurse) c) (λ depth d. unless_excluded depth (Status n p depth))) (or_told (Maybe IsNumber) (bracketed number_in) None (maybe_told IsNumber number_in number_told) b) tt (λ n c f2.
    told_next P (OrMissing (First IsDepth) (or_empty recurse)) c (or_missing depth_in (or_empty recurse) c) (λ depth d. unless_excluded depth (Status n p depth)) (or_told IsDepth depth_in (or_empty recurse) depth_told c) tt (λ depth d f3.
    excluded_said (full (codes "status") xs zs) depth (Status n p depth) refl (xs, (zs, refl), (a, b, c, d, recurse, f0, f1, f2, f3))))))

diff_said : (xs zs : Items) → Said (full (codes "diff") xs zs) (diff_in xs)
diff_said xs zs =
    let P : Reading → Type 0 = Said (full (codes "diff") xs zs) in
    told_next P (First (Maybe IsNumber)) xs (bracketed number_in xs) (λ n a. then_read (path_in a) (λ p b. then_read (bool_in b) (λ recurse c. then_read (bool_in c) (λ ignores d. then_read (text_in d) (λ url e. then_read (or_missing bool_in true e) (λ texts f. then_read (or_missing depth_in (or_files recurse) f) (λ depth g. unless_excluded depth (Diff n p url depth ignores texts)))))))) (maybe_told IsNumber number_in number_told xs) tt (λ n a f0.
    told_next P (First IsPath) a (path_in a) (λ p b. then_read (bool_in b) (λ recurse c. then_read (bool_in c) (λ ignores d. then_read (text_in d) (λ url e. then_read (or_missing bool_in true e) (λ texts f. then_read (or_missing depth_in (or_files recurse) f) (λ depth g. unless_excluded depth (Diff n p url depth ignores texts))))))) (path_told a) tt (λ p b f1.
    told_next P (First IsTruth) b (bool_in b) (λ recurse c. then_read (bool_in c) (λ ignores d. then_read (text_in d) (λ url e. then_read (or_missing bool_in true e) (λ texts f. then_read (or_missing depth_in (or_files recurse) f) (λ depth g. unless_excluded depth (Diff n p url depth ignores texts)))))) (truth_told b) tt (λ recurse c f2.
    told_next P (First IsTruth) c (bool_in c) (λ ignores d. then_read (text_in d) (λ url e. then_read (or_missing bool_in true e) (λ texts f. then_read (or_missing depth_in (or_files recurse) f) (λ depth g. unless_excluded depth (Diff n p url depth ignores texts))))) (truth_told c) tt (λ ignores d f3.
    told_next P (First IsText) d (text_in d) (λ url e. then_read (or_missing bool_in true e) (λ texts f. then_read (or_missing depth_in (or_files recurse) f) (λ depth g. unless_excluded depth (Diff n p url depth ignores texts)))) (text_told d) tt (λ url e f4.
    told_next P (OrMissing (First IsTruth) true) e (or_missing bool_in true e) (λ texts f. then_read (or_missing depth_in (or_files recurse) f) (λ depth g. unless_excluded depth (Diff n p url depth ignores texts))) (or_told IsTruth bool_in true truth_told e) tt (λ texts f f5.
    told_next P (OrMissing (First IsDepth) (or_files recurse)) f (or_missing depth_in (or_files recurse) f) (λ depth g. unless_excluded depth (Diff n p url depth ignores texts)) (or_told IsDepth depth_in (or_files recurse) depth_told f) tt (λ depth g f6.
    excluded_said (full (codes "diff") xs zs) depth (Diff n p url depth ignores texts) refl (xs, (zs, refl), (a, b, c, d, e, f, g, recurse, f0, f1, f2, f3, f4, f5, f6)))))))))

log_said : (xs zs : Items) → Said (full (codes "log") xs zs) (log_in xs)
log_said xs zs =
    let P : Reading → Type 0 = Said (full (codes "log") xs zs) in
    told_next P (First (Listed IsPath)) xs (each_in path_of xs) (λ ps a. then_read (bracketed number_in a) (λ start b. then_read (bracketed number_in b) (λ end c. then_read (bool_in c) (λ changed d. then_read (bool_in d) (λ strict e. then_read (or_missing number_in 0 e) (λ limit f. then_read (or_missing bool_in false f) (λ merged g. then_read (revprops_in g) (λ revprops h. Ok (Log (record { paths = ps; start = start; end = end; changed_paths = changed; strict = strict; limit = limit; merged = merged; revprops = revprops })))))))))) (paths_told xs) tt (λ ps a f0.
    told_next P (First (Maybe IsNumber)) a (bracketed number_in a) (λ start b. then_read (bracketed number_in b) (λ end c. then_read (bool_in c) (λ changed d. then_read (bool_in d) (λ strict e. then_read (or_missing number_in 0 e) (λ limit f. then_read (or_missing bool_in false f) (λ merged g. then_read (revprops_in g) (λ revprops h. Ok (Log (record { paths = ps; start = start; end = end; changed_paths = changed; strict = strict; limit = limit; merged = merged; revprops = revprops }))))))))) (maybe_told IsNumber number_in number_told a) tt (λ start b f1.
    told_next P (First (Maybe IsNumber)) b (bracketed number_in b) (λ end c. then_read (bool_in c) (λ changed d. then_read (bool_in d) (λ strict e. then_read (or_missing number_in 0 e) (λ limit f. then_read (or_missing bool_in false f) (λ merged g. then_read (revprops_in g) (λ revprops h. Ok (Log (record { paths = ps; start = start; end = end; changed_paths = changed; strict = strict; limit = limit; merged = merged; revprops = revprops })))))))) (maybe_told IsNumber number_in number_told b) tt (λ end c f2.
    told_next P (First IsTruth) c (bool_in c) (λ changed d. then_read (bool_in d) (λ strict e. then_read (or_missing number_in 0 e) (λ limit f. then_read (or_missing bool_in false f) (λ merged g. then_read (revprops_in g) (λ revprops h. Ok (Log (record { paths = ps; start = start; end = end; changed_paths = changed; strict = strict; limit = limit; merged = merged; revprops = revprops }))))))) (truth_told c) tt (λ changed d f3.
    told_next P (First IsTruth) d (bool_in d) (λ strict e. then_read (or_missing number_in 0 e) (λ limit f. then_read (or_missing bool_in false f) (λ merged g. then_read (revprops_in g) (λ revprops h. Ok (Log (record { paths = ps; start = start; end = end; changed_paths = changed; strict = strict; limit = limit; merged = merged; revprops = revprops })))))) (truth_told d) tt (λ strict e f4.
    told_next P (OrMissing (First IsNumber) 0) e (or_missing number_in 0 e) (λ limit f. then_read (or_missing bool_in false f) (λ merged g. then_read (revprops_in g) (λ revprops h. Ok (Log (record { paths = ps; start = start; end = end; changed_paths = changed; strict = strict; limit = limit; merged = merged; revprops = revprops }))))) (or_told IsNumber number_in 0 number_told e) tt (λ limit f f5.
    told_next P (OrMissing (First IsTruth) false) f (or_missing bool_in false f) (λ merged g. then_read (revprops_in g) (λ revprops h. Ok (Log (record { paths = ps; start = start; end = end; changed_paths = changed; strict = strict; limit = limit; merged = merged; revprops = revprops })))) (or_told IsTruth bool_in false truth_told f) tt (λ merged g f6.
    told_next P (IsRevpropsField) g (revprops_in g) (λ revprops h. Ok (Log (record { paths = ps; start = start; end = end; changed_paths = changed; strict = strict; limit = limit; merged = merged; revprops = revprops }))) (revprops_told g) tt (λ revprops h f7.
    (xs, (zs, refl), (a, b, c, d, e, f, g, f0, f1, f2, f3, f4, f5, f6, f7))))))))))

-- ---- by the name

name_if : (P : Reading → Type 0) (b : Bool) (here other : Reading) → (b ≡ true → P here) → (b ≡ false → P other) → P (if b then here else other)
name_if P true here other f g = f refl
name_if P false here other f g = g refl

name_is : (w k : List ℕ) (ps zs : Items) (here other : Reading) → Said (full k ps zs) here → (bytes_eq w k ≡ false → Said (full w ps zs) other)
    → Said (full w ps zs) (if bytes_eq w k then here else other)
name_is w k ps zs here other f g = name_if (Said (full w ps zs)) (bytes_eq w k) here other (λ e. subst (λ v. Said (full v ps zs) here) (sym ((bytes_eq-Decides w k).0 e)) f) g

-- none of some names
none_more : (w k : List ℕ) (ks : List (List ℕ)) → bytes_eq w k ≡ false → list_any (bytes_eq w) ks ≡ false → list_any (bytes_eq w) (k ∷ ks) ≡ false
none_more w k ks e f = ap (λ b. b || list_any (bytes_eq w) ks) e ∙ f

-- what the names behind so many come to
abbrev others12 : List ℕ → Items → Reading
others12 w ps = if bytes_eq w (codes "get-dated-rev") then dated_rev_in ps else (Err fault.UnknownCommand)

abbrev others11 : List ℕ → Items → Reading
others11 w ps = if bytes_eq w (codes "diff") then diff_in ps else (others12 w ps)

abbrev others10 : List ℕ → Items → Reading
others10 w ps = if bytes_eq w (codes "status") then status_in ps else (others11 w ps)

abbrev others9 : List ℕ → Items → Reading
others9 w ps = if bytes_eq w (codes "switch") then switch_in ps else (others10 w ps)

abbrev others8 : List ℕ → Items → Reading
others8 w ps = if bytes_eq w (codes "update") then update_in ps else (others9 w ps)

abbrev others7 : List ℕ → Items → Reading
others7 w ps = if bytes_eq w (codes "get-locks") then get_locks_in ps else (others8 w ps)

abbrev others6 : List ℕ → Items → Reading
others6 w ps = if bytes_eq w (codes "get-lock") then get_lock_in ps else (others7 w ps)

abbrev others5 : List ℕ → Items → Reading
others5 w ps = if bytes_eq w (codes "reparent") then reparent_in ps else (others6 w ps)

abbrev others4 : List ℕ → Items → Reading
others4 w ps = if bytes_eq w (codes "get-file-revs") then file_revs_in ps else (others5 w ps)

abbrev others3 : List ℕ → Items → Reading
others3 w ps = if bytes_eq w (codes "get-location-segments") then segments_in ps else (others4 w ps)

abbrev others2 : List ℕ → Items → Reading
others2 w ps = if bytes_eq w (codes "get-locations") then locations_in ps else (others3 w ps)

abbrev others1 : List ℕ → Items → Reading
others1 w ps = if bytes_eq w (codes "log") then log_in ps else (others2 w ps)

named_said : (w : List ℕ) (ps zs : Items) → is_own_name w ≡ true → Said (full w ps zs) (named w ps)
named_said w ps zs own =
    name_is w (codes "stat") ps zs (stat_in ps) (others1 w ps) (stat_said ps zs) (λ e0.
    name_is w (codes "log") ps zs (log_in ps) (others2 w ps) (log_said ps zs) (λ e1.
    name_is w (codes "get-locations") ps zs (locations_in ps) (others3 w ps) (locations_said ps zs) (λ e2.
    name_is w (codes "get-location-segments") ps zs (segments_in ps) (others4 w ps) (segments_said ps zs) (λ e3.
    name_is w (codes "get-file-revs") ps zs (file_revs_in ps) (others5 w ps) (file_revs_said ps zs) (λ e4.
    name_is w (codes "reparent") ps zs (reparent_in ps) (others6 w ps) (reparent_said ps zs) (λ e5.
    name_is w (codes "get-lock") ps zs (get_lock_in ps) (others7 w ps) (get_lock_said ps zs) (λ e6.
    name_is w (codes "get-locks") ps zs (get_locks_in ps) (others8 w ps) (get_locks_said ps zs) (λ e7.
    name_is w (codes "update") ps zs (update_in ps) (others9 w ps) (update_said ps zs) (λ e8.
    name_is w (codes "switch") ps zs (switch_in ps) (others10 w ps) (switch_said ps zs) (λ e9.
    name_is w (codes "status") ps zs (status_in ps) (others11 w ps) (status_said ps zs) (λ e10.
    name_is w (codes "diff") ps zs (diff_in ps) (others12 w ps) (diff_said ps zs) (λ e11.
    name_is w (codes "get-dated-rev") ps zs (dated_rev_in ps) (Err fault.UnknownCommand) (dated_rev_said ps zs) (λ e12.
    absurd (true≢false (sym own ∙ none_more w (codes "stat") (codes "log" ∷ codes "get-locations" ∷ codes "get-location-segments" ∷ codes "get-file-revs" ∷ codes "reparent" ∷ codes "get-lock" ∷ codes "get-locks" ∷ codes "update" ∷ codes "switch" ∷ codes "status" ∷ codes "diff" ∷ codes "get-dated-rev" ∷ []) e0 (none_more w (codes "log") (codes "get-locations" ∷ codes "get-location-segments" ∷ codes "get-file-revs" ∷ codes "reparent" ∷ codes "get-lock" ∷ codes "get-locks" ∷ codes "update" ∷ codes "switch" ∷ codes "status" ∷ codes "diff" ∷ codes "get-dated-rev" ∷ []) e1 (none_more w (codes "get-locations") (codes "get-location-segments" ∷ codes "get-file-revs" ∷ codes "reparent" ∷ codes "get-lock" ∷ codes "get-locks" ∷ codes "update" ∷ codes "switch" ∷ codes "status" ∷ codes "diff" ∷ codes "get-dated-rev" ∷ []) e2 (none_more w (codes "get-location-segments") (codes "get-file-revs" ∷ codes "reparent" ∷ codes "get-lock" ∷ codes "get-locks" ∷ codes "update" ∷ codes "switch" ∷ codes "status" ∷ codes "diff" ∷ codes "get-dated-rev" ∷ []) e3 (none_more w (codes "get-file-revs") (codes "reparent" ∷ codes "get-lock" ∷ codes "get-locks" ∷ codes "update" ∷ codes "switch" ∷ codes "status" ∷ codes "diff" ∷ codes "get-dated-rev" ∷ []) e4 (none_more w (codes "reparent") (codes "get-lock" ∷ codes "get-locks" ∷ codes "update" ∷ codes "switch" ∷ codes "status" ∷ codes "diff" ∷ codes "get-dated-rev" ∷ []) e5 (none_more w (codes "get-lock") (codes "get-locks" ∷ codes "update" ∷ codes "switch" ∷ codes "status" ∷ codes "diff" ∷ codes "get-dated-rev" ∷ []) e6 (none_more w (codes "get-locks") (codes "update" ∷ codes "switch" ∷ codes "status" ∷ codes "diff" ∷ codes "get-dated-rev" ∷ []) e7 (none_more w (codes "update") (codes "switch" ∷ codes "status" ∷ codes "diff" ∷ codes "get-dated-rev" ∷ []) e8 (none_more w (codes "switch") (codes "status" ∷ codes "diff" ∷ codes "get-dated-rev" ∷ []) e9 (none_more w (codes "status") (codes "diff" ∷ codes "get-dated-rev" ∷ []) e10 (none_more w (codes "diff") (codes "get-dated-rev" ∷ []) e11 (none_more w (codes "get-dated-rev") ([]) e12 (refl))))))))))))))))))))))))))))

own_said : (item : Item) → is_own item ≡ true → Said item (own_in item)
own_said (Nested (Then (Word w) (Then (Nested ps) zs))) e = named_said w ps zs e
own_said _ e = tt

lifted_said : (item : Item) (r : Result plain.Command WireFault) → is_own item ≡ false → commands.Said item r → Said item (lifted r)
lifted_said item (Ok c) e h = h
lifted_said item (Err wire.UnknownCommand) e h = (h, e)
lifted_said item (Err wire.ReplayForm) e h = h
lifted_said item (Err wire.BadShape) e h = tt
lifted_said item (Err wire.OutOfMemory) e h = tt

-- what an item is read as, the table has for it
pub said : (item : Item) → Said item (ask_in item)
said item = name_if (Said item) (is_own item) (own_in item) (lifted (command_in item)) (own_said item) (λ e. lifted_said item (command_in item) e (commands.said item))

-- ---- from the table to what is read

reparent_formed : (xs : Items) (url : List ℕ) (a : Items) → First IsText url xs a → reparent_in xs ≡ Ok (Reparent url)
reparent_formed xs url a f = ap (λ r. then_read r (λ url a. Ok (Reparent url))) (text_back url xs a f)

dated_rev_formed : (xs : Items) (date : List ℕ) (a : Items) → First IsText date xs a → dated_rev_in xs ≡ Ok (DatedRev date)
dated_rev_formed xs date a f = ap (λ r. then_read r (λ date a. Ok (DatedRev date))) (text_back date xs a f)

get_lock_formed : (xs : Items) (p : Path) (a : Items) → First IsPath p xs a → get_lock_in xs ≡ Ok (GetLock p)
get_lock_formed xs p a f = ap (λ r. then_read r (λ p a. Ok (GetLock p))) (path_back p xs a f)

get_locks_formed : (xs : Items) (p : Path) (d : DepthWord) → AreLocks p d xs → get_locks_in xs ≡ unless_excluded d (GetLocks p d)
get_locks_formed xs p d f =
    ap (λ r. then_read r (λ p a. then_read (or_missing (bracketed depth_in) None a) (λ o b. unless_excluded (or_all o) (GetLocks p (or_all o))))) (path_back p xs f.0 f.3)
    ∙ ap (λ r. then_read r (λ o b. unless_excluded (or_all o) (GetLocks p (or_all o)))) (or_back (Maybe IsDepth) (bracketed depth_in) None (maybe_back IsDepth depth_in depth_back) f.2 f.0 f.1 f.4)
    ∙ ap (λ k. unless_excluded k (GetLocks p k)) (sym f.5)

stat_formed : (xs : Items) (p : Path) (n : Option ℕ) → IsStat p n xs → stat_in xs ≡ Ok (Stat p n)
stat_formed xs p n f =
    ap (λ r. then_read r (λ p a. then_read (bracketed number_in a) (λ n b. Ok (Stat p n)))) (path_back p xs f.0 f.2)
    ∙ ap (λ r. then_read r (λ n b. Ok (Stat p n))) (maybe_back IsNumber number_in number_back n f.0 f.1 f.3)

locations_formed : (xs : Items) (p : Path) (peg : ℕ) (ns : List ℕ) → AreLocations p peg ns xs → locations_in xs ≡ Ok (Locations p peg ns)
locations_formed xs p peg ns f =
    ap (λ r. then_read r (λ p a. then_read (number_in a) (λ peg b. then_read (each_in number_of b) (λ ns c. Ok (Locations p peg ns))))) (path_back p xs f.0 f.3)
    ∙ ap (λ r. then_read r (λ peg b. then_read (each_in number_of b) (λ ns c. Ok (Locations p peg ns)))) (number_back peg f.0 f.1 f.4)
    ∙ ap (λ r. then_read r (λ ns c. Ok (Locations p peg ns))) (numbers_back ns f.1 f.2 f.5)

segments_formed : (xs : Items) (p : Path) (peg : Option ℕ) (start : Option ℕ) (end : Option ℕ) → AreSegments p peg start end xs → segments_in xs ≡ Ok (Segments p peg start end)
segments_formed xs p peg start end f =
    ap (λ r. then_read r (λ p a. then_read (bracketed number_in a) (λ peg b. then_read (bracketed number_in b) (λ start c. then_read (bracketed number_in c) (λ end d. Ok (Segments p peg start end)))))) (path_back p xs f.0 f.4)
    ∙ ap (λ r. then_read r (λ peg b. then_read (bracketed number_in b) (λ start c. then_read (bracketed number_in c) (λ end d. Ok (Segments p peg start end))))) (maybe_back IsNumber number_in number_back peg f.0 f.1 f.5)
    ∙ ap (λ r. then_read r (λ start c. then_read (bracketed number_in c) (λ end d. Ok (Segments p peg start end)))) (maybe_back IsNumber number_in number_back start f.1 f.2 f.6)
    ∙ ap (λ r. then_read r (λ end d. Ok (Segments p peg start end))) (maybe_back IsNumber number_in number_back end f.2 f.3 f.7)

file_revs_formed : (xs : Items) (p : Path) (start : Option ℕ) (end : Option ℕ) (merged : Bool) → AreFileRevs p start end merged xs → file_revs_in xs ≡ Ok (FileRevs p start end merged)
file_revs_formed xs p start end merged f =
    ap (λ r. then_read r (λ p a. then_read (bracketed number_in a) (λ start b. then_read (bracketed number_in b) (λ end c. then_read (or_missing bool_in false c) (λ merged d. Ok (FileRevs p start end merged)))))) (path_back p xs f.0 f.4)
    ∙ ap (λ r. then_read r (λ start b. then_read (bracketed number_in b) (λ end c. then_read (or_missing bool_in false c) (λ merged d. Ok (FileRevs p start end merged))))) (maybe_back IsNumber number_in number_back start f.0 f.1 f.5)
    ∙ ap (λ r. then_read r (λ end c. then_read (or_missing bool_in false c) (λ merged d. Ok (FileRevs p start end merged)))) (maybe_back IsNumber number_in number_back end f.1 f.2 f.6)
    ∙ ap (λ r. then_read r (λ merged d. Ok (FileRevs p start end merged))) (or_back IsTruth bool_in false truth_back merged f.2 f.3 f.7)

update_formed : (xs : Items) (n : Option ℕ) (p : Path) (depth : DepthWord) (copies : Bool) (ignores : Bool) → IsUpdate n p depth copies ignores xs → update_in xs ≡ unless_excluded depth (Update n p depth copies ignores)
update_formed xs n p depth copies ignores f =
    let recurse = f.6 in
    ap (λ r. then_read r (λ n a. then_read (path_in a) (λ p b. then_read (bool_in b) (λ recurse c. then_read (or_missing depth_in (or_files recurse) c) (λ depth d. then_read (or_missing bool_in false d) (λ copies e. then_read (or_missing bool_in false e) (λ ignores f. unless_excluded depth (Update n p depth copies ignores)))))))) (maybe_back IsNumber number_in number_back n xs f.0 f.7)
    ∙ ap (λ r. then_read r (λ p b. then_read (bool_in b) (λ recurse c. then_read (or_missing depth_in (or_files recurse) c) (λ depth d. then_read (or_missing bool_in false d) (λ copies e. then_read (or_missing bool_in false e) (λ ignores f. unless_excluded depth (Update n p depth copies ignores))))))) (path_back p f.0 f.1 f.8)
    ∙ ap (λ r. then_read r (λ recurse c. then_read (or_missing depth_in (or_files recurse) c) (λ depth d. then_read (or_missing bool_in false d) (λ copies e. then_read (or_missing bool_in false e) (λ ignores f. unless_excluded depth (Update n p depth copies ignores)))))) (truth_back recurse f.1 f.2 f.9)
    ∙ ap (λ r. then_read r (λ depth d. then_read (or_missing bool_in false d) (λ copies e. then_read (or_missing bool_in false e) (λ ignores f. unless_excluded depth (Update n p depth copies ignores))))) (or_back IsDepth depth_in (or_files recurse) depth_back depth f.2 f.3 f.10)
    ∙ ap (λ r. then_read r (λ copies e. then_read (or_missing bool_in false e) (λ ignores f. unless_excluded depth (Update n p depth copies ignores)))) (or_back IsTruth bool_in false truth_back copies f.3 f.4 f.11)
    ∙ ap (λ r. then_read r (λ ignores f. unless_excluded depth (Update n p depth copies ignores))) (or_back IsTruth bool_in false truth_back ignores f.4 f.5 f.12)

switch_formed : (xs : Items) (n : Option ℕ) (p : Path) (url : List ℕ) (depth : DepthWord) (copies : Bool) (ignores : Bool) → IsSwitch n p url depth copies ignores xs → switch_in xs ≡ unless_excluded depth (Switch n p url depth copies ignores)
switch_formed xs n p url depth copies ignores f =
    let recurse = f.7 in
    ap (λ r. then_read r (λ n a. then_read (path_in a) (λ p b. then_read (bool_in b) (λ recurse c. then_read (text_in c) (λ url d. then_read (or_missing depth_in (or_files recurse) d) (λ depth e. then_read (or_missing bool_in false e) (λ copies f. then_read (or_missing bool_in false f) (λ ignores g. unless_excluded depth (Switch n p url depth copies ignores))))))))) (maybe_back IsNumber number_in number_back n xs f.0 f.8)
    ∙ ap (λ r. then_read r (λ p b. then_read (bool_in b) (λ recurse c. then_read (text_in c) (λ url d. then_read (or_missing depth_in (or_files recurse) d) (λ depth e. then_read (or_missing bool_in false e) (λ copies f. then_read (or_missing bool_in false f) (λ ignores g. unless_excluded depth (Switch n p url depth copies ignores)))))))) (path_back p f.0 f.1 f.9)
    ∙ ap (λ r. then_read r (λ recurse c. then_read (text_in c) (λ url d. then_read (or_missing depth_in (or_files recurse) d) (λ depth e. then_read (or_missing bool_in false e) (λ copies f. then_read (or_missing bool_in false f) (λ ignores g. unless_excluded depth (Switch n p url depth copies ignores))))))) (truth_back recurse f.1 f.2 f.10)
    ∙ ap (λ r. then_read r (λ url d. then_read (or_missing depth_in (or_files recurse) d) (λ depth e. then_read (or_missing bool_in false e) (λ copies f. then_read (or_missing bool_in false f) (λ ignores g. unless_excluded depth (Switch n p url depth copies ignores)))))) (text_back url f.2 f.3 f.11)
    ∙ ap (λ r. then_read r (λ depth e. then_read (or_missing bool_in false e) (λ copies f. then_read (or_missing bool_in false f) (λ ignores g. unless_excluded depth (Switch n p url depth copies ignores))))) (or_back IsDepth depth_in (or_files recurse) depth_back depth f.3 f.4 f.12)
    ∙ ap (λ r. then_read r (λ copies f. then_read (or_missing bool_in false f) (λ ignores g. unless_excluded depth (Switch n p url depth copies ignores)))) (or_back IsTruth bool_in false truth_back copies f.4 f.5 f.13)
    ∙ ap (λ r. then_read r (λ ignores g. unless_excluded depth (Switch n p url depth copies ignores))) (or_back IsTruth bool_in false truth_back ignores f.5 f.6 f.14)

status_formed : (xs : Items) (n : Option ℕ) (p : Path) (depth : DepthWord) → IsStatus n p depth xs → status_in xs ≡ unless_excluded depth (Status n p depth)
status_formed xs n p depth f =
    let recurse = f.4 in
    ap (λ r. then_read r (λ p a. then_read (bool_in a) (λ recurse b. then_read (or_missing (bracketed number_in) None b) (λ n c. then_read (or_missing depth_in (or_empty recurse) c) (λ depth d. unless_excluded depth (Status n p depth)))))) (path_back p xs f.0 f.5)
    ∙ ap (λ r. then_read r (λ recurse b. then_read (or_missing (bracketed number_in) None b) (λ n c. then_read (or_missing depth_in (or_empty recurse) c) (λ depth d. unless_excluded depth (Status n p depth))))) (truth_back recurse f.0 f.1 f.6)
    ∙ ap (λ r. then_read r (λ n c. then_read (or_missing depth_in (or_empty recurse) c) (λ depth d. unless_excluded depth (Status n p depth)))) (or_back (Maybe IsNumber) (bracketed number_in) None (maybe_back IsNumber number_in number_back) n f.1 f.2 f.7)
    ∙ ap (λ r. then_read r (λ depth d. unless_excluded depth (Status n p depth))) (or_back IsDepth depth_in (or_empty recurse) depth_back depth f.2 f.3 f.8)

diff_formed : (xs : Items) (n : Option ℕ) (p : Path) (url : List ℕ) (depth : DepthWord) (ignores : Bool) (texts : Bool) → IsDiff n p url depth ignores texts xs → diff_in xs ≡ unless_excluded depth (Diff n p url depth ignores texts)
diff_formed xs n p url depth ignores texts f =
    let recurse = f.7 in
    ap (λ r. then_read r (λ n a. then_read (path_in a) (λ p b. then_read (bool_in b) (λ recurse c. then_read (bool_in c) (λ ignores d. then_read (text_in d) (λ url e. then_read (or_missing bool_in true e) (λ texts f. then_read (or_missing depth_in (or_files recurse) f) (λ depth g. unless_excluded depth (Diff n p url depth ignores texts))))))))) (maybe_back IsNumber number_in number_back n xs f.0 f.8)
    ∙ ap (λ r. then_read r (λ p b. then_read (bool_in b) (λ recurse c. then_read (bool_in c) (λ ignores d. then_read (text_in d) (λ url e. then_read (or_missing bool_in true e) (λ texts f. then_read (or_missing depth_in (or_files recurse) f) (λ depth g. unless_excluded depth (Diff n p url depth ignores texts)))))))) (path_back p f.0 f.1 f.9)
    ∙ ap (λ r. then_read r (λ recurse c. then_read (bool_in c) (λ ignores d. then_read (text_in d) (λ url e. then_read (or_missing bool_in true e) (λ texts f. then_read (or_missing depth_in (or_files recurse) f) (λ depth g. unless_excluded depth (Diff n p url depth ignores texts))))))) (truth_back recurse f.1 f.2 f.10)
    ∙ ap (λ r. then_read r (λ ignores d. then_read (text_in d) (λ url e. then_read (or_missing bool_in true e) (λ texts f. then_read (or_missing depth_in (or_files recurse) f) (λ depth g. unless_excluded depth (Diff n p url depth ignores texts)))))) (truth_back ignores f.2 f.3 f.11)
    ∙ ap (λ r. then_read r (λ url e. then_read (or_missing bool_in true e) (λ texts f. then_read (or_missing depth_in (or_files recurse) f) (λ depth g. unless_excluded depth (Diff n p url depth ignores texts))))) (text_back url f.3 f.4 f.12)
    ∙ ap (λ r. then_read r (λ texts f. then_read (or_missing depth_in (or_files recurse) f) (λ depth g. unless_excluded depth (Diff n p url depth ignores texts)))) (or_back IsTruth bool_in true truth_back texts f.4 f.5 f.13)
    ∙ ap (λ r. then_read r (λ depth g. unless_excluded depth (Diff n p url depth ignores texts))) (or_back IsDepth depth_in (or_files recurse) depth_back depth f.5 f.6 f.14)

log_formed : (xs : Items) (l : LogAsk) → IsLog l xs → log_in xs ≡ Ok (Log l)
log_formed xs l f =
    let ps = l.paths in
    let start = l.start in
    let end = l.end in
    let changed = l.changed_paths in
    let strict = l.strict in
    let limit = l.limit in
    let merged = l.merged in
    ap (λ r. then_read r (λ ps a. then_read (bracketed number_in a) (λ start b. then_read (bracketed number_in b) (λ end c. then_read (bool_in c) (λ changed d. then_read (bool_in d) (λ strict e. then_read (or_missing number_in 0 e) (λ limit f. then_read (or_missing bool_in false f) (λ merged g. then_read (revprops_in g) (λ revprops h. Ok (Log (record { paths = ps; start = start; end = end; changed_paths = changed; strict = strict; limit = limit; merged = merged; revprops = revprops }))))))))))) (paths_back l.paths xs f.0 f.7)
    ∙ ap (λ r. then_read r (λ start b. then_read (bracketed number_in b) (λ end c. then_read (bool_in c) (λ changed d. then_read (bool_in d) (λ strict e. then_read (or_missing number_in 0 e) (λ limit f. then_read (or_missing bool_in false f) (λ merged g. then_read (revprops_in g) (λ revprops h. Ok (Log (record { paths = ps; start = start; end = end; changed_paths = changed; strict = strict; limit = limit; merged = merged; revprops = revprops })))))))))) (maybe_back IsNumber number_in number_back l.start f.0 f.1 f.8)
    ∙ ap (λ r. then_read r (λ end c. then_read (bool_in c) (λ changed d. then_read (bool_in d) (λ strict e. then_read (or_missing number_in 0 e) (λ limit f. then_read (or_missing bool_in false f) (λ merged g. then_read (revprops_in g) (λ revprops h. Ok (Log (record { paths = ps; start = start; end = end; changed_paths = changed; strict = strict; limit = limit; merged = merged; revprops = revprops }))))))))) (maybe_back IsNumber number_in number_back l.end f.1 f.2 f.9)
    ∙ ap (λ r. then_read r (λ changed d. then_read (bool_in d) (λ strict e. then_read (or_missing number_in 0 e) (λ limit f. then_read (or_missing bool_in false f) (λ merged g. then_read (revprops_in g) (λ revprops h. Ok (Log (record { paths = ps; start = start; end = end; changed_paths = changed; strict = strict; limit = limit; merged = merged; revprops = revprops })))))))) (truth_back l.changed_paths f.2 f.3 f.10)
    ∙ ap (λ r. then_read r (λ strict e. then_read (or_missing number_in 0 e) (λ limit f. then_read (or_missing bool_in false f) (λ merged g. then_read (revprops_in g) (λ revprops h. Ok (Log (record { paths = ps; start = start; end = end; changed_paths = changed; strict = strict; limit = limit; merged = merged; revprops = revprops }))))))) (truth_back l.strict f.3 f.4 f.11)
    ∙ ap (λ r. then_read r (λ limit f. then_read (or_missing bool_in false f) (λ merged g. then_read (revprops_in g) (λ revprops h. Ok (Log (record { paths = ps; start = start; end = end; changed_paths = changed; strict = strict; limit = limit; merged = merged; revprops = revprops })))))) (or_back IsNumber number_in 0 number_back l.limit f.4 f.5 f.12)
    ∙ ap (λ r. then_read r (λ merged g. then_read (revprops_in g) (λ revprops h. Ok (Log (record { paths = ps; start = start; end = end; changed_paths = changed; strict = strict; limit = limit; merged = merged; revprops = revprops }))))) (or_back IsTruth bool_in false truth_back l.merged f.5 f.6 f.13)
    ∙ ap (λ r. then_read r (λ revprops h. Ok (Log (record { paths = ps; start = start; end = end; changed_paths = changed; strict = strict; limit = limit; merged = merged; revprops = revprops })))) (revprops_back l.revprops f.6 f.14)

-- an item of a command that needs nothing of this crate has none of these names
plain_name : (c : plain.Command) (item : Item) → plain.Forms c item → is_own item ≡ false
plain_name plain.LatestRev item f = ap is_own f.1.1
plain_name (plain.CheckPath p n) item f = ap is_own f.1.1
plain_name (plain.GetFile p n props contents) item f = ap is_own f.1.1
plain_name (plain.GetDir p n props contents) item f = ap is_own f.1.1.1
plain_name (plain.RevProplist n) item f = ap is_own f.1.1
plain_name (plain.RevProp n name) item f = ap is_own f.1.1
plain_name (plain.ChangeProp n name v old) item (inl f) = ap is_own f.1.1
plain_name (plain.ChangeProp n name v old) item (inr f) = ap is_own f.1.1.1
plain_name (plain.Replay n) item f = ap is_own f.1.1
plain_name (plain.ReplayRange a b) item f = ap is_own f.1.1

otherwise : (item : Item) → is_own item ≡ false → ask_in item ≡ lifted (command_in item)
otherwise item e = ap (λ b. if b then own_in item else lifted (command_in item)) e

-- an item of a command is read as that command
pub formed : (a : Ask) (item : Item) → Forms a item → ask_in item ≡ unless_excluded (depth_of a) a
formed (Plain c) item f = otherwise item (plain_name c item f) ∙ ap lifted (commands.formed c item f)
formed (Stat p n) item f = ap ask_in f.1.1 ∙ stat_formed f.0 p n f.2
formed (Log l) item f = ap ask_in f.1.1 ∙ log_formed f.0 l f.2
formed (Locations p peg ns) item f = ap ask_in f.1.1 ∙ locations_formed f.0 p peg ns f.2
formed (Segments p peg start end) item f = ap ask_in f.1.1 ∙ segments_formed f.0 p peg start end f.2
formed (FileRevs p start end merged) item f = ap ask_in f.1.1 ∙ file_revs_formed f.0 p start end merged f.2
formed (Reparent url) item f = ap ask_in f.1.1 ∙ reparent_formed f.0 url f.2.0 f.2.1
formed (GetLock p) item f = ap ask_in f.1.1 ∙ get_lock_formed f.0 p f.2.0 f.2.1
formed (GetLocks p d) item f = ap ask_in f.1.1 ∙ get_locks_formed f.0 p d f.2
formed (Update n p d copies ignores) item f = ap ask_in f.1.1 ∙ update_formed f.0 n p d copies ignores f.2
formed (Switch n p url d copies ignores) item f = ap ask_in f.1.1 ∙ switch_formed f.0 n p url d copies ignores f.2
formed (Status n p d) item f = ap ask_in f.1.1 ∙ status_formed f.0 n p d f.2
formed (Diff n p url d ignores texts) item f = ap ask_in f.1.1 ∙ diff_formed f.0 n p url d ignores texts f.2
formed (DatedRev date) item f = ap ask_in f.1.1 ∙ dated_rev_formed f.0 date f.2.0 f.2.1

-- ---- what is refused

pub unknown : (item : Item) → IsUnknown item → ask_in item ≡ Err fault.UnknownCommand
unknown item u = otherwise item u.1 ∙ ap lifted (commands.unknown item u.0)

replay_name : (a b low : ℕ) (deltas : Bool) (item : Item)
    → plain.Asks (codes "replay") (plain.Begin (plain.ANumber a ∷ plain.ANumber low ∷ plain.ATruth deltas ∷ [])) item ⊎ plain.Asks (codes "replay-range") (plain.Begin (plain.ANumber a ∷ plain.ANumber b ∷ plain.ANumber low ∷ plain.ATruth deltas ∷ [])) item
    → is_own item ≡ false
replay_name a b low deltas item (inl f) = ap is_own f.1.1
replay_name a b low deltas item (inr f) = ap is_own f.1.1

other_replay : (item : Item) → plain.IsOtherReplay item → ask_in item ≡ Err fault.ReplayForm
other_replay item o = otherwise item (replay_name o.0 o.1 o.2 o.3 item o.5) ∙ ap lifted (commands.other_replay item o)

bad_is_none : (d : DepthWord) (a : Ask) → ◌≡◌ {A = Reading} (Err fault.BadShape) (unless_excluded d a) → ⊥
bad_is_none (said_depth.Known k) a e = cc
bad_is_none said_depth.AsReported a e = cc
bad_is_none said_depth.Excluded a e = cc

bad_is_known : ◌≡◌ {A = Reading} (Err fault.BadShape) (Err fault.UnknownCommand) → ⊥
bad_is_known e = cc

bad_is_no_replay : ◌≡◌ {A = Reading} (Err fault.BadShape) (Err fault.ReplayForm) → ⊥
bad_is_no_replay e = cc

-- what a call took an item for, by what it read
pub judged : (item : Item) (r : Result declared.BrowseCommand BrowseFault) → ReadIs ask_as r (ask_in item) → Judged item r
judged item (Ok c) e = subst (Said item) e (said item)
judged item (Err fault.UnknownCommand) e = subst (Said item) e (said item)
judged item (Err fault.ReplayForm) e = subst (Said item) e (said item)
judged item (Err fault.ExcludedDepth) e = subst (Said item) e (said item)
judged item (Err fault.BadShape) e = record {
  no_ask = λ a f. bad_is_none (depth_of a) a (sym e ∙ formed a item f);
  known = λ u. bad_is_known (sym e ∙ unknown item u);
  no_replay = λ o. bad_is_no_replay (sym e ∙ other_replay item o);
}
judged item (Err fault.OutOfMemory) e = tt

-- ---- laws

same_ask : (d e : DepthWord) (a b : Ask) → (d ≡ said_depth.Excluded → ⊥) → ◌≡◌ {A = Reading} (unless_excluded d a) (unless_excluded e b) → a ≡ b
same_ask said_depth.Excluded e a b n h = absurd (n refl)
same_ask (said_depth.Known k) (said_depth.Known l) a b n h = cc
same_ask (said_depth.Known k) said_depth.AsReported a b n h = cc
same_ask (said_depth.Known k) said_depth.Excluded a b n h = cc
same_ask said_depth.AsReported (said_depth.Known l) a b n h = cc
same_ask said_depth.AsReported said_depth.AsReported a b n h = cc
same_ask said_depth.AsReported said_depth.Excluded a b n h = cc

-- an item is one command at most
pub one_ask : (a b : Ask) (item : Item) → Forms a item → Forms b item → (depth_of a ≡ said_depth.Excluded → ⊥) → a ≡ b
one_ask a b item f g n = same_ask (depth_of a) (depth_of b) a b n (sym (formed a item f) ∙ formed b item g)
