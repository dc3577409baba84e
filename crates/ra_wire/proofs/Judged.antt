-- Each item is read as the command that the table has for it, and what isn't read is none.
use Rattle.std.proofs.Common.{◌≡◌, ℕ, Bool, true, false, List, [], ◌∷◌, ap, subst, sym, ◌∙◌, refl, inl, inr, true≢false}
use Rattle.std.specs.Prelude.{◌⊎◌, ◌&&◌, ◌||◌, ◌==◌, Option, Some, None, Result, Ok, Err, codes, if◌then◌else◌}
use Rattle.std.specs.Option.{option_map, option_and_then}
use Rattle.std.specs.List.{list_any}
use Rattle.std.specs.Str.{bytes_eq}
use Rattle.std.proofs.lemmas.Slice.Eq.{bytes_eq-Decides}
use Rattle.std.proofs.lemmas.Bool.{eqb-true}
use Rattle.ra_item.specs.Items.{Item, Items, End, Then, Word, Number, Text, Nested}
use Rattle.node_base.specs.Path.{Path, Name}
use Rattle.node_base.specs.PathText.{path_read}
use Rattle.node_base.specs.Props.{prop_name_read}
use Rattle.ra_wire.specs.declared.fault.WireFault.{WireFault}
use Rattle.ra_wire.specs.declared.fault.WireFault.TheVariants as fault
use Rattle.ra_wire.specs.declared.command.Command as declared
use Rattle.ra_wire.specs.Params.{Read, text_in, number_in, list_in, bool_in, path_in, prop_name_in, bracketed, perhaps, right, unslashed}
use Rattle.ra_wire.specs.Commands.{Previous, Any, Absent, Value, Command, LatestRev, CheckPath, GetFile, GetDir, RevProplist, RevProp, ChangeProp, Replay, ReplayRange, ANumber, AText, APath, AName, ATruth, AList, Replacing, Replaces, First, Begin, Are, AndPerhaps, optional, Asks, perhaps_list, looked_at, Forms, names, IsUnknown, IsOtherReplay, Judged}
use Rattle.ra_wire.specs.Reading.{Reading, then_read, last_read, replayed, previous_of, previous_in, check_path_in, get_file_in, get_dir_in, rev_proplist_in, rev_prop_in, change_rev_prop_in, change_rev_prop2_in, replay_in, replay_range_in, named, command_in, ReadIs}

-- what was read is such a one
abbrev pub Said : Item → Reading → Type 0
Said item (Ok c) = Forms c item
Said item (Err fault.UnknownCommand) = IsUnknown item
Said item (Err fault.ReplayForm) = IsOtherReplay item
Said item (Err fault.BadShape) = Unit {0}
Said item (Err fault.OutOfMemory) = Unit {0}

-- ---- from what is read to the table, place by place

number_next : (P : Reading → Type 0) (xs : Items) (next : ℕ → Items → Reading) → P (Err fault.BadShape)
    → ((n : ℕ) (ys : Items) → ((Q : Items → Type 0) → Q ys → First (ANumber n) Q xs) → P (next n ys)) → P (then_read (number_in xs) next)
number_next P (Then (Number n) ys) next bad good = good n ys (λ Q q. (refl, q))
number_next P _ next bad good = bad

right_next : {T E : Type 0} (P : Reading → Type 0) (r : Result T E) (ys : Items) (next : T → Items → Reading) → P (Err fault.BadShape)
    → ((x : T) → r ≡ Ok x → P (next x ys)) → P (then_read (right r ys) next)
right_next P (Ok x) ys next bad good = good x refl
right_next P (Err e) ys next bad good = bad

path_next : (P : Reading → Type 0) (xs : Items) (next : Path → Items → Reading) → P (Err fault.BadShape)
    → ((p : Path) (ys : Items) → ((Q : Items → Type 0) → Q ys → First (APath p) Q xs) → P (next p ys)) → P (then_read (path_in xs) next)
path_next P (Then (Text t) ys) next bad good = right_next P (path_read (unslashed t)) ys next bad (λ p e. good p ys (λ Q q. ((t, refl, e), q)))
path_next P _ next bad good = bad

name_next : (P : Reading → Type 0) (xs : Items) (next : Name → Items → Reading) → P (Err fault.BadShape)
    → ((n : Name) (ys : Items) → ((Q : Items → Type 0) → Q ys → First (AName n) Q xs) → P (next n ys)) → P (then_read (prop_name_in xs) next)
name_next P (Then (Text t) ys) next bad good = right_next P (prop_name_read t) ys next bad (λ n e. good n ys (λ Q q. ((t, refl, e), q)))
name_next P _ next bad good = bad

-- one of the two words, by two tests
abbrev truth_if : Bool → Bool → Items → Read Bool
truth_if p q xs = if p then Some (true, xs) else if q then Some (false, xs) else None

truth_cases : (P : Reading → Type 0) (w : List ℕ) (ys : Items) (next : Bool → Items → Reading) (p q : Bool)
    → (p ≡ true → w ≡ codes "true") → (q ≡ true → w ≡ codes "false") → P (Err fault.BadShape)
    → ((b : Bool) → ((Q : Items → Type 0) → Q ys → First (ATruth b) Q (Then (Word w) ys)) → P (next b ys)) → P (then_read (truth_if p q ys) next)
truth_cases P w ys next true q f g bad good = good true (λ Q r. (ap Word (f refl), r))
truth_cases P w ys next false true f g bad good = good false (λ Q r. (ap Word (g refl), r))
truth_cases P w ys next false false f g bad good = bad

truth_next : (P : Reading → Type 0) (xs : Items) (next : Bool → Items → Reading) → P (Err fault.BadShape)
    → ((b : Bool) (ys : Items) → ((Q : Items → Type 0) → Q ys → First (ATruth b) Q xs) → P (next b ys)) → P (then_read (bool_in xs) next)
truth_next P (Then (Word w) ys) next bad good = truth_cases P w ys next (bytes_eq w (codes "true")) (bytes_eq w (codes "false")) (bytes_eq-Decides w (codes "true")).0 (bytes_eq-Decides w (codes "false")).0 bad (λ b. good b ys)
truth_next P _ next bad good = bad

number_maybe : (P : Reading → Type 0) (xs : Items) (next : Option ℕ → Items → Reading) → P (Err fault.BadShape)
    → ((n : Option ℕ) (ys : Items) → ((Q : Items → Type 0) → Q ys → First (optional (option_map ANumber n)) Q xs) → P (next n ys)) → P (then_read (bracketed number_in xs) next)
number_maybe P (Then (Nested End) ys) next bad good = good None ys (λ Q q. (refl, q))
number_maybe P (Then (Nested (Then (Number n) more)) ys) next bad good = good (Some n) ys (λ Q q. ((Number n, more, refl, refl), q))
number_maybe P _ next bad good = bad

text_maybe : (P : Reading → Type 0) (xs : Items) (next : Option (List ℕ) → Items → Reading) → P (Err fault.BadShape)
    → ((v : Option (List ℕ)) (ys : Items) → ((Q : Items → Type 0) → Q ys → First (optional (option_map AText v)) Q xs) → P (next v ys)) → P (then_read (bracketed text_in xs) next)
text_maybe P (Then (Nested End) ys) next bad good = good None ys (λ Q q. (refl, q))
text_maybe P (Then (Nested (Then (Text t) more)) ys) next bad good = good (Some t) ys (λ Q q. ((Text t, more, refl, refl), q))
text_maybe P _ next bad good = bad

text_last : (P : Reading → Type 0) (xs : Items) (next : Option (List ℕ) → Reading) → P (Err fault.BadShape)
    → (xs ≡ End → P (next None)) → ((t : List ℕ) → Begin (AText t ∷ []) xs → P (next (Some t))) → P (last_read (perhaps text_in xs) next)
text_last P End next bad none some = none refl
text_last P (Then (Text t) more) next bad none some = some t (refl, tt)
text_last P _ next bad none some = bad

list_last : (P : Reading → Type 0) (xs : Items) (next : Reading) → P (Err fault.BadShape)
    → (xs ≡ End → P next) → (Begin (AList ∷ []) xs → P next) → P (last_read (perhaps list_in xs) (λ fields. next))
list_last P End next bad none some = none refl
list_last P (Then (Nested ys) more) next bad none some = some ((ys, refl), tt)
list_last P _ next bad none some = bad

-- what a change replaces
abbrev previous_behind : Read Bool → Option Previous
previous_behind b = option_and_then (λ r. option_and_then (previous_of r.0) (perhaps text_in r.1)) b

replaced_cases : (P : Reading → Type 0) (w : List ℕ) (rest : Items) (next : Previous → Reading) (p q : Bool)
    → (p ≡ true → w ≡ codes "true") → (q ≡ true → w ≡ codes "false") → P (Err fault.BadShape)
    → ((old : Previous) → Replaces old (Then (Word w) rest) → P (next old)) → P (last_read (previous_behind (truth_if p q rest)) next)
replaced_cases P w End next true q f g bad good = good Any (ap (λ k. Then (Word k) End) (f refl))
replaced_cases P w (Then (Text t) more) next true q f g bad good = bad
replaced_cases P w (Then (Word v) more) next true q f g bad good = bad
replaced_cases P w (Then (Number n) more) next true q f g bad good = bad
replaced_cases P w (Then (Nested ys) more) next true q f g bad good = bad
replaced_cases P w End next false true f g bad good = good Absent (ap (λ k. Then (Word k) End) (g refl))
replaced_cases P w (Then (Text t) more) next false true f g bad good = good (Value t) (more, ap (λ k. Then (Word k) (Then (Text t) more)) (g refl))
replaced_cases P w (Then (Word v) more) next false true f g bad good = bad
replaced_cases P w (Then (Number n) more) next false true f g bad good = bad
replaced_cases P w (Then (Nested ys) more) next false true f g bad good = bad
replaced_cases P w rest next false false f g bad good = bad

replaced_in : (P : Reading → Type 0) (inner : Items) (next : Previous → Reading) → P (Err fault.BadShape)
    → ((old : Previous) → Replaces old inner → P (next old)) → P (last_read (previous_in inner) next)
replaced_in P (Then (Word w) rest) next bad good = replaced_cases P w rest next (bytes_eq w (codes "true")) (bytes_eq w (codes "false")) (bytes_eq-Decides w (codes "true")).0 (bytes_eq-Decides w (codes "false")).0 bad good
replaced_in P _ next bad good = bad

replacing_next : (P : Reading → Type 0) (us : Items) (next : Previous → Reading) → P (Err fault.BadShape)
    → ((old : Previous) → Begin (Replacing old ∷ []) us → P (next old)) → P (then_read (list_in us) (λ inner vs. last_read (previous_in inner) next))
replacing_next P (Then (Nested inner) vs) next bad good = replaced_in P inner next bad (λ old r. good old ((inner, refl, r), tt))
replacing_next P _ next bad good = bad

-- ---- the same command by command

-- a name, parameters, and what is ignored
abbrev pub full : List ℕ → Items → Items → Item
full w ps zs = Nested (Then (Word w) (Then (Nested ps) zs))

asked : (w : List ℕ) (ps zs : Items) (Q : Items → Type 0) → Q ps → Asks w Q (full w ps zs)
asked w ps zs Q q = (ps, (zs, refl), q)

check_path_said : (ps zs : Items) → Said (full (codes "check-path") ps zs) (check_path_in ps)
check_path_said ps zs =
    let P : Reading → Type 0 = Said (full (codes "check-path") ps zs) in
    path_next P ps (λ p ys. then_read (bracketed number_in ys) (λ n us. Ok (CheckPath p n))) tt
    (λ p ys f. number_maybe P ys (λ n us. Ok (CheckPath p n)) tt
    (λ n us g. asked (codes "check-path") ps zs (Begin (APath p ∷ optional (option_map ANumber n) ∷ [])) (f (Begin (optional (option_map ANumber n) ∷ [])) (g (Begin []) tt))))

get_file_said : (ps zs : Items) → Said (full (codes "get-file") ps zs) (get_file_in ps)
get_file_said ps zs =
    let P : Reading → Type 0 = Said (full (codes "get-file") ps zs) in
    path_next P ps (λ p ys. then_read (bracketed number_in ys) (λ n zs. then_read (bool_in zs) (λ props us. then_read (bool_in us) (λ contents vs. Ok (GetFile p n props contents))))) tt
    (λ p ys f. number_maybe P ys (λ n zs. then_read (bool_in zs) (λ props us. then_read (bool_in us) (λ contents vs. Ok (GetFile p n props contents)))) tt
    (λ n us g. truth_next P us (λ props us. then_read (bool_in us) (λ contents vs. Ok (GetFile p n props contents))) tt
    (λ props vs h. truth_next P vs (λ contents vs. Ok (GetFile p n props contents)) tt
    (λ contents ws i. asked (codes "get-file") ps zs (Begin (looked_at p n props contents))
    (f (Begin (optional (option_map ANumber n) ∷ ATruth props ∷ ATruth contents ∷ [])) (g (Begin (ATruth props ∷ ATruth contents ∷ [])) (h (Begin (ATruth contents ∷ [])) (i (Begin []) tt))))))))

get_dir_said : (ps zs : Items) → Said (full (codes "get-dir") ps zs) (get_dir_in ps)
get_dir_said ps zs =
    let P : Reading → Type 0 = Said (full (codes "get-dir") ps zs) in
    path_next P ps (λ p ys. then_read (bracketed number_in ys) (λ n zs. then_read (bool_in zs) (λ props us. then_read (bool_in us) (λ contents vs. last_read (perhaps list_in vs) (λ fields. Ok (GetDir p n props contents)))))) tt
    (λ p ys f. number_maybe P ys (λ n zs. then_read (bool_in zs) (λ props us. then_read (bool_in us) (λ contents vs. last_read (perhaps list_in vs) (λ fields. Ok (GetDir p n props contents))))) tt
    (λ n us g. truth_next P us (λ props us. then_read (bool_in us) (λ contents vs. last_read (perhaps list_in vs) (λ fields. Ok (GetDir p n props contents)))) tt
    (λ props vs h. truth_next P vs (λ contents vs. last_read (perhaps list_in vs) (λ fields. Ok (GetDir p n props contents))) tt
    (λ contents ws i. list_last P ws (Ok (GetDir p n props contents)) tt
    (λ e. (
      false,
      asked (codes "get-dir") ps zs (AndPerhaps (looked_at p n props contents) (perhaps_list false))
          (f (Are (optional (option_map ANumber n) ∷ ATruth props ∷ ATruth contents ∷ [])) (g (Are (ATruth props ∷ ATruth contents ∷ [])) (h (Are (ATruth contents ∷ [])) (i (Are []) e)))),
    ))
    (λ l. (
      true,
      asked (codes "get-dir") ps zs (AndPerhaps (looked_at p n props contents) (perhaps_list true))
          (f (Begin (optional (option_map ANumber n) ∷ ATruth props ∷ ATruth contents ∷ AList ∷ [])) (g (Begin (ATruth props ∷ ATruth contents ∷ AList ∷ [])) (h (Begin (ATruth contents ∷ AList ∷ [])) (i (Begin (AList ∷ [])) l)))),
    ))))))

rev_proplist_said : (ps zs : Items) → Said (full (codes "rev-proplist") ps zs) (rev_proplist_in ps)
rev_proplist_said ps zs =
    number_next (Said (full (codes "rev-proplist") ps zs)) ps (λ n ys. Ok (RevProplist n)) tt
    (λ n ys f. asked (codes "rev-proplist") ps zs (Begin (ANumber n ∷ [])) (f (Begin []) tt))

rev_prop_said : (ps zs : Items) → Said (full (codes "rev-prop") ps zs) (rev_prop_in ps)
rev_prop_said ps zs =
    let P : Reading → Type 0 = Said (full (codes "rev-prop") ps zs) in
    number_next P ps (λ n ys. then_read (prop_name_in ys) (λ name zs. Ok (RevProp n name))) tt
    (λ n ys f. name_next P ys (λ name zs. Ok (RevProp n name)) tt
    (λ name us g. asked (codes "rev-prop") ps zs (Begin (ANumber n ∷ AName name ∷ [])) (f (Begin (AName name ∷ [])) (g (Begin []) tt))))

change_rev_prop_said : (ps zs : Items) → Said (full (codes "change-rev-prop") ps zs) (change_rev_prop_in ps)
change_rev_prop_said ps zs =
    let P : Reading → Type 0 = Said (full (codes "change-rev-prop") ps zs) in
    number_next P ps (λ n ys. then_read (prop_name_in ys) (λ name zs. last_read (perhaps text_in zs) (λ v. Ok (ChangeProp n name v Any)))) tt
    (λ n ys f. name_next P ys (λ name zs. last_read (perhaps text_in zs) (λ v. Ok (ChangeProp n name v Any))) tt
    (λ name us g. text_last P us (λ v. Ok (ChangeProp n name v Any)) tt
    (λ e. inr (refl, asked (codes "change-rev-prop") ps zs (AndPerhaps (ANumber n ∷ AName name ∷ []) None) (f (Are (AName name ∷ [])) (g (Are []) e))))
    (λ t b. inr (refl, asked (codes "change-rev-prop") ps zs (AndPerhaps (ANumber n ∷ AName name ∷ []) (Some (AText t))) (f (Begin (AName name ∷ AText t ∷ [])) (g (Begin (AText t ∷ [])) b))))))

change_rev_prop2_said : (ps zs : Items) → Said (full (codes "change-rev-prop2") ps zs) (change_rev_prop2_in ps)
change_rev_prop2_said ps zs =
    let P : Reading → Type 0 = Said (full (codes "change-rev-prop2") ps zs) in
    number_next P ps (λ n ys. then_read (prop_name_in ys) (λ name zs. then_read (bracketed text_in zs) (λ v us. then_read (list_in us) (λ inner vs. last_read (previous_in inner) (λ old. Ok (ChangeProp n name v old)))))) tt
    (λ n ys f. name_next P ys (λ name zs. then_read (bracketed text_in zs) (λ v us. then_read (list_in us) (λ inner vs. last_read (previous_in inner) (λ old. Ok (ChangeProp n name v old))))) tt
    (λ name us g. text_maybe P us (λ v us. then_read (list_in us) (λ inner vs. last_read (previous_in inner) (λ old. Ok (ChangeProp n name v old)))) tt
    (λ v ws h. replacing_next P ws (λ old. Ok (ChangeProp n name v old)) tt
    (λ old b. inl (asked (codes "change-rev-prop2") ps zs (Begin (ANumber n ∷ AName name ∷ optional (option_map AText v) ∷ Replacing old ∷ []))
    (f (Begin (AName name ∷ optional (option_map AText v) ∷ Replacing old ∷ [])) (g (Begin (optional (option_map AText v) ∷ Replacing old ∷ [])) (h (Begin (Replacing old ∷ [])) b))))))))

-- a replay against revision 0 with texts, or another
replayed_if : (P : Reading → Type 0) (low : ℕ) (zero_low deltas : Bool) (c : Command) → (zero_low ≡ true → low ≡ 0)
    → (low ≡ 0 → deltas ≡ true → P (Ok c)) → ((zero_low && deltas) ≡ false → P (Err fault.ReplayForm))
    → P (if zero_low && deltas then Ok c else Err fault.ReplayForm)
replayed_if P low true true c e good other = good (e refl) refl
replayed_if P low true false c e good other = other refl
replayed_if P low false deltas c e good other = other refl

replay_said : (ps zs : Items) → Said (full (codes "replay") ps zs) (replay_in ps)
replay_said ps zs =
    let P : Reading → Type 0 = Said (full (codes "replay") ps zs) in
    number_next P ps (λ n ys. then_read (number_in ys) (λ low zs. then_read (bool_in zs) (λ deltas us. replayed low deltas (Replay n)))) tt
    (λ n ys f. number_next P ys (λ low zs. then_read (bool_in zs) (λ deltas us. replayed low deltas (Replay n))) tt
    (λ low us g. truth_next P us (λ deltas us. replayed low deltas (Replay n)) tt
    (λ deltas vs h. replayed_if P low (low == 0) deltas (Replay n) (eqb-true low 0)
    (λ l d. asked (codes "replay") ps zs (Begin (ANumber n ∷ ANumber 0 ∷ ATruth true ∷ []))
    (f (Begin (ANumber 0 ∷ ATruth true ∷ [])) (subst (λ k. First (ANumber k) (Begin (ATruth true ∷ [])) ys) l (g (Begin (ATruth true ∷ [])) (subst (λ b. First (ATruth b) (Begin []) us) d (h (Begin []) tt))))))
    (λ e. (
      n,
      0,
      low,
      deltas,
      e,
      inl (asked (codes "replay") ps zs (Begin (ANumber n ∷ ANumber low ∷ ATruth deltas ∷ []))
          (f (Begin (ANumber low ∷ ATruth deltas ∷ [])) (g (Begin (ATruth deltas ∷ [])) (h (Begin []) tt)))),
    )))))

replay_range_said : (ps zs : Items) → Said (full (codes "replay-range") ps zs) (replay_range_in ps)
replay_range_said ps zs =
    let P : Reading → Type 0 = Said (full (codes "replay-range") ps zs) in
    number_next P ps (λ a ys. then_read (number_in ys) (λ b zs. then_read (number_in zs) (λ low us. then_read (bool_in us) (λ deltas vs. replayed low deltas (ReplayRange a b))))) tt
    (λ a ys f. number_next P ys (λ b zs. then_read (number_in zs) (λ low us. then_read (bool_in us) (λ deltas vs. replayed low deltas (ReplayRange a b)))) tt
    (λ b us g. number_next P us (λ low us. then_read (bool_in us) (λ deltas vs. replayed low deltas (ReplayRange a b))) tt
    (λ low vs h. truth_next P vs (λ deltas vs. replayed low deltas (ReplayRange a b)) tt
    (λ deltas ws i. replayed_if P low (low == 0) deltas (ReplayRange a b) (eqb-true low 0)
    (λ l d. asked (codes "replay-range") ps zs (Begin (ANumber a ∷ ANumber b ∷ ANumber 0 ∷ ATruth true ∷ []))
    (f (Begin (ANumber b ∷ ANumber 0 ∷ ATruth true ∷ [])) (g (Begin (ANumber 0 ∷ ATruth true ∷ [])) (subst (λ k. First (ANumber k) (Begin (ATruth true ∷ [])) us) l (h (Begin (ATruth true ∷ [])) (subst (λ t. First (ATruth t) (Begin []) vs) d (i (Begin []) tt)))))))
    (λ e. (
      a,
      b,
      low,
      deltas,
      e,
      inr (asked (codes "replay-range") ps zs (Begin (ANumber a ∷ ANumber b ∷ ANumber low ∷ ATruth deltas ∷ []))
          (f (Begin (ANumber b ∷ ANumber low ∷ ATruth deltas ∷ [])) (g (Begin (ANumber low ∷ ATruth deltas ∷ [])) (h (Begin (ATruth deltas ∷ [])) (i (Begin []) tt))))),
    ))))))

-- ---- by the name

name_if : (P : Reading → Type 0) (b : Bool) (here other : Reading) → (b ≡ true → P here) → (b ≡ false → P other) → P (if b then here else other)
name_if P true here other f g = f refl
name_if P false here other f g = g refl

name_is : (w k : List ℕ) (ps zs : Items) (here other : Reading) → Said (full k ps zs) here → (bytes_eq w k ≡ false → Said (full w ps zs) other)
    → Said (full w ps zs) (if bytes_eq w k then here else other)
name_is w k ps zs here other f g = name_if (Said (full w ps zs)) (bytes_eq w k) here other (λ e. subst (λ v. Said (full v ps zs) here) (sym ((bytes_eq-Decides w k).0 e)) f) g

-- none of some names
none_more : (w k : List ℕ) (ks : List (List ℕ)) → bytes_eq w k ≡ false → list_any (bytes_eq w) ks ≡ false → list_any (bytes_eq w) (k ∷ ks) ≡ false
none_more w k ks e f = ap (λ b. b || list_any (bytes_eq w) ks) e ∙ f

latest_said : (ps zs : Items) → Said (full (codes "get-latest-rev") ps zs) (Ok LatestRev)
latest_said ps zs = asked (codes "get-latest-rev") ps zs (Begin []) tt

-- what the names behind so many come to
abbrev others9 : List ℕ → Items → Reading
others9 w ps = if bytes_eq w (codes "replay-range") then replay_range_in ps else Err fault.UnknownCommand

abbrev others8 : List ℕ → Items → Reading
others8 w ps = if bytes_eq w (codes "replay") then replay_in ps else (others9 w ps)

abbrev others7 : List ℕ → Items → Reading
others7 w ps = if bytes_eq w (codes "change-rev-prop2") then change_rev_prop2_in ps else (others8 w ps)

abbrev others6 : List ℕ → Items → Reading
others6 w ps = if bytes_eq w (codes "change-rev-prop") then change_rev_prop_in ps else (others7 w ps)

abbrev others5 : List ℕ → Items → Reading
others5 w ps = if bytes_eq w (codes "rev-prop") then rev_prop_in ps else (others6 w ps)

abbrev others4 : List ℕ → Items → Reading
others4 w ps = if bytes_eq w (codes "rev-proplist") then rev_proplist_in ps else (others5 w ps)

abbrev others3 : List ℕ → Items → Reading
others3 w ps = if bytes_eq w (codes "get-dir") then get_dir_in ps else (others4 w ps)

abbrev others2 : List ℕ → Items → Reading
others2 w ps = if bytes_eq w (codes "get-file") then get_file_in ps else (others3 w ps)

abbrev others1 : List ℕ → Items → Reading
others1 w ps = if bytes_eq w (codes "check-path") then check_path_in ps else (others2 w ps)

named_said : (w : List ℕ) (ps zs : Items) → Said (full w ps zs) (named w ps)
named_said w ps zs =
    name_is w (codes "get-latest-rev") ps zs (Ok LatestRev) (others1 w ps) (latest_said ps zs) (λ e0.
    name_is w (codes "check-path") ps zs (check_path_in ps) (others2 w ps) (check_path_said ps zs) (λ e1.
    name_is w (codes "get-file") ps zs (get_file_in ps) (others3 w ps) (get_file_said ps zs) (λ e2.
    name_is w (codes "get-dir") ps zs (get_dir_in ps) (others4 w ps) (get_dir_said ps zs) (λ e3.
    name_is w (codes "rev-proplist") ps zs (rev_proplist_in ps) (others5 w ps) (rev_proplist_said ps zs) (λ e4.
    name_is w (codes "rev-prop") ps zs (rev_prop_in ps) (others6 w ps) (rev_prop_said ps zs) (λ e5.
    name_is w (codes "change-rev-prop") ps zs (change_rev_prop_in ps) (others7 w ps) (change_rev_prop_said ps zs) (λ e6.
    name_is w (codes "change-rev-prop2") ps zs (change_rev_prop2_in ps) (others8 w ps) (change_rev_prop2_said ps zs) (λ e7.
    name_is w (codes "replay") ps zs (replay_in ps) (others9 w ps) (replay_said ps zs) (λ e8.
    name_is w (codes "replay-range") ps zs (replay_range_in ps) (Err fault.UnknownCommand) (replay_range_said ps zs) (λ e9.
    (w, asked w ps zs (Begin []) tt, none_more w (codes "get-latest-rev") (codes "check-path" ∷ codes "get-file" ∷ codes "get-dir" ∷ codes "rev-proplist" ∷ codes "rev-prop" ∷ codes "change-rev-prop" ∷ codes "change-rev-prop2" ∷ codes "replay" ∷ codes "replay-range" ∷ []) e0 (none_more w (codes "check-path") (codes "get-file" ∷ codes "get-dir" ∷ codes "rev-proplist" ∷ codes "rev-prop" ∷ codes "change-rev-prop" ∷ codes "change-rev-prop2" ∷ codes "replay" ∷ codes "replay-range" ∷ []) e1 (none_more w (codes "get-file") (codes "get-dir" ∷ codes "rev-proplist" ∷ codes "rev-prop" ∷ codes "change-rev-prop" ∷ codes "change-rev-prop2" ∷ codes "replay" ∷ codes "replay-range" ∷ []) e2 (none_more w (codes "get-dir") (codes "rev-proplist" ∷ codes "rev-prop" ∷ codes "change-rev-prop" ∷ codes "change-rev-prop2" ∷ codes "replay" ∷ codes "replay-range" ∷ []) e3 (none_more w (codes "rev-proplist") (codes "rev-prop" ∷ codes "change-rev-prop" ∷ codes "change-rev-prop2" ∷ codes "replay" ∷ codes "replay-range" ∷ []) e4 (none_more w (codes "rev-prop") (codes "change-rev-prop" ∷ codes "change-rev-prop2" ∷ codes "replay" ∷ codes "replay-range" ∷ []) e5 (none_more w (codes "change-rev-prop") (codes "change-rev-prop2" ∷ codes "replay" ∷ codes "replay-range" ∷ []) e6 (none_more w (codes "change-rev-prop2") (codes "replay" ∷ codes "replay-range" ∷ []) e7 (none_more w (codes "replay") (codes "replay-range" ∷ []) e8 (none_more w (codes "replay-range") ([]) e9 (refl)))))))))))))))))))))

-- what an item is read as, the table has for it
pub said : (item : Item) → Said item (command_in item)
said (Nested (Then (Word w) (Then (Nested ps) zs))) = named_said w ps zs
said _ = tt

-- ---- from the table to what is read

number_back : (P : Reading → Type 0) (Q : Items → Type 0) (xs : Items) (n : ℕ) (next : ℕ → Items → Reading) → First (ANumber n) Q xs
    → ((ys : Items) → Q ys → P (next n ys)) → P (then_read (number_in xs) next)
number_back P Q End n next f good = absurd f
number_back P Q (Then x ys) n next f good = subst (λ y. P (then_read (number_in (Then y ys)) next)) (sym f.0) (good ys f.1)

path_back : (P : Reading → Type 0) (Q : Items → Type 0) (xs : Items) (p : Path) (next : Path → Items → Reading) → First (APath p) Q xs
    → ((ys : Items) → Q ys → P (next p ys)) → P (then_read (path_in xs) next)
path_back P Q End p next f good = absurd f
path_back P Q (Then x ys) p next f good = subst (λ y. P (then_read (path_in (Then y ys)) next)) (sym f.0.1) (subst (λ r. P (then_read (right r ys) next)) (sym f.0.2) (good ys f.1))

name_back : (P : Reading → Type 0) (Q : Items → Type 0) (xs : Items) (n : Name) (next : Name → Items → Reading) → First (AName n) Q xs
    → ((ys : Items) → Q ys → P (next n ys)) → P (then_read (prop_name_in xs) next)
name_back P Q End n next f good = absurd f
name_back P Q (Then x ys) n next f good = subst (λ y. P (then_read (prop_name_in (Then y ys)) next)) (sym f.0.1) (subst (λ r. P (then_read (right r ys) next)) (sym f.0.2) (good ys f.1))

truth_back : (P : Reading → Type 0) (Q : Items → Type 0) (xs : Items) (b : Bool) (next : Bool → Items → Reading) → First (ATruth b) Q xs
    → ((ys : Items) → Q ys → P (next b ys)) → P (then_read (bool_in xs) next)
truth_back P Q End b next f good = absurd f
truth_back P Q (Then x ys) true next f good = subst (λ y. P (then_read (bool_in (Then y ys)) next)) (sym f.0) (good ys f.1)
truth_back P Q (Then x ys) false next f good = subst (λ y. P (then_read (bool_in (Then y ys)) next)) (sym f.0) (good ys f.1)

number_maybe_back : (P : Reading → Type 0) (Q : Items → Type 0) (xs : Items) (n : Option ℕ) (next : Option ℕ → Items → Reading) → First (optional (option_map ANumber n)) Q xs
    → ((ys : Items) → Q ys → P (next n ys)) → P (then_read (bracketed number_in xs) next)
number_maybe_back P Q End n next f good = absurd f
number_maybe_back P Q (Then x ys) None next f good = subst (λ y. P (then_read (bracketed number_in (Then y ys)) next)) (sym f.0) (good ys f.1)
number_maybe_back P Q (Then x ys) (Some n) next f good = subst (λ y. P (then_read (bracketed number_in (Then y ys)) next)) (sym (f.0.2 ∙ ap (λ z. Nested (Then z f.0.1)) f.0.3)) (good ys f.1)

text_maybe_back : (P : Reading → Type 0) (Q : Items → Type 0) (xs : Items) (v : Option (List ℕ)) (next : Option (List ℕ) → Items → Reading) → First (optional (option_map AText v)) Q xs
    → ((ys : Items) → Q ys → P (next v ys)) → P (then_read (bracketed text_in xs) next)
text_maybe_back P Q End v next f good = absurd f
text_maybe_back P Q (Then x ys) None next f good = subst (λ y. P (then_read (bracketed text_in (Then y ys)) next)) (sym f.0) (good ys f.1)
text_maybe_back P Q (Then x ys) (Some t) next f good = subst (λ y. P (then_read (bracketed text_in (Then y ys)) next)) (sym (f.0.2 ∙ ap (λ z. Nested (Then z f.0.1)) f.0.3)) (good ys f.1)

text_last_back : (P : Reading → Type 0) (xs : Items) (t : List ℕ) (next : Option (List ℕ) → Reading) → Begin (AText t ∷ []) xs → P (next (Some t)) → P (last_read (perhaps text_in xs) next)
text_last_back P End t next f good = absurd f
text_last_back P (Then x ys) t next f good = subst (λ y. P (last_read (perhaps text_in (Then y ys)) next)) (sym f.0) good

list_last_back : (P : Reading → Type 0) (xs : Items) (next : Reading) → Begin (AList ∷ []) xs → P next → P (last_read (perhaps list_in xs) (λ fields. next))
list_last_back P End next f good = absurd f
list_last_back P (Then x ys) next f good = subst (λ y. P (last_read (perhaps list_in (Then y ys)) (λ fields. next))) (sym f.0.1) good

replaced_back : (P : Reading → Type 0) (inner : Items) (old : Previous) (next : Previous → Reading) → Replaces old inner → P (next old) → P (last_read (previous_in inner) next)
replaced_back P inner Any next r good = subst (λ i. P (last_read (previous_in i) next)) (sym r) good
replaced_back P inner Absent next r good = subst (λ i. P (last_read (previous_in i) next)) (sym r) good
replaced_back P inner (Value v) next r good = subst (λ i. P (last_read (previous_in i) next)) (sym r.1) good

replacing_back : (P : Reading → Type 0) (us : Items) (old : Previous) (next : Previous → Reading) → Begin (Replacing old ∷ []) us → P (next old)
    → P (then_read (list_in us) (λ inner vs. last_read (previous_in inner) next))
replacing_back P End old next f good = absurd f
replacing_back P (Then x vs) old next f good = subst (λ y. P (then_read (list_in (Then y vs)) (λ inner ws. last_read (previous_in inner) next))) (sym f.0.1) (replaced_back P f.0.0 old next f.0.2 good)

-- ---- the same command by command

abbrev IsOk : Command → Reading → Type 0
IsOk c r = r ≡ Ok c

check_path_formed : (ps : Items) (p : Path) (n : Option ℕ) → Begin (APath p ∷ optional (option_map ANumber n) ∷ []) ps → check_path_in ps ≡ Ok (CheckPath p n)
check_path_formed ps p n b =
    path_back (IsOk (CheckPath p n)) (Begin (optional (option_map ANumber n) ∷ [])) ps p (λ p ys. then_read (bracketed number_in ys) (λ n us. Ok (CheckPath p n))) b
    (λ ys d. number_maybe_back (IsOk (CheckPath p n)) (Begin []) ys n (λ n us. Ok (CheckPath p n)) d (λ us t. refl))

get_file_formed : (ps : Items) (p : Path) (n : Option ℕ) (props contents : Bool) → Begin (looked_at p n props contents) ps → get_file_in ps ≡ Ok (GetFile p n props contents)
get_file_formed ps p n props contents b =
    let P : Reading → Type 0 = IsOk (GetFile p n props contents) in
    path_back P (Begin (optional (option_map ANumber n) ∷ ATruth props ∷ ATruth contents ∷ [])) ps p (λ p ys. then_read (bracketed number_in ys) (λ n zs. then_read (bool_in zs) (λ props us. then_read (bool_in us) (λ contents vs. Ok (GetFile p n props contents))))) b
    (λ ys d. number_maybe_back P (Begin (ATruth props ∷ ATruth contents ∷ [])) ys n (λ n zs. then_read (bool_in zs) (λ props us. then_read (bool_in us) (λ contents vs. Ok (GetFile p n props contents)))) d
    (λ us e. truth_back P (Begin (ATruth contents ∷ [])) us props (λ props us. then_read (bool_in us) (λ contents vs. Ok (GetFile p n props contents))) e
    (λ vs f. truth_back P (Begin []) vs contents (λ contents vs. Ok (GetFile p n props contents)) f (λ ws t. refl))))

-- with a list of fields behind, or nothing
get_dir_front : (Q : Items → Type 0) (ps : Items) (p : Path) (n : Option ℕ) (props contents : Bool)
    → First (APath p) (First (optional (option_map ANumber n)) (First (ATruth props) (First (ATruth contents) Q))) ps
    → ((vs : Items) → Q vs → last_read (perhaps list_in vs) (λ fields. Ok (GetDir p n props contents)) ≡ Ok (GetDir p n props contents))
    → get_dir_in ps ≡ Ok (GetDir p n props contents)
get_dir_front Q ps p n props contents b last =
    let P : Reading → Type 0 = IsOk (GetDir p n props contents) in
    path_back P (First (optional (option_map ANumber n)) (First (ATruth props) (First (ATruth contents) Q))) ps p (λ p ys. then_read (bracketed number_in ys) (λ n zs. then_read (bool_in zs) (λ props us. then_read (bool_in us) (λ contents vs. last_read (perhaps list_in vs) (λ fields. Ok (GetDir p n props contents)))))) b
    (λ ys d. number_maybe_back P (First (ATruth props) (First (ATruth contents) Q)) ys n (λ n zs. then_read (bool_in zs) (λ props us. then_read (bool_in us) (λ contents vs. last_read (perhaps list_in vs) (λ fields. Ok (GetDir p n props contents))))) d
    (λ us e. truth_back P (First (ATruth contents) Q) us props (λ props us. then_read (bool_in us) (λ contents vs. last_read (perhaps list_in vs) (λ fields. Ok (GetDir p n props contents)))) e
    (λ vs f. truth_back P Q vs contents (λ contents vs. last_read (perhaps list_in vs) (λ fields. Ok (GetDir p n props contents))) f last)))

get_dir_formed : (ps : Items) (p : Path) (n : Option ℕ) (props contents fields : Bool) → AndPerhaps (looked_at p n props contents) (perhaps_list fields) ps → get_dir_in ps ≡ Ok (GetDir p n props contents)
get_dir_formed ps p n props contents true b = get_dir_front (Begin (AList ∷ [])) ps p n props contents b (λ vs l. list_last_back (IsOk (GetDir p n props contents)) vs (Ok (GetDir p n props contents)) l refl)
get_dir_formed ps p n props contents false b = get_dir_front (Are []) ps p n props contents b (λ vs e. ap (λ v. last_read (perhaps list_in v) (λ fields. Ok (GetDir p n props contents))) e)

rev_proplist_formed : (ps : Items) (n : ℕ) → Begin (ANumber n ∷ []) ps → rev_proplist_in ps ≡ Ok (RevProplist n)
rev_proplist_formed ps n b = number_back (IsOk (RevProplist n)) (Begin []) ps n (λ n ys. Ok (RevProplist n)) b (λ ys t. refl)

rev_prop_formed : (ps : Items) (n : ℕ) (name : Name) → Begin (ANumber n ∷ AName name ∷ []) ps → rev_prop_in ps ≡ Ok (RevProp n name)
rev_prop_formed ps n name b =
    number_back (IsOk (RevProp n name)) (Begin (AName name ∷ [])) ps n (λ n ys. then_read (prop_name_in ys) (λ name zs. Ok (RevProp n name))) b
    (λ ys d. name_back (IsOk (RevProp n name)) (Begin []) ys name (λ name zs. Ok (RevProp n name)) d (λ us t. refl))

change_front : (Q : Items → Type 0) (ps : Items) (n : ℕ) (name : Name) (v : Option (List ℕ)) → First (ANumber n) (First (AName name) Q) ps
    → ((us : Items) → Q us → last_read (perhaps text_in us) (λ v. Ok (ChangeProp n name v Any)) ≡ Ok (ChangeProp n name v Any))
    → change_rev_prop_in ps ≡ Ok (ChangeProp n name v Any)
change_front Q ps n name v b last =
    let P : Reading → Type 0 = IsOk (ChangeProp n name v Any) in
    number_back P (First (AName name) Q) ps n (λ n ys. then_read (prop_name_in ys) (λ name zs. last_read (perhaps text_in zs) (λ v. Ok (ChangeProp n name v Any)))) b
    (λ ys d. name_back P Q ys name (λ name zs. last_read (perhaps text_in zs) (λ v. Ok (ChangeProp n name v Any))) d last)

change_rev_prop_formed : (ps : Items) (n : ℕ) (name : Name) (v : Option (List ℕ)) → AndPerhaps (ANumber n ∷ AName name ∷ []) (option_map AText v) ps → change_rev_prop_in ps ≡ Ok (ChangeProp n name v Any)
change_rev_prop_formed ps n name None b = change_front (Are []) ps n name None b (λ us e. ap (λ u. last_read (perhaps text_in u) (λ v. Ok (ChangeProp n name v Any))) e)
change_rev_prop_formed ps n name (Some t) b = change_front (Begin (AText t ∷ [])) ps n name (Some t) b (λ us e. text_last_back (IsOk (ChangeProp n name (Some t) Any)) us t (λ v. Ok (ChangeProp n name v Any)) e refl)

change_rev_prop2_formed : (ps : Items) (n : ℕ) (name : Name) (v : Option (List ℕ)) (old : Previous) → Begin (ANumber n ∷ AName name ∷ optional (option_map AText v) ∷ Replacing old ∷ []) ps → change_rev_prop2_in ps ≡ Ok (ChangeProp n name v old)
change_rev_prop2_formed ps n name v old b =
    let P : Reading → Type 0 = IsOk (ChangeProp n name v old) in
    number_back P (Begin (AName name ∷ optional (option_map AText v) ∷ Replacing old ∷ [])) ps n (λ n ys. then_read (prop_name_in ys) (λ name zs. then_read (bracketed text_in zs) (λ v us. then_read (list_in us) (λ inner vs. last_read (previous_in inner) (λ old. Ok (ChangeProp n name v old)))))) b
    (λ ys d. name_back P (Begin (optional (option_map AText v) ∷ Replacing old ∷ [])) ys name (λ name zs. then_read (bracketed text_in zs) (λ v us. then_read (list_in us) (λ inner vs. last_read (previous_in inner) (λ old. Ok (ChangeProp n name v old))))) d
    (λ us e. text_maybe_back P (Begin (Replacing old ∷ [])) us v (λ v us. then_read (list_in us) (λ inner vs. last_read (previous_in inner) (λ old. Ok (ChangeProp n name v old)))) e
    (λ vs f. replacing_back P vs old (λ old. Ok (ChangeProp n name v old)) f refl)))

-- a replay comes to what its revision and its texts come to
replay_comes : (P : Reading → Type 0) (ps : Items) (n low : ℕ) (deltas : Bool) → Begin (ANumber n ∷ ANumber low ∷ ATruth deltas ∷ []) ps → P (replayed low deltas (Replay n)) → P (replay_in ps)
replay_comes P ps n low deltas b good =
    number_back P (Begin (ANumber low ∷ ATruth deltas ∷ [])) ps n (λ n ys. then_read (number_in ys) (λ low zs. then_read (bool_in zs) (λ deltas us. replayed low deltas (Replay n)))) b
    (λ ys d. number_back P (Begin (ATruth deltas ∷ [])) ys low (λ low zs. then_read (bool_in zs) (λ deltas us. replayed low deltas (Replay n))) d
    (λ us e. truth_back P (Begin []) us deltas (λ deltas us. replayed low deltas (Replay n)) e (λ vs t. good)))

range_comes : (P : Reading → Type 0) (ps : Items) (a b low : ℕ) (deltas : Bool) → Begin (ANumber a ∷ ANumber b ∷ ANumber low ∷ ATruth deltas ∷ []) ps → P (replayed low deltas (ReplayRange a b)) → P (replay_range_in ps)
range_comes P ps a b low deltas f good =
    number_back P (Begin (ANumber b ∷ ANumber low ∷ ATruth deltas ∷ [])) ps a (λ a ys. then_read (number_in ys) (λ b zs. then_read (number_in zs) (λ low us. then_read (bool_in us) (λ deltas vs. replayed low deltas (ReplayRange a b))))) f
    (λ ys d. number_back P (Begin (ANumber low ∷ ATruth deltas ∷ [])) ys b (λ b zs. then_read (number_in zs) (λ low us. then_read (bool_in us) (λ deltas vs. replayed low deltas (ReplayRange a b)))) d
    (λ us e. number_back P (Begin (ATruth deltas ∷ [])) us low (λ low us. then_read (bool_in us) (λ deltas vs. replayed low deltas (ReplayRange a b))) e
    (λ vs g. truth_back P (Begin []) vs deltas (λ deltas vs. replayed low deltas (ReplayRange a b)) g (λ ws t. good))))

-- an item of a command is read as that command
pub formed : (c : Command) (item : Item) → Forms c item → command_in item ≡ Ok c
formed LatestRev item f = ap command_in f.1.1
formed (CheckPath p n) item f = ap command_in f.1.1 ∙ check_path_formed f.0 p n f.2
formed (GetFile p n props contents) item f = ap command_in f.1.1 ∙ get_file_formed f.0 p n props contents f.2
formed (GetDir p n props contents) item f = ap command_in f.1.1.1 ∙ get_dir_formed f.1.0 p n props contents f.0 f.1.2
formed (RevProplist n) item f = ap command_in f.1.1 ∙ rev_proplist_formed f.0 n f.2
formed (RevProp n name) item f = ap command_in f.1.1 ∙ rev_prop_formed f.0 n name f.2
formed (ChangeProp n name v old) item (inl f) = ap command_in f.1.1 ∙ change_rev_prop2_formed f.0 n name v old f.2
formed (ChangeProp n name v old) item (inr f) = ap command_in f.1.1.1 ∙ change_rev_prop_formed f.1.0 n name v f.1.2 ∙ ap (λ o. Ok (ChangeProp n name v o)) (sym f.0)
formed (Replay n) item f = ap command_in f.1.1 ∙ replay_comes (IsOk (Replay n)) f.0 n 0 true f.2 refl
formed (ReplayRange a b) item f = ap command_in f.1.1 ∙ range_comes (IsOk (ReplayRange a b)) f.0 a b 0 true f.2 refl

-- ---- what is refused

otherwise : (b : Bool) (here other : Reading) → b ≡ false → (if b then here else other) ≡ other
otherwise true here other e = absurd (true≢false e)
otherwise false here other e = refl

either_none : (a b : Bool) → (a || b) ≡ false → (a ≡ false) × (b ≡ false)
either_none true b e = absurd (true≢false e)
either_none false b e = (refl, e)

unknown_named : (w : List ℕ) (ps : Items) → list_any (bytes_eq w) names ≡ false → named w ps ≡ Err fault.UnknownCommand
unknown_named w ps e0 =
    let f0 = either_none (bytes_eq w (codes "get-latest-rev")) (list_any (bytes_eq w) (codes "check-path" ∷ codes "get-file" ∷ codes "get-dir" ∷ codes "rev-proplist" ∷ codes "rev-prop" ∷ codes "change-rev-prop" ∷ codes "change-rev-prop2" ∷ codes "replay" ∷ codes "replay-range" ∷ [])) e0 in
    let f1 = either_none (bytes_eq w (codes "check-path")) (list_any (bytes_eq w) (codes "get-file" ∷ codes "get-dir" ∷ codes "rev-proplist" ∷ codes "rev-prop" ∷ codes "change-rev-prop" ∷ codes "change-rev-prop2" ∷ codes "replay" ∷ codes "replay-range" ∷ [])) f0.1 in
    let f2 = either_none (bytes_eq w (codes "get-file")) (list_any (bytes_eq w) (codes "get-dir" ∷ codes "rev-proplist" ∷ codes "rev-prop" ∷ codes "change-rev-prop" ∷ codes "change-rev-prop2" ∷ codes "replay" ∷ codes "replay-range" ∷ [])) f1.1 in
    let f3 = either_none (bytes_eq w (codes "get-dir")) (list_any (bytes_eq w) (codes "rev-proplist" ∷ codes "rev-prop" ∷ codes "change-rev-prop" ∷ codes "change-rev-prop2" ∷ codes "replay" ∷ codes "replay-range" ∷ [])) f2.1 in
    let f4 = either_none (bytes_eq w (codes "rev-proplist")) (list_any (bytes_eq w) (codes "rev-prop" ∷ codes "change-rev-prop" ∷ codes "change-rev-prop2" ∷ codes "replay" ∷ codes "replay-range" ∷ [])) f3.1 in
    let f5 = either_none (bytes_eq w (codes "rev-prop")) (list_any (bytes_eq w) (codes "change-rev-prop" ∷ codes "change-rev-prop2" ∷ codes "replay" ∷ codes "replay-range" ∷ [])) f4.1 in
    let f6 = either_none (bytes_eq w (codes "change-rev-prop")) (list_any (bytes_eq w) (codes "change-rev-prop2" ∷ codes "replay" ∷ codes "replay-range" ∷ [])) f5.1 in
    let f7 = either_none (bytes_eq w (codes "change-rev-prop2")) (list_any (bytes_eq w) (codes "replay" ∷ codes "replay-range" ∷ [])) f6.1 in
    let f8 = either_none (bytes_eq w (codes "replay")) (list_any (bytes_eq w) (codes "replay-range" ∷ [])) f7.1 in
    let f9 = either_none (bytes_eq w (codes "replay-range")) (list_any (bytes_eq w) ([])) f8.1 in
    otherwise (bytes_eq w (codes "get-latest-rev")) (Ok LatestRev) (others1 w ps) f0.0
    ∙ otherwise (bytes_eq w (codes "check-path")) (check_path_in ps) (others2 w ps) f1.0
    ∙ otherwise (bytes_eq w (codes "get-file")) (get_file_in ps) (others3 w ps) f2.0
    ∙ otherwise (bytes_eq w (codes "get-dir")) (get_dir_in ps) (others4 w ps) f3.0
    ∙ otherwise (bytes_eq w (codes "rev-proplist")) (rev_proplist_in ps) (others5 w ps) f4.0
    ∙ otherwise (bytes_eq w (codes "rev-prop")) (rev_prop_in ps) (others6 w ps) f5.0
    ∙ otherwise (bytes_eq w (codes "change-rev-prop")) (change_rev_prop_in ps) (others7 w ps) f6.0
    ∙ otherwise (bytes_eq w (codes "change-rev-prop2")) (change_rev_prop2_in ps) (others8 w ps) f7.0
    ∙ otherwise (bytes_eq w (codes "replay")) (replay_in ps) (others9 w ps) f8.0
    ∙ otherwise (bytes_eq w (codes "replay-range")) (replay_range_in ps) (Err fault.UnknownCommand) f9.0

-- a command of another name is refused as such
pub unknown : (item : Item) → IsUnknown item → command_in item ≡ Err fault.UnknownCommand
unknown item u = ap command_in u.1.1.1 ∙ unknown_named u.0 u.1.0 u.2

replay_of : (item : Item) (a b low : ℕ) (deltas : Bool) → (low == 0 && deltas) ≡ false
    → Asks (codes "replay") (Begin (ANumber a ∷ ANumber low ∷ ATruth deltas ∷ [])) item ⊎ Asks (codes "replay-range") (Begin (ANumber a ∷ ANumber b ∷ ANumber low ∷ ATruth deltas ∷ [])) item
    → command_in item ≡ Err fault.ReplayForm
replay_of item a b low deltas e (inl f) = ap command_in f.1.1 ∙ replay_comes (λ (r : Reading). r ≡ Err fault.ReplayForm) f.0 a low deltas f.2 (ap (λ t. if t then Ok (Replay a) else Err fault.ReplayForm) e)
replay_of item a b low deltas e (inr f) = ap command_in f.1.1 ∙ range_comes (λ (r : Reading). r ≡ Err fault.ReplayForm) f.0 a b low deltas f.2 (ap (λ t. if t then Ok (ReplayRange a b) else Err fault.ReplayForm) e)

-- and a replay of another form
pub other_replay : (item : Item) → IsOtherReplay item → command_in item ≡ Err fault.ReplayForm
other_replay item o = replay_of item o.0 o.1 o.2 o.3 o.4 o.5

no_ok : (f : WireFault) (c : Command) → ◌≡◌ {A = Reading} (Err f) (Ok c) → ⊥
no_ok f c e = cc

bad_is_known : ◌≡◌ {A = Reading} (Err fault.BadShape) (Err fault.UnknownCommand) → ⊥
bad_is_known e = cc

bad_is_no_replay : ◌≡◌ {A = Reading} (Err fault.BadShape) (Err fault.ReplayForm) → ⊥
bad_is_no_replay e = cc

-- what a call took an item for, by what it read
pub judged : (item : Item) (r : Result declared.Command WireFault) → ReadIs r (command_in item) → Judged item r
judged item (Ok c) e = subst (Said item) e (said item)
judged item (Err fault.UnknownCommand) e = subst (Said item) e (said item)
judged item (Err fault.ReplayForm) e = subst (Said item) e (said item)
judged item (Err fault.BadShape) e = record {
  no_command = λ c f. no_ok fault.BadShape c (sym e ∙ formed c item f);
  known = λ u. bad_is_known (sym e ∙ unknown item u);
  no_replay = λ o. bad_is_no_replay (sym e ∙ other_replay item o);
}
judged item (Err fault.OutOfMemory) e = tt

same_ok : (c d : Command) → ◌≡◌ {A = Reading} (Ok c) (Ok d) → c ≡ d
same_ok c d e = cc

-- an item is one command at most
pub one_command : (c d : Command) (item : Item) → Forms c item → Forms d item → c ≡ d
one_command c d item f g = same_ok c d (sym (formed c item f) ∙ formed d item g)
