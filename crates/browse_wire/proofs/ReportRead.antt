-- What a working copy reports is read as the table has it, and what isn't read is none.
use Rattle.std.proofs.Common.{◌≡◌, ℕ, Bool, true, false, List, [], ◌∷◌, ap, subst, sym, ◌∙◌, refl, true≢false}
use Rattle.std.specs.Prelude.{◌||◌, Option, None, Result, Ok, Err, codes, if◌then◌else◌}
use Rattle.std.specs.List.{list_any}
use Rattle.std.specs.Str.{bytes_eq}
use Rattle.std.proofs.lemmas.Slice.Eq.{bytes_eq-Decides}
use Rattle.ra_item.specs.Items.{Item, Items, Then, Word, Nested}
use Rattle.node_base.specs.Path.{Path}
use Rattle.ra_wire.specs.Params.{text_in, number_in, bool_in, path_in, bracketed}
use Rattle.browse_wire.specs.declared.depth.DepthWord.{DepthWord}
use Rattle.browse_wire.specs.declared.depth.DepthWord.TheVariants as said_depth
use Rattle.browse_wire.specs.declared.depth.Reach.{Reach}
use Rattle.browse_wire.specs.declared.depth.Reach.TheVariants as reach
use Rattle.browse_wire.specs.declared.fault.BrowseFault.{BrowseFault}
use Rattle.browse_wire.specs.declared.fault.BrowseFault.TheVariants as fault
use Rattle.browse_wire.specs.declared.report.ReportCommand as declared
use Rattle.browse_wire.specs.Faults.{ReadIs}
use Rattle.browse_wire.specs.Depths.{IsDepth, word_of_reach, depth_in, all_below}
use Rattle.browse_wire.specs.Fields.{IsNumber, IsText, IsTruth, IsPath, Maybe, First, OrMissing, or_missing, then_read}
use Rattle.browse_wire.specs.Reports.{Reported, Report, SetPath, DeletePath, LinkPath, FinishReport, AbortReport, AreState, IsSetPath, IsLinkPath, Forms, is_report_name, IsUnknown, Reading, known_depth, with_depth, state_in, made, set_path_in, delete_path_in, link_path_in, named, report_in, report_as, Judged, ReportsAreRead}
use Rattle.browse_wire.proofs.Placed.{told_next, number_told, number_back, text_told, text_back, path_told, path_back, truth_told, truth_back, depth_told, depth_back, maybe_told, maybe_back, or_told, or_back}

abbrev pub Said : Item → Reading → Type 0
Said item (Ok r) = Forms r item
Said item (Err fault.UnknownCommand) = IsUnknown item
Said item (Err fault.BadShape) = Unit {0}
Said item (Err fault.OutOfMemory) = Unit {0}
Said item (Err fault.ExcludedDepth) = ⊥
Said item (Err fault.ReplayForm) = ⊥

abbrev full : List ℕ → Items → Items → Item
full w ps zs = Nested (Then (Word w) (Then (Nested ps) zs))

-- ---- how a path stands

abbrev then_token : Path → ℕ → Bool → Option (List ℕ) → Items → Result Reported BrowseFault
then_token p n empty token c = then_read (or_missing depth_in all_below c) (λ depth d. with_depth p n empty token (known_depth depth))

abbrev then_empty : Path → ℕ → Bool → Items → Result Reported BrowseFault
then_empty p n empty b = then_read (or_missing (bracketed text_in) None b) (λ token c. then_token p n empty token c)

abbrev then_number : Path → ℕ → Items → Result Reported BrowseFault
then_number p n a = then_read (bool_in a) (λ empty b. then_empty p n empty b)

-- whatever holds of each state that may stand there holds of what is read
state_said : (P : Result Reported BrowseFault → Type 0) (p : Path) (xs : Items) → P (Err fault.BadShape)
    → ((n : ℕ) (empty : Bool) (token : Option (List ℕ)) (depth : DepthWord) → AreState n empty token depth xs → P (with_depth p n empty token (known_depth depth)))
    → P (state_in p xs)
state_said P p xs bad good =
    told_next P (First IsNumber) xs (number_in xs) (λ n a. then_number p n a) (number_told xs) bad (λ n a f0.
    told_next P (First IsTruth) a (bool_in a) (λ empty b. then_empty p n empty b) (truth_told a) bad (λ empty b f1.
    told_next P (OrMissing (First (Maybe IsText)) None) b (or_missing (bracketed text_in) None b) (λ token c. then_token p n empty token c) (or_told (Maybe IsText) (bracketed text_in) None (maybe_told IsText text_in text_told) b) bad (λ token c f2.
    told_next P (OrMissing (First IsDepth) all_below) c (or_missing depth_in all_below c) (λ depth d. with_depth p n empty token (known_depth depth)) (or_told IsDepth depth_in all_below depth_told c) bad (λ depth d f3.
    good n empty token depth (a, b, c, d, f0, f1, f2, f3)))))

state_formed : (p : Path) (n : ℕ) (empty : Bool) (token : Option (List ℕ)) (depth : DepthWord) (xs : Items) → AreState n empty token depth xs
    → state_in p xs ≡ with_depth p n empty token (known_depth depth)
state_formed p n empty token depth xs f =
    ap (λ r. then_read r (λ n a. then_number p n a)) (number_back n xs f.0 f.4)
    ∙ ap (λ r. then_read r (λ empty b. then_empty p n empty b)) (truth_back empty f.0 f.1 f.5)
    ∙ ap (λ r. then_read r (λ token c. then_token p n empty token c)) (or_back (Maybe IsText) (bracketed text_in) None (maybe_back IsText text_in text_back) token f.1 f.2 f.6)
    ∙ ap (λ r. then_read r (λ depth d. with_depth p n empty token (known_depth depth))) (or_back IsDepth depth_in all_below depth_back depth f.2 f.3 f.7)

reach_again : (d : Reach) → known_depth (word_of_reach d) ≡ Ok d
reach_again (reach.To d) = refl
reach_again reach.Excluded = refl

state_again : (r : Reported) (xs : Items) → AreState r.revision r.start_empty r.token (word_of_reach r.depth) xs → state_in r.path xs ≡ Ok r
state_again r xs f = state_formed r.path r.revision r.start_empty r.token (word_of_reach r.depth) xs f ∙ ap (with_depth r.path r.revision r.start_empty r.token) (reach_again r.depth)

-- ---- from what is read to the table

set_path_by : (xs zs a : Items) (p : Path) (n : ℕ) (empty : Bool) (token : Option (List ℕ)) (d : DepthWord) → IsSetPath p n empty token d xs
    → Said (full (codes "set-path") xs zs) (made SetPath (with_depth p n empty token (known_depth d)))
set_path_by xs zs a p n empty token (said_depth.Known d) f = (xs, (zs, refl), f)
set_path_by xs zs a p n empty token said_depth.AsReported f = tt
set_path_by xs zs a p n empty token said_depth.Excluded f = (xs, (zs, refl), f)

set_path_said : (xs zs : Items) → Said (full (codes "set-path") xs zs) (set_path_in xs)
set_path_said xs zs =
    told_next (Said (full (codes "set-path") xs zs)) (First IsPath) xs (path_in xs) (λ p a. made SetPath (state_in p a)) (path_told xs) tt (λ p a f.
    state_said (λ r. Said (full (codes "set-path") xs zs) (made SetPath r)) p a tt (λ n empty token d g. set_path_by xs zs a p n empty token d (a, f, g)))

delete_path_said : (xs zs : Items) → Said (full (codes "delete-path") xs zs) (delete_path_in xs)
delete_path_said xs zs =
    told_next (Said (full (codes "delete-path") xs zs)) (First IsPath) xs (path_in xs) (λ p a. Ok (DeletePath p)) (path_told xs) tt (λ p a f. (xs, (zs, refl), (a, f)))

link_path_by : (xs zs : Items) (p : Path) (url : List ℕ) (n : ℕ) (empty : Bool) (token : Option (List ℕ)) (d : DepthWord) → IsLinkPath p url n empty token d xs
    → Said (full (codes "link-path") xs zs) (made (λ r. LinkPath r url) (with_depth p n empty token (known_depth d)))
link_path_by xs zs p url n empty token (said_depth.Known d) f = (xs, (zs, refl), f)
link_path_by xs zs p url n empty token said_depth.AsReported f = tt
link_path_by xs zs p url n empty token said_depth.Excluded f = (xs, (zs, refl), f)

link_path_said : (xs zs : Items) → Said (full (codes "link-path") xs zs) (link_path_in xs)
link_path_said xs zs =
    let P : Reading → Type 0 = Said (full (codes "link-path") xs zs) in
    told_next P (First IsPath) xs (path_in xs) (λ p a. then_read (text_in a) (λ url b. made (λ r. LinkPath r url) (state_in p b))) (path_told xs) tt (λ p a f.
    told_next P (First IsText) a (text_in a) (λ url b. made (λ r. LinkPath r url) (state_in p b)) (text_told a) tt (λ url b g.
    state_said (λ r. Said (full (codes "link-path") xs zs) (made (λ s. LinkPath s url) r)) p b tt (λ n empty token d h. link_path_by xs zs p url n empty token d (a, b, f, g, h))))

name_if : (P : Reading → Type 0) (b : Bool) (here other : Reading) → (b ≡ true → P here) → (b ≡ false → P other) → P (if b then here else other)
name_if P true here other f g = f refl
name_if P false here other f g = g refl

name_is : (w k : List ℕ) (ps zs : Items) (here other : Reading) → Said (full k ps zs) here → (bytes_eq w k ≡ false → Said (full w ps zs) other)
    → Said (full w ps zs) (if bytes_eq w k then here else other)
name_is w k ps zs here other f g = name_if (Said (full w ps zs)) (bytes_eq w k) here other (λ e. subst (λ v. Said (full v ps zs) here) (sym ((bytes_eq-Decides w k).0 e)) f) g

none_more : (w k : List ℕ) (ks : List (List ℕ)) → bytes_eq w k ≡ false → list_any (bytes_eq w) ks ≡ false → list_any (bytes_eq w) (k ∷ ks) ≡ false
none_more w k ks e f = ap (λ b. b || list_any (bytes_eq w) ks) e ∙ f

abbrev others4 : List ℕ → Reading
others4 w = if bytes_eq w (codes "abort-report") then Ok AbortReport else Err fault.UnknownCommand

abbrev others3 : List ℕ → Reading
others3 w = if bytes_eq w (codes "finish-report") then Ok FinishReport else others4 w

abbrev others2 : List ℕ → Items → Reading
others2 w ps = if bytes_eq w (codes "link-path") then link_path_in ps else others3 w

abbrev others1 : List ℕ → Items → Reading
others1 w ps = if bytes_eq w (codes "delete-path") then delete_path_in ps else others2 w ps

named_said : (w : List ℕ) (ps zs : Items) → Said (full w ps zs) (named w ps)
named_said w ps zs =
    name_is w (codes "set-path") ps zs (set_path_in ps) (others1 w ps) (set_path_said ps zs) (λ e0.
    name_is w (codes "delete-path") ps zs (delete_path_in ps) (others2 w ps) (delete_path_said ps zs) (λ e1.
    name_is w (codes "link-path") ps zs (link_path_in ps) (others3 w) (link_path_said ps zs) (λ e2.
    name_is w (codes "finish-report") ps zs (Ok FinishReport) (others4 w) (ps, (zs, refl), tt) (λ e3.
    name_is w (codes "abort-report") ps zs (Ok AbortReport) (Err fault.UnknownCommand) (ps, (zs, refl), tt) (λ e4. (
      w,
      (ps, (zs, refl), tt),
      none_more w (codes "set-path") (codes "delete-path" ∷ codes "link-path" ∷ codes "finish-report" ∷ codes "abort-report" ∷ []) e0
          (none_more w (codes "delete-path") (codes "link-path" ∷ codes "finish-report" ∷ codes "abort-report" ∷ []) e1
          (none_more w (codes "link-path") (codes "finish-report" ∷ codes "abort-report" ∷ []) e2
          (none_more w (codes "finish-report") (codes "abort-report" ∷ []) e3
          (none_more w (codes "abort-report") [] e4 refl)))),
    ))))))

said : (item : Item) → Said item (report_in item)
said (Nested (Then (Word w) (Then (Nested ps) zs))) = named_said w ps zs
said _ = tt

-- ---- from the table to what is read

pub formed : ReportsAreRead
formed (SetPath r) item f =
    ap report_in f.1.1
    ∙ ap (λ q. then_read q (λ p a. made SetPath (state_in p a))) (path_back r.path f.0 f.2.0 f.2.1)
    ∙ ap (made SetPath) (state_again r f.2.0 f.2.2)
formed (DeletePath p) item f = ap report_in f.1.1 ∙ ap (λ q. then_read q (λ p a. Ok (DeletePath p))) (path_back p f.0 f.2.0 f.2.1)
formed (LinkPath r url) item f =
    ap report_in f.1.1
    ∙ ap (λ q. then_read q (λ p a. then_read (text_in a) (λ url b. made (λ s. LinkPath s url) (state_in p b)))) (path_back r.path f.0 f.2.0 f.2.2)
    ∙ ap (λ q. then_read q (λ url b. made (λ s. LinkPath s url) (state_in r.path b))) (text_back url f.2.0 f.2.1 f.2.3)
    ∙ ap (made (λ s. LinkPath s url)) (state_again r f.2.1 f.2.4)
formed FinishReport item f = ap report_in f.1.1
formed AbortReport item f = ap report_in f.1.1

-- ---- what is refused

otherwise : (b : Bool) (here other : Reading) → b ≡ false → (if b then here else other) ≡ other
otherwise true here other e = absurd (true≢false e)
otherwise false here other e = refl

either_none : (a b : Bool) → (a || b) ≡ false → (a ≡ false) × (b ≡ false)
either_none true b e = absurd (true≢false e)
either_none false b e = (refl, e)

unknown_named : (w : List ℕ) (ps : Items) → is_report_name w ≡ false → named w ps ≡ Err fault.UnknownCommand
unknown_named w ps e =
    let f0 = either_none (bytes_eq w (codes "set-path")) (list_any (bytes_eq w) (codes "delete-path" ∷ codes "link-path" ∷ codes "finish-report" ∷ codes "abort-report" ∷ [])) e in
    let f1 = either_none (bytes_eq w (codes "delete-path")) (list_any (bytes_eq w) (codes "link-path" ∷ codes "finish-report" ∷ codes "abort-report" ∷ [])) f0.1 in
    let f2 = either_none (bytes_eq w (codes "link-path")) (list_any (bytes_eq w) (codes "finish-report" ∷ codes "abort-report" ∷ [])) f1.1 in
    let f3 = either_none (bytes_eq w (codes "finish-report")) (list_any (bytes_eq w) (codes "abort-report" ∷ [])) f2.1 in
    let f4 = either_none (bytes_eq w (codes "abort-report")) (list_any (bytes_eq w) []) f3.1 in
    otherwise (bytes_eq w (codes "set-path")) (set_path_in ps) (others1 w ps) f0.0
    ∙ otherwise (bytes_eq w (codes "delete-path")) (delete_path_in ps) (others2 w ps) f1.0
    ∙ otherwise (bytes_eq w (codes "link-path")) (link_path_in ps) (others3 w) f2.0
    ∙ otherwise (bytes_eq w (codes "finish-report")) (Ok FinishReport) (others4 w) f3.0
    ∙ otherwise (bytes_eq w (codes "abort-report")) (Ok AbortReport) (Err fault.UnknownCommand) f4.0

unknown : (item : Item) → IsUnknown item → report_in item ≡ Err fault.UnknownCommand
unknown item u = ap report_in u.1.1.1 ∙ unknown_named u.0 u.1.0 u.2

bad_is_none : (r : Report) → ◌≡◌ {A = Reading} (Err fault.BadShape) (Ok r) → ⊥
bad_is_none r e = cc

bad_is_known : ◌≡◌ {A = Reading} (Err fault.BadShape) (Err fault.UnknownCommand) → ⊥
bad_is_known e = cc

-- what a call took an item for, by what it read
pub judged : (item : Item) (r : Result declared.ReportCommand BrowseFault) → ReadIs report_as r (report_in item) → Judged item r
judged item (Ok c) e = subst (Said item) e (said item)
judged item (Err fault.UnknownCommand) e = subst (Said item) e (said item)
judged item (Err fault.ReplayForm) e = subst (Said item) e (said item)
judged item (Err fault.ExcludedDepth) e = subst (Said item) e (said item)
judged item (Err fault.BadShape) e = record {
  no_report = λ r f. bad_is_none r (sym e ∙ formed r item f);
  known = λ u. bad_is_known (sym e ∙ unknown item u);
}
judged item (Err fault.OutOfMemory) e = tt
