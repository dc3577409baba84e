-- What a working copy reports: the table of the items that are which, and how they are read. What stands behind the last element
-- of a prototype is ignored.
use Rattle.std.specs.Prelude.{◌≡◌, ℕ, Bool, false, List, [], ◌∷◌, Option, Some, None, Result, Ok, Err, codes, if◌then◌else◌}
use Rattle.std.specs.Option.{option_map}
use Rattle.std.specs.List.{list_any}
use Rattle.std.specs.Str.{bytes_eq}
use Rattle.ra_item.specs.Items.{Item, Items}
use Rattle.node_base.specs.Path.{Path}
use Rattle.ra_wire.specs.Params.{parts_in, word_in, text_in, number_in, list_in, bool_in, path_in, bracketed}
use Rattle.ra_wire.specs.Commands.{Asks, Begin}
use Rattle.browse_wire.specs.Depths.{IsDepth, word_of_reach, depth_in, all_below}
use Rattle.browse_wire.specs.Fields.{IsNumber, IsText, IsTruth, IsPath, Maybe, First, OrMissing, or_missing, then_read}
use Rattle.browse_wire.specs.declared.depth.DepthWord.{DepthWord}
use Rattle.browse_wire.specs.declared.depth.DepthWord.TheVariants as said
use Rattle.browse_wire.specs.declared.depth.Reach.{Reach}
use Rattle.browse_wire.specs.declared.depth.Reach.TheVariants as reach
use Rattle.browse_wire.specs.declared.fault.BrowseFault.{BrowseFault}
use Rattle.browse_wire.specs.declared.fault.BrowseFault.TheVariants as fault
use Rattle.browse_wire.specs.declared.report.ReportCommand as declared
use Rattle.browse_wire.specs.declared.report.ReportCommand.TheVariants as coded
use Rattle.browse_wire.specs.declared.report.Reported as declared_reported

-- how a path stands in a working copy: the revision, whether as an empty directory, a lock's token, and how much of it there is
pub record Reported : Type 0 where
  pub path : Path
  pub revision : ℕ
  pub start_empty : Bool
  pub token : Option (List ℕ)
  pub depth : Reach

pub data Report : Type 0 where
  SetPath : Reported → Report
  DeletePath : Path → Report
  LinkPath : Reported → List ℕ → Report
  FinishReport : Report
  AbortReport : Report

-- ---- the parameters of each

-- rev start-empty ? [ token ] depth
abbrev pub AreState : ℕ → Bool → Option (List ℕ) → DepthWord → Items → Type 0
AreState n empty token depth xs = (a b c d : Items) × First IsNumber n xs a × First IsTruth empty a b × OrMissing (First (Maybe IsText)) None token b c × OrMissing (First IsDepth) all_below depth c d

-- path rev start-empty ? [ token ] depth
abbrev pub IsSetPath : Path → ℕ → Bool → Option (List ℕ) → DepthWord → Items → Type 0
IsSetPath p n empty token depth xs = (a : Items) × First IsPath p xs a × AreState n empty token depth a

-- path url rev start-empty ? [ token ] depth
abbrev pub IsLinkPath : Path → List ℕ → ℕ → Bool → Option (List ℕ) → DepthWord → Items → Type 0
IsLinkPath p url n empty token depth xs = (a b : Items) × First IsPath p xs a × First IsText url a b × AreState n empty token depth b

-- ---- the table

abbrev pub Forms : Report → Item → Type 0
Forms (SetPath r) item = Asks (codes "set-path") (IsSetPath r.path r.revision r.start_empty r.token (word_of_reach r.depth)) item
Forms (DeletePath p) item = Asks (codes "delete-path") (λ xs. (a : Items) × First IsPath p xs a) item
Forms (LinkPath r url) item = Asks (codes "link-path") (IsLinkPath r.path url r.revision r.start_empty r.token (word_of_reach r.depth)) item
Forms FinishReport item = Asks (codes "finish-report") (Begin []) item
Forms AbortReport item = Asks (codes "abort-report") (Begin []) item

-- ---- what is refused

abbrev pub names : List (List ℕ)
names = codes "set-path" ∷ codes "delete-path" ∷ codes "link-path" ∷ codes "finish-report" ∷ codes "abort-report" ∷ []

abbrev pub is_report_name : List ℕ → Bool
is_report_name w = list_any (bytes_eq w) names

abbrev pub IsUnknown : Item → Type 0
IsUnknown item = (name : List ℕ) × Asks name (Begin []) item × (is_report_name name ≡ false)

pub record IsBad (item : Item) : Type 0 where
  pub no_report : (r : Report) → Forms r item → ⊥
  pub known : IsUnknown item → ⊥

-- ---- as they are read

abbrev pub Reading : Type 0
Reading = Result Report BrowseFault

-- a depth of a report is a known one, or leaves the path out
abbrev pub known_depth : DepthWord → Result Reach BrowseFault
known_depth (said.Known d) = Ok (reach.To d)
known_depth said.AsReported = Err fault.BadShape
known_depth said.Excluded = Ok reach.Excluded

abbrev pub with_depth : Path → ℕ → Bool → Option (List ℕ) → Result Reach BrowseFault → Result Reported BrowseFault
with_depth p n empty token (Ok d) = Ok (record { path = p; revision = n; start_empty = empty; token = token; depth = d })
with_depth p n empty token (Err f) = Err f

-- how a path stands
abbrev pub state_in : Path → Items → Result Reported BrowseFault
state_in p xs = then_read (number_in xs) (λ n a. then_read (bool_in a) (λ empty b. then_read (or_missing (bracketed text_in) None b) (λ token c. then_read (or_missing depth_in all_below c) (λ depth d. with_depth p n empty token (known_depth depth)))))

abbrev pub made : (Reported → Report) → Result Reported BrowseFault → Reading
made make (Ok r) = Ok (make r)
made make (Err f) = Err f

abbrev pub set_path_in : Items → Reading
set_path_in xs = then_read (path_in xs) (λ p a. made SetPath (state_in p a))

abbrev pub delete_path_in : Items → Reading
delete_path_in xs = then_read (path_in xs) (λ p a. Ok (DeletePath p))

abbrev pub link_path_in : Items → Reading
link_path_in xs = then_read (path_in xs) (λ p a. then_read (text_in a) (λ url b. made (λ r. LinkPath r url) (state_in p b)))

abbrev pub named : List ℕ → Items → Reading
named w xs =
    if bytes_eq w (codes "set-path") then set_path_in xs
    else if bytes_eq w (codes "delete-path") then delete_path_in xs
    else if bytes_eq w (codes "link-path") then link_path_in xs
    else if bytes_eq w (codes "finish-report") then Ok FinishReport
    else if bytes_eq w (codes "abort-report") then Ok AbortReport
    else Err fault.UnknownCommand

abbrev pub report_in : Item → Reading
report_in item = elim (parts_in item) [ None ↦ Err fault.BadShape | Some xs ↦ then_read (word_in xs) (λ w ys. then_read (list_in ys) (λ ps zs. named w ps)) ]

-- ---- as they are in code

abbrev pub reported_as : declared_reported.Reported → Reported
reported_as r = record { path = r.path; revision = r.revision; start_empty = r.start_empty; token = option_map (λ t. t.items) r.token; depth = r.depth }

abbrev pub report_as : declared.ReportCommand → Report
report_as (coded.SetPath r) = SetPath (reported_as r)
report_as (coded.DeletePath p) = DeletePath p
report_as (coded.LinkPath r url) = LinkPath (reported_as r) url.items
report_as coded.FinishReport = FinishReport
report_as coded.AbortReport = AbortReport

-- what an item is taken for, unless memory ran out
abbrev pub Judged : Item → Result declared.ReportCommand BrowseFault → Type 0
Judged item (Ok r) = Forms (report_as r) item
Judged item (Err fault.UnknownCommand) = IsUnknown item
Judged item (Err fault.BadShape) = IsBad item
Judged item (Err fault.OutOfMemory) = Unit {0}
Judged item (Err fault.ExcludedDepth) = ⊥
Judged item (Err fault.ReplayForm) = ⊥

-- ---- laws

abbrev pub ReportsAreRead : Type 0
ReportsAreRead = (r : Report) (item : Item) → Forms r item → report_in item ≡ Ok r
