-- Moments, and the text of one in the property svn:date.
use Rattle.std.specs.Prelude.{◌≡◌, ℕ, ◌/◌, false, List, [], ◌∷◌, ◌++◌, pos, unsigned_abs, ◌*ℤ◌, codes, Option}
use Rattle.std.specs.Option.{option_map_or}
use Rattle.std.specs.Fmt.{decimal, padded_integral, format_spec}
use Rattle.std.specs.FinMap as map
use Rattle.jiff_core.specs.declared.civil.datetime.DateTime.{DateTime}
use Rattle.jiff_core.specs.DateTime.{civil_nanos}
use Rattle.node_base.specs.Props.{PropMap}

-- what a clock at UTC shows so many microseconds after 1970 began
abbrev pub IsMoment : ℕ → DateTime → Type 0
IsMoment micros at = civil_nanos at ≡ pos micros *ℤ pos 1000

-- decimal digits, with zeros in front up to a width
abbrev pub padded : ℕ → ℕ → List ℕ
padded width n = padded_integral (format_spec 32 0 4 width 18446744073709551615) false [] (decimal n)

-- YYYY-MM-DD
abbrev pub day_text : DateTime → List ℕ
day_text at = padded 4 (unsigned_abs at.date.year) ++ (45 ∷ [] ++ (padded 2 at.date.month ++ (45 ∷ [] ++ padded 2 at.date.day)))

-- hh:mm:ss.uuuuuu
abbrev pub clock_text : DateTime → List ℕ
clock_text at =
    padded 2 at.time.hour ++ (58 ∷ [] ++ (padded 2 at.time.minute ++ (58 ∷ [] ++ (padded 2 at.time.second ++ (46 ∷ [] ++ padded 6 (at.time.subsec_nanosecond / 1000))))))

-- YYYY-MM-DDThh:mm:ss.uuuuuuZ
abbrev pub date_text : DateTime → List ℕ
date_text at = day_text at ++ (84 ∷ [] ++ (clock_text at ++ 90 ∷ []))

abbrev pub date_name : List ℕ
date_name = codes "svn:date"

-- properties with the text of a moment as their date, where one is given
abbrev pub dated : PropMap → Option DateTime → PropMap
dated props moment = option_map_or (λ at. map.insert props date_name (date_text at)) moment props
