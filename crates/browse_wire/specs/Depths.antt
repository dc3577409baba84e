-- Depths, and the words for them.
use Rattle.std.specs.Prelude.{◌≡◌, ℕ, Bool, List, Option, Some, None, Result, Ok, Err, codes, if◌then◌else◌}
use Rattle.std.specs.Option.{option_map}
use Rattle.std.specs.Str.{bytes_eq}
use Rattle.ra_item.specs.Items.{Item, Items, Then, Word}
use Rattle.ra_wire.specs.Params.{Read}
use Rattle.browse_wire.specs.declared.fault.BrowseFault.{BrowseFault}
use Rattle.browse_wire.specs.declared.fault.BrowseFault.TheVariants as fault
use Rattle.browse_wire.specs.declared.depth.Depth.{Depth}
use Rattle.browse_wire.specs.declared.depth.Depth.TheVariants as depth
use Rattle.browse_wire.specs.declared.depth.DepthWord.{DepthWord}
use Rattle.browse_wire.specs.declared.depth.DepthWord.TheVariants as said
use Rattle.browse_wire.specs.declared.depth.Reach.{Reach}
use Rattle.browse_wire.specs.declared.depth.Reach.TheVariants as reach

-- the words
abbrev pub depth_text : DepthWord → List ℕ
depth_text (said.Known depth.Empty) = codes "empty"
depth_text (said.Known depth.Files) = codes "files"
depth_text (said.Known depth.Immediates) = codes "immediates"
depth_text (said.Known depth.Infinity) = codes "infinity"
depth_text said.AsReported = codes "unknown"
depth_text said.Excluded = codes "exclude"

abbrev pub IsDepth : DepthWord → Item → Type 0
IsDepth d x = x ≡ Word (depth_text d)

-- none is as reported
abbrev pub word_of : Option Depth → DepthWord
word_of (Some d) = said.Known d
word_of None = said.AsReported

-- a path that is left out has a word of its own
abbrev pub word_of_reach : Reach → DepthWord
word_of_reach (reach.To d) = said.Known d
word_of_reach reach.Excluded = said.Excluded

-- where the depth is missing: everything, or what an older client's word on recursion says
abbrev pub all_below : DepthWord
all_below = said.Known depth.Infinity

abbrev pub or_files : Bool → DepthWord
or_files recurse = if recurse then all_below else said.Known depth.Files

abbrev pub or_empty : Bool → DepthWord
or_empty recurse = if recurse then all_below else said.Known depth.Empty

-- where there are no brackets, or nothing is in them
abbrev pub or_all : Option DepthWord → DepthWord
or_all None = all_below
or_all (Some d) = d

-- ---- as they are read

abbrev pub depth_named : List ℕ → Option DepthWord
depth_named w =
    if bytes_eq w (codes "empty") then Some (said.Known depth.Empty)
    else if bytes_eq w (codes "files") then Some (said.Known depth.Files)
    else if bytes_eq w (codes "immediates") then Some (said.Known depth.Immediates)
    else if bytes_eq w (codes "infinity") then Some (said.Known depth.Infinity)
    else if bytes_eq w (codes "unknown") then Some said.AsReported
    else if bytes_eq w (codes "exclude") then Some said.Excluded
    else None

abbrev pub depth_in : Items → Read DepthWord
depth_in (Then (Word w) xs) = option_map (λ d. (d, xs)) (depth_named w)
depth_in _ = None

-- in a command, a depth that leaves a path out is refused by its name
abbrev pub unless_excluded : {T : Type 0} → DepthWord → T → Result T BrowseFault
unless_excluded said.Excluded x = Err fault.ExcludedDepth
unless_excluded (said.Known d) x = Ok x
unless_excluded said.AsReported x = Ok x
