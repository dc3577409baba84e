-- What the files of a folder fix.
use Rattle.std.specs.Prelude.{◌≡◌, ◌<◌, length, Option}
use Rattle.fleet_disk.specs.Image.{Image}
use Rattle.repo_core.specs.Repository.{Repository, head_of}
use Rattle.repo_store.specs.Journal.{Keeps}
use Rattle.store_engines.specs.Dumps.{dump_of}
use Rattle.store_engines.specs.Ranges.{count_wanted, first_wanted, last_wanted}
use Rattle.store_engines.specs.declared.range.RevRange.{RevRange}

-- all repositories that an image keeps have one dump of what is wanted
abbrev pub OneDump : Type 0
OneDump =
    (image : Image) (r s : Repository) (range : Option RevRange) → Keeps r image → Keeps s image → last_wanted r range < length r.revisions
    → (last_wanted s range < length s.revisions) × (dump_of r (first_wanted range) (count_wanted r range) ≡ dump_of s (first_wanted range) (count_wanted s range))

-- and one newest revision
abbrev pub OneHead : Type 0
OneHead = (image : Image) (r s : Repository) → Keeps r image → Keeps s image → head_of r.revisions ≡ head_of s.revisions
