-- What the jobs that run are to their book.
use Rattle.std.specs.Prelude.{ℕ, List, Option}
use Rattle.mirror_share.specs.declared.jobs.RunningJobs.{RunningJobs}

abbrev pub places_of : RunningJobs → List (Option (List ℕ))
places_of jobs = jobs.places.items
