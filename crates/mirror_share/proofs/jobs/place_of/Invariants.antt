use Rattle.std.proofs.Common.{◌≡◌, ◌<◌, ℕ, Some}
use Rattle.mirror_share.specs.Places.{job_at}
use Rattle.mirror_share.proofs.jobs.place_of.Given as goal

abbrev pub invariant-loop-i : goal.invariant-loop-i
invariant-loop-i l = (j : ℕ) → j < l.i → job_at l.places j ≡ Some l.token → ⊥
