-- What a call comes to that misses no need.
use Rattle.std.specs.Prelude.{◌≡◌, ℕ, Some, None}
use Rattle.std.specs.Option.{option_map}
use Rattle.repo_core.specs.declared.entry.Entry.{Entry}
use Rattle.repo_core.specs.Refusals.{by_repository}
use Rattle.sync_core.specs.declared.planning.Planned.{Planned}
use Rattle.sync_core.specs.declared.planning.Planned.TheVariants as plan
use Rattle.sync_core.specs.Mirror.{Mirror, Call, Look, standing_of, unmet, entry_of, refusal, OfRepository}
use Rattle.sync_core.specs.Plain.{IsNumbered}

-- an entry is to be written, which only the repository may refuse yet
pub record IsToWrite (m : Mirror) (seat : ℕ) (call : Call) (e : Entry) : Type 0 where
  pub met : unmet (standing_of m.revisions) m.holder seat call ≡ None
  pub entry : entry_of m.revisions call ≡ Some e
  pub numbered : IsNumbered m.revisions e
  pub may_refuse : refusal m seat call ≡ option_map OfRepository (by_repository m.revisions e)

abbrev pub IsPlanned : Mirror → ℕ → Call → Planned → Type 0
IsPlanned m seat call (plan.Tell s) = (call ≡ Look) × (s ≡ standing_of m.revisions)
IsPlanned m seat call (plan.Write e) = IsToWrite m seat call e
