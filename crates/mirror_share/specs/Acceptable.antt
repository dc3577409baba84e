-- Calls that were each acceptable where they came.
use Rattle.std.specs.Prelude.{◌≡◌, ℕ, ◌&&◌, ◌||◌, Bool, true, List, [], ◌∷◌, Option, Some, None, is_none}
use Rattle.repo_core.specs.Repository.{Repository}
use Rattle.sync_core.specs.Mirror.{Call, refusal, mirror_with}
use Rattle.sync_job.specs.Mirrors.{repository_by}

-- nothing is refused of the call to some seat, whoever held the lock
pub record IsAcceptable (r : Repository) (call : Call) : Type 0 where
  pub holder : Option ℕ
  pub seat : ℕ
  pub free : refusal (mirror_with r.revisions holder) seat call ≡ None

-- each of these calls, over what those before it made of the repository
abbrev pub AreAcceptable : Repository → List Call → Type 0
AreAcceptable r [] = Unit {0}
AreAcceptable r (c ∷ cs) = IsAcceptable r c × AreAcceptable (repository_by r c) cs

-- the same as a test: the call is acceptable of a seat that holds the lock, or where nobody does
abbrev pub may_come : Repository → Call → Bool
may_come r call = is_none (refusal (mirror_with r.revisions (Some 0)) 0 call) || is_none (refusal (mirror_with r.revisions None) 0 call)

abbrev pub may_all_come : Repository → List Call → Bool
may_all_come r [] = true
may_all_come r (c ∷ cs) = may_come r c && may_all_come (repository_by r c) cs
