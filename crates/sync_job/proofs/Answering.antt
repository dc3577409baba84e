-- What a master in a store answers.
use Rattle.std.proofs.Common.{◌≡◌, List, [], ◌∷◌, ◌++◌, subst, ◌∙◌}
use Rattle.std.specs.List.{AllByRecursion}
use Rattle.repo_core.specs.Repository.{Repository}
use Rattle.sync_job.specs.Alone.{IsAnsweredBy}
use Rattle.sync_job.specs.Questions.{Exchange}
use Rattle.sync_job.proofs.Telling.{all_append}

-- one question more, of a master that stays
pub answered_so : {M : Type 0} (repository : M → Repository) (old new first : M) (made : List Exchange) (x : Exchange) → new ≡ old → (old ≡ first) × AllByRecursion (IsAnsweredBy (repository first)) made → IsAnsweredBy (repository old) x
    → (new ≡ first) × AllByRecursion (IsAnsweredBy (repository first)) (made ++ x ∷ [])
answered_so {M} repository old new first made x same h a = (same ∙ h.0, all_append (IsAnsweredBy (repository first)) made (x ∷ []) h.1 (subst (λ (m : M). IsAnsweredBy (repository m) x) h.0 a, tt))
