-- The calls that a book keeps were each acceptable where they came.
use Rattle.std.proofs.Common.{◌≡◌, ◌⊎◌, inl, inr, ℕ, ◌+◌, ◌==◌, ◌&&◌, ◌||◌, not, Bool, true, false, List, [], ◌∷◌, ◌++◌, map, Option, Some, None, is_some, is_none, refl, sym, ap, subst, ◌∙◌}
use Rattle.std.proofs.lemmas.Bool.{true≢false}
use Rattle.std.proofs.lemmas.List.{map-append}
use Rattle.std.specs.Option.{option_map, option_and_then}
use Rattle.dump_load.specs.Faults.{fault_if, first_of}
use Rattle.repo_core.specs.Repository.{Repository, Revision}
use Rattle.repo_core.specs.Refusals.{by_repository}
use Rattle.sync_core.specs.Copies.{call_in}
use Rattle.sync_core.specs.Mirror.{Call, Init, TakeLock, StealLock, ReleaseLock, SetCopying, Commit, PutProps, SetMerged, ClearCopying, Look, Refusal, Missed, OfRepository, refusal, unmet, turn, holds, standing_of, entry_of, mirror_with}
use Rattle.sync_core.specs.Names.{is_absent, is_number, precedes, reaches}
use Rattle.sync_core.specs.declared.kept_call.KeptCall.{KeptCall}
use Rattle.sync_core.specs.declared.need.Need.{Need}
use Rattle.sync_core.specs.declared.need.Need.TheVariants as need
use Rattle.sync_core.specs.declared.standing.Standing.{Standing}
use Rattle.sync_core.proofs.Kept.{both}
use Rattle.sync_job.specs.Fronts.{replayed}
use Rattle.sync_job.specs.Mirrors.{repository_by}
use Rattle.mirror_share.specs.Acceptable.{IsAcceptable, AreAcceptable, may_come, may_all_come}

either : {A : Type 0} (F : Bool → A) (b : Bool) → (F b ≡ F true) ⊎ (F b ≡ F false)
either F true = inl refl
either F false = inr refl

abbrev needs_lock : Bool → List (Option Need) → Option Need
needs_lock b more = first_of (fault_if (not b) need.NotHolder ∷ more)

-- of the lock a call's needs ask at most whether its seat holds it, or whether anybody does
unmet_as : (r : Standing) (holder : Option ℕ) (seat : ℕ) (call : Call) → (unmet r holder seat call ≡ unmet r (Some 0) 0 call) ⊎ (unmet r holder seat call ≡ unmet r None 0 call)
unmet_as r holder seat (Init url uuid props) = inr refl
unmet_as r holder seat (TakeLock token) = inr refl
unmet_as r holder seat (StealLock token) = either (λ b. first_of (fault_if (is_none r.url) need.NotInitialised ∷ fault_if b need.HolderRunning ∷ [])) (is_some holder)
unmet_as r holder seat ReleaseLock = either (λ b. needs_lock b []) (holds holder seat)
unmet_as r holder seat (SetCopying n) = either (λ b. needs_lock b (turn (is_absent r.copying && is_number r.merged r.head && (n == r.head + 1)) ∷ [])) (holds holder seat)
unmet_as r holder seat (Commit n set props) = either (λ b. needs_lock b (turn (is_number r.copying n && is_number r.merged r.head && (n == r.head + 1)) ∷ [])) (holds holder seat)
unmet_as r holder seat (PutProps n props) = either (λ b. needs_lock b (turn (reaches r.merged n || (is_number r.copying n && (n == r.head))) ∷ [])) (holds holder seat)
unmet_as r holder seat (SetMerged n) = either (λ b. needs_lock b (turn (is_number r.copying n && (n == r.head) && precedes r.merged n) ∷ [])) (holds holder seat)
unmet_as r holder seat ClearCopying = either (λ b. needs_lock b (turn (is_number r.copying r.head && is_number r.merged r.head) ∷ [])) (holds holder seat)
unmet_as r holder seat Look = inr refl

abbrev judged : List Revision → Call → Option Need → Option Refusal
judged x call n = first_of (option_map Missed n ∷ option_map OfRepository (option_and_then (by_repository x) (entry_of x call)) ∷ [])

second : (a : Bool) (b : Option Refusal) → b ≡ None → (a || is_none b) ≡ true
second true b e = refl
second false b e = ap (λ o. is_none o) e

-- a call of which nothing is refused may come
may_be : (r : Repository) (holder : Option ℕ) (seat : ℕ) (call : Call) → refusal (mirror_with r.revisions holder) seat call ≡ None → may_come r call ≡ true
may_be r holder seat call free = by (unmet_as (standing_of r.revisions) holder seat call)
  where
    by : (unmet (standing_of r.revisions) holder seat call ≡ unmet (standing_of r.revisions) (Some 0) 0 call) ⊎ (unmet (standing_of r.revisions) holder seat call ≡ unmet (standing_of r.revisions) None 0 call) → may_come r call ≡ true
    by (inl e) = ap (λ o. is_none o || is_none (refusal (mirror_with r.revisions None) 0 call)) (ap (judged r.revisions call) (sym e) ∙ free)
    by (inr e) = second (is_none (refusal (mirror_with r.revisions (Some 0)) 0 call)) (refusal (mirror_with r.revisions None) 0 call) (ap (judged r.revisions call) (sym e) ∙ free)

split : (a b : Option Refusal) → (is_none a || is_none b) ≡ true → (a ≡ None) ⊎ (b ≡ None)
split None b h = inl refl
split (Some x) None h = inr refl
split (Some x) (Some y) h = absurd (true≢false (sym h))

acceptable : (r : Repository) (call : Call) → may_come r call ≡ true → IsAcceptable r call
acceptable r call h = by (split (refusal (mirror_with r.revisions (Some 0)) 0 call) (refusal (mirror_with r.revisions None) 0 call) h)
  where
    by : (refusal (mirror_with r.revisions (Some 0)) 0 call ≡ None) ⊎ (refusal (mirror_with r.revisions None) 0 call ≡ None) → IsAcceptable r call
    by (inl e) = record { holder = Some 0; seat = 0; free = e }
    by (inr e) = record { holder = None; seat = 0; free = e }

pub all_acceptable : (r : Repository) (calls : List Call) → may_all_come r calls ≡ true → AreAcceptable r calls
all_acceptable r [] h = tt
all_acceptable r (c ∷ cs) h = let p = both (may_come r c) (may_all_come (repository_by r c) cs) h in (acceptable r c p.0, all_acceptable (repository_by r c) cs p.1)

and_true : (a b : Bool) → a ≡ true → b ≡ true → (a && b) ≡ true
and_true a b x y = ap (λ c. c && b) x ∙ y

came_on : (r : Repository) (calls : List Call) (c : Call) → may_all_come r calls ≡ true → may_come (replayed r calls) c ≡ true → may_all_come r (calls ++ c ∷ []) ≡ true
came_on r [] c h m = and_true (may_come r c) true m refl
came_on r (x ∷ xs) c h m =
    let p = both (may_come r x) (may_all_come (repository_by r x) xs) h in and_true (may_come r x) (may_all_come (repository_by r x) (xs ++ c ∷ [])) p.0 (came_on (repository_by r x) xs c p.1 m)

-- the kept calls with one more
pub came_more : (first before : Repository) (kept room now : List KeptCall) (one : KeptCall) (call : Call) (holder : Option ℕ) (seat : ℕ) → now ≡ room ++ one ∷ [] → room ≡ kept
    → may_all_come first (map call_in kept) ≡ true → before ≡ replayed first (map call_in kept) → call_in one ≡ call → refusal (mirror_with before.revisions holder) seat call ≡ None
    → may_all_come first (map call_in now) ≡ true
came_more first before kept room now one call holder seat pushed same came old is free =
    subst (λ cs. may_all_come first cs ≡ true) (sym (ap (map call_in) (pushed ∙ ap (λ xs. xs ++ one ∷ []) same) ∙ map-append call_in kept (one ∷ [])))
    (came_on first (map call_in kept) (call_in one) came
    (subst (λ c. may_come (replayed first (map call_in kept)) c ≡ true) (sym is) (subst (λ r. may_come r call ≡ true) old (may_be before holder seat call free))))
