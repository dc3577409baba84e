-- The table of a mirror's calls in words: what each needs, and how the shapes follow one another.
use Rattle.std.specs.Prelude.{◌≡◌, ℕ, ◌+◌, ◌<◌, ◌≤◌, ◌⊎◌, ◌↔◌, length, Option, Some, None, IsSome}
use Rattle.sync_core.specs.declared.resting.Resting.TheVariants as resting
use Rattle.sync_core.specs.Names.{Number, Absent, Misspelt, Spelt, Huge}
use Rattle.sync_core.specs.Mirror.{Mirror, Standing, standing_of, Resting, HasShape, Call, Init, TakeLock, StealLock, ReleaseLock, SetCopying, Commit, PutProps, SetMerged, ClearCopying, Look, unmet, refusal, revisions_by}

-- n is at most this number
abbrev pub IsAtMost : ℕ → Number → Type 0
IsAtMost n Absent = ⊥
IsAtMost n Misspelt = ⊥
IsAtMost n (Spelt k) = n ≤ k
IsAtMost n Huge = Unit {0}

abbrev pub IsIn : Resting → Standing → Type 0
IsIn shape r = HasShape shape r.merged r.copying r.head

-- what a call needs: of its caller, and of how the mirror stands
abbrev pub Needs : Standing → Option ℕ → ℕ → Call → Type 0
Needs r holder seat (Init url uuid props) = (r.url ≡ None) × (r.head ≡ 0)
Needs r holder seat (TakeLock token) = IsSome r.url × (r.lock ≡ None)
Needs r holder seat (StealLock token) = IsSome r.url × (holder ≡ None)
Needs r holder seat ReleaseLock = holder ≡ Some seat
Needs r holder seat (SetCopying n) = (holder ≡ Some seat) × IsIn resting.Idle r × (n ≡ r.head + 1)
Needs r holder seat (Commit n set props) = (holder ≡ Some seat) × IsIn (resting.Copying n) r
Needs r holder seat (PutProps n props) = (holder ≡ Some seat) × (IsAtMost n r.merged ⊎ ((r.copying ≡ Spelt n) × (n ≡ r.head)))
Needs r holder seat (SetMerged n) = (holder ≡ Some seat) × IsIn (resting.Committed n) r
Needs r holder seat ClearCopying = (holder ≡ Some seat) × IsIn resting.Merged r
Needs r holder seat Look = Unit {0}

-- a call misses no need just where these hold
abbrev pub NeedsAreMet : Type 0
NeedsAreMet = (r : Standing) (holder : Option ℕ) (seat : ℕ) (call : Call) → (unmet r holder seat call ≡ None) ↔ Needs r holder seat call

-- the shape after a call
abbrev pub turned : Resting → Call → Resting
turned shape (Init url uuid props) = resting.Idle
turned shape (SetCopying n) = resting.Copying n
turned shape (Commit n set props) = resting.Committed n
turned shape (SetMerged n) = resting.Merged
turned shape ClearCopying = resting.Idle
turned shape _ = shape

-- an initialised mirror at rest in a shape is at rest after each call that it accepts: idle, copying, committed, merged, idle
abbrev pub ShapesTurn : Type 0
ShapesTurn =
    (m : Mirror) (seat : ℕ) (call : Call) (shape : Resting) → 0 < length m.revisions → length m.revisions ≤ 65536 → IsSome (standing_of m.revisions).url
    → IsIn shape (standing_of m.revisions) → refusal m seat call ≡ None → IsIn (turned shape call) (standing_of (revisions_by m.revisions call))
