-- Which version an image has, and what a step of one file leaves of the others.
use Rattle.std.proofs.Common.{◌≡◌, ◌≢◌, ◌<◌, ◌≤◌, ◌+◌, ◌*◌, ◌⊎◌, inl, inr, ℕ, List, [], ◌∷◌, ◌++◌, length, get_or, refl, sym, ◌∙◌, ap, subst, arith, length-append}
use Rattle.fleet_disk.specs.declared.disk.DiskFile.TheVariants.{Journal, Gate, Slots}
use Rattle.fleet_disk.specs.Image.{Image}
use Rattle.fleet_disk.specs.Rules.{OnFile}
use Rattle.gate_log.specs.declared.version.LogVersion.{LogVersion}
use Rattle.gate_log.specs.declared.version.LogVersion.TheVariants.{First, Second}
use Rattle.gate_log.specs.Version.{file_of, gates_of, others_of, IsBegun, IsOf, IsBeside, IsIdle, IsCleared}
use Rattle.gate_log.specs.Slots.{slots}
use Rattle.gate_log.proofs.EndLemmas.{length-slots}

-- an image has one version
pub one_version : (v w : LogVersion) (image : Image) → IsOf v image → IsOf w image → v ≡ w
one_version First First image is also = refl
one_version First Second image is also = absurd (is also)
one_version Second First image is also = absurd (also is)
one_version Second Second image is also = refl

-- an entry begins `slots`
pub begun_by : (e : ℕ) (ends journal : List ℕ) (next : ℕ) (rest bytes : List ℕ) → bytes ≡ slots Second 0 (e ∷ ends) journal ++ next ∷ rest → IsBegun bytes
begun_by e ends journal next rest bytes is = (
  omega (arith, ap length is, length-append (slots Second 0 (e ∷ ends) journal) (next ∷ rest), length-slots Second 0 (e ∷ ends) journal),
  ap (λ (l : List ℕ). get_or l 0 0) is,
)

no_gate : (front gate rest : List ℕ) (next : ℕ) → gate ≡ front ++ next ∷ rest → gate ≡ [] → ⊥
no_gate front gate rest next is none = omega (arith, ap length is, ap length none, length-append front (next ∷ rest))

-- where the other file says nothing, the gates tell the version
pub idle_is : (v : LogVersion) (ends journal : List ℕ) (next : ℕ) (rest : List ℕ) (c : Image) → gates_of v c ≡ slots v 0 ends journal ++ next ∷ rest → next ≢ 1 → IsIdle v (others_of v c) → IsOf v c
idle_is First ends journal next rest c gates shut idle = λ second. elim second [
  | inl begun ↦ idle begun
  | inr none ↦ no_gate (slots First 0 ends journal) c.gate rest next gates none.0
]
idle_is Second [] journal next rest c gates shut idle = inr (idle, omega (arith, ap length gates), subst (λ (l : List ℕ). get_or l 0 0 ≢ 1) (sym gates) shut)
idle_is Second (e ∷ ends) journal next rest c gates shut idle = inl (begun_by e ends journal next rest c.slots gates)

-- where an entry stands, the version stays as long as `slots` does in the first
pub going_is : (v : LogVersion) (old c : Image) (ends journal : List ℕ) (next : ℕ) (rest : List ℕ) → 0 < length ends → gates_of v c ≡ slots v 0 ends journal ++ next ∷ rest → IsOf v old → (v ≡ First → c.slots ≡ old.slots) → IsOf v c
going_is First old c ends journal next rest some gates is same = λ second. elim second [
  | inl begun ↦ is (inl (subst (λ (l : List ℕ). IsBegun l) (same refl) begun))
  | inr none ↦ no_gate (slots First 0 ends journal) c.gate rest next gates none.0
]
going_is Second old c [] journal next rest some gates is same = absurd (omega (arith, some))
going_is Second old c (e ∷ ends) journal next rest some gates is same = inl (begun_by e ends journal next rest c.slots gates)

-- what an opening leaves of the other file says nothing
pub idle_after : (v : LogVersion) (old new : Image) → IsOf v old → IsCleared v old new → IsIdle v (others_of v new)
idle_after First old new is cleared = λ begun. is (inl (subst (λ (l : List ℕ). IsBegun l) cleared begun))
idle_after Second old new is cleared = cleared

-- a step of the journal
pub record JournalGoes (v : LogVersion) (step : List ℕ → List ℕ → Type 0) (old new : Image) : Type 0 where
  pub journal : step old.journal new.journal
  pub gates : gates_of v new ≡ gates_of v old
  pub others : others_of v new ≡ others_of v old

pub on_journal : (v : LogVersion) (step : List ℕ → List ℕ → Type 0) (old new : Image) → OnFile Journal step old new → JournalGoes v step old new
on_journal First step old new goes = record { journal = goes.0; gates = goes.1; others = goes.2 }
on_journal Second step old new goes = record { journal = goes.0; gates = goes.2; others = goes.1 }

-- a step of the file that has the gates
pub record GatesGo (v : LogVersion) (step : List ℕ → List ℕ → Type 0) (old new : Image) : Type 0 where
  pub gates : step (gates_of v old) (gates_of v new)
  pub journal : new.journal ≡ old.journal
  pub others : others_of v new ≡ others_of v old

pub on_gates : (v : LogVersion) (step : List ℕ → List ℕ → Type 0) (old new : Image) → OnFile (file_of v) step old new → GatesGo v step old new
on_gates First step old new goes = record { gates = goes.0; journal = goes.1; others = goes.2 }
on_gates Second step old new goes = record { gates = goes.0; journal = goes.1; others = goes.2 }

-- in the first version the other file is `slots`
pub first_others : (v : LogVersion) (old new : Image) → others_of v new ≡ others_of v old → v ≡ First → new.slots ≡ old.slots
first_others First old new same is = same
first_others Second old new same is = cc

-- beside an image the journal and the gates are the same
pub beside_journal : (v : LogVersion) (old new : Image) → IsBeside v old new → new.journal ≡ old.journal
beside_journal First old new is = ap (λ (i : Image). i.journal) is
beside_journal Second old new is = is.0

pub beside_gates : (v : LogVersion) (old new : Image) → IsBeside v old new → gates_of v new ≡ gates_of v old
beside_gates First old new is = ap (λ (i : Image). i.gate) is
beside_gates Second old new is = is.1

pub beside_first : (v : LogVersion) (old new : Image) → IsBeside v old new → v ≡ First → new.slots ≡ old.slots
beside_first First old new is first = ap (λ (i : Image). i.slots) is
beside_first Second old new is first = is.1

-- what an opening leaves of the other file, by its calls
pub cleared_by : (v : LogVersion) (old cut shut clear new : Image) → others_of v cut ≡ others_of v old → others_of v shut ≡ others_of v cut → IsCleared v shut clear → new ≡ clear → IsCleared v old new
cleared_by First old cut shut clear new first second cleared same = ap (λ (i : Image). i.slots) same ∙ cleared ∙ second ∙ first
cleared_by Second old cut shut clear new first second cleared same = ap (λ (i : Image). i.gate) same ∙ cleared
