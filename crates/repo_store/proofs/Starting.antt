-- The calls that begin a store.
use Rattle.std.proofs.Common.{◌≡◌, ◌⊎◌, ◌∙◌, ap, arith, inl, inr, ℕ, List, [], subst, sym}
use Rattle.fleet_disk.specs.Image.{Image}
use Rattle.fleet_disk.specs.Rules.{LeavesOnly}
use Rattle.fleet_disk.proofs.Moments.{joined, weaker}
use Rattle.gate_log.specs.Faults.{number_of}
use Rattle.gate_log.specs.Standing.{IsBlank, IsEither}
use Rattle.gate_log.specs.declared.fault.LogFault.{LogFault}
use Rattle.gate_log.specs.declared.fault.LogFault.TheVariants.{DeviceFailed, OutOfMemory, ThereAlready}

module _ {D : Type 0} (clock : D → ℕ) (left_since : D → ℕ → Image → Type 0) (first : List ℕ) where
  abbrev Begins : Image → Type 0
  Begins image = IsBlank image ⊎ IsEither [] first image

  -- a log is begun
  pub blank : (old new : D) → LeavesOnly clock left_since old new IsBlank → LeavesOnly clock left_since old new Begins
  blank old new run = weaker clock left_since old new IsBlank Begins run (λ image is. inl is)

  -- and its first entry is appended
  pub one_entry : (old mid new : D) (entries : List (List ℕ)) (bytes : List ℕ) → entries ≡ [] → bytes ≡ first
      → LeavesOnly clock left_since old mid IsBlank → LeavesOnly clock left_since mid new (IsEither entries bytes) → LeavesOnly clock left_since old new Begins
  one_entry old mid new entries bytes none same began added =
      joined clock left_since old mid new Begins (IsEither entries bytes) (blank old mid began) added
      (λ image is. inr (subst (λ (l : List (List ℕ)). IsEither l first image) none (subst (λ (b : List ℕ). IsEither entries b image) same is)))

-- a failure of the device is neither that something is there nor want of memory
pub failed_alone : (f : LogFault) → f ≡ DeviceFailed → (f ≡ ThereAlready) ⊎ (f ≡ OutOfMemory) → ⊥
failed_alone f is (inl other) = let n : ◌≡◌ {A = ℕ} 31 35 = ap number_of (sym is ∙ other) in let no : ⊥ = omega (arith, n) in no
failed_alone f is (inr other) = let n : ◌≡◌ {A = ℕ} 31 70 = ap number_of (sym is ∙ other) in let no : ⊥ = omega (arith, n) in no
