-- An upgrade of a store's log, and what is told of it.
use Rattle.std.proofs.Common.{◌≡◌, ◌⊎◌, ℕ, List, ◌++◌, length, Option, Result, Ok, Err, IfErr, codes, inl, inr, refl, sym, ap, subst, ◌∙◌, arith}
use Rattle.std.specs.Fmt.{decimal}
use Rattle.std.specs.Result.{OnOk, OnErr}
use Rattle.std.specs.Io.KnownBytes.{Appends}
use Rattle.fleet_disk.specs.Image.{Image}
use Rattle.fleet_disk.specs.declared.disk.Disk.{Ghosts}
use Rattle.gate_log.specs.Log.{entries_of, version_of}
use Rattle.gate_log.specs.declared.fault.LogFault.TheVariants as log
use Rattle.gate_log.specs.declared.version.LogVersion.{LogVersion}
use Rattle.gate_log.specs.declared.version.LogVersion.TheVariants.{First, Second}
use Rattle.node_base.specs.Refusals.{refusal_number}
use Rattle.node_base.specs.declared.refusal.Refusal.{Refusal}
use Rattle.node_base.specs.declared.refusal.Refusal.TheVariants as refusal
use Rattle.repo_store.specs.Openings.{IsUpgraded as IsMade, NotUpgraded as NotMade}
use Rattle.repo_store.specs.Words.{disk_of, log_of, HasFailed}
use Rattle.repo_store.specs.declared.fault.StoreFault.{StoreFault}
use Rattle.repo_store.specs.declared.fault.StoreFault.TheVariants.{Log}
use Rattle.repo_store.specs.declared.store.RepoStore.{RepoStore}
use Rattle.store_engines.specs.Refusals.{store_refusal}
use Rattle.store_engines.specs.Upgrades.{count_given, upgraded_line, HasSums, IsSpared, IsUpgraded, NotUpgraded}
use Rattle.store_engines.proofs.Devices.{device_was, failed_was}

-- the answer of an upgrade is how many entries were given sums
counted : {A : Type 0} (version : LogVersion) (entries : List (List ℕ)) (n : ℕ) → (version ≡ First → n ≡ length entries) → (version ≡ Second → A × (n ≡ 0)) → n ≡ count_given version entries
counted First entries n first second = first refl
counted Second entries n first second = (second refl).1

peer_or_device : refusal.PeerFailed ≡ refusal.DeviceFailed → ⊥
peer_or_device e = let n : ◌≡◌ {A = ℕ} 49 31 = ap refusal_number e in let no : ⊥ = omega (arith, n) in no

peer_or_failed : refusal.PeerFailed ≡ refusal.Failed → ⊥
peer_or_failed e = let n : ◌≡◌ {A = ℕ} 49 32 = ap refusal_number e in let no : ⊥ = omega (arith, n) in no

peer_or_memory : refusal.PeerFailed ≡ refusal.OutOfMemory → ⊥
peer_or_memory e = let n : ◌≡◌ {A = ℕ} 49 70 = ap refusal_number e in let no : ⊥ = omega (arith, n) in no

device_or_memory : refusal.DeviceFailed ≡ refusal.OutOfMemory → ⊥
device_or_memory e = let n : ◌≡◌ {A = ℕ} 31 70 = ap refusal_number e in let no : ⊥ = omega (arith, n) in no

failed_or_memory : refusal.Failed ≡ refusal.OutOfMemory → ⊥
failed_or_memory e = let n : ◌≡◌ {A = ℕ} 32 70 = ap refusal_number e in let no : ⊥ = omega (arith, n) in no

-- what an upgrade that is Ok leaves of the disk
module _ {D : Type 0} {G : Ghosts D} (old new : RepoStore D G) (n : ℕ) (back : D) (same : back ≡ disk_of new) (made : IsMade old (new, n)) where
  spared : IsSpared old back
  spared = subst (λ b. IsSpared old b) (sym same) (record { honest = made.honest; later = made.later; any_moment = made.any_moment })

  left : G.honest (disk_of old) → ¬ HasFailed old → (image : Image) → G.may_leave back image → HasSums old image
  left h w image may = let m = subst (λ b. G.may_leave b image) same may in (made.second h image m, made.stand h w image m, made.durable h image m)

  pub upgrade_told : (r : Result (Unit {0}) Refusal) (before now : Option (List ℕ)) → OnOk r (Appends before now (codes "Upgraded " ++ (decimal n ++ codes " entries.\n"))) → OnOk r (IsUpgraded before now old back)
  upgrade_told (Ok u) before now told = record {
    spared = spared;
    already = λ v. same ∙ (made.already v).0;
    told = subst (λ k. Appends before now (upgraded_line k)) (counted (version_of (log_of old)) (entries_of (log_of old)) n made.count made.already) told;
    left = left;
  }
  upgrade_told (Err e) before now told = tt

  -- whose line can't be written
  pub upgrade_unsaid : (r : Result (Unit {0}) Refusal) (before now : Option (List ℕ)) (fails : Type 0) → IfErr r (λ e. e ≡ refusal.PeerFailed) → OnErr r fails → IfErr r (λ e. NotUpgraded before now fails e old back)
  upgrade_unsaid (Ok u) before now fails peer lost = tt
  upgrade_unsaid (Err e) before now fails peer lost = record {
    spared = spared;
    due = λ h. inr (inr (inr peer));
    device = λ d. absurd (peer_or_device (sym peer ∙ d));
    failed = λ d. absurd (peer_or_failed (sym peer ∙ d));
    looks = λ d. absurd (peer_or_memory (sym peer ∙ d));
    quiet = λ other. absurd (other peer);
    unsaid = λ p. lost;
    done = λ p. left;
    left = λ h w image may. (left h w image may).2;
  }

-- one that isn't made
due_of : (f : StoreFault) (e : Refusal) → e ≡ store_refusal f → (f ≡ Log log.DeviceFailed) ⊎ (f ≡ Log log.Failed) ⊎ (f ≡ Log log.OutOfMemory)
    → (e ≡ refusal.DeviceFailed) ⊎ (e ≡ refusal.Failed) ⊎ (e ≡ refusal.OutOfMemory) ⊎ (e ≡ refusal.PeerFailed)
due_of f e is (inl p) = inl (is ∙ ap store_refusal p)
due_of f e is (inr (inl p)) = inr (inl (is ∙ ap store_refusal p))
due_of f e is (inr (inr p)) = inr (inr (inl (is ∙ ap store_refusal p)))

looked_at : {P : Type 0} (f : StoreFault) (e : Refusal) → e ≡ store_refusal f → (f ≡ Log log.DeviceFailed) ⊎ (f ≡ Log log.Failed) ⊎ P → e ≡ refusal.OutOfMemory → P
looked_at f e is (inl p) d = absurd (device_or_memory (sym (is ∙ ap store_refusal p) ∙ d))
looked_at f e is (inr (inl p)) d = absurd (failed_or_memory (sym (is ∙ ap store_refusal p) ∙ d))
looked_at f e is (inr (inr p)) d = p

pub upgrade_refused : {D : Type 0} {G : Ghosts D} (old : RepoStore D G) (back : D) (f : StoreFault) (e : Refusal) (before : Option (List ℕ)) (fails : Type 0) → e ≡ store_refusal f → (e ≡ refusal.PeerFailed → ⊥)
    → NotMade old (f, back) → NotUpgraded before before fails e old back
upgrade_refused old back f e before fails is no_peer made = record {
  spared = record { honest = made.honest; later = made.later; any_moment = made.any_moment };
  due = λ h. due_of f e is (made.no_other h);
  device = λ d. made.device (device_was f (sym is ∙ d));
  failed = λ d. let was = made.failed.0 (failed_was f (sym is ∙ d)) in (was, made.stays was);
  looks = looked_at f e is made.looks;
  quiet = λ other. refl;
  unsaid = λ p. absurd (no_peer p);
  done = λ p. absurd (no_peer p);
  left = made.kept;
}
