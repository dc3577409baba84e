-- A disk that is synced, looked at and cut.
use Rattle.std.proofs.Common.{◌⊎◌, inl, inr, ℕ, List, sym, subst, Result, Ok, Err, OnErr}
use Rattle.fleet_disk.specs.Image.{Image}
use Rattle.fleet_disk.specs.Rules.{Only, LeavesOnly, Settles}
use Rattle.fleet_disk.specs.declared.disk.Disk.{Ghosts}
use Rattle.fleet_disk.proofs.Moments.{joined, weaker}
use Rattle.gate_log.specs.declared.version.LogVersion.{LogVersion}
use Rattle.gate_log.specs.Recovered.{OpensThrough}
use Rattle.gate_log.specs.Standing.{Stands, StandsAlike, StandsAs}
use Rattle.gate_log.specs.Version.{HaveOneVersion, IsOf}
use Rattle.gate_log.proofs.Alike.{one_list}

-- from its sync on a stop leaves what stands as the image that was synced
pub settles : {D : Type 0} (may_leave : D → Image → Type 0) (clock : D → ℕ) (left_since : D → ℕ → Image → Type 0) (old synced looked new : D) (rest : Image) (entries : List (List ℕ))
    → LeavesOnly clock left_since old synced (may_leave old) → Only rest (may_leave synced) → LeavesOnly clock left_since synced looked (may_leave synced)
    → Stands rest entries → LeavesOnly clock left_since looked new (λ f. Stands f entries) → Settles may_leave clock left_since old new (StandsAs rest)
settles may_leave clock left_since old synced looked new rest entries until only looks stands cut = record {
  settled = synced;
  until = until;
  since = joined clock left_since synced looked new (StandsAs rest) (λ f. Stands f entries)
      (weaker clock left_since synced looked (may_leave synced) (StandsAs rest) looks (λ f left others also. subst (λ (i : Image). Stands i others) (sym (only f left)) also))
      cut
      (λ f left others also. subst (λ (l : List (List ℕ)). Stands f l) (one_list rest entries others stands also) left);
}

-- up to its cuts it leaves what it could leave at first, and from then on what was read, in its version
pub opens_through : {D : Type 0} (G : Ghosts D) (old looked new : D) (v : LogVersion) (entries : List (List ℕ)) → (G.honest old → LeavesOnly G.clock G.left_since old looked (G.may_leave old))
    → (G.honest old → IsOf v (G.reads old)) → (G.honest old → Stands (G.reads old) entries) → (G.honest old → LeavesOnly G.clock G.left_since looked new (λ f. Stands f entries × IsOf v f)) → OpensThrough G old new
opens_through G old looked new v entries until is stands cut = record {
  entries = λ h. joined G.clock G.left_since old looked new (λ f. G.may_leave old f ⊎ StandsAlike (G.reads old) f) (λ f. Stands f entries × IsOf v f)
      (weaker G.clock G.left_since old looked (G.may_leave old) (λ f. G.may_leave old f ⊎ StandsAlike (G.reads old) f) (until h) (λ f left. inl left)) (cut h) (λ f left. inr (entries, stands h, left.0));
  version = λ h. joined G.clock G.left_since old looked new (λ f. G.may_leave old f ⊎ HaveOneVersion (G.reads old) f) (λ f. Stands f entries × IsOf v f)
      (weaker G.clock G.left_since old looked (G.may_leave old) (λ f. G.may_leave old f ⊎ HaveOneVersion (G.reads old) f) (until h) (λ f left. inl left)) (cut h) (λ f left. inr (v, is h, left.1));
}

-- what holds of an error when it holds anyway
pub on_err : {T E : Type 0} (P : Type 0) (result : Result T E) → P → OnErr result P
on_err P (Ok value) holds = tt
on_err P (Err error) holds = holds
