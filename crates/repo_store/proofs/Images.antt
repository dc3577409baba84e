-- What images reopen to.
use Rattle.std.proofs.Common.{◌≡◌, ◌⊎◌, ℕ, List, sym, subst, inl, inr, arith}
use Rattle.std.proofs.Math.Logic.{∥∥₁_map}
use Rattle.fleet_disk.specs.Image.{Image}
use Rattle.fleet_disk.specs.Rules.{LeavesOnly}
use Rattle.gate_log.specs.Standing.{Stands}
use Rattle.repo_core.specs.Repository.{Revision}
use Rattle.repo_core.specs.Staging.{StagedEntry, IsReady}
use Rattle.repo_store.specs.Journal.{HasSet, Takes, StandsFor, ReopensTo}

-- an image in which the entries stand reopens
pub reopened : (entries : List (List ℕ)) (identity : List ℕ) (x : List Revision) (image : Image)
    → ∥ StandsFor entries identity x ∥₁ → Stands image entries → ReopensTo identity x image
reopened entries identity x image known stands = ∥∥₁_map known (λ s. (entries, stands, s))

-- what is ready is taken
pub takes_of : (x : List Revision) (s : StagedEntry) → IsReady x s → HasSet s.entry → Takes x s.entry
takes_of x s ready set = record { next = ready.next; set = set; accepted = ready.accepted }

-- nothing was done
pub unmoved : {D : Type 0} (clock : D → ℕ) (left_since : D → ℕ → Image → Type 0) (may_leave : D → Image → Type 0) (old new : D) (P : Image → Type 0)
    → new ≡ old → ((c : Image) → left_since old (clock old) c → may_leave old c) → ((c : Image) → may_leave old c → P c) → LeavesOnly clock left_since old new P
unmoved {D} clock left_since may_leave old new P same only f =
    subst (λ (d : D). LeavesOnly clock left_since old d P) (sym same) (record { later = omega arith; each = λ c h. f c (only c h); before = λ t c le h. inl h })

-- moments of which less is said
pub leaves_map : {D : Type 0} (clock : D → ℕ) (left_since : D → ℕ → Image → Type 0) (old new : D) (P Q : Image → Type 0)
    → ((c : Image) → P c → Q c) → LeavesOnly clock left_since old new P → LeavesOnly clock left_since old new Q
leaves_map clock left_since old new P Q f l =
    record { later = l.later; each = λ c h. f c (l.each c h); before = λ t c le h. weaker t c (l.before t c le h) }
  where
    weaker : (t : ℕ) (c : Image) → left_since old t c ⊎ P c → left_since old t c ⊎ Q c
    weaker t c (inl h) = inl h
    weaker t c (inr h) = inr (f c h)
