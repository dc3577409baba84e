-- How a run of calls of a disk goes on.
use Rattle.std.proofs.Common.{◌≤◌, inl, inr, ⊎_elim, ℕ, arith}
use Rattle.fleet_disk.specs.Image.{Image}
use Rattle.fleet_disk.specs.Rules.{Elapses, LeavesOnly, Within}

module _ {D : Type 0} (clock : D → ℕ) (left_since : D → ℕ → Image → Type 0) where
  -- before the first call
  pub started : (old : D) (P : Image → Type 0) → ((c : Image) → left_since old (clock old) c → P c) → LeavesOnly clock left_since old old P
  started old P here = record { later = omega arith; each = here; before = λ t c le left. inl left }

  -- one call more, after which a stop leaves what has P
  pub goes_on : (old mid new : D) (P may_leave : Image → Type 0) → LeavesOnly clock left_since old mid P → Elapses (clock mid) (clock new) (left_since mid) (left_since new) may_leave
      → ((c : Image) → may_leave c → P c) → LeavesOnly clock left_since old new P
  goes_on old mid new P may_leave so_far time here = record {
    later = omega (arith, so_far.later, time.later);
    each = λ c left. ⊎_elim (so_far.each c) (here c) (time.nothing_else (clock old) c so_far.later left);
    before = λ t c le left. ⊎_elim (so_far.before t c le) (λ now. inr (here c now)) (time.nothing_else t c (omega (arith, le, so_far.later)) left);
  }

  -- two runs of calls, one after the other
  pub joined : (old mid new : D) (P Q : Image → Type 0) → LeavesOnly clock left_since old mid P → LeavesOnly clock left_since mid new Q → ((c : Image) → Q c → P c) → LeavesOnly clock left_since old new P
  joined old mid new P Q first then inside = record {
    later = omega (arith, first.later, then.later);
    each = λ c left. ⊎_elim (first.each c) (inside c) (then.before (clock old) c first.later left);
    before = λ t c le left. ⊎_elim (first.before t c le) (λ q. inr (inside c q)) (then.before t c (omega (arith, le, first.later)) left);
  }

  -- what each image has more
  pub weaker : (old new : D) (P Q : Image → Type 0) → LeavesOnly clock left_since old new P → ((c : Image) → P c → Q c) → LeavesOnly clock left_since old new Q
  weaker old new P Q run inside = record {
    later = run.later;
    each = λ c left. inside c (run.each c left);
    before = λ t c le left. ⊎_elim (λ past. inl past) (λ p. inr (inside c p)) (run.before t c le left);
  }

module _ {D : Type 0} (clock : D → ℕ) (left_since : D → ℕ → Image → Type 0) (may_leave : D → Image → Type 0) where
  -- time goes on by two calls, of which the first leaves nothing else
  pub elapses_then : (a b c : D) → ((t : ℕ) (x : Image) → t ≤ clock a → may_leave a x → left_since a t x) → Within (may_leave b) (may_leave a) → Elapses (clock a) (clock b) (left_since a) (left_since b) (may_leave b)
      → Elapses (clock b) (clock c) (left_since b) (left_since c) (may_leave c) → Elapses (clock a) (clock c) (left_since a) (left_since c) (may_leave c)
  elapses_then a b c counts inside first then = record {
    later = omega (arith, first.later, then.later);
    nothing_else = λ t x le since. ⊎_elim (λ past. inl (⊎_elim (λ before. before) (λ now. counts t x le (inside x now)) (first.nothing_else t x le past))) (λ now. inr now) (then.nothing_else t x (omega (arith, le, first.later)) since);
    keeps = λ t x le past. then.keeps t x (omega (arith, le, first.later)) (first.keeps t x le past);
  }
