-- What the runner over shares says of its jobs.
use Rattle.std.specs.Prelude.{◌≡◌, ℕ, zero, suc, Bool, false, is_some, Err}
use Rattle.std.specs.Arc.{arc_value}
use Rattle.fleet_jobs.specs.Answers.{Answer}
use Rattle.fleet_jobs.specs.declared.order.Order.{Order}
use Rattle.node_base.specs.declared.refusal.Refusal.TheVariants.{NoRepository}
use Rattle.sync_core.specs.declared.fault.SyncFault.TheVariants.{Other}
use Rattle.fleet_shares.specs.Answers.{AnswersOn}
use Rattle.fleet_shares.specs.declared.runner.SharesRunner.{SharesRunner}
use Rattle.fleet_shares.specs.declared.shares.FleetShares.{FleetShares}

-- what there is in the slot of a number, of four
abbrev pub at_slot : {A : Type 1} → ℕ → A → A → A → A → A → A
at_slot zero a b c d none = a
at_slot (suc zero) a b c d none = b
at_slot (suc (suc zero)) a b c d none = c
at_slot (suc (suc (suc zero))) a b c d none = d
at_slot (suc (suc (suc (suc n)))) a b c d none = none

-- whether the slot has a mirror
abbrev pub has_at : ℕ → Bool → Bool → Bool → Bool → Bool
has_at zero a b c d = a
has_at (suc zero) a b c d = b
has_at (suc (suc zero)) a b c d = c
has_at (suc (suc (suc zero))) a b c d = d
has_at (suc (suc (suc (suc n)))) a b c d = false

abbrev pub has_mirror : {M L0 L1 L2 L3 D : Type 0} {m : _} {r0 : _} {r1 : _} {r2 : _} {r3 : _} {g : _} → FleetShares M L0 L1 L2 L3 D m r0 r1 r2 r3 g → ℕ → Bool
has_mirror s slot = has_at slot (is_some s.first) (is_some s.second) (is_some s.third) (is_some s.fourth)

-- what the job of an order may answer: what it may on the mirror of its slot, and of no slot NoRepository (34)
abbrev pub MayAnswer : {M L0 L1 L2 L3 D : Type 0} {m : _} {r0 : _} {r1 : _} {r2 : _} {r3 : _} {g : _} → FleetShares M L0 L1 L2 L3 D m r0 r1 r2 r3 g → Order → Answer → Type 0
MayAnswer s order answer =
    at_slot order.mirror (AnswersOn s.master s.first order answer) (AnswersOn s.master s.second order answer) (AnswersOn s.master s.third order answer) (AnswersOn s.master s.fourth order answer)
    (answer ≡ Err (Other NoRepository))

-- the shares of a runner
abbrev pub shares_of : {M L0 L1 L2 L3 D : Type 0} {m : _} {r0 : _} {r1 : _} {r2 : _} {r3 : _} {g : _} → SharesRunner M L0 L1 L2 L3 D m r0 r1 r2 r3 g → FleetShares M L0 L1 L2 L3 D m r0 r1 r2 r3 g
shares_of runner = arc_value runner.shares
