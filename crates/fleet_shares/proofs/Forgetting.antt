-- What comes of orders over shares, once the names of their rows are gone.
use Rattle.std.proofs.Common.{◌≡◌, ◌⊎◌, inl, inr, ℕ, zero, suc, List, [], ◌∷◌, Option, Some, None, Result, Ok, Err, IfOk, Vec, is_some, ap, subst, ◌∙◌}
use Rattle.std.specs.List.{AllZip}
use Rattle.std.specs.declared.alloc.Global.{Global}
use Rattle.fleet_jobs.specs.Answers.{Answer}
use Rattle.fleet_jobs.specs.declared.order.Order.{Order}
use Rattle.node_base.specs.declared.refusal.Refusal.TheVariants.{NoRepository}
use Rattle.sync_core.specs.declared.fault.SyncFault.TheVariants.{Other}
use Rattle.mirror_share.specs.declared.share.MirrorShare.{MirrorShare}
use Rattle.store_share.specs.declared.share.MasterShare.{MasterShare}
use Rattle.fleet_shares.specs.Answers.{AnswersOn}
use Rattle.fleet_shares.specs.Given.{IsAnswerAt, IsAnswered}
use Rattle.fleet_shares.specs.Opening.{HasClosed, HasShares, HasStoresOf}
use Rattle.fleet_shares.specs.Ran.{HasEndedAt, IsAnswerIn}
use Rattle.fleet_shares.specs.Runners.{at_slot, has_at, shares_of, MayAnswer}
use Rattle.fleet_shares.specs.declared.runner.SharesRunner.{SharesRunner}
use Rattle.fleet_shares.specs.declared.shares.FleetShares.{FleetShares}
use Rattle.fleet_shares.specs.declared.stores.FleetStores.{FleetStores}
use Rattle.fleet_shares.specs.declared.stores.OpenedFleet.{OpenedFleet}

-- on a slot
ended_on : {M L D : Type 0} {m : _} {r : _} {g : _} (master : MasterShare M D m g) (slot : Option (MirrorShare L D r g)) (o : Order) (a : Answer) → AnswersOn master slot o a → IsAnswerAt (is_some slot) (HasEndedAt m r g o a) a
ended_on master None o a h = h
ended_on master (Some mirror) o (Ok n) h = (master, (mirror, h.0))
ended_on master (Some mirror) o (Err f) h = (master, (mirror, h))

pub all_so : (P Q : Order → Answer → Type 0) → ((o : Order) (a : Answer) → P o a → Q o a) → (os : List Order) (as' : List Answer) → AllZip P os as' → AllZip Q os as'
all_so P Q f [] [] h = tt
all_so P Q f [] (a ∷ as') h = absurd h
all_so P Q f (o ∷ os) [] h = absurd h
all_so P Q f (o ∷ os) (a ∷ as') h = (f o a h.0, all_so P Q f os as' h.1)

module _ {M L0 L1 L2 L3 D : Type 0} {m : _} {r0 : _} {r1 : _} {r2 : _} {r3 : _} {g : _} (s : FleetShares M L0 L1 L2 L3 D m r0 r1 r2 r3 g) where
  may_end : (k : ℕ) (o : Order) (a : Answer) → at_slot k (AnswersOn s.master s.first o a) (AnswersOn s.master s.second o a) (AnswersOn s.master s.third o a) (AnswersOn s.master s.fourth o a) (a ≡ Err (Other NoRepository))
      → IsAnswerAt (has_at k (is_some s.first) (is_some s.second) (is_some s.third) (is_some s.fourth)) (at_slot k (HasEndedAt m r0 g o a) (HasEndedAt m r1 g o a) (HasEndedAt m r2 g o a) (HasEndedAt m r3 g o a) ⊥) a
  may_end zero o a h = ended_on s.master s.first o a h
  may_end (suc zero) o a h = ended_on s.master s.second o a h
  may_end (suc (suc zero)) o a h = ended_on s.master s.third o a h
  may_end (suc (suc (suc zero))) o a h = ended_on s.master s.fourth o a h
  may_end (suc (suc (suc (suc n)))) o a h = h

  answered_in : (p : OpenedFleet D g) → is_some s.first ≡ is_some p.first → is_some s.second ≡ is_some p.second → is_some s.third ≡ is_some p.third → is_some s.fourth ≡ is_some p.fourth
      → (o : Order) (a : Answer) → MayAnswer s o a → IsAnswerIn m r0 r1 r2 r3 p o a
  answered_in p e0 e1 e2 e3 o a h =
      subst (λ b. IsAnswerAt b (at_slot o.mirror (HasEndedAt m r0 g o a) (HasEndedAt m r1 g o a) (HasEndedAt m r2 g o a) (HasEndedAt m r3 g o a) ⊥) a)
      (ap (λ b. has_at o.mirror b (is_some s.second) (is_some s.third) (is_some s.fourth)) e0
      ∙ (ap (λ b. has_at o.mirror (is_some p.first) b (is_some s.third) (is_some s.fourth)) e1
      ∙ (ap (λ b. has_at o.mirror (is_some p.first) (is_some p.second) b (is_some s.fourth)) e2
      ∙ ap (λ b. has_at o.mirror (is_some p.first) (is_some p.second) (is_some p.third) b) e3)))
      (may_end o.mirror o a h)

  pub all_answered_in : (p : OpenedFleet D g) → is_some s.first ≡ is_some p.first → is_some s.second ≡ is_some p.second → is_some s.third ≡ is_some p.third → is_some s.fourth ≡ is_some p.fourth
      → (os : List Order) (as' : List Answer) → AllZip (MayAnswer s) os as' → AllZip (IsAnswerIn m r0 r1 r2 r3 p) os as'
  all_answered_in p e0 e1 e2 e3 os as' h = all_so _ _ (answered_in p e0 e1 e2 e3) os as' h

  -- the same of an answer, over shares that were made of these stores
  pub shared_in : {E : Type 0} (t : FleetShares M L0 L1 L2 L3 D m r0 r1 r2 r3 g) (p : OpenedFleet D g) → s ≡ t → HasShares p t
      → (os : List Order) (r : Result (Vec Answer Global) E) → IfOk r (λ xs. AllZip (MayAnswer s) os xs.items) → IfOk r (λ xs. AllZip (IsAnswerIn m r0 r1 r2 r3 p) os xs.items)
  shared_in t p e slots os (Ok xs) h =
      all_answered_in p
      (ap (λ (x : FleetShares M L0 L1 L2 L3 D m r0 r1 r2 r3 g). is_some x.first) e ∙ slots.0)
      (ap (λ (x : FleetShares M L0 L1 L2 L3 D m r0 r1 r2 r3 g). is_some x.second) e ∙ slots.1)
      (ap (λ (x : FleetShares M L0 L1 L2 L3 D m r0 r1 r2 r3 g). is_some x.third) e ∙ slots.2)
      (ap (λ (x : FleetShares M L0 L1 L2 L3 D m r0 r1 r2 r3 g). is_some x.fourth) e ∙ slots.3)
      os xs.items h
  shared_in t p e slots os (Err f) h = tt

  -- and the stores of such shares are in the slots of those
  pub closed_in : (t : FleetShares M L0 L1 L2 L3 D m r0 r1 r2 r3 g) (p : OpenedFleet D g) (stores : FleetStores D g) → s ≡ t → HasShares p t → HasClosed s stores → HasStoresOf p stores
  closed_in t p stores e slots back = (
    back.0 ∙ (ap (λ (x : FleetShares M L0 L1 L2 L3 D m r0 r1 r2 r3 g). is_some x.first) e ∙ slots.0),
    back.1 ∙ (ap (λ (x : FleetShares M L0 L1 L2 L3 D m r0 r1 r2 r3 g). is_some x.second) e ∙ slots.1),
    back.2 ∙ (ap (λ (x : FleetShares M L0 L1 L2 L3 D m r0 r1 r2 r3 g). is_some x.third) e ∙ slots.2),
    back.3 ∙ (ap (λ (x : FleetShares M L0 L1 L2 L3 D m r0 r1 r2 r3 g). is_some x.fourth) e ∙ slots.3),
  )

  -- a fleet's answers are those of the shares that its runner has, whoever ran the jobs
  pub over_shares : (runner later own : SharesRunner M L0 L1 L2 L3 D m r0 r1 r2 r3 g) (os : List Order) (xs : List Answer) → later ≡ runner → shares_of runner ≡ s → shares_of own ≡ s
      → AllZip (IsAnswered (MayAnswer (shares_of later)) (MayAnswer (shares_of own))) os xs → AllZip (MayAnswer s) os xs
  over_shares runner later own os xs same e i h = all_so _ _ either os xs h
    where
      either : (o : Order) (a : Answer) → MayAnswer (shares_of later) o a ⊎ MayAnswer (shares_of own) o a → MayAnswer s o a
      either o a (inl may) = subst (λ (x : FleetShares M L0 L1 L2 L3 D m r0 r1 r2 r3 g). MayAnswer x o a) (ap (λ (x : SharesRunner M L0 L1 L2 L3 D m r0 r1 r2 r3 g). shares_of x) same ∙ e) may
      either o a (inr may) = subst (λ (x : FleetShares M L0 L1 L2 L3 D m r0 r1 r2 r3 g). MayAnswer x o a) i may
