-- What is told of each mirror is so of its answer and of its store.
use Rattle.std.proofs.Common.{◌≡◌, inl, inr, ℕ, zero, suc, ◌+◌, Bool, true, false, List, [], ◌∷◌, ◌++◌, append_assoc, length, map, Option, Some, None, Result, Ok, Err, IfOk, IfSome, Vec, is_some, refl, sym, ap, subst, ◌∙◌}
use Rattle.std.specs.List.{AllZip, range_with_len}
use Rattle.std.specs.Option.{option_map, option_to_list}
use Rattle.std.specs.declared.alloc.Global.{Global}
use Rattle.std.proofs.lemmas.Bool.{true≢false}
use Rattle.fleet_disk.specs.declared.disk.Disk.{Ghosts}
use Rattle.fleet_jobs.specs.Answers.{Answer}
use Rattle.fleet_jobs.specs.declared.order.Order.{Order}
use Rattle.node_base.specs.declared.refusal.Refusal.{Refusal}
use Rattle.repo_core.specs.Repository.{head_of}
use Rattle.repo_store.specs.Words.{revisions_of}
use Rattle.repo_store.specs.declared.store.RepoStore.{RepoStore}
use Rattle.fleet_shares.specs.Closing.{IsJudged}
use Rattle.fleet_shares.specs.Given.{IsAnswerAt}
use Rattle.mirror_share.specs.Names.{IsNamed}
use Rattle.mirror_share.specs.declared.opened.OpenedMirror.{OpenedMirror}
use Rattle.fleet_shares.specs.Opening.{cells_at, ledgers_at, HasOpened}
use Rattle.fleet_shares.specs.Orders.{sync_order}
use Rattle.fleet_shares.specs.Ran.{named_by, HasEnded, HasEndedAt, IsAnswerIn}
use Rattle.fleet_shares.specs.Runners.{at_slot}
use Rattle.fleet_shares.specs.Stores.{store_at}
use Rattle.fleet_shares.specs.Told.{head_at, stand, stands, tell, tell_next, tells, AreTold, IsAnswerOver, IsTold, SameSlots}
use Rattle.fleet_shares.specs.declared.stores.FleetStores.{FleetStores}
use Rattle.fleet_shares.specs.declared.stores.OpenedFleet.{OpenedFleet}
use Rattle.fleet_shares.proofs.Forgetting.{all_so}
use Rattle.fleet_shares.proofs.Slots.{has_some}

-- of a slot's store, with no refusal
told_of : {D : Type 0} {g : _} (Judged : Bool → Type 0) (order : Order) (store : Option (RepoStore D g)) (has up : Bool) (a : Answer) → is_some store ≡ has → Judged up → IsAnswerAt has (HasEnded g order a) a
    → IsTold g Judged order (stand None (option_map (λ s. head_of (revisions_of s)) store)) (tell (stand None (option_map (λ s. head_of (revisions_of s)) store)) up a)
told_of Judged order None has up a e j h = refl
told_of Judged order (Some s) false up a e j h = absurd (true≢false e)
told_of Judged order (Some s) true true (Ok n) e j ended = (ended, refl, j)
told_of Judged order (Some s) true false (Ok n) e j ended = inr (refl, ended, j)
told_of Judged order (Some s) true up (Err f) e j ended = inl ended

module _ {D : Type 0} {g : _} (old new : FleetStores D g) (same : SameSlots old new) (up : ℕ → Bool) (judged : (slot : ℕ) → IsJudged old new slot (up slot)) where
  told_one : (slot : ℕ) (r : Option Refusal) (a : Answer) → IsAnswerOver old (sync_order slot) a → IsTold g (IsJudged old new slot) (sync_order slot) (stand r (head_at new slot)) (tell (stand r (head_at new slot)) (up slot) a)
  told_one slot (Some e) a h = refl
  told_one slot None a h = told_of (IsJudged old new slot) (sync_order slot) (store_at new slot) (is_some (store_at old slot)) (up slot) a (same slot) (judged slot) h

  told_all : (slot : ℕ) (rs : List (Option Refusal)) (answers : List Answer) → AllZip (IsAnswerOver old) (map sync_order (range_with_len slot (length rs))) answers
      → AreTold g (IsJudged old new) slot (stands slot rs new) (tells up slot (stands slot rs new) answers)
  told_all slot [] [] h = tt
  told_all slot [] (a ∷ more) h = absurd h
  told_all slot (r ∷ rs) [] h = absurd h
  told_all slot (r ∷ rs) (a ∷ more) h = (told_one slot r a h.0, told_all (slot + 1) rs more h.1)

  -- of the orders of all slots
  pub all_told : (rs : List (Option Refusal)) (count : ℕ) (orders : List Order) (answers told : List Answer) → count ≡ length rs → orders ≡ map sync_order (range_with_len 0 count)
      → AllZip (IsAnswerOver old) orders answers → told ≡ tells up 0 (stands 0 rs new) answers → AreTold g (IsJudged old new) 0 (stands 0 rs new) told
  all_told rs count orders answers told counted ordered h e =
      subst (AreTold g (IsJudged old new) 0 (stands 0 rs new)) (sym e)
      (told_all 0 rs answers (subst (λ os. AllZip (IsAnswerOver old) os answers) (ordered ∙ ap (λ n. map sync_order (range_with_len 0 n)) counted) h))

-- the answers over opened stores are those over the stores
named : {D : Type 0} (g : Ghosts D) (m r0 r1 r2 r3 : List ℕ) (k : ℕ) (o : Order) (a : Answer)
    → at_slot k (HasEndedAt (named_by m) (named_by r0) g o a) (HasEndedAt (named_by m) (named_by r1) g o a) (HasEndedAt (named_by m) (named_by r2) g o a) (HasEndedAt (named_by m) (named_by r3) g o a) ⊥ → HasEnded g o a
named g m r0 r1 r2 r3 zero o a h = (m, (r0, h))
named g m r0 r1 r2 r3 (suc zero) o a h = (m, (r1, h))
named g m r0 r1 r2 r3 (suc (suc zero)) o a h = (m, (r2, h))
named g m r0 r1 r2 r3 (suc (suc (suc zero))) o a h = (m, (r3, h))
named g m r0 r1 r2 r3 (suc (suc (suc (suc n)))) o a h = absurd h

answer_so : (b : Bool) (P Q : Type 0) (a : Answer) → (P → Q) → IsAnswerAt b P a → IsAnswerAt b Q a
answer_so false P Q a f h = h
answer_so true P Q a f p = f p

over_stores : {D : Type 0} {g : _} (m r0 r1 r2 r3 : List ℕ) (stores : FleetStores D g) (opened : OpenedFleet D g) → HasOpened (is_some stores.first) (is_some stores.second) (is_some stores.third) (is_some stores.fourth) opened
    → (o : Order) (a : Answer) → IsAnswerIn (named_by m) (named_by r0) (named_by r1) (named_by r2) (named_by r3) opened o a → IsAnswerOver stores o a
over_stores {g = g} m r0 r1 r2 r3 stores opened same o a h =
    subst (λ b. IsAnswerAt b (HasEnded g o a) a) (sym (has_some stores _ _ _ _ (sym same.0, sym same.1, sym same.2, sym same.3) o.mirror)) (answer_so _ _ _ a (named g m r0 r1 r2 r3 o.mirror o a) h)

pub answered_over : {D : Type 0} {g : _} {T E : Type 0} (m r0 r1 r2 r3 : List ℕ) (stores : FleetStores D g) (opened : OpenedFleet D g) (os : List Order) (r : Result (Vec Answer Global × T) E)
    → HasOpened (is_some stores.first) (is_some stores.second) (is_some stores.third) (is_some stores.fourth) opened
    → IfOk r (λ xs. AllZip (IsAnswerIn (named_by m) (named_by r0) (named_by r1) (named_by r2) (named_by r3) opened) os xs.0.items) → IfOk r (λ xs. AllZip (IsAnswerOver stores) os xs.0.items)
answered_over m r0 r1 r2 r3 stores opened os (Ok xs) same h = all_so _ _ (over_stores m r0 r1 r2 r3 stores opened same) os xs.0.items h
answered_over m r0 r1 r2 r3 stores opened os (Err e) same h = tt

pub of_ok : {T E : Type 0} (r : Result T E) (x : T) (P : T → Type 0) → r ≡ Ok x → IfOk r P → P x
of_ok {T} {E} r x P e h = subst (λ (k : Result T E). IfOk k P) e h

-- a slot's mirror has its own names
pub own_names : (L : Type 0) {D : Type 0} {g : _} (slot : Option (OpenedMirror D g))
    → IfSome slot (λ o. IsNamed o (cells_at slot) (ledgers_at {L = L} slot).merged (ledgers_at {L = L} slot).copying (ledgers_at {L = L} slot).head (ledgers_at {L = L} slot).holder)
own_names L None = tt
own_names L (Some mirror) = (refl, (refl, refl, refl, refl))

-- one more is told
told_next : (up : ℕ → Bool) (k : ℕ) (ss : List (Result ℕ Refusal)) (s : Result ℕ Refusal) (before after : List Answer) (o : Option Answer) → (o ≡ None → (before ≡ []) × (after ≡ [])) → before ≡ option_to_list o ++ after
    → tells up k (s ∷ ss) before ≡ tell_next s (up k) o ∷ tells up (k + 1) ss after
told_next up k ss s before after None none is = ap (tells up k (s ∷ ss)) (none refl).0 ∙ ap (λ xs. tell_next s (up k) None ∷ tells up (k + 1) ss xs) (sym (none refl).1)
told_next up k ss s before after (Some a) none is = ap (tells up k (s ∷ ss)) is

pub told_step : {D : Type 0} {g : _} (stores : FleetStores D g) (up : ℕ → Bool) (told pushed : List Answer) (n len m : ℕ) (head : Option ℕ) (s : Result ℕ Refusal) (b : Bool) (r : Option Refusal) (items rs : List (Option Refusal))
    (before after : List Answer) (o : Option Answer) (answer : Answer) (all : List Answer) → told ++ tells up n (stands n items stores) before ≡ all → items ≡ r ∷ rs → (o ≡ None → (before ≡ []) × (after ≡ []))
    → before ≡ option_to_list o ++ after → len ≡ n → head ≡ head_at stores len → s ≡ stand r head → b ≡ up len → answer ≡ tell_next s b o → pushed ≡ told ++ answer ∷ [] → m ≡ n + 1
    → pushed ++ tells up m (stands m rs stores) after ≡ all
told_step stores up told pushed n len m head s b r items rs before after o answer all was left none next counted heads standing brought told_one more count =
    let is = told_one ∙ (ap (λ x. tell_next x b o) (standing ∙ ap (stand r) (heads ∙ ap (head_at stores) counted)) ∙ ap (λ x. tell_next (stand r (head_at stores n)) x o) (brought ∙ ap up counted)) in
    ap (λ x. x ++ tells up m (stands m rs stores) after) more
    ∙ (append_assoc told (answer ∷ []) (tells up m (stands m rs stores) after)
    ∙ (ap (λ x. told ++ x ∷ tells up m (stands m rs stores) after) is
    ∙ (ap (λ k. told ++ tell_next (stand r (head_at stores n)) (up n) o ∷ tells up k (stands k rs stores) after) count
    ∙ (ap (λ l. told ++ l) (sym (told_next up n (stands (n + 1) rs stores) (stand r (head_at stores n)) before after o none next))
    ∙ (ap (λ l. told ++ tells up n (stands n l stores) before) (sym left) ∙ was)))))
