-- How many paths are named, change by change in path order, and what a refusal of records is.
use Rattle.std.proofs.Common.{◌≡◌, ℕ, suc, ◌+◌, ◌-◌, ◌<◌, Bool, true, false, cond, ◌||◌, List, [], ◌∷◌, ◌++◌, length, take, drop, get_or, Option, Some, None, refl, sym, ap, subst, ◌∙◌, arith, add-one, drop-cons}
use Rattle.std.specs.Prelude.{nat_lt}
use Rattle.std.proofs.lemmas.List.{take-append-drop}
use Rattle.std.proofs.Math.Seq.{take-suc}
use Rattle.std.specs.Ordering.{is_lt}
use Rattle.std.specs.declared.cmp.Ordering.TheVariants.{Less}
use Rattle.std.specs.List.{list_any, AllByRecursion}
use Rattle.std.proofs.lemmas.List.Folds.{list_any-append}
use Rattle.node_base.specs.Path.{Path, path_cmp, same_path}
use Rattle.node_base.proofs.PathLemmas.{path_of_same, same_path_back}
use Rattle.dump_load.specs.declared.change.Change.{Change}
use Rattle.dump_load.specs.declared.fault.ChangeFault.{ChangeFault}
use Rattle.dump_load.specs.declared.fault.ChangeFault.TheVariants as refusal
use Rattle.dump_load.specs.Changes.{NoneFalls}
use Rattle.dump_load.specs.Faults.{fault_if, first_of, IsRefusal}
use Rattle.dump_load.specs.Records.{paths_named, is_out_of_order, leaves_unsaid, set_fault}
use Rattle.dump_load.proofs.PathOrder.{less_of}
use Rattle.dump_load.proofs.Combining.{none_after}
use Rattle.dump_load.proofs.Moved.{paths_more}

or_true : (a : Bool) → (a || true) ≡ true
or_true true = refl
or_true false = refl

-- a path that comes after another comes after all before that
none_named : (pre : List Change) (x : Change) (p : Path) → AllByRecursion (λ d. is_lt (path_cmp x.path d.path) ≡ false) pre → path_cmp x.path p ≡ Less → list_any (λ d. same_path p d.path) pre ≡ false
none_named [] x p h less = refl
none_named (d ∷ pre) x p h less =
    elim (same_path p d.path) as (λ b. same_path p d.path ≡ b → (b || list_any (λ d. same_path p d.path) pre) ≡ false) [
      | true ↦ λ e. cc (h.0, ap (λ q. is_lt (path_cmp x.path q)) (path_of_same p d.path e), ap is_lt less)
      | false ↦ λ e. none_named pre x p h.1 less
    ] refl

named_by_last : (pre rest : List Change) (x c : Change) → NoneFalls (pre ++ x ∷ c ∷ rest) → list_any (λ d. same_path c.path d.path) (pre ++ x ∷ []) ≡ same_path x.path c.path
named_by_last pre rest x c up =
    list_any-append (λ d. same_path c.path d.path) pre (x ∷ [])
    ∙ elim (same_path x.path c.path) as (λ b. same_path x.path c.path ≡ b → (list_any (λ d. same_path c.path d.path) pre || (same_path c.path x.path || false)) ≡ b) [
      | true ↦ λ e. ap (λ b. list_any (λ d. same_path c.path d.path) pre || (b || false)) (same_path_back c.path x.path ∙ e) ∙ or_true (list_any (λ d. same_path c.path d.path) pre)
      | false ↦ λ e.
          (λ i. none_named pre x c.path (none_after pre (c ∷ rest) x up) (less_of x.path c.path (next pre up) e) i || ((same_path_back c.path x.path ∙ e) i || false))
    ] refl
  where
    next : (pre : List Change) → NoneFalls (pre ++ x ∷ c ∷ rest) → is_lt (path_cmp c.path x.path) ≡ false
    next [] up = up.0.0
    next (d ∷ pre) up = next pre up.1

pub named_first : (cs : List Change) (i : ℕ) → i ≡ 0 → i < length cs → paths_named (take (i + 1) cs) ≡ paths_named (take i cs) + 1
named_first [] i e h = absurd (omega arith)
named_first (c ∷ cs) i e h = subst (λ i. paths_named (take (i + 1) (c ∷ cs)) ≡ paths_named (take i (c ∷ cs)) + 1) (sym e) (paths_more [] c)

named_next : (cs : List Change) (k : ℕ) (x c : Change) → NoneFalls cs → k + 1 < length cs → x ≡ get_or cs k x → c ≡ get_or cs (k + 1) c
    → paths_named (take (k + 1 + 1) cs) ≡ cond (same_path x.path c.path) (paths_named (take (k + 1) cs)) (paths_named (take (k + 1) cs) + 1)
named_next cs k x c up within ax ac =
    ap paths_named ends ∙ paths_more (take (k + 1) cs) c
    ∙ ap (λ b. cond b (paths_named (take (k + 1) cs)) (paths_named (take (k + 1) cs) + 1))
    (ap (list_any (λ d. same_path c.path d.path)) front ∙ named_by_last (take k cs) (drop (k + 1 + 1) cs) x c (subst NoneFalls whole up))
  where
    ends : take (k + 1 + 1) cs ≡ take (k + 1) cs ++ c ∷ []
    ends = rw (add-one (k + 1)) (take-suc cs (k + 1) c within ∙ ap (λ y. take (k + 1) cs ++ y ∷ []) (sym ac))

    front : take (k + 1) cs ≡ take k cs ++ x ∷ []
    front = let here : k < length cs = omega arith in rw (add-one k) (take-suc cs k x here ∙ ap (λ y. take k cs ++ y ∷ []) (sym ax))

    whole : cs ≡ take k cs ++ x ∷ c ∷ drop (k + 1 + 1) cs
    whole =
        let here : k < length cs = omega arith in
        let one : drop k cs ≡ x ∷ drop (k + 1) cs = rw (add-one k) (drop-cons cs k x here ∙ ap (λ y. y ∷ drop (suc k) cs) (sym ax)) in
        let two : drop (k + 1) cs ≡ c ∷ drop (k + 1 + 1) cs = rw (add-one (k + 1)) (drop-cons cs (k + 1) c within ∙ ap (λ y. y ∷ drop (suc (k + 1)) cs) (sym ac)) in
        sym (take-append-drop k cs) ∙ ap (λ r. take k cs ++ r) (one ∙ ap (λ r. x ∷ r) two)

pub named_more : (cs : List Change) (i : ℕ) (x c : Change) → NoneFalls cs → (i ≡ 0 → ⊥) → i < length cs → x ≡ get_or cs (i - 1) x → c ≡ get_or cs i c
    → paths_named (take (i + 1) cs) ≡ cond (same_path x.path c.path) (paths_named (take i cs)) (paths_named (take i cs) + 1)
named_more cs i x c up some within ax ac =
    let back : i - 1 + 1 ≡ i = omega arith in
    let here : i - 1 + 1 < length cs = omega arith in
    subst (λ j. paths_named (take (j + 1) cs) ≡ cond (same_path x.path c.path) (paths_named (take j cs)) (paths_named (take j cs) + 1)) back
    (named_next cs (i - 1) x c up here ax (ac ∙ ap (λ j. get_or cs j c) (sym back)))

-- ---- refusals in their order

module _ (cs : List Change) where
  pub too_many : nat_lt 4096 (paths_named cs) ≡ true → set_fault cs ≡ Some refusal.TooLong
  too_many m = ap (λ b. first_of (fault_if b refusal.TooLong ∷ fault_if (is_out_of_order cs) refusal.OutOfOrder ∷ fault_if (leaves_unsaid cs) refusal.BadHeader ∷ [])) m

  pub fits_all : nat_lt 4096 (paths_named cs) ≡ false → is_out_of_order cs ≡ false → leaves_unsaid cs ≡ false → set_fault cs ≡ None
  fits_all m o k = λ i. first_of (fault_if (m i) refusal.TooLong ∷ fault_if (o i) refusal.OutOfOrder ∷ fault_if (k i) refusal.BadHeader ∷ [])

  refusal_of : (e : ChangeFault) (first second : Option ChangeFault) → ((f : ChangeFault) → first ≡ Some f → second ≡ Some f) → IsRefusal e first → IsRefusal e second
  refusal_of refusal.BadHeader first second h r = h _ r
  refusal_of refusal.TooLong first second h r = h _ r
  refusal_of refusal.BadPath first second h r = h _ r
  refusal_of refusal.NoSuchPath first second h r = h _ r
  refusal_of refusal.PathThere first second h r = h _ r
  refusal_of refusal.NotDir first second h r = h _ r
  refusal_of refusal.NoSource first second h r = h _ r
  refusal_of refusal.OutOfOrder first second h r = h _ r
  refusal_of refusal.WrongNumber first second h r = h _ r
  refusal_of refusal.KindMismatch first second h r = h _ r
  refusal_of refusal.OutOfMemory first second h r = tt

  pub refused_order : (e : ChangeFault) → nat_lt 4096 (paths_named cs) ≡ false → IsRefusal e (fault_if (is_out_of_order cs) refusal.OutOfOrder) → IsRefusal e (set_fault cs)
  refused_order e m r = refusal_of e _ _ (λ f h. ap (λ b. first_of (fault_if b refusal.TooLong ∷ fault_if (is_out_of_order cs) refusal.OutOfOrder ∷ fault_if (leaves_unsaid cs) refusal.BadHeader ∷ [])) m ∙ second (is_out_of_order cs) f h) r
    where
      second : (b : Bool) (f : ChangeFault) → fault_if b refusal.OutOfOrder ≡ Some f → first_of (fault_if false refusal.TooLong ∷ fault_if b refusal.OutOfOrder ∷ fault_if (leaves_unsaid cs) refusal.BadHeader ∷ []) ≡ Some f
      second true f h = h
      second false f h = cc

  pub refused_kind : (e : ChangeFault) → nat_lt 4096 (paths_named cs) ≡ false → is_out_of_order cs ≡ false → IsRefusal e (fault_if (leaves_unsaid cs) refusal.BadHeader) → IsRefusal e (set_fault cs)
  refused_kind e m o r =
      refusal_of e _ _ (λ f h. (λ i. first_of (fault_if (m i) refusal.TooLong ∷ fault_if (o i) refusal.OutOfOrder ∷ fault_if (leaves_unsaid cs) refusal.BadHeader ∷ [])) ∙ third (leaves_unsaid cs) f h) r
    where
      third : (b : Bool) (f : ChangeFault) → fault_if b refusal.BadHeader ≡ Some f → first_of (fault_if false refusal.TooLong ∷ fault_if false refusal.OutOfOrder ∷ fault_if b refusal.BadHeader ∷ []) ≡ Some f
      third true f h = h
      third false f h = cc
