-- What a seat keeps over several calls, and the trees that it knows below a number.
use Rattle.std.proofs.Common.{zero, suc, ◌≡◌, ◌<◌, ◌≤◌, ℕ, List, [], ◌∷◌, ◌++◌, length, Option, Some, None, Result, Ok, Err, refl, sym, ap, subst, ◌∙◌, arith, length-append, take, ◌+◌, ◌-◌}
use Rattle.std.proofs.lemmas.List.{take-append-le, take_all}
use Rattle.std.specs.Option.{option_map}
use Rattle.std.specs.Result.{OnOk}
use Rattle.node_base.specs.Tree.{PathMap}
use Rattle.dump_load.specs.declared.change.Change.{Change}
use Rattle.store_share.specs.declared.rev.Rev.{Rev}
use Rattle.store_share.specs.Chains.{tree_in, trees_known}
use Rattle.store_share.specs.declared.seat.ReaderSeat.{ReaderSeat}
use Rattle.store_share.specs.Seats.{known_by, seen_by}
use Rattle.svn_ends.specs.Seats.{AreRead, Keeps}

pub keeps_all : {L : Type 0} {r : _} (a : ReaderSeat L r) → Keeps a a
keeps_all a = record {
  seen = omega arith;
  known = λ n x le e. e;
}

pub keeps_on : {L : Type 0} {r : _} (a b c : ReaderSeat L r) → Keeps a b → Keeps b c → Keeps a c
keeps_on a b c k l = record {
  seen = omega (arith, k.seen, l.seen);
  known = λ n x le e. l.known n x (omega (arith, le, k.seen)) (k.known n x le e);
}

-- a known revision that is kept has its changes
pub set_kept : (a b : Option Rev) (s : List Change) → ((x : Rev) → a ≡ Some x → b ≡ Some x) → option_map (λ (x : Rev). x.set) a ≡ Some s → option_map (λ (x : Rev). x.set) b ≡ Some s
set_kept None b s kept e = absurd (cc)
set_kept (Some x) b s kept e = ap (option_map (λ (v : Rev). v.set)) (kept x refl) ∙ e

few_in : (o : Option Rev) → length (tree_in o) ≤ 1
few_in None = omega arith
few_in (Some x) = omega arith

some_in : (o : Option Rev) → 1 ≤ length (tree_in o) → (x : Rev) × (o ≡ Some x)
some_in None h = absurd (omega (arith, h))
some_in (Some x) h = (x, refl)

few_trees : (k : ℕ → Option Rev) (n : ℕ) → length (trees_known k n) ≤ n
few_trees k zero = omega arith
few_trees k (suc n) = omega (arith, length-append (trees_known k n) (tree_in (k n)), few_trees k n, few_in (k n))

-- where there are as many trees as numbers below one, what is kept keeps them
trees_kept : (k l : ℕ → Option Rev) (n : ℕ) → length (trees_known k n) ≡ n → ((r : ℕ) (x : Rev) → r < n → k r ≡ Some x → l r ≡ Some x) → trees_known k n ≡ trees_known l n
trees_kept k l zero e kept = refl
trees_kept k l (suc n) e kept =
    let both = length-append (trees_known k n) (tree_in (k n)) in
    let x = some_in (k n) (omega (arith, both, e, few_trees k n)) in
    let all : length (trees_known k n) ≡ n = omega (arith, both, e, few_trees k n, few_in (k n)) in
    ap (λ ts. ts ++ tree_in (k n)) (trees_kept k l n all (λ r y lt q. kept r y (omega (arith, lt)) q))
    ∙ ap (λ o. trees_known l n ++ tree_in o) (x.1 ∙ sym (kept n x.0 (omega arith) x.1))

tree_shown : (o : Option Rev) (t : PathMap) → option_map (λ (x : Rev). x.tree) o ≡ Some t → t ∷ [] ≡ tree_in o
tree_shown None t e = absurd (cc)
tree_shown (Some x) t e = cc

-- one tree more
pub one_more : (k l : ℕ → Option Rev) (n m : ℕ) (ts : List PathMap) (t : PathMap) → m ≡ suc n → ts ≡ trees_known k n → length ts ≡ n
    → ((r : ℕ) (x : Rev) → r < n → k r ≡ Some x → l r ≡ Some x) → option_map (λ (x : Rev). x.tree) (l n) ≡ Some t
    → ts ++ t ∷ [] ≡ trees_known l m
one_more k l n m ts t next are all kept shown =
    ap (λ us. us ++ t ∷ []) (are ∙ trees_kept k l n (ap length (sym are) ∙ all) kept)
    ∙ ap (λ us. trees_known l n ++ us) (tree_shown (l n) t shown)
    ∙ ap (trees_known l) (sym next)

-- trees that were read once are those that the seat knows later too
pub still_read : {L : Type 0} {r : _} (a b : ReaderSeat L r) (ts : List PathMap) → Keeps a b → length ts ≤ seen_by a → AreRead a ts → AreRead b ts
still_read a b ts k few are = are ∙ trees_kept (known_by a) (known_by b) (length ts) (ap length (sym are)) (λ r x lt e. k.known r x (omega (arith, lt, few)) e)

-- the first of the trees below a number are those below a lower one
first_below : (k : ℕ → Option Rev) (n d m : ℕ) → m ≡ d + n → length (trees_known k m) ≡ m → take n (trees_known k m) ≡ trees_known k n
first_below k n zero m e all =
    let same : m ≡ n = omega (arith, e) in
    ap (λ x. take n (trees_known k x)) same ∙ take_all n (trees_known k n) (few_trees k n)
first_below k n (suc d) m e all =
    let same : m ≡ suc (d + n) = omega (arith, e) in
    let every : length (trees_known k (suc (d + n))) ≡ suc (d + n) = subst (λ x. length (trees_known k x) ≡ x) same all in
    let below : length (trees_known k (d + n)) ≡ d + n = omega (arith, every, length-append (trees_known k (d + n)) (tree_in (k (d + n))), few_trees k (d + n), few_in (k (d + n))) in
    ap (λ x. take n (trees_known k x)) same ∙ take-append-le n (trees_known k (d + n)) (tree_in (k (d + n))) (omega (arith, below)) ∙ first_below k n d (d + n) refl below

pub first_read : (k : ℕ → Option Rev) (ts : List PathMap) (n : ℕ) → ts ≡ trees_known k (length ts) → n ≤ length ts → take n ts ≡ trees_known k n
first_read k ts n are le =
    let at : length ts ≡ (length ts - n) + n = omega (arith, le) in
    ap (take n) are ∙ first_below k n (length ts - n) (length ts) at (ap length (sym are))

pub on_ok : {T E P : Type 0} (r : Result T E) → P → OnOk r P
on_ok (Ok t) p = p
on_ok (Err e) p = tt
