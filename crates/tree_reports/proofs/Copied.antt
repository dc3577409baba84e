-- A graft, with the numbers above it as they were.
use Rattle.std.proofs.Common.{◌≡◌, ℕ, Bool, true, false, cond, [], ◌∷◌, ◌++◌, Option, Some, None, is_some, Result, Ok, Err, refl, sym, ap, subst, ◌∙◌, true≢false, append-nil}
use Rattle.std.specs.Prelude.{OnOk}
use Rattle.std.specs.Option.{option_map, option_map_or}
use Rattle.std.specs.FinMap as finite
use Rattle.node_base.specs.Path.{Name, Path, rest_after, is_front, same_name}
use Rattle.node_base.specs.Tree.{PathMap, IsTree, grafted, marked, numbered, with_number}
use Rattle.node_base.specs.declared.node.Node.{Node}
use Rattle.node_base.proofs.PathLemmas.{append_of_rest, rest_after-append}
use Rattle.path_tree.specs.Calls.{copied, removed}
use Rattle.path_tree.proofs.Fronts.{nothing_below}
use Rattle.tree_reports.specs.Copied.{is_above, is_more, marked_back, number_in}

-- ---- paths above another

pub above_front : (o : Option Path) → option_map_or is_more o false ≡ true → is_some o ≡ true
above_front None e = absurd (true≢false (sym e))
above_front (Some r) e = refl

only_same : (o : Option Path) → is_some o ≡ true → option_map_or is_more o false ≡ false → o ≡ Some []
only_same None h e = absurd (true≢false (sym h))
only_same (Some []) h e = refl
only_same (Some (n ∷ r)) h e = absurd (true≢false e)

same_front : (q p : Path) → is_front q p ≡ true → is_above q p ≡ false → p ≡ q
same_front q p h e = append_of_rest q p [] (only_same (rest_after q p) h e) ∙ append-nil q

-- what is above a path with a name behind it is a front of it
front_above : (q p : Path) (n : Name) → is_above q (p ++ n ∷ []) ≡ is_front q p
front_above [] [] n = refl
front_above [] (m ∷ p) n = refl
front_above (k ∷ q) [] n = one (same_name k n) q
  where
    one : (b : Bool) (q : Path) → option_map_or is_more (cond b (rest_after q []) None) false ≡ false
    one true [] = refl
    one true (m ∷ q) = refl
    one false q = refl
front_above (k ∷ q) (m ∷ p) n =
    elim (same_name k m) as (λ b. option_map_or is_more (cond b (rest_after q (p ++ n ∷ [])) None) false ≡ is_some {T = Path} (cond b (rest_after q p) None)) [ true ↦ front_above q p n | false ↦ refl ]

-- ---- numbers

two_numbers : (a b : Bool) (k n : ℕ) (o : Option Node) → (a ≡ true → b ≡ true) → (b ≡ true → a ≡ false → k ≡ n) → option_map (numbered n a) (option_map (λ x. cond b (with_number k x) x) o) ≡ option_map (numbered n b) o
two_numbers a b k n None h e = refl
two_numbers true true k n (Some x) h e = refl
two_numbers true false k n (Some x) h e = absurd (true≢false (sym (h refl)))
two_numbers false true k n (Some x) h e = ap (λ m. Some (with_number m x)) (e refl refl)
two_numbers false false k n (Some x) h e = refl

-- what is above the last name first
pub one_back : (before f : Path → Option Node) (p above : Path) (n : Name) (k : ℕ) (mid new : PathMap) → p ≡ above ++ n ∷ [] → k ≡ number_in (before above) → ((q : Path) → finite.get mid q ≡ marked f above k q) → ((q : Path) → finite.get new q ≡ marked_back before above (finite.get mid) q) → (q : Path) → finite.get new q ≡ marked_back before p f q
one_back before f p above n k mid new e is m b q =
    b q
    ∙ ap (option_map (numbered (number_in (before q)) (is_above q above))) (m q)
    ∙ two_numbers (is_above q above) (is_front q above) k (number_in (before q)) (f q) (above_front (rest_after q above)) (λ h a. is ∙ ap (λ r. number_in (before r)) (same_front q above h a))
    ∙ ap (λ t. option_map (numbered (number_in (before q)) t) (f q)) (sym (front_above q above n) ∙ ap (is_above q) (sym e))

pub one_on : {E : Type 0} (before f : Path → Option Node) (p above : Path) (n : Name) (k : ℕ) (mid new : PathMap) (r : Result (Unit {0}) E) → p ≡ above ++ n ∷ [] → k ≡ number_in (before above) → ((q : Path) → finite.get mid q ≡ marked f above k q) → OnOk r ((q : Path) → finite.get new q ≡ marked_back before above (finite.get mid) q) → OnOk r ((q : Path) → finite.get new q ≡ marked_back before p f q)
one_on before f p above n k mid new (Ok u) e is m b = one_back before f p above n k mid new e is m b
one_on before f p above n k mid new (Err e) h is m b = tt

pub none_back : (before : Path → Option Node) (f : PathMap) (p : Path) → p ≡ [] → (q : Path) → finite.get f q ≡ marked_back before p (finite.get f) q
none_back before f p e q = sym (same (is_above q p) (finite.get f q) (ap (is_above q) e ∙ none q))
  where
    none : (q : Path) → is_above q [] ≡ false
    none [] = refl
    none (n ∷ q) = refl

    same : (b : Bool) (o : Option Node) → b ≡ false → option_map (numbered (number_in (before q)) b) o ≡ o
    same b None h = refl
    same b (Some x) h = ap (λ t. Some (numbered (number_in (before q)) t x)) h

-- ---- a graft

-- apart from the path and what is below it
beside : (f : Path → Option Node) (p q : Path) (k : ℕ) → rest_after p q ≡ None → option_map (numbered (number_in (f q)) (is_above q p)) (option_map (λ x. cond (is_front q p) (with_number k x) x) (f q)) ≡ f q
beside f p q k e = by (is_above q p) (is_front q p) (f q) (above_front (rest_after q p)) (λ h a. other (ap (λ r. rest_after r q) (same_front q p h a)))
  where
    other : rest_after p q ≡ rest_after q q → ⊥
    other s = none_some (sym e ∙ s ∙ ap (rest_after q) (sym (append-nil q)) ∙ rest_after-append q [])
      where
        none_some : ◌≡◌ {A = Option Path} None (Some []) → ⊥
        none_some z = cc

    by : (a b : Bool) (o : Option Node) → (a ≡ true → b ≡ true) → (b ≡ true → a ≡ false → ⊥) → option_map (numbered (number_in o) a) (option_map (λ x. cond b (with_number k x) x) o) ≡ o
    by a b None h n = refl
    by true true (Some x) h n = refl
    by true false (Some x) h n = absurd (true≢false (sym (h refl)))
    by false true (Some x) h n = absurd (n refl refl)
    by false false (Some x) h n = refl

-- below it
longer : (p r : Path) (n : Name) → rest_after (p ++ n ∷ r) p ≡ None
longer [] r n = refl
longer (m ∷ p) r n = elim (same_name m m) as (λ b. cond b (rest_after (p ++ n ∷ r) p) None ≡ None) [ true ↦ longer p r n | false ↦ refl ]

numbers_stay : (b c : Bool) (k n : ℕ) (o : Option Node) → b ≡ false → c ≡ false → option_map (numbered n b) (option_map (λ x. cond c (with_number k x) x) o) ≡ o
numbers_stay b c k n None h e = refl
numbers_stay b c k n (Some x) h e = ap (λ t. Some (numbered n t (cond c (with_number k x) x))) h ∙ ap (λ t. Some (cond t (with_number k x) x)) e

back_at : (f g : Path → Option Node) (p q : Path) (x : Node) (o : Option Path) → g [] ≡ Some x → rest_after p q ≡ o → option_map (numbered (number_in (f q)) (is_above q p)) (option_map (λ y. cond (is_front q p) (with_number x.changed y) y) (option_map_or g o (f q))) ≡ option_map_or g o (f q)
back_at f g p q x None there e = beside f p q x.changed e
back_at f g p q x (Some []) there e =
    let same : q ≡ p = append_of_rest p q [] e ∙ append-nil p in
    subst (λ z. option_map (numbered (number_in (f z)) (is_above z p)) (option_map (λ y. cond (is_front z p) (with_number x.changed y) y) (g [])) ≡ g []) (sym same)
    (subst (λ o. option_map (numbered (number_in (f p)) (is_above p p)) (option_map (λ y. cond (is_front p p) (with_number x.changed y) y) o) ≡ o) (sym there) (top p x (number_in (f p))))
  where
    top : (p : Path) (x : Node) (k : ℕ) → option_map (numbered k (is_above p p)) (option_map (λ y. cond (is_front p p) (with_number x.changed y) y) (Some x)) ≡ Some x
    top p x k =
        let s = ap (rest_after p) (sym (append-nil p)) ∙ rest_after-append p [] in
        ap (λ o. option_map (numbered k (option_map_or is_more o false)) (option_map (λ y. cond (is_some {T = Path} o) (with_number x.changed y) y) (Some x))) s
back_at f g p q x (Some (n ∷ r)) there e =
    let none : rest_after q p ≡ None = ap (λ z. rest_after z p) (append_of_rest p q (n ∷ r) e) ∙ longer p r n in
    numbers_stay (is_above q p) (is_front q p) x.changed (number_in (f q)) (g (n ∷ r)) (ap (λ o. option_map_or is_more o false) none) (ap (λ o. is_some {T = Path} o) none)

pub copied_back : (f : Path → Option Node) (from : PathMap) (p source : Path) (x : Node) (new : PathMap) → finite.get from source ≡ Some x → ((q : Path) → finite.get new q ≡ copied f p (λ r. finite.get from (source ++ r)) x.changed q) → (q : Path) → marked_back f p (finite.get new) q ≡ grafted f p (λ r. finite.get from (source ++ r)) q
copied_back f from p source x new there is q =
    ap (option_map (numbered (number_in (f q)) (is_above q p))) (is q)
    ∙ back_at f (λ r. finite.get from (source ++ r)) p q x (rest_after p q) (ap (finite.get from) (append-nil source) ∙ there) refl

pub removed_back : (f : Path → Option Node) (from : PathMap) (p source : Path) (k : ℕ) (new : PathMap) → IsTree from → finite.get from source ≡ None → ((q : Path) → finite.get new q ≡ removed f p k q) → (q : Path) → marked_back f p (finite.get new) q ≡ grafted f p (λ r. finite.get from (source ++ r)) q
removed_back f from p source k new t none is q =
    ap (option_map (numbered (number_in (f q)) (is_above q p))) (is q) ∙ by (rest_after p q) refl
  where
    by : (o : Option Path) → rest_after p q ≡ o → option_map (numbered (number_in (f q)) (is_above q p)) (option_map_or (λ _. None) o (marked f p k q)) ≡ option_map_or (λ r. finite.get from (source ++ r)) o (f q)
    by None e = beside f p q k e
    by (Some r) e = sym (nothing_below (finite.get from) t.fronts source none r)

pub copied_on : {E : Type 0} (f : Path → Option Node) (from : PathMap) (p source : Path) (x : Node) (new : PathMap) (r : Result (Unit {0}) E) → finite.get from source ≡ Some x → OnOk r ((q : Path) → finite.get new q ≡ copied f p (λ r. finite.get from (source ++ r)) x.changed q) → OnOk r ((q : Path) → marked_back f p (finite.get new) q ≡ grafted f p (λ r. finite.get from (source ++ r)) q)
copied_on f from p source x new (Ok u) there is = copied_back f from p source x new there is
copied_on f from p source x new (Err e) there is = tt

pub removed_on : {E : Type 0} (f : Path → Option Node) (from : PathMap) (p source : Path) (k : ℕ) (new : PathMap) (r : Result (Unit {0}) E) → IsTree from → finite.get from source ≡ None → OnOk r ((q : Path) → finite.get new q ≡ removed f p k q) → OnOk r ((q : Path) → marked_back f p (finite.get new) q ≡ grafted f p (λ r. finite.get from (source ++ r)) q)
removed_on f from p source k new (Ok u) t none is = removed_back f from p source k new t none is
removed_on f from p source k new (Err e) t none is = tt
