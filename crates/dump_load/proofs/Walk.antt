-- A walk over a set in path order.
use Rattle.std.proofs.Common.{◌≡◌, ℕ, suc, ◌+◌, ◌<◌, ◌≤◌, Bool, true, false, ◌||◌, List, [], ◌∷◌, ◌++◌, length, take, drop, get_or, Option, Some, None, refl, sym, ap, subst, ◌∙◌, add-one, drop-cons, append-nil, append_assoc}
use Rattle.std.proofs.lemmas.List.{take-append-drop, take_all, drop_all}
use Rattle.std.proofs.Math.Seq.{take-suc}
use Rattle.std.specs.Option.{option_or, option_map, option_map_or, option_and_then}
use Rattle.std.specs.List.{AllByRecursion}
use Rattle.std.specs.FinMap.{get, same_map}
use Rattle.node_base.specs.Path.{Path, paths_total, paths_exact, same_path, is_front, rest_after}
use Rattle.node_base.specs.declared.node.Node.{Node}
use Rattle.node_base.specs.declared.fault.TreeFault.{TreeFault}
use Rattle.node_base.specs.Tree.{PathMap, numbered, marked, base}
use Rattle.dump_load.specs.declared.change.Change.{Change}
use Rattle.dump_load.specs.Changes.{change_at, governing, Precedes, Follows, IsWhole, IsNormal}
use Rattle.dump_load.specs.Effect.{brought, effect, stepped}
use Rattle.node_base.specs.declared.fault.TreeFault.TheVariants.{TooLong, BadPath, NoSuchPath, PathThere, NotDir, NoSource, KindMismatch}
use Rattle.dump_load.specs.declared.fault.ChangeFault.{ChangeFault}
use Rattle.dump_load.specs.Faults.{fault_of, fault_after, fault, refused, IsRefusal}
use Rattle.dump_load.proofs.Faultless.{deletes_settle}
use Rattle.dump_load.specs.Walk.{Walked}
use Rattle.dump_load.proofs.OneMore.{effect-end, deepest-none}

precedes_in : (d c : Change) (s rest : List Change) → AllByRecursion (Precedes d) (s ++ c ∷ rest) → Precedes d c
precedes_in d c [] rest h = h.0
precedes_in d c (e ∷ s) rest h = precedes_in d c s rest h.1

-- in a normal set each change follows those before it
pub normal_follows : (s rest : List Change) (c : Change) → IsNormal (s ++ c ∷ rest) → Follows s c
normal_follows [] rest c h = tt
normal_follows (d ∷ s) rest c h = (precedes_in d c s rest h.1, normal_follows s rest c h.2)

pub whole_in : (s rest : List Change) (c : Change) → IsNormal (s ++ c ∷ rest) → IsWhole c
whole_in [] rest c h = h.0
whole_in (d ∷ s) rest c h = whole_in s rest c h.2

pub walked_none : (trees : List PathMap) (set : List Change) (tree : PathMap) → ((q : Path) → get tree q ≡ effect trees [] q) → Walked trees set 0 tree
walked_none trees set tree h = record { is = h; faults = refl }

module _ (trees : List PathMap) (set : List Change) (i : ℕ) (tree : PathMap) (w : Walked trees set i tree) (c : Change) (here : i < length set) (is : c ≡ get_or set i c) where
  rest_is : drop i set ≡ c ∷ drop (i + 1) set
  rest_is = rw (add-one i) (drop-cons set i c here ∙ ap (λ y. y ∷ drop (suc i) set) (sym is))

  done_is : take (i + 1) set ≡ take i set ++ c ∷ []
  done_is = rw (add-one i) (take-suc set i c here ∙ ap (λ y. take i set ++ y ∷ []) (sym is))

  same_function : ◌≡◌ {A = Path → Option Node} (get tree) (effect trees (take i set))
  same_function = λ j q. w.is q j

  faults_here : fault trees set ≡ option_or (fault_of trees (get tree) c) (fault_after trees (take (i + 1) set) (drop (i + 1) set))
  faults_here =
      w.faults ∙ ap (fault_after trees (take i set)) rest_is
      ∙ (λ j. option_or (fault_of trees (sym same_function j) c) (fault_after trees (sym done_is j) (drop (i + 1) set)))

  split_is : set ≡ take i set ++ c ∷ drop (i + 1) set
  split_is = sym (take-append-drop i set) ∙ ap (λ r. take i set ++ r) rest_is

  pub walked_whole : IsNormal set → IsWhole c
  walked_whole normal = whole_in (take i set) (drop (i + 1) set) c (subst IsNormal split_is normal)

  pub walked_fault : (f : TreeFault) → fault_of trees (get tree) c ≡ Some f → fault trees set ≡ Some f
  walked_fault f e = faults_here ∙ ap (λ o. option_or o (fault_after trees (take (i + 1) set) (drop (i + 1) set))) e

  pub walked_more : IsNormal set → fault_of trees (get tree) c ≡ None → (new : PathMap) → ((q : Path) → get new q ≡ stepped trees (get tree) c q) → Walked trees set (i + 1) new
  walked_more normal none new h =
      let follows = normal_follows (take i set) (drop (i + 1) set) c (subst IsNormal split_is normal) in
      record {
        is = λ q. h q ∙ (λ j. stepped trees (same_function j) c q) ∙ sym (effect-end trees (take i set) c follows (deletes_settle c.action) q) ∙ ap (λ s. effect trees s q) (sym done_is);
        faults = faults_here ∙ ap (λ o. option_or o (fault_after trees (take (i + 1) set) (drop (i + 1) set))) none;
      }

module _ (trees : List PathMap) (set : List Change) (i : ℕ) (tree : PathMap) (w : Walked trees set i tree) (all : length set ≤ i) where
  pub walked_effect : (q : Path) → get tree q ≡ effect trees set q
  walked_effect q = w.is q ∙ ap (λ s. effect trees s q) (take_all i set all)

  pub walked_no_fault : fault trees set ≡ None
  walked_no_fault = w.faults ∙ ap (fault_after trees (take i set)) (drop_all i set all)

-- ---- one change more

module _ (trees : List PathMap) (c : Change) where
  fault_after-end : (done s : List Change) → fault_after trees done (s ++ c ∷ []) ≡ option_or (fault_after trees done s) (fault_of trees (effect trees (done ++ s)) c)
  fault_after-end done [] = or_none (fault_of trees (effect trees done) c) ∙ ap (λ t. fault_of trees (effect trees t) c) (sym (append-nil done))
    where
      or_none : (o : Option TreeFault) → option_or o None ≡ o
      or_none None = refl
      or_none (Some f) = refl
  fault_after-end done (d ∷ s) =
      ap (option_or (fault_of trees (effect trees done) d)) (fault_after-end (done ++ d ∷ []) s ∙ ap (λ t. option_or (fault_after trees (done ++ d ∷ []) s) (fault_of trees (effect trees t) c)) (append_assoc done (d ∷ []) s))
      ∙ or_assoc (fault_of trees (effect trees done) d) (fault_after trees (done ++ d ∷ []) s) (fault_of trees (effect trees (done ++ d ∷ s)) c)
    where
      or_assoc : (a b e : Option TreeFault) → option_or a (option_or b e) ≡ option_or (option_or a b) e
      or_assoc None b e = refl
      or_assoc (Some f) b e = refl

pub fault-end : (trees : List PathMap) (s : List Change) (c : Change) → fault trees (s ++ c ∷ []) ≡ option_or (fault trees s) (fault_of trees (effect trees s) c)
fault-end trees s c = fault_after-end trees c [] s

-- ---- before the first change

no_governing : (q : Path) → governing [] q ≡ None
no_governing q = deepest-none (change_at []) (λ p. refl) q

pub effect_none : (trees : List PathMap) (q : Path) → effect trees [] q ≡ marked (base trees) [] (length trees) q
effect_none trees q =
    ap (λ g. option_map (λ x. numbered (length trees) (same_path q [] || false) x) (option_map_or (λ c. option_and_then (brought trees c) (rest_after c.path q)) g (base trees q))) (no_governing q)
    ∙ ap (λ b. option_map (λ x. numbered (length trees) b x) (base trees q)) (or_false (same_path q []) ∙ root_front q)
  where
    or_false : (b : Bool) → (b || false) ≡ b
    or_false true = refl
    or_false false = refl

    root_front : (q : Path) → same_path q [] ≡ is_front q []
    root_front [] = refl
    root_front (n ∷ q) = refl

-- ---- refusals

pub refused_is : (e : ChangeFault) (f : TreeFault) (first : Option TreeFault) → e ≡ refused f → first ≡ Some f → IsRefusal e (option_map refused first)
refused_is e f first is at = subst (λ e. IsRefusal e (option_map refused first)) (sym is) (subst (λ o. IsRefusal (refused f) (option_map refused o)) (sym at) (itself f))
  where
    itself : (f : TreeFault) → IsRefusal (refused f) (Some (refused f))
    itself TooLong = refl
    itself BadPath = refl
    itself NoSuchPath = refl
    itself PathThere = refl
    itself NotDir = refl
    itself NoSource = refl
    itself KindMismatch = refl

-- one tree alone has a set's effect
pub effect_decides : (trees : List PathMap) (s : List Change) (t u : PathMap) → ((q : Path) → get t q ≡ effect trees s q) → ((q : Path) → get u q ≡ effect trees s q) → t ≡ u
effect_decides trees s t u h k = same_map paths_total paths_exact t u (λ q. h q ∙ sym (k q))
