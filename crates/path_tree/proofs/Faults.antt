-- What follows where a call has no fault.
use Rattle.std.proofs.Common.{◌≡◌, ℕ, Bool, true, false, cond, List, [], ◌∷◌, Option, Some, None, is_some, refl, ap}
use Rattle.std.specs.Prelude.{IsSome, IsSomeAnd, IsNone, is_none}
use Rattle.std.specs.Option.{option_map, option_map_or, option_or}
use Rattle.node_base.specs.Path.{Path, is_front}
use Rattle.node_base.specs.declared.node.Node.{Node}
use Rattle.node_base.specs.declared.fault.TreeFault.{TreeFault}
use Rattle.node_base.specs.declared.fault.TreeFault.TheVariants.{NoSuchPath, NotDir, KindMismatch}
use Rattle.node_base.specs.Tree.{IsDirAt, blocked, edited, marked, with_number}
use Rattle.path_tree.specs.Calls.{fault_if, is_dir, change_fault, text_fault}

-- no fault of two is none of each
pub first_none : (a b : Option TreeFault) → option_or a b ≡ None → a ≡ None
first_none None b e = refl
first_none (Some f) b e = e

pub second_none : (a b : Option TreeFault) → option_or a b ≡ None → b ≡ None
second_none None b e = e
second_none (Some f) b e = cc

pub test_fails : (b : Bool) (f : TreeFault) → fault_if b f ≡ None → b ≡ false
test_fails true f e = cc
test_fails false f e = refl

is_there : (o : Option Node) → is_none o ≡ false → IsSome o
is_there None e = cc
is_there (Some x) e = refl

-- a change without a fault is one of what is there
pub there_of : (f : Path → Option Node) (p : Path) (more : Option TreeFault) → option_or (change_fault f p) more ≡ None → IsSome (f p)
there_of f p more e = is_there (f p) (test_fails (is_none (f p)) NoSuchPath (second_none (blocked f p) _ (first_none (change_fault f p) more e)))

-- a text without a fault goes to no directory
pub no_dir_there : (o : Option Node) → is_dir o ≡ false → IsSomeAnd o (λ x. IsNone x.text) → ⊥
no_dir_there None e d = absurd d
no_dir_there (Some x) e d = has_text x.text e d
  where
    has_text : (o : Option (List ℕ)) → is_dir (Some (record x { text = o })) ≡ false → IsNone o → ⊥
    has_text None e d = cc
    has_text (Some s) e d = cc

pub no_dir_of : (f : Path → Option Node) (p : Path) → text_fault f p ≡ None → IsDirAt f p → ⊥
no_dir_of f p e = no_dir_there (f p) (test_fails (is_dir (f p)) KindMismatch (second_none (change_fault f p) _ e))

-- numbers block no path
pub blocked-marked : (f : Path → Option Node) (t : Path → Bool) (n : ℕ) (q : Path) → blocked (edited f t (with_number n)) q ≡ blocked f q
blocked-marked f t n [] = refl
blocked-marked f t n (m ∷ q) =
    elim (f []) as (λ o. option_map_or (λ x. cond (is_some x.text) (Some NotDir) (blocked (edited (λ r. f (m ∷ r)) (λ r. t (m ∷ r)) (with_number n)) q)) (option_map (λ x. cond (t []) (with_number n x) x) o) (Some NoSuchPath) ≡ option_map_or (λ x. cond (is_some x.text) (Some NotDir) (blocked (λ r. f (m ∷ r)) q)) o (Some NoSuchPath)) [
      | None ↦ refl
      | Some x ↦
          elim (t []) as (λ b. cond (is_some (cond b (with_number n x) x).text) (Some NotDir) (blocked (edited (λ r. f (m ∷ r)) (λ r. t (m ∷ r)) (with_number n)) q) ≡ cond (is_some x.text) (Some NotDir) (blocked (λ r. f (m ∷ r)) q)) [
            | true ↦ ap (cond (is_some x.text) (Some NotDir)) (blocked-marked (λ r. f (m ∷ r)) (λ r. t (m ∷ r)) n q)
            | false ↦ ap (cond (is_some x.text) (Some NotDir)) (blocked-marked (λ r. f (m ∷ r)) (λ r. t (m ∷ r)) n q)
          ]
    ]

no_dir : (o : Option Node) (b : Bool) (n : ℕ) → is_dir o ≡ false → IsSomeAnd (option_map (λ x. cond b (with_number n x) x) o) (λ x. IsNone x.text) → ⊥
no_dir None b n e d = absurd d
no_dir (Some x) true n e d = has_text x.text e d
  where
    has_text : (o : Option (List ℕ)) → is_dir (Some (record x { text = o })) ≡ false → IsNone o → ⊥
    has_text None e d = cc
    has_text (Some s) e d = cc
no_dir (Some x) false n e d = has_text x.text e d
  where
    has_text : (o : Option (List ℕ)) → is_dir (Some (record x { text = o })) ≡ false → IsNone o → ⊥
    has_text None e d = cc
    has_text (Some s) e d = cc

-- numbers make no directory
pub no_dir_marked : (f : Path → Option Node) (p : Path) (n : ℕ) (q : Path) → is_dir (f q) ≡ false → IsDirAt (marked f p n) q → ⊥
no_dir_marked f p n q e d = no_dir (f q) (is_front q p) n e d
