-- A set has as many changes as paths are named.
use Rattle.std.proofs.Common.{◌≡◌, ℕ, suc, ◌+◌, ◌≤◌, Bool, true, false, cond, ◌||◌, List, [], ◌∷◌, ◌++◌, length, map, Option, Some, None, is_some, refl, sym, ap, subst, ◌∙◌, arith, append_assoc}
use Rattle.std.proofs.Common.{length-append}
use Rattle.std.specs.List.{list_any}
use Rattle.std.specs.FinMap as finite
use Rattle.node_base.specs.Path.{Path, path_cmp, paths_total, paths_exact, same_path}
use Rattle.node_base.proofs.PathLemmas.{same_path_back}
use Rattle.node_base.specs.Tree.{PathMap}
use Rattle.dump_load.specs.declared.change.Change.{Change}
use Rattle.dump_load.specs.Changes.{change_at, Follows, IsInOrder}
use Rattle.dump_load.specs.Deltas.{Deltas}
use Rattle.dump_load.specs.Records.{stated_at, combined, Combined, paths_named, filled_in, filled_after}
use Rattle.dump_load.proofs.PathOrder.{less_differs}
use Rattle.dump_load.proofs.Moved.{named_at, paths_more}
use Rattle.dump_load.proofs.Combining.{order_follows}

-- ---- changes in order are of as many paths

none_same : (s : List Change) (c : Change) → Follows s c → list_any (λ d. same_path c.path d.path) s ≡ false
none_same [] c h = refl
none_same (d ∷ s) c h = λ i. (same_path_back c.path d.path ∙ less_differs d.path c.path h.0.rises) i || none_same s c h.1 i

named_end : (s : List Change) (c : Change) → Follows s c → paths_named (s ++ c ∷ []) ≡ paths_named s + 1
named_end s c h = paths_more s c ∙ ap (λ b. cond b (paths_named s) (paths_named s + 1)) (none_same s c h)

named_all : (done s : List Change) → IsInOrder (done ++ s) → paths_named (done ++ s) ≡ paths_named done + length s
named_all done [] h = ap paths_named (Rattle.std.proofs.Common.append-nil done) ∙ omega arith
named_all done (c ∷ s) h =
    let whole = append_assoc done (c ∷ []) s in
    let rest = named_all (done ++ c ∷ []) s (subst IsInOrder (sym whole) h) in
    let one = named_end done c (order_follows done s c h) in
    ap paths_named (sym whole) ∙ rest ∙ omega (arith, one)

-- ---- what is brought together names the same paths

is_at : (s : List Change) (q : Path) → is_some (change_at s q) ≡ list_any (λ c. same_path q c.path) s
is_at [] q = refl
is_at (c ∷ s) q =
    ap (λ b. is_some (cond b (Some c) (change_at s q))) (same_path_back c.path q)
    ∙ elim (same_path q c.path) as (λ b. is_some (cond b (Some c) (change_at s q)) ≡ (b || list_any (λ c. same_path q c.path) s)) [ true ↦ refl | false ↦ is_at s q ]

abbrev some_of : List Change → Bool
some_of [] = false
some_of (c ∷ cs) = true

is_stated : (cs : List Change) (q : Path) → some_of (stated_at cs q) ≡ list_any (λ c. same_path q c.path) cs
is_stated [] q = refl
is_stated (c ∷ cs) q =
    ap (λ b. some_of (cond b (c ∷ stated_at cs q) (stated_at cs q))) (same_path_back c.path q)
    ∙ elim (same_path q c.path) as (λ b. some_of (cond b (c ∷ stated_at cs q) (stated_at cs q)) ≡ (b || list_any (λ c. same_path q c.path) cs)) [ true ↦ refl | false ↦ is_stated cs q ]

known_some : (xs : List Change) → (combined xs ≡ None → xs ≡ []) → is_some (combined xs) ≡ some_of xs
known_some [] h = refl
known_some (x ∷ xs) h = at (combined (x ∷ xs)) refl
  where
    at : (o : Option Change) → combined (x ∷ xs) ≡ o → is_some (combined (x ∷ xs)) ≡ true
    at None e = cc (h e)
    at (Some y) e = ap is_some e

same_named : (cs out : List Change) → Combined cs out → paths_named out ≡ paths_named cs
same_named cs out w =
    ap finite.len
    (finite.same_map paths_total paths_exact (finite.from_entries {R = path_cmp} (map (λ c. (c.path, true)) out)) (finite.from_entries {R = path_cmp} (map (λ c. (c.path, true)) cs))
    (λ q. named_at out q ∙ ap (λ b. cond b (Some true) None) (here q) ∙ sym (named_at cs q)))
  where
    here : (q : Path) → list_any (λ c. same_path q c.path) out ≡ list_any (λ c. same_path q c.path) cs
    here q = sym (is_at out q) ∙ ap is_some (w.changes q) ∙ known_some (stated_at cs q) (w.known q) ∙ is_stated cs q

-- ---- what is filled in is as long

filled_length : (trees : List PathMap) (ds : Deltas) (done cs : List Change) → length (filled_after trees ds done cs) ≡ length done + length cs
filled_length trees ds done [] = omega arith
filled_length trees ds done (c ∷ cs) = filled_length trees ds (done ++ filled_in trees ds done c ∷ []) cs ∙ omega (arith, length-append done (filled_in trees ds done c ∷ []))

pub few_filled : (trees : List PathMap) (ds : Deltas) (cs out s shown : List Change) (n : ℕ) → Combined cs out → s ≡ filled_after trees ds [] out → shown ≡ cs → n ≡ paths_named shown → n ≤ 4096 → length s ≤ 4096
few_filled trees ds cs out s shown n w is shows counts few =
    let long : length s ≡ length out = ap length is ∙ filled_length trees ds [] out ∙ omega arith in
    let all : paths_named out ≡ paths_named [] + length out = named_all [] out w.order in
    omega (arith, long, all, same_named cs out w, counts, ap paths_named shows, few)
