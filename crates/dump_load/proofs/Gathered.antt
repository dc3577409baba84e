-- What is sorted, brought together and filled in, said of the records as they came.
use Rattle.std.proofs.Common.{◌≡◌, ℕ, ◌<◌, ◌≤◌, true, false, List, [], ◌∷◌, ◌++◌, map, Some, None, refl, sym, ap, subst, ◌∙◌, arith}
use Rattle.std.specs.Prelude.{nat_lt}
use Rattle.std.proofs.lemmas.Bool.Decides.{nat_tests}
use Rattle.std.specs.List.{list_any}
use Rattle.std.specs.List.Sorted.{IsPermutation}
use Rattle.node_base.specs.Path.{Path}
use Rattle.node_base.specs.Tree.{PathMap}
use Rattle.dump_load.specs.declared.change.Change.{Change}
use Rattle.dump_load.specs.declared.fault.ChangeFault.{ChangeFault}
use Rattle.dump_load.specs.declared.fault.ChangeFault.TheVariants as refusal
use Rattle.dump_load.specs.Effect.{effect}
use Rattle.dump_load.specs.Faults.{fault_if, fault, IsRefusal}
use Rattle.std.specs.Option.{option_or, option_map}
use Rattle.dump_text.specs.declared.record.NodeRecord.{NodeRecord}
use Rattle.dump_load.specs.Deltas.{Deltas, deltas_of, delta_at, with_delta, delta_fault_of, delta_fault_after, delta_fault, sound}
use Rattle.dump_load.specs.Records.{stated_at, stated, earlier, with_blanks, with_kind, Combined, paths_named, is_out_of_order, is_unsaid, filled_after, set_fault, change_of, IsSetOf, IsNormalSetOf, IsSetRefusal, not_stated, not_applied}
use Rattle.dump_load.proofs.Combining.{fits}
use Rattle.dump_load.proofs.Fillings.{set_of}
use Rattle.dump_load.proofs.Moved.{set_moved, order_moved, kind_moved, kinds_lack, paths_moved}
use Rattle.dump_load.proofs.Counting.{too_many, fits_all, refused_order, refused_kind}

few_test : (n m : ℕ) → n ≡ m → n ≤ 4096 → nat_lt 4096 m ≡ false
few_test n m e h = grind (arith, nat_tests)

many_test : (n m : ℕ) → n ≡ m → 4096 < n → nat_lt 4096 m ≡ true
many_test n m e h = grind (arith, nat_tests)

module _ (cs xs ys : List Change) (is : xs ≡ cs) (moved : IsPermutation xs ys) (same : (p : Path) → stated_at ys p ≡ stated_at xs p) where
  all_moved : IsPermutation cs ys
  all_moved = subst (λ zs. IsPermutation zs ys) is moved

  all_same : (p : Path) → stated_at ys p ≡ stated_at cs p
  all_same p = same p ∙ ap (λ zs. stated_at zs p) is

  pub gathered_set : (trees : List PathMap) (ds : Deltas) (out s : List Change) → Combined ys out → list_any is_unsaid out ≡ false → s ≡ filled_after trees ds [] out → IsSetOf trees ds cs s
  gathered_set trees ds out s w k e = set_moved cs ys all_moved all_same trees ds s (set_of trees ds ys out s w k e)

  module _ (shown : List Change) (n : ℕ) (shows : shown ≡ ys) (counts : n ≡ paths_named shown) where
    counted : n ≡ paths_named cs
    counted = counts ∙ ap paths_named shows ∙ paths_moved cs ys all_moved

    pub gathered_many : 4096 < n → set_fault cs ≡ Some refusal.TooLong
    gathered_many h = too_many cs (many_test n (paths_named cs) counted h)

    pub gathered_fits : n ≤ 4096 → (out : List Change) → Combined ys out → list_any is_unsaid out ≡ false → set_fault cs ≡ None
    gathered_fits h out w k =
        fits_all cs (few_test n (paths_named cs) counted h) (sym (order_moved cs ys all_moved all_same) ∙ fits ys out w) (sym (kind_moved cs ys all_moved all_same) ∙ kinds_lack ys out w ∙ k)

    pub gathered_order : n ≤ 4096 → (e : ChangeFault) → IsRefusal e (fault_if (is_out_of_order ys) refusal.OutOfOrder) → IsRefusal e (set_fault cs)
    gathered_order h e r =
        refused_order cs e (few_test n (paths_named cs) counted h) (subst (λ b. IsRefusal e (fault_if b refusal.OutOfOrder)) (order_moved cs ys all_moved all_same) r)

    pub gathered_kind : n ≤ 4096 → (e : ChangeFault) (out : List Change) → Combined ys out → IsRefusal e (fault_if (list_any is_unsaid out) refusal.BadHeader) → IsRefusal e (set_fault cs)
    gathered_kind h e out w r =
        refused_kind cs e (few_test n (paths_named cs) counted h) (sym (order_moved cs ys all_moved all_same) ∙ fits ys out w)
        (subst (λ b. IsRefusal e (fault_if b refusal.BadHeader)) (sym (sym (kind_moved cs ys all_moved all_same) ∙ kinds_lack ys out w)) r)

-- deltas that are alike at each path make the same sets, and are refused alike
module _ (trees : List PathMap) (ds es : Deltas) (alike : (p : Path) → delta_at ds p ≡ delta_at es p) where
  set_alike : (cs s : List Change) → IsSetOf trees ds cs s → IsSetOf trees es cs s
  set_alike cs s h =
      record {
        normal = h.normal;
        changes = λ p. h.changes p
            ∙ (λ i. option_map (λ (c : Change). let f = effect trees (sound trees (earlier s p)) in with_delta trees f (alike c.path i) (with_kind trees f (with_blanks c))) (stated cs p));
      }

  fault_alike : (done s : List Change) → delta_fault_after trees ds done s ≡ delta_fault_after trees es done s
  fault_alike done [] = refl
  fault_alike done (c ∷ s) = λ i. option_or (delta_fault_of trees (fault trees done) (effect trees (sound trees done)) (alike c.path i) c) (fault_alike (done ++ c ∷ []) s i)

-- the set that records give, and why they give none
module _ (rs : List NodeRecord) (trees : List PathMap) (ds : Deltas) (alike : (p : Path) → delta_at ds p ≡ delta_at (deltas_of rs) p) where
  pub gathered_normal : (s : List Change) → IsSetOf trees ds (map change_of rs) s → delta_fault trees ds s ≡ None → IsNormalSetOf trees rs s
  gathered_normal s h n = record { set = set_alike trees ds (deltas_of rs) alike (map change_of rs) s h; deltas = sym (fault_alike trees ds (deltas_of rs) alike [] s) ∙ n }

  pub gathered_refused : (xs ys : List Change) (is : xs ≡ map change_of rs) (moved : IsPermutation xs ys) (same : (p : Path) → stated_at ys p ≡ stated_at xs p) (shown : List Change) (n : ℕ) → shown ≡ ys → n ≡ paths_named shown → n ≤ 4096 → (e : ChangeFault) (out : List Change) → Combined ys out
      → IsRefusal e (option_or (fault_if (list_any is_unsaid out) refusal.BadHeader) (delta_fault trees ds (filled_after trees ds [] out))) → IsSetRefusal trees rs e
  gathered_refused xs ys is moved same shown n shows counts h e out w r =
      let s = filled_after trees ds [] out in
      elim (list_any is_unsaid out) as (λ b. list_any is_unsaid out ≡ b → IsRefusal e (option_or (fault_if b refusal.BadHeader) (delta_fault trees ds s)) → IsSetRefusal trees rs e) [
        | true ↦ λ k r. not_stated (gathered_kind (map change_of rs) xs ys is moved same shown n shows counts h e out w (subst (λ b. IsRefusal e (fault_if b refusal.BadHeader)) (sym k) r))
        | false ↦ λ k r.
            not_applied s (gathered_fits (map change_of rs) xs ys is moved same shown n shows counts h out w k)
            (set_alike trees ds (deltas_of rs) alike (map change_of rs) s (gathered_set (map change_of rs) xs ys is moved same trees ds out s w k refl))
            (subst (IsRefusal e) (fault_alike trees ds (deltas_of rs) alike [] s) r)
      ] refl r
