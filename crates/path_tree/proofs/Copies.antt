-- Whether a copy has a path that is too long, by the source's own paths.
use Rattle.std.proofs.Common.{◌≡◌, Bool, true, false, not, ◌||◌, List, [], ◌∷◌, ◌++◌, Some, None, IsSome, is_some, refl, sym, ap, ◌∙◌}
use Rattle.std.specs.Option.{option_map_or}
use Rattle.std.specs.List.{list_any}
use Rattle.std.specs.FinMap.{get, keys, contains_key-keys}
use Rattle.node_base.specs.Path.{Path, same_path, rest_after}
use Rattle.node_base.specs.Limits.{fits}
use Rattle.node_base.specs.Tree.{PathMap}
use Rattle.node_base.proofs.PathLemmas.{same_path_itself, path_of_same, rest_after-append, append_of_rest}
use Rattle.path_tree.specs.Copies.{copy_too_long}

false_true : (G : Type 0) → false ≡ true → G
false_true G e = cc

same_truth : (a b : Bool) → (a ≡ true → b ≡ true) → (b ≡ true → a ≡ true) → a ≡ b
same_truth true b f g = sym (f refl)
same_truth false true f g = g refl
same_truth false false f g = refl

no_truth : (a : Bool) → (a ≡ true → false ≡ true) → a ≡ false
no_truth true f = sym (f refl)
no_truth false f = refl

-- a path that passes a test, and is among the keys
record Found (P : Path → Bool) (ks : List Path) : Type 0 where
  key : Path
  passes : P key ≡ true
  member : list_any (same_path key) ks ≡ true

found : (P : Path → Bool) (ks : List Path) → list_any P ks ≡ true → Found P ks
found P [] e = false_true _ e
found P (k ∷ ks) e =
    elim (P k) as (λ b. P k ≡ b → (b || list_any P ks) ≡ true → Found P (k ∷ ks)) [
      | true ↦ λ p _. record { key = k; passes = p; member = ap (λ b. b || list_any (same_path k) ks) (same_path_itself k) }
      | false ↦ λ _ h. let f = found P ks h in record { key = f.key; passes = f.passes; member = later (same_path f.key k) (list_any (same_path f.key) ks) f.member }
    ] refl e
  where
    later : (a b : Bool) → b ≡ true → (a || b) ≡ true
    later true b h = refl
    later false b h = h

any_of : (P : Path → Bool) (ks : List Path) (q : Path) → list_any (same_path q) ks ≡ true → P q ≡ true → list_any P ks ≡ true
any_of P [] q e p = e
any_of P (k ∷ ks) q e p =
    elim (same_path q k) as (λ b. same_path q k ≡ b → (b || list_any (same_path q) ks) ≡ true → (P k || list_any P ks) ≡ true) [
      | true ↦ λ s _. ap (λ b. b || list_any P ks) (ap P (sym (path_of_same q k s)) ∙ p)
      | false ↦ λ _ h. later (P k) (any_of P ks q h p)
    ] refl e
  where
    later : (a : Bool) → list_any P ks ≡ true → (a || list_any P ks) ≡ true
    later true h = refl
    later false h = h

module _ (m : PathMap) (from to : Path) where
  abbrev copied_long : Path → Bool
  copied_long k = option_map_or (λ r. not (fits (to ++ r))) (rest_after from k) false

  at_source : (r : Path) → copied_long (from ++ r) ≡ not (fits (to ++ r))
  at_source r = ap (λ o. option_map_or (λ r. not (fits (to ++ r))) o false) (rest_after-append from r)

  -- a path that is copied, and too long
  record TooLong : Type 0 where
    rest : Path
    there : is_some (get m (from ++ rest)) ≡ true
    long : not (fits (to ++ rest)) ≡ true

  too_long_of : copy_too_long m from to ≡ true → TooLong
  too_long_of e =
      let f = found copied_long (keys m) e in
      elim (rest_after from f.key) as (λ o. rest_after from f.key ≡ o → option_map_or (λ r. not (fits (to ++ r))) o false ≡ true → TooLong) [
        | None ↦ λ _ h. false_true _ h
        | Some r ↦ λ s h. record { rest = r; there = ap (λ q. is_some (get m q)) (sym (append_of_rest from f.key r s)) ∙ contains_key-keys m f.key ∙ f.member; long = h }
      ] refl f.passes

  -- the test by the source's own paths
  pub copy_by_rest : (b : PathMap) → ((q : Path) → get b q ≡ get m (from ++ q)) → list_any (λ k. not (fits (to ++ k))) (keys b) ≡ copy_too_long m from to
  copy_by_rest b is = same_truth _ _ back forward
    where
      forward : copy_too_long m from to ≡ true → list_any (λ k. not (fits (to ++ k))) (keys b) ≡ true
      forward e =
          let f = too_long_of e in
          any_of (λ k. not (fits (to ++ k))) (keys b) f.rest (sym (contains_key-keys b f.rest) ∙ ap is_some (is f.rest) ∙ f.there) f.long

      back : list_any (λ k. not (fits (to ++ k))) (keys b) ≡ true → copy_too_long m from to ≡ true
      back e =
          let f = found (λ k. not (fits (to ++ k))) (keys b) e in
          any_of copied_long (keys m) (from ++ f.key) (sym (contains_key-keys m (from ++ f.key)) ∙ ap is_some (sym (is f.key)) ∙ contains_key-keys b f.key ∙ f.member) (at_source f.key ∙ f.passes)

  -- nothing is copied where nothing is
  pub copy_of_nothing : ((q : Path) → get m (from ++ q) ≡ None) → copy_too_long m from to ≡ false
  copy_of_nothing none = no_truth (copy_too_long m from to) (λ e. let f = too_long_of e in ap is_some (sym (none f.rest)) ∙ f.there)

  -- what is copied fits
  pub copy_fits : copy_too_long m from to ≡ false → (r : Path) → IsSome (get m (from ++ r)) → fits (to ++ r) ≡ true
  copy_fits short r some =
      elim (fits (to ++ r)) as (λ b. fits (to ++ r) ≡ b → b ≡ true) [
        | true ↦ λ _. refl
        | false ↦ λ e. sym short ∙ any_of copied_long (keys m) (from ++ r) (sym (contains_key-keys m (from ++ r)) ∙ some) (at_source r ∙ ap not e)
      ] refl
