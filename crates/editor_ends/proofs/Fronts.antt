-- Fronts of paths, and the directories that are opened and closed.
use Rattle.std.proofs.Common.{◌≡◌, Bool, true, false, cond, not, ◌&&◌, ◌||◌, List, [], ◌∷◌, ◌++◌, Option, Some, None, is_some, refl, sym, ap, ◌∙◌, append_assoc, append-nil, map, reverse, filter}
use Rattle.std.proofs.lemmas.List.{reverse-append}
use Rattle.std.proofs.lemmas.List.Elements.{filter-append}
use Rattle.std.specs.Option.{option_and_then}
use Rattle.std.specs.List.{AllByRecursion}
use Rattle.node_base.specs.Path.{Name, Path, same_name, same_path, is_front, rest_after}
use Rattle.node_base.proofs.PathLemmas.{rest_after-append, rest_after-longer, longer_is_no_front, same_path-cons, path_of_same}
use Rattle.node_base.specs.Tree.{PathMap}
use Rattle.delta_editor.specs.declared.call.Call.{Call}
use Rattle.delta_editor.specs.declared.call.Call.TheVariants as call
use Rattle.editor_ends.specs.Fronts.{above, fronts_from, fronts}
use Rattle.editor_ends.specs.Drive.{base_number, closes, opens}

-- ---- lists

pub all_map : {X : Type 0} {P Q : X → Type 0} (xs : List X) → ((x : X) → P x → Q x) → AllByRecursion P xs → AllByRecursion Q xs
all_map [] f h = tt
all_map (x ∷ xs) f h = (f x h.0, all_map xs f h.1)

filter_same : (t u : Path → Bool) (xs : List Path) → AllByRecursion (λ e. t e ≡ u e) xs → filter t xs ≡ filter u xs
filter_same t u [] h = refl
filter_same t u (x ∷ xs) h = λ i. cond (h.0 i) (x ∷ filter_same t u xs h.1 i) (filter_same t u xs h.1 i)

pub filter_all : (t : Path → Bool) (xs : List Path) → AllByRecursion (λ e. t e ≡ true) xs → filter t xs ≡ xs
filter_all t [] h = refl
filter_all t (x ∷ xs) h = λ i. cond (h.0 i) (x ∷ filter_all t xs h.1 i) (filter_all t xs h.1 i)

pub filter_none : (t : Path → Bool) (xs : List Path) → AllByRecursion (λ e. t e ≡ false) xs → filter t xs ≡ []
filter_none t [] h = refl
filter_none t (x ∷ xs) h = λ i. cond (h.0 i) (x ∷ filter t xs) (filter_none t xs h.1 i)

-- ---- fronts

pub strict : (p : Path) (n : Name) → rest_after (p ++ n ∷ []) p ≡ None
strict p n = rest_after-longer p (n ∷ []) p ∙ ap (option_and_then (rest_after (n ∷ []))) (ap (rest_after p) (sym (append-nil p)) ∙ rest_after-append p [])

pub fronts_are : (d q w r : Path) → w ≡ d ++ (q ++ r) → AllByRecursion (λ e. not (is_front e w) ≡ false) (fronts_from d q)
fronts_are d [] w r e = tt
fronts_are d (n ∷ q) w r e =
    let longer = e ∙ sym (append_assoc d (n ∷ []) (q ++ r)) in
    (ap (λ z. not (is_front (d ++ n ∷ []) z)) longer ∙ ap (λ o. not (is_some o)) (rest_after-append (d ++ n ∷ []) (q ++ r)), fronts_are (d ++ n ∷ []) q w r longer)

pub below_none : (p q w : Path) → rest_after p w ≡ None → AllByRecursion (λ e. not (is_front e w) ≡ true) (fronts_from p q)
below_none p [] w h = tt
below_none p (n ∷ q) w h =
    let longer = longer_is_no_front p (n ∷ []) w h in
    (ap (λ o. not (is_some o)) longer, below_none (p ++ n ∷ []) q w longer)

below_itself : (p q : Path) → AllByRecursion (λ e. not (is_front e p) ≡ true) (fronts_from p q)
below_itself p [] = tt
below_itself p (n ∷ q) = (ap (λ o. not (is_some o)) (strict p n), below_none (p ++ n ∷ []) q p (strict p n))

pub fronts_append : (d q s : Path) → fronts_from d (q ++ s) ≡ fronts_from d q ++ fronts_from (d ++ q) s
fronts_append d [] s = ap (λ z. fronts_from z s) (sym (append-nil d))
fronts_append d (n ∷ q) s = ap (λ l. (d ++ n ∷ []) ∷ l) (fronts_append (d ++ n ∷ []) q s ∙ ap (λ z. fronts_from (d ++ n ∷ []) q ++ fronts_from z s) (append_assoc d (n ∷ []) q))

fronts_end : (d : Path) (n : Name) → fronts (d ++ n ∷ []) ≡ fronts d ++ (d ++ n ∷ []) ∷ []
fronts_end d n = fronts_append [] d (n ∷ [])

pub above-end : (d : Path) (n : Name) → above (d ++ n ∷ []) ≡ d
above-end [] n = refl
above-end (x ∷ []) n = refl
above-end (x ∷ y ∷ d) n = ap (λ z. x ∷ z) (above-end (y ∷ d) n)

pub above-append : (p : Path) (m : Name) (r : Path) → above (p ++ m ∷ r) ≡ p ++ above (m ∷ r)
above-append [] m r = refl
above-append (x ∷ []) m r = refl
above-append (x ∷ y ∷ p) m r = ap (λ z. x ∷ z) (above-append (y ∷ p) m r)

abbrev pub above_rest : Path → Path
above_rest [] = []
above_rest (n ∷ []) = n ∷ []
above_rest (n ∷ m ∷ p) = above_rest (m ∷ p)

pub above_is : (p : Path) → p ≡ above p ++ above_rest p
above_is [] = refl
above_is (n ∷ []) = refl
above_is (n ∷ m ∷ p) = ap (λ z. n ∷ z) (above_is (m ∷ p))

or_false : (b : Bool) → (b || false) ≡ b
or_false true = refl
or_false false = refl

pub front_end : (e d : Path) (n : Name) → is_front e (d ++ n ∷ []) ≡ (is_front e d || same_path e (d ++ n ∷ []))
front_end [] d n = refl
front_end (x ∷ []) [] n = elim (same_name x n) as (λ b. same_name x n ≡ b → is_some (cond {A = Option Path} b (Some []) None) ≡ same_path (x ∷ []) (n ∷ [])) [
  | true ↦ λ e. sym (same_path-cons x [] n [] ∙ ap (λ b. b && true) e)
  | false ↦ λ e. sym (same_path-cons x [] n [] ∙ ap (λ b. b && true) e)
] refl
front_end (x ∷ y ∷ e) [] n = elim (same_name x n) as (λ b. same_name x n ≡ b → is_some (cond {A = Option Path} b (rest_after (y ∷ e) []) None) ≡ same_path (x ∷ y ∷ e) (n ∷ [])) [
  | true ↦ λ h. sym (same_path-cons x (y ∷ e) n [] ∙ ap (λ b. b && false) h)
  | false ↦ λ h. sym (same_path-cons x (y ∷ e) n [] ∙ ap (λ b. b && false) h)
] refl
front_end (x ∷ e) (z ∷ d) n = elim (same_name x z) as (λ b. same_name x z ≡ b → is_some (cond {A = Option Path} b (rest_after e (d ++ n ∷ [])) None) ≡ (is_some (cond {A = Option Path} b (rest_after e d) None) || same_path (x ∷ e) (z ∷ (d ++ n ∷ [])))) [
  | true ↦ λ h. front_end e d n ∙ ap (λ b. is_front e d || b) (sym (same_path-cons x e z (d ++ n ∷ []) ∙ ap (λ b. b && same_path e (d ++ n ∷ [])) h))
  | false ↦ λ h. sym (same_path-cons x e z (d ++ n ∷ []) ∙ ap (λ b. b && same_path e (d ++ n ∷ [])) h)
] refl

-- ---- what is opened and closed

-- nothing is closed on the way down
pub closes-none : (d w r : Path) → w ≡ d ++ r → closes d w ≡ []
closes-none d w r e = ap (λ l. map call.CloseDir (reverse l)) (filter_none (λ e. not (is_front e w)) (fronts d) (fronts_are [] d w r e))

module _ (trees : List PathMap) (d : Path) (n : Name) where
  abbrev pub p : Path
  p = d ++ n ∷ []

  -- nothing is opened for what is right below the innermost
  pub opens-none : opens trees d p ≡ []
  opens-none = ap (λ l. map (λ e. call.OpenDir (above e) e (base_number trees)) l) (ap (λ z. filter (λ e. not (is_front e d)) (fronts z)) (above-end d n) ∙ filter_none (λ e. not (is_front e d)) (fronts d) (fronts_are [] d d [] (sym (append-nil d))))

  -- the child is opened before what is further down
  pub opens-child : (m : Name) (r : Path) → opens trees d (p ++ m ∷ r) ≡ call.OpenDir d p (base_number trees) ∷ opens trees p (p ++ m ∷ r)
  opens-child m r =
      ap shown here
      ∙ (λ i. call.OpenDir (above-end d n i) p (base_number trees) ∷ shown (sym there i))
    where
      shown : List Path → List Call
      shown l = map (λ e. call.OpenDir (above e) e (base_number trees)) l

      s : Path
      s = above (m ∷ r)

      all : fronts (above (p ++ m ∷ r)) ≡ fronts p ++ fronts_from p s
      all = ap fronts (above-append p m r) ∙ fronts_append [] p s

      here : filter (λ e. not (is_front e d)) (fronts (above (p ++ m ∷ r))) ≡ p ∷ fronts_from p s
      here =
          ap (filter (λ e. not (is_front e d))) (all ∙ ap (λ l. l ++ fronts_from p s) (fronts_end d n) ∙ append_assoc (fronts d) (p ∷ []) (fronts_from p s))
          ∙ filter-append (λ e. not (is_front e d)) (fronts d) (p ∷ fronts_from p s)
          ∙ ap (λ l. l ++ filter (λ e. not (is_front e d)) (p ∷ fronts_from p s)) (filter_none (λ e. not (is_front e d)) (fronts d) (fronts_are [] d d [] (sym (append-nil d))))
          ∙ filter_all (λ e. not (is_front e d)) (p ∷ fronts_from p s) (ap (λ o. not (is_some o)) (strict d n), below_none p s d (strict d n))

      there : filter (λ e. not (is_front e p)) (fronts (above (p ++ m ∷ r))) ≡ fronts_from p s
      there =
          ap (filter (λ e. not (is_front e p))) all
          ∙ filter-append (λ e. not (is_front e p)) (fronts p) (fronts_from p s)
          ∙ ap (λ l. l ++ filter (λ e. not (is_front e p)) (fronts_from p s)) (filter_none (λ e. not (is_front e p)) (fronts p) (fronts_are [] p p [] (sym (append-nil p))))
          ∙ filter_all (λ e. not (is_front e p)) (fronts_from p s) (below_itself p s)

  -- the child is closed before its directory
  pub closes-child : (w : Path) → is_front p w ≡ false → closes p w ≡ call.CloseDir p ∷ closes d w
  closes-child w h =
      ap (λ l. map call.CloseDir (reverse l))
      (ap (filter (λ e. not (is_front e w))) (fronts_end d n)
      ∙ filter-append (λ e. not (is_front e w)) (fronts d) (p ∷ [])
      ∙ (λ i. filter (λ e. not (is_front e w)) (fronts d) ++ cond (not (h i)) (p ∷ []) [])
      )
      ∙ ap (map call.CloseDir) (reverse-append (filter (λ e. not (is_front e w)) (fronts d)) (p ∷ []))

  -- beside the child the same is opened as from its directory
  pub opens-beside : (w : Path) → is_front p w ≡ false → opens trees p w ≡ opens trees d w
  opens-beside w h =
      ap (λ l. map (λ e. call.OpenDir (above e) e (base_number trees)) l)
      (filter_same (λ e. not (is_front e p)) (λ e. not (is_front e d)) (fronts (above w)) (all_map (fronts (above w)) same (fronts_are [] (above w) w (above_rest w) (above_is w))))
    where
      same : (e : Path) → not (is_front e w) ≡ false → not (is_front e p) ≡ not (is_front e d)
      same e f = ap not (front_end e d n ∙ elim (same_path e p) as (λ b. same_path e p ≡ b → (is_front e d || b) ≡ is_front e d) [
        | true ↦ λ g. cc (f, ap (λ z. is_front z w) (path_of_same e p g), h)
        | false ↦ λ g. or_false (is_front e d)
      ] refl)
