-- An editor that builds refuses no call of a set that has no fault.
use Rattle.std.proofs.Common.{◌≡◌, ◌⊎◌, inl, inr, ℕ, ◌==◌, Bool, true, false, cond, not, ◌&&◌, ◌||◌, List, [], ◌∷◌, ◌++◌, length, map, filter, reverse, Option, Some, None, is_some, refl, sym, ap, subst, ◌∙◌, append_assoc, append-nil, arith, if◌then◌else◌}
use Rattle.std.specs.FinMap as finite
use Rattle.std.proofs.lemmas.Bool.Decides.{nat_tests}
use Rattle.std.specs.Option.{option_map, option_map_or, IsNone, IsSomeAnd}
use Rattle.std.specs.List.{AllByRecursion, list_any}
use Rattle.std.proofs.lemmas.List.Folds.{list_any-append}
use Rattle.std.specs.declared.cmp.Ordering.TheVariants.{Less}
use Rattle.node_base.specs.Path.{Name, Path, path_cmp, paths_total, same_path, is_front, rest_after}
use Rattle.node_base.specs.Props.{PropMap}
use Rattle.node_base.proofs.PathLemmas.{same_path_itself, path_of_same, before_below, later_is_no_front}
use Rattle.node_base.specs.declared.node.Node.{Node}
use Rattle.node_base.specs.declared.node.NodeKind.{NodeKind}
use Rattle.node_base.specs.declared.node.NodeKind.TheVariants.{File, Dir}
use Rattle.node_base.specs.declared.node.Action.{Action}
use Rattle.node_base.specs.declared.node.Action.TheVariants.{Modify, Add, Delete, Replace}
use Rattle.node_base.specs.declared.node.Source.{Source}
use Rattle.node_base.specs.Tree.{PathMap, IsDirAt, base, blank, with_number, with_given, marked, grafted, blocked, kind_of, source_at}
use Rattle.dump_load.specs.declared.change.Change.{Change}
use Rattle.dump_load.specs.Changes.{settles, is_delete, brings, IsWhole, Precedes, IsNormal}
use Rattle.dump_load.specs.Effect.{effect, stepped}
use Rattle.dump_load.specs.Faults.{fault, fault_of, fault_after, judged, is_file, place_fault, copies_too_long}
use Rattle.dump_load.proofs.Faultless.{Faultless, faultless, deletes_settle}
use Rattle.dump_load.proofs.OneMore.{effect-end}
use Rattle.dump_load.proofs.PathOrder.{no_front_none, between}
use Rattle.dump_load.proofs.Walk.{effect_none, normal_follows, whole_in}
use Rattle.delta_editor.specs.declared.call.Call.{Call}
use Rattle.delta_editor.specs.declared.call.Call.TheVariants as call
use Rattle.delta_editor.specs.CallEffect.{all_called, call_effect, added}
use Rattle.delta_editor.proofs.CallLemmas.{all_called-append}
use Rattle.delta_editor.specs.declared.fault.EditorFault.TheVariants as refusal
use Rattle.editor_ends.specs.Fronts.{above, fronts_from, fronts}
use Rattle.md5.specs.Md5.{md5}
use Rattle.editor_ends.specs.Parts.{removals, settings, prop_calls, pieces, text_calls, dir_parts, parts}
use Rattle.editor_ends.specs.Drive.{base_number, opening, opens, closes, calls_with, change_calls, of_file, old_props, rests_with, rests_at, walk, drive}
use Rattle.editor_ends.specs.BuildFaults.{takes, acts_below, call_fault, first_refusal}
use Rattle.dump_load.specs.Bounds.{IsWithin}
use Rattle.editor_ends.proofs.Fronts.{all_map, fronts_are, above_is, above_rest, strict, front_end}
use Rattle.editor_ends.proofs.Filled.{Nodes, or_no, rest_itself, stepped_away}
use Rattle.editor_ends.proofs.Walks.{front_rest, never_itself, of_root}
use Rattle.editor_ends.proofs.CallEffects.{opened, kind, plain, IsPlain, called-closes, marked-way, all_filter, front_through, called-root, called-change, marked-root, called-opening, none_first, none_rest}
use Rattle.editor_ends.proofs.Nested.{Ends, ends_of, rests_before, is_front-append, root_is_dir, later_below, below_root}
use Rattle.editor_ends.proofs.Faultfree.{Free, free_one, free_both, closes_free, Touches, touches_both, touches_map, none_takes, none_below, kinds, file_kind, some_kind, kinds_marked, blocked_alike, above_it, Comes, may_open, may_delete, may_add}
use Rattle.editor_ends.proofs.Partfree.{parts_free}

-- ---- paths

not_yes : (b : Bool) → b ≡ true → b ≡ false → ⊥
not_yes b t f = cc (t, f)

itself : (p : Path) → is_front p p ≡ true
itself p = ap is_some (rest_itself p)

-- one path is before another, and not above it
abbrev Past : Path → Path → Type 0
Past q p = (path_cmp q p ≡ Less) × (is_front q p ≡ false)

past_later : (q p r : Path) → Past q p → path_cmp p r ≡ Less → Past q r
past_later q p r h less = (paths_total.trans q p r h.0 less, ap is_some (between q p r h.0 less (no_front_none q p h.1)))

-- a front of a path that comes before another comes before that one
left_behind : (q at p : Path) → is_front q at ≡ true → path_cmp at p ≡ Less → path_cmp q p ≡ Less
left_behind q at p h less = by (front_rest q at h).rest (front_rest q at h).is
  where
    by : (r : Path) → at ≡ q ++ r → path_cmp q p ≡ Less
    by [] e = ap (λ z. path_cmp z p) (sym (e ∙ append-nil q)) ∙ less
    by (n ∷ r) e = paths_total.trans q at p (ap (path_cmp q) e ∙ before_below q r n) less

-- a path comes after what is above it
above_before : (p q : Path) → is_front p [] ≡ false → path_cmp p q ≡ Less → path_cmp (above p) q ≡ Less
above_before p q below less = let e = ends_of p below in paths_total.trans (above p) p q (ap (path_cmp (above p)) e.is ∙ before_below (above p) [] e.name) less

-- a front of a path but the path itself is a front of what is above
proper_above : (q p : Path) → is_front p [] ≡ false → is_front q p ≡ true → same_path q p ≡ false → is_front q (above p) ≡ true
proper_above q p below h apart =
    let e = ends_of p below in
    sym (or_no (is_front q (above p)))
    ∙ ap (λ b. is_front q (above p) || b) (sym (ap (same_path q) (sym e.is) ∙ apart))
    ∙ sym (front_end q (above p) e.name)
    ∙ ap (is_front q) (sym e.is) ∙ h

above_through : (q p : Path) → is_front q (above p) ≡ true → is_front q p ≡ true
above_through q p h = front_through q (above p) p h (ap (is_front (above p)) (above_is p) ∙ is_front-append (above p) (above_rest p))

-- nothing that is no front of a path is the path
other : (q p : Path) → is_front p q ≡ false → same_path q p ≡ false
other q p h = by (same_path q p) refl
  where
    by : (b : Bool) → same_path q p ≡ b → b ≡ false
    by false e = refl
    by true e = absurd (not_yes (is_front p q) (ap (is_front p) (path_of_same q p e) ∙ itself p) h)

never_up : (p : Path) → is_front p [] ≡ false → is_front p (above p) ≡ false
never_up p below = let e = ends_of p below in ap (λ z. is_front z (above p)) e.is ∙ ap is_some (strict (above p) e.name)

-- what is above doesn't have the path above it
up_of : (p q : Path) → is_front p [] ≡ false → is_front q (above p) ≡ true → is_front p q ≡ false
up_of p q below h = by (is_front p q) refl
  where
    by : (b : Bool) → is_front p q ≡ b → b ≡ false
    by false e = refl
    by true e = absurd (not_yes (is_front p (above p)) (front_through p q (above p) e h) (never_up p below))

-- ---- the way to a path

record Tail (p : Path) : Type 0 where
  name : Name
  rest : Path
  is : p ≡ name ∷ rest

tail : (w : Path) (n : Name) (r : Path) → Tail (w ++ n ∷ r)
tail [] n r = record { name = n; rest = r; is = refl }
tail (m ∷ w) n r = record { name = m; rest = w ++ n ∷ r; is = refl }

module _ (trees : List PathMap) (at p : Path) (g : Nodes) (unblocked : blocked g p ≡ None) where
  abbrev OnTheWay : Path → Path → Type 0
  OnTheWay e q = (is_front q at ≡ true) ⊎ ((is_front q e ≡ true) ⊎ Past q p)

  abbrev way_calls : Path → Path → List Call
  way_calls e w = map (λ d. call.OpenDir (above d) d (base_number trees)) (filter (λ d. not (is_front d at)) (fronts_from e w))

  opens_free : (e w : Path) (n : Name) (r : Path) → p ≡ e ++ (w ++ n ∷ r) → (done : List Call) → ((q : Path) → kinds (call_effect trees done) q ≡ kinds g q) → Touches (OnTheWay e) done → Free trees done (way_calls e w)
  opens_free e [] n r is done alike t = refl
  opens_free e (m ∷ w) n r is done alike t =
      elim (is_front d at) as (λ b. is_front d at ≡ b → Free trees done (map (λ d. call.OpenDir (above d) d (base_number trees)) (cond (not b) (d ∷ rest) rest))) [
        | true ↦ λ _. opens_free d w n r on done alike (touches_map done widen t)
        | false ↦ λ h. free_one trees done one (way_calls d w) (may h) (opens_free d w n r on (done ++ one ∷ []) (λ q. (λ i. kinds (all_called-append trees (base trees) done (one ∷ []) i) q) ∙ kinds_marked (call_effect trees done) d (length trees) q ∙ alike q) (touches_both (OnTheWay d) done (one ∷ []) (touches_map done widen t) (inr (inl (itself d)), tt)))
      ] refl
    where
      d : Path
      d = e ++ m ∷ []

      rest : List Path
      rest = filter (λ d. not (is_front d at)) (fronts_from d w)

      one : Call
      one = call.OpenDir (above d) d (base_number trees)

      on : p ≡ d ++ (w ++ n ∷ r)
      on = is ∙ sym (append_assoc e (m ∷ []) (w ++ n ∷ r))

      widen : (q : Path) → OnTheWay e q → OnTheWay d q
      widen q (inl h) = inl h
      widen q (inr (inl h)) = inr (inl (front_through q e d h (is_front-append e (m ∷ []))))
      widen q (inr (inr h)) = inr (inr h)

      never : is_front d at ≡ false → OnTheWay e d → ⊥
      never h (inl k) = not_yes (is_front d at) k h
      never h (inr (inl k)) = not_yes (is_front d e) k (ap is_some (strict e m))
      never h (inr (inr k)) = not_yes (is_front d p) (ap (is_front d) on ∙ is_front-append d (w ++ n ∷ r)) k.1

      differs : is_front d at ≡ false → (q : Path) → OnTheWay e q → same_path q d ≡ false
      differs h q k = by (same_path q d) refl
        where
          by : (b : Bool) → same_path q d ≡ b → b ≡ false
          by false s = refl
          by true s = absurd (never h (subst (OnTheWay e) (path_of_same q d s) k))

      may : is_front d at ≡ false → call_fault trees done one ≡ None
      may h =
          let u = tail w n r in
          let up = above_it g d u.name u.rest (ap (blocked g) (ap (λ z. d ++ z) (sym u.is) ∙ sym on) ∙ unblocked) in
          may_open trees done d (none_takes d done (touches_map done (differs h) t)) (blocked_alike (call_effect trees done) g d (λ q _. alike q) ∙ up.free) Dir (alike d ∙ up.dir)

-- ---- what a change finds and leaves

record Found (o : Option Node) (k : NodeKind) : Type 0 where
  node : Node
  is : o ≡ Some node
  of_kind : kind_of node ≡ k

found : (o : Option Node) (k : NodeKind) → option_map kind_of o ≡ Some k → Found o k
found None k e = cc
found (Some x) k e = record { node = x; is = refl; of_kind = same (kind_of x) k e }
  where
    same : (a b : NodeKind) → Some a ≡ Some b → a ≡ b
    same a b e = cc

right_off : (a b : Bool) → a ≡ true → (a && b) ≡ false → b ≡ false
right_off true b e h = h
right_off false b e h = cc

there : (b : Bool) → place_fault Delete b ≡ None → b ≡ true
there true e = refl
there false e = cc

gone : (b : Bool) → place_fault Add b ≡ None → b ≡ false
gone true e = cc
gone false e = refl

module _ (trees : List PathMap) (f : Nodes) (c : Change) (none : fault_of trees f c ≡ None) (whole : IsWhole c) (below : is_front c.path [] ≡ false) where
  abbrev p : Path
  p = c.path

  abbrev file : Bool
  file = of_file trees f c

  ok : Faultless trees f c
  ok = faultless trees f c none

  is_plain : IsPlain trees f c
  is_plain = plain trees f c none whole

  judged_is : is_delete c.action ≡ false → judged trees f c ≡ Some (kind file)
  judged_is d = Rattle.editor_ends.proofs.CallEffects.judged_kind trees f c none whole

  comes : brings c ≡ true → Comes trees p c.source (kind file)
  comes b =
      record {
        kind = from c.source refl (sym (Rattle.editor_ends.proofs.CallEffects.judged_brings trees f c b) ∙ Rattle.editor_ends.proofs.CallEffects.judged_kind trees f c none whole);
        there = ok.source;
        small = right_off (brings c) (option_map_or (copies_too_long trees p) c.source false) b ok.copy;
      }
    where
      from : (o : Option Source) → c.source ≡ o → option_map_or (λ s. option_map kind_of (source_at trees s [])) c.source c.kind ≡ Some (kind file) → option_map_or (λ s. option_map kind_of (source_at trees s [])) c.source (Some (kind file)) ≡ Some (kind file)
      from None e h = ap (λ o. option_map_or (λ s. option_map kind_of (source_at trees s [])) o (Some (kind file))) e
      from (Some s) e h = ap (λ o. option_map_or (λ s. option_map kind_of (source_at trees s [])) o (Some (kind file))) e ∙ sym (ap (λ o. option_map_or (λ s. option_map kind_of (source_at trees s [])) o c.kind) e) ∙ h

  -- the calls that open it
  opening_free : (done : List Call) → ((q : Path) → kinds (call_effect trees done) q ≡ kinds f q) → Touches (λ q. is_front p q ≡ false) done → Free trees done (opening trees file c)
  opening_free done alike t = by c.action refl file refl
    where
      g : Nodes
      g = call_effect trees done

      new : list_any (takes p) done ≡ false
      new = none_takes p done (touches_map done (λ q h. other q p h) t)

      none_under : list_any (acts_below p) done ≡ false
      none_under = none_below p done (touches_map done (λ q h. ap (λ b. b && not (same_path p q)) h) t)

      free : blocked g p ≡ None
      free = blocked_alike g f p (λ q _. alike q) ∙ ok.free

      same_there : is_some (g p) ≡ is_some (f p)
      same_there = sym (some_kind (g p)) ∙ ap is_some (alike p) ∙ some_kind (f p)

      no_root : same_path p [] ≡ false
      no_root = by (same_path p []) refl
        where
          by : (b : Bool) → same_path p [] ≡ b → b ≡ false
          by false e = refl
          by true e = cc (ap (λ z. is_front z []) (path_of_same p [] e), below)

      with : Action → Bool → List Call
      with a b = opening trees b (record { path = p; action = a; kind = c.kind; source = c.source; props = c.props; text = c.text })

      placed : (a : Action) → c.action ≡ a → place_fault a (is_some (g p)) ≡ None
      placed a e = ap (place_fault a) same_there ∙ ap (λ a. place_fault a (is_some (f p))) (sym e) ∙ ok.place

      opened_kind : c.action ≡ Modify → (k : NodeKind) → kind file ≡ k → kinds g p ≡ Some k
      opened_kind e k is = alike p ∙ sym (Rattle.editor_ends.proofs.CallEffects.judged_stays trees f c (ap (λ a. settles a && not (is_delete a)) e)) ∙ Rattle.editor_ends.proofs.CallEffects.judged_kind trees f c none whole ∙ ap (λ (k : NodeKind). Some k) is

      comes_as : (a : Action) → c.action ≡ a → (settles a && not (is_delete a)) ≡ true → (k : NodeKind) → kind file ≡ k → Comes trees p c.source k
      comes_as a e b k is = subst (Comes trees p c.source) is (comes (ap (λ a. settles a && not (is_delete a)) e ∙ b))

      delete : Call
      delete = call.DeleteEntry (above p) p (base_number trees)

      after : List Call
      after = done ++ delete ∷ []

      after_is : (q : Path) → call_effect trees after q ≡ grafted (marked g p (length trees)) p (λ _. None) q
      after_is q = λ i. all_called-append trees (base trees) done (delete ∷ []) i q

      new_after : list_any (takes p) after ≡ false
      new_after = list_any-append (takes p) done (delete ∷ []) ∙ (λ i. new i || false)

      free_after : blocked (call_effect trees after) p ≡ None
      free_after = blocked_alike (call_effect trees after) g p (λ q e. ap (option_map kind_of) (after_is q) ∙ ap (λ (o : Option Path). option_map kind_of (option_map_or (λ _. None) o (marked g p (length trees) q))) e ∙ kinds_marked g p (length trees) q) ∙ free

      gone_after : is_some (call_effect trees after p) ≡ false
      gone_after = ap is_some (after_is p ∙ ap (λ (o : Option Path). option_map_or (λ _. None) o (marked g p (length trees) p)) (rest_itself p))

      deleted : is_some (g p) ≡ true → call_fault trees done delete ≡ None
      deleted h = may_delete trees done p new free no_root none_under h

      by : (a : Action) → c.action ≡ a → (b : Bool) → file ≡ b → Free trees done (with a b)
      by Modify e true k = free_one trees done (call.OpenFile (above p) p (base_number trees)) [] (may_open trees done p new free File (opened_kind e File (ap kind k))) refl
      by Modify e false k = free_one trees done (call.OpenDir (above p) p (base_number trees)) [] (may_open trees done p new free Dir (opened_kind e Dir (ap kind k))) refl
      by Add e true k = free_one trees done (call.AddFile (above p) p c.source) [] (may_add trees done p new free no_root File c.source (comes_as Add e refl File (ap kind k)) (gone (is_some (g p)) (placed Add e))) refl
      by Add e false k = free_one trees done (call.AddDir (above p) p c.source) [] (may_add trees done p new free no_root Dir c.source (comes_as Add e refl Dir (ap kind k)) (gone (is_some (g p)) (placed Add e))) refl
      by Delete e b k = free_one trees done delete [] (deleted (there (is_some (g p)) (placed Delete e))) refl
      by Replace e true k = free_one trees done delete (call.AddFile (above p) p c.source ∷ []) (deleted (there (is_some (g p)) (placed Replace e))) (free_one trees after (call.AddFile (above p) p c.source) [] (may_add trees after p new_after free_after no_root File c.source (comes_as Replace e refl File (ap kind k)) gone_after) refl)
      by Replace e false k = free_one trees done delete (call.AddDir (above p) p c.source ∷ []) (deleted (there (is_some (g p)) (placed Replace e))) (free_one trees after (call.AddDir (above p) p c.source) [] (may_add trees after p new_after free_after no_root Dir c.source (comes_as Replace e refl Dir (ap kind k)) gone_after) refl)

  -- after them
  opened_free : blocked (opened trees f file c) p ≡ None
  opened_free = blocked_alike (opened trees f file c) f p (λ q e. by (is_delete c.action) (settles c.action) q e) ∙ ok.free
    where
      n : ℕ
      n = length trees

      graft : (new : Nodes) (q : Path) → rest_after p q ≡ None → kinds (grafted (marked f p n) p new) q ≡ kinds f q
      graft new q e = ap (λ (o : Option Path). option_map kind_of (option_map_or new o (marked f p n q))) e ∙ kinds_marked f p n q

      by : (d b : Bool) (q : Path) → rest_after p q ≡ None → kinds (cond {A = Nodes} d (grafted (marked f p n) p (λ _. None)) (cond {A = Nodes} b (grafted (marked f p n) p (added trees (kind file) c.source)) (marked f p n))) q ≡ kinds f q
      by true b q e = graft (λ _. None) q e
      by false true q e = graft (added trees (kind file) c.source) q e
      by false false q e = kinds_marked f p n q

  opened_kind : is_delete c.action ≡ false → kinds (opened trees f file c) p ≡ Some (kind file)
  opened_kind d =
      ap (λ b. option_map kind_of (cond {A = Nodes} b (grafted (marked f p n) p (λ _. None)) (cond {A = Nodes} (settles c.action) (grafted (marked f p n) p (added trees (kind file) c.source)) (marked f p n)) p)) d
      ∙ by (settles c.action) refl
    where
      n : ℕ
      n = length trees

      blank_kind : (k : NodeKind) → kind_of (with_number n (blank (Some k))) ≡ k
      blank_kind File = refl
      blank_kind Dir = refl

      numbered : (o : Option Node) → option_map kind_of (option_map (λ x. with_number n x) o) ≡ option_map kind_of o
      numbered None = refl
      numbered (Some x) = refl

      from : (o : Option Source) (k : NodeKind) → option_map_or (λ s. option_map kind_of (source_at trees s [])) o (Some k) ≡ Some k → option_map kind_of (added trees k o []) ≡ Some k
      from None k e = ap (λ (k : NodeKind). Some k) (blank_kind k)
      from (Some s) k e = numbered (source_at trees s []) ∙ e

      by : (b : Bool) → settles c.action ≡ b → option_map kind_of (cond {A = Nodes} b (grafted (marked f p n) p (added trees (kind file) c.source)) (marked f p n) p) ≡ Some (kind file)
      by true s = ap (λ (o : Option Path). option_map kind_of (option_map_or (added trees (kind file) c.source) o (marked f p n p))) (rest_itself p) ∙ from c.source (kind file) (comes (λ i. s i && not (d i))).kind
      by false s = kinds_marked f p n p ∙ sym (Rattle.editor_ends.proofs.CallEffects.judged_stays trees f c (ap (λ b. b && not (is_delete c.action)) s)) ∙ Rattle.editor_ends.proofs.CallEffects.judged_kind trees f c none whole

  -- all its calls, after those that lead there
  calls_free : IsWithin c → (done : List Call) → ◌≡◌ {A = Nodes} (marked (call_effect trees done) p (length trees)) (marked f p (length trees)) → Touches (λ q. is_front p q ≡ false) done → Free trees done (change_calls trees f c)
  calls_free within done here t =
      ap (λ b. Rattle.editor_ends.specs.BuildFaults.refusal_after trees done (cond b [] (opening trees file c) ++ cond (is_delete c.action) [] (parts file c (old_props trees f c)))) below
      ∙ free_both trees done (opening trees file c) (cond (is_delete c.action) [] (parts file c (old_props trees f c))) (opening_free done alike t) (by (is_delete c.action) refl)
    where
      n : ℕ
      n = length trees

      alike : (q : Path) → kinds (call_effect trees done) q ≡ kinds f q
      alike q = sym (kinds_marked (call_effect trees done) p n q) ∙ (λ i. kinds (here i) q) ∙ kinds_marked f p n q

      after : List Call
      after = done ++ opening trees file c

      now : ◌≡◌ {A = Nodes} (call_effect trees after) (opened trees f file c)
      now = all_called-append trees (base trees) done (opening trees file c) ∙ called-opening trees f (call_effect trees done) file c here

      has_text : (x : Node) → kind_of x ≡ kind file → file ≡ true → is_some x.text ≡ true
      has_text x k e = sym (file_kind x) ∙ ap is_file (k ∙ ap kind e)

      by : (b : Bool) → is_delete c.action ≡ b → Free trees after (cond b [] (parts file c (old_props trees f c)))
      by true d = refl
      by false d =
          let u = found (opened trees f file c p) (kind file) (opened_kind d) in
          parts_free trees file c (old_props trees f c) after u.node within (record { at = ap (λ (h : Nodes). h p) now ∙ u.is; free = ap (λ (h : Nodes). blocked h p) now ∙ opened_free }) (is_plain.props d u.node u.is) (has_text u.node u.of_kind)

  -- what a change leaves of a file is a file
  leaves_file : is_delete c.action ≡ false → file ≡ true → kinds (stepped trees f c) p ≡ Some File
  leaves_file d e =
      let u = found (opened trees f file c p) (kind file) (opened_kind d) in
      (λ i. kinds (sym (Rattle.editor_ends.proofs.CallEffects.opened-parted trees f file c d (λ s. is_plain.kind (λ i. s i && not (d i)))) i) p)
      ∙ (λ i. option_map kind_of (option_map (λ x. cond (same_path_itself p i) (with_given c.text c.props x) x) (u.is i)))
      ∙ ap Some (kept u.node c.text (sym (file_kind u.node) ∙ ap is_file (u.of_kind ∙ ap kind e)))
    where
      kept : (x : Node) (t : Option (List ℕ)) → is_some x.text ≡ true → kind_of (with_given t c.props x) ≡ File
      kept x None h = ap (λ b. cond b File Dir) h
      kept x (Some t) h = refl

-- ---- nothing follows below a file

under_file : (trees : List PathMap) (done s : List Change) (p : Path) → IsNormal (done ++ s) → fault_after trees done s ≡ None → kinds (effect trees done) p ≡ Some File → AllByRecursion (λ d. path_cmp p d.path ≡ Less) s → AllByRecursion (λ d. is_front p d.path ≡ false) s
under_file trees done [] p normal none file later = tt
under_file trees done (d ∷ s) p normal none file later =
    (by (is_front p d.path) refl, under_file trees (done ++ d ∷ []) s p (subst IsNormal (sym (append_assoc done (d ∷ []) s)) normal) (none_rest (fault_of trees f d) (fault_after trees (done ++ d ∷ []) s) none) still later.1)
  where
    f : Nodes
    f = effect trees done

    free : blocked f d.path ≡ None
    free = (faultless trees f d (none_first (fault_of trees f d) (fault_after trees (done ++ d ∷ []) s) none)).free

    never : (r : Path) → d.path ≡ p ++ r → ⊥
    never [] e = never_itself p d.path (ap (rest_after p) (e ∙ append-nil p) ∙ rest_itself p) later.0
    never (n ∷ r) e = two (sym file ∙ (above_it f p n r (ap (blocked f) (sym e) ∙ free)).dir)
      where
        two : Some File ≡ Some Dir → ⊥
        two h = cc h

    by : (b : Bool) → is_front p d.path ≡ b → b ≡ false
    by false e = refl
    by true e = absurd (never (front_rest p d.path e).rest (front_rest p d.path e).is)

    clear : rest_after d.path p ≡ None
    clear = later_is_no_front d.path p later.0

    still : kinds (effect trees (done ++ d ∷ [])) p ≡ Some File
    still = ap (option_map kind_of) (effect-end trees done d (normal_follows done s d normal) (deletes_settle d.action) p ∙ stepped_away trees f d p (λ _. clear) (Rattle.node_base.proofs.PathLemmas.differs_of_no_rest d.path p clear)) ∙ kinds_marked f d.path (length trees) p ∙ file

-- ---- the walk

-- what was opened, added or deleted is open or above what is open, or all that follows comes after it and isn't below it
abbrev Kept : Path → List Change → Path → Type 0
Kept at s q = (is_front q at ≡ true) ⊎ AllByRecursion (λ d. Past q d.path) s

all_past : (q : Path) (s : List Change) → AllByRecursion (λ d. path_cmp q d.path ≡ Less) s → AllByRecursion (λ d. is_front q d.path ≡ false) s → AllByRecursion (λ d. Past q d.path) s
all_past q [] h k = tt
all_past q (d ∷ s) h k = ((h.0, k.0), all_past q s h.1 k.1)

rests_front : (file : Bool) (c : Change) (q : Path) → is_front q (above c.path) ≡ true → is_front q (rests_with file c) ≡ true
rests_front file c q h = by (is_delete c.action) file
  where
    by : (d b : Bool) → is_front q (cond d (above c.path) (cond b (above c.path) c.path)) ≡ true
    by true b = h
    by false true = h
    by false false = above_through q c.path h

-- the calls of one change, by what they open, add or delete
closes_touch : (P : Path → Type 0) (ps : List Path) → Touches P (map call.CloseDir ps)
closes_touch P [] = tt
closes_touch P (p ∷ ps) = (tt, closes_touch P ps)

opens_touch : (P : Path → Type 0) (b : Option ℕ) (ps : List Path) → AllByRecursion P ps → Touches P (map (λ d. call.OpenDir (above d) d b) ps)
opens_touch P b [] h = tt
opens_touch P b (p ∷ ps) h = (h.0, opens_touch P b ps h.1)

is_true : (b : Bool) → not b ≡ false → b ≡ true
is_true true h = refl
is_true false h = cc h

-- directories on the way are above the path
way_touch : (trees : List PathMap) (at p : Path) (P : Path → Type 0) → ((q : Path) → is_front q (above p) ≡ true → P q) → Touches P (opens trees at p)
way_touch trees at p P k = opens_touch P (base_number trees) (filter (λ d. not (is_front d at)) (fronts (above p))) (all_filter P (λ d. not (is_front d at)) (fronts (above p)) (all_map (fronts (above p)) (λ e h. k e (is_true (is_front e (above p)) h)) (fronts_are [] (above p) (above p) [] (sym (append-nil (above p))))))

opening_touch : (P : Path → Type 0) (trees : List PathMap) (file : Bool) (c : Change) → P c.path → Touches P (opening trees file c)
opening_touch P trees file c h = by c.action file
  where
    by : (a : Action) (b : Bool) → Touches P (opening trees b (record { path = c.path; action = a; kind = c.kind; source = c.source; props = c.props; text = c.text }))
    by Modify true = (h, tt)
    by Modify false = (h, tt)
    by Add true = (h, tt)
    by Add false = (h, tt)
    by Delete b = (h, tt)
    by Replace true = (h, (h, tt))
    by Replace false = (h, (h, tt))

silent_map : {X : Type 0} (P : Path → Type 0) (g : X → Call) → ((x : X) → Rattle.delta_editor.specs.Laws.touched (g x) ≡ None) → (xs : List X) → Touches P (map g xs)
silent_map P g h [] = tt
silent_map P g h (x ∷ xs) = (subst (λ o. Rattle.std.specs.Prelude.IfSome o P) (sym (h x)) tt, silent_map P g h xs)

props_touch : (P : Path → Type 0) (prop : Name → Option (List ℕ) → Call) → ((k : Name) (v : Option (List ℕ)) → Rattle.delta_editor.specs.Laws.touched (prop k v) ≡ None) → (old : PropMap) (new : Option PropMap) → Touches P (option_map_or (prop_calls prop old) new [])
props_touch P prop h old None = tt
props_touch P prop h old (Some new) =
    touches_both P (removals prop new (finite.entries old)) (settings prop (finite.entries new)) (silent_map {X = Name × List ℕ} P (λ e. prop e.0 None) (λ e. h e.0 None) (filter (λ e. not (finite.contains_key new e.0)) (finite.entries old)))
    (silent_map {X = Name × List ℕ} P (λ e. prop e.0 (Some e.1)) (λ e. h e.0 (Some e.1)) (finite.entries new))

parts_touch : (P : Path → Type 0) (file : Bool) (c : Change) (old : PropMap) → Touches P (parts file c old)
parts_touch P false c old = props_touch P (call.DirProp c.path) (λ k v. refl) old c.props
parts_touch P true c old =
    touches_both P (option_map_or (prop_calls (call.FileProp c.path) old) c.props []) (option_map_or (text_calls c.path) c.text [] ++ close) (props_touch P (call.FileProp c.path) (λ k v. refl) old c.props)
    (touches_both P (option_map_or (text_calls c.path) c.text []) close (text c.text) (tt, tt))
  where
    close : List Call
    close = call.CloseFile c.path (option_map md5 c.text) ∷ []

    text : (t : Option (List ℕ)) → Touches P (option_map_or (text_calls c.path) t [])
    text None = tt
    text (Some t) = (tt, touches_both P (map (call.TextPiece c.path) (pieces t)) (call.TextEnd c.path ∷ []) (silent_map P (call.TextPiece c.path) (λ x. refl) (pieces t)) (tt, tt))

calls_touch : (P : Path → Type 0) (trees : List PathMap) (file : Bool) (old : PropMap) (c : Change) → P c.path → Touches P (calls_with trees file old c)
calls_touch P trees file old c h = touches_both P (if is_front c.path [] then [] else opening trees file c) (if is_delete c.action then [] else parts file c old) (first (is_front c.path [])) (second (is_delete c.action))
  where
    first : (b : Bool) → Touches P (cond b [] (opening trees file c))
    first true = tt
    first false = opening_touch P trees file c h

    second : (b : Bool) → Touches P (cond b [] (parts file c old))
    second true = tt
    second false = parts_touch P file c old

module _ (trees : List PathMap) (done : List Change) (c : Change) (s : List Change) (at : Path) (calls : List Call) (normal : IsNormal (done ++ c ∷ s)) (here : IsNormal (c ∷ s)) (none : fault_after trees done (c ∷ s) ≡ None) (apart : is_front c.path at ≡ false) (later : path_cmp at c.path ≡ Less) (state : ◌≡◌ {A = Nodes} (call_effect trees calls) (effect trees done)) (touched : Touches (Kept at (c ∷ s)) calls) where
  abbrev f : Nodes
  f = effect trees done

  abbrev here_calls : List Call
  here_calls = closes at c.path ++ (opens trees at c.path ++ change_calls trees f c)

  faultless_here : fault_of trees f c ≡ None
  faultless_here = none_first (fault_of trees f c) (fault_after trees (done ++ c ∷ []) s) none

  below : is_front c.path [] ≡ false
  below = below_root c.path at apart

  -- none of its calls is refused
  change_free : IsWithin c → Free trees calls here_calls
  change_free within =
      free_both trees calls (closes at c.path) (opens trees at c.path ++ change_calls trees f c) (closes_free trees calls (reverse (filter (λ d. not (is_front d c.path)) (fronts at))))
      (free_both trees closed (opens trees at c.path) (change_calls trees f c) (opens_free trees at c.path f (faultless trees f c faultless_here).free [] (above c.path) e.name [] e.is closed (λ q. λ i. kinds (closed_is i) q) (touches_both _ calls (closes at c.path) (touches_map calls (λ q k. on_way q k) touched) (closes_touch _ _)))
      (calls_free trees f c faultless_here (whole_in done s c normal) below within way marks (touches_both _ closed (opens trees at c.path) (touches_both _ calls (closes at c.path) (touches_map calls (λ q k. clear q k) touched) (closes_touch _ _)) (way_touch trees at c.path (λ q. is_front c.path q ≡ false) (λ q h. up_of c.path q below h)))))
    where
      e : Ends c.path
      e = ends_of c.path below

      closed : List Call
      closed = calls ++ closes at c.path

      closed_is : ◌≡◌ {A = Nodes} (call_effect trees closed) f
      closed_is = all_called-append trees (base trees) calls (closes at c.path) ∙ (λ i. all_called trees (state i) (closes at c.path)) ∙ called-closes trees f (reverse (filter (λ d. not (is_front d c.path)) (fronts at)))

      way : List Call
      way = closed ++ opens trees at c.path

      marks : ◌≡◌ {A = Nodes} (marked (call_effect trees way) c.path (length trees)) (marked f c.path (length trees))
      marks =
          (λ i. marked (all_called-append trees (base trees) closed (opens trees at c.path) i) c.path (length trees))
          ∙ (λ i. marked (all_called trees (all_called-append trees (base trees) calls (closes at c.path) i) (opens trees at c.path)) c.path (length trees))
          ∙ (λ i. marked (all_called trees (all_called trees (state i) (closes at c.path)) (opens trees at c.path)) c.path (length trees))
          ∙ marked-way trees f at c.path

      on_way : (q : Path) → Kept at (c ∷ s) q → (is_front q at ≡ true) ⊎ ((is_front q [] ≡ true) ⊎ Past q c.path)
      on_way q (inl h) = inl h
      on_way q (inr h) = inr (inr h.0)

      clear : (q : Path) → Kept at (c ∷ s) q → is_front c.path q ≡ false
      clear q (inl h) = by (is_front c.path q) refl
        where
          by : (b : Bool) → is_front c.path q ≡ b → b ≡ false
          by false k = refl
          by true k = absurd (not_yes (is_front c.path at) (front_through c.path q at k h) apart)
      clear q (inr h) = ap is_some (later_is_no_front c.path q h.0.0)

  -- what was opened, added or deleted behind them
  kept_on : (q : Path) → Kept at (c ∷ s) q → Kept (rests_at trees f c) s q
  kept_on q (inr h) = inr h.1
  kept_on q (inl h) = by (is_front q c.path) refl
    where
      apart_q : same_path q c.path ≡ false
      apart_q = by (same_path q c.path) refl
        where
          by : (b : Bool) → same_path q c.path ≡ b → b ≡ false
          by false k = refl
          by true k = absurd (not_yes (is_front c.path at) (ap (λ z. is_front z at) (sym (path_of_same q c.path k)) ∙ h) apart)

      by : (b : Bool) → is_front q c.path ≡ b → Kept (rests_at trees f c) s q
      by true k = inl (rests_front (of_file trees f c) c q (proper_above q c.path below k apart_q))
      by false k = inr (all_map s (λ d pr. past_later q c.path d.path (left_behind q at c.path h later, k) pr.rises) here.1)

  state_on : ◌≡◌ {A = Nodes} (call_effect trees (calls ++ here_calls)) (effect trees (done ++ c ∷ []))
  state_on =
      all_called-append trees (base trees) calls here_calls
      ∙ (λ i. all_called trees (state i) here_calls)
      ∙ called-change trees f at c (plain trees f c faultless_here (whole_in done s c normal)) below
      ∙ (λ i q. sym (effect-end trees done c (normal_follows done s c normal) (deletes_settle c.action) q) i)

  own_kept : Kept (rests_at trees f c) s c.path
  own_kept = by (is_delete c.action) refl (of_file trees f c) refl
    where
      rise : AllByRecursion (λ d. path_cmp c.path d.path ≡ Less) s
      rise = all_map s (λ d pr. pr.rises) here.1

      by : (b : Bool) → is_delete c.action ≡ b → (k : Bool) → of_file trees f c ≡ k → Kept (rests_at trees f c) s c.path
      by true d k e = inr (all_past c.path s rise (all_map s (λ x pr. pr.stands d) here.1))
      by false d true e = inr (all_past c.path s rise (under_file trees (done ++ c ∷ []) s c.path (subst IsNormal (sym (append_assoc done (c ∷ []) s)) normal) (none_rest (fault_of trees f c) (fault_after trees (done ++ c ∷ []) s) none)
          (ap (option_map kind_of) (effect-end trees done c (normal_follows done s c normal) (deletes_settle c.action) c.path) ∙ leaves_file trees f c faultless_here (whole_in done s c normal) below d e) rise))
      by false d false e = inl ((λ i. is_front c.path (cond (d i) (above c.path) (cond (e i) (above c.path) c.path))) ∙ itself c.path)

  touched_on : Touches (Kept (rests_at trees f c) s) (calls ++ here_calls)
  touched_on =
      touches_both _ calls here_calls (touches_map calls kept_on touched)
      (touches_both _ (closes at c.path) _ (closes_touch _ _) (touches_both _ (opens trees at c.path) _ (way_touch trees at c.path (Kept (rests_at trees f c) s) (λ q h. inl (rests_front (of_file trees f c) c q h))) (calls_touch _ trees (of_file trees f c) (old_props trees f c) c own_kept)))

  later_on : AllByRecursion (λ d. path_cmp (rests_at trees f c) d.path ≡ Less) s
  later_on = all_map s (λ d pr. by d pr.rises (is_delete c.action) (of_file trees f c)) here.1
    where
      by : (d : Change) → path_cmp c.path d.path ≡ Less → (b k : Bool) → path_cmp (cond b (above c.path) (cond k (above c.path) c.path)) d.path ≡ Less
      by d h true k = above_before c.path d.path below h
      by d h false true = above_before c.path d.path below h
      by d h false false = h

free-walk : (trees : List PathMap) (done s : List Change) (at : Path) (calls : List Call) → IsNormal (done ++ s) → IsNormal s → fault_after trees done s ≡ None → AllByRecursion (λ d. is_front d.path at ≡ false) s → AllByRecursion (λ d. path_cmp at d.path ≡ Less) s → AllByRecursion IsWithin s → ◌≡◌ {A = Nodes} (call_effect trees calls) (effect trees done) → Touches (Kept at s) calls → Free trees calls (walk trees done at s)
free-walk trees done [] at calls normal here none apart later within state touched = closes_free trees calls (reverse (filter (λ d. not (is_front d [])) (fronts at)))
free-walk trees done (c ∷ s) at calls normal here none apart later within state touched =
    free_both trees calls segment (walk trees (done ++ c ∷ []) (rests_at trees f c) s) (change_free trees done c s at calls normal here none apart.0 later.0 state touched within.0)
    (free-walk trees (done ++ c ∷ []) s (rests_at trees f c) (calls ++ segment) (subst IsNormal (sym (append_assoc done (c ∷ []) s)) normal) here.2 (none_rest (fault_of trees f c) (fault_after trees (done ++ c ∷ []) s) none) (rests_before (of_file trees f c) c s here.1)
    (later_on trees done c s at calls normal here none apart.0 later.0 state touched) within.1
    (state_on trees done c s at calls normal here none apart.0 later.0 state touched)
    (touched_on trees done c s at calls normal here none apart.0 later.0 state touched))
  where
    f : Nodes
    f = effect trees done

    segment : List Call
    segment = closes at c.path ++ (opens trees at c.path ++ change_calls trees f c)

-- ---- the whole edit

same_number : (n : ℕ) → (n == n) ≡ true
same_number n = grind (arith, nat_tests)

dir_kind : (o : Option Node) → IsSomeAnd o (λ x. IsNone x.text) → option_map kind_of o ≡ Some Dir
dir_kind None h = absurd h
dir_kind (Some x) h = ap (λ b. Some (cond b File Dir)) h

pub free-drive : (trees : List PathMap) (s : List Change) → IsNormal s → fault trees s ≡ None → IsDirAt (base trees) [] → AllByRecursion IsWithin s → first_refusal trees (drive trees s) ≡ None
free-drive trees s normal none dir within =
    free_one trees [] (call.Target (length trees)) (call.OpenRoot (base_number trees) ∷ (walk trees [] [] s ++ ending)) (ap (λ b. Rattle.dump_load.specs.Faults.fault_if (not b) refusal.WrongNumber) (same_number (length trees)))
    (free_one trees (call.Target (length trees) ∷ []) (call.OpenRoot (base_number trees)) (walk trees [] [] s ++ ending) (may_open trees (call.Target (length trees) ∷ []) [] refl refl Dir (dir_kind (base trees []) dir))
    (free_both trees begun (walk trees [] [] s) ending (all s normal none within) refl))
  where
    begun : List Call
    begun = call.Target (length trees) ∷ call.OpenRoot (base_number trees) ∷ []

    ending : List Call
    ending = call.CloseDir [] ∷ call.CloseEdit ∷ []

    f : Nodes
    f = effect trees []

    state : ◌≡◌ {A = Nodes} (call_effect trees begun) f
    state = λ i q. sym (effect_none trees q) i

    later : (c : Change) (s : List Change) → AllByRecursion (Precedes c) s → AllByRecursion (λ d. path_cmp [] d.path ≡ Less) s
    later c s h = all_map s (λ d pr. after c.path d.path pr.rises) h
      where
        after : (p q : Path) → path_cmp p q ≡ Less → path_cmp [] q ≡ Less
        after p (n ∷ q) e = refl
        after [] [] e = cc
        after (m ∷ p) [] e = cc

    all : (s : List Change) → IsNormal s → fault trees s ≡ None → AllByRecursion IsWithin s → Free trees begun (walk trees [] [] s)
    all [] normal none within = refl
    all (c ∷ s) normal none within = by c.path refl
      where
        up : AllByRecursion (λ d. is_front d.path [] ≡ false) s
        up = all_map s (λ d pr. later_below c.path d.path pr.rises) normal.1

        by : (p : Path) → c.path ≡ p → Free trees begun (walk trees [] [] (c ∷ s))
        by (n ∷ q) e = free-walk trees [] (c ∷ s) [] begun normal normal none (ap (λ z. is_front z []) e, up) (ap (path_cmp []) e, later c s normal.1) within state (tt, (inl refl, tt))
        by [] e =
            (λ i. Rattle.editor_ends.specs.BuildFaults.refusal_after trees begun ((closes [] (e i) ++ (opens trees [] (e i) ++ calls_with trees (root.dir i) old c)) ++ walk trees (c ∷ []) (rests_with (root.dir i) c) s))
            ∙ (λ i. Rattle.editor_ends.specs.BuildFaults.refusal_after trees begun ((cond (is_front (e i) []) [] (opening trees false c) ++ cond (root.stays i) [] (dir_parts c old)) ++ walk trees (c ∷ []) (cond (root.stays i) (above c.path) (e i)) s))
            ∙ free_both trees begun (dir_parts c old) (walk trees (c ∷ []) [] s) parts_here
            (free-walk trees (c ∷ []) s [] (begun ++ dir_parts c old) normal normal.2 (none_rest (fault_of trees f c) (fault_after trees (c ∷ []) s) none) up (later c s normal.1) within.1 after_root (touches_both (Kept [] s) begun (dir_parts c old) (tt, (inl refl, tt)) (parts_touch (Kept [] s) false c old)))
          where
            no_fault : fault_of trees f c ≡ None
            no_fault = none_first (fault_of trees f c) (fault_after trees (c ∷ []) s) none

            root : Rattle.editor_ends.proofs.Walks.OfRoot trees f c
            root = of_root trees f c e no_fault (root_is_dir trees dir)

            old : PropMap
            old = old_props trees f c

            u : Found (f []) Dir
            u = found (f []) Dir (dir_kind (f []) (root_is_dir trees dir))

            old_is : u.node.props ≡ old
            old_is = ap (λ (o : Option Node). option_map_or (λ x. x.props) o finite.empty) (sym u.is) ∙ sym ((λ i. option_map_or (λ x. x.props) (cond (Rattle.dump_load.proofs.Faultless.stays_brings_nothing c.action root.settles_nothing i) (Rattle.std.specs.Option.option_and_then (λ s. source_at trees s []) c.source) (f (e i))) finite.empty))

            parts_here : Free trees begun (dir_parts c old)
            parts_here = parts_free trees false c old begun u.node within.0 (record { at = (λ i. state i (e i)) ∙ u.is; free = ap (blocked (call_effect trees begun)) e }) old_is (λ h. cc)

            after_root : ◌≡◌ {A = Nodes} (call_effect trees (begun ++ dir_parts c old)) (effect trees (c ∷ []))
            after_root =
                all_called-append trees (base trees) begun (dir_parts c old)
                ∙ (λ i. all_called trees (state i) (dir_parts c old))
                ∙ sym (λ i. all_called trees f (closes [] (e i) ++ (opens trees [] (e i) ++ (cond (is_front (e i) []) [] (opening trees (root.dir i) c) ++ cond (root.stays i) [] (parts (root.dir i) c old)))))
                ∙ called-root trees f c (plain trees f c no_fault normal.0) e (marked-root trees [])
                ∙ (λ i q. sym (effect-end trees [] c tt (deletes_settle c.action) q) i)
