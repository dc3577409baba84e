-- Properties and texts that are given to what has a change already.
use Rattle.std.proofs.Common.{◌≡◌, ℕ, Bool, true, false, cond, not, ◌&&◌, ◌||◌, List, [], ◌∷◌, ◌++◌, length, map, Option, Some, None, IsSome, is_some, refl, sym, ap, subst, ◌∙◌}
use Rattle.std.specs.Prelude.{unwrap_or, is_none, IfSome}
use Rattle.std.specs.Option.{option_map, option_map_or}
use Rattle.std.specs.List.{AllByRecursion}
use Rattle.std.proofs.lemmas.List.{map-append}
use Rattle.std.specs.FinMap as finite
use Rattle.std.specs.FinMap.{get}
use Rattle.node_base.specs.Path.{Path, Name, path_cmp, same_path}
use Rattle.node_base.specs.Props.{PropMap}
use Rattle.node_base.specs.Tree.{PathMap, blocked, changed_at, kind_of, with_given}
use Rattle.node_base.specs.NodeEdits.{prop_put, with_prop, with_piece}
use Rattle.node_base.specs.declared.node.Action.{Action}
use Rattle.node_base.specs.declared.node.Action.TheVariants.{Modify, Add, Delete, Replace}
use Rattle.node_base.specs.declared.node.Node.{Node}
use Rattle.node_base.specs.declared.node.NodeKind.TheVariants.{File, Dir}
use Rattle.dump_load.specs.declared.change.Change.{Change}
use Rattle.dump_load.specs.Changes.{settles, is_delete, brings, change_at, IsWhole, IsNormal, regiven, is_described}
use Rattle.dump_load.specs.Effect.{effect}
use Rattle.dump_load.specs.Faults.{fault}
use Rattle.dump_load.proofs.PathOrder.{less_differs, greater_differs}
use Rattle.dump_load.proofs.Reparted.{effect_reparted}
use Rattle.dump_load.proofs.Walk.{normal_follows, whole_in}
use Rattle.editor_ends.specs.Built.{filled, is_taken, is_above, is_given, is_full, Made, Gives, giving_props, giving_text}
use Rattle.std.proofs.Common.{◌<◌, ◌+◌, take, drop, get_or, Ok}
use Rattle.std.specs.Prelude.{slice_set}
use Rattle.std.specs.List.{slice_get}
use Rattle.std.proofs.lemmas.Option.{slice_get-get_or}
use Rattle.node_base.specs.declared.fault.TreeFault.{TreeFault}
use Rattle.node_base.specs.declared.fault.TreeFault.TheVariants.{NoSuchPath, KindMismatch}
use Rattle.path_tree.specs.Calls.{Answers, is_dir, change_fault, text_fault}
use Rattle.path_tree.specs.NodeCalls.{piece_fault}
use Rattle.path_tree.proofs.Faults.{first_none, second_none, test_fails}
use Rattle.editor_ends.proofs.Places.{split_at, set_at}
use Rattle.editor_ends.proofs.Given.{changed_alike}
use Rattle.editor_ends.proofs.Filled.{Nodes, or_yes, SameParts, same_all, none_in_gap, all_of, gap_of, normal_without, normal_amid, later_than}
use Rattle.editor_ends.proofs.Began.{change_at-amid, taken-amid, given-amid, above-amid}
use Rattle.editor_ends.proofs.Sound.{sound_props, sound_text}

module _ (trees : List PathMap) (tree new_tree : PathMap) (front rest : List Change) (c e : Change) (m : Made trees tree (front ++ c ∷ rest)) (k : Change → Change) (becomes : e ≡ k c) (full : is_full e ≡ true) (same : e.path ≡ c.path) (does : e.action ≡ c.action) (whole : IsWhole c → IsWhole e) (g : Node → Node) (step : (q : Path) → get new_tree q ≡ changed_at (get tree) c.path g q) (text : Option (List ℕ)) (props : Option PropMap) (is : filled (get new_tree) e ≡ regiven text props (filled (get tree) c)) (gives : (x : Node) → get tree c.path ≡ Some x → with_given text props x ≡ g x) (sound : IsNormal (front ++ e ∷ rest) → fault trees (front ++ e ∷ rest) ≡ None) where
  none : change_at (front ++ rest) c.path ≡ None
  none = none_in_gap front rest c.path (gap_of front rest c m.normal)

  none_e : change_at (front ++ rest) e.path ≡ None
  none_e = ap (change_at (front ++ rest)) same ∙ none

  parts_same : (s : List Change) → AllByRecursion (λ d. same_path c.path d.path ≡ false) s → map (filled (get new_tree)) s ≡ map (filled (get tree)) s
  parts_same s apart = same_all (get new_tree) (get tree) s (all_of s (λ d h. subst (λ o. SameParts o (get tree d.path)) (sym (step d.path ∙ ap (λ b. option_map (λ y. cond b (g y) y) (get tree d.path)) h)) (kept (get tree d.path))) apart)
    where
      kept : (o : Option Node) → SameParts (option_map (λ y. y) o) o
      kept None = (refl, refl)
      kept (Some y) = (refl, refl)

  normal : IsNormal (front ++ e ∷ rest)
  normal =
      normal_amid front rest e (normal_without front rest c m.normal)
      (all_of front (λ d h. record { rises = ap (path_cmp d.path) same ∙ h.rises; stands = λ k. ap (Rattle.node_base.specs.Path.is_front d.path) same ∙ h.stands k }) (normal_follows front rest c m.normal))
      (all_of rest (λ d h. record { rises = ap (λ p. path_cmp p d.path) same ∙ h.rises; stands = λ k. ap (λ p. Rattle.node_base.specs.Path.is_front p d.path) same ∙ h.stands (ap is_delete (sym does) ∙ k) }) (later_than front rest c m.normal))
      (whole (whole_in front rest c m.normal))

  above : (q : Path) → is_above (front ++ e ∷ rest) q ≡ is_above (front ++ c ∷ rest) q
  above q = above-amid front rest e q ∙ ap (λ p. is_above (front ++ rest) q || Rattle.editor_ends.specs.BuildFaults.is_below q p) same ∙ sym (above-amid front rest c q)

  given_made : (q : Path) → effect trees (map (filled (get new_tree)) (front ++ e ∷ rest)) q ≡ get new_tree q
  given_made q =
      ap (λ s. effect trees s q) (map-append (filled (get new_tree)) front (e ∷ rest) ∙ shape)
      ∙ effect_reparted trees (map (filled (get tree)) front) (map (filled (get tree)) rest) (filled (get tree) c) spread text props q
      ∙ (λ i. changed_at (λ r. (ap (λ s. effect trees s r) (sym (map-append (filled (get tree)) front (c ∷ rest))) ∙ m.made r) i) c.path (with_given text props) q)
      ∙ (λ i. changed_alike (get tree) c.path (with_given text props) g gives i q)
      ∙ sym (step q)
    where
      shape : map (filled (get new_tree)) front ++ filled (get new_tree) e ∷ map (filled (get new_tree)) rest ≡ map (filled (get tree)) front ++ regiven text props (filled (get tree) c) ∷ map (filled (get tree)) rest
      shape =
          let gap = gap_of front rest c m.normal in
          λ i. parts_same front (all_of front (λ d h. greater_differs d.path c.path h) gap.0) i ++ is i ∷ parts_same rest (all_of rest (λ d h. less_differs c.path d.path h) gap.1) i

      spread : change_at (map (filled (get tree)) front ++ map (filled (get tree)) rest) c.path ≡ None
      spread = ap (λ s. change_at s c.path) (sym (map-append (filled (get tree)) front rest)) ∙ Rattle.editor_ends.proofs.Filled.change_at-filled (get tree) (front ++ rest) c.path none

  pub gives_parts : Gives trees tree (front ++ c ∷ rest) new_tree (front ++ e ∷ rest) c.path g k
  gives_parts = record {
    tree_is = step;
    made = record {
      numbered = m.numbered;
      made = given_made;
      normal = normal;
      faultless = sound normal;
      stands = λ p h. subst IsSome (sym (step p)) (mapped _ (get tree p) (m.stands p (sym (above p) ∙ h)));
    };
    taken = λ q. taken-amid front rest e none_e q ∙ (λ i. is_taken (front ++ rest) q || (same_path (same i) q && not (is_delete (does i)))) ∙ sym (taken-amid front rest c none q);
    above = above;
    given = λ q.
        given-amid front rest e q
        ∙ (λ i. is_given (front ++ rest) q || (same_path (same i) q && full i))
        ∙ own (is_given (front ++ rest) q) (same_path c.path q) (is_full c)
        ∙ ap (λ b. b || same_path c.path q) (sym (given-amid front rest c q));
    became = λ q.
        change_at-amid front rest e none_e q
        ∙ ap (λ p. cond (same_path p q) (Some e) (change_at (front ++ rest) q)) same
        ∙ turned (same_path c.path q) (change_at (front ++ rest) q)
        ∙ ap (option_map (λ d. cond (same_path c.path q) (k d) d)) (sym (change_at-amid front rest c none q));
  }
    where
      own : (r s g : Bool) → (r || (s && true)) ≡ ((r || (s && g)) || s)
      own true s g = refl
      own false true g = sym (or_yes g)
      own false false g = refl

      mapped : (k : Node → Node) (o : Option Node) → IsSome o → IsSome (option_map k o)
      mapped k None h = cc h
      mapped k (Some y) h = refl

      turned : (b : Bool) (o : Option Change) → cond b (Some e) o ≡ option_map (λ d. cond b (k d) d) (cond b (Some c) o)
      turned true o = ap Some becomes
      turned false None = refl
      turned false (Some d) = refl

-- what isn't deleted may have any parts
form_on : (a : Action) (s x y : Bool) → is_delete a ≡ false → (s && not (is_delete a && x)) ≡ true → (s && not (is_delete a && y)) ≡ true
form_on Modify s x y d e = e
form_on Add s x y d e = e
form_on Delete s x y d e = cc
form_on Replace s x y d e = e

whole_props : (c : Change) → is_delete c.action ≡ false → IsWhole c → IsWhole (giving_props c)
whole_props c stands w = (λ plain. at c.kind (is_some c.props) (is_some c.text) (w.0 plain), form_on c.action (is_none c.source || brings c) _ _ stands w.1)
  where
    at : (k : _) (a b : Bool) → is_described k a b ≡ true → is_described k true b ≡ true
    at None a b e = cc
    at (Some Rattle.node_base.specs.declared.node.NodeKind.TheVariants.Dir) a b e = refl
    at (Some Rattle.node_base.specs.declared.node.NodeKind.TheVariants.File) true b e = e
    at (Some Rattle.node_base.specs.declared.node.NodeKind.TheVariants.File) false b e = cc

whole_text : (c : Change) → is_delete c.action ≡ false → IsWhole c → IsWhole (giving_text c)
whole_text c stands w = (λ plain. at c.kind (is_some c.props) (is_some c.text) (w.0 plain), form_on c.action (is_none c.source || brings c) _ _ stands w.1)
  where
    at : (k : _) (a b : Bool) → is_described k a b ≡ true → is_described k a true ≡ true
    at None a b e = cc
    at (Some Rattle.node_base.specs.declared.node.NodeKind.TheVariants.Dir) a b e = e
    at (Some Rattle.node_base.specs.declared.node.NodeKind.TheVariants.File) true b e = refl
    at (Some Rattle.node_base.specs.declared.node.NodeKind.TheVariants.File) false b e = cc

here_changed : (f : Nodes) (p : Path) (g : Node → Node) → changed_at f p g p ≡ option_map g (f p)
here_changed f p g = ap (λ b. option_map (λ y. cond b (g y) y) (f p)) (Rattle.node_base.proofs.PathLemmas.same_path_itself p)

abbrev pub new_props : Name → Option (List ℕ) → Change → Option Node → PropMap
new_props name value c o = option_map_or (λ x. prop_put name value x.props) o (unwrap_or c.props finite.empty)

-- what gives properties, with those of a node
abbrev pub props_of : Change → Option Node → Change
props_of c o = record { path = c.path; action = c.action; kind = c.kind; source = c.source; props = Some (option_map_or (λ x. x.props) o (unwrap_or c.props finite.empty)); text = option_map (λ t. option_map_or (λ x. unwrap_or x.text t) o t) c.text }

props_after : (name : Name) (value : Option (List ℕ)) (c : Change) (o : Option Node) → props_of c (option_map (with_prop name value) o) ≡ record { path = c.path; action = c.action; kind = c.kind; source = c.source; props = Some (new_props name value c o); text = option_map (λ t. option_map_or (λ x. unwrap_or x.text t) o t) c.text }
props_after name value c None = refl
props_after name value c (Some x) = refl

pub gives_props : (trees : List PathMap) (tree new_tree : PathMap) (front rest : List Change) (c : Change) (name : Name) (value : Option (List ℕ)) → is_delete c.action ≡ false → Made trees tree (front ++ c ∷ rest) → ((q : Path) → get new_tree q ≡ changed_at (get tree) c.path (with_prop name value) q) → Gives trees tree (front ++ c ∷ rest) new_tree (front ++ giving_props c ∷ rest) c.path (with_prop name value) giving_props
gives_props trees tree new_tree front rest c name value stands m step =
    gives_parts trees tree new_tree front rest c (giving_props c) m giving_props refl (or_yes (settles c.action)) refl refl (whole_props c stands) (with_prop name value) step None (Some (new_props name value c (get tree c.path))) (ap (props_of c) (step c.path ∙ here_changed (get tree) c.path (with_prop name value)) ∙ props_after name value c (get tree c.path))
    (λ x e. λ i. record { text = x.text; props = new_props name value c (e i); changed = x.changed })
    (λ n. sound_props trees front rest c m.normal n m.faultless)

abbrev pub new_text : (Node → Node) → Change → Option Node → List ℕ
new_text g c o = option_map_or (λ x. unwrap_or (g x).text (unwrap_or c.text [])) o (unwrap_or c.text [])

-- what gives a text, with that of a node
abbrev pub text_of : Change → Option Node → Change
text_of c o = record { path = c.path; action = c.action; kind = c.kind; source = c.source; props = option_map (λ k. option_map_or (λ x. x.props) o k) c.props; text = Some (option_map_or (λ x. unwrap_or x.text (unwrap_or c.text [])) o (unwrap_or c.text [])) }

text_after : (g : Node → Node) (c : Change) → ((x : Node) → (g x).props ≡ x.props) → (o : Option Node) → text_of c (option_map g o) ≡ record { path = c.path; action = c.action; kind = c.kind; source = c.source; props = option_map (λ k. option_map_or (λ x. x.props) o k) c.props; text = Some (new_text g c o) }
text_after g c props None = refl
text_after g c props (Some x) = λ i. record { path = c.path; action = c.action; kind = c.kind; source = c.source; props = option_map (λ k. props x i) c.props; text = Some (unwrap_or (g x).text (unwrap_or c.text [])) }

some_is : (o : Option (List ℕ)) (t : List ℕ) → IsSome o → Some (unwrap_or o t) ≡ o
some_is None t h = cc h
some_is (Some s) t h = refl

pub gives_text : (trees : List PathMap) (tree new_tree : PathMap) (front rest : List Change) (c : Change) (g : Node → Node) → ((x : Node) → (g x).props ≡ x.props) → ((x : Node) → (g x).changed ≡ x.changed) → ((x : Node) → get tree c.path ≡ Some x → IsSome (g x).text) → is_delete c.action ≡ false → option_map kind_of (get tree c.path) ≡ Some File → Made trees tree (front ++ c ∷ rest) → ((q : Path) → get new_tree q ≡ changed_at (get tree) c.path g q) → Gives trees tree (front ++ c ∷ rest) new_tree (front ++ giving_text c ∷ rest) c.path g giving_text
gives_text trees tree new_tree front rest c g props number has stands file m step =
    gives_parts trees tree new_tree front rest c (giving_text c) m giving_text refl (ap (λ b. settles c.action || b) (or_yes (is_some c.props)) ∙ or_yes (settles c.action)) refl refl (whole_text c stands) g step (Some (new_text g c (get tree c.path))) None (ap (text_of c) (step c.path ∙ here_changed (get tree) c.path g) ∙ text_after g c props (get tree c.path))
    (λ x e. λ i. record { text = text_is x e i; props = sym (props x) i; changed = sym (number x) i })
    (λ n. sound_text trees front rest tree c m n stands file)
  where
    text_is : (x : Node) → get tree c.path ≡ Some x → Some (new_text g c (get tree c.path)) ≡ (g x).text
    text_is x e = ap (λ o. Some (option_map_or (λ y. unwrap_or (g y).text (unwrap_or c.text [])) o (unwrap_or c.text []))) e ∙ some_is (g x).text (unwrap_or c.text []) (has x e)

-- a text is given to a file alone
file_there : (f : Nodes) (p : Path) → text_fault f p ≡ None → option_map kind_of (f p) ≡ Some File
file_there f p e = at (f p) (test_fails (is_none (f p)) NoSuchPath (second_none (blocked f p) _ (first_none (change_fault f p) _ e))) (test_fails (is_dir (f p)) KindMismatch (second_none (change_fault f p) _ e))
  where
    there : (t : Option (List ℕ)) → is_none t ≡ false → cond (is_some t) File Dir ≡ File
    there None d = cc
    there (Some t) d = refl

    at : (o : Option Node) → is_none o ≡ false → is_dir o ≡ false → option_map kind_of o ≡ Some File
    at None n d = cc
    at (Some x) n d = ap Some (there x.text d)

-- ---- at the place that a search found

module _ (trees : List PathMap) (tree new_tree : PathMap) (s : List Change) (i : ℕ) (d e : Change) (p : Path) (m : Made trees tree s) (here : i < length s) (at : d ≡ get_or s i d) (placed : IsNormal s → (c : Change) → slice_get s i ≡ Some c → c.path ≡ p) (unsettled : IfSome (slice_get s i) (λ c. is_delete c.action ≡ false)) where
  stands : is_delete d.action ≡ false
  stands = subst (λ o. IfSome o (λ (c : Change). is_delete c.action ≡ false)) (slice_get-get_or s i d here ∙ ap Some (sym at)) unsettled

  found_path : d.path ≡ p
  found_path = placed m.normal d (slice_get-get_or s i d here ∙ ap Some (sym at))

  split_made : Made trees tree (take i s ++ d ∷ drop (i + 1) s)
  split_made = subst (Made trees tree) (split_at s i d here at) m

  brought_back : (f : Change) (g : Node → Node) (k : Change → Change) → e ≡ f → Gives trees tree (take i s ++ d ∷ drop (i + 1) s) new_tree (take i s ++ f ∷ drop (i + 1) s) d.path g k → Gives trees tree s new_tree (slice_set s i e) p g k
  brought_back f g k is h =
      subst (λ z. Gives trees tree s new_tree z p g k) (sym (set_at s i e here ∙ ap (λ x. take i s ++ x ∷ drop (i + 1) s) is))
      (subst (λ z. Gives trees tree z new_tree (take i s ++ f ∷ drop (i + 1) s) p g k) (sym (split_at s i d here at)) (subst (λ z. Gives trees tree (take i s ++ d ∷ drop (i + 1) s) new_tree (take i s ++ f ∷ drop (i + 1) s) z g k) found_path h))

  file_at : text_fault (get tree) p ≡ None → option_map kind_of (get tree d.path) ≡ Some File
  file_at fault = ap (λ z. option_map kind_of (get tree z)) found_path ∙ file_there (get tree) p fault

  pub props_at : (name : Name) (value : Option (List ℕ)) → e ≡ giving_props d → ((q : Path) → get new_tree q ≡ changed_at (get tree) p (with_prop name value) q) → Gives trees tree s new_tree (slice_set s i e) p (with_prop name value) giving_props
  props_at name value is step =
      brought_back (giving_props d) (with_prop name value) giving_props is
      (gives_props trees tree new_tree (take i s) (drop (i + 1) s) d name value stands split_made (λ q. step q ∙ ap (λ z. changed_at (get tree) z (with_prop name value) q) (sym found_path)))

  pub started_at : e ≡ giving_text d → text_fault (get tree) p ≡ None → ((q : Path) → get new_tree q ≡ changed_at (get tree) p (with_given (Some []) None) q) → Gives trees tree s new_tree (slice_set s i e) p (with_given (Some []) None) giving_text
  started_at is fault step =
      brought_back (giving_text d) (with_given (Some []) None) giving_text is
      (gives_text trees tree new_tree (take i s) (drop (i + 1) s) d (with_given (Some []) None) (λ x. refl) (λ x. refl) (λ x h. refl) stands (file_at fault) split_made (λ q. step q ∙ ap (λ z. changed_at (get tree) z (with_given (Some []) None) q) (sym found_path)))

  pub appended_at : (piece : List ℕ) → e ≡ giving_text d → piece_fault (get tree) p piece ≡ None → ((q : Path) → get new_tree q ≡ changed_at (get tree) p (with_piece piece) q) → Gives trees tree s new_tree (slice_set s i e) p (with_piece piece) giving_text
  appended_at piece is fault step =
      brought_back (giving_text d) (with_piece piece) giving_text is
      (gives_text trees tree new_tree (take i s) (drop (i + 1) s) d (with_piece piece) (λ x. refl) (λ x. refl) (λ x h. longer x.text (has_text (get tree p) x (test_fails (is_dir (get tree p)) KindMismatch (second_none (change_fault (get tree) p) _ (first_none (text_fault (get tree) p) _ fault))) (ap (get tree) (sym found_path) ∙ h))) stands (file_at (first_none (text_fault (get tree) p) _ fault)) split_made (λ q. step q ∙ ap (λ z. changed_at (get tree) z (with_piece piece) q) (sym found_path)))
    where
      has_text : (o : Option Node) (x : Node) → is_dir o ≡ false → o ≡ Some x → IsSome x.text
      has_text o x e h = there x.text (ap is_dir (sym h) ∙ e)
        where
          there : (t : Option (List ℕ)) → is_none t ≡ false → IsSome t
          there None e = cc
          there (Some t) e = refl

      longer : (t : Option (List ℕ)) → IsSome t → IsSome (option_map (λ z. z ++ piece) t)
      longer None h = cc h
      longer (Some t) h = refl

pub answers_none : (o : Option TreeFault) (x : Unit {0}) → Answers o (Ok x) → o ≡ None
answers_none None x h = refl
answers_none (Some f) x h = cc
