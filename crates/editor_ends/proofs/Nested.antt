-- The calls of a set keep the nesting.
use Rattle.std.proofs.Common.{◌≡◌, ℕ, Bool, true, false, cond, not, ◌||◌, List, [], ◌∷◌, ◌++◌, map, filter, reverse, length, Option, Some, None, is_some, refl, sym, ap, subst, ◌∙◌, append_assoc, append-nil}
use Rattle.std.proofs.lemmas.List.{reverse-append}
use Rattle.std.proofs.lemmas.List.Elements.{filter-append}
use Rattle.std.specs.Option.{option_map, option_map_or, option_and_then, IsNone, IsSomeAnd}
use Rattle.std.specs.List.{AllByRecursion, list_any}
use Rattle.std.specs.FinMap as finite
use Rattle.md5.specs.Md5.{md5}
use Rattle.std.specs.declared.cmp.Ordering.TheVariants.{Less}
use Rattle.node_base.specs.Path.{Name, Path, path_cmp, same_name, same_path, is_front, rest_after}
use Rattle.node_base.specs.Props.{PropMap}
use Rattle.node_base.specs.Tree.{PathMap, IsDirAt, base, with_number}
use Rattle.node_base.specs.declared.node.Node.{Node}
use Rattle.node_base.specs.declared.node.Action.{Action}
use Rattle.node_base.specs.declared.node.Action.TheVariants.{Modify, Add, Delete, Replace}
use Rattle.node_base.proofs.PathLemmas.{same_name_itself, same_path_itself, name_of_same, rest_after-longer, rest_after-append, append_of_rest, later_is_no_front}
use Rattle.dump_load.specs.declared.change.Change.{Change}
use Rattle.dump_load.specs.Changes.{is_delete, Precedes, IsNormal}
use Rattle.dump_load.specs.Effect.{effect}
use Rattle.dump_load.specs.Faults.{fault, fault_of, fault_after}
use Rattle.dump_load.proofs.Walk.{effect_none}
use Rattle.delta_editor.specs.declared.call.Call.{Call}
use Rattle.delta_editor.specs.declared.call.Call.TheVariants as call
use Rattle.delta_editor.specs.Nesting.{Opened, OpenDir, OpenFile, OpenText, TextDone, Stage, Within, is_dir, is_fresh, is_in_text, is_told, innermost, next, run, IsNested}
use Rattle.editor_ends.specs.Fronts.{above, fronts_from, fronts}
use Rattle.editor_ends.specs.Parts.{prop_calls, pieces, text_calls, dir_parts, file_parts, parts}
use Rattle.editor_ends.specs.Drive.{base_number, opening, opens, closes, calls_with, change_calls, of_file, old_props, rests_with, rests_at, walk, drive}
use Rattle.editor_ends.proofs.Fronts.{all_map, filter_all, filter_none, fronts_append, fronts_are, below_none, above-append, above-end, above_is, above_rest}
use Rattle.editor_ends.proofs.CallEffects.{none_first}
use Rattle.editor_ends.proofs.Walks.{of_root}

-- ---- runs

run-through : (s t : Stage) (xs ys : List Call) → run s xs ≡ Some t → run s (xs ++ ys) ≡ run t ys
run-through s t [] ys e = ap (option_and_then (λ t. run t ys)) e
run-through s t (x ∷ xs) ys e = by (next s x) e (λ u h. run-through u t xs ys h)
  where
    by : (o : Option Stage) → option_and_then (λ u. run u xs) o ≡ Some t → ((u : Stage) → run u xs ≡ Some t → run u (xs ++ ys) ≡ run t ys) → option_and_then (λ u. run u (xs ++ ys)) o ≡ run t ys
    by None e f = cc
    by (Some u) e f = f u e

run-one : (s t : Stage) (x : Call) (xs : List Call) → next s x ≡ Some t → run s (x ∷ xs) ≡ run t xs
run-one s t x xs e = ap (option_and_then (λ t. run t xs)) e

-- calls that leave all as it is
stays_map : {X : Type 0} (s : Stage) (f : X → Call) → ((x : X) → next s (f x) ≡ Some s) → (xs : List X) → run s (map f xs) ≡ Some s
stays_map s f h [] = refl
stays_map s f h (x ∷ xs) = run-one s s (f x) (map f xs) (h x) ∙ stays_map s f h xs

inner : (test : Opened → Bool) (new : Opened → List Opened → List Opened) (o : Opened) (os rest : List Opened) → os ≡ o ∷ rest → test o ≡ true → innermost test new os ≡ Some (Within (new o rest))
inner test new o os rest is h = ap (innermost test new) is ∙ ap (λ b. cond {A = Option Stage} b (Some (Within (new o rest))) None) h

-- ---- open directories

abbrev dirs : Path → List Opened → Path → List Opened
dirs d os [] = os
dirs d os (n ∷ q) = dirs (d ++ n ∷ []) (OpenDir (d ++ n ∷ []) ∷ os) q

-- the directories down to a path
abbrev stack : Path → List Opened
stack p = dirs [] (OpenDir [] ∷ []) p

dirs-append : (d : Path) (os : List Opened) (q r : Path) → dirs d os (q ++ r) ≡ dirs (d ++ q) (dirs d os q) r
dirs-append d os [] r = ap (λ z. dirs z os r) (sym (append-nil d))
dirs-append d os (n ∷ q) r = dirs-append (d ++ n ∷ []) (OpenDir (d ++ n ∷ []) ∷ os) q r ∙ ap (λ z. dirs z (dirs (d ++ n ∷ []) (OpenDir (d ++ n ∷ []) ∷ os) q) r) (append_assoc d (n ∷ []) q)

stack-append : (m u : Path) → stack (m ++ u) ≡ dirs m (stack m) u
stack-append m u = dirs-append [] (OpenDir [] ∷ []) m u

stack-end : (d : Path) (n : Name) → stack (d ++ n ∷ []) ≡ OpenDir (d ++ n ∷ []) ∷ stack d
stack-end d n = stack-append d (n ∷ [])

record Top (p : Path) (os : List Opened) : Type 0 where
  rest : List Opened
  is : os ≡ OpenDir p ∷ rest

top_of : (d : Path) (os : List Opened) (q : Path) → Top d os → Top (d ++ q) (dirs d os q)
top_of d os [] t = subst (λ z. Top z os) (sym (append-nil d)) t
top_of d os (n ∷ q) t = subst (λ z. Top z (dirs (d ++ n ∷ []) (OpenDir (d ++ n ∷ []) ∷ os) q)) (append_assoc d (n ∷ []) q) (top_of (d ++ n ∷ []) (OpenDir (d ++ n ∷ []) ∷ os) q (record { rest = os; is = refl }))

top : (p : Path) → Top p (stack p)
top p = top_of [] (OpenDir [] ∷ []) p (record { rest = []; is = refl })

map_append : (xs ys : List Path) → map call.CloseDir (xs ++ ys) ≡ map call.CloseDir xs ++ map call.CloseDir ys
map_append [] ys = refl
map_append (x ∷ xs) ys = ap (λ l. call.CloseDir x ∷ l) (map_append xs ys)

closes_all : (d : Path) (os : List Opened) (u : Path) → run (Within (dirs d os u)) (map call.CloseDir (reverse (fronts_from d u))) ≡ Some (Within os)
closes_all d os [] = refl
closes_all d os (n ∷ u) =
    ap (λ l. run (Within (dirs p (OpenDir p ∷ os) u)) (map call.CloseDir l)) (reverse-append (p ∷ []) (fronts_from p u))
    ∙ ap (run (Within (dirs p (OpenDir p ∷ os) u))) (map_append (reverse (fronts_from p u)) (p ∷ []))
    ∙ run-through (Within (dirs p (OpenDir p ∷ os) u)) (Within (OpenDir p ∷ os)) (map call.CloseDir (reverse (fronts_from p u))) (call.CloseDir p ∷ []) (closes_all p (OpenDir p ∷ os) u)
    ∙ run-one (Within (OpenDir p ∷ os)) (Within os) (call.CloseDir p) [] (inner (is_dir p) (λ o out. out) (OpenDir p) (OpenDir p ∷ os) os refl (same_path_itself p))
  where
    p : Path
    p = d ++ n ∷ []

opens_all : (b : Option ℕ) (m w : Path) → run (Within (stack m)) (map (λ d. call.OpenDir (above d) d b) (fronts_from m w)) ≡ Some (Within (stack (m ++ w)))
opens_all b m [] = ap (λ z. Some (Within (stack z))) (sym (append-nil m))
opens_all b m (n ∷ w) =
    ap (λ u. run (Within (stack m)) (call.OpenDir u p b ∷ map (λ d. call.OpenDir (above d) d b) (fronts_from p w))) (above-end m n)
    ∙ run-one (Within (stack m)) (Within (stack p)) (call.OpenDir m p b) (map (λ d. call.OpenDir (above d) d b) (fronts_from p w))
    (inner (is_dir m) (λ o out. OpenDir p ∷ o ∷ out) (OpenDir m) (stack m) (top m).rest (top m).is (same_path_itself m) ∙ ap (λ os. Some (Within (OpenDir p ∷ os))) (sym (top m).is) ∙ ap (λ os. Some (Within os)) (sym (stack-end m n)))
    ∙ opens_all b p w
    ∙ ap (λ z. Some (Within (stack z))) (append_assoc m (n ∷ []) w)
  where
    p : Path
    p = m ++ n ∷ []

-- ---- where two paths part

abbrev Apart : Path → Path → Type 0
Apart [] v = Unit {0}
Apart (n ∷ u) [] = Unit {0}
Apart (n ∷ u) (k ∷ v) = same_name n k ≡ false

record Meet (at p : Path) : Type 0 where
  common : Path
  up : Path
  down : Path
  at_is : at ≡ common ++ up
  p_is : p ≡ common ++ down
  apart : Apart up down

meet : (at p : Path) → Meet at p
meet [] p = record { common = []; up = []; down = p; at_is = refl; p_is = refl; apart = tt }
meet (n ∷ at) [] = record { common = []; up = n ∷ at; down = []; at_is = refl; p_is = refl; apart = tt }
meet (n ∷ at) (k ∷ p) = by (same_name n k) refl (meet at p)
  where
    by : (b : Bool) → same_name n k ≡ b → Meet at p → Meet (n ∷ at) (k ∷ p)
    by true s m = record { common = n ∷ m.common; up = m.up; down = m.down; at_is = ap (λ z. n ∷ z) m.at_is; p_is = (λ i. sym (name_of_same n k s) i ∷ m.p_is i); apart = m.apart }
    by false s m = record { common = []; up = n ∷ at; down = k ∷ p; at_is = refl; p_is = refl; apart = s }

starts_apart : (n : Name) (u v : Path) → Apart (n ∷ u) v → rest_after (n ∷ []) v ≡ None
starts_apart n u [] h = refl
starts_apart n u (k ∷ v) h = ap (λ b. cond {A = Option Path} b (Some v) None) h

away : (m u v : Path) → Apart u v → AllByRecursion (λ e. not (is_front e (m ++ v)) ≡ true) (fronts_from m u)
away m [] v h = tt
away m (n ∷ u) v h = (ap (λ o. not (is_some o)) none, below_none (m ++ n ∷ []) u (m ++ v) none)
  where
    none : rest_after (m ++ n ∷ []) (m ++ v) ≡ None
    none = rest_after-longer m (n ∷ []) (m ++ v) ∙ ap (option_and_then (rest_after (n ∷ []))) (rest_after-append m v) ∙ starts_apart n u v h

-- only what is below where they part
beyond : (m u v : Path) → Apart u v → filter (λ d. not (is_front d (m ++ v))) (fronts (m ++ u)) ≡ fronts_from m u
beyond m u v h =
    ap (filter (λ d. not (is_front d (m ++ v)))) (fronts_append [] m u)
    ∙ filter-append (λ d. not (is_front d (m ++ v))) (fronts m) (fronts_from m u)
    ∙ (λ i. filter_none (λ d. not (is_front d (m ++ v))) (fronts m) (fronts_are [] m (m ++ v) v refl) i ++ filter_all (λ d. not (is_front d (m ++ v))) (fronts_from m u) (away m u v h) i)

name_back : (n k : Name) → same_name n k ≡ false → same_name k n ≡ false
name_back n k h = by (same_name k n) refl
  where
    by : (b : Bool) → same_name k n ≡ b → b ≡ false
    by false e = refl
    by true e = cc (name_of_same k n e, h, same_name_itself n)

apart_back : (u : Path) (k : Name) (v : Path) → Apart u (k ∷ v) → Apart (above (k ∷ v)) u
apart_back u k [] h = tt
apart_back [] k (l ∷ v) h = tt
apart_back (n ∷ u) k (l ∷ v) h = name_back n k h

pub is_front-append : (m u : Path) → is_front m (m ++ u) ≡ true
is_front-append m u = ap is_some (rest_after-append m u)

-- the way from the innermost open directory to what is above a path
way : (trees : List PathMap) (at p : Path) → is_front p at ≡ false → run (Within (stack at)) (closes at p ++ opens trees at p) ≡ Some (Within (stack (above p)))
way trees at p h = go (meet at p).common (meet at p).up (meet at p).down (meet at p).at_is (meet at p).p_is (meet at p).apart
  where
    go : (m u v : Path) → at ≡ m ++ u → p ≡ m ++ v → Apart u v → run (Within (stack at)) (closes at p ++ opens trees at p) ≡ Some (Within (stack (above p)))
    go m u [] a b c = cc (ap (λ z. is_front z at) (b ∙ append-nil m) ∙ ap (is_front m) a ∙ is_front-append m u, h)
    go m u (k ∷ v) a b c =
        (λ i. run (Within (stack (a i))) (closes (a i) (b i) ++ opens trees (a i) (b i)))
        ∙ (λ i. run (Within (stack-append m u i)) (map call.CloseDir (reverse (beyond m u (k ∷ v) c i)) ++ opens trees (m ++ u) (m ++ k ∷ v)))
        ∙ run-through (Within (dirs m (stack m) u)) (Within (stack m)) (map call.CloseDir (reverse (fronts_from m u))) (opens trees (m ++ u) (m ++ k ∷ v)) (closes_all m (stack m) u)
        ∙ ap (λ l. run (Within (stack m)) (map (λ d. call.OpenDir (above d) d (base_number trees)) l)) (ap (λ z. filter (λ d. not (is_front d (m ++ u))) (fronts z)) (above-append m k v) ∙ beyond m (above (k ∷ v)) u (apart_back u k v c))
        ∙ opens_all (base_number trees) m (above (k ∷ v))
        ∙ ap (λ z. Some (Within (stack z))) (sym (above-append m k v) ∙ ap above (sym b))

-- ---- one change

run_props : (s : Stage) (prop : Name → Option (List ℕ) → Call) → ((k : Name) (v : Option (List ℕ)) → next s (prop k v) ≡ Some s) → (old : PropMap) (new : Option PropMap) → run s (option_map_or (prop_calls prop old) new []) ≡ Some s
run_props s prop h old None = refl
run_props s prop h old (Some new) =
    run-through s s (map (λ e. prop e.0 None) (filter (λ e. not (finite.contains_key new e.0)) (finite.entries old))) (map (λ e. prop e.0 (Some e.1)) (finite.entries new)) (stays_map s (λ e. prop e.0 None) (λ e. h e.0 None) (filter (λ e. not (finite.contains_key new e.0)) (finite.entries old)))
    ∙ stays_map s (λ e. prop e.0 (Some e.1)) (λ e. h e.0 (Some e.1)) (finite.entries new)

module _ (p : Path) (os : List Opened) where
  or_true : (a b : Bool) → a ≡ true → (a || b) ≡ true
  or_true true b e = refl
  or_true false b e = cc

  run_dir : (c : Change) (old : PropMap) → c.path ≡ p → run (Within (OpenDir p ∷ os)) (dir_parts c old) ≡ Some (Within (OpenDir p ∷ os))
  run_dir c old e = run_props (Within (OpenDir p ∷ os)) (call.DirProp c.path) (λ k v. ap (λ b. cond {A = Option Stage} b (Some (Within (OpenDir p ∷ os))) None) (ap (λ z. same_path z p || list_any (is_dir z) os) e ∙ or_true (same_path p p) (list_any (is_dir p) os) (same_path_itself p))) old c.props

  run_text : (t : List ℕ) → run (Within (OpenFile p ∷ os)) (text_calls p t) ≡ Some (Within (TextDone p ∷ os))
  run_text t =
      run-one (Within (OpenFile p ∷ os)) (Within (OpenText p ∷ os)) (call.TextStart p) (map (call.TextPiece p) (pieces t) ++ call.TextEnd p ∷ []) (ap (λ b. cond {A = Option Stage} b (Some (Within (OpenText p ∷ os))) None) (same_path_itself p))
      ∙ run-through (Within (OpenText p ∷ os)) (Within (OpenText p ∷ os)) (map (call.TextPiece p) (pieces t)) (call.TextEnd p ∷ []) (stays_map (Within (OpenText p ∷ os)) (call.TextPiece p) (λ x. ap (λ b. cond {A = Option Stage} b (Some (Within (OpenText p ∷ os))) None) (same_path_itself p)) (pieces t))
      ∙ run-one (Within (OpenText p ∷ os)) (Within (TextDone p ∷ os)) (call.TextEnd p) [] (ap (λ b. cond {A = Option Stage} b (Some (Within (TextDone p ∷ os))) None) (same_path_itself p))

  run_given : (t : Option (List ℕ)) (sum : Option (List ℕ)) → run (Within (OpenFile p ∷ os)) (option_map_or (text_calls p) t [] ++ call.CloseFile p sum ∷ []) ≡ Some (Within os)
  run_given None sum = run-one (Within (OpenFile p ∷ os)) (Within os) (call.CloseFile p sum) [] (ap (λ b. cond {A = Option Stage} b (Some (Within os)) None) (or_true (same_path p p) false (same_path_itself p)))
  run_given (Some t) sum =
      run-through (Within (OpenFile p ∷ os)) (Within (TextDone p ∷ os)) (text_calls p t) (call.CloseFile p sum ∷ []) (run_text t)
      ∙ run-one (Within (TextDone p ∷ os)) (Within os) (call.CloseFile p sum) [] (ap (λ b. cond {A = Option Stage} b (Some (Within os)) None) (same_path_itself p))

  run_file : (c : Change) (old : PropMap) → c.path ≡ p → run (Within (OpenFile p ∷ os)) (file_parts c old) ≡ Some (Within os)
  run_file c old e =
      ap (λ z. run (Within (OpenFile p ∷ os)) (option_map_or (prop_calls (call.FileProp z) old) c.props [] ++ (option_map_or (text_calls z) c.text [] ++ call.CloseFile z (option_map md5 c.text) ∷ []))) e
      ∙ run-through (Within (OpenFile p ∷ os)) (Within (OpenFile p ∷ os)) (option_map_or (prop_calls (call.FileProp p) old) c.props []) (option_map_or (text_calls p) c.text [] ++ call.CloseFile p (option_map md5 c.text) ∷ [])
      (run_props (Within (OpenFile p ∷ os)) (call.FileProp p) (λ k v. inner (λ o. is_fresh p o || is_in_text p o || is_told p o) (λ o out. o ∷ out) (OpenFile p) (OpenFile p ∷ os) os refl (ap (λ b. b || false || false) (same_path_itself p))) old c.props)
      ∙ run_given c.text (option_map md5 c.text)

  module _ (trees : List PathMap) (t : Top (above p) os) where
    child : (new : Opened) → innermost (is_dir (above p)) (λ o out. new ∷ o ∷ out) os ≡ Some (Within (new ∷ os))
    child new = inner (is_dir (above p)) (λ o out. new ∷ o ∷ out) (OpenDir (above p)) os t.rest t.is (same_path_itself (above p)) ∙ ap (λ os. Some (Within (new ∷ os))) (sym t.is)

    deleted : (b : Option ℕ) → next (Within os) (call.DeleteEntry (above p) p b) ≡ Some (Within os)
    deleted b = inner (is_dir (above p)) (λ o out. o ∷ out) (OpenDir (above p)) os t.rest t.is (same_path_itself (above p)) ∙ ap (λ os. Some (Within os)) (sym t.is)

    abbrev opened : Bool → Opened
    opened file = cond file (OpenFile p) (OpenDir p)

    run_opening : (c : Change) (file : Bool) → c.path ≡ p → is_delete c.action ≡ false → run (Within os) (opening trees file c) ≡ Some (Within (opened file ∷ os))
    run_opening c file e d = ap (λ z. run (Within os) (opening trees file (record { path = z; action = c.action; kind = c.kind; source = c.source; props = c.props; text = c.text }))) e ∙ by c.action file d
      where
        at : Action → Change
        at a = record { path = p; action = a; kind = c.kind; source = c.source; props = c.props; text = c.text }

        by : (a : Action) (file : Bool) → is_delete a ≡ false → run (Within os) (opening trees file (at a)) ≡ Some (Within (opened file ∷ os))
        by Modify true d = run-one (Within os) (Within (OpenFile p ∷ os)) (call.OpenFile (above p) p (base_number trees)) [] (child (OpenFile p))
        by Modify false d = run-one (Within os) (Within (OpenDir p ∷ os)) (call.OpenDir (above p) p (base_number trees)) [] (child (OpenDir p))
        by Add true d = run-one (Within os) (Within (OpenFile p ∷ os)) (call.AddFile (above p) p c.source) [] (child (OpenFile p))
        by Add false d = run-one (Within os) (Within (OpenDir p ∷ os)) (call.AddDir (above p) p c.source) [] (child (OpenDir p))
        by Delete file d = cc
        by Replace true d = run-one (Within os) (Within os) (call.DeleteEntry (above p) p (base_number trees)) (call.AddFile (above p) p c.source ∷ []) (deleted (base_number trees)) ∙ run-one (Within os) (Within (OpenFile p ∷ os)) (call.AddFile (above p) p c.source) [] (child (OpenFile p))
        by Replace false d = run-one (Within os) (Within os) (call.DeleteEntry (above p) p (base_number trees)) (call.AddDir (above p) p c.source ∷ []) (deleted (base_number trees)) ∙ run-one (Within os) (Within (OpenDir p ∷ os)) (call.AddDir (above p) p c.source) [] (child (OpenDir p))

-- a path below the root ends in a name
pub record Ends (p : Path) : Type 0 where
  pub name : Name
  pub is : p ≡ above p ++ name ∷ []

ends : (n : Name) (p : Path) → Ends (n ∷ p)
ends n [] = record { name = n; is = refl }
ends n (m ∷ p) = record { name = (ends m p).name; is = ap (λ z. n ∷ z) (ends m p).is }

pub ends_of : (p : Path) → is_front p [] ≡ false → Ends p
ends_of [] h = absurd (is_true h)
  where
    is_true : true ≡ false → ⊥
    is_true h = cc
ends_of (n ∷ p) h = ends n p

stack_child : (p : Path) → is_front p [] ≡ false → stack p ≡ OpenDir p ∷ stack (above p)
stack_child p h = let e = ends_of p h in ap stack e.is ∙ stack-end (above p) e.name ∙ ap (λ z. OpenDir z ∷ stack (above p)) (sym e.is)

run_change : (trees : List PathMap) (file : Bool) (old : PropMap) (c : Change) → is_front c.path [] ≡ false → run (Within (stack (above c.path))) (calls_with trees file old c) ≡ Some (Within (stack (rests_with file c)))
run_change trees file old c below = ap (λ b. run (Within os) (cond b [] (opening trees file c) ++ cond (is_delete c.action) [] (parts file c old))) below ∙ by (is_delete c.action) refl file refl
  where
    os : List Opened
    os = stack (above c.path)

    by : (b : Bool) → is_delete c.action ≡ b → (f : Bool) → file ≡ f → run (Within os) (opening trees file c ++ cond (is_delete c.action) [] (parts file c old)) ≡ Some (Within (stack (rests_with file c)))
    by true d f _ =
        ap (λ b. run (Within os) (opening trees file c ++ cond b [] (parts file c old))) d
        ∙ ap (run (Within os)) (append-nil (opening trees file c))
        ∙ one c.action refl d
        ∙ ap (λ b. Some (Within (stack (cond b (above c.path) (cond file (above c.path) c.path))))) (sym d)
      where
        one : (a : Action) → c.action ≡ a → is_delete c.action ≡ true → run (Within os) (opening trees file c) ≡ Some (Within os)
        one Modify e d = cc (ap is_delete e, d)
        one Add e d = cc (ap is_delete e, d)
        one Replace e d = cc (ap is_delete e, d)
        one Delete e d = ap (λ a. run (Within os) (opening trees file (record { path = c.path; action = a; kind = c.kind; source = c.source; props = c.props; text = c.text }))) e ∙ run-one (Within os) (Within os) (call.DeleteEntry (above c.path) c.path (base_number trees)) [] (deleted c.path os trees (top (above c.path)) (base_number trees))
    by false d true f =
        (λ i. run (Within os) (opening trees (f i) c ++ cond (d i) [] (parts (f i) c old)))
        ∙ run-through (Within os) (Within (OpenFile c.path ∷ os)) (opening trees true c) (file_parts c old) (run_opening c.path os trees (top (above c.path)) c true refl d)
        ∙ run_file c.path os c old refl
        ∙ (λ i. Some (Within (stack (cond (sym d i) (above c.path) (cond (sym f i) (above c.path) c.path)))))
    by false d false f =
        (λ i. run (Within os) (opening trees (f i) c ++ cond (d i) [] (parts (f i) c old)))
        ∙ run-through (Within os) (Within (OpenDir c.path ∷ os)) (opening trees false c) (dir_parts c old) (run_opening c.path os trees (top (above c.path)) c false refl d)
        ∙ run_dir c.path os c old refl
        ∙ ap (λ os. Some (Within os)) (sym (stack_child c.path below))
        ∙ (λ i. Some (Within (stack (cond (sym d i) (above c.path) (cond (sym f i) (above c.path) c.path)))))

-- ---- all changes

-- where a change leaves the innermost open directory, no later path is a front of it
pub rests_before : (file : Bool) (c : Change) (s : List Change) → AllByRecursion (Precedes c) s → AllByRecursion (λ d. is_front d.path (rests_with file c) ≡ false) s
rests_before file c s h = all_map s one h
  where
    none : (q p r : Path) → rest_after q (p ++ r) ≡ None → is_front q p ≡ false
    none q p r e = by (rest_after q p) refl
      where
        by : (o : Option Path) → rest_after q p ≡ o → is_some o ≡ false
        by None g = refl
        by (Some t) g = cc (sym e ∙ ap (rest_after q) (ap (λ z. z ++ r) (append_of_rest q p t g) ∙ append_assoc q t r) ∙ rest_after-append q (t ++ r))

    at : (d : Change) → rest_after d.path c.path ≡ None → (b f : Bool) → is_front d.path (cond b (above c.path) (cond f (above c.path) c.path)) ≡ false
    at d e true f = none d.path (above c.path) (above_rest c.path) (ap (rest_after d.path) (sym (above_is c.path)) ∙ e)
    at d e false true = none d.path (above c.path) (above_rest c.path) (ap (rest_after d.path) (sym (above_is c.path)) ∙ e)
    at d e false false = ap is_some e

    one : (d : Change) → Precedes c d → is_front d.path (rests_with file c) ≡ false
    one d p = at d (later_is_no_front d.path c.path p.rises) (is_delete c.action) file

all_closed : (at : Path) → run (Within (stack at)) (closes at []) ≡ Some (Within (OpenDir [] ∷ []))
all_closed at = ap (λ l. run (Within (stack at)) (map call.CloseDir (reverse l))) (beyond [] at [] (none at)) ∙ closes_all [] (OpenDir [] ∷ []) at
  where
    none : (u : Path) → Apart u []
    none [] = tt
    none (n ∷ u) = tt

pub below_root : (p q : Path) → is_front p q ≡ false → is_front p [] ≡ false
below_root [] q h = cc
below_root (n ∷ p) q h = refl

nested-walk : (trees : List PathMap) (done s : List Change) (at : Path) → IsNormal s → AllByRecursion (λ d. is_front d.path at ≡ false) s → run (Within (stack at)) (walk trees done at s) ≡ Some (Within (OpenDir [] ∷ []))
nested-walk trees done [] at normal h = all_closed at
nested-walk trees done (c ∷ s) at normal h =
    run-through (Within (stack at)) (Within (stack (rests_at trees f c))) (closes at c.path ++ (opens trees at c.path ++ change_calls trees f c)) (walk trees (done ++ c ∷ []) (rests_at trees f c) s)
    (ap (run (Within (stack at))) (sym (append_assoc (closes at c.path) (opens trees at c.path) (change_calls trees f c)))
    ∙ run-through (Within (stack at)) (Within (stack (above c.path))) (closes at c.path ++ opens trees at c.path) (change_calls trees f c) (way trees at c.path h.0)
    ∙ run_change trees (of_file trees f c) (old_props trees f c) c (below_root c.path at h.0)
    )
    ∙ nested-walk trees (done ++ c ∷ []) s (rests_at trees f c) normal.2 (rests_before (of_file trees f c) c s normal.1)
  where
    f : Path → Option Node
    f = effect trees done

pub later_below : (p q : Path) → path_cmp p q ≡ Less → is_front q [] ≡ false
later_below p (n ∷ q) e = refl
later_below [] [] e = cc
later_below (m ∷ p) [] e = cc

pub root_is_dir : (trees : List PathMap) → IsDirAt (base trees) [] → IsDirAt (effect trees []) []
root_is_dir trees h = subst (λ (o : Option Node). IsSomeAnd o (λ x. IsNone x.text)) (sym (effect_none trees [])) (kept (base trees []) h)
  where
    kept : (o : Option Node) → IsSomeAnd o (λ x. IsNone x.text) → IsSomeAnd (option_map (λ x. with_number (length trees) x) o) (λ x. IsNone x.text)
    kept None h = h
    kept (Some x) h = h

nested-all : (trees : List PathMap) (s : List Change) → IsNormal s → fault trees s ≡ None → IsDirAt (base trees) [] → run (Within (OpenDir [] ∷ [])) (walk trees [] [] s) ≡ Some (Within (OpenDir [] ∷ []))
nested-all trees [] normal none dir = refl
nested-all trees (c ∷ s) normal none dir = by c.path refl
  where
    f : Path → Option Node
    f = effect trees []

    below : (n : Name) (q : Path) → c.path ≡ n ∷ q → AllByRecursion (λ d. is_front d.path [] ≡ false) (c ∷ s)
    below n q e = (ap (λ z. is_front z []) e, all_map s (λ d p. later_below c.path d.path p.rises) normal.1)

    by : (p : Path) → c.path ≡ p → run (Within (OpenDir [] ∷ [])) (walk trees [] [] (c ∷ s)) ≡ Some (Within (OpenDir [] ∷ []))
    by (n ∷ q) e = nested-walk trees [] (c ∷ s) [] normal (below n q e)
    by [] e =
        let root = of_root trees f c e (none_first (fault_of trees f c) (fault_after trees (c ∷ []) s) none) (root_is_dir trees dir) in
        let old = old_props trees f c in
        (λ i. run (Within (OpenDir [] ∷ [])) ((closes [] (e i) ++ (opens trees [] (e i) ++ calls_with trees (root.dir i) old c)) ++ walk trees (c ∷ []) (rests_with (root.dir i) c) s))
        ∙ (λ i. run (Within (OpenDir [] ∷ [])) ((cond (is_front (e i) []) [] (opening trees false c) ++ cond (root.stays i) [] (dir_parts c old)) ++ walk trees (c ∷ []) (cond (root.stays i) (above c.path) (e i)) s))
        ∙ run-through (Within (OpenDir [] ∷ [])) (Within (OpenDir [] ∷ [])) (dir_parts c old) (walk trees (c ∷ []) [] s) (run_dir [] [] c old e)
        ∙ nested-walk trees (c ∷ []) s [] normal.2 (all_map s (λ d p. later_below c.path d.path p.rises) normal.1)

-- the calls that show a set keep the nesting
pub nested-drive : (trees : List PathMap) (s : List Change) → IsNormal s → fault trees s ≡ None → IsDirAt (base trees) [] → IsNested (drive trees s)
nested-drive trees s normal none dir = run-through (Within (OpenDir [] ∷ [])) (Within (OpenDir [] ∷ [])) (walk trees [] [] s) (call.CloseDir [] ∷ call.CloseEdit ∷ []) (nested-all trees s normal none dir)
