-- What is left to show, a step at a time.
use Rattle.std.proofs.Common.{◌≡◌, ◌⊎◌, inl, inr, nat_le, ℕ, zero, suc, ◌+◌, ◌<◌, ◌≤◌, Bool, true, false, cond, ◌&&◌, List, [], ◌∷◌, ◌++◌, length, take, drop, Option, Some, None, is_some, refl, sym, ap, subst, ◌∙◌, append_assoc, append-nil, add-one, drop-cons, arith, length-append}
use Rattle.std.proofs.Math.Seq.{take-suc}
use Rattle.std.proofs.lemmas.Option.{get_or_from_slice_get}
use Rattle.std.specs.Option.{option_map, option_map_or}
use Rattle.std.proofs.lemmas.List.{drop_all}
use Rattle.std.proofs.lemmas.Bool.{cases_lt}
use Rattle.std.specs.List.{slice_get}
use Rattle.std.specs.Prelude.{OnOk, IsOk, IfOk, IfErr, MatchOption, Result, Ok, Err}
use Rattle.std.specs.declared.cmp.Ordering.TheVariants.{Less}
use Rattle.std.specs.Cmp.{tied_itself}
use Rattle.std.specs.List.{AllByRecursion}
use Rattle.std.proofs.lemmas.Bool.Decides.{nat_tests}
use Rattle.node_base.specs.Path.{Name, Path, path_cmp, paths_total, same_path, is_front, rest_after}
use Rattle.node_base.specs.Props.{PropMap}
use Rattle.node_base.specs.Limits.{fits, weight}
use Rattle.node_base.specs.PathText.{child_of}
use Rattle.node_base.specs.declared.fault.PathFault.{PathFault}
use Rattle.node_base.specs.declared.fault.PathFault.TheVariants as fault_of_path
use Rattle.node_base.proofs.ReadBack.{count_of_fits, weight_of_fits}
use Rattle.node_base.proofs.PathLemmas.{append_of_rest, rest_after-append, before_below, weight-append}
use Rattle.node_base.specs.declared.node.Node.{Node}
use Rattle.node_base.specs.Tree.{PathMap, IsDirAt, kind_of, source_at}
use Rattle.dump_load.specs.declared.change.Change.{Change}
use Rattle.dump_load.specs.Changes.{settles, is_delete, Precedes, IsNormal}
use Rattle.dump_load.specs.Effect.{effect}
use Rattle.delta_editor.specs.declared.call.Call.{Call}
use Rattle.delta_editor.specs.declared.call.Call.TheVariants as call
use Rattle.delta_editor.specs.Calls.{Adds}
use Rattle.delta_editor.specs.declared.fault.EditorFault.{EditorFault}
use Rattle.delta_editor.specs.Faults.{refused}
use Rattle.node_base.specs.declared.fault.TreeFault.{TreeFault}
use Rattle.node_base.specs.declared.fault.TreeFault.TheVariants.{TooLong, BadPath, NoSuchPath, PathThere, NotDir, NoSource, KindMismatch}
use Rattle.dump_load.specs.Faults.{fault, fault_of, is_file}
use Rattle.dump_load.proofs.Faultless.{faultless, stays_brings_nothing}
use Rattle.std.specs.Option.{IsNone, IsSomeAnd}
use Rattle.node_base.specs.declared.node.Action.{Action}
use Rattle.node_base.specs.declared.node.Action.TheVariants.{Modify, Add, Delete, Replace}
use Rattle.node_base.specs.declared.node.NodeKind.TheVariants.{File, Dir}
use Rattle.editor_ends.specs.Fronts.{above}
use Rattle.editor_ends.specs.Parts.{parts, dir_parts}
use Rattle.editor_ends.specs.Drive.{base_number, old_props, of_file, calls_with, rests_with, change_calls, rests_at, opening, walk, closes, opens}
use Rattle.editor_ends.specs.Shown.{Shown, Stops, Halts, Memory, Faulty, Refusal, IsOwn, left, is_under, IsLater, IsNext, Entered}
use Rattle.editor_ends.proofs.Showing.{shown_twice, shown_adds, stops_behind, stops_before}
use Rattle.editor_ends.proofs.Fronts.{above-end, closes-none, opens-none, opens-child, closes-child, opens-beside}

below_slice : {X : Type 0} (xs : List X) (i : ℕ) (x : X) → slice_get xs i ≡ Some x → i < length xs
below_slice [] i x h = cc
below_slice (y ∷ xs) zero x h = omega arith
below_slice (y ∷ xs) (suc i) x h = omega (arith, below_slice xs i x h)

pub rest_at : {X : Type 0} (xs : List X) (i : ℕ) (x : X) → slice_get xs i ≡ Some x → drop i xs ≡ x ∷ drop (i + 1) xs
rest_at xs i x h = rw (add-one i) (drop-cons xs i x (below_slice xs i x h) ∙ ap (λ y. y ∷ drop (suc i) xs) (get_or_from_slice_get xs i x x h))

pub done_at : {X : Type 0} (xs : List X) (i : ℕ) (x : X) → slice_get xs i ≡ Some x → take (i + 1) xs ≡ take i xs ++ x ∷ []
done_at xs i x h = rw (add-one i) (take-suc xs i x (below_slice xs i x h) ∙ ap (λ y. take i xs ++ y ∷ []) (get_or_from_slice_get xs i x x h))

slice_get-drop : {X : Type 0} (xs : List X) (i : ℕ) → slice_get xs i ≡ slice_get (drop i xs) 0
slice_get-drop [] zero = refl
slice_get-drop [] (suc i) = refl
slice_get-drop (x ∷ xs) zero = refl
slice_get-drop (x ∷ xs) (suc i) = slice_get-drop xs i

module _ (trees : List PathMap) (set : List Change) (i : ℕ) (d : Path) (n : Name) where
  module _ (c : Change) (here : slice_get set i ≡ Some c) where
    -- the child is opened where the next change is further down
    pub left-opens : (m : Name) (r : Path) → c.path ≡ (d ++ n ∷ []) ++ m ∷ r → left trees set i d ≡ call.OpenDir d (d ++ n ∷ []) (base_number trees) ∷ left trees set i (d ++ n ∷ [])
    left-opens m r e =
        ap (walk trees (take i set) d) (rest_at set i c here)
        ∙ ap (λ l. l ++ after) same
        ∙ ap (λ l. call.OpenDir d (d ++ n ∷ []) (base_number trees) ∷ walk trees (take i set) (d ++ n ∷ []) l) (sym (rest_at set i c here))
      where
        shown : List Call
        shown = change_calls trees (effect trees (take i set)) c

        after : List Call
        after = walk trees (take i set ++ c ∷ []) (rests_at trees (effect trees (take i set)) c) (drop (i + 1) set)

        same : closes d c.path ++ (opens trees d c.path ++ shown) ≡ call.OpenDir d (d ++ n ∷ []) (base_number trees) ∷ (closes (d ++ n ∷ []) c.path ++ (opens trees (d ++ n ∷ []) c.path ++ shown))
        same =
            (λ j. closes-none d c.path (n ∷ m ∷ r) (e ∙ append_assoc d (n ∷ []) (m ∷ r)) j ++ ((ap (opens trees d) e ∙ opens-child trees d n m r ∙ ap (λ z. call.OpenDir d (d ++ n ∷ []) (base_number trees) ∷ opens trees (d ++ n ∷ []) z) (sym e)) j ++ shown))
            ∙ ap (λ l. call.OpenDir d (d ++ n ∷ []) (base_number trees) ∷ (l ++ (opens trees (d ++ n ∷ []) c.path ++ shown))) (sym (closes-none (d ++ n ∷ []) c.path (m ∷ r) e))

    -- a change right below
    pub left-change : c.path ≡ d ++ n ∷ [] → left trees set i d ≡ change_calls trees (effect trees (take i set)) c ++ left trees set (i + 1) (rests_at trees (effect trees (take i set)) c)
    left-change e =
        ap (walk trees (take i set) d) (rest_at set i c here)
        ∙ (λ j. (closes-none d c.path (n ∷ []) e j ++ ((ap (opens trees d) e ∙ opens-none trees d n) j ++ change_calls trees (effect trees (take i set)) c)) ++ walk trees (sym (done_at set i c here) j) (rests_at trees (effect trees (take i set)) c) (drop (i + 1) set))

  -- the child is closed where the next change isn't under it
  pub left-closes : is_under set i (d ++ n ∷ []) ≡ false → left trees set i (d ++ n ∷ []) ≡ call.CloseDir (d ++ n ∷ []) ∷ left trees set i d
  left-closes h = closed (drop i set) (ap (λ o. option_map_or (λ c. is_front (d ++ n ∷ []) c.path) o false) (sym (slice_get-drop set i)) ∙ h)
    where
      end : (d : Path) → is_front (d ++ n ∷ []) [] ≡ false
      end [] = refl
      end (x ∷ d) = refl

      closed : (l : List Change) → option_map_or (λ c. is_front (d ++ n ∷ []) c.path) (slice_get l 0) false ≡ false → walk trees (take i set) (d ++ n ∷ []) l ≡ call.CloseDir (d ++ n ∷ []) ∷ walk trees (take i set) d l
      closed [] h = closes-child trees d n [] (end d)
      closed (c ∷ l) h = λ j. (closes-child trees d n c.path h j ++ (opens-beside trees d n c.path h j ++ change_calls trees (effect trees (take i set)) c)) ++ walk trees (take i set ++ c ∷ []) (rests_at trees (effect trees (take i set)) c) l

-- ---- the next change at a child, or below it

pub record Further (p w : Path) : Type 0 where
  pub name : Name
  pub rest : Path
  pub is : w ≡ p ++ name ∷ rest

false_isnt_true : false ≡ true → ⊥
false_isnt_true h = cc h

pub record Rest (p w : Path) : Type 0 where
  pub rest : Path
  pub is : w ≡ p ++ rest

pub front_rest : (p w : Path) → is_front p w ≡ true → Rest p w
front_rest p w h = elim (rest_after p w) as (λ o. rest_after p w ≡ o → is_some o ≡ true → Rest p w) [
  | None ↦ λ e f. absurd (false_isnt_true f)
  | Some r ↦ λ e f. record { rest = r; is = append_of_rest p w r e }
] refl h

pub at_path : (p w : Path) → is_front p w ≡ true → length w ≤ length p → w ≡ p
at_path p w h l = ends (front_rest p w h).rest (front_rest p w h).is
  where
    ends : (r : Path) → w ≡ p ++ r → w ≡ p
    ends [] e = e ∙ append-nil p
    ends (m ∷ r) e = absurd (omega (arith, l, ap length e, length-append p (m ∷ r)))

pub further : (p w : Path) → is_front p w ≡ true → length p < length w → Further p w
further p w h l = goes (front_rest p w h).rest (front_rest p w h).is
  where
    goes : (r : Path) → w ≡ p ++ r → Further p w
    goes [] e = absurd (omega (arith, l, ap length e, length-append p []))
    goes (m ∷ r) e = record { name = m; rest = r; is = e }

module _ (trees : List PathMap) (set : List Change) (i : ℕ) (d path : Path) (next : IsNext set i d path) where
  pub next-opens : (base : Option ℕ) → base ≡ base_number trees → length path < length next.change.path → left trees set i d ≡ call.OpenDir d path base ∷ left trees set i path
  next-opens base b l =
      let f = further path next.change.path next.under l in
      subst (λ (z : Path). next.change.path ≡ z ++ f.name ∷ f.rest → left trees set i d ≡ call.OpenDir d z base ∷ left trees set i z) (sym next.child)
      (λ e. left-opens trees set i d next.name next.change next.is f.name f.rest e ∙ ap (λ x. call.OpenDir d (d ++ next.name ∷ []) x ∷ left trees set i (d ++ next.name ∷ [])) (sym b))
      f.is

  pub next-change : length next.change.path ≤ length path → left trees set i d ≡ change_calls trees (effect trees (take i set)) next.change ++ left trees set (i + 1) (rests_at trees (effect trees (take i set)) next.change)
  next-change l = left-change trees set i d next.name next.change next.is (at_path path next.change.path next.under l ∙ next.child)

  pub next-above : length next.change.path ≤ length path → above next.change.path ≡ d
  next-above l = ap above (at_path path next.change.path next.under l ∙ next.child) ∙ above-end d next.name

  pub next-below_root : is_front next.change.path [] ≡ false
  next-below_root =
      let f = front_rest path next.change.path next.under in
      ap (λ z. is_front z []) (f.is ∙ ap (λ z. z ++ f.rest) next.child) ∙ longer d
    where
      longer : (d : Path) → is_front ((d ++ next.name ∷ []) ++ (front_rest path next.change.path next.under).rest) [] ≡ false
      longer [] = refl
      longer (x ∷ d) = refl

  -- what is shown of it
  pub next-shown : length next.change.path ≤ length path → (f : Path → Option Node) → ◌≡◌ {A = Path → Option Node} f (effect trees (take i set)) → (file : Bool) → file ≡ of_file trees f next.change → (old : PropMap) → old ≡ old_props trees f next.change
      → left trees set i d ≡ calls_with trees file old next.change ++ left trees set (i + 1) (rests_at trees (effect trees (take i set)) next.change)
  next-shown l f fs file files old olds =
      next-change l ∙ (λ k. calls_with trees (sym (files ∙ (λ h. of_file trees (fs h) next.change)) k) (sym (olds ∙ (λ h. old_props trees (fs h) next.change)) k) next.change ++ left trees set (i + 1) (rests_at trees (effect trees (take i set)) next.change))

  -- what a change right below leaves open
  pub next-entered : (j : ℕ) → j ≡ i + 1 → length next.change.path ≤ length path → (f : Path → Option Node) → ◌≡◌ {A = Path → Option Node} f (effect trees (take i set)) → (file : Bool) → file ≡ of_file trees f next.change → (old : PropMap) → old ≡ old_props trees f next.change
      → {E D F : Type 0} (shows : E → List Call → Type 0) (dir_path : D → Path) (a b : E) (res : Result (Option D) F)
      → OnOk res (Adds shows a b (calls_with trees file old next.change))
      → IfOk res (λ o. MatchOption o (rests_with file next.change ≡ above next.change.path) (λ e. (dir_path e ≡ next.change.path) × (rests_with file next.change ≡ next.change.path)))
      → IfOk res (Entered shows dir_path a b (left trees set i d) (left trees set j) d path)
  next-entered j js l f fs file files old olds {E} {D} shows dir_path a b (Ok None) adds rests =
      shown_adds shows a b (calls_with trees file old next.change) (left trees set i d) (left trees set j d) adds (goes d (rests ∙ next-above l))
    where
      goes : (r : Path) → rests_with file next.change ≡ r → left trees set i d ≡ calls_with trees file old next.change ++ left trees set j r
      goes r e =
          let files2 = files ∙ (λ k. of_file trees (fs k) next.change) in
          next-change l ∙ (λ k. calls_with trees (sym files2 k) (sym (olds ∙ (λ h. old_props trees (fs h) next.change)) k) next.change ++ left trees set (sym js k) (((ap (λ x. rests_with x next.change) (sym files2)) ∙ e) k))
  next-entered j js l f fs file files old olds {E} {D} shows dir_path a b (Ok (Some e)) adds rests =
      (rests.0 ∙ at, shown_adds shows a b (calls_with trees file old next.change) (left trees set i d) (left trees set j path) adds (goes path (rests.1 ∙ at)))
    where
      at : next.change.path ≡ path
      at = at_path path next.change.path next.under l

      goes : (r : Path) → rests_with file next.change ≡ r → left trees set i d ≡ calls_with trees file old next.change ++ left trees set j r
      goes r e =
          let files2 = files ∙ (λ k. of_file trees (fs k) next.change) in
          next-change l ∙ (λ k. calls_with trees (sym files2 k) (sym (olds ∙ (λ h. old_props trees (fs h) next.change)) k) next.change ++ left trees set (sym js k) (((ap (λ x. rests_with x next.change) (sym files2)) ∙ e) k))
  next-entered j js l f fs file files old olds shows dir_path a b (Err e) adds rests = tt

-- the name that follows a path in the next change's
pub next_is : (set : List Change) (i : ℕ) (at path : Path) (c : Change) (n : Name) (r more : Path) → slice_get set i ≡ Some c → rest_after at c.path ≡ Some r → r ≡ n ∷ more → path ≡ at ++ n ∷ [] → IsNext set i at path
next_is set i at path c n r more here rest is child =
    record {
      name = n;
      child = child;
      change = c;
      is = here;
      under = ap (λ z. is_front z c.path) child ∙ ap (is_front (at ++ n ∷ [])) (append_of_rest at c.path r rest ∙ ap (λ z. at ++ z) is ∙ sym (append_assoc at (n ∷ []) more)) ∙ ap is_some (rest_after-append (at ++ n ∷ []) more);
    }

pub on_ok : {A F : Type 0} (r : Result A F) (P : Type 0) → IsOk r → OnOk r P → P
on_ok (Ok a) P i h = h
on_ok (Err e) P i h = absurd (false_isnt_true i)

-- a child is opened, shown and closed
pub shown_child : (trees : List PathMap) (set : List Change) (i j k : ℕ) (at path p : Path) → IsNext set i at path → is_under set k path ≡ false → p ≡ path
    → {E : Type 0} (shows : E → List Call → Type 0) (a b c e : E) → Shown shows a b (left trees set i at) (left trees set j path) → Shown shows b c (left trees set j path) (left trees set k path) → Adds shows c e (call.CloseDir p ∷ []) → Shown shows a e (left trees set i at) (left trees set k at)
shown_child trees set i j k at path p next past ps shows a b c e x y z =
    shown_twice shows a c e (left trees set i at) (left trees set k path) (left trees set k at) (shown_twice shows a b c (left trees set i at) (left trees set j path) (left trees set k path) x y)
    (shown_adds shows c e (call.CloseDir p ∷ []) (left trees set k path) (left trees set k at) z
    (subst (λ (z : Path). is_under set k z ≡ false → left trees set k z ≡ call.CloseDir z ∷ left trees set k at) (sym next.child) (left-closes trees set k at next.name) past ∙ ap (λ z. call.CloseDir z ∷ left trees set k at) (sym ps)))

pub found : {X : Type 0} (o : Option X) (p : X) (A : Type 0) (B : X → Type 0) → o ≡ Some p → MatchOption o A B → B p
found o p A B e h = subst (λ (z : Option _). MatchOption z A B) e h

-- nothing is left where no change is under the root any more
pub left-end : (trees : List PathMap) (set : List Change) (k : ℕ) → is_under set k [] ≡ false → left trees set k [] ≡ []
left-end trees set k h = ended (drop k set) (ap (λ o. option_map_or (λ c. is_front [] c.path) o false) (sym (slice_get-drop set k)) ∙ h)
  where
    ended : (l : List Change) → option_map_or (λ c. is_front [] c.path) (slice_get l 0) false ≡ false → walk trees (take k set) [] l ≡ []
    ended [] h = refl
    ended (c ∷ l) h = absurd (false_isnt_true (sym h))

-- the root's own change
pub left-root : (trees : List PathMap) (set : List Change) (i : ℕ) (c : Change) → slice_get set i ≡ Some c → c.path ≡ [] → is_delete c.action ≡ false → (f : Path → Option Node) → ◌≡◌ {A = Path → Option Node} f (effect trees (take i set)) → of_file trees f c ≡ false → (old : PropMap) → old ≡ old_props trees f c → (j : ℕ) → j ≡ i + 1
    → left trees set i [] ≡ dir_parts c old ++ left trees set j []
left-root trees set i c here e d f fs file old olds j js =
    let files = ap (λ g. of_file trees g c) (sym fs) ∙ file in
    let props = sym (olds ∙ (λ h. old_props trees (fs h) c)) in
    ap (walk trees (take i set) []) (rest_at set i c here)
    ∙ (λ k. (closes [] (e k) ++ (opens trees [] (e k) ++ calls_with trees (files k) (props k) c)) ++ walk trees (sym (done_at set i c here) k) (rests_with (files k) c) (drop (i + 1) set))
    ∙ (λ k. (cond (is_front (e k) []) [] (opening trees false c) ++ cond (d k) [] (dir_parts c old)) ++ left trees set (sym js k) (cond (d k) (above c.path) (e k)))

pub shown_root : (trees : List PathMap) (set : List Change) (i j : ℕ) (c : Change) (old : PropMap) → left trees set i [] ≡ dir_parts c old ++ left trees set j [] → {E F : Type 0} (shows : E → List Call → Type 0) (a b : E) (r : Result Unit F) → OnOk r (Adds shows a b (dir_parts c old)) → OnOk r (Shown shows a b (left trees set i []) (left trees set j []))
shown_root trees set i j c old is shows a b (Ok u) h = shown_adds shows a b (dir_parts c old) (left trees set i []) (left trees set j []) h is
shown_root trees set i j c old is shows a b (Err e) h = tt

-- the calls of a change below the root that isn't a deletion
pub calls_with-stays : (trees : List PathMap) (c : Change) (b : Bool) (old : PropMap) → is_front c.path [] ≡ false → is_delete c.action ≡ false → calls_with trees b old c ≡ opening trees b c ++ parts b c old
calls_with-stays trees c b old h d = λ i. cond (h i) [] (opening trees b c) ++ cond (d i) [] (parts b c old)

-- ---- changes that come later

-- without the first of them
all_drop : {X : Type 0} (P : X → Type 0) (xs : List X) (i : ℕ) → AllByRecursion P (drop i xs) → AllByRecursion P (drop (suc i) xs)
all_drop P [] zero h = tt
all_drop P [] (suc i) h = tt
all_drop P (x ∷ xs) zero h = h.1
all_drop P (x ∷ xs) (suc i) h = all_drop P xs i h

pub later_more : (set : List Change) (i k : ℕ) (at : Path) → i ≤ k → IsLater set i at → IsLater set k at
later_more set i zero at l h = subst (λ k. IsLater set k at) {x = i} {y = zero} (omega (arith, l)) h
later_more set i (suc k) at l h = by (cases_lt k i) (λ more. later_more set i k at more h)
  where
    by : (k < i) ⊎ (i ≤ k) → (i ≤ k → IsLater set k at) → IsLater set (suc k) at
    by (inl less) f = subst (λ n. IsLater set n at) {x = i} {y = suc k} (omega (arith, l, less)) h
    by (inr more) f = all_drop (λ c. path_cmp at c.path ≡ Less) set k (f more)

all_rise : (p : Path) (c : Change) (s : List Change) → ((q : Path) → path_cmp c.path q ≡ Less → path_cmp p q ≡ Less) → AllByRecursion (Precedes c) s → AllByRecursion (λ d. path_cmp p d.path ≡ Less) s
all_rise p c [] f h = tt
all_rise p c (d ∷ s) f h = (f d.path h.0.rises, all_rise p c s f h.1)

-- what follows a change comes after each path that comes before whatever the change comes before
pub later_rise : (set : List Change) (i : ℕ) (c : Change) (p : Path) → IsNormal set → slice_get set i ≡ Some c → ((q : Path) → path_cmp c.path q ≡ Less → path_cmp p q ≡ Less) → IsLater set (i + 1) p
later_rise set i c p normal here f = rw (add-one i) (go set i normal here)
  where
    some_is : (a b : Change) → Some a ≡ Some b → a ≡ b
    some_is a b e = cc

    go : (s : List Change) (i : ℕ) → IsNormal s → slice_get s i ≡ Some c → AllByRecursion (λ d. path_cmp p d.path ≡ Less) (drop (suc i) s)
    go [] i n e = cc
    go (d ∷ s) zero n e = all_rise p c s f (subst (λ x. AllByRecursion (Precedes x) s) (some_is d c e) n.1)
    go (d ∷ s) (suc i) n e = go s i n.2 e

-- a change itself, and what follows it
pub later_here : (set : List Change) (i : ℕ) (c : Change) (p : Path) → IsNormal set → slice_get set i ≡ Some c → path_cmp p c.path ≡ Less → IsLater set i p
later_here set i c p normal here less =
    subst (AllByRecursion (λ d. path_cmp p d.path ≡ Less)) (sym (rest_at set i c here)) (less, later_rise set i c p normal here (λ q h. paths_total.trans p c.path q less h))

-- none at all
pub later_none : (set : List Change) (i : ℕ) (p : Path) → length set ≤ i → IsLater set i p
later_none set i p l = subst (AllByRecursion (λ d. path_cmp p d.path ≡ Less)) (sym (drop_all i set l)) tt

-- the next of them
pub later_first : (set : List Change) (i : ℕ) (c : Change) (p : Path) → slice_get set i ≡ Some c → IsLater set i p → path_cmp p c.path ≡ Less
later_first set i c p here h = (subst (AllByRecursion (λ d. path_cmp p d.path ≡ Less)) (rest_at set i c here) h).0

pub after_root : (p q : Path) → path_cmp p q ≡ Less → path_cmp [] q ≡ Less
after_root p (n ∷ q) e = refl
after_root [] [] e = cc
after_root (m ∷ p) [] e = cc

pub nothing_of_none : (p : Path) → length p ≡ 0 → p ≡ []
nothing_of_none [] e = refl
nothing_of_none (n ∷ p) e = absurd (omega (arith, e))

pub not_root_later : (p : Path) → same_path p [] ≡ false → path_cmp [] p ≡ Less
not_root_later [] e = cc
not_root_later (n ∷ p) e = refl

-- a path comes before what is below it, and not before itself
pub never_itself : (p q : Path) → rest_after p q ≡ Some [] → path_cmp p q ≡ Less → ⊥
never_itself p q r less = cc (tied_itself paths_total p, ap (path_cmp p) (append_of_rest p q [] r ∙ append-nil p), less)

pub below_is_later : (p q : Path) → is_front p q ≡ true → length p < length q → path_cmp p q ≡ Less
below_is_later p q front longer = let f = further p q front longer in ap (path_cmp p) f.is ∙ before_below p f.rest f.name

-- what follows a change at a path comes after the path
pub later_child : (set : List Change) (i j : ℕ) (at path : Path) (n : IsNext set i at path) → IsNormal set → j ≡ i + 1 → length n.change.path ≤ length path → IsLater set j path
later_child set i j at path n normal js l =
    subst (λ k. IsLater set k path) (sym js) (later_rise set i n.change path normal n.is (λ q h. ap (λ p. path_cmp p q) (sym (at_path path n.change.path n.under l)) ∙ h))

-- whatever a call leaves open
pub for_each_ok : {D F : Type 0} (r : Result (Option D) F) (A B : Type 0) → A → B → IfOk r (λ o. MatchOption o A (λ _. B))
for_each_ok (Ok None) A B a b = a
for_each_ok (Ok (Some d)) A B a b = b
for_each_ok (Err f) A B a b = tt

-- ---- paths within the limits

pub front_fits : (p r : Path) → fits (p ++ r) ≡ true → fits p ≡ true
front_fits p r e = tests (length p) (weight p) (omega (arith, count_of_fits (p ++ r) e, length-append p r)) (omega (arith, weight_of_fits (p ++ r) e, weight-append p r))
  where
    tests : (l w : ℕ) → l ≤ 64 → w ≤ 1025 → (nat_le (0 + l) 64 && nat_le (0 + w) 1025) ≡ true
    tests l w a b = grind (arith, nat_tests)

-- ---- refusals

pub own_is : (trees : List PathMap) (set : List Change) (e : EditorFault) (f : TreeFault) → e ≡ refused f → fault trees set ≡ Some f → IsOwn trees set e
own_is trees set e f is at = subst (IsOwn trees set) (sym is) (by f (ap (option_map refused) at))
  where
    by : (f : TreeFault) → option_map refused (fault trees set) ≡ Some (refused f) → IsOwn trees set (refused f)
    by TooLong h = h
    by BadPath h = h
    by NoSuchPath h = h
    by PathThere h = h
    by NotDir h = h
    by NoSource h = h
    by KindMismatch h = h

module _ {E O : Type 0} (shows : E → List Call → Type 0) (began : E → O) (refuses : O → List Call → Call → EditorFault → Type 0) (trees : List PathMap) (set : List Change) where
  -- behind what was shown
  pub halts_behind : (a b : E) (x y : List Call) (f : EditorFault) → Shown shows a b x y → began b ≡ began a → Halts shows began refuses trees set b y f → Halts shows began refuses trees set a x f
  halts_behind a b x y f s same (Memory h) = Memory h
  halts_behind a b x y f s same (Faulty h) = Faulty h
  halts_behind a b x y f s same (Refusal h) = Refusal (stops_behind shows began refuses a b x y f s same h)

  -- with more that is left behind it
  pub halts_before : (e : E) (front rest left : List Call) (f : EditorFault) → Halts shows began refuses trees set e front f → left ≡ front ++ rest → Halts shows began refuses trees set e left f
  halts_before e front rest left f (Memory h) is = Memory h
  halts_before e front rest left f (Faulty h) is = Faulty h
  halts_before e front rest left f (Refusal h) is = Refusal (stops_before shows began refuses e front rest left f h is)

  pub halt_before : {A : Type 0} (e : E) (front rest left : List Call) (r : Result A EditorFault) → IfErr r (Stops shows began refuses e front) → left ≡ front ++ rest → IfErr r (Halts shows began refuses trees set e left)
  halt_before e front rest left (Ok x) h is = tt
  halt_before e front rest left (Err f) h is = Refusal (stops_before shows began refuses e front rest left f h is)

-- ---- the child on the way

pub child_read : (at : Path) (n : Name) (rest more path : Path) → rest_after at path ≡ Some rest → rest ≡ n ∷ more → fits path ≡ true → child_of at n ≡ Ok (at ++ n ∷ [])
unfolding child_of
child_read at n rest more path r is e =
    ap (λ b. cond {A = Result Path PathFault} b (Ok (at ++ n ∷ [])) (Err fault_of_path.TooLong))
    (front_fits (at ++ n ∷ []) more (ap fits (append_assoc at (n ∷ []) more ∙ ap (λ z. at ++ z) (sym is) ∙ sym (append_of_rest at path rest r)) ∙ e))

pub never_refused : (r : Result Path PathFault) (p : Path) (f : PathFault) → r ≡ Ok p → r ≡ Err f → ⊥
never_refused r p f h k = cc

pub same_child : (r : Result Path PathFault) (p q : Path) → r ≡ Ok p → r ≡ Ok q → q ≡ p
same_child r p q h k = cc

-- ---- the change of the root

-- a change of the root that has no fault is one of the directory there
pub record OfRoot (trees : List PathMap) (f : Path → Option Node) (c : Change) : Type 0 where
  pub dir : of_file trees f c ≡ false
  pub stays : is_delete c.action ≡ false
  pub settles_nothing : settles c.action ≡ false

pub of_root : (trees : List PathMap) (f : Path → Option Node) (c : Change) → c.path ≡ [] → fault_of trees f c ≡ None → IsDirAt f [] → OfRoot trees f c
of_root trees f c e none dir =
    record {
      dir = ap (λ b. option_map_or is_file (cond b (option_map_or (λ s. option_map kind_of (source_at trees s [])) c.source c.kind) (option_map kind_of (f c.path))) false) (stays_brings_nothing c.action settled) ∙ ap (λ p. option_map_or is_file (option_map kind_of (f p)) false) e ∙ of_dir (f []) dir;
      stays = no_delete c.action settled;
      settles_nothing = settled;
    }
  where
    settled : settles c.action ≡ false
    settled = ap (λ p. same_path p [] && settles c.action) (sym e) ∙ (faultless trees f c none).root

    no_delete : (a : Action) → settles a ≡ false → is_delete a ≡ false
    no_delete Modify h = refl
    no_delete Add h = cc
    no_delete Delete h = cc
    no_delete Replace h = refl

    of_dir : (o : Option Node) → IsSomeAnd o (λ x. IsNone x.text) → option_map_or is_file (option_map kind_of o) false ≡ false
    of_dir None h = refl
    of_dir (Some x) h = ap (λ b. is_file (cond b File Dir)) h

pub on_each : {A F : Type 0} (r : Result A F) (P : Type 0) → P → OnOk r P
on_each (Ok x) P h = h
on_each (Err f) P h = tt

pub found_none : {X : Type 0} (o : Option X) (A : Type 0) (B : X → Type 0) → o ≡ None → MatchOption o A B → A
found_none o A B e h = subst (λ (z : Option _). MatchOption z A B) e h

pub closes_child : (trees : List PathMap) (set : List Change) (i k : ℕ) (at path : Path) → IsNext set i at path → is_under set k path ≡ false → left trees set k path ≡ call.CloseDir path ∷ left trees set k at
closes_child trees set i k at path next past = subst (λ (z : Path). is_under set k z ≡ false → left trees set k z ≡ call.CloseDir z ∷ left trees set k at) (sym next.child) (left-closes trees set k at next.name) past

pub child_length : (set : List Change) (i : ℕ) (at path : Path) → IsNext set i at path → length path ≡ length at + 1
child_length set i at path next = ap length next.child ∙ length-append at (next.name ∷ [])

-- what is under a path that no change is under any more comes later
pub moved_on : (set : List Change) (i k : ℕ) (at path : Path) → IsNext set i at path → is_under set k path ≡ false → i ≤ k → i < k
moved_on set i k at path next past l = by (cases_lt i k)
  where
    by : (i < k) ⊎ (k ≤ i) → i < k
    by (inl less) = less
    by (inr more) = cc (ap (λ o. option_map_or (λ c. is_front path c.path) o false) (sym next.is), next.under, ap (λ n. is_under set n path) {x = i} {y = k} (omega (arith, l, more)), past)
