-- What the calls of a set make of the newest tree.
use Rattle.std.proofs.Common.{◌≡◌, ℕ, Bool, true, false, cond, not, ◌&&◌, ◌||◌, List, [], ◌∷◌, ◌++◌, length, map, filter, reverse, Option, Some, None, is_some, refl, sym, ap, subst, ◌∙◌, append_assoc, append-nil, if◌then◌else◌}
use Rattle.std.specs.Option.{option_map, option_map_or, option_and_then, option_or}
use Rattle.std.specs.List.{AllByRecursion}
use Rattle.std.specs.FinMap as finite
use Rattle.std.specs.declared.cmp.Ordering.TheVariants.{Less}
use Rattle.std.specs.Option.{is_none}
use Rattle.node_base.specs.declared.fault.TreeFault.TheVariants.{NoSuchPath}
use Rattle.node_base.specs.Path.{Path, path_cmp, same_path, is_front, rest_after}
use Rattle.node_base.specs.Props.{PropMap}
use Rattle.node_base.proofs.PathLemmas.{rest_after-append, same_path-rest}
use Rattle.node_base.specs.declared.node.Node.{Node}
use Rattle.node_base.specs.Tree.{PathMap, with_number, marked, changed_at, grafted, with_given, alone, base, blank, source_at, kind_of}
use Rattle.node_base.specs.declared.node.Action.{Action}
use Rattle.node_base.specs.declared.node.Action.TheVariants.{Modify, Add, Delete, Replace}
use Rattle.dump_load.specs.declared.change.Change.{Change}
use Rattle.node_base.specs.declared.node.Source.{Source}
use Rattle.node_base.specs.declared.node.NodeKind.{NodeKind}
use Rattle.node_base.specs.declared.node.NodeKind.TheVariants.{File, Dir}
use Rattle.dump_load.specs.Changes.{settles, is_delete, brings, is_described, IsWhole}
use Rattle.delta_editor.specs.declared.call.Call.TheVariants as call
use Rattle.delta_editor.specs.CallEffect.{all_called, call_effect, added}
use Rattle.delta_editor.proofs.CallLemmas.{Nodes, all_called-append}
use Rattle.editor_ends.specs.Fronts.{above, fronts}
use Rattle.editor_ends.specs.Parts.{parts}
use Rattle.editor_ends.specs.Drive.{base_number, opening, opens, closes, calls_with, change_calls, of_file, old_props, rests_at, walk, drive}
use Rattle.dump_load.specs.Changes.{change_at, IsNormal}
use Rattle.dump_load.proofs.OneMore.{effect-end}
use Rattle.dump_load.proofs.Faultless.{Faultless, faultless, deletes_settle}
use Rattle.dump_load.proofs.Walk.{effect_none, normal_follows, whole_in}
use Rattle.dump_load.specs.Faults.{fault, fault_if, place_fault, fault_of, fault_after, judged, mismatches, is_file, same_kind}
use Rattle.dump_load.specs.Effect.{arrives, stepped, brought, effect, laid, parted}
use Rattle.editor_ends.proofs.Fronts.{all_map, fronts_are, above_is, above_rest}
use Rattle.editor_ends.proofs.Walks.{front_rest, calls_with-stays}
use Rattle.editor_ends.proofs.Given.{HasProps, given-parts}

-- closing changes nothing
pub called-closes : (trees : List PathMap) (f : Nodes) (ps : List Path) → ◌≡◌ {A = Nodes} (all_called trees f (map call.CloseDir ps)) f
called-closes trees f [] = refl
called-closes trees f (p ∷ ps) = called-closes trees f ps

-- ---- marks

pub front_through : (q d p : Path) → is_front q d ≡ true → is_front d p ≡ true → is_front q p ≡ true
front_through q d p h k =
    let a = front_rest q d h in
    let b = front_rest d p k in
    ap (is_front q) (b.is ∙ ap (λ z. z ++ b.rest) a.is ∙ append_assoc q a.rest b.rest) ∙ ap is_some (rest_after-append q (a.rest ++ b.rest))

-- a mark of a front is taken up by the mark of the path
pub marked-front : (f : Nodes) (d p : Path) (n : ℕ) → is_front d p ≡ true → ◌≡◌ {A = Nodes} (marked (marked f d n) p n) (marked f p n)
marked-front f d p n h = λ i q. at q i
  where
    at : (q : Path) → marked (marked f d n) p n q ≡ marked f p n q
    at q = elim (f q) as (λ (o : Option Node). option_map (λ x. cond (is_front q p) (with_number n x) x) (option_map (λ x. cond (is_front q d) (with_number n x) x) o) ≡ option_map (λ x. cond (is_front q p) (with_number n x) x) o) [
      | None ↦ refl
      | Some x ↦ ap Some (elim (is_front q d) as (λ b. is_front q d ≡ b → cond (is_front q p) (with_number n (cond b (with_number n x) x)) (cond b (with_number n x) x) ≡ cond (is_front q p) (with_number n x) x) [
        | true ↦ λ e. ap (λ b. cond b (with_number n x) (with_number n x)) (front_through q d p e h) ∙ sym (ap (λ b. cond b (with_number n x) x) (front_through q d p e h))
        | false ↦ λ e. refl
      ] refl)
    ]

-- directories above a path may be opened before what marks it
pub marked-opens : (trees : List PathMap) (f : Nodes) (p : Path) (ps : List Path) → AllByRecursion (λ e. is_front e p ≡ true) ps → ◌≡◌ {A = Nodes} (marked (all_called trees f (map (λ d. call.OpenDir (above d) d (base_number trees)) ps)) p (length trees)) (marked f p (length trees))
marked-opens trees f p [] h = refl
marked-opens trees f p (e ∷ ps) h = marked-opens trees (marked f e (length trees)) p ps h.1 ∙ marked-front f e p (length trees) h.0

pub all_filter : (P : Path → Type 0) (t : Path → Bool) (xs : List Path) → AllByRecursion P xs → AllByRecursion P (filter t xs)
all_filter P t [] h = tt
all_filter P t (x ∷ xs) h = elim (t x) as (λ b. AllByRecursion P (cond b (x ∷ filter t xs) (filter t xs))) [ true ↦ (h.0, all_filter P t xs h.1) | false ↦ all_filter P t xs h.1 ]

is_true : (b : Bool) → not b ≡ false → b ≡ true
is_true true h = refl
is_true false h = cc h

pub marked-way : (trees : List PathMap) (f : Nodes) (at p : Path) → ◌≡◌ {A = Nodes} (marked (all_called trees (all_called trees f (closes at p)) (opens trees at p)) p (length trees)) (marked f p (length trees))
marked-way trees f at p =
    (λ i. marked (all_called trees (called-closes trees f (reverse (filter (λ d. not (is_front d p)) (fronts at))) i) (opens trees at p)) p (length trees))
    ∙ marked-opens trees f p (filter (λ d. not (is_front d at)) (fronts (above p))) (all_filter (λ e. is_front e p ≡ true) (λ d. not (is_front d at)) (fronts (above p)) (all_map (fronts (above p)) (λ e h. is_true (is_front e p) h) (fronts_are [] (above p) p (above_rest p) (above_is p))))

-- ---- one change

-- what stands after a change was opened
abbrev pub opened : List PathMap → Nodes → Bool → Change → Nodes
opened trees f file c = if is_delete c.action then grafted (marked f c.path (length trees)) c.path (λ _. None) else if settles c.action then grafted (marked f c.path (length trees)) c.path (added trees (if file then File else Dir) c.source) else marked f c.path (length trees)

grafted-twice : (f : Nodes) (p : Path) (n : ℕ) (new : Nodes) → ◌≡◌ {A = Nodes} (grafted (marked (grafted (marked f p n) p (λ _. None)) p n) p new) (grafted (marked f p n) p new)
grafted-twice f p n new = λ i q. at q i
  where
    itself : is_front p p ≡ true
    itself = ap (is_front p) (sym (append-nil p)) ∙ ap is_some (rest_after-append p [])

    at : (q : Path) → grafted (marked (grafted (marked f p n) p (λ _. None)) p n) p new q ≡ grafted (marked f p n) p new q
    at q = elim (rest_after p q) as (λ (o : Option Path). option_map_or new o (option_map (λ x. cond (is_front q p) (with_number n x) x) (option_map_or (λ _. None) o (marked f p n q))) ≡ option_map_or new o (marked f p n q)) [
      | None ↦ (λ i. marked-front f p p n itself i q)
      | Some r ↦ refl
    ]

-- where the marks agree, the opening calls agree
pub called-opening : (trees : List PathMap) (f g : Nodes) (file : Bool) (c : Change) → ◌≡◌ {A = Nodes} (marked g c.path (length trees)) (marked f c.path (length trees)) → ◌≡◌ {A = Nodes} (all_called trees g (opening trees file c)) (opened trees f file c)
called-opening trees f g file c e = by c.action file
  where
    n : ℕ
    n = length trees

    by : (a : _) (b : Bool) → ◌≡◌ {A = Nodes} (all_called trees g (opening trees b (record { path = c.path; action = a; kind = c.kind; source = c.source; props = c.props; text = c.text }))) (opened trees f b (record { path = c.path; action = a; kind = c.kind; source = c.source; props = c.props; text = c.text }))
    by Modify true = e
    by Modify false = e
    by Add true = ap (λ (m : Nodes). grafted m c.path (added trees File c.source)) e
    by Add false = ap (λ (m : Nodes). grafted m c.path (added trees Dir c.source)) e
    by Delete b = ap (λ (m : Nodes). grafted m c.path (λ _. None)) e
    by Replace true = ap (λ (m : Nodes). grafted (marked (grafted m c.path (λ _. None)) c.path n) c.path (added trees File c.source)) e ∙ grafted-twice f c.path n (added trees File c.source)
    by Replace false = ap (λ (m : Nodes). grafted (marked (grafted m c.path (λ _. None)) c.path n) c.path (added trees Dir c.source)) e ∙ grafted-twice f c.path n (added trees Dir c.source)

-- ---- parts

pub changed-grafted : (m : Nodes) (p : Path) (new : Nodes) (g : Node → Node) → ◌≡◌ {A = Nodes} (changed_at (grafted m p new) p g) (grafted m p (λ r. option_map (λ x. if same_path r [] then g x else x) (new r)))
changed-grafted m p new g = λ i q. at q i
  where
    at : (q : Path) → changed_at (grafted m p new) p g q ≡ grafted m p (λ r. option_map (λ x. if same_path r [] then g x else x) (new r)) q
    at q =
        ap (λ b. option_map (λ x. cond b (g x) x) (grafted m p new q)) (same_path-rest p q)
        ∙ elim (rest_after p q) as (λ (o : Option Path). option_map (λ x. cond (option_map_or (λ r. same_path r []) o false) (g x) x) (option_map_or new o (m q)) ≡ option_map_or (λ r. option_map (λ x. cond (same_path r []) (g x) x) (new r)) o (m q)) [
          | None ↦ elim (m q) as (λ (o : Option Node). option_map (λ x. x) o ≡ o) [ None ↦ refl | Some x ↦ refl ]
          | Some r ↦ refl
        ]

abbrev pub kind : Bool → NodeKind
kind file = if file then File else Dir

-- an add without a source says its kind
abbrev pub SaysKind : Bool → Change → Type 0
SaysKind file c = c.source ≡ None → c.kind ≡ Some (kind file)

arrives-is : (trees : List PathMap) (file : Bool) (c : Change) → is_delete c.action ≡ false → SaysKind file c → ◌≡◌ {A = Nodes} (λ r. option_map (λ x. if same_path r [] then with_given c.text c.props x else x) (added trees (kind file) c.source r)) (arrives trees c)
arrives-is trees file c d k = λ i r. at r i
  where
    content : Path → Option Node
    content r = option_map_or (source_at trees) c.source (alone (blank (Some (kind file)))) r

    same : (r : Path) → brought trees c r ≡ content r
    same r = (λ i. cond {A = Option Node} (d i) None (option_map_or (source_at trees) c.source (alone (blank c.kind)) r)) ∙ elim c.source as (λ (o : Option Source). (o ≡ None → c.kind ≡ Some (kind file)) → option_map_or (source_at trees) o (alone (blank c.kind)) r ≡ option_map_or (source_at trees) o (alone (blank (Some (kind file)))) r) [
      | None ↦ λ h. ap (λ z. alone (blank z) r) (h refl)
      | Some s ↦ λ h. refl
    ] k

    at : (r : Path) → option_map (λ x. cond (same_path r []) (with_given c.text c.props x) x) (added trees (kind file) c.source r) ≡ arrives trees c r
    at r =
        elim (content r) as (λ (o : Option Node). option_map (λ x. cond (same_path r []) (with_given c.text c.props x) x) (option_map (λ x. cond (same_path r []) (with_number (length trees) x) x) o) ≡ option_map (λ x. cond (same_path r []) (with_number (length trees) (with_given c.text c.props x)) x) o) [
          | None ↦ refl
          | Some x ↦ ap Some (elim (same_path r []) as (λ b. cond b (with_given c.text c.props (cond b (with_number (length trees) x) x)) (cond b (with_number (length trees) x) x) ≡ cond b (with_number (length trees) (with_given c.text c.props x)) x) [ true ↦ refl | false ↦ refl ])
        ]
        ∙ ap (option_map (λ x. cond (same_path r []) (with_number (length trees) (with_given c.text c.props x)) x)) (sym (same r))

pub opened-parted : (trees : List PathMap) (f : Nodes) (file : Bool) (c : Change) → is_delete c.action ≡ false → (settles c.action ≡ true → SaysKind file c) → ◌≡◌ {A = Nodes} (changed_at (opened trees f file c) c.path (with_given c.text c.props)) (stepped trees f c)
opened-parted trees f file c d k =
    (λ i. changed_at (cond {A = Nodes} (d i) (grafted (marked f c.path (length trees)) c.path (λ _. None)) (cond {A = Nodes} (settles c.action) (grafted (marked f c.path (length trees)) c.path (added trees (kind file) c.source)) (marked f c.path (length trees)))) c.path (with_given c.text c.props))
    ∙ elim (settles c.action) as (λ b. (b ≡ true → SaysKind file c) → ◌≡◌ {A = Nodes} (changed_at (cond {A = Nodes} b (grafted (marked f c.path (length trees)) c.path (added trees (kind file) c.source)) (marked f c.path (length trees))) c.path (with_given c.text c.props)) (cond {A = Nodes} b (grafted (marked f c.path (length trees)) c.path (arrives trees c)) (changed_at (marked f c.path (length trees)) c.path (with_given c.text c.props)))) [
      | true ↦ λ h. changed-grafted (marked f c.path (length trees)) c.path (added trees (kind file) c.source) (with_given c.text c.props) ∙ ap (grafted (marked f c.path (length trees)) c.path) (arrives-is trees file c d (h refl))
      | false ↦ λ h. refl
    ] k

-- the calls of one change below the root that isn't a deletion, after those that lead there
pub called-stays : (trees : List PathMap) (f : Nodes) (at : Path) (file : Bool) (old : PropMap) (c : Change) → is_front c.path [] ≡ false → is_delete c.action ≡ false → (settles c.action ≡ true → SaysKind file c) → (file ≡ false → c.text ≡ None) → HasProps (opened trees f file c) c.path old
    → ◌≡◌ {A = Nodes} (all_called trees f (closes at c.path ++ (opens trees at c.path ++ calls_with trees file old c))) (stepped trees f c)
called-stays trees f at file old c below d k t props =
    ap (λ l. all_called trees f (closes at c.path ++ (opens trees at c.path ++ l))) (calls_with-stays trees c file old below d)
    ∙ all_called-append trees f (closes at c.path) (opens trees at c.path ++ (opening trees file c ++ parts file c old))
    ∙ all_called-append trees (all_called trees f (closes at c.path)) (opens trees at c.path) (opening trees file c ++ parts file c old)
    ∙ all_called-append trees (all_called trees (all_called trees f (closes at c.path)) (opens trees at c.path)) (opening trees file c) (parts file c old)
    ∙ ap (λ h. all_called trees h (parts file c old)) (called-opening trees f (all_called trees (all_called trees f (closes at c.path)) (opens trees at c.path)) file c (marked-way trees f at c.path))
    ∙ given-parts trees (opened trees f file c) file c old props t
    ∙ opened-parted trees f file c d k

-- a deletion
pub called-delete : (trees : List PathMap) (f : Nodes) (at : Path) (file : Bool) (old : PropMap) (c : Change) → is_front c.path [] ≡ false → c.action ≡ Delete
    → ◌≡◌ {A = Nodes} (all_called trees f (closes at c.path ++ (opens trees at c.path ++ calls_with trees file old c))) (stepped trees f c)
called-delete trees f at file old c below d =
    (λ i. all_called trees f (closes at c.path ++ (opens trees at c.path ++ (cond (below i) [] (opening trees file c) ++ cond (is_delete (d i)) [] (parts file c old)))))
    ∙ ap (λ l. all_called trees f (closes at c.path ++ (opens trees at c.path ++ l))) (append-nil (opening trees file c))
    ∙ all_called-append trees f (closes at c.path) (opens trees at c.path ++ opening trees file c)
    ∙ all_called-append trees (all_called trees f (closes at c.path)) (opens trees at c.path) (opening trees file c)
    ∙ called-opening trees f (all_called trees (all_called trees f (closes at c.path)) (opens trees at c.path)) file c (marked-way trees f at c.path)
    ∙ (λ i. cond {A = Nodes} (is_delete (d i)) (grafted (marked f c.path (length trees)) c.path (λ _. None)) (cond {A = Nodes} (settles (d i)) (grafted (marked f c.path (length trees)) c.path (added trees (kind file) c.source)) (marked f c.path (length trees))))
    ∙ (λ i. grafted (marked f c.path (length trees)) c.path (λ r. gone i r))
    ∙ (λ i. cond {A = Nodes} (settles (sym d i)) (grafted (marked f c.path (length trees)) c.path (arrives trees c)) (changed_at (marked f c.path (length trees)) c.path (with_given c.text c.props)))
  where
    gone : ◌≡◌ {A = Nodes} (λ _. None) (arrives trees c)
    gone = λ i r. option_map (λ x. cond (same_path r []) (with_number (length trees) (with_given c.text c.props x)) x) (cond {A = Option Node} (is_delete (sym d i)) None (option_map_or (source_at trees) c.source (alone (blank c.kind)) r))

-- ---- a change without a fault

-- what a change says where it has no fault, f being what the changes before it left
pub record IsPlain (trees : List PathMap) (f : Nodes) (c : Change) : Type 0 where
  pub kind : brings c ≡ true → SaysKind (of_file trees f c) c
  pub text : of_file trees f c ≡ false → c.text ≡ None
  pub props : is_delete c.action ≡ false → HasProps (opened trees f (of_file trees f c) c) c.path (old_props trees f c)
  pub root : (same_path c.path [] && settles c.action) ≡ false

-- the kind that counts is known
pub record Known (trees : List PathMap) (f : Nodes) (c : Change) : Type 0 where
  pub kind : NodeKind
  pub is : judged trees f c ≡ Some kind

there : {A : Type 0} (o : Option A) → fault_if (not (is_some o)) NoSuchPath ≡ None → is_some o ≡ true
there None e = cc
there (Some x) e = refl

described : (k : Option NodeKind) (p t : Bool) → is_described k p t ≡ true → is_some k ≡ true
described None p t e = cc
described (Some k) p t e = refl

mapped : (o : Option Node) → is_some o ≡ true → is_some (option_map kind_of o) ≡ true
mapped None e = cc
mapped (Some x) e = refl

known_some : (trees : List PathMap) (f : Nodes) (c : Change) (o : Option NodeKind) → judged trees f c ≡ o → is_some o ≡ true → Known trees f c
known_some trees f c None e h = absurd (not_true h)
  where
    not_true : false ≡ true → ⊥
    not_true h = cc
known_some trees f c (Some k) e h = record { kind = k; is = e }

found_source : (o : Option Node) → is_none o ≡ false → is_some o ≡ true
found_source None e = cc
found_source (Some x) e = refl

pub judged_brings : (trees : List PathMap) (f : Nodes) (c : Change) → brings c ≡ true → judged trees f c ≡ option_map_or (λ s. option_map kind_of (source_at trees s [])) c.source c.kind
judged_brings trees f c b = ap (λ z. cond z (option_map_or (λ s. option_map kind_of (source_at trees s [])) c.source c.kind) (option_map kind_of (f c.path))) b

pub judged_stays : (trees : List PathMap) (f : Nodes) (c : Change) → brings c ≡ false → judged trees f c ≡ option_map kind_of (f c.path)
judged_stays trees f c b = ap (λ z. cond z (option_map_or (λ s. option_map kind_of (source_at trees s [])) c.source c.kind) (option_map kind_of (f c.path))) b

known : (trees : List PathMap) (f : Nodes) (c : Change) → fault_of trees f c ≡ None → IsWhole c → Known trees f c
known trees f c none whole = by c.action refl
  where
    ok : Faultless trees f c
    ok = faultless trees f c none

    stays : (a : Action) → c.action ≡ a → (settles a && not (is_delete a)) ≡ false → place_fault a (is_some (f c.path)) ≡ fault_if (not (is_some (f c.path))) NoSuchPath → Known trees f c
    stays a e b p = known_some trees f c (option_map kind_of (f c.path)) (judged_stays trees f c (ap (λ a. settles a && not (is_delete a)) e ∙ b)) (mapped (f c.path) (there (f c.path) (sym p ∙ ap (λ a. place_fault a (is_some (f c.path))) (sym e) ∙ ok.place)))

    from : brings c ≡ true → (o : Option Source) → c.source ≡ o → Known trees f c
    from b None e = known_some trees f c c.kind (judged_brings trees f c b ∙ ap (λ o. option_map_or (λ s. option_map kind_of (source_at trees s [])) o c.kind) e) (described c.kind (is_some c.props) (is_some c.text) (whole.0 ((λ i. b i && is_none (e i)))))
    from b (Some s) e = known_some trees f c (option_map kind_of (source_at trees s [])) (judged_brings trees f c b ∙ ap (λ o. option_map_or (λ s. option_map kind_of (source_at trees s [])) o c.kind) e) (mapped (source_at trees s []) (found_source (source_at trees s []) (ap (λ o. option_map_or (λ s. is_none (source_at trees s [])) o false) (sym e) ∙ ok.source)))

    by : (a : Action) → c.action ≡ a → Known trees f c
    by Modify e = stays Modify e refl refl
    by Delete e = stays Delete e refl refl
    by Add e = from (ap (λ a. settles a && not (is_delete a)) e) c.source refl
    by Replace e = from (ap (λ a. settles a && not (is_delete a)) e) c.source refl

kind_back : (k : NodeKind) → kind (is_file k) ≡ k
kind_back File = refl
kind_back Dir = refl

no_text : (differs : Bool) (t : Option (List ℕ)) (file : Bool) → file ≡ false → (differs || (is_some t && not file)) ≡ false → t ≡ None
no_text true t file e h = cc
no_text false None file e h = refl
no_text false (Some t) file e h = cc

itself : (p : Path) → rest_after p p ≡ Some []
itself p = ap (rest_after p) (sym (append-nil p)) ∙ rest_after-append p []

blank_props : (k : NodeKind) → (blank (Some k)).props ≡ finite.empty
blank_props File = refl
blank_props Dir = refl

-- a node of which another has the properties
same_props : (o : Option Node) (g : Node → Node) → ((x : Node) → (g x).props ≡ x.props) → (x : Node) → option_map g o ≡ Some x → x.props ≡ option_map_or (λ x. x.props) o finite.empty
same_props None g h x e = cc
same_props (Some y) g h x e = ap (λ (o : Option Node). option_map_or (λ x. x.props) o finite.empty) (sym e) ∙ h y

numbered_props : (n : ℕ) (b : Bool) (x : Node) → (cond b (with_number n x) x).props ≡ x.props
numbered_props n true x = refl
numbered_props n false x = refl

has_props : (trees : List PathMap) (f : Nodes) (file : Bool) (c : Change) → is_delete c.action ≡ false → HasProps (opened trees f file c) c.path (old_props trees f c)
has_props trees f file c d x e = by (settles c.action) refl
  where
    n : ℕ
    n = length trees

    is_opened : opened trees f file c ≡ cond {A = Nodes} (settles c.action) (grafted (marked f c.path n) c.path (added trees (kind file) c.source)) (marked f c.path n)
    is_opened = ap (λ b. cond {A = Nodes} b (grafted (marked f c.path n) c.path (λ _. None)) (cond {A = Nodes} (settles c.action) (grafted (marked f c.path n) c.path (added trees (kind file) c.source)) (marked f c.path n))) d

    old_is : (b : Bool) → settles c.action ≡ b → old_props trees f c ≡ option_map_or (λ x. x.props) (cond b (option_and_then (λ s. source_at trees s []) c.source) (f c.path)) finite.empty
    old_is b s = (λ i. option_map_or (λ x. x.props) (cond (both i) (option_and_then (λ s. source_at trees s []) c.source) (f c.path)) finite.empty)
      where
        and_true : (b : Bool) → (b && true) ≡ b
        and_true true = refl
        and_true false = refl

        both : (settles c.action && not (is_delete c.action)) ≡ b
        both = (λ i. s i && not (d i)) ∙ and_true b

    from : (o : Option Source) → (x : Node) → added trees (kind file) o [] ≡ Some x → x.props ≡ option_map_or (λ x. x.props) (option_and_then (λ s. source_at trees s []) o) finite.empty
    from None x e = ap (λ (o : Option Node). option_map_or (λ x. x.props) o finite.empty) (sym e) ∙ blank_props (kind file)
    from (Some s) x e = same_props (source_at trees s []) (with_number n) (λ x. refl) x e

    by : (b : Bool) → settles c.action ≡ b → x.props ≡ old_props trees f c
    by true s = from c.source x (sym (ap (λ (o : Option Path). option_map_or (added trees (kind file) c.source) o (marked f c.path n c.path)) (itself c.path)) ∙ sym (ap (λ (h : Nodes). h c.path) (is_opened ∙ ap (λ b. cond {A = Nodes} b (grafted (marked f c.path n) c.path (added trees (kind file) c.source)) (marked f c.path n)) s)) ∙ e) ∙ sym (old_is true s)
    by false s = same_props (f c.path) (λ x. cond (is_front c.path c.path) (with_number n x) x) (numbered_props n (is_front c.path c.path)) x (sym (ap (λ (h : Nodes). h c.path) (is_opened ∙ ap (λ b. cond {A = Nodes} b (grafted (marked f c.path n) c.path (added trees (kind file) c.source)) (marked f c.path n)) s)) ∙ e) ∙ sym (old_is false s)

pub plain : (trees : List PathMap) (f : Nodes) (c : Change) → fault_of trees f c ≡ None → IsWhole c → IsPlain trees f c
plain trees f c none whole =
    record {
      kind = λ b s. sym (judged_brings trees f c b ∙ ap (λ o. option_map_or (λ s. option_map kind_of (source_at trees s [])) o c.kind) s) ∙ k.is ∙ ap Some (sym (kind_back k.kind) ∙ ap kind (sym of_known));
      text = λ file. no_text (not (option_map_or (λ g. same_kind g k.kind) c.kind true)) c.text (is_file k.kind) (sym of_known ∙ file) (ap (λ o. option_map_or (mismatches c.kind (is_some c.text)) o false) (sym k.is) ∙ ok.kind);
      props = has_props trees f (of_file trees f c) c;
      root = ok.root;
    }
  where
    ok : Faultless trees f c
    ok = faultless trees f c none

    k : Known trees f c
    k = known trees f c none whole

    of_known : of_file trees f c ≡ is_file k.kind
    of_known = ap (λ o. option_map_or is_file o false) k.is

-- the kind that counts
pub judged_kind : (trees : List PathMap) (f : Nodes) (c : Change) → fault_of trees f c ≡ None → IsWhole c → judged trees f c ≡ Some (kind (of_file trees f c))
judged_kind trees f c none whole = let k = known trees f c none whole in k.is ∙ ap Some (sym (kind_back k.kind) ∙ ap kind (sym (ap (λ o. option_map_or is_file o false) k.is)))

-- ---- the change of the root

mapped_same : (o : Option Node) → option_map (λ x. x) o ≡ o
mapped_same None = refl
mapped_same (Some x) = refl

-- the root has its number already
pub marked-root : (trees : List PathMap) (done : List Change) → ◌≡◌ {A = Nodes} (effect trees done) (marked (effect trees done) [] (length trees))
marked-root trees done = λ i q. at q i
  where
    twice : (o : Option Node) (g : Node → Node) → option_map (λ x. with_number (length trees) (g x)) o ≡ option_map (with_number (length trees)) (option_map (λ x. with_number (length trees) (g x)) o)
    twice None g = refl
    twice (Some x) g = refl

    at : (q : Path) → effect trees done q ≡ marked (effect trees done) [] (length trees) q
    at [] = twice (laid trees done []) (parted (change_at done []))
    at (n ∷ q) = sym (mapped_same (effect trees done (n ∷ q)))

pub called-root : (trees : List PathMap) (f : Nodes) (c : Change) → IsPlain trees f c → c.path ≡ [] → ◌≡◌ {A = Nodes} f (marked f [] (length trees))
    → ◌≡◌ {A = Nodes} (all_called trees f (closes [] c.path ++ (opens trees [] c.path ++ change_calls trees f c))) (stepped trees f c)
called-root trees f c p e m =
    (λ i. all_called trees f (closes [] (e i) ++ (opens trees [] (e i) ++ (cond (is_front (e i) []) [] (opening trees file c) ++ cond (stays i) [] (parts file c old)))))
    ∙ given-parts trees f file c old has p.text
    ∙ (λ i. changed_at (m i) c.path (with_given c.text c.props))
    ∙ (λ i. changed_at (marked f (sym e i) (length trees)) c.path (with_given c.text c.props))
    ∙ (λ i. cond {A = Nodes} (sym settled i) (grafted (marked f c.path (length trees)) c.path (arrives trees c)) (changed_at (marked f c.path (length trees)) c.path (with_given c.text c.props)))
  where
    file : Bool
    file = of_file trees f c

    old : PropMap
    old = old_props trees f c

    settled : settles c.action ≡ false
    settled = ap (λ p. same_path p [] && settles c.action) (sym e) ∙ p.root

    no_delete : (a : Action) → settles a ≡ false → is_delete a ≡ false
    no_delete Modify h = refl
    no_delete Add h = cc
    no_delete Delete h = cc
    no_delete Replace h = refl

    stays : is_delete c.action ≡ false
    stays = no_delete c.action settled

    has : HasProps f c.path old
    has x g = ap (λ (o : Option Node). option_map_or (λ x. x.props) o finite.empty) (sym g) ∙ sym (ap (λ b. option_map_or (λ x. x.props) (cond b (option_and_then (λ s. source_at trees s []) c.source) (f c.path)) finite.empty) (ap (λ b. b && not (is_delete c.action)) settled))

-- ---- all changes

pub called-change : (trees : List PathMap) (f : Nodes) (at : Path) (c : Change) → IsPlain trees f c → is_front c.path [] ≡ false
    → ◌≡◌ {A = Nodes} (all_called trees f (closes at c.path ++ (opens trees at c.path ++ change_calls trees f c))) (stepped trees f c)
called-change trees f at c p below = by c.action refl
  where
    file : Bool
    file = of_file trees f c

    none_settles : settles Modify ≡ true → SaysKind file c
    none_settles h = cc

    by : (a : Action) → c.action ≡ a → ◌≡◌ {A = Nodes} (all_called trees f (closes at c.path ++ (opens trees at c.path ++ change_calls trees f c))) (stepped trees f c)
    by Modify e = called-stays trees f at file (old_props trees f c) c below (ap is_delete e) (λ s. none_settles (ap settles (sym e) ∙ s)) p.text (p.props (ap is_delete e))
    by Add e = called-stays trees f at file (old_props trees f c) c below (ap is_delete e) (λ s. p.kind (ap (λ a. settles a && not (is_delete a)) e)) p.text (p.props (ap is_delete e))
    by Replace e = called-stays trees f at file (old_props trees f c) c below (ap is_delete e) (λ s. p.kind (ap (λ a. settles a && not (is_delete a)) e)) p.text (p.props (ap is_delete e))
    by Delete e = called-delete trees f at file (old_props trees f c) c below e

pub none_first : {A : Type 0} (a b : Option A) → option_or a b ≡ None → a ≡ None
none_first None b e = refl
none_first (Some x) b e = cc

pub none_rest : {A : Type 0} (a b : Option A) → option_or a b ≡ None → b ≡ None
none_rest None b e = e
none_rest (Some x) b e = cc

never_root : (p : Path) → path_cmp p [] ≡ Less → ⊥
never_root [] e = cc
never_root (n ∷ p) e = cc

-- a change is one of the root only where the root alone is open, and no later one is
abbrev pub StartsAt : Path → List Change → Type 0
StartsAt at [] = Unit {0}
StartsAt at (c ∷ s) = (c.path ≡ [] → at ≡ []) × AllByRecursion (λ d. d.path ≡ [] → ⊥) s

starts_on : (at : Path) (s : List Change) → AllByRecursion (λ d. d.path ≡ [] → ⊥) s → StartsAt at s
starts_on at [] h = tt
starts_on at (d ∷ s) h = (λ e. absurd (h.0 e), h.1)

starts_normal : (s : List Change) → IsNormal s → StartsAt [] s
starts_normal [] h = tt
starts_normal (c ∷ s) h = (λ e. refl, all_map s (λ d p e. never_root c.path (ap (path_cmp c.path) (sym e) ∙ p.rises)) h.1)

-- the changes that follow those done
pub called-walk : (trees : List PathMap) (done s : List Change) (at : Path) → IsNormal (done ++ s) → fault_after trees done s ≡ None → StartsAt at s
    → ◌≡◌ {A = Nodes} (all_called trees (effect trees done) (walk trees done at s)) (effect trees (done ++ s))
called-walk trees done [] at normal none starts = called-closes trees (effect trees done) (reverse (filter (λ d. not (is_front d [])) (fronts at))) ∙ ap (effect trees) (sym (append-nil done))
called-walk trees done (c ∷ s) at normal none starts =
    all_called-append trees f (closes at c.path ++ (opens trees at c.path ++ change_calls trees f c)) (walk trees (done ++ c ∷ []) (rests_at trees f c) s)
    ∙ ap (λ h. all_called trees h (walk trees (done ++ c ∷ []) (rests_at trees f c) s)) (one c.path at refl starts.0 ∙ (λ i q. sym (effect-end trees done c (normal_follows done s c normal) (deletes_settle c.action) q) i))
    ∙ called-walk trees (done ++ c ∷ []) s (rests_at trees f c) (subst IsNormal (sym (append_assoc done (c ∷ []) s)) normal) (none_rest (fault_of trees f c) (fault_after trees (done ++ c ∷ []) s) none) (starts_on (rests_at trees f c) s starts.1)
    ∙ ap (effect trees) (append_assoc done (c ∷ []) s)
  where
    f : Nodes
    f = effect trees done

    p : IsPlain trees f c
    p = plain trees f c (none_first (fault_of trees f c) (fault_after trees (done ++ c ∷ []) s) none) (whole_in done s c normal)

    one : (q w : Path) → c.path ≡ q → (q ≡ [] → w ≡ []) → ◌≡◌ {A = Nodes} (all_called trees f (closes w c.path ++ (opens trees w c.path ++ change_calls trees f c))) (stepped trees f c)
    one [] w e h = subst (λ w. ◌≡◌ {A = Nodes} (all_called trees f (closes w c.path ++ (opens trees w c.path ++ change_calls trees f c))) (stepped trees f c)) (sym (h refl)) (called-root trees f c p e (marked-root trees done))
    one (n ∷ q) w e h = called-change trees f w c p (ap (λ z. is_front z []) e)

-- the calls that show a set have its effect
pub called-drive : (trees : List PathMap) (s : List Change) → IsNormal s → fault trees s ≡ None → ◌≡◌ {A = Nodes} (call_effect trees (drive trees s)) (effect trees s)
called-drive trees s normal none =
    all_called-append trees (marked (base trees) [] (length trees)) (walk trees [] [] s) (call.CloseDir [] ∷ call.CloseEdit ∷ [])
    ∙ ap (λ h. all_called trees h (walk trees [] [] s)) (λ i q. sym (effect_none trees q) i)
    ∙ called-walk trees [] s [] normal none (starts_normal s normal)
