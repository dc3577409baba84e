-- What an opening, an add or a deletion has to find so that an editor that builds doesn't refuse it.
use Rattle.std.proofs.Common.{◌≡◌, ℕ, Bool, true, false, cond, not, ◌&&◌, ◌||◌, List, [], ◌∷◌, ◌++◌, map, Option, Some, None, is_some, refl, sym, ap, subst, ◌∙◌, append_assoc, append-nil}
use Rattle.std.specs.Prelude.{IfSome, is_none}
use Rattle.std.specs.Option.{option_map, option_map_or, option_or}
use Rattle.std.specs.List.{AllByRecursion, list_any}
use Rattle.node_base.specs.Path.{Path, same_path, is_front, rest_after}
use Rattle.node_base.proofs.PathLemmas.{same_name_itself}
use Rattle.node_base.specs.Tree.{PathMap, with_number, marked, blocked, kind_of, source_at}
use Rattle.node_base.specs.declared.node.Node.{Node}
use Rattle.node_base.specs.declared.node.NodeKind.{NodeKind}
use Rattle.node_base.specs.declared.node.NodeKind.TheVariants.{File, Dir}
use Rattle.node_base.specs.declared.node.Action.TheVariants.{Modify, Add, Delete}
use Rattle.node_base.specs.declared.node.Source.{Source}
use Rattle.node_base.specs.declared.fault.TreeFault.{TreeFault}
use Rattle.node_base.specs.declared.fault.TreeFault.TheVariants.{TooLong, BadPath, NoSuchPath, PathThere, NotDir, NoSource, KindMismatch}
use Rattle.dump_load.specs.declared.change.Change.{Change}
use Rattle.dump_load.specs.Changes.{settles}
use Rattle.dump_load.specs.Faults.{fault_if, first_of, fault_of, is_file, judged, mismatches, copies_too_long}
use Rattle.dump_load.proofs.Faultless.{Faultless}
use Rattle.delta_editor.specs.declared.call.Call.{Call}
use Rattle.delta_editor.specs.declared.call.Call.TheVariants as call
use Rattle.delta_editor.specs.CallEffect.{call_effect}
use Rattle.delta_editor.specs.Faults.{refused}
use Rattle.delta_editor.specs.Laws.{touched}
use Rattle.delta_editor.specs.declared.fault.EditorFault.TheVariants as refusal
use Rattle.editor_ends.specs.BuildFaults.{is_below, takes, acts_below, begun, begin_fault, is_late, beginning, call_fault, refusal_after}
use Rattle.editor_ends.proofs.CallEffects.{none_first, none_rest}
use Rattle.editor_ends.proofs.Filled.{Nodes}

-- ---- calls of which none is refused

abbrev pub Free : List PathMap → List Call → List Call → Type 0
Free trees done cs = refusal_after trees done cs ≡ None

pub free_one : (trees : List PathMap) (done : List Call) (c : Call) (cs : List Call) → call_fault trees done c ≡ None → Free trees (done ++ c ∷ []) cs → Free trees done (c ∷ cs)
free_one trees done c cs a b = λ i. option_or (a i) (b i)

pub free_both : (trees : List PathMap) (done xs ys : List Call) → Free trees done xs → Free trees (done ++ xs) ys → Free trees done (xs ++ ys)
free_both trees done [] ys a b = subst (λ ds. Free trees ds ys) (append-nil done) b
free_both trees done (x ∷ xs) ys a b =
    free_one trees done x (xs ++ ys) (none_first (call_fault trees done x) (refusal_after trees (done ++ x ∷ []) xs) a)
    (free_both trees (done ++ x ∷ []) xs ys (none_rest (call_fault trees done x) (refusal_after trees (done ++ x ∷ []) xs) a) (subst (λ ds. Free trees ds ys) (sym (append_assoc done (x ∷ []) xs)) b))

-- closing is never refused
pub closes_free : (trees : List PathMap) (done : List Call) (ps : List Path) → Free trees done (map call.CloseDir ps)
closes_free trees done [] = refl
closes_free trees done (p ∷ ps) = closes_free trees (done ++ call.CloseDir p ∷ []) ps

-- ---- paths that calls open, add or delete

abbrev pub Touches : (Path → Type 0) → List Call → Type 0
Touches P cs = AllByRecursion (λ c. IfSome (touched c) P) cs

pub touches_both : (P : Path → Type 0) (xs ys : List Call) → Touches P xs → Touches P ys → Touches P (xs ++ ys)
touches_both P [] ys h k = k
touches_both P (x ∷ xs) ys h k = (h.0, touches_both P xs ys h.1 k)

pub touches_map : {P Q : Path → Type 0} (cs : List Call) → ((q : Path) → P q → Q q) → Touches P cs → Touches Q cs
touches_map [] k h = tt
touches_map {P} {Q} (c ∷ cs) k h = (at (touched c) h.0, touches_map cs k h.1)
  where
    at : (o : Option Path) → IfSome o P → IfSome o Q
    at None h = tt
    at (Some q) h = k q h

pub none_takes : (p : Path) (cs : List Call) → Touches (λ q. same_path q p ≡ false) cs → list_any (takes p) cs ≡ false
none_takes p [] h = refl
none_takes p (c ∷ cs) h = λ i. one c h.0 i || none_takes p cs h.1 i
  where
    one : (c : Call) → IfSome (touched c) (λ q. same_path q p ≡ false) → takes p c ≡ false
    one (call.Target n) h = refl
    one (call.OpenRoot b) h = h
    one (call.AddDir up q from) h = h
    one (call.OpenDir up q b) h = h
    one (call.DeleteEntry up q b) h = refl
    one (call.AddFile up q from) h = h
    one (call.OpenFile up q b) h = h
    one (call.DirProp q name value) h = refl
    one (call.FileProp q name value) h = refl
    one (call.TextStart q) h = refl
    one (call.TextPiece q piece) h = refl
    one (call.TextEnd q) h = refl
    one (call.CloseFile q sum) h = refl
    one (call.CloseDir q) h = refl
    one call.CloseEdit h = refl

pub none_below : (p : Path) (cs : List Call) → Touches (λ q. is_below p q ≡ false) cs → list_any (acts_below p) cs ≡ false
none_below p [] h = refl
none_below p (c ∷ cs) h = λ i. at (touched c) h.0 i || none_below p cs h.1 i
  where
    at : (o : Option Path) → IfSome o (λ q. is_below p q ≡ false) → option_map_or (is_below p) o false ≡ false
    at None h = refl
    at (Some q) h = h

-- ---- kinds

abbrev pub kinds : Nodes → Path → Option NodeKind
kinds f q = option_map kind_of (f q)

pub file_kind : (x : Node) → is_file (kind_of x) ≡ is_some x.text
file_kind x = elim (is_some x.text) as (λ b. is_file (cond b File Dir) ≡ b) [ true ↦ refl | false ↦ refl ]

pub some_kind : (o : Option Node) → is_some (option_map kind_of o) ≡ is_some o
some_kind None = refl
some_kind (Some x) = refl

pub kinds_marked : (f : Nodes) (p : Path) (n : ℕ) (q : Path) → kinds (marked f p n) q ≡ kinds f q
kinds_marked f p n q = elim (f q) as (λ (o : Option Node). option_map kind_of (option_map (λ x. cond (is_front q p) (with_number n x) x) o) ≡ option_map kind_of o) [
  | None ↦ refl
  | Some x ↦ ap Some (elim (is_front q p) as (λ b. kind_of (cond b (with_number n x) x) ≡ kind_of x) [ true ↦ refl | false ↦ refl ])
]

-- what blocks a path is a matter of the kinds above it
pub blocked_alike : (f g : Nodes) (p : Path) → ((q : Path) → rest_after p q ≡ None → kinds f q ≡ kinds g q) → blocked f p ≡ blocked g p
blocked_alike f g [] h = refl
blocked_alike f g (n ∷ p) h = at (f []) (g []) (h [] refl) (blocked_alike (λ q. f (n ∷ q)) (λ q. g (n ∷ q)) p (λ q e. h (n ∷ q) (ap (λ b. cond {A = Option Path} b (rest_after p q) None) (same_name_itself n) ∙ e)))
  where
    at : (a b : Option Node) → option_map kind_of a ≡ option_map kind_of b → blocked (λ q. f (n ∷ q)) p ≡ blocked (λ q. g (n ∷ q)) p → option_map_or (λ x. cond (is_some x.text) (Some NotDir) (blocked (λ q. f (n ∷ q)) p)) a (Some NoSuchPath) ≡ option_map_or (λ x. cond (is_some x.text) (Some NotDir) (blocked (λ q. g (n ∷ q)) p)) b (Some NoSuchPath)
    at None None e rest = refl
    at None (Some y) e rest = cc
    at (Some x) None e rest = cc
    at (Some x) (Some y) e rest = λ i. cond ((sym (file_kind x) ∙ ap (λ o. option_map_or is_file o false) e ∙ file_kind y) i) (Some NotDir) (rest i)

-- what is above a path that isn't blocked is a directory, and isn't blocked
pub record AboveIt (g : Nodes) (d : Path) : Type 0 where
  pub free : blocked g d ≡ None
  pub dir : kinds g d ≡ Some Dir

pub above_it : (g : Nodes) (d : Path) (n : _) (r : Path) → blocked g (d ++ n ∷ r) ≡ None → AboveIt g d
above_it g [] n r e = record { free = refl; dir = at (g []) e }
  where
    kind : (b : Bool) (o : Option TreeFault) → cond b (Some NotDir) o ≡ None → cond b File Dir ≡ Dir
    kind true o h = cc
    kind false o h = refl

    at : (o : Option Node) → option_map_or (λ x. cond (is_some x.text) (Some NotDir) (blocked (λ q. g (n ∷ q)) r)) o (Some NoSuchPath) ≡ None → option_map kind_of o ≡ Some Dir
    at None h = cc
    at (Some x) h = ap Some (kind (is_some x.text) (blocked (λ q. g (n ∷ q)) r) h)
above_it g (m ∷ d) n r e = at (g []) refl e (above_it (λ q. g (m ∷ q)) d n r)
  where
    k : Nodes
    k q = g (m ∷ q)

    at : (o : Option Node) → g [] ≡ o → option_map_or (λ x. cond (is_some x.text) (Some NotDir) (blocked k (d ++ n ∷ r))) o (Some NoSuchPath) ≡ None → (blocked k (d ++ n ∷ r) ≡ None → AboveIt k d) → AboveIt g (m ∷ d)
    at None s h deeper = cc
    at (Some x) s h deeper = by (is_some x.text) refl h
      where
        by : (b : Bool) → is_some x.text ≡ b → cond b (Some NotDir) (blocked k (d ++ n ∷ r)) ≡ None → AboveIt g (m ∷ d)
        by true t h = cc
        by false t h =
            let up = deeper h in
            record {
              free = ap (λ (o : Option Node). option_map_or (λ x. cond (is_some x.text) (Some NotDir) (blocked k d)) o (Some NoSuchPath)) s ∙ ap (λ b. cond b (Some NotDir) (blocked k d)) t ∙ up.free;
              dir = up.dir;
            }

-- ---- changes that a call begins

pub unfaulted : (trees : List PathMap) (f : Nodes) (c : Change) → Faultless trees f c → fault_of trees f c ≡ None
unfaulted trees f c h = λ i. first_of (fault_if (h.root i) BadPath ∷ h.free i ∷ h.place i ∷ fault_if (h.source i) NoSource ∷ fault_if (h.kind i) KindMismatch ∷ fault_if (h.copy i) TooLong ∷ [])

begins_free : (trees : List PathMap) (f : Nodes) (late : Bool) (x : Change) → (same_path x.path [] && settles x.action) ≡ false → late ≡ false → fault_of trees f x ≡ None → begin_fault trees f late x ≡ None
begins_free trees f late x r l n = λ i. first_of (fault_if (r i) refusal.BadPath ∷ fault_if (l i) refusal.OutOfOrder ∷ option_map refused (n i) ∷ [])

and_no : (b : Bool) → (b && false) ≡ false
and_no true = refl
and_no false = refl

-- where a new node comes from
pub record Comes (trees : List PathMap) (p : Path) (source : Option Source) (k : NodeKind) : Type 0 where
  pub kind : option_map_or (λ s. option_map kind_of (source_at trees s [])) source (Some k) ≡ Some k
  pub there : option_map_or (λ s. is_none (source_at trees s [])) source false ≡ false
  pub small : option_map_or (copies_too_long trees p) source false ≡ false

module _ (trees : List PathMap) (done : List Call) (p : Path) (new : list_any (takes p) done ≡ false) (free : blocked (call_effect trees done) p ≡ None) where
  abbrev f : Nodes
  f = call_effect trees done

  -- what is there is opened
  pub may_open : (k : NodeKind) → kinds f p ≡ Some k → beginning trees done (begun Modify (Some k) p None) ≡ None
  may_open k is =
      begins_free trees f (is_late done (begun Modify (Some k) p None)) (begun Modify (Some k) p None) (and_no (same_path p [])) (λ i. new i || false)
      (unfaulted trees f (begun Modify (Some k) p None) (record {
        root = and_no (same_path p []);
        free = free;
        place = ap (λ b. fault_if (not b) NoSuchPath) (sym (some_kind (f p)) ∙ ap is_some is);
        source = refl;
        kind = ap (λ o. option_map_or (mismatches (Some k) false) o false) is ∙ agrees k;
        copy = refl;
      }))
    where
      agrees : (k : NodeKind) → mismatches (Some k) false k ≡ false
      agrees File = refl
      agrees Dir = refl

  module _ (below : same_path p [] ≡ false) where
    -- what is there is deleted
    pub may_delete : list_any (acts_below p) done ≡ false → is_some (f p) ≡ true → beginning trees done (begun Delete None p None) ≡ None
    may_delete none is =
        begins_free trees f (is_late done (begun Delete None p None)) (begun Delete None p None) (λ i. below i && true) (λ i. new i || none i)
        (unfaulted trees f (begun Delete None p None) (record {
          root = (λ i. below i && true);
          free = free;
          place = ap (λ b. fault_if (not b) NoSuchPath) is;
          source = refl;
          kind = any (option_map kind_of (f p));
          copy = refl;
        }))
      where
        any : (o : Option NodeKind) → option_map_or (mismatches None false) o false ≡ false
        any None = refl
        any (Some k) = refl

    -- what isn't there is added
    pub may_add : (k : NodeKind) (source : Option Source) → Comes trees p source k → is_some (f p) ≡ false → beginning trees done (begun Add (Some k) p source) ≡ None
    may_add k source comes is =
        begins_free trees f (is_late done x) x (λ i. below i && true) (λ i. new i || false)
        (unfaulted trees f x (record {
          root = (λ i. below i && true);
          free = free;
          place = ap (λ b. fault_if b PathThere) is;
          source = comes.there;
          kind = agrees k source comes.kind;
          copy = comes.small;
        }))
      where
        x : Change
        x = begun Add (Some k) p source

        agrees : (k : NodeKind) (source : Option Source) → option_map_or (λ s. option_map kind_of (source_at trees s [])) source (Some k) ≡ Some k → option_map_or (mismatches (Some k) (is_some (begun Add (Some k) p source).text)) (judged trees f (begun Add (Some k) p source)) false ≡ false
        agrees File None e = refl
        agrees Dir None e = refl
        agrees File (Some s) e = ap (λ o. option_map_or (mismatches (Some File) false) o false) e
        agrees Dir (Some s) e = ap (λ o. option_map_or (mismatches (Some Dir) false) o false) e
