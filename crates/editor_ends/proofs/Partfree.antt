-- The properties and the text that a change gives are never refused, where they are within the limits.
use Rattle.std.proofs.Common.{◌≡◌, ℕ, ◌+◌, ◌≤◌, Bool, true, false, cond, not, ◌&&◌, ◌||◌, List, [], ◌∷◌, ◌++◌, length, length-append, map, filter, Option, Some, None, is_some, refl, sym, ap, subst, ◌∙◌, arith, nat_lt}
use Rattle.std.proofs.lemmas.Bool.Decides.{nat_tests}
use Rattle.std.specs.Prelude.{IfSome, is_none}
use Rattle.std.specs.Option.{option_map, option_map_or, option_or}
use Rattle.std.specs.List.{AllByRecursion, concat}
use Rattle.std.specs.FinMap.{get, get-entries, get-remove, entries, entries_sorted, contains_key, find}
use Rattle.md5.specs.Md5.{md5}
use Rattle.node_base.specs.Path.{Name, Path, same_name, name_cmp, names_total}
use Rattle.node_base.specs.Entries.{Entries, IsRising}
use Rattle.node_base.specs.Props.{PropMap, IsProps, is_prop_name}
use Rattle.node_base.proofs.PathLemmas.{name_of_same, same_name_itself, same_path_itself, differs_of_no_rest}
use Rattle.node_base.proofs.EntryLemmas.{both_true, find_absent}
use Rattle.node_base.specs.declared.node.Node.{Node}
use Rattle.node_base.specs.Tree.{PathMap, base, blocked, changed_at, kind_of}
use Rattle.node_base.specs.declared.fault.TreeFault.TheVariants.{TooLong, NoSuchPath, KindMismatch}
use Rattle.node_base.specs.declared.limits.TheConstants.{TEXT_BYTES}
use Rattle.path_tree.specs.Calls.{fault_if}
use Rattle.path_tree.specs.NodeCalls.{is_one_too_many, is_too_long_with}
use Rattle.dump_load.specs.declared.change.Change.{Change}
use Rattle.dump_load.specs.Faults as load
use Rattle.delta_editor.specs.declared.call.Call.{Call}
use Rattle.delta_editor.specs.declared.call.Call.TheVariants as call
use Rattle.delta_editor.specs.CallEffect.{called, call_effect, with_prop, with_text, with_piece}
use Rattle.delta_editor.specs.Faults.{refused}
use Rattle.delta_editor.specs.declared.fault.EditorFault.TheVariants as refusal
use Rattle.delta_editor.proofs.CallLemmas.{all_called-append}
use Rattle.editor_ends.specs.Parts.{removals, settings, prop_calls, pieces, text_calls, parts}
use Rattle.editor_ends.specs.BuildFaults.{put_fault, call_fault}
use Rattle.dump_load.specs.Bounds.{IsWithin}
use Rattle.editor_ends.proofs.Filled.{Nodes, or_no, or_yes}
use Rattle.editor_ends.proofs.Fitting.{Among, inserted_among, fits_with_one}
use Rattle.editor_ends.proofs.Faultfree.{Free, free_one, free_both, blocked_alike}
use Rattle.editor_ends.proofs.Given.{pieces_are}

-- ---- the node that a call is about

-- after some calls this node is at the path, and nothing blocks it
pub record Stands (trees : List PathMap) (done : List Call) (p : Path) (x : Node) : Type 0 where
  pub at : call_effect trees done p ≡ Some x
  pub free : blocked (call_effect trees done) p ≡ None

-- a call that changes the node
pub record Changes (c : Call) (p : Path) (g : Node → Node) : Type 0 where
  pub is : (trees : List PathMap) (f : Nodes) (q : Path) → called trees f c q ≡ changed_at f p g q

pub stands_next : (trees : List PathMap) (done : List Call) (p : Path) (x : Node) (c : Call) (g : Node → Node) → Changes c p g → Stands trees done p x → Stands trees (done ++ c ∷ []) p (g x)
stands_next trees done p x c g k h =
    record {
      at = now p ∙ (λ i. option_map (λ y. cond (same_path_itself p i) (g y) y) (h.at i));
      free = blocked_alike (call_effect trees (done ++ c ∷ [])) (call_effect trees done) p (λ q e. ap (option_map kind_of) (now q) ∙ (λ i. option_map kind_of (option_map (λ y. cond (differs_of_no_rest p q e i) (g y) y) (call_effect trees done q))) ∙ kept (call_effect trees done q)) ∙ h.free;
    }
  where
    now : (q : Path) → call_effect trees (done ++ c ∷ []) q ≡ changed_at (call_effect trees done) p g q
    now q = (λ i. all_called-append trees (base trees) done (c ∷ []) i q) ∙ k.is trees (call_effect trees done) q

    kept : (o : Option Node) → option_map kind_of (option_map (λ y. y) o) ≡ option_map kind_of o
    kept None = refl
    kept (Some y) = refl

-- ---- properties

-- entries that a sorted list has
entries_all : (P : Name → List ℕ → Type 0) (es : Entries) → IsRising es → ((q : Name) (v : List ℕ) → find name_cmp q es ≡ Some v → P q v) → AllByRecursion (λ e. P e.0 e.1) es
entries_all P [] r k = tt
entries_all P (e ∷ es) r k = (
  k e.0 e.1 (ap (λ b. cond b (Some e.1) (find name_cmp e.0 es)) (same_name_itself e.0)),
  entries_all P es (both_true _ _ r).1 (λ q v f. k q v (elim (same_name q e.0) as (λ b. same_name q e.0 ≡ b → cond b (Some e.1) (find name_cmp q es) ≡ Some v) [
    | true ↦ λ s. cc (find_absent e.0 es (both_true _ _ r).0, ap (λ z. find name_cmp z es) (sym (name_of_same q e.0 s)), f)
    | false ↦ λ s. f
  ] refl)),
)

not_long : (v : List ℕ) → length v ≤ 65536 → nat_lt 65536 (length v) ≡ false
not_long v l = short (length v) l
  where
    short : (n : ℕ) → n ≤ 65536 → nat_lt 65536 n ≡ false
    short n l = grind (arith, nat_tests)

module _ (trees : List PathMap) (p : Path) (prop : Name → Option (List ℕ) → Call) (faults : (done : List Call) (k : Name) (v : Option (List ℕ)) → call_fault trees done (prop k v) ≡ put_fault (call_effect trees done) p k v) (changes : (k : Name) (v : Option (List ℕ)) → Changes (prop k v) p (with_prop k v)) (new : PropMap) (is_props : IsProps new) where
  remove_free : (done : List Call) (x : Node) (k : Name) → Stands trees done p x → call_fault trees done (prop k None) ≡ None
  remove_free done x k h = faults done k None ∙ (λ i. option_map refused (option_or (option_or (h.free i) (fault_if (is_none (h.at i)) NoSuchPath)) (fault_if (false && is_one_too_many k (call_effect trees done p)) TooLong)))

  set_free : (done : List Call) (x : Node) (k : Name) (v : List ℕ) → Stands trees done p x → Among x.props new → contains_key new k ≡ true → length v ≤ 65536 → call_fault trees done (prop k (Some v)) ≡ None
  set_free done x k v h among there short =
      faults done k (Some v)
      ∙ (λ i. option_or (load.fault_if (not_long v short i) refusal.TooLong) (option_map refused (option_or (option_or (h.free i) (fault_if (is_none (h.at i)) NoSuchPath)) (fault_if (is_one_too_many k (h.at i)) TooLong))))
      ∙ (λ i. option_map refused (fault_if (not (fits_with_one x.props new k among there is_props.fit i)) TooLong))

  settings_free : (es : Entries) (done : List Call) (x : Node) (tail : List Call) → Stands trees done p x → Among x.props new → AllByRecursion (λ e. (contains_key new e.0 ≡ true) × (length e.1 ≤ 65536)) es → ((after : List Call) (y : Node) → Stands trees after p y → is_some y.text ≡ is_some x.text → Free trees after tail) → Free trees done (settings prop es ++ tail)
  settings_free [] done x tail h among all k = k done x h refl
  settings_free (e ∷ es) done x tail h among all k =
      free_one trees done (prop e.0 (Some e.1)) (settings prop es ++ tail) (set_free done x e.0 e.1 h among all.0.0 all.0.1)
      (settings_free es (done ++ prop e.0 (Some e.1) ∷ []) (with_prop e.0 (Some e.1) x) tail (stands_next trees done p x (prop e.0 (Some e.1)) (with_prop e.0 (Some e.1)) (changes e.0 (Some e.1)) h) (inserted_among x.props new e.0 e.1 among all.0.0) all.1 k)

  removals_free : (es : Entries) (done : List Call) (x : Node) (tail : List Call) → Stands trees done p x → ((q : Name) → contains_key x.props q ≡ true → (contains_key new q || is_some (find name_cmp q es)) ≡ true) → ((after : List Call) (y : Node) → Stands trees after p y → Among y.props new → is_some y.text ≡ is_some x.text → Free trees after tail) → Free trees done (removals prop new es ++ tail)
  removals_free [] done x tail h within k = k done x h (λ q has. sym (or_no (contains_key new q)) ∙ within q has) refl
  removals_free (e ∷ es) done x tail h within k =
      elim (contains_key new e.0) as (λ b. contains_key new e.0 ≡ b → Free trees done (map (λ e. prop e.0 None) (cond (not b) (e ∷ rest) rest) ++ tail)) [
        | true ↦ λ t. removals_free es done x tail h (skip t) k
        | false ↦ λ t. free_one trees done (prop e.0 None) (removals prop new es ++ tail) (remove_free done x e.0 h) (removals_free es (done ++ prop e.0 None ∷ []) (with_prop e.0 None x) tail (stands_next trees done p x (prop e.0 None) (with_prop e.0 None) (changes e.0 None) h) drop k)
      ] refl
    where
      rest : Entries
      rest = filter (λ e. not (contains_key new e.0)) es

      skip : contains_key new e.0 ≡ true → (q : Name) → contains_key x.props q ≡ true → (contains_key new q || is_some (find name_cmp q es)) ≡ true
      skip t q has =
          elim (same_name q e.0) as (λ b. same_name q e.0 ≡ b → (contains_key new q || is_some (cond b (Some e.1) (find name_cmp q es))) ≡ true → (contains_key new q || is_some (find name_cmp q es)) ≡ true) [
            | true ↦ λ s _. ap (λ z. z || is_some (find name_cmp q es)) (ap (contains_key new) (name_of_same q e.0 s) ∙ t)
            | false ↦ λ s w. w
          ] refl (within q has)

      drop : (q : Name) → is_some (get (Rattle.std.specs.FinMap.remove x.props e.0) q) ≡ true → (contains_key new q || is_some (find name_cmp q es)) ≡ true
      drop q has =
          elim (same_name q e.0) as (λ b. is_some (cond b None (get x.props q)) ≡ true → (is_some (get x.props q) ≡ true → (contains_key new q || is_some (cond b (Some e.1) (find name_cmp q es))) ≡ true) → (contains_key new q || is_some (find name_cmp q es)) ≡ true) [
            | true ↦ λ g w. cc
            | false ↦ λ g w. w g
          ] (sym (ap is_some (get-remove names_total x.props e.0 q)) ∙ has) (within q)

  -- from the old properties to the new ones
  pub props_free : (old : PropMap) (done : List Call) (x : Node) (tail : List Call) → Stands trees done p x → x.props ≡ old → ((after : List Call) (y : Node) → Stands trees after p y → is_some y.text ≡ is_some x.text → Free trees after tail) → Free trees done (prop_calls prop old new ++ tail)
  props_free old done x tail h is k =
      subst (λ cs. Free trees done cs) (sym (Rattle.std.proofs.Common.append_assoc (removals prop new (entries old)) (settings prop (entries new)) tail))
      (removals_free (entries old) done x (settings prop (entries new) ++ tail) h (λ q has. ap (λ b. contains_key new q || b) (sym (ap is_some (get-entries old q)) ∙ ap (λ m. is_some (get m q)) (sym is) ∙ has) ∙ or_yes (contains_key new q)) (λ after y s among same.
      settings_free (entries new) after y tail s among all (λ later z t alike. k later z t (alike ∙ same))))
    where
      all : AllByRecursion (λ e. (contains_key new e.0 ≡ true) × (length e.1 ≤ 65536)) (entries new)
      all = entries_all (λ q v. (contains_key new q ≡ true) × (length v ≤ 65536)) (entries new) (entries_sorted new) (λ q v f. let is = get-entries new q ∙ f in (ap is_some is, short q v is))
        where
          short : (q : Name) (v : List ℕ) → get new q ≡ Some v → length v ≤ 65536
          short q v is = (subst (λ o. IfSome o (λ v. (is_prop_name q ≡ true) × (length q ≤ 255) × (length v ≤ 65536))) is (is_props.each q)).2

-- ---- texts

room : (t piece more : List ℕ) → length t + length (piece ++ more) ≤ TEXT_BYTES → nat_lt TEXT_BYTES (length t + length piece) ≡ false
room t piece more l = short (length t + length piece) (omega (arith, l, length-append piece more))
  where
    short : (n : ℕ) → n ≤ TEXT_BYTES → nat_lt TEXT_BYTES n ≡ false
    short n l = grind (arith, nat_tests)

module _ (trees : List PathMap) (p : Path) where
  pieces_free : (ps : List (List ℕ)) (done : List Call) (x : Node) (t : List ℕ) → Stands trees done p x → x.text ≡ Some t → length t + length (concat ps) ≤ TEXT_BYTES → Free trees done (map (call.TextPiece p) ps ++ call.TextEnd p ∷ [])
  pieces_free [] done x t h is l = refl
  pieces_free (piece ∷ ps) done x t h is l =
      free_one trees done (call.TextPiece p piece) (map (call.TextPiece p) ps ++ call.TextEnd p ∷ [])
      ((λ i. option_map refused (option_or (option_or (option_or (h.free i) (fault_if (is_none (h.at i)) NoSuchPath)) (fault_if (Rattle.path_tree.specs.Calls.is_dir (h.at i)) KindMismatch)) (fault_if (is_too_long_with (length piece) (h.at i)) TooLong)))
      ∙ (λ i. option_map refused (option_or (fault_if (is_none (is i)) KindMismatch) (fault_if (option_map_or (λ t. nat_lt TEXT_BYTES (length t + length piece)) (is i) false) TooLong)))
      ∙ (λ i. option_map refused (fault_if (room t piece (concat ps) l i) TooLong))
      )
      (pieces_free ps (done ++ call.TextPiece p piece ∷ []) (with_piece piece x) (t ++ piece) (stands_next trees done p x (call.TextPiece p piece) (with_piece piece) (record { is = λ trees f q. refl }) h) (ap (option_map (λ t. t ++ piece)) is) (omega (arith, l, length-append t piece, length-append piece (concat ps))))

  pub text_free : (text : List ℕ) (done : List Call) (x : Node) → Stands trees done p x → is_some x.text ≡ true → length text ≤ TEXT_BYTES → Free trees done (text_calls p text)
  text_free text done x h file l =
      free_one trees done (call.TextStart p) (map (call.TextPiece p) (pieces text) ++ call.TextEnd p ∷ [])
      ((λ i. option_map refused (option_or (option_or (h.free i) (fault_if (is_none (h.at i)) NoSuchPath)) (fault_if (Rattle.path_tree.specs.Calls.is_dir (h.at i)) KindMismatch)))
      ∙ ap (λ b. option_map refused (fault_if b KindMismatch)) (no_dir x.text file)
      )
      (pieces_free (pieces text) (done ++ call.TextStart p ∷ []) (with_text (Some []) x) [] (stands_next trees done p x (call.TextStart p) (with_text (Some [])) (record { is = λ trees f q. refl }) h) refl (omega (arith, l, ap length (pieces_are text).0)))
    where
      no_dir : (o : Option (List ℕ)) → is_some o ≡ true → is_none o ≡ false
      no_dir None e = cc
      no_dir (Some t) e = refl

-- ---- all that a change gives

pub parts_free : (trees : List PathMap) (file : Bool) (c : Change) (old : PropMap) (done : List Call) (x : Node) → IsWithin c → Stands trees done c.path x → x.props ≡ old → (file ≡ true → is_some x.text ≡ true) → Free trees done (parts file c old)
parts_free trees file c old done x within h is text = by file text
  where
    p : Path
    p = c.path

    some_props : (prop : Name → Option (List ℕ) → Call) → ((done : List Call) (k : Name) (v : Option (List ℕ)) → call_fault trees done (prop k v) ≡ put_fault (call_effect trees done) p k v) → ((k : Name) (v : Option (List ℕ)) → Changes (prop k v) p (with_prop k v)) → (new : Option PropMap) → IfSome new IsProps → (tail : List Call) → ((after : List Call) (y : Node) → Stands trees after p y → is_some y.text ≡ is_some x.text → Free trees after tail) → Free trees done (option_map_or (prop_calls prop old) new [] ++ tail)
    some_props prop faults changes None w tail k = k done x h refl
    some_props prop faults changes (Some new) w tail k = props_free trees p prop faults changes new w old done x tail h is k

    some_text : (t : Option (List ℕ)) → IfSome t (λ t. length t ≤ TEXT_BYTES) → (sum : Option (List ℕ)) (after : List Call) (y : Node) → Stands trees after p y → is_some y.text ≡ true → Free trees after (option_map_or (text_calls p) t [] ++ call.CloseFile p sum ∷ [])
    some_text None w sum after y s f = refl
    some_text (Some t) w sum after y s f = free_both trees after (text_calls p t) (call.CloseFile p sum ∷ []) (text_free trees p t after y s f w) refl

    by : (file : Bool) → (file ≡ true → is_some x.text ≡ true) → Free trees done (parts file c old)
    by false f = subst (λ cs. Free trees done cs) (Rattle.std.proofs.Common.append-nil (option_map_or (prop_calls (call.DirProp p) old) c.props [])) (some_props (call.DirProp p) (λ done k v. refl) (λ k v. record { is = λ trees f q. refl }) c.props within.0 [] (λ after y s same. refl))
    by true f = some_props (call.FileProp p) (λ done k v. refl) (λ k v. record { is = λ trees f q. refl }) c.props within.0 (option_map_or (text_calls p) c.text [] ++ call.CloseFile p (option_map md5 c.text) ∷ []) (λ after y s same. some_text c.text within.1 (option_map md5 c.text) after y s (same ∙ f refl))
