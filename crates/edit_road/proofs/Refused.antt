-- Calls byte by byte: their first refusal by an editor that builds a set.
use Rattle.std.proofs.Common.{◌≡◌, ℕ, suc, ◌+◌, Bool, true, false, cond, ◌||◌, ◌&&◌, List, [], ◌∷◌, ◌++◌, map, length, Option, Some, None, refl, sym, ap, ◌∙◌, append_assoc, append-nil, length-append, arith, nat_lt}
use Rattle.std.proofs.lemmas.Bool.Decides.{nat_tests}
use Rattle.std.specs.Prelude.{is_none}
use Rattle.std.specs.Option.{option_map, option_or}
use Rattle.std.specs.List.{list_all, list_any}
use Rattle.node_base.specs.Path.{Path}
use Rattle.node_base.specs.Tree.{PathMap, base, blocked, changed_at, kind_of}
use Rattle.node_base.specs.declared.node.Node.{Node}
use Rattle.node_base.specs.declared.node.NodeKind.TheVariants.{File, Dir}
use Rattle.node_base.specs.declared.node.Action.TheVariants.{Modify, Add, Delete}
use Rattle.node_base.specs.declared.fault.TreeFault.{TreeFault}
use Rattle.node_base.specs.declared.fault.TreeFault.TheVariants.{TooLong, NoSuchPath, KindMismatch}
use Rattle.node_base.specs.declared.limits.TheConstants.{TEXT_BYTES}
use Rattle.node_base.proofs.PathLemmas.{same_path_itself, differs_of_no_rest}
use Rattle.path_tree.specs.Calls.{fault_if, text_fault, is_dir}
use Rattle.path_tree.specs.NodeCalls.{piece_fault, is_too_long_with}
use Rattle.delta_editor.specs.CallEffect.{call_effect, with_piece}
use Rattle.delta_editor.specs.Faults.{refused}
use Rattle.delta_editor.specs.declared.call.Call.{Call}
use Rattle.delta_editor.specs.declared.call.Call.TheVariants as call
use Rattle.delta_editor.specs.declared.fault.EditorFault.{EditorFault}
use Rattle.delta_editor.proofs.CallLemmas.{all_called-append}
use Rattle.editor_ends.specs.BuildFaults.{takes, acts_below, begin_fault, begun, is_late, beginning, put_fault, call_fault, refusal_after, first_refusal}
use Rattle.editor_ends.proofs.Faultfree.{blocked_alike}
use Rattle.dump_load.specs.declared.change.Change.{Change}
use Rattle.dump_load.specs.Changes.{is_delete}
use Rattle.ra_edit.specs.EditLaws.{each_byte, byte_by_byte, AreSameCalls}
use Rattle.edit_road.specs.Laws.{has_byte, HaveBytes}
use Rattle.edit_road.proofs.Pieces.{Nodes, one, all_by_bytes, first_holds, then_holds}

-- ---- a byte, and those behind it

-- what a piece of so many bytes is refused for, where this blocks the path and this node is there
abbrev refusal_of : Option TreeFault → Option Node → ℕ → Option EditorFault
refusal_of b o n = option_map refused (option_or (option_or (option_or b (fault_if (is_none o) NoSuchPath)) (fault_if (is_dir o) KindMismatch)) (fault_if (is_too_long_with n o) TooLong))

-- two tests of a text's length
split : (limit have more : ℕ) (have2 : ℕ) → have2 ≡ have + 1 → cond (nat_lt limit (have + 1)) true (nat_lt limit (have2 + suc more)) ≡ nat_lt limit (have + suc (suc more))
split limit have more have2 e = grind (arith, nat_tests)

or_if : (a b c : Bool) → cond a true b ≡ c → option_or (option_map refused (fault_if a TooLong)) (option_map refused (fault_if b TooLong)) ≡ option_map refused (fault_if c TooLong)
or_if true b true e = refl
or_if true b false e = cc
or_if false b c e = ap (λ z. option_map refused (fault_if z TooLong)) e

joined : (b : ℕ) (n : ℕ) (blocks : Option TreeFault) (o : Option Node) → option_or (refusal_of blocks o 1) (refusal_of blocks (option_map (with_piece (b ∷ [])) o) (suc n)) ≡ refusal_of blocks o (suc (suc n))
joined b n (Some f) o = refl
joined b n None None = refl
joined b n None (Some x) =
    elim x.text as (λ (t : Option (List ℕ)). option_or (refusal_of None (Some (record { text = t; props = x.props; changed = x.changed })) 1) (refusal_of None (Some (with_piece (b ∷ []) (record { text = t; props = x.props; changed = x.changed }))) (suc n)) ≡ refusal_of None (Some (record { text = t; props = x.props; changed = x.changed })) (suc (suc n))) [
      | None ↦ refl
      | Some t ↦ or_if (nat_lt TEXT_BYTES (length t + 1)) (nat_lt TEXT_BYTES (length (t ++ b ∷ []) + suc n)) (nat_lt TEXT_BYTES (length t + suc (suc n))) (split TEXT_BYTES (length t) n (length (t ++ b ∷ [])) (length-append t (b ∷ [])))
    ]

kept : (o : Option Node) → option_map kind_of (option_map (λ y. y) o) ≡ option_map kind_of o
kept None = refl
kept (Some y) = refl

-- the same piece, where a piece was put
after_piece : (f : Nodes) (p : Path) (b n : ℕ) → refusal_of (blocked (changed_at f p (with_piece (b ∷ []))) p) (changed_at f p (with_piece (b ∷ [])) p) n ≡ refusal_of (blocked f p) (option_map (with_piece (b ∷ [])) (f p)) n
after_piece f p b n = λ i. refusal_of (free i) (option_map (λ y. cond (same_path_itself p i) (with_piece (b ∷ []) y) y) (f p)) n
  where
    free : blocked (changed_at f p (with_piece (b ∷ []))) p ≡ blocked f p
    free = blocked_alike (changed_at f p (with_piece (b ∷ []))) f p (λ q e. (λ i. option_map kind_of (option_map (λ y. cond (differs_of_no_rest p q e i) (with_piece (b ∷ []) y) y) (f q))) ∙ kept (f q))

or_none : {A : Type 0} (o : Option A) → option_or o None ≡ o
or_none None = refl
or_none (Some x) = refl

module _ (trees : List PathMap) where
  effect_next : (done : List Call) (p : Path) (b : ℕ) → ◌≡◌ {A = Nodes} (call_effect trees (done ++ one p b ∷ [])) (changed_at (call_effect trees done) p (with_piece (b ∷ [])))
  effect_next done p b = all_called-append trees (base trees) done (one p b ∷ [])

  bytes_refused : (done : List Call) (p : Path) (b : ℕ) (piece : List ℕ) → refusal_after trees done (map (one p) (b ∷ piece)) ≡ call_fault trees done (call.TextPiece p (b ∷ piece))
  bytes_refused done p b [] = or_none (call_fault trees done (one p b))
  bytes_refused done p b (c ∷ piece) =
      ap (option_or (call_fault trees done (one p b))) (bytes_refused (done ++ one p b ∷ []) p c piece ∙ (λ i. option_map refused (piece_fault (effect_next done p b i) p (c ∷ piece))) ∙ after_piece (call_effect trees done) p b (suc (length piece)))
      ∙ joined b (length piece) (blocked (call_effect trees done) p) (call_effect trees done p)

  call_refused : (done : List Call) (c : Call) → has_byte c ≡ true → refusal_after trees done (each_byte c) ≡ call_fault trees done c
  call_refused done (call.TextPiece p []) h = cc
  call_refused done (call.TextPiece p (b ∷ piece)) h = bytes_refused done p b piece
  call_refused done (call.Target n) h = or_none (call_fault trees done (call.Target n))
  call_refused done (call.OpenRoot base) h = or_none (call_fault trees done (call.OpenRoot base))
  call_refused done (call.AddDir up p from) h = or_none (call_fault trees done (call.AddDir up p from))
  call_refused done (call.OpenDir up p base) h = or_none (call_fault trees done (call.OpenDir up p base))
  call_refused done (call.DeleteEntry up p base) h = or_none (call_fault trees done (call.DeleteEntry up p base))
  call_refused done (call.AddFile up p from) h = or_none (call_fault trees done (call.AddFile up p from))
  call_refused done (call.OpenFile up p base) h = or_none (call_fault trees done (call.OpenFile up p base))
  call_refused done (call.DirProp p name value) h = or_none (call_fault trees done (call.DirProp p name value))
  call_refused done (call.FileProp p name value) h = or_none (call_fault trees done (call.FileProp p name value))
  call_refused done (call.TextStart p) h = or_none (call_fault trees done (call.TextStart p))
  call_refused done (call.TextEnd p) h = refl
  call_refused done (call.CloseFile p sum) h = refl
  call_refused done (call.CloseDir p) h = refl
  call_refused done call.CloseEdit h = refl

-- ---- what calls before it are like

module _ (test : Call → Bool) (alike : (p : Path) (x y : List ℕ) → test (call.TextPiece p x) ≡ test (call.TextPiece p y)) where
  again : (a b z : Bool) → b ≡ a → (a || (b || z)) ≡ (a || z)
  again true b z e = refl
  again false b z e = ap (λ c. c || z) e

  many : (p : Path) (b : ℕ) (piece : List ℕ) (cs : List Call) → list_any test (map (one p) (b ∷ piece) ++ cs) ≡ (test (one p b) || list_any test cs)
  many p b [] cs = refl
  many p b (c ∷ piece) cs = ap (λ z. test (one p b) || z) (many p c piece cs) ∙ again (test (one p b)) (test (one p c)) (list_any test cs) (alike p (c ∷ []) (b ∷ []))

  call_any : (c : Call) (cs : List Call) → has_byte c ≡ true → list_any test (each_byte c ++ cs) ≡ (test c || list_any test cs)
  call_any (call.TextPiece p []) cs h = cc
  call_any (call.TextPiece p (b ∷ piece)) cs h = many p b piece cs ∙ ap (λ z. z || list_any test cs) (alike p (b ∷ []) (b ∷ piece))
  call_any (call.Target n) cs h = refl
  call_any (call.OpenRoot base) cs h = refl
  call_any (call.AddDir up p from) cs h = refl
  call_any (call.OpenDir up p base) cs h = refl
  call_any (call.DeleteEntry up p base) cs h = refl
  call_any (call.AddFile up p from) cs h = refl
  call_any (call.OpenFile up p base) cs h = refl
  call_any (call.DirProp p name value) cs h = refl
  call_any (call.FileProp p name value) cs h = refl
  call_any (call.TextStart p) cs h = refl
  call_any (call.TextEnd p) cs h = refl
  call_any (call.CloseFile p sum) cs h = refl
  call_any (call.CloseDir p) cs h = refl
  call_any call.CloseEdit cs h = refl

  pub any_by_bytes : (cs : List Call) → HaveBytes cs → list_any test (byte_by_byte cs) ≡ list_any test cs
  any_by_bytes [] h = refl
  any_by_bytes (c ∷ cs) h = call_any c (byte_by_byte cs) (first_holds (has_byte c) (list_all has_byte cs) h) ∙ ap (λ z. test c || z) (any_by_bytes cs (then_holds (has_byte c) (list_all has_byte cs) h))

module _ (trees : List PathMap) (done : List Call) (h : HaveBytes done) where
  late : (x : Change) → is_late (byte_by_byte done) x ≡ is_late done x
  late x = λ i. any_by_bytes (takes x.path) (λ p a b. refl) done h i || (is_delete x.action && any_by_bytes (acts_below x.path) (λ p a b. refl) done h i)

  eff : ◌≡◌ {A = Nodes} (call_effect trees (byte_by_byte done)) (call_effect trees done)
  eff = all_by_bytes trees (base trees) done

  begins : (x : Change) → beginning trees (byte_by_byte done) x ≡ beginning trees done x
  begins x = λ i. begin_fault trees (eff i) (late x i) x

  fault_by_bytes : (c : Call) → call_fault trees (byte_by_byte done) c ≡ call_fault trees done c
  fault_by_bytes (call.Target n) = refl
  fault_by_bytes (call.OpenRoot base) = begins (begun Modify (Some Dir) [] None)
  fault_by_bytes (call.AddDir up p from) = begins (begun Add (Some Dir) p from)
  fault_by_bytes (call.OpenDir up p base) = begins (begun Modify (Some Dir) p None)
  fault_by_bytes (call.DeleteEntry up p base) = begins (begun Delete None p None)
  fault_by_bytes (call.AddFile up p from) = begins (begun Add (Some File) p from)
  fault_by_bytes (call.OpenFile up p base) = begins (begun Modify (Some File) p None)
  fault_by_bytes (call.DirProp p name value) = λ i. put_fault (eff i) p name value
  fault_by_bytes (call.FileProp p name value) = λ i. put_fault (eff i) p name value
  fault_by_bytes (call.TextStart p) = λ i. option_map refused (text_fault (eff i) p)
  fault_by_bytes (call.TextPiece p piece) = λ i. option_map refused (piece_fault (eff i) p piece)
  fault_by_bytes (call.TextEnd p) = refl
  fault_by_bytes (call.CloseFile p sum) = refl
  fault_by_bytes (call.CloseDir p) = refl
  fault_by_bytes call.CloseEdit = refl

-- ---- all calls

or_assoc : {A : Type 0} (a b c : Option A) → option_or (option_or a b) c ≡ option_or a (option_or b c)
or_assoc None b c = refl
or_assoc (Some x) b c = refl

refusal_both : (trees : List PathMap) (done xs ys : List Call) → refusal_after trees done (xs ++ ys) ≡ option_or (refusal_after trees done xs) (refusal_after trees (done ++ xs) ys)
refusal_both trees done [] ys = ap (λ d. refusal_after trees d ys) (sym (append-nil done))
refusal_both trees done (x ∷ xs) ys =
    ap (option_or (call_fault trees done x)) (refusal_both trees (done ++ x ∷ []) xs ys ∙ ap (λ d. option_or (refusal_after trees (done ++ x ∷ []) xs) (refusal_after trees d ys)) (append_assoc done (x ∷ []) xs))
    ∙ sym (or_assoc (call_fault trees done x) (refusal_after trees (done ++ x ∷ []) xs) (refusal_after trees (done ++ x ∷ xs) ys))

pub both_bytes : (xs ys : List Call) → HaveBytes xs → HaveBytes ys → HaveBytes (xs ++ ys)
both_bytes [] ys h k = k
both_bytes (x ∷ xs) ys h k =
    (λ i. first_holds (has_byte x) (list_all has_byte xs) h i && both_bytes xs ys (then_holds (has_byte x) (list_all has_byte xs) h) k i)

pub bytes_join : (xs ys : List Call) → byte_by_byte (xs ++ ys) ≡ byte_by_byte xs ++ byte_by_byte ys
bytes_join [] ys = refl
bytes_join (x ∷ xs) ys = ap (λ l. each_byte x ++ l) (bytes_join xs ys) ∙ sym (append_assoc (each_byte x) (byte_by_byte xs) (byte_by_byte ys))

refusal_by_bytes : (trees : List PathMap) (done cs : List Call) → HaveBytes done → HaveBytes cs → refusal_after trees (byte_by_byte done) (byte_by_byte cs) ≡ refusal_after trees done cs
refusal_by_bytes trees done [] h k = refl
refusal_by_bytes trees done (c ∷ cs) h k =
    let one_has : has_byte c ≡ true = first_holds (has_byte c) (list_all has_byte cs) k in
    let alone : HaveBytes (c ∷ []) = (λ i. one_has i && true) in
    refusal_both trees (byte_by_byte done) (each_byte c) (byte_by_byte cs)
    ∙ ap (λ o. option_or o (refusal_after trees (byte_by_byte done ++ each_byte c) (byte_by_byte cs))) (call_refused trees (byte_by_byte done) c one_has ∙ fault_by_bytes trees done h c)
    ∙ ap (λ d. option_or (call_fault trees done c) (refusal_after trees d (byte_by_byte cs))) (ap (λ l. byte_by_byte done ++ l) (sym (append-nil (each_byte c))) ∙ sym (bytes_join done (c ∷ [])))
    ∙ ap (option_or (call_fault trees done c)) (refusal_by_bytes trees (done ++ c ∷ []) cs (both_bytes done (c ∷ []) h alone) (then_holds (has_byte c) (list_all has_byte cs) k))

pub same_refusal : (trees : List PathMap) (xs ys : List Call) → HaveBytes xs → HaveBytes ys → AreSameCalls xs ys → first_refusal trees xs ≡ first_refusal trees ys
same_refusal trees xs ys h k e = sym (refusal_by_bytes trees [] xs refl h) ∙ ap (first_refusal trees) e ∙ refusal_by_bytes trees [] ys refl k
