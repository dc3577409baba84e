-- Runs over a property block.
use Rattle.std.proofs.Common.{◌≡◌, ℕ, zero, suc, ◌+◌, ◌-◌, ◌<◌, Bool, true, false, List, [], ◌∷◌, ◌++◌, length, take, drop, get_or, Err, nat_lt, subst, refl, sym, ap, ◌∙◌, append_assoc, append-nil, length-append, arith}
use Rattle.std.proofs.lemmas.Bool.Decides.{nat_tests}
use Rattle.std.proofs.lemmas.List.{nil_from_length, drop_more, drop-drop, length-take, take-append-drop}
use Rattle.node_base.specs.Props.{PropMap}
use Rattle.node_base.specs.declared.prop_fault.PropFault.{PropFault}
use Rattle.node_base.specs.declared.prop_fault.PropFault.TheVariants.{OutOfMemory}
use Rattle.node_base.specs.BlockGrammar.{block_end}
use Rattle.node_base.specs.declared.block_part.Part.TheVariants.{Name, Tag, Value}
use Rattle.node_base.specs.declared.block.BlockReader.{BlockReader}
use Rattle.node_base.specs.Blocks.{Next, Whole, Run, Done, Fault, of_step, run_block, block_step, one_more, after, held_more, MayKeep, StepIs, BlockIs}

-- a run goes on by a run
pub after-append : (s : Run) (a b : List ℕ) → after s (a ++ b) ≡ after (after s a) b
after-append s [] b = refl
after-append s (x ∷ a) b = after-append (one_more s x) a b

pub after-refused : (f : PropFault) (bs : List ℕ) → after (Fault f) bs ≡ Fault f
after-refused f [] = refl
after-refused f (b ∷ bs) = after-refused f bs

pub after-whole : (props removed : PropMap) (rest bs : List ℕ) → after (Done props removed rest) bs ≡ Done props removed (rest ++ bs)
after-whole props removed rest [] = ap (Done props removed) (sym (append-nil rest))
after-whole props removed rest (b ∷ bs) = after-whole props removed (rest ++ b ∷ []) bs ∙ ap (Done props removed) (append_assoc rest (b ∷ []) bs)

lt_true : (a b : ℕ) → a < b → nat_lt a b ≡ true
lt_true a b h = grind (arith, nat_tests)

-- the bytes of a counted text, but its last, are kept
pub stretch_name : (r : BlockReader) (left n : ℕ) (held s more : List ℕ) → length held + length s < n → length s < left → run_block (record r { left = left; part = Name n; held = held }) (s ++ more) ≡ run_block (record r { left = left - length s; part = Name n; held = held ++ s }) more
stretch_name r left n held [] more h k =
    let z : left - length {A = ℕ} [] ≡ left = omega arith in
    rw (z, append-nil) refl
stretch_name r left n held (b ∷ s) more h k =
    let p : nat_lt (length held + 1) n ≡ true = lt_true _ _ (omega arith) in
    let q : nat_lt 1 left ≡ true = lt_true _ _ (omega arith) in
    let z : left - 1 - length s ≡ left - length (b ∷ s) = omega arith in
    let e : block_step (record r { left = left; part = Name n; held = held }) b ≡ Next (record r { left = left - 1; part = Name n; held = held ++ b ∷ [] }) = rw (p, q) refl in
    ap (λ t. after (of_step t) (s ++ more)) e
    ∙ stretch_name r (left - 1) n (held ++ b ∷ []) s more (omega (arith, length-append held (b ∷ []))) (omega arith)
    ∙ rw (z, append_assoc) refl

pub stretch_value : (r : BlockReader) (left n : ℕ) (held s more : List ℕ) → length held + length s < n → length s < left → run_block (record r { left = left; part = Value n; held = held }) (s ++ more) ≡ run_block (record r { left = left - length s; part = Value n; held = held ++ s }) more
stretch_value r left n held [] more h k =
    let z : left - length {A = ℕ} [] ≡ left = omega arith in
    rw (z, append-nil) refl
stretch_value r left n held (b ∷ s) more h k =
    let p : nat_lt (length held + 1) n ≡ true = lt_true _ _ (omega arith) in
    let q : nat_lt 1 left ≡ true = lt_true _ _ (omega arith) in
    let z : left - 1 - length s ≡ left - length (b ∷ s) = omega arith in
    let e : block_step (record r { left = left; part = Value n; held = held }) b ≡ Next (record r { left = left - 1; part = Value n; held = held ++ b ∷ [] }) = rw (p, q) refl in
    ap (λ t. after (of_step t) (s ++ more)) e
    ∙ stretch_value r (left - 1) n (held ++ b ∷ []) s more (omega (arith, length-append held (b ∷ []))) (omega arith)
    ∙ rw (z, append_assoc) refl

pub may_keep_name : (r : BlockReader) (n k : ℕ) → r.part ≡ Name n → length r.held + k < n → k < r.left → MayKeep r k
may_keep_name r n k e h l =
    λ s more m. subst (λ p. run_block (record r { part = p }) (s ++ more) ≡ run_block (record r { left = r.left - length s; part = p; held = r.held ++ s }) more) (sym e) (stretch_name r r.left n r.held s more (omega arith) (omega arith))

pub may_keep_value : (r : BlockReader) (n k : ℕ) → r.part ≡ Value n → length r.held + k < n → k < r.left → MayKeep r k
may_keep_value r n k e h l =
    λ s more m. subst (λ p. run_block (record r { part = p }) (s ++ more) ≡ run_block (record r { left = r.left - length s; part = p; held = r.held ++ s }) more) (sym e) (stretch_value r r.left n r.held s more (omega arith) (omega arith))

none : (r : BlockReader) (s more : List ℕ) → s ≡ [] → run_block r (s ++ more) ≡ run_block (held_more r s) more
none r s more e =
    let z : r.left - length {A = ℕ} [] ≡ r.left = omega arith in
    rw (e, z, append-nil) refl

-- after a stretch the run goes on behind it
pub kept : (r next : BlockReader) (piece : List ℕ) (at k : ℕ) → MayKeep r k → next ≡ held_more r (take k (drop at piece)) → run_block next (drop (at + k) piece) ≡ run_block r (drop at piece)
kept r next piece at k may e =
    let m = may (take k (drop at piece)) (drop (at + k) piece) (omega (arith, length-take k (drop at piece))) in
    let d : drop k (drop at piece) ≡ drop (at + k) piece = drop-drop k at piece in
    rw (e, ← m, ← d, take-append-drop) refl

pub may_keep_none : (r : BlockReader) → MayKeep r 0
may_keep_none r = λ s more m. none r s more (nil_from_length s (omega arith))

pub may_keep_if_name : (r : BlockReader) (n k : ℕ) → r.part ≡ Name n → (0 < k → length r.held + k < n) → (0 < k → k < r.left) → MayKeep r k
may_keep_if_name r n zero e h l = may_keep_none r
may_keep_if_name r n (suc k) e h l = may_keep_name r n (suc k) e (h (omega arith)) (l (omega arith))

pub may_keep_if_value : (r : BlockReader) (n k : ℕ) → r.part ≡ Value n → (0 < k → length r.held + k < n) → (0 < k → k < r.left) → MayKeep r k
may_keep_if_value r n zero e h l = may_keep_none r
may_keep_if_value r n (suc k) e h l = may_keep_value r n (suc k) e (h (omega arith)) (l (omega arith))

-- a byte of a piece, and then the rest
pub step_at : (r : BlockReader) (piece : List ℕ) (at : ℕ) → at < length piece → run_block r (drop at piece) ≡ after (of_step (block_step r (get_or piece at 0))) (drop (at + 1) piece)
step_at r piece at h = ap (run_block r) (drop_more piece at 0 h)

pub whole_at : (r : BlockReader) (props removed : PropMap) (piece : List ℕ) (at : ℕ) → at < length piece → block_step r (get_or piece at 0) ≡ Whole props removed → run_block r (drop at piece) ≡ Done props removed (drop (at + 1) piece)
whole_at r props removed piece at h e = step_at r piece at h ∙ ap (λ s. after (of_step s) (drop (at + 1) piece)) e ∙ after-whole props removed [] (drop (at + 1) piece)

pub refused_at : (f : PropFault) (r new : BlockReader) (piece : List ℕ) (at : ℕ) → at < length piece → StepIs (Err f) new (block_step r (get_or piece at 0)) → BlockIs (Err f) new piece (run_block r (drop at piece))
refused_at OutOfMemory r new piece at h e = tt
refused_at f r new piece at h e = step_at r piece at h ∙ ap (λ s. after (of_step s) (drop (at + 1) piece)) e ∙ after-refused f (drop (at + 1) piece)

-- the line that ends a block, where it is due
ended_so : (r : BlockReader) (d : Bool) (rest : List ℕ) → run_block (record r { left = 10; part = Tag; held = []; delta = d }) (block_end ++ rest) ≡ Done r.props r.removed rest
ended_so r true rest = after-whole r.props r.removed [] rest
ended_so r false rest = after-whole r.props r.removed [] rest

pub ended : (r : BlockReader) (rest : List ℕ) → r.left ≡ 10 → r.part ≡ Tag → r.held ≡ [] → run_block r (block_end ++ rest) ≡ Done r.props r.removed rest
ended r rest l p h = (λ i. run_block (record r { left = l i; part = p i; held = h i }) (block_end ++ rest)) ∙ ended_so r r.delta rest
