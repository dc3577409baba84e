-- What a reader keeps grows by no more than the bytes that come.
use Rattle.std.proofs.Common.{◌≡◌, ℕ, ◌==◌, ◌&&◌, ◌+◌, ◌≤◌, not, Bool, true, false, List, [], ◌∷◌, ◌++◌, length, nat_lt, Option, Some, None, Ok, Err, Result, refl, ap, subst, length-append, arith}
use Rattle.std.specs.Prelude.{IfOk}
use Rattle.std.specs.Bool.{if◌then◌else◌}
use Rattle.std.specs.Prelude.{slice_index_or}
use Rattle.std.specs.declared.cmp.Ordering.TheVariants.{Less, Equal, Greater}
use Rattle.std.specs.FinMap as map
use Rattle.std.specs.FinMap.{entries-insert}
use Rattle.std.specs.FinMap.Entries.{put, by_order}
use Rattle.node_base.specs.Path.{Name, name_cmp, names_total}
use Rattle.node_base.specs.Entries.{Entries, entry_bytes, stored_bytes}
use Rattle.node_base.specs.Numbers.{is_digit, number_of}
use Rattle.node_base.specs.Props.{PropMap, is_prop_name, props_fit, fits_with}
use Rattle.node_base.specs.declared.block.BlockReader.{BlockReader}
use Rattle.node_base.specs.declared.block_part.Part.{Part}
use Rattle.node_base.specs.declared.block_part.Part.TheVariants as at
use Rattle.node_base.specs.declared.prop_fault.PropFault.{PropFault}
use Rattle.node_base.specs.declared.prop_fault.PropFault.TheVariants.{BadProps}
use Rattle.node_base.specs.Blocks.{Step, Next, Whole, Refused, Run, More, Done, Fault, keep, go, only, judged_count, begins, is_new, named, name_is, value_at, value_is, ending, part_step, settled, block_step, begun, of_step, one_more, after, run_block, BlockIs}
use Rattle.node_base.proofs.PropLemmas.{entries_none}
use Rattle.node_base.specs.BlockKept.{waiting_bytes, kept_bytes, kept_after}

-- a value at a name brings no more than their bytes
put_bytes : (n : Name) (v : List ℕ) (es : Entries) → entry_bytes (put name_cmp n v es) ≤ length n + length v + entry_bytes es
put_bytes n v [] = omega arith
put_bytes n v (e ∷ es) =
    let rest = put_bytes n v es in
    elim (name_cmp n e.0) as (λ o. entry_bytes (by_order o ((n, v) ∷ e ∷ es) ((e.0, v) ∷ es) (e ∷ put name_cmp n v es)) ≤ length n + length v + (length e.0 + length e.1 + entry_bytes es)) [
      | Less ↦ omega arith
      | Equal ↦ omega arith
      | Greater ↦ omega (arith, rest)
    ]

inserted_bytes : (m : PropMap) (n : Name) (v : List ℕ) → stored_bytes (map.insert m n v) ≤ length n + length v + stored_bytes m
inserted_bytes m n v = rw (entries-insert names_total m n v) (put_bytes n v (map.entries m))

none_stored : stored_bytes map.empty ≡ 0
none_stored = ap entry_bytes entries_none

-- nothing is kept where a block begins
pub begun_bytes : (delta : Bool) (n : ℕ) → kept_bytes (begun delta n) ≡ 0
begun_bytes delta n = omega (arith, none_stored)

-- what is kept after a step
abbrev pub step_bytes : Step → ℕ
step_bytes (Next r) = kept_bytes r
step_bytes (Whole props removed) = stored_bytes props + stored_bytes removed
step_bytes (Refused f) = 0

either : (n : ℕ) (b : Bool) (s t : Step) → step_bytes s ≤ n → step_bytes t ≤ n → step_bytes (if b then s else t) ≤ n
either n true s t x y = x
either n false s t x y = y

keep_bytes : (r : BlockReader) (b : ℕ) → step_bytes (keep r b) ≤ kept_bytes r + 1
keep_bytes r b = omega (arith, length-append r.held (b ∷ []))

go_bytes : (part : Part) (r : BlockReader) → step_bytes (go part r) ≤ kept_bytes r + 1
go_bytes part r = omega arith

only_bytes : (wanted b : ℕ) (part : Part) (r : BlockReader) → step_bytes (only wanted b part r) ≤ kept_bytes r + 1
only_bytes wanted b part r = either (kept_bytes r + 1) (b == wanted) (go part r) (Refused BadProps) (go_bytes part r) (omega arith)

judged_bytes : (limit k left : ℕ) (s : Step) (n : ℕ) → step_bytes s ≤ n → step_bytes (judged_count limit k left s) ≤ n
judged_bytes limit k left s n h = either n (nat_lt limit k) _ _ (omega arith) (either n (nat_lt (k + 1) left) _ _ h (omega arith))

begins_bytes : (removes : Bool) (r : BlockReader) → step_bytes (begins removes r) ≤ kept_bytes r + 1
begins_bytes removes r = omega arith

named_bytes : (removes : Bool) (r : BlockReader) (name : List ℕ) (n : ℕ) → stored_bytes r.props + stored_bytes r.removed + waiting_bytes r.name + length name ≤ n → step_bytes (named removes r name) ≤ n
named_bytes true r name n h = omega (arith, h, inserted_bytes r.removed name [])
named_bytes false r name n h = either n (fits_with r.props name) _ _ (omega (arith, h)) (omega arith)

name_bytes : (r : BlockReader) (name : List ℕ) (n : ℕ) → stored_bytes r.props + stored_bytes r.removed + waiting_bytes r.name + length name ≤ n → step_bytes (name_is r name) ≤ n
name_bytes r name n h = either n (nat_lt 255 (length name)) _ _ (omega arith) (either n (is_prop_name name && is_new r name) _ _ (named_bytes r.removes r name n h) (omega arith))

value_bytes : (r : BlockReader) (name : Option (List ℕ)) (value : List ℕ) (n : ℕ) → stored_bytes r.props + stored_bytes r.removed + waiting_bytes name + length value ≤ n → step_bytes (value_at r name value) ≤ n
value_bytes r None value n h = omega arith
value_bytes r (Some name) value n h = either n (nat_lt 65536 (length value)) _ _ (omega arith) (either n (props_fit (map.insert r.props name value)) _ _ (omega (arith, h, inserted_bytes r.props name value)) (omega arith))

part_bytes : (part : Part) (r : BlockReader) (b : ℕ) → step_bytes (part_step part r b) ≤ kept_bytes r + 1
part_bytes at.Tag r b = either (kept_bytes r + 1) (b == 75) _ _ (begins_bytes false r) (either (kept_bytes r + 1) (r.delta && b == 68) _ _ (begins_bytes true r) (only_bytes 80 b at.Ending r))
part_bytes at.KeyBlank r b = only_bytes 32 b at.KeyCount r
part_bytes at.KeyCount r b =
    either (kept_bytes r + 1) (is_digit b) _ _ (keep_bytes r b)
    (either (kept_bytes r + 1) (b == 10 && not (number_of r.held == 0)) _ _ (judged_bytes 255 (number_of r.held) r.left (go (at.Name (number_of r.held)) r) (kept_bytes r + 1) (go_bytes (at.Name (number_of r.held)) r)) (omega arith))
part_bytes (at.Name k) r b =
    either (kept_bytes r + 1) (nat_lt (length r.held + 1) k) _ _ (keep_bytes r b)
    (name_bytes r (r.held ++ b ∷ []) (kept_bytes r + 1) (omega (arith, length-append r.held (b ∷ []))))
part_bytes at.NameEnd r b = only_bytes 10 b at.ValueTag r
part_bytes at.ValueTag r b = only_bytes 86 b at.ValueBlank r
part_bytes at.ValueBlank r b = only_bytes 32 b at.ValueCount r
part_bytes at.ValueCount r b =
    either (kept_bytes r + 1) (is_digit b) _ _ (keep_bytes r b)
    (either (kept_bytes r + 1) (b == 10 && not (length r.held == 0)) _ _
    (judged_bytes 65536 (number_of r.held) r.left (if number_of r.held == 0 then value_is r [] else go (at.Value (number_of r.held)) r) (kept_bytes r + 1)
    (either (kept_bytes r + 1) (number_of r.held == 0) _ _ (value_bytes r r.name [] (kept_bytes r + 1) (omega arith)) (go_bytes (at.Value (number_of r.held)) r)))
    (omega arith))
part_bytes (at.Value k) r b =
    either (kept_bytes r + 1) (nat_lt (length r.held + 1) k) _ _ (keep_bytes r b)
    (value_bytes r r.name (r.held ++ b ∷ []) (kept_bytes r + 1) (omega (arith, length-append r.held (b ∷ []))))
part_bytes at.ValueEnd r b = only_bytes 10 b at.Tag r
part_bytes at.Ending r b =
    either (kept_bytes r + 1) (b == slice_index_or ending (length r.held) 256) _ _
    (either (kept_bytes r + 1) (length r.held == 8) _ _ (omega arith) (keep_bytes r b)) (omega arith)

settled_bytes : (left : ℕ) (s : Step) (n : ℕ) → step_bytes s ≤ n → step_bytes (settled left s) ≤ n
settled_bytes left (Next r) n h = either n (nat_lt 1 left) _ _ h (omega arith)
settled_bytes left (Whole props removed) n h = either n (left == 1) _ _ h (omega arith)
settled_bytes left (Refused f) n h = omega arith

pub block_bytes : (r : BlockReader) (b : ℕ) → step_bytes (block_step r b) ≤ kept_bytes r + 1
block_bytes r b = settled_bytes r.left (part_step r.part r b) (kept_bytes r + 1) (part_bytes r.part r b)

-- what is kept in a run
abbrev run_bytes : Run → ℕ
run_bytes (More r) = kept_bytes r
run_bytes (Done props removed rest) = stored_bytes props + stored_bytes removed
run_bytes (Fault f) = 0

of_step_bytes : (s : Step) → run_bytes (of_step s) ≡ step_bytes s
of_step_bytes (Next r) = refl
of_step_bytes (Whole props removed) = refl
of_step_bytes (Refused f) = refl

one_more_bytes : (s : Run) (b : ℕ) → run_bytes (one_more s b) ≤ run_bytes s + 1
one_more_bytes (More r) b = rw (of_step_bytes (block_step r b)) (block_bytes r b)
one_more_bytes (Done props removed rest) b = omega arith
one_more_bytes (Fault f) b = omega arith

after_bytes : (s : Run) (bs : List ℕ) → run_bytes (after s bs) ≤ run_bytes s + length bs
after_bytes s [] = omega arith
after_bytes s (b ∷ bs) = omega (arith, one_more_bytes s b, after_bytes (one_more s b) bs)

-- what a call keeps
pub feed_kept : (x : Result (Option ℕ) PropFault) (r new : BlockReader) (piece : List ℕ) → BlockIs x new piece (run_block r piece) → IfOk x (λ o. kept_after o new ≤ kept_bytes r + length piece)
feed_kept (Ok None) r new piece e = subst (λ s. run_bytes s ≤ kept_bytes r + length piece) e (after_bytes (More r) piece)
feed_kept (Ok (Some k)) r new piece e = subst (λ s. run_bytes s ≤ kept_bytes r + length piece) e (after_bytes (More r) piece)
feed_kept (Err f) r new piece e = tt
