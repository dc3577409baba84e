-- Blocks of the grammar are read.
use Rattle.std.proofs.Common.{◌≡◌, ℕ, ◌+◌, ◌-◌, ◌≤◌, ◌<◌, ◌==◌, ◌&&◌, Bool, true, false, List, [], ◌∷◌, ◌++◌, length, nat_lt, Option, Some, None, refl, sym, ap, subst, ◌∙◌, append_assoc, append-nil, length-append, arith}
use Rattle.std.proofs.lemmas.Bool.Decides.{nat_tests}
use Rattle.std.specs.Bool.{if◌then◌else◌}
use Rattle.node_base.specs.Numbers.{is_digit, all_bytes, number_of}
use Rattle.node_base.specs.declared.prop_fault.PropFault.TheVariants.{BadProps}
use Rattle.node_base.specs.declared.block_part.Part.{Part}
use Rattle.node_base.specs.declared.block_part.Part.TheVariants.{Tag, KeyBlank, KeyCount, Name, NameEnd, ValueTag, ValueBlank, ValueCount, Value, ValueEnd}
use Rattle.node_base.specs.declared.block.BlockReader.{BlockReader}
use Rattle.node_base.specs.Blocks.{Next, Refused, Done, of_step, run_block, part_step, settled, after}
use Rattle.node_base.specs.BlockGrammar.{Spells, property, removal, block_end, BlockEntry, Sets, Removes, IsBlock, IsNewName, MayFollow, MayStand, with_all, without_all}
use Rattle.std.specs.FinMap as map
use Rattle.node_base.specs.Props.{PropMap, is_prop_name, props_fit, fits_with}
use Rattle.node_base.proofs.BlockRuns.{after-whole}
use Rattle.node_base.proofs.PropLemmas.{fits_any_value}

lt_true : (a b : ℕ) → a < b → nat_lt a b ≡ true
lt_true a b h = grind (arith, nat_tests)

lt_false : (a b : ℕ) → b ≤ a → nat_lt a b ≡ false
lt_false a b h = grind (arith, nat_tests)

pub eq_false : (a b : ℕ) → (a ≡ b → ⊥) → (a == b) ≡ false
eq_false a b h = grind (arith, nat_tests)

eq_true : (a b : ℕ) → a ≡ b → (a == b) ≡ true
eq_true a b h = grind (arith, nat_tests)

abbrev pub block : Bool → Bool → PropMap → ℕ → Part → Option (List ℕ) → PropMap → List ℕ → BlockReader
block delta removes removed left part name props held = record { left = left; part = part; name = name; props = props; held = held; delta = delta; removes = removes; removed = removed }

pub both : (a b : Bool) → (a && b) ≡ true → (a ≡ true) × (b ≡ true)
both true b e = (refl, e)
both false b e = cc

module _ (delta removes : Bool) (removed : PropMap) where
  abbrev here : ℕ → Part → Option (List ℕ) → PropMap → List ℕ → BlockReader
  here = block delta removes removed

  -- a step that isn't the last byte's
  pub goes : (left : ℕ) (part : Part) (name : Option (List ℕ)) (props : PropMap) (held : List ℕ) (b : ℕ) (bs : List ℕ) (next : BlockReader) → 1 < left → part_step part (here left part name props held) b ≡ Next next → run_block (here left part name props held) (b ∷ bs) ≡ run_block (record next { left = left - 1 }) bs
  goes left part name props held b bs next h e =
      let s : settled left (part_step part (here left part name props held) b) ≡ Next (record next { left = left - 1 }) = ap (settled left) e ∙ ap (λ t. if t then Next (record next { left = left - 1 }) else Refused BadProps) (lt_true 1 left h) in
      ap (λ t. after (of_step t) bs) s

  -- digits of a count
  pub key_digits : (left : ℕ) (name : Option (List ℕ)) (props : PropMap) (held ds bs : List ℕ) → all_bytes is_digit ds ≡ true → length ds < left → run_block (here left KeyCount name props held) (ds ++ bs) ≡ run_block (here (left - length ds) KeyCount name props (held ++ ds)) bs
  key_digits left name props held [] bs e h =
      let z : left - length {A = ℕ} [] ≡ left = omega arith in
      rw (z, append-nil) refl
  key_digits left name props held (d ∷ ds) bs e h =
      let p = both (is_digit d) (all_bytes is_digit ds) e in
      let z : left - 1 - length ds ≡ left - length (d ∷ ds) = omega arith in
      goes left KeyCount name props held d (ds ++ bs) (here left KeyCount name props (held ++ d ∷ [])) (omega arith) (rw p.0 refl)
      ∙ key_digits (left - 1) name props (held ++ d ∷ []) ds bs p.1 (omega arith)
      ∙ rw (z, append_assoc) refl

  pub value_digits : (left : ℕ) (name : Option (List ℕ)) (props : PropMap) (held ds bs : List ℕ) → all_bytes is_digit ds ≡ true → length ds < left → run_block (here left ValueCount name props held) (ds ++ bs) ≡ run_block (here (left - length ds) ValueCount name props (held ++ ds)) bs
  value_digits left name props held [] bs e h =
      let z : left - length {A = ℕ} [] ≡ left = omega arith in
      rw (z, append-nil) refl
  value_digits left name props held (d ∷ ds) bs e h =
      let p = both (is_digit d) (all_bytes is_digit ds) e in
      let z : left - 1 - length ds ≡ left - length (d ∷ ds) = omega arith in
      goes left ValueCount name props held d (ds ++ bs) (here left ValueCount name props (held ++ d ∷ [])) (omega arith) (rw p.0 refl)
      ∙ value_digits (left - 1) name props (held ++ d ∷ []) ds bs p.1 (omega arith)
      ∙ rw (z, append_assoc) refl

  -- the bytes of a value that isn't empty
  pub value_bytes : (left k : ℕ) (name : List ℕ) (props : PropMap) (held s bs : List ℕ) → 0 < length s → length held + length s ≡ k → length s < left → length (held ++ s) ≤ 65536 → props_fit (map.insert props name (held ++ s)) ≡ true → run_block (here left (Value k) (Some name) props held) (s ++ bs) ≡ run_block (here (left - length s) ValueEnd None (map.insert props name (held ++ s)) []) bs
  value_bytes left k name props held [] bs some e h small fit = absurd (omega arith)
  value_bytes left k name props held (b ∷ []) bs some e h small fit =
      goes left (Value k) (Some name) props held b bs (here left ValueEnd None (map.insert props name (held ++ b ∷ [])) []) (omega arith) (rw (lt_false (length held + 1) k (omega arith), lt_false 65536 (length (held ++ b ∷ [])) small, fit) refl)
  value_bytes left k name props held (b ∷ c ∷ s) bs some e h small fit =
      let z : left - 1 - length (c ∷ s) ≡ left - length (b ∷ c ∷ s) = omega arith in
      let a : (held ++ b ∷ []) ++ c ∷ s ≡ held ++ b ∷ c ∷ s = append_assoc held (b ∷ []) (c ∷ s) in
      goes left (Value k) (Some name) props held b (c ∷ s ++ bs) (here left (Value k) (Some name) props (held ++ b ∷ [])) (omega arith) (rw (lt_true (length held + 1) k (omega arith)) refl)
      ∙ value_bytes (left - 1) k name props (held ++ b ∷ []) (c ∷ s) bs (omega arith) (omega (arith, length-append held (b ∷ []))) (omega arith) (rw a small) (rw a fit)
      ∙ rw (z, a) refl

  -- the count of a name's bytes, at its LF
  pub key_lf : (left : ℕ) (name : Option (List ℕ)) (props : PropMap) (k bs : List ℕ) (n : ℕ) → number_of k ≡ n → 0 < n → n ≤ 255 → n + 1 < left → run_block (here left KeyCount name props k) (10 ∷ bs) ≡ run_block (here (left - 1) (Name n) name props []) bs
  key_lf left name props k bs n e pos le h =
      goes left KeyCount name props k 10 bs (here left (Name n) name props []) (omega arith) (rw (e, eq_false n 0 (omega arith), lt_false 255 n (omega arith), lt_true (n + 1) left h) refl)

  pub value_lf : (left : ℕ) (name : Option (List ℕ)) (props : PropMap) (v bs : List ℕ) (n : ℕ) → number_of v ≡ n → 0 < length v → 0 < n → n ≤ 65536 → n + 1 < left → run_block (here left ValueCount name props v) (10 ∷ bs) ≡ run_block (here (left - 1) (Value n) name props []) bs
  value_lf left name props v bs n e some pos le h =
      goes left ValueCount name props v 10 bs (here left (Value n) name props []) (omega arith) (rw (e, eq_false (length v) 0 (omega arith), lt_false 65536 n (omega arith), lt_true (n + 1) left h, eq_false n 0 (omega arith)) refl)

  pub value_lf_empty : (left : ℕ) (name : List ℕ) (props : PropMap) (v bs : List ℕ) → number_of v ≡ 0 → 0 < length v → 1 < left → props_fit (map.insert props name []) ≡ true → run_block (here left ValueCount (Some name) props v) (10 ∷ bs) ≡ run_block (here (left - 1) ValueEnd None (map.insert props name []) []) bs
  value_lf_empty left name props v bs e some h fit =
      goes left ValueCount (Some name) props v 10 bs (here left ValueEnd None (map.insert props name []) []) (omega arith) (rw (e, eq_false (length v) 0 (omega arith), lt_true 1 left (omega arith), fit) refl)

  -- a count and a value
  pub value_part : (left : ℕ) (name : List ℕ) (props : PropMap) (v value bs : List ℕ) → Spells v (length value) → length value ≤ 65536 → props_fit (map.insert props name value) ≡ true → length v + length value + 2 < left → run_block (here left ValueCount (Some name) props []) (v ++ 10 ∷ (value ++ bs)) ≡ run_block (here (left - (length v + 1 + length value)) ValueEnd None (map.insert props name value) []) bs
  value_part left name props v [] bs s le fit h =
      let z : left - length v - 1 ≡ left - (length v + 1 + length {A = ℕ} []) = omega arith in
      value_digits left (Some name) props [] v (10 ∷ bs) s.digits_only (omega arith)
      ∙ value_lf_empty (left - length v) name props v bs s.number s.some (omega arith) fit
      ∙ rw z refl
  value_part left name props v (b ∷ value) bs s le fit h =
      let z : left - length v - 1 - length (b ∷ value) ≡ left - (length v + 1 + length (b ∷ value)) = omega arith in
      value_digits left (Some name) props [] v (10 ∷ (b ∷ value ++ bs)) s.digits_only (omega arith)
      ∙ value_lf (left - length v) (Some name) props v (b ∷ value ++ bs) (length (b ∷ value)) s.number s.some (omega arith) le (omega arith)
      ∙ value_bytes (left - length v - 1) (length (b ∷ value)) name props [] (b ∷ value) bs (omega arith) (omega arith) (omega arith) le fit
      ∙ rw z refl

-- the bytes of a name whose value follows
pub name_bytes : (delta : Bool) (removed : PropMap) (left k : ℕ) (name : Option (List ℕ)) (props : PropMap) (held s bs : List ℕ) → 0 < length s → length held + length s ≡ k → length s < left → IsNewName props removed (held ++ s) → fits_with props (held ++ s) ≡ true → run_block (block delta false removed left (Name k) name props held) (s ++ bs) ≡ run_block (block delta false removed (left - length s) NameEnd (Some (held ++ s)) props []) bs
name_bytes delta removed left k name props held [] bs some e h new fit = absurd (omega arith)
name_bytes delta removed left k name props held (b ∷ []) bs some e h new fit =
    goes delta false removed left (Name k) name props held b bs (block delta false removed left NameEnd (Some (held ++ b ∷ [])) props []) (omega arith) (rw (lt_false (length held + 1) k (omega arith), lt_false 255 (length (held ++ b ∷ [])) new.short, new.rule, new.unset, new.unremoved, fit) refl)
name_bytes delta removed left k name props held (b ∷ c ∷ s) bs some e h new fit =
    let z : left - 1 - length (c ∷ s) ≡ left - length (b ∷ c ∷ s) = omega arith in
    let a : (held ++ b ∷ []) ++ c ∷ s ≡ held ++ b ∷ c ∷ s = append_assoc held (b ∷ []) (c ∷ s) in
    goes delta false removed left (Name k) name props held b (c ∷ s ++ bs) (block delta false removed left (Name k) name props (held ++ b ∷ [])) (omega arith) (rw (lt_true (length held + 1) k (omega arith)) refl)
    ∙ name_bytes delta removed (left - 1) k name props (held ++ b ∷ []) (c ∷ s) bs (omega arith) (omega (arith, length-append held (b ∷ []))) (omega arith) (subst (IsNewName props removed) (sym a) new) (ap (fits_with props) a ∙ fit)
    ∙ rw (z, a) refl

-- the bytes of a name that is removed
pub removed_bytes : (delta : Bool) (removed : PropMap) (left k : ℕ) (name : Option (List ℕ)) (props : PropMap) (held s bs : List ℕ) → 0 < length s → length held + length s ≡ k → length s < left → IsNewName props removed (held ++ s) → run_block (block delta true removed left (Name k) name props held) (s ++ bs) ≡ run_block (block delta true (map.insert removed (held ++ s) []) (left - length s) ValueEnd name props []) bs
removed_bytes delta removed left k name props held [] bs some e h new = absurd (omega arith)
removed_bytes delta removed left k name props held (b ∷ []) bs some e h new =
    goes delta true removed left (Name k) name props held b bs (block delta true (map.insert removed (held ++ b ∷ []) []) left ValueEnd name props []) (omega arith) (rw (lt_false (length held + 1) k (omega arith), lt_false 255 (length (held ++ b ∷ [])) new.short, new.rule, new.unset, new.unremoved) refl)
removed_bytes delta removed left k name props held (b ∷ c ∷ s) bs some e h new =
    let z : left - 1 - length (c ∷ s) ≡ left - length (b ∷ c ∷ s) = omega arith in
    let a : (held ++ b ∷ []) ++ c ∷ s ≡ held ++ b ∷ c ∷ s = append_assoc held (b ∷ []) (c ∷ s) in
    goes delta true removed left (Name k) name props held b (c ∷ s ++ bs) (block delta true removed left (Name k) name props (held ++ b ∷ [])) (omega arith) (rw (lt_true (length held + 1) k (omega arith)) refl)
    ∙ removed_bytes delta removed (left - 1) k name props (held ++ b ∷ []) (c ∷ s) bs (omega arith) (omega (arith, length-append held (b ∷ []))) (omega arith) (subst (IsNewName props removed) (sym a) new)
    ∙ rw (z, a) refl

-- one property
pub property_length : (k name v value : List ℕ) → length (property k name v value) ≡ length k + length name + length v + length value + 8
property_length k name v value =
    omega (arith, length-append k (10 ∷ (name ++ 10 ∷ 86 ∷ 32 ∷ (v ++ 10 ∷ (value ++ 10 ∷ [])))), length-append name (10 ∷ 86 ∷ 32 ∷ (v ++ 10 ∷ (value ++ 10 ∷ []))), length-append v (10 ∷ (value ++ 10 ∷ [])), length-append value (10 ∷ []))

pub property_text : (k name v value bs : List ℕ) → property k name v value ++ bs ≡ 75 ∷ 32 ∷ (k ++ 10 ∷ (name ++ 10 ∷ 86 ∷ 32 ∷ (v ++ 10 ∷ (value ++ 10 ∷ bs))))
property_text k name v value bs = simp append_assoc

name_some : (name : List ℕ) → is_prop_name name ≡ true → 0 < length name
name_some [] e = cc
name_some (b ∷ bs) e = omega arith

pub property_read : (delta removes : Bool) (removed : PropMap) (left : ℕ) (props : PropMap) (k name v value bs : List ℕ) → Spells k (length name) → Spells v (length value) → MayFollow props removed name value → length k + length name + length v + length value + 8 < left → run_block (block delta removes removed left Tag None props []) (property k name v value ++ bs) ≡ run_block (block delta false removed (left - (length k + length name + length v + length value + 8)) Tag None (map.insert props name value) []) bs
property_read delta removes removed left props k name v value bs sk sv m h =
    let left-2 = left - 1 - 1 in
    let left-3 = left-2 - length k - 1 in
    let left-4 = left-3 - length name - 1 - 1 - 1 in
    let left-5 = left-4 - (length v + 1 + length value) - 1 in
    let behind-v = value ++ 10 ∷ bs in
    let behind-name = 10 ∷ 86 ∷ 32 ∷ (v ++ 10 ∷ behind-v) in
    let behind-k = 10 ∷ (name ++ behind-name) in
    let some : 0 < length name = name_some name m.new.rule in
    let fit : fits_with props name ≡ true = fits_any_value props name [] value ∙ m.fit in
    let z : left-5 ≡ left - (length k + length name + length v + length value + 8) = omega arith in
    ap (run_block (block delta removes removed left Tag None props [])) (property_text k name v value bs)
    ∙ goes delta removes removed left Tag None props [] 75 (32 ∷ (k ++ behind-k)) (block delta false removed left KeyBlank None props []) (omega arith) refl
    ∙ goes delta false removed (left - 1) KeyBlank None props [] 32 (k ++ behind-k) (block delta false removed (left - 1) KeyCount None props []) (omega arith) refl
    ∙ key_digits delta false removed left-2 None props [] k behind-k sk.digits_only (omega arith)
    ∙ key_lf delta false removed (left-2 - length k) None props k (name ++ behind-name) (length name) sk.number some m.new.short (omega arith)
    ∙ name_bytes delta removed left-3 (length name) None props [] name behind-name some (omega arith) (omega arith) m.new fit
    ∙ goes delta false removed (left-3 - length name) NameEnd (Some name) props [] 10 (86 ∷ 32 ∷ (v ++ 10 ∷ behind-v)) (block delta false removed (left-3 - length name) ValueTag (Some name) props []) (omega arith) refl
    ∙ goes delta false removed (left-3 - length name - 1) ValueTag (Some name) props [] 86 (32 ∷ (v ++ 10 ∷ behind-v)) (block delta false removed (left-3 - length name - 1) ValueBlank (Some name) props []) (omega arith) refl
    ∙ goes delta false removed (left-3 - length name - 1 - 1) ValueBlank (Some name) props [] 32 (v ++ 10 ∷ behind-v) (block delta false removed (left-3 - length name - 1 - 1) ValueCount (Some name) props []) (omega arith) refl
    ∙ value_part delta false removed left-4 name props v value (10 ∷ bs) sv m.small m.fit (omega arith)
    ∙ goes delta false removed (left-4 - (length v + 1 + length value)) ValueEnd None (map.insert props name value) [] 10 bs (block delta false removed (left-4 - (length v + 1 + length value)) Tag None (map.insert props name value) []) (omega arith) refl
    ∙ rw z refl

-- one name that is removed
pub removal_length : (k name : List ℕ) → length (removal k name) ≡ length k + length name + 4
removal_length k name = omega (arith, length-append k (10 ∷ (name ++ 10 ∷ [])), length-append name (10 ∷ []))

pub removal_text : (k name bs : List ℕ) → removal k name ++ bs ≡ 68 ∷ 32 ∷ (k ++ 10 ∷ (name ++ 10 ∷ bs))
removal_text k name bs = simp append_assoc

tag_of_removal : (delta removes : Bool) (removed : PropMap) (left : ℕ) (props : PropMap) → delta ≡ true → part_step Tag (block delta removes removed left Tag None props []) 68 ≡ Next (block delta true removed left KeyBlank None props [])
tag_of_removal delta removes removed left props is = rw is refl

pub removal_read : (delta removes : Bool) (removed : PropMap) (left : ℕ) (props : PropMap) (k name bs : List ℕ) → delta ≡ true → Spells k (length name) → IsNewName props removed name → length k + length name + 4 < left → run_block (block delta removes removed left Tag None props []) (removal k name ++ bs) ≡ run_block (block delta true (map.insert removed name []) (left - (length k + length name + 4)) Tag None props []) bs
removal_read delta removes removed left props k name bs is sk m h =
    let left-2 = left - 1 - 1 in
    let left-3 = left-2 - length k - 1 in
    let left-4 = left-3 - length name - 1 in
    let some : 0 < length name = name_some name m.rule in
    let z : left-4 ≡ left - (length k + length name + 4) = omega arith in
    ap (run_block (block delta removes removed left Tag None props [])) (removal_text k name bs)
    ∙ goes delta removes removed left Tag None props [] 68 (32 ∷ (k ++ 10 ∷ (name ++ 10 ∷ bs))) (block delta true removed left KeyBlank None props []) (omega arith) (tag_of_removal delta removes removed left props is)
    ∙ goes delta true removed (left - 1) KeyBlank None props [] 32 (k ++ 10 ∷ (name ++ 10 ∷ bs)) (block delta true removed (left - 1) KeyCount None props []) (omega arith) refl
    ∙ key_digits delta true removed left-2 None props [] k (10 ∷ (name ++ 10 ∷ bs)) sk.digits_only (omega arith)
    ∙ key_lf delta true removed (left-2 - length k) None props k (name ++ 10 ∷ bs) (length name) sk.number some m.short (omega arith)
    ∙ removed_bytes delta removed left-3 (length name) None props [] name (10 ∷ bs) some (omega arith) (omega arith) m
    ∙ goes delta true (map.insert removed name []) (left-3 - length name) ValueEnd None props [] 10 bs (block delta true (map.insert removed name []) (left-3 - length name) Tag None props []) (omega arith) refl
    ∙ rw z refl

-- ---- all entries

pub end_read : (delta removes : Bool) (removed props : PropMap) (bs : List ℕ) → run_block (block delta removes removed 10 Tag None props []) (block_end ++ bs) ≡ Done props removed bs
end_read false removes removed props bs = after-whole props removed [] bs
end_read true removes removed props bs = after-whole props removed [] bs

-- a block is never shorter than its end
pub block_long : (delta : Bool) (bytes : List ℕ) (es : List BlockEntry) → IsBlock delta bytes es → 10 ≤ length bytes
block_long delta bytes [] e = omega (arith, ap length e)
block_long delta bytes (Sets name value ∷ es) (k, v, rest, sk, sv, b, e) = omega (arith, ap length e, length-append (property k name v value) rest, block_long delta rest es b)
block_long delta bytes (Removes name ∷ es) (k, rest, is, sk, b, e) = omega (arith, ap length e, length-append (removal k name) rest, block_long delta rest es b)

pub block_read : (delta removes : Bool) (removed : PropMap) (bytes more : List ℕ) (props : PropMap) (es : List BlockEntry) → IsBlock delta bytes es → MayStand props removed es → run_block (block delta removes removed (length bytes) Tag None props []) (bytes ++ more) ≡ Done (with_all props es) (without_all removed es) more
block_read delta removes removed bytes more props [] e m = rw e (end_read delta removes removed props more)
block_read delta removes removed bytes more props (Sets name value ∷ es) (k, v, rest, sk, sv, b, e) m =
    let n = length k + length name + length v + length value + 8 in
    let l : length bytes ≡ n + length rest = omega (arith, ap length e, length-append (property k name v value) rest, property_length k name v value) in
    let z : length bytes - n ≡ length rest = omega arith in
    ap (λ x. run_block (block delta removes removed (length bytes) Tag None props []) (x ++ more)) e
    ∙ ap (run_block (block delta removes removed (length bytes) Tag None props [])) (append_assoc (property k name v value) rest more)
    ∙ property_read delta removes removed (length bytes) props k name v value (rest ++ more) sk sv m.0 (omega (arith, block_long delta rest es b))
    ∙ ap (λ x. run_block (block delta false removed x Tag None (map.insert props name value) []) (rest ++ more)) z
    ∙ block_read delta false removed rest more (map.insert props name value) es b m.1
block_read delta removes removed bytes more props (Removes name ∷ es) (k, rest, is, sk, b, e) m =
    let n = length k + length name + 4 in
    let l : length bytes ≡ n + length rest = omega (arith, ap length e, length-append (removal k name) rest, removal_length k name) in
    let z : length bytes - n ≡ length rest = omega arith in
    ap (λ x. run_block (block delta removes removed (length bytes) Tag None props []) (x ++ more)) e
    ∙ ap (run_block (block delta removes removed (length bytes) Tag None props [])) (append_assoc (removal k name) rest more)
    ∙ removal_read delta removes removed (length bytes) props k name (rest ++ more) is sk m.0 (omega (arith, block_long delta rest es b))
    ∙ ap (λ x. run_block (block delta true (map.insert removed name []) x Tag None props []) (rest ++ more)) z
    ∙ block_read delta true (map.insert removed name []) rest more props es b m.1
