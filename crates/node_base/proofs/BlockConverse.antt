-- What is read is a block of the grammar.
use Rattle.std.proofs.Common.{◌≡◌, ℕ, suc, ◌+◌, ◌-◌, ◌≤◌, ◌<◌, ◌==◌, ◌&&◌, ◌||◌, not, Bool, true, false, List, [], ◌∷◌, ◌++◌, length, drop, nat_lt, Option, Some, None, refl, sym, ap, subst, ◌∙◌, append_assoc, append-nil, length-append, drop-cons, arith}
use Rattle.std.proofs.lemmas.Bool.{eqb-true}
use Rattle.std.proofs.lemmas.Bool.Decides.{nat_tests}
use Rattle.std.specs.Bool.{if◌then◌else◌}
use Rattle.std.specs.List.{slice_index_or}
use Rattle.std.specs.FinMap as map
use Rattle.node_base.specs.Numbers.{is_digit, all_bytes, number_of}
use Rattle.node_base.specs.Props.{PropMap, is_prop_name, props_fit, fits_with}
use Rattle.node_base.specs.declared.prop_fault.PropFault.{PropFault}
use Rattle.node_base.specs.declared.prop_fault.PropFault.TheVariants.{BadProps, TooLong}
use Rattle.node_base.specs.declared.block_part.Part.{Part}
use Rattle.node_base.specs.declared.block_part.Part.TheVariants.{Tag, KeyBlank, KeyCount, Name, NameEnd, ValueTag, ValueBlank, ValueCount, Value, ValueEnd, Ending}
use Rattle.node_base.specs.declared.block.BlockReader.{BlockReader}
use Rattle.node_base.specs.Blocks.{Step, Next, Whole, Refused, More, Done, Fault, of_step, run_block, begun, part_step, settled, after, only, keep, go, begins, judged_count, is_new, named, name_is, value_at, ending}
use Rattle.node_base.specs.BlockGrammar.{Spells, property, removal, BlockEntry, Sets, Removes, IsBlock, IsNewName, MayStand, with_all, without_all}
use Rattle.node_base.specs.BlockLaws.{ReadBlock}
use Rattle.node_base.proofs.BlockRuns.{after-whole, after-refused}
use Rattle.node_base.proofs.BlockSpelled.{block, both, property_text, removal_text}
use Rattle.node_base.proofs.BlockWritten.{all_from_entries}

-- the properties and the removed names that a block gives in the end
abbrev Maps : Type 0
Maps = PropMap × PropMap

-- ---- what one byte did, where the block was read in the end

abbrev Split : ℕ → Step → List ℕ → Maps → List ℕ → Type 0
Split left (Next r) bs m rest = (1 < left) × (run_block (record r { left = left - 1 }) bs ≡ Done m.0 m.1 rest)
Split left (Whole props removed) bs m rest = (left ≡ 1) × (m.0 ≡ props) × (m.1 ≡ removed) × (bs ≡ rest)
Split left (Refused f) bs m rest = ⊥

lt_is : (a b : ℕ) → nat_lt a b ≡ true → a < b
lt_is a b e = grind (arith, nat_tests)

not_lt : (a b : ℕ) → nat_lt a b ≡ false → b ≤ a
not_lt a b e = grind (arith, nat_tests)

not_eq : (a b : ℕ) → (a == b) ≡ false → a ≡ b → ⊥
not_eq a b e h = grind (arith, nat_tests)

refused_never : (f : PropFault) (bs : List ℕ) (m : Maps) (rest : List ℕ) → after (Fault f) bs ≡ Done m.0 m.1 rest → ⊥
refused_never f bs m rest e = let r = after-refused f bs in cc

split_step : (left : ℕ) (step : Step) (bs : List ℕ) (m : Maps) (rest : List ℕ) → after (of_step (settled left step)) bs ≡ Done m.0 m.1 rest → Split left step bs m rest
split_step left (Next r) bs m rest e =
    elim (nat_lt 1 left) as (λ t. nat_lt 1 left ≡ t → after (of_step (if t then Next (record r { left = left - 1 }) else Refused BadProps)) bs ≡ Done m.0 m.1 rest → (1 < left) × (run_block (record r { left = left - 1 }) bs ≡ Done m.0 m.1 rest)) [
      | true ↦ λ t e. (lt_is 1 left t, e)
      | false ↦ λ t e. absurd (refused_never BadProps bs m rest e)
    ] refl e
split_step left (Whole props removed) bs m rest e =
    elim (left == 1) as (λ t. (left == 1) ≡ t → after (of_step (if t then Whole props removed else Refused BadProps)) bs ≡ Done m.0 m.1 rest → (left ≡ 1) × (m.0 ≡ props) × (m.1 ≡ removed) × (bs ≡ rest)) [
      | true ↦ λ t e. let w = after-whole props removed [] bs in let same : Done props removed bs ≡ Done m.0 m.1 rest = sym w ∙ e in (eqb-true left 1 t, cc, cc, cc)
      | false ↦ λ t e. absurd (refused_never BadProps bs m rest e)
    ] refl e
split_step left (Refused f) bs m rest e = refused_never f bs m rest e

-- ---- what is still to come at each part

-- the rest of a block has so many bytes and this form
pub record Told (form : List ℕ → Type 0) (left : ℕ) (bs rest : List ℕ) : Type 0 where
  pub tail : List ℕ
  pub front : bs ≡ tail ++ rest
  pub whole : length tail ≡ left
  pub form_is : form tail

-- a byte more in front
grow : (F G : List ℕ → Type 0) (b left : ℕ) (bs rest : List ℕ) → 1 < left → Told F (left - 1) bs rest → ((t : List ℕ) → F t → G (b ∷ t)) → Told G left (b ∷ bs) rest
grow F G b left bs rest h x f = record { tail = b ∷ x.tail; front = ap (λ y. b ∷ y) x.front; whole = omega (arith, x.whole); form_is = f x.tail x.form_is }

abbrev FormTag : Bool → PropMap → PropMap → Maps → List ℕ → Type 0
FormTag delta removed props m tail = (es : List BlockEntry) × IsBlock delta tail es × MayStand props removed es × (m.0 ≡ with_all props es) × (m.1 ≡ without_all removed es)

abbrev FormValueEnd : Bool → PropMap → PropMap → Maps → List ℕ → Type 0
FormValueEnd delta removed props m tail = (t : List ℕ) × (tail ≡ 10 ∷ t) × FormTag delta removed props m t

pub record FormValue (delta : Bool) (removed : PropMap) (n : ℕ) (name : List ℕ) (props : PropMap) (held : List ℕ) (m : Maps) (tail : List ℕ) : Type 0 where
  pub s : List ℕ
  pub t : List ℕ
  pub cut : tail ≡ s ++ t
  pub long : length held + length s ≡ n
  pub small : length (held ++ s) ≤ 65536
  pub fit : props_fit (map.insert props name (held ++ s)) ≡ true
  pub next : FormValueEnd delta removed (map.insert props name (held ++ s)) m t

pub record FormValueCount (delta : Bool) (removed : PropMap) (name : List ℕ) (props : PropMap) (held : List ℕ) (m : Maps) (tail : List ℕ) : Type 0 where
  pub ds : List ℕ
  pub value : List ℕ
  pub t : List ℕ
  pub cut : tail ≡ ds ++ 10 ∷ (value ++ t)
  pub spells : Spells (held ++ ds) (length value)
  pub small : length value ≤ 65536
  pub fit : props_fit (map.insert props name value) ≡ true
  pub next : FormValueEnd delta removed (map.insert props name value) m t

abbrev FormValueBlank : Bool → PropMap → List ℕ → PropMap → Maps → List ℕ → Type 0
FormValueBlank delta removed name props m tail = (t : List ℕ) × (tail ≡ 32 ∷ t) × FormValueCount delta removed name props [] m t

abbrev FormValueTag : Bool → PropMap → List ℕ → PropMap → Maps → List ℕ → Type 0
FormValueTag delta removed name props m tail = (t : List ℕ) × (tail ≡ 86 ∷ t) × FormValueBlank delta removed name props m t

abbrev FormNameEnd : Bool → PropMap → List ℕ → PropMap → Maps → List ℕ → Type 0
FormNameEnd delta removed name props m tail = (t : List ℕ) × (tail ≡ 10 ∷ t) × FormValueTag delta removed name props m t

-- behind a name: the rest of its property, or the end of the line where it is removed
abbrev FormNamed : Bool → Bool → PropMap → List ℕ → PropMap → Maps → List ℕ → Type 0
FormNamed true delta removed name props m tail = FormValueEnd delta (map.insert removed name []) props m tail
FormNamed false delta removed name props m tail = FormNameEnd delta removed name props m tail

pub record FormName (removes delta : Bool) (removed : PropMap) (n : ℕ) (props : PropMap) (held : List ℕ) (m : Maps) (tail : List ℕ) : Type 0 where
  pub s : List ℕ
  pub t : List ℕ
  pub cut : tail ≡ s ++ t
  pub long : length held + length s ≡ n
  pub new : IsNewName props removed (held ++ s)
  pub next : FormNamed removes delta removed (held ++ s) props m t

pub record FormKeyCount (removes delta : Bool) (removed props : PropMap) (held : List ℕ) (m : Maps) (tail : List ℕ) : Type 0 where
  pub ds : List ℕ
  pub name : List ℕ
  pub t : List ℕ
  pub cut : tail ≡ ds ++ 10 ∷ (name ++ t)
  pub spells : Spells (held ++ ds) (length name)
  pub new : IsNewName props removed name
  pub next : FormNamed removes delta removed name props m t

abbrev FormKeyBlank : Bool → Bool → PropMap → PropMap → Maps → List ℕ → Type 0
FormKeyBlank removes delta removed props m tail = (t : List ℕ) × (tail ≡ 32 ∷ t) × FormKeyCount removes delta removed props [] m t

abbrev FormEnding : PropMap → PropMap → List ℕ → Maps → List ℕ → Type 0
FormEnding removed props held m tail = (tail ≡ drop (length held) ending) × (m.0 ≡ props) × (m.1 ≡ removed)

abbrev given : Option (List ℕ) → (List ℕ → Type 0) → Type 0
given None F = ⊥
given (Some name) F = F name

given_by : (name : Option (List ℕ)) (F G : List ℕ → Type 0) → ((n : List ℕ) → F n → G n) → given name F → given name G
given_by None F G f x = x
given_by (Some n) F G f x = f n x

abbrev Form : Bool → Bool → PropMap → Part → Option (List ℕ) → PropMap → List ℕ → Maps → List ℕ → Type 0
Form removes delta removed Tag name props held m tail = FormTag delta removed props m tail
Form removes delta removed KeyBlank name props held m tail = FormKeyBlank removes delta removed props m tail
Form removes delta removed KeyCount name props held m tail = FormKeyCount removes delta removed props held m tail
Form removes delta removed (Name n) name props held m tail = FormName removes delta removed n props held m tail
Form removes delta removed NameEnd name props held m tail = given name (λ x. FormNameEnd delta removed x props m tail)
Form removes delta removed ValueTag name props held m tail = given name (λ x. FormValueTag delta removed x props m tail)
Form removes delta removed ValueBlank name props held m tail = given name (λ x. FormValueBlank delta removed x props m tail)
Form removes delta removed ValueCount name props held m tail = given name (λ x. FormValueCount delta removed x props held m tail)
Form removes delta removed (Value n) name props held m tail = given name (λ x. FormValue delta removed n x props held m tail)
Form removes delta removed ValueEnd name props held m tail = FormValueEnd delta removed props m tail
Form removes delta removed Ending name props held m tail = FormEnding removed props held m tail

-- what is held at a part that is reached
abbrev Ready : Part → List ℕ → Type 0
Ready KeyCount held = all_bytes is_digit held ≡ true
Ready ValueCount held = all_bytes is_digit held ≡ true
Ready (Name n) held = length held < n
Ready (Value n) held = length held < n
Ready Ending held = length held < 9
Ready part held = Unit {0}

abbrev Later : Bool → List ℕ → Maps → List ℕ → Type 0
Later delta bs m rest = (removes : Bool) (removed : PropMap) (left : ℕ) (part : Part) (name : Option (List ℕ)) (props : PropMap) (held : List ℕ) → Ready part held → run_block (block delta removes removed left part name props held) bs ≡ Done m.0 m.1 rest → Told (Form removes delta removed part name props held m) left bs rest

-- ---- tests that held

digit_more : (held : List ℕ) (b : ℕ) → all_bytes is_digit held ≡ true → is_digit b ≡ true → all_bytes is_digit (held ++ b ∷ []) ≡ true
digit_more [] b r d = rw d refl
digit_more (c ∷ held) b r d = let p = both (is_digit c) (all_bytes is_digit held) r in rw (p.0, digit_more held b p.1 d) refl

not_true : (b : Bool) → not b ≡ true → b ≡ false
not_true true e = cc
not_true false e = refl

held_some : (held : List ℕ) → 0 < number_of held → 0 < length held
held_some [] h = h
held_some (c ∷ held) h = omega arith

judged : (left limit n : ℕ) (step : Step) (bs : List ℕ) (m : Maps) (rest : List ℕ) → Split left (judged_count limit n left step) bs m rest → (n ≤ limit) × (n + 1 < left) × Split left step bs m rest
judged left limit n step bs m rest x =
    elim (nat_lt limit n) as (λ t. nat_lt limit n ≡ t → Split left (if t then Refused TooLong else (if nat_lt (n + 1) left then step else Refused BadProps)) bs m rest → (n ≤ limit) × (n + 1 < left) × Split left step bs m rest) [
      | true ↦ λ t x. absurd x
      | false ↦ λ t x.
          elim (nat_lt (n + 1) left) as (λ u. nat_lt (n + 1) left ≡ u → Split left (if u then step else Refused BadProps) bs m rest → (n ≤ limit) × (n + 1 < left) × Split left step bs m rest) [
            | true ↦ λ u x. (not_lt limit n t, lt_is (n + 1) left u, x)
            | false ↦ λ u x. absurd x
          ] refl x
    ] refl x

not_either : (a b : Bool) → not (a || b) ≡ true → (a ≡ false) × (b ≡ false)
not_either true b e = cc
not_either false true e = cc
not_either false false e = (refl, refl)

-- a name that was taken
name_kept : (left : ℕ) (r : BlockReader) (n : List ℕ) (bs : List ℕ) (m : Maps) (rest : List ℕ) → Split left (name_is r n) bs m rest → IsNewName r.props r.removed n × Split left (named r.removes r n) bs m rest
name_kept left r n bs m rest x =
    elim (nat_lt 255 (length n)) as (λ t. nat_lt 255 (length n) ≡ t → Split left (if t then Refused TooLong else (if is_prop_name n && is_new r n then named r.removes r n else Refused BadProps)) bs m rest → IsNewName r.props r.removed n × Split left (named r.removes r n) bs m rest) [
      | true ↦ λ t x. absurd x
      | false ↦ λ t x.
          elim (is_prop_name n && is_new r n) as (λ u. (is_prop_name n && is_new r n) ≡ u → Split left (if u then named r.removes r n else Refused BadProps) bs m rest → IsNewName r.props r.removed n × Split left (named r.removes r n) bs m rest) [
            | true ↦ λ u x.
                let p = both (is_prop_name n) (is_new r n) u in
                let q = not_either (map.contains_key r.props n) (map.contains_key r.removed n) p.1 in
                (record { rule = p.0; short = not_lt 255 (length n) t; unset = q.0; unremoved = q.1 }, x)
            | false ↦ λ u x. absurd x
          ] refl x
    ] refl x

-- whose value is to come
awaits_value : (left : ℕ) (r : BlockReader) (n : List ℕ) (bs : List ℕ) (m : Maps) (rest : List ℕ) → Split left (named false r n) bs m rest → (1 < left) × (run_block (block r.delta r.removes r.removed (left - 1) NameEnd (Some n) r.props []) bs ≡ Done m.0 m.1 rest)
awaits_value left r n bs m rest x =
    elim (fits_with r.props n) as (λ v. Split left (if v then Next (record r { part = NameEnd; name = Some n; held = [] }) else Refused TooLong) bs m rest → (1 < left) × (run_block (block r.delta r.removes r.removed (left - 1) NameEnd (Some n) r.props []) bs ≡ Done m.0 m.1 rest)) [
      | true ↦ λ x. (x.0, x.1)
      | false ↦ λ x. absurd x
    ] x

value_kept : (left : ℕ) (r : BlockReader) (name value : List ℕ) (bs : List ℕ) (m : Maps) (rest : List ℕ) → Split left (value_at r (Some name) value) bs m rest → (length value ≤ 65536) × (props_fit (map.insert r.props name value) ≡ true) × (1 < left) × (run_block (block r.delta r.removes r.removed (left - 1) ValueEnd None (map.insert r.props name value) []) bs ≡ Done m.0 m.1 rest)
value_kept left r name value bs m rest x =
    elim (nat_lt 65536 (length value)) as (λ t. nat_lt 65536 (length value) ≡ t → Split left (if t then Refused TooLong else (if props_fit (map.insert r.props name value) then Next (record r { part = ValueEnd; props = map.insert r.props name value; name = None; held = [] }) else Refused TooLong)) bs m rest → (length value ≤ 65536) × (props_fit (map.insert r.props name value) ≡ true) × (1 < left) × (run_block (block r.delta r.removes r.removed (left - 1) ValueEnd None (map.insert r.props name value) []) bs ≡ Done m.0 m.1 rest)) [
      | true ↦ λ t x. absurd x
      | false ↦ λ t x.
          elim (props_fit (map.insert r.props name value)) as (λ v. props_fit (map.insert r.props name value) ≡ v → Split left (if v then Next (record r { part = ValueEnd; props = map.insert r.props name value; name = None; held = [] }) else Refused TooLong) bs m rest → (length value ≤ 65536) × (props_fit (map.insert r.props name value) ≡ true) × (1 < left) × (run_block (block r.delta r.removes r.removed (left - 1) ValueEnd None (map.insert r.props name value) []) bs ≡ Done m.0 m.1 rest)) [
            | true ↦ λ v x. (not_lt 65536 (length value) t, v, x.0, x.1)
            | false ↦ λ v x. absurd x
          ] refl x
    ] refl x

-- the last byte of PROPS-END and LF, and an earlier one
last_byte : (n b : ℕ) → n ≡ 8 → b ≡ slice_index_or ending n 256 → b ∷ [] ≡ drop n ending
last_byte n b e at = rw e (ap (λ y. y ∷ []) (at ∙ ap (λ i. slice_index_or ending i 256) e))

next_byte : (held : List ℕ) (b : ℕ) (tail : List ℕ) → length held < 9 → b ≡ slice_index_or ending (length held) 256 → tail ≡ drop (length (held ++ b ∷ [])) ending → b ∷ tail ≡ drop (length held) ending
next_byte held b tail h at e =
    let longer : length (held ++ b ∷ []) ≡ suc (length held) = omega (arith, length-append held (b ∷ [])) in
    ap (λ y. b ∷ y) (e ∙ ap (λ i. drop i ending) longer) ∙ ap (λ c. c ∷ drop (suc (length held)) ending) at ∙ sym (drop-cons ending (length held) 256 h)

-- a property in front
one_property : (delta : Bool) (removed props : PropMap) (m : Maps) (tail : List ℕ) → FormKeyBlank false delta removed props m tail → FormTag delta removed props m (75 ∷ tail)
one_property delta removed props m tail (t, e, k) =
    let n1 = k.next in
    let n2 = n1.2 in
    let n3 = n2.2 in
    let v = n3.2 in
    let last = v.next in
    let rest = last.2 in
    let spelled : 75 ∷ tail ≡ property k.ds k.name v.ds v.value ++ last.0 =
    ap (λ y. 75 ∷ y) (e ∙ ap (λ y. 32 ∷ y) (k.cut ∙ ap (λ y. k.ds ++ 10 ∷ (k.name ++ y)) (n1.1 ∙ ap (λ y. 10 ∷ y) (n2.1 ∙ ap (λ y. 86 ∷ y) (n3.1 ∙ ap (λ y. 32 ∷ y) (v.cut ∙ ap (λ y. v.ds ++ 10 ∷ (v.value ++ y)) last.1))))))
    ∙ sym (property_text k.ds k.name v.ds v.value last.0) in
    (Sets k.name v.value ∷ rest.0, (k.ds, v.ds, last.0, k.spells, v.spells, rest.1, spelled), (record { new = k.new; small = v.small; fit = v.fit }, rest.2), rest.3, rest.4)

-- a name that is removed in front
one_removal : (delta : Bool) (removed props : PropMap) (m : Maps) (tail : List ℕ) → delta ≡ true → FormKeyBlank true delta removed props m tail → FormTag delta removed props m (68 ∷ tail)
one_removal delta removed props m tail is (t, e, k) =
    let last = k.next in
    let rest = last.2 in
    let spelled : 68 ∷ tail ≡ removal k.ds k.name ++ last.0 = ap (λ y. 68 ∷ y) (e ∙ ap (λ y. 32 ∷ y) (k.cut ∙ ap (λ y. k.ds ++ 10 ∷ (k.name ++ y)) last.1)) ∙ sym (removal_text k.ds k.name last.0) in
    (Removes k.name ∷ rest.0, (k.ds, last.0, is, k.spells, rest.1, spelled), (k.new, rest.2), rest.3, rest.4)

-- ---- part by part

module _ (delta removes : Bool) (removed : PropMap) (bs : List ℕ) (m : Maps) (rest : List ℕ) (ih : Later delta bs m rest) (left : ℕ) (name : Option (List ℕ)) (props : PropMap) (held : List ℕ) (b : ℕ) where
  abbrev here : ℕ → Part → Option (List ℕ) → PropMap → List ℕ → BlockReader
  here = block delta removes removed

  -- a byte that only may come
  only_one : (wanted : ℕ) (part next : Part) → Split left (only wanted b next (here left part name props held)) bs m rest → (b ≡ wanted) × (1 < left) × (run_block (here (left - 1) next name props []) bs ≡ Done m.0 m.1 rest)
  only_one wanted part next x =
      elim (b == wanted) as (λ t. (b == wanted) ≡ t → Split left (if t then go next (here left part name props held) else Refused BadProps) bs m rest → (b ≡ wanted) × (1 < left) × (run_block (here (left - 1) next name props []) bs ≡ Done m.0 m.1 rest)) [
        | true ↦ λ t x. (eqb-true b wanted t, x.0, x.1)
        | false ↦ λ t x. absurd x
      ] refl x

  key_blank : Split left (part_step KeyBlank (here left KeyBlank name props held) b) bs m rest → Told (FormKeyBlank removes delta removed props m) left (b ∷ bs) rest
  key_blank x =
      let o = only_one 32 KeyBlank KeyCount x in
      grow (FormKeyCount removes delta removed props [] m) (FormKeyBlank removes delta removed props m) b left bs rest o.1 (ih removes removed (left - 1) KeyCount name props [] refl o.2) (λ t f. (t, ap (λ y. y ∷ t) o.0, f))

  value_end : Split left (part_step ValueEnd (here left ValueEnd name props held) b) bs m rest → Told (FormValueEnd delta removed props m) left (b ∷ bs) rest
  value_end x =
      let o = only_one 10 ValueEnd Tag x in
      grow (FormTag delta removed props m) (FormValueEnd delta removed props m) b left bs rest o.1 (ih removes removed (left - 1) Tag name props [] tt o.2) (λ t f. (t, ap (λ y. y ∷ t) o.0, f))

  name_end : Split left (part_step NameEnd (here left NameEnd name props held) b) bs m rest → Told (Form removes delta removed NameEnd name props held m) left (b ∷ bs) rest
  name_end x =
      let o = only_one 10 NameEnd ValueTag x in
      grow (Form removes delta removed ValueTag name props [] m) (Form removes delta removed NameEnd name props held m) b left bs rest o.1 (ih removes removed (left - 1) ValueTag name props [] tt o.2) (λ t f. given_by name (λ n. FormValueTag delta removed n props m t) (λ n. FormNameEnd delta removed n props m (b ∷ t)) (λ n g. (t, ap (λ y. y ∷ t) o.0, g)) f)

  value_tag : Split left (part_step ValueTag (here left ValueTag name props held) b) bs m rest → Told (Form removes delta removed ValueTag name props held m) left (b ∷ bs) rest
  value_tag x =
      let o = only_one 86 ValueTag ValueBlank x in
      grow (Form removes delta removed ValueBlank name props [] m) (Form removes delta removed ValueTag name props held m) b left bs rest o.1 (ih removes removed (left - 1) ValueBlank name props [] tt o.2) (λ t f. given_by name (λ n. FormValueBlank delta removed n props m t) (λ n. FormValueTag delta removed n props m (b ∷ t)) (λ n g. (t, ap (λ y. y ∷ t) o.0, g)) f)

  value_blank : Split left (part_step ValueBlank (here left ValueBlank name props held) b) bs m rest → Told (Form removes delta removed ValueBlank name props held m) left (b ∷ bs) rest
  value_blank x =
      let o = only_one 32 ValueBlank ValueCount x in
      grow (Form removes delta removed ValueCount name props [] m) (Form removes delta removed ValueBlank name props held m) b left bs rest o.1 (ih removes removed (left - 1) ValueCount name props [] refl o.2) (λ t f. given_by name (λ n. FormValueCount delta removed n props [] m t) (λ n. FormValueBlank delta removed n props m (b ∷ t)) (λ n g. (t, ap (λ y. y ∷ t) o.0, g)) f)

  -- a count's digit, and what follows the digits
  key_digit : is_digit b ≡ true → all_bytes is_digit held ≡ true → Split left (keep (here left KeyCount name props held) b) bs m rest → Told (FormKeyCount removes delta removed props held m) left (b ∷ bs) rest
  key_digit d r x =
      grow (FormKeyCount removes delta removed props (held ++ b ∷ []) m) (FormKeyCount removes delta removed props held m) b left bs rest x.0 (ih removes removed (left - 1) KeyCount name props (held ++ b ∷ []) (digit_more held b r d) x.1) (λ t f. record {
        ds = b ∷ f.ds;
        name = f.name;
        t = f.t;
        cut = ap (λ y. b ∷ y) f.cut;
        spells = subst (λ y. Spells y (length f.name)) (append_assoc held (b ∷ []) f.ds) f.spells;
        new = f.new;
        next = f.next;
      })

  key_lf : b ≡ 10 → (number_of held == 0) ≡ false → all_bytes is_digit held ≡ true → Split left (judged_count 255 (number_of held) left (go (Name (number_of held)) (here left KeyCount name props held))) bs m rest → Told (FormKeyCount removes delta removed props held m) left (b ∷ bs) rest
  key_lf e some r x =
      let j = judged left 255 (number_of held) (go (Name (number_of held)) (here left KeyCount name props held)) bs m rest x in
      let positive : 0 < number_of held = omega (arith, not_eq (number_of held) 0 some) in
      grow (FormName removes delta removed (number_of held) props [] m) (FormKeyCount removes delta removed props held m) b left bs rest j.2.0 (ih removes removed (left - 1) (Name (number_of held)) name props [] positive j.2.1) (λ t f. record {
        ds = [];
        name = f.s;
        t = f.t;
        cut = ap (λ y. y ∷ t) e ∙ ap (λ y. 10 ∷ y) f.cut;
        spells = subst (λ y. Spells y (length f.s)) (sym (append-nil held)) (record { some = held_some held positive; digits_only = r; number = omega (arith, f.long) });
        new = f.new;
        next = f.next;
      })

  key_count : all_bytes is_digit held ≡ true → Split left (part_step KeyCount (here left KeyCount name props held) b) bs m rest → Told (FormKeyCount removes delta removed props held m) left (b ∷ bs) rest
  key_count r x =
      elim (is_digit b) as (λ d. is_digit b ≡ d → Split left (if d then keep (here left KeyCount name props held) b else (if b == 10 && not (number_of held == 0) then judged_count 255 (number_of held) left (go (Name (number_of held)) (here left KeyCount name props held)) else Refused BadProps)) bs m rest → Told (FormKeyCount removes delta removed props held m) left (b ∷ bs) rest) [
        | true ↦ λ d x. key_digit d r x
        | false ↦ λ d x.
            elim (b == 10 && not (number_of held == 0)) as (λ t. (b == 10 && not (number_of held == 0)) ≡ t → Split left (if t then judged_count 255 (number_of held) left (go (Name (number_of held)) (here left KeyCount name props held)) else Refused BadProps) bs m rest → Told (FormKeyCount removes delta removed props held m) left (b ∷ bs) rest) [
              | true ↦ λ t x. let p = both (b == 10) (not (number_of held == 0)) t in key_lf (eqb-true b 10 p.0) (not_true _ p.1) r x
              | false ↦ λ t x. absurd x
            ] refl x
      ] refl x

  -- a name's byte
  name_last : (n : ℕ) (new : IsNewName props removed (held ++ b ∷ [])) → length held + 1 ≡ n → Split left (named removes (here left (Name n) name props held) (held ++ b ∷ [])) bs m rest → Told (FormName removes delta removed n props held m) left (b ∷ bs) rest
  name_last n new e x =
      elim removes as (λ q. Split left (named q (here left (Name n) name props held) (held ++ b ∷ [])) bs m rest → Told (FormName q delta removed n props held m) left (b ∷ bs) rest) [
        | true ↦ λ x.
            grow (FormValueEnd delta (map.insert removed (held ++ b ∷ []) []) props m) (FormName true delta removed n props held m) b left bs rest x.0 (ih removes (map.insert removed (held ++ b ∷ []) []) (left - 1) ValueEnd name props [] tt x.1) (λ u f.
            record { s = b ∷ []; t = u; cut = refl; long = omega arith; new = new; next = f })
        | false ↦ λ x.
            let k = awaits_value left (here left (Name n) name props held) (held ++ b ∷ []) bs m rest x in
            grow (FormNameEnd delta removed (held ++ b ∷ []) props m) (FormName false delta removed n props held m) b left bs rest k.0 (ih removes removed (left - 1) NameEnd (Some (held ++ b ∷ [])) props [] tt k.1) (λ u f.
            record { s = b ∷ []; t = u; cut = refl; long = omega arith; new = new; next = f })
      ] x

  name_byte : (n : ℕ) → length held < n → Split left (part_step (Name n) (here left (Name n) name props held) b) bs m rest → Told (FormName removes delta removed n props held m) left (b ∷ bs) rest
  name_byte n r x =
      elim (nat_lt (length held + 1) n) as (λ t. nat_lt (length held + 1) n ≡ t → Split left (if t then keep (here left (Name n) name props held) b else name_is (here left (Name n) name props held) (held ++ b ∷ [])) bs m rest → Told (FormName removes delta removed n props held m) left (b ∷ bs) rest) [
        | true ↦ λ t x.
            let more : length (held ++ b ∷ []) < n = omega (arith, length-append held (b ∷ []), lt_is (length held + 1) n t) in
            grow (FormName removes delta removed n props (held ++ b ∷ []) m) (FormName removes delta removed n props held m) b left bs rest x.0 (ih removes removed (left - 1) (Name n) name props (held ++ b ∷ []) more x.1) (λ u f.
            let a : (held ++ b ∷ []) ++ f.s ≡ held ++ b ∷ f.s = append_assoc held (b ∷ []) f.s in
            record { s = b ∷ f.s; t = f.t; cut = ap (λ y. b ∷ y) f.cut; long = omega (arith, f.long, length-append held (b ∷ [])); new = subst (IsNewName props removed) a f.new; next = subst (λ y. FormNamed removes delta removed y props m f.t) a f.next })
        | false ↦ λ t x.
            let k = name_kept left (here left (Name n) name props held) (held ++ b ∷ []) bs m rest x in
            name_last n k.0 (omega (arith, not_lt (length held + 1) n t)) k.1
      ] refl x

  -- the count of a value's bytes
  value_digit : is_digit b ≡ true → all_bytes is_digit held ≡ true → Split left (keep (here left ValueCount name props held) b) bs m rest → Told (Form removes delta removed ValueCount name props held m) left (b ∷ bs) rest
  value_digit d r x =
      grow (Form removes delta removed ValueCount name props (held ++ b ∷ []) m) (Form removes delta removed ValueCount name props held m) b left bs rest x.0 (ih removes removed (left - 1) ValueCount name props (held ++ b ∷ []) (digit_more held b r d) x.1) (λ t. given_by name (λ n. FormValueCount delta removed n props (held ++ b ∷ []) m t) (λ n. FormValueCount delta removed n props held m (b ∷ t)) (λ n f. record {
        ds = b ∷ f.ds;
        value = f.value;
        t = f.t;
        cut = ap (λ y. b ∷ y) f.cut;
        spells = subst (λ y. Spells y (length f.value)) (append_assoc held (b ∷ []) f.ds) f.spells;
        small = f.small;
        fit = f.fit;
        next = f.next;
      }))

  value_lf_some : b ≡ 10 → 0 < length held → 0 < number_of held → all_bytes is_digit held ≡ true → 1 < left → run_block (here (left - 1) (Value (number_of held)) name props []) bs ≡ Done m.0 m.1 rest → Told (Form removes delta removed ValueCount name props held m) left (b ∷ bs) rest
  value_lf_some e some positive r h x =
      grow (Form removes delta removed (Value (number_of held)) name props [] m) (Form removes delta removed ValueCount name props held m) b left bs rest h (ih removes removed (left - 1) (Value (number_of held)) name props [] positive x) (λ t. given_by name (λ n. FormValue delta removed (number_of held) n props [] m t) (λ n. FormValueCount delta removed n props held m (b ∷ t)) (λ n f. record {
        ds = [];
        value = f.s;
        t = f.t;
        cut = ap (λ y. y ∷ t) e ∙ ap (λ y. 10 ∷ y) f.cut;
        spells = subst (λ y. Spells y (length f.s)) (sym (append-nil held)) (record { some = some; digits_only = r; number = omega (arith, f.long) });
        small = f.small;
        fit = f.fit;
        next = f.next;
      }))

  value_lf_none : b ≡ 10 → 0 < length held → number_of held ≡ 0 → all_bytes is_digit held ≡ true → Split left (value_at (here left ValueCount name props held) name []) bs m rest → Told (Form removes delta removed ValueCount name props held m) left (b ∷ bs) rest
  value_lf_none e some zero_of r x =
      elim name as (λ o. Split left (value_at (here left ValueCount name props held) o []) bs m rest → Told (λ t. given o (λ n. FormValueCount delta removed n props held m t)) left (b ∷ bs) rest) [
        | None ↦ λ x. absurd x
        | Some n ↦ λ x.
            let k = value_kept left (here left ValueCount name props held) n [] bs m rest x in
            grow (FormValueEnd delta removed (map.insert props n []) m) (FormValueCount delta removed n props held m) b left bs rest k.2 (ih removes removed (left - 1) ValueEnd None (map.insert props n []) [] tt k.3) (λ t f. record {
              ds = [];
              value = [];
              t = t;
              cut = ap (λ y. y ∷ t) e;
              spells = subst (λ y. Spells y 0) (sym (append-nil held)) (record { some = some; digits_only = r; number = zero_of });
              small = omega arith;
              fit = k.1;
              next = f;
            })
      ] x

  value_count : all_bytes is_digit held ≡ true → Split left (part_step ValueCount (here left ValueCount name props held) b) bs m rest → Told (Form removes delta removed ValueCount name props held m) left (b ∷ bs) rest
  value_count r x =
      let n = number_of held in
      let counted = if n == 0 then value_at (here left ValueCount name props held) name [] else go (Value n) (here left ValueCount name props held) in
      elim (is_digit b) as (λ d. is_digit b ≡ d → Split left (if d then keep (here left ValueCount name props held) b else (if b == 10 && not (length held == 0) then judged_count 65536 n left counted else Refused BadProps)) bs m rest → Told (Form removes delta removed ValueCount name props held m) left (b ∷ bs) rest) [
        | true ↦ λ d x. value_digit d r x
        | false ↦ λ d x.
            elim (b == 10 && not (length held == 0)) as (λ t. (b == 10 && not (length held == 0)) ≡ t → Split left (if t then judged_count 65536 n left counted else Refused BadProps) bs m rest → Told (Form removes delta removed ValueCount name props held m) left (b ∷ bs) rest) [
              | true ↦ λ t x.
                  let p = both (b == 10) (not (length held == 0)) t in
                  let e : b ≡ 10 = eqb-true b 10 p.0 in
                  let some : 0 < length held = omega (arith, not_eq (length held) 0 (not_true _ p.1)) in
                  let j = judged left 65536 n counted bs m rest x in
                  elim (n == 0) as (λ z. (n == 0) ≡ z → Split left (if z then value_at (here left ValueCount name props held) name [] else go (Value n) (here left ValueCount name props held)) bs m rest → Told (Form removes delta removed ValueCount name props held m) left (b ∷ bs) rest) [
                    | true ↦ λ z y. value_lf_none e some (eqb-true n 0 z) r y
                    | false ↦ λ z y. value_lf_some e some (omega (arith, not_eq n 0 z)) r y.0 y.1
                  ] refl j.2
              | false ↦ λ t x. absurd x
            ] refl x
      ] refl x

  -- a value's byte
  value_byte : (n : ℕ) → length held < n → Split left (part_step (Value n) (here left (Value n) name props held) b) bs m rest → Told (Form removes delta removed (Value n) name props held m) left (b ∷ bs) rest
  value_byte n r x =
      elim (nat_lt (length held + 1) n) as (λ t. nat_lt (length held + 1) n ≡ t → Split left (if t then keep (here left (Value n) name props held) b else value_at (here left (Value n) name props held) name (held ++ b ∷ [])) bs m rest → Told (Form removes delta removed (Value n) name props held m) left (b ∷ bs) rest) [
        | true ↦ λ t x.
            let more : length (held ++ b ∷ []) < n = omega (arith, length-append held (b ∷ []), lt_is (length held + 1) n t) in
            grow (Form removes delta removed (Value n) name props (held ++ b ∷ []) m) (Form removes delta removed (Value n) name props held m) b left bs rest x.0 (ih removes removed (left - 1) (Value n) name props (held ++ b ∷ []) more x.1) (λ u. given_by name (λ k. FormValue delta removed n k props (held ++ b ∷ []) m u) (λ k. FormValue delta removed n k props held m (b ∷ u)) (λ k f.
            let a : (held ++ b ∷ []) ++ f.s ≡ held ++ b ∷ f.s = append_assoc held (b ∷ []) f.s in
            record { s = b ∷ f.s; t = f.t; cut = ap (λ y. b ∷ y) f.cut; long = omega (arith, f.long, length-append held (b ∷ [])); small = subst (λ y. length y ≤ 65536) a f.small; fit = subst (λ y. props_fit (map.insert props k y) ≡ true) a f.fit; next = subst (λ y. FormValueEnd delta removed (map.insert props k y) m f.t) a f.next }))
        | false ↦ λ t x.
            elim name as (λ o. Split left (value_at (here left (Value n) name props held) o (held ++ b ∷ [])) bs m rest → Told (λ u. given o (λ k. FormValue delta removed n k props held m u)) left (b ∷ bs) rest) [
              | None ↦ λ x. absurd x
              | Some k ↦ λ x.
                  let v = value_kept left (here left (Value n) name props held) k (held ++ b ∷ []) bs m rest x in
                  grow (FormValueEnd delta removed (map.insert props k (held ++ b ∷ [])) m) (FormValue delta removed n k props held m) b left bs rest v.2 (ih removes removed (left - 1) ValueEnd None (map.insert props k (held ++ b ∷ [])) [] tt v.3) (λ u f.
                  record { s = b ∷ []; t = u; cut = refl; long = omega (arith, not_lt (length held + 1) n t); small = v.0; fit = v.1; next = f })
            ] x
      ] refl x

  -- PROPS-END
  ending_byte : length held < 9 → Split left (part_step Ending (here left Ending name props held) b) bs m rest → Told (FormEnding removed props held m) left (b ∷ bs) rest
  ending_byte r x =
      elim (b == slice_index_or ending (length held) 256) as (λ t. (b == slice_index_or ending (length held) 256) ≡ t → Split left (if t then (if length held == 8 then Whole props removed else keep (here left Ending name props held) b) else Refused BadProps) bs m rest → Told (FormEnding removed props held m) left (b ∷ bs) rest) [
        | true ↦ λ t x.
            let at : b ≡ slice_index_or ending (length held) 256 = eqb-true b _ t in
            elim (length held == 8) as (λ u. (length held == 8) ≡ u → Split left (if u then Whole props removed else keep (here left Ending name props held) b) bs m rest → Told (FormEnding removed props held m) left (b ∷ bs) rest) [
              | true ↦ λ u x.
                  let n : length held ≡ 8 = eqb-true (length held) 8 u in
                  record { tail = b ∷ []; front = ap (λ y. b ∷ y) x.3; whole = sym x.0; form_is = (last_byte (length held) b n at, x.1, x.2) }
              | false ↦ λ u x.
                  grow (FormEnding removed props (held ++ b ∷ []) m) (FormEnding removed props held m) b left bs rest x.0 (ih removes removed (left - 1) Ending name props (held ++ b ∷ []) (omega (arith, length-append held (b ∷ []), not_eq (length held) 8 u)) x.1) (λ y f. (next_byte held b y r at f.0, f.1, f.2))
            ] refl x
        | false ↦ λ t x. absurd x
      ] refl x

  tag_byte : Split left (part_step Tag (here left Tag name props held) b) bs m rest → Told (FormTag delta removed props m) left (b ∷ bs) rest
  tag_byte x =
      elim (b == 75) as (λ t. (b == 75) ≡ t → Split left (if t then begins false (here left Tag name props held) else (if delta && b == 68 then begins true (here left Tag name props held) else only 80 b Ending (here left Tag name props held))) bs m rest → Told (FormTag delta removed props m) left (b ∷ bs) rest) [
        | true ↦ λ t x.
            let e : b ≡ 75 = eqb-true b 75 t in
            grow (FormKeyBlank false delta removed props m) (FormTag delta removed props m) b left bs rest x.0 (ih false removed (left - 1) KeyBlank name props [] tt x.1) (λ y f. subst (λ c. FormTag delta removed props m (c ∷ y)) (sym e) (one_property delta removed props m y f))
        | false ↦ λ t x.
            elim (delta && b == 68) as (λ u. (delta && b == 68) ≡ u → Split left (if u then begins true (here left Tag name props held) else only 80 b Ending (here left Tag name props held)) bs m rest → Told (FormTag delta removed props m) left (b ∷ bs) rest) [
              | true ↦ λ u x.
                  let p = both delta (b == 68) u in
                  let e : b ≡ 68 = eqb-true b 68 p.1 in
                  grow (FormKeyBlank true delta removed props m) (FormTag delta removed props m) b left bs rest x.0 (ih true removed (left - 1) KeyBlank name props [] tt x.1) (λ y f. subst (λ c. FormTag delta removed props m (c ∷ y)) (sym e) (one_removal delta removed props m y p.0 f))
              | false ↦ λ u x.
                  let o = only_one 80 Tag Ending x in
                  grow (FormEnding removed props [] m) (FormTag delta removed props m) b left bs rest o.1 (ih removes removed (left - 1) Ending name props [] (omega arith) o.2) (λ y f. ([], ap (λ c. c ∷ y) o.0 ∙ ap (λ z. 80 ∷ z) f.0, tt, f.1, f.2))
            ] refl x
      ] refl x

  by_part : (part : Part) → Ready part held → Split left (part_step part (here left part name props held) b) bs m rest → Told (Form removes delta removed part name props held m) left (b ∷ bs) rest
  by_part Tag r x = tag_byte x
  by_part KeyBlank r x = key_blank x
  by_part KeyCount r x = key_count r x
  by_part (Name n) r x = name_byte n r x
  by_part NameEnd r x = name_end x
  by_part ValueTag r x = value_tag x
  by_part ValueBlank r x = value_blank x
  by_part ValueCount r x = value_count r x
  by_part (Value n) r x = value_byte n r x
  by_part ValueEnd r x = value_end x
  by_part Ending r x = ending_byte r x

more_never : (r : BlockReader) (m : Maps) (rest : List ℕ) (G : Type 0) → More r ≡ Done m.0 m.1 rest → G
more_never r m rest G e = cc

pub told : (delta : Bool) (bs : List ℕ) (m : Maps) (rest : List ℕ) → Later delta bs m rest
told delta [] m rest removes removed left part name props held r e = more_never (block delta removes removed left part name props held) m rest _ e
told delta (b ∷ bs) m rest removes removed left part name props held r e =
    by_part delta removes removed bs m rest (told delta bs m rest) left name props held b part r (split_step left (part_step part (block delta removes removed left part name props held) b) bs m rest e)

pub read_is_block : (delta : Bool) (announced : ℕ) (bytes : List ℕ) (props removed : PropMap) (rest : List ℕ) → run_block (begun delta announced) bytes ≡ Done props removed rest → ReadBlock delta announced bytes props removed rest
read_is_block delta announced bytes props removed rest e =
    let x = told delta bytes (props, removed) rest false map.empty announced Tag None map.empty [] tt e in
    let f = x.form_is in
    let all = all_from_entries [] [] f.0 f.2 in
    record { block = x.tail; entries = f.0; front = x.front; whole = x.whole; spelled = f.1; within = f.2; sets = f.3 ∙ all.0; removes = f.4 ∙ all.1 }
