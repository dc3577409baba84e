-- Refused bytes are refused for what is due, by lines and records.
use Rattle.std.proofs.Common.{◌≡◌, ℕ, zero, suc, ◌+◌, ◌-◌, ◌≤◌, ◌<◌, ◌==◌, ◌&&◌, ◌||◌, not, Bool, true, false, nat_lt, ◌⊎◌, inl, inr, List, [], ◌∷◌, ◌++◌, length, take, drop, get_or, Option, Some, None, is_some, Ok, Err, refl, sym, ap, subst, ◌∙◌, append_assoc, append-nil, length-append, arith}
use Rattle.std.proofs.lemmas.Bool.{eqb-true, cases_lt}
use Rattle.std.proofs.lemmas.List.{take_all, take_at, length-take, take-append-drop, take-take}
use Rattle.std.specs.Bool.{if◌then◌else◌}
use Rattle.std.specs.Option.{is_none, option_map}
use Rattle.std.specs.FinMap as map
use Rattle.node_base.specs.Props.{PropMap}
use Rattle.node_base.specs.Blocks.{More, Done, Fault, run_block, after, of_step, block_step, begun, new_block}
use Rattle.node_base.specs.declared.block.BlockReader.{BlockReader}
use Rattle.node_base.specs.declared.prop_fault.PropFault.{PropFault}
use Rattle.node_base.proofs.BlockRuns.{after-append, after-refused, after-whole}
use Rattle.node_base.proofs.BlockSpelled.{both, eq_false, block_long}
use Rattle.node_base.proofs.BlockConverse.{read_is_block}
use Rattle.node_base.specs.declared.node.Action.{Action}
use Rattle.node_base.specs.Path.{Path}
use Rattle.node_base.specs.declared.limits.TheConstants.{TEXT_BYTES}
use Rattle.dump_text.specs.Headers.{version_in}
use Rattle.dump_text.specs.Heads.{line_says, no_head}
use Rattle.dump_text.specs.Forms.{fits_form, lengths_agree, lengths_fit, is_delta, gives_delta, has_delta, may_be_delta, part_of, delta_of, whole_of, record_of, named_of, numbered_of, node_of, is_inside, is_node_head, has_source_form, is_deletion, is_first, is_identity_head, has_no_node, stage_after}
use Rattle.dump_text.specs.Streams.{Stream, Reads, Refuses, reading, fresh_by, begin, given, give, made, whole_text, text_is, after_block, content, judged, said, line_is, versioned, is_line_place, sum_holds, of_prop_fault, of_block, NoLf, dump_by}
use Rattle.dump_text.specs.Grammar.{lines_of, HeadOf, HasBlock, HasText, IsContent, IsRecord, IsRecords, IsVersionLine, bytes_of, stage_behind}
use Rattle.dump_text.specs.Refusals.{IsLine, IsLong, AtEnd, IsFine, IsFault, in_line, long_line, no_form, no_sum, too_much, no_block, in_block, in_text, IsDue, no_version, no_blank, long_first, long_second, behind}
use Rattle.dump_text.specs.declared.fault.DumpFault.{DumpFault}
use Rattle.dump_text.specs.declared.fault.DumpFault.TheVariants.{BadVersion, BadHeader, BadLength, BadProps, BadSum, TooLong}
use Rattle.dump_text.specs.declared.form.Stage.{Stage}
use Rattle.dump_text.specs.declared.form.Stage.TheVariants.{First}
use Rattle.dump_text.specs.declared.head.Head.{Head}
use Rattle.dump_text.specs.declared.record.DumpRecord.{DumpRecord}
use Rattle.dump_text.specs.declared.record.DumpRecord.TheVariants.{Identity, Revision}
use Rattle.dump_text.specs.declared.record.PropPart.{PropPart}
use Rattle.dump_text.specs.declared.record.TextPart.{TextPart}
use Rattle.dump_text.specs.declared.record.TextPart.TheVariants.{Whole as AsWhole, Delta as AsDelta}
use Rattle.dump_text.specs.declared.state.Place.{Place}
use Rattle.dump_text.specs.declared.state.Place.TheVariants as at
use Rattle.dump_text.specs.declared.state.ReadState.{ReadState}
use Rattle.dump_text.proofs.StreamRuns.{reading-append, reading-refused, reader, parts, line_ends, line_kept, line_too_long, lone_take, text_kept, text_whole, block_piece}
use Rattle.dump_text.proofs.HeadModes.{heads_mode}
use Rattle.dump_text.proofs.Records.{follow, within_limit, text_comes, as_whole, head_read, block_read, dump_read}
use Rattle.dump_text.proofs.Written.{blanks_before}
use Rattle.dump_text.proofs.Converse.{cut, record_says, not_eq, shorter, nothing_less, reads_never, names_format}

-- ---- what a refusal is

same_refusal : (rs out : List DumpRecord) (g f : DumpFault) → Refuses rs g ≡ Refuses out f → (out ≡ rs) × (f ≡ g)
same_refusal rs out g f x = (cc, cc)

refused_is : (rs out : List DumpRecord) (g f : DumpFault) (bs : List ℕ) → reading (Refuses rs g) bs ≡ Refuses out f → (out ≡ rs) × (f ≡ g)
refused_is rs out g f bs e = same_refusal rs out g f (sym (reading-refused rs g bs) ∙ e)

-- ---- a line

pub record LongLine (rs out : List DumpRecord) (f : DumpFault) (bs : List ℕ) : Type 0 where
  pub line : List ℕ
  pub rest : List ℕ
  pub is : bs ≡ line ++ rest
  pub long : IsLong line
  pub same : out ≡ rs
  pub fault : f ≡ TooLong

pub record NextLine (place : Place) (rs : List DumpRecord) (v : ℕ) (i : Stage) (h : Head) (bs : List ℕ) (out : List DumpRecord) (f : DumpFault) : Type 0 where
  pub line : List ℕ
  pub rest : List ℕ
  pub is : bs ≡ line ++ 10 ∷ rest
  pub short : IsLine line
  pub next : reading (line_is place rs (reader v place i h (new_block 0) None []) line) rest ≡ Refuses out f

taken_long : (m : ℕ) (bs : List ℕ) → m ≤ length bs → length (take m bs) ≡ m
taken_long m bs le = omega (arith, length-take m bs)

lone_less : (m k : ℕ) (bs : List ℕ) → m ≤ k → NoLf (take k bs) → NoLf (take m bs)
lone_less m k bs le lone = subst NoLf (take-take m k bs le) (lone_take m (take k bs) lone)

module _ (place : Place) (is : is_line_place place ≡ true) (rs : List DumpRecord) (v : ℕ) (i : Stage) (h : Head) (out : List DumpRecord) (f : DumpFault) where
  abbrev here : ReadState
  here = reader v place i h (new_block 0) None []

  too_long : (m k : ℕ) (bs : List ℕ) → m ≡ 4097 → k ≤ length bs → NoLf (take k bs) → 4096 < k → reading (Reads rs here) bs ≡ Refuses out f → LongLine rs out f bs
  too_long m k bs four within lone long e =
      let s = same_refusal rs out TooLong f (sym (line_too_long rs here 4096 k bs is within lone long (λ q. omega arith) (omega arith)) ∙ e) in
      record { line = take m bs; rest = drop m bs; is = sym (take-append-drop m bs); long = (lone_less m k bs (omega arith) lone, taken_long m bs (omega arith) ∙ four); same = s.0; fault = s.1 }

  a_line : (bs : List ℕ) → reading (Reads rs here) bs ≡ Refuses out f → LongLine rs out f bs ⊎ NextLine place rs v i h bs out f
  a_line bs e =
      elim (cut bs) [
        | inl lone ↦
            elim (cases_lt 4096 (length bs)) [
              | inl long ↦ inl (too_long 4097 (length bs) bs refl (omega arith) (subst NoLf (sym (take_all (length bs) bs (omega arith))) lone) long e)
              | inr short ↦ reads_never rs out _ f _ (sym (line_kept rs here bs is lone (λ q. omega arith)) ∙ e)
            ]
        | inr c ↦
            let e-2 : reading (Reads rs here) (c.line ++ 10 ∷ c.rest) ≡ Refuses out f = ap (reading (Reads rs here)) (sym c.is) ∙ e in
            elim (cases_lt 4096 (length c.line)) [
              | inl long ↦
                  inl (subst (LongLine rs out f) (sym c.is) (too_long 4097 (length c.line) (c.line ++ 10 ∷ c.rest) refl (omega (arith, length-append c.line (10 ∷ c.rest))) (subst NoLf (sym (take_at c.line (10 ∷ c.rest) (length c.line) refl)) c.lone) long e-2))
              | inr short ↦ inr (record { line = c.line; rest = c.rest; is = c.is; short = (c.lone, omega arith); next = sym (line_ends place is rs v i h (new_block 0) None [] c.line c.rest c.lone (λ q. omega arith)) ∙ e-2 })
            ]
      ]

-- ---- what headers that fit are a record of

-- what was read of a block, as it was announced
abbrev stated : Bool → Option (PropMap × PropMap) → Option PropPart
stated delta = option_map (λ p. part_of delta p.0 p.1)

and_false : (a : Bool) → (a && false) ≡ false
and_false true = refl
and_false false = refl

-- the rest of the form, where there is no question of a delta
abbrev rest_form : Stage → Head → Bool
rest_form i h = if is_some h.identity then is_first i && is_identity_head h else if is_some h.number then has_no_node h else is_inside i && is_node_head h

fits_rest : (b c : Bool) → (if b then false else c) ≡ true → c ≡ true
fits_rest true c e = cc
fits_rest false c e = e

-- at a revision nothing is a delta
no_delta : (v : ℕ) (i : Stage) (h : Head) (n : ℕ) → fits_form v i h ≡ true → h.number ≡ Some n → is_delta h ≡ false
no_delta v i h n fits e =
    let never : may_be_delta v h ≡ false = ap (λ o. (v == 3 && is_none h.identity) && is_none o) e ∙ and_false (v == 3 && is_none h.identity) in
    elim (is_delta h) as (λ d. (if (d || gives_delta h) && not (may_be_delta v h) then false else rest_form i h) ≡ true → d ≡ false) [
      | true ↦ λ x. sym (sym (ap (λ m. if not m then false else rest_form i h) never) ∙ x)
      | false ↦ λ x. refl
    ] fits

-- a node has a path and an action
node_fits : (v : ℕ) (i : Stage) (h : Head) → fits_form v i h ≡ true → h.identity ≡ None → h.number ≡ None → (is_some h.path ≡ true) × (is_some h.action ≡ true)
node_fits v i h fits e g =
    let r = fits_rest (has_delta h && not (may_be_delta v h)) (rest_form i h) fits in
    let r-2 : (if is_some h.number then has_no_node h else is_inside i && is_node_head h) ≡ true = sym (ap (λ q. if is_some q then is_first i && is_identity_head h else (if is_some h.number then has_no_node h else is_inside i && is_node_head h)) e) ∙ r in
    let r-3 : (is_inside i && is_node_head h) ≡ true = sym (ap (λ q. if is_some q then has_no_node h else is_inside i && is_node_head h) g) ∙ r-2 in
    let node = (both (is_inside i) (is_node_head h) r-3).1 in
    let last = both (is_some h.path && is_some h.action && has_source_form h) (not (is_deletion h.action && (is_some h.prop_len || is_some h.text_len))) node in
    let form = both (is_some h.path && is_some h.action) (has_source_form h) last.0 in
    both (is_some h.path) (is_some h.action) form.0

whole_there : (d : Bool) (o : Option (PropMap × PropMap)) → d ≡ false → (m : PropMap) × (whole_of (stated d o) ≡ Some m)
whole_there true None e = cc
whole_there true (Some p) e = cc
whole_there false None e = (map.empty, refl)
whole_there false (Some p) e = (p.0, refl)

node_there : (h : Head) (part : Option PropPart) (text : Option TextPart) (p : Option Path) (a : Option Action) → is_some p ≡ true → is_some a ≡ true → (rec : DumpRecord) × (node_of h part text p a ≡ Some rec)
node_there h part text None a e f = cc
node_there h part text (Some p) None e f = cc
node_there h part text (Some p) (Some a) e f = (_, refl)

-- headers that fit are those of a record, whatever their content
has_record : (v : ℕ) (i : Stage) (h : Head) (o : Option (PropMap × PropMap)) (text : Option TextPart) → fits_form v i h ≡ true → (rec : DumpRecord) × (record_of h (stated (is_delta h) o) text ≡ Some rec)
has_record v i h o text fits =
    let part = stated (is_delta h) o in
    elim h.identity as (λ q. h.identity ≡ q → (rec : DumpRecord) × (named_of h part text q ≡ Some rec)) [
      | Some id ↦ λ e. (Identity id, refl)
      | None ↦ λ e.
          elim h.number as (λ q. h.number ≡ q → (rec : DumpRecord) × (numbered_of h part text q ≡ Some rec)) [
            | Some n ↦ λ g. let w = whole_there (is_delta h) o (no_delta v i h n fits g) in (Revision n w.0, ap (option_map (Revision n)) w.1)
            | None ↦ λ g. let node = node_fits v i h fits e g in node_there h part text h.path h.action node.0 node.1
          ] refl
    ] refl

-- ---- a text

pub data TextCame (rs : List DumpRecord) (v : ℕ) (i : Stage) (h : Head) (part : Option PropPart) (bs : List ℕ) (out : List DumpRecord) (f : DumpFault) : Type 0 where
  bad_sum : (text rest : List ℕ) → bs ≡ text ++ rest → gives_delta h ≡ false → h.text_len ≡ Some (length text) → sum_holds h.sum text ≡ false → out ≡ rs → f ≡ BadSum → TextCame rs v i h part bs out f
  with_text : (text : Option TextPart) (rest : List ℕ) (rec : DumpRecord) → bs ≡ bytes_of text ++ rest → HasText h text → record_of h part text ≡ Some rec → reading (follow h.deltas rs v i rec) rest ≡ Refuses out f → TextCame rs v i h part bs out f

-- a whole text hasn't its sum, or is handed on
abbrev WholeCame : List DumpRecord → ReadState → Option PropPart → List ℕ → List ℕ → List DumpRecord → DumpFault → Type 0
WholeCame rs r part text rest out f =
    ((sum_holds r.head.sum text ≡ false) × (out ≡ rs) × (f ≡ BadSum)) ⊎ ((sum_holds r.head.sum text ≡ true) × (reading (give rs r part (Some (AsWhole text))) rest ≡ Refuses out f))

whole_from : (rs : List DumpRecord) (r : ReadState) (part : Option PropPart) (text rest : List ℕ) (out : List DumpRecord) (f : DumpFault) → nat_lt TEXT_BYTES (length text) ≡ false → reading (whole_text rs r part text) rest ≡ Refuses out f → WholeCame rs r part text rest out f
whole_from rs r part text rest out f small e =
    elim (sum_holds r.head.sum text) as (λ t. sum_holds r.head.sum text ≡ t → reading (if t then made rs r part text else Refuses rs BadSum) rest ≡ Refuses out f → WholeCame rs r part text rest out f) [
      | true ↦ λ t e. inr (t, ap (λ b. reading (if b then Refuses rs TooLong else give rs r part (Some (AsWhole text))) rest) (sym small) ∙ e)
      | false ↦ λ t e. let s = refused_is rs out BadSum f rest e in inl (t, s.0, s.1)
    ] refl e

give_from : (rs : List DumpRecord) (r : ReadState) (part : Option PropPart) (text : Option TextPart) (rec : DumpRecord) (rest : List ℕ) (out : List DumpRecord) (f : DumpFault) → record_of r.head part text ≡ Some rec → reading (give rs r part text) rest ≡ Refuses out f → reading (follow r.head.deltas rs r.version r.stage rec) rest ≡ Refuses out f
give_from rs r part text rec rest out f is e = ap (λ o. reading (given rs r o) rest) (sym is) ∙ e

module _ (rs : List DumpRecord) (r : ReadState) (o : Option (PropMap × PropMap)) (bs : List ℕ) (out : List DumpRecord) (f : DumpFault) (fits : fits_form r.version r.stage r.head ≡ true) (fit : lengths_fit r.head ≡ true) where
  abbrev part : Option PropPart
  part = stated (is_delta r.head) o

  of_whole : (text rest : List ℕ) → bs ≡ text ++ rest → gives_delta r.head ≡ false → r.head.text_len ≡ Some (length text) → WholeCame rs r part text rest out f → TextCame rs r.version r.stage r.head part bs out f
  of_whole text rest is g len x =
      elim x [
        | inl y ↦ bad_sum text rest is g len y.0 y.1 y.2
        | inr y ↦ let h = has_record r.version r.stage r.head o (Some (AsWhole text)) fits in with_text (Some (AsWhole text)) rest h.0 is (g, len, y.0) h.1 (give_from rs r part (Some (AsWhole text)) h.0 rest out f h.1 y.1)
      ]

  of_text : (text rest : List ℕ) → bs ≡ text ++ rest → r.head.text_len ≡ Some (length text) → reading (text_is rs r part text) rest ≡ Refuses out f → TextCame rs r.version r.stage r.head part bs out f
  of_text text rest is len e =
      let delta = delta_of r.head text in
      elim (gives_delta r.head) as (λ g. gives_delta r.head ≡ g → reading (if g then give rs r part (Some (AsDelta delta)) else whole_text rs r part text) rest ≡ Refuses out f → TextCame rs r.version r.stage r.head part bs out f) [
        | true ↦ λ g e.
            let h = has_record r.version r.stage r.head o (Some (AsDelta delta)) fits in
            with_text (Some (AsDelta delta)) rest h.0 is (g, len, refl, refl) h.1 (give_from rs r part (Some (AsDelta delta)) h.0 rest out f h.1 e)
        | false ↦ λ g e. of_whole text rest is g len (whole_from rs r part text rest out f (within_limit r.head text fit g len) e)
      ] refl e

  some_text : (n : ℕ) → 0 < n → r.head.text_len ≡ Some n → reading (Reads rs (record r { place = at.Text n; props = part; held = [] })) bs ≡ Refuses out f → TextCame rs r.version r.stage r.head part bs out f
  some_text n some len e =
      let r-2 = record r { place = at.Text n; props = part; held = [] } in
      elim (cases_lt (length bs) n) [
        | inl less ↦ reads_never rs out _ f _ (sym (text_kept rs r-2 n bs refl (λ q. omega arith)) ∙ e)
        | inr enough ↦
            let k = n - 1 in
            let text = take k bs ++ get_or bs k 0 ∷ [] in
            let rest = drop (k + 1) bs in
            let all : bs ≡ text ++ rest = sym (append_assoc (take k bs) (get_or bs k 0 ∷ []) rest ∙ parts bs k (omega arith)) in
            let long : length text ≡ n = omega (arith, length-append (take k bs) (get_or bs k 0 ∷ []), length-take k bs) in
            let told : r.head.text_len ≡ Some (length text) = len ∙ ap Some (sym long) in
            of_text text rest all told (sym (text_whole rs r-2 n k bs refl (omega arith) (λ q. omega arith) (omega arith)) ∙ e)
      ]

  after_block_from : reading (after_block rs r part) bs ≡ Refuses out f → TextCame rs r.version r.stage r.head part bs out f
  after_block_from e =
      elim r.head.text_len as (λ q. r.head.text_len ≡ q → reading (elim q as (λ _. Stream) [ None ↦ give rs r part None | Some n ↦ if n == 0 then text_is rs r part [] else Reads rs (record r { place = at.Text n; props = part; held = [] }) ]) bs ≡ Refuses out f → TextCame rs r.version r.stage r.head part bs out f) [
        | None ↦ λ q e. let h = has_record r.version r.stage r.head o None fits in with_text None bs h.0 refl q h.1 (give_from rs r part None h.0 bs out f h.1 e)
        | Some n ↦ λ q e.
            elim (n == 0) as (λ t. (n == 0) ≡ t → reading (if t then text_is rs r part [] else Reads rs (record r { place = at.Text n; props = part; held = [] })) bs ≡ Refuses out f → TextCame rs r.version r.stage r.head part bs out f) [
              | true ↦ λ t e. let zero : r.head.text_len ≡ Some 0 = q ∙ ap Some (eqb-true n 0 t) in of_text [] bs refl zero e
              | false ↦ λ t e. some_text n (omega (arith, not_eq n 0 t)) q e
            ] refl e
      ] refl e

-- ---- a block

pub record BadByte (r : BlockReader) (bs : List ℕ) (fault : PropFault) : Type 0 where
  pub before : List ℕ
  pub byte : ℕ
  pub rest : List ℕ
  pub so_far : BlockReader
  pub reads : run_block r before ≡ More so_far
  pub refuses : run_block r (before ++ byte ∷ []) ≡ Fault fault
  pub is : bs ≡ before ++ byte ∷ rest

more_fault : (r : BlockReader) (fault : PropFault) (G : Type 0) → More r ≡ Fault fault → G
more_fault r fault G e = cc

done_fault : (p g : PropMap) (rest : List ℕ) (fault : PropFault) (G : Type 0) → Done p g rest ≡ Fault fault → G
done_fault p g rest fault G e = cc

first_bad : (r : BlockReader) (bs : List ℕ) (fault : PropFault) → run_block r bs ≡ Fault fault → BadByte r bs fault
first_bad r [] fault e = more_fault r fault _ e
first_bad r (b ∷ bs) fault e =
    elim (of_step (block_step r b)) as (λ s. of_step (block_step r b) ≡ s → after s bs ≡ Fault fault → BadByte r (b ∷ bs) fault) [
      | More q ↦ λ o e.
          let x = first_bad q bs fault e in
          record { before = b ∷ x.before; byte = x.byte; rest = x.rest; so_far = x.so_far; reads = ap (λ s. after s x.before) o ∙ x.reads; refuses = ap (λ s. after s (x.before ++ x.byte ∷ [])) o ∙ x.refuses; is = ap (λ y. b ∷ y) x.is }
      | Done p g rest ↦ λ o e. done_fault p g (rest ++ bs) fault _ (sym (after-whole p g rest bs) ∙ e)
      | Fault q ↦ λ o e. record { before = []; byte = b; rest = bs; so_far = r; reads = refl; refuses = o ∙ sym (after-refused q bs) ∙ e; is = refl }
    ] refl e

-- ---- a content

pub data ContentCame (rs : List DumpRecord) (v : ℕ) (i : Stage) (h : Head) (bs : List ℕ) (out : List DumpRecord) (f : DumpFault) : Type 0 where
  no_bytes : h.prop_len ≡ Some 0 → out ≡ rs → f ≡ BadProps → ContentCame rs v i h bs out f
  bad_block : (fault : PropFault) (n : ℕ) → h.prop_len ≡ Some n → 0 < n → BadByte (begun (is_delta h) n) bs fault → out ≡ rs → f ≡ of_prop_fault fault → ContentCame rs v i h bs out f
  bad_text : (block text rest : List ℕ) (part : Option PropPart) → HasBlock (is_delta h) h.prop_len part block → gives_delta h ≡ false → h.text_len ≡ Some (length text) → sum_holds h.sum text ≡ false → bs ≡ block ++ (text ++ rest) → out ≡ rs → f ≡ BadSum → ContentCame rs v i h bs out f
  with_content : (body rest : List ℕ) (part : Option PropPart) (text : Option TextPart) (rec : DumpRecord) → bs ≡ body ++ rest → IsContent h body part text → record_of h part text ≡ Some rec → reading (follow h.deltas rs v i rec) rest ≡ Refuses out f → ContentCame rs v i h bs out f

of_text_came : (rs : List DumpRecord) (v : ℕ) (i : Stage) (h : Head) (block more : List ℕ) (part : Option PropPart) (bs : List ℕ) (out : List DumpRecord) (f : DumpFault) → HasBlock (is_delta h) h.prop_len part block → bs ≡ block ++ more → TextCame rs v i h part more out f → ContentCame rs v i h bs out f
of_text_came rs v i h block more part bs out f hb front (bad_sum text rest is g len sum same fault) = bad_text block text rest part hb g len sum (front ∙ ap (λ x. block ++ x) is) same fault
of_text_came rs v i h block more part bs out f hb front (with_text text rest rec is words says next) =
    with_content (block ++ bytes_of text) rest part text rec (front ∙ ap (λ x. block ++ x) is ∙ sym (append_assoc block (bytes_of text) rest)) (record { block = block; whole = refl; properties = hb; words = words }) says next

module _ (rs : List DumpRecord) (r : ReadState) (bs : List ℕ) (out : List DumpRecord) (f : DumpFault) (fits : fits_form r.version r.stage r.head ≡ true) (fit : lengths_fit r.head ≡ true) where
  block_from : (n : ℕ) → 0 < n → r.head.prop_len ≡ Some n → reading (Reads rs (record r { place = at.Block; block = begun (is_delta r.head) n; held = [] })) bs ≡ Refuses out f → ContentCame rs r.version r.stage r.head bs out f
  block_from n some len e =
      let delta = is_delta r.head in
      let r-2 = record r { place = at.Block; block = begun delta n; held = [] } in
      elim (run_block (begun delta n) bs) as (λ run. run_block (begun delta n) bs ≡ run → of_block rs r-2 run ≡ Refuses out f → ContentCame rs r.version r.stage r.head bs out f) [
        | More block ↦ λ is e. reads_never rs out _ f _ e
        | Fault fault ↦ λ is e. let s = same_refusal rs out (of_prop_fault fault) f e in bad_block fault n len some (first_bad (begun delta n) bs fault is) s.0 s.1
        | Done props removed rest ↦ λ is e.
            let b = read_is_block delta n bs props removed rest is in
            of_text_came rs r.version r.stage r.head b.block rest (Some (part_of delta props removed)) bs out f
            (len ∙ ap Some (sym b.whole), (b.entries, b.spelled, b.within, (λ j. part_of delta (b.sets j) (b.removes j)))) b.front
            (after_block_from rs (record r-2 { block = new_block 0 }) (Some (props, removed)) rest out f fits fit e)
      ] refl (sym (block_piece rs r-2 bs refl) ∙ e)

  content_from : reading (content rs r) bs ≡ Refuses out f → ContentCame rs r.version r.stage r.head bs out f
  content_from e =
      elim r.head.prop_len as (λ q. r.head.prop_len ≡ q → reading (elim q as (λ _. Stream) [ None ↦ after_block rs r None | Some n ↦ if n == 0 then Refuses rs BadProps else Reads rs (record r { place = at.Block; block = begun (is_delta r.head) n; held = [] }) ]) bs ≡ Refuses out f → ContentCame rs r.version r.stage r.head bs out f) [
        | None ↦ λ q e. of_text_came rs r.version r.stage r.head [] bs None bs out f (q, refl) refl (after_block_from rs r None bs out f fits fit e)
        | Some n ↦ λ q e.
            elim (n == 0) as (λ t. (n == 0) ≡ t → reading (if t then Refuses rs BadProps else Reads rs (record r { place = at.Block; block = begun (is_delta r.head) n; held = [] })) bs ≡ Refuses out f → ContentCame rs r.version r.stage r.head bs out f) [
              | true ↦ λ t e. let s = refused_is rs out BadProps f bs e in no_bytes (q ∙ ap Some (eqb-true n 0 t)) s.0 s.1
              | false ↦ λ t e. block_from n (omega (arith, not_eq n 0 t)) q e
            ] refl e
      ] refl e

-- ---- header lines

lines-append : (ls : List (List ℕ)) (l : List ℕ) → lines_of (ls ++ l ∷ []) ≡ lines_of ls ++ (l ++ 10 ∷ [])
lines-append [] l = refl
lines-append (k ∷ ls) l = ap (λ x. k ++ 10 ∷ x) (lines-append ls l) ∙ sym (append_assoc k (10 ∷ lines_of ls) (l ++ 10 ∷ []))

heads_more : (h : Head) (ls : List (List ℕ)) (last : Head) (l : List ℕ) (next : Head) → HeadOf h ls last → NoLf l → 0 < length l → length l ≤ 4096 → line_says last l ≡ Ok next → HeadOf h (ls ++ l ∷ []) next
heads_more h [] last l next are lone some short says = (lone, some, short, next, ap (λ x. line_says x l) are ∙ says, refl)
heads_more h (k ∷ ls) last l next (a, b, c, mid, d, rest) lone some short says = (a, b, c, mid, d, heads_more mid ls last l next rest lone some short says)

-- what comes of header lines and what follows them
pub data Came (d : Bool) (rs : List DumpRecord) (v : ℕ) (i : Stage) (bytes : List ℕ) (out : List DumpRecord) (f : DumpFault) : Type 0 where
  faulty : (front rest : List ℕ) → IsFault d f v i front → bytes ≡ front ++ rest → out ≡ rs → Came d rs v i bytes out f
  with_record : (rec : DumpRecord) (first rest : List ℕ) → IsRecord d v i first rec → bytes ≡ first ++ rest → reading (follow d rs v i rec) rest ≡ Refuses out f → Came d rs v i bytes out f

module _ (d : Bool) (rs : List DumpRecord) (v : ℕ) (i : Stage) (ls : List (List ℕ)) (h : Head) (are : HeadOf (no_head d) ls h) (some : 0 < length ls) (out : List DumpRecord) (f : DumpFault) where
  abbrev ended : AtEnd d h (lines_of ls ++ 10 ∷ [])
  ended = (ls, some, are, refl)

  split : (bs : List ℕ) → lines_of ls ++ 10 ∷ bs ≡ (lines_of ls ++ 10 ∷ []) ++ bs
  split bs = sym (append_assoc (lines_of ls) (10 ∷ []) bs)

  at_front : (bs front rest : List ℕ) → bs ≡ front ++ rest → lines_of ls ++ 10 ∷ bs ≡ ((lines_of ls ++ 10 ∷ []) ++ front) ++ rest
  at_front bs front rest is = split bs ∙ ap (λ y. (lines_of ls ++ 10 ∷ []) ++ y) is ∙ sym (append_assoc (lines_of ls ++ 10 ∷ []) front rest)

  content_came : (bs : List ℕ) → fits_form v i h ≡ true → lengths_agree h ≡ true → lengths_fit h ≡ true → ContentCame rs v i h bs out f → Came d rs v i (lines_of ls ++ 10 ∷ bs) out f
  content_came bs form agree fit (no_bytes z same fault) = faulty (lines_of ls ++ 10 ∷ []) bs (no_block fault h (record { ended = ended; form = form; agree = agree; fit = fit }) z) (split bs) same
  content_came bs form agree fit (bad_block p n len some b same fault) =
      faulty ((lines_of ls ++ 10 ∷ []) ++ (b.before ++ b.byte ∷ [])) b.rest
      (in_block p fault h (lines_of ls ++ 10 ∷ []) b.before n b.byte b.so_far (record { ended = ended; form = form; agree = agree; fit = fit }) len some b.reads b.refuses refl)
      (at_front bs (b.before ++ b.byte ∷ []) b.rest (b.is ∙ sym (append_assoc b.before (b.byte ∷ []) b.rest))) same
  content_came bs form agree fit (bad_text block text rest part hb g len sum is same fault) =
      faulty ((lines_of ls ++ 10 ∷ []) ++ (block ++ text)) rest
      (in_text fault h (lines_of ls ++ 10 ∷ []) block text part (record { ended = ended; form = form; agree = agree; fit = fit }) hb g len sum refl)
      (at_front bs (block ++ text) rest (is ∙ sym (append_assoc block text rest))) same
  content_came bs form agree fit (with_content body rest part text rec is c says next) =
      with_record rec (lines_of ls ++ 10 ∷ body) rest
      (record { lines = ls; head = h; body = body; props = part; text = text; some = some; spelled = refl; headers = are; form = form; agree = agree; fit = fit; content = c; says = record_says h part text rec says })
      (ap (λ y. lines_of ls ++ 10 ∷ y) is ∙ sym (append_assoc (lines_of ls) (10 ∷ body) rest))
      (ap (λ m. reading (follow m rs v i rec) rest) (sym (heads_mode (no_head d) ls h are)) ∙ next)

  judged_from : (bs : List ℕ) → reading (judged rs (reader v at.Header i h (new_block 0) None [])) bs ≡ Refuses out f → Came d rs v i (lines_of ls ++ 10 ∷ bs) out f
  judged_from bs e =
      let r = reader v at.Header i h (new_block 0) None [] in
      elim (fits_form v i h) as (λ t. fits_form v i h ≡ t → reading (if not t then Refuses rs BadHeader else (if not (lengths_agree h) then Refuses rs BadLength else (if not (lengths_fit h) then Refuses rs TooLong else content rs r))) bs ≡ Refuses out f → Came d rs v i (lines_of ls ++ 10 ∷ bs) out f) [
        | false ↦ λ form e. let s = refused_is rs out BadHeader f bs e in faulty (lines_of ls ++ 10 ∷ []) bs (no_form s.1 h ended form) (split bs) s.0
        | true ↦ λ form e.
            elim (lengths_agree h) as (λ t. lengths_agree h ≡ t → reading (if not t then Refuses rs BadLength else (if not (lengths_fit h) then Refuses rs TooLong else content rs r)) bs ≡ Refuses out f → Came d rs v i (lines_of ls ++ 10 ∷ bs) out f) [
              | false ↦ λ agree e. let s = refused_is rs out BadLength f bs e in faulty (lines_of ls ++ 10 ∷ []) bs (no_sum s.1 h ended form agree) (split bs) s.0
              | true ↦ λ agree e.
                  elim (lengths_fit h) as (λ t. lengths_fit h ≡ t → reading (if not t then Refuses rs TooLong else content rs r) bs ≡ Refuses out f → Came d rs v i (lines_of ls ++ 10 ∷ bs) out f) [
                    | false ↦ λ fit e. let s = refused_is rs out TooLong f bs e in faulty (lines_of ls ++ 10 ∷ []) bs (too_much s.1 h ended form agree fit) (split bs) s.0
                    | true ↦ λ fit e. content_came bs form agree fit (content_from rs r bs out f form fit e)
                  ] refl e
            ] refl e
      ] refl e

-- a line behind header lines
module _ (d : Bool) (rs : List DumpRecord) (v : ℕ) (i : Stage) (ls : List (List ℕ)) (h : Head) (are : HeadOf (no_head d) ls h) (out : List DumpRecord) (f : DumpFault) (bs : List ℕ) where
  long_behind : LongLine rs out f bs → Came d rs v i (lines_of ls ++ bs) out f
  long_behind l = faulty (lines_of ls ++ l.line) l.rest (long_line l.fault h (lines_of ls) l.line (ls, are, refl) l.long refl) (ap (λ y. lines_of ls ++ y) l.is ∙ sym (append_assoc (lines_of ls) l.line l.rest)) l.same

  bad_behind : (line rest : List ℕ) (g : DumpFault) → bs ≡ line ++ 10 ∷ rest → IsLine line → 0 < length line → line_says h line ≡ Err g → reading (Refuses rs g) rest ≡ Refuses out f → Came d rs v i (lines_of ls ++ bs) out f
  bad_behind line rest g is short some says e =
      let s = refused_is rs out g f rest e in
      faulty (lines_of ls ++ (line ++ 10 ∷ [])) rest (in_line h (lines_of ls) line (ls, are, refl) short some (says ∙ ap Err (sym s.1)) refl)
      (ap (λ y. lines_of ls ++ y) (is ∙ sym (append_assoc line (10 ∷ []) rest)) ∙ sym (append_assoc (lines_of ls) (line ++ 10 ∷ []) rest)) s.0

one_line_more : (ls : List (List ℕ)) (bs line rest : List ℕ) → bs ≡ line ++ 10 ∷ rest → lines_of (ls ++ line ∷ []) ++ rest ≡ lines_of ls ++ bs
one_line_more ls bs line rest is = ap (λ y. y ++ rest) (lines-append ls line) ∙ append_assoc (lines_of ls) (line ++ 10 ∷ []) rest ∙ ap (λ y. lines_of ls ++ y) (append_assoc line (10 ∷ []) rest ∙ sym is)

some_more : (ls : List (List ℕ)) (l : List ℕ) → 0 < length (ls ++ l ∷ [])
some_more ls l = omega (arith, length-append ls (l ∷ []))

module _ (d : Bool) (n : ℕ) (rs : List DumpRecord) (v : ℕ) (i : Stage) (ls : List (List ℕ)) (h : Head) (are : HeadOf (no_head d) ls h) (some : 0 < length ls) (out : List DumpRecord) (f : DumpFault) (bs : List ℕ) (size : length bs ≤ suc n) (ih : (ls : List (List ℕ)) (h : Head) → HeadOf (no_head d) ls h → 0 < length ls → (rest : List ℕ) → length rest ≤ n → reading (Reads rs (reader v at.Header i h (new_block 0) None [])) rest ≡ Refuses out f → Came d rs v i (lines_of ls ++ rest) out f) where
  by_line : (line rest : List ℕ) → bs ≡ line ++ 10 ∷ rest → IsLine line → reading (line_is at.Header rs (reader v at.Header i h (new_block 0) None []) line) rest ≡ Refuses out f → Came d rs v i (lines_of ls ++ bs) out f
  by_line [] rest is short e = subst (λ y. Came d rs v i (lines_of ls ++ y) out f) (sym is) (judged_from d rs v i ls h are some out f rest e)
  by_line (b ∷ s) rest is short e =
      elim (line_says h (b ∷ s)) as (λ o. line_says h (b ∷ s) ≡ o → reading (said rs (reader v at.Header i h (new_block 0) None []) o) rest ≡ Refuses out f → Came d rs v i (lines_of ls ++ bs) out f) [
        | Err g ↦ λ o e. bad_behind d rs v i ls h are out f bs (b ∷ s) rest g is short (omega arith) o e
        | Ok next ↦ λ o e.
            subst (λ y. Came d rs v i y out f) (one_line_more ls bs (b ∷ s) rest is)
            (ih (ls ++ (b ∷ s) ∷ []) next (heads_more (no_head d) ls h (b ∷ s) next are short.0 (omega arith) short.1 o) (some_more ls (b ∷ s)) rest (shorter n bs (b ∷ s) rest size is) e)
      ] refl e

head_from : (d : Bool) (n : ℕ) (rs : List DumpRecord) (v : ℕ) (i : Stage) (out : List DumpRecord) (f : DumpFault) (ls : List (List ℕ)) (h : Head) → HeadOf (no_head d) ls h → 0 < length ls → (bs : List ℕ) → length bs ≤ n → reading (Reads rs (reader v at.Header i h (new_block 0) None [])) bs ≡ Refuses out f → Came d rs v i (lines_of ls ++ bs) out f
head_from d zero rs v i out f ls h are some bs size e =
    elim (a_line at.Header refl rs v i h out f bs e) [
      | inl l ↦ long_behind d rs v i ls h are out f bs l
      | inr l ↦ nothing_less bs l.line l.rest _ size l.is
    ]
head_from d (suc n) rs v i out f ls h are some bs size e =
    elim (a_line at.Header refl rs v i h out f bs e) [
      | inl l ↦ long_behind d rs v i ls h are out f bs l
      | inr l ↦ by_line d n rs v i ls h are some out f bs size (head_from d n rs v i out f) l.line l.rest l.is l.short l.next
    ]

-- ---- records

pub record Told (d : Bool) (rs : List DumpRecord) (v : ℕ) (i : Stage) (bs : List ℕ) (out : List DumpRecord) (f : DumpFault) : Type 0 where
  pub recs : List DumpRecord
  pub whole : List ℕ
  pub last : List ℕ
  pub rest : List ℕ
  pub all : out ≡ rs ++ recs
  pub spelled : IsRecords d v i whole recs
  pub fault : IsFault d f v (stage_behind i recs) last
  pub joined : bs ≡ whole ++ (last ++ rest)

told_here : (d : Bool) (rs : List DumpRecord) (v : ℕ) (i : Stage) (bs : List ℕ) (out : List DumpRecord) (f : DumpFault) (front rest : List ℕ) → IsFault d f v i front → bs ≡ front ++ rest → out ≡ rs → Told d rs v i bs out f
told_here d rs v i bs out f front rest fault is same = record { recs = []; whole = []; last = front; rest = rest; all = same ∙ sym (append-nil rs); spelled = tt; fault = fault; joined = is }

module _ (d : Bool) (n : ℕ) (rs : List DumpRecord) (v : ℕ) (i : Stage) (bs : List ℕ) (out : List DumpRecord) (f : DumpFault) (size : length bs ≤ suc n) (ih : (rs : List DumpRecord) (i : Stage) (rest : List ℕ) → length rest ≤ n → reading (Reads rs (begin d v at.Between i)) rest ≡ Refuses out f → Told d rs v i rest out f) where
  told_came : Came d rs v i bs out f → Told d rs v i bs out f
  told_came (faulty front rest fault is same) = told_here d rs v i bs out f front rest fault is same
  told_came (with_record rec first rest r is next) =
      let small : length rest ≤ n = omega (arith, ap length is, length-append first rest, ap length r.spelled, length-append (lines_of r.lines) (10 ∷ r.body)) in
      let later = ih (rs ++ rec ∷ []) (stage_after i rec) rest small next in
      record { recs = rec ∷ later.recs; whole = first ++ later.whole; last = later.last; rest = later.rest; all = later.all ∙ append_assoc rs (rec ∷ []) later.recs; spelled = ([], first, later.whole, tt, r, later.spelled, refl); fault = later.fault; joined = is ∙ ap (λ y. first ++ y) later.joined ∙ sym (append_assoc first later.whole (later.last ++ later.rest)) }

  told_line : (line rest : List ℕ) → bs ≡ line ++ 10 ∷ rest → IsLine line → reading (line_is at.Between rs (begin d v at.Between i) line) rest ≡ Refuses out f → Told d rs v i bs out f
  told_line [] rest is short e =
      let later = ih rs i rest (shorter n bs [] rest size is) e in
      record { recs = later.recs; whole = 10 ∷ later.whole; last = later.last; rest = later.rest; all = later.all; spelled = blanks_before d v i (10 ∷ []) later.whole later.recs (refl, tt) later.spelled; fault = later.fault; joined = is ∙ ap (λ y. 10 ∷ y) later.joined }
  told_line (b ∷ s) rest is short e =
      elim (line_says (no_head d) (b ∷ s)) as (λ o. line_says (no_head d) (b ∷ s) ≡ o → reading (said rs (begin d v at.Between i) o) rest ≡ Refuses out f → Told d rs v i bs out f) [
        | Err g ↦ λ o e. told_came (bad_behind d rs v i [] (no_head d) refl out f bs (b ∷ s) rest g is short (omega arith) o e)
        | Ok next ↦ λ o e.
            told_came (subst (λ y. Came d rs v i y out f) (one_line_more [] bs (b ∷ s) rest is)
            (head_from d (length rest) rs v i out f ((b ∷ s) ∷ []) next (short.0, omega arith, short.1, next, o, refl) (omega arith) rest (omega arith) e))
      ] refl e

records_from : (d : Bool) (n : ℕ) (v : ℕ) (out : List DumpRecord) (f : DumpFault) (rs : List DumpRecord) (i : Stage) (bs : List ℕ) → length bs ≤ n → reading (Reads rs (begin d v at.Between i)) bs ≡ Refuses out f → Told d rs v i bs out f
records_from d zero v out f rs i bs size e =
    elim (a_line at.Between refl rs v i (no_head d) out f bs e) [
      | inl l ↦ told_here d rs v i bs out f l.line l.rest (long_line l.fault (no_head d) [] l.line ([], refl, refl) l.long refl) l.is l.same
      | inr l ↦ nothing_less bs l.line l.rest _ size l.is
    ]
records_from d (suc n) v out f rs i bs size e =
    elim (a_line at.Between refl rs v i (no_head d) out f bs e) [
      | inl l ↦ told_here d rs v i bs out f l.line l.rest (long_line l.fault (no_head d) [] l.line ([], refl, refl) l.long refl) l.is l.same
      | inr l ↦ told_line d n rs v i bs out f size (records_from d n v out f) l.line l.rest l.is l.short l.next
    ]

-- ---- the version block

module _ (d : Bool) (bytes : List ℕ) (rs : List DumpRecord) (f : DumpFault) (line rest : List ℕ) (is : bytes ≡ line ++ 10 ∷ rest) where
  blank_line : (v : ℕ) → version_in line ≡ Some v → (next more : List ℕ) → rest ≡ next ++ 10 ∷ more → IsLine next → reading (line_is at.Blank [] (reader v at.Blank First (no_head d) (new_block 0) None []) next) more ≡ Refuses rs f → (front rest : List ℕ) × (bytes ≡ front ++ rest) × IsDue d f rs front
  blank_line v o [] more at short e =
      let t = records_from d (length more) v rs f [] First more (omega arith) e in
      let whole = line ++ 10 ∷ 10 ∷ t.whole in
      let named = names_format line v o in (
        whole ++ t.last,
        t.rest,
        is ∙ ap (λ y. line ++ 10 ∷ y) (at ∙ ap (λ y. 10 ∷ y) t.joined) ∙ joined line t.whole t.last t.rest,
        behind v whole t.last (line, t.whole, named, refl, subst (λ x. IsRecords d v First t.whole x) (sym t.all) t.spelled) (subst (λ x. IsFault d f v (stage_behind First x) t.last) (sym t.all) t.fault) refl,
      )
    where
      joined : (a b c d : List ℕ) → a ++ 10 ∷ 10 ∷ (b ++ (c ++ d)) ≡ ((a ++ 10 ∷ 10 ∷ b) ++ c) ++ d
      joined a b c d = simp append_assoc refl
  blank_line v o (b ∷ s) more at short e =
      let x = refused_is [] rs BadHeader f more e in
      (line ++ 10 ∷ ((b ∷ s) ++ 10 ∷ []), more, is ∙ ap (λ y. line ++ 10 ∷ y) at ∙ joined line (b ∷ s) more, no_blank x.1 x.0 v line (b ∷ s) (names_format line v o) short (omega arith) refl)
    where
      joined : (a c d : List ℕ) → a ++ 10 ∷ (c ++ 10 ∷ d) ≡ (a ++ 10 ∷ (c ++ 10 ∷ [])) ++ d
      joined a c d = simp append_assoc refl

  first_line : IsLine line → reading (line_is at.Version [] (reader 0 at.Version First (no_head d) (new_block 0) None []) line) rest ≡ Refuses rs f → (front rest : List ℕ) × (bytes ≡ front ++ rest) × IsDue d f rs front
  first_line short e =
      elim (version_in line) as (λ o. version_in line ≡ o → reading (versioned [] (reader 0 at.Version First (no_head d) (new_block 0) None []) o) rest ≡ Refuses rs f → (front rest : List ℕ) × (bytes ≡ front ++ rest) × IsDue d f rs front) [
        | None ↦ λ o e. let s = refused_is [] rs BadVersion f rest e in (line ++ 10 ∷ [], rest, is ∙ sym (append_assoc line (10 ∷ []) rest), no_version s.1 s.0 line short o refl)
        | Some v ↦ λ o e.
            elim (a_line at.Blank refl [] v First (no_head d) rs f rest e) [
              | inl l ↦ (line ++ 10 ∷ l.line, l.rest, is ∙ ap (λ y. line ++ 10 ∷ y) l.is ∙ sym (append_assoc line (10 ∷ l.line) l.rest), long_second l.fault l.same v line l.line (names_format line v o) l.long refl)
              | inr l ↦ blank_line v o l.line l.rest l.is l.short l.next
            ]
      ] refl e

pub refused_for_cause : (d : Bool) (bytes : List ℕ) (rs : List DumpRecord) (f : DumpFault) → dump_by d bytes ≡ Refuses rs f → (front rest : List ℕ) × (bytes ≡ front ++ rest) × IsDue d f rs front
refused_for_cause d bytes rs f e =
    elim (a_line at.Version refl [] 0 First (no_head d) rs f bytes e) [
      | inl l ↦ (l.line, l.rest, l.is, long_first l.fault l.same l.long)
      | inr l ↦ first_line d bytes rs f l.line l.rest l.is l.short l.next
    ]

-- ---- what is due is refused

abbrev place_behind : List (List ℕ) → Place
place_behind [] = at.Between
place_behind (l ∷ ls) = at.Header

is_line_behind : (ls : List (List ℕ)) → is_line_place (place_behind ls) ≡ true
is_line_behind [] = refl
is_line_behind (l ∷ ls) = refl

said_behind : (ls : List (List ℕ)) (rs : List DumpRecord) (r : ReadState) (b : ℕ) (s : List ℕ) → line_is (place_behind ls) rs r (b ∷ s) ≡ said rs r (line_says r.head (b ∷ s))
said_behind [] rs r b s = refl
said_behind (l ∷ ls) rs r b s = refl

-- behind header lines the reader has what they come to
lines_behind : (d : Bool) (rs : List DumpRecord) (v : ℕ) (i : Stage) (head : Head) (ls : List (List ℕ)) (bs : List ℕ) → HeadOf (no_head d) ls head → reading (Reads rs (begin d v at.Between i)) (lines_of ls ++ bs) ≡ reading (Reads rs (reader v (place_behind ls) i head (new_block 0) None [])) bs
lines_behind d rs v i head [] bs are = ap (λ x. reading (Reads rs (reader v at.Between i x (new_block 0) None [])) bs) are
lines_behind d rs v i head (l ∷ ls) bs are = head_read d rs v i head (l ∷ ls) bs (omega arith) are

line_refused : (d : Bool) (rs : List DumpRecord) (v : ℕ) (i : Stage) (head : Head) (ls : List (List ℕ)) (line more : List ℕ) (f : DumpFault) → HeadOf (no_head d) ls head → IsLine line → 0 < length line → line_says head line ≡ Err f → reading (Reads rs (begin d v at.Between i)) ((lines_of ls ++ (line ++ 10 ∷ [])) ++ more) ≡ Refuses rs f
line_refused d rs v i head ls [] more f are short some says = absurd (omega arith)
line_refused d rs v i head ls (b ∷ s) more f are short some says =
    let line = b ∷ s in
    ap (reading (Reads rs (begin d v at.Between i))) (append_assoc (lines_of ls) (line ++ 10 ∷ []) more ∙ ap (λ y. lines_of ls ++ y) (append_assoc line (10 ∷ []) more))
    ∙ lines_behind d rs v i head ls (line ++ 10 ∷ more) are
    ∙ line_ends (place_behind ls) (is_line_behind ls) rs v i head (new_block 0) None [] line more short.0 (λ q. omega (arith, short.1))
    ∙ ap (λ t. reading t more) (said_behind ls rs (reader v (place_behind ls) i head (new_block 0) None []) b s ∙ ap (said rs (reader v (place_behind ls) i head (new_block 0) None [])) says)
    ∙ reading-refused rs f more

long_refused : (place : Place) (rs : List DumpRecord) (v : ℕ) (i : Stage) (head : Head) (line more : List ℕ) → is_line_place place ≡ true → IsLong line → reading (Reads rs (reader v place i head (new_block 0) None [])) (line ++ more) ≡ Refuses rs TooLong
long_refused place rs v i head line more is long =
    line_too_long rs (reader v place i head (new_block 0) None []) 4096 (length line) (line ++ more) is (omega (arith, length-append line more)) (subst NoLf (sym (take_at line more (length line) refl)) long.0) (omega (arith, long.1)) (λ q. omega arith) (omega arith)

end_read : (d : Bool) (rs : List DumpRecord) (v : ℕ) (i : Stage) (head : Head) (front more : List ℕ) → AtEnd d head front → reading (Reads rs (begin d v at.Between i)) (front ++ more) ≡ reading (judged rs (reader v at.Header i head (new_block 0) None [])) more
end_read d rs v i head front more (ls, some, are, is) =
    ap (λ y. reading (Reads rs (begin d v at.Between i)) (y ++ more)) is
    ∙ ap (reading (Reads rs (begin d v at.Between i))) (append_assoc (lines_of ls) (10 ∷ []) more)
    ∙ head_read d rs v i head ls (10 ∷ more) some are

fine_read : (d : Bool) (rs : List DumpRecord) (v : ℕ) (i : Stage) (head : Head) (front more : List ℕ) → IsFine d v i head front → reading (Reads rs (begin d v at.Between i)) (front ++ more) ≡ reading (content rs (reader v at.Header i head (new_block 0) None [])) more
fine_read d rs v i head front more w =
    let r = reader v at.Header i head (new_block 0) None [] in
    let judge : judged rs r ≡ content rs r = rw (w.form, w.agree, w.fit) refl in
    end_read d rs v i head front more w.ended ∙ ap (λ t. reading t more) judge

-- a block that is announced has begun
block_begun : (rs : List DumpRecord) (r : ReadState) (n : ℕ) → r.head.prop_len ≡ Some n → 0 < n → content rs r ≡ Reads rs (record r { place = at.Block; block = begun (is_delta r.head) n; held = [] })
block_begun rs r n len some = rw (len, eq_false n 0 (omega arith)) refl

text_refused : (rs : List DumpRecord) (r : ReadState) (part : Option PropPart) (text more : List ℕ) → gives_delta r.head ≡ false → r.head.text_len ≡ Some (length text) → sum_holds r.head.sum text ≡ false → reading (after_block rs r part) (text ++ more) ≡ Refuses rs BadSum
text_refused rs r part text more g len sum =
    text_comes rs r part text more len
    ∙ ap (λ t. reading t more) (as_whole rs r part text g ∙ ap (λ b. if b then made rs r part text else Refuses rs BadSum) sum)
    ∙ reading-refused rs BadSum more

content_refused : (rs : List DumpRecord) (r : ReadState) (block text more : List ℕ) (part : Option PropPart) → HasBlock (is_delta r.head) r.head.prop_len part block → gives_delta r.head ≡ false → r.head.text_len ≡ Some (length text) → sum_holds r.head.sum text ≡ false → reading (content rs r) ((block ++ text) ++ more) ≡ Refuses rs BadSum
content_refused rs r block text more None hb g len sum =
    let first : content rs r ≡ after_block rs r None = ap (λ o. elim o as (λ _. Stream) [ None ↦ after_block rs r None | Some n ↦ if n == 0 then Refuses rs BadProps else Reads rs (record r { place = at.Block; block = begun (is_delta r.head) n; held = [] }) ]) hb.0 in
    ap (λ t. reading t ((block ++ text) ++ more)) first
    ∙ ap (λ y. reading (after_block rs r None) ((y ++ text) ++ more)) hb.1
    ∙ text_refused rs r None text more g len sum
content_refused rs r block text more (Some part) hb g len sum =
    let n = length block in
    let r-2 = record r { place = at.Block; block = begun (is_delta r.head) n; held = [] } in
    let long = block_long (is_delta r.head) block hb.1.0 hb.1.1 in
    ap (λ t. reading t ((block ++ text) ++ more)) (block_begun rs r n hb.0 (omega (arith, long)))
    ∙ ap (reading (Reads rs r-2)) (append_assoc block text more)
    ∙ block_piece rs r-2 (block ++ (text ++ more)) refl
    ∙ block_read rs r-2 block (text ++ more) part hb.1
    ∙ text_refused rs (record r-2 { block = new_block 0 }) (Some part) text more g len sum

fault_read : (d : Bool) (rs : List DumpRecord) (f : DumpFault) (v : ℕ) (i : Stage) (bytes more : List ℕ) → IsFault d f v i bytes → reading (Reads rs (begin d v at.Between i)) (bytes ++ more) ≡ Refuses rs f
fault_read d rs f v i bytes more (in_line head front line (ls, are, came) short some says is) =
    ap (λ y. reading (Reads rs (begin d v at.Between i)) (y ++ more)) (is ∙ ap (λ y. y ++ (line ++ 10 ∷ [])) came)
    ∙ line_refused d rs v i head ls line more f are short some says
fault_read d rs f v i bytes more (long_line e head front line (ls, are, came) long is) =
    ap (λ y. reading (Reads rs (begin d v at.Between i)) (y ++ more)) (is ∙ ap (λ y. y ++ line) came)
    ∙ ap (reading (Reads rs (begin d v at.Between i))) (append_assoc (lines_of ls) line more)
    ∙ lines_behind d rs v i head ls (line ++ more) are
    ∙ long_refused (place_behind ls) rs v i head line more (is_line_behind ls) long
    ∙ ap (Refuses rs) (sym e)
fault_read d rs f v i bytes more (no_form e head closed form) =
    let r = reader v at.Header i head (new_block 0) None [] in
    let judge : judged rs r ≡ Refuses rs BadHeader = rw form refl in
    end_read d rs v i head bytes more closed ∙ ap (λ t. reading t more) judge ∙ reading-refused rs BadHeader more ∙ ap (Refuses rs) (sym e)
fault_read d rs f v i bytes more (no_sum e head closed form agree) =
    let r = reader v at.Header i head (new_block 0) None [] in
    let judge : judged rs r ≡ Refuses rs BadLength = rw (form, agree) refl in
    end_read d rs v i head bytes more closed ∙ ap (λ t. reading t more) judge ∙ reading-refused rs BadLength more ∙ ap (Refuses rs) (sym e)
fault_read d rs f v i bytes more (too_much e head closed form agree fit) =
    let r = reader v at.Header i head (new_block 0) None [] in
    let judge : judged rs r ≡ Refuses rs TooLong = rw (form, agree, fit) refl in
    end_read d rs v i head bytes more closed ∙ ap (λ t. reading t more) judge ∙ reading-refused rs TooLong more ∙ ap (Refuses rs) (sym e)
fault_read d rs f v i bytes more (no_block e head fine z) =
    let r = reader v at.Header i head (new_block 0) None [] in
    let none : content rs r ≡ Refuses rs BadProps = rw z refl in
    fine_read d rs v i head bytes more fine ∙ ap (λ t. reading t more) none ∙ reading-refused rs BadProps more ∙ ap (Refuses rs) (sym e)
fault_read d rs f v i bytes more (in_block fault e head front before n b so_far fine len some reads refuses is) =
    let r = reader v at.Header i head (new_block 0) None [] in
    let r-2 = record r { place = at.Block; block = begun (is_delta head) n; held = [] } in
    let block = before ++ b ∷ [] in
    ap (λ y. reading (Reads rs (begin d v at.Between i)) (y ++ more)) is
    ∙ ap (reading (Reads rs (begin d v at.Between i))) (append_assoc front block more)
    ∙ fine_read d rs v i head front (block ++ more) fine
    ∙ ap (λ t. reading t (block ++ more)) (block_begun rs r n len some)
    ∙ block_piece rs r-2 (block ++ more) refl
    ∙ ap (of_block rs r-2) (after-append (More (begun (is_delta head) n)) block more ∙ ap (λ t. after t more) refuses ∙ after-refused fault more)
    ∙ ap (Refuses rs) (sym e)
fault_read d rs f v i bytes more (in_text e head front block text given fine hb g len sum is) =
    ap (λ y. reading (Reads rs (begin d v at.Between i)) (y ++ more)) is
    ∙ ap (reading (Reads rs (begin d v at.Between i))) (append_assoc front (block ++ text) more)
    ∙ fine_read d rs v i head front ((block ++ text) ++ more) fine
    ∙ content_refused rs (reader v at.Header i head (new_block 0) None []) block text more given hb g len sum
    ∙ ap (Refuses rs) (sym e)

-- a version line, and what follows it
version_read : (d : Bool) (version : ℕ) (first bs : List ℕ) → IsVersionLine version first → dump_by d (first ++ 10 ∷ bs) ≡ reading (Reads [] (begin d version at.Blank First)) bs
version_read d version first bs (inl x) = (λ j. dump_by d (x.1 j ++ 10 ∷ bs)) ∙ (λ j. reading (Reads [] (begin d (sym x.0 j) at.Blank First)) bs)
version_read d version first bs (inr x) = (λ j. dump_by d (x.1 j ++ 10 ∷ bs)) ∙ (λ j. reading (Reads [] (begin d (sym x.0 j) at.Blank First)) bs)

blank_refused : (d : Bool) (v : ℕ) (line more : List ℕ) → IsLine line → 0 < length line → reading (Reads [] (begin d v at.Blank First)) (line ++ 10 ∷ more) ≡ Refuses [] BadHeader
blank_refused d v [] more short some = absurd (omega arith)
blank_refused d v (b ∷ s) more short some = line_ends at.Blank refl [] v First (no_head d) (new_block 0) None [] (b ∷ s) more short.0 (λ q. omega (arith, short.1)) ∙ reading-refused [] BadHeader more

told_so : (rs : List DumpRecord) (f g : DumpFault) → rs ≡ [] → f ≡ g → Refuses [] g ≡ Refuses rs f
told_so rs f g e h = λ j. Refuses (sym e j) (sym h j)

pub due_is_refused : (d : Bool) (bytes more : List ℕ) (rs : List DumpRecord) (f : DumpFault) → IsDue d f rs bytes → dump_by d (bytes ++ more) ≡ Refuses rs f
due_is_refused d bytes more rs f (no_version h e line short none is) =
    ap (λ y. dump_by d (y ++ more)) is ∙ ap (dump_by d) (append_assoc line (10 ∷ []) more)
    ∙ line_ends at.Version refl [] 0 First (no_head d) (new_block 0) None [] line more short.0 (λ q. omega (arith, short.1))
    ∙ ap (λ o. reading (versioned [] (reader 0 at.Version First (no_head d) (new_block 0) None []) o) more) none
    ∙ reading-refused [] BadVersion more ∙ told_so rs f BadVersion e h
due_is_refused d bytes more rs f (no_blank h e version first line named short some is) =
    ap (λ y. dump_by d (y ++ more)) is ∙ ap (dump_by d) (joined first line more) ∙ version_read d version first (line ++ 10 ∷ more) named ∙ blank_refused d version line more short some ∙ told_so rs f BadHeader e h
  where
    joined : (a b c : List ℕ) → (a ++ 10 ∷ (b ++ 10 ∷ [])) ++ c ≡ a ++ 10 ∷ (b ++ 10 ∷ c)
    joined a b c = simp append_assoc refl
due_is_refused d bytes more rs f (long_first h e long) = long_refused at.Version [] 0 First (no_head d) bytes more refl long ∙ told_so rs f TooLong e h
due_is_refused d bytes more rs f (long_second h e version first line named long is) =
    ap (λ y. dump_by d (y ++ more)) is ∙ ap (dump_by d) (append_assoc first (10 ∷ line) more) ∙ version_read d version first (line ++ more) named ∙ long_refused at.Blank [] version First (no_head d) line more refl long ∙ told_so rs f TooLong e h
due_is_refused d bytes more rs f (behind version whole last records fault is) =
    ap (λ y. dump_by d (y ++ more)) is ∙ ap (dump_by d) (append_assoc whole last more)
    ∙ reading-append (Reads [] (fresh_by d)) whole (last ++ more)
    ∙ ap (λ s. reading s (last ++ more)) (dump_read d version whole rs records)
    ∙ fault_read d rs f version (stage_behind First rs) last more fault
