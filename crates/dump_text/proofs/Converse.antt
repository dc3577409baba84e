-- What is read is in the grammar.
use Rattle.std.proofs.Common.{◌≡◌, ℕ, zero, suc, ◌+◌, ◌-◌, ◌≤◌, ◌<◌, ◌==◌, not, Bool, true, false, nat_lt, ◌⊎◌, inl, inr, List, [], ◌∷◌, ◌++◌, length, take, drop, get_or, eqb, Option, Some, None, Ok, Err, refl, sym, ap, subst, ◌∙◌, append_assoc, append-nil, length-append, arith}
use Rattle.std.proofs.lemmas.Bool.{eqb-true, cases_lt}
use Rattle.std.proofs.lemmas.Bool.Decides.{nat_tests}
use Rattle.std.proofs.lemmas.List.{take_all, take_at, length-take}
use Rattle.std.specs.Bool.{if◌then◌else◌}
use Rattle.node_base.specs.Blocks.{More, Done, Fault, run_block, begun, new_block}
use Rattle.node_base.specs.declared.limits.TheConstants.{TEXT_BYTES}
use Rattle.node_base.proofs.BlockSpelled.{both}
use Rattle.node_base.proofs.BlockConverse.{read_is_block}
use Rattle.std.specs.Option.{option_map}
use Rattle.dump_text.specs.Headers.{same, version_in}
use Rattle.dump_text.specs.Heads.{line_says, no_head}
use Rattle.dump_text.specs.Forms.{fits_form, lengths_agree, lengths_fit, record_of, named_of, numbered_of, node_of, node_with, is_delta, gives_delta, part_of, delta_of, whole_of, source_of, stage_after}
use Rattle.dump_text.specs.Streams.{Stream, one_byte, Reads, Refuses, reading, fresh_by, begin, given, give, made, whole_text, text_is, after_block, content, judged, said, line_is, is_line_place, is_between, is_between_at, sum_holds, versioned, of_prop_fault, of_block, NoLf, dump_by}
use Rattle.dump_text.specs.Laws.{FirstFault}
use Rattle.dump_text.specs.Grammar.{lines_of, HeadOf, HasText, IsContent, SaysNode, Says, IsRecord, IsRecords, AreBlank, IsVersionLine, version_line, later_line, DumpOf, DumpBy, bytes_of}
use Rattle.dump_text.specs.declared.fault.DumpFault.{DumpFault}
use Rattle.dump_text.specs.declared.fault.DumpFault.TheVariants.{BadVersion, BadHeader, BadLength, BadProps, BadSum, TooLong}
use Rattle.dump_text.specs.declared.form.Stage.{Stage}
use Rattle.dump_text.specs.declared.form.Stage.TheVariants.{First}
use Rattle.dump_text.specs.declared.head.Head.{Head}
use Rattle.dump_text.specs.declared.record.DumpRecord.{DumpRecord}
use Rattle.dump_text.specs.declared.record.PropPart.{PropPart}
use Rattle.dump_text.specs.declared.record.TextPart.{TextPart}
use Rattle.dump_text.specs.declared.record.TextPart.TheVariants.{Whole as AsWhole, Delta as AsDelta}
use Rattle.dump_text.specs.declared.record.NodeRecord.{NodeRecord}
use Rattle.dump_text.specs.declared.record.DumpRecord.TheVariants.{Identity, Revision}
use Rattle.dump_text.specs.declared.state.Place.{Place}
use Rattle.dump_text.specs.declared.state.Place.TheVariants as at
use Rattle.dump_text.specs.declared.state.ReadState.{ReadState}
use Rattle.dump_text.proofs.HeadModes.{heads_mode}
use Rattle.dump_text.proofs.StreamRuns.{reading-append, reading-refused, reader, parts, line_ends, line_kept, line_too_long, text_kept, text_whole, block_piece}
use Rattle.dump_text.proofs.Records.{follow, dump_read}
use Rattle.dump_text.proofs.Written.{blanks_before}

-- ---- where a stream ends

-- the bytes are read to an end between two records
abbrev Ends : Stream → List DumpRecord → ReadState → Type 0
Ends s out last = (s ≡ Reads out last) × (is_between last ≡ true)

never : (rs out : List DumpRecord) (f : DumpFault) (last : ReadState) (bs : List ℕ) (G : Type 0) → Ends (reading (Refuses rs f) bs) out last → G
never rs out f last bs G e = let r = reading-refused rs f bs in clash (sym r ∙ e.0)
  where
    clash : Refuses rs f ≡ Reads out last → G
    clash x = cc

ended : (rs out : List DumpRecord) (r last : ReadState) → Ends (Reads rs r) out last → (is_between r ≡ true) × (out ≡ rs)
ended rs out r last e = (same_state e.0 e.1, same_records e.0)
  where
    same_state : Reads rs r ≡ Reads out last → is_between last ≡ true → is_between r ≡ true
    same_state x b = let s : r ≡ last = cc in ap is_between s ∙ b

    same_records : Reads rs r ≡ Reads out last → out ≡ rs
    same_records x = cc

-- ---- a line

pub record Cut (bs : List ℕ) : Type 0 where
  pub line : List ℕ
  pub rest : List ℕ
  pub is : bs ≡ line ++ 10 ∷ rest
  pub lone : NoLf line

-- bytes have an LF or none
pub cut : (bs : List ℕ) → NoLf bs ⊎ Cut bs
cut [] = inl tt
cut (b ∷ bs) =
    let r = cut bs in
    elim (b == 10) as (λ t. (b == 10) ≡ t → NoLf (b ∷ bs) ⊎ Cut (b ∷ bs)) [
      | true ↦ λ t. inr (record { line = []; rest = bs; is = ap (λ x. x ∷ bs) (eqb-true b 10 t); lone = tt })
      | false ↦ λ t.
          elim r [
            | inl none ↦ inl (t, none)
            | inr c ↦ inr (record { line = b ∷ c.line; rest = c.rest; is = ap (λ x. b ∷ x) c.is; lone = (t, c.lone) })
          ]
    ] refl

-- a line, and what is read behind it
pub record Line (place : Place) (rs : List DumpRecord) (v : ℕ) (i : Stage) (h : Head) (bs : List ℕ) (out : List DumpRecord) (last : ReadState) : Type 0 where
  pub line : List ℕ
  pub rest : List ℕ
  pub is : bs ≡ line ++ 10 ∷ rest
  pub lone : NoLf line
  pub short : length line ≤ 4096
  pub next : Ends (reading (line_is place rs (reader v place i h (new_block 0) None []) line) rest) out last

some_held : (place : Place) (b : ℕ) (bs : List ℕ) (G : Type 0) → is_between_at place (b ∷ bs) ≡ true → G
some_held at.Version b bs G e = cc
some_held at.Blank b bs G e = cc
some_held at.Between b bs G e = absurd (nothing (length bs) e)
  where
    nothing : (n : ℕ) → (suc n == 0) ≡ true → ⊥
    nothing n e = grind (arith, nat_tests)
some_held at.Header b bs G e = cc
some_held at.Block b bs G e = cc
some_held (at.Text n) b bs G e = cc
some_held at.Failed b bs G e = cc

module _ (place : Place) (is : is_line_place place ≡ true) (rs : List DumpRecord) (v : ℕ) (i : Stage) (h : Head) (out : List DumpRecord) (last : ReadState) where
  abbrev here : ReadState
  here = reader v place i h (new_block 0) None []

  -- a line that is too long is refused
  long_never : (k : ℕ) (bs : List ℕ) (G : Type 0) → k ≤ length bs → NoLf (take k bs) → 4096 < k → Ends (reading (Reads rs here) bs) out last → G
  long_never k bs G within lone long e = never rs out TooLong last [] G (sym (line_too_long rs here 4096 k bs is within lone long (λ q. omega arith) (omega arith)) ∙ e.0, e.1)

  -- bytes without an LF don't end between two records
  lone_never : (bs : List ℕ) → NoLf bs → Ends (reading (Reads rs here) bs) out last → (bs ≡ []) × (out ≡ rs) × (is_between_at place [] ≡ true)
  lone_never [] lone e = let x = ended rs out here last e in (refl, x.1, x.0)
  lone_never (b ∷ bs) lone e =
      elim (cases_lt 4096 (length (b ∷ bs))) [
        | inl long ↦ long_never (length (b ∷ bs)) (b ∷ bs) _ (omega arith) (subst NoLf (sym (take_all (length (b ∷ bs)) (b ∷ bs) (omega arith))) lone) long e
        | inr short ↦ some_held place b bs _ (ended rs out _ last (sym (line_kept rs here (b ∷ bs) is lone (λ q. omega arith)) ∙ e.0, e.1)).0
      ]

  -- at a line
  a_line : (bs : List ℕ) → Ends (reading (Reads rs here) bs) out last → ((bs ≡ []) × (out ≡ rs) × (is_between_at place [] ≡ true)) ⊎ Line place rs v i h bs out last
  a_line bs e =
      elim (cut bs) [
        | inl lone ↦ inl (lone_never bs lone e)
        | inr c ↦
            let e-2 : Ends (reading (Reads rs here) (c.line ++ 10 ∷ c.rest)) out last = (ap (reading (Reads rs here)) (sym c.is) ∙ e.0, e.1) in
            elim (cases_lt 4096 (length c.line)) [
              | inl long ↦ long_never (length c.line) (c.line ++ 10 ∷ c.rest) _ (omega (arith, length-append c.line (10 ∷ c.rest))) (subst NoLf (sym (take_at c.line (10 ∷ c.rest) (length c.line) refl)) c.lone) long e-2
              | inr short ↦ inr (record { line = c.line; rest = c.rest; is = c.is; lone = c.lone; short = omega arith; next = (sym (line_ends place is rs v i h (new_block 0) None [] c.line c.rest c.lone (λ q. omega arith)) ∙ e-2.0, e-2.1) })
            ]
      ]

-- ---- a record that is whole

some_is : (r rec : DumpRecord) → Some r ≡ Some rec → r ≡ rec
some_is r rec e = cc

none_some : (rec : DumpRecord) (G : Type 0) → None ≡ Some rec → G
none_some rec G e = cc

-- a node with what is given of its text
says_with : (h : Head) (props : Option PropPart) (node : NodeRecord) (text : Option TextPart) → SaysNode h props node → node.text ≡ None → Says h props text (node_with node text)
says_with h props node None says none = (says, ap (λ t. option_map AsWhole t) (sym none))
says_with h props node (Some (AsWhole t)) says none = (says, refl)
says_with h props node (Some (AsDelta d)) says none = (says, none, refl)

pub record_says : (h : Head) (props : Option PropPart) (text : Option TextPart) (rec : DumpRecord) → record_of h props text ≡ Some rec → Says h props text rec
record_says h props text rec e =
    elim h.identity as (λ o. h.identity ≡ o → named_of h props text o ≡ Some rec → Says h props text rec) [
      | Some id ↦ λ i e. subst (Says h props text) (some_is (Identity id) rec e) i
      | None ↦ λ i e.
          elim h.number as (λ o. h.number ≡ o → numbered_of h props text o ≡ Some rec → Says h props text rec) [
            | Some n ↦ λ j e.
                elim (whole_of props) as (λ w. whole_of props ≡ w → option_map (Revision n) w ≡ Some rec → Says h props text rec) [
                  | None ↦ λ w e. none_some rec _ e
                  | Some ps ↦ λ w e. subst (Says h props text) (some_is (Revision n ps) rec e) (i, j, w)
                ] refl e
            | None ↦ λ j e.
                elim h.path as (λ o. h.path ≡ o → node_of h props text o h.action ≡ Some rec → Says h props text rec) [
                  | None ↦ λ k e. none_some rec _ e
                  | Some path ↦ λ k e.
                      elim h.action as (λ o. h.action ≡ o → node_of h props text (Some path) o ≡ Some rec → Says h props text rec) [
                        | None ↦ λ l e. none_some rec _ e
                        | Some action ↦ λ l e.
                            let node : NodeRecord = record { path = path; kind = h.kind; action = action; source = source_of h.source_path h.source_revision; props = props; text = None } in
                            subst (Says h props text) (some_is (node_with node text) rec e) (says_with h props node text (i, j, k, refl, l, refl, refl) refl)
                      ] refl e
                ] refl e
          ] refl e
    ] refl e

-- a record, and what is read behind it
pub record Given (rs : List DumpRecord) (v : ℕ) (i : Stage) (h : Head) (props : Option PropPart) (text : Option TextPart) (rest : List ℕ) (out : List DumpRecord) (last : ReadState) : Type 0 where
  pub rec : DumpRecord
  pub says : Says h props text rec
  pub next : Ends (reading (follow h.deltas rs v i rec) rest) out last

given_from : (rs : List DumpRecord) (r : ReadState) (props : Option PropPart) (text : Option TextPart) (rest : List ℕ) (out : List DumpRecord) (last : ReadState) → Ends (reading (give rs r props text) rest) out last → Given rs r.version r.stage r.head props text rest out last
given_from rs r props text rest out last e =
    elim (record_of r.head props text) as (λ o. record_of r.head props text ≡ o → Ends (reading (given rs r o) rest) out last → Given rs r.version r.stage r.head props text rest out last) [
      | None ↦ λ o e. never rs out BadHeader last rest _ e
      | Some rec ↦ λ o e. record { rec = rec; says = record_says r.head props text rec o; next = e }
    ] refl e

-- ---- a text

pub record Worded (rs : List DumpRecord) (v : ℕ) (i : Stage) (h : Head) (props : Option PropPart) (bs : List ℕ) (out : List DumpRecord) (last : ReadState) : Type 0 where
  pub text : Option TextPart
  pub rest : List ℕ
  pub front : bs ≡ bytes_of text ++ rest
  pub words : HasText h text
  pub whole : Given rs v i h props text rest out last

whole_from : (rs : List DumpRecord) (r : ReadState) (props : Option PropPart) (text rest : List ℕ) (out : List DumpRecord) (last : ReadState) → Ends (reading (whole_text rs r props text) rest) out last → (sum_holds r.head.sum text ≡ true) × Given rs r.version r.stage r.head props (Some (AsWhole text)) rest out last
whole_from rs r props text rest out last e =
    elim (sum_holds r.head.sum text) as (λ t. sum_holds r.head.sum text ≡ t → Ends (reading (if t then made rs r props text else Refuses rs BadSum) rest) out last → (sum_holds r.head.sum text ≡ true) × Given rs r.version r.stage r.head props (Some (AsWhole text)) rest out last) [
      | true ↦ λ t e.
          elim (nat_lt TEXT_BYTES (length text)) as (λ b. Ends (reading (if b then Refuses rs TooLong else give rs r props (Some (AsWhole text))) rest) out last → (sum_holds r.head.sum text ≡ true) × Given rs r.version r.stage r.head props (Some (AsWhole text)) rest out last) [
            | true ↦ λ e. never rs out TooLong last rest _ e
            | false ↦ λ e. (t, given_from rs r props (Some (AsWhole text)) rest out last e)
          ] e
      | false ↦ λ t e. never rs out BadSum last rest _ e
    ] refl e

text_from : (rs : List DumpRecord) (r : ReadState) (props : Option PropPart) (text rest : List ℕ) (out : List DumpRecord) (last : ReadState) → r.head.text_len ≡ Some (length text) → Ends (reading (text_is rs r props text) rest) out last → Worded rs r.version r.stage r.head props (text ++ rest) out last
text_from rs r props text rest out last len e =
    let delta = delta_of r.head text in
    elim (gives_delta r.head) as (λ g. gives_delta r.head ≡ g → Ends (reading (if g then give rs r props (Some (AsDelta delta)) else whole_text rs r props text) rest) out last → Worded rs r.version r.stage r.head props (text ++ rest) out last) [
      | true ↦ λ g e. record { text = Some (AsDelta delta); rest = rest; front = refl; words = (g, len, refl, refl); whole = given_from rs r props (Some (AsDelta delta)) rest out last e }
      | false ↦ λ g e.
          let x = whole_from rs r props text rest out last e in
          record { text = Some (AsWhole text); rest = rest; front = refl; words = (g, len, x.0); whole = x.1 }
    ] refl e

pub not_eq : (a b : ℕ) → (a == b) ≡ false → a ≡ b → ⊥
not_eq a b e h = grind (arith, nat_tests)

pub not_true : false ≡ true → ⊥
not_true e = cc

some_text : (rs : List DumpRecord) (r : ReadState) (props : Option PropPart) (n : ℕ) (bs : List ℕ) (out : List DumpRecord) (last : ReadState) → 0 < n → r.head.text_len ≡ Some n → Ends (reading (Reads rs (record r { place = at.Text n; props = props; held = [] })) bs) out last → Worded rs r.version r.stage r.head props bs out last
some_text rs r props n bs out last some len e =
    let r-2 = record r { place = at.Text n; props = props; held = [] } in
    elim (cases_lt (length bs) n) [
      | inl less ↦ absurd (not_true (ended rs out (record r-2 { held = [] ++ bs }) last (sym (text_kept rs r-2 n bs refl (λ q. omega arith)) ∙ e.0, e.1)).0)
      | inr enough ↦
          let k = n - 1 in
          let text = take k bs ++ get_or bs k 0 ∷ [] in
          let rest = drop (k + 1) bs in
          let all : bs ≡ text ++ rest = sym (append_assoc (take k bs) (get_or bs k 0 ∷ []) rest ∙ parts bs k (omega arith)) in
          let long : length text ≡ n = omega (arith, length-append (take k bs) (get_or bs k 0 ∷ []), length-take k bs) in
          subst (λ y. Worded rs r.version r.stage r.head props y out last) (sym all)
          (text_from rs r-2 props text rest out last (len ∙ ap Some (sym long)) (sym (text_whole rs r-2 n k bs refl (omega arith) (λ q. omega arith) (omega arith)) ∙ e.0, e.1))
    ]

after_block_from : (rs : List DumpRecord) (r : ReadState) (props : Option PropPart) (bs : List ℕ) (out : List DumpRecord) (last : ReadState) → Ends (reading (after_block rs r props) bs) out last → Worded rs r.version r.stage r.head props bs out last
after_block_from rs r props bs out last e =
    elim r.head.text_len as (λ o. r.head.text_len ≡ o → Ends (reading (elim o as (λ _. Stream) [ None ↦ give rs r props None | Some n ↦ if n == 0 then text_is rs r props [] else Reads rs (record r { place = at.Text n; props = props; held = [] }) ]) bs) out last → Worded rs r.version r.stage r.head props bs out last) [
      | None ↦ λ o e. record { text = None; rest = bs; front = refl; words = o; whole = given_from rs r props None bs out last e }
      | Some n ↦ λ o e.
          elim (n == 0) as (λ t. (n == 0) ≡ t → Ends (reading (if t then text_is rs r props [] else Reads rs (record r { place = at.Text n; props = props; held = [] })) bs) out last → Worded rs r.version r.stage r.head props bs out last) [
            | true ↦ λ t e. text_from rs r props [] bs out last (o ∙ ap Some (eqb-true n 0 t)) e
            | false ↦ λ t e. some_text rs r props n bs out last (omega (arith, not_eq n 0 t)) o e
          ] refl e
    ] refl e

-- ---- a content

pub record Filled (rs : List DumpRecord) (v : ℕ) (i : Stage) (h : Head) (bs : List ℕ) (out : List DumpRecord) (last : ReadState) : Type 0 where
  pub body : List ℕ
  pub rest : List ℕ
  pub props : Option PropPart
  pub text : Option TextPart
  pub front : bs ≡ body ++ rest
  pub content : IsContent h body props text
  pub whole : Given rs v i h props text rest out last

block_from : (rs : List DumpRecord) (r : ReadState) (n : ℕ) (bs : List ℕ) (out : List DumpRecord) (last : ReadState) → r.head.prop_len ≡ Some n → Ends (reading (Reads rs (record r { place = at.Block; block = begun (is_delta r.head) n; held = [] })) bs) out last → Filled rs r.version r.stage r.head bs out last
block_from rs r n bs out last len e =
    let delta = is_delta r.head in
    let r-2 = record r { place = at.Block; block = begun delta n; held = [] } in
    elim (run_block (begun delta n) bs) as (λ run. run_block (begun delta n) bs ≡ run → Ends (of_block rs r-2 run) out last → Filled rs r.version r.stage r.head bs out last) [
      | More block ↦ λ is e. absurd (not_true (ended rs out (record r-2 { block = block }) last e).0)
      | Fault f ↦ λ is e. never rs out (of_prop_fault f) last [] _ e
      | Done props removed rest ↦ λ is e.
          let b = read_is_block delta n bs props removed rest is in
          let part = part_of delta props removed in
          let w = after_block_from rs (record r-2 { block = new_block 0 }) (Some part) rest out last e in
          record {
            body = b.block ++ bytes_of w.text;
            rest = w.rest;
            props = Some part;
            text = w.text;
            front = b.front ∙ ap (λ x. b.block ++ x) w.front ∙ sym (append_assoc b.block (bytes_of w.text) w.rest);
            content = record { block = b.block; whole = refl; properties = (len ∙ ap Some (sym b.whole), (b.entries, b.spelled, b.within, (λ j. part_of delta (b.sets j) (b.removes j)))); words = w.words };
            whole = w.whole;
          }
    ] refl (sym (block_piece rs r-2 bs refl) ∙ e.0, e.1)

content_from : (rs : List DumpRecord) (r : ReadState) (bs : List ℕ) (out : List DumpRecord) (last : ReadState) → Ends (reading (content rs r) bs) out last → Filled rs r.version r.stage r.head bs out last
content_from rs r bs out last e =
    elim r.head.prop_len as (λ o. r.head.prop_len ≡ o → Ends (reading (elim o as (λ _. Stream) [ None ↦ after_block rs r None | Some n ↦ if n == 0 then Refuses rs BadProps else Reads rs (record r { place = at.Block; block = begun (is_delta r.head) n; held = [] }) ]) bs) out last → Filled rs r.version r.stage r.head bs out last) [
      | None ↦ λ o e.
          let w = after_block_from rs r None bs out last e in
          record { body = bytes_of w.text; rest = w.rest; props = None; text = w.text; front = w.front; content = record { block = []; whole = refl; properties = (o, refl); words = w.words }; whole = w.whole }
      | Some n ↦ λ o e.
          elim (n == 0) as (λ t. (n == 0) ≡ t → Ends (reading (if t then Refuses rs BadProps else Reads rs (record r { place = at.Block; block = begun (is_delta r.head) n; held = [] })) bs) out last → Filled rs r.version r.stage r.head bs out last) [
            | true ↦ λ t e. never rs out BadProps last bs _ e
            | false ↦ λ t e. block_from rs r n bs out last o e
          ] refl e
    ] refl e

-- ---- a head that has begun

pub record Headed (rs : List DumpRecord) (v : ℕ) (i : Stage) (h : Head) (bs : List ℕ) (out : List DumpRecord) (last : ReadState) : Type 0 where
  pub lines : List (List ℕ)
  pub whole : Head
  pub after : List ℕ
  pub spelled : bs ≡ lines_of lines ++ 10 ∷ after
  pub headers : HeadOf h lines whole
  pub form : fits_form v i whole ≡ true
  pub agree : lengths_agree whole ≡ true
  pub fit : lengths_fit whole ≡ true
  pub filled : Filled rs v i whole after out last

judged_from : (rs : List DumpRecord) (v : ℕ) (i : Stage) (h : Head) (bs : List ℕ) (out : List DumpRecord) (last : ReadState) → Ends (reading (judged rs (reader v at.Header i h (new_block 0) None [])) bs) out last → (fits_form v i h ≡ true) × (lengths_agree h ≡ true) × (lengths_fit h ≡ true) × Filled rs v i h bs out last
judged_from rs v i h bs out last e =
    let r = reader v at.Header i h (new_block 0) None [] in
    elim (fits_form v i h) as (λ t. Ends (reading (if not t then Refuses rs BadHeader else (if not (lengths_agree h) then Refuses rs BadLength else (if not (lengths_fit h) then Refuses rs TooLong else content rs r))) bs) out last → (t ≡ true) × (lengths_agree h ≡ true) × (lengths_fit h ≡ true) × Filled rs v i h bs out last) [
      | false ↦ λ e. never rs out BadHeader last bs _ e
      | true ↦ λ e.
          elim (lengths_agree h) as (λ t. Ends (reading (if not t then Refuses rs BadLength else (if not (lengths_fit h) then Refuses rs TooLong else content rs r)) bs) out last → (true ≡ true) × (t ≡ true) × (lengths_fit h ≡ true) × Filled rs v i h bs out last) [
            | false ↦ λ e. never rs out BadLength last bs _ e
            | true ↦ λ e.
                elim (lengths_fit h) as (λ t. Ends (reading (if not t then Refuses rs TooLong else content rs r) bs) out last → (true ≡ true) × (true ≡ true) × (t ≡ true) × Filled rs v i h bs out last) [
                  | false ↦ λ e. never rs out TooLong last bs _ e
                  | true ↦ λ e. (refl, refl, refl, content_from rs r bs out last e)
                ] e
          ] e
    ] e

-- a line of a head, where what follows a header is told
module _ (rs : List DumpRecord) (v : ℕ) (i : Stage) (h : Head) (bs : List ℕ) (out : List DumpRecord) (last : ReadState) (rest : List ℕ) (ih : (next : Head) → Ends (reading (Reads rs (reader v at.Header i next (new_block 0) None [])) rest) out last → Headed rs v i next rest out last) where
  head_line : (line : List ℕ) → bs ≡ line ++ 10 ∷ rest → NoLf line → length line ≤ 4096 → Ends (reading (line_is at.Header rs (reader v at.Header i h (new_block 0) None []) line) rest) out last → Headed rs v i h bs out last
  head_line [] is lone short e =
      let j = judged_from rs v i h rest out last e in
      record { lines = []; whole = h; after = rest; spelled = is; headers = refl; form = j.0; agree = j.1; fit = j.2; filled = j.3 }
  head_line (b ∷ s) is lone short e =
      elim (line_says h (b ∷ s)) as (λ o. line_says h (b ∷ s) ≡ o → Ends (reading (said rs (reader v at.Header i h (new_block 0) None []) o) rest) out last → Headed rs v i h bs out last) [
        | Err f ↦ λ o e. never rs out f last rest _ e
        | Ok next ↦ λ o e.
            let x = ih next e in
            record {
              lines = (b ∷ s) ∷ x.lines;
              whole = x.whole;
              after = x.after;
              spelled = is ∙ ap (λ y. (b ∷ s) ++ 10 ∷ y) x.spelled ∙ sym (append_assoc (b ∷ s) (10 ∷ lines_of x.lines) (10 ∷ x.after));
              headers = (lone, omega arith, short, next, o, x.headers);
              form = x.form;
              agree = x.agree;
              fit = x.fit;
              filled = x.filled;
            }
      ] refl e

pub shorter : (n : ℕ) (bs line rest : List ℕ) → length bs ≤ suc n → bs ≡ line ++ 10 ∷ rest → length rest ≤ n
shorter n bs line rest size is = omega (arith, ap length is, length-append line (10 ∷ rest))

pub nothing_less : (bs line rest : List ℕ) (G : Type 0) → length bs ≤ 0 → bs ≡ line ++ 10 ∷ rest → G
nothing_less bs line rest G size is = absurd (omega (arith, ap length is, length-append line (10 ∷ rest)))

head_from : (n : ℕ) (rs : List DumpRecord) (v : ℕ) (i : Stage) (h : Head) (bs : List ℕ) (out : List DumpRecord) (last : ReadState) → length bs ≤ n → Ends (reading (Reads rs (reader v at.Header i h (new_block 0) None [])) bs) out last → Headed rs v i h bs out last
head_from zero rs v i h bs out last size e =
    elim (a_line at.Header refl rs v i h out last bs e) [
      | inl x ↦ absurd (not_true x.2)
      | inr l ↦ nothing_less bs l.line l.rest _ size l.is
    ]
head_from (suc n) rs v i h bs out last size e =
    elim (a_line at.Header refl rs v i h out last bs e) [
      | inl x ↦ absurd (not_true x.2)
      | inr l ↦ head_line rs v i h bs out last l.rest (λ next f. head_from n rs v i next l.rest out last (shorter n bs l.line l.rest size l.is) f) l.line l.is l.lone l.short l.next
    ]

-- ---- records

pub record Told (d : Bool) (rs : List DumpRecord) (v : ℕ) (i : Stage) (bs : List ℕ) (out : List DumpRecord) : Type 0 where
  pub recs : List DumpRecord
  pub all : out ≡ rs ++ recs
  pub spelled : IsRecords d v i bs recs

module _ (d : Bool) (rs : List DumpRecord) (v : ℕ) (i : Stage) (bs : List ℕ) (out : List DumpRecord) (last : ReadState) (n : ℕ) (ih : (rs : List DumpRecord) (i : Stage) (rest : List ℕ) → length rest ≤ n → Ends (reading (Reads rs (begin d v at.Between i)) rest) out last → Told d rs v i rest out) where
  -- a record behind its first line
  one_record : (line rest : List ℕ) (next : Head) → bs ≡ line ++ 10 ∷ rest → length bs ≤ suc n → NoLf line → 0 < length line → length line ≤ 4096 → line_says (no_head d) line ≡ Ok next → Headed rs v i next rest out last → Told d rs v i bs out
  one_record line rest next is size lone some short says x =
      let f = x.filled in
      let g = f.whole in
      let lines = line ∷ x.lines in
      let first = lines_of lines ++ 10 ∷ f.body in
      let spelled : bs ≡ first ++ f.rest = is ∙ ap (λ y. line ++ 10 ∷ y) (x.spelled ∙ ap (λ y. lines_of x.lines ++ 10 ∷ y) f.front) ∙ text line (lines_of x.lines) f.body f.rest in
      let small : length f.rest ≤ n = omega (arith, shorter n bs line rest size is, ap length x.spelled, length-append (lines_of x.lines) (10 ∷ x.after), ap length f.front, length-append f.body f.rest) in
      let same : x.whole.deltas ≡ d = heads_mode (no_head d) lines x.whole (lone, some, short, next, says, x.headers) in
      let later = ih (rs ++ g.rec ∷ []) (stage_after i g.rec) f.rest small (subst (λ m. Ends (reading (follow m rs v i g.rec) f.rest) out last) same g.next) in
      let whole : IsRecord d v i first g.rec = record { lines = lines; head = x.whole; body = f.body; props = f.props; text = f.text; some = omega arith; spelled = refl; headers = (lone, some, short, next, says, x.headers); form = x.form; agree = x.agree; fit = x.fit; content = f.content; says = g.says } in
      record { recs = g.rec ∷ later.recs; all = later.all ∙ append_assoc rs (g.rec ∷ []) later.recs; spelled = ([], first, f.rest, tt, whole, later.spelled, spelled) }
    where
      text : (a b c d : List ℕ) → a ++ 10 ∷ (b ++ 10 ∷ (c ++ d)) ≡ ((a ++ 10 ∷ b) ++ 10 ∷ c) ++ d
      text a b c d = simp append_assoc refl

  record_line : (line rest : List ℕ) → bs ≡ line ++ 10 ∷ rest → length bs ≤ suc n → NoLf line → length line ≤ 4096 → Ends (reading (line_is at.Between rs (begin d v at.Between i) line) rest) out last → Told d rs v i bs out
  record_line [] rest is size lone short e =
      let later = ih rs i rest (shorter n bs [] rest size is) e in
      record { recs = later.recs; all = later.all; spelled = subst (λ y. IsRecords d v i y later.recs) (sym is) (blanks_before d v i (10 ∷ []) rest later.recs (refl, tt) later.spelled) }
  record_line (b ∷ s) rest is size lone short e =
      elim (line_says (no_head d) (b ∷ s)) as (λ o. line_says (no_head d) (b ∷ s) ≡ o → Ends (reading (said rs (begin d v at.Between i) o) rest) out last → Told d rs v i bs out) [
        | Err f ↦ λ o e. never rs out f last rest _ e
        | Ok next ↦ λ o e. one_record (b ∷ s) rest next is size lone (omega arith) short o (head_from (length rest) rs v i next rest out last (omega arith) e)
      ] refl e

no_records : (d : Bool) (rs : List DumpRecord) (v : ℕ) (i : Stage) (bs : List ℕ) (out : List DumpRecord) → bs ≡ [] → out ≡ rs → Told d rs v i bs out
no_records d rs v i bs out e f = record { recs = []; all = f ∙ sym (append-nil rs); spelled = subst AreBlank (sym e) tt }

records_from : (d : Bool) (n : ℕ) (v : ℕ) (out : List DumpRecord) (last : ReadState) (rs : List DumpRecord) (i : Stage) (bs : List ℕ) → length bs ≤ n → Ends (reading (Reads rs (begin d v at.Between i)) bs) out last → Told d rs v i bs out
records_from d zero v out last rs i bs size e =
    elim (a_line at.Between refl rs v i (no_head d) out last bs e) [
      | inl x ↦ no_records d rs v i bs out x.0 x.1
      | inr l ↦ nothing_less bs l.line l.rest _ size l.is
    ]
records_from d (suc n) v out last rs i bs size e =
    elim (a_line at.Between refl rs v i (no_head d) out last bs e) [
      | inl x ↦ no_records d rs v i bs out x.0 x.1
      | inr l ↦ record_line d rs v i bs out last n (records_from d n v out last) l.line l.rest l.is size l.lone l.short l.next
    ]

-- ---- the version block

same_is : (a b : List ℕ) → same a b ≡ true → a ≡ b
same_is [] [] e = refl
same_is [] (y ∷ b) e = cc
same_is (x ∷ a) [] e = cc
same_is (x ∷ a) (y ∷ b) e = let p = both (eqb x y) (same a b) e in cc (eqb-true x y p.0, same_is a b p.1)

blank_line : (d : Bool) (v : ℕ) (line rest : List ℕ) (out : List DumpRecord) (last : ReadState) → Ends (reading (line_is at.Blank [] (reader v at.Blank First (no_head d) (new_block 0) None []) line) rest) out last → (line ≡ []) × Told d [] v First rest out
blank_line d v [] rest out last e = (refl, records_from d (length rest) v out last [] First rest (omega arith) e)
blank_line d v (b ∷ s) rest out last e = never [] out BadHeader last rest _ e

some_number : (a b : ℕ) → Some a ≡ Some b → a ≡ b
some_number a b e = cc

none_number : (b : ℕ) (G : Type 0) → None ≡ Some b → G
none_number b G e = cc

-- the first lines that name a format
pub names_format : (line : List ℕ) (v : ℕ) → version_in line ≡ Some v → IsVersionLine v line
names_format line v e =
    elim (same line version_line) as (λ t. same line version_line ≡ t → (if t then Some 2 else (if same line later_line then Some 3 else None)) ≡ Some v → IsVersionLine v line) [
      | true ↦ λ t e. inl (sym (some_number 2 v e), same_is line version_line t)
      | false ↦ λ t e.
          elim (same line later_line) as (λ u. same line later_line ≡ u → (if u then Some 3 else None) ≡ Some v → IsVersionLine v line) [
            | true ↦ λ u e. inr (sym (some_number 3 v e), same_is line later_line u)
            | false ↦ λ u e. none_number v _ e
          ] refl e
    ] refl e

-- the version never changes
behind_version : (d : Bool) (line bs rest : List ℕ) (out : List DumpRecord) (last : ReadState) → bs ≡ line ++ 10 ∷ rest → Ends (reading (line_is at.Version [] (reader 0 at.Version First (no_head d) (new_block 0) None []) line) rest) out last → DumpBy d bs out
behind_version d line bs rest out last is e =
    elim (version_in line) as (λ o. version_in line ≡ o → Ends (reading (versioned [] (reader 0 at.Version First (no_head d) (new_block 0) None []) o) rest) out last → DumpBy d bs out) [
      | None ↦ λ o e. never [] out BadVersion last rest _ e
      | Some v ↦ λ o e.
          elim (a_line at.Blank refl [] v First (no_head d) out last rest e) [
            | inl x ↦ absurd (not_true x.2)
            | inr l ↦
                let b = blank_line d v l.line l.rest out last l.next in
                let whole : bs ≡ line ++ 10 ∷ 10 ∷ l.rest = is ∙ ap (λ y. line ++ 10 ∷ y) (l.is ∙ ap (λ y. y ++ 10 ∷ l.rest) b.0) in
                (v, (line, l.rest, names_format line v o, whole, subst (IsRecords d v First l.rest) (sym b.1.all) b.1.spelled))
          ]
    ] refl e

-- bytes that are read to an end are a dump of what was read
pub read_is_some_dump : (d : Bool) (bytes : List ℕ) (rs : List DumpRecord) (last : ReadState) → dump_by d bytes ≡ Reads rs last → is_between last ≡ true → DumpBy d bytes rs
read_is_some_dump d bytes rs last e b =
    elim (a_line at.Version refl [] 0 First (no_head d) rs last bytes (e, b)) [
      | inl x ↦ absurd (not_true x.2)
      | inr l ↦ behind_version d l.line bytes l.rest rs last l.is l.next
    ]

same_version : (version : ℕ) (rs others : List DumpRecord) (state last : ReadState) → Reads others state ≡ Reads rs last → state.version ≡ version → version ≡ last.version
same_version version rs others state last e v = let s : state ≡ last = cc in sym v ∙ ap (λ (r : ReadState). r.version) s

-- of the format that was read
pub read_is_dump : (d : Bool) (bytes : List ℕ) (rs : List DumpRecord) (last : ReadState) → dump_by d bytes ≡ Reads rs last → is_between last ≡ true → DumpOf d last.version bytes rs
read_is_dump d bytes rs last e b =
    let x = read_is_some_dump d bytes rs last e b in
    subst (λ v. DumpOf d v bytes rs) (same_version x.0 rs rs _ last (sym (dump_read d x.0 bytes rs x.1) ∙ e) refl) x.1

-- ---- the first refused byte

pub record Byte (rs : List DumpRecord) (r : ReadState) (bs : List ℕ) (out : List DumpRecord) (f : DumpFault) : Type 0 where
  pub front : List ℕ
  pub byte : ℕ
  pub more : List ℕ
  pub whole : bs ≡ front ++ byte ∷ more
  pub before : List DumpRecord
  pub state : ReadState
  pub reads : reading (Reads rs r) front ≡ Reads before state
  pub refuses : one_byte (Reads before state) byte ≡ Refuses out f

pub reads_never : (rs out : List DumpRecord) (r : ReadState) (f : DumpFault) (G : Type 0) → Reads rs r ≡ Refuses out f → G
reads_never rs out r f G e = cc

byte_of : (rs : List DumpRecord) (r : ReadState) (bs : List ℕ) (out : List DumpRecord) (f : DumpFault) → reading (Reads rs r) bs ≡ Refuses out f → Byte rs r bs out f
byte_of rs r [] out f e = reads_never rs out r f _ e
byte_of rs r (b ∷ bs) out f e =
    elim (one_byte (Reads rs r) b) as (λ s. one_byte (Reads rs r) b ≡ s → reading s bs ≡ Refuses out f → Byte rs r (b ∷ bs) out f) [
      | Refuses rs-2 g ↦ λ o e. record { front = []; byte = b; more = bs; whole = refl; before = rs; state = r; reads = refl; refuses = o ∙ sym (reading-refused rs-2 g bs) ∙ e }
      | Reads rs-2 r-2 ↦ λ o e.
          let x = byte_of rs-2 r-2 bs out f e in
          record { front = b ∷ x.front; byte = x.byte; more = x.more; whole = ap (λ y. b ∷ y) x.whole; before = x.before; state = x.state; reads = ap (λ s. reading s x.front) o ∙ x.reads; refuses = x.refuses }
    ] refl e

pub first_fault : (d : Bool) (bytes : List ℕ) (rs : List DumpRecord) (f : DumpFault) → dump_by d bytes ≡ Refuses rs f → FirstFault d bytes rs f
first_fault d bytes rs f e =
    let x = byte_of [] (fresh_by d) bytes rs f e in
    record { front = x.front; byte = x.byte; more = x.more; whole = x.whole; before = x.before; state = x.state; reads = x.reads; refuses = reading-append (Reads [] (fresh_by d)) x.front (x.byte ∷ []) ∙ ap (λ s. one_byte s x.byte) x.reads ∙ x.refuses }

pub no_front : (d : Bool) (bytes more : List ℕ) (rs others : List DumpRecord) (f : DumpFault) → dump_by d bytes ≡ Refuses rs f → DumpBy d (bytes ++ more) others → ⊥
no_front d bytes more rs others f e (version, x) =
    reads_never others rs _ f _ (sym (dump_read d version (bytes ++ more) others x) ∙ reading-append (Reads [] (fresh_by d)) bytes more ∙ ap (λ s. reading s more) e ∙ reading-refused rs f more)
