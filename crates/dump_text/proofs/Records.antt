-- Records of the grammar are read.
use Rattle.std.proofs.Common.{◌≡◌, ℕ, ◌+◌, ◌<◌, ◌==◌, ◌&&◌, Bool, true, false, nat_lt, nat_le, List, [], ◌∷◌, ◌++◌, length, take, drop, get_or, Option, Some, None, option_map, inl, inr, refl, sym, ap, ◌∙◌, append_assoc, append-nil, length-append, arith}
use Rattle.std.proofs.lemmas.List.{take_at, drop_at, take_more}
use Rattle.std.proofs.lemmas.Bool.Decides.{nat_tests}
use Rattle.std.specs.Bool.{if◌then◌else◌}
use Rattle.node_base.specs.Blocks.{begun, new_block, run_block}
use Rattle.node_base.specs.declared.limits.TheConstants.{BLOCK_BYTES, TEXT_BYTES}
use Rattle.node_base.proofs.BlockSpelled.{block_long, eq_false, both}
use Rattle.node_base.proofs.BlockWritten.{block_is_read}
use Rattle.dump_text.specs.Heads.{no_head}
use Rattle.dump_text.specs.Forms.{stage_after, record_of, named_of, numbered_of, node_of, node_with, delta_of, length_of, lengths_fit, is_delta, gives_delta}
use Rattle.dump_text.specs.Streams.{Stream, Reads, Refuses, reading, given, give, made, whole_text, text_is, after_block, content, said, line_is, begin, of_block, dump_by}
use Rattle.dump_text.specs.Grammar.{lines_of, HeadOf, IsBlockOf, IsContent, HasText, bytes_of, SaysNode, Says, IsRecord, IsRecords, AreBlank, IsVersionLine, DumpOf, stage_behind}
use Rattle.dump_text.specs.declared.fault.DumpFault.TheVariants.{BadSum, BadProps, TooLong}
use Rattle.dump_text.specs.declared.form.Stage.{Stage}
use Rattle.dump_text.specs.declared.form.Stage.TheVariants.{First}
use Rattle.dump_text.specs.declared.head.Head.{Head}
use Rattle.dump_text.specs.declared.record.DumpRecord.{DumpRecord}
use Rattle.dump_text.specs.declared.record.PropPart.{PropPart}
use Rattle.dump_text.specs.declared.record.TextPart.{TextPart}
use Rattle.dump_text.specs.declared.record.TextPart.TheVariants.{Whole as AsWhole, Delta as AsDelta}
use Rattle.dump_text.specs.declared.record.NodeRecord.{NodeRecord}
use Rattle.dump_text.specs.declared.record.DumpRecord.TheVariants.{Identity, Revision, Node, DeltaNode}
use Rattle.dump_text.specs.declared.state.Place.TheVariants as at
use Rattle.dump_text.specs.declared.state.ReadState.{ReadState}
use Rattle.dump_text.specs.declared.limits.TheConstants.{DELTA_BYTES}
use Rattle.dump_text.proofs.HeadModes.{heads_mode}
use Rattle.dump_text.proofs.StreamRuns.{line_ends, block_piece, text_whole, reader}

-- behind a record
abbrev pub follow : Bool → List DumpRecord → ℕ → Stage → DumpRecord → Stream
follow d rs v i rec = Reads (rs ++ rec ∷ []) (begin d v at.Between (stage_after i rec))

-- a node without its text
abbrev bare : NodeRecord → NodeRecord
bare node = record node { text = None }

says_node : (h : Head) (props : Option PropPart) (text : Option TextPart) (node : NodeRecord) → SaysNode h props node → record_of h props text ≡ Some (node_with (bare node) text)
says_node h props text node (i, n, path, kind, action, s, p) =
    ap (named_of h props text) i
    ∙ ap (numbered_of h props text) n
    ∙ ap (λ x. node_of h props text x h.action) path
    ∙ ap (node_of h props text (Some node.path)) action
    ∙ (λ j. Some (node_with (record { path = node.path; kind = kind j; action = node.action; source = s j; props = p j; text = None }) text))

whole_node : (node : NodeRecord) (text : Option (List ℕ)) → node_with (bare node) (option_map AsWhole text) ≡ Node (record node { text = text })
whole_node node None = refl
whole_node node (Some t) = refl

pub says_record : (h : Head) (props : Option PropPart) (text : Option TextPart) (rec : DumpRecord) → Says h props text rec → record_of h props text ≡ Some rec
says_record h props text (Identity id) e = rw e refl
says_record h props text (Revision n ps) (i, e, p) = rw (i, e, p) refl
says_record h props text (Node node) (says, t) = says_node h props text node says ∙ ap (λ x. Some (node_with (bare node) x)) t ∙ ap Some (whole_node node node.text)
says_record h props text (DeltaNode node delta) (says, none, t) =
    says_node h props text node says ∙ ap (λ x. Some (node_with (bare node) x)) t ∙ ap (λ x. Some (DeltaNode (record node { text = x }) delta)) (sym none)

pub is_given : (rs : List DumpRecord) (r : ReadState) (props : Option PropPart) (text : Option TextPart) (rec : DumpRecord) → Says r.head props text rec → give rs r props text ≡ follow r.head.deltas rs r.version r.stage rec
is_given rs r props text rec s = ap (given rs r) (says_record r.head props text rec s)

small : (n k : ℕ) → (nat_le k BLOCK_BYTES && nat_le n TEXT_BYTES) ≡ true → nat_lt TEXT_BYTES n ≡ false
small n k e = let fit = (both (nat_le k BLOCK_BYTES) (nat_le n TEXT_BYTES) e).1 in grind (arith, nat_tests, fit)

-- the length of a whole text that is announced was judged
pub within_limit : (h : Head) (text : List ℕ) → lengths_fit h ≡ true → gives_delta h ≡ false → h.text_len ≡ Some (length text) → nat_lt TEXT_BYTES (length text) ≡ false
within_limit h text fit whole len =
    small (length text) (length_of h.prop_len)
    (ap (λ o. nat_le (length_of h.prop_len) BLOCK_BYTES && nat_le (length_of o) TEXT_BYTES) (sym len)
    ∙ ap (λ b. nat_le (length_of h.prop_len) BLOCK_BYTES && nat_le (length_of h.text_len) (if b then DELTA_BYTES else TEXT_BYTES)) (sym whole)
    ∙ fit)

-- the bytes of a text that is announced, whatever follows
pub text_comes : (rs : List DumpRecord) (r : ReadState) (props : Option PropPart) (text more : List ℕ) → r.head.text_len ≡ Some (length text) → reading (after_block rs r props) (text ++ more) ≡ reading (text_is rs r props text) more
text_comes rs r props [] more l = ap (λ t. reading t more) (rw l refl)
text_comes rs r props (b ∷ t) more l =
    let text = b ∷ t in
    let piece = text ++ more in
    let k = length t in
    let r-2 = record r { place = at.Text (length text); props = props; held = [] } in
    let begun : after_block rs r props ≡ Reads rs r-2 = rw (l, eq_false (length text) 0 (omega arith)) refl in
    let whole = text_whole rs r-2 (length text) k piece refl (omega (arith, length-append text more)) (λ q. omega arith) (omega arith) in
    let one : length text ≡ k + 1 = omega arith in
    let all : take k piece ++ get_or piece k 0 ∷ [] ≡ text = sym (take_more piece k 0 (omega (arith, length-append text more))) ∙ take_at text more (k + 1) one in
    let rest : drop (k + 1) piece ≡ more = drop_at text more (k + 1) one in
    ap (λ t. reading t piece) begun
    ∙ whole
    ∙ ap (λ x. reading (text_is rs r-2 props x) (drop (k + 1) piece)) all
    ∙ ap (reading (text_is rs r-2 props text)) rest

-- a text that isn't a delta
pub as_whole : (rs : List DumpRecord) (r : ReadState) (props : Option PropPart) (text : List ℕ) → gives_delta r.head ≡ false → text_is rs r props text ≡ whole_text rs r props text
as_whole rs r props text g = ap (λ b. if b then give rs r props (Some (AsDelta (delta_of r.head text))) else whole_text rs r props text) g

-- a text that is announced
pub text_read : (rs : List DumpRecord) (r : ReadState) (props : Option PropPart) (text : Option TextPart) (rec : DumpRecord) (more : List ℕ) → HasText r.head text → lengths_fit r.head ≡ true → Says r.head props text rec → reading (after_block rs r props) (bytes_of text ++ more) ≡ reading (follow r.head.deltas rs r.version r.stage rec) more
text_read rs r props None rec more h fit s = ap (λ t. reading t more) (rw h (is_given rs r props None rec s))
text_read rs r props (Some (AsWhole text)) rec more (g, l, sum) fit s =
    text_comes rs r props text more l
    ∙ ap (λ t. reading t more)
    (as_whole rs r props text g
    ∙ ap (λ b. if b then made rs r props text else Refuses rs BadSum) sum
    ∙ ap (λ b. if b then Refuses rs TooLong else give rs r props (Some (AsWhole text))) (within_limit r.head text fit g l)
    ∙ is_given rs r props (Some (AsWhole text)) rec s)
text_read rs r props (Some (AsDelta delta)) rec more (g, l, base, sum) fit s =
    text_comes rs r props delta.bytes more l
    ∙ ap (λ t. reading t more)
    (ap (λ b. if b then give rs r props (Some (AsDelta (delta_of r.head delta.bytes))) else whole_text rs r props delta.bytes) g
    ∙ (λ j. give rs r props (Some (AsDelta (record { bytes = delta.bytes; base_sum = base j; sum = sum j }))))
    ∙ is_given rs r props (Some (AsDelta delta)) rec s)

-- a block of the grammar, whatever follows
pub block_read : (rs : List DumpRecord) (r : ReadState) (bytes more : List ℕ) (part : PropPart) → IsBlockOf (is_delta r.head) bytes part → of_block rs r (run_block (begun (is_delta r.head) (length bytes)) (bytes ++ more)) ≡ reading (after_block rs (record r { block = new_block 0 }) (Some part)) more
block_read rs r bytes more part (es, spelled, within, is) =
    ap (of_block rs r) (block_is_read (is_delta r.head) bytes more es spelled within)
    ∙ ap (λ p. reading (after_block rs (record r { block = new_block 0 }) (Some p)) more) (sym is)

-- the content that is announced
pub content_read : (rs : List DumpRecord) (r : ReadState) (bytes : List ℕ) (props : Option PropPart) (text : Option TextPart) (rec : DumpRecord) (more : List ℕ) → IsContent r.head bytes props text → lengths_fit r.head ≡ true → Says r.head props text rec → reading (content rs r) (bytes ++ more) ≡ reading (follow r.head.deltas rs r.version r.stage rec) more
content_read rs r bytes None text rec more c fit s =
    let first : content rs r ≡ after_block rs r None = ap (λ o. elim o as (λ _. Stream) [ None ↦ after_block rs r None | Some n ↦ if n == 0 then Refuses rs BadProps else Reads rs (record r { place = at.Block; block = begun (is_delta r.head) n; held = [] }) ]) c.properties.0 in
    let all : bytes ≡ bytes_of text = c.whole ∙ ap (λ x. x ++ bytes_of text) c.properties.1 in
    ap (λ t. reading t (bytes ++ more)) first
    ∙ ap (λ x. reading (after_block rs r None) (x ++ more)) all
    ∙ text_read rs r None text rec more c.words fit s
content_read rs r bytes (Some props) text rec more c fit s =
    let r-2 = record r { place = at.Block; block = begun (is_delta r.head) (length c.block); held = [] } in
    let long = block_long (is_delta r.head) c.block c.properties.1.0 c.properties.1.1 in
    let first : content rs r ≡ Reads rs r-2 = rw (c.properties.0, eq_false (length c.block) 0 (omega arith)) refl in
    ap (λ t. reading t (bytes ++ more)) first
    ∙ ap (reading (Reads rs r-2)) (ap (λ x. x ++ more) c.whole ∙ append_assoc c.block (bytes_of text) more)
    ∙ block_piece rs r-2 (c.block ++ (bytes_of text ++ more)) refl
    ∙ block_read rs r-2 c.block (bytes_of text ++ more) props c.properties.1
    ∙ text_read rs (record r-2 { block = new_block 0 }) (Some props) text rec more c.words fit s

-- header lines behind a first
pub lines_read : (rs : List DumpRecord) (v : ℕ) (i : Stage) (h last : Head) (lines : List (List ℕ)) (bs : List ℕ) → HeadOf h lines last → reading (Reads rs (reader v at.Header i h (new_block 0) None [])) (lines_of lines ++ bs) ≡ reading (Reads rs (reader v at.Header i last (new_block 0) None [])) bs
lines_read rs v i h last [] bs e = ap (λ x. reading (Reads rs (reader v at.Header i x (new_block 0) None [])) bs) e
lines_read rs v i h last ([] ∷ ls) bs (lone, some, short, next, says, headers) = absurd (omega arith)
lines_read rs v i h last ((b ∷ l) ∷ ls) bs (lone, some, short, next, says, headers) =
    ap (reading (Reads rs (reader v at.Header i h (new_block 0) None []))) (append_assoc (b ∷ l) (10 ∷ lines_of ls) bs)
    ∙ line_ends at.Header refl rs v i h (new_block 0) None [] (b ∷ l) (lines_of ls ++ bs) lone (λ q. omega arith)
    ∙ ap (λ t. reading t (lines_of ls ++ bs)) (ap (said rs (reader v at.Header i h (new_block 0) None [])) says)
    ∙ lines_read rs v i next last ls bs headers

-- header lines
pub head_read : (d : Bool) (rs : List DumpRecord) (v : ℕ) (i : Stage) (last : Head) (lines : List (List ℕ)) (bs : List ℕ) → 0 < length lines → HeadOf (no_head d) lines last → reading (Reads rs (begin d v at.Between i)) (lines_of lines ++ bs) ≡ reading (Reads rs (reader v at.Header i last (new_block 0) None [])) bs
head_read d rs v i last [] bs more e = absurd (omega arith)
head_read d rs v i last ([] ∷ ls) bs more (lone, some, short, next, says, headers) = absurd (omega arith)
head_read d rs v i last ((b ∷ l) ∷ ls) bs more (lone, some, short, next, says, headers) =
    ap (reading (Reads rs (begin d v at.Between i))) (append_assoc (b ∷ l) (10 ∷ lines_of ls) bs)
    ∙ line_ends at.Between refl rs v i (no_head d) (new_block 0) None [] (b ∷ l) (lines_of ls ++ bs) lone (λ q. omega arith)
    ∙ ap (λ t. reading t (lines_of ls ++ bs)) (ap (said rs (begin d v at.Between i)) says)
    ∙ lines_read rs v i next last ls bs headers

-- a record is read, whatever follows
pub record_read : (d : Bool) (rs : List DumpRecord) (v : ℕ) (i : Stage) (bytes more : List ℕ) (rec : DumpRecord) → IsRecord d v i bytes rec → reading (Reads rs (begin d v at.Between i)) (bytes ++ more) ≡ reading (follow d rs v i rec) more
record_read d rs v i bytes more rec c =
    let r = reader v at.Header i c.head (new_block 0) None [] in
    let judge : line_is at.Header rs r [] ≡ content rs r = rw (c.form, c.agree, c.fit) refl in
    ap (λ x. reading (Reads rs (begin d v at.Between i)) (x ++ more)) c.spelled
    ∙ ap (reading (Reads rs (begin d v at.Between i))) (append_assoc (lines_of c.lines) (10 ∷ c.body) more)
    ∙ head_read d rs v i c.head c.lines (10 ∷ c.body ++ more) c.some c.headers
    ∙ ap (λ t. reading t (c.body ++ more)) judge
    ∙ content_read rs r c.body c.props c.text rec more c.content c.fit c.says
    ∙ ap (λ m. reading (follow m rs v i rec) more) (heads_mode (no_head d) c.lines c.head c.headers)

pub blanks_read : (d : Bool) (rs : List DumpRecord) (v : ℕ) (i : Stage) (blank more : List ℕ) → AreBlank blank → reading (Reads rs (begin d v at.Between i)) (blank ++ more) ≡ reading (Reads rs (begin d v at.Between i)) more
blanks_read d rs v i [] more e = refl
blanks_read d rs v i (b ∷ bs) more e =
    ap (λ x. reading (Reads rs (begin d v at.Between i)) (x ∷ (bs ++ more))) e.0 ∙ blanks_read d rs v i bs more e.1

pub records_read : (d : Bool) (rs : List DumpRecord) (v : ℕ) (i : Stage) (bytes : List ℕ) (recs : List DumpRecord) → IsRecords d v i bytes recs → reading (Reads rs (begin d v at.Between i)) bytes ≡ Reads (rs ++ recs) (begin d v at.Between (stage_behind i recs))
records_read d rs v i bytes [] e = ap (reading (Reads rs (begin d v at.Between i))) (sym (append-nil bytes)) ∙ blanks_read d rs v i bytes [] e ∙ ap (λ x. Reads x (begin d v at.Between i)) (sym (append-nil rs))
records_read d rs v i bytes (rec ∷ recs) (blank, first, rest, b, r, more, e) =
    ap (reading (Reads rs (begin d v at.Between i))) e
    ∙ blanks_read d rs v i blank (first ++ rest) b
    ∙ record_read d rs v i first rest rec r
    ∙ records_read d (rs ++ rec ∷ []) v (stage_after i rec) rest recs more
    ∙ ap (λ x. Reads x (begin d v at.Between (stage_behind i (rec ∷ recs)))) (append_assoc rs (rec ∷ []) recs)

-- what follows a version line and its empty line
line_read : (d : Bool) (version : ℕ) (line rest : List ℕ) → IsVersionLine version line → dump_by d (line ++ 10 ∷ 10 ∷ rest) ≡ reading (Reads [] (begin d version at.Between First)) rest
line_read d version line rest (inl x) = (λ j. dump_by d (x.1 j ++ 10 ∷ 10 ∷ rest)) ∙ (λ j. reading (Reads [] (begin d (sym x.0 j) at.Between First)) rest)
line_read d version line rest (inr x) = (λ j. dump_by d (x.1 j ++ 10 ∷ 10 ∷ rest)) ∙ (λ j. reading (Reads [] (begin d (sym x.0 j) at.Between First)) rest)

pub dump_read : (d : Bool) (version : ℕ) (bytes : List ℕ) (recs : List DumpRecord) → DumpOf d version bytes recs → dump_by d bytes ≡ Reads recs (begin d version at.Between (stage_behind First recs))
dump_read d version bytes recs (line, rest, v, e, r) = ap (dump_by d) e ∙ line_read d version line rest v ∙ records_read d [] version First rest recs r
