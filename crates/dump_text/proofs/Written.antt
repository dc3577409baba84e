-- What is written is in the grammar.
use Rattle.std.proofs.Common.{◌≡◌, ℕ, zero, suc, ◌+◌, ◌≤◌, ◌<◌, ◌==◌, ◌&&◌, ◌||◌, not, Bool, true, false, List, [], ◌∷◌, ◌++◌, length, map, take, get_or, Option, Some, None, Ok, inl, refl, sym, ap, subst, ◌∙◌, append_assoc, append-nil, length-append, arith}
use Rattle.std.proofs.lemmas.Bool.Decides.{nat_tests}
use Rattle.std.proofs.lemmas.List.{take_more}
use Rattle.std.specs.Prelude.{codes, option_map, is_some, is_none, IfSome, if◌then◌else◌}
use Rattle.std.specs.FinMap as finite
use Rattle.std.specs.List.{flat_map}
use Rattle.std.specs.Fmt.{decimal as printed}
use Rattle.md5.specs.Md5.{md5}
use Rattle.uuid.specs.Text.{hyphenated_text, lower, parsed, parsed_hyphenated, hyphen, hex_digit, nibble, is_hyphen_place, digit_place, by_index}
use Rattle.uuid.proofs.RoundTrips.{parses_hyphenated_text}
use Rattle.uuid.proofs.TextLemmas.{by_index_length}
use Rattle.node_base.specs.Path.{Path}
use Rattle.node_base.specs.Props.{PropMap, IsProps}
use Rattle.node_base.specs.PathText.{is_path}
use Rattle.node_base.specs.BlockCanon.{canon_block}
use Rattle.node_base.specs.declared.node.Action.{Action}
use Rattle.node_base.specs.declared.node.NodeKind.{NodeKind}
use Rattle.node_base.specs.declared.node.Source.{Source}
use Rattle.node_base.specs.declared.limits.TheConstants.{BLOCK_BYTES, TEXT_BYTES}
use Rattle.node_base.proofs.BlockWritten.{written_is_read}
use Rattle.node_base.proofs.BlockConverse.{read_is_block}
use Rattle.dump_text.specs.Heads.{no_head, line_says, with_value}
use Rattle.dump_text.specs.Forms.{fits_form, lengths_agree, lengths_fit, gives_delta, is_making, is_deletion, source_of, stage_after}
use Rattle.dump_text.specs.Canon.{told_kind, source_lines, block_of, block_line, text_of, text_lines, content_line, content_of, canon_node, canon_entry, canon_revision, canon_identity, canon_head}
use Rattle.dump_text.specs.Written.{map_of, is_whole_part, IsFormed, IsKept, AreFormed, AreKept, IsRevision, AreRevisions, IsIdentity, read_node, read_revision, read_identity, canon_dump, read_dump, AreRecords}
use Rattle.dump_text.specs.Streams.{NoLf, Reads, reading, begin}
use Rattle.dump_text.specs.declared.state.Place.TheVariants as at
use Rattle.dump_text.specs.declared.fault.DumpFault.TheVariants.{BadHeader}
use Rattle.dump_text.specs.Grammar.{lines_of, HeadOf, IsBlockOf, HasBlock, HasText, IsRecord, IsRecords, AreBlank, version_line, DumpOf, Dump, bytes_of, stage_behind}
use Rattle.dump_text.specs.declared.form.Stage.{Stage}
use Rattle.dump_text.specs.declared.form.Stage.TheVariants.{First, Inside}
use Rattle.dump_text.specs.declared.head.Head.{Head}
use Rattle.dump_text.specs.declared.record.PropPart.{PropPart}
use Rattle.dump_text.specs.declared.record.PropPart.TheVariants.{Whole, Delta}
use Rattle.dump_text.specs.declared.record.TextPart.TheVariants.{Whole as AsWhole}
use Rattle.dump_text.specs.declared.record.NodeRecord.{NodeRecord}
use Rattle.dump_text.specs.declared.record.RevRecord.{RevRecord}
use Rattle.dump_text.specs.declared.record.DumpRecord.{DumpRecord}
use Rattle.dump_text.specs.declared.record.DumpRecord.TheVariants.{Identity, Revision}
use Rattle.dump_text.proofs.BlockSizes.{small_block}
use Rattle.dump_text.proofs.CanonRead.{lone_of, lone_append, le_true, entry_head, entry_lines, whole}
use Rattle.dump_text.proofs.HeadLines.{Lines, Leads, none, led, ahead, node_head, path_lines, kind_lines, action_lines, from_lines, block_lines, text_lines_are, content_lines}
use Rattle.dump_text.proofs.Identities.{hyphenated_alone}
use Rattle.dump_text.proofs.SumLines.{same_itself}
use Rattle.dump_text.proofs.StreamRuns.{reading-append}
use Rattle.dump_text.proofs.Records.{records_read}

-- ---- records one after another

blank-append : (a b : List ℕ) → AreBlank a → AreBlank b → AreBlank (a ++ b)
blank-append [] b p q = q
blank-append (x ∷ a) b p q = (p.0, blank-append a b p.1 q)

-- empty lines in front
pub blanks_before : (d : Bool) (v : ℕ) (i : Stage) (a b : List ℕ) (rs : List DumpRecord) → AreBlank a → IsRecords d v i b rs → IsRecords d v i (a ++ b) rs
blanks_before d v i a b [] p q = blank-append a b p q
blanks_before d v i a b (r ∷ rs) p (blank, first, rest, bl, rec, more, e) =
    (a ++ blank, first, rest, blank-append a blank p bl, rec, more, ap (λ x. a ++ x) e ∙ sym (append_assoc a blank (first ++ rest)))

pub records-append : (d : Bool) (v : ℕ) (i : Stage) (a b : List ℕ) (rs ss : List DumpRecord) → IsRecords d v i a rs → IsRecords d v (stage_behind i rs) b ss → IsRecords d v i (a ++ b) (rs ++ ss)
records-append d v i a b [] ss p q = blanks_before d v i a b ss p q
records-append d v i a b (r ∷ rs) ss (blank, first, rest, bl, rec, more, e) q =
    (blank, first, rest ++ b, bl, rec, records-append d v (stage_after i r) rest b rs ss more q, ap (λ x. x ++ b) e ∙ append_assoc blank (first ++ rest) b ∙ ap (λ x. blank ++ x) (append_assoc first rest b))

-- one record, and empty lines behind it
one_record : (v : ℕ) (i : Stage) (first blank : List ℕ) (r : DumpRecord) → IsRecord false v i first r → AreBlank blank → IsRecords false v i (first ++ blank) (r ∷ [])
one_record v i first blank r rec p = ([], first, blank, tt, rec, p, refl)

-- ---- a written block

block_is : (m : PropMap) → IsProps m → IsBlockOf false (canon_block m) (Whole m)
block_is m p =
    let read = read_is_block false (length (canon_block m)) (canon_block m ++ []) m finite.empty [] (written_is_read m [] p).1 in
    let same : read.block ≡ canon_block m = sym (append-nil read.block) ∙ sym read.front ∙ append-nil (canon_block m) in
    subst (λ b. IsBlockOf false b (Whole m)) same (read.entries, read.spelled, read.within, ap Whole read.sets)

-- ---- a node

abbrev len_of_part : Option PropPart → Option ℕ
len_of_part None = None
len_of_part (Some (Whole m)) = Some (length (canon_block m))
len_of_part (Some (Delta d)) = None

abbrev len_of_text : Option (List ℕ) → Option ℕ
len_of_text None = None
len_of_text (Some t) = Some (length t)

abbrev sum_of_text : Option (List ℕ) → Option (List ℕ)
sum_of_text None = None
sum_of_text (Some t) = Some (md5 t)

abbrev len_of_content : Option PropPart → Option (List ℕ) → Option ℕ
len_of_content None None = None
len_of_content None (Some t) = Some (0 + length t)
len_of_content (Some (Whole m)) None = Some (length (canon_block m) + 0)
len_of_content (Some (Whole m)) (Some t) = Some (length (canon_block m) + length t)
len_of_content (Some (Delta d)) t = None

abbrev rev_of : Option Source → Option ℕ
rev_of None = None
rev_of (Some s) = Some s.revision

abbrev from_of : Option Source → Option Path
from_of None = None
from_of (Some s) = Some s.path

abbrev written_head : NodeRecord → Head
written_head r = node_head (Some r.path) (told_kind r.action r.kind) (Some r.action) (rev_of r.source) (from_of r.source) (len_of_part r.props) (len_of_text r.text) (sum_of_text r.text) (len_of_content r.props r.text)

module _ (p : Path) (kind : Option NodeKind) (action : Action) where
  source_part : (s : Option Source) → IfSome s (λ s. (is_path s.path ≡ true) × (s.revision ≤ 65535)) → Lines (node_head (Some p) kind (Some action) None None None None None None) (source_lines s) (node_head (Some p) kind (Some action) (rev_of s) (from_of s) None None None None)
  source_part None h = none _
  source_part (Some s) h = from_lines p kind action s.revision s.path h.1 h.0

  module _ (rev : Option ℕ) (from : Option Path) where
    block_part : (o : Option PropPart) → is_whole_part o ≡ true → IfSome o (λ part. IsProps (map_of part)) → Lines (node_head (Some p) kind (Some action) rev from None None None None) (block_line o) (node_head (Some p) kind (Some action) rev from (len_of_part o) None None None)
    block_part None w h = none _
    block_part (Some (Delta d)) w h = cc
    block_part (Some (Whole m)) w h = block_lines p kind action rev from (length (canon_block m)) (omega (arith, small_block m h))

    text_part : (prop : Option ℕ) (o : Option (List ℕ)) → IfSome o (λ t. length t ≤ TEXT_BYTES) → Lines (node_head (Some p) kind (Some action) rev from prop None None None) (text_lines o) (node_head (Some p) kind (Some action) rev from prop (len_of_text o) (sum_of_text o) None)
    text_part prop None h = none _
    text_part prop (Some t) h = text_lines_are p kind action rev from prop t (omega arith)

    content_part : (o : Option PropPart) (t : Option (List ℕ)) → is_whole_part o ≡ true → IfSome o (λ part. IsProps (map_of part)) → IfSome t (λ t. length t ≤ TEXT_BYTES) → Lines (node_head (Some p) kind (Some action) rev from (len_of_part o) (len_of_text t) (sum_of_text t) None) (content_line o t) (node_head (Some p) kind (Some action) rev from (len_of_part o) (len_of_text t) (sum_of_text t) (len_of_content o t))
    content_part None None w h k = none _
    content_part (Some (Delta d)) t w h k = cc
    content_part None (Some t) w h k = content_lines p kind action rev from None (Some (length t)) (Some (md5 t)) (0 + length t) (omega arith)
    content_part (Some (Whole m)) None w h k = content_lines p kind action rev from (Some (length (canon_block m))) None None (length (canon_block m) + 0) (omega (arith, small_block m h))
    content_part (Some (Whole m)) (Some t) w h k = content_lines p kind action rev from (Some (length (canon_block m))) (Some (length t)) (Some (md5 t)) (length (canon_block m) + length t) (omega (arith, small_block m h))

node_leads : (r : NodeRecord) → IsKept r → IsFormed r → Leads (no_head false) (canon_node r) (content_of r.props r.text) (written_head r)
node_leads r n f =
    let p = r.path in
    let kind = told_kind r.action r.kind in
    let rev = rev_of r.source in
    let from = from_of r.source in
    let h-1 = node_head (Some p) None None None None None None None None in
    let h-2 = node_head (Some p) kind None None None None None None None in
    let h-3 = node_head (Some p) kind (Some r.action) None None None None None None in
    let h-4 = node_head (Some p) kind (Some r.action) rev from None None None None in
    let h-5 = node_head (Some p) kind (Some r.action) rev from (len_of_part r.props) None None None in
    let h-6 = node_head (Some p) kind (Some r.action) rev from (len_of_part r.props) (len_of_text r.text) (sum_of_text r.text) None in
    let last = written_head r in
    ahead (no_head false) h-1 last _ _ _ (path_lines p n.path)
    (ahead h-1 h-2 last _ _ _ (kind_lines p kind)
    (ahead h-2 h-3 last _ _ _ (action_lines p kind r.action)
    (ahead h-3 h-4 last _ _ _ (source_part p kind r.action r.source n.source)
    (ahead h-4 h-5 last _ _ _ (block_part p kind r.action rev from r.props f.whole n.props)
    (ahead h-5 h-6 last _ _ _ (text_part p kind r.action rev from (len_of_part r.props) r.text f.text)
    (ahead h-6 last last _ _ _ (content_part p kind r.action rev from r.props r.text f.whole n.props f.text) (led last (content_of r.props r.text))))))))

eq_self : (n : ℕ) → (n == n) ≡ true
eq_self n = grind (arith, nat_tests)

-- the head's form, by what the node has
form_of : (v : ℕ) (path : Path) (kind : Option NodeKind) (action : Action) (source : Option Source) (props : Option PropPart) (text : Option (List ℕ)) → is_whole_part props ≡ true → ((is_none source || is_making (Some action)) && not (is_deletion (Some action) && (is_some props || is_some text))) ≡ true → fits_form v Inside (node_head (Some path) kind (Some action) (rev_of source) (from_of source) (len_of_part props) (len_of_text text) (sum_of_text text) (len_of_content props text)) ≡ true
form_of v path kind action None None None w e = e
form_of v path kind action None None (Some t) w e = e
form_of v path kind action None (Some (Whole m)) None w e = e
form_of v path kind action None (Some (Whole m)) (Some t) w e = e
form_of v path kind action (Some s) None None w e = e
form_of v path kind action (Some s) None (Some t) w e = e
form_of v path kind action (Some s) (Some (Whole m)) None w e = e
form_of v path kind action (Some s) (Some (Whole m)) (Some t) w e = e
form_of v path kind action source (Some (Delta d)) text w e = cc

agree_of : (r : NodeRecord) (props : Option PropPart) (text : Option (List ℕ)) → is_whole_part props ≡ true → lengths_agree (node_head (Some r.path) (told_kind r.action r.kind) (Some r.action) (rev_of r.source) (from_of r.source) (len_of_part props) (len_of_text text) (sum_of_text text) (len_of_content props text)) ≡ true
agree_of r None None w = refl
agree_of r None (Some t) w = eq_self (0 + length t)
agree_of r (Some (Whole m)) None w = eq_self (length (canon_block m) + 0)
agree_of r (Some (Whole m)) (Some t) w = eq_self (length (canon_block m) + length t)
agree_of r (Some (Delta d)) text w = cc

fit_of : (r : NodeRecord) (props : Option PropPart) (text : Option (List ℕ)) → is_whole_part props ≡ true → IfSome props (λ part. IsProps (map_of part)) → IfSome text (λ t. length t ≤ TEXT_BYTES) → lengths_fit (node_head (Some r.path) (told_kind r.action r.kind) (Some r.action) (rev_of r.source) (from_of r.source) (len_of_part props) (len_of_text text) (sum_of_text text) (len_of_content props text)) ≡ true
fit_of r None None w h k = refl
fit_of r None (Some t) w h k = le_true (length t) TEXT_BYTES k
fit_of r (Some (Whole m)) None w h k = rw (le_true (length (canon_block m)) BLOCK_BYTES (small_block m h)) refl
fit_of r (Some (Whole m)) (Some t) w h k = rw (le_true (length (canon_block m)) BLOCK_BYTES (small_block m h), le_true (length t) TEXT_BYTES k) refl
fit_of r (Some (Delta d)) text w h k = cc

has_block : (props : Option PropPart) → is_whole_part props ≡ true → IfSome props (λ part. IsProps (map_of part)) → HasBlock false (len_of_part props) props (block_of props)
has_block None w h = (refl, refl)
has_block (Some (Whole m)) w h = (refl, block_is m h)
has_block (Some (Delta d)) w h = cc

has_text : (h : Head) (text : Option (List ℕ)) → gives_delta h ≡ false → h.text_len ≡ len_of_text text → h.sum ≡ sum_of_text text → HasText h (option_map AsWhole text)
has_text h None g e f = e
has_text h (Some t) g e f = (g, e, rw (f) (same_itself (md5 t)))

bytes_are : (text : Option (List ℕ)) → text_of text ≡ bytes_of (option_map AsWhole text)
bytes_are None = refl
bytes_are (Some t) = refl

source_back : (s : Option Source) → source_of (from_of s) (rev_of s) ≡ s
source_back None = refl
source_back (Some s) = refl

-- header lines that change the head are some
some_lines : (h last : Head) (lines : List (List ℕ)) → HeadOf h lines last → (last ≡ h → ⊥) → 0 < length lines
some_lines h last [] e differs = absurd (differs (sym e))
some_lines h last (l ∷ ls) e differs = omega arith

no_path_is : (r : NodeRecord) → written_head r ≡ no_head false → ⊥
no_path_is r e = none_is (ap (λ (h : Head). h.path) e)
  where
    none_is : Some r.path ≡ None → ⊥
    none_is e = cc

-- a node's bytes, up to the two LF behind it
node_is : (v : ℕ) (r : NodeRecord) (n : IsKept r) (f : IsFormed r) → IsRecord false v Inside (lines_of (node_leads r n f).lines ++ 10 ∷ (block_of r.props ++ text_of r.text)) (read_node r)
node_is v r n f =
    let l = node_leads r n f in
    let head = written_head r in
    record {
      lines = l.lines;
      head = head;
      body = block_of r.props ++ text_of r.text;
      props = r.props;
      text = option_map AsWhole r.text;
      some = some_lines (no_head false) head l.lines l.headers (no_path_is r);
      spelled = refl;
      headers = l.headers;
      form = form_of v r.path (told_kind r.action r.kind) r.action r.source r.props r.text f.whole f.form;
      agree = agree_of r r.props r.text f.whole;
      fit = fit_of r r.props r.text f.whole n.props f.text;
      content = record { block = block_of r.props; whole = ap (λ x. block_of r.props ++ x) (bytes_are r.text); properties = has_block r.props f.whole n.props; words = has_text head r.text refl refl refl };
      says = ((refl, refl, refl, refl, refl, source_back r.source, refl), refl);
    }

node_bytes : (r : NodeRecord) (n : IsKept r) (f : IsFormed r) → canon_node r ≡ (lines_of (node_leads r n f).lines ++ 10 ∷ (block_of r.props ++ text_of r.text)) ++ 10 ∷ 10 ∷ []
node_bytes r n f = (node_leads r n f).spelled ∙ assoc (lines_of (node_leads r n f).lines) (block_of r.props) (text_of r.text)
  where
    assoc : (a b c : List ℕ) → a ++ 10 ∷ (b ++ (c ++ 10 ∷ 10 ∷ [])) ≡ (a ++ 10 ∷ (b ++ c)) ++ 10 ∷ 10 ∷ []
    assoc a b c = simp append_assoc refl

-- a node
pub node_written : (v : ℕ) (r : NodeRecord) → IsKept r → IsFormed r → IsRecords false v Inside (canon_node r) (read_node r ∷ [])
node_written v r n f =
    subst (λ bytes. IsRecords false v Inside bytes (read_node r ∷ [])) (sym (node_bytes r n f))
    (one_record v Inside (lines_of (node_leads r n f).lines ++ 10 ∷ (block_of r.props ++ text_of r.text)) (10 ∷ 10 ∷ []) (read_node r) (node_is v r n f) (refl, (refl, tt)))

pub nodes_written : (v : ℕ) (rs : List NodeRecord) → AreKept rs → AreFormed rs → IsRecords false v Inside (flat_map canon_node rs) (map read_node rs)
nodes_written v [] n f = tt
nodes_written v (r ∷ rs) n f = records-append false v Inside (canon_node r) (flat_map canon_node rs) (read_node r ∷ []) (map read_node rs) (node_written v r n.0 f.0) (nodes_written v rs n.1 f.1)

-- ---- a revision

entry_is : (v : ℕ) (i : Stage) (n : ℕ) (m : PropMap) → n ≤ 65535 → IsProps m → IsRecord false v i (lines_of (entry_lines n (length (canon_block m))) ++ 10 ∷ canon_block m) (Revision n m)
entry_is v i n m h p =
    let len = length (canon_block m) in
    record {
      lines = entry_lines n len;
      head = whole n len;
      body = canon_block m;
      props = Some (Whole m);
      text = None;
      some = omega arith;
      spelled = refl;
      headers = entry_head n len h (omega (arith, small_block m p));
      form = refl;
      agree = eq_plus len;
      fit = rw (le_true len BLOCK_BYTES (small_block m p)) refl;
      content = record { block = canon_block m; whole = sym (append-nil (canon_block m)); properties = (refl, block_is m p); words = refl };
      says = (refl, refl, refl);
    }
  where
    eq_plus : (n : ℕ) → (n == n + 0) ≡ true
    eq_plus n = grind (arith, nat_tests)

entry_bytes : (a d b e c block : List ℕ) → (a ++ (d ++ 10 ∷ [])) ++ ((b ++ (e ++ 10 ∷ [])) ++ ((c ++ (e ++ 10 ∷ [])) ++ (10 ∷ [] ++ (block ++ 10 ∷ [])))) ≡ (((a ++ d) ++ 10 ∷ ((b ++ e) ++ 10 ∷ ((c ++ e) ++ 10 ∷ []))) ++ 10 ∷ block) ++ 10 ∷ []
entry_bytes a d b e c block = simp append_assoc refl

pub entry_written : (v : ℕ) (i : Stage) (n : ℕ) (m : PropMap) → n ≤ 65535 → IsProps m → IsRecords false v i (canon_entry n m) (Revision n m ∷ [])
entry_written v i n m h p =
    let len = length (canon_block m) in
    subst (λ bytes. IsRecords false v i bytes (Revision n m ∷ [])) (sym (entry_bytes (codes "Revision-number: ") (printed n) (codes "Prop-content-length: ") (printed len) (codes "Content-length: ") (canon_block m)))
    (one_record v i (lines_of (entry_lines n len) ++ 10 ∷ canon_block m) (10 ∷ []) (Revision n m) (entry_is v i n m h p) (refl, tt))

pub revision_written : (version : ℕ) (i : Stage) (r : RevRecord) → IsRevision r → IsRecords false version i (canon_revision r) (read_revision r)
revision_written version i r v = records-append false version i (canon_entry r.number r.props) (flat_map canon_node r.nodes.items) (Revision r.number r.props ∷ []) (map read_node r.nodes.items) (entry_written version i r.number r.props v.number v.props) (nodes_written version r.nodes.items v.kept v.formed)

pub revisions_written : (version : ℕ) (i : Stage) (rs : List RevRecord) → AreRevisions rs → IsRecords false version i (flat_map canon_revision rs) (flat_map read_revision rs)
revisions_written version i [] v = tt
revisions_written version i (r ∷ rs) v = records-append false version i (canon_revision r) (flat_map canon_revision rs) (read_revision r) (flat_map read_revision rs) (revision_written version i r v.0) (revisions_written version _ rs v.1)

-- ---- an identity

no_hex_lf : (d : ℕ) → (hex_digit lower d == 10) ≡ false
no_hex_lf d = grind (arith, nat_tests)

id_byte : (id : List ℕ) (k : ℕ) → ((if is_hyphen_place k then hyphen else hex_digit lower (nibble id (digit_place k))) == 10) ≡ false
id_byte id k =
    elim (is_hyphen_place k) as (λ b. ((if b then hyphen else hex_digit lower (nibble id (digit_place k))) == 10) ≡ false) [ true ↦ refl | false ↦ no_hex_lf (nibble id (digit_place k)) ]

lone_by_index : (n : ℕ) (f : ℕ → ℕ) → ((k : ℕ) → (f k == 10) ≡ false) → NoLf (by_index n f)
unfolding by_index
lone_by_index zero f h = tt
lone_by_index (suc n) f h = lone_append (by_index n f) (f n ∷ []) (lone_by_index n f h) (h n, tt)

abbrev identity_head : List ℕ → Head
identity_head id = record (no_head false) { identity = Some id }

-- its text is read as the identity
abbrev pub ReadsBack : List ℕ → Type 0
ReadsBack id = Some id ≡ parsed_hyphenated (hyphenated_text lower id)

pub reads_back : (id : Option (List ℕ)) → IfSome id IsIdentity → IfSome id ReadsBack
reads_back None n = tt
reads_back (Some id) n = parses_hyphenated_text lower id (inl refl) n.long n.bytes

pub hyphens_back : (id : List ℕ) → Some id ≡ parsed (hyphenated_text lower id) → ReadsBack id
hyphens_back id e = e ∙ hyphenated_alone (hyphenated_text lower id) (by_index_length 36 (λ k. if is_hyphen_place k then hyphen else hex_digit lower (nibble id (digit_place k))))

identity_says : (id : List ℕ) → ReadsBack id → line_says (no_head false) (codes "UUID: " ++ hyphenated_text lower id) ≡ Ok (identity_head id)
identity_says id n = ap (λ o. with_value BadHeader o identity_head) (sym n)

abbrev identity_line : List ℕ → List ℕ
identity_line id = codes "UUID: " ++ hyphenated_text lower id

identity_headers : (id : List ℕ) → ReadsBack id → HeadOf (no_head false) (identity_line id ∷ []) (identity_head id)
identity_headers id n =
    let name = codes "UUID: " in
    let text = hyphenated_text lower id in
    let long = length-append name text in (
      lone_append name text (lone_of name refl) (lone_by_index 36 _ (id_byte id)),
      omega (arith, long),
      omega (arith, long, by_index_length 36 (λ k. if is_hyphen_place k then hyphen else hex_digit lower (nibble id (digit_place k)))),
      identity_head id,
      identity_says id n,
      refl,
    )

identity_is : (v : ℕ) (id : List ℕ) (n : ReadsBack id) → IsRecord false v First (lines_of (identity_line id ∷ []) ++ 10 ∷ []) (Identity id)
identity_is v id n =
    record {
      lines = identity_line id ∷ [];
      head = identity_head id;
      body = [];
      props = None;
      text = None;
      some = omega arith;
      spelled = refl;
      headers = identity_headers id n;
      form = refl;
      agree = refl;
      fit = refl;
      content = record { block = []; whole = refl; properties = (refl, refl); words = refl };
      says = refl;
    }

identity_bytes : (a b : List ℕ) → (((a ++ b) ++ 10 ∷ []) ++ 10 ∷ []) ++ [] ≡ a ++ (b ++ 10 ∷ 10 ∷ [])
identity_bytes a b = simp (append_assoc, append-nil) refl

pub identity_written : (v : ℕ) (id : Option (List ℕ)) → IfSome id ReadsBack → IsRecords false v First (canon_identity id) (read_identity id)
identity_written v None n = tt
identity_written v (Some id) n =
    subst (λ bytes. IsRecords false v First bytes (Identity id ∷ [])) (identity_bytes (codes "UUID: ") (hyphenated_text lower id))
    (one_record v First (lines_of (identity_line id ∷ []) ++ 10 ∷ []) [] (Identity id) (identity_is v id n) tt)

-- ---- a dump

head_bytes : (a b c : List ℕ) → ((a ++ 10 ∷ 10 ∷ []) ++ b) ++ c ≡ a ++ 10 ∷ 10 ∷ (b ++ c)
head_bytes a b c = simp append_assoc refl

pub head_written : (id : Option (List ℕ)) → IfSome id ReadsBack → DumpOf false 2 (canon_head id) (read_identity id)
head_written id n = (version_line, canon_identity id, inl (refl, refl), append_assoc version_line (10 ∷ 10 ∷ []) (canon_identity id), identity_written 2 id n)

pub dump_written : (id : Option (List ℕ)) (rs : List RevRecord) → IfSome id ReadsBack → AreRevisions rs → DumpOf false 2 (canon_dump id rs) (read_dump id rs)
dump_written id rs n v =
    (version_line, canon_identity id ++ flat_map canon_revision rs, inl (refl, refl), head_bytes version_line (canon_identity id) (flat_map canon_revision rs), records-append false 2 First (canon_identity id) (flat_map canon_revision rs) (read_identity id) (flat_map read_revision rs) (identity_written 2 id n) (revisions_written 2 (stage_behind First (read_identity id)) rs v))

pub dump_goes_on : (bytes more : List ℕ) (rs others : List DumpRecord) → Dump bytes rs → AreRecords more others → Dump (bytes ++ more) (rs ++ others)
dump_goes_on bytes more rs others (version, d) next =
    let rest = d.1 in
    (version, (d.0, rest ++ more, d.2, ap (λ x. x ++ more) d.3 ∙ append_assoc d.0 (10 ∷ 10 ∷ rest) more, records-append false version First rest more rs others d.4 (next version (stage_behind First rs))))

-- ---- read again

behind_nodes : (rs : List NodeRecord) → stage_behind Inside (map read_node rs) ≡ Inside
behind_nodes [] = refl
behind_nodes (r ∷ rs) = behind_nodes rs

pub revision_again : (rs : List DumpRecord) (v : ℕ) (i : Stage) (r : RevRecord) (more : List ℕ) → IsRevision r → reading (Reads rs (begin false v at.Between i)) (canon_revision r ++ more) ≡ reading (Reads (rs ++ read_revision r) (begin false v at.Between Inside)) more
revision_again rs v i r more w =
    reading-append (Reads rs (begin false v at.Between i)) (canon_revision r) more
    ∙ ap (λ s. reading s more) (records_read false rs v i (canon_revision r) (read_revision r) (revision_written v i r w))
    ∙ ap (λ x. reading (Reads (rs ++ read_revision r) (begin false v at.Between x)) more) (behind_nodes r.nodes.items)

pub entry_again : (rs : List DumpRecord) (v : ℕ) (i : Stage) (n : ℕ) (m : PropMap) (more : List ℕ) → n ≤ 65535 → IsProps m → reading (Reads rs (begin false v at.Between i)) (canon_entry n m ++ more) ≡ reading (Reads (rs ++ Revision n m ∷ []) (begin false v at.Between Inside)) more
entry_again rs v i n m more h p =
    reading-append (Reads rs (begin false v at.Between i)) (canon_entry n m) more
    ∙ ap (λ s. reading s more) (records_read false rs v i (canon_entry n m) (Revision n m ∷ []) (entry_written v i n m h p))

kept_last : (rs : List NodeRecord) (r : NodeRecord) → AreKept rs → IsKept r → AreKept (rs ++ r ∷ [])
kept_last [] r k n = (n, tt)
kept_last (x ∷ rs) r k n = (k.0, kept_last rs r k.1 n)

-- one more node is within the limits
pub kept_push : (rs : List NodeRecord) (i : ℕ) (r d : NodeRecord) → i < length rs → r ≡ get_or rs i d → AreKept (take i rs) → IsKept r → AreKept (take (i + 1) rs)
kept_push rs i r d inside e k n = subst AreKept (ap (λ x. take i rs ++ x ∷ []) e ∙ sym (take_more rs i d inside)) (kept_last (take i rs) r k n)
