-- Records that are whole don't matter to what comes; and a reader that reads hasn't failed.
use Rattle.std.proofs.Common.{◌≡◌, ℕ, ◌==◌, ◌+◌, ◌&&◌, not, nat_lt, Bool, true, false, List, [], ◌∷◌, ◌++◌, length, Option, Some, None, Result, Ok, Err, refl, ap, subst, ◌∙◌, append_assoc, codes}
use Rattle.std.specs.Bool.{if◌then◌else◌}
use Rattle.node_base.specs.Path.{Path}
use Rattle.node_base.specs.PathText.{path_read}
use Rattle.node_base.specs.Blocks.{Step, Next, Whole, Refused as BlockRefused, block_step, new_block, begun}
use Rattle.node_base.specs.declared.fault.PathFault.{PathFault}
use Rattle.node_base.specs.declared.fault.PathFault.TheVariants as path
use Rattle.node_base.specs.declared.prop_fault.PropFault.TheVariants as prop
use Rattle.node_base.specs.Numbers.{decimal, rev_read}
use Rattle.node_base.specs.declared.limits.TheConstants.{TEXT_BYTES}
use Rattle.dump_text.specs.Headers.{same, version_in, split_line, known_name, path_said, without_slash, kind_of, action_of, identity_of, sum_of}
use Rattle.dump_text.specs.Heads.{line_says, header_says, known_says, once, with_value, with_path}
use Rattle.dump_text.specs.Forms.{record_of, stage_after, fits_form, lengths_agree, lengths_fit, is_delta, gives_delta, delta_of, part_of}
use Rattle.dump_text.specs.declared.fault.DumpFault.{DumpFault}
use Rattle.dump_text.specs.declared.fault.DumpFault.TheVariants as fault
use Rattle.dump_text.specs.declared.head.Head.{Head}
use Rattle.dump_text.specs.declared.header.HeaderName.{HeaderName}
use Rattle.dump_text.specs.declared.header.HeaderName.TheVariants as header
use Rattle.dump_text.specs.declared.record.DumpRecord.{DumpRecord}
use Rattle.dump_text.specs.declared.record.PropPart.{PropPart}
use Rattle.dump_text.specs.declared.record.TextPart.TheVariants.{Whole as AsWhole, Delta as AsDelta}
use Rattle.dump_text.specs.declared.state.Place.{Place}
use Rattle.dump_text.specs.declared.state.Place.TheVariants as at
use Rattle.dump_text.specs.declared.state.ReadState.{ReadState}
use Rattle.dump_text.specs.Streams.{Stream, Reads, Refuses, reading, stream_step, line_step, line_is, versioned, block_said, said, given, give, made, whole_text, text_is, after_block, content, judged, sum_holds, has_failed, begin, dump_by, fresh_by}
use Rattle.fleet_engines.specs.Pieces.{behind, RecordsDontMatter}

-- the fault of a reader that failed before
abbrev pub is_spent : DumpFault → Bool
is_spent fault.Failed = true
is_spent f = false

-- ---- a header line

abbrev FineHead : Result Head DumpFault → Type 0
FineHead (Ok h) = Unit {0}
FineHead (Err f) = is_spent f ≡ false

once_fine : {A : Type 0} (o : Option A) (what : Result Head DumpFault) → FineHead what → FineHead (once o what)
once_fine None what h = h
once_fine (Some a) what h = refl

value_fine : {A : Type 0} (f : DumpFault) (o : Option A) (put : A → Head) → is_spent f ≡ false → FineHead (with_value f o put)
value_fine f None put h = h
value_fine f (Some a) put h = tt

path_fine : (r : Result Path PathFault) (put : Path → Head) → FineHead (with_path (path_said r) put)
path_fine (Ok p) put = tt
path_fine (Err path.TooLong) put = refl
path_fine (Err path.BadPath) put = refl
path_fine (Err path.OutOfMemory) put = refl

known_fine : (name : HeaderName) (h : Head) (value : List ℕ) → FineHead (known_says name h value)
known_fine header.Identity h value = once_fine h.identity _ (value_fine fault.BadHeader (identity_of value) _ refl)
known_fine header.RevisionNumber h value = once_fine h.number _ (value_fine fault.BadNumber (rev_read value) _ refl)
known_fine header.NodePath h value = once_fine h.path _ (path_fine (path_read (without_slash value)) _)
known_fine header.NodeKind h value = once_fine h.kind _ (value_fine fault.BadHeader (kind_of value) _ refl)
known_fine header.NodeAction h value = once_fine h.action _ (value_fine fault.BadHeader (action_of value) _ refl)
known_fine header.SourceRevision h value = once_fine h.source_revision _ (value_fine fault.BadNumber (rev_read value) _ refl)
known_fine header.SourcePath h value = once_fine h.source_path _ (path_fine (path_read (without_slash value)) _)
known_fine header.PropLength h value = once_fine h.prop_len _ (value_fine fault.BadNumber (decimal value) _ refl)
known_fine header.TextLength h value = once_fine h.text_len _ (value_fine fault.BadNumber (decimal value) _ refl)
known_fine header.ContentLength h value = once_fine h.content_len _ (value_fine fault.BadNumber (decimal value) _ refl)
known_fine header.TextSum h value = once_fine h.sum _ (value_fine fault.BadHeader (sum_of value) _ refl)
known_fine header.TextDelta h value =
    once_fine h.text_delta _
    (elim (same value (codes "true") && not h.deltas) as (λ b. FineHead (if b then Err fault.TextDelta else Ok (record h { text_delta = Some (same value (codes "true")) }))) [
      | true ↦ refl
      | false ↦ tt
    ])
known_fine header.BaseSum h value =
    let read = once h.base_sum (with_value fault.BadHeader (sum_of value) (λ sum. record h { base_sum = Some sum })) in
    elim h.deltas as (λ b. FineHead (if b then read else Ok h)) [
      | true ↦ once_fine h.base_sum _ (value_fine fault.BadHeader (sum_of value) _ refl)
      | false ↦ tt
    ]
known_fine header.PropDelta h value = once_fine h.prop_delta _ tt

header_fine : (name : Option HeaderName) (h : Head) (value : List ℕ) → FineHead (header_says name h value)
header_fine None h value = tt
header_fine (Some name) h value = known_fine name h value

line_fine : (h : Head) (line : List ℕ) → FineHead (line_says h line)
line_fine h line =
    elim (split_line line) as (λ o. FineHead (elim o as (λ _. Result Head DumpFault) [ None ↦ Err fault.BadHeader | Some p ↦ header_says (known_name p.0) h p.1 ])) [
      | None ↦ refl
      | Some p ↦ header_fine (known_name p.0) h p.1
    ]

-- ---- a stream

-- a reader that reads hasn't failed, and what it refuses is never that it had
abbrev Fine : Stream → Type 0
Fine (Reads rs r) = has_failed r ≡ false
Fine (Refuses rs f) = is_spent f ≡ false

-- so where that is known, and the same comes behind other records
record Like (known : Type 0) (front : List DumpRecord) (s t : Stream) : Type 0 where
  pub fine : known → Fine s
  pub alike : t ≡ behind front s

if_like : {H : Type 0} (front : List DumpRecord) (b : Bool) (x y z w : Stream) → Like H front x z → Like H front y w → Like H front (if b then x else y) (if b then z else w)
if_like front true x y z w p q = p
if_like front false x y z w p q = q

reads_like : {H : Type 0} (front rs : List DumpRecord) (r : ReadState) → has_failed r ≡ false → Like H front (Reads rs r) (Reads (front ++ rs) r)
reads_like front rs r e = record { fine = λ _. e; alike = refl }

stays_like : (front rs : List DumpRecord) (r : ReadState) → Like (has_failed r ≡ false) front (Reads rs r) (Reads (front ++ rs) r)
stays_like front rs r = record { fine = λ h. h; alike = refl }

refused_like : {H : Type 0} (front rs : List DumpRecord) (f : DumpFault) → is_spent f ≡ false → Like H front (Refuses rs f) (Refuses (front ++ rs) f)
refused_like front rs f e = record { fine = λ _. e; alike = refl }

given_like : {H : Type 0} (front rs : List DumpRecord) (r : ReadState) (rec : Option DumpRecord) → Like H front (given rs r rec) (given (front ++ rs) r rec)
given_like front rs r None = refused_like front rs fault.BadHeader refl
given_like front rs r (Some rec) = record { fine = λ _. refl; alike = ap (λ x. Reads x (begin r.head.deltas r.version at.Between (stage_after r.stage rec))) (append_assoc front rs (rec ∷ [])) }

made_like : {H : Type 0} (front rs : List DumpRecord) (r : ReadState) (props : Option PropPart) (text : List ℕ) → Like H front (made rs r props text) (made (front ++ rs) r props text)
made_like front rs r props text = if_like front (nat_lt TEXT_BYTES (length text)) _ _ _ _ (refused_like front rs fault.TooLong refl) (given_like front rs r (record_of r.head props (Some (AsWhole text))))

whole_like : {H : Type 0} (front rs : List DumpRecord) (r : ReadState) (props : Option PropPart) (text : List ℕ) → Like H front (whole_text rs r props text) (whole_text (front ++ rs) r props text)
whole_like front rs r props text = if_like front (sum_holds r.head.sum text) _ _ _ _ (made_like front rs r props text) (refused_like front rs fault.BadSum refl)

text_like : {H : Type 0} (front rs : List DumpRecord) (r : ReadState) (props : Option PropPart) (text : List ℕ) → Like H front (text_is rs r props text) (text_is (front ++ rs) r props text)
text_like front rs r props text = if_like front (gives_delta r.head) _ _ _ _ (given_like front rs r (record_of r.head props (Some (AsDelta (delta_of r.head text))))) (whole_like front rs r props text)

after_block_like : {H : Type 0} (front rs : List DumpRecord) (r : ReadState) (props : Option PropPart) → Like H front (after_block rs r props) (after_block (front ++ rs) r props)
after_block_like {H} front rs r props =
    elim r.head.text_len as (λ o. Like H front (elim o as (λ _. Stream) [ None ↦ give rs r props None | Some n ↦ if n == 0 then text_is rs r props [] else Reads rs (record r { place = at.Text n; props = props; held = [] }) ])
    (elim o as (λ _. Stream) [ None ↦ give (front ++ rs) r props None | Some n ↦ if n == 0 then text_is (front ++ rs) r props [] else Reads (front ++ rs) (record r { place = at.Text n; props = props; held = [] }) ])) [
      | None ↦ given_like front rs r (record_of r.head props None)
      | Some n ↦ if_like front (n == 0) _ _ _ _ (text_like front rs r props []) (reads_like front rs (record r { place = at.Text n; props = props; held = [] }) refl)
    ]

content_like : {H : Type 0} (front rs : List DumpRecord) (r : ReadState) → Like H front (content rs r) (content (front ++ rs) r)
content_like {H} front rs r =
    elim r.head.prop_len as (λ o. Like H front (elim o as (λ _. Stream) [ None ↦ after_block rs r None | Some n ↦ if n == 0 then Refuses rs fault.BadProps else Reads rs (record r { place = at.Block; block = begun (is_delta r.head) n; held = [] }) ])
    (elim o as (λ _. Stream) [ None ↦ after_block (front ++ rs) r None | Some n ↦ if n == 0 then Refuses (front ++ rs) fault.BadProps else Reads (front ++ rs) (record r { place = at.Block; block = begun (is_delta r.head) n; held = [] }) ])) [
      | None ↦ after_block_like front rs r None
      | Some n ↦ if_like front (n == 0) _ _ _ _ (refused_like front rs fault.BadProps refl) (reads_like front rs (record r { place = at.Block; block = begun (is_delta r.head) n; held = [] }) refl)
    ]

judged_like : {H : Type 0} (front rs : List DumpRecord) (r : ReadState) → Like H front (judged rs r) (judged (front ++ rs) r)
judged_like front rs r =
    if_like front (not (fits_form r.version r.stage r.head)) _ _ _ _ (refused_like front rs fault.BadHeader refl)
    (if_like front (not (lengths_agree r.head)) _ _ _ _ (refused_like front rs fault.BadLength refl) (if_like front (not (lengths_fit r.head)) _ _ _ _ (refused_like front rs fault.TooLong refl) (content_like front rs r)))

said_like : {H : Type 0} (front rs : List DumpRecord) (r : ReadState) (what : Result Head DumpFault) → FineHead what → Like H front (said rs r what) (said (front ++ rs) r what)
said_like front rs r (Ok h) k = reads_like front rs (record r { place = at.Header; head = h }) refl
said_like front rs r (Err f) k = refused_like front rs f k

versioned_like : {H : Type 0} (front rs : List DumpRecord) (r : ReadState) (version : Option ℕ) → Like H front (versioned rs r version) (versioned (front ++ rs) r version)
versioned_like front rs r None = refused_like front rs fault.BadVersion refl
versioned_like front rs r (Some version) = reads_like front rs (record r { version = version; place = at.Blank }) refl

line_like : (place : Place) (front rs : List DumpRecord) (r : ReadState) (line : List ℕ) → Like (has_failed r ≡ false) front (line_is place rs r line) (line_is place (front ++ rs) r line)
line_like at.Version front rs r line = versioned_like front rs r (version_in line)
line_like at.Blank front rs r [] = reads_like front rs (record r { place = at.Between }) refl
line_like at.Blank front rs r (b ∷ bs) = refused_like front rs fault.BadHeader refl
line_like at.Header front rs r [] = judged_like front rs r
line_like place front rs r [] = stays_like front rs r
line_like place front rs r (b ∷ bs) = said_like front rs r (line_says r.head (b ∷ bs)) (line_fine r.head (b ∷ bs))

line_step_like : (place : Place) (front rs : List DumpRecord) (r : ReadState) (b : ℕ) → Like (has_failed r ≡ false) front (line_step place rs r b) (line_step place (front ++ rs) r b)
line_step_like place front rs r b =
    if_like front (b == 10) _ _ _ _ (line_like place front rs (record r { held = [] }) r.held)
    (if_like front (nat_lt (length r.held) 4096) _ _ _ _ (stays_like front rs (record r { held = r.held ++ b ∷ [] })) (refused_like front rs fault.TooLong refl))

block_like : (front rs : List DumpRecord) (r : ReadState) (s : Step) → Like (has_failed r ≡ false) front (block_said rs r s) (block_said (front ++ rs) r s)
block_like front rs r (Next block) = stays_like front rs (record r { block = block })
block_like front rs r (Whole props removed) = after_block_like front rs (record r { block = new_block 0 }) (Some (part_of (is_delta r.head) props removed))
block_like front rs r (BlockRefused prop.BadProps) = refused_like front rs fault.BadProps refl
block_like front rs r (BlockRefused prop.TooLong) = refused_like front rs fault.TooLong refl
block_like front rs r (BlockRefused prop.OutOfMemory) = refused_like front rs fault.OutOfMemory refl

step_like : (place : Place) (front rs : List DumpRecord) (r : ReadState) (b : ℕ) → r.place ≡ place → Like (has_failed r ≡ false) front (stream_step place rs r b) (stream_step place (front ++ rs) r b)
step_like at.Block front rs r b e = block_like front rs r (block_step r.block b)
step_like (at.Text n) front rs r b e = if_like front (nat_lt (length r.held + 1) n) _ _ _ _ (stays_like front rs (record r { held = r.held ++ b ∷ [] })) (text_like front rs r r.props (r.held ++ b ∷ []))
step_like at.Failed front rs r b e = record { fine = λ h. cc; alike = refl }
step_like place front rs r b e = line_step_like place front rs r b

pub records_dont_matter : RecordsDontMatter
records_dont_matter front s [] = refl
records_dont_matter front (Reads rs r) (b ∷ bs) = ap (λ x. reading x bs) (step_like r.place front rs r b refl).alike ∙ records_dont_matter front (stream_step r.place rs r b) bs
records_dont_matter front (Refuses rs f) (b ∷ bs) = records_dont_matter front (Refuses rs f) bs

fine_on : (s : Stream) (bs : List ℕ) → Fine s → Fine (reading s bs)
fine_on s [] h = h
fine_on (Reads rs r) (b ∷ bs) h = fine_on (stream_step r.place rs r b) bs ((step_like r.place [] rs r b refl).fine h)
fine_on (Refuses rs f) (b ∷ bs) h = fine_on (Refuses rs f) bs h

pub not_failed : (deltas : Bool) (bytes : List ℕ) (rs : List DumpRecord) (r : ReadState) → dump_by deltas bytes ≡ Reads rs r → has_failed r ≡ false
not_failed deltas bytes rs r e = subst Fine e (fine_on (Reads [] (fresh_by deltas)) bytes refl)

pub not_spent : (deltas : Bool) (bytes : List ℕ) (rs : List DumpRecord) (f : DumpFault) → dump_by deltas bytes ≡ Refuses rs f → is_spent f ≡ false
not_spent deltas bytes rs f e = subst Fine e (fine_on (Reads [] (fresh_by deltas)) bytes refl)
