-- What header lines come to.
use Rattle.std.specs.Prelude.{◌≡◌, ℕ, ◌&&◌, not, Bool, List, Option, Some, None, Result, Ok, Err, if◌then◌else◌, codes}
use Rattle.node_base.specs.Path.{Path}
use Rattle.node_base.specs.Numbers.{decimal, rev_read}
use Rattle.dump_text.specs.Headers.{same, split_line, known_name, dump_path, kind_of, action_of, identity_of, sum_of}
use Rattle.dump_text.specs.declared.fault.DumpFault.{DumpFault}
use Rattle.dump_text.specs.declared.fault.DumpFault.TheVariants.{BadHeader, BadNumber, TextDelta, OutOfMemory}
use Rattle.dump_text.specs.declared.header.HeaderName.{HeaderName}
use Rattle.dump_text.specs.declared.header.HeaderName.TheVariants as header
use Rattle.dump_text.specs.declared.head.Head.{Head}

-- no header yet, where texts may or may not be given as deltas; no header changes that
abbrev pub no_head : Bool → Head
no_head deltas = record { deltas = deltas; identity = None; number = None; path = None; kind = None; action = None; source_revision = None; source_path = None; prop_len = None; text_len = None; content_len = None; sum = None; base_sum = None; text_delta = None; prop_delta = None }

-- a header comes once
abbrev pub once : {A : Type 0} → Option A → Result Head DumpFault → Result Head DumpFault
once None said = said
once (Some a) said = Err BadHeader

-- the value, or the fault where it spells none
abbrev pub with_value : {A : Type 0} → DumpFault → Option A → (A → Head) → Result Head DumpFault
with_value f None put = Err f
with_value f (Some a) put = Ok (put a)

abbrev pub with_path : Result Path DumpFault → (Path → Head) → Result Head DumpFault
with_path (Err f) put = Err f
with_path (Ok path) put = Ok (put path)

abbrev pub set_identity : Head → List ℕ → Result Head DumpFault
set_identity h value = once h.identity (with_value BadHeader (identity_of value) (λ id. record h { identity = Some id }))

abbrev pub set_number : Head → List ℕ → Result Head DumpFault
set_number h value = once h.number (with_value BadNumber (rev_read value) (λ n. record h { number = Some n }))

abbrev pub set_path : Head → List ℕ → Result Head DumpFault
set_path h value = once h.path (with_path (dump_path value) (λ path. record h { path = Some path }))

abbrev pub set_kind : Head → List ℕ → Result Head DumpFault
set_kind h value = once h.kind (with_value BadHeader (kind_of value) (λ kind. record h { kind = Some kind }))

abbrev pub set_action : Head → List ℕ → Result Head DumpFault
set_action h value = once h.action (with_value BadHeader (action_of value) (λ action. record h { action = Some action }))

abbrev pub set_source_revision : Head → List ℕ → Result Head DumpFault
set_source_revision h value = once h.source_revision (with_value BadNumber (rev_read value) (λ n. record h { source_revision = Some n }))

abbrev pub set_source_path : Head → List ℕ → Result Head DumpFault
set_source_path h value = once h.source_path (with_path (dump_path value) (λ path. record h { source_path = Some path }))

abbrev pub set_prop_length : Head → List ℕ → Result Head DumpFault
set_prop_length h value = once h.prop_len (with_value BadNumber (decimal value) (λ n. record h { prop_len = Some n }))

abbrev pub set_text_length : Head → List ℕ → Result Head DumpFault
set_text_length h value = once h.text_len (with_value BadNumber (decimal value) (λ n. record h { text_len = Some n }))

abbrev pub set_content_length : Head → List ℕ → Result Head DumpFault
set_content_length h value = once h.content_len (with_value BadNumber (decimal value) (λ n. record h { content_len = Some n }))

abbrev pub set_sum : Head → List ℕ → Result Head DumpFault
set_sum h value = once h.sum (with_value BadHeader (sum_of value) (λ sum. record h { sum = Some sum }))

-- only read where texts may be given as deltas
abbrev pub set_base_sum : Head → List ℕ → Result Head DumpFault
set_base_sum h value = if h.deltas then once h.base_sum (with_value BadHeader (sum_of value) (λ sum. record h { base_sum = Some sum })) else Ok h

-- `true` is refused where no text may be given as a delta, else kept for the empty line; any other value is ignored
abbrev pub set_text_delta : Head → List ℕ → Result Head DumpFault
set_text_delta h value = once h.text_delta (if same value (codes "true") && not h.deltas then Err TextDelta else Ok (record h { text_delta = Some (same value (codes "true")) }))

-- `true` is kept for the empty line, any other value is ignored
abbrev pub set_prop_delta : Head → List ℕ → Result Head DumpFault
set_prop_delta h value = once h.prop_delta (Ok (record h { prop_delta = Some (same value (codes "true")) }))

-- what a known header does
abbrev pub known_says : HeaderName → Head → List ℕ → Result Head DumpFault
known_says header.Identity h value = set_identity h value
known_says header.RevisionNumber h value = set_number h value
known_says header.NodePath h value = set_path h value
known_says header.NodeKind h value = set_kind h value
known_says header.NodeAction h value = set_action h value
known_says header.SourceRevision h value = set_source_revision h value
known_says header.SourcePath h value = set_source_path h value
known_says header.PropLength h value = set_prop_length h value
known_says header.TextLength h value = set_text_length h value
known_says header.ContentLength h value = set_content_length h value
known_says header.TextSum h value = set_sum h value
known_says header.TextDelta h value = set_text_delta h value
known_says header.BaseSum h value = set_base_sum h value
known_says header.PropDelta h value = set_prop_delta h value

-- what a whole line does, without its LF
abbrev pub header_says : Option HeaderName → Head → List ℕ → Result Head DumpFault
header_says None h value = Ok h
header_says (Some header) h value = known_says header h value

abbrev pub line_says : Head → List ℕ → Result Head DumpFault
line_says h line = elim (split_line line) [ None ↦ Err BadHeader | Some p ↦ header_says (known_name p.0) h p.1 ]

-- what a call did is this
abbrev pub HeadIs : Result (Unit {0}) DumpFault → Head → Result Head DumpFault → Type 0
HeadIs (Ok u) new said = said ≡ Ok new
HeadIs (Err OutOfMemory) new said = Unit {0}
HeadIs (Err f) new said = said ≡ Err f

abbrev pub LengthIs : Result ℕ DumpFault → Option ℕ → Option ℕ → Type 0
LengthIs (Ok n) old said = (old ≡ None) × (said ≡ Some n)
LengthIs (Err f) None said = (f ≡ BadNumber) × (said ≡ None)
LengthIs (Err f) (Some n) said = f ≡ BadHeader
