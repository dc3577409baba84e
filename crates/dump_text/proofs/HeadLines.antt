-- The header lines that are written of a node.
use Rattle.std.proofs.Common.{◌≡◌, ℕ, ◌≤◌, ◌<◌, ◌^◌, true, false, List, [], ◌∷◌, ◌++◌, length, Option, Some, None, Ok, refl, sym, ap, ◌∙◌, append_assoc, length-append, arith}
use Rattle.std.specs.Prelude.{codes}
use Rattle.std.specs.Fmt.{decimal as printed}
use Rattle.hex.specs.Hex.{encode_lower}
use Rattle.md5.specs.Md5.{md5}
use Rattle.node_base.specs.Path.{Path}
use Rattle.node_base.specs.PathText.{path_text, is_path}
use Rattle.node_base.specs.declared.node.Action.{Action}
use Rattle.node_base.specs.declared.node.Action.TheVariants.{Modify, Add, Delete, Replace}
use Rattle.node_base.specs.declared.node.NodeKind.{NodeKind}
use Rattle.node_base.specs.declared.node.NodeKind.TheVariants.{File, Dir}
use Rattle.dump_text.specs.Heads.{line_says, no_head, with_value}
use Rattle.dump_text.specs.Streams.{NoLf}
use Rattle.dump_text.specs.Canon.{header_line, kind_line, action_word}
use Rattle.dump_text.specs.Grammar.{lines_of, HeadOf}
use Rattle.dump_text.specs.declared.fault.DumpFault.TheVariants.{BadHeader}
use Rattle.dump_text.specs.declared.head.Head.{Head}
use Rattle.dump_text.proofs.CanonRead.{lone_of, lone_append, number_line, short_line, printed_read, le_true}
use Rattle.dump_text.proofs.PathLines.{lone_path, short_path, path_back}
use Rattle.dump_text.proofs.SumLines.{lone_hex, sum_read, sum_length}

-- text that is header lines, from a head to another
pub record Lines (h : Head) (text : List ℕ) (last : Head) : Type 0 where
  pub lines : List (List ℕ)
  pub spelled : text ≡ lines_of lines
  pub headers : HeadOf h lines last

-- text that begins with header lines
pub record Leads (h : Head) (text rest : List ℕ) (last : Head) : Type 0 where
  pub lines : List (List ℕ)
  pub spelled : text ≡ lines_of lines ++ rest
  pub headers : HeadOf h lines last

lines-append : (a b : List (List ℕ)) → lines_of (a ++ b) ≡ lines_of a ++ lines_of b
lines-append [] b = refl
lines-append (l ∷ ls) b = ap (λ x. l ++ 10 ∷ x) (lines-append ls b) ∙ sym (append_assoc l (10 ∷ lines_of ls) (lines_of b))

head-append : (h mid last : Head) (a b : List (List ℕ)) → HeadOf h a mid → HeadOf mid b last → HeadOf h (a ++ b) last
head-append h mid last [] b e f = rw e f
head-append h mid last (l ∷ ls) b (lone, some, short, next, says, headers) f = (lone, some, short, next, says, head-append next mid last ls b headers f)

pub none : (h : Head) → Lines h [] h
none h = record { lines = []; spelled = refl; headers = refl }

pub one : (h next : Head) (name value : List ℕ) → NoLf (name ++ value) → 0 < length name → length (name ++ value) ≤ 4096 → line_says h (name ++ value) ≡ Ok next → Lines h (header_line name value) next
one h next name value lone some short says =
    record { lines = (name ++ value) ∷ []; spelled = sym (append_assoc name value (10 ∷ [])); headers = (lone, omega (arith, length-append name value), short, next, says, refl) }

pub joined : (h mid last : Head) (a b : List ℕ) → Lines h a mid → Lines mid b last → Lines h (a ++ b) last
joined h mid last a b x y =
    record { lines = x.lines ++ y.lines; spelled = rw (x.spelled, y.spelled) (sym (lines-append x.lines y.lines)); headers = head-append h mid last x.lines y.lines x.headers y.headers }

pub led : (h : Head) (rest : List ℕ) → Leads h rest rest h
led h rest = record { lines = []; spelled = refl; headers = refl }

pub ahead : (h mid last : Head) (a text rest : List ℕ) → Lines h a mid → Leads mid text rest last → Leads h (a ++ text) rest last
ahead h mid last a text rest x y =
    record {
      lines = x.lines ++ y.lines;
      spelled = rw (x.spelled, y.spelled) (sym (append_assoc (lines_of x.lines) (lines_of y.lines) rest)) ∙ ap (λ t. t ++ rest) (sym (lines-append x.lines y.lines));
      headers = head-append h mid last x.lines y.lines x.headers y.headers;
    }

-- the head of a node, field by field in the order of its lines
abbrev pub node_head : Option Path → Option NodeKind → Option Action → Option ℕ → Option Path → Option ℕ → Option ℕ → Option (List ℕ) → Option ℕ → Head
node_head path kind action rev from prop text sum content = record (no_head false) { path = path; kind = kind; action = action; source_revision = rev; source_path = from; prop_len = prop; text_len = text; sum = sum; content_len = content }

short : (name value : List ℕ) → length name ≤ 100 → length value ≤ 1024 → length (name ++ value) ≤ 4096
short name value a b = omega (arith, length-append name value)

path_says : (p : Path) → is_path p ≡ true → line_says (no_head false) (codes "Node-path: " ++ path_text p) ≡ Ok (node_head (Some p) None None None None None None None None)
path_says p e = rw (path_back p e) refl

pub path_lines : (p : Path) → is_path p ≡ true → Lines (no_head false) (header_line (codes "Node-path: ") (path_text p)) (node_head (Some p) None None None None None None None None)
path_lines p e =
    let name = codes "Node-path: " in
    one (no_head false) _ name (path_text p) (lone_append name (path_text p) (lone_of name refl) (lone_path p e)) (omega arith) (short name (path_text p) (omega arith) (short_path p e)) (path_says p e)

pub kind_lines : (p : Path) (kind : Option NodeKind) → Lines (node_head (Some p) None None None None None None None None) (kind_line kind) (node_head (Some p) kind None None None None None None None)
kind_lines p None = none _
kind_lines p (Some File) = one _ _ (codes "Node-kind: ") (codes "file") (lone_of (codes "Node-kind: file") refl) (omega arith) (omega arith) refl
kind_lines p (Some Dir) = one _ _ (codes "Node-kind: ") (codes "dir") (lone_of (codes "Node-kind: dir") refl) (omega arith) (omega arith) refl

pub action_lines : (p : Path) (kind : Option NodeKind) (action : Action) → Lines (node_head (Some p) kind None None None None None None None) (header_line (codes "Node-action: ") (action_word action)) (node_head (Some p) kind (Some action) None None None None None None)
action_lines p kind Modify = one _ _ (codes "Node-action: ") (codes "change") (lone_of (codes "Node-action: change") refl) (omega arith) (omega arith) refl
action_lines p kind Add = one _ _ (codes "Node-action: ") (codes "add") (lone_of (codes "Node-action: add") refl) (omega arith) (omega arith) refl
action_lines p kind Delete = one _ _ (codes "Node-action: ") (codes "delete") (lone_of (codes "Node-action: delete") refl) (omega arith) (omega arith) refl
action_lines p kind Replace = one _ _ (codes "Node-action: ") (codes "replace") (lone_of (codes "Node-action: replace") refl) (omega arith) (omega arith) refl

-- the lines that follow the action
module _ (p : Path) (kind : Option NodeKind) (action : Action) where
  from_says : (n : ℕ) → n ≤ 65535 → line_says (node_head (Some p) kind (Some action) None None None None None None) (codes "Node-copyfrom-rev: " ++ printed n) ≡ Ok (node_head (Some p) kind (Some action) (Some n) None None None None None)
  from_says n h = rw (printed_read n (omega arith), le_true n 65535 h) refl

  from_path_says : (n : ℕ) (q : Path) → is_path q ≡ true → line_says (node_head (Some p) kind (Some action) (Some n) None None None None None) (codes "Node-copyfrom-path: " ++ path_text q) ≡ Ok (node_head (Some p) kind (Some action) (Some n) (Some q) None None None None)
  from_path_says n q e = rw (path_back q e) refl

  pub from_lines : (n : ℕ) (q : Path) → n ≤ 65535 → is_path q ≡ true → Lines (node_head (Some p) kind (Some action) None None None None None None) (header_line (codes "Node-copyfrom-rev: ") (printed n) ++ header_line (codes "Node-copyfrom-path: ") (path_text q)) (node_head (Some p) kind (Some action) (Some n) (Some q) None None None None)
  from_lines n q h e =
      let rev = codes "Node-copyfrom-rev: " in
      let path = codes "Node-copyfrom-path: " in
      joined _ (node_head (Some p) kind (Some action) (Some n) None None None None None) _ _ _
      (one _ _ rev (printed n) (number_line rev n (omega arith) refl) (omega arith) (short_line rev n (omega arith) (omega arith)) (from_says n h))
      (one _ _ path (path_text q) (lone_append path (path_text q) (lone_of path refl) (lone_path q e)) (omega arith) (short path (path_text q) (omega arith) (short_path q e)) (from_path_says n q e))

  module _ (rev : Option ℕ) (from : Option Path) where
    block_says : (n : ℕ) → n < 2 ^ 64 → line_says (node_head (Some p) kind (Some action) rev from None None None None) (codes "Prop-content-length: " ++ printed n) ≡ Ok (node_head (Some p) kind (Some action) rev from (Some n) None None None)
    block_says n h = rw (printed_read n h) refl

    pub block_lines : (n : ℕ) → n < 2 ^ 64 → Lines (node_head (Some p) kind (Some action) rev from None None None None) (header_line (codes "Prop-content-length: ") (printed n)) (node_head (Some p) kind (Some action) rev from (Some n) None None None)
    block_lines n h =
        let name = codes "Prop-content-length: " in
        one _ _ name (printed n) (number_line name n h refl) (omega arith) (short_line name n h (omega arith)) (block_says n h)

    text_says : (prop : Option ℕ) (n : ℕ) → n < 2 ^ 64 → line_says (node_head (Some p) kind (Some action) rev from prop None None None) (codes "Text-content-length: " ++ printed n) ≡ Ok (node_head (Some p) kind (Some action) rev from prop (Some n) None None)
    text_says prop n h = rw (printed_read n h) refl

    sum_says : (prop : Option ℕ) (n : ℕ) (text : List ℕ) → line_says (node_head (Some p) kind (Some action) rev from prop (Some n) None None) (codes "Text-content-md5: " ++ encode_lower (md5 text)) ≡ Ok (node_head (Some p) kind (Some action) rev from prop (Some n) (Some (md5 text)) None)
    sum_says prop n text = ap (λ o. with_value BadHeader o (λ s. node_head (Some p) kind (Some action) rev from prop (Some n) (Some s) None)) (sum_read text)

    pub text_lines_are : (prop : Option ℕ) (text : List ℕ) → length text < 2 ^ 64 → Lines (node_head (Some p) kind (Some action) rev from prop None None None) (header_line (codes "Text-content-length: ") (printed (length text)) ++ header_line (codes "Text-content-md5: ") (encode_lower (md5 text))) (node_head (Some p) kind (Some action) rev from prop (Some (length text)) (Some (md5 text)) None)
    text_lines_are prop text h =
        let name = codes "Text-content-length: " in
        let sum = codes "Text-content-md5: " in
        let digits = encode_lower (md5 text) in
        joined _ (node_head (Some p) kind (Some action) rev from prop (Some (length text)) None None) _ _ _
        (one _ _ name (printed (length text)) (number_line name (length text) h refl) (omega arith) (short_line name (length text) h (omega arith)) (text_says prop (length text) h))
        (one _ _ sum digits (lone_append sum digits (lone_of sum refl) (lone_hex (md5 text))) (omega arith) (short sum digits (omega arith) (omega (arith, sum_length text))) (sum_says prop (length text) text))

    content_says : (prop text : Option ℕ) (sum : Option (List ℕ)) (n : ℕ) → n < 2 ^ 64 → line_says (node_head (Some p) kind (Some action) rev from prop text sum None) (codes "Content-length: " ++ printed n) ≡ Ok (node_head (Some p) kind (Some action) rev from prop text sum (Some n))
    content_says prop text sum n h = rw (printed_read n h) refl

    pub content_lines : (prop text : Option ℕ) (sum : Option (List ℕ)) (n : ℕ) → n < 2 ^ 64 → Lines (node_head (Some p) kind (Some action) rev from prop text sum None) (header_line (codes "Content-length: ") (printed n)) (node_head (Some p) kind (Some action) rev from prop text sum (Some n))
    content_lines prop text sum n h =
        let name = codes "Content-length: " in
        one _ _ name (printed n) (number_line name n h refl) (omega arith) (short_line name n h (omega arith)) (content_says prop text sum n h)
