-- A header line brings no more bytes of paths than it has.
use Rattle.std.proofs.Common.{◌≡◌, ℕ, suc, ◌==◌, ◌&&◌, not, ◌+◌, ◌≤◌, Bool, true, false, List, [], ◌∷◌, length, Option, Some, None, Ok, Err, Result, refl, ap, arith}
use Rattle.std.specs.Bool.{if◌then◌else◌}
use Rattle.std.specs.Prelude.{option_map, codes}
use Rattle.node_base.specs.Path.{Path}
use Rattle.node_base.specs.Numbers.{decimal, rev_read}
use Rattle.node_base.specs.PathText.{path_text, path_read}
use Rattle.node_base.proofs.ReadBack.{spells_of_read}
use Rattle.dump_text.specs.Headers.{same, split_line, split_after, name_more, known_name, dump_path, path_said, without_slash, kind_of, action_of, identity_of, sum_of}
use Rattle.dump_text.specs.Heads.{once, with_value, with_path, known_says, header_says, line_says}
use Rattle.dump_text.specs.Streams.{path_bytes}
use Rattle.dump_text.specs.declared.fault.DumpFault.{DumpFault}
use Rattle.dump_text.specs.declared.fault.DumpFault.TheVariants.{BadHeader, BadNumber, TextDelta}
use Rattle.dump_text.specs.declared.header.HeaderName.{HeaderName}
use Rattle.dump_text.specs.declared.header.HeaderName.TheVariants as header
use Rattle.dump_text.specs.declared.head.Head.{Head}

abbrev pub paths : Head → ℕ
paths h = path_bytes h.path + path_bytes h.source_path

-- ---- a value is a part of its line

split_short : (b : ℕ) (bs : List ℕ) (p : List ℕ × List ℕ) → split_after b bs ≡ Some p → length p.1 ≤ length bs
split_short b [] p e = cc
split_short b (c ∷ cs) p e =
    elim (b == 58 && c == 32) as (λ t. (if t then Some ([], cs) else option_map (name_more b) (split_after c cs)) ≡ Some p → length p.1 ≤ suc (length cs)) [
      | true ↦ λ e. let is : cs ≡ p.1 = cc in omega (arith, ap length is)
      | false ↦ λ e. behind_first (split_after c cs) refl e (λ q is. split_short c cs q is)
    ] e
  where
    behind_first : (o : Option (List ℕ × List ℕ)) → split_after c cs ≡ o → option_map (name_more b) o ≡ Some p → ((q : List ℕ × List ℕ) → split_after c cs ≡ Some q → length q.1 ≤ length cs) → length p.1 ≤ suc (length cs)
    behind_first None is e short = cc
    behind_first (Some q) is e short =
        let tail : q.1 ≡ p.1 = cc in
        omega (arith, ap length tail, short q is)

value_short : (line : List ℕ) (p : List ℕ × List ℕ) → split_line line ≡ Some p → length p.1 ≤ length line
value_short [] p e = cc
value_short (b ∷ bs) p e = omega (arith, split_short b bs p e)

-- ---- a path is spelled by its value

no_longer : (value : List ℕ) → length (without_slash value) ≤ length value
no_longer [] = omega arith
no_longer (b ∷ bs) = elim (b == 47) as (λ t. length (if t then bs else b ∷ bs) ≤ suc (length bs)) [ true ↦ omega arith | false ↦ omega arith ]

path_short : (value : List ℕ) (p : Path) → dump_path value ≡ Ok p → length (path_text p) ≤ length value
path_short value p e =
    elim (path_read (without_slash value)) as (λ r. path_read (without_slash value) ≡ r → path_said r ≡ Ok p → length (path_text p) ≤ length value) [
      | Ok q ↦ λ is e.
          let spelled = spells_of_read (without_slash value) q is in
          let told : q ≡ p = cc in
          omega (arith, no_longer value, ap length spelled.text, ap (λ x. length (path_text x)) told)
      | Err f ↦ λ is e. cc
    ] refl e

-- ---- what a line says

once_is : {A : Type 0} (o : Option A) (said : Result Head DumpFault) (new : Head) → once o said ≡ Ok new → (o ≡ None) × (said ≡ Ok new)
once_is None said new e = (refl, e)
once_is (Some a) said new e = cc

valued : {A : Type 0} (f : DumpFault) (o : Option A) (put : A → Head) (n : ℕ) (new : Head) → ((a : A) → paths (put a) ≤ n) → with_value f o put ≡ Ok new → paths new ≤ n
valued f None put n new h e = cc
valued f (Some a) put n new h e =
    let is : put a ≡ new = cc in
    omega (arith, h a, ap paths is)

spelled_path : (r : Result Path DumpFault) (put : Path → Head) (n : ℕ) (new : Head) → ((p : Path) → r ≡ Ok p → paths (put p) ≤ n) → with_path r put ≡ Ok new → paths new ≤ n
spelled_path (Err f) put n new h e = cc
spelled_path (Ok p) put n new h e =
    let is : put p ≡ new = cc in
    omega (arith, h p refl, ap paths is)

is_put : (put new : Head) (n : ℕ) → paths put ≤ n → ◌≡◌ {A = Result Head DumpFault} (Ok put) (Ok new) → paths new ≤ n
is_put put new n h e =
    let is : put ≡ new = cc in
    omega (arith, h, ap paths is)

known_bytes : (name : HeaderName) (h : Head) (value : List ℕ) (new : Head) → known_says name h value ≡ Ok new → paths new ≤ paths h + length value
known_bytes header.Identity h value new e = valued BadHeader (identity_of value) _ _ new (λ a. omega arith) (once_is h.identity _ new e).1
known_bytes header.RevisionNumber h value new e = valued BadNumber (rev_read value) _ _ new (λ a. omega arith) (once_is h.number _ new e).1
known_bytes header.NodePath h value new e =
    let o = once_is h.path _ new e in
    spelled_path (dump_path value) _ _ new (λ p is. omega (arith, path_short value p is)) o.1
known_bytes header.NodeKind h value new e = valued BadHeader (kind_of value) _ _ new (λ a. omega arith) (once_is h.kind _ new e).1
known_bytes header.NodeAction h value new e = valued BadHeader (action_of value) _ _ new (λ a. omega arith) (once_is h.action _ new e).1
known_bytes header.SourceRevision h value new e = valued BadNumber (rev_read value) _ _ new (λ a. omega arith) (once_is h.source_revision _ new e).1
known_bytes header.SourcePath h value new e =
    let o = once_is h.source_path _ new e in
    spelled_path (dump_path value) _ _ new (λ p is. omega (arith, path_short value p is)) o.1
known_bytes header.PropLength h value new e = valued BadNumber (decimal value) _ _ new (λ a. omega arith) (once_is h.prop_len _ new e).1
known_bytes header.TextLength h value new e = valued BadNumber (decimal value) _ _ new (λ a. omega arith) (once_is h.text_len _ new e).1
known_bytes header.ContentLength h value new e = valued BadNumber (decimal value) _ _ new (λ a. omega arith) (once_is h.content_len _ new e).1
known_bytes header.TextSum h value new e = valued BadHeader (sum_of value) _ _ new (λ a. omega arith) (once_is h.sum _ new e).1
known_bytes header.TextDelta h value new e = text_delta (same value (codes "true") && not h.deltas) (same value (codes "true")) (once_is h.text_delta _ new e).1
  where
    text_delta : (refused given : Bool) → (if refused then Err TextDelta else Ok (record h { text_delta = Some given })) ≡ Ok new → paths new ≤ paths h + length value
    text_delta true given e = cc
    text_delta false given e = is_put (record h { text_delta = Some given }) new _ (omega arith) e
known_bytes header.BaseSum h value new e = base_sum h.deltas e
  where
    base_sum : (b : Bool) → (if b then once h.base_sum (with_value BadHeader (sum_of value) (λ sum. record h { base_sum = Some sum })) else Ok h) ≡ Ok new → paths new ≤ paths h + length value
    base_sum true e = valued BadHeader (sum_of value) (λ sum. record h { base_sum = Some sum }) _ new (λ a. omega arith) (once_is h.base_sum _ new e).1
    base_sum false e = is_put h new _ (omega arith) e
known_bytes header.PropDelta h value new e = is_put (record h { prop_delta = Some (same value (codes "true")) }) new _ (omega arith) (once_is h.prop_delta _ new e).1

header_bytes : (name : Option HeaderName) (h : Head) (value : List ℕ) (new : Head) → header_says name h value ≡ Ok new → paths new ≤ paths h + length value
header_bytes None h value new e = is_put h new _ (omega arith) e
header_bytes (Some name) h value new e = known_bytes name h value new e

pub line_bytes : (h : Head) (line : List ℕ) (new : Head) → line_says h line ≡ Ok new → paths new ≤ paths h + length line
line_bytes h line new e =
    elim (split_line line) as (λ o. split_line line ≡ o → elim o as (λ _. Result Head DumpFault) [ None ↦ Err BadHeader | Some p ↦ header_says (known_name p.0) h p.1 ] ≡ Ok new → paths new ≤ paths h + length line) [
      | None ↦ λ is e. cc
      | Some p ↦ λ is e. omega (arith, value_short line p is, header_bytes (known_name p.0) h p.1 new e)
    ] refl e
