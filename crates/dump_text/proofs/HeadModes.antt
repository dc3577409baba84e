-- No header changes whether texts may be given as deltas.
use Rattle.std.proofs.Common.{◌≡◌, ◌&&◌, not, Bool, true, false, List, ℕ, [], ◌∷◌, Option, Some, None, Ok, Err, Result, refl, subst, sym, ap, ◌∙◌}
use Rattle.std.specs.Bool.{if◌then◌else◌}
use Rattle.std.specs.Prelude.{codes}
use Rattle.node_base.specs.Path.{Path}
use Rattle.node_base.specs.Numbers.{decimal, rev_read}
use Rattle.dump_text.specs.Headers.{same, split_line, known_name, dump_path, kind_of, action_of, identity_of, sum_of}
use Rattle.dump_text.specs.Heads.{once, with_value, with_path, known_says, header_says, line_says}
use Rattle.dump_text.specs.Grammar.{HeadOf}
use Rattle.dump_text.specs.declared.fault.DumpFault.{DumpFault}
use Rattle.dump_text.specs.declared.fault.DumpFault.TheVariants.{BadHeader, BadNumber, TextDelta}
use Rattle.dump_text.specs.declared.header.HeaderName.{HeaderName}
use Rattle.dump_text.specs.declared.header.HeaderName.TheVariants as header
use Rattle.dump_text.specs.declared.head.Head.{Head}

-- what comes of a line is of this mode, or refused
abbrev Stays : Bool → Result Head DumpFault → Type 0
Stays deltas (Ok h) = h.deltas ≡ deltas
Stays deltas (Err f) = Unit {0}

once_stays : {A : Type 0} (deltas : Bool) (o : Option A) (what : Result Head DumpFault) → Stays deltas what → Stays deltas (once o what)
once_stays deltas None what h = h
once_stays deltas (Some a) what h = tt

value_stays : {A : Type 0} (deltas : Bool) (f : DumpFault) (o : Option A) (put : A → Head) → ((a : A) → (put a).deltas ≡ deltas) → Stays deltas (with_value f o put)
value_stays deltas f None put h = tt
value_stays deltas f (Some a) put h = h a

path_stays : (deltas : Bool) (r : Result Path DumpFault) (put : Path → Head) → ((p : Path) → (put p).deltas ≡ deltas) → Stays deltas (with_path r put)
path_stays deltas (Ok p) put h = h p
path_stays deltas (Err f) put h = tt

known_stays : (name : HeaderName) (h : Head) (value : List ℕ) → Stays h.deltas (known_says name h value)
known_stays header.Identity h value = once_stays h.deltas h.identity _ (value_stays h.deltas BadHeader (identity_of value) _ (λ a. refl))
known_stays header.RevisionNumber h value = once_stays h.deltas h.number _ (value_stays h.deltas BadNumber (rev_read value) _ (λ a. refl))
known_stays header.NodePath h value = once_stays h.deltas h.path _ (path_stays h.deltas (dump_path value) _ (λ p. refl))
known_stays header.NodeKind h value = once_stays h.deltas h.kind _ (value_stays h.deltas BadHeader (kind_of value) _ (λ a. refl))
known_stays header.NodeAction h value = once_stays h.deltas h.action _ (value_stays h.deltas BadHeader (action_of value) _ (λ a. refl))
known_stays header.SourceRevision h value = once_stays h.deltas h.source_revision _ (value_stays h.deltas BadNumber (rev_read value) _ (λ a. refl))
known_stays header.SourcePath h value = once_stays h.deltas h.source_path _ (path_stays h.deltas (dump_path value) _ (λ p. refl))
known_stays header.PropLength h value = once_stays h.deltas h.prop_len _ (value_stays h.deltas BadNumber (decimal value) _ (λ a. refl))
known_stays header.TextLength h value = once_stays h.deltas h.text_len _ (value_stays h.deltas BadNumber (decimal value) _ (λ a. refl))
known_stays header.ContentLength h value = once_stays h.deltas h.content_len _ (value_stays h.deltas BadNumber (decimal value) _ (λ a. refl))
known_stays header.TextSum h value = once_stays h.deltas h.sum _ (value_stays h.deltas BadHeader (sum_of value) _ (λ a. refl))
known_stays header.TextDelta h value =
    once_stays h.deltas h.text_delta _
    (elim (same value (codes "true") && not h.deltas) as (λ b. Stays h.deltas (if b then Err TextDelta else Ok (record h { text_delta = Some (same value (codes "true")) }))) [
      | true ↦ tt
      | false ↦ refl
    ])
known_stays header.BaseSum h value =
    elim h.deltas as (λ b. Stays h.deltas (if b then once h.base_sum (with_value BadHeader (sum_of value) (λ sum. record h { base_sum = Some sum })) else Ok h)) [
      | true ↦ once_stays h.deltas h.base_sum _ (value_stays h.deltas BadHeader (sum_of value) (λ sum. record h { base_sum = Some sum }) (λ a. refl))
      | false ↦ refl
    ]
known_stays header.PropDelta h value = once_stays h.deltas h.prop_delta _ refl

header_stays : (name : Option HeaderName) (h : Head) (value : List ℕ) → Stays h.deltas (header_says name h value)
header_stays None h value = refl
header_stays (Some name) h value = known_stays name h value

line_stays : (h : Head) (line : List ℕ) → Stays h.deltas (line_says h line)
line_stays h line =
    elim (split_line line) as (λ o. Stays h.deltas (elim o as (λ _. Result Head DumpFault) [ None ↦ Err BadHeader | Some p ↦ header_says (known_name p.0) h p.1 ])) [
      | None ↦ tt
      | Some p ↦ header_stays (known_name p.0) h p.1
    ]

line_mode : (h : Head) (line : List ℕ) (next : Head) → line_says h line ≡ Ok next → next.deltas ≡ h.deltas
line_mode h line next e = subst (Stays h.deltas) e (line_stays h line)

-- header lines leave the mode
pub heads_mode : (h : Head) (lines : List (List ℕ)) (last : Head) → HeadOf h lines last → last.deltas ≡ h.deltas
heads_mode h [] last e = ap (λ (x : Head). x.deltas) (sym e)
heads_mode h (l ∷ ls) last (lone, some, short, next, says, headers) = heads_mode next ls last headers ∙ line_mode h l next says
