use Rattle.std.proofs.Common.{◌≡◌, ℕ, ◌+◌, List, length, drop, string_bytes, sym, ap, subst, ◌∙◌, rules}
use Rattle.std.specs.Str.{trim}
use Rattle.std.specs.Str.Lines.{lines}
use Rattle.std.proofs.lemmas.Iterator.Splits.{YieldsList-from_lines}
use Rattle.std.proofs.lemmas.Iterator.Consumers.{YieldsList-turn, YieldsList-end}
use Rattle.std.proofs.lemmas.List.{length_push}
use Rattle.command_words.specs.Lines.{HasNoLineFeed, is_some_text}
use Rattle.command_words.proofs.Lines.{go_on, spaced, some_line, no_line, joined_is, at_line, at_end, empty_is, some_is, spaced_some, spaced_none, spaced_lacks, line_lacks, trim_lacks}
use Rattle.command_words.proofs.command_line.joined_lines.Goals as goal
use Rattle.command_words.proofs.command_line.joined_lines.Goals.{then-not-is_empty+in_ok-push, else-not-is_empty}

pub returns-then-is_empty-clause-joined : goal.returns-then-is_empty-clause-joined
returns-then-is_empty-clause-joined c =
    let ls : List (List ℕ) = lines c.args.text.now in
    let t = YieldsList-turn (YieldsList-from_lines c.args.text.now cc) c.loop-line.yielded _ c.loop-line.yielded_by _ _ c.in-Some.line c.in-Some.is c.next.ensures.steps in
    let none : is_some_text (trim c.in-Some.line.now) ≡ _ = ap is_some_text (sym c.trim-line.ensures.trim) ∙ empty_is c.trim-line.result.now (search rules) in
    sym (c.loop-line.invariant.2 ∙ at_line trim (string_bytes c.loop-line.joined) ls (length c.loop-line.yielded) c.in-Some.line.now t ∙ no_line trim (string_bytes c.loop-line.joined) c.in-Some.line.now (drop (length c.loop-line.yielded + 1) ls) none)
    ∙ joined_is trim ls

now_spaced : (c : goal.In_ok-push_str) → string_bytes c.push_str.new.self ≡ spaced (string_bytes c.loop-line.joined) c.trim-line.result.now
now_spaced c = elim c.if-not-is_empty.branch [
  | then-not-is_empty+in_ok-push w ↦ spaced_some (string_bytes c.loop-line.joined) (string_bytes c.if-not-is_empty.joined) c.trim-line.result.now (string_bytes c.push_str.new.self) (some_is _ (search rules)) (search rules) (search rules)
  | else-not-is_empty w ↦ spaced_none (string_bytes c.loop-line.joined) (string_bytes c.if-not-is_empty.joined) c.trim-line.result.now (string_bytes c.push_str.new.self) (empty_is _ (search rules)) (search rules) (search rules)
]

pub loop-line-preserved : goal.loop-line-preserved
loop-line-preserved c =
    let ls : List (List ℕ) = lines c.args.text.now in
    let n : ℕ = length c.loop-line.yielded in
    let done : List ℕ = string_bytes c.loop-line.joined in
    let t = YieldsList-turn (YieldsList-from_lines c.args.text.now cc) c.loop-line.yielded _ c.loop-line.yielded_by _ _ c.in-Some.line c.in-Some.is c.next.ensures.steps in
    let some : is_some_text (trim c.in-Some.line.now) ≡ _ = ap is_some_text (sym c.trim-line.ensures.trim) ∙ some_is c.trim-line.result.now (search rules) in
    let seen : spaced done (trim c.in-Some.line.now) ≡ string_bytes c.push_str.new.self = ap (spaced done) (sym c.trim-line.ensures.trim) ∙ sym (now_spaced c) in (
      tt,
      tt,
      c.loop-line.invariant.2 ∙ at_line trim done ls n c.in-Some.line.now t ∙ some_line trim done c.in-Some.line.now (drop (n + 1) ls) some
          ∙ ap (λ d. go_on trim d (drop (n + 1) ls)) seen ∙ ap (λ k. go_on trim (string_bytes c.push_str.new.self) (drop k ls)) (sym (length_push c.loop-line.yielded c.in-Some.line)),
      subst HasNoLineFeed (sym (now_spaced c)) (spaced_lacks done c.trim-line.result.now c.loop-line.invariant.3
          (trim_lacks c.in-Some.line.now c.trim-line.result.now c.trim-line.ensures.value (line_lacks _ c.in-Some.line.now _ c.in-Some.ensures.steps.0.2))),
    )

pub returns-clause-joined : goal.returns-clause-joined
returns-clause-joined c =
    let ls : List (List ℕ) = lines c.args.text.now in
    let t = YieldsList-end (YieldsList-from_lines c.args.text.now cc) c.loop-line.yielded _ c.loop-line.yielded_by _ _ c.in-None.is c.next.ensures.steps in
    sym (c.loop-line.invariant.2 ∙ at_end trim (string_bytes c.loop-line.joined) ls (length c.loop-line.yielded) t.1) ∙ joined_is trim ls
