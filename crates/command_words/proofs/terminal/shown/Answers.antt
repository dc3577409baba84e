use Rattle.std.proofs.Common.{◌≡◌, ◌++◌, ◌∙◌, subst, sym, ap, string_bytes, encode_utf8_all, IsUtf8, append_assoc, append-nil}
use Rattle.std.specs.Str.Iter.{chars_rest}
use Rattle.std.proofs.lemmas.Str.{IsUtf8-past_char, IsUtf8-string_bytes}
use Rattle.command_words.specs.Terminal.{HasNoControl, shown, shown_char}
use Rattle.command_words.proofs.Showing.{shown_past, shown_nothing, shown_is_free, free_is_one, no_more}
use Rattle.command_words.proofs.terminal.shown.Goals as goal

same_rest : (c : goal.After-into_iter-c-iterator) → chars_rest c.into_iter-c-iterator.result ≡ c.args.text.now
same_rest c = ap chars_rest c.into_iter-c-iterator.ensures.into_iter_gives ∙ c.chars-c-items.ensures.rest

pub loop-c-init : goal.loop-c-init
loop-c-init c = (
  tt,
  tt,
  subst IsUtf8 (sym (same_rest c)) c.utf8.text,
  ap shown (sym (same_rest c)) ∙ ap (λ bs. bs ++ shown (chars_rest c.into_iter-c-iterator.result)) (sym c.new-shown.ensures.bytes),
)

pub loop-c-preserved : goal.loop-c-preserved
loop-c-preserved c =
    let rest = chars_rest c.next.new.self in
    let steps = c.in-Some.ensures.steps.0 in
    let utf8 = c.loop-c.invariant.2 in (
      tt,
      tt,
      IsUtf8-past_char (chars_rest c.loop-c.c-iterator) rest c.in-Some.c utf8 steps,
      c.loop-c.invariant.3 ∙ ap (λ bs. string_bytes c.loop-c.shown ++ bs) (shown_past (chars_rest c.loop-c.c-iterator) rest c.in-Some.c utf8 steps)
          ∙ sym (append_assoc (string_bytes c.loop-c.shown) (encode_utf8_all (shown_char c.in-Some.c)) (shown rest)) ∙ ap (λ bs. bs ++ shown rest) (sym c.in_ok-push_shown.ensures),
    )

whole : (c : goal.In-None) → shown c.args.text.now ≡ string_bytes c.loop-c.shown
whole c = c.loop-c.invariant.3 ∙ ap (λ bs. string_bytes c.loop-c.shown ++ bs) (shown_nothing (chars_rest c.loop-c.c-iterator) (no_more _ c.in-None.ensures.steps.0.0)) ∙ append-nil (string_bytes c.loop-c.shown)

pub returns-clause-text : goal.returns-clause-text
returns-clause-text c = sym (whole c)

pub returns-clause-clean : goal.returns-clause-clean
returns-clause-clean c = subst HasNoControl (whole c) (shown_is_free c.args.text.now c.utf8.text)

pub returns-clause-one : goal.returns-clause-one
returns-clause-one c = free_is_one (string_bytes c.loop-c.shown) (IsUtf8-string_bytes c.loop-c.shown) (returns-clause-clean c)
