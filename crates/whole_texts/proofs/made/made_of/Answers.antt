use Rattle.std.proofs.Common.{◌≡◌, length, sym, ap, ◌∙◌, rules, arith}
use Rattle.std.proofs.lemmas.Grind.{common_steps}
use Rattle.std.proofs.lemmas.List.{nil_from_length}
use Rattle.svndiff.specs.DeltaReading.{is_failed}
use Rattle.svndiff.specs.DeltaStreams.{reading, Reads}
use Rattle.svndiff.specs.declared.delta_fault.DeltaFault.TheVariants.{Failed}
use Rattle.whole_texts.proofs.Deltas.{ended, unended, refused, same_fault}
use Rattle.whole_texts.proofs.made.made_of.Goals as goal

pub returns-in-Err-clause-refused : goal.returns-in-Err-clause-refused
returns-in-Err-clause-refused c =
    let l = c.loop-rest in
    let f = c.in-Err.fault in
    rw c.of_delta.ensures
    (refused c.args.base.now c.args.bytes.now l.rest.now l.text.items l.reader.delta f (is_failed l.reader.delta.window) (λ _. is_failed l.reader.delta.window) l.invariant c.in-Err.ensures.refuses (λ e. same_fault c.next.result f Failed c.in-Err.is (c.next.ensures.failed e)) (λ e. search rules))

pub returns-then-not-is_ended-clause-refused : goal.returns-then-not-is_ended-clause-refused
returns-then-not-is_ended-clause-refused c =
    let l = c.loop-rest in
    let d = l.reader.delta in
    let b = c.args.base.now in
    let none : length l.rest.now ≡ 0 = first_of (search rules, grind (arith, common_steps)) in
    unended c.args.bytes.now b l.text.items d (sym c.is_ended.ensures ∙ c.if-not-is_ended.true) (l.invariant ∙ ap (reading b (Reads l.text.items d)) (nil_from_length l.rest.now none))

pub returns-clause-made : goal.returns-clause-made
returns-clause-made c =
    let l = c.loop-rest in
    let d = l.reader.delta in
    let b = c.args.base.now in
    let none : length l.rest.now ≡ 0 = first_of (search rules, grind (arith, common_steps)) in
    ended c.args.bytes.now b l.text.items d (sym c.is_ended.ensures ∙ c.if-not-is_ended.false) (l.invariant ∙ ap (reading b (Reads l.text.items d)) (nil_from_length l.rest.now none))
