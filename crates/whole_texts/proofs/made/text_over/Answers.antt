use Rattle.std.proofs.Common.{subst}
use Rattle.std.proofs.lemmas.Result.{IfErr-weaker}
use Rattle.svndiff.specs.DeltaGrammar.{IsDelta}
use Rattle.whole_texts.specs.Making.{MakesNone, HasOtherSum, CantMake, NoDelta, OtherText}
use Rattle.whole_texts.specs.Refusals.{UnlessMemory}
use Rattle.whole_texts.proofs.Takes.{unless}
use Rattle.whole_texts.proofs.made.text_over.Goals as goal

pub returns-in-Ok-clause-refused : goal.returns-in-Ok-clause-refused
returns-in-Ok-clause-refused c =
    let d = c.args.delta.now in
    let b = c.args.base.now in
    let text = c.in-Ok.bytes.items in
    let made : IsDelta d.bytes b text = subst (λ x. IsDelta d.bytes x text) c.as_slice.ensures (subst (λ x. IsDelta x c.as_slice.result.now text) c.as_slice-2.ensures c.in-Ok.ensures.made) in
    IfErr-weaker c.summed.result (UnlessMemory (HasOtherSum d.sum text)) (UnlessMemory (CantMake d b)) (unless (HasOtherSum d.sum text) (CantMake d b) (λ e h. OtherText text (c.is_sum.ensures.is c.if-not-is_sum.false) made h)) c.summed.ensures.refused

pub returns-in-Err-clause-refused : goal.returns-in-Err-clause-refused
returns-in-Err-clause-refused c =
    let d = c.args.delta.now in
    let b = c.args.base.now in
    unless (MakesNone d.bytes b) (CantMake d b) (λ e h. NoDelta (c.is_sum.ensures.is c.if-not-is_sum.false) h) c.in-Err.fault
    (subst (λ x. UnlessMemory (MakesNone d.bytes x) c.in-Err.fault) c.as_slice.ensures (subst (λ x. UnlessMemory (MakesNone x c.as_slice.result.now) c.in-Err.fault) c.as_slice-2.ensures c.in-Err.ensures.refused))
