use Rattle.std.proofs.Common.{List}
use Rattle.std.proofs.lemmas.Result.{IfErr-weaker}
use Rattle.dump_text.specs.declared.record.NodeRecord.{NodeRecord}
use Rattle.whole_texts.specs.Making.{CantMake}
use Rattle.whole_texts.specs.Refusals.{UnlessMemory}
use Rattle.whole_texts.specs.Settled.{Knows}
use Rattle.whole_texts.specs.Whole.{IsUnmade}
use Rattle.whole_texts.proofs.Takes.{no_text}
use Rattle.whole_texts.proofs.make.text_made.Goals as goal

pub returns-in-Ok-clause-refused : goal.returns-in-Ok-clause-refused
returns-in-Ok-clause-refused c =
    let t = c.args.trees.now in
    let r = c.args.stated.now in
    let d = c.args.delta.now in
    let b = c.in-Ok.base in
    IfErr-weaker c.text_over.result (UnlessMemory (CantMake d b)) (λ e. (rs : List NodeRecord) → Knows c.args.settled.now rs → UnlessMemory (IsUnmade t rs r d) e) (λ e h rs known. no_text t rs r d b (c.in-Ok.ensures rs known) e h) c.text_over.ensures.refused
