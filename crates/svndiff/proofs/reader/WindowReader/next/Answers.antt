use Rattle.std.proofs.Common.{◌∙◌}
use Rattle.svndiff.proofs.Runs.{refused_at}
use Rattle.svndiff.proofs.reader.WindowReader.next.Goals as goal

pub returns-in-Err : goal.returns-in-Err
returns-in-Err c = record {
  reads = λ _. tt;
  pieces = λ _. tt;
  on = tt;
  refuses = λ h text. c.loop-at.invariant.1 text ∙ refused_at text c.loop-at.self c.in-Err.fault c.args.piece.now c.loop-at.at c.loop-at-test.true (rw c.self-in-loop-at.view_is at c.in-Err.ensures);
  failed = λ h. cc;
  later = c.spent-self-inside-in-Err.ensures;
}
