use Rattle.std.proofs.Common.{IfOk, subst, sym}
use Rattle.std.specs.Io.KnownBytes.{Appends}
use Rattle.ra_wire.specs.Answers.{reply_in}
use Rattle.ra_wire.specs.Params.{NotRead}
use Rattle.ra_reader.specs.Standings.{edit_judged}
use Rattle.ra_reader.proofs.take.judge.Goals as goal

pub returns-in-Err-BadShape : goal.returns-in-Err-BadShape
returns-in-Err-BadShape g c = subst (λ r. IfOk c.other_reply.result (λ w. Appends (g.W.Write.contents c.args.out) (g.W.Write.contents w) (edit_judged r))) (sym (subst (NotRead (reply_in c.args.item)) c.in-Err-BadShape.field-0-is c.in-Err-BadShape.ensures.none)) c.other_reply.ensures
