use Rattle.std.proofs.Common.{ap, map, refl}
use Rattle.sync_core.specs.Copies.{outcome_of}
use Rattle.sync_core.specs.Deeds.{AsksIdentity}
use Rattle.sync_job.specs.Said.{Says, spoken}
use Rattle.sync_job.specs.SaidLists.{said_in}
use Rattle.sync_job.specs.Words.{calls_of, master_of, mirror_of}
use Rattle.sync_job.proofs.Telling.{asks_master, says_none}
use Rattle.sync_job.proofs.Questions.{answers_none, answers_question}
use Rattle.sync_job.specs.Questions.{Identity}
use Rattle.sync_job.proofs.ports.JobPorts.identity.Goals as goal

pub returns-then-is_err-clause-asked : goal.returns-then-is_err-clause-asked
returns-then-is_err-clause-asked g c = says_none g.N.MirrorPort.asked (mirror_of c.args.self.now) (mirror_of c.args.self.now) (calls_of c.args.self.now) _ refl (ap (map spoken) c.reserve.ensures.items)

pub returns-clause-asked : goal.returns-clause-asked
returns-clause-asked g c =
    asks_master g.N.MirrorPort.asked (mirror_of c.args.self.now) AsksIdentity _ (outcome_of c.identity_answer-answer.result) (said_in c.args.self.now.calls) (said_in c.reserve.new.self) (said_in c.push_reserved.new.self)
    tt (ap (λ a. Says AsksIdentity (outcome_of a)) c.of-said.ensures) c.identity_answer-answer.ensures.other c.reserve.ensures.items c.push_reserved.ensures.items

pub returns-then-is_err-clause-answered : goal.returns-then-is_err-clause-answered
returns-then-is_err-clause-answered g c = answers_none g.M.MasterPort.answered (master_of c.args.self.now) (master_of c.args.self.now) (calls_of c.args.self.now) _ refl (ap (map spoken) c.reserve.ensures.items)

pub returns-clause-answered : goal.returns-clause-answered
returns-clause-answered g c =
    answers_question g.M.MasterPort.answered (master_of c.args.self.now) (master_of c.args.self.now) c.identity.new.self (Identity c.identity.result) _ c.identity_answer-answer.result (said_in c.args.self.now.calls) (said_in c.reserve.new.self) (said_in c.push_reserved.new.self)
    refl c.identity.ensures.answered (ap (λ a. Says AsksIdentity (outcome_of a)) c.of-said.ensures) c.identity_answer-answer.ensures.told c.reserve.ensures.items c.push_reserved.ensures.items
