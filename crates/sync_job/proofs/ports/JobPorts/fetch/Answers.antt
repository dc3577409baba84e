use Rattle.std.proofs.Common.{ap, inl, map, refl, subst, sym, take, ◌≡◌, ◌∙◌}
use Rattle.sync_core.specs.declared.answer.Answer.TheVariants as answer
use Rattle.sync_core.specs.declared.fault.SyncFault.TheVariants as fault
use Rattle.sync_core.specs.Copies.{outcome_of}
use Rattle.sync_core.specs.Deeds.{Fetches}
use Rattle.std.proofs.lemmas.List.{take-append-le}
use Rattle.sync_job.specs.Made.{MakesOf}
use Rattle.sync_job.specs.Masters.{IsTrue}
use Rattle.sync_job.specs.Said.{Says, spoken}
use Rattle.sync_job.specs.SaidLists.{said_in}
use Rattle.sync_job.specs.Words.{calls_of, master_of, mirror_of}
use Rattle.sync_job.specs.Worlds.{Refuses, IsAsked, IsAnswered}
use Rattle.sync_job.proofs.Made.{made_by}
use Rattle.sync_job.proofs.Telling.{asks_master, says_none, says_on}
use Rattle.sync_job.proofs.Worlds.{unasked, refusal_answers, leaves, asks}
use Rattle.sync_job.proofs.Questions.{answers_none, answers_on, answers_question}
use Rattle.sync_job.specs.Questions.{Fetch}
use Rattle.sync_job.proofs.ports.JobPorts.fetch.Goals as goal

pub returns-then-is_err-clause-happens : goal.returns-then-is_err-clause-happens
returns-then-is_err-clause-happens g c =
    record {
      master = unasked g.M.MasterPort.is_at (master_of c.args.self.now) c.fill.new.self.master c.fill.new.trees.items (Fetches c.args.number) (answer.Refused fault.OutOfMemory) c.fill.ensures.master (refusal_answers c.fill.new.trees.items (Fetches c.args.number) fault.OutOfMemory);
      mirror = leaves (g.N.MirrorPort.stands (mirror_of c.args.self.now)) (g.N.MirrorPort.stands c.fill.new.self.mirror) (g.N.MirrorPort.seat (mirror_of c.args.self.now)) (Fetches c.args.number) (answer.Refused fault.OutOfMemory) c.args.trees.now.items c.fill.new.trees.items (λ m. Refuses fault.OutOfMemory refl refl) refl refl c.fill.ensures.trees.there;
      seat = c.fill.ensures.trees.seat;
    }

pub returns-in-Some-clause-happens : goal.returns-in-Some-clause-happens
returns-in-Some-clause-happens g c =
    let r = c.in-Some.ensures.trees.refused in
    record {
      master = unasked g.M.MasterPort.is_at (master_of c.args.self.now) c.fill.new.self.master c.fill.new.trees.items (Fetches c.args.number) c.in-Some.refusal c.fill.ensures.master
          (λ o. subst (λ a. IsAnswered c.fill.new.trees.items (Fetches c.args.number) a o) (sym r.1) (refusal_answers c.fill.new.trees.items (Fetches c.args.number) r.0 o));
      mirror = leaves (g.N.MirrorPort.stands (mirror_of c.args.self.now)) (g.N.MirrorPort.stands c.fill.new.self.mirror) (g.N.MirrorPort.seat (mirror_of c.args.self.now)) (Fetches c.args.number) c.in-Some.refusal c.args.trees.now.items c.fill.new.trees.items (λ m. Refuses r.0 r.1 refl) refl refl c.fill.ensures.trees.there;
      seat = c.fill.ensures.trees.seat;
    }

pub returns-clause-happens : goal.returns-clause-happens
returns-clause-happens g c =
    let sliced : take c.index.result c.as_slice.result.now ≡ take c.args.number c.fill.new.trees.items = λ i. take (c.index.ensures.number i) (c.as_slice.ensures.value i) in
    record {
      master = subst (λ x. IsTrue (g.M.MasterPort.is_at x) (g.M.MasterPort.is_at c.fetch.new.self) (IsAnswered c.fill.new.trees.items (Fetches c.args.number) c.revision_answer-answer.result.0)) c.fill.ensures.master
          (asks (g.M.MasterPort.is_at c.fill.new.self.master) (g.M.MasterPort.is_at c.fetch.new.self) c.fill.new.trees.items (Fetches c.args.number) c.revision_answer-answer.result.0 c.revision_answer-answer.result.0 c.fetch.ensures.set
          (λ o h f. c.revision_answer-answer.ensures.at o (h (sym (ap (λ ts. take c.args.number ts) f.1) ∙ take-append-le c.args.number c.fill.new.trees.items f.0 (c.fill.ensures.many c.in_default.is) ∙ sym sliced)))
          (inl refl));
      mirror = leaves (g.N.MirrorPort.stands (mirror_of c.args.self.now)) (g.N.MirrorPort.stands c.fill.new.self.mirror) (g.N.MirrorPort.seat (mirror_of c.args.self.now)) (Fetches c.args.number) c.revision_answer-answer.result.0 c.args.trees.now.items c.fill.new.trees.items (λ m. IsAsked tt refl) refl refl c.fill.ensures.trees.there;
      seat = c.fill.ensures.trees.seat;
    }

pub returns-then-is_err-clause-asked : goal.returns-then-is_err-clause-asked
returns-then-is_err-clause-asked g c =
    says_on g.N.MirrorPort.asked (mirror_of c.args.self.now) c.fill.new.self.mirror c.fill.new.self.mirror (calls_of c.args.self.now) (calls_of c.fill.new.self) _
    c.fill.ensures.asked (says_none g.N.MirrorPort.asked c.fill.new.self.mirror c.fill.new.self.mirror (calls_of c.fill.new.self) _ refl (ap (map spoken) c.reserve.ensures.items))

pub returns-clause-asked : goal.returns-clause-asked
returns-clause-asked g c =
    says_on g.N.MirrorPort.asked (mirror_of c.args.self.now) c.fill.new.self.mirror c.fill.new.self.mirror (calls_of c.args.self.now) (calls_of c.fill.new.self) _
    c.fill.ensures.asked
    (asks_master g.N.MirrorPort.asked c.fill.new.self.mirror (Fetches c.args.number) _ (outcome_of c.revision_answer-answer.result.0) (said_in c.fill.new.self.calls) (said_in c.reserve.new.self) (said_in c.push_reserved.new.self)
    tt (ap (λ a. Says (Fetches c.args.number) (outcome_of a)) c.of-said.ensures) c.revision_answer-answer.ensures.other c.reserve.ensures.items c.push_reserved.ensures.items)

pub returns-clause-kept : goal.returns-clause-kept
returns-clause-kept g c =
    made_by c.fill.new.trees.items c.args.number c.revision_answer-answer.result.0 c.revision_answer-answer.result.0 c.revision_answer-answer.result.1
    (c.fill.ensures.many c.in_default.is)
    (subst (λ ts. MakesOf ts c.revision_answer-answer.result.0 c.revision_answer-answer.result.1) (λ i. take (c.index.ensures.number i) (c.as_slice.ensures.value i)) (c.revision_answer-answer.ensures.tree _ c.fetch.ensures.tree))
    (inl refl)

pub returns-then-is_err-clause-answered : goal.returns-then-is_err-clause-answered
returns-then-is_err-clause-answered g c =
    answers_on g.M.MasterPort.answered (master_of c.args.self.now) c.fill.new.self.master c.fill.new.self.master (calls_of c.args.self.now) (calls_of c.fill.new.self) _
    c.fill.ensures.answered (answers_none g.M.MasterPort.answered c.fill.new.self.master c.fill.new.self.master (calls_of c.fill.new.self) _ refl (ap (map spoken) c.reserve.ensures.items))

pub returns-clause-answered : goal.returns-clause-answered
returns-clause-answered g c =
    answers_on g.M.MasterPort.answered (master_of c.args.self.now) c.fill.new.self.master c.fetch.new.self (calls_of c.args.self.now) (calls_of c.fill.new.self) _
    c.fill.ensures.answered
    (answers_question g.M.MasterPort.answered c.fill.new.self.master c.fill.new.self.master c.fetch.new.self (Fetch c.args.number (take c.index.result c.as_slice.result.now) c.fetch.result) _ c.revision_answer-answer.result.0 (said_in c.fill.new.self.calls) (said_in c.reserve.new.self) (said_in c.push_reserved.new.self)
    refl c.fetch.ensures.answered (ap (λ a. Says (Fetches c.args.number) (outcome_of a)) c.of-said.ensures) (c.revision_answer-answer.ensures.told (take c.index.result c.as_slice.result.now)) c.reserve.ensures.items c.push_reserved.ensures.items)
