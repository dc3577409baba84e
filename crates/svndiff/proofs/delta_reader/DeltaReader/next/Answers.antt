use Rattle.svndiff.proofs.delta_reader.DeltaReader.next.Goals as goal

pub returns-in-Err-clause-refuses : goal.returns-in-Err-clause-refuses
returns-in-Err-clause-refuses c = λ _. rw c.self.view_is at c.in-Err.ensures.refuses
