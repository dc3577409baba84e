use Rattle.ra_reader.proofs.Laws.{stays}
use Rattle.ra_reader.proofs.law.only_reparent_leads.Goals as goal

pub returns : goal.returns
returns c = λ s t h. stays s.at s.phase t.item t.added h
