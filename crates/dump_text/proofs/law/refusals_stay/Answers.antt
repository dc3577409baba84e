use Rattle.std.proofs.Common.{◌∙◌, ap, []}
use Rattle.dump_text.specs.Streams.{reading, Reads, fresh_by}
use Rattle.dump_text.proofs.StreamRuns.{reading-append, reading-refused}
use Rattle.dump_text.proofs.law.refusals_stay.Goals as goal

pub returns : goal.returns
returns c = λ deltas bytes more rs f e. reading-append (Reads [] (fresh_by deltas)) bytes more ∙ ap (λ s. reading s more) e ∙ reading-refused rs f more
