use Rattle.std.proofs.Common.{◌≡◌, true, ap, sym, ◌∙◌}
use Rattle.dump_text.specs.Streams.{is_between}
use Rattle.dump_text.proofs.Converse.{read_is_some_dump}
use Rattle.dump_text.proofs.reader.DumpReader.finish.Goals as goal

pub returns-then-is_between-clause-dump : goal.returns-then-is_between-clause-dump
returns-then-is_between-clause-dump c =
    let ends : is_between c.args.self ≡ true = ap is_between (sym c.self.view_is) ∙ sym c.is_between.ensures ∙ c.if-is_between.true in
    λ deltas bytes rs e. read_is_some_dump deltas bytes rs c.args.self e ends
