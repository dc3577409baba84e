use Rattle.std.proofs.Common.{◌≡◌, ◌∙◌, ap, subst}
use Rattle.std.proofs.lemmas.Result.{on_ok_weaker}
use Rattle.byte_streams.specs.Sinks.{inner_of}
use Rattle.sockets.specs.Lines.{listening}
use Rattle.svn_server.proofs.Served.{served_told}
use Rattle.svn_server.proofs.serving.serve_opened.Goals as goal

pub returns-clause-told : goal.returns-clause-told
returns-clause-told g c =
    served_told g.O.Output.contents c.answer_of.result c.serve_store-disk.result.1 (listening c.args.address.now.port) c.args.output (inner_of c.begin-before.new.self) (inner_of c.serve_store-disk.new.output)
    c.may_have_failed-output.result.0 c.answer_of.ensures.ok c.serve_store-disk.ensures.told (c.begin-before.ensures.inner ∙ c.new-sink.ensures) c.may_have_failed-output.ensures.back

pub returns-clause-unfailed : goal.returns-clause-unfailed
returns-clause-unfailed g c =
    on_ok_weaker c.answer_of.result (λ none. c.may_have_failed-output.ensures.stood none ∙ c.begin-before.ensures.count ∙ ap g.O.Output.failures c.new-sink.ensures) c.answer_of.ensures.unfailed
