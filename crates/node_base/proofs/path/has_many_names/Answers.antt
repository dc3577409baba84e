use Rattle.std.proofs.Common.{◌+◌, ◌≤◌, ◌<◌, length, inl, arith}
use Rattle.std.proofs.lemmas.Bool.Decides.{nat_tests}
use Rattle.node_base.specs.PathText.{pieces, pieces_left}
use Rattle.node_base.proofs.TextLemmas.{few_pieces}
use Rattle.node_base.proofs.path.has_many_names.Goals as goal

pub returns-else-bytes-ge-PATH_NAMES : goal.returns-else-bytes-ge-PATH_NAMES
returns-else-bytes-ge-PATH_NAMES c =
    let few : length (pieces c.args.bytes.now) ≤ length c.args.bytes.now + 1 = few_pieces c.args.bytes.now in
    let less : length c.args.bytes.now < 64 = c.if-bytes-ge-PATH_NAMES.false in
    grind (arith, nat_tests)

pub count-requires-clause-fits : goal.count-requires-clause-fits
count-requires-clause-fits c =
    let few : length (pieces_left c.of.result.rest) ≤ length c.args.bytes.now + 1 = rw c.of.ensures (few_pieces c.args.bytes.now) in inl (omega arith)
