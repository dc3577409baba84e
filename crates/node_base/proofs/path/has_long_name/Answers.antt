use Rattle.std.proofs.Common.{◌≤◌, length, sym, arith}
use Rattle.node_base.proofs.TextLemmas.{short_pieces}
use Rattle.node_base.proofs.path.has_long_name.Goals as goal

pub returns-then-bytes-le-NAME_BYTES : goal.returns-then-bytes-le-NAME_BYTES
returns-then-bytes-le-NAME_BYTES c =
    let few : length c.args.bytes.now ≤ 255 = omega (arith, c.if-bytes-le-NAME_BYTES.true) in sym (short_pieces c.args.bytes.now few)
