use Rattle.std.proofs.Common.{◌≡◌, ◌-◌, ◌∙◌, ◌++◌, ap, length, arith}
use Rattle.ra_log.proofs.Standing.{kind_parts, no_long_front, ok_same}
use Rattle.ra_log.proofs.kind.kind_before.Goals as goal

pub returns-in-Ok : goal.returns-in-Ok
returns-in-Ok c =
    let k : c.saturating_sub.result ≡ length c.names-names.result.now - 1 = omega arith in
    ok_same c.kind_from.result _ _ c.kind_from.ensures
    (kind_parts c.args.trees.now c.args.number c.args.set.now c.args.path.now c.names-names.result.now c.split_at.result.0.now c.split_at.result.1.now c.in-Ok.path c.saturating_sub.result
    c.names-names.ensures.names k c.split_at.ensures.front c.split_at.ensures.back
    (c.in-Ok.ensures.joined ∙ ap (λ r. r ++ c.split_at.result.0.now) c.root.ensures))

pub returns-in-Err-TooLong : goal.returns-in-Err-TooLong
returns-in-Err-TooLong c =
    absurd (no_long_front c.args.path.now c.names-names.result.now c.root.result c.split_at.result.0.now c.saturating_sub.result c.names-names.ensures.small c.names-names.ensures.names c.root.ensures c.split_at.ensures.front
    (c.in-Err-TooLong.ensures.refused c.in-Err-TooLong.field-0-is))
