use Rattle.std.proofs.Common.{rules, ◌≡◌}
use Rattle.browse_wire.proofs.url.SessionUrl.path_of.Goals as goal

pub returns-else-eq : goal.returns-else-eq
returns-else-eq c =
    let differ = c.if-eq.false in
    let compared = c.eq.ensures in
    let one = c.as_slice.ensures.value in
    let other = c.as_slice-2.ensures.value in
    (c.in_ok-other.other.root.items, c.in_ok-other.other.path, c.in_ok-other.ensures.read, λ same. search (rules, same, differ, compared, one, other))
