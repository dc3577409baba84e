use Rattle.std.proofs.Common.{◌≡◌, map, drop}
use Rattle.std.specs.List.{list_any}
use Rattle.ra_client.specs.Said.{is_anonymous}
use Rattle.ra_client.proofs.answer.has_anonymous.Given as goal

abbrev pub invariant-loop-name : goal.invariant-loop-name
invariant-loop-name l = list_any is_anonymous (map (λ w. w.items) l.names) ≡ list_any is_anonymous (map (λ w. w.items) (drop l.name-index l.names))
