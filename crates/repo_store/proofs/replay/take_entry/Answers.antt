use Rattle.std.proofs.Common.{rules, arith, List, length, ap, ◌∙◌}
use Rattle.std.proofs.lemmas.List.{nil_from_length}
use Rattle.dump_load.specs.declared.change.Change.{Change}
use Rattle.repo_core.specs.Refusals.{by_repository}
use Rattle.repo_core.specs.declared.entry.Entry.TheVariants.{Revised}
use Rattle.repo_store.proofs.Replaying.{map_if, set_if, some_nodes}
use Rattle.repo_store.proofs.Taking.{map_stands, never_above, set_stands}
use Rattle.repo_store.proofs.replay.take_entry.Goals as goal

pub returns-then-is_empty-clause-taken : goal.returns-then-is_empty-clause-taken
returns-then-is_empty-clause-taken c = map_if c.take_map.result c.args.bytes.now c.in_ok-number.field-0 c.args.repo.now c.take_map.new.repo c.in_ok-number.ensures.read (search (rules, nil_from_length c.in_ok-number.nodes.items (search rules))) (search rules) c.take_map.ensures.accepted c.take_map.ensures.taken

pub returns-clause-taken : goal.returns-clause-taken
returns-clause-taken c = set_if c.take_set.result c.args.bytes.now c.in_ok-number.field-0 c.in_ok-set.set c.args.repo.now c.take_set.new.repo c.in_ok-number.ensures.read c.in_ok-set.ensures.set c.in_ok-set.ensures.bounded (search rules) c.take_set.ensures.accepted c.take_set.ensures.taken

pub returns-then-is_empty-clause-bad : goal.returns-then-is_empty-clause-bad
returns-then-is_empty-clause-bad c is e spells takes =
    c.take_map.ensures.bad is (map_stands c.dumps_are_read.ensures c.args.bytes.now e c.in_ok-number.field-0 c.args.repo.now.revisions spells c.in_ok-number.ensures.read takes (search rules)).1

pub returns-then-index-next-clause-bad : goal.returns-then-index-next-clause-bad
returns-then-index-next-clause-bad c is e spells takes =
    let none = (map_stands c.dumps_are_read.ensures c.args.bytes.now e c.in_ok-number.field-0 c.args.repo.now.revisions spells c.in_ok-number.ensures.read takes (search rules)).0 in
    some_nodes _ c.if-is_empty.ensures (omega (arith, c.in_ok-number.field-0.nodes.ok.0, ap length none))

pub returns-then-index-next-2-clause-bad : goal.returns-then-index-next-2-clause-bad
returns-then-index-next-2-clause-bad c is e spells takes =
    never_above c.dumps_are_read.ensures c.args.bytes.now e c.in_ok-number.field-0 c.args.repo.now.revisions spells c.in_ok-number.ensures.read takes (search rules)

pub returns-in_err-set-clause-bad : goal.returns-in_err-set-clause-bad
returns-in_err-set-clause-bad c is e spells takes =
    let all = set_stands c.dumps_are_read.ensures c.args.bytes.now e c.in_ok-number.field-0 c.args.repo.now.revisions spells c.in_ok-number.ensures.read takes (search rules) in
    c.in_err-set.ensures.bad (search rules) all.0

pub returns-clause-bad : goal.returns-clause-bad
returns-clause-bad c is e spells takes =
    let all = set_stands c.dumps_are_read.ensures c.args.bytes.now e c.in_ok-number.field-0 c.args.repo.now.revisions spells c.in_ok-number.ensures.read takes (search rules) in
    c.take_set.ensures.bad is (ap (λ (s : List Change). by_repository c.args.repo.now.revisions (Revised (length c.args.repo.now.revisions) s c.in_ok-number.field-0.props)) c.in_ok-set.ensures.set ∙ all.1)
