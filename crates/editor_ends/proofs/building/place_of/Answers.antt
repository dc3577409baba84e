use Rattle.std.proofs.Common.{rules, of_calls}
use Rattle.std.proofs.lemmas.Fn.{always_returns_same}
use Rattle.node_base.specs.Path.{path_cmp}
use Rattle.dump_load.specs.declared.change.Change.{Change}
use Rattle.editor_ends.proofs.Places.{placed}
use Rattle.editor_ends.proofs.building.place_of.Goals as goal

pub returns-clause-placed : goal.returns-clause-placed
returns-clause-placed c = λ normal.
    let facts = c.binary_search_by.ensures in
    placed c.args.changes.now c.args.path.now c.binary_search_by.result facts.bound (facts.position (λ (a : Change). path_cmp a.path c.args.path.now) (always_returns_same _ _ _ (λ a r f k. search (rules, of_calls)))) normal
