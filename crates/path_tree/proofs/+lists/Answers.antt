use Rattle.std.proofs.Common.{◌≡◌, ◌∷◌, ◌++◌, refl, sym, ap, ◌∙◌, arith}
use Rattle.std.proofs.lemmas.List.{take_all}
use Rattle.std.specs.FinMap.{entries, len}
use Rattle.path_tree.specs.Joined.{behind, below, under}
use Rattle.path_tree.specs.Listed.{shown, shown_names}
use Rattle.path_tree.specs.RowLemmas.{len-joined}
use Rattle.path_tree.specs.Rows.{in_row}
use Rattle.path_tree.proofs.Edits.{on_ok}
use Rattle.path_tree.proofs.Entries.{list_begin, list_of_child, list_of_row, names_pushed}
use Rattle.path_tree.proofs.+lists.Goals as goal

pub branch::Branch::list_into-list_row-requires : goal.branch::Branch::list_into-list_row-requires
branch::Branch::list_into-list_row-requires t c = omega (arith, len-joined c.self.inside.node (in_row c.self.inside.children) c.self.invariant, ap len c.self.view_is)

pub branch::Branch::list_into-returns-clause-listed : goal.branch::Branch::list_into-returns-clause-listed
branch::Branch::list_into-returns-clause-listed t c =
    on_ok c.list_row.result _ _
    (λ h.
    h
    ∙ list_begin (shown_names c.args.above.now.items) c.args.out.now.items c.self.inside.node (in_row c.self.inside.children) c.self.invariant c.args.self.now c.self.view_is _
    (ap shown_names (c.loop-name.invariant ∙ take_all _ _ c.loop-name-test.false ∙ c.deref-name-items.ensures.value)) refl c.push-2.new.self.items c.in_ok-push-2.ensures.items)
    c.list_row.ensures.listed

pub row::list_child-returns-clause-listed : goal.row::list_child-returns-clause-listed
row::list_child-returns-clause-listed t c =
    let p = shown_names c.args.above.now.items in
    let k = c.args.child.now in
    let pushed = names_pushed c.args.above.now.items c.push.new.self.items _ p k.0 c.in_ok-push.ensures.items refl c.name.ensures in
    list_of_child p (shown c.args.out.now.items) (shown c.list_into.new.out.items) k.0 k.1 (c.in_ok-list_into.ensures.listed ∙ (λ i. shown c.args.out.now.items ++ under (pushed i) (entries (c.branch-child.ensures i))))

pub row::list_row-returns-in_ok-list_child-in-Some-clause-listed : goal.row::list_row-returns-in_ok-list_child-in-Some-clause-listed
row::list_row-returns-in_ok-list_child-in-Some-clause-listed t c =
    let p = shown_names c.args.above.now.items in
    let w = c.twig.inside in
    let is : in_row w.before ++ w.child ∷ in_row w.behind ≡ in_row c.args.row.now = c.twig.view_is ∙ c.deref-twig.ensures ∙ ap in_row (sym c.in-Some.is) in
    let front = shown c.list_row.new.out.items in
    let middle = shown c.list_child.new.out.items in
    let names = c.in_ok-list_row-in-Some.ensures.above in
    let child = c.in_ok-list_child-in-Some.ensures.listed ∙ (λ i. front ++ under (names i) (behind w.child.0 (entries w.child.1))) in
    on_ok c.list_row-in-Some.result _ _
    (λ h.
    list_of_row p (shown c.args.out.now.items) front middle _ (in_row w.before) w.child (in_row w.behind) c.in_ok-list_row-in-Some.ensures.listed child (h ∙ ap (λ z. middle ++ under z (below (in_row w.behind))) (c.in_ok-list_child-in-Some.ensures.above ∙ names))
    ∙ ap (λ z. shown c.args.out.now.items ++ under p (below z)) is)
    c.list_row-in-Some.ensures.listed
