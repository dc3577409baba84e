use Rattle.std.proofs.Common.{◌≡◌, ◌∷◌, ◌++◌, length, sym, ap, ◌∙◌, arith, length-append}
use Rattle.node_base.specs.Path.{name_cmp}
use Rattle.path_tree.specs.Rows.{in_row}
use Rattle.path_tree.proofs.Rows.{if_ok_same, row_rises_before, row_rises_behind, row_without_before, row_without_here, row_without_behind}
use Rattle.path_tree.proofs.row.+without_sought.Goals as goal

pub without_sought-requires : goal.without_sought-requires
without_sought-requires t c =
    let w = c.twig.inside in
    let is : in_row w.before ++ w.child ∷ in_row w.behind ≡ in_row c.args.row.now = c.twig.view_is ∙ c.deref-twig.ensures ∙ ap in_row (sym c.in-Some.is) in (
      omega (arith, ap length is, length-append (in_row w.before) (w.child ∷ in_row w.behind)),
      row_rises_before _ (in_row w.before) w.child (in_row w.behind) is c.requires,
    )

pub without_sought-requires-in-Greater : goal.without_sought-requires-in-Greater
without_sought-requires-in-Greater t c =
    let w = c.twig.inside in
    let is : in_row w.before ++ w.child ∷ in_row w.behind ≡ in_row c.args.row.now = c.twig.view_is ∙ c.deref-twig.ensures ∙ ap in_row (sym c.in-Some.is) in (
      omega (arith, ap length is, length-append (in_row w.before) (w.child ∷ in_row w.behind)),
      row_rises_behind _ (in_row w.before) w.child (in_row w.behind) is c.requires,
    )

pub returns-in_ok-shared-in-Less : goal.returns-in_ok-shared-in-Less
returns-in_ok-shared-in-Less t c =
    let w = c.twig.inside in
    let is : in_row w.before ++ w.child ∷ in_row w.behind ≡ in_row c.args.row.now = c.twig.view_is ∙ c.deref-twig.ensures ∙ ap in_row (sym c.in-Some.is) in
    let x = c.args.name.now in
    let e : name_cmp x w.child.0 ≡ _ = sym c.compare.ensures ∙ c.in-Less.is in
    if_ok_same c.balanced.result in_row _ _ (row_without_before _ (in_row w.before) w.child (in_row w.behind) is c.requires x _ _ _ e c.in_ok-before-in-Less.ensures c.in_ok-here-in-Less.ensures c.in_ok-shared-in-Less.ensures) c.balanced.ensures

pub returns-in-Equal : goal.returns-in-Equal
returns-in-Equal t c =
    let w = c.twig.inside in
    let is : in_row w.before ++ w.child ∷ in_row w.behind ≡ in_row c.args.row.now = c.twig.view_is ∙ c.deref-twig.ensures ∙ ap in_row (sym c.in-Some.is) in
    let x = c.args.name.now in
    let e : name_cmp x w.child.0 ≡ _ = sym c.compare.ensures ∙ c.in-Equal.is in
    if_ok_same c.both.result in_row _ _ (row_without_here _ (in_row w.before) w.child (in_row w.behind) is c.requires x e) c.both.ensures

pub returns-in_ok-shared-in-Greater : goal.returns-in_ok-shared-in-Greater
returns-in_ok-shared-in-Greater t c =
    let w = c.twig.inside in
    let is : in_row w.before ++ w.child ∷ in_row w.behind ≡ in_row c.args.row.now = c.twig.view_is ∙ c.deref-twig.ensures ∙ ap in_row (sym c.in-Some.is) in
    let x = c.args.name.now in
    let e : name_cmp x w.child.0 ≡ _ = sym c.compare.ensures ∙ c.in-Greater.is in
    if_ok_same c.balanced-in-Greater.result in_row _ _ (row_without_behind _ (in_row w.before) w.child (in_row w.behind) is c.requires x _ _ _ e c.in_ok-shared-in-Greater.ensures c.in_ok-here-in-Greater.ensures c.in_ok-behind-in-Greater.ensures) c.balanced-in-Greater.ensures
