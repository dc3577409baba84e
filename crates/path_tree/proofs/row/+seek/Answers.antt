use Rattle.std.proofs.Common.{◌≡◌, ◌∷◌, ◌++◌, length, MatchOption, None, Some, sym, ap, subst, ◌∙◌, arith, length-append}
use Rattle.node_base.specs.Path.{name_cmp}
use Rattle.path_tree.specs.Rows.{in_row}
use Rattle.path_tree.proofs.Rows.{row_rises_before, row_rises_behind, row_find_before, row_find_here, row_find_behind}
use Rattle.path_tree.proofs.row.+seek.Goals as goal

pub seek-requires : goal.seek-requires
seek-requires t c =
    let w = c.twig.inside in
    let is : in_row w.before ++ w.child ∷ in_row w.behind ≡ in_row c.args.row.now = c.twig.view_is ∙ c.deref-twig.ensures ∙ ap in_row (sym c.in-Some.is) in (
      omega (arith, ap length is, length-append (in_row w.before) (w.child ∷ in_row w.behind)),
      row_rises_before _ (in_row w.before) w.child (in_row w.behind) is c.requires,
    )

pub seek-requires-in-Greater : goal.seek-requires-in-Greater
seek-requires-in-Greater t c =
    let w = c.twig.inside in
    let is : in_row w.before ++ w.child ∷ in_row w.behind ≡ in_row c.args.row.now = c.twig.view_is ∙ c.deref-twig.ensures ∙ ap in_row (sym c.in-Some.is) in (
      omega (arith, ap length is, length-append (in_row w.before) (w.child ∷ in_row w.behind)),
      row_rises_behind _ (in_row w.before) w.child (in_row w.behind) is c.requires,
    )

pub returns-in-Less : goal.returns-in-Less
returns-in-Less t c =
    let w = c.twig.inside in
    let is : in_row w.before ++ w.child ∷ in_row w.behind ≡ in_row c.args.row.now = c.twig.view_is ∙ c.deref-twig.ensures ∙ ap in_row (sym c.in-Some.is) in
    let x = c.args.name.now in
    let e : name_cmp x w.child.0 ≡ _ = sym c.compare.ensures ∙ c.in-Less.is in
    subst (λ o. MatchOption c.seek.result (o ≡ None) (λ b. o ≡ Some b.now)) (row_find_before _ (in_row w.before) w.child (in_row w.behind) is c.requires x e) c.seek.ensures

pub returns-in-Equal : goal.returns-in-Equal
returns-in-Equal t c =
    let w = c.twig.inside in
    let is : in_row w.before ++ w.child ∷ in_row w.behind ≡ in_row c.args.row.now = c.twig.view_is ∙ c.deref-twig.ensures ∙ ap in_row (sym c.in-Some.is) in
    let x = c.args.name.now in
    let e : name_cmp x w.child.0 ≡ _ = sym c.compare.ensures ∙ c.in-Equal.is in
    row_find_here _ (in_row w.before) w.child (in_row w.behind) is c.requires x e ∙ ap Some (sym c.branch-twig.ensures)

pub returns-in-Greater : goal.returns-in-Greater
returns-in-Greater t c =
    let w = c.twig.inside in
    let is : in_row w.before ++ w.child ∷ in_row w.behind ≡ in_row c.args.row.now = c.twig.view_is ∙ c.deref-twig.ensures ∙ ap in_row (sym c.in-Some.is) in
    let x = c.args.name.now in
    let e : name_cmp x w.child.0 ≡ _ = sym c.compare.ensures ∙ c.in-Greater.is in
    subst (λ o. MatchOption c.seek-in-Greater.result (o ≡ None) (λ b. o ≡ Some b.now)) (row_find_behind _ (in_row w.before) w.child (in_row w.behind) is c.requires x e) c.seek-in-Greater.ensures
