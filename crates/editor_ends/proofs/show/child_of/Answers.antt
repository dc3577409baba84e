use Rattle.std.proofs.Common.{subst, sym, ap, ◌∙◌, arith, ◌++◌, ◌∷◌, []}
use Rattle.std.proofs.lemmas.Option.{slice_get-get_or}
use Rattle.std.specs.Prelude.{Some, Err}
use Rattle.node_base.specs.Path.{rest_after}
use Rattle.node_base.specs.Limits.{fits}
use Rattle.node_base.specs.PathText.{child_of, Answers}
use Rattle.node_base.specs.declared.fault.PathFault.TheVariants as fault_of_path
use Rattle.editor_ends.proofs.Walks.{nothing_of_none, next_is, never_itself, later_first, child_read, never_refused, same_child}
use Rattle.editor_ends.proofs.show.child_of.Goals as goal

pub unreachable-requires : goal.unreachable-requires
unreachable-requires c =
    let x = c.index-set-next.result in
    let here = slice_get-get_or c.args.set.now c.args.next x (omega (arith, c.if-next-set.false)) ∙ ap Some (sym c.index-set-next.is) in
    let rest = (λ i. rest_after (sym c.names.ensures.names i) ((ap (λ x. x.path) c.index-set-next.is ∙ sym c.names-2.ensures.names) i)) ∙ c.in-Some.ensures in
    never_itself c.args.at.now x.path (rest ∙ ap Some (nothing_of_none c.in-Some.rest.now c.in_default-split_first.ensures.cases)) (later_first c.args.set.now c.args.next x c.args.at.now here c.requires.later)

pub unreachable-requires-in-Err-TooLong : goal.unreachable-requires-in-Err-TooLong
unreachable-requires-in-Err-TooLong c =
    let x = c.index-set-next.result in
    let n = c.in-Some-split_first.name.now in
    let rest = (λ i. rest_after (sym c.names.ensures.names i) ((ap (λ x. x.path) c.index-set-next.is ∙ sym c.names-2.ensures.names) i)) ∙ c.in-Some.ensures in
    never_refused (child_of c.args.at.now n) (c.args.at.now ++ n ∷ []) fault_of_path.TooLong (child_read c.args.at.now n c.in-Some.rest.now c.in-Some-split_first.field-0-1.now x.path rest c.in-Some-split_first.ensures.cases.0 (ap (λ x. fits x.path) c.index-set-next.is ∙ c.names-2.ensures.small)) (subst (λ f. Answers (child_of c.args.at.now n) (Err f)) c.in-Err-TooLong.field-0-is c.in-Err-TooLong.ensures)

pub unreachable-requires-in-Err-BadPath : goal.unreachable-requires-in-Err-BadPath
unreachable-requires-in-Err-BadPath c =
    let x = c.index-set-next.result in
    let n = c.in-Some-split_first.name.now in
    let rest = (λ i. rest_after (sym c.names.ensures.names i) ((ap (λ x. x.path) c.index-set-next.is ∙ sym c.names-2.ensures.names) i)) ∙ c.in-Some.ensures in
    never_refused (child_of c.args.at.now n) (c.args.at.now ++ n ∷ []) fault_of_path.BadPath (child_read c.args.at.now n c.in-Some.rest.now c.in-Some-split_first.field-0-1.now x.path rest c.in-Some-split_first.ensures.cases.0 (ap (λ x. fits x.path) c.index-set-next.is ∙ c.names-2.ensures.small)) (subst (λ f. Answers (child_of c.args.at.now n) (Err f)) c.in-Err-BadPath.field-0-is c.in-Err-BadPath.ensures)

pub returns-in-Ok-clause-next : goal.returns-in-Ok-clause-next
returns-in-Ok-clause-next c =
    let x = c.index-set-next.result in
    let n = c.in-Some-split_first.name.now in
    let here = slice_get-get_or c.args.set.now c.args.next x (omega (arith, c.if-next-set.false)) ∙ ap Some (sym c.index-set-next.is) in
    let rest = (λ i. rest_after (sym c.names.ensures.names i) ((ap (λ x. x.path) c.index-set-next.is ∙ sym c.names-2.ensures.names) i)) ∙ c.in-Some.ensures in
    let read = child_read c.args.at.now n c.in-Some.rest.now c.in-Some-split_first.field-0-1.now x.path rest c.in-Some-split_first.ensures.cases.0 (ap (λ x. fits x.path) c.index-set-next.is ∙ c.names-2.ensures.small) in
    next_is c.args.set.now c.args.next c.args.at.now c.in-Ok.path x n c.in-Some.rest.now c.in-Some-split_first.field-0-1.now here rest c.in-Some-split_first.ensures.cases.0
    (same_child (child_of c.args.at.now n) (c.args.at.now ++ n ∷ []) c.in-Ok.path read c.in-Ok.ensures)
