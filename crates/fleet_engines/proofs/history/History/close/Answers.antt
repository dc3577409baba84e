use Rattle.std.proofs.Common.{[], ◌∷◌, ◌++◌, ◌∙◌, ap, sym, refl, inl, inr}
use Rattle.std.specs.Option.{option_map}
use Rattle.std.proofs.lemmas.Result.{err_from_is_err_and}
use Rattle.fleet_engines.specs.Histories.{rev_read, told_of}
use Rattle.fleet_engines.specs.Revisions.{is_zero, no_revision, revision_0, a_revision}
use Rattle.fleet_engines.proofs.history.History.close.Goals as goal

pub returns-then-is_zero-clause-closed : goal.returns-then-is_zero-clause-closed
returns-then-is_zero-clause-closed c =
    let r = rev_read c.in-Some.revision in
    revision_0 r (sym c.take.ensures.taken ∙ ap (option_map rev_read) c.in-Some.is)
    (ap (λ ts. is_zero ts r) (sym c.deref.ensures.value) ∙ sym c.is_zero.ensures ∙ c.if-is_zero.true)
    (ap (λ l. record (told_of c.args.self.now) { zero = c.in-Some.revision.props; last = l }) c.take.ensures.none)
    refl

pub returns-in_err-judged-clause-refused : goal.returns-in_err-judged-clause-refused
returns-in_err-judged-clause-refused c =
    let p = err_from_is_err_and c.from_residual.result c.from_residual.ensures.1 in
    let r = rev_read c.in-Some.revision in
    rw (p.1, p.2)
    (elim c.in_err-judged.ensures.refused [
      | inl m ↦ inl m
      | inr u ↦ inr (r, sym c.take.ensures.taken ∙ ap (option_map rev_read) c.in-Some.is, ap (λ ts. is_zero ts r) (sym c.deref.ensures.value) ∙ sym c.is_zero.ensures ∙ c.if-is_zero.false, u)
    ])

pub returns-clause-closed : goal.returns-clause-closed
returns-clause-closed c =
    let r = rev_read c.in-Some.revision in
    let m = c.in_ok-judged.ensures.made in
    a_revision r m.0 m.1 (sym c.take.ensures.taken ∙ ap (option_map rev_read) c.in-Some.is)
    (ap (λ ts. is_zero ts r) (sym c.deref.ensures.value) ∙ sym c.is_zero.ensures ∙ c.if-is_zero.false)
    m.2
    (m.4 ∙ ap (λ l. record (told_of c.args.self.now) { trees = c.args.self.now.trees.items ++ m.1 ∷ []; last = l }) c.take.ensures.none)
    (ap (λ x. x ∷ []) m.3)

pub returns-in_default-clause-closed : goal.returns-in_default-clause-closed
returns-in_default-clause-closed c =
    let none = sym c.take.ensures.taken ∙ ap (option_map rev_read) c.in_default.is in
    no_revision none (ap (λ l. record (told_of c.args.self.now) { last = l }) (c.take.ensures.none ∙ sym none)) refl
